-- Upstream's blanks are ours, save that they take the whole text where ours are refused: `W1` and each long comment are led over (`Leads`), and
-- a comment that is not closed is the last.
use Rattle.std.specs.Prelude.{◌≡◌, refl, Bool, true, false, List, [], ◌∷◌, ℕ, zero, suc, ◌+◌, ◌-◌, ◌≤◌, length, drop}
use Rattle.std.proofs.Common.{sym, ◌∙◌, arith, le_refl, one-add, length-drop, drop-drop, drop_of_length-le}
use Rattle.std.proofs.Math.Option.{Option, none, some}
use Rattle.std.proofs.Math.Path.{ap}
use Rattle.lexing.specs.Bytes.{is_space, not_newline, run, starts_with}
use Rattle.lexing.specs.Blanks as ours
use Rattle.lexing.specs.Blanks.{Blanks, passed, unclosed, further, blank, long_comment, or_else, comment, position_after_end_of_long_comment}
use Rattle.lexing.specs.Refused.{Leads, here, later}
use Rattle.lexing.specs.RunLaws.{pick-case, pick-cases, run-case}
use Rattle.lexing.specs.BlankLaws.{reach, reach-further, position-inside, W-inside, W-none, W-unclosed}
use Rattle.lexing.specs.TokenLaws.{starts_with-true, starts_with-inside}
use Rattle.lexing.specs.Upstream.{and_then, rep_from, rep, WS, newline, line, W1, long, W, to_end}
use Rattle.lexing.proofs.Refusals.{blank-comment, W-led}

-- ---- where blanks lead

-- upstream's blanks by ours
abbrev Ours : List ℕ → ℕ
Ours s = to_end (length s) (ours.W s)

leads-inside : (s : List ℕ) (n : ℕ) → Leads s n → n ≤ length s
leads-inside s n l = omega (arith, W-inside s, ap reach (W-led l), reach-further n (ours.W (drop n s)))

to_end-further : (n l : ℕ) (r : Blanks) → n ≤ l → to_end l (further n r) ≡ n + to_end (l - n) r
to_end-further n l (passed k) h = refl
to_end-further n l (unclosed place) h = omega arith

-- past blanks upstream's go on
led : (s : List ℕ) (n : ℕ) → Leads s n → Ours s ≡ n + Ours (drop n s)
led s n l =
    ap (to_end (length s)) (W-led l) ∙ to_end-further n (length s) (ours.W (drop n s)) (leads-inside s n l)
    ∙ ap (λ m. n + to_end m (ours.W (drop n s))) (sym (length-drop n s))

-- and on from where they lead
leads-append : {s : List ℕ} {n : ℕ} (m : ℕ) → Leads s n → Leads (drop n s) m → Leads s (n + m)
leads-append {s} m here t = let h : 0 + m ≡ m = omega arith in rw h t
leads-append {s} m (later {k} {p} e l) t =
    let h : suc k + (p + m) ≡ suc k + p + m = omega arith in
    let u : Leads s (suc k + (p + m)) = later e (leads-append m l (rw (drop-drop p (suc k) s) t)) in
    rw h at u

-- they lead over one blank
one-blank : (s : List ℕ) (n : ℕ) → blank s ≡ passed n → Leads s n
one-blank s zero e = here
one-blank s (suc k) e = let h : suc k + 0 ≡ suc k = omega arith in let l : Leads s (suc k + 0) = later e here in rw h at l

-- ---- `W1`

spaces-lead : (s : List ℕ) → Leads s (WS s)
unfolding run blank
spaces-lead [] = here
spaces-lead (a ∷ s) =
    run-case (Leads (a ∷ s)) is_space a s
    (λ e. let l : Leads (a ∷ s) (1 + run is_space s) = later (rw e refl) (spaces-lead s) in rw (one-add (run is_space s)) at l) (λ _. here)

newline-leads : (s : List ℕ) → Leads s (newline s)
unfolding blank is_space
newline-leads s = pick-case (Leads s) (starts_with (10 ∷ []) s) (λ o. one-blank s 1 (ap blank (starts_with-true (10 ∷ []) s o))) (λ _. here)

slashes-lead : (s : List ℕ) → starts_with (47 ∷ 47 ∷ []) s ≡ true → Leads s (2 + run not_newline (drop 2 s))
unfolding blank is_space starts_with run not_newline
slashes-lead s o =
    let h : 1 + suc (run not_newline (drop 2 s)) ≡ 2 + run not_newline (drop 2 s) = omega arith in
    one-blank s _ (ap blank (starts_with-true (47 ∷ 47 ∷ []) s o) ∙ ap passed h)

line-leads : (s : List ℕ) → Leads s (line s)
unfolding line
line-leads s = pick-case (Leads s) (starts_with (47 ∷ 47 ∷ []) s) (λ o. leads-append _ (leads-append _ (slashes-lead s o) (newline-leads _)) (spaces-lead _)) (λ _. here)

-- ---- `Rep()`

-- p after p, until it fails, takes so many bytes
data Reps (p : List ℕ → ℕ) : List ℕ → ℕ → Type 0 where
  stop : {s : List ℕ} → p s ≡ 0 → Reps p s 0
  step : {s : List ℕ} {k m : ℕ} → p s ≡ suc k → Reps p (drop (suc k) s) m → Reps p s (suc k + m)

-- of p inside the text they are what `rep` counts
module _ (p : List ℕ → ℕ) (inside : (s : List ℕ) → p s ≤ length s) where
  rep-passes : (k : ℕ) (s : List ℕ) → k ≤ length s → rep_from p k s ≡ k + rep p (drop k s)
  unfolding rep rep_from
  rep-passes zero s h = omega arith
  rep-passes (suc k) [] h = absurd (omega arith)
  rep-passes (suc k) (a ∷ s) h = omega (arith, rep-passes k s (omega arith))

  reps-within : (n : ℕ) (s : List ℕ) → length s ≤ n → Reps p s (rep p s)
  unfolding rep rep_from
  reps-within n [] h = stop (omega (arith, inside []))
  reps-within zero (a ∷ s) h = absurd (omega arith)
  reps-within (suc n) (a ∷ s) h = by-step (p (a ∷ s)) refl (λ k. reps-within n (drop k s) (omega (arith, length-drop k s)))
    where
      by-step : (j : ℕ) → p (a ∷ s) ≡ j → ((k : ℕ) → Reps p (drop k s) (rep p (drop k s))) → Reps p (a ∷ s) (elim j [ zero ↦ 0 | suc k ↦ suc (rep_from p k s) ])
      by-step zero e f = stop e
      by-step (suc k) e f =
          let h : suc k + rep p (drop k s) ≡ suc (rep_from p k s) = omega (arith, rep-passes k s (omega (arith, e, inside (a ∷ s)))) in
          rw (← h) (step e (f k))

  reps : (s : List ℕ) → Reps p s (rep p s)
  reps s = reps-within (length s) s (le_refl _)

-- past a run there is none
run-again : (p : ℕ → Bool) (s : List ℕ) → run p (drop (run p s) s) ≡ 0
unfolding run
run-again p [] = refl
run-again p (a ∷ s) = run-case (λ n. run p (drop n (a ∷ s)) ≡ 0) p a s (λ _. run-again p s) (λ e. rw e refl)

-- no blank of `W1` stands at the start
abbrev Bare : List ℕ → Type 0
Bare s = (WS s ≡ 0) × (line s ≡ 0)

-- after a comment to the line's end no space stands
line-ends : (s : List ℕ) (k : ℕ) → line s ≡ suc k → WS (drop (suc k) s) ≡ 0
unfolding line
line-ends s k e =
    let n : ℕ = and_then (2 + run not_newline (drop 2 s)) newline s in
    pick-cases (starts_with (47 ∷ 47 ∷ []) s) e (λ _ e. rw (← e, ← drop-drop (WS (drop n s)) n s) (run-again is_space (drop n s)))
    (λ _ e. let h : 0 ≡ suc k = e in absurd (omega arith))

-- blanks lead over such comments
lines-lead : {s : List ℕ} {m : ℕ} → Reps line s m → WS s ≡ 0 → Leads s m × Bare (drop m s)
lines-lead {s} (stop e) h = (here, (h, e))
lines-lead {s} (step {k} {m} e r) h =
    let (l, b) = lines-lead r (line-ends s k e) in
    (leads-append m (rw e at (line-leads s)) l, rw (← drop-drop m (suc k) s) b)

line-inside : (s : List ℕ) → line s ≤ length s
line-inside s = leads-inside s (line s) (line-leads s)

-- blanks lead over `W1`, and none of its blanks stands after it
W1-leads : (s : List ℕ) → Leads s (W1 s) × Bare (drop (W1 s) s)
unfolding W1
W1-leads s =
    let (l, b) = lines-lead (reps line line-inside (drop (WS s) s)) (run-again is_space s) in
    (leads-append _ (spaces-lead s) l, rw (← drop-drop (rep line (drop (WS s) s)) (WS s) s) b)

-- ---- `W`

-- a long comment and the `W1` after it
module _ (s : List ℕ) (o : starts_with (47 ∷ 42 ∷ []) s ≡ true) where
  mark-inside : 2 + position_after_end_of_long_comment (drop 2 s) ≤ length s
  mark-inside = omega (arith, position-inside (drop 2 s), length-drop 2 s, starts_with-inside (47 ∷ 42 ∷ []) s o)

  long-within : and_then (2 + position_after_end_of_long_comment (drop 2 s)) W1 s ≤ length s
  long-within =
      let n : ℕ = 2 + position_after_end_of_long_comment (drop 2 s) in
      omega (arith, mark-inside, leads-inside (drop n s) (W1 (drop n s)) (W1-leads (drop n s)).0, length-drop n s)

  module _ (k : ℕ) (e : and_then (2 + position_after_end_of_long_comment (drop 2 s)) W1 s ≡ suc k) where
    long-ends : Bare (drop (suc k) s)
    long-ends =
        let n : ℕ = 2 + position_after_end_of_long_comment (drop 2 s) in
        rw (← e, ← drop-drop (W1 (drop n s)) n s) (W1-leads (drop n s)).1

    -- and what follows
    long-more : (m : ℕ) → m ≡ Ours (drop (suc k) s) → suc k + m ≡ Ours s
    unfolding position_after_end_of_long_comment ours.W ours.blanks_from
    long-more m i = by-end (long_comment 0 (drop 2 s)) refl
      where
        by-end : (r : Option ℕ) → long_comment 0 (drop 2 s) ≡ r → suc k + m ≡ Ours s
        by-end none p =
            let q : position_after_end_of_long_comment (drop 2 s) ≡ length (drop 2 s) = ap (or_else (length (drop 2 s))) p in
            let all : length s ≤ suc k = omega (arith, e, q, length-drop 2 s) in
            let z : m ≡ 0 = rw (drop_of_length-le s all) at i in
            let w : Ours s ≡ length s = ap (to_end (length s)) (W-unclosed s 0 (blank-comment s o ∙ ap comment p)) in
            omega (arith, e, long-within, all, z, w)
        by-end (some n) p =
            let q : n ≡ position_after_end_of_long_comment (drop 2 s) = sym (ap (or_else (length (drop 2 s))) p) in
            let l = one-blank s (2 + position_after_end_of_long_comment (drop 2 s)) (blank-comment s o ∙ ap comment p ∙ ap (λ j. passed (2 + j)) q) in
            let l2 : Leads s (suc k) = rw e at (leads-append _ l (W1-leads _).0) in
            sym (led s (suc k) l2 ∙ ap (λ j. suc k + j) (sym i))

long-inside : (s : List ℕ) → long s ≤ length s
unfolding long
long-inside s = pick-case (λ n. n ≤ length s) (starts_with (47 ∷ 42 ∷ []) s) (λ o. long-within s o) (λ _. omega arith)

-- where neither `W1` nor a long comment stands, no blank does
bare-blank : (s : List ℕ) → Bare s → starts_with (47 ∷ 42 ∷ []) s ≡ false → blank s ≡ passed 0
unfolding blank line
bare-blank [] b o = refl
bare-blank (a ∷ s) b o = by-test (starts_with (47 ∷ 47 ∷ []) (a ∷ s)) refl
  where
    by-test : (t : Bool) → starts_with (47 ∷ 47 ∷ []) (a ∷ s) ≡ t → blank (a ∷ s) ≡ passed 0
    by-test true f = pick-cases (starts_with (47 ∷ 47 ∷ []) (a ∷ s)) b.1 (λ _ z. absurd (omega arith)) (λ g _. let z : true ≡ false = sym f ∙ g in cc)
    by-test false f =
        let e : is_space a ≡ false = run-case (λ n. n ≡ 0 → is_space a ≡ false) is_space a s (λ _ z. absurd (omega arith)) (λ e _. e) b.0 in
        rw (e, f, o) refl

-- long comments, with `W1` after each, take as much as our blanks, or all of the text
longs-to_end : {s : List ℕ} {m : ℕ} → Reps long s m → Bare s → m ≡ Ours s
unfolding long
longs-to_end {s} (stop e) b =
    pick-cases (starts_with (47 ∷ 42 ∷ []) s) e (λ _ e. absurd (omega arith))
    (λ o _. sym (ap (to_end (length s)) (W-none s (bare-blank s b o))))
longs-to_end {s} (step {k} {m} e r) b =
    pick-cases (starts_with (47 ∷ 42 ∷ []) s) e (λ o e. long-more s o k e m (longs-to_end r (long-ends s o k e)))
    (λ _ e. let z : 0 ≡ suc k = e in absurd (omega arith))

-- upstream's blanks are ours, save that they take the whole text where ours are refused
pub W-to_end : (s : List ℕ) → W s ≡ to_end (length s) (ours.W s)
unfolding W
W-to_end s =
    let (l, b) = W1-leads s in
    ap (λ n. W1 s + n) (longs-to_end (reps long long-inside (drop (W1 s) s)) b) ∙ sym (led s (W1 s) l)
