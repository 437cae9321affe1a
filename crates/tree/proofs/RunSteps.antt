-- The check over the words from a place on, one step: what stands there, and how `run`, `tally` and `kind_notes` go on.
use Rattle.std.specs.Prelude.{Err}
use Prim.Native.Nat.{ℕ, suc, ◌+◌, ◌-◌, ◌≤◌, ◌<◌, ◌^◌}
use native.Mathlib.Numerals.{add-one}
use native.Mathlib.Omega.{arith}
use mathlib.Core.Path.{◌≡◌, refl, sym, ap, ◌∙◌, subst}
use mathlib.Core.Bool.{Bool, true, false, cond}
use mathlib.Core.Option.{Option, none, some}
use mathlib.Core.List.{List, [], ◌∷◌, ◌++◌}
use lib.ListN.{length, get_or, drop, set, drop_of_length-le}
use lib.Dec.{ltb}
use lib.Seq.{drop-cons}
use borrow.Author.Tests.{le-leb, lt-leb, lt-ltb, le-ltb}
use Rattle.tree.specs.Kind.{Kind, name, natural, low, length_from, Turn, fits, misfit, turn}
use Rattle.tree.specs.Check.{Checked, run, within}
use Rattle.tree.specs.Rows.{Went, Stopped}
use Rattle.tree.specs.KindNumbers.{kind_number, second_word}
use Rattle.tree.specs.Notes.{note_kind, kind_notes}
use Rattle.tree.specs.Tally.{Mark, Expected, sequence, opened, mark_at, more, marked, noted, tally}
use Rattle.tree.specs.declared.CheckError.{CheckError}
use Rattle.tree.specs.declared.CheckError.TheVariants.{Misfit}

-- the words from a place on: none, one, or two and more
none-at : (ws : List ℕ) (at : ℕ) → length ws ≤ at → drop at ws ≡ []
none-at ws at h = drop_of_length-le ws h

one_at : (ws : List ℕ) (at : ℕ) → at < length ws → drop at ws ≡ get_or ws at 0 ∷ drop (at + 1) ws
one_at ws at h = rw add-one (drop-cons ws at 0 h)

module _ (len : ℕ) (ws : List ℕ) (at : ℕ) where
  abbrev after : List Kind → Turn → Checked
  after ks (fits fs) = run (within len) (fs ++ ks) (at + 1) (drop (at + 1) ws)
  after ks (misfit back) = Err (Misfit (at - back))

  -- a word's turn is what `run` does at it
  step-turn : (k : Kind) (ks : List Kind) → at < length ws → run (within len) (k ∷ ks) at (drop at ws) ≡ after ks (turn (within len) k (get_or ws at 0))
  unfolding run
  step-turn k ks h = ap (run (within len) (k ∷ ks) at) (one_at ws at h) ∙ by_turn (turn (within len) k (get_or ws at 0))
    where
      by_turn : (u : Turn)
          → ◌≡◌ {A = Checked} (elim u [ fits fs ↦ run (within len) (fs ++ ks) (suc at) (drop (at + 1) ws) | misfit b ↦ Err (Misfit (at - b)) ]) (after ks u)
      by_turn (fits fs) = rw add-one
      by_turn (misfit b) = refl

  step_fits : (k : Kind) (fs : List Kind) → at < length ws → turn (within len) k (get_or ws at 0) ≡ fits fs
      → (ks : List Kind) → run (within len) (k ∷ ks) at (drop at ws) ≡ run (within len) (fs ++ ks) (at + 1) (drop (at + 1) ws)
  step_fits k fs h e ks = step-turn k ks h ∙ ap (after ks) e

  -- ---- the count of items

  module _ (k : Kind) (m : Option Mark) (es : List Expected) (c : List ℕ) where
    abbrev counting : Turn → List ℕ
    counting (fits fs) = tally (within len) (marked fs (more (mark_at k m at)) ++ es) (at + 1) (drop (at + 1) ws) (noted fs (mark_at k m at) c)
    counting (misfit back) = c

    -- a word's turn is what `tally` does at it
    count_turn : at < length ws → tally (within len) (record { kind = k; mark = m } ∷ es) at (drop at ws) c ≡ counting (turn (within len) k (get_or ws at 0))
    unfolding tally
    count_turn h =
        ap (λ (l : List ℕ). tally (within len) (record { kind = k; mark = m } ∷ es) at l c) (one_at ws at h) ∙ by_turn (turn (within len) k (get_or ws at 0))
      where
        by_turn : (u : Turn)
            → elim u [
              | fits fs ↦ tally (within len) (marked fs (more (mark_at k m at)) ++ es) (suc at) (drop (at + 1) ws) (noted fs (mark_at k m at) c)
              | misfit b ↦ c
            ] ≡ counting u
        by_turn (fits fs) = rw add-one
        by_turn (misfit b) = refl

    -- no word is left
    count-missing : at ≡ length ws → tally (within len) (record { kind = k; mark = m } ∷ es) at (drop at ws) c ≡ c
    unfolding tally
    count-missing h = ap (λ (l : List ℕ). tally (within len) (record { kind = k; mark = m } ∷ es) at l c) (none-at ws at (omega arith))

  -- ---- the kinds

  module _ (k : Kind) (ks : List Kind) (n : List ℕ) where
    abbrev noting : Turn → List ℕ
    noting (fits fs) = kind_notes (within len) (fs ++ ks) (at + 1) (drop (at + 1) ws) (set n at (kind_number k))
    noting (misfit back) = n

    -- a word's turn is what `kind_notes` does at it
    kind-turn : at < length ws → kind_notes (within len) (k ∷ ks) at (drop at ws) n ≡ noting (turn (within len) k (get_or ws at 0))
    unfolding kind_notes
    kind-turn h = ap (λ (l : List ℕ). kind_notes (within len) (k ∷ ks) at l n) (one_at ws at h) ∙ by_turn (turn (within len) k (get_or ws at 0))
      where
        by_turn : (u : Turn)
            → elim u [ fits fs ↦ kind_notes (within len) (fs ++ ks) (suc at) (drop (at + 1) ws) (set n at (kind_number k)) | misfit b ↦ n ] ≡ noting u
        by_turn (fits fs) = rw add-one
        by_turn (misfit b) = refl

    -- what a step notes
    note-one : set n at (kind_number k) ≡ note_kind at (at + 1) (kind_number k) n
    note-one = let l : ltb (at + 1) (at + 1) ≡ false = le-ltb (at + 1) (at + 1) (omega arith) in rw l

    note-two : set (set n at (kind_number k)) (at + 1) second_word ≡ note_kind at (at + 2) (kind_number k) n
    note-two = let l : ltb (at + 1) (at + 2) ≡ true = lt-ltb (at + 1) (at + 2) (omega arith) in rw l

  -- ---- one word

  -- a word that fits goes on
  one-fits : (k : Kind) (fs : List Kind) → at < length ws → turn (within len) k (get_or ws at 0) ≡ fits fs → Went ws len at k (at + 1) fs
  one-fits k fs h e =
      record {
        forward = omega arith;
        inside = omega arith;
        goes = step_fits k fs h e;
        counts = λ m es c. count_turn k m es c h ∙ ap (counting k m es c) e;
        kinds = λ ks n.
            kind-turn k ks n h ∙ ap (noting k ks n) e
            ∙ ap (kind_notes (within len) (fs ++ ks) (at + 1) (drop (at + 1) ws)) (note-one k ks n);
      }

  -- a word that misfits ends the walk
  one-misfit : (k : Kind) (back : ℕ) → at < length ws → turn (within len) k (get_or ws at 0) ≡ misfit back → Stopped ws len at k (Misfit (at - back))
  one-misfit k back h e =
      record { stops = λ ks. step-turn k ks h ∙ ap (after ks) e; keeps = λ m es c. count_turn k m es c h ∙ ap (counting k m es c) e }

  -- words are missing
  pub step-missing : (k : Kind) → at ≡ length ws → Stopped ws len at k (Misfit (length ws))
  unfolding run
  step-missing k h =
      record {
        stops = λ ks. ap (run (within len) (k ∷ ks) at) (none-at ws at (omega arith)) ∙ ap (λ (n : ℕ). Err (Misfit n)) h;
        keeps = λ m es c. count-missing k m es c h;
      }

-- what is no sequence has no mark
unmarked : (k : Kind) (m : Option Mark) (at : ℕ) (c : List ℕ) → sequence k ≡ false → noted [] (mark_at k m at) c ≡ c
unmarked k m at c e = ap (λ (b : Bool). noted [] (cond b (some (opened m at)) none) c) e

module _ (len : ℕ) (ws : List ℕ) (at : ℕ) (k k' : Kind) where
  -- two words, each with its turn
  step-two : at + 1 < length ws → turn (within len) k (get_or ws at 0) ≡ fits (k' ∷ []) → turn (within len) k' (get_or ws (at + 1) 0) ≡ fits []
      → sequence k ≡ false → sequence k' ≡ false → kind_number k' ≡ second_word → Went ws len at k (at + 2) []
  step-two h e e' q q' z =
      let two : (at + 1) + 1 ≡ at + 2 = omega arith in
      record {
        forward = omega arith;
        inside = omega arith;
        goes = λ ks.
            step_fits len ws at k (k' ∷ []) (omega arith) e ks
            ∙ step_fits len ws (at + 1) k' [] h e' ks
            ∙ ap (λ (n : ℕ). run (within len) ks n (drop n ws)) two;
        counts = λ m es c.
            let i : at < length ws = omega arith in
            count_turn len ws at k m es c i ∙ ap (counting len ws at k m es c) e
            ∙ count_turn len ws (at + 1) k' (more (mark_at k m at)) es c h ∙ ap (counting len ws (at + 1) k' (more (mark_at k m at)) es c) e'
            ∙ ap (tally (within len) es (at + 1 + 1) (drop (at + 1 + 1) ws)) (unmarked k' (more (mark_at k m at)) (at + 1) c q' ∙ sym (unmarked k m at c q))
            ∙ ap (λ (n : ℕ). tally (within len) es n (drop n ws) (noted [] (mark_at k m at) c)) two;
        kinds = λ ks n.
            kind-turn len ws at k ks n (omega arith) ∙ ap (noting len ws at k ks n) e
            ∙ kind-turn len ws (at + 1) k' ks (set n at (kind_number k)) h ∙ ap (noting len ws (at + 1) k' ks (set n at (kind_number k))) e'
            ∙ ap (λ (x : ℕ). kind_notes (within len) ks x (drop x ws) (set (set n at (kind_number k)) (at + 1) (kind_number k'))) two
            ∙ ap (kind_notes (within len) ks (at + 2) (drop (at + 2) ws)) (ap (set (set n at (kind_number k)) (at + 1)) z ∙ note-two len ws at k ks n);
      }

  -- the second of two words ends the walk
  step-second : (error : CheckError) → at < length ws → turn (within len) k (get_or ws at 0) ≡ fits (k' ∷ []) → Stopped ws len (at + 1) k' error → Stopped ws len at k error
  step-second error h e s =
      record {
        stops = λ ks. step_fits len ws at k (k' ∷ []) h e ks ∙ s.stops ks;
        keeps = λ m es c.
            count_turn len ws at k m es c h ∙ ap (counting len ws at k m es c) e ∙ s.keeps (more (mark_at k m at)) es c;
      }

  -- the first of two words is the last of all
  pub second-missing : at < length ws → length ws - at < 2 → turn (within len) k (get_or ws at 0) ≡ fits (k' ∷ []) → Stopped ws len at k (Misfit (length ws))
  second-missing h m e = step-second (Misfit (length ws)) h e (step-missing len ws (at + 1) k' (omega arith))

module _ (len : ℕ) (ws : List ℕ) (at : ℕ) where
  -- a name's two words
  pub name-fits : at + 1 < length ws → get_or ws at 0 + get_or ws (at + 1) 0 ≤ len → Went ws len at name (at + 2) []
  name-fits h i = step-two len ws at name (length_from (get_or ws at 0)) h refl (simp (le-leb (get_or ws at 0 + get_or ws (at + 1) 0) len i)) refl refl refl

  pub name-outside : at + 1 < length ws → len < get_or ws at 0 + get_or ws (at + 1) 0 → Stopped ws len at name (Misfit at)
  name-outside h o =
      let back : (at + 1) - 1 ≡ at = omega arith in
      let s = one-misfit len ws (at + 1) (length_from (get_or ws at 0)) 1 h (simp (lt-leb (get_or ws at 0 + get_or ws (at + 1) 0) len o)) in
      step-second len ws at name (length_from (get_or ws at 0)) (Misfit at) (omega arith) refl (subst (λ (n : ℕ). Stopped ws len (at + 1) (length_from (get_or ws at 0)) (Misfit n)) back s)

  -- a natural's two words
  pub natural-fits : at + 1 < length ws → get_or ws (at + 1) 0 < 2 ^ 32 → Went ws len at natural (at + 2) []
  natural-fits h b = step-two len ws at natural low h refl (simp (lt-ltb (get_or ws (at + 1) 0) (2 ^ 32) b)) refl refl refl

  -- one word that is not the first of two
  pub row_fits : (k : Kind) (fs : List Kind) (w : ℕ) → at < length ws → w ≡ get_or ws at 0 → fits fs ≡ turn (within len) k w → Went ws len at k (at + 1) fs
  row_fits k fs w h e f = one-fits len ws at k fs h (ap (turn (within len) k) (sym e) ∙ sym f)

  pub row-misfits : (k : Kind) (w : ℕ) → at < length ws → w ≡ get_or ws at 0 → misfit 0 ≡ turn (within len) k w → Stopped ws len at k (Misfit at)
  row-misfits k w h e f =
      let back : at - 0 ≡ at = omega arith in
      subst (λ (n : ℕ). Stopped ws len at k (Misfit n)) back (one-misfit len ws at k 0 h (ap (turn (within len) k) (sym e) ∙ sym f))
