-- What the walk's stack expects, from its top down, and how it changes in a turn of the walk.
use Rattle.std.specs.Prelude.{Err, Option, Some, None}
use Prim.Native.Nat.{ℕ, suc, ◌+◌, ◌-◌, ◌*◌, ◌≤◌, ◌<◌}
use native.Mathlib.Omega.{arith}
use mathlib.Core.Path.{◌≡◌, refl, sym, ap, subst, ◌∙◌}
use mathlib.Core.Bool.{Bool, true, false, cond}
use mathlib.Core.Option.{Option as Maybe, none, some}
use mathlib.Core.List.{List, [], ◌∷◌, ◌++◌, append-nil, map}
use lib.ListN.{length, get_or, drop, set, length-set, drop_of_length-le}
use lib.Seq.{drop-cons}
use lib.Dec.{ltb}
use Rattle.tree.specs.Clash.{impossible}
use Rattle.tree.specs.Limits.{most_words}
use Rattle.tree.specs.Kind.{Kind}
use Rattle.tree.specs.Check.{one_tree, run, within}
use Rattle.tree.specs.Tally.{Mark, Expected, marked, more, noted, tally}
use Rattle.tree.specs.ExpectedKinds.{kinds_in, marked-kinds, marked_append}
use Rattle.tree.specs.KindNumbers.{kind_number, second_word}
use Rattle.tree.specs.KindCodes.{as_kind}
use Rattle.tree.specs.Notes.{note_kind, kind_notes}
use Rattle.tree.specs.Rows.{as_mark, passed_of, expected_of, own_mark, Splits, MarkIs, MoreIs, Adds, Enters, Went, Stopped}
use Rattle.tree.specs.Stack.{items, Popped}
use Rattle.tree.specs.declared.CheckError.{CheckError}
use Rattle.tree.specs.declared.CheckError.TheVariants.{Misfit}
use Rattle.tree.specs.declared.kind.Kind.{Kind as KindCode}
use Rattle.tree.specs.declared.frames.Mark.{Mark as MarkCode}
use Rattle.tree.specs.declared.frames.Frame.{Frame}
use Rattle.tree.specs.declared.stack.Stack.{Stack}
use Rattle.tree.proofs.FrameLaws.{frame-cons, frame-none}

-- what frames expect, one after the other
abbrev pub expected : List Frame → List Expected
expected [] = []
expected (f ∷ fs) = expected_of f ++ expected fs

-- no mark of theirs says that more items are passed than words
abbrev pub Bounded : ℕ → List Frame → Type 0
Bounded at [] = Unit {0}
Bounded at (f ∷ fs) = (passed_of f.mark ≤ at) × Bounded at fs

bounded-later : {at next : ℕ} (fs : List Frame) → at ≤ next → Bounded at fs → Bounded next fs
bounded-later [] h b = tt
bounded-later {at} {next} (f ∷ fs) h b = (omega (arith, b.0), bounded-later fs h b.1)

-- the stack after a frame is put on it that may expect nothing
module _ {f : Frame} {s s' : Stack Frame} (e : Adds f s s') where
  abbrev OnTop : Type 0
  OnTop = (expected (items s') ≡ expected_of f ++ expected (items s)) × (s.free ≤ s'.free + 1)
      × ((at : ℕ) → passed_of f.mark ≤ at → Bounded at (items s) → Bounded at (items s')) × (length (items s') ≤ length (items s) + 1)

  on-top : OnTop
  on-top = by_kinds f.kinds.now refl
    where
      by_kinds : (ks : List KindCode) → f.kinds.now ≡ ks → OnTop
      by_kinds [] z =
          let n = e.none z in
          let free : s'.free ≡ s.free = n.1 in (
            ap expected n.0 ∙ sym (ap (λ (l : List Expected). l ++ expected (items s)) (frame-none f z)),
            omega arith,
            λ at h b. subst (Bounded at) (sym n.0) b,
            omega (arith, ap (λ (l : List Frame). length l) n.0),
          )
      by_kinds (k ∷ ks) z =
          let p = e.some (λ y. let c : ◌≡◌ {A = List KindCode} [] (k ∷ ks) = sym y ∙ z in impossible cc) in
          let free : s.free ≡ s'.free + 1 = p.free in
          (ap expected p.items, omega arith, λ at h b. subst (Bounded at) (sym p.items) (h, b), omega (arith, ap (λ (l : List Frame). length l) p.items))

-- the frame on the top, and the stack under it, after a step
module _ {fields rest top : Frame} {s s' : Stack Frame} (e : Enters fields rest s top s') where
  abbrev Entered : Type 0
  Entered = (expected (top ∷ items s') ≡ expected_of fields ++ (expected_of rest ++ expected (items s))) × (s.free ≤ s'.free + 1)
      × ((at : ℕ) → passed_of fields.mark ≤ at → passed_of rest.mark ≤ at → Bounded at (items s) → Bounded at (top ∷ items s'))
      × (length (items s') ≤ length (items s) + 1)

  entered : Entered
  entered = by_kinds fields.kinds.now refl
    where
      by_kinds : (ks : List KindCode) → fields.kinds.now ≡ ks → Entered
      by_kinds [] z =
          let n = e.none z in
          let free : s'.free ≡ s.free = n.2 in (
            (λ i. expected_of (n.0 i) ++ expected (n.1 i))
                ∙ sym (ap (λ (l : List Expected). l ++ (expected_of rest ++ expected (items s))) (frame-none fields z)),
            omega arith,
            λ at h g b. (subst (λ (f : Frame). passed_of f.mark ≤ at) (sym n.0) g, subst (Bounded at) (sym n.1) b),
            omega (arith, ap (λ (l : List Frame). length l) n.1),
          )
      by_kinds (k ∷ ks) z =
          let p = e.some (λ y. let c : ◌≡◌ {A = List KindCode} [] (k ∷ ks) = sym y ∙ z in impossible cc) in
          let x = on-top p.1 in (
            (λ i. expected_of (p.0 i) ++ x.0 i),
            x.1,
            λ at h g b. (subst (λ (f : Frame). passed_of f.mark ≤ at) (sym p.0) h, x.2 at g b),
            x.3,
          )

-- a number noted leaves the length
noted-length : (ks : List Kind) (m : Maybe Mark) (counts : List ℕ) → length (noted ks m counts) ≡ length counts
noted-length [] none counts = refl
noted-length [] (some m) counts = simp length-set
noted-length (k ∷ ks) m counts = refl

-- so does a kind
kind-length : (at next number : ℕ) (kinds : List ℕ) → length (note_kind at next number kinds) ≡ length kinds
kind-length at next number kinds = by-test (ltb (at + 1) next)
  where
    by-test : (b : Bool) → length (cond b (set (set kinds at number) (at + 1) second_word) (set kinds at number)) ≡ length kinds
    by-test true = simp length-set
    by-test false = simp length-set

-- The walk's invariant: the words up to `at` are passed; the check of the rest against the frames is the check of all, and what is noted of the
-- rest, counts and kinds, from what is noted so far is what is noted of all.
pub record Walking (len : ℕ) (first : List KindCode) (ws counts₀ kinds₀ : List ℕ) (top : Frame) (stack : Stack Frame) (counts kinds : List ℕ) (at : ℕ) : Type 0 where
  pub kept : length counts ≡ length counts₀
  pub kinds_kept : length kinds ≡ length kinds₀
  pub few : length ws ≤ most_words
  pub room : length ws ≤ stack.free + at
  pub inside : at ≤ length ws
  pub small : Bounded at (top ∷ items stack)
  pub state : run (within len) (kinds_in (expected (top ∷ items stack))) at (drop at ws) ≡ run (within len) (map as_kind first) 0 ws
  pub tallied : tally (within len) (expected (top ∷ items stack)) at (drop at ws) counts ≡ tally (within len) (marked (map as_kind first) none) 0 ws counts₀
  pub outlined : kind_notes (within len) (kinds_in (expected (top ∷ items stack))) at (drop at ws) kinds ≡ kind_notes (within len) (map as_kind first) 0 ws kinds₀

pub started : (len : ℕ) (f : Frame) (ws counts kinds : List ℕ) (places : ℕ) {s : Stack Frame} → f.mark ≡ None → items s ≡ [] → s.free ≡ places
    → length ws < places → length ws ≤ most_words → Walking len f.kinds.now ws counts kinds f s counts kinds 0
started len f ws counts kinds places {s} m z n h few =
    let e : expected (f ∷ items s) ≡ marked (map as_kind f.kinds.now) none =
    ap (λ (l : List Frame). expected_of f ++ expected l) z ∙ append-nil (expected_of f)
    ∙ ap (λ (o : Option MarkCode). marked (map as_kind f.kinds.now) (as_mark o)) m in
    record {
      kept = refl;
      kinds_kept = refl;
      few = few;
      room = omega arith;
      inside = omega arith;
      small = (subst (λ (o : Option MarkCode). passed_of o ≤ 0) (sym m) (omega arith), subst (Bounded 0) (sym z) tt);
      state =
          ap (λ (es : List Expected). run (within len) (kinds_in es) 0 ws) e
          ∙ ap (λ (ks : List Kind). run (within len) ks 0 ws) (marked-kinds (map as_kind f.kinds.now) none);
      tallied = ap (λ (es : List Expected). tally (within len) es 0 ws counts) e;
      outlined =
          ap (λ (es : List Expected). kind_notes (within len) (kinds_in es) 0 ws kinds) e
          ∙ ap (λ (ks : List Kind). kind_notes (within len) ks 0 ws kinds) (marked-kinds (map as_kind f.kinds.now) none);
    }

module _ {len : ℕ} {first : List KindCode} {ws counts₀ kinds₀ counts kinds : List ℕ} {top : Frame} {s : Stack Frame} {at : ℕ}
    (i : Walking len first ws counts₀ kinds₀ top s counts kinds at) where
  -- the frame on the top expects nothing more
  module _ (e : top.kinds.now ≡ []) where
    top-none : expected (top ∷ items s) ≡ expected (items s)
    top-none = ap (λ (l : List Expected). l ++ expected (items s)) (frame-none top e)

    module _ {f : Frame} {s' : Stack Frame} (p : Popped s (Some f) s') where
      pub after-pop : Walking len first ws counts₀ kinds₀ f s' counts kinds at
      after-pop =
          let free : s'.free ≡ s.free + 1 = p.1 in
          let q : expected (f ∷ items s') ≡ expected (top ∷ items s) = ap expected (sym p.0) ∙ sym top-none in
          record {
            kept = i.kept;
            kinds_kept = i.kinds_kept;
            few = i.few;
            room = omega (arith, i.room);
            inside = i.inside;
            small = subst (Bounded at) p.0 i.small.1;
            state = ap (λ (es : List Expected). run (within len) (kinds_in es) at (drop at ws)) q ∙ i.state;
            tallied = ap (λ (es : List Expected). tally (within len) es at (drop at ws) counts) q ∙ i.tallied;
            outlined = ap (λ (es : List Expected). kind_notes (within len) (kinds_in es) at (drop at ws) kinds) q ∙ i.outlined;
          }

    -- the answers where no frame is under it: words are left, or none
    module _ (z : items s ≡ []) where
      nothing : expected (top ∷ items s) ≡ []
      nothing = top-none ∙ ap expected z

      at-end : (rest : List ℕ) → drop at ws ≡ rest
          → (run (within len) [] at rest ≡ run (within len) (map as_kind first) 0 ws)
          × (tally (within len) [] at rest counts ≡ tally (within len) (marked (map as_kind first) none) 0 ws counts₀)
          × (kind_notes (within len) [] at rest kinds ≡ kind_notes (within len) (map as_kind first) 0 ws kinds₀)
      at-end rest e = (
        (λ j. run (within len) (kinds_in (sym nothing j)) at (sym e j)) ∙ i.state,
        (λ j. tally (within len) (sym nothing j) at (sym e j) counts) ∙ i.tallied,
        (λ j. kind_notes (within len) (kinds_in (sym nothing j)) at (sym e j) kinds) ∙ i.outlined,
      )

      pub at-surplus : at < length ws
          → (Err (Misfit at) ≡ run (within len) (map as_kind first) 0 ws) × (counts ≡ tally (within len) (marked (map as_kind first) none) 0 ws counts₀)
          × (Err (Misfit at) ≡ one_tree → kinds ≡ kind_notes (within len) (map as_kind first) 0 ws kinds₀)
      unfolding run tally kind_notes
      at-surplus l = let a = at-end (get_or ws at 0 ∷ drop (suc at) ws) (drop-cons ws at 0 l) in (a.0, a.1, λ e. a.2)

      pub at-whole : length ws ≤ at
          → (one_tree ≡ run (within len) (map as_kind first) 0 ws) × (counts ≡ tally (within len) (marked (map as_kind first) none) 0 ws counts₀)
          × (one_tree ≡ one_tree → kinds ≡ kind_notes (within len) (map as_kind first) 0 ws kinds₀)
      unfolding run tally kind_notes
      at-whole l = let a = at-end [] (drop_of_length-le ws l) in (a.0, a.1, λ e. a.2)

  module _ (k : KindCode) (rest : Frame) (d : Splits top (Some (k, rest))) where
    -- what lies behind the first kind of the frame on the top
    behind : List Expected
    behind = expected_of rest ++ expected (items s)

    expected-first : expected (top ∷ items s) ≡ record { kind = as_kind k; mark = own_mark rest } ∷ behind
    unfolding behind
    expected-first = ap (λ (l : List Expected). l ++ expected (items s)) (frame-cons top k rest d)

    rest-bounded : passed_of rest.mark ≤ at
    rest-bounded = subst (λ (o : Option MarkCode). passed_of o ≤ at) (sym d.1) i.small.0

    pub mark-bounded : {mark : Option MarkCode} → MarkIs rest k at mark → passed_of mark < 65535
    mark-bounded m = omega (arith, m.small, rest-bounded, i.inside, i.few)

    -- a step is taken, and what is left of the frame may be put under its fields
    pub room-below : {next : ℕ} {fields : List Kind} → Went ws len at (as_kind k) next fields → 0 < s.free
    room-below w = omega (arith, i.room, w.forward, w.inside)

    pub step-nearer : {next : ℕ} {fields : List Kind} {entry top' : Frame} {s' : Stack Frame} → Went ws len at (as_kind k) next fields
        → Enters entry rest s top' s' → 2 * (length ws - next) + length (items s') < 2 * (length ws - at) + length (items s)
    step-nearer w x = omega (arith, (entered x).3, w.forward, w.inside)

    module _ {next : ℕ} {mark : Option MarkCode} (entry : Frame) {top' : Frame} {s' : Stack Frame} {counts₁ kinds₁ : List ℕ}
        (w : Went ws len at (as_kind k) next (map as_kind entry.kinds.now)) (m : MarkIs rest k at mark) (o : MoreIs mark entry.mark)
        (c : counts₁ ≡ noted (map as_kind entry.kinds.now) (as_mark mark) counts) (n : kinds₁ ≡ note_kind at next (kind_number (as_kind k)) kinds)
        (x : Enters entry rest s top' s') where
      abbrev fields : List Kind
      fields = map as_kind entry.kinds.now

      expected-next : expected (top' ∷ items s') ≡ marked fields (more (as_mark mark)) ++ behind
      unfolding behind
      expected-next = (entered x).0 ∙ ap (λ (z : Maybe Mark). marked fields z ++ behind) o.is

      -- the marks of the frames stay bounded
      bounded-next : Bounded next (top' ∷ items s')
      bounded-next =
          let r : passed_of rest.mark ≤ next = omega (arith, rest-bounded, w.forward) in
          let e : passed_of entry.mark ≤ next = omega (arith, o.small, m.small, rest-bounded, w.forward) in
          (entered x).2 next e r (bounded-later (items s) (omega (arith, w.forward)) i.small.1)

      pub after-step : Walking len first ws counts₀ kinds₀ top' s' counts₁ kinds₁ next
      after-step =
          record {
            kept = ap length c ∙ noted-length fields (as_mark mark) counts ∙ i.kept;
            kinds_kept = ap length n ∙ kind-length at next (kind_number (as_kind k)) kinds ∙ i.kinds_kept;
            few = i.few;
            room = omega (arith, i.room, (entered x).1, w.forward);
            inside = w.inside;
            small = bounded-next;
            state =
                ap (λ (es : List Expected). run (within len) (kinds_in es) next (drop next ws)) expected-next
                ∙ ap (λ (ks : List Kind). run (within len) ks next (drop next ws)) (marked_append fields (more (as_mark mark)) behind)
                ∙ sym (w.goes (kinds_in behind))
                ∙ ap (λ (es : List Expected). run (within len) (kinds_in es) at (drop at ws)) (sym expected-first)
                ∙ i.state;
            tallied =
                (λ j. tally (within len) (expected-next j) next (drop next ws) (c j))
                ∙ ap (λ (z : Maybe Mark). tally (within len) (marked fields (more z) ++ behind) next (drop next ws) (noted fields z counts)) m.is
                ∙ sym (w.counts (own_mark rest) behind counts)
                ∙ ap (λ (es : List Expected). tally (within len) es at (drop at ws) counts) (sym expected-first)
                ∙ i.tallied;
            outlined =
                (λ j. kind_notes (within len) (kinds_in (expected-next j)) next (drop next ws) (n j))
                ∙ ap (λ (ks : List Kind). kind_notes (within len) ks next (drop next ws) (note_kind at next (kind_number (as_kind k)) kinds))
                (marked_append fields (more (as_mark mark)) behind)
                ∙ sym (w.kinds (kinds_in behind) kinds)
                ∙ ap (λ (es : List Expected). kind_notes (within len) (kinds_in es) at (drop at ws) kinds) (sym expected-first)
                ∙ i.outlined;
          }

    -- the answer where a step stops
    pub at-stop : {e : CheckError} → Stopped ws len at (as_kind k) e
        → (Err e ≡ run (within len) (map as_kind first) 0 ws) × (counts ≡ tally (within len) (marked (map as_kind first) none) 0 ws counts₀)
        × (Err e ≡ one_tree → kinds ≡ kind_notes (within len) (map as_kind first) 0 ws kinds₀)
    at-stop t = (
      sym (t.stops (kinds_in behind)) ∙ ap (λ (es : List Expected). run (within len) (kinds_in es) at (drop at ws)) (sym expected-first) ∙ i.state,
      sym (t.keeps (own_mark rest) behind counts) ∙ ap (λ (es : List Expected). tally (within len) es at (drop at ws) counts) (sym expected-first) ∙ i.tallied,
      λ e. impossible cc,
    )
