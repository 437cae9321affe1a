-- What the code keeps of labels: spans, numbers, and the places up to which statements go on.
use Rattle.std.specs.Prelude.{ℕ, ◌+◌, ◌*◌, ◌<◌, ◌≤◌, ◌≡◌, refl, Bool, true, false, cond, ◌&&◌, ◌||◌, not, List, [], length, get_or, take, set, max, eqb, leb, ltb, Some, None}
use Rattle.std.proofs.Common.{arith, add-one, sym, ap, subst, ◌∙◌, ⊎_elim, length-set, length-take, get_or-take, get_or-set_same, get_or-set_other}
use Rattle.std.proofs.lemmas.Bool.{and_parts, or_parts, cases_lt, cases_eq, ltb-true, ltb-false, lt-ltb, le-ltb, le-leb, lt-leb, eqb-true, false_from_ne_true}
use Rattle.tree.specs.Clash.{impossible}
use Rattle.tree.specs.Limits.{most_words}
use Rattle.tree.specs.Tags.{more, labeled_stmt_tag, exit_tag}
use Rattle.tree.specs.KindNumbers.{stmt_kind}
use Rattle.tree.specs.Resolve.{part}
use Rattle.tree.specs.Outline.{filled}
use Rattle.tree.specs.OutlineLaws.{filled_at, filled-length}
use Rattle.names.specs.Names.{most_bytes, names, numbering, same}
use Rattle.names.specs.NumberLaws.{same_refl, same_true}
use Rattle.names.specs.Parts.{clipped, names-length, name-at}
use Rattle.names.specs.Claims.{one_number, each-numbered, below-count, count_most}
use Rattle.profile.specs.Profile.{Places, statement, exit, name, around, lacks_label}
use Rattle.profile.specs.Labels.{label, Spanned, Numbered, Open}

module _ (t : Places) where
  -- ---- an exit's label

  -- the word of a statement
  word-of : (tag at : ℕ) → statement t tag at ≡ true → t.word at ≡ tag
  word-of tag at e = eqb-true (t.word at) tag (and_parts (eqb (t.kind at) stmt_kind) (eqb (t.word at) tag) e).1

  -- the place where the name of an exit's label stands
  exit-label : (at : ℕ) → exit t at ≡ true → label t at ≡ Some (at + 2)
  exit-label at e =
      ap (λ (b : Bool). cond b (Some (at + 1)) (cond (exit t at) (Some (at + 2)) None)) (false_from_ne_true _ unequal) ∙ ap (λ (b : Bool). cond b (Some (at + 2)) None) e
    where
      its-word : t.word at ≡ exit_tag
      its-word = word-of exit_tag at (and_parts _ (eqb (t.word (at + 1)) more) e).0

      unequal : statement t labeled_stmt_tag at ≡ true → ⊥
      unequal y = omega (arith, word-of labeled_stmt_tag at y, its-word)

  -- ---- spans

  pub spanned-none : (spans : List ℕ) → length spans ≡ 2 * most_words → Spanned t 0 spans
  spanned-none spans r = record { room = r; spanned = λ at q h e. absurd (omega arith) }

  -- the place n has no label
  pub spanned-more : {n : ℕ} {spans : List ℕ} → Spanned t n spans → label t n ≡ None → Spanned t (n + 1) spans
  spanned-more {n} s none =
      record {
        room = s.room;
        spanned = λ at q h e.
            ⊎_elim (λ l. s.spanned at q l e) (λ l. let m : n ≡ at = omega arith in let f = ap (label t) m in impossible cc) (cases_lt at n);
      }

  -- it has one, whose span is set
  pub spanned-set : {n q v w : ℕ} {spans : List ℕ} → Spanned t n spans → n < most_words → label t n ≡ Some q → v ≡ t.word q → w ≡ t.word (q + 1)
      → Spanned t (n + 1) (set (set spans (2 * n) v) (2 * n + 1) w)
  spanned-set {n} {q} {v} {w} {spans} s few some start len =
      record {
        room = length-set (set spans (2 * n) v) (2 * n + 1) w ∙ length-set spans (2 * n) v ∙ s.room;
        spanned = λ at r h e. ⊎_elim (λ l. earlier at r l e) (λ l. last at r (omega arith) e) (cases_lt at n);
      }
    where
      after : ℕ → ℕ
      after i = get_or (set (set spans (2 * n) v) (2 * n + 1) w) i 0

      earlier : (at r : ℕ) → at < n → label t at ≡ Some r
          → (get_or (set (set spans (2 * n) v) (2 * n + 1) w) (2 * at) 0 ≡ t.word r) × (get_or (set (set spans (2 * n) v) (2 * n + 1) w) (2 * at + 1) 0 ≡ t.word (r + 1))
      earlier at r l e =
          let f = s.spanned at r l e in (
            get_or-set_other (set spans (2 * n) v) (2 * n + 1) (2 * at) w 0 (omega arith) ∙ get_or-set_other spans (2 * n) (2 * at) v 0 (omega arith) ∙ f.0,
            get_or-set_other (set spans (2 * n) v) (2 * n + 1) (2 * at + 1) w 0 (omega arith) ∙ get_or-set_other spans (2 * n) (2 * at + 1) v 0 (omega arith) ∙ f.1,
          )

      last : (at r : ℕ) → n ≡ at → label t at ≡ Some r
          → (get_or (set (set spans (2 * n) v) (2 * n + 1) w) (2 * at) 0 ≡ t.word r) × (get_or (set (set spans (2 * n) v) (2 * n + 1) w) (2 * at + 1) 0 ≡ t.word (r + 1))
      last at r m e =
          let g = ap (label t) m in
          let k : q ≡ r = cc in
          let i : 2 * at ≡ 2 * n = omega arith in
          let j : 2 * at + 1 ≡ 2 * n + 1 = omega arith in (
            ap (λ (x : ℕ). get_or (set (set spans (2 * n) v) (2 * n + 1) w) x 0) i
                ∙ get_or-set_other (set spans (2 * n) v) (2 * n + 1) (2 * n) w 0 (omega arith)
                ∙ get_or-set_same spans (2 * n) v 0 (omega (arith, s.room))
                ∙ start ∙ ap t.word k,
            ap (λ (x : ℕ). get_or (set (set spans (2 * n) v) (2 * n + 1) w) x 0) j
                ∙ get_or-set_same (set spans (2 * n) v) (2 * n + 1) w 0 (omega (arith, s.room, length-set spans (2 * n) v))
                ∙ len ∙ ap (λ (x : ℕ). t.word (x + 1)) k,
          )

  -- ---- numbers

  -- whether an exit among the first places has a label, by one place more
  pub asked-more : {n : ℕ} {asked here : Bool} → (asked ≡ false → (i : ℕ) → i < n → exit t i ≡ false) → here ≡ exit t n
      → (asked || here) ≡ false → (i : ℕ) → i < n + 1 → exit t i ≡ false
  asked-more {n} {asked} {here} f e o i h =
      let p = or_parts asked here o in
      ⊎_elim (λ l. f p.0 i l) (λ l. let m : n ≡ i = omega arith in subst (λ (j : ℕ). exit t j ≡ false) m (sym e ∙ p.1)) (cases_lt i n)

  module _ (text : List ℕ) where
    pub numbered : {n : ℕ} {spans : List ℕ} (numbers : List ℕ) {numbers' : List ℕ} → length text ≤ most_bytes → n ≤ most_words → Spanned t n spans → length numbers ≡ most_words
        → numbers' ≡ filled (numbering [] (names text (take (2 * n) spans))) numbers → Numbered t text n numbers'
    numbered {n} {spans} numbers {numbers'} short few s room e =
        record {
          few = few;
          room = ap length e ∙ filled-length (numbering [] bs) numbers ∙ room;
          below = λ at h. omega (arith, number at h, below-count bs at (omega (arith, many)), count_most bs, many);
          equal = λ i j r h k x b.
              let o = one_number bs i j (omega (arith, many)) (omega (arith, many)) in
              let a = spelt i (i + 2) h (exit-label i x) in (
                λ same_number. sym a ∙ o.0 (sym (number i h) ∙ same_number ∙ number j k) ∙ spelt j r k b,
                λ same_name. number i h ∙ o.1 (a ∙ same_name ∙ sym (spelt j r k b)) ∙ sym (number j k),
              );
        }
      where
        bs : List (List ℕ)
        bs = names text (take (2 * n) spans)

        many : length bs ≡ n
        many = names-length text (take (2 * n) spans) ∙ omega (arith, length-take (2 * n) spans, s.room)

        number : (at : ℕ) → at < n → get_or numbers' at 0 ≡ get_or (numbering [] bs) at 0
        number at h = ap (λ (l : List ℕ). get_or l at 0) e ∙ filled_at (numbering [] bs) numbers at (omega (arith, each-numbered bs, many)) (omega (arith, room))

        spelt : (at q : ℕ) → at < n → label t at ≡ Some q → get_or bs at [] ≡ name t text q
        spelt at q h a =
            let f = s.spanned at q h a in
            let i = get_or-take (2 * n) spans (2 * at) 0 (omega arith) ∙ f.0 in
            let j = get_or-take (2 * n) spans (2 * at + 1) 0 (omega arith) ∙ f.1 in
            name-at text (take (2 * n) spans) at short (omega (arith, many))
            ∙ sym (clipped text (get_or (take (2 * n) spans) (2 * at) 0) (get_or (take (2 * n) spans) (2 * at + 1) 0))
            ∙ (λ k. part text (i k) (j k))

    -- where no exit has a label the numbers are asked of nothing
    pub unnumbered : {n : ℕ} {numbers : List ℕ} → n ≤ most_words → length numbers ≡ most_words → ((i : ℕ) → get_or numbers i 0 ≡ 0)
        → ((i : ℕ) → i < n → exit t i ≡ false) → Numbered t text n numbers
    unnumbered few room zero none-exits =
        record {
          few = few;
          room = room;
          below = λ at h. omega (arith, zero at);
          equal = λ i j r h k x b. let f = none-exits i h in impossible cc;
        }

    -- ---- how far statements go on

    pub open-none : {n : ℕ} {numbers until : List ℕ} → length until ≡ most_words → ((i : ℕ) → get_or until i 0 ≡ 0) → Open t text n numbers 0 until
    unfolding around
    open-none {n} {numbers} {until} r z =
        record { room = r; goes-on = λ at h e i. le-ltb i (get_or until (get_or numbers at 0) 0) (omega (arith, z (get_or numbers at 0))) }

    -- no statement with a label begins at a place
    pub open-other : {n at : ℕ} {numbers until : List ℕ} → Open t text n numbers at until → statement t labeled_stmt_tag at ≡ false → Open t text n numbers (at + 1) until
    unfolding around
    open-other {n} {at} {numbers} {until} o e =
        record {
          room = o.room;
          goes-on = λ j h x i. rw (add-one at, e) (o.goes-on j h x i);
        }

    -- one does, with that number
    pub open-label : {n at m v : ℕ} {numbers until : List ℕ} → Numbered t text n numbers → Open t text n numbers at until → at < n
        → statement t labeled_stmt_tag at ≡ true → m ≡ get_or numbers at 0 → v ≡ max (get_or until m 0) (t.end at) → Open t text n numbers (at + 1) (set until m v)
    unfolding around
    open-label {n} {at} {m} {v} {numbers} {until} k o h e number value =
        record {
          room = length-set until m v ∙ o.room;
          goes-on = λ j l x i. rw (add-one at, e) (⊎_elim (same-label j l x i) (other-label j l x i) (cases_eq (get_or numbers j 0) m));
        }
      where
        here : label t at ≡ Some (at + 1)
        here = rw e

        both : (i u x : ℕ) → ltb i (max u x) ≡ (ltb i x || ltb i u)
        both i u x = by-test (ltb i x) (ltb i u) refl refl
          where
            by-test : (b c : Bool) → ltb i x ≡ b → ltb i u ≡ c → ltb i (max u x) ≡ (b || c)
            by-test true c p q = lt-ltb i (max u x) (omega (arith, ltb-true i x p))
            by-test false true p q = lt-ltb i (max u x) (omega (arith, ltb-true i u q))
            by-test false false p q = le-ltb i (max u x) (omega (arith, ltb-false i x p, ltb-false i u q))

        same-label : (j : ℕ) → j < n → exit t j ≡ true → (i : ℕ) → get_or numbers j 0 ≡ m
            → ltb i (get_or (set until m v) (get_or numbers j 0) 0) ≡ ((same (name t text (at + 1)) (name t text (j + 2)) && ltb i (t.end at)) || around t text at (name t text (j + 2)) i)
        same-label j l x i p =
            let w = (k.equal j at (at + 1) l h x here).0 (p ∙ number) in
            let s = ap (λ (b : List ℕ). same b (name t text (j + 2))) (sym w) ∙ same_refl (name t text (j + 2)) in
            let u = get_or-set_same until m v 0 (omega (arith, number, k.below at h, o.room)) in
            let g = ap (λ (y : ℕ). ltb i (get_or until y 0)) (sym p) ∙ o.goes-on j l x i in
            ap (λ (y : ℕ). ltb i (get_or (set until m v) y 0)) p ∙ ap (ltb i) (u ∙ value) ∙ both i (get_or until m 0) (t.end at)
            ∙ (λ z. (sym s z && ltb i (t.end at)) || g z)

        other-label : (j : ℕ) → j < n → exit t j ≡ true → (i : ℕ) → (get_or numbers j 0 ≡ m → ⊥)
            → ltb i (get_or (set until m v) (get_or numbers j 0) 0) ≡ ((same (name t text (at + 1)) (name t text (j + 2)) && ltb i (t.end at)) || around t text at (name t text (j + 2)) i)
        other-label j l x i p =
            let s : same (name t text (at + 1)) (name t text (j + 2)) ≡ false =
            false_from_ne_true _ (λ y. p ((k.equal j at (at + 1) l h x here).1 (sym (same_true _ _ y)) ∙ sym number)) in
            rw s (ap (ltb i) (get_or-set_other until m (get_or numbers j 0) v 0 p) ∙ o.goes-on j l x i)

    -- is passed exactly where no statement of it goes on
    pub passed : {n at u : ℕ} {numbers until : List ℕ} → Open t text n numbers at until → at < n → exit t at ≡ true → u ≡ get_or until (get_or numbers at 0) 0
        → leb u at ≡ lacks_label t text at
    passed {n} {at} {u} {numbers} {until} o h e r =
        rw e (by-test (ltb at u) refl ∙ ap not (ap (ltb at) r ∙ o.goes-on at h e at))
      where
        by-test : (b : Bool) → ltb at u ≡ b → leb u at ≡ not (ltb at u)
        by-test true p = rw p (lt-leb u at (ltb-true at u p))
        by-test false p = rw p (le-leb u at (ltb-false at u p))
