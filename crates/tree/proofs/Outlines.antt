-- What the functions of the outline do at one place: a kind is noted, fields are passed.
use Prim.Native.Nat.{ℕ, suc, min, ◌+◌, ◌-◌, ◌≤◌, ◌<◌}
use native.Mathlib.Omega.{arith}
use mathlib.Core.Path.{◌≡◌, refl, sym, ap, ◌∙◌}
use mathlib.Core.Bool.{Bool, true, false, ◌||◌}
use mathlib.Core.Logic.{◌⊎◌, inl, inr}
use mathlib.Core.List.{List, [], ◌∷◌, ◌++◌}
use lib.ListN.{length, get_or, take, drop, set, length-set}
use lib.Dec.{eqb, ltb}
use borrow.Author.Tests.{eqb-false, ltb-false, lt-ltb, le-ltb}
use Rattle.std.specs.Prelude.{Result, Ok, Err}
use Rattle.tree.specs.Clash.{impossible}
use Rattle.tree.specs.Kind.{by_row}
use Rattle.tree.specs.KindNumbers.{second_word, natural_kind, kind_of}
use Rattle.tree.specs.KindCodes.{as_kind, kind_code}
use Rattle.tree.specs.Codes.{Converts}
use Rattle.tree.specs.Limits.{most_words}
use Rattle.tree.specs.Outline.{filled}
use Rattle.tree.specs.Notes.{note_kind, field_count, fields_at, fields_end, end_at, end_notes}
use Rattle.tree.specs.Trees.{◌▸◌}
use Rattle.tree.specs.declared.kind.Kind.{Kind as KindCode}
use Rattle.tree.specs.declared.word.Unknown.{Unknown}
use Rattle.tree.specs.declared.kind.Kind.TheVariants as kind
use Rattle.tree.proofs.RowLaws.{in-turn}

or-false : (a b : Bool) → (a || b) ≡ false → (a ≡ false) × (b ≡ false)
or-false true b e = impossible cc
or-false false b e = (refl, e)

-- ---- the kinds

-- the notes after one word, and after two
module _ (at next : ℕ) (notes : List ℕ) {v number : ℕ} {notes₁ : List ℕ} (e : notes₁ ≡ set notes at v) (n : v ≡ number) where
  pub noted_one : next ≤ at + 1 → notes₁ ≡ note_kind at next number notes
  noted_one h = let l : ltb (at + 1) next ≡ false = le-ltb (at + 1) next h in rw l (e ∙ ap (set notes at) n)

  pub noted-two : {notes₂ : List ℕ} → at + 1 < next → notes₂ ≡ set notes₁ (at + 1) 0 → notes₂ ≡ note_kind at next number notes
  noted-two h f =
      let l : ltb (at + 1) next ≡ true = lt-ltb (at + 1) next h in
      rw l (f ∙ ap (λ (x : List ℕ). set x (at + 1) 0) (e ∙ ap (set notes at) n))

-- ---- the ends

-- the loop over a row's kinds: of n fields as many are passed as kinds
pub field-passed : (ends : List ℕ) (n i at : ℕ) {end r : ℕ} → i < n → end ≡ get_or ends at 0 → fields_end (n - i) ends at ≡ r → fields_end (n - (i + 1)) ends end ≡ r
field-passed ends n i at h e f =
    let m : n - i ≡ suc (n - (i + 1)) = omega arith in
    ap (fields_end (n - (i + 1)) ends) e ∙ sym (ap (λ (k : ℕ). fields_end k ends at) m) ∙ f

-- ---- the fields of what has a kind's number, and of what has none

all_kinds : List KindCode
all_kinds =
    kind.Bool ∷ kind.Operator ∷ kind.Mode ∷ kind.Expr ∷ kind.Stmt ∷ kind.AExpr ∷ kind.OptionName ∷ kind.OptionExpr ∷ kind.OptionStmt ∷ kind.OptionDefinition
    ∷ kind.Names ∷ kind.Exprs ∷ kind.Bindings ∷ kind.Patterns ∷ kind.ClosureBindings ∷ kind.ClosureProperties ∷ kind.Stmts ∷ kind.CallArguments ∷ kind.Cases
    ∷ kind.AExprs ∷ kind.Taggers ∷ kind.FParameters ∷ kind.Functions ∷ kind.Axioms ∷ kind.PParameters ∷ kind.Procedures ∷ kind.Name ∷ kind.Natural ∷ []

-- a number from 1 to 28 is a kind's
kind-with : (n : ℕ) → 0 < n → n ≤ 28 → (k : KindCode) × (kind_code k ≡ n)
unfolding all_kinds
kind-with n h l =
    let m : length all_kinds ≡ 28 = refl in
    let r = in-turn kind_code 1 all_kinds (refl ▸ refl ▸ refl ▸ refl ▸ refl ▸ refl ▸ refl ▸ refl ▸ refl ▸ refl ▸ refl ▸ refl ▸ refl ▸ refl ▸ refl ▸ refl ▸ refl ▸ refl ▸ refl ▸ refl ▸ refl ▸ refl ▸ refl ▸ refl ▸ refl ▸ refl ▸ refl ▸ refl ▸ tt) (n - 1) (omega arith) in
    (r.0, omega (arith, r.1))

module _ (number w : ℕ) where
  -- a number without a kind has no fields
  pub fields-none : (x : Unknown) → Converts kind_code number (Err x) → fields_at number w ≡ 0
  fields-none x d = by-test (eqb number second_word || ltb natural_kind number) refl
    where
      by-test : (b : Bool) → (eqb number second_word || ltb natural_kind number) ≡ b → fields_at number w ≡ 0
      by-test true e = rw e
      by-test false e =
          let o = or-false (eqb number second_word) (ltb natural_kind number) e in
          let z = eqb-false number second_word o.0 in
          let l = ltb-false natural_kind number o.1 in
          let k = kind-with number (omega arith) (omega arith) in
          let f : ◌≡◌ {A = Result KindCode Unknown} (Err x) (Ok k.0) = (d k.0).1 k.1 in
          impossible cc

-- a name and a natural have one
pub fields-pair : (k : KindCode) (w : ℕ) → (k ≡ kind.Name) ⊎ (k ≡ kind.Natural) → fields_at (kind_code k) w ≡ 1
fields-pair k w (inl e) = rw e
fields-pair k w (inr e) = rw e

-- another those of its row
pub fields-row : (k : KindCode) (w : ℕ) → (k ≡ kind.Name → ⊥) → (k ≡ kind.Natural → ⊥) → fields_at (kind_code k) w ≡ field_count (by_row (as_kind k) w)
unfolding kind_of
fields-row kind.Bool w n m = refl
fields-row kind.Operator w n m = refl
fields-row kind.Mode w n m = refl
fields-row kind.Expr w n m = refl
fields-row kind.Stmt w n m = refl
fields-row kind.AExpr w n m = refl
fields-row kind.OptionName w n m = refl
fields-row kind.OptionExpr w n m = refl
fields-row kind.OptionStmt w n m = refl
fields-row kind.OptionDefinition w n m = refl
fields-row kind.Names w n m = refl
fields-row kind.Exprs w n m = refl
fields-row kind.Bindings w n m = refl
fields-row kind.Patterns w n m = refl
fields-row kind.ClosureBindings w n m = refl
fields-row kind.ClosureProperties w n m = refl
fields-row kind.Stmts w n m = refl
fields-row kind.CallArguments w n m = refl
fields-row kind.Cases w n m = refl
fields-row kind.AExprs w n m = refl
fields-row kind.Taggers w n m = refl
fields-row kind.FParameters w n m = refl
fields-row kind.Functions w n m = refl
fields-row kind.Axioms w n m = refl
fields-row kind.PParameters w n m = refl
fields-row kind.Procedures w n m = refl
fields-row kind.Name w n m = absurd (n refl)
fields-row kind.Natural w n m = absurd (m refl)

-- so what begins at a place ends after its fields
module _ (words kinds ends : List ℕ) (at : ℕ) {r number : ℕ} (k : number ≡ get_or kinds at 0) where
  pub end_by : (count : ℕ) → fields_at number (get_or words at 0) ≡ count → r ≡ fields_end count ends (at + 1) → r ≡ end_at words kinds at ends
  end_by count e h = h ∙ sym (ap (λ (n : ℕ). fields_end n ends (at + 1)) (ap (λ (x : ℕ). fields_at x (get_or words at 0)) (sym k) ∙ e))

-- the loop over the places: the ends from i on are found
pub record Ending (words kinds ends₀ ends : List ℕ) (i : ℕ) : Type 0 where
  pub few : length words ≤ most_words
  pub inside : i ≤ length words
  pub kept : length ends ≡ length ends₀
  pub found : end_notes words kinds i ends ≡ end_notes words kinds (length words) ends₀

pub ending-more : {words kinds ends₀ ends ends₁ : List ℕ} {i v : ℕ} → Ending words kinds ends₀ ends i → 0 < i → v ≡ end_at words kinds (i - 1) ends → ends₁ ≡ set ends (i - 1) v
    → Ending words kinds ends₀ ends₁ (i - 1)
unfolding end_notes
ending-more {words} {kinds} {ends₀} {ends} {ends₁} {i} {v} e h f g =
    let n : i ≡ suc (i - 1) = omega arith in
    record {
      few = e.few;
      inside = omega (arith, e.inside);
      kept = ap length g ∙ simp length-set e.kept;
      found =
          ap (end_notes words kinds (i - 1)) (g ∙ ap (set ends (i - 1)) f)
          ∙ sym (ap (λ (k : ℕ). end_notes words kinds k ends) n)
          ∙ e.found;
    }

pub ending-ends : {words kinds ends₀ ends : List ℕ} {i : ℕ} → Ending words kinds ends₀ ends i → i ≤ 0 → ends ≡ end_notes words kinds (length words) ends₀
unfolding end_notes
ending-ends {words} {kinds} {ends₀} {ends} {i} e h = let z : 0 ≡ i = omega arith in ap (λ (k : ℕ). end_notes words kinds k ends) z ∙ e.found

-- ---- copies

-- the numbers, as far as there is a place for them, and what stands behind
pub filled-cut : (from before : List ℕ) (m : ℕ) → m ≡ min (length from) (length before) → take m from ++ drop m before ≡ filled from before
filled-cut [] before m e = let z : m ≡ 0 = omega arith in rw z
filled-cut (x ∷ from) [] m e = let z : m ≡ 0 = omega arith in rw z
filled-cut (x ∷ from) (b ∷ before) m e =
    let z : m ≡ suc (min (length from) (length before)) = omega arith in
    rw z (ap (λ (l : List ℕ). x ∷ l) (filled-cut from before (min (length from) (length before)) refl))
