-- What the outline of a program's table answers and leaves, by the check's answer.
use Rattle.std.specs.Prelude.{Err}
use Prim.Native.Nat.{ℕ, ◌≤◌}
use mathlib.Core.Path.{◌≡◌, refl, sym, ap, ◌∙◌}
use mathlib.Core.Bool.{Bool, true, false, cond}
use mathlib.Core.Option.{Option, none, some}
use mathlib.Core.List.{List}
use lib.ListN.{length, take}
use lib.Dec.{leb}
use borrow.Author.Tests.{leb-true}
use Rattle.tree.specs.Clash.{impossible}
use Rattle.tree.specs.Limits.{most_words}
use Rattle.tree.specs.Kind.{program_fields}
use Rattle.tree.specs.Check.{one_tree, Checked, run, within, check_program, Refusal, refusal, program_refusal}
use Rattle.tree.specs.Outline.{kind_numbers, end_places, filled, unless_refused, program_kinds, program_ends}
use Rattle.tree.specs.Notes.{kind_notes, end_notes}
use Rattle.tree.specs.declared.CheckError.TheVariants.{TooManyWords}
use Rattle.tree.proofs.AcceptedOutline.{kinds-found, kinds-numbered, ends_found}

module _ (words : List ℕ) (len : ℕ) where
  -- a table that the check accepts is not too long, and a run over its words accepts them
  pub accepted : {r : Checked} → r ≡ one_tree → r ≡ check_program words len → (length words ≤ most_words) × (run (within len) program_fields 0 words ≡ one_tree)
  unfolding check_program
  accepted e f = by-test (leb (length words) most_words) refl (sym f ∙ e)
    where
      by-test : (b : Bool) → leb (length words) most_words ≡ b → cond b (run (within len) program_fields 0 words) (Err TooManyWords) ≡ one_tree
          → (length words ≤ most_words) × (run (within len) program_fields 0 words ≡ one_tree)
      by-test true h g = (leb-true _ _ h, g)
      by-test false h g = impossible cc

  -- the refusal of an answer
  pub refusal-of : {r : Checked} → r ≡ check_program words len → program_refusal words len ≡ refusal r
  unfolding program_refusal
  refusal-of e = ap refusal (sym e)

  -- of a refused table everything stays
  pub refused-keeps : {q : Refusal} → program_refusal words len ≡ some q → (before : List ℕ) → (before ≡ program_kinds words len before) × (before ≡ program_ends words len before)
  unfolding program_kinds program_ends
  refused-keeps e before = (
    sym (ap (λ (r : Option Refusal). unless_refused r (kind_numbers (within len) program_fields words) before) e),
    sym (ap (λ (r : Option Refusal). unless_refused r (end_places (within len) program_fields 0 words) before) e),
  )

  -- of an accepted one the kinds and the ends are copied
  module _ (e : program_refusal words len ≡ none) (r : run (within len) program_fields 0 words ≡ one_tree) (noted : List ℕ) {noted₁ : List ℕ}
      (room : length words ≤ length noted) (n : noted₁ ≡ kind_notes (within len) program_fields 0 words noted) where
    numbers : take (length words) noted₁ ≡ kind_numbers (within len) program_fields words
    numbers = ap (take (length words)) n ∙ kinds-found (within len) program_fields words r noted room

    pub kinds-copied : (kinds : List ℕ) {kinds₁ : List ℕ} → kinds₁ ≡ filled (take (length words) noted₁) kinds → kinds₁ ≡ program_kinds words len kinds
    unfolding program_kinds
    kinds-copied kinds f =
        f ∙ ap (λ (l : List ℕ). filled l kinds) numbers
        ∙ sym (ap (λ (r : Option Refusal). unless_refused r (kind_numbers (within len) program_fields words) kinds) e)

    pub ends-copied : (found ends : List ℕ) {found₁ ends₁ : List ℕ} → length words ≤ length found → found₁ ≡ end_notes words noted₁ (length words) found
        → ends₁ ≡ filled (take (length words) found₁) ends → ends₁ ≡ program_ends words len ends
    unfolding program_ends
    ends-copied found ends l g f =
        f
        ∙ ap (λ (l : List ℕ). filled (take (length words) l) ends) g
        ∙ ap (λ (l : List ℕ). filled l ends)
        (ends_found (within len) program_fields words noted₁ r (kinds-numbered (within len) program_fields words r noted₁ numbers) found l)
        ∙ sym (ap (λ (r : Option Refusal). unless_refused r (end_places (within len) program_fields 0 words) ends) e)
