-- What `outline_program` leaves in a slice, by what the check says of the table.
use Rattle.std.specs.Prelude.{ℕ, ◌≤◌, ◌<◌, ◌≡◌, refl, List, [], length, get_or}
use Rattle.std.proofs.Common.{arith, ◌∙◌}
use Rattle.std.proofs.Math.Path.{ap}
use Rattle.std.proofs.Math.Option.{Option, none, some}
use Rattle.tree.specs.Limits.{most_words}
use Rattle.tree.specs.Ast.{Program}
use Rattle.tree.specs.Words.{program_words}
use Rattle.tree.specs.Kind.{program_fields}
use Rattle.tree.specs.Check.{NameIn, within, Refusal, program_refusal}
use Rattle.tree.specs.Refused.{program-unrefused}
use Rattle.tree.specs.Trees.{names_in}
use Rattle.tree.specs.Accepted.{complete}
use Rattle.tree.specs.Tables.{from_program}
use Rattle.tree.specs.Outline.{kind_numbers, end_places, filled, unless_refused, program_kinds, program_ends}
use Rattle.tree.specs.OutlineLaws.{lengths, bounded, filled_at, filled-later}
use Rattle.tree.specs.OutlineTrees.{Stands, stands-start}

module _ (table : List ℕ) (len : ℕ) where
  -- the trees of a program's table, from its start on
  pub stands : (p : Program (NameIn len)) → program_words (λ n. n.span) p [] ≡ table
      → Stands (names_in len) program_fields table 0 program_fields (from_program (names_in len) p)
  stands p e = stands-start (names_in len) program_fields table (from_program (names_in len) p) e

  module _ (before : List ℕ) where
    -- both slices of an accepted table are filled
    unrefused : program_refusal table len ≡ none
        → (program_kinds table len before ≡ filled (kind_numbers (within len) program_fields table) before)
        × (program_ends table len before ≡ filled (end_places (within len) program_fields 0 table) before)
    unfolding program_kinds program_ends
    unrefused e = (
      ap (λ (r : Option Refusal). unless_refused r (kind_numbers (within len) program_fields table) before) e,
      ap (λ (r : Option Refusal). unless_refused r (end_places (within len) program_fields 0 table) before) e,
    )

    pub refused : {r : Refusal} → program_refusal table len ≡ some r → (program_kinds table len before ≡ before) × (program_ends table len before ≡ before)
    unfolding program_kinds program_ends
    refused e = (
      ap (λ (r : Option Refusal). unless_refused r (kind_numbers (within len) program_fields table) before) e,
      ap (λ (r : Option Refusal). unless_refused r (end_places (within len) program_fields 0 table) before) e,
    )

    -- of a table that holds a tree, with a place for each word
    pub outlined : (p : Program (NameIn len)) → program_words (λ n. n.span) p [] ≡ table → length table ≤ most_words → length table ≤ length before
        → (i : ℕ) → i < length table
        → (get_or (program_kinds table len before) i 0 ≡ get_or (kind_numbers (within len) program_fields table) i 0)
        × (get_or (program_ends table len before) i 0 ≡ get_or (end_places (within len) program_fields 0 table) i 0)
    outlined p e few room i h =
        let u = unrefused ((program-unrefused table len).1 (few, (p, e))) in
        let n = lengths (within len) program_fields 0 table (complete (names_in len) program_fields 0 table (from_program (names_in len) p) e) in
        let m = n.0 in
        let l = n.1 in (
          ap (λ (s : List ℕ). get_or s i 0) u.0 ∙ filled_at (kind_numbers (within len) program_fields table) before i (omega arith) (omega arith),
          ap (λ (s : List ℕ). get_or s i 0) u.1 ∙ filled_at (end_places (within len) program_fields 0 table) before i (omega arith) (omega arith),
        )

    -- past the words nothing changes
    pub later : (i : ℕ) → length table ≤ i → (get_or (program_kinds table len before) i 0 ≡ get_or before i 0) × (get_or (program_ends table len before) i 0 ≡ get_or before i 0)
    later i h = by-refusal (program_refusal table len) refl
      where
        by-refusal : (o : Option Refusal) → program_refusal table len ≡ o
            → (get_or (program_kinds table len before) i 0 ≡ get_or before i 0) × (get_or (program_ends table len before) i 0 ≡ get_or before i 0)
        by-refusal none e =
            let u = unrefused e in
            let n = bounded (within len) program_fields 0 table in
            let m = n.0 in
            let l = n.1 in (
              ap (λ (s : List ℕ). get_or s i 0) u.0 ∙ filled-later (kind_numbers (within len) program_fields table) before i (omega arith),
              ap (λ (s : List ℕ). get_or s i 0) u.1 ∙ filled-later (end_places (within len) program_fields 0 table) before i (omega arith),
            )
        by-refusal (some r) e = let k = refused e in (ap (λ (s : List ℕ). get_or s i 0) k.0, ap (λ (s : List ℕ). get_or s i 0) k.1)
