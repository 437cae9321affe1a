-- What the code notes for the outline of a table: the kinds from the first word on, the ends from the last word back. Only contracts of private
-- functions cite this file.
use Rattle.std.specs.Prelude.{ℕ, zero, suc, ◌+◌, Bool, true, cond, ◌||◌, List, [], ◌∷◌, ◌++◌, length, get_or, set, eqb, leb, ltb}
use Rattle.tree.specs.Kind.{Kind, Turn, fits, misfit, turn}
use Rattle.tree.specs.KindNumbers.{kind_number, second_word, name_kind, natural_kind, kind_of}

-- the notes after a step from a place to the next, with a second word between them where the next is not the very next
abbrev pub note_kind : ℕ → ℕ → ℕ → List ℕ → List ℕ
note_kind at next number notes = cond (ltb (at + 1) next) (set (set notes at number) (at + 1) second_word) (set notes at number)

-- the notes after the words from a place on are passed, as far as they fit; `run` goes the same way
unfoldable pub kind_notes : (ℕ → ℕ → Bool) → List Kind → ℕ → List ℕ → List ℕ → List ℕ
kind_notes inside [] at [] notes = notes
kind_notes inside [] at (w ∷ ws) notes = notes
kind_notes inside (k ∷ ks) at [] notes = notes
kind_notes inside (k ∷ ks) at (w ∷ ws) notes =
    elim (turn inside k w) [ fits fs ↦ kind_notes inside (fs ++ ks) (suc at) ws (set notes at (kind_number k)) | misfit back ↦ notes ]

-- how many fields a word has, by the number of its kind
abbrev pub field_count : Turn → ℕ
field_count (fits fs) = length fs
field_count (misfit back) = 0

abbrev pub fields_at : ℕ → ℕ → ℕ
fields_at number w = cond (eqb number second_word || ltb natural_kind number) 0 (cond (leb name_kind number) 1 (field_count (turn (λ s l. true) (kind_of number) w)))

-- where so many trees end, the first of which begins at a place: each begins where the one before it ends
abbrev pub fields_end : ℕ → List ℕ → ℕ → ℕ
fields_end zero ends at = at
fields_end (suc n) ends at = fields_end n ends (get_or ends at 0)

-- where what begins at a place ends, by the ends behind it
abbrev pub end_at : List ℕ → List ℕ → ℕ → List ℕ → ℕ
end_at words kinds at ends = fields_end (fields_at (get_or kinds at 0) (get_or words at 0)) ends (at + 1)

-- the ends of the first so many places, from the last to the first
unfoldable pub end_notes : List ℕ → List ℕ → ℕ → List ℕ → List ℕ
end_notes words kinds zero ends = ends
end_notes words kinds (suc i) ends = end_notes words kinds i (set ends i (end_at words kinds i ends))
