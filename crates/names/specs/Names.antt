-- The number of each span of a list: its bytes' place among the distinct names, in the order of first occurrence. A span is two words,
-- its start and its length; its name is the bytes that it covers.
use Rattle.std.specs.Prelude.{ℕ, suc, Bool, true, false, cond, List, [], ◌∷◌, take, eqb}
use Rattle.tree.specs.Resolve.{part}

-- how many spans are numbered, and how many bytes of a text are read
abbrev pub most_spans : ℕ
most_spans = 32768

abbrev pub most_bytes : ℕ
most_bytes = 65535

-- the names of the spans; a single last word is no span
unfoldable pub spelt : List ℕ → List ℕ → List (List ℕ)
spelt text [] = []
spelt text (start ∷ []) = []
spelt text (start ∷ len ∷ spans) = part text start len ∷ spelt text spans

unfoldable pub names : List ℕ → List ℕ → List (List ℕ)
names text spans = take most_spans (spelt (take most_bytes text) spans)

-- whether two names are equal
unfoldable pub same : List ℕ → List ℕ → Bool
same [] [] = true
same [] (y ∷ b) = false
same (x ∷ a) [] = false
same (x ∷ a) (y ∷ b) = cond (eqb x y) (same a b) false

-- the place of the first name that equals b; where none does, how many there are
unfoldable pub number : List (List ℕ) → List ℕ → ℕ
number [] b = 0
number (a ∷ seen) b = cond (same a b) 0 (suc (number seen b))

-- the distinct names with b, at their end if it is new
unfoldable pub with : List (List ℕ) → List ℕ → List (List ℕ)
with [] b = b ∷ []
with (a ∷ seen) b = cond (same a b) (a ∷ seen) (a ∷ with seen b)

-- the number of each name, and the distinct names at the end, after the distinct names so far
unfoldable pub numbering : List (List ℕ) → List (List ℕ) → List ℕ
numbering seen [] = []
numbering seen (b ∷ bs) = number seen b ∷ numbering (with seen b) bs

unfoldable pub distinct : List (List ℕ) → List (List ℕ) → List (List ℕ)
distinct seen [] = seen
distinct seen (b ∷ bs) = distinct (with seen b) bs
