-- What the code keeps of labels: their spans, their numbers, and the place up to which a statement of each number goes on.
use Rattle.std.specs.Prelude.{ℕ, ◌+◌, ◌*◌, ◌<◌, ◌≤◌, ◌≡◌, ◌↔◌, true, cond, List, length, get_or, ltb, Option, Some, None}
use Rattle.tree.specs.Limits.{most_words}
use Rattle.tree.specs.Tags.{labeled_stmt_tag}
use Rattle.profile.specs.declared.outline.Outline.{Outline}
use Rattle.profile.specs.Profile.{Places, statement, exit, name, around}

-- the places of a table by its words, and by the numbers in two slices
abbrev pub listed : (words kinds ends : List ℕ) → Places
listed words kinds ends = record { word = λ at. get_or words at 0; kind = λ at. get_or kinds at 0; end = λ at. get_or ends at 0 }

-- the places of an outline
abbrev pub places_of : Outline → Places
places_of o = listed o.words.now o.kinds.now o.ends.now

module _ (t : Places) where
  -- where the label's name stands of a labelled statement, and of an exit with a label
  abbrev pub label : ℕ → Option ℕ
  label at = cond (statement t labeled_stmt_tag at) (Some (at + 1)) (cond (exit t at) (Some (at + 2)) None)

  -- of the first n places with a label the span stands at twice the place
  pub record Spanned (n : ℕ) (spans : List ℕ) : Type 0 where
    pub room : length spans ≡ 2 * most_words
    pub spanned : (at q : ℕ) → at < n → label at ≡ Some q → (get_or spans (2 * at) 0 ≡ t.word q) × (get_or spans (2 * at + 1) 0 ≡ t.word (q + 1))

  module _ (text : List ℕ) where
    -- of n places those of an exit with a label and of any label have equal numbers exactly where the labels' bytes are equal
    pub record Numbered (n : ℕ) (numbers : List ℕ) : Type 0 where
      pub few : n ≤ most_words
      pub room : length numbers ≡ most_words
      pub below : (at : ℕ) → at < n → get_or numbers at 0 < most_words
      pub equal : (i j r : ℕ) → i < n → j < n → exit t i ≡ true → label j ≡ Some r → (get_or numbers i 0 ≡ get_or numbers j 0) ↔ (name t text (i + 2) ≡ name t text r)

    -- a place is before that of the number of an exit's label exactly where a statement of the label that begins before `start` goes on there
    pub record Open (n : ℕ) (numbers : List ℕ) (start : ℕ) (until : List ℕ) : Type 0 where
      pub room : length until ≡ most_words
      pub goes-on : (at : ℕ) → at < n → exit t at ≡ true → (i : ℕ) → ltb i (get_or until (get_or numbers at 0) 0) ≡ around t text start (name t text (at + 2)) i
