-- Numbers of spans, computed.
use Rattle.std.specs.Prelude.{ℕ, ◌≡◌, refl, List, [], ◌∷◌, length, replicate}
use Rattle.tree.specs.Resolve.{part}
use Rattle.names.specs.Names.{spelt, names, same, number, with, numbering, distinct}
use Rattle.tree.specs.Outline.{filled}

-- three spans with the numbers 0 1 0: equal bytes at different places
text : List ℕ
text = 7 ∷ 0 ∷ 255 ∷ 7 ∷ 0 ∷ 9 ∷ []

three : List ℕ
three = 0 ∷ 2 ∷ 2 ∷ 1 ∷ 3 ∷ 2 ∷ []

three-names : names text three ≡ (7 ∷ 0 ∷ []) ∷ (255 ∷ []) ∷ (7 ∷ 0 ∷ []) ∷ []
unfolding text three names spelt part
three-names = refl

three-numbers : numbering [] (names text three) ≡ 0 ∷ 1 ∷ 0 ∷ []
unfolding text three names spelt part numbering number with same
three-numbers = refl

three-distinct : distinct [] (names text three) ≡ (7 ∷ 0 ∷ []) ∷ (255 ∷ []) ∷ []
unfolding text three names spelt part distinct with same
three-distinct = refl

-- the empty name, one that is the beginning of another, and one of the same length with other bytes
lengths : numbering [] (names text (0 ∷ 1 ∷ 0 ∷ 2 ∷ 5 ∷ 0 ∷ 1 ∷ 1 ∷ 3 ∷ 1 ∷ 0 ∷ 0 ∷ [])) ≡ 0 ∷ 1 ∷ 2 ∷ 3 ∷ 0 ∷ 2 ∷ []
unfolding text names spelt part numbering number with same
lengths = refl

-- new names after a repeated one; the distinct names in the order of their first spans
five : List ℕ
five = 3 ∷ 2 ∷ 0 ∷ 2 ∷ 5 ∷ 1 ∷ 2 ∷ 1 ∷ 5 ∷ 1 ∷ []

five-numbers : numbering [] (names text five) ≡ 0 ∷ 0 ∷ 1 ∷ 2 ∷ 1 ∷ []
unfolding text five names spelt part numbering number with same
five-numbers = refl

five-distinct : distinct [] (names text five) ≡ (7 ∷ 0 ∷ []) ∷ (9 ∷ []) ∷ (255 ∷ []) ∷ []
unfolding text five names spelt part distinct with same
five-distinct = refl

-- spans partly and wholly outside the text: what of them is inside, and the empty name
outside : names text (5 ∷ 4 ∷ 6 ∷ 1 ∷ 4000000000 ∷ 4000000000 ∷ 4 ∷ 2 ∷ []) ≡ (9 ∷ []) ∷ [] ∷ [] ∷ (0 ∷ 9 ∷ []) ∷ []
unfolding text names spelt part
outside = refl

-- a last word without a length
odd : names text (5 ∷ 1 ∷ 3 ∷ []) ≡ (9 ∷ []) ∷ []
unfolding text names spelt part
odd = refl

-- 32,769 spans: the first 32,768 have names
most-named : length (names [] (replicate 65538 0)) ≡ 32768
unfolding names spelt part
most-named = refl

-- a text of 65,536 bytes: the first 65,535 are read
most-read : names (replicate 65536 7) (65534 ∷ 2 ∷ []) ≡ (7 ∷ []) ∷ []
unfolding names spelt part
most-read = refl

-- numbers written over a longer list and over a shorter one
longer : filled (0 ∷ 1 ∷ 0 ∷ []) (5 ∷ 5 ∷ 5 ∷ 6 ∷ 7 ∷ []) ≡ 0 ∷ 1 ∷ 0 ∷ 6 ∷ 7 ∷ []
longer = refl

shorter : filled (0 ∷ 1 ∷ 0 ∷ []) (5 ∷ 5 ∷ []) ≡ 0 ∷ 1 ∷ []
shorter = refl
