-- A table of words that are compared one after another.
use Rattle.std.proofs.Common.{ℕ, ◌+◌, ◌<◌, ◌≡◌, ◌∙◌, ap, false, List, [], ◌∷◌, length, drop, get_or, Bor}
use Rattle.std.proofs.lemmas.List.{drop_more}
use Rattle.lexing.specs.Answer.{pick}
use Rattle.lexing.specs.Bytes.{same_bytes}

-- what stands beside the first of the words that the bytes are, or else `other`
abbrev pub beside : {K : Type 0} → K → List ℕ → List (Bor (List ℕ) × K) → K
beside other b [] = other
beside other b (l ∷ ls) = pick (same_bytes b l.0.now) l.1 (beside other b ls)

-- the next word is not it
pub beside-next : {K : Type 0} (other : K) (b : List ℕ) (ls : List (Bor (List ℕ) × K)) (i : ℕ) (d : Bor (List ℕ) × K) {k : K} → i < length ls
    → same_bytes b (get_or ls i d).0.now ≡ false → k ≡ beside other b (drop i ls) → k ≡ beside other b (drop (i + 1) ls)
beside-next other b ls i d h e s =
    s ∙ ap (beside other b) (drop_more ls i d h) ∙ ap (λ t. pick t (get_or ls i d).1 (beside other b (drop (i + 1) ls))) e
