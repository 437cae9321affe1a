-- A name of a faithful tree is an identifier and a name of an operand: the words that are no operand's name are keywords.
use Prim.Native.Nat.{ℕ, zero, suc}
use Prim.Native.String.{String}
use Rattle.std.specs.Prelude.{◌≡◌, Bool, true, ◌||◌, not, drop}
use Rattle.std.proofs.Math.Path.{refl}
use Rattle.std.proofs.Math.Bool.{false}
use mathlib.Core.List.{List, [], ◌∷◌}
use borrow.Author.Tests.{not-true}
use Rattle.lexing.specs.RunLaws.{both_true}
use Rattle.lexing.specs.Bytes.{same_bytes, bytes}
use Rattle.grammar.specs.Words.{one_of, keywords, is_name, is_identifier, is_faithful_name}
use Rattle.tree.specs.Clash.{impossible}

or-false : (a b : Bool) → (a || b) ≡ false → (a ≡ false) × (b ≡ false)
or-false true b h = impossible (cc)
or-false false b h = (refl, h)

module _ (w : List ℕ) where
  abbrev FirstIsNot : List String → Type 0
  FirstIsNot [] = Unit {0}
  FirstIsNot (v ∷ vs) = same_bytes (bytes v) w ≡ false

  -- w is none of the words, so not the one after n others
  not_at : (n : ℕ) (vs : List String) → one_of vs w ≡ false → FirstIsNot (drop n vs)
  unfolding one_of
  not_at zero [] h = tt
  not_at zero (v ∷ vs) h = (or-false (same_bytes (bytes v) w) (one_of vs w) h).0
  not_at (suc n) [] h = tt
  not_at (suc n) (v ∷ vs) h = not_at n vs (or-false (same_bytes (bytes v) w) (one_of vs w) h).1

  -- it is an identifier
  pub faithful-identifier : is_faithful_name w ≡ true → is_identifier w ≡ true
  unfolding is_faithful_name
  faithful-identifier h = (both_true (is_identifier w) (not (one_of keywords w)) h).0

  -- the eight words, by their places among the keywords
  pub faithful-name : is_faithful_name w ≡ true → is_name w ≡ true
  unfolding is_faithful_name is_name one_of
  faithful-name h =
      let k : one_of keywords w ≡ false = not-true (one_of keywords w) (both_true (is_identifier w) (not (one_of keywords w)) h).1 in
      rw (not_at 29 keywords k, not_at 17 keywords k, not_at 26 keywords k, not_at 37 keywords k, not_at 38 keywords k, not_at 43 keywords k, not_at 44 keywords k, not_at 45 keywords k) refl
