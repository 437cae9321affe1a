-- The first misplaced byte: place by place over a layout, and the length of bytes that are laid out.
use Rattle.std.specs.Prelude.{ℕ, suc, ◌+◌, ◌<◌, ◌≤◌, ◌≡◌, true, false, List, [], ◌∷◌, length, get_or, drop, Option, None, Some}
use Rattle.std.proofs.Common.{arith, refl, sym, ◌∙◌, ap, drop-cons, add-one}
use Rattle.std.proofs.Math.ListN.{drop_of_length-le}
use Rattle.lexing.specs.Answer.{pick}
use Rattle.lexing.specs.RunLaws.{pick-cases}
use Rattle.tree.specs.Clash.{impossible}
use Rattle.settings.specs.Fields.{admits, misplaced}

-- bytes with none misplaced are as many as are laid out
pub laid_out_length : (layout : List (Option ℕ)) (at : ℕ) (bytes : List ℕ) → misplaced layout at bytes ≡ None → length bytes ≡ length layout
unfolding misplaced
laid_out_length [] at [] e = refl
laid_out_length [] at (b ∷ s) e = impossible cc
laid_out_length (t ∷ layout) at [] e = impossible cc
laid_out_length (t ∷ layout) at (b ∷ s) e =
    pick-cases (admits t b) e
    (λ (i : admits t b ≡ true) (f : misplaced layout (suc at) s ≡ None). ap suc (laid_out_length layout (suc at) s f))
    (λ (i : admits t b ≡ false) (f : Some at ≡ None). impossible cc)

-- ---- place by place

-- the first i bytes are as laid out
pub record Passed (layout : List (Option ℕ)) (bytes : List ℕ) (i : ℕ) : Type 0 where
  pub inside : i ≤ length bytes
  pub rest : misplaced (drop i layout) i (drop i bytes) ≡ misplaced layout 0 bytes

module _ {layout : List (Option ℕ)} {bytes : List ℕ} {i : ℕ} (p : Passed layout bytes i) where
  module _ (l : i < length layout) where
    -- there is no byte i
    pub missing : i ≡ length bytes → Some i ≡ misplaced layout 0 bytes
    unfolding misplaced
    missing e =
        let d : drop i bytes ≡ [] = drop_of_length-le bytes (omega arith) in
        rw (d, drop-cons layout i None l) at p.rest

    module _ (h : i < length bytes) (d : Option ℕ) where
      at-place : misplaced (drop i layout) i (drop i bytes)
          ≡ pick (admits (get_or layout i d) (get_or bytes i 0)) (misplaced (drop (suc i) layout) (suc i) (drop (suc i) bytes)) (Some i)
      unfolding misplaced
      at-place = rw (drop-cons layout i d l, drop-cons bytes i 0 h) refl

      -- byte i is as laid out
      pub passed : admits (get_or layout i d) (get_or bytes i 0) ≡ true → Passed layout bytes (i + 1)
      passed e = record { inside = omega arith; rest = rw add-one (sym (rw e at at-place) ∙ p.rest) }

      -- byte i is not
      pub differs : admits (get_or layout i d) (get_or bytes i 0) ≡ false → Some i ≡ misplaced layout 0 bytes
      differs e = sym (rw e at at-place) ∙ p.rest

  module _ (e : i ≡ length layout) where
    at-end : misplaced [] i (drop i bytes) ≡ misplaced layout 0 bytes
    at-end = let d : drop i layout ≡ [] = drop_of_length-le layout (omega arith) in rw d at p.rest

    -- all is passed that is laid out, and a byte is left
    pub too-many : length layout < length bytes → Some (length layout) ≡ misplaced layout 0 bytes
    unfolding misplaced
    too-many h = let k : i < length bytes = omega arith in sym (ap Some e) ∙ rw (drop-cons bytes i 0 k) at at-end

    -- and none is left
    pub complete : length bytes ≤ length layout → None ≡ misplaced layout 0 bytes
    unfolding misplaced
    complete h = let d : drop i bytes ≡ [] = drop_of_length-le bytes (omega arith) in rw d at at-end
