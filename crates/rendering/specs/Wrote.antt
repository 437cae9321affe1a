-- What a write does to a buffer. A print is a function of the bytes that follow it, as in `Text`, so prints one after the other are
-- composed functions.
use Rattle.std.specs.Prelude.{ℕ, ◌+◌, ◌≤◌, min, ◌≡◌, List, ◌++◌, length, take}
use Rattle.std.specs.Fn.{FnOnceReturnsAtMut}
use denote.Ref.{MutBor}
use denote.Param.Members.{Once}
use Rattle.rendering.specs.declared.printer.Printer.{Printer}

-- The print X was written into the buffer b from the place p on, which left b' and the place p' after the print. A place past the buffer's
-- end says that the print did not fit.
pub record Wrote (X : List ℕ → List ℕ) (b : List ℕ) (p : ℕ) (b' : List ℕ) (p' : ℕ) : Type 0 where
  pub size : ℕ
  pub adds : (rest : List ℕ) → length (X rest) ≡ size + length rest
  pub same : length b' ≡ length b
  pub place : min p' (length b + 1) ≡ min (p + size) (length b + 1)
  pub bytes : p' ≤ length b → (rest : List ℕ) → take p' b' ++ rest ≡ take p b ++ X rest

-- A printer wrote the print X, and nothing else of it changed.
pub record Puts (X : List ℕ → List ℕ) (s s' : Printer) : Type 0 where
  pub source : s'.source ≡ s.source
  pub output : s'.out.ghost_name ≡ s.out.ghost_name
  pub still : s'.at ≡ s.at
  pub wrote : Wrote X s.out.now s.pos s'.out.now s'.pos

-- f may be called at any place for so many bytes
abbrev pub Takes : {F : Type 0} → Once F (MutBor (List ℕ) × Unit {0}) (Unit {0} × (MutBor (List ℕ) × Unit {0})) → F → ℕ → Type 0
Takes g f size = (p : MutBor (List ℕ)) → length p.now ≡ size → g.pre f (p, tt)

-- it leaves the bytes x at any place for as many
abbrev pub Stores : {F : Type 0} → Once F (MutBor (List ℕ) × Unit {0}) (Unit {0} × (MutBor (List ℕ) × Unit {0})) → F → List ℕ → Type 0
Stores g f x = (y z : List ℕ) → length y ≡ length x → FnOnceReturnsAtMut g f y tt z → z ≡ x
