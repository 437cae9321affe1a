-- What prints are made of. A print takes the bytes that follow it, so a sequence of prints is a nest to the right.
use Rattle.std.specs.Prelude.{ℕ, zero, suc, ◌+◌, ◌/◌, ◌%◌, Bool, true, false, List, [], ◌∷◌, ◌++◌, ltb}
use Prim.Native.String.{String}
use Rattle.lexing.specs.Bytes.{bytes}

infixr 60 ◌▹◌
infixr 60 ◌▸◌
-- bytes, then what follows
abbrev pub ◌▹◌ : List ℕ → List ℕ → List ℕ
a ▹ rest = a ++ rest

-- fixed text, then what follows
abbrev pub ◌▸◌ : String → List ℕ → List ℕ
s ▸ rest = bytes s ++ rest

-- bytes that are left out where `skip`
abbrev pub unless : (skip : Bool) → List ℕ → List ℕ
unless true x = []
unless false x = x

-- the decimal digits of n, with fuel for more than n of them
unfoldable pub digits : ℕ → ℕ → List ℕ → List ℕ
digits zero n rest = rest
digits (suc k) n rest = elim (ltb n 10) [ true ↦ (48 + n) ∷ rest | false ↦ digits k (n / 10) ((48 + n % 10) ∷ rest) ]

-- a natural in decimal
abbrev pub decimal : ℕ → List ℕ → List ℕ
decimal n rest = digits (suc n) n rest
