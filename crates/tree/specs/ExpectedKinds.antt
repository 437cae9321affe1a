-- The kinds of what is expected: a mark changes none.
use Rattle.std.specs.Prelude.{◌≡◌, refl, List, [], ◌∷◌, ◌++◌}
use Rattle.std.proofs.Common.{ap}
use Rattle.std.proofs.Math.Option.{Option}
use Rattle.tree.specs.Kind.{Kind}
use Rattle.tree.specs.Tally.{Mark, Expected, marked}

abbrev pub kinds_in : List Expected → List Kind
kinds_in [] = []
kinds_in (e ∷ es) = e.kind ∷ kinds_in es

-- a mark changes no kind
pub marked-kinds : (ks : List Kind) (m : Option Mark) → kinds_in (marked ks m) ≡ ks
marked-kinds [] m = refl
marked-kinds (k ∷ []) m = refl
marked-kinds (k ∷ l ∷ ks) m = ap (λ (x : List Kind). k ∷ x) (marked-kinds (l ∷ ks) m)

-- the kinds of marked kinds before others
pub marked_append : (ks : List Kind) (m : Option Mark) (es : List Expected) → kinds_in (marked ks m ++ es) ≡ ks ++ kinds_in es
marked_append [] m es = refl
marked_append (k ∷ []) m es = refl
marked_append (k ∷ l ∷ ks) m es = ap (λ (x : List Kind). k ∷ x) (marked_append (l ∷ ks) m es)
