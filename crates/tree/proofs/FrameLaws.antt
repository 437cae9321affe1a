-- What a frame of the walk's stack expects: its first kind and the rest.
use Prim.Native.Nat.{suc}
use native.Mathlib.Omega.{arith}
use mathlib.Core.Path.{◌≡◌, refl, sym, ap, ◌∙◌}
use mathlib.Core.Bool.{Bool, false, cond}
use mathlib.Core.Option.{Option as Maybe, none}
use mathlib.Core.List.{List, [], ◌∷◌, map}
use lib.ListN.{length}
use lib.Dec.{leb}
use borrow.Author.Tests.{lt-leb}
use Rattle.std.specs.Prelude.{Some}
use Rattle.tree.specs.Tally.{Mark, marked}
use Rattle.tree.specs.KindCodes.{as_kind}
use Rattle.tree.specs.Rows.{as_mark, expected_of, own_mark, Splits}
use Rattle.tree.specs.declared.kind.Kind.{Kind as KindCode}
use Rattle.tree.specs.declared.frames.Frame.{Frame}

-- the last kind of some has the mark, another has none
marked-cons : (k : KindCode) (ks : List KindCode) (m : Maybe Mark)
    → marked (map as_kind (k ∷ ks)) m ≡ record { kind = as_kind k; mark = cond (leb (length ks) 0) m none } ∷ marked (map as_kind ks) m
marked-cons k [] m = refl
marked-cons k (l ∷ ks) m =
    let b : leb (suc (length ks)) 0 ≡ false = lt-leb (suc (length ks)) 0 (omega arith) in
    ap (λ (o : Bool). record { kind = as_kind k; mark = cond o m none } ∷ marked (map as_kind (l ∷ ks)) m) (sym b)

-- a frame's first kind with its mark, and what is expected after it
pub frame-cons : (f : Frame) (k : KindCode) (rest : Frame) → Splits f (Some (k, rest))
    → expected_of f ≡ record { kind = as_kind k; mark = own_mark rest } ∷ expected_of rest
frame-cons f k rest s =
    (λ i. marked (map as_kind (s.0 i)) (as_mark (sym s.1 i))) ∙ marked-cons k rest.kinds.now (as_mark rest.mark)

-- a frame without kinds
pub frame-none : (f : Frame) → f.kinds.now ≡ [] → expected_of f ≡ []
frame-none f e = ap (λ (ks : List KindCode). marked (map as_kind ks) (as_mark f.mark)) e
