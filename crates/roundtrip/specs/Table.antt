-- Of a context only the side that faces the parent matters: an operand that prints without brackets fits in the level that its parent's
-- operator asks for at that side. One table over both operators and the side.
use Rattle.std.specs.Prelude.{ℕ, ◌≡◌, refl, Bool, true, false, ◌&&◌, List, [], ◌∷◌, leb, ltb}
use Rattle.lexing.specs.Answer.{pick}
use Rattle.lexing.specs.RunLaws.{pick-case, both_true}
use Rattle.tree.specs.Ast.{Operator, IfThenElse, Equiv, LogicalImp, LogicalAnd, LogicalOr, Eq, Neq, Less, AtMost, Plus, Minus, Times, Div, Mod}
use Rattle.tree.specs.Ast.{LogicalNot, UnaryMinus}
use Rattle.tree.specs.Ast.{Exprs, BLiteral, ILiteral, CustomLiteral, IdExpr, OperatorExpr, FunctionCallExpr, LabeledExpr, LetExpr, QuantifierExpr}
use Rattle.tree.specs.Ast.{ClosureExpr}
use Rattle.grammar.specs.Grammar.{Tree}
use Rattle.grammar.specs.OperatorTrees.{not_on_the_right, is_none_of, fits_right}
use Rattle.layout.specs.declared.power.BindingPower.{BindingPower}
use Rattle.layout.specs.declared.power.Side.{Side}
use Rattle.layout.specs.declared.power.Side.TheVariants.{Left, Right}
use Rattle.rendering.specs.OperatorWords.{operators}
use Rattle.layout.specs.PrintUtil.{BreakTieInFavorOfOperator, pulls, wins, WinsOver, SubexpressionPower, BindingStrength}
use Rattle.roundtrip.specs.Levels.{Level, operand, within, fits_in, operand-fits}
use Rattle.roundtrip.specs.Operators.{level_of, place}

-- `op` wins at the end that faces `parent`, whose operand at a side it is
abbrev wins_near : Bool → BindingPower → Side → BindingPower → Bool
wins_near tie parent Left op = pulls tie op.right parent.left
wins_near tie parent Right op = pulls tie op.left parent.right

abbrev tie : BindingPower → BindingPower → Bool
tie op parent = BreakTieInFavorOfOperator op.tie_breaker parent.tie_breaker

wins-ends : (t : Bool) (op context : BindingPower) → wins t op context ≡ true
    → (pulls t op.left context.left ≡ true) × (pulls t op.right context.right ≡ true)
wins-ends true op context h = both_true (leb context.left op.left) (leb context.right op.right) h
wins-ends false op context h = both_true (ltb context.left op.left) (ltb context.right op.right) h

wins-near : (parent op context : BindingPower) (side : Side) → WinsOver op (SubexpressionPower parent side context) ≡ true
    → wins_near (tie op parent) parent side op ≡ true
unfolding WinsOver SubexpressionPower
wins-near parent op context Left h = (wins-ends (tie op parent) op (SubexpressionPower parent Left context) h).1
wins-near parent op context Right h = (wins-ends (tie op parent) op (SubexpressionPower parent Right context) h).0

-- a faithful tree may have the operator at the top of that operand
abbrev allowed : Operator → Side → Operator → Bool
allowed parent Left op = true
allowed parent Right op = is_none_of (not_on_the_right parent) op

-- the table: an allowed operator that wins fits
abbrev sound : Operator → Side → Operator → Bool
sound parent side op =
    pick (allowed parent side op && wins_near (tie (BindingStrength op) (BindingStrength parent)) (BindingStrength parent) side (BindingStrength op))
    (fits_in (level_of op) (place parent side)) true

abbrev every_of : List Operator → (Operator → Bool) → Bool
every_of [] f = true
every_of (op ∷ ops) f = f op && every_of ops f

abbrev Every : List Operator → (Operator → Bool) → Type 0
Every [] f = Unit {0}
Every (op ∷ ops) f = (f op ≡ true) × Every ops f

every_of_lem : (ops : List Operator) (f : Operator → Bool) → every_of ops f ≡ true → Every ops f
every_of_lem [] f h = tt
every_of_lem (op ∷ ops) f h = let (a, b) = both_true (f op) (every_of ops f) h in (a, every_of_lem ops f b)

-- all operators; printing's list is by their words, without the last one
abbrev all : List Operator
all = UnaryMinus ∷ operators

-- what is tested of every operator holds of each
each : (f : Operator → Bool) → every_of all f ≡ true → (op : Operator) → f op ≡ true
each f h op = by-operator (every_of_lem all f h) op
  where
    by-operator : Every all f → (op : Operator) → f op ≡ true
    by-operator h IfThenElse = h.1.0
    by-operator h Equiv = h.1.1.1.0
    by-operator h LogicalImp = h.1.1.1.1.0
    by-operator h LogicalAnd = h.1.1.1.1.1.0
    by-operator h LogicalOr = h.1.1.1.1.1.1.0
    by-operator h Eq = h.1.1.1.1.1.1.1.0
    by-operator h Neq = h.1.1.1.1.1.1.1.1.0
    by-operator h Less = h.1.1.1.1.1.1.1.1.1.0
    by-operator h AtMost = h.1.1.1.1.1.1.1.1.1.1.0
    by-operator h Plus = h.1.1.1.1.1.1.1.1.1.1.1.0
    by-operator h Minus = h.1.1.1.1.1.1.1.1.1.1.1.1.0
    by-operator h Times = h.1.1.1.1.1.1.1.1.1.1.1.1.1.0
    by-operator h Div = h.1.1.1.1.1.1.1.1.1.1.1.1.1.1.0
    by-operator h Mod = h.1.1.1.1.1.1.1.1.1.1.1.1.1.1.1.0
    by-operator h LogicalNot = h.1.1.1.1.1.1.1.1.1.1.1.1.1.1.1.1.0
    by-operator h UnaryMinus = h.0

table : (side : Side) (parent op : Operator) → sound parent side op ≡ true
unfolding fits_in within not_on_the_right is_none_of
table Left parent = each (sound parent Left) (each (λ parent. every_of all (sound parent Left)) refl parent)
table Right parent = each (sound parent Right) (each (λ parent. every_of all (sound parent Right)) refl parent)

-- the level of an operand's print in a context: an operator's, or that of a bracketed expression
abbrev pub level_in : Tree → BindingPower → Level
level_in (BLiteral b) context = operand
level_in (ILiteral n) context = operand
level_in (CustomLiteral s t) context = operand
level_in (IdExpr w o) context = operand
level_in (OperatorExpr op es) context = pick (WinsOver (BindingStrength op) context) (level_of op) operand
level_in (FunctionCallExpr w es) context = operand
level_in (LabeledExpr w t) context = operand
level_in (LetExpr w y t u) context = operand
level_in (QuantifierExpr u bs ps t) context = operand
level_in (ClosureExpr bs w y ps) context = operand

-- a faithful tree may have that operand at a side
abbrev pub allowed_tree : Operator → Side → Tree → Bool
allowed_tree parent Left t = true
allowed_tree parent Right t = fits_right parent t

-- an operator that excludes none on its right allows every operand
pub all-allowed : (parent : Operator) → not_on_the_right parent ≡ [] → (t : Tree) → fits_right parent t ≡ true
unfolding fits_right is_none_of
all-allowed parent e (BLiteral b) = refl
all-allowed parent e (ILiteral n) = refl
all-allowed parent e (CustomLiteral s t) = refl
all-allowed parent e (IdExpr w o) = refl
all-allowed parent e (OperatorExpr op es) = rw e refl
all-allowed parent e (FunctionCallExpr w es) = refl
all-allowed parent e (LabeledExpr w t) = refl
all-allowed parent e (LetExpr w y t u) = refl
all-allowed parent e (QuantifierExpr u bs ps t) = refl
all-allowed parent e (ClosureExpr bs w y ps) = refl

allowed-operator : (parent : Operator) (side : Side) (op : Operator) (es : Exprs (List ℕ)) → allowed_tree parent side (OperatorExpr op es) ≡ true
    → allowed parent side op ≡ true
unfolding fits_right
allowed-operator parent Left op es h = refl
allowed-operator parent Right op es h = h

module _ (parent : Operator) (side : Side) (context : BindingPower) where
  abbrev operand_power : BindingPower
  operand_power = SubexpressionPower (BindingStrength parent) side context

  operator-fits : (op : Operator) → allowed parent side op ≡ true
      → fits_in (pick (WinsOver (BindingStrength op) operand_power) (level_of op) operand) (place parent side) ≡ true
  operator-fits op h =
      pick-case (λ l. fits_in l (place parent side) ≡ true) (WinsOver (BindingStrength op) operand_power)
      (λ w. simp (h, wins-near (BindingStrength parent) (BindingStrength op) context side w) at (table side parent op))
      (λ w. operand-fits (place parent side))

  -- an operand's print fits
  pub operand-print-fits : (t : Tree) → allowed_tree parent side t ≡ true → fits_in (level_in t operand_power) (place parent side) ≡ true
  operand-print-fits (BLiteral b) h = operand-fits (place parent side)
  operand-print-fits (ILiteral n) h = operand-fits (place parent side)
  operand-print-fits (CustomLiteral s t) h = operand-fits (place parent side)
  operand-print-fits (IdExpr w o) h = operand-fits (place parent side)
  operand-print-fits (OperatorExpr op es) h = operator-fits op (allowed-operator parent side op es h)
  operand-print-fits (FunctionCallExpr w es) h = operand-fits (place parent side)
  operand-print-fits (LabeledExpr w t) h = operand-fits (place parent side)
  operand-print-fits (LetExpr w y t u) h = operand-fits (place parent side)
  operand-print-fits (QuantifierExpr u bs ps t) h = operand-fits (place parent side)
  operand-print-fits (ClosureExpr bs w y ps) h = operand-fits (place parent side)
