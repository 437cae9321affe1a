-- PrintUtil.dfy: binding strengths and expression formats; and the strengths and spellings of the operators, from RawAst.dfy. The indent
-- step, upstream's `IndentAmount`, is a parameter; upstream's is 2. The types of strengths, sides and formats are those of src/.
use Rattle.std.specs.Prelude.{ℕ, ◌+◌, min, Bool, true, false, ◌&&◌, List, [], ◌∷◌, leb, ltb, eqb, replicate}
use Prim.Native.String.{String}
use Rattle.tree.specs.Ast.{Operator, IfThenElse, Equiv, LogicalImp, LogicalAnd, LogicalOr, Eq, Neq, Less, AtMost, Plus, Minus, Times, Div, Mod, LogicalNot, UnaryMinus}
use Rattle.layout.specs.declared.power.TieBreaker.{TieBreaker}
use Rattle.layout.specs.declared.power.TieBreaker.TheVariants.{OperatorWins, ContextWins, SameFamilyWins}
use Rattle.layout.specs.declared.power.Side.{Side}
use Rattle.layout.specs.declared.power.Side.TheVariants.{Left, Right}
use Rattle.layout.specs.declared.power.BindingPower.{BindingPower}
use Rattle.layout.specs.declared.format.ExprFormatOption.{ExprFormatOption}
use Rattle.layout.specs.declared.format.ExprFormatOption.TheVariants.{SingleLine, MultipleLines}

-- ---- ExprFormatOption

abbrev pub Indent : ℕ → List ℕ
Indent n = replicate n 32

-- a space, or a line end and the indent
abbrev pub Space : ExprFormatOption → List ℕ
Space SingleLine = 32 ∷ []
Space (MultipleLines indent) = 10 ∷ Indent indent

abbrev pub More : ℕ → ExprFormatOption → ExprFormatOption
More step SingleLine = SingleLine
More step (MultipleLines indent) = MultipleLines (indent + step)

-- the start indent of a format; 0 on one line
abbrev pub start_indent : ExprFormatOption → ℕ
start_indent SingleLine = 0
start_indent (MultipleLines indent) = indent

-- an indent one step deeper, or the greatest that 64 bits hold where that is less
abbrev pub deeper_by : (step indent : ℕ) → ℕ
deeper_by step indent = min (indent + step) 18446744073709551615

-- `More` with such indents: what 64 bits give
abbrev pub Deeper : ℕ → ExprFormatOption → ExprFormatOption
Deeper step SingleLine = SingleLine
Deeper step (MultipleLines indent) = MultipleLines (deeper_by step indent)

-- ---- BindingPower

abbrev pub is_operator_wins : TieBreaker → Bool
is_operator_wins OperatorWins = true
is_operator_wins ContextWins = false
is_operator_wins (SameFamilyWins n) = false

-- the context's tie breaker is OperatorWins, or SameFamilyWins of n too
abbrev pub same_family : ℕ → TieBreaker → Bool
same_family n OperatorWins = true
same_family n ContextWins = false
same_family n (SameFamilyWins m) = eqb n m

abbrev pub BreakTieInFavorOfOperator : TieBreaker → TieBreaker → Bool
BreakTieInFavorOfOperator OperatorWins context = true
BreakTieInFavorOfOperator ContextWins context = is_operator_wins context
BreakTieInFavorOfOperator (SameFamilyWins n) context = same_family n context

abbrev pub power : ℕ → ℕ → TieBreaker → BindingPower
power l r t = record { left = l; right = r; tie_breaker = t }

abbrev pub Init : BindingPower
Init = power 0 0 OperatorWins

abbrev pub EndlessOperator : BindingPower
EndlessOperator = power 1000 0 OperatorWins

-- the operator pulls more strongly than the context, or as strongly where a tie goes to it
abbrev pub pulls : (tie : Bool) (op context : ℕ) → Bool
pulls true op context = leb context op
pulls false op context = ltb context op

-- the operator wins on both sides
abbrev pub wins : (tie : Bool) → BindingPower → BindingPower → Bool
wins tie op context = pulls tie op.left context.left && pulls tie op.right context.right

-- the operator wins over the context
unfoldable pub WinsOver : BindingPower → BindingPower → Bool
WinsOver op context = wins (BreakTieInFavorOfOperator op.tie_breaker context.tie_breaker) op context

-- the context inside the parentheses, where the operator does not win
abbrev pub adjusted : Bool → BindingPower → BindingPower
adjusted true context = context
adjusted false context = Init

abbrev pub side_power : BindingPower → Side → BindingPower → BindingPower
side_power op Left context = power context.left op.left op.tie_breaker
side_power op Right context = power op.right context.right op.tie_breaker

-- the context of the operand at a side
unfoldable pub SubexpressionPower : BindingPower → Side → BindingPower → BindingPower
SubexpressionPower op side context = side_power op side (adjusted (WinsOver op context) context)

abbrev pub parenthesis : Bool → Side → List ℕ
parenthesis true side = []
parenthesis false Left = 40 ∷ []
parenthesis false Right = 41 ∷ []

-- "(" or ")", where the operator does not win
abbrev pub Parenthesis : Side → BindingPower → BindingPower → List ℕ
Parenthesis side op context = parenthesis (WinsOver op context) side

-- ---- Operator

abbrev pub ToString : Operator → String
ToString IfThenElse = "if-then-else"
ToString Equiv = "<==>"
ToString LogicalImp = "==>"
ToString LogicalAnd = "&&"
ToString LogicalOr = "||"
ToString Eq = "=="
ToString Neq = "!="
ToString Less = "<"
ToString AtMost = "<="
ToString Plus = "+"
ToString Minus = "-"
ToString Times = "*"
ToString Div = "div"
ToString Mod = "mod"
ToString LogicalNot = "!"
ToString UnaryMinus = "-"

abbrev pub BindingStrength : Operator → BindingPower
BindingStrength IfThenElse = EndlessOperator
BindingStrength Equiv = power 20 20 OperatorWins
BindingStrength LogicalImp = power 31 30 OperatorWins
BindingStrength LogicalAnd = power 40 40 (SameFamilyWins 0)
BindingStrength LogicalOr = power 40 40 (SameFamilyWins 1)
BindingStrength Eq = power 50 50 ContextWins
BindingStrength Neq = power 50 50 ContextWins
BindingStrength Less = power 50 50 ContextWins
BindingStrength AtMost = power 50 50 ContextWins
BindingStrength Plus = power 60 60 OperatorWins
BindingStrength Minus = power 60 61 OperatorWins
BindingStrength Times = power 70 70 OperatorWins
BindingStrength Div = power 70 71 OperatorWins
BindingStrength Mod = power 70 71 OperatorWins
BindingStrength LogicalNot = power 80 80 OperatorWins
BindingStrength UnaryMinus = power 80 80 OperatorWins
