-- The parts of a table that hold expressions, with their prints: what the methods of src/expression.rt print.
use Rattle.std.specs.Prelude.{ℕ, ◌+◌, ◌*◌, ◌≤◌, ◌≡◌, Bool, List, length, drop}
use Rattle.std.proofs.Math.Option.{Option}
use Rattle.tree.specs.Ast as ast
use Rattle.tree.specs.Ast.{Binding, Expr, OperatorExpr, FunctionCallExpr, LabeledExpr, LetExpr, QuantifierExpr, ClosureExpr}
use Rattle.tree.specs.Ast.{Exprs, no_exprs, ◌then◌, Patterns, ClosureBindings, ClosureProperties}
use Rattle.tree.specs.Words.{expr_words, exprs_words, patterns_words, closure_bindings_words, closure_properties_words}
use Rattle.tree.specs.Codes.{as_operator}
use Rattle.tree.specs.declared.word.Operator.{Operator}
use Rattle.tree.specs.Limits.{most_words}
use Rattle.tree.specs.Counted.{CountedExpr, CountedExprs, CountedPatterns, CountedClosureBindings, CountedClosureProperties}
use Rattle.layout.specs.declared.power.BindingPower.{BindingPower}
use Rattle.layout.specs.declared.format.ExprFormatOption.{ExprFormatOption}
use Rattle.layout.specs.declared.format.ExprFormatOption.TheVariants.{SingleLine}
use Rattle.layout.specs.PrintUtil.{start_indent, Init}
use Rattle.layout.specs.Printer as layout
use Rattle.layout.specs.Printer.{Operand, ExpressionList, is_if, Expression, operands, patterns, closure_bindings, triggers, properties}
use Rattle.rendering.specs.declared.printer.Printer.{Printer}
use Rattle.rendering.specs.declared.printer.Source.{Source}
use Rattle.rendering.specs.Tables.{most_indent}
use Rattle.rendering.specs.Parts.{N, named, Parts}

-- an operand of an operator
abbrev pub operand : (S : Source) → Expr (N S) → Operand
operand S e = record { print = λ c f r. Expression (named S) S.step e c f r; is_if = is_if e }

-- whether an expression that stands where a printer is is an IfThenElse, of any number of operands
pub record IsIf (s : Printer) (r : Bool) : Type 0 where
  pub tells : (t : Expr (N s.source)) (rest : List ℕ) → drop s.at s.source.words.now ≡ expr_words (λ n. n.span) t rest → r ≡ is_if t

-- the greatest indent step that the prints are proved for: that of one byte
abbrev pub widest_step : ℕ
widest_step = 255

-- what the prints need beside the numbers of items: a table no longer than a checked one, a step that is not too great, and an indent that
-- grows no faster than the place
pub record Ready (S : Source) (at indent : ℕ) : Type 0 where
  pub few : length S.words.now ≤ most_words
  pub short : S.step ≤ widest_step
  pub room : indent ≤ most_indent + widest_step * at

-- the numbers of an expression's sequences
abbrev pub Numbered : (S : Source) → Expr (N S) → List ℕ → Type 0
Numbered S e rest = CountedExpr (λ n. n.span) S.counts.now (length S.words.now) e rest

-- trees whose sequences are counted, at an indent
abbrev pub counted : {A : Source → Type 0} → ((S : Source) → A S → List ℕ → Type 0) → ((S : Source) → A S → List ℕ → List ℕ) → ((S : Source) → A S → List ℕ → List ℕ)
    → (Source → ℕ) → Parts
counted {A} numbers words print indent S at =
    record { Tree = A S; given = λ a rest. Ready S at (indent S) × numbers S a rest; words = words S; print = print S }

abbrev pub an_expr : BindingPower → ExprFormatOption → Parts
an_expr context format =
    counted Numbered (λ S. expr_words {N = N S} (λ n. n.span)) (λ S t rest. Expression (named S) S.step t context format rest) (λ S. start_indent format)

-- ---- after the first word: the expressions that are made in one way, where an indent one step deeper fits too

abbrev pub opened : {A : Source → Type 0} → ((S : Source) → A S → Expr (N S)) → BindingPower → ExprFormatOption → Parts
opened make context format =
    counted (λ S a rest. Numbered S (make S a) rest) (λ S a rest. drop 1 (expr_words (λ n. n.span) (make S a) rest))
    (λ S a rest. Expression (named S) S.step (make S a) context format rest) (λ S. start_indent format + S.step)

abbrev pub an_operator_expr : BindingPower → ExprFormatOption → Parts
an_operator_expr = opened (λ S (a : ast.Operator × Exprs (N S)). OperatorExpr a.0 a.1)

abbrev pub a_call : Parts
a_call = opened (λ S (a : N S × Exprs (N S)). FunctionCallExpr a.0 a.1) Init SingleLine

abbrev pub a_label : BindingPower → ExprFormatOption → Parts
a_label = opened (λ S (a : N S × Expr (N S)). LabeledExpr a.0 a.1)

abbrev pub a_let : BindingPower → ExprFormatOption → Parts
a_let = opened (λ S (a : N S × Option (N S) × Expr (N S) × Expr (N S)). LetExpr a.0 a.1 a.2 a.3)

abbrev pub a_quantifier : BindingPower → ExprFormatOption → Parts
a_quantifier = opened (λ S (a : Bool × List (Binding (N S)) × Patterns (N S) × Expr (N S)). QuantifierExpr a.0 a.1 a.2 a.3)

abbrev pub a_closure : Parts
a_closure = opened (λ S (a : ClosureBindings (N S) × N S × N S × ClosureProperties (N S)). ClosureExpr a.0 a.1 a.2 a.3) Init SingleLine

-- ---- after the operator's word: its operands, between their parentheses

abbrev pub operands_of : {A : Source → Type 0} → Operator → ((S : Source) → A S → Exprs (N S)) → ((S : Source) → ast.Operator → A S → List ℕ → List ℕ) → ExprFormatOption → Parts
operands_of op es print format =
    counted (λ S a rest. Numbered S (OperatorExpr (as_operator op) (es S a)) rest) (λ S a rest. exprs_words (λ n. n.span) (es S a) rest)
    (λ S a rest. print S (as_operator op) a rest) (λ S. start_indent format + S.step)

abbrev pub a_form : Operator → BindingPower → ExprFormatOption → Parts
a_form op context format =
    operands_of op (λ S (es : Exprs (N S)). es) (λ S o es rest. layout.operator_form S.step o (operands (named S) S.step es) context format rest) format

abbrev pub a_listed : Operator → Parts
a_listed op = operands_of op (λ S (es : Exprs (N S)). es) (λ S o es rest. layout.listed o (operands (named S) S.step es) Init SingleLine rest) SingleLine

abbrev pub a_unary : Operator → BindingPower → Parts
a_unary op context =
    operands_of op (λ S (a : Expr (N S)). ◌then◌ a no_exprs) (λ S o a rest. layout.unary o (operand S a) context SingleLine rest) SingleLine

abbrev pub a_binary : Operator → BindingPower → ExprFormatOption → Parts
a_binary op context format =
    operands_of op (λ S (a : Expr (N S) × Expr (N S)). ◌then◌ a.0 (◌then◌ a.1 no_exprs))
    (λ S o a rest. layout.binary o (operand S a.0) (operand S a.1) context format rest) format

abbrev pub a_conditional : Operator → BindingPower → ExprFormatOption → Parts
a_conditional op context format =
    operands_of op (λ S (a : Expr (N S) × Expr (N S) × Expr (N S)). ◌then◌ a.0 (◌then◌ a.1 (◌then◌ a.2 no_exprs)))
    (λ S o a rest. layout.conditional S.step o (operand S a.0) (operand S a.1) (operand S a.2) context format rest) format

-- the expression after `else`, in the format or the deeper one
abbrev pub an_else : BindingPower → ExprFormatOption → ExprFormatOption → Parts
an_else context format deeper =
    counted (λ S e rest. (start_indent format ≤ start_indent deeper) × Numbered S e rest) (λ S. expr_words {N = N S} (λ n. n.span))
    (λ S e rest. layout.else_branch (is_if e) (operand S e) context format deeper rest) (λ S. start_indent deeper)

-- ---- sequences

abbrev pub expression_list : (separator : List ℕ) → Parts
expression_list separator =
    counted (λ S. CountedExprs {N = N S} (λ n. n.span) S.counts.now (length S.words.now)) (λ S. exprs_words (λ n. n.span))
    (λ S es rest. ExpressionList separator (operands (named S) S.step es) rest) (λ S. 0)

abbrev pub pattern_list : ExprFormatOption → Parts
pattern_list format =
    counted (λ S. CountedPatterns {N = N S} (λ n. n.span) S.counts.now (length S.words.now)) (λ S. patterns_words (λ n. n.span))
    (λ S ps rest. patterns (named S) S.step ps format rest) (λ S. start_indent format)

abbrev pub trigger_list : Parts
trigger_list =
    counted (λ S. CountedPatterns {N = N S} (λ n. n.span) S.counts.now (length S.words.now)) (λ S. patterns_words (λ n. n.span))
    (λ S ps rest. triggers (named S) S.step ps rest) (λ S. 0)

abbrev pub closure_list : (separator : List ℕ) → Parts
closure_list separator =
    counted (λ S. CountedClosureBindings {N = N S} (λ n. n.span) S.counts.now (length S.words.now)) (λ S. closure_bindings_words (λ n. n.span))
    (λ S bs rest. closure_bindings (named S) S.step bs separator rest) (λ S. 0)

abbrev pub property_list : (separator : List ℕ) → Parts
property_list separator =
    counted (λ S. CountedClosureProperties {N = N S} (λ n. n.span) S.counts.now (length S.words.now)) (λ S. closure_properties_words (λ n. n.span))
    (λ S ps rest. properties (named S) S.step ps separator rest) (λ S. 0)
