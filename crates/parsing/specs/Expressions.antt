-- What the rules of expressions promise: the rules by the levels that are left, and the sequences that commas part.
use Rattle.std.specs.Prelude.{ℕ, ◌≡◌, Bool, true, false, List, Result, Ok, Err}
use Rattle.lexing.specs.Answer.{ok, refused}
use Rattle.lexing.specs.CodeAnswers.{number}
use Rattle.lexing.specs.declared.refusal.Refusal.{Refusal}
use Rattle.tree.specs.Ast.{Span, Expr, Binding, Exprs, Patterns, ClosureBindings, ClosureProperties, CallArgument, FParameter, PParameter}
use Rattle.tree.specs.Words.{expr_words, exprs_words, patterns_words, closure_bindings_words, closure_properties_words, name_words, binding_words, seq_words}
use Rattle.tree.specs.Words.{call_argument_words, f_parameter_words, p_parameter_words}
use Rattle.grammar.specs.Grammar.{Class}
use Rattle.grammar.specs.Steps.{parse_name}
use Rattle.grammar.specs.Rules.{Sequence, exprs, bindings, closures, properties, ClosureItem, PropertyItem, left_tail, operator_of, after_name, after_quantifier}
use Rattle.grammar.specs.Rules.{parse_nonempty_comma_delimited_seq, parse_listed, parse_marked, parse_id_type, parse_closure_binding, parse_closure_property}
use Rattle.grammar.specs.Statements.{names, arguments, parse_call_argument}
use Rattle.grammar.specs.Declarations.{formals, parameters, parse_function_formal, parse_proc_formal}
use Rattle.parsing.specs.Arena.{Run}
use Rattle.parsing.specs.Contract.{Rule, Later, Missing, same}
use Rattle.parsing.specs.Code.{turns, inner, opened, tighter_of}
use Rattle.parsing.specs.declared.parser.Parser.{Parser}
use Rattle.parsing.specs.declared.expr.seq.Kind.{Kind}
use Rattle.parsing.specs.declared.expr.seq.Kind.TheVariants.{Exprs as ExprItems, Bindings as BindingItems, Closures as ClosureItems, Properties as PropertyItems}
use Rattle.parsing.specs.declared.expr.seq.Kind.TheVariants.{Names as NameItems, Formals as FormalItems, Parameters as ParameterItems, Arguments as ArgumentItems}

-- ---- levels

-- after the operand e: the rest of a chain that leans left
abbrev pub left_rest : Class → ℕ → Expr Span → Rule (Expr Span)
left_rest k depth e text at = left_tail (turns text) (operator_of text k) (tighter_of k depth text) e at

-- whether an operator stands where the parser does
pub record Seen {A : Type 0} (rule : Rule A) (p q : Parser) : Type 0 where
  pub value : A
  pub next : ℕ
  pub says : rule p.text.now p.at ≡ ok value next
  pub later : Later p q
  pub at_same : q.at ≡ p.at
  pub top_same : q.top ≡ p.top

abbrev pub Sees : {A : Type 0} → Rule A → Parser → Parser → Result Bool Refusal → Type 0
Sees rule p q (Ok true) = Seen rule p q
Sees rule p q (Ok false) = Missing rule p q
Sees rule p q (Err e) = rule p.text.now p.at ≡ refused (number e.reason) e.place

-- ---- operands

-- after a name
abbrev pub name_rule : Span → ℕ → Rule (Expr Span)
name_rule n depth text = after_name text (turns text) (inner depth text) n

-- after `forall` or `exists`
abbrev pub quantifier_rule : Bool → ℕ → Rule (Expr Span)
quantifier_rule universal depth text = after_quantifier text (turns text) (inner depth text) universal

-- ---- sequences

-- the items of a kind, and their sequence
abbrev pub ItemOf : Kind → Type 0
ItemOf ExprItems = Expr Span
ItemOf BindingItems = Binding Span
ItemOf ClosureItems = ClosureItem
ItemOf PropertyItems = PropertyItem
ItemOf NameItems = Span
ItemOf FormalItems = FParameter Span
ItemOf ParameterItems = PParameter Span
ItemOf ArgumentItems = CallArgument Span

abbrev pub ListOf : Kind → Type 0
ListOf ExprItems = Exprs Span
ListOf BindingItems = List (Binding Span)
ListOf ClosureItems = ClosureBindings Span
ListOf PropertyItems = ClosureProperties Span
ListOf NameItems = List Span
ListOf FormalItems = List (FParameter Span)
ListOf ParameterItems = List (PParameter Span)
ListOf ArgumentItems = List (CallArgument Span)

abbrev pub sequence_of : (k : Kind) → Sequence (ItemOf k) (ListOf k)
sequence_of ExprItems = exprs
sequence_of BindingItems = bindings
sequence_of ClosureItems = closures
sequence_of PropertyItems = properties
sequence_of NameItems = names
sequence_of FormalItems = formals
sequence_of ParameterItems = parameters
sequence_of ArgumentItems = arguments

abbrev pub closure_words : ClosureItem → Run
closure_words c r = name_words same c.0 (seq_words (binding_words same) c.1 (expr_words same c.2 r))

abbrev pub property_words : PropertyItem → Run
property_words p r = patterns_words same p.0 (expr_words same p.1 r)

abbrev pub item_words : (k : Kind) → ItemOf k → Run
item_words ExprItems = expr_words same
item_words BindingItems = binding_words same
item_words ClosureItems = closure_words
item_words PropertyItems = property_words
item_words NameItems = name_words same
item_words FormalItems = f_parameter_words same
item_words ParameterItems = p_parameter_words same
item_words ArgumentItems = call_argument_words same

abbrev pub list_words : (k : Kind) → ListOf k → Run
list_words ExprItems = exprs_words same
list_words BindingItems = seq_words (binding_words same)
list_words ClosureItems = closure_bindings_words same
list_words PropertyItems = closure_properties_words same
list_words NameItems = seq_words (name_words same)
list_words FormalItems = seq_words (f_parameter_words same)
list_words ParameterItems = seq_words (p_parameter_words same)
list_words ArgumentItems = seq_words (call_argument_words same)

abbrev pub item_rule : (k : Kind) → ℕ → Rule (ItemOf k)
item_rule ExprItems depth text = inner depth text
item_rule BindingItems depth text = parse_id_type text
item_rule ClosureItems depth text = parse_closure_binding text (turns text) (inner depth text)
item_rule PropertyItems depth text = parse_closure_property text (turns text) (inner depth text)
item_rule NameItems depth text = parse_name text
item_rule FormalItems depth text = parse_function_formal text
item_rule ParameterItems depth text = parse_proc_formal text (turns text) (opened depth text)
item_rule ArgumentItems depth text = parse_call_argument text (turns text) (opened depth text)

abbrev pub items_rule : (k : Kind) → ℕ → Rule (ListOf k)
items_rule k depth text = parse_nonempty_comma_delimited_seq text (turns text) (sequence_of k) (item_rule k depth text)

-- the sequence of a kind, and the sign that closes it
abbrev pub list_rule : (k : Kind) → List ℕ → ℕ → Rule (ListOf k)
list_rule k close depth text = parse_listed text (turns text) (sequence_of k) (item_rule k depth text) close

-- patterns or triggers, by their word
abbrev pub marked_rule : List ℕ → ℕ → Rule (Patterns Span)
marked_rule w depth text = parse_marked text (turns text) (inner depth text) (turns text) w
