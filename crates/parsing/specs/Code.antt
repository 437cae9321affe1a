-- The rules that the code's methods are held to, in terms of the grammar's rules, and nodes over trees.
use Rattle.std.specs.Prelude.{ℕ, suc, ◌+◌, ◌<◌, ◌≡◌, true, false, List, [], ◌∷◌, length, get_or}
use Rattle.lexing.specs.Answer.{Answer}
use Rattle.tree.specs.Ast.{Span, Expr, BLiteral, ILiteral, IdExpr, Operator, OperatorExpr, no_exprs, ◌then◌, Binding, binding, ParameterMode, InOut, Out, CallArgument, PParameter}
use Rattle.tree.specs.Codes.{as_operator}
use Rattle.tree.specs.Words.{mode_word, name_words}
use Rattle.tree.specs.declared.word.Operator.{Operator as OperatorCode}
use Rattle.grammar.specs.Grammar.{single, build, Class, product, sum, comparison, conjunction, disjunction, implication, explication, equivalence}
use Rattle.grammar.specs.Steps.{Reader, after, must, mapped, ◌or◌, Sym, T, parse_name, parse_nat}
use Rattle.grammar.specs.Rules.{left_tail, operator_of, parse_unary_expr, parse_factor_expr, parse_term_expr, parse_juct_expr, parse_logical_expr, parse_imp_exp_expr, parse_expr, after_paren, after_bar, after_old}
use Rattle.grammar.specs.Statements.{Gallery, gallery}
use Rattle.grammar.specs.Reading.{tree_words}
use Rattle.parsing.specs.Arena.{Run, Holds, outside}
use Rattle.parsing.specs.Contract.{Rule, Spare, Later, Standing, Made, same}
use Rattle.parsing.specs.Signs.{build_of}
use Rattle.parsing.specs.declared.arena.Node.{Node}
use Rattle.parsing.specs.declared.arena.Node.TheVariants.{Unary, Binary}
use Rattle.parsing.specs.declared.parser.Parser.{Parser}
use Rattle.parsing.specs.declared.sign.Sign.{Sign}

-- ---- rules

-- more turns than the text has bytes
abbrev pub turns : List ℕ → ℕ
turns text = suc (length text)

-- "expr" with so many levels left
abbrev pub inner : ℕ → Rule (Expr Span)
inner depth text = parse_expr text (turns text) depth

-- and the rules that a statement opens
abbrev pub opened : ℕ → List ℕ → Gallery
opened depth text = gallery text (turns text) depth

-- a rule over "expr", and one that has repetitions too
abbrev pub over : {A : Type 0} → (List ℕ → Reader (Expr Span) → Reader A) → ℕ → Rule A
over rule depth text = rule text (inner depth text)

abbrev pub turning : {A : Type 0} → (List ℕ → ℕ → Reader (Expr Span) → Reader A) → ℕ → Rule A
turning rule depth text = rule text (turns text) (inner depth text)

-- a rule over the rules that a statement opens
abbrev pub opening : {A : Type 0} → (List ℕ → ℕ → Gallery → Reader A) → ℕ → Rule A
opening rule depth text = rule text (turns text) (opened depth text)

-- the rule of a level's operands
abbrev pub tighter_of : Class → ℕ → Rule (Expr Span)
tighter_of product = turning parse_unary_expr
tighter_of sum = turning parse_factor_expr
tighter_of comparison = turning parse_term_expr
tighter_of conjunction = turning parse_juct_expr
tighter_of disjunction = turning parse_juct_expr
tighter_of implication = turning parse_logical_expr
tighter_of explication = turning parse_logical_expr
tighter_of equivalence = turning parse_imp_exp_expr

-- a chain from its first operand on
abbrev pub left_chain : Class → ℕ → Rule (Expr Span)
left_chain k depth text at =
    after (tighter_of k depth text at) Answer.none (left_tail (turns text) (operator_of text k) (tighter_of k depth text))

-- operands by what they begin with: `|`; a digit or `|`; one of three words; `(`
abbrev pub custom_expr : Rule (Expr Span)
custom_expr text at = after (Sym text "|" at) Answer.none (λ _ at₁. after_bar text at₁)

abbrev pub literal_expr : Rule (Expr Span)
literal_expr text at = mapped ILiteral (parse_nat text at) or custom_expr text at

abbrev pub constant_expr : Rule (Expr Span)
constant_expr text at =
    mapped (λ _. BLiteral false) (T text "false" at)
    or mapped (λ _. BLiteral true) (T text "true" at)
    or after (T text "old" at) Answer.none (λ _ at₁. after_old text at₁)

abbrev pub paren_expr : Rule (Expr Span) → Rule (Expr Span)
paren_expr c text at = after (Sym text "(" at) Answer.none (λ _ at₁. after_paren text (c text) at₁)

-- `out` or `inout` and a name
abbrev pub reference : ParameterMode → Rule (CallArgument Span)
reference d text at = must at (mapped (λ n. record { mode = d; arg = IdExpr n false }) (parse_name text at))

abbrev pub reference_argument : Rule (CallArgument Span)
reference_argument text at =
    after (T text "out" at) Answer.none (λ _ at₁. reference Out text at₁)
    or after (T text "inout" at) Answer.none (λ _ at₁. reference InOut text at₁)

-- ---- runs

-- a name with its type, and a word between them
abbrev pub marked_words : ℕ → Binding Span → Run
marked_words word (binding n t) r = name_words same n (word ∷ name_words same t r)

-- a parameter without its invariant
abbrev pub moded_words : PParameter Span → Run
moded_words p r = name_words same p.name (mode_word p.mode ∷ name_words same p.typ r)

-- ---- nodes over trees

-- an operator over two operands, which may swap
pub record Combined (s : Sign) (a b : ℕ) (p q : Parser) (n : ℕ) : Type 0 where
  pub made : Made 1 p q n
  pub holds : (t u : Expr Span) → Standing p a (tree_words t) → Standing p b (tree_words u) → Holds q.arena.now n (tree_words (build (build_of s) t u))

-- operators that wait for their last operand
pub data Layer : Type 0 where
  unary_layer : Operator → Layer
  binary_layer : Operator → Expr Span → Layer

abbrev pub layered : Layer → Expr Span → Expr Span
layered (unary_layer op) e = single op e
layered (binary_layer op a) e = OperatorExpr op (◌then◌ a (◌then◌ e no_exprs))

-- the last layer is the innermost
abbrev pub fold_layers : List Layer → Expr Span → Expr Span
fold_layers [] e = e
fold_layers (l ∷ ls) e = fold_layers ls (layered l e)

-- the nodes of the layers, each with the one before it in the place of its last operand
pub data Links (arena : List Node) : ℕ → List Layer → Type 0 where
  ends : Links arena 0 []
  unary_link : {n z : ℕ} {op : OperatorCode} {ls : List Layer} → get_or arena n outside ≡ Unary op z → z < n → Links arena z ls
      → Links arena n (unary_layer (as_operator op) ∷ ls)
  binary_link : {n y z : ℕ} {op : OperatorCode} {a : Expr Span} {ls : List Layer} → get_or arena n outside ≡ Binary op y z → z < n → y < n
      → Holds arena y (tree_words a) → Links arena z ls → Links arena n (binary_layer (as_operator op) a ∷ ls)

-- what `fold` needs, and what it gives
pub record Foldable (link node : ℕ) (p : Parser) : Type 0 where
  pub layers : List Layer
  pub tree : Expr Span
  pub links : Links p.arena.now link layers
  pub standing : Standing p node (tree_words tree)
  pub link_below : link < p.top
  pub spare : Spare p (length layers)

pub record Layered (ls : List Layer) (e : Expr Span) (p q : Parser) (n : ℕ) : Type 0 where
  pub holds : Holds q.arena.now n (tree_words (fold_layers ls e))
  pub top : q.top ≡ p.top + length ls

pub record Folded (link node : ℕ) (p q : Parser) (n : ℕ) : Type 0 where
  pub later : Later p q
  pub at_same : q.at ≡ p.at
  pub below : n < q.top
  pub layered : (ls : List Layer) (e : Expr Span) → Links p.arena.now link ls → Standing p node (tree_words e) → Layered ls e p q n
