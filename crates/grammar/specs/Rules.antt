-- The reading rules of expressions, in Parser.dfy's order and under its names (REFERENCE, "The reading rules"), over ok / none / refused. `c` is
-- the rule "expr" one deeper; m bounds the turns of each repetition.
use Rattle.std.specs.Prelude.{ℕ, zero, suc, Bool, true, false, ◌&&◌, ◌||◌, not, List, [], ◌∷◌, drop, get_or, ltb, eqb}
use Rattle.std.proofs.Math.Option.{Option, none, some}
use Rattle.lexing.specs.Answer.{Answer, ok, refused, pick, level_too_deep}
use Rattle.lexing.specs.Bytes.{is_digit, bytes}
use Rattle.lexing.specs.Tokens.{identifier_length}
use Rattle.tree.specs.Ast.{Span, Binding, binding, Expr, BLiteral, ILiteral, CustomLiteral, IdExpr, OperatorExpr, FunctionCallExpr, LabeledExpr, LetExpr, QuantifierExpr, ClosureExpr}
use Rattle.tree.specs.Ast.{Exprs, no_exprs, ◌then◌, Patterns, no_patterns, pattern, ClosureBindings, no_closure_bindings, closure_binding, ClosureProperties, no_closure_properties, closure_property}
use Rattle.tree.specs.Ast.{Operator, IfThenElse, Equiv, LogicalImp, LogicalAnd, LogicalOr, Eq, Neq, Less, AtMost, Plus, Minus, Times, Div, Mod, LogicalNot, UnaryMinus}
use Rattle.grammar.specs.Grammar.{Build, straight, swapped, single, build}
use Rattle.grammar.specs.Grammar.{Class, product, sum, comparison, conjunction, disjunction, implication, explication, equivalence}
use Rattle.grammar.specs.Steps.{Reader, after, need, ◌or◌, mapped, T, Sym, SymNotPrefix, keyword_at, sign_at, parse_name, parse_type, parse_literal_text, parse_nat}

-- ---- sequences

-- a sequence of items A is an L
pub record Sequence (A L : Type 0) : Type 0 where
  pub nil : L
  pub cons : A → L → L

abbrev pub exprs : Sequence (Expr Span) (Exprs Span)
exprs = record { nil = no_exprs; cons = ◌then◌ }

abbrev pub bindings : Sequence (Binding Span) (List (Binding Span))
bindings = record { nil = []; cons = ◌∷◌ }

-- a pattern's or a trigger's expressions
abbrev pub patterns : Sequence (Exprs Span) (Patterns Span)
patterns = record { nil = no_patterns; cons = pattern }

-- a closure binding: name, parameters and expression
abbrev pub ClosureItem : Type 0
ClosureItem = Span × List (Binding Span) × Expr Span

abbrev pub closures : Sequence ClosureItem (ClosureBindings Span)
closures = record { nil = no_closure_bindings; cons = λ c l. closure_binding c.0 c.1 c.2 l }

-- a closure property: triggers and expression
abbrev pub PropertyItem : Type 0
PropertyItem = Patterns Span × Expr Span

abbrev pub properties : Sequence PropertyItem (ClosureProperties Span)
properties = record { nil = no_closure_properties; cons = λ p l. closure_property p.0 p.1 l }

-- an expression that begins with no word has these first two bytes
unfoldable pub opens_at : ℕ → ℕ → Bool
opens_at b next = is_digit b || eqb b 124 || eqb b 40 || eqb b 45 || (eqb b 33 && not (eqb next 61))

-- an expression's first token stands at the start: what keeps a token of `parseEquivExpr` there. It is a word, a digit, `|`, `(`, `-`, or `!`
-- that no `=` follows (Claims, `depth-kept`)
unfoldable pub opens_expr : List ℕ → Bool
unfolding opens_at
opens_expr s = ltb 0 (identifier_length s) || opens_at (get_or s 0 0) (get_or s 1 0)

abbrev pub E : Type 0
E = Expr Span

-- ---- repetition

-- `parser.I_I(operator.e_I(parser).Rep())`, folded to the left: what stands after the operand e
unfoldable pub left_tail : ℕ → Reader Build → Reader E → E → Reader E
left_tail zero operator p e at = ok e at
left_tail (suc k) operator p e at =
    after (operator at) (ok e at) (λ b at₁. need at₁ (p at₁) (λ e₁ at₂. left_tail k operator p (build b e e₁) at₂))

-- the same, folded to the right
unfoldable pub right_tail : ℕ → Reader Build → Reader E → E → Reader E
right_tail zero operator p e at = ok e at
right_tail (suc k) operator p e at =
    after (operator at) (ok e at) (λ b at₁. need at₁ (p at₁) (λ e₁ at₂. mapped (build b e) (right_tail k operator p e₁ at₂)))

-- an operator and an operand, or neither
unfoldable pub once_tail : Reader Build → Reader E → E → Reader E
once_tail operator p e at = after (operator at) (ok e at) (λ b at₁. need at₁ (p at₁) (λ e₁ at₂. ok (build b e e₁) at₂))

-- ---- steps without a text of their own

-- the body of a closure property must follow its triggers, if there are any
abbrev pub after_triggers : Patterns Span → ℕ → Answer E → Answer PropertyItem
after_triggers no_patterns at r = after r Answer.none (λ body at₁. ok (no_patterns, body) at₁)
after_triggers (pattern es ts) at r = need at r (λ body at₁. ok (pattern es ts, body) at₁)

-- after a name and `:`
unfoldable pub after_colon : Reader E → Span → Reader E
after_colon c n at = need at (c at) (λ e at₁. ok (LabeledExpr n e) at₁)

module _ (text : List ℕ) where
  -- `Sym(",").e_I(item).Rep()`
  unfoldable pub comma_tail : {A L : Type 0} → Sequence A L → ℕ → Reader A → Reader L
  comma_tail q zero item at = ok q.nil at
  comma_tail q (suc k) item at =
      after (Sym text "," at) (ok q.nil at) (λ _ at₁. need at₁ (item at₁) (λ a at₂. mapped (q.cons a) (comma_tail q k item at₂)))

  module _ (m : ℕ) where
    unfoldable pub parse_nonempty_comma_delimited_seq : {A L : Type 0} → Sequence A L → Reader A → Reader L
    parse_nonempty_comma_delimited_seq q item at = after (item at) Answer.none (λ a at₁. mapped (q.cons a) (comma_tail q m item at₁))

    unfoldable pub parse_comma_delimited_seq : {A L : Type 0} → Sequence A L → Reader A → Reader L
    parse_comma_delimited_seq q item at = parse_nonempty_comma_delimited_seq q item at or ok q.nil at

    -- a comma list that may be empty, and the sign that closes it
    unfoldable pub parse_listed : {A L : Type 0} → Sequence A L → Reader A → List ℕ → Reader L
    parse_listed q item close at =
        need at (parse_comma_delimited_seq q item at) (λ l at₁. need at₁ (sign_at text close at₁) (λ _ at₂. ok l at₂))

  -- ---- signs

  unfoldable pub equiv_operator : Reader Build
  equiv_operator at = mapped (λ _. straight Equiv) (Sym text "<==>" at)

  unfoldable pub implies_operator : Reader Build
  implies_operator at = mapped (λ _. straight LogicalImp) (Sym text "==>" at)

  unfoldable pub explies_operator : Reader Build
  explies_operator at = mapped (λ _. swapped LogicalImp) (SymNotPrefix text "<==" "<==>" at)

  unfoldable pub and_operator : Reader Build
  and_operator at = mapped (λ _. straight LogicalAnd) (Sym text "&&" at)

  unfoldable pub or_operator : Reader Build
  or_operator at = mapped (λ _. straight LogicalOr) (Sym text "||" at)

  -- `parseComparisonOperator`, two signs at a time
  unfoldable pub equality_operator : Reader Build
  equality_operator at = mapped (λ _. straight Eq) (SymNotPrefix text "==" "==>" at) or mapped (λ _. straight Neq) (Sym text "!=" at)

  unfoldable pub less_operator : Reader Build
  less_operator at = mapped (λ _. straight AtMost) (SymNotPrefix text "<=" "<==" at) or mapped (λ _. straight Less) (SymNotPrefix text "<" "<==" at)

  unfoldable pub more_operator : Reader Build
  more_operator at = mapped (λ _. swapped AtMost) (Sym text ">=" at) or mapped (λ _. swapped Less) (Sym text ">" at)

  unfoldable pub parse_comparison_operator : Reader Build
  unfolding equality_operator less_operator more_operator
  parse_comparison_operator at = equality_operator at or less_operator at or more_operator at

  unfoldable pub term_operator : Reader Build
  term_operator at = mapped (λ _. straight Plus) (Sym text "+" at) or mapped (λ _. straight Minus) (Sym text "-" at)

  unfoldable pub factor_operator : Reader Build
  factor_operator at =
      mapped (λ _. straight Times) (Sym text "*" at) or mapped (λ _. straight Div) (T text "div" at) or mapped (λ _. straight Mod) (T text "mod" at)

  -- the operators of a class
  abbrev pub operator_of : Class → Reader Build
  operator_of product = factor_operator
  operator_of sum = term_operator
  operator_of comparison = parse_comparison_operator
  operator_of conjunction = and_operator
  operator_of disjunction = or_operator
  operator_of implication = implies_operator
  operator_of explication = explies_operator
  operator_of equivalence = equiv_operator

  unfoldable pub unary_operator : Reader Operator
  unary_operator at = mapped (λ _. LogicalNot) (SymNotPrefix text "!" "!=" at) or mapped (λ _. UnaryMinus) (Sym text "-" at)

  -- ---- names with types

  unfoldable pub parse_id_type : Reader (Binding Span)
  parse_id_type at =
      after (parse_name text at) Answer.none
      (λ n at₁. need at₁ (Sym text ":" at₁) (λ _ at₂. need at₂ (parse_type text at₂) (λ t at₃. ok (binding n t) at₃)))

  -- the type of `parseIdOptionalType`
  abbrev pub some_type : Reader (Option Span)
  some_type at = need at (parse_type text at) (λ t at₁. ok (some t) at₁)

  unfoldable pub parse_optional_type : Reader (Option Span)
  parse_optional_type at = after (SymNotPrefix text ":" ":=" at) (ok none at) (λ _ at₁. some_type at₁)

  -- `parseParenthesized(parseCommaDelimitedSeq(parseIdType)).Option()`, none of them where it is missing
  unfoldable pub parse_parameters : ℕ → Reader (List (Binding Span))
  parse_parameters m at = after (Sym text "(" at) (ok [] at) (λ _ at₁. parse_listed m bindings parse_id_type (bytes ")") at₁)

  -- ---- parsePrimaryExpr

  module _ (c : Reader E) where
    unfoldable pub after_if : Reader E
    after_if at =
        need at (c at)
        (λ guard at₁. need at₁ (c at₁)
        (λ thn at₂. need at₂ (T text "else" at₂)
        (λ _ at₃. need at₃ (c at₃) (λ els at₄. ok (OperatorExpr IfThenElse (◌then◌ guard (◌then◌ thn (◌then◌ els no_exprs)))) at₄))))

    unfoldable pub after_val : Reader E
    after_val at =
        need at (parse_name text at)
        (λ n at₁. need at₁ (parse_optional_type at₁)
        (λ t at₂. need at₂ (Sym text ":=" at₂)
        (λ _ at₃. need at₃ (c at₃) (λ rhs at₄. need at₄ (c at₄) (λ body at₅. ok (LetExpr n t rhs body) at₅)))))

  module _ (m : ℕ) (c : Reader E) where
    -- `parsePattern(c).Rep()` and `parseClosureTrigger(c).Rep()`, by their word
    unfoldable pub parse_marked : ℕ → List ℕ → Reader (Patterns Span)
    parse_marked zero w at = ok no_patterns at
    parse_marked (suc k) w at =
        after (keyword_at text w at) (ok no_patterns at)
        (λ _ at₁. need at₁ (parse_nonempty_comma_delimited_seq m exprs c at₁) (λ es at₂. mapped (pattern es) (parse_marked k w at₂)))

    -- after `forall` or `exists`
    unfoldable pub after_quantifier : Bool → Reader E
    after_quantifier universal at =
        need at (parse_nonempty_comma_delimited_seq m bindings parse_id_type at)
        (λ bs at₁. need at₁ (parse_marked m (bytes "pattern") at₁)
        (λ ps at₂. need at₂ (c at₂) (λ body at₃. ok (QuantifierExpr universal bs ps body) at₃)))

    unfoldable pub parse_closure_binding : Reader ClosureItem
    parse_closure_binding at =
        after (parse_name text at) Answer.none
        (λ n at₁. need at₁ (parse_parameters m at₁)
        (λ ps at₂. need at₂ (Sym text ":=" at₂) (λ _ at₃. need at₃ (c at₃) (λ rhs at₄. ok (n, ps, rhs) at₄))))

    unfoldable pub parse_closure_property : Reader PropertyItem
    parse_closure_property at = after (parse_marked m (bytes "trigger") at) Answer.none (λ ts at₁. after_triggers ts at₁ (c at₁))

    -- `parseClosure`
    unfoldable pub after_lift : Reader E
    after_lift at =
        need at (parse_nonempty_comma_delimited_seq m closures parse_closure_binding at)
        (λ bs at₁. need at₁ (T text "into" at₁)
        (λ _ at₂. need at₂ (parse_name text at₂)
        (λ n at₃. need at₃ (Sym text ":" at₃)
        (λ _ at₄. need at₄ (parse_type text at₄)
        (λ t at₅. need at₅ (T text "by" at₅)
        (λ _ at₆. need at₆ (Sym text "{" at₆)
        (λ _ at₇. need at₇ (parse_listed m properties parse_closure_property (bytes "}") at₇) (λ ps at₈. ok (ClosureExpr bs n t ps) at₈))))))))

  -- ---- parseAtomicExpr

  -- after `|`
  unfoldable pub after_bar : Reader E
  after_bar at =
      need at (parse_literal_text text at)
      (λ s at₁. need at₁ (Sym text ":" at₁)
      (λ _ at₂. need at₂ (parse_type text at₂) (λ t at₃. need at₃ (Sym text "|" at₃) (λ _ at₄. ok (CustomLiteral s t) at₄))))

  unfoldable pub after_old : Reader E
  after_old at = need at (parse_name text at) (λ n at₁. ok (IdExpr n true) at₁)

  module _ (c : Reader E) where
    -- after a name that no `(` follows: a label, or the name alone
    unfoldable pub after_label : Span → Reader E
    unfolding after_colon
    after_label n at = after (Sym text ":" at) (ok (IdExpr n false) at) (λ _ at₁. after_colon c n at₁)

    -- after `(`
    unfoldable pub after_paren : Reader E
    after_paren at = need at (c at) (λ e at₁. need at₁ (Sym text ")" at₁) (λ _ at₂. ok e at₂))

  module _ (m : ℕ) (c : Reader E) where
    -- after a name and `(`
    unfoldable pub after_call : Span → Reader E
    after_call n at = need at (parse_listed m exprs c (bytes ")") at) (λ es at₁. ok (FunctionCallExpr n es) at₁)

    -- after a name: a call, a label, or the name alone
    unfoldable pub after_name : Span → Reader E
    unfolding after_label after_call
    after_name n at = after (Sym text "(" at) (after_label c n at) (λ _ at₁. after_call n at₁)

    unfoldable pub parse_atomic_expr : Reader E
    parse_atomic_expr at =
        mapped (λ _. BLiteral false) (T text "false" at)
        or mapped (λ _. BLiteral true) (T text "true" at)
        or mapped ILiteral (parse_nat text at)
        or after (Sym text "|" at) Answer.none (λ _ at₁. after_bar at₁)
        or after (T text "old" at) Answer.none (λ _ at₁. after_old at₁)
        or after (parse_name text at) Answer.none (λ n at₁. after_name n at₁)
        or after (Sym text "(" at) Answer.none (λ _ at₁. after_paren c at₁)

    unfoldable pub parse_primary_expr : Reader E
    parse_primary_expr at =
        after (T text "if" at) Answer.none (λ _ at₁. after_if c at₁)
        or after (T text "val" at) Answer.none (λ _ at₁. after_val c at₁)
        or after (T text "forall" at) Answer.none (λ _ at₁. after_quantifier m c true at₁)
        or after (T text "exists" at) Answer.none (λ _ at₁. after_quantifier m c false at₁)
        or after (T text "lift" at) Answer.none (λ _ at₁. after_lift m c at₁)
        or parse_atomic_expr at

    -- ---- the levels

    unfoldable pub unary_tail : ℕ → Reader E
    unary_tail zero at = parse_primary_expr at
    unary_tail (suc k) at = after (unary_operator at) (parse_primary_expr at) (λ op at₁. need at₁ (unary_tail k at₁) (λ e at₂. ok (single op e) at₂))

    unfoldable pub parse_unary_expr : Reader E
    parse_unary_expr at = unary_tail m at

    unfoldable pub parse_factor_expr : Reader E
    parse_factor_expr at = after (parse_unary_expr at) Answer.none (left_tail m factor_operator parse_unary_expr)

    unfoldable pub parse_term_expr : Reader E
    parse_term_expr at = after (parse_factor_expr at) Answer.none (left_tail m term_operator parse_factor_expr)

    unfoldable pub parse_juct_expr : Reader E
    parse_juct_expr at = after (parse_term_expr at) Answer.none (once_tail parse_comparison_operator parse_term_expr)

    -- all `&&` or all `||`
    unfoldable pub logical_tail : E → Reader E
    logical_tail e at =
        after (and_operator at) (left_tail m or_operator parse_juct_expr e at) (λ _ _. left_tail m and_operator parse_juct_expr e at)

    unfoldable pub parse_logical_expr : Reader E
    parse_logical_expr at = after (parse_juct_expr at) Answer.none logical_tail

    -- all `==>` or all `<==`
    unfoldable pub imp_exp_tail : E → Reader E
    imp_exp_tail e at =
        after (implies_operator at) (left_tail m explies_operator parse_logical_expr e at) (λ _ _. right_tail m implies_operator parse_logical_expr e at)

    unfoldable pub parse_imp_exp_expr : Reader E
    parse_imp_exp_expr at = after (parse_logical_expr at) Answer.none imp_exp_tail

    unfoldable pub parse_equiv_expr : Reader E
    parse_equiv_expr at = after (parse_imp_exp_expr at) Answer.none (left_tail m equiv_operator parse_imp_exp_expr)

  -- `RecMap(exprGallery, "expr")` with d levels left: refusal 3 where one more would be opened
  unfoldable pub parse_expr : ℕ → ℕ → Reader E
  parse_expr m zero at = pick (opens_expr (drop at text)) (refused level_too_deep at) Answer.none
  parse_expr m (suc d) at = parse_equiv_expr m (parse_expr m d) at
