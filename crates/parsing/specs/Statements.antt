-- What the methods of the statement rules promise, in terms of the rules.
use Rattle.std.specs.Prelude.{ℕ, ◌+◌, ◌*◌, ◌-◌, ◌≤◌, ◌≡◌, List, ◌∷◌, Option, Some, None, Result, Ok, Err}
use Rattle.lexing.specs.Answer.{Answer, ok, refused}
use Rattle.lexing.specs.Bytes.{bytes}
use Rattle.lexing.specs.CodeAnswers.{number}
use Rattle.lexing.specs.declared.refusal.Refusal.{Refusal}
use Rattle.tree.specs.Ast.{Span, Expr, Exprs, Stmt, Check, Assume, Reach, Assert, Probe, Return, Loop, Reinit, Exit, If, Stmts, Cases, AExpr, AExprs}
use Rattle.tree.specs.Words.{expr_words, exprs_words, stmt_words, stmts_words, cases_words, a_expr_words, a_exprs_words}
use Rattle.grammar.specs.Steps.{after, need, must, mapped, ◌or◌, Sym, parse_name}
use Rattle.grammar.specs.Rules.{Sequence, exprs, parse_nonempty_comma_delimited_seq}
use Rattle.grammar.specs.Statements.{names, statements, cases, aexprs, the_expr, parse_optional_exit_argument, parse_a_expr, parse_a_expr_seq, parse_or, parse_case, parse_stmt, parse_else, after_assign, after_label, after_call}
use Rattle.grammar.specs.Declarations.{parse_when_clause}
use Rattle.parsing.specs.Arena.{Run}
use Rattle.parsing.specs.Contract.{Rule, Later, Read, same}
use Rattle.parsing.specs.Code.{turns, inner, opened, opening}
use Rattle.parsing.specs.declared.lead.Simple.{Simple}
use Rattle.parsing.specs.declared.lead.Simple.TheVariants as simple
use Rattle.parsing.specs.declared.parser.Parser.{Parser}
use Rattle.parsing.specs.declared.stmt.Repeated.{Repeated}
use Rattle.parsing.specs.declared.stmt.Repeated.TheVariants.{Stmts as Statements, Nested, Branches, Cases as CaseItems, Requires, Ensures, Invariants, Whens}

-- ---- contracts

-- nothing was kept
pub record Stayed (p q : Parser) : Type 0 where
  pub later : Later p q
  pub at_same : q.at ≡ p.at
  pub top_same : q.top ≡ p.top

pub record Nothing {A : Type 0} (rule : Rule A) (p q : Parser) : Type 0 where
  pub says : rule p.text.now p.at ≡ Answer.none
  pub stayed : Stayed p q

-- a node for the value of an answer. Two bytes at least were kept, and a node is left of two for each of them, for the node of a sequence's item
pub record Spared {A : Type 0} (words : A → Run) (rule : Rule A) (p q : Parser) (node : ℕ) : Type 0 where
  pub read : Read words rule 2 0 p q node
  pub left : q.top + 1 + 2 * p.at ≤ p.top + 2 * q.at

-- such a rule, where it never keeps nothing and where it may
abbrev pub Spares : {A : Type 0} → (A → Run) → Rule A → Parser → Parser → Result ℕ Refusal → Type 0
Spares words rule p q (Ok node) = Spared words rule p q node
Spares words rule p q (Err e) = rule p.text.now p.at ≡ refused (number e.reason) e.place

abbrev pub Spares_if : {A : Type 0} → (A → Run) → Rule A → Parser → Parser → Result (Option ℕ) Refusal → Type 0
Spares_if words rule p q (Ok (Some node)) = Spared words rule p q node
Spares_if words rule p q (Ok None) = Nothing rule p q
Spares_if words rule p q (Err e) = rule p.text.now p.at ≡ refused (number e.reason) e.place

-- a rule that keeps nothing or is refused
abbrev pub Stops : {A : Type 0} → Rule A → Parser → Parser → Result Unit Refusal → Type 0
Stops rule p q (Ok u) = Nothing rule p q
Stops rule p q (Err e) = rule p.text.now p.at ≡ refused (number e.reason) e.place

-- ---- words

-- a word before a run
abbrev pub headed : {A : Type 0} → ℕ → (A → Run) → A → Run
headed tag words a r = tag ∷ words a r

-- a condition and a body
abbrev pub case_words : (Expr Span × Stmt Span) → Run
case_words k r = expr_words same k.0 (stmt_words same k.1 r)

-- ---- rules, with so many levels left

-- the rules that a statement opens
abbrev pub block_rule : ℕ → Rule (Stmt Span)
block_rule depth text = (opened depth text).block

abbrev pub stmt_rule : ℕ → Rule (Stmt Span)
stmt_rule depth text = (opened depth text).stmt

abbrev pub cont_rule : ℕ → Rule (Stmt Span)
cont_rule depth text = (opened depth text).if_cont

-- a condition after the word w
abbrev pub aexpr_rule : List ℕ → ℕ → Rule (AExpr Span)
aexpr_rule w depth text = parse_a_expr text (turns text) (opened depth text) w

-- after `exit`
abbrev pub exit_stmt : Rule (Stmt Span)
exit_stmt text at = must at (mapped Exit (parse_optional_exit_argument text at))

-- after `reinit`
abbrev pub reinit_stmt : Rule (Stmt Span)
reinit_stmt text at = must at (mapped Reinit (parse_nonempty_comma_delimited_seq text (turns text) names (parse_name text) at))

module _ (depth : ℕ) where
  -- an expression that must follow, made into a statement
  abbrev pub stated : (Expr Span → Stmt Span) → Rule (Stmt Span)
  stated f text at = the_expr text (turns text) (opened depth text) f at

  -- after the word of a statement that holds no statement
  abbrev pub simple_rule : Simple → Rule (Stmt Span)
  simple_rule simple.Reinit text at = reinit_stmt text at
  simple_rule simple.Exit text at = exit_stmt text at
  simple_rule simple.Return text at = ok Return at
  simple_rule simple.Check text at = stated Check text at
  simple_rule simple.Assume text at = stated Assume text at
  simple_rule simple.Reach text at = stated Reach text at
  simple_rule simple.Assert text at = stated Assert text at
  simple_rule simple.Probe text at = stated Probe text at

  -- after the name n: `:=`, `:` or `(`
  abbrev pub named_stmt : Span → Rule (Stmt Span)
  named_stmt n text at =
      after (Sym text ":=" at) Answer.none (λ _ at₁. after_assign text (turns text) (opened depth text) n at₁)
      or after (Sym text ":" at) Answer.none (λ _ at₁. after_label text (turns text) (opened depth text) n at₁)
      or after (Sym text "(" at) Answer.none (λ _ at₁. after_call text (turns text) (opened depth text) n at₁)

  -- after `if`, where no `case` stands
  abbrev pub cond_stmt : Rule (Stmt Span)
  cond_stmt text at =
      after (inner depth text at) Answer.none
      (λ e at₁. need at₁ ((opened depth text).block at₁)
      (λ thn at₂. need at₂ (parse_else text (turns text) (opened depth text) at₂) (λ els at₃. ok (If e thn els) at₃)))

  -- a block or a loop
  abbrev pub scope_stmt : Rule (Stmt Span)
  scope_stmt text at = (opened depth text).block at or (opened depth text).loop at

-- after `loop`, where a level is left
abbrev pub after_loop : ℕ → Rule (Stmt Span)
after_loop depth text at =
    need at (parse_a_expr_seq text (turns text) (opened (depth - 1) text) (bytes "invariant") at)
    (λ is at₁. must at₁ (mapped (Loop is) ((opened (depth - 1) text).block at₁)))

-- ---- repetitions

-- what is repeated, and its sequence
abbrev pub RepeatedOf : Repeated → Type 0
RepeatedOf Statements = Stmt Span
RepeatedOf Nested = Stmt Span
RepeatedOf Branches = Stmt Span
RepeatedOf CaseItems = Expr Span × Stmt Span
RepeatedOf Requires = AExpr Span
RepeatedOf Ensures = AExpr Span
RepeatedOf Invariants = AExpr Span
RepeatedOf Whens = Expr Span

abbrev pub RepetitionOf : Repeated → Type 0
RepetitionOf Statements = Stmts Span
RepetitionOf Nested = Stmts Span
RepetitionOf Branches = Stmts Span
RepetitionOf CaseItems = Cases Span
RepetitionOf Requires = AExprs Span
RepetitionOf Ensures = AExprs Span
RepetitionOf Invariants = AExprs Span
RepetitionOf Whens = Exprs Span

abbrev pub repeated : (k : Repeated) → Sequence (RepeatedOf k) (RepetitionOf k)
repeated Statements = statements
repeated Nested = statements
repeated Branches = statements
repeated CaseItems = cases
repeated Requires = aexprs
repeated Ensures = aexprs
repeated Invariants = aexprs
repeated Whens = exprs

abbrev pub repeated_words : (k : Repeated) → RepeatedOf k → Run
repeated_words Statements = stmt_words same
repeated_words Nested = stmt_words same
repeated_words Branches = stmt_words same
repeated_words CaseItems = case_words
repeated_words Requires = a_expr_words same
repeated_words Ensures = a_expr_words same
repeated_words Invariants = a_expr_words same
repeated_words Whens = expr_words same

abbrev pub repetition_words : (k : Repeated) → RepetitionOf k → Run
repetition_words Statements = stmts_words same
repetition_words Nested = stmts_words same
repetition_words Branches = stmts_words same
repetition_words CaseItems = cases_words same
repetition_words Requires = a_exprs_words same
repetition_words Ensures = a_exprs_words same
repetition_words Invariants = a_exprs_words same
repetition_words Whens = exprs_words same

abbrev pub repeated_rule : (k : Repeated) → ℕ → Rule (RepeatedOf k)
repeated_rule Statements depth = opening parse_stmt depth
repeated_rule Nested depth = stmt_rule depth
repeated_rule Branches depth = opening parse_or depth
repeated_rule CaseItems depth = opening parse_case depth
repeated_rule Requires depth = aexpr_rule (bytes "requires") depth
repeated_rule Ensures depth = aexpr_rule (bytes "ensures") depth
repeated_rule Invariants depth = aexpr_rule (bytes "invariant") depth
repeated_rule Whens depth = opening parse_when_clause depth
