-- Statements that hold no statement, and "stmt" where no level is left.
use Rattle.std.proofs.Common.{ℕ, ◌≡◌, ◌∙◌, refl, List, Result}
use Rattle.std.proofs.Math.Option.{Option, none, some}
use Rattle.lexing.specs.Answer.{Answer, ok, refused}
use Rattle.lexing.specs.declared.refusal.Refusal.{Refusal}
use Rattle.tree.specs.Ast.{Span, Expr, Stmt, Exit}
use Rattle.tree.specs.Words.{stmt_words}
use Rattle.grammar.specs.Reading.{tree_words}
use Rattle.grammar.specs.Steps.{after, mapped, parse_name}
use Rattle.grammar.specs.Statements.{atomic, mark, parse_optional_exit_argument}
use Rattle.parsing.specs.Contract.{Spare, Reads, needed, same}
use Rattle.parsing.specs.Code.{inner}
use Rattle.parsing.specs.Statements.{headed, exit_stmt, stated}
use Rattle.parsing.specs.declared.parser.Parser.{Parser}
use Rattle.parsing.proofs.Laws.{after-ok, after-none, after-refused}
use Rattle.parsing.proofs.Places.{begin_with, said}
use Rattle.parsing.proofs.StatementPlaces.{tail-mapped}
use Rattle.parsing.proofs.StatementEquations.{expr-mapped, atomic-none, atomic-refused}

-- an expression that must follow, made into a statement
pub stated-as : (depth : ℕ) {tag : ℕ} (f : Expr Span → Stmt Span) → ((e : Expr Span) → headed tag tree_words e ≡ stmt_words same (f e)) → {p : Parser} (q : Parser)
    → Spare p 4 → (r : Result ℕ Refusal) → Reads (headed tag tree_words) (needed (inner depth)) 1 1 p q r → Reads (stmt_words same) (stated depth f) 0 4 p q r
stated-as depth f w q r x a =
    tail-mapped (stmt_words same) (stated depth f) (needed (inner depth)) f w 0 4 1 1 q x a (said (expr-mapped f _ depth _) (begin_with r)) refl refl

-- ---- `exit`

module _ (text : List ℕ) (at : ℕ) where
  -- by its argument's answer
  exit-of : {l : Option Span} {next : ℕ} → parse_optional_exit_argument text at ≡ ok l next → exit_stmt text at ≡ ok (Exit l) next
  unfolding after
  exit-of e = rw e refl

  exit-passed : {number place : ℕ} → parse_optional_exit_argument text at ≡ refused number place → exit_stmt text at ≡ refused number place
  unfolding after
  exit-passed e = rw e refl

  -- where no name stands, and where one's blanks are refused
  pub exit-none : parse_name text at ≡ Answer.none → exit_stmt text at ≡ ok (Exit none) at
  unfolding parse_optional_exit_argument
  exit-none e = exit-of (after-none _ _ _ (atomic-none text (mark text) at e) ∙ after-none _ _ _ e)

  pub exit-refused : {number place : ℕ} → parse_name text at ≡ refused number place → exit_stmt text at ≡ refused number place
  unfolding parse_optional_exit_argument
  exit-refused e = exit-passed (after-refused _ _ _ (atomic-refused text (mark text) at e))

  -- where a name stands, by the mark after it
  module _ {n : Span} {next : ℕ} (d : parse_name text at ≡ ok n next) where
    atomic-is : {r : Answer ℕ} → mark text next ≡ r → atomic text (mark text) at ≡ mapped (λ _. n) r
    unfolding atomic
    atomic-is e = after-ok _ _ _ d ∙ rw e refl

    pub exit-marked : {v k : ℕ} → mark text next ≡ ok v k → exit_stmt text at ≡ ok (Exit none) at
    unfolding parse_optional_exit_argument
    exit-marked e = exit-of (after-ok _ _ _ (atomic-is e ∙ after-ok _ _ _ refl))

    pub exit-labelled : mark text next ≡ Answer.none → exit_stmt text at ≡ ok (Exit (some n)) next
    unfolding parse_optional_exit_argument
    exit-labelled e = exit-of (after-none _ _ _ (atomic-is e ∙ after-none _ _ _ refl) ∙ after-ok _ _ _ d)

    pub exit-mark-refused : {number place : ℕ} → mark text next ≡ refused number place → exit_stmt text at ≡ refused number place
    unfolding parse_optional_exit_argument
    exit-mark-refused e = exit-passed (after-refused _ _ _ (atomic-is e ∙ after-refused _ _ _ refl))
