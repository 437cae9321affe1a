-- The prints of statements by what their tests say, and the ends of items.
use Rattle.std.proofs.Common.{ℕ, suc, ◌≡◌, ap, arith, Bool, false, eqb, List, ◌++◌}
use Rattle.std.proofs.Math.Option.{none}
use borrow.Author.Tests.{ne_eqb}
use Rattle.lexing.specs.Answer.{pick}
use Rattle.lexing.specs.Bytes.{bytes}
use Rattle.tree.specs.Ast.{Expr, Stmt, If, Stmts, no_stmts, stmts, Cases, no_cases, case}
use Rattle.tree.specs.Words.{stmts_words, cases_words}
use Rattle.tree.specs.Counted.{stmt_count}
use Rattle.layout.specs.PrintUtil.{Indent}
use Rattle.layout.specs.Statements.{Shown, is_no_stmts, is_no_cases, inline, else_statement, shown, BlockAsStatementList, StmtAsBlock}
use Rattle.rendering.specs.declared.printer.Printer.{Printer}
use Rattle.rendering.specs.declared.printer.Source.{Source}
use Rattle.rendering.specs.Parts.{N, named, Ends}
use Rattle.rendering.specs.StmtParts.{show}
use Rattle.rendering.proofs.Walk.{Walk, at-end}

-- a statement that is no block, in a list
pub bare-print : (S : Source) (s : Shown) (indent : ℕ) (followed : Bool) → s.list ≡ none
    → ◌≡◌ {A = List ℕ → List ℕ} (λ r. Indent indent ++ s.print indent followed r) (λ r. BlockAsStatementList (named S) S.step s indent followed r)
bare-print S s indent followed e = rw e

-- a conditional by whether its else part is printed
pub if-print : (S : Source) (e : Expr (N S)) (t u : Stmt (N S)) (indent : ℕ) {v : Bool} → v ≡ (show S u).is_empty_block
    → ◌≡◌ {A = List ℕ → List ℕ}
    (λ r. bytes "if " ++ inline (named S) S.step e (bytes " "
    ++ pick v (StmtAsBlock (named S) S.step (show S t) indent "\n" r) (StmtAsBlock (named S) S.step (show S t) indent " else " (else_statement (named S) S.step (show S u) indent r))))
    (λ r. (show S (If e t u)).print indent false r)
unfolding shown
if-print S e t u indent h =
    ap {B = List ℕ → List ℕ} (λ (w : Bool) r. bytes "if " ++ inline (named S) S.step e (bytes " "
    ++ pick w (StmtAsBlock (named S) S.step (show S t) indent "\n" r) (StmtAsBlock (named S) S.step (show S t) indent " else " (else_statement (named S) S.step (show S u) indent r)))) h

-- ---- the ends of items

-- what stands after a branch and after a case
pub branch-end : {M : Type 0} (ss : Stmts M) {x : List ℕ} {r : Bool} → x ≡ pick r (bytes "\n") (bytes " or ") → r ≡ is_no_stmts ss → x ≡ bytes (pick (is_no_stmts ss) "\n" " or ")
branch-end no_stmts e h = rw h at e
branch-end (stmts s ss) e h = rw h at e

pub case-end : {M : Type 0} (cs : Cases M) {x : List ℕ} {r : Bool} → x ≡ pick r (bytes "\n") (bytes " ") → r ≡ is_no_cases cs → x ≡ bytes (pick (is_no_cases cs) "\n" " ")
case-end no_cases e h = rw h at e
case-end (case t s cs) e h = rw h at e

pub stmts-end : {s₀ s : Printer} {X : List ℕ → List ℕ} {r : Bool} (ss : Stmts (N s₀.source)) (rest : List ℕ) → Walk s₀ X (stmts_words (λ n. n.span) ss rest) s → Ends s r → r ≡ is_no_stmts ss
stmts-end no_stmts rest l e = at-end l e
stmts-end (stmts s ss) rest l e = at-end l e

pub cases-end : {s₀ s : Printer} {X : List ℕ → List ℕ} {r : Bool} (cs : Cases (N s₀.source)) (rest : List ℕ) → Walk s₀ X (cases_words (λ n. n.span) cs rest) s → Ends s r → r ≡ is_no_cases cs
cases-end no_cases rest l e = at-end l e
cases-end (case t s cs) rest l e = at-end l e

-- one statement is left exactly where no others follow
pub last-is : {M : Type 0} (ss : Stmts M) {left : ℕ} → left ≡ suc (stmt_count ss) → eqb left 1 ≡ is_no_stmts ss
last-is no_stmts e = rw e
last-is (stmts s ss) {left} e = ne_eqb left 1 (λ z. omega (arith, z, e))
