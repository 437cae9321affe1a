-- The methods that print statements, each by its steps.
use Rattle.std.proofs.Common.{arith, ℕ, ◌≡◌, ap, sym, ◌∙◌, Bool, false, List, length, None, Some}
use Rattle.lexing.specs.Answer.{pick}
use Rattle.lexing.specs.Bytes.{bytes}
use Rattle.tree.specs.Ast.{no_stmts, stmts, no_cases, case, a_expr, AAssertion, no_a_exprs, a_exprs, VarDecl}
use Rattle.tree.specs.declared.word.AExprTag.TheVariants as atag
use Rattle.layout.specs.Statements.{shown, StatementList, choices, case_list, aexpr, PrintAExprs, StmtAsBlock}
use Rattle.rendering.specs.declared.printer.Printer.{Printer}
use Rattle.rendering.specs.Parts.{Told, Prints, named}
use Rattle.rendering.specs.StmtParts.{show, a_choose, an_if_case, an_a_expr, invariant_list, last_statements, branch_list, case_sequence, a_expr_list}
use Rattle.rendering.proofs.Walk.{prints, ready, deeper, begin, reads, inside, word, text, these, part, done, at-end, as-print, left-as, none-yet, one-more, all-of}
use Rattle.rendering.proofs.StmtPrints.Tags.{stands, stands-list, one-deeper, tagged, is-variable, is-assign, is-reinit, is-block, is-call, is-check, is-assume, is-reach, is-assert, is-forall, is-choose, is-if, is-if-case, is-loop, is-label, is-exit, is-return, is-probe, is-none, is-list}
use Rattle.rendering.proofs.StmtPrints.Tests.{told, tells-of, empty-block-words}
use Rattle.rendering.proofs.StmtPrints.Forms.{bare-print, if-print, branch-end, case-end, stmts-end, cases-end, last-is}
use Rattle.rendering.proofs.Words.{found}
use Rattle.tree.specs.Kind.{of_stmt}
use Rattle.tree.specs.Trees.{names_in}
use Rattle.tree.specs.CountLaws.{noted-at}
use Rattle.rendering.proofs.printer.Printer.+statement.Goals.{branches-then-is_last, branches-else-is_last, cases-then-is_last, cases-else-is_last}
use Rattle.rendering.proofs.printer.Printer.+statement.Goals as goal

-- ---- a statement by its first word

pub stmt-returns-in-Some-VarDecl : goal.stmt-returns-in-Some-VarDecl
stmt-returns-in-Some-VarDecl t c = prints (cc) (cc) (omega arith) (is-variable c.word.ensures c.from_word.ensures c.args.indent c.args.followed c.in-Some-VarDecl.is c.in-Some-VarDecl.field-0-is c.var_decl.ensures)

pub stmt-var_decl-requires : goal.stmt-var_decl-requires
stmt-var_decl-requires t c = (let p = tagged c.word.ensures c.from_word.ensures c.in-Some-VarDecl.is in omega arith, tt)

pub stmt-returns-in-Some-Assign : goal.stmt-returns-in-Some-Assign
stmt-returns-in-Some-Assign t c = prints (cc) (cc) (omega arith) (is-assign c.word.ensures c.from_word.ensures c.args.indent c.args.followed c.in-Some-Assign.is c.in-Some-Assign.field-0-is c.assign.ensures)

pub stmt-returns-in-Some-Reinit : goal.stmt-returns-in-Some-Reinit
stmt-returns-in-Some-Reinit t c = prints (cc) (cc) (omega arith) (is-reinit c.word.ensures c.from_word.ensures c.args.indent c.args.followed c.in-Some-Reinit.is c.in-Some-Reinit.field-0-is c.reinit.ensures)

pub stmt-returns-in-Some-Block : goal.stmt-returns-in-Some-Block
stmt-returns-in-Some-Block t c = prints (cc) (cc) (omega arith) (is-block c.word.ensures c.from_word.ensures c.args.indent c.args.followed c.in-Some-Block.is c.in-Some-Block.field-0-is c.braces.ensures)

pub stmt-braces-requires : goal.stmt-braces-requires
stmt-braces-requires t c = (let p = tagged c.word.ensures c.from_word.ensures c.in-Some-Block.is in omega arith, tt)

pub stmt-returns-in-Some-Call : goal.stmt-returns-in-Some-Call
stmt-returns-in-Some-Call t c = prints (cc) (cc) (omega arith) (is-call c.word.ensures c.from_word.ensures c.args.indent c.args.followed c.in-Some-Call.is c.in-Some-Call.field-0-is c.call_stmt.ensures)

pub stmt-returns-in-Some-Check : goal.stmt-returns-in-Some-Check
stmt-returns-in-Some-Check t c = prints (cc) (cc) (omega arith) (is-check c.word.ensures c.from_word.ensures c.args.indent c.args.followed c.in-Some-Check.is c.in-Some-Check.field-0-is c.expression_stmt.ensures)

pub stmt-returns-in-Some-Assume : goal.stmt-returns-in-Some-Assume
stmt-returns-in-Some-Assume t c = prints (cc) (cc) (omega arith) (is-assume c.word.ensures c.from_word.ensures c.args.indent c.args.followed c.in-Some-Assume.is c.in-Some-Assume.field-0-is c.expression_stmt-in-Some-Assume.ensures)

pub stmt-returns-in-Some-Reach : goal.stmt-returns-in-Some-Reach
stmt-returns-in-Some-Reach t c = prints (cc) (cc) (omega arith) (is-reach c.word.ensures c.from_word.ensures c.args.indent c.args.followed c.in-Some-Reach.is c.in-Some-Reach.field-0-is c.expression_stmt-in-Some-Reach.ensures)

pub stmt-returns-in-Some-Assert : goal.stmt-returns-in-Some-Assert
stmt-returns-in-Some-Assert t c = prints (cc) (cc) (omega arith) (is-assert c.word.ensures c.from_word.ensures c.args.indent c.args.followed c.in-Some-Assert.is c.in-Some-Assert.field-0-is c.expression_stmt-in-Some-Assert.ensures)

pub stmt-returns-in-Some-AForall : goal.stmt-returns-in-Some-AForall
stmt-returns-in-Some-AForall t c = prints (cc) (cc) (omega arith) (is-forall c.word.ensures c.from_word.ensures c.args.indent c.args.followed c.in-Some-AForall.is c.in-Some-AForall.field-0-is c.forall.ensures)

pub stmt-forall-requires : goal.stmt-forall-requires
stmt-forall-requires t c = (let p = tagged c.word.ensures c.from_word.ensures c.in-Some-AForall.is in omega arith, tt)

pub stmt-returns-in-Some-Choose : goal.stmt-returns-in-Some-Choose
stmt-returns-in-Some-Choose t c = prints (cc) (cc) (omega arith) (is-choose c.word.ensures c.from_word.ensures c.args.indent c.args.followed c.in-Some-Choose.is c.in-Some-Choose.field-0-is c.choose.ensures)

pub stmt-choose-requires : goal.stmt-choose-requires
stmt-choose-requires t c = (let p = tagged c.word.ensures c.from_word.ensures c.in-Some-Choose.is in omega arith, tt)

pub stmt-returns-in-Some-If : goal.stmt-returns-in-Some-If
stmt-returns-in-Some-If t c = prints (cc) (cc) (omega arith) (is-if c.word.ensures c.from_word.ensures c.args.indent c.args.followed c.in-Some-If.is c.in-Some-If.field-0-is c.if_stmt.ensures)

pub stmt-if_stmt-requires : goal.stmt-if_stmt-requires
stmt-if_stmt-requires t c = (let p = tagged c.word.ensures c.from_word.ensures c.in-Some-If.is in omega arith, tt)

pub stmt-returns-in-Some-IfCase : goal.stmt-returns-in-Some-IfCase
stmt-returns-in-Some-IfCase t c = prints (cc) (cc) (omega arith) (is-if-case c.word.ensures c.from_word.ensures c.args.indent c.args.followed c.in-Some-IfCase.is c.in-Some-IfCase.field-0-is c.if_case.ensures)

pub stmt-if_case-requires : goal.stmt-if_case-requires
stmt-if_case-requires t c = (let p = tagged c.word.ensures c.from_word.ensures c.in-Some-IfCase.is in omega arith, tt)

pub stmt-returns-in-Some-Loop : goal.stmt-returns-in-Some-Loop
stmt-returns-in-Some-Loop t c = prints (cc) (cc) (omega arith) (is-loop c.word.ensures c.from_word.ensures c.args.indent c.args.followed c.in-Some-Loop.is c.in-Some-Loop.field-0-is c.loop_stmt.ensures)

pub stmt-loop_stmt-requires : goal.stmt-loop_stmt-requires
stmt-loop_stmt-requires t c = (let p = tagged c.word.ensures c.from_word.ensures c.in-Some-Loop.is in omega arith, tt)

pub stmt-returns-in-Some-LabeledStmt : goal.stmt-returns-in-Some-LabeledStmt
stmt-returns-in-Some-LabeledStmt t c = prints (cc) (cc) (omega arith) (is-label c.word.ensures c.from_word.ensures c.args.indent c.args.followed c.in-Some-LabeledStmt.is c.in-Some-LabeledStmt.field-0-is c.labeled_stmt.ensures)

pub stmt-labeled_stmt-requires : goal.stmt-labeled_stmt-requires
stmt-labeled_stmt-requires t c = (let p = tagged c.word.ensures c.from_word.ensures c.in-Some-LabeledStmt.is in omega arith, tt)

pub stmt-returns-in-Some-Exit : goal.stmt-returns-in-Some-Exit
stmt-returns-in-Some-Exit t c = prints (cc) (cc) (omega arith) (is-exit c.word.ensures c.from_word.ensures c.args.indent c.args.followed c.in-Some-Exit.is c.in-Some-Exit.field-0-is c.exit.ensures)

pub stmt-returns-in-Some-Return : goal.stmt-returns-in-Some-Return
stmt-returns-in-Some-Return t c = prints (cc) (cc) (omega arith) (is-return c.word.ensures c.from_word.ensures c.args.indent c.args.followed c.in-Some-Return.is c.in-Some-Return.field-0-is c.put.ensures)

pub stmt-returns-in-Some-Probe : goal.stmt-returns-in-Some-Probe
stmt-returns-in-Some-Probe t c = prints (cc) (cc) (omega arith) (is-probe c.word.ensures c.from_word.ensures c.args.indent c.args.followed c.in-Some-Probe.is c.in-Some-Probe.field-0-is c.expression_stmt-in-Some-Probe.ensures)

pub stmt-returns-in-None : goal.stmt-returns-in-None
stmt-returns-in-None t c = prints (cc) (cc) (omega arith) (is-none c.word.ensures c.from_word.ensures c.args.indent c.args.followed c.in-None.is)

-- ---- statements in statements

pub var_decl-returns-then-followed : goal.var_decl-returns-then-followed
unfolding shown
var_decl-returns-then-followed t c =
    prints (cc) (cc) (omega arith)
    (λ a rest g d.
    let head = part c.variable.ensures (a.0, a.1) (ready g.0 (omega arith) (omega arith), (g.1.0, g.1.1)) (begin d) in
    as-print (ap (λ (v : Bool). (show c.args.self.now.source (VarDecl a.0 a.1 a.2)).print c.args.indent v) (sym c.if-followed.true))
    (done (part c.inner.ensures a.2 (ready g.0 (omega arith) (omega arith), g.1.2) head)))

pub var_decl-returns-else-followed : goal.var_decl-returns-else-followed
unfolding shown
var_decl-returns-else-followed t c =
    prints (cc) (cc) (omega arith)
    (λ a rest g d.
    let e = c.deeper-own.ensures ∙ one-deeper c.args.indent g.0 (inside (begin {s = c.args.self.now} d)) in
    let start = text (text (begin d) c.put.ensures) (rw e at c.indent.ensures) in
    let head = part c.variable-else-followed.ensures (a.0, a.1) (ready g.0 (omega arith) (omega arith), (g.1.0, g.1.1)) start in
    let body = part (rw e at c.inner-else-followed.ensures) a.2 (ready g.0 (omega arith) (omega arith), g.1.2) head in
    as-print (ap (λ (v : Bool). (show c.args.self.now.source (VarDecl a.0 a.1 a.2)).print c.args.indent v) (sym c.if-followed.false))
    (done (text (text body c.indent-else-followed.ensures) c.put-else-followed.ensures)))

pub inner-returns-then-ahead : goal.inner-returns-then-ahead
inner-returns-then-ahead t c = prints (cc) (cc) (omega arith) (is-list c.word.ensures c.ahead.ensures c.if-ahead.true c.args.indent c.args.followed c.list.ensures)

pub inner-returns-else-ahead : goal.inner-returns-else-ahead
inner-returns-else-ahead t c =
    prints (cc) (cc) (omega arith)
    (λ s rest g d.
    let e = (told c.ahead.ensures s rest d).no-list c.if-ahead.false in
    as-print (bare-print c.args.self.now.source (show c.args.self.now.source s) c.args.indent c.args.followed e) (done (part c.stmt.ensures s (ready g.0 (omega arith) (omega arith), g.1) (text (begin d) c.indent.ensures))))

pub block-returns : goal.block-returns
block-returns t c =
    prints (cc) (cc) (omega arith)
    (λ s rest g d.
    let e = c.deeper-inside.ensures ∙ one-deeper c.args.indent g.0 (stands c.args.self.now s rest d) in
    let body = part (rw e at c.inner.ensures) s (ready g.0 (omega arith) (omega arith), g.1) (text (begin d) c.put.ensures) in
    done (text (text body c.indent.ensures) c.put-2.ensures))

pub braces-returns : goal.braces-returns
unfolding shown
braces-returns t c =
    prints (cc) (cc) (omega arith)
    (λ ss rest g d.
    let e = c.deeper-inside.ensures ∙ one-deeper c.args.indent g.0 (stands-list c.args.self.now ss rest d) in
    let body = part (rw e at c.list.ensures) ss (ready g.0 (omega arith) (omega arith), g.1) (text (begin d) c.put.ensures) in
    done (text (text body c.indent.ensures) c.put-2.ensures))

pub forall-returns : goal.forall-returns
unfolding shown
forall-returns t c =
    prints (cc) (cc) (omega arith)
    (λ a rest g d.
    let head = text (part c.typed.ensures (a.0, a.1) tt (text (begin d) c.put.ensures)) c.put-2.ensures in
    done (text (part c.block.ensures a.2 (ready g.0 (omega arith) (omega arith), g.1) head) c.put-3.ensures))

no-branches : (t : _) (c : goal.choose-After-put-then-is_at_end t) → Told (a_choose c.args.indent) c.args.self.now c.put-then-is_at_end.new.self
unfolding shown
no-branches _ c no_stmts rest g d = done (text (word (text (begin d) c.put.ensures) c.word.ensures) c.put-then-is_at_end.ensures)
no-branches _ c (stmts s ss) rest g d = absurd (let e = at-end (text (begin {s = c.args.self.now} d) c.put.ensures) c.if-is_at_end.ensures in cc)

some-branches : (t : _) (c : goal.choose-After-branches t) → Told (a_choose c.args.indent) c.args.self.now c.branches.new.self
unfolding shown
some-branches _ c no_stmts rest g d = absurd (let e = at-end (text (begin {s = c.args.self.now} d) c.put.ensures) c.if-is_at_end.ensures in cc)
some-branches _ c (stmts s ss) rest g d = done (part c.branches.ensures (stmts s ss) (ready g.0 (omega arith) (omega arith), g.1.1) (text (begin d) c.put.ensures))

pub choose-returns-then-is_at_end : goal.choose-returns-then-is_at_end
choose-returns-then-is_at_end t c = prints (cc) (cc) (omega arith) (no-branches t c)

pub choose-returns-else-is_at_end : goal.choose-returns-else-is_at_end
choose-returns-else-is_at_end t c = prints (cc) (cc) (omega arith) (some-branches t c)

pub if_stmt-returns-then-is_empty_block : goal.if_stmt-returns-then-is_empty_block
if_stmt-returns-then-is_empty_block t c =
    prints (cc) (cc) (omega arith)
    (λ a rest g d.
    let test = text (part c.inline.ensures a.0 (ready g.0 (omega arith) (omega arith), g.1.0) (text (begin d) c.put.ensures)) c.put-2.ensures in
    let first = part c.block.ensures a.1 (ready g.0 (omega arith) (omega arith), g.1.1) test in
    let e = tells-of a.2 rest first c.if-is_empty_block.ensures in
    let other = word (word (left-as (empty-block-words c.args.self.now.source a.2 rest e) first) c.word.ensures) c.word-then-is_empty_block.ensures in
    as-print (if-print c.args.self.now.source a.0 a.1 a.2 c.args.indent e) (done (text other c.put-then-is_empty_block.ensures)))

pub if_stmt-returns-else-is_empty_block : goal.if_stmt-returns-else-is_empty_block
if_stmt-returns-else-is_empty_block t c =
    prints (cc) (cc) (omega arith)
    (λ a rest g d.
    let test = text (part c.inline.ensures a.0 (ready g.0 (omega arith) (omega arith), g.1.0) (text (begin d) c.put.ensures)) c.put-2.ensures in
    let first = part c.block.ensures a.1 (ready g.0 (omega arith) (omega arith), g.1.1) test in
    let e = tells-of a.2 rest first c.if-is_empty_block.ensures in
    let other = text first c.put-else-is_empty_block.ensures in
    let stays = tells-of a.2 rest other c.is_conditional-stays.ensures in
    as-print (if-print c.args.self.now.source a.0 a.1 a.2 c.args.indent e) (done (part (rw stays at c.onward.ensures) a.2 (ready g.0 (omega arith) (omega arith), g.1.2) other)))

pub onward-returns-else-stays : goal.onward-returns-else-stays
onward-returns-else-stays t c =
    prints (cc) (cc) (omega arith)
    (λ s rest g d.
    as-print (ap {B = List ℕ → List ℕ} (λ (v : Bool) r. pick v ((show c.args.self.now.source s).print c.args.indent false r) (StmtAsBlock (named c.args.self.now.source) c.args.self.now.source.step (show c.args.self.now.source s) c.args.indent "\n" r)) (sym c.if-stays.false))
    (done (text (part c.block.ensures s (ready g.0 (omega arith) (omega arith), g.1) (begin d)) c.put.ensures)))

no-cases : (t : _) (c : goal.if_case-After-put-then-is_at_end-2 t) → Told (an_if_case c.args.indent) c.args.self.now c.put-then-is_at_end-2.new.self
unfolding shown
no-cases _ c no_cases rest g d =
    let start = text (word (text (begin d) c.put.ensures) c.word.ensures) c.indent.ensures in
    done (text (text (text start c.put-then-is_at_end.ensures) c.indent-then-is_at_end.ensures) c.put-then-is_at_end-2.ensures)
no-cases _ c (case e s cs) rest g d = absurd (let e = at-end (text (begin {s = c.args.self.now} d) c.put.ensures) c.if-is_at_end.ensures in cc)

some-cases : (t : _) (c : goal.if_case-After-cases t) → Told (an_if_case c.args.indent) c.args.self.now c.cases.new.self
unfolding shown
some-cases _ c no_cases rest g d = absurd (let e = at-end (text (begin {s = c.args.self.now} d) c.put.ensures) c.if-is_at_end.ensures in cc)
some-cases _ c (case e s cs) rest g d = done (part c.cases.ensures (case e s cs) (ready g.0 (omega arith) (omega arith), g.1.1) (text (begin d) c.put.ensures))

pub if_case-returns-then-is_at_end : goal.if_case-returns-then-is_at_end
if_case-returns-then-is_at_end t c = prints (cc) (cc) (omega arith) (no-cases t c)

pub if_case-returns-else-is_at_end : goal.if_case-returns-else-is_at_end
if_case-returns-else-is_at_end t c = prints (cc) (cc) (omega arith) (some-cases t c)

pub loop_stmt-returns : goal.loop_stmt-returns
unfolding shown
loop_stmt-returns t c =
    prints (cc) (cc) (omega arith)
    (λ a rest g d.
    let head = part c.invariants.ensures a.0 (ready g.0 (omega arith) (omega arith), g.1.1) (text (begin d) c.put.ensures) in
    done (text (part c.block.ensures a.1 (ready g.0 (omega arith) (omega arith), g.1.2) head) c.put-2.ensures))

bare : (t : _) (c : goal.invariants-After-put t) → Told (invariant_list c.args.indent) c.args.self.now c.put.new.self
bare _ c no_a_exprs rest g d = done (text (word (begin d) c.word.ensures) c.put.ensures)
bare _ c (a_exprs a es) rest g d = absurd (let e = at-end (begin {s = c.args.self.now} d) c.if-is_at_end.ensures in cc)

lines : (t : _) (c : goal.invariants-After-indent t) → Told (invariant_list c.args.indent) c.args.self.now c.indent.new.self
lines _ c no_a_exprs rest g d = absurd (let e = at-end (begin {s = c.args.self.now} d) c.if-is_at_end.ensures in cc)
lines _ c (a_exprs a es) rest g d =
    let e = c.deeper-inside.ensures ∙ one-deeper c.args.indent g.0 (inside (begin {s = c.args.self.now} d)) in
    done (text (part (rw e at c.aexprs.ensures) (a_exprs a es) (ready g.0 (omega arith) (omega arith), g.1) (text (begin d) c.put-else-is_at_end.ensures)) c.indent.ensures)

pub invariants-returns-then-is_at_end : goal.invariants-returns-then-is_at_end
invariants-returns-then-is_at_end t c = prints (cc) (cc) (omega arith) (bare t c)

pub invariants-returns-else-is_at_end : goal.invariants-returns-else-is_at_end
invariants-returns-else-is_at_end t c = prints (cc) (cc) (omega arith) (lines t c)

pub labeled_stmt-returns : goal.labeled_stmt-returns
unfolding shown
labeled_stmt-returns t c =
    prints (cc) (cc) (omega arith)
    (λ a rest g d.
    let name = part c.name_then.ensures a.0 tt (begin d) in
    let stays = tells-of a.1 rest name c.is_loop-stays.ensures in
    done (part (rw stays at c.onward.ensures) a.1 (ready g.0 (omega arith) (omega arith), g.1) name))

-- ---- assertions

plain : (t : _) (c : goal.aexpr-After-put t) → Told (an_a_expr c.args.indent) c.args.self.now c.put.new.self
unfolding aexpr
plain _ c (a_expr e) rest g d = done (text (part c.inline.ensures e (ready g.0 (omega arith) (omega arith), g.1) (word (begin d) c.word.ensures)) c.put.ensures)
plain _ c (AAssertion s) rest g d = absurd (let z = reads (begin d) c.word.ensures in let w = found c.from_word.ensures (c.in-Some-AExpr.is ∙ ap Some c.in-Some-AExpr.field-0-is) in omega (arith, z, w))

assertion : (t : _) (c : goal.aexpr-After-stmt t) → Told (an_a_expr c.args.indent) c.args.self.now c.stmt.new.self
unfolding aexpr
assertion _ c (a_expr e) rest g d = absurd (let z = reads (begin d) c.word.ensures in let w = found c.from_word.ensures (c.in-Some-AAssertion.is ∙ ap Some c.in-Some-AAssertion.field-0-is) in omega (arith, z, w))
assertion _ c (AAssertion s) rest g d = done (part c.stmt.ensures s (ready g.0 (omega arith) (omega arith), g.1) (word (begin d) c.word.ensures))

no-assertion : (t : _) (c : goal.aexpr-In-None t) → Told (an_a_expr c.args.indent) c.args.self.now c.word.new.self
no-assertion _ c (a_expr e) rest g d = absurd (let z : None ≡ Some atag.AExpr = sym c.in-None.is ∙ (c.from_word.ensures atag.AExpr).1 (sym (reads (begin d) c.word.ensures)) in cc)
no-assertion _ c (AAssertion s) rest g d = absurd (let z : None ≡ Some atag.AAssertion = sym c.in-None.is ∙ (c.from_word.ensures atag.AAssertion).1 (sym (reads (begin d) c.word.ensures)) in cc)

pub aexpr-returns-in-Some-AExpr : goal.aexpr-returns-in-Some-AExpr
aexpr-returns-in-Some-AExpr t c = prints (cc) (cc) (omega arith) (plain t c)

pub aexpr-returns-in-Some-AAssertion : goal.aexpr-returns-in-Some-AAssertion
aexpr-returns-in-Some-AAssertion t c = prints (cc) (cc) (omega arith) (assertion t c)

pub aexpr-returns-in-None : goal.aexpr-returns-in-None
aexpr-returns-in-None t c = prints (cc) (cc) (omega arith) (no-assertion t c)

-- ---- sequences

-- after the number of its statements
stmts-none : (t : _) (c : goal.list-After-loop-is_last t) → Told (last_statements c.loop-is_last.left c.args.indent) c.loop-is_last.self c.word.new.self
unfolding StatementList
stmts-none _ c no_stmts rest g d = done (word (begin d) c.word.ensures)
stmts-none _ c (stmts s ss) rest g d = let z = reads (begin d) c.word.ensures in absurd (omega (arith, z, c.loop-is_last-test.false))

stmts-some : (t : _) (c : goal.list-After-stmt t) (s' : Printer) → Prints (last_statements c.saturating_sub-left.result c.args.indent) c.stmt.new.self s' → Told (last_statements c.loop-is_last.left c.args.indent) c.loop-is_last.self s'
unfolding StatementList
stmts-some _ c s' p no_stmts rest g d = absurd (c.loop-is_last-test.true (reads (begin d) c.word.ensures))
stmts-some _ c s' p (stmts s ss) rest g d =
    let h = inside (begin {s = c.loop-is_last.self} d) in
    let item = word (begin d) c.word.ensures in
    let stmt = part (rw (last-is ss g.1.0) at c.stmt.ensures) s (ready g.0 (omega arith) (omega arith), g.1.1.0) (text item c.indent.ensures) in
    let n = g.1.0 in
    let e = c.saturating_sub-left.ensures in
    done (part p ss (ready g.0 (omega arith) (omega arith), (omega arith, g.1.1.1)) stmt)

pub list-loop-is_last-init : goal.list-loop-is_last-init
list-loop-is_last-init t c = none-yet

pub list-loop-is_last-preserved : goal.list-loop-is_last-preserved
list-loop-is_last-preserved t c = one-more c.loop-is_last.invariant (cc) (cc) (omega arith) (stmts-some t c)

pub list-returns : goal.list-returns
list-returns t c =
    let all = all-of c.loop-is_last.invariant (prints (cc) (cc) (omega arith) (stmts-none t c)) in
    prints all.source all.output all.forward
    (λ ss rest g d.
    let n = c.count-left.ensures.noted ∙ noted-at (names_in (length c.args.self.now.source.text.now)) c.args.self.now.source.counts.now c.args.self.now.source.words.now c.args.self.now.at of_stmt ss rest d g.1.0 in
    done (part all ss (ready g.0 (omega arith) (omega arith), (n, g.1.1)) (begin d)))

branches-none : (t : _) (c : goal.branches-After-loop-self t) → Told (branch_list c.args.indent) c.loop-self.self c.word.new.self
unfolding choices
branches-none _ c no_stmts rest g d = done (word (begin d) c.word.ensures)
branches-none _ c (stmts s ss) rest g d = let z = reads (begin d) c.word.ensures in absurd (omega (arith, z, c.loop-self-test.false))

branch-text : (t : _) (c : goal.branches-After-put_any t) → c.if-is_last.end.now ≡ pick c.is_at_end-is_last.result (bytes "\n") (bytes " or ")
branch-text _ c =
    elim c.if-is_last.branch [
      | branches-then-is_last w ↦ rw (w.end-is, w.if-is_last.true)
      | branches-else-is_last w ↦ rw (w.end-is, w.if-is_last.false)
    ]

branches-some : (t : _) (c : goal.branches-After-put_any t) (s' : Printer) → Prints (branch_list c.args.indent) c.put_any.new.self s' → Told (branch_list c.args.indent) c.loop-self.self s'
unfolding choices
branches-some _ c s' p no_stmts rest g d = absurd (c.loop-self-test.true (reads (begin d) c.word.ensures))
branches-some _ c s' p (stmts s ss) rest g d =
    let h = inside (begin {s = c.loop-self.self} d) in
    let item = word (begin d) c.word.ensures in
    let block = part c.block.ensures s (deeper g.0 (omega arith) (omega arith), g.1.0) item in
    let end = these (branch-end ss (branch-text _ c) (stmts-end ss rest block c.is_at_end-is_last.ensures)) c.put_any.ensures in
    done (part p ss (ready g.0 (omega arith) (omega arith), g.1.1) (text block end))

pub branches-loop-self-init : goal.branches-loop-self-init
branches-loop-self-init t c = none-yet

pub branches-loop-self-preserved : goal.branches-loop-self-preserved
branches-loop-self-preserved t c = one-more c.loop-self.invariant (cc) (cc) (omega arith) (branches-some t c)

pub branches-returns : goal.branches-returns
branches-returns t c = all-of c.loop-self.invariant (prints (cc) (cc) (omega arith) (branches-none t c))

cases-none : (t : _) (c : goal.cases-After-loop-self t) → Told (case_sequence c.args.indent) c.loop-self.self c.word.new.self
unfolding case_list
cases-none _ c no_cases rest g d = done (word (begin d) c.word.ensures)
cases-none _ c (case e s cs) rest g d = let z = reads (begin d) c.word.ensures in absurd (omega (arith, z, c.loop-self-test.false))

case-text : (t : _) (c : goal.cases-After-put_any t) → c.if-is_last.end.now ≡ pick c.is_at_end-is_last.result (bytes "\n") (bytes " ")
case-text _ c =
    elim c.if-is_last.branch [
      | cases-then-is_last w ↦ rw (w.end-is, w.if-is_last.true)
      | cases-else-is_last w ↦ rw (w.end-is, w.if-is_last.false)
    ]

cases-some : (t : _) (c : goal.cases-After-put_any t) (s' : Printer) → Prints (case_sequence c.args.indent) c.put_any.new.self s' → Told (case_sequence c.args.indent) c.loop-self.self s'
unfolding case_list
cases-some _ c s' p no_cases rest g d = absurd (c.loop-self-test.true (reads (begin d) c.word.ensures))
cases-some _ c s' p (case e s cs) rest g d =
    let n = c.word.ensures.past (inside (begin {s = c.loop-self.self} d)) in
    let item = word (begin d) c.word.ensures in
    let test = text (part c.inline.ensures e (ready g.0 (omega arith) (omega arith), g.1.0) (text item c.put.ensures)) c.put-in-loop-self.ensures in
    let block = part c.block.ensures s (deeper g.0 (omega arith) (omega arith), g.1.1) test in
    let end = these (case-end cs (case-text _ c) (cases-end cs rest block c.is_at_end-is_last.ensures)) c.put_any.ensures in
    done (part p cs (ready g.0 (omega arith) (omega arith), g.1.2) (text block end))

pub cases-loop-self-init : goal.cases-loop-self-init
cases-loop-self-init t c = none-yet

pub cases-loop-self-preserved : goal.cases-loop-self-preserved
cases-loop-self-preserved t c = one-more c.loop-self.invariant (cc) (cc) (omega arith) (cases-some t c)

pub cases-returns : goal.cases-returns
cases-returns t c = all-of c.loop-self.invariant (prints (cc) (cc) (omega arith) (cases-none t c))

aexprs-none : (t : _) (c : goal.aexprs-After-loop-self t) → Told (a_expr_list c.args.prefix.now c.args.indent) c.loop-self.self c.word.new.self
unfolding PrintAExprs
aexprs-none _ c no_a_exprs rest g d = done (word (begin d) c.word.ensures)
aexprs-none _ c (a_exprs a es) rest g d = let z = reads (begin d) c.word.ensures in absurd (omega (arith, z, c.loop-self-test.false))

aexprs-some : (t : _) (c : goal.aexprs-After-aexpr t) (s' : Printer) → Prints (a_expr_list c.args.prefix.now c.args.indent) c.aexpr.new.self s' → Told (a_expr_list c.args.prefix.now c.args.indent) c.loop-self.self s'
unfolding PrintAExprs
aexprs-some _ c s' p no_a_exprs rest g d = absurd (c.loop-self-test.true (reads (begin d) c.word.ensures))
aexprs-some _ c s' p (a_exprs a es) rest g d =
    let h = inside (begin {s = c.loop-self.self} d) in
    let item = word (begin d) c.word.ensures in
    let start = text (text (text item c.indent.ensures) c.put_any.ensures) c.put.ensures in
    let assertion = part c.aexpr.ensures a (ready g.0 (omega arith) (omega arith), g.1.0) start in
    done (part p es (ready g.0 (omega arith) (omega arith), g.1.1) assertion)

pub aexprs-loop-self-init : goal.aexprs-loop-self-init
aexprs-loop-self-init t c = none-yet

pub aexprs-loop-self-preserved : goal.aexprs-loop-self-preserved
aexprs-loop-self-preserved t c = one-more c.loop-self.invariant (cc) (cc) (omega arith) (aexprs-some t c)

pub aexprs-returns : goal.aexprs-returns
aexprs-returns t c = all-of c.loop-self.invariant (prints (cc) (cc) (omega arith) (aexprs-none t c))
