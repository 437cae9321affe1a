use Rattle.std.proofs.Common.{refl, sym, true, false, ◌∙◌, ◌-◌, ap, arith, length}
use Rattle.lexing.specs.Bytes.{bytes}
use Rattle.tree.specs.Ast.{Span, Stmt, a_expr, LabeledStmt, Loop}
use Rattle.grammar.specs.Steps.{must}
use Rattle.grammar.specs.Statements.{too_deep, parse_stmt, parse_variable_declaration, after_forall, after_label, after_choose, parse_if_cont, parse_else, parse_case, parse_init, parse_optional_auto_invariant, over_type}
use Rattle.parsing.specs.Contract.{word, sign, needed, span}
use Rattle.parsing.specs.Code.{inner, opening}
use Rattle.parsing.specs.Statements.{block_rule, cont_rule, cond_stmt, after_loop, named_stmt, scope_stmt}
use Rattle.parsing.specs.declared.stmt.Repeated.TheVariants.{Stmts, Nested, Branches, Cases, Invariants}
use Rattle.parsing.specs.declared.lead.Lead.TheVariants as lead
use Rattle.parsing.proofs.Laws.{reads_err, after-none, after-refused}
use Rattle.parsing.proofs.Places.{no_credit, begin, begin_with, later-next, said, read, took, taken, skipped, named, two-made, three-made, headed, paired, foured, as_run, tail, refused_at, refused_last, stood, absent, done}
use Rattle.parsing.proofs.StatementPlaces.{deep-says, deep-none, spares_err, spares_if_err, says-of, stay, back, read-all, spared, spared_if, passed, room, took-least, refuses, without-next, ends, ends-mapped, ends-last, tail-spares, spares_if_same}
use Rattle.parsing.proofs.ExpressionRules.{bool-word}
use Rattle.parsing.proofs.StatementEquations.{must-need, cond-rule, cont-rule, else-rule, aexpr-rule, case-rule, cont-deep, cont-none, forall-words}
use Rattle.parsing.proofs.StatementLevels.{block-deep, block-opens, stmt-opens, cont-opens, body-opens, loop-opens, scope-deep, scope-rule}
use Rattle.parsing.proofs.StatementRules.{level-left, wordless-stmt, stmt-refused, stmt-deep}
use Rattle.parsing.proofs.StatementBranches.{lead_rule}
use Rattle.parsing.proofs.StatementLeads.{led, declared}
use Rattle.parsing.proofs.StatementLoops.{gathered-none, gathered-next, gathered-all, gathered-refused, repetition_rule}
use Rattle.parsing.proofs.parser.Parser.+statement.Goals as goal

-- ---- repetitions

pub repeated-returns-in-Stmts : goal.repeated-returns-in-Stmts
repeated-returns-in-Stmts t c = rw c.in-Stmts.is c.stmt.ensures

pub repeated-returns-in-Nested : goal.repeated-returns-in-Nested
repeated-returns-in-Nested t c = rw c.in-Nested.is c.nested.ensures

pub repeated-returns-in-Branches : goal.repeated-returns-in-Branches
repeated-returns-in-Branches t c = rw c.in-Branches.is c.or_branch.ensures

pub repeated-returns-in-Cases : goal.repeated-returns-in-Cases
repeated-returns-in-Cases t c = rw c.in-Cases.is c.case.ensures

pub repeated-returns-in-Requires : goal.repeated-returns-in-Requires
repeated-returns-in-Requires t c = rw c.in-Requires.is c.aexpr.ensures

pub repeated-returns-in-Ensures : goal.repeated-returns-in-Ensures
repeated-returns-in-Ensures t c = rw c.in-Ensures.is c.aexpr-in-Ensures.ensures

pub repeated-returns-in-Invariants : goal.repeated-returns-in-Invariants
repeated-returns-in-Invariants t c = rw c.in-Invariants.is c.aexpr-in-Invariants.ensures

pub repeated-returns-in-Whens : goal.repeated-returns-in-Whens
repeated-returns-in-Whens t c = rw c.in-Whens.is c.when.ensures

pub many-loop-item-init : goal.many-loop-item-init
many-loop-item-init t c = gathered-none _ _ c.requires

pub many-loop-item-preserved : goal.many-loop-item-preserved
many-loop-item-preserved t c = gathered-next _ _ c.loop-item.invariant (rw c.in-Some.is at c.in_ok-item.ensures) c.push-list.ensures

pub many-returns-in_err-item : goal.many-returns-in_err-item
many-returns-in_err-item t c = reads_err _ _ _ _ _ _ _ _ c.from_residual.ensures.1 (gathered-refused _ _ c.loop-item.invariant c.in_err-item.ensures)

pub many-returns : goal.many-returns
many-returns t c = gathered-all _ _ c.loop-item.invariant (rw c.in_default.is at c.in_ok-item.ensures) c.close.ensures

-- ---- blocks and loops

pub block-returns-in_err-too_deep_if : goal.block-returns-in_err-too_deep_if
block-returns-in_err-too_deep_if t c =
    spares_if_err _ _ _ _ _
    (block-deep _ c.args.depth _ c.if-depth-eq0.true ∙ deep-says (sign (bytes "{")) 1 _ _ _ _ c.sym.ensures c.in_err-too_deep_if.ensures) _ c.from_residual.ensures.1

pub block-returns-then-depth-eq0 : goal.block-returns-then-depth-eq0
block-returns-then-depth-eq0 t c =
    let (n, same) = deep-none (sign (bytes "{")) 1 _ _ _ _ c.sym.ensures c.in_ok-too_deep_if.ensures in
    record { says = block-deep _ c.args.depth _ c.if-depth-eq0.true ∙ n; stayed = stay same }

pub block-returns-in_err-sym : goal.block-returns-in_err-sym
block-returns-in_err-sym t c =
    spares_if_err _ _ _ _ _
    (refuses (sign (bytes "{")) _ _ c.in_err-sym.ensures (said (block-opens _ c.args.depth _ c.if-depth-eq0.false) (begin {p = c.args.self.now}))) _ c.from_residual-in_err-sym.ensures.1

pub block-returns-then-not-branch : goal.block-returns-then-not-branch
block-returns-then-not-branch t c =
    let no = absent (sign (bytes "{")) 1 _ _ c.in_ok-sym.ensures c.if-not-branch.true in
    record { says = block-opens _ c.args.depth _ c.if-depth-eq0.false ∙ after-none _ _ _ no.says; stayed = stay no.same }

pub block-returns-in_err-stmts : goal.block-returns-in_err-stmts
block-returns-in_err-stmts t c =
    spares_if_err _ _ _ _ _
    (refuses (repetition_rule Stmts (c.args.depth - 1)) _ _ c.in_err-stmts.ensures
    (taken _ _ _ (stood (sign (bytes "{")) 1 _ _ c.in_ok-sym.ensures c.if-not-branch.false) (said (block-opens _ c.args.depth _ c.if-depth-eq0.false) begin)))
    _ c.from_residual-in_err-stmts.ensures.1

pub block-returns-in_err-need_sym : goal.block-returns-in_err-need_sym
block-returns-in_err-need_sym t c =
    spares_if_err _ _ _ _ _
    (refused_at (sign (bytes "}")) _ (read-all (repetition_rule Stmts (c.args.depth - 1)) _ c.in_ok-stmts.ensures
    (taken _ _ _ (stood (sign (bytes "{")) 1 _ _ c.in_ok-sym.ensures c.if-not-branch.false) (said (block-opens _ c.args.depth _ c.if-depth-eq0.false) begin)) refl) c.in_err-need_sym.ensures)
    _ c.from_residual-in_err-need_sym.ensures.1

pub block-returns : goal.block-returns
block-returns t c =
    ends _ (headed c.push.ensures (took _ _ c.in_ok-need_sym.ensures
    (read-all (repetition_rule Stmts (c.args.depth - 1)) _ c.in_ok-stmts.ensures
    (taken _ _ _ (stood (sign (bytes "{")) 1 _ _ c.in_ok-sym.ensures c.if-not-branch.false) (said (block-opens _ c.args.depth _ c.if-depth-eq0.false) begin)) refl)) refl) refl refl

pub looped-returns-in_err-invariants : goal.looped-returns-in_err-invariants
looped-returns-in_err-invariants t c =
    reads_err _ _ _ _ _ _ _ _ c.from_residual.ensures.1
    (refuses (repetition_rule Invariants (c.args.depth - 1)) _ _ c.in_err-invariants.ensures (said (loop-opens c.args.depth _ _) (begin_with c.requires.1)))

pub looped-returns-in_err-body : goal.looped-returns-in_err-body
looped-returns-in_err-body t c =
    reads_err _ _ _ _ _ _ _ _ c.from_residual-in_err-body.ensures.1
    (refused_at (block_rule (c.args.depth - 1)) _ (said (must-need (Loop _) _ _) (headed c.push-head.ensures
    (read-all (repetition_rule Invariants (c.args.depth - 1)) _ c.in_ok-invariants.ensures (said (loop-opens c.args.depth _ _) (begin_with c.requires.1)) refl) refl)) c.in_err-body.ensures)

pub looped-returns : goal.looped-returns
looped-returns t c =
    done _ (paired c.pair.ensures (spared (block_rule (c.args.depth - 1)) _ c.in_ok-body.ensures (said (must-need (Loop _) _ _) (headed c.push-head.ensures
    (read-all (repetition_rule Invariants (c.args.depth - 1)) _ c.in_ok-invariants.ensures (said (loop-opens c.args.depth _ _) (begin_with c.requires.1)) refl) refl))) refl)
    refl refl

pub need_scope-returns-in_err-too_deep_if : goal.need_scope-returns-in_err-too_deep_if
need_scope-returns-in_err-too_deep_if t c =
    let at = c.args.self.now.at in
    let l = passed (block_rule c.args.depth) _ _ (rw c.in_default.is at c.in_ok-block.ensures) (said (scope-deep c.args.depth _ _ c.if-depth-eq0.true) begin) in
    let n = deep-says (word (bytes "loop")) 4 _ _ {B = Stmt Span} at _ c.keyword.ensures c.in_err-too_deep_if.ensures in
    spares_err _ _ _ _ _ (l.says ∙ after-refused _ _ _ (says-of (λ text k. too_deep at (word (bytes "loop") text k)) l.later (rw l.here at n)))
    _ c.from_residual-in_err-too_deep_if.ensures.1

pub need_scope-returns-then-depth-eq0 : goal.need_scope-returns-then-depth-eq0
need_scope-returns-then-depth-eq0 t c =
    let at = c.args.self.now.at in
    let l = passed (block_rule c.args.depth) _ _ (rw c.in_default.is at c.in_ok-block.ensures) (said (scope-deep c.args.depth _ _ c.if-depth-eq0.true) begin) in
    let (n, same) = deep-none (word (bytes "loop")) 4 _ _ {B = Stmt Span} at _ c.keyword.ensures c.in_ok-too_deep_if.ensures in
    rw c.unusable.ensures (l.says ∙ after-none _ _ _ (says-of (λ text k. too_deep at (word (bytes "loop") text k)) l.later (rw l.here at n)))

pub need_scope-returns-in_err-keyword : goal.need_scope-returns-in_err-keyword
need_scope-returns-in_err-keyword t c =
    spares_err _ _ _ _ _
    (refuses (word (bytes "loop")) _ _ c.in_err-keyword.ensures
    (passed (block_rule c.args.depth) _ _ (rw c.in_default.is at c.in_ok-block.ensures) (said (scope-rule c.args.depth _ _ c.if-depth-eq0.false) begin)))
    _ c.from_residual-in_err-keyword.ensures.1

pub need_scope-returns-then-branch : goal.need_scope-returns-then-branch
need_scope-returns-then-branch t c =
    tail-spares _ _ (after_loop c.args.depth) 1 3 _ _ c.looped.ensures
    (said (body-opens c.args.depth _ _ _ c.if-depth-eq0.false) (taken _ _ _ (stood (word (bytes "loop")) 4 _ _ c.in_ok-keyword.ensures c.if-branch.true)
    (passed (block_rule c.args.depth) _ _ (rw c.in_default.is at c.in_ok-block.ensures) (said (scope-rule c.args.depth _ _ c.if-depth-eq0.false) begin)))) refl refl

pub need_scope-returns : goal.need_scope-returns
need_scope-returns t c =
    let l = passed (block_rule c.args.depth) _ _ (rw c.in_default.is at c.in_ok-block.ensures) (said (scope-rule c.args.depth _ _ c.if-depth-eq0.false) begin) in
    let l = skipped _ _ _ (absent (word (bytes "loop")) 4 _ _ c.in_ok-keyword.ensures c.if-branch.false) l in
    rw c.unusable-2.ensures l.says

-- ---- statements

pub stmt-returns-in_default : goal.stmt-returns-in_default
stmt-returns-in_default t c =
    spares_if_same _ _ (block_rule c.args.depth) _ _ _ (wordless-stmt _ c.args.depth _ (rw c.in_default.is at c.word_ahead.ensures)) c.block.ensures

pub stmt-returns-in_err-name : goal.stmt-returns-in_err-name
stmt-returns-in_err-name t c =
    let s = rw c.in-Some.is at c.word_ahead.ensures in
    spares_if_err _ _ _ _ _ (stmt-refused _ c.args.depth _ s.measured s.filled _ c.lead_at-lead.ensures (sym c.if-opens_none.false ∙ c.opens_none.ensures) c.in_err-name.ensures) _ c.from_residual.ensures.1

pub stmt-returns-then-opens_none : goal.stmt-returns-then-opens_none
stmt-returns-then-opens_none t c =
    let s = rw c.in-Some.is at c.word_ahead.ensures in
    rw c.too_deep.ensures (stmt-deep _ c.args.depth _ s.measured s.filled _ c.lead_at-lead.ensures (sym c.if-opens_none.true ∙ c.opens_none.ensures))

pub stmt-var_decl-requires : goal.stmt-var_decl-requires
stmt-var_decl-requires t c =
    (omega (arith, c.decreases), room 6 no_credit (led c.args.depth (rw c.in-Some.is at c.word_ahead.ensures) c.lead_at-lead.ensures c.in_ok-name.ensures lead.Var c.in-Var.is) refl)

pub stmt-returns-in_err-var_decl-in-Var : goal.stmt-returns-in_err-var_decl-in-Var
stmt-returns-in_err-var_decl-in-Var t c =
    spares_if_err _ _ _ _ _ (refused_last (lead_rule lead.Var c.args.depth (span c.in_ok-name.name))
    (led c.args.depth (rw c.in-Some.is at c.word_ahead.ensures) c.lead_at-lead.ensures c.in_ok-name.ensures lead.Var c.in-Var.is) c.in_err-var_decl-in-Var.ensures) _ c.from_residual-in_err-var_decl-in-Var.ensures.1

pub stmt-var_decl-requires-in-Val : goal.stmt-var_decl-requires-in-Val
stmt-var_decl-requires-in-Val t c =
    (omega (arith, c.decreases), room 6 no_credit (led c.args.depth (rw c.in-Some.is at c.word_ahead.ensures) c.lead_at-lead.ensures c.in_ok-name.ensures lead.Val c.in-Val.is) refl)

pub stmt-returns-in_err-var_decl-in-Val : goal.stmt-returns-in_err-var_decl-in-Val
stmt-returns-in_err-var_decl-in-Val t c =
    spares_if_err _ _ _ _ _ (refused_last (lead_rule lead.Val c.args.depth (span c.in_ok-name.name))
    (led c.args.depth (rw c.in-Some.is at c.word_ahead.ensures) c.lead_at-lead.ensures c.in_ok-name.ensures lead.Val c.in-Val.is) c.in_err-var_decl-in-Val.ensures) _ c.from_residual-in_err-var_decl-in-Val.ensures.1

pub stmt-simple-requires : goal.stmt-simple-requires
stmt-simple-requires t c = room 4 no_credit (led c.args.depth (rw c.in-Some.is at c.word_ahead.ensures) c.lead_at-lead.ensures c.in_ok-name.ensures (lead.Simple c.in-Simple.kind) c.in-Simple.is) refl

pub stmt-returns-in_err-simple-in-Simple : goal.stmt-returns-in_err-simple-in-Simple
stmt-returns-in_err-simple-in-Simple t c =
    spares_if_err _ _ _ _ _ (refused_last (lead_rule (lead.Simple c.in-Simple.kind) c.args.depth (span c.in_ok-name.name))
    (led c.args.depth (rw c.in-Some.is at c.word_ahead.ensures) c.lead_at-lead.ensures c.in_ok-name.ensures (lead.Simple c.in-Simple.kind) c.in-Simple.is) c.in_err-simple-in-Simple.ensures) _ c.from_residual-in_err-simple-in-Simple.ensures.1

pub stmt-returns-in_err-forall_stmt-in-Forall : goal.stmt-returns-in_err-forall_stmt-in-Forall
stmt-returns-in_err-forall_stmt-in-Forall t c =
    spares_if_err _ _ _ _ _ (refused_last (lead_rule lead.Forall c.args.depth (span c.in_ok-name.name))
    (led c.args.depth (rw c.in-Some.is at c.word_ahead.ensures) c.lead_at-lead.ensures c.in_ok-name.ensures lead.Forall c.in-Forall.is) c.in_err-forall_stmt-in-Forall.ensures) _ c.from_residual-in_err-forall_stmt-in-Forall.ensures.1

pub stmt-choose-requires : goal.stmt-choose-requires
stmt-choose-requires t c =
    (omega (arith, c.decreases), room 3 no_credit (led c.args.depth (rw c.in-Some.is at c.word_ahead.ensures) c.lead_at-lead.ensures c.in_ok-name.ensures lead.Choose c.in-Choose.is) refl)

pub stmt-returns-in_err-choose-in-Choose : goal.stmt-returns-in_err-choose-in-Choose
stmt-returns-in_err-choose-in-Choose t c =
    spares_if_err _ _ _ _ _ (refused_last (lead_rule lead.Choose c.args.depth (span c.in_ok-name.name))
    (led c.args.depth (rw c.in-Some.is at c.word_ahead.ensures) c.lead_at-lead.ensures c.in_ok-name.ensures lead.Choose c.in-Choose.is) c.in_err-choose-in-Choose.ensures) _ c.from_residual-in_err-choose-in-Choose.ensures.1

pub stmt-if_cont-requires : goal.stmt-if_cont-requires
stmt-if_cont-requires t c =
    (omega (arith, c.decreases), room 3 no_credit (led c.args.depth (rw c.in-Some.is at c.word_ahead.ensures) c.lead_at-lead.ensures c.in_ok-name.ensures lead.If c.in-If.is) refl)

pub stmt-returns-in_err-if_cont-in-If : goal.stmt-returns-in_err-if_cont-in-If
stmt-returns-in_err-if_cont-in-If t c =
    spares_if_err _ _ _ _ _ (refused_last (lead_rule lead.If c.args.depth (span c.in_ok-name.name))
    (led c.args.depth (rw c.in-Some.is at c.word_ahead.ensures) c.lead_at-lead.ensures c.in_ok-name.ensures lead.If c.in-If.is) c.in_err-if_cont-in-If.ensures) _ c.from_residual-in_err-if_cont-in-If.ensures.1

pub stmt-looped-requires : goal.stmt-looped-requires
stmt-looped-requires t c = (
  omega (arith, c.decreases),
  (
    omega (arith, level-left c.args.depth (sym c.if-opens_none.false ∙ c.opens_none.ensures) c.in-Loop.is),
    room 3 no_credit (led c.args.depth (rw c.in-Some.is at c.word_ahead.ensures) c.lead_at-lead.ensures c.in_ok-name.ensures lead.Loop c.in-Loop.is) refl,
  ),
)

pub stmt-returns-in_err-looped-in-Loop : goal.stmt-returns-in_err-looped-in-Loop
stmt-returns-in_err-looped-in-Loop t c =
    spares_if_err _ _ _ _ _ (refused_last (after_loop c.args.depth)
    (said (body-opens c.args.depth _ _ _ (level-left c.args.depth (sym c.if-opens_none.false ∙ c.opens_none.ensures) c.in-Loop.is)) (led c.args.depth (rw c.in-Some.is at c.word_ahead.ensures) c.lead_at-lead.ensures c.in_ok-name.ensures lead.Loop c.in-Loop.is))
    c.in_err-looped-in-Loop.ensures) _ c.from_residual-in_err-looped-in-Loop.ensures.1

pub stmt-returns-in_err-stmt-in-Name : goal.stmt-returns-in_err-stmt-in-Name
stmt-returns-in_err-stmt-in-Name t c =
    spares_if_err _ _ _ _ _ (refused_last (lead_rule lead.Name c.args.depth (span c.in_ok-name.name))
    (led c.args.depth (rw c.in-Some.is at c.word_ahead.ensures) c.lead_at-lead.ensures c.in_ok-name.ensures lead.Name c.in-Name.is) c.in_err-stmt-in-Name.ensures) _ c.from_residual-in_err-stmt-in-Name.ensures.1

pub stmt-returns-in_default-2 : goal.stmt-returns-in_default-2
stmt-returns-in_default-2 t c =
    let no = rw c.in_default-2.is at c.in_ok-stmt-in-Name.ensures in
    let w = c.in_ok-name.ensures.named in
    let l = (led c.args.depth (rw c.in-Some.is at c.word_ahead.ensures) c.lead_at-lead.ensures c.in_ok-name.ensures lead.Name c.in-Name.is) in
    let m = stay no.same in
    record {
      says = l.says ∙ says-of (named_stmt c.args.depth (span c.in_ok-name.name)) w.went.later no.says;
      stayed = back (later-next w.went.later m.later) (m.top_same ∙ w.top_same) refl refl refl refl;
    }

pub stmt-returns-in_ok-var_decl-in-Var : goal.stmt-returns-in_ok-var_decl-in-Var
stmt-returns-in_ok-var_decl-in-Var t c =
    ends-last _ (lead_rule lead.Var c.args.depth (span c.in_ok-name.name)) c.in_ok-var_decl-in-Var.ensures
    (declared c.args.depth (rw c.in-Some.is at c.word_ahead.ensures) c.lead_at-lead.ensures c.in_ok-name.ensures lead.Var c.in-Var.is true c.in_ok-var_decl-in-Var.ensures.says refl) refl refl

pub stmt-returns-in_ok-var_decl-in-Val : goal.stmt-returns-in_ok-var_decl-in-Val
stmt-returns-in_ok-var_decl-in-Val t c =
    ends-last _ (lead_rule lead.Val c.args.depth (span c.in_ok-name.name)) c.in_ok-var_decl-in-Val.ensures
    (declared c.args.depth (rw c.in-Some.is at c.word_ahead.ensures) c.lead_at-lead.ensures c.in_ok-name.ensures lead.Val c.in-Val.is false c.in_ok-var_decl-in-Val.ensures.says refl) refl refl

pub stmt-returns-in_ok-simple-in-Simple : goal.stmt-returns-in_ok-simple-in-Simple
stmt-returns-in_ok-simple-in-Simple t c =
    ends-last _ (lead_rule (lead.Simple c.in-Simple.kind) c.args.depth (span c.in_ok-name.name)) c.in_ok-simple-in-Simple.ensures
    (led c.args.depth (rw c.in-Some.is at c.word_ahead.ensures) c.lead_at-lead.ensures c.in_ok-name.ensures (lead.Simple c.in-Simple.kind) c.in-Simple.is) refl refl

pub stmt-returns-in_ok-forall_stmt-in-Forall : goal.stmt-returns-in_ok-forall_stmt-in-Forall
stmt-returns-in_ok-forall_stmt-in-Forall t c =
    ends-last _ (lead_rule lead.Forall c.args.depth (span c.in_ok-name.name)) c.in_ok-forall_stmt-in-Forall.ensures
    (led c.args.depth (rw c.in-Some.is at c.word_ahead.ensures) c.lead_at-lead.ensures c.in_ok-name.ensures lead.Forall c.in-Forall.is) refl refl

pub stmt-returns-in_ok-choose-in-Choose : goal.stmt-returns-in_ok-choose-in-Choose
stmt-returns-in_ok-choose-in-Choose t c =
    ends-last _ (lead_rule lead.Choose c.args.depth (span c.in_ok-name.name)) c.in_ok-choose-in-Choose.ensures
    (led c.args.depth (rw c.in-Some.is at c.word_ahead.ensures) c.lead_at-lead.ensures c.in_ok-name.ensures lead.Choose c.in-Choose.is) refl refl

pub stmt-returns-in_ok-if_cont-in-If : goal.stmt-returns-in_ok-if_cont-in-If
stmt-returns-in_ok-if_cont-in-If t c =
    ends-last _ (lead_rule lead.If c.args.depth (span c.in_ok-name.name)) c.in_ok-if_cont-in-If.ensures
    (led c.args.depth (rw c.in-Some.is at c.word_ahead.ensures) c.lead_at-lead.ensures c.in_ok-name.ensures lead.If c.in-If.is) refl refl

pub stmt-returns-in_ok-looped-in-Loop : goal.stmt-returns-in_ok-looped-in-Loop
stmt-returns-in_ok-looped-in-Loop t c =
    ends-last _ (after_loop c.args.depth) c.in_ok-looped-in-Loop.ensures
    (said (body-opens c.args.depth _ _ _ (level-left c.args.depth (sym c.if-opens_none.false ∙ c.opens_none.ensures) c.in-Loop.is)) (led c.args.depth (rw c.in-Some.is at c.word_ahead.ensures) c.lead_at-lead.ensures c.in_ok-name.ensures lead.Loop c.in-Loop.is)) refl refl

pub stmt-returns-in-Some-2 : goal.stmt-returns-in-Some-2
stmt-returns-in-Some-2 t c =
    ends-last _ (lead_rule lead.Name c.args.depth (span c.in_ok-name.name)) (rw c.in-Some-2.is at c.in_ok-stmt-in-Name.ensures)
    (led c.args.depth (rw c.in-Some.is at c.word_ahead.ensures) c.lead_at-lead.ensures c.in_ok-name.ensures lead.Name c.in-Name.is) refl refl

pub nested-returns : goal.nested-returns
nested-returns t c = spares_if_same _ _ (opening parse_stmt (c.args.depth - 1)) _ _ _ (stmt-opens _ c.args.depth _ c.if-depth-eq0.false) c.stmt.ensures

pub labeled_stmt-returns : goal.labeled_stmt-returns
unfolding after_label
labeled_stmt-returns t c =
    done _ (paired c.pair.ensures (spared (scope_stmt c.args.depth) _ c.in_ok-body.ensures (three-made c.push-head.ensures
    (said (must-need (LabeledStmt (span c.args.name)) _ _) (begin_with c.requires)) refl)) refl) refl refl

pub forall_stmt-returns : goal.forall_stmt-returns
unfolding after_forall
forall_stmt-returns t c =
    done _ (as_run (forall-words _ _) (paired c.pair.ensures (spared (block_rule c.args.depth) _ c.in_ok-body.ensures (said (must-need (over_type _) _ _)
    (headed c.push-head.ensures (read _ _ c.in_ok-binding.ensures (begin_with c.requires) refl) refl))) refl)) refl refl

pub var_decl-returns-in_err-inv : goal.var_decl-returns-in_err-inv
unfolding parse_variable_declaration
var_decl-returns-in_err-inv t c =
    reads_err _ _ _ _ _ _ _ _ c.from_residual-in_err-inv.ensures.1
    (refuses (opening parse_optional_auto_invariant c.args.depth) _ _ c.in_err-inv.ensures (headed c.push-marked.ensures (read-all _ _ c.in_ok-typ.ensures (three-made c.push-head.ensures
    (named _ _ c.in_ok-name.ensures (begin_with c.requires)) refl) refl) refl))

pub var_decl-returns-in_err-init : goal.var_decl-returns-in_err-init
unfolding parse_variable_declaration
var_decl-returns-in_err-init t c =
    reads_err _ _ _ _ _ _ _ _ c.from_residual-in_err-init.ensures.1
    (refuses (opening parse_init c.args.depth) _ _ c.in_err-init.ensures (read-all (opening parse_optional_auto_invariant c.args.depth) _ c.in_ok-inv.ensures
    (headed c.push-marked.ensures (read-all _ _ c.in_ok-typ.ensures (three-made c.push-head.ensures (named _ _ c.in_ok-name.ensures (begin_with c.requires)) refl) refl) refl) refl))

pub var_decl-returns-in_err-stmts : goal.var_decl-returns-in_err-stmts
unfolding parse_variable_declaration
var_decl-returns-in_err-stmts t c =
    reads_err _ _ _ _ _ _ _ _ c.from_residual-in_err-stmts.ensures.1
    (refuses (repetition_rule Nested c.args.depth) _ _ c.in_err-stmts.ensures (foured c.four-declaration.ensures (read-all (opening parse_init c.args.depth) _ c.in_ok-init.ensures
    (read-all (opening parse_optional_auto_invariant c.args.depth) _ c.in_ok-inv.ensures
    (without-next (headed c.push-marked.ensures (read-all _ _ c.in_ok-typ.ensures (three-made c.push-head.ensures (named _ _ c.in_ok-name.ensures (begin_with c.requires)) refl) refl) refl)) refl) refl) refl))

pub var_decl-returns : goal.var_decl-returns
unfolding parse_variable_declaration
var_decl-returns t c =
    let marked = rw (c.from.ensures ∙ bool-word c.args.mutable) at c.push-marked.ensures in
    done _ (paired c.pair.ensures (without-next (headed c.push-body.ensures (read-all (repetition_rule Nested c.args.depth) _ c.in_ok-stmts.ensures
    (foured c.four-declaration.ensures (read-all (opening parse_init c.args.depth) _ c.in_ok-init.ensures (read-all (opening parse_optional_auto_invariant c.args.depth) _ c.in_ok-inv.ensures
    (without-next (headed marked (read-all _ _ c.in_ok-typ.ensures (three-made c.push-head.ensures (named _ _ c.in_ok-name.ensures (begin_with c.requires)) refl) refl) refl)) refl) refl) refl)
    refl) refl)) refl) refl refl

pub aexpr-returns-in-Some : goal.aexpr-returns-in-Some
aexpr-returns-in-Some t c =
    let w = took-least 7 c.requires (stood (word c.args.bytes.now) (length c.args.bytes.now) _ _ c.in_ok-keyword.ensures c.if-not-branch.false) in
    ends _ (headed c.push.ensures (spared_if (block_rule c.args.depth) _ _ (rw c.in-Some.is at c.in_ok-block.ensures) (taken _ _ _ w
    (said (aexpr-rule _ c.args.depth c.args.bytes.now _) begin))) refl) refl refl

pub aexpr-returns-in_err-stated : goal.aexpr-returns-in_err-stated
aexpr-returns-in_err-stated t c =
    let w = took-least 7 c.requires (stood (word c.args.bytes.now) (length c.args.bytes.now) _ _ c.in_ok-keyword.ensures c.if-not-branch.false) in
    spares_if_err _ _ _ _ _
    (refuses (needed (inner c.args.depth)) _ _ c.in_err-stated.ensures (passed (block_rule c.args.depth) _ _ (rw c.in_default.is at c.in_ok-block.ensures) (taken _ _ _ w
    (said (aexpr-rule _ c.args.depth c.args.bytes.now _) begin))))
    _ c.from_residual-in_err-stated.ensures.1

pub aexpr-returns : goal.aexpr-returns
aexpr-returns t c =
    let w = took-least 7 c.requires (stood (word c.args.bytes.now) (length c.args.bytes.now) _ _ c.in_ok-keyword.ensures c.if-not-branch.false) in
    ends-mapped _ (needed (inner c.args.depth)) a_expr (λ e. refl) c.in_ok-stated.ensures (passed (block_rule c.args.depth) _ _ (rw c.in_default.is at c.in_ok-block.ensures) (taken _ _ _ w
    (said (aexpr-rule _ c.args.depth c.args.bytes.now _) begin))) refl refl

-- ---- alternatives

pub choose-returns : goal.choose-returns
unfolding after_choose
choose-returns t c =
    done _ (headed c.push.ensures (paired c.pair-all.ensures (read-all (repetition_rule Branches c.args.depth) _ c.in_ok-branches.ensures (headed c.push-head.ensures
    (spared (block_rule c.args.depth) _ c.in_ok-first.ensures (begin_with c.requires)) refl) refl) refl) refl) refl refl

pub else_if-returns-in_err-too_deep_expr : goal.else_if-returns-in_err-too_deep_expr
else_if-returns-in_err-too_deep_expr t c =
    reads_err _ _ _ _ _ _ _ _ c.from_residual.ensures.1 (rw c.if-depth-eq0.true (after-refused _ _ _ (cont-deep _ _ c.in_err-too_deep_expr.ensures)))

pub else_if-returns-then-depth-eq0 : goal.else_if-returns-then-depth-eq0
else_if-returns-then-depth-eq0 t c = rw (c.if-depth-eq0.true, c.unusable.ensures) (after-none _ _ _ (cont-none _ c.args.self.now c.args.self.now _ refl c.in_ok-too_deep_expr.ensures))

pub else_if-returns : goal.else_if-returns
else_if-returns t c =
    tail _ _ (needed (opening parse_if_cont (c.args.depth - 1))) 1 3 1 3 _ _ c.if_cont.ensures (said (ap (must _) (cont-opens _ c.args.depth _ c.if-depth-eq0.false)) (begin_with c.requires)) refl refl refl

pub if_cont-returns-in_err-first : goal.if_cont-returns-in_err-first
if_cont-returns-in_err-first t c =
    reads_err _ _ _ _ _ _ _ _ c.from_residual.ensures.1
    (refuses (opening parse_case c.args.depth) _ _ c.in_err-first.ensures (said (cont-rule _ c.args.depth _) (begin_with c.requires)))

pub if_cont-returns-in_default : goal.if_cont-returns-in_default
if_cont-returns-in_default t c =
    tail _ _ (needed (cond_stmt c.args.depth)) 1 3 1 3 _ _ c.if_cond.ensures
    (passed (opening parse_case c.args.depth) _ _ (rw c.in_default.is at c.in_ok-first.ensures) (said (cont-rule _ c.args.depth _) (begin_with c.requires))) refl refl refl

pub if_cont-returns-in_err-cases : goal.if_cont-returns-in_err-cases
if_cont-returns-in_err-cases t c =
    reads_err _ _ _ _ _ _ _ _ c.from_residual-in_err-cases.ensures.1
    (refuses (repetition_rule Cases c.args.depth) _ _ c.in_err-cases.ensures (headed c.push-head.ensures
    (spared_if (opening parse_case c.args.depth) _ _ (rw c.in-Some.is at c.in_ok-first.ensures) (said (cont-rule _ c.args.depth _) (begin_with c.requires))) refl))

pub if_cont-returns : goal.if_cont-returns
if_cont-returns t c =
    done _ (headed c.push.ensures (paired c.pair-all.ensures (read-all (repetition_rule Cases c.args.depth) _ c.in_ok-cases.ensures (headed c.push-head.ensures
    (spared_if (opening parse_case c.args.depth) _ _ (rw c.in-Some.is at c.in_ok-first.ensures) (said (cont-rule _ c.args.depth _) (begin_with c.requires))) refl) refl) refl) refl) refl refl

pub if_cond-returns-in_err-thn : goal.if_cond-returns-in_err-thn
if_cond-returns-in_err-thn t c =
    reads_err _ _ _ _ _ _ _ _ c.from_residual-in_err-thn.ensures.1
    (refused_at (block_rule c.args.depth) _ (headed c.push-head.ensures (read _ _ c.in_ok-guard.ensures (said (cond-rule _ c.args.depth _) (begin_with c.requires)) refl) refl)
    c.in_err-thn.ensures)

pub if_cond-returns : goal.if_cond-returns
if_cond-returns t c =
    done _ (paired c.pair.ensures (without-next (without-next (paired c.pair-both.ensures (read-all (opening parse_else c.args.depth) _ c.in_ok-els.ensures
    (spared (block_rule c.args.depth) _ c.in_ok-thn.ensures (headed c.push-head.ensures (read _ _ c.in_ok-guard.ensures (said (cond-rule _ c.args.depth _) (begin_with c.requires)) refl) refl)) refl) refl)))
    refl) refl refl

pub if_else-returns-then-not-branch : goal.if_else-returns-then-not-branch
if_else-returns-then-not-branch t c =
    done _ (two-made c.push.ensures (skipped _ _ _ (absent (word (bytes "else")) 4 _ _ c.in_ok-keyword.ensures c.if-not-branch.true)
    (said (else-rule _ c.args.depth _) (begin_with c.requires))) refl) refl refl

pub if_else-returns-then-branch : goal.if_else-returns-then-branch
if_else-returns-then-branch t c =
    tail _ _ (needed (cont_rule c.args.depth)) 0 1 1 3 _ _ c.else_if.ensures
    (taken _ _ _ (stood (word (bytes "if")) 2 _ _ c.in_ok-keyword-2.ensures c.if-branch.true) (taken _ _ _ (stood (word (bytes "else")) 4 _ _ c.in_ok-keyword.ensures c.if-not-branch.false)
    (said (else-rule _ c.args.depth _) (begin_with c.requires)))) refl refl refl

pub case-returns-in_err-body : goal.case-returns-in_err-body
case-returns-in_err-body t c =
    spares_if_err _ _ _ _ _
    (refused_at (block_rule c.args.depth) _ (read _ _ c.in_ok-guard.ensures (taken _ _ _ (stood (word (bytes "case")) 4 _ _ c.in_ok-keyword.ensures c.if-not-branch.false)
    (said (case-rule _ c.args.depth _) begin)) refl) c.in_err-body.ensures)
    _ c.from_residual-in_err-body.ensures.1

pub case-returns : goal.case-returns
case-returns t c =
    ends _ (paired c.pair.ensures (spared (block_rule c.args.depth) _ c.in_ok-body.ensures (read _ _ c.in_ok-guard.ensures
    (taken _ _ _ (stood (word (bytes "case")) 4 _ _ c.in_ok-keyword.ensures c.if-not-branch.false) (said (case-rule _ c.args.depth _) begin)) refl)) refl) refl refl
