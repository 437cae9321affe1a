-- The methods that print expressions, each by its steps.
use Rattle.std.proofs.Common.{arith, ℕ, ◌≡◌, ap, sym, ◌∙◌, Bool, List, [], ◌++◌, None, Some}
use Rattle.lexing.specs.Answer.{pick}
use Rattle.lexing.specs.Bytes.{bytes}
use Rattle.tree.specs.Ast.{Span, Operator, ArgumentCount, OperatorExpr, Patterns}
use Rattle.tree.specs.Words.{patterns_words}
use Rattle.rendering.specs.declared.printer.Printer.{Printer}
use Rattle.rendering.specs.Parts.{Ends}
use Rattle.rendering.proofs.Walk.{Walk}
use Rattle.tree.specs.Ast.{no_exprs, ◌then◌, no_patterns, pattern, no_closure_bindings, closure_binding, no_closure_properties, closure_property}
use Rattle.layout.specs.Printer.{Expression, ExpressionList, operands, patterns, triggers, closure_bindings, properties, triggers_end, else_branch}
use Rattle.layout.specs.declared.format.ExprFormatOption.TheVariants.{SingleLine}
use Rattle.tree.specs.Codes.{as_operator}
use Rattle.rendering.specs.Wrote.{Puts}
use Rattle.rendering.specs.Parts.{Told, Prints, named}
use Rattle.rendering.specs.ExprParts.{operand, a_form, expression_list, pattern_list, trigger_list, closure_list, property_list}
use Rattle.rendering.proofs.Walk.{prints, ready, begin, reads, inside, word, text, these, part, done, at-end, as-print, unwritten, none-yet, one-more, all-of}
use Rattle.rendering.proofs.ExprPrints.Forms.{right_format, deeper-is, more-indent, more-least, right-indent, binary-print, unary-form, binary-form, conditional-form, listed-form, noted-operands, takes-three}
use Rattle.rendering.proofs.ExprPrints.Tags.{operator-is, same-operator, tagged, is-bool, is-natural, is-custom, is-identifier, is-operator, is-call, is-label, is-let, is-quantifier, is-closure, is-none}
use Rattle.rendering.proofs.printer.Printer.+expression.Goals.{properties-then-not-is_bare, properties-else-not-is_bare}
use Rattle.rendering.proofs.printer.Printer.+expression.Goals as goal

-- ---- an expression by its first word

pub expr-returns-in-Some-BLiteral : goal.expr-returns-in-Some-BLiteral
expr-returns-in-Some-BLiteral t c = prints (cc) (cc) (omega arith) (is-bool c.word.ensures c.from_word.ensures c.args.setting.context c.args.setting.format c.in-Some-BLiteral.is c.in-Some-BLiteral.field-0-is c.bool_literal.ensures)

pub expr-returns-in-Some-ILiteral : goal.expr-returns-in-Some-ILiteral
expr-returns-in-Some-ILiteral t c = prints (cc) (cc) (omega arith) (is-natural c.word.ensures c.from_word.ensures c.args.setting.context c.args.setting.format c.in-Some-ILiteral.is c.in-Some-ILiteral.field-0-is c.natural_literal.ensures)

pub expr-returns-in-Some-CustomLiteral : goal.expr-returns-in-Some-CustomLiteral
expr-returns-in-Some-CustomLiteral t c = prints (cc) (cc) (omega arith) (is-custom c.word.ensures c.from_word.ensures c.args.setting.context c.args.setting.format c.in-Some-CustomLiteral.is c.in-Some-CustomLiteral.field-0-is c.custom_literal.ensures)

pub expr-returns-in-Some-IdExpr : goal.expr-returns-in-Some-IdExpr
expr-returns-in-Some-IdExpr t c = prints (cc) (cc) (omega arith) (is-identifier c.word.ensures c.from_word.ensures c.args.setting.context c.args.setting.format c.in-Some-IdExpr.is c.in-Some-IdExpr.field-0-is c.identifier.ensures)

pub expr-returns-in-Some-OperatorExpr : goal.expr-returns-in-Some-OperatorExpr
expr-returns-in-Some-OperatorExpr t c = prints (cc) (cc) (omega arith) (is-operator c.word.ensures c.from_word.ensures c.args.setting.context c.args.setting.format c.in-Some-OperatorExpr.is c.in-Some-OperatorExpr.field-0-is c.operator_expr.ensures)

pub expr-operator_expr-requires : goal.expr-operator_expr-requires
expr-operator_expr-requires t c = (let p = tagged c.word.ensures c.from_word.ensures c.in-Some-OperatorExpr.is in omega arith, tt)

pub expr-returns-in-Some-FunctionCallExpr : goal.expr-returns-in-Some-FunctionCallExpr
expr-returns-in-Some-FunctionCallExpr t c = prints (cc) (cc) (omega arith) (is-call c.word.ensures c.from_word.ensures c.args.setting.context c.args.setting.format c.in-Some-FunctionCallExpr.is c.in-Some-FunctionCallExpr.field-0-is c.call_expr.ensures)

pub expr-call_expr-requires : goal.expr-call_expr-requires
expr-call_expr-requires t c = (let p = tagged c.word.ensures c.from_word.ensures c.in-Some-FunctionCallExpr.is in omega arith, tt)

pub expr-returns-in-Some-LabeledExpr : goal.expr-returns-in-Some-LabeledExpr
expr-returns-in-Some-LabeledExpr t c = prints (cc) (cc) (omega arith) (is-label c.word.ensures c.from_word.ensures c.args.setting.context c.args.setting.format c.in-Some-LabeledExpr.is c.in-Some-LabeledExpr.field-0-is c.labeled_expr.ensures)

pub expr-labeled_expr-requires : goal.expr-labeled_expr-requires
expr-labeled_expr-requires t c = (let p = tagged c.word.ensures c.from_word.ensures c.in-Some-LabeledExpr.is in omega arith, tt)

pub expr-returns-in-Some-LetExpr : goal.expr-returns-in-Some-LetExpr
expr-returns-in-Some-LetExpr t c = prints (cc) (cc) (omega arith) (is-let c.word.ensures c.from_word.ensures c.args.setting.context c.args.setting.format c.in-Some-LetExpr.is c.in-Some-LetExpr.field-0-is c.let_expr.ensures)

pub expr-let_expr-requires : goal.expr-let_expr-requires
expr-let_expr-requires t c = (let p = tagged c.word.ensures c.from_word.ensures c.in-Some-LetExpr.is in omega arith, tt)

pub expr-returns-in-Some-QuantifierExpr : goal.expr-returns-in-Some-QuantifierExpr
expr-returns-in-Some-QuantifierExpr t c = prints (cc) (cc) (omega arith) (is-quantifier c.word.ensures c.from_word.ensures c.args.setting.context c.args.setting.format c.in-Some-QuantifierExpr.is c.in-Some-QuantifierExpr.field-0-is c.quantifier_expr.ensures)

pub expr-quantifier_expr-requires : goal.expr-quantifier_expr-requires
expr-quantifier_expr-requires t c = (let p = tagged c.word.ensures c.from_word.ensures c.in-Some-QuantifierExpr.is in omega arith, tt)

pub expr-returns-in-Some-ClosureExpr : goal.expr-returns-in-Some-ClosureExpr
expr-returns-in-Some-ClosureExpr t c = prints (cc) (cc) (omega arith) (is-closure c.word.ensures c.from_word.ensures c.args.setting.context c.args.setting.format c.in-Some-ClosureExpr.is c.in-Some-ClosureExpr.field-0-is c.closure_expr.ensures)

pub expr-closure_expr-requires : goal.expr-closure_expr-requires
expr-closure_expr-requires t c = (let p = tagged c.word.ensures c.from_word.ensures c.in-Some-ClosureExpr.is in omega arith, tt)

pub expr-returns-in-None : goal.expr-returns-in-None
expr-returns-in-None t c = prints (cc) (cc) (omega arith) (is-none c.word.ensures c.from_word.ensures c.args.setting.context c.args.setting.format c.in-None.is)

-- ---- operators

pub operator_expr-returns-in-Some : goal.operator_expr-returns-in-Some
unfolding Expression
operator_expr-returns-in-Some t c =
    prints (cc) (cc) (omega arith)
    (λ a rest g d.
    let e = same-operator a.0 c.from_word.ensures c.in-Some.is (reads (begin {s = c.args.self.now} d) c.word.ensures) in
    let strength = c.binding_strength-strength.ensures in
    let left = text (word (begin d) c.word.ensures) (rw strength at c.parenthesis.ensures) in
    let operands = part c.operands.ensures a.1 (ready g.0 (omega arith) (omega arith), g.1) left in
    as-print (ap (λ (o : Operator). Expression (named c.args.self.now.source) c.args.self.now.source.step (OperatorExpr o a.1) c.args.setting.context c.args.setting.format) e) (done (text operands (rw strength at c.parenthesis-in-Some.ensures))))

pub operator_expr-returns-in_default : goal.operator_expr-returns-in_default
operator_expr-returns-in_default t c =
    prints (cc) (cc) (omega arith)
    (λ a rest g d.
    let e = operator-is a.0 c.from_word.ensures (reads (begin {s = c.args.self.now} d) c.word.ensures) in
    let z : None ≡ Some e.0 = sym c.in_default.is ∙ e.1 in
    absurd cc)

pub operands-returns-then-count-argument_count : goal.operands-returns-then-count-argument_count
operands-returns-then-count-argument_count t c =
    prints (cc) (cc) (omega arith)
    (λ es rest g d.
    let n = noted-operands c.count-count.ensures es rest d g.1.0 in
    as-print (listed-form c.args.self.now.source (as_operator c.args.op) c.args.setting.context c.args.setting.format es (λ e. c.if-count-argument_count.true (n ∙ e ∙ sym c.argument_count.ensures)))
    (done (part c.listed.ensures es (ready g.0 (omega arith) (omega arith), g.1) (begin d))))

one : (t : _) (c : goal.operands-After-unary t) → Told (a_form c.args.op c.args.setting.context c.args.setting.format) c.args.self.now c.unary.new.self
one _ c no_exprs rest g d = absurd (let n = noted-operands c.count-count.ensures no_exprs rest d g.1.0 in omega arith)
one _ c (◌then◌ a no_exprs) rest g d =
    as-print (unary-form c.args.self.now.source (as_operator c.args.op) c.args.setting.context c.args.setting.format a (sym c.argument_count.ensures ∙ sym c.if-count-argument_count.false ∙ c.in-1.is))
    (done (part c.unary.ensures a (ready g.0 (omega arith) (omega arith), g.1) (begin d)))
one _ c (◌then◌ a (◌then◌ b es)) rest g d = absurd (let n = noted-operands c.count-count.ensures (◌then◌ a (◌then◌ b es)) rest d g.1.0 in omega arith)

two : (t : _) (c : goal.operands-After-binary t) → Told (a_form c.args.op c.args.setting.context c.args.setting.format) c.args.self.now c.binary.new.self
two _ c no_exprs rest g d = absurd (let n = noted-operands c.count-count.ensures no_exprs rest d g.1.0 in omega arith)
two _ c (◌then◌ a no_exprs) rest g d = absurd (let n = noted-operands c.count-count.ensures (◌then◌ a no_exprs) rest d g.1.0 in omega arith)
two _ c (◌then◌ a (◌then◌ b no_exprs)) rest g d =
    as-print (binary-form c.args.self.now.source (as_operator c.args.op) c.args.setting.context c.args.setting.format a b (sym c.argument_count.ensures ∙ sym c.if-count-argument_count.false ∙ c.in-2.is))
    (done (part c.binary.ensures (a, b) (ready g.0 (omega arith) (omega arith), g.1) (begin d)))
two _ c (◌then◌ a (◌then◌ b (◌then◌ e es))) rest g d = absurd (let n = noted-operands c.count-count.ensures (◌then◌ a (◌then◌ b (◌then◌ e es))) rest d g.1.0 in omega arith)

three-taken : (t : _) (c : goal.operands-After-conditional t) → ArgumentCount (as_operator c.args.op) ≡ 3
three-taken _ c = takes-three (as_operator c.args.op) (λ e. omega (arith, e)) (λ e. omega (arith, e))

three : (t : _) (c : goal.operands-After-conditional t) → Told (a_form c.args.op c.args.setting.context c.args.setting.format) c.args.self.now c.conditional.new.self
three _ c no_exprs rest g d = absurd (let n = noted-operands c.count-count.ensures no_exprs rest d g.1.0 in let k = three-taken _ c in omega arith)
three _ c (◌then◌ a no_exprs) rest g d = absurd (let n = noted-operands c.count-count.ensures (◌then◌ a no_exprs) rest d g.1.0 in let k = three-taken _ c in omega arith)
three _ c (◌then◌ a (◌then◌ b no_exprs)) rest g d = absurd (let n = noted-operands c.count-count.ensures (◌then◌ a (◌then◌ b no_exprs)) rest d g.1.0 in let k = three-taken _ c in omega arith)
three _ c (◌then◌ a (◌then◌ b (◌then◌ e no_exprs))) rest g d =
    as-print (conditional-form c.args.self.now.source (as_operator c.args.op) c.args.setting.context c.args.setting.format a b e (three-taken _ c))
    (done (part c.conditional.ensures (a, b, e) (ready g.0 (omega arith) (omega arith), g.1) (begin d)))
three _ c (◌then◌ a (◌then◌ b (◌then◌ e (◌then◌ f es)))) rest g d = absurd (let n = noted-operands c.count-count.ensures (◌then◌ a (◌then◌ b (◌then◌ e (◌then◌ f es)))) rest d g.1.0 in let k = three-taken _ c in omega arith)

pub operands-returns-in-1 : goal.operands-returns-in-1
operands-returns-in-1 t c = prints (cc) (cc) (omega arith) (one t c)

pub operands-returns-in-2 : goal.operands-returns-in-2
operands-returns-in-2 t c = prints (cc) (cc) (omega arith) (two t c)

pub operands-returns-in_default : goal.operands-returns-in_default
operands-returns-in_default t c = prints (cc) (cc) (omega arith) (three t c)

pub unary-returns : goal.unary-returns
unfolding Expression
unary-returns t c =
    prints (cc) (cc) (omega arith)
    (λ a rest g d.
    let sign = text (begin d) (these c.spelling.ensures c.put_any.ensures) in
    let operand = part (rw (c.operand.ensures, c.in_format-flat.ensures, c.binding_strength.ensures) at c.expr.ensures) a (ready g.0 (omega arith) (omega arith), g.1.1.0) (word sign c.word.ensures) in
    done (word operand c.word-2.ensures))

pub binary-returns : goal.binary-returns
unfolding Expression
binary-returns t c =
    prints (cc) (cc) (omega arith)
    (λ a rest g d.
    let strength = c.binding_strength-strength.ensures in
    let i = right-indent (as_operator c.args.op) c.args.setting.format in
    let broken : c.choose-broken.result ≡ right_format (as_operator c.args.op) c.args.setting.format = rw c.in_format-flat.ensures at c.choose-broken.ensures ∙ ap (λ (v : Bool). pick v c.args.setting.format SingleLine) c.breaks_line.ensures in
    let left = part (rw (c.operand.ensures, c.in_format-flat.ensures, strength) at c.expr.ensures) a.0 (ready g.0 (omega arith) (omega arith), g.1.1.0) (word (begin d) c.word.ensures) in
    let sign = text (text (text left c.put.ensures) (these c.spelling.ensures c.put_any.ensures)) (rw broken at c.space.ensures) in
    let right = part (rw (c.operand-2.ensures, c.in_format.ensures, strength, broken) at c.expr-2.ensures) a.1 (ready g.0 (omega arith) (omega arith), g.1.1.1.0) (word sign c.word-2.ensures) in
    as-print (binary-print c.args.self.now.source (as_operator c.args.op) c.args.setting.context c.args.setting.format a.0 a.1) (done (word right c.word-3.ensures)))

pub conditional-returns : goal.conditional-returns
conditional-returns t c =
    prints (cc) (cc) (omega arith)
    (λ a rest g d.
    let e = c.more-deeper.ensures ∙ deeper-is c.args.setting.format g.0 (inside (begin {s = c.args.self.now} d)) in
    let i = more-indent c.args.self.now.source.step c.args.setting.format in
    let test = part c.expr.ensures a.0 (ready g.0 (omega arith) (omega arith), g.1.1.0) (word (text (begin d) c.put.ensures) c.word.ensures) in
    let first = part (rw (c.outermost.ensures, e) at c.expr-2.ensures) a.1 (ready g.0 (omega arith) (omega arith), g.1.1.1.0) (word (text test (rw e at c.space.ensures)) c.word-2.ensures) in
    let other = word (text (text first c.space-2.ensures) c.put-2.ensures) c.word-3.ensures in
    let second = part (rw (c.operand.ensures, c.binding_strength.ensures, e) at c.else_branch.ensures) a.2
    (ready g.0 (omega arith) (omega arith), (more-least c.args.self.now.source.step c.args.setting.format, g.1.1.1.1.0)) other in
    done (word second c.word-4.ensures))

pub else_branch-returns-then-is_if : goal.else_branch-returns-then-is_if
else_branch-returns-then-is_if t c =
    prints (cc) (cc) (omega arith)
    (λ e rest g d.
    let h = g.1.0 in
    as-print (ap (λ (v : Bool). else_branch v (operand c.args.self.now.source e) c.args.setting.context c.args.setting.format c.args.deeper) (c.if-is_if.ensures.tells e rest d))
    (done (part c.expr.ensures e (ready g.0 (omega arith) (omega arith), g.1.1) (text (begin d) c.put.ensures))))

pub else_branch-returns-else-is_if : goal.else_branch-returns-else-is_if
else_branch-returns-else-is_if t c =
    prints (cc) (cc) (omega arith)
    (λ e rest g d.
    as-print (ap (λ (v : Bool). else_branch v (operand c.args.self.now.source e) c.args.setting.context c.args.setting.format c.args.deeper) (c.if-is_if.ensures.tells e rest d))
    (done (part (rw c.in_format.ensures at c.expr-else-is_if.ensures) e (ready g.0 (omega arith) (omega arith), g.1.1) (text (begin d) c.space.ensures))))

pub listed-returns : goal.listed-returns
listed-returns t c =
    prints (cc) (cc) (omega arith)
    (λ es rest g d.
    let sign = text (text (begin d) (these c.spelling.ensures c.put_any.ensures)) c.put.ensures in
    done (text (part c.exprs.ensures es (ready g.0 (omega arith) (omega arith), g.1.1) sign) c.put-2.ensures))

pub call_expr-returns : goal.call_expr-returns
unfolding Expression
call_expr-returns t c =
    prints (cc) (cc) (omega arith)
    (λ a rest g d.
    let name = part c.name_then.ensures a.0 tt (begin d) in
    done (text (part c.exprs.ensures a.1 (ready g.0 (omega arith) (omega arith), g.1.1) name) c.put.ensures))

pub labeled_expr-returns : goal.labeled_expr-returns
unfolding Expression
labeled_expr-returns t c =
    prints (cc) (cc) (omega arith)
    (λ a rest g d.
    let name = part c.name_then.ensures a.0 tt (text (begin d) c.parenthesis.ensures) in
    let body = part (rw c.operand.ensures at c.expr.ensures) a.1 (ready g.0 (omega arith) (omega arith), g.1) name in
    done (text body c.parenthesis-2.ensures))

pub let_expr-returns : goal.let_expr-returns
unfolding Expression
let_expr-returns t c =
    prints (cc) (cc) (omega arith)
    (λ a rest g d.
    let name = part c.id_type.ensures (a.0, a.1) tt (text (begin d) c.parenthesis.ensures) in
    let value = part c.expr.ensures a.2 (ready g.0 (omega arith) (omega arith), g.1.0) (text name c.put.ensures) in
    let body = part (rw c.operand.ensures at c.expr-2.ensures) a.3 (ready g.0 (omega arith) (omega arith), g.1.1) (text value c.space.ensures) in
    done (text body c.parenthesis-2.ensures))

pub closure_expr-returns : goal.closure_expr-returns
unfolding Expression
closure_expr-returns t c =
    prints (cc) (cc) (omega arith)
    (λ a rest g d.
    let bindings = part c.closures.ensures a.0 (ready g.0 (omega arith) (omega arith), g.1.1) (text (begin d) c.put.ensures) in
    let result = part c.typed.ensures (a.1, a.2) tt (text bindings c.put-2.ensures) in
    let properties = part c.properties.ensures a.3 (ready g.0 (omega arith) (omega arith), g.1.3) (text result c.put-3.ensures) in
    done (text properties c.put-4.ensures))

pub quantifier_expr-returns : goal.quantifier_expr-returns
unfolding Expression
quantifier_expr-returns t c =
    prints (cc) (cc) (omega arith)
    (λ a rest g d.
    let e = c.more.ensures ∙ deeper-is c.args.setting.format g.0 (inside (begin {s = c.args.self.now} d)) in
    let deeper = rw e at c.in_format-deeper.ensures in
    let i = more-indent c.args.self.now.source.step c.args.setting.format in
    let bindings = part c.quantified.ensures (a.0, a.1) tt (text (begin d) c.parenthesis.ensures) in
    let patterns = part (rw deeper at c.patterns.ensures) a.2 (ready g.0 (omega arith) (omega arith), g.1.2) bindings in
    let body = part (rw (c.operand.ensures, deeper) at c.expr.ensures) a.3 (ready g.0 (omega arith) (omega arith), g.1.3) (text patterns (rw deeper at c.space.ensures)) in
    done (text body c.parenthesis-2.ensures))

-- ---- sequences

exprs-none : (t : _) (c : goal.exprs-After-loop-separator t) → Told (expression_list c.loop-separator.separator.now) c.loop-separator.self c.word.new.self
unfolding ExpressionList operands
exprs-none _ c no_exprs rest g d = done (word (begin d) c.word.ensures)
exprs-none _ c (◌then◌ e es) rest g d = let z = reads (begin d) c.word.ensures in absurd (omega (arith, z, c.loop-separator-test.false))

exprs-some : (t : _) (c : goal.exprs-After-expr t) (s' : Printer) → Prints (expression_list (bytes ", ")) c.expr.new.self s' → Told (expression_list c.loop-separator.separator.now) c.loop-separator.self s'
unfolding ExpressionList operands
exprs-some _ c s' p no_exprs rest g d = absurd (c.loop-separator-test.true (reads (begin d) c.word.ensures))
exprs-some _ c s' p (◌then◌ e es) rest g d =
    let item = word (begin d) c.word.ensures in
    let expr = part c.expr.ensures e (ready g.0 (omega arith) (omega arith), g.1.0) (text item c.put_any.ensures) in
    done (part p es (ready g.0 (omega arith) (omega arith), g.1.1) expr)

pub exprs-loop-separator-init : goal.exprs-loop-separator-init
exprs-loop-separator-init t c = none-yet

pub exprs-loop-separator-preserved : goal.exprs-loop-separator-preserved
exprs-loop-separator-preserved t c = one-more c.loop-separator.invariant (cc) (cc) (omega arith) (exprs-some t c)

pub exprs-returns : goal.exprs-returns
exprs-returns t c = all-of c.loop-separator.invariant (prints (cc) (cc) (omega arith) (exprs-none t c))

patterns-none : (t : _) (c : goal.patterns-After-loop-format t) → Told (pattern_list c.args.format) c.loop-format.self c.word.new.self
unfolding patterns
patterns-none _ c no_patterns rest g d = done (word (begin d) c.word.ensures)
patterns-none _ c (pattern es ps) rest g d = let z = reads (begin d) c.word.ensures in absurd (omega (arith, z, c.loop-format-test.false))

patterns-some : (t : _) (c : goal.patterns-After-exprs t) (s' : Printer) → Prints (pattern_list c.args.format) c.exprs.new.self s' → Told (pattern_list c.args.format) c.loop-format.self s'
unfolding patterns
patterns-some _ c s' p no_patterns rest g d = absurd (c.loop-format-test.true (reads (begin d) c.word.ensures))
patterns-some _ c s' p (pattern es ps) rest g d =
    let item = word (begin d) c.word.ensures in
    let exprs = part c.exprs.ensures es (ready g.0 (omega arith) (omega arith), g.1.1) (text (text item c.space.ensures) c.put.ensures) in
    done (part p ps (ready g.0 (omega arith) (omega arith), g.1.2) exprs)

pub patterns-loop-format-init : goal.patterns-loop-format-init
patterns-loop-format-init t c = none-yet

pub patterns-loop-format-preserved : goal.patterns-loop-format-preserved
patterns-loop-format-preserved t c = one-more c.loop-format.invariant (cc) (cc) (omega arith) (patterns-some t c)

pub patterns-returns : goal.patterns-returns
patterns-returns t c = all-of c.loop-format.invariant (prints (cc) (cc) (omega arith) (patterns-none t c))

triggers-none : (t : _) (c : goal.triggers-After-loop-self t) → Told trigger_list c.loop-self.self c.word.new.self
unfolding triggers
triggers-none _ c no_patterns rest g d = done (word (begin d) c.word.ensures)
triggers-none _ c (pattern es ps) rest g d = let z = reads (begin d) c.word.ensures in absurd (omega (arith, z, c.loop-self-test.false))

triggers-some : (t : _) (c : goal.triggers-After-put-in-loop-self t) (s' : Printer) → Prints trigger_list c.put-in-loop-self.new.self s' → Told trigger_list c.loop-self.self s'
unfolding triggers
triggers-some _ c s' p no_patterns rest g d = absurd (c.loop-self-test.true (reads (begin d) c.word.ensures))
triggers-some _ c s' p (pattern es ps) rest g d =
    let item = word (begin d) c.word.ensures in
    let exprs = part c.exprs.ensures es (ready g.0 (omega arith) (omega arith), g.1.1) (text item c.put.ensures) in
    done (part p ps (ready g.0 (omega arith) (omega arith), g.1.2) (text exprs c.put-in-loop-self.ensures))

pub triggers-loop-self-init : goal.triggers-loop-self-init
triggers-loop-self-init t c = none-yet

pub triggers-loop-self-preserved : goal.triggers-loop-self-preserved
triggers-loop-self-preserved t c = one-more c.loop-self.invariant (cc) (cc) (omega arith) (triggers-some t c)

pub triggers-returns : goal.triggers-returns
triggers-returns t c = all-of c.loop-self.invariant (prints (cc) (cc) (omega arith) (triggers-none t c))

closures-none : (t : _) (c : goal.closures-After-loop-separator t) → Told (closure_list c.loop-separator.separator.now) c.loop-separator.self c.word.new.self
unfolding closure_bindings
closures-none _ c no_closure_bindings rest g d = done (word (begin d) c.word.ensures)
closures-none _ c (closure_binding n ps e bs) rest g d = let z = reads (begin d) c.word.ensures in absurd (omega (arith, z, c.loop-separator-test.false))

closures-some : (t : _) (c : goal.closures-After-expr t) (s' : Printer) → Prints (closure_list (bytes ", ")) c.expr.new.self s' → Told (closure_list c.loop-separator.separator.now) c.loop-separator.self s'
unfolding closure_bindings
closures-some _ c s' p no_closure_bindings rest g d = absurd (c.loop-separator-test.true (reads (begin d) c.word.ensures))
closures-some _ c s' p (closure_binding n ps e bs) rest g d =
    let item = word (begin d) c.word.ensures in
    let name = part c.name.ensures n tt (text item c.put_any.ensures) in
    let parameters = part c.parameters.ensures ps tt name in
    let value = part c.expr.ensures e (ready g.0 (omega arith) (omega arith), g.1.1) (text parameters c.put.ensures) in
    done (part p bs (ready g.0 (omega arith) (omega arith), g.1.2) value)

pub closures-loop-separator-init : goal.closures-loop-separator-init
closures-loop-separator-init t c = none-yet

pub closures-loop-separator-preserved : goal.closures-loop-separator-preserved
closures-loop-separator-preserved t c = one-more c.loop-separator.invariant (cc) (cc) (omega arith) (closures-some t c)

pub closures-returns : goal.closures-returns
closures-returns t c = all-of c.loop-separator.invariant (prints (cc) (cc) (omega arith) (closures-none t c))

-- what follows a property's triggers
colons : {N : Type 0} (span : N → Span) (ts : Patterns N) (rest : List ℕ) {r : Bool} {s₀ s : Printer} {X : List ℕ → List ℕ} → Walk s₀ X (patterns_words span ts rest) s → Ends s r
    → pick r [] (bytes ":: ") ≡ bytes (triggers_end ts)
colons _ no_patterns _ l e = rw (at-end l e)
colons _ (pattern es ps) _ l e = rw (at-end l e)

properties-none : (t : _) (c : goal.properties-After-loop-separator t) → Told (property_list c.loop-separator.separator.now) c.loop-separator.self c.word.new.self
unfolding properties
properties-none _ c no_closure_properties rest g d = done (word (begin d) c.word.ensures)
properties-none _ c (closure_property ts e ps) rest g d = let z = reads (begin d) c.word.ensures in absurd (omega (arith, z, c.loop-separator-test.false))

put-colons : (t : _) (c : goal.properties-After-expr t) → Puts (λ rest. pick c.is_at_end-is_bare.result [] (bytes ":: ") ++ rest) c.triggers.new.self c.if-not-is_bare.self
put-colons _ c =
    elim c.if-not-is_bare.branch [
      | properties-then-not-is_bare w ↦ rw (w.self-is, w.if-not-is_bare.true) w.put.ensures
      | properties-else-not-is_bare w ↦ rw (w.self-is, w.if-not-is_bare.false) unwritten
    ]

properties-some : (t : _) (c : goal.properties-After-expr t) (s' : Printer) → Prints (property_list (bytes ", ")) c.expr.new.self s' → Told (property_list c.loop-separator.separator.now) c.loop-separator.self s'
unfolding properties
properties-some _ c s' p no_closure_properties rest g d = absurd (c.loop-separator-test.true (reads (begin d) c.word.ensures))
properties-some _ c s' p (closure_property ts e ps) rest g d =
    let item = word (begin d) c.word.ensures in
    let start = text item c.put_any.ensures in
    let triggers = part c.triggers.ensures ts (ready g.0 (omega arith) (omega arith), g.1.1) start in
    let q = put-colons _ c in
    let body = part c.expr.ensures e (ready g.0 (omega arith) (omega arith), g.1.2) (text triggers (these (colons _ ts _ start c.is_at_end-is_bare.ensures) q)) in
    done (part p ps (ready g.0 (omega arith) (omega arith), g.1.3) body)

pub properties-loop-separator-init : goal.properties-loop-separator-init
properties-loop-separator-init t c = none-yet

pub properties-loop-separator-preserved : goal.properties-loop-separator-preserved
properties-loop-separator-preserved t c = let p = put-colons t c in one-more c.loop-separator.invariant (cc) (cc) (omega arith) (properties-some t c)

pub properties-returns : goal.properties-returns
properties-returns t c = all-of c.loop-separator.invariant (prints (cc) (cc) (omega arith) (properties-none t c))
