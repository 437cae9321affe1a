-- Five for each word that is left, and a rank of the methods that begin at one place.
use Rattle.std.proofs.Common.{ℕ, ◌+◌, ◌*◌, ◌-◌, length}
use Rattle.rendering.specs.declared.printer.Printer.{Printer}
use Rattle.rendering.specs.ExprParts.{expression_list, pattern_list, trigger_list, closure_list, property_list}
use Rattle.rendering.proofs.Walk.{Passed}
use Rattle.rendering.proofs.printer.Printer.+expression.Given as goal

abbrev left : Printer → ℕ
left s = length s.source.words.now - s.at

abbrev measure : Printer → ℕ → ℕ
measure s rank = 5 * left s + rank

abbrev pub decreases-expr : goal.decreases-expr
decreases-expr l = measure l.self.now 0

abbrev pub decreases-exprs : goal.decreases-exprs
decreases-exprs l = measure l.self.now 0

abbrev pub decreases-patterns : goal.decreases-patterns
decreases-patterns l = measure l.self.now 0

abbrev pub decreases-triggers : goal.decreases-triggers
decreases-triggers l = measure l.self.now 0

abbrev pub decreases-closures : goal.decreases-closures
decreases-closures l = measure l.self.now 0

abbrev pub decreases-properties : goal.decreases-properties
decreases-properties l = measure l.self.now 0

abbrev pub decreases-unary : goal.decreases-unary
decreases-unary l = measure l.self.now 1

abbrev pub decreases-binary : goal.decreases-binary
decreases-binary l = measure l.self.now 1

abbrev pub decreases-else_branch : goal.decreases-else_branch
decreases-else_branch l = measure l.self.now 1

abbrev pub decreases-conditional : goal.decreases-conditional
decreases-conditional l = measure l.self.now 2

abbrev pub decreases-listed : goal.decreases-listed
decreases-listed l = measure l.self.now 1

abbrev pub decreases-operands : goal.decreases-operands
decreases-operands l = measure l.self.now 3

abbrev pub decreases-operator_expr : goal.decreases-operator_expr
decreases-operator_expr l = measure l.self.now 4

abbrev pub decreases-call_expr : goal.decreases-call_expr
decreases-call_expr l = measure l.self.now 1

abbrev pub decreases-labeled_expr : goal.decreases-labeled_expr
decreases-labeled_expr l = measure l.self.now 1

abbrev pub decreases-let_expr : goal.decreases-let_expr
decreases-let_expr l = measure l.self.now 1

abbrev pub decreases-quantifier_expr : goal.decreases-quantifier_expr
decreases-quantifier_expr l = measure l.self.now 1

abbrev pub decreases-closure_expr : goal.decreases-closure_expr
decreases-closure_expr l = measure l.self.now 1

-- ---- the sequences: what is printed at each turn, and the words that are left

abbrev pub invariant-exprs-loop-separator : goal.invariant-exprs-loop-separator
invariant-exprs-loop-separator l = Passed (expression_list l.initial.separator) l.initial.self (expression_list l.separator) l.self

abbrev pub decreases-exprs-loop-separator : goal.decreases-exprs-loop-separator
decreases-exprs-loop-separator l = left l.self

abbrev pub invariant-patterns-loop-format : goal.invariant-patterns-loop-format
invariant-patterns-loop-format l = Passed (pattern_list l.format) l.initial.self (pattern_list l.format) l.self

abbrev pub decreases-patterns-loop-format : goal.decreases-patterns-loop-format
decreases-patterns-loop-format l = left l.self

abbrev pub invariant-triggers-loop-self : goal.invariant-triggers-loop-self
invariant-triggers-loop-self l = Passed trigger_list l.initial.self trigger_list l.self

abbrev pub decreases-triggers-loop-self : goal.decreases-triggers-loop-self
decreases-triggers-loop-self l = left l.self

abbrev pub invariant-closures-loop-separator : goal.invariant-closures-loop-separator
invariant-closures-loop-separator l = Passed (closure_list l.initial.separator) l.initial.self (closure_list l.separator) l.self

abbrev pub decreases-closures-loop-separator : goal.decreases-closures-loop-separator
decreases-closures-loop-separator l = left l.self

abbrev pub invariant-properties-loop-separator : goal.invariant-properties-loop-separator
invariant-properties-loop-separator l = Passed (property_list l.initial.separator) l.initial.self (property_list l.separator) l.self

abbrev pub decreases-properties-loop-separator : goal.decreases-properties-loop-separator
decreases-properties-loop-separator l = left l.self
