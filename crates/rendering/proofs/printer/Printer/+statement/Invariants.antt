-- Six for each word that is left, and a rank of the methods that begin at one place.
use Rattle.std.proofs.Common.{ℕ, ◌+◌, ◌*◌, ◌-◌, length}
use Rattle.rendering.specs.declared.printer.Printer.{Printer}
use Rattle.rendering.specs.StmtParts.{last_statements, branch_list, case_sequence, a_expr_list}
use Rattle.rendering.proofs.Walk.{Passed}
use Rattle.rendering.proofs.printer.Printer.+statement.Given as goal

abbrev left : Printer → ℕ
left s = length s.source.words.now - s.at

abbrev measure : Printer → ℕ → ℕ
measure s rank = 6 * left s + rank

abbrev pub decreases-stmt : goal.decreases-stmt
decreases-stmt l = measure l.self.now 0

abbrev pub decreases-branches : goal.decreases-branches
decreases-branches l = measure l.self.now 0

abbrev pub decreases-cases : goal.decreases-cases
decreases-cases l = measure l.self.now 0

abbrev pub decreases-aexprs : goal.decreases-aexprs
decreases-aexprs l = measure l.self.now 0

abbrev pub decreases-list : goal.decreases-list
decreases-list l = measure l.self.now 1

abbrev pub decreases-aexpr : goal.decreases-aexpr
decreases-aexpr l = measure l.self.now 1

abbrev pub decreases-invariants : goal.decreases-invariants
decreases-invariants l = measure l.self.now 1

abbrev pub decreases-choose : goal.decreases-choose
decreases-choose l = measure l.self.now 1

abbrev pub decreases-if_case : goal.decreases-if_case
decreases-if_case l = measure l.self.now 1

abbrev pub decreases-inner : goal.decreases-inner
decreases-inner l = measure l.self.now 2

abbrev pub decreases-braces : goal.decreases-braces
decreases-braces l = measure l.self.now 2

abbrev pub decreases-block : goal.decreases-block
decreases-block l = measure l.self.now 3

abbrev pub decreases-var_decl : goal.decreases-var_decl
decreases-var_decl l = measure l.self.now 3

abbrev pub decreases-onward : goal.decreases-onward
decreases-onward l = measure l.self.now 4

abbrev pub decreases-forall : goal.decreases-forall
decreases-forall l = measure l.self.now 4

abbrev pub decreases-loop_stmt : goal.decreases-loop_stmt
decreases-loop_stmt l = measure l.self.now 4

abbrev pub decreases-if_stmt : goal.decreases-if_stmt
decreases-if_stmt l = measure l.self.now 5

abbrev pub decreases-labeled_stmt : goal.decreases-labeled_stmt
decreases-labeled_stmt l = measure l.self.now 5

-- ---- the sequences: what is printed at each turn, and the words that are left

abbrev pub invariant-list-loop-is_last : goal.invariant-list-loop-is_last
invariant-list-loop-is_last l = Passed (last_statements l.initial.left l.indent) l.initial.self (last_statements l.left l.indent) l.self

abbrev pub decreases-list-loop-is_last : goal.decreases-list-loop-is_last
decreases-list-loop-is_last l = left l.self

abbrev pub invariant-branches-loop-self : goal.invariant-branches-loop-self
invariant-branches-loop-self l = Passed (branch_list l.indent) l.initial.self (branch_list l.indent) l.self

abbrev pub decreases-branches-loop-self : goal.decreases-branches-loop-self
decreases-branches-loop-self l = left l.self

abbrev pub invariant-cases-loop-self : goal.invariant-cases-loop-self
invariant-cases-loop-self l = Passed (case_sequence l.indent) l.initial.self (case_sequence l.indent) l.self

abbrev pub decreases-cases-loop-self : goal.decreases-cases-loop-self
decreases-cases-loop-self l = left l.self

abbrev pub invariant-aexprs-loop-self : goal.invariant-aexprs-loop-self
invariant-aexprs-loop-self l = Passed (a_expr_list l.prefix l.indent) l.initial.self (a_expr_list l.prefix l.indent) l.self

abbrev pub decreases-aexprs-loop-self : goal.decreases-aexprs-loop-self
decreases-aexprs-loop-self l = left l.self
