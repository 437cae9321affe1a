use Rattle.std.proofs.Common.{ℕ, ◌+◌, ◌*◌, ◌-◌, length}
use Rattle.parsing.specs.declared.stmt.Repeated.{Repeated}
use Rattle.parsing.specs.declared.stmt.Repeated.TheVariants.{Stmts, Nested, Branches, Cases, Requires, Ensures, Invariants, Whens}
use Rattle.parsing.proofs.StatementLoops.{Gathered}
use Rattle.parsing.proofs.parser.Parser.+statement.Given as goal

-- one item of a repetition
abbrev pub rank : Repeated → ℕ
rank Stmts = 7
rank Nested = 1
rank Branches = 3
rank Cases = 3
rank Requires = 2
rank Ensures = 2
rank Invariants = 2
rank Whens = 0

abbrev pub decreases-repeated : goal.decreases-repeated
decreases-repeated l = 40 * l.depth + rank l.kind

abbrev pub decreases-many : goal.decreases-many
decreases-many l = 40 * l.depth + (rank l.kind + 1)

abbrev pub decreases-block : goal.decreases-block
decreases-block l = 40 * l.depth

abbrev pub decreases-need_block : goal.decreases-need_block
decreases-need_block l = 40 * l.depth + 1

abbrev pub decreases-looped : goal.decreases-looped
decreases-looped l = 40 * l.depth

abbrev pub decreases-nested : goal.decreases-nested
decreases-nested l = 40 * l.depth

abbrev pub decreases-stmt : goal.decreases-stmt
decreases-stmt l = 40 * l.depth + 6

abbrev pub decreases-named_stmt : goal.decreases-named_stmt
decreases-named_stmt l = 40 * l.depth + 3

abbrev pub decreases-labeled_stmt : goal.decreases-labeled_stmt
decreases-labeled_stmt l = 40 * l.depth + 2

abbrev pub decreases-need_scope : goal.decreases-need_scope
decreases-need_scope l = 40 * l.depth + 1

abbrev pub decreases-var_decl : goal.decreases-var_decl
decreases-var_decl l = 40 * l.depth + 3

abbrev pub decreases-forall_stmt : goal.decreases-forall_stmt
decreases-forall_stmt l = 40 * l.depth + 2

abbrev pub decreases-aexpr : goal.decreases-aexpr
decreases-aexpr l = 40 * l.depth + 1

abbrev pub decreases-choose : goal.decreases-choose
decreases-choose l = 40 * l.depth + 5

abbrev pub decreases-or_branch : goal.decreases-or_branch
decreases-or_branch l = 40 * l.depth + 2

abbrev pub decreases-else_if : goal.decreases-else_if
decreases-else_if l = 40 * l.depth

abbrev pub decreases-if_cont : goal.decreases-if_cont
decreases-if_cont l = 40 * l.depth + 5

abbrev pub decreases-if_cond : goal.decreases-if_cond
decreases-if_cond l = 40 * l.depth + 3

abbrev pub decreases-if_else : goal.decreases-if_else
decreases-if_else l = 40 * l.depth + 2

abbrev pub decreases-case : goal.decreases-case
decreases-case l = 40 * l.depth + 2

abbrev pub invariant-many-loop-item : goal.invariant-many-loop-item
invariant-many-loop-item l = Gathered l.kind l.depth l.fn.self l.self l.list

abbrev pub decreases-many-loop-item : goal.decreases-many-loop-item
decreases-many-loop-item l = length l.self.text.now - l.self.at
