-- The measures: 40 times the levels left and a rank, by which each method calls those of a lower one; and what holds at each turn of a loop.
use Rattle.std.proofs.Common.{ℕ, ◌+◌, ◌*◌, ◌-◌, length}
use Rattle.parsing.specs.Signs.{class_of}
use Rattle.parsing.specs.declared.sign.Level.{Level}
use Rattle.parsing.specs.declared.sign.Level.TheVariants.{Product, Sum, Comparison, Conjunction, Disjunction, Implication, Explication, Equivalence}
use Rattle.parsing.specs.declared.expr.seq.Kind.{Kind}
use Rattle.parsing.specs.declared.expr.seq.Kind.TheVariants.{Exprs, Bindings, Closures, Properties, Names, Formals, Parameters, Arguments}
use Rattle.grammar.specs.Steps.{Sym, keyword_at}
use Rattle.grammar.specs.Rules.{exprs, comma_tail, parse_nonempty_comma_delimited_seq, parse_marked}
use Rattle.tree.specs.Ast.{pattern, no_patterns}
use Rattle.tree.specs.Words.{exprs_words, patterns_words}
use Rattle.parsing.specs.Contract.{same}
use Rattle.parsing.specs.Code.{turns, inner}
use Rattle.parsing.specs.Expressions.{sequence_of, item_rule, items_rule, item_words, list_words, marked_rule}
use Rattle.parsing.proofs.ExpressionLoops.{Turning, Waiting, Signed, Gathering}
use Rattle.parsing.proofs.parser.Parser.+expression.Given as goal

-- the rule of a level's operands
abbrev pub level_rank : Level → ℕ
level_rank Product = 13
level_rank Sum = 17
level_rank Comparison = 21
level_rank Conjunction = 24
level_rank Disjunction = 24
level_rank Implication = 28
level_rank Explication = 28
level_rank Equivalence = 32

-- an item of a sequence
abbrev pub item_rank : Kind → ℕ
item_rank Exprs = 1
item_rank Bindings = 1
item_rank Closures = 6
item_rank Properties = 6
item_rank Names = 1
item_rank Formals = 1
item_rank Parameters = 4
item_rank Arguments = 2

abbrev pub decreases-expr : goal.decreases-expr
decreases-expr l = 40 * l.depth

abbrev pub decreases-need_expr : goal.decreases-need_expr
decreases-need_expr l = 40 * l.depth + 1

abbrev pub decreases-cond : goal.decreases-cond
decreases-cond l = 40 * l.depth + 2

abbrev pub decreases-val : goal.decreases-val
decreases-val l = 40 * l.depth + 2

abbrev pub decreases-paren : goal.decreases-paren
decreases-paren l = 40 * l.depth + 2

abbrev pub decreases-auto_invariant : goal.decreases-auto_invariant
decreases-auto_invariant l = 40 * l.depth + 2

abbrev pub decreases-arg : goal.decreases-arg
decreases-arg l = 40 * l.depth + 1

abbrev pub decreases-param : goal.decreases-param
decreases-param l = 40 * l.depth + 3

abbrev pub decreases-item : goal.decreases-item
decreases-item l = 40 * l.depth + item_rank l.kind

abbrev pub decreases-items : goal.decreases-items
decreases-items l = 40 * l.depth + (item_rank l.kind + 1)

abbrev pub decreases-need_items : goal.decreases-need_items
decreases-need_items l = 40 * l.depth + (item_rank l.kind + 2)

abbrev pub decreases-list : goal.decreases-list
decreases-list l = 40 * l.depth + (item_rank l.kind + 2)

abbrev pub decreases-marks : goal.decreases-marks
decreases-marks l = 40 * l.depth + 4

abbrev pub decreases-prop : goal.decreases-prop
decreases-prop l = 40 * l.depth + 5

abbrev pub decreases-params : goal.decreases-params
decreases-params l = 40 * l.depth + 4

abbrev pub decreases-bind : goal.decreases-bind
decreases-bind l = 40 * l.depth + 5

abbrev pub decreases-quant : goal.decreases-quant
decreases-quant l = 40 * l.depth + 5

abbrev pub decreases-lift : goal.decreases-lift
decreases-lift l = 40 * l.depth + 9

abbrev pub decreases-named : goal.decreases-named
decreases-named l = 40 * l.depth + 4

abbrev pub decreases-worded : goal.decreases-worded
decreases-worded l = 40 * l.depth + 10

abbrev pub decreases-primary : goal.decreases-primary
decreases-primary l = 40 * l.depth + 11

abbrev pub decreases-unary : goal.decreases-unary
decreases-unary l = 40 * l.depth + 12

abbrev pub decreases-tight : goal.decreases-tight
decreases-tight l = 40 * l.depth + level_rank l.level

abbrev pub decreases-need_tight : goal.decreases-need_tight
decreases-need_tight l = 40 * l.depth + (level_rank l.level + 1)

abbrev pub decreases-left : goal.decreases-left
decreases-left l = 40 * l.depth + (level_rank l.level + 2)

abbrev pub decreases-chain : goal.decreases-chain
decreases-chain l = 40 * l.depth + (level_rank l.level + 3)

abbrev pub decreases-juct : goal.decreases-juct
decreases-juct l = 40 * l.depth + 23

abbrev pub decreases-logic : goal.decreases-logic
decreases-logic l = 40 * l.depth + 27

abbrev pub decreases-imp : goal.decreases-imp
decreases-imp l = 40 * l.depth + 31

abbrev pub invariant-left-loop-sign : goal.invariant-left-loop-sign
invariant-left-loop-sign l = Turning (class_of l.level) l.depth l.first l.fn.self l.self l.e

abbrev pub decreases-left-loop-sign : goal.decreases-left-loop-sign
decreases-left-loop-sign l = length l.self.text.now - l.self.at

abbrev pub invariant-imp-loop-self : goal.invariant-imp-loop-self
invariant-imp-loop-self l = Waiting l.depth l.fn.self l.self l.e l.link

abbrev pub decreases-imp-loop-self : goal.decreases-imp-loop-self
decreases-imp-loop-self l = length l.self.text.now - l.self.at

abbrev pub invariant-unary-loop-op : goal.invariant-unary-loop-op
invariant-unary-loop-op l = Signed l.depth l.fn.self l.self l.link

abbrev pub decreases-unary-loop-op : goal.decreases-unary-loop-op
decreases-unary-loop-op l = length l.self.text.now - l.self.at

abbrev pub invariant-items-loop-at : goal.invariant-items-loop-at
invariant-items-loop-at l =
    let text = l.fn.self.text.now in
    Gathering (Sym text ",") (item_rule l.kind l.depth text) (sequence_of l.kind).cons (sequence_of l.kind).nil
    (λ n. comma_tail text (sequence_of l.kind) n (item_rule l.kind l.depth text)) (item_words l.kind) (list_words l.kind)
    (items_rule l.kind l.depth text l.fn.self.at) 3 1 1 l.fn.self l.self l.list

abbrev pub decreases-items-loop-at : goal.decreases-items-loop-at
decreases-items-loop-at l = length l.self.text.now - l.self.at

abbrev pub invariant-marks-loop-self : goal.invariant-marks-loop-self
invariant-marks-loop-self l =
    let text = l.fn.self.text.now in
    Gathering (keyword_at text l.bytes) (parse_nonempty_comma_delimited_seq text (turns text) exprs (inner l.depth text)) pattern no_patterns
    (λ k. parse_marked text (turns text) (inner l.depth text) k l.bytes) (exprs_words same) (patterns_words same)
    (marked_rule l.bytes l.depth text l.fn.self.at) 0 0 0 l.fn.self l.self l.list

abbrev pub decreases-marks-loop-self : goal.decreases-marks-loop-self
decreases-marks-loop-self l = length l.self.text.now - l.self.at
