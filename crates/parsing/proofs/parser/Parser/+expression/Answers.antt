use Rattle.std.proofs.Common.{refl, sym, ap, arith, true, false, length, ◌<◌, ◌-◌, ◌∙◌, [], ◌∷◌}
use Rattle.lexing.specs.Bytes.{bytes}
use Rattle.grammar.specs.Grammar.{sum, conjunction, equivalence}
use Rattle.grammar.specs.Rules.{left_tail, once_tail, parse_equiv_expr, parse_imp_exp_expr, imp_exp_tail, parse_logical_expr, logical_tail, parse_juct_expr, parse_term_expr, parse_factor_expr}
use Rattle.grammar.specs.Rules.{after_if, after_val, after_paren, after_name, after_call, after_label, after_colon, after_quantifier, parse_parameters, parse_closure_binding}
use Rattle.grammar.specs.Rules.{parse_nonempty_comma_delimited_seq}
use Rattle.grammar.specs.Rules.{parse_primary_expr, after_lift}
use Rattle.grammar.specs.Statements.{parse_optional_auto_invariant}
use Rattle.grammar.specs.Declarations.{parse_proc_formal}
use Rattle.grammar.specs.Reading.{tree_words}
use Rattle.grammar.specs.Steps.{parse_name}
use Rattle.grammar.specs.StepLaws.{mapped-same}
use Rattle.parsing.specs.Contract.{word, sign, span}
use Rattle.parsing.specs.Signs.{class_of, level_rule}
use Rattle.parsing.specs.Code.{turns, inner, tighter_of, turning, over, opening, paren_expr, literal_expr, constant_expr, left_chain, Links, reference_argument}
use Rattle.parsing.specs.Expressions.{left_rest, item_rule, item_words, items_rule, list_rule, marked_rule, name_rule, quantifier_rule, sequence_of}
use Rattle.parsing.specs.declared.expr.seq.Kind.TheVariants.{Exprs, Bindings, Closures, Properties, Names, Formals, Parameters, Arguments}
use Rattle.parsing.specs.declared.sign.Level.TheVariants.{Comparison, Conjunction, Implication}
use Rattle.parsing.proofs.Laws.{reads_if_err, reads_err, after-none}
use Rattle.parsing.proofs.Places.{no_credit, begin, begin_with, standing-more, turned, named_if, read, read_if, took, taken, skipped, named, operated, said, with_end, with_empty, one-made, two-made, three-made, ident-made, headed, paired, itemed, chosen, foured, combined, again, stood, absent, reads_if_same, read_last, as_run, refused_at, refused_last, tail, done}
use Rattle.parsing.proofs.ExpressionPlaces.{stands-here, absent-here, over-two, sure, seen, was-seen, tail_if, stopped, closed}
use borrow.Author.Tests.{le-leb}
use Rattle.parsing.proofs.Openings.{level-opens}
use Rattle.parsing.proofs.ExpressionRules.{bool-word, worded-rule, wordless-rule, triggered-rule, untriggered-rule, invariant-is, argument-is}
use Rattle.parsing.proofs.ExpressionLoops.{comma-repetition, marked-repetition, gathering, gathering-next, end-run, signed-none, signed-bare, signed-foldable, signed-done, listed, leaning-again, waiting_rest, waiting-first, waiting-next, foldable, folded, signed-first, signed-next}
use Rattle.parsing.proofs.SignTables.{operator-stood, operator-absent}
use Rattle.parsing.proofs.parser.Parser.+expression.Goals as goal

-- ---- levels

pub expr-returns : goal.expr-returns
unfolding parse_equiv_expr
expr-returns t c =
    let h : 0 < c.args.depth = omega arith in
    reads_if_same _ _ (left_chain equivalence (c.args.depth - 1)) 1 0 _ _ _ (ap (λ rule. rule c.args.self.now.text.now c.args.self.now.at) (level-opens _ h)) c.chain.ensures

pub chain-returns : goal.chain-returns
chain-returns t c =
    let first = rw c.in-Some.is at c.in_ok-first.ensures in
    let l = read_if _ _ _ first begin refl in
    done _ (read_last (left_rest (class_of c.args.level) c.args.depth first.value) (c.in_ok-left.ensures first.value l.stands.0) l refl) refl refl

pub imp-loop-self-init : goal.imp-loop-self-init
unfolding parse_imp_exp_expr imp_exp_tail
imp-loop-self-init t c =
    let first = rw c.in-Some.is at c.in_ok-first.ensures in
    let l = seen (level_rule Implication) _ _ (was-seen (level_rule Implication) _ _ c.in_ok-sees.ensures c.if-branch.true) (read_if _ _ _ first begin refl) in
    record {
      tree = first.value;
      layers = [];
      left = length c.args.self.now.text.now;
      enough = omega arith;
      links = Links.ends;
      links-below = omega (arith, c.args.self.now.above, l.later.grows);
      place = again (waiting_rest c.args.self.now.text.now c.args.depth [] (length c.args.self.now.text.now) first.value) 1 0 (said (waiting-first _ _ _ _ _) l) refl refl;
    }

pub imp-loop-self-preserved : goal.imp-loop-self-preserved
imp-loop-self-preserved t c =
    let o = operator-stood _ (level_rule Implication) _ _ _ c.in_ok-operator.ensures (sym c.is_some.ensures ∙ c.if-is_some.true) in
    waiting-next c.args.depth c.loop-self.invariant o.1 c.push-link.ensures c.in_ok-e.ensures

pub imp-fold-requires : goal.imp-fold-requires
imp-fold-requires t c =
    let w = c.loop-self.invariant in
    let no = operator-absent _ (level_rule Implication) _ _ _ c.in_ok-operator.ensures (sym c.is_some.ensures ∙ c.if-is_some.false) in
    rw no.same (foldable w.layers w.tree no_credit w.place (omega arith) w.links w.links-below)

pub imp-returns-then-branch : goal.imp-returns-then-branch
imp-returns-then-branch t c =
    let w = c.loop-self.invariant in
    let no = operator-absent _ (level_rule Implication) _ _ _ c.in_ok-operator.ensures (sym c.is_some.ensures ∙ c.if-is_some.false) in
    done _ (folded w.layers w.tree c.fold.ensures (rw no.same w.links) (skipped (level_rule Implication) _ _ no w.place) (omega arith)) refl refl

pub logic-returns-then-branch : goal.logic-returns-then-branch
unfolding parse_logical_expr logical_tail
logic-returns-then-branch t c =
    let first = rw c.in-Some.is at c.in_ok-first.ensures in
    let l = seen (level_rule Conjunction) _ _ (was-seen (level_rule Conjunction) _ _ c.in_ok-sees.ensures c.if-branch.true) (read_if _ _ _ first begin refl) in
    done _ (read_last (left_rest conjunction c.args.depth first.value) (c.in_ok-left.ensures first.value l.stands.0) l refl) refl refl

pub juct-returns-in_default-2 : goal.juct-returns-in_default-2
unfolding parse_juct_expr parse_term_expr once_tail
juct-returns-in_default-2 t c =
    let first = rw c.in-Some.is at c.in_ok-first.ensures in
    let no = rw c.in_default-2.is at c.in_ok-sign.ensures in
    done _ (skipped (level_rule Comparison) _ _ no (read_if (left_chain sum c.args.depth) _ _ first begin refl)) refl refl

pub juct-returns : goal.juct-returns
unfolding parse_juct_expr parse_term_expr once_tail
juct-returns t c =
    let first = rw c.in-Some.is at c.in_ok-first.ensures in
    let op = rw c.in-Some-2.is at c.in_ok-sign.ensures in
    done _ (combined _ _ c.combine.ensures (read _ _ c.in_ok-second.ensures (operated (level_rule Comparison) _ _ op
    (read_if (left_chain sum c.args.depth) _ _ first begin refl)) refl) refl) refl refl

pub tight-returns-in-Sum : goal.tight-returns-in-Sum
unfolding parse_factor_expr
tight-returns-in-Sum t c = rw c.in-Sum.is c.chain.ensures

pub tight-returns-in-Comparison : goal.tight-returns-in-Comparison
unfolding parse_term_expr
tight-returns-in-Comparison t c = rw c.in-Comparison.is c.chain-in-Comparison.ensures

pub left-loop-sign-init : goal.left-loop-sign-init
left-loop-sign-init t c =
    record {
      turn = λ tree s. record { tree = tree; left = length c.args.self.now.text.now; enough = omega arith; place = standing-more s begin };
    }

pub left-loop-sign-preserved : goal.left-loop-sign-preserved
unfolding left_tail
left-loop-sign-preserved t c =
    let op = rw c.in-Some.is at c.in_ok-sign.ensures in
    record {
      turn = λ tree s.
          let l = c.loop-sign.invariant.turn tree s in
          leaning-again _ _ _ l.left _ (combined _ _ c.combine-e.ensures (read _ _ c.in_ok-operand.ensures (operated (level_rule c.args.level) _ _ op l.place) refl) refl)
          (omega (arith, l.enough, op.went.onward, c.in_ok-operand.ensures.went.onward));
    }

pub left-returns-in_err-sign : goal.left-returns-in_err-sign
unfolding left_tail
left-returns-in_err-sign t c = λ tree s.
    reads_err _ _ _ _ _ _ _ _ c.from_residual.ensures.1 (stopped (level_rule c.args.level) _ _ c.in_err-sign.ensures (c.loop-sign.invariant.turn tree s).place)

pub left-returns-in_err-operand : goal.left-returns-in_err-operand
unfolding left_tail
left-returns-in_err-operand t c = λ tree s.
    let op = rw c.in-Some.is at c.in_ok-sign.ensures in
    reads_err _ _ _ _ _ _ _ _ c.from_residual-in_err-operand.ensures.1
    (refused_at (tighter_of (class_of c.args.level) c.args.depth) _ (operated (level_rule c.args.level) _ _ op (c.loop-sign.invariant.turn tree s).place) c.in_err-operand.ensures)

pub left-returns : goal.left-returns
unfolding left_tail
left-returns t c = λ tree s.
    let no = rw c.in_default.is at c.in_ok-sign.ensures in
    done _ (skipped (level_rule c.args.level) _ _ no (c.loop-sign.invariant.turn tree s).place) refl refl

pub unary-loop-op-init : goal.unary-loop-op-init
unary-loop-op-init t c = signed-first c.args.depth

pub unary-loop-op-preserved : goal.unary-loop-op-preserved
unary-loop-op-preserved t c =
    signed-next c.args.depth c.loop-op.invariant (rw c.in-Some.is at c.in_ok-op.ensures) c.push-link.ensures

-- ---- operands

pub cond-returns : goal.cond-returns
unfolding after_if
cond-returns t c =
    done _ (chosen c.choice.ensures (read _ _ c.in_ok-els.ensures (took _ _ c.in_ok-need_keyword.ensures (read _ _ c.in_ok-thn.ensures
    (read _ _ c.in_ok-guard.ensures begin refl) refl)) refl) refl) refl refl

pub val-returns : goal.val-returns
unfolding after_val
val-returns t c =
    done _ (foured c.four.ensures (read _ _ c.in_ok-body.ensures (read _ _ c.in_ok-rhs.ensures (took _ _ c.in_ok-need_sym.ensures
    (read _ _ (sure c.in_ok-typ.ensures) (three-made c.push-head.ensures (named _ _ c.in_ok-name.ensures begin) refl) refl)) refl) refl) refl) refl refl

pub paren-returns-then-branch : goal.paren-returns-then-branch
unfolding after_paren
paren-returns-then-branch t c =
    done _ (took _ _ c.in_ok-need_sym.ensures (read _ _ c.in_ok-e.ensures (stands-here (sign (bytes "(")) 1 _ _ c.in_ok-sym.ensures c.if-branch.true
    begin) refl)) refl refl

pub logic-returns-in_err-left : goal.logic-returns-in_err-left
unfolding parse_logical_expr logical_tail
logic-returns-in_err-left t c =
    let first = rw c.in-Some.is at c.in_ok-first.ensures in
    let l = seen (level_rule Conjunction) _ _ (was-seen (level_rule Conjunction) _ _ c.in_ok-sees.ensures c.if-branch.true) (read_if _ _ _ first begin refl) in
    reads_if_err _ _ _ _ _ _ _ _ c.from_residual-in_err-left.ensures.1 (refused_last (left_rest conjunction c.args.depth first.value) l (c.in_err-left.ensures first.value l.stands.0))

pub unary-returns-then-link-eq-EMPTY : goal.unary-returns-then-link-eq-EMPTY
unary-returns-then-link-eq-EMPTY t c =
    let w = c.loop-op.invariant in
    let no = rw c.in_default.is at c.in_ok-op.ensures in
    tail_if tree_words _ (turning parse_primary_expr c.args.depth) 1 0 1 0 _ _ (signed-none w no c.if-link-eq-EMPTY.true) (signed-bare w no c.if-link-eq-EMPTY.true) c.primary.ensures refl refl

pub unary-fold-requires : goal.unary-fold-requires
unary-fold-requires t c =
    signed-foldable c.loop-op.invariant (rw c.in_default.is at c.in_ok-op.ensures) c.if-link-eq-EMPTY.false (rw c.in_ok-e.ensures.ok_part at c.in_ok-primary.ensures)

pub unary-returns : goal.unary-returns
unary-returns t c =
    signed-done c.loop-op.invariant (rw c.in_default.is at c.in_ok-op.ensures) c.if-link-eq-EMPTY.false (rw c.in_ok-e.ensures.ok_part at c.in_ok-primary.ensures) c.fold.ensures

pub val-returns-in_err-body : goal.val-returns-in_err-body
unfolding after_val
val-returns-in_err-body t c =
    reads_err _ _ _ _ _ _ _ _ c.from_residual-in_err-body.ensures.1 (refused_at (inner c.args.depth) _ (read _ _ c.in_ok-rhs.ensures (took _ _ c.in_ok-need_sym.ensures
    (read _ _ (sure c.in_ok-typ.ensures) (three-made c.push-head.ensures (named _ _ c.in_ok-name.ensures begin) refl) refl)) refl) c.in_err-body.ensures)

pub named-returns-then-branch : goal.named-returns-then-branch
unfolding after_name after_call
named-returns-then-branch t c =
    done _ (paired c.pair.ensures (read _ _ (sure c.in_ok-arguments.ensures) (three-made c.push-head.ensures
    (stands-here (sign (bytes "(")) 1 _ _ c.in_ok-sym.ensures c.if-branch.true (begin_with c.requires)) refl) refl) refl) refl refl

pub named-returns-then-branch-2 : goal.named-returns-then-branch-2
unfolding after_name after_label after_colon
named-returns-then-branch-2 t c =
    done _ (paired c.pair-then-branch-2.ensures (read _ _ c.in_ok-e.ensures (three-made c.push-head-then-branch-2.ensures
    (stands-here (sign (bytes ":")) 1 _ _ c.in_ok-sym-2.ensures c.if-branch-2.true
    (absent-here (sign (bytes "(")) 1 _ _ c.in_ok-sym.ensures c.if-branch.false (begin_with c.requires))) refl) refl) refl) refl refl

pub named-returns : goal.named-returns
unfolding after_name after_label
named-returns t c =
    done _ (ident-made c.push.ensures (absent-here (sign (bytes ":")) 1 _ _ c.in_ok-sym-2.ensures c.if-branch-2.false
    (absent-here (sign (bytes "(")) 1 _ _ c.in_ok-sym.ensures c.if-branch.false (begin_with c.requires))) refl) refl refl

-- ---- sequences

pub list-returns : goal.list-returns
list-returns t c = listed c.args.kind c.args.depth _ _ c.requires.room c.in_ok-items.ensures c.unwrap_or-items.ensures c.in_ok-need_sym.ensures c.requires.in_bounds

pub params-returns : goal.params-returns
unfolding parse_parameters
params-returns t c = done _ (with_end (absent-here (sign (bytes "(")) 1 _ _ c.in_ok-sym.ensures c.if-branch.false (begin_with c.requires))) refl refl

pub quant-returns : goal.quant-returns
unfolding after_quantifier
quant-returns t c =
    let head = rw (c.from.ensures, bool-word c.args.universal) at c.push-head.ensures in
    done _ (foured c.four.ensures (read _ _ c.in_ok-body.ensures (read _ _ (sure c.in_ok-patterns.ensures) (read _ _ c.in_ok-bindings.ensures
    (two-made head (begin_with c.requires) refl) refl) refl) refl) refl) refl refl

pub lift-returns : goal.lift-returns
unfolding after_lift
lift-returns t c =
    done _ (foured c.four.ensures (read (list_rule Properties (bytes "}") c.args.depth) _ (sure c.in_ok-properties.ensures) (took _ _ c.in_ok-need_sym-2.ensures (took _ _ c.in_ok-need_keyword-2.ensures
    (over-two (paired c.pair-result.ensures (read _ _ c.in_ok-typ.ensures (took _ _ c.in_ok-need_sym.ensures (read _ _ c.in_ok-name.ensures
    (took _ _ c.in_ok-need_keyword.ensures (read (items_rule Closures c.args.depth) _ c.in_ok-bindings.ensures (one-made c.push-head.ensures (begin_with c.requires) refl) refl)) refl)) refl) refl)))) refl) refl) refl refl

pub bind-returns : goal.bind-returns
unfolding parse_closure_binding
bind-returns t c =
    done _ (paired c.pair.ensures (read _ _ c.in_ok-rhs.ensures (paired c.pair-head.ensures (took _ _ c.in_ok-need_sym.ensures (read _ _ (sure c.in_ok-parameters.ensures)
    (two-made c.push-name.ensures (named_if _ _ _ (rw c.in-Some.is at c.in_ok-bound.ensures) begin) refl) refl)) refl) refl) refl) refl refl

pub param-returns : goal.param-returns
unfolding parse_proc_formal
param-returns t c =
    done _ (paired c.pair.ensures (read (opening parse_optional_auto_invariant c.args.depth) _ (sure c.in_ok-invariant.ensures)
    (read_if _ _ _ (rw c.in-Some.is at c.in_ok-moded.ensures) (begin_with c.requires) refl) refl) refl) refl refl

pub param-returns-in_err-invariant : goal.param-returns-in_err-invariant
unfolding parse_proc_formal
param-returns-in_err-invariant t c =
    reads_if_err _ _ _ _ _ _ _ _ c.from_residual-in_err-invariant.ensures.1 (stopped (opening parse_optional_auto_invariant c.args.depth) _ _ c.in_err-invariant.ensures
    (read_if _ _ _ (rw c.in-Some.is at c.in_ok-moded.ensures) (begin_with c.requires) refl))

pub auto_invariant-returns-in_err-e : goal.auto_invariant-returns-in_err-e
auto_invariant-returns-in_err-e t c =
    reads_err _ _ _ _ _ _ _ _ c.from_residual-in_err-e.ensures.1 (refused_at (inner c.args.depth) _ (stands-here (word (bytes "autoinv")) 7 _ _ c.in_ok-keyword.ensures c.if-branch.true (said (invariant-is _ _ _) begin)) c.in_err-e.ensures)

pub auto_invariant-returns-then-branch : goal.auto_invariant-returns-then-branch
auto_invariant-returns-then-branch t c =
    done _ (headed c.push.ensures (read (inner c.args.depth) _ c.in_ok-e.ensures (stands-here (word (bytes "autoinv")) 7 _ _ c.in_ok-keyword.ensures c.if-branch.true (said (invariant-is _ _ _) begin)) refl) refl) refl refl

pub auto_invariant-returns : goal.auto_invariant-returns
auto_invariant-returns t c =
    done _ (with_end (absent-here (word (bytes "autoinv")) 7 _ _ c.in_ok-keyword.ensures c.if-branch.false (said (invariant-is _ _ _) begin))) refl refl

pub arg-returns-in-Some : goal.arg-returns-in-Some
arg-returns-in-Some t c = done _ (read_if reference_argument _ _ (rw c.in-Some.is at c.in_ok-named.ensures) (said (argument-is _ _ _) (begin_with c.requires)) refl) refl refl

pub arg-returns-in_err-e : goal.arg-returns-in_err-e
arg-returns-in_err-e t c =
    let no = rw c.in_default.is at c.in_ok-named.ensures in
    reads_if_err _ _ _ _ _ _ _ _ c.from_residual-in_err-e.ensures.1 (stopped (inner c.args.depth) _ _ c.in_err-e.ensures (skipped reference_argument _ _ no (said (argument-is _ _ _) (begin_with c.requires))))

pub arg-returns-in_default-2 : goal.arg-returns-in_default-2
arg-returns-in_default-2 t c =
    let no = rw c.in_default.is at c.in_ok-named.ensures in
    let none = rw c.in_default-2.is at c.in_ok-e.ensures in
    record { says = (skipped (inner c.args.depth) _ _ none (skipped reference_argument _ _ no (said (argument-is _ _ _) (begin_with c.requires)))).says; same = none.same ∙ no.same }

pub arg-returns : goal.arg-returns
arg-returns t c =
    let no = rw c.in_default.is at c.in_ok-named.ensures in
    done _ (headed c.push.ensures (read_if (inner c.args.depth) _ _ (rw c.in-Some-2.is at c.in_ok-e.ensures) (skipped reference_argument _ _ no (said (argument-is _ _ _) (begin_with c.requires))) refl) refl) refl refl

pub item-returns-in-Exprs : goal.item-returns-in-Exprs
item-returns-in-Exprs t c = rw c.in-Exprs.is (tail_if (item_words Exprs) _ (item_rule Exprs c.args.depth) 1 1 1 0 _ _ refl refl c.expr.ensures refl refl)

pub item-returns-in-Bindings : goal.item-returns-in-Bindings
item-returns-in-Bindings t c = rw c.in-Bindings.is (tail_if (item_words Bindings) _ (item_rule Bindings c.args.depth) 1 1 1 0 _ _ refl refl c.id_type.ensures refl refl)

pub item-returns-in-Closures : goal.item-returns-in-Closures
item-returns-in-Closures t c = rw c.in-Closures.is (tail_if (item_words Closures) _ (item_rule Closures c.args.depth) 1 1 1 0 _ _ refl refl c.bind.ensures refl refl)

pub item-returns-in-Properties : goal.item-returns-in-Properties
item-returns-in-Properties t c = rw c.in-Properties.is (tail_if (item_words Properties) _ (item_rule Properties c.args.depth) 1 1 1 1 _ _ refl refl c.prop.ensures refl refl)

pub item-returns-in-Names : goal.item-returns-in-Names
item-returns-in-Names t c = rw c.in-Names.is (tail_if (item_words Names) _ (item_rule Names c.args.depth) 1 1 1 0 _ _ refl refl c.identifier.ensures refl refl)

pub item-returns-in-Formals : goal.item-returns-in-Formals
item-returns-in-Formals t c = rw c.in-Formals.is (tail_if (item_words Formals) _ (item_rule Formals c.args.depth) 1 1 1 0 _ _ refl refl c.formal.ensures refl refl)

pub item-returns-in-Parameters : goal.item-returns-in-Parameters
item-returns-in-Parameters t c = rw c.in-Parameters.is (tail_if (item_words Parameters) _ (item_rule Parameters c.args.depth) 1 1 1 1 _ _ refl refl c.param.ensures refl refl)

pub item-returns-in-Arguments : goal.item-returns-in-Arguments
item-returns-in-Arguments t c = rw c.in-Arguments.is (tail_if (item_words Arguments) _ (item_rule Arguments c.args.depth) 1 1 1 1 _ _ refl refl c.arg.ensures refl refl)

pub items-loop-at-init : goal.items-loop-at-init
unfolding parse_nonempty_comma_delimited_seq
items-loop-at-init t c =
    let text = c.args.self.now.text.now in
    let k = c.args.kind in
    let first = rw c.in-Some.is at c.in_ok-first.ensures in
    let l = itemed c.push-list.ensures (turned (with_empty (read_if (item_rule k c.args.depth) _ _ first (begin_with c.requires) refl))) refl in
    let o = comma-repetition text k (item_rule k c.args.depth text) in
    gathering _ _ _ _ _ _ _ o (λ r. 1 ∷ item_words k first.value r) ((sequence_of k).cons first.value) _ 1
    (λ m r. sym (o.put-words first.value m r)) (omega arith) (λ f. omega arith) (omega (arith, l.here)) l

pub items-loop-at-preserved : goal.items-loop-at-preserved
items-loop-at-preserved t c =
    let text = c.args.self.now.text.now in
    let k = c.args.kind in
    let g = c.loop-at.invariant in
    let o = comma-repetition text k (item_rule k c.args.depth text) in
    let comma = stood (sign (bytes ",")) 1 _ _ c.in_ok-sym.ensures c.if-branch.true in
    let item = rw c.in_ok-item-2.ensures.ok_part at c.in_ok-item.ensures in
    let l = itemed c.push-list-in-loop-at.ensures (read (item_rule k c.args.depth) _ (sure item) (taken (sign (bytes ",")) _ _ comma g.place) (le-leb _ _ (omega arith))) (le-leb _ _ (omega arith)) in
    gathering-next _ _ _ _ _ _ _ o g item.value l (omega arith) (omega (arith, g.spared)) (λ f. omega (arith, g.spared)) (omega (arith, g.enough, comma.went.onward, item.went.onward))

pub items-returns : goal.items-returns
items-returns t c =
    let text = c.args.self.now.text.now in
    let k = c.args.kind in
    let g = c.loop-at.invariant in
    let o = comma-repetition text k (item_rule k c.args.depth text) in
    let no = absent (sign (bytes ",")) 1 _ _ c.in_ok-sym.ensures c.if-branch.false in
    done _ (as_run (end-run _ _ _ _ _ _ _ o g) (closed c.close.ensures (skipped (sign (bytes ",")) _ _ no g.place) g.closable)) refl refl

pub marks-loop-self-init : goal.marks-loop-self-init
marks-loop-self-init t c =
    let text = c.args.self.now.text.now in
    let o = marked-repetition text (turns text) (inner c.args.depth text) c.args.bytes.now in
    gathering _ _ _ _ _ _ _ o (λ r. r) (λ l. l) _ 0 (λ l r. refl) (omega arith) (λ f. absurd (f refl)) (omega arith)
    (said (sym (mapped-same _)) (with_empty begin))

pub marks-loop-self-preserved : goal.marks-loop-self-preserved
marks-loop-self-preserved t c =
    let text = c.args.self.now.text.now in
    let g = c.loop-self.invariant in
    let o = marked-repetition text (turns text) (inner c.args.depth text) c.args.bytes.now in
    let mark = stood (word c.args.bytes.now) _ _ _ c.in_ok-keyword.ensures c.if-branch.true in
    let es = c.in_ok-es.ensures in
    let l = itemed c.push-list.ensures (read (items_rule Exprs c.args.depth) _ es (taken (word c.args.bytes.now) _ _ mark g.place) (le-leb _ _ (omega (arith, c.requires)))) (le-leb _ _ (omega (arith, c.requires))) in
    gathering-next _ _ _ _ _ _ _ o g es.value l (omega arith) (omega arith) (λ f. omega (arith, c.requires)) (omega (arith, g.enough, mark.went.onward, es.went.onward, c.requires))

pub marks-returns : goal.marks-returns
marks-returns t c =
    let text = c.args.self.now.text.now in
    let g = c.loop-self.invariant in
    let o = marked-repetition text (turns text) (inner c.args.depth text) c.args.bytes.now in
    let no = absent (word c.args.bytes.now) _ _ _ c.in_ok-keyword.ensures c.if-branch.false in
    done _ (as_run (end-run _ _ _ _ _ _ _ o g) (closed c.close.ensures (skipped (word c.args.bytes.now) _ _ no g.place) g.closable)) refl refl

pub primary-returns-in_err-literal : goal.primary-returns-in_err-literal
primary-returns-in_err-literal t c =
    reads_if_err _ _ _ _ _ _ _ _ c.from_residual-in_err-literal.ensures.1 (stopped literal_expr _ _ c.in_err-literal.ensures
    (said (wordless-rule _ _ _ _ (rw c.in_default.is at c.word_ahead.ensures)) (begin {p = c.args.self.now})))

pub primary-returns-in-Some-2 : goal.primary-returns-in-Some-2
primary-returns-in-Some-2 t c =
    done _ (read_if literal_expr _ _ (rw c.in-Some-2.is at c.in_ok-literal.ensures)
    (said (wordless-rule _ _ _ _ (rw c.in_default.is at c.word_ahead.ensures)) begin) refl) refl refl

pub primary-returns : goal.primary-returns
primary-returns t c =
    let no = rw c.in_default-2.is at c.in_ok-literal.ensures in
    tail_if tree_words _ (paren_expr (inner c.args.depth)) 1 0 1 0 _ _ no.same
    (wordless-rule _ _ _ _ (rw c.in_default.is at c.word_ahead.ensures) ∙ after-none _ _ _ no.says) c.paren.ensures refl refl

pub prop-returns-then-word_here : goal.prop-returns-then-word_here
prop-returns-then-word_here t c =
    let h = sym c.word_here.ensures ∙ c.if-word_here.true in
    done _ (paired c.pair.ensures (read (inner c.args.depth) _ c.in_ok-body.ensures (read_if (marked_rule (bytes "trigger") c.args.depth) _ _ c.in_ok-triggers.ensures
    (said (triggered-rule _ _ _ _ h) (begin_with c.requires)) refl) refl) refl) refl refl

pub prop-returns-in_err-body : goal.prop-returns-in_err-body
prop-returns-in_err-body t c =
    let h = sym c.word_here.ensures ∙ c.if-word_here.true in
    reads_if_err _ _ _ _ _ _ _ _ c.from_residual-in_err-body.ensures.1 (refused_at (inner c.args.depth) _ (read_if (marked_rule (bytes "trigger") c.args.depth) _ _ c.in_ok-triggers.ensures
    (said (triggered-rule _ _ _ _ h) (begin_with c.requires)) refl) c.in_err-body.ensures)

pub prop-returns-in_err-body-2 : goal.prop-returns-in_err-body-2
prop-returns-in_err-body-2 t c =
    let h = sym c.word_here.ensures ∙ c.if-word_here.false in
    reads_if_err _ _ _ _ _ _ _ _ c.from_residual-in_err-body-2.ensures.1 (stopped (inner c.args.depth) _ _ c.in_err-body-2.ensures (said (untriggered-rule _ _ _ _ h) (begin_with c.requires)))

pub prop-returns-in_default : goal.prop-returns-in_default
prop-returns-in_default t c =
    let h = sym c.word_here.ensures ∙ c.if-word_here.false in
    let none = rw c.in_default.is at c.in_ok-body-2.ensures in
    record { says = (skipped (inner c.args.depth) _ _ none (said (untriggered-rule _ _ _ _ h) (begin_with c.requires))).says; same = none.same }

pub prop-returns : goal.prop-returns
prop-returns t c =
    let h = sym c.word_here.ensures ∙ c.if-word_here.false in
    done _ (paired c.pair-2.ensures (read_if (inner c.args.depth) _ _ (rw c.in-Some.is at c.in_ok-body-2.ensures) (with_end (said (untriggered-rule _ _ _ _ h) (begin_with c.requires))) refl) refl) refl refl

pub worded-returns-in_err-keyword_of : goal.worded-returns-in_err-keyword_of
worded-returns-in_err-keyword_of t c =
    reads_err _ _ _ _ _ _ _ _ c.from_residual.ensures.1 (stopped (word (bytes "if")) _ _ c.in_err-keyword_of.ensures
    (said (worded-rule _ _ (omega (arith, c.requires.measured, c.requires.filled)) _ _) (begin {p = c.args.self.now})))

pub worded-returns-then-branch : goal.worded-returns-then-branch
worded-returns-then-branch t c =
    tail tree_words _ (over after_if c.args.depth) 1 0 1 0 _ _ c.cond.ensures
    (stands-here (word (bytes "if")) 2 _ _ c.in_ok-keyword_of.ensures c.if-branch.true
    (said (worded-rule _ _ (omega (arith, c.requires.measured, c.requires.filled)) _ _) begin)) refl refl refl

pub worded-returns-in_err-keyword_of-2 : goal.worded-returns-in_err-keyword_of-2
worded-returns-in_err-keyword_of-2 t c =
    reads_err _ _ _ _ _ _ _ _ c.from_residual-in_err-keyword_of-2.ensures.1 (stopped (word (bytes "val")) _ _ c.in_err-keyword_of-2.ensures
    (absent-here (word (bytes "if")) 2 _ _ c.in_ok-keyword_of.ensures c.if-branch.false
    (said (worded-rule _ _ (omega (arith, c.requires.measured, c.requires.filled)) _ _) begin)))

pub worded-returns-then-branch-2 : goal.worded-returns-then-branch-2
worded-returns-then-branch-2 t c =
    tail tree_words _ (over after_val c.args.depth) 1 0 1 0 _ _ c.val.ensures
    (stands-here (word (bytes "val")) 3 _ _ c.in_ok-keyword_of-2.ensures c.if-branch-2.true
    (absent-here (word (bytes "if")) 2 _ _ c.in_ok-keyword_of.ensures c.if-branch.false
    (said (worded-rule _ _ (omega (arith, c.requires.measured, c.requires.filled)) _ _) begin))) refl refl refl

pub worded-returns-in_err-keyword_of-3 : goal.worded-returns-in_err-keyword_of-3
worded-returns-in_err-keyword_of-3 t c =
    reads_err _ _ _ _ _ _ _ _ c.from_residual-in_err-keyword_of-3.ensures.1 (stopped (word (bytes "forall")) _ _ c.in_err-keyword_of-3.ensures
    (absent-here (word (bytes "val")) 3 _ _ c.in_ok-keyword_of-2.ensures c.if-branch-2.false
    (absent-here (word (bytes "if")) 2 _ _ c.in_ok-keyword_of.ensures c.if-branch.false
    (said (worded-rule _ _ (omega (arith, c.requires.measured, c.requires.filled)) _ _) begin))))

pub worded-returns-then-branch-3 : goal.worded-returns-then-branch-3
worded-returns-then-branch-3 t c =
    tail tree_words _ (quantifier_rule true c.args.depth) 1 0 1 7 _ _ c.quant.ensures
    (stands-here (word (bytes "forall")) 6 _ _ c.in_ok-keyword_of-3.ensures c.if-branch-3.true
    (absent-here (word (bytes "val")) 3 _ _ c.in_ok-keyword_of-2.ensures c.if-branch-2.false
    (absent-here (word (bytes "if")) 2 _ _ c.in_ok-keyword_of.ensures c.if-branch.false
    (said (worded-rule _ _ (omega (arith, c.requires.measured, c.requires.filled)) _ _) begin)))) refl refl refl

pub worded-returns-in_err-keyword_of-4 : goal.worded-returns-in_err-keyword_of-4
worded-returns-in_err-keyword_of-4 t c =
    reads_err _ _ _ _ _ _ _ _ c.from_residual-in_err-keyword_of-4.ensures.1 (stopped (word (bytes "exists")) _ _ c.in_err-keyword_of-4.ensures
    (absent-here (word (bytes "forall")) 6 _ _ c.in_ok-keyword_of-3.ensures c.if-branch-3.false
    (absent-here (word (bytes "val")) 3 _ _ c.in_ok-keyword_of-2.ensures c.if-branch-2.false
    (absent-here (word (bytes "if")) 2 _ _ c.in_ok-keyword_of.ensures c.if-branch.false
    (said (worded-rule _ _ (omega (arith, c.requires.measured, c.requires.filled)) _ _) begin)))))

pub worded-returns-then-branch-4 : goal.worded-returns-then-branch-4
worded-returns-then-branch-4 t c =
    tail tree_words _ (quantifier_rule false c.args.depth) 1 0 1 7 _ _ c.quant-then-branch-4.ensures
    (stands-here (word (bytes "exists")) 6 _ _ c.in_ok-keyword_of-4.ensures c.if-branch-4.true
    (absent-here (word (bytes "forall")) 6 _ _ c.in_ok-keyword_of-3.ensures c.if-branch-3.false
    (absent-here (word (bytes "val")) 3 _ _ c.in_ok-keyword_of-2.ensures c.if-branch-2.false
    (absent-here (word (bytes "if")) 2 _ _ c.in_ok-keyword_of.ensures c.if-branch.false
    (said (worded-rule _ _ (omega (arith, c.requires.measured, c.requires.filled)) _ _) begin))))) refl refl refl

pub worded-returns-in_err-keyword_of-5 : goal.worded-returns-in_err-keyword_of-5
worded-returns-in_err-keyword_of-5 t c =
    reads_err _ _ _ _ _ _ _ _ c.from_residual-in_err-keyword_of-5.ensures.1 (stopped (word (bytes "lift")) _ _ c.in_err-keyword_of-5.ensures
    (absent-here (word (bytes "exists")) 6 _ _ c.in_ok-keyword_of-4.ensures c.if-branch-4.false
    (absent-here (word (bytes "forall")) 6 _ _ c.in_ok-keyword_of-3.ensures c.if-branch-3.false
    (absent-here (word (bytes "val")) 3 _ _ c.in_ok-keyword_of-2.ensures c.if-branch-2.false
    (absent-here (word (bytes "if")) 2 _ _ c.in_ok-keyword_of.ensures c.if-branch.false
    (said (worded-rule _ _ (omega (arith, c.requires.measured, c.requires.filled)) _ _) begin))))))

pub worded-returns-then-branch-5 : goal.worded-returns-then-branch-5
worded-returns-then-branch-5 t c =
    tail tree_words _ (turning after_lift c.args.depth) 1 0 1 4 _ _ c.lift.ensures
    (stands-here (word (bytes "lift")) 4 _ _ c.in_ok-keyword_of-5.ensures c.if-branch-5.true
    (absent-here (word (bytes "exists")) 6 _ _ c.in_ok-keyword_of-4.ensures c.if-branch-4.false
    (absent-here (word (bytes "forall")) 6 _ _ c.in_ok-keyword_of-3.ensures c.if-branch-3.false
    (absent-here (word (bytes "val")) 3 _ _ c.in_ok-keyword_of-2.ensures c.if-branch-2.false
    (absent-here (word (bytes "if")) 2 _ _ c.in_ok-keyword_of.ensures c.if-branch.false
    (said (worded-rule _ _ (omega (arith, c.requires.measured, c.requires.filled)) _ _) begin)))))) refl refl refl

pub worded-returns-in_err-constant : goal.worded-returns-in_err-constant
worded-returns-in_err-constant t c =
    reads_err _ _ _ _ _ _ _ _ c.from_residual-in_err-constant.ensures.1 (stopped constant_expr _ _ c.in_err-constant.ensures
    (absent-here (word (bytes "lift")) 4 _ _ c.in_ok-keyword_of-5.ensures c.if-branch-5.false
    (absent-here (word (bytes "exists")) 6 _ _ c.in_ok-keyword_of-4.ensures c.if-branch-4.false
    (absent-here (word (bytes "forall")) 6 _ _ c.in_ok-keyword_of-3.ensures c.if-branch-3.false
    (absent-here (word (bytes "val")) 3 _ _ c.in_ok-keyword_of-2.ensures c.if-branch-2.false
    (absent-here (word (bytes "if")) 2 _ _ c.in_ok-keyword_of.ensures c.if-branch.false
    (said (worded-rule _ _ (omega (arith, c.requires.measured, c.requires.filled)) _ _) begin)))))))

pub worded-returns-in-Some : goal.worded-returns-in-Some
worded-returns-in-Some t c =
    done _ (read_if constant_expr _ _ (rw c.in-Some.is at c.in_ok-constant.ensures)
    (absent-here (word (bytes "lift")) 4 _ _ c.in_ok-keyword_of-5.ensures c.if-branch-5.false
    (absent-here (word (bytes "exists")) 6 _ _ c.in_ok-keyword_of-4.ensures c.if-branch-4.false
    (absent-here (word (bytes "forall")) 6 _ _ c.in_ok-keyword_of-3.ensures c.if-branch-3.false
    (absent-here (word (bytes "val")) 3 _ _ c.in_ok-keyword_of-2.ensures c.if-branch-2.false
    (absent-here (word (bytes "if")) 2 _ _ c.in_ok-keyword_of.ensures c.if-branch.false
    (said (worded-rule _ _ (omega (arith, c.requires.measured, c.requires.filled)) _ _) begin)))))) refl) refl refl

pub worded-returns-in_err-name : goal.worded-returns-in_err-name
worded-returns-in_err-name t c =
    reads_err _ _ _ _ _ _ _ _ c.from_residual-in_err-name.ensures.1 (stopped parse_name _ _ c.in_err-name.ensures
    (skipped constant_expr _ _ (rw c.in_default.is at c.in_ok-constant.ensures)
    (absent-here (word (bytes "lift")) 4 _ _ c.in_ok-keyword_of-5.ensures c.if-branch-5.false
    (absent-here (word (bytes "exists")) 6 _ _ c.in_ok-keyword_of-4.ensures c.if-branch-4.false
    (absent-here (word (bytes "forall")) 6 _ _ c.in_ok-keyword_of-3.ensures c.if-branch-3.false
    (absent-here (word (bytes "val")) 3 _ _ c.in_ok-keyword_of-2.ensures c.if-branch-2.false
    (absent-here (word (bytes "if")) 2 _ _ c.in_ok-keyword_of.ensures c.if-branch.false
    (said (worded-rule _ _ (omega (arith, c.requires.measured, c.requires.filled)) _ _) begin))))))))

pub worded-returns : goal.worded-returns
worded-returns t c =
    tail tree_words _ (name_rule (span c.in_ok-name.name) c.args.depth) 1 0 0 2 _ _ c.named.ensures
    (named_if parse_name _ _ c.in_ok-name.ensures.named
    (skipped constant_expr _ _ (rw c.in_default.is at c.in_ok-constant.ensures)
    (absent-here (word (bytes "lift")) 4 _ _ c.in_ok-keyword_of-5.ensures c.if-branch-5.false
    (absent-here (word (bytes "exists")) 6 _ _ c.in_ok-keyword_of-4.ensures c.if-branch-4.false
    (absent-here (word (bytes "forall")) 6 _ _ c.in_ok-keyword_of-3.ensures c.if-branch-3.false
    (absent-here (word (bytes "val")) 3 _ _ c.in_ok-keyword_of-2.ensures c.if-branch-2.false
    (absent-here (word (bytes "if")) 2 _ _ c.in_ok-keyword_of.ensures c.if-branch.false
    (said (worded-rule _ _ (omega (arith, c.requires.measured, c.requires.filled)) _ _) begin)))))))) refl refl refl

pub bind-returns-in_err-rhs : goal.bind-returns-in_err-rhs
unfolding parse_closure_binding
bind-returns-in_err-rhs t c =
    reads_if_err _ _ _ _ _ _ _ _ c.from_residual-in_err-rhs.ensures.1 (refused_at (inner c.args.depth) _ (paired c.pair-head.ensures (took _ _ c.in_ok-need_sym.ensures
    (read _ _ (sure c.in_ok-parameters.ensures) (two-made c.push-name.ensures (named_if _ _ _ (rw c.in-Some.is at c.in_ok-bound.ensures) begin) refl) refl)) refl) c.in_err-rhs.ensures)

pub lift-returns-in_err-properties : goal.lift-returns-in_err-properties
unfolding after_lift
lift-returns-in_err-properties t c =
    reads_err _ _ _ _ _ _ _ _ c.from_residual-in_err-properties.ensures.1 (stopped (list_rule Properties (bytes "}") c.args.depth) _ _ c.in_err-properties.ensures
    (took _ _ c.in_ok-need_sym-2.ensures (took _ _ c.in_ok-need_keyword-2.ensures
    (paired c.pair-result.ensures (read _ _ c.in_ok-typ.ensures (took _ _ c.in_ok-need_sym.ensures (read _ _ c.in_ok-name.ensures
    (took _ _ c.in_ok-need_keyword.ensures (read (items_rule Closures c.args.depth) _ c.in_ok-bindings.ensures (one-made c.push-head.ensures (begin_with c.requires) refl) refl)) refl)) refl) refl))))
