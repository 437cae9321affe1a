-- The parser is complete.
use Rattle.std.specs.Prelude.{ℕ, zero, suc, ◌≤◌, ◌≡◌, refl, List, ◌∷◌}
use Rattle.std.proofs.Common.{arith}
use Rattle.grammar.specs.Tokens.{Token, mark, rparen}
use Rattle.grammar.specs.Grammar.{Rule, Whole, EquivExpr, role, unary, product, sum, comparison, conjunction, disjunction, implication}
use Rattle.grammar.specs.Grammar.{explication, equivalence}
use Rattle.grammar.specs.Parser.{Parser, failed, after, see, is_nat, is_word, is_mark, parse_operand, parse_unary, continued, parse_equiv_expr}
use Rattle.grammar.specs.Parser.{parse_expr}
use Rattle.grammar.proofs.Laws.Complete.{Complete, left-tail, left-halts, right-tail, once-tail, only, either-tail, level}
use Rattle.grammar.proofs.Laws.CompleteOperand.{operand-complete, unprefixed, unary-complete}

-- no expression begins with a closing bracket
no-unary : (k m : ℕ) (e : Parser) (ts : List Token) → parse_unary k (parse_operand m e) (mark rparen ∷ ts) ≡ failed
unfolding parse_unary parse_operand see is_nat is_word is_mark unary role
no-unary zero m e ts = refl
no-unary (suc k) m e ts = refl

no-expr : (m d : ℕ) (ts : List Token) → parse_expr m d (mark rparen ∷ ts) ≡ failed
unfolding parse_expr continued after
no-expr m zero ts = refl
no-expr m (suc d) ts = rw (no-unary m m (parse_expr m d) ts) refl

-- each level, from the tightest
equiv-complete : {m : ℕ} {E : Rule} {e : Parser} → Complete 8 m E e → ((ts : List Token) → e (mark rparen ∷ ts) ≡ failed) → Complete 8 m (EquivExpr E) (parse_equiv_expr m e)
equiv-complete {m} {e} s closed =
    let u = unary-complete (operand-complete s closed) (unprefixed m e) in
    let f = level u (only {n' = 1} (omega arith) (omega arith) (left-tail u product (omega arith) (omega arith))) in
    let t = level f (only {n' = 2} (omega arith) (omega arith) (left-tail f sum (omega arith) (omega arith))) in
    let j = level t (only {n' = 3} (omega arith) (omega arith) (once-tail t comparison (omega arith) (omega arith))) in
    let l =
    level j (either-tail {n' = 5} (left-tail j conjunction (omega arith) (omega arith)) (left-tail j disjunction (omega arith) (omega arith))
    (left-halts j disjunction (omega arith) m) (omega arith) (omega arith) (omega arith)) in
    let i =
    level l (either-tail {n' = 7} (right-tail l implication (omega arith) (omega arith)) (left-tail l explication (omega arith) (omega arith))
    (left-halts l explication (omega arith) m) (omega arith) (omega arith) (omega arith)) in
    level i (only (omega arith) (omega arith) (left-tail i equivalence (omega arith) (omega arith)))

-- at a depth of at least the derivation's
pub whole-complete : (m d d' : ℕ) → d ≤ d' → Complete 8 m (Whole d) (parse_expr m d')
unfolding parse_expr Whole
whole-complete m zero d' k = record { parses = λ x h rest st. absurd x }
whole-complete m (suc d) zero k = absurd (omega arith)
whole-complete m (suc d) (suc d') k = equiv-complete (whole-complete m d d' (omega arith)) (no-expr m d')
