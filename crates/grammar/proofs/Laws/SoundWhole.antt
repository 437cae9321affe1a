-- The parser is sound.
use Rattle.std.specs.Prelude.{ℕ, zero, suc}
use Rattle.grammar.specs.Grammar.{Rule, Whole, EquivExpr, product, sum, comparison, conjunction, disjunction, implication, explication}
use Rattle.grammar.specs.Grammar.{equivalence}
use Rattle.grammar.specs.Parser.{Parser, parse_equiv_expr, parse_expr}
use Rattle.tree.specs.Clash.{impossible}
use Rattle.grammar.proofs.Laws.Sound.{Sound, left-tail, right-tail, once-tail, either-tail, level}
use Rattle.grammar.proofs.Laws.SoundOperand.{operand_sound, unary-sound}

-- each level, from the tightest
equiv-sound : {E : Rule} {e : Parser} → Sound E e → (m : ℕ) → Sound (EquivExpr E) (parse_equiv_expr m e)
equiv-sound s m =
    let u = unary-sound (operand_sound s m) m in
    let f = level u (left-tail u product m) in
    let t = level f (left-tail f sum m) in
    let j = level t (once-tail t comparison) in
    let l = level j (either-tail conjunction (left-tail j conjunction m) (left-tail j disjunction m)) in
    let i = level l (either-tail implication (right-tail l implication m) (left-tail l explication m)) in
    level i (left-tail i equivalence m)

-- an expression that is read has a derivation
pub whole-sound : (m d : ℕ) → Sound (Whole d) (parse_expr m d)
unfolding parse_expr Whole
whole-sound m zero = record { reads = λ h. impossible (cc) }
whole-sound m (suc d) = equiv-sound (whole-sound m d) m
