-- The simulation of every level, and of expressions of any depth.
use Prim.Native.Nat.{ℕ, zero, suc}
use Rattle.std.specs.Prelude.{◌≡◌, List, ◌∷◌, drop}
use Rattle.std.proofs.Math.Path.{refl}
use Rattle.lexing.specs.RunLaws.{pick-both}
use Rattle.lexing.specs.Answer.{Answer, refused}
use Rattle.lexing.specs.Bytes.{is_digit, can_start_identifier_char}
use Rattle.lexing.specs.Tokens.{identifier_length}
use Rattle.tree.specs.Ast.{Span, Expr}
use Rattle.grammar.specs.Grammar.{Class, product, sum, comparison, conjunction, disjunction, implication, explication, equivalence}
use Rattle.grammar.specs.Parser as parser
use Rattle.grammar.specs.Parser.{Parser}
use Rattle.grammar.specs.Steps.{Reader, after}
use Rattle.grammar.specs.Rules as rules
use Rattle.grammar.specs.Rules.{operator_of}
use Rattle.grammar.proofs.Bridge.Relation.{fails, refuses, Dead, ends, absent, dead}
use Rattle.grammar.proofs.Bridge.Trees.{Bad}
use Rattle.grammar.proofs.Bridge.Tails.{Level, level, left-tail, right-tail, once-tail, either-tail}
use Rattle.grammar.proofs.Bridge.Operand.{unary-level}

module _ (text : List ℕ) (n : ℕ) where
  abbrev m : ℕ
  m = suc n

  left-refuses : (p : Reader (Expr Span)) (c : Class) (e : Expr Span) (at number place : ℕ) → operator_of text c at ≡ refused number place
      → rules.left_tail m (operator_of text c) p e at ≡ refused number place
  unfolding rules.left_tail after
  left-refuses p c e at number place q = rw q refl

  right-refuses : (p : Reader (Expr Span)) (c : Class) (e : Expr Span) (at number place : ℕ) → operator_of text c at ≡ refused number place
      → rules.right_tail m (operator_of text c) p e at ≡ refused number place
  unfolding rules.right_tail after
  right-refuses p c e at number place q = rw q refl

  module _ {c : Reader (Expr Span)} {e : Parser} (l : Level text c e) where
    -- each level, from the tightest
    equiv-level : Level text (rules.parse_equiv_expr text m c) (parser.parse_equiv_expr m e)
    unfolding rules.parse_factor_expr rules.parse_term_expr rules.parse_juct_expr rules.logical_tail rules.parse_logical_expr rules.imp_exp_tail rules.parse_imp_exp_expr rules.parse_equiv_expr
    equiv-level =
        let u : Level text (rules.parse_unary_expr text m c) (parser.parse_unary_expr m e) = unary-level text m l in
        let f : Level text (rules.parse_factor_expr text m c) (parser.parse_factor_expr m e) = level u (left-tail u product m) in
        let t : Level text (rules.parse_term_expr text m c) (parser.parse_term_expr m e) = level f (left-tail f sum m) in
        let j : Level text (rules.parse_juct_expr text m c) (parser.parse_juct_expr m e) = level t (once-tail t comparison) in
        let g : Level text (rules.parse_logical_expr text m c) (parser.parse_logical_expr m e) =
        level j (either-tail conjunction (left-tail j conjunction m) (left-tail j disjunction m) (left-refuses (rules.parse_juct_expr text m c) conjunction)) in
        let i : Level text (rules.parse_imp_exp_expr text m c) (parser.parse_imp_exp_expr m e) =
        level g (either-tail implication (right-tail g implication m) (left-tail g explication m) (right-refuses (rules.parse_logical_expr text m c) implication)) in
        level i (left-tail i equivalence m)

  no-depth : (at : ℕ) (s : List ℕ) → drop at text ≡ 41 ∷ s → rules.parse_expr text m zero at ≡ Answer.none
  unfolding rules.parse_expr rules.opens_expr rules.opens_at identifier_length can_start_identifier_char is_digit
  no-depth at s p = rw p refl

  -- Expressions of at most the depth d: the byte rules against the parser.
  pub expr-level : (d : ℕ) → Level text (rules.parse_expr text m d) (parser.parse_expr m d)
  unfolding rules.parse_expr parser.parse_expr
  expr-level zero =
      record {
        sim = λ at. dead (pick-both (Dead (Bad text)) (rules.opens_expr (drop at text)) (ends refuses) absent) fails;
        halts = λ us. fails;
        closed = no-depth;
      }
  expr-level (suc d) = equiv-level (expr-level d)
