-- The simulation of a rule and of what continues it: operators to the left, to the right, at most one, and one of two classes.
use Prim.Native.Nat.{ℕ, zero, suc, ◌≤◌}
use Rattle.std.specs.Prelude.{◌≡◌, refl, List, ◌∷◌, length, drop}
use Rattle.lexing.specs.Answer.{Answer, ok, refused}
use Rattle.tree.specs.Ast.{Span, Expr}
use Rattle.tree.specs.Resolve.{resolve_expr}
use Rattle.grammar.specs.Tokens.{Token, illegal}
use Rattle.grammar.specs.Grammar.{Tree, Class, Build, build, role, binary}
use Rattle.grammar.specs.Parser as parser
use Rattle.grammar.specs.Parser.{Parsed, parsed, Parser, Tail, see, in_class, continued}
use Rattle.grammar.specs.Steps.{Reader, after}
use Rattle.grammar.specs.Rules as rules
use Rattle.grammar.specs.Rules.{operator_of}
use Rattle.grammar.proofs.Bridge.Relation.{tokens, Halted, waits, refuses, reads, Dead, ends, absent, Sim, agree}
use Rattle.grammar.proofs.Bridge.Relation.{dead-after, dead-then, halted-after, sim-after, sim-see, sim-either}
use Rattle.grammar.proofs.Bridge.Trees.{Bad, resolve-build, bad-left, bad-right}
use Rattle.grammar.proofs.Bridge.Tests.{class-test}

-- the simulation of expressions
abbrev pub SimExpr : List ℕ → Answer (Expr Span) → Parsed Tree → Type 0
SimExpr text = Sim text (resolve_expr text) (Bad text)

-- a rule and its parser
pub record Level (text : List ℕ) (p : Reader (Expr Span)) (q : Parser) : Type 0 where
  pub sim : (at : ℕ) → SimExpr text (p at) (q (tokens text at))
  pub halts : (us : List Token) → Halted (q (illegal ∷ us))
  -- a closing bracket begins nothing
  pub closed : (at : ℕ) (s : List ℕ) → drop at text ≡ 41 ∷ s → p at ≡ Answer.none

-- what continues an operand
pub record Continues (text : List ℕ) (g : Expr Span → Reader (Expr Span)) (g' : Tail) : Type 0 where
  pub sim : (e : Expr Span) (at : ℕ) → at ≤ length text → SimExpr text (g e at) (g' (resolve_expr text e) (tokens text at))
  pub spoils : (e : Expr Span) (at : ℕ) → Bad text e → Dead (Bad text) (g e at)
  pub halts : (t : Tree) (us : List Token) → Halted (g' t (illegal ∷ us))

-- a rule and what continues it
pub level : {text : List ℕ} {p : Reader (Expr Span)} {q : Parser} {g : Expr Span → Reader (Expr Span)} {g' : Tail} → Level text p q
    → Continues text g g' → Level text (λ at. after (p at) Answer.none g) (continued q g')
unfolding continued after
level {g} {g'} l f =
    record {
      sim = λ at. sim-after Answer.none g g' (l.sim at) absent f.sim f.spoils f.halts;
      halts = λ us. halted-after g' (l.halts us) f.halts;
      closed = λ at s e. rw (l.closed at s e) refl;
    }

module _ {text : List ℕ} {p : Reader (Expr Span)} {q : Parser} (l : Level text p q) (c : Class) where
  left-halts : (k : ℕ) (t : Tree) (us : List Token) → Halted (parser.left_tail k c q t (illegal ∷ us))
  unfolding parser.left_tail see in_class binary role
  left-halts zero t us = waits
  left-halts (suc k) t us = waits

  left-spoils : (k : ℕ) (e : Expr Span) (at : ℕ) → Bad text e → Dead (Bad text) (rules.left_tail k (operator_of text c) p e at)
  unfolding rules.left_tail
  left-spoils zero e at bad = ends (reads bad)
  left-spoils (suc k) e at bad =
      dead-after (operator_of text c at) _ _ (ends (reads bad))
      (λ b at₁. dead-after (p at₁) _ _ (ends refuses) (λ e₁ at₂. left-spoils k (build b e e₁) at₂ (bad-left text b e e₁ bad)))

  left-sim : (k : ℕ) (e : Expr Span) (t : Tree) (at : ℕ) → at ≤ length text → t ≡ resolve_expr text e
      → SimExpr text (rules.left_tail k (operator_of text c) p e at) (parser.left_tail k c q t (tokens text at))
  unfolding rules.left_tail parser.left_tail
  left-sim zero e t at h i = rw i (agree e at h)
  left-sim (suc k) e t at h i =
      sim-see _ _ _ _ (class-test text at c) (rw i (agree e at h))
      (λ b at₁ h₁. sim-after _ _ _ (l.sim at₁) (ends refuses)
      (λ e₁ at₂ h₂. left-sim k (build b e e₁) (build b t (resolve_expr text e₁)) at₂ h₂ (rw i (resolve-build text b e e₁)))
      (λ e₁ at₂ bad. left-spoils k (build b e e₁) at₂ (bad-right text b e e₁ bad)) (λ u us. left-halts k (build b t u) us))
      (λ b us. halted-after _ (l.halts us) (λ u vs. left-halts k (build b t u) vs))

  -- operators to the left
  pub left-tail : (k : ℕ) → Continues text (rules.left_tail k (operator_of text c) p) (parser.left_tail k c q)
  left-tail k = record { sim = λ e at h. left-sim k e (resolve_expr text e) at h refl; spoils = left-spoils k; halts = left-halts k }

  right-halts : (k : ℕ) (t : Tree) (us : List Token) → Halted (parser.right_tail k c q t (illegal ∷ us))
  unfolding parser.right_tail see in_class binary role
  right-halts zero t us = waits
  right-halts (suc k) t us = waits

  right-spoils : (k : ℕ) (e : Expr Span) (at : ℕ) → Bad text e → Dead (Bad text) (rules.right_tail k (operator_of text c) p e at)
  unfolding rules.right_tail
  right-spoils zero e at bad = ends (reads bad)
  right-spoils (suc k) e at bad =
      dead-after (operator_of text c at) _ _ (ends (reads bad))
      (λ b at₁. dead-after (p at₁) _ _ (ends refuses)
      (λ e₁ at₂. dead-after (rules.right_tail k (operator_of text c) p e₁ at₂) _ _ absent (λ e₂ at₃. ends (reads (bad-left text b e e₂ bad)))))

  -- both operands of an operator
  joined : (b : Build) (e e₁ : Expr Span) (at : ℕ) → at ≤ length text
      → SimExpr text (ok (build b e e₁) at) (parsed (build b (resolve_expr text e) (resolve_expr text e₁)) (tokens text at))
  joined b e e₁ at h = rw (resolve-build text b e e₁) (agree (build b e e₁) at h)

  right-sim : (k : ℕ) (e : Expr Span) (at : ℕ) → at ≤ length text
      → SimExpr text (rules.right_tail k (operator_of text c) p e at) (parser.right_tail k c q (resolve_expr text e) (tokens text at))
  unfolding rules.right_tail parser.right_tail
  right-sim zero e at h = agree e at h
  right-sim (suc k) e at h =
      sim-see _ _ _ _ (class-test text at c) (agree e at h)
      (λ b at₁ h₁. sim-after _ _ _ (l.sim at₁) (ends refuses)
      (λ e₁ at₂ h₂. sim-after _ _ _ (right-sim k e₁ at₂ h₂) absent (λ e₂ at₃ h₃. joined b e e₂ at₃ h₃)
      (λ e₂ at₃ bad. ends (reads (bad-right text b e e₂ bad))) (λ w ws. waits))
      (λ e₁ at₂ bad. dead-then _ _ (right-spoils k e₁ at₂ bad) absent (λ e₂ at₃ bad. ends (reads (bad-right text b e e₂ bad))))
      (λ u us. halted-after _ (right-halts k u us) (λ w ws. waits)))
      (λ b us. halted-after _ (l.halts us) (λ u vs. halted-after _ (right-halts k u vs) (λ w ws. waits)))

  -- operators to the right
  pub right-tail : (k : ℕ) → Continues text (rules.right_tail k (operator_of text c) p) (parser.right_tail k c q)
  right-tail k = record { sim = right-sim k; spoils = right-spoils k; halts = right-halts k }

  once-spoils : (e : Expr Span) (at : ℕ) → Bad text e → Dead (Bad text) (rules.once_tail (operator_of text c) p e at)
  unfolding rules.once_tail
  once-spoils e at bad =
      dead-after (operator_of text c at) _ _ (ends (reads bad))
      (λ b at₁. dead-after (p at₁) _ _ (ends refuses) (λ e₁ at₂. ends (reads (bad-left text b e e₁ bad))))

  once-sim : (e : Expr Span) (at : ℕ) → at ≤ length text
      → SimExpr text (rules.once_tail (operator_of text c) p e at) (parser.once_tail c q (resolve_expr text e) (tokens text at))
  unfolding rules.once_tail parser.once_tail
  once-sim e at h =
      sim-see _ _ _ _ (class-test text at c) (agree e at h)
      (λ b at₁ h₁. sim-after _ _ _ (l.sim at₁) (ends refuses) (λ e₁ at₂ h₂. joined b e e₁ at₂ h₂)
      (λ e₁ at₂ bad. ends (reads (bad-right text b e e₁ bad))) (λ u us. waits))
      (λ b us. halted-after _ (l.halts us) (λ u vs. waits))

  once-halts : (t : Tree) (us : List Token) → Halted (parser.once_tail c q t (illegal ∷ us))
  unfolding parser.once_tail see in_class binary role
  once-halts t us = waits

  -- at most one operator
  pub once-tail : Continues text (rules.once_tail (operator_of text c) p) (parser.once_tail c q)
  once-tail = record { sim = once-sim; spoils = once-spoils; halts = once-halts }

-- one of two classes: the tail f where an operator of the class c follows, else the tail f'
module _ {text : List ℕ} {g h : Expr Span → Reader (Expr Span)} {g' h' : Tail} (c : Class) (f : Continues text g g') (f' : Continues text h h')
    (refusal : (e : Expr Span) (at number place : ℕ) → operator_of text c at ≡ refused number place → g e at ≡ refused number place) where
  either-halts : (t : Tree) (us : List Token) → Halted (parser.either_tail c g' h' t (illegal ∷ us))
  unfolding parser.either_tail see in_class binary role
  either-halts t us = f'.halts t us

  -- operators of one class or of another
  pub either-tail : Continues text (λ e at. after (operator_of text c at) (h e at) (λ _ _. g e at)) (parser.either_tail c g' h')
  unfolding parser.either_tail
  either-tail =
      record {
        sim = λ e at i. sim-either (class-test text at c) (f'.sim e at i) (f.sim e at i) (refusal e at);
        spoils = λ e at bad. dead-after (operator_of text c at) _ _ (f'.spoils e at bad) (λ _ _. f.spoils e at bad);
        halts = either-halts;
      }
