-- The rules that a statement opens, with no level left and with one.
use Rattle.std.proofs.Common.{ℕ, zero, suc, ◌-◌, ◌≡◌, ◌∙◌, refl, ap, List, arith}
use mathlib.Core.Path.{fun_ext}
use Rattle.lexing.specs.Answer.{Answer, ok, refused}
use Rattle.lexing.specs.Bytes.{bytes}
use Rattle.tree.specs.Ast.{Span, Stmt, Block, Loop as Loop-stmt}
use Rattle.grammar.specs.Steps.{after, need, must, mapped, ◌or◌, T, Sym}
use Rattle.grammar.specs.Statements.{gallery, statements, aexprs, rep, rep_till, too_deep, parse_stmt, parse_block, parse_loop, parse_a_expr, parse_a_expr_seq, parse_if_cont}
use Rattle.parsing.specs.Code.{turns, opened}
use Rattle.parsing.specs.Contract.{needed}
use Rattle.parsing.specs.Statements.{after_loop, scope_stmt}
use Rattle.parsing.proofs.Laws.{after-none}
use Rattle.parsing.proofs.StatementEquations.{must-after, must-first, ok-keeps}
use Rattle.parsing.proofs.StatementWords.{Keeps}
use Rattle.parsing.proofs.StatementBranches.{loop_body, loop-keeps}

-- a step that keeps something is too deep where it stands
pub deep-kept : {A B : Type 0} (at : ℕ) (r : Answer A) → Keeps r → too_deep {B = B} at r ≡ refused 3 at
unfolding too_deep
deep-kept at (ok a next) k = refl
deep-kept at Answer.none k = absurd (omega (arith, k.some))
deep-kept at (refused number place) k = refl

-- a step that is not refused
pub data Unrefused {A : Type 0} : Answer A → Type 0 where
  reads : {a : A} {next : ℕ} → Unrefused (ok a next)
  misses : Unrefused Answer.none

-- Where no level is left, a block and a loop are too deep where their token stands. A loop begins with its word, if that is not refused there.
module _ (text : List ℕ) (depth at : ℕ) where
  pub block-deep : depth ≡ 0 → (opened depth text).block at ≡ too_deep at (Sym text "{" at)
  unfolding gallery
  block-deep e = rw e refl

  pub loop-deep : depth ≡ 0 → (opened depth text).loop at ≡ too_deep at (T text "loop" at)
  unfolding gallery
  loop-deep e = rw e refl

pub block-none : (text : List ℕ) (depth at : ℕ) → Sym text "{" at ≡ Answer.none → (opened depth text).block at ≡ Answer.none
unfolding gallery parse_block too_deep
block-none text zero at e = rw e refl
block-none text (suc d) at e = after-none _ _ _ e

pub loop_rule : (text : List ℕ) (depth at : ℕ) → (depth ≡ 0 → Unrefused (T text "loop" at))
    → (opened depth text).loop at ≡ after (T text "loop" at) Answer.none (λ _ at₁. loop_body depth at text at₁)
unfolding gallery parse_loop too_deep after
loop_rule text zero at u = by-word (T text "loop" at) (u refl)
  where
    by-word : (r : Answer ℕ) → Unrefused r → ◌≡◌ {A = Answer (Stmt Span)} (too_deep at r) (after r Answer.none (λ _ _. refused 3 at))
    by-word (ok a next) reads = refl
    by-word Answer.none misses = refl
    by-word (refused number place) u = elim u [ ]
loop_rule text (suc d) at u = refl

-- a sequence and what must follow it, made into something that must follow
list-made : {A B : Type 0} (f : A → B) (at : ℕ) (x : Answer A) (y : ℕ → Answer ℕ)
    → must at (mapped f (need at x (λ l at₁. need at₁ (y at₁) (λ _ at₂. ok l at₂))))
    ≡ need at x (λ l at₁. need at₁ (y at₁) (λ _ at₂. ok (f l) at₂))
unfolding after
list-made f at (ok l next) y = ended (y next)
  where
    ended : (z : Answer ℕ) → must at (mapped f (need next z (λ _ at₂. ok l at₂))) ≡ need next z (λ _ at₂. ok (f l) at₂)
    ended (ok v n) = refl
    ended Answer.none = refl
    ended (refused number place) = refl
list-made f at Answer.none y = refl
list-made f at (refused number place) y = refl

-- with a level left, the depth is one more than another
one-more : (depth : ℕ) → (depth ≡ 0 → ⊥) → depth ≡ suc (depth - 1)
one-more depth h = omega (arith, h)

-- there a rule is upstream's
module _ (text : List ℕ) (depth at : ℕ) (h : depth ≡ 0 → ⊥) where
  pub block-opens : (opened depth text).block at
      ≡ after (Sym text "{" at) Answer.none
      (λ _ at₁. need at₁ (rep statements (turns text) (parse_stmt text (turns text) (opened (depth - 1) text)) at₁)
      (λ l at₂. need at₂ (Sym text "}" at₂) (λ _ at₃. ok (Block l) at₃)))
  unfolding gallery parse_block rep_till
  block-opens =
      ap (λ d. (opened d text).block at) (one-more depth h)
      ∙ ap (after (Sym text "{" at) Answer.none) (fun_ext (λ _. fun_ext (λ at₁. list-made Block at₁ _ (Sym text "}"))))

  pub cont-opens : (opened depth text).if_cont at ≡ parse_if_cont text (turns text) (opened (depth - 1) text) at
  unfolding gallery
  cont-opens = ap (λ d. (opened d text).if_cont at) (one-more depth h)

  pub stmt-opens : (opened depth text).stmt at ≡ parse_stmt text (turns text) (opened (depth - 1) text) at
  unfolding gallery
  stmt-opens = ap (λ d. (opened d text).stmt at) (one-more depth h)

-- a block or a loop, which must follow, with no level left and with one
pub scope-deep : (depth : ℕ) (text : List ℕ) (at : ℕ) → depth ≡ 0
    → needed (scope_stmt depth) text at ≡ after ((opened depth text).block at) (must at (too_deep at (T text "loop" at))) (λ s at₁. ok s at₁)
scope-deep depth text at e =
    ap (λ r. must at ((opened depth text).block at or r)) (loop-deep text depth at e)
    ∙ must-after at ((opened depth text).block at) (too_deep at (T text "loop" at)) (λ s at₁. ok s at₁) (λ s at₁. ok-keeps _ _)

pub scope-rule : (depth : ℕ) (text : List ℕ) (at : ℕ) → (depth ≡ 0 → ⊥)
    → needed (scope_stmt depth) text at
    ≡ after ((opened depth text).block at) (need at (T text "loop" at) (λ _ at₁. loop_body depth at text at₁)) (λ s at₁. ok s at₁)
scope-rule depth text at h =
    ap (λ r. must at ((opened depth text).block at or r)) (loop_rule text depth at (λ z. absurd (h z)))
    ∙ must-after at ((opened depth text).block at) (after (T text "loop" at) Answer.none (λ _ at₁. loop_body depth at text at₁)) (λ s at₁. ok s at₁) (λ s at₁. ok-keeps _ _)
    ∙ ap (λ r. after ((opened depth text).block at) r (λ s at₁. ok s at₁)) (must-first at (T text "loop" at) _ (λ _ at₁. loop-keeps depth at text at₁))

-- a loop's body
pub body-opens : (depth start : ℕ) (text : List ℕ) (at : ℕ) → (depth ≡ 0 → ⊥) → loop_body depth start text at ≡ after_loop depth text at
body-opens depth start text at h = ap (λ d. loop_body d start text at) (one-more depth h)

pub loop-opens : (depth : ℕ) (text : List ℕ) (at : ℕ)
    → after_loop depth text at
    ≡ need at (rep aexprs (turns text) (parse_a_expr text (turns text) (opened (depth - 1) text) (bytes "invariant")) at)
    (λ is at₁. must at₁ (mapped (Loop-stmt is) ((opened (depth - 1) text).block at₁)))
unfolding parse_a_expr_seq
loop-opens depth text at = refl
