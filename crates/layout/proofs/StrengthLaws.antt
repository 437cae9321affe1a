-- PrintUtil.dfy's methods of strengths as upstream states them: `BreakTieInFavorOfOperator`, `WinsOver` and `SubexpressionPower`.
use Rattle.std.specs.Prelude.{ℕ, ◌≤◌, ◌<◌, ◌≡◌, ◌↔◌, ◌⊎◌, Bool}
use Rattle.std.proofs.Common.{arith, ap, ◌∙◌, inl, inr}
use Rattle.std.proofs.Math.Path.{refl}
use Rattle.std.proofs.Math.Bool.{true, false}
use borrow.Author.Tests.{leb-true, ltb-true, eqb-true, le-leb, lt-ltb, eq-eqb}
use Rattle.lexing.specs.RunLaws.{both_true}
use Rattle.lexing.specs.Answer.{pick}
use Rattle.layout.specs.declared.power.TieBreaker.{TieBreaker}
use Rattle.layout.specs.declared.power.TieBreaker.TheVariants.{OperatorWins, ContextWins, SameFamilyWins}
use Rattle.layout.specs.declared.power.Side.TheVariants.{Left, Right}
use Rattle.layout.specs.declared.power.BindingPower.{BindingPower}
use Rattle.layout.specs.PrintUtil.{BreakTieInFavorOfOperator, power, Init, EndlessOperator, WinsOver, adjusted, side_power, SubexpressionPower}

-- `this == OperatorWins || context == OperatorWins || (this.SameFamilyWins? && this == context)`
abbrev pub Favored : TieBreaker → TieBreaker → Type 0
Favored this context = (this ≡ OperatorWins) ⊎ (context ≡ OperatorWins) ⊎ ((n : ℕ) × ((this ≡ SameFamilyWins n) × (this ≡ context)))

pub favored : (this context : TieBreaker) → (BreakTieInFavorOfOperator this context ≡ true) ↔ Favored this context
favored this context = (told this context, shown this context)
  where
    told : (t c : TieBreaker) → BreakTieInFavorOfOperator t c ≡ true → Favored t c
    told OperatorWins c e = inl refl
    told ContextWins OperatorWins e = inr (inl refl)
    told ContextWins ContextWins e = cc
    told ContextWins (SameFamilyWins m) e = cc
    told (SameFamilyWins n) OperatorWins e = inr (inl refl)
    told (SameFamilyWins n) ContextWins e = cc
    told (SameFamilyWins n) (SameFamilyWins m) e = inr (inr (n, (refl, ap SameFamilyWins (eqb-true n m e))))

    by-context : (t : TieBreaker) → BreakTieInFavorOfOperator t OperatorWins ≡ true
    by-context OperatorWins = refl
    by-context ContextWins = refl
    by-context (SameFamilyWins n) = refl

    shown : (t c : TieBreaker) → Favored t c → BreakTieInFavorOfOperator t c ≡ true
    shown t c (inl e) = rw e
    shown t c (inr (inl e)) = rw e (by-context t)
    shown t c (inr (inr (n, (e, f)))) = rw (← f, e) (eq-eqb n n refl)

module _ (op context : BindingPower) where
  abbrev tie : Bool
  tie = BreakTieInFavorOfOperator op.tie_breaker context.tie_breaker

  -- where a tie is the operator's, it wins exactly where it pulls as strongly as the context on both sides
  pub wins-ties : tie ≡ true → (WinsOver op context ≡ true) ↔ ((context.left ≤ op.left) × (context.right ≤ op.right))
  unfolding WinsOver
  wins-ties e = rw e (λ w. let h = both_true _ _ w in (leb-true _ _ h.0, leb-true _ _ h.1), λ h. simp (le-leb _ _ h.0, le-leb _ _ h.1))

  -- and where it is not, more strongly
  pub wins-strictly : tie ≡ false → (WinsOver op context ≡ true) ↔ ((context.left < op.left) × (context.right < op.right))
  unfolding WinsOver
  wins-strictly e = rw e (λ w. let h = both_true _ _ w in (ltb-true _ _ h.0, ltb-true _ _ h.1), λ h. simp (lt-ltb _ _ h.0, lt-ltb _ _ h.1))

  -- an operand's context is its operator on the inner side, and on the outer side the operator's own context, or none inside brackets
  pub left-operand : SubexpressionPower op Left context ≡ power (pick (WinsOver op context) context.left 0) op.left op.tie_breaker
  unfolding SubexpressionPower
  left-operand = by-test (WinsOver op context)
    where
      by-test : (w : Bool) → side_power op Left (adjusted w context) ≡ power (pick w context.left 0) op.left op.tie_breaker
      by-test true = refl
      by-test false = refl

  pub right_operand : SubexpressionPower op Right context ≡ power op.right (pick (WinsOver op context) context.right 0) op.tie_breaker
  unfolding SubexpressionPower
  right_operand = by-test (WinsOver op context)
    where
      by-test : (w : Bool) → side_power op Right (adjusted w context) ≡ power op.right (pick w context.right 0) op.tie_breaker
      by-test true = refl
      by-test false = refl

-- what takes all that follows it leaves its last part alone, in any context
pub endless-alone : (context : BindingPower) → SubexpressionPower EndlessOperator Right context ≡ Init
endless-alone context = right_operand EndlessOperator context ∙ ap (λ (r : ℕ). power 0 r OperatorWins) (no-pull (WinsOver EndlessOperator context) refl)
  where
    no-pull : (w : Bool) → WinsOver EndlessOperator context ≡ w → pick w context.right 0 ≡ 0
    no-pull true e = let h = ((wins-ties EndlessOperator context refl).0 e).1 in omega arith
    no-pull false e = refl
