-- The branches of the byte rules that no operand begins: what they read is no operator tree, and they keep a token.
use Rattle.std.specs.Prelude.{ℕ, List, Bool}
use Rattle.tree.specs.Ast.{Span, Expr}
use Rattle.grammar.specs.Steps.{Reader}
use Rattle.grammar.specs.Rules as rules
use Rattle.grammar.proofs.Bridge.Relation.{Ends, refuses, reads, ends-after}
use Rattle.grammar.proofs.Bridge.Trees.{Bad, root}

module _ (text : List ℕ) where
  module _ (c : Reader (Expr Span)) where
    -- a conditional
    pub if-ends : (at : ℕ) → Ends (Bad text) (rules.after_if text c at)
    unfolding rules.after_if
    if-ends at =
        ends-after _ _ _ refuses
        (λ g at₁. ends-after _ _ _ refuses
        (λ t at₂. ends-after _ _ _ refuses (λ _ at₃. ends-after _ _ _ refuses (λ e at₄. reads (λ x. root x)))))

    -- a `val`
    pub val-ends : (at : ℕ) → Ends (Bad text) (rules.after_val text c at)
    unfolding rules.after_val
    val-ends at =
        ends-after _ _ _ refuses
        (λ n at₁. ends-after _ _ _ refuses
        (λ t at₂. ends-after _ _ _ refuses
        (λ _ at₃. ends-after _ _ _ refuses (λ r at₄. ends-after _ _ _ refuses (λ b at₅. reads (λ x. root x))))))

    -- a label
    pub colon-ends : (n : Span) (at : ℕ) → Ends (Bad text) (rules.after_colon c n at)
    unfolding rules.after_colon
    colon-ends n at = ends-after _ _ _ refuses (λ e at₁. reads (λ x. root x))

  -- a custom literal
  pub bar-ends : (at : ℕ) → Ends (Bad text) (rules.after_bar text at)
  unfolding rules.after_bar
  bar-ends at =
      ends-after _ _ _ refuses
      (λ s at₁. ends-after _ _ _ refuses
      (λ _ at₂. ends-after _ _ _ refuses (λ t at₃. ends-after _ _ _ refuses (λ _ at₄. reads (λ x. root x)))))

  module _ (m : ℕ) (c : Reader (Expr Span)) where
    -- a quantifier
    pub quantifier-ends : (universal : Bool) (at : ℕ) → Ends (Bad text) (rules.after_quantifier text m c universal at)
    unfolding rules.after_quantifier
    quantifier-ends universal at =
        ends-after _ _ _ refuses
        (λ bs at₁. ends-after _ _ _ refuses (λ ps at₂. ends-after _ _ _ refuses (λ b at₃. reads (λ x. root x))))

    -- a closure
    pub lift-ends : (at : ℕ) → Ends (Bad text) (rules.after_lift text m c at)
    unfolding rules.after_lift
    lift-ends at =
        ends-after _ _ _ refuses
        (λ bs at₁. ends-after _ _ _ refuses
        (λ _ at₂. ends-after _ _ _ refuses
        (λ n at₃. ends-after _ _ _ refuses
        (λ _ at₄. ends-after _ _ _ refuses
        (λ t at₅. ends-after _ _ _ refuses
        (λ _ at₆. ends-after _ _ _ refuses
        (λ _ at₇. ends-after _ _ _ refuses (λ ps at₈. reads (λ x. root x)))))))))
