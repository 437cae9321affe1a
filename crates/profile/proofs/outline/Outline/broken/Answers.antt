-- `Outline::broken` meets its contract: the first of the four rules that is broken.
use Rattle.std.proofs.Common.{ℕ, ◌≡◌, refl, sym, ◌∙◌, Bool, cond, List, Some, None}
use Rattle.profile.specs.Profile.{Places, statements_rule, bodies_rule, invariants_rule, labels_rule, unsuited, lacks_body, lacks_invariant, lacks_label, broken}
use Rattle.profile.proofs.outline.Outline.broken.Goals as goal

-- by what is found of each of them
rules : (t : Places) (text : List ℕ) (at : ℕ) {u b g l : Bool} → unsuited t at ≡ u → lacks_body t at ≡ b → lacks_invariant t at ≡ g → lacks_label t text at ≡ l
    → cond u (Some statements_rule) (cond b (Some bodies_rule) (cond g (Some invariants_rule) (cond l (Some labels_rule) None))) ≡ broken t text at
unfolding broken
rules t text at d e f g i =
    cond (sym d i) (Some statements_rule) (cond (sym e i) (Some bodies_rule) (cond (sym f i) (Some invariants_rule) (cond (sym g i) (Some labels_rule) None)))

pub returns-then-is_unsuited : goal.returns-then-is_unsuited
returns-then-is_unsuited c = rules _ _ _ (sym c.is_unsuited.ensures ∙ c.if-is_unsuited.true) refl refl refl

pub returns-then-lacks_body : goal.returns-then-lacks_body
returns-then-lacks_body c =
    rules _ _ _ (sym c.is_unsuited.ensures ∙ c.if-is_unsuited.false) (sym c.lacks_body.ensures ∙ c.if-lacks_body.true) refl refl

pub returns-then-lacks_invariant : goal.returns-then-lacks_invariant
returns-then-lacks_invariant c =
    rules _ _ _ (sym c.is_unsuited.ensures ∙ c.if-is_unsuited.false) (sym c.lacks_body.ensures ∙ c.if-lacks_body.false)
    (sym c.lacks_invariant.ensures ∙ c.if-lacks_invariant.true) refl

pub returns-then-lacks_label : goal.returns-then-lacks_label
returns-then-lacks_label c =
    rules _ _ _ (sym c.is_unsuited.ensures ∙ c.if-is_unsuited.false) (sym c.lacks_body.ensures ∙ c.if-lacks_body.false)
    (sym c.lacks_invariant.ensures ∙ c.if-lacks_invariant.false) (sym c.lacks_label.ensures ∙ c.if-lacks_label.true)

pub returns : goal.returns
returns c =
    rules _ _ _ (sym c.is_unsuited.ensures ∙ c.if-is_unsuited.false) (sym c.lacks_body.ensures ∙ c.if-lacks_body.false)
    (sym c.lacks_invariant.ensures ∙ c.if-lacks_invariant.false) (sym c.lacks_label.ensures ∙ c.if-lacks_label.false)
