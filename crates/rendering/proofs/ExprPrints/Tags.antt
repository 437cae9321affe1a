-- An expression by its first word.
use Rattle.std.proofs.Common.{ℕ, ◌+◌, ◌-◌, ◌<◌, ◌≡◌, refl, sym, ap, ◌∙◌, arith, length, get_or, Option, Some, None}
use Rattle.tree.specs.Ast as ast
use Rattle.tree.specs.Ast.{Expr, BLiteral, ILiteral, CustomLiteral, IdExpr, OperatorExpr, FunctionCallExpr, LabeledExpr, LetExpr, QuantifierExpr, ClosureExpr}
use Rattle.tree.specs.Words.{operator_word}
use Rattle.tree.specs.Codes.{Decodes, expr_code, operator_code, as_operator}
use Rattle.tree.specs.declared.word.ExprTag.{ExprTag}
use Rattle.tree.specs.declared.word.ExprTag.TheVariants as tag
use Rattle.tree.specs.declared.word.Operator.{Operator}
use Rattle.tree.specs.declared.word.Operator.TheVariants as op
use Rattle.tree.specs.Kind.{expr}
use Rattle.tree.specs.Trees.{names_in}
use Rattle.tree.specs.Walk.{tree-at-word}
use Rattle.layout.specs.declared.power.BindingPower.{BindingPower}
use Rattle.layout.specs.declared.format.ExprFormatOption.{ExprFormatOption}
use Rattle.layout.specs.Printer.{Expression}
use Rattle.rendering.specs.declared.printer.Printer.{Printer}
use Rattle.rendering.specs.Parts.{Told, Prints, Reads, a_bool, a_natural, custom_literal, identifier}
use Rattle.rendering.specs.ExprParts.{Ready, an_expr, an_operator_expr, a_call, a_label, a_let, a_quantifier, a_closure}
use Rattle.rendering.proofs.Walk.{begin, reads}
use Rattle.rendering.proofs.Words.{found, passed, by-word}

-- after an expression's first word less is left
pub tagged : {s s₁ : Printer} {w : ℕ} {q : Option ExprTag} {e : ExprTag} → Reads s w s₁ → Decodes expr_code w q → q ≡ Some e
    → length s₁.source.words.now - s₁.at < length s.source.words.now - s.at
tagged {e = e} r f h = let k = found f h in let l = positive e in passed r (omega arith)
  where
    positive : (e : ExprTag) → 0 < expr_code e
    positive tag.BLiteral = omega arith
    positive tag.ILiteral = omega arith
    positive tag.CustomLiteral = omega arith
    positive tag.IdExpr = omega arith
    positive tag.OperatorExpr = omega arith
    positive tag.FunctionCallExpr = omega arith
    positive tag.LabeledExpr = omega arith
    positive tag.LetExpr = omega arith
    positive tag.QuantifierExpr = omega arith
    positive tag.ClosureExpr = omega arith

module _ {s s₁ : Printer} {w : ℕ} {q : Option ExprTag} (r : Reads s w s₁) (f : Decodes expr_code w q) (context : BindingPower) (format : ExprFormatOption) where
  -- the word of a tag
  is : (e : ExprTag) → q ≡ Some e → get_or s.source.words.now s.at 0 ≡ expr_code e
  is e h = sym r.word ∙ found f h

  -- an indent one step deeper fits after it
  deep : {i : ℕ} {C : Type 0} → s₁.at ≡ s.at + 1 → Ready s.source s.at i × C → Ready s.source s₁.at (i + s.source.step) × C
  deep h g = let k = g.0.room in let l = g.0.short in (record { few = g.0.few; short = g.0.short; room = omega arith }, g.1)

  flat : {i : ℕ} {C : Type 0} → s₁.at ≡ s.at + 1 → Ready s.source s.at i × C → Ready s.source s₁.at (0 + s.source.step) × C
  flat h g = let k = g.0.room in let l = g.0.short in (record { few = g.0.few; short = g.0.short; room = omega arith }, g.1)

  -- a word that has a tag is found
  no : (e : ExprTag) → q ≡ None → w ≡ expr_code e → ⊥
  no e h k = let z : None ≡ Some e = sym h ∙ (f e).1 (sym k) in cc

  pub is-bool : {s₂ : Printer} {e : ExprTag} → q ≡ Some e → e ≡ tag.BLiteral → Prints a_bool s₁ s₂ → Told (an_expr context format) s s₂
  unfolding Expression
  is-bool h k x =
      by-word r (an_expr context format) a_bool 1 (λ b. BLiteral b) (λ t rest d. let o = tree-at-word (names_in (length s.source.text.now)) s.source.words.now s.at expr t rest 1 d (is tag.BLiteral (h ∙ ap Some k)) in (o.0.0, o.1))
      (λ a rest n k. tt) (λ a rest. refl) (λ a. refl) x

  pub is-natural : {s₂ : Printer} {e : ExprTag} → q ≡ Some e → e ≡ tag.ILiteral → Prints a_natural s₁ s₂ → Told (an_expr context format) s s₂
  unfolding Expression
  is-natural h k x =
      by-word r (an_expr context format) a_natural 2 (λ n. ILiteral n) (λ t rest d. let o = tree-at-word (names_in (length s.source.text.now)) s.source.words.now s.at expr t rest 2 d (is tag.ILiteral (h ∙ ap Some k)) in (o.0.0, o.1))
      (λ a rest n k. tt) (λ a rest. refl) (λ a. refl) x

  pub is-custom : {s₂ : Printer} {e : ExprTag} → q ≡ Some e → e ≡ tag.CustomLiteral → Prints custom_literal s₁ s₂ → Told (an_expr context format) s s₂
  unfolding Expression
  is-custom h k x =
      by-word r (an_expr context format) custom_literal 3 (λ a. CustomLiteral a.0 a.1) (λ t rest d. let o = tree-at-word (names_in (length s.source.text.now)) s.source.words.now s.at expr t rest 3 d (is tag.CustomLiteral (h ∙ ap Some k)) in ((o.0.0, o.0.1.0), o.1))
      (λ a rest n k. tt) (λ a rest. refl) (λ a. refl) x

  pub is-identifier : {s₂ : Printer} {e : ExprTag} → q ≡ Some e → e ≡ tag.IdExpr → Prints identifier s₁ s₂ → Told (an_expr context format) s s₂
  unfolding Expression
  is-identifier h k x =
      by-word r (an_expr context format) identifier 4 (λ a. IdExpr a.0 a.1) (λ t rest d. let o = tree-at-word (names_in (length s.source.text.now)) s.source.words.now s.at expr t rest 4 d (is tag.IdExpr (h ∙ ap Some k)) in ((o.0.0, o.0.1.0), o.1))
      (λ a rest n k. tt) (λ a rest. refl) (λ a. refl) x

  pub is-operator : {s₂ : Printer} {e : ExprTag} → q ≡ Some e → e ≡ tag.OperatorExpr → Prints (an_operator_expr context format) s₁ s₂ → Told (an_expr context format) s s₂
  unfolding Expression
  is-operator h k x =
      by-word r (an_expr context format) (an_operator_expr context format) 5 (λ a. OperatorExpr a.0 a.1) (λ t rest d. let o = tree-at-word (names_in (length s.source.text.now)) s.source.words.now s.at expr t rest 5 d (is tag.OperatorExpr (h ∙ ap Some k)) in ((o.0.0, o.0.1.0), o.1))
      (λ a rest. deep) (λ a rest. refl) (λ a. refl) x

  pub is-call : {s₂ : Printer} {e : ExprTag} → q ≡ Some e → e ≡ tag.FunctionCallExpr → Prints a_call s₁ s₂ → Told (an_expr context format) s s₂
  unfolding Expression
  is-call h k x =
      by-word r (an_expr context format) a_call 6 (λ a. FunctionCallExpr a.0 a.1) (λ t rest d. let o = tree-at-word (names_in (length s.source.text.now)) s.source.words.now s.at expr t rest 6 d (is tag.FunctionCallExpr (h ∙ ap Some k)) in ((o.0.0, o.0.1.0), o.1))
      (λ a rest. flat) (λ a rest. refl) (λ a. refl) x

  pub is-label : {s₂ : Printer} {e : ExprTag} → q ≡ Some e → e ≡ tag.LabeledExpr → Prints (a_label context format) s₁ s₂ → Told (an_expr context format) s s₂
  unfolding Expression
  is-label h k x =
      by-word r (an_expr context format) (a_label context format) 7 (λ a. LabeledExpr a.0 a.1) (λ t rest d. let o = tree-at-word (names_in (length s.source.text.now)) s.source.words.now s.at expr t rest 7 d (is tag.LabeledExpr (h ∙ ap Some k)) in ((o.0.0, o.0.1.0), o.1))
      (λ a rest. deep) (λ a rest. refl) (λ a. refl) x

  pub is-let : {s₂ : Printer} {e : ExprTag} → q ≡ Some e → e ≡ tag.LetExpr → Prints (a_let context format) s₁ s₂ → Told (an_expr context format) s s₂
  unfolding Expression
  is-let h k x =
      by-word r (an_expr context format) (a_let context format) 8 (λ a. LetExpr a.0 a.1 a.2 a.3) (λ t rest d. let o = tree-at-word (names_in (length s.source.text.now)) s.source.words.now s.at expr t rest 8 d (is tag.LetExpr (h ∙ ap Some k)) in ((o.0.0, o.0.1.0, o.0.1.1.0, o.0.1.1.1.0), o.1))
      (λ a rest. deep) (λ a rest. refl) (λ a. refl) x

  pub is-quantifier : {s₂ : Printer} {e : ExprTag} → q ≡ Some e → e ≡ tag.QuantifierExpr → Prints (a_quantifier context format) s₁ s₂ → Told (an_expr context format) s s₂
  unfolding Expression
  is-quantifier h k x =
      by-word r (an_expr context format) (a_quantifier context format) 9 (λ a. QuantifierExpr a.0 a.1 a.2 a.3) (λ t rest d. let o = tree-at-word (names_in (length s.source.text.now)) s.source.words.now s.at expr t rest 9 d (is tag.QuantifierExpr (h ∙ ap Some k)) in ((o.0.0, o.0.1.0, o.0.1.1.0, o.0.1.1.1.0), o.1))
      (λ a rest. deep) (λ a rest. refl) (λ a. refl) x

  pub is-closure : {s₂ : Printer} {e : ExprTag} → q ≡ Some e → e ≡ tag.ClosureExpr → Prints a_closure s₁ s₂ → Told (an_expr context format) s s₂
  unfolding Expression
  is-closure h k x =
      by-word r (an_expr context format) a_closure 10 (λ a. ClosureExpr a.0 a.1 a.2 a.3) (λ t rest d. let o = tree-at-word (names_in (length s.source.text.now)) s.source.words.now s.at expr t rest 10 d (is tag.ClosureExpr (h ∙ ap Some k)) in ((o.0.0, o.0.1.0, o.0.1.1.0, o.0.1.1.1.0), o.1))
      (λ a rest. flat) (λ a rest. refl) (λ a. refl) x

  -- no expression has another word
  pub is-none : q ≡ None → Told (an_expr context format) s s₁
  is-none h (BLiteral b) rest g d = absurd (no tag.BLiteral h (reads (begin d) r))
  is-none h (ILiteral n) rest g d = absurd (no tag.ILiteral h (reads (begin d) r))
  is-none h (CustomLiteral n u) rest g d = absurd (no tag.CustomLiteral h (reads (begin d) r))
  is-none h (IdExpr n o) rest g d = absurd (no tag.IdExpr h (reads (begin d) r))
  is-none h (OperatorExpr o es) rest g d = absurd (no tag.OperatorExpr h (reads (begin d) r))
  is-none h (FunctionCallExpr n es) rest g d = absurd (no tag.FunctionCallExpr h (reads (begin d) r))
  is-none h (LabeledExpr n e) rest g d = absurd (no tag.LabeledExpr h (reads (begin d) r))
  is-none h (LetExpr n u v e) rest g d = absurd (no tag.LetExpr h (reads (begin d) r))
  is-none h (QuantifierExpr u bs ps e) rest g d = absurd (no tag.QuantifierExpr h (reads (begin d) r))
  is-none h (ClosureExpr bs n u ps) rest g d = absurd (no tag.ClosureExpr h (reads (begin d) r))

-- ---- an operator by its word

-- an operator's word is found
pub operator-is : {w : ℕ} {q : Option Operator} (o : ast.Operator) → Decodes operator_code w q → w ≡ operator_word o → (e : Operator) × (q ≡ Some e) × (as_operator e ≡ o)
operator-is o f h = let e = coded o in (e.0, (f e.0).1 (ap operator_word e.1 ∙ sym h), e.1)
  where
    coded : (o : ast.Operator) → (e : Operator) × (as_operator e ≡ o)
    coded ast.IfThenElse = (op.IfThenElse, refl)
    coded ast.Equiv = (op.Equiv, refl)
    coded ast.LogicalImp = (op.LogicalImp, refl)
    coded ast.LogicalAnd = (op.LogicalAnd, refl)
    coded ast.LogicalOr = (op.LogicalOr, refl)
    coded ast.Eq = (op.Eq, refl)
    coded ast.Neq = (op.Neq, refl)
    coded ast.Less = (op.Less, refl)
    coded ast.AtMost = (op.AtMost, refl)
    coded ast.Plus = (op.Plus, refl)
    coded ast.Minus = (op.Minus, refl)
    coded ast.Times = (op.Times, refl)
    coded ast.Div = (op.Div, refl)
    coded ast.Mod = (op.Mod, refl)
    coded ast.LogicalNot = (op.LogicalNot, refl)
    coded ast.UnaryMinus = (op.UnaryMinus, refl)

-- the operator that was found is the one that stands there
pub same-operator : {w : ℕ} {q : Option Operator} {e : Operator} (o : ast.Operator) → Decodes operator_code w q → q ≡ Some e → w ≡ operator_word o → as_operator e ≡ o
same-operator {e = e} o f k h = let p = operator-is o f h in let i : e ≡ p.0 = (let z : Some e ≡ Some p.0 = sym k ∙ p.1 in cc) in ap as_operator i ∙ p.2
