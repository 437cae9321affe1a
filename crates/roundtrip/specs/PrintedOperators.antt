-- The print of an operator's expression, from its operands' prints.
use Rattle.std.specs.Prelude.{ℕ, max, ◌≡◌, refl, Bool, true, false, List, ◌∷◌, ◌++◌}
use Rattle.std.proofs.Common.{sym, ap, ◌∙◌, append_assoc, arith}
use Rattle.lexing.specs.Bytes.{is_space, identifier_char}
use Rattle.tree.specs.Ast.{Operator, OperatorExpr, no_exprs, ◌then◌, ArgumentCount}
use Rattle.grammar.specs.Tokens.{Token, cut}
use Rattle.grammar.specs.Grammar.{Tree, single}
use Rattle.grammar.proofs.Laws.Cut.{cut-space}
use Rattle.grammar.proofs.Laws.Pieces.{Ends, lengthens}
use Rattle.layout.specs.declared.power.BindingPower.{BindingPower}
use Rattle.layout.specs.declared.power.Side.TheVariants.{Left, Right}
use Rattle.layout.specs.declared.format.ExprFormatOption.{ExprFormatOption}
use Rattle.layout.specs.declared.format.ExprFormatOption.TheVariants.{SingleLine}
use Rattle.layout.specs.Text.{◌▸◌}
use Rattle.layout.specs.PrintUtil.{SubexpressionPower, ToString, BindingStrength}
use Rattle.layout.specs.Printer.{Operand, unary, binary, breaks_line, right_operand}
use Rattle.roundtrip.specs.Levels.{Level, fits_in, fits_in_lem}
use Rattle.roundtrip.specs.Operators.{token_of, level_of, place, join, prefix, unary-operators}
use Rattle.roundtrip.specs.Cutting.{cut-blank, Follows, blank-follows, cut-operator}
use Rattle.roundtrip.specs.Printed.{Printed}

-- ---- an operator before its operand

sign-follows : (s : List ℕ) → Ends lengthens s → (op : Operator) → ArgumentCount op ≡ 1 → Follows (token_of op) s
sign-follows s h = unary-operators (λ op. Follows (token_of op) s) h h

sign-begins : (s : List ℕ) (op : Operator) → ArgumentCount op ≡ 1 → Ends lengthens (ToString op ▸ s)
unfolding lengthens
sign-begins s = unary-operators (λ op. Ends lengthens (ToString op ▸ s)) refl refl

-- an operator with its operand
pub unary-printed : (op : Operator) (a : Operand) (context : BindingPower) {n : ℕ} {l : Level} {t : Tree} → ArgumentCount op ≡ 1
    → Printed (a.print (SubexpressionPower (BindingStrength op) Right context)) n l t → fits_in l (place op Right) ≡ true
    → Printed (unary op a context) n (level_of op) (single op t)
unary-printed op a context c p fits =
    let power = SubexpressionPower (BindingStrength op) Right context in
    record {
      tokens = token_of op ∷ p.tokens;
      cuts = λ f r h.
          cut-operator op (a.print power SingleLine r) (λ e. omega arith) (sign-follows (a.print power SingleLine r) (p.begins SingleLine r) op c)
          ∙ ap (λ l. token_of op ∷ l) (p.cuts SingleLine r h);
      begins = λ f r. sign-begins (a.print power SingleLine r) op c;
      derives = λ d h. prefix op c (fits_in_lem fits (p.derives d h));
    }

-- ---- an operator between its operands

module _ (b : Operand) (context : BindingPower) {n : ℕ} {l : Level} {t : Tree} (p : Printed (b.print context) n l t) where
  right-cut : (breaks : Bool) (f : ExprFormatOption) (r : List ℕ) → Ends identifier_char r
      → cut (right_operand breaks b context f r) ≡ p.tokens ++ cut r
  right-cut true f r h = cut-blank f (b.print context f r) ∙ p.cuts f r h
  right-cut false f r h = cut-blank SingleLine (b.print context SingleLine r) ∙ p.cuts SingleLine r h

right-follows : (o : Token) (breaks : Bool) (b : Operand) (context : BindingPower) (f : ExprFormatOption) (r : List ℕ)
    → Follows o (right_operand breaks b context f r)
right-follows o true b context f r = blank-follows o f (b.print context f r)
right-follows o false b context f r = blank-follows o SingleLine (b.print context SingleLine r)

-- an operator with both operands
pub binary-printed : (op : Operator) (a b : Operand) (context : BindingPower) {n m : ℕ} {l k : Level} {t u : Tree} → ArgumentCount op ≡ 2
    → Printed (a.print (SubexpressionPower (BindingStrength op) Left context)) n l t → fits_in l (place op Left) ≡ true
    → Printed (b.print (SubexpressionPower (BindingStrength op) Right context)) m k u → fits_in k (place op Right) ≡ true
    → Printed (binary op a b context) (max n m) (level_of op) (OperatorExpr op (◌then◌ t (◌then◌ u no_exprs)))
unfolding is_space identifier_char
binary-printed op a b context c p fits q fits' =
    let power = SubexpressionPower (BindingStrength op) Right context in
    let right : ExprFormatOption → List ℕ → List ℕ = λ f r. right_operand (breaks_line op) b power f r in
    record {
      tokens = p.tokens ++ token_of op ∷ q.tokens;
      cuts = λ f r h.
          p.cuts SingleLine (" " ▸ ToString op ▸ right f r) refl
          ∙ ap (λ l. p.tokens ++ l)
          (cut-space 32 (ToString op ▸ right f r) refl
          ∙ cut-operator op (right f r) (λ e. omega arith) (right-follows (token_of op) (breaks_line op) b power f r)
          ∙ ap (λ l. token_of op ∷ l) (right-cut b power q (breaks_line op) f r h))
          ∙ sym (append_assoc p.tokens (token_of op ∷ q.tokens) (cut r));
      begins = λ f r. p.begins SingleLine (" " ▸ ToString op ▸ right f r);
      derives = λ d h. join op c (fits_in_lem fits (p.derives d (omega arith))) (fits_in_lem fits' (q.derives d (omega arith)));
    }
