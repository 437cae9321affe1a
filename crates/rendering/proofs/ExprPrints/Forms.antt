-- The alternatives of an operator by its operands, each in the order in which it is printed.
use Rattle.std.proofs.Common.{ℕ, ◌+◌, ◌≤◌, ◌<◌, ◌≡◌, refl, ◌∙◌, arith, Bool, true, false, List, ◌++◌, length, drop}
use borrow.Author.Tests.{ne_eqb}
use Rattle.lexing.specs.Answer.{pick}
use Rattle.lexing.specs.Bytes.{bytes}
use Rattle.tree.specs.Ast.{Operator, IfThenElse, Equiv, LogicalImp, LogicalAnd, LogicalOr, Eq, Neq, Less, AtMost, Plus, Minus, Times, Div, Mod, LogicalNot, UnaryMinus}
use Rattle.tree.specs.Words.{exprs_words}
use Rattle.tree.specs.Kind.{of_expr}
use Rattle.tree.specs.Trees.{names_in}
use Rattle.tree.specs.CountLaws.{noted-at}
use Rattle.tree.specs.Ast.{Expr, Exprs, no_exprs, ◌then◌, ArgumentCount}
use Rattle.tree.specs.Counted.{Noted, expr_count}
use Rattle.layout.specs.declared.power.BindingPower.{BindingPower}
use Rattle.layout.specs.declared.power.Side.TheVariants.{Left, Right}
use Rattle.layout.specs.declared.format.ExprFormatOption.{ExprFormatOption}
use Rattle.layout.specs.declared.format.ExprFormatOption.TheVariants.{SingleLine, MultipleLines}
use Rattle.layout.specs.Indents.{held-format}
use Rattle.layout.specs.PrintUtil.{Space, More, Deeper, start_indent, SubexpressionPower, ToString, BindingStrength}
use Rattle.layout.specs.Printer.{breaks_line, unary, binary, conditional, listed, operator_form, right_operand, operands}
use Rattle.rendering.specs.declared.printer.Source.{Source}
use Rattle.rendering.specs.declared.printer.Printer.{Printer}
use Rattle.rendering.specs.Parts.{N, named, Counts}
use Rattle.rendering.specs.ExprParts.{operand, Ready}

-- ---- formats

-- the format after an operator, one choice
abbrev pub right_format : Operator → ExprFormatOption → ExprFormatOption
right_format o format = pick (breaks_line o) format SingleLine

pub right-indent : (o : Operator) (format : ExprFormatOption) → start_indent (right_format o format) ≤ start_indent format
right-indent o format = by-test (breaks_line o)
  where
    by-test : (v : Bool) → start_indent (pick v format SingleLine) ≤ start_indent format
    by-test true = omega arith
    by-test false = omega arith

-- one step deeper is a step more at most
pub more-indent : (step : ℕ) (f : ExprFormatOption) → start_indent (More step f) ≤ start_indent f + step
more-indent step SingleLine = omega arith
more-indent step (MultipleLines i) = omega arith

pub more-least : (step : ℕ) (f : ExprFormatOption) → start_indent f ≤ start_indent (More step f)
more-least step SingleLine = omega arith
more-least step (MultipleLines i) = omega arith

-- where a word of the table stands, 64 bits hold the indent one step deeper
pub deeper-is : {S : Source} {at : ℕ} (f : ExprFormatOption) → Ready S at (start_indent f + S.step) → at < length S.words.now → Deeper S.step f ≡ More S.step f
deeper-is {S} f k h = held-format S.step f (let n = k.few in let s = k.short in let r = k.room in omega arith)

-- ---- prints

module _ (S : Source) (o : Operator) (context : BindingPower) (format : ExprFormatOption) where
  -- an operator between two operands
  pub binary-print : (a b : Expr (N S))
      → (λ r. (operand S a).print (SubexpressionPower (BindingStrength o) Left context) SingleLine
      (bytes " " ++ (bytes (ToString o) ++ (Space (right_format o format) ++ (operand S b).print (SubexpressionPower (BindingStrength o) Right context) (right_format o format) r))))
      ≡ binary o (operand S a) (operand S b) context format
  binary-print a b = by-test (breaks_line o)
    where
      by-test : (v : Bool)
          → ◌≡◌ {A = List ℕ → List ℕ}
          (λ r. (operand S a).print (SubexpressionPower (BindingStrength o) Left context) SingleLine
          (bytes " " ++ (bytes (ToString o) ++ (Space (pick v format SingleLine) ++ (operand S b).print (SubexpressionPower (BindingStrength o) Right context) (pick v format SingleLine) r))))
          (λ r. (operand S a).print (SubexpressionPower (BindingStrength o) Left context) SingleLine
          (bytes " " ++ (bytes (ToString o) ++ right_operand v (operand S b) (SubexpressionPower (BindingStrength o) Right context) format r)))
      by-test true = refl
      by-test false = refl

  -- as many operands as the operator takes
  pub unary-form : (a : Expr (N S)) → ArgumentCount o ≡ 1
      → unary o (operand S a) context SingleLine ≡ operator_form S.step o (operands (named S) S.step (◌then◌ a no_exprs)) context format
  unfolding operands
  unary-form a e = rw e

  pub binary-form : (a b : Expr (N S)) → ArgumentCount o ≡ 2
      → binary o (operand S a) (operand S b) context format
      ≡ operator_form S.step o (operands (named S) S.step (◌then◌ a (◌then◌ b no_exprs))) context format
  unfolding operands
  binary-form a b e = rw e

  pub conditional-form : (a b c : Expr (N S)) → ArgumentCount o ≡ 3
      → conditional S.step o (operand S a) (operand S b) (operand S c) context format
      ≡ operator_form S.step o (operands (named S) S.step (◌then◌ a (◌then◌ b (◌then◌ c no_exprs)))) context format
  unfolding operands
  conditional-form a b c e = rw e

  -- another number of operands
  pub listed-form : (es : Exprs (N S)) → (expr_count es ≡ ArgumentCount o → ⊥)
      → listed o (operands (named S) S.step es) context format ≡ operator_form S.step o (operands (named S) S.step es) context format
  unfolding operands
  listed-form no_exprs h = refl
  listed-form (◌then◌ a no_exprs) h = rw (ne_eqb (ArgumentCount o) 1 (λ e. h (rw e)))
  listed-form (◌then◌ a (◌then◌ b no_exprs)) h = rw (ne_eqb (ArgumentCount o) 2 (λ e. h (rw e)))
  listed-form (◌then◌ a (◌then◌ b (◌then◌ c no_exprs))) h = rw (ne_eqb (ArgumentCount o) 3 (λ e. h (rw e)))
  listed-form (◌then◌ a (◌then◌ b (◌then◌ c (◌then◌ d es)))) h = refl

-- ---- how many operands there are

-- the number that is noted where they begin
pub noted-operands : {s : Printer} {n : ℕ} → Counts s n → (es : Exprs (N s.source)) (rest : List ℕ) → drop s.at s.source.words.now ≡ exprs_words (λ m. m.span) es rest
    → Noted {N = N s.source} (λ m. m.span) s.source.counts.now (length s.source.words.now) (exprs_words (λ m. m.span) es rest) (expr_count es) → n ≡ expr_count es
noted-operands {s} k es rest d h = k.noted ∙ noted-at (names_in (length s.source.text.now)) s.source.counts.now s.source.words.now s.at of_expr es rest d h

-- an operator takes one, two or three
pub takes-three : (o : Operator) → (ArgumentCount o ≡ 1 → ⊥) → (ArgumentCount o ≡ 2 → ⊥) → ArgumentCount o ≡ 3
takes-three IfThenElse h k = refl
takes-three Equiv h k = absurd (k refl)
takes-three LogicalImp h k = absurd (k refl)
takes-three LogicalAnd h k = absurd (k refl)
takes-three LogicalOr h k = absurd (k refl)
takes-three Eq h k = absurd (k refl)
takes-three Neq h k = absurd (k refl)
takes-three Less h k = absurd (k refl)
takes-three AtMost h k = absurd (k refl)
takes-three Plus h k = absurd (k refl)
takes-three Minus h k = absurd (k refl)
takes-three Times h k = absurd (k refl)
takes-three Div h k = absurd (k refl)
takes-three Mod h k = absurd (k refl)
takes-three LogicalNot h k = absurd (h refl)
takes-three UnaryMinus h k = absurd (h refl)
