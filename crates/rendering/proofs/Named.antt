-- Lemmas that docs/PORT.md names: other bytes that are the same, and an expression on one line.
use Rattle.std.proofs.Common.{◌≡◌, List, ◌++◌, ℕ, subst}
use Rattle.layout.specs.declared.format.ExprFormatOption.TheVariants.{SingleLine}
use Rattle.layout.specs.PrintUtil.{Init}
use Rattle.rendering.specs.declared.printer.Printer.{Printer}
use Rattle.rendering.specs.Wrote.{Wrote}
use Rattle.rendering.specs.Parts.{Prints}
use Rattle.rendering.specs.ExprParts.{an_expr}
use Rattle.rendering.specs.StmtParts.{one_line}

-- other bytes that are the same
pub same_bytes_lem : {x y : List ℕ} {b : List ℕ} {p : ℕ} {b₁ : List ℕ} {p₁ : ℕ} → x ≡ y → Wrote (λ r. x ++ r) b p b₁ p₁ → Wrote (λ r. y ++ r) b p b₁ p₁
same_bytes_lem {b = b} {p = p} {b₁ = b₁} {p₁ = p₁} e w = subst (λ (l : List ℕ). Wrote (λ r. l ++ r) b p b₁ p₁) e w

-- an expression on one line, by the print of any expression
pub one_line_lem : {s s' : Printer} → Prints (an_expr Init SingleLine) s s' → Prints one_line s s'
one_line_lem x = x
