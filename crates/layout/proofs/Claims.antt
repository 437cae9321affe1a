-- What is proved of the definitions of prints. The prints themselves are Printer.dfy's and PrintUtil.dfy's methods, one definition each; that
-- the functions in src/ give what the definitions give is their contract. These claims are about the definitions, each by citation: strengths
-- against PrintUtil.dfy's own conditions, the indents of 64 bits against its naturals, and what the form of settings is to a print. Which operand
-- of which operator has brackets stands as a table in `BracketExamples`, and every form's print in the other closed examples.
use Rattle.std.specs.Prelude.{ℕ, ◌+◌, ◌≤◌, ◌<◌, ◌≡◌, ◌↔◌, true, false, List}
use Rattle.tree.specs.Ast.{Expr}
use Rattle.lexing.specs.Answer.{pick}
use Rattle.layout.specs.declared.power.TieBreaker.{TieBreaker}
use Rattle.layout.specs.declared.power.Side.TheVariants.{Left, Right}
use Rattle.layout.specs.declared.power.BindingPower.{BindingPower}
use Rattle.layout.specs.declared.format.ExprFormatOption.{ExprFormatOption}
use Rattle.layout.specs.PrintUtil.{More, start_indent, deeper_by, Deeper, BreakTieInFavorOfOperator, power, Init, EndlessOperator, WinsOver, SubexpressionPower}
use Rattle.layout.specs.declared.format.ExprFormatOption.TheVariants.{SingleLine}
use Rattle.layout.specs.declared.settings.Form.{Form}
use Rattle.layout.specs.Settings.{format_at}
use Rattle.layout.specs.Printer.{Expression}
use Rattle.layout.specs.Indents as indents
use Rattle.layout.specs.LineLaws as line
use Rattle.layout.proofs.StrengthLaws as strengths
use Rattle.layout.proofs.StrengthLaws.{Favored}

-- ---- strengths

-- A tie is broken in favor of the operator exactly where upstream's three conditions say so (`Favored`).
pub ties : (this context : TieBreaker) → (BreakTieInFavorOfOperator this context ≡ true) ↔ Favored this context
ties = strengths.favored

module _ (op context : BindingPower) where
  -- An operator wins over its context exactly where it pulls as strongly on both sides, or more strongly where ties aren't its own.
  pub wins-ties : BreakTieInFavorOfOperator op.tie_breaker context.tie_breaker ≡ true
      → (WinsOver op context ≡ true) ↔ ((context.left ≤ op.left) × (context.right ≤ op.right))
  wins-ties = strengths.wins-ties op context

  pub wins-strictly : BreakTieInFavorOfOperator op.tie_breaker context.tie_breaker ≡ false
      → (WinsOver op context ≡ true) ↔ ((context.left < op.left) × (context.right < op.right))
  wins-strictly = strengths.wins-strictly op context

  -- The context of an operand: the operator's own pull and tie breaker, and from outside the context's pull, or none inside brackets.
  pub left-operand : SubexpressionPower op Left context ≡ power (pick (WinsOver op context) context.left 0) op.left op.tie_breaker
  left-operand = strengths.left-operand op context

  pub right_operand : SubexpressionPower op Right context ≡ power op.right (pick (WinsOver op context) context.right 0) op.tie_breaker
  right_operand = strengths.right_operand op context

-- A conditional, a label, a `val` and a quantifier leave their last part alone, in any context.
pub endless-alone : (context : BindingPower) → SubexpressionPower EndlessOperator Right context ≡ Init
endless-alone = strengths.endless-alone

-- ---- indents

-- Where 64 bits hold it, an indent one step deeper is the sum, and the format one step deeper is upstream's `More`.
pub deeper-held : (step indent : ℕ) → indent + step ≤ 18446744073709551615 → deeper_by step indent ≡ indent + step
deeper-held = indents.held

pub format-held : (step : ℕ) (format : ExprFormatOption) → start_indent format + step ≤ 18446744073709551615 → Deeper step format ≡ More step format
format-held = indents.held-format

-- ---- forms

-- The format of a form starts from no greater indent than it is given.
pub format-start : (form : Form) (indent : ℕ) → start_indent (format_at form indent) ≤ indent
format-start = indents.format-start

-- On one line an expression's print depends on no step.
pub print-on-line : {N : Type 0} (name : N → List ℕ) (s t : ℕ) (e : Expr N) (context : BindingPower) (rest : List ℕ)
    → Expression name s e context SingleLine rest ≡ Expression name t e context SingleLine rest
print-on-line = line.print-on-line
