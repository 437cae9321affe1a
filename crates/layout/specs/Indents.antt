-- Indents: where 64 bits hold one a step deeper, `Deeper` is upstream's `More`; and that of a form's format.
use Rattle.std.specs.Prelude.{ℕ, ◌+◌, ◌≤◌, ◌≡◌, refl}
use Rattle.std.proofs.Common.{arith, ap}
use Rattle.layout.specs.declared.format.ExprFormatOption.{ExprFormatOption}
use Rattle.layout.specs.declared.format.ExprFormatOption.TheVariants.{SingleLine, MultipleLines}
use Rattle.layout.specs.PrintUtil.{More, start_indent, deeper_by, Deeper}
use Rattle.layout.specs.declared.settings.Form.{Form}
use Rattle.layout.specs.declared.settings.Form.TheVariants.{OneLine, Broken}
use Rattle.layout.specs.Settings.{format_at}

-- of an indent
pub held : (step indent : ℕ) → indent + step ≤ 18446744073709551615 → deeper_by step indent ≡ indent + step
held step indent h = omega arith

-- of a format
pub held-format : (step : ℕ) (format : ExprFormatOption) → start_indent format + step ≤ 18446744073709551615 → Deeper step format ≡ More step format
held-format step SingleLine h = refl
held-format step (MultipleLines indent) h = ap MultipleLines (held step indent h)

-- a format starts from no greater indent than it is given
pub format-start : (form : Form) (indent : ℕ) → start_indent (format_at form indent) ≤ indent
format-start OneLine indent = omega arith
format-start Broken indent = omega arith
