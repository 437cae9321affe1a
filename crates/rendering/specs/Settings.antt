-- What an expression stands in, and its operands.
use Rattle.layout.specs.declared.power.BindingPower.{BindingPower}
use Rattle.layout.specs.declared.power.Side.{Side}
use Rattle.layout.specs.declared.format.ExprFormatOption.{ExprFormatOption}
use Rattle.layout.specs.PrintUtil.{Init, SubexpressionPower}
use Rattle.rendering.specs.declared.setting.Setting.{Setting}

-- no operator around
abbrev pub outermost : ExprFormatOption → Setting
outermost format = record { context = Init; format = format }

-- the same in another format
abbrev pub in_format : ExprFormatOption → Setting → Setting
in_format format s = record { context = s.context; format = format }

-- that of the operand at a side of an operator of this strength
abbrev pub operand_setting : BindingPower → Side → Setting → Setting
operand_setting strength side s = record { context = SubexpressionPower strength side s.context; format = s.format }
