-- Each operator's spelling, by computation.
use Rattle.rendering.proofs.operator.spelling.Goals as goal

pub returns-in-IfThenElse : goal.returns-in-IfThenElse
returns-in-IfThenElse c = rw c.in-IfThenElse.is

pub returns-in-Equiv : goal.returns-in-Equiv
returns-in-Equiv c = rw c.in-Equiv.is

pub returns-in-LogicalImp : goal.returns-in-LogicalImp
returns-in-LogicalImp c = rw c.in-LogicalImp.is

pub returns-in-LogicalAnd : goal.returns-in-LogicalAnd
returns-in-LogicalAnd c = rw c.in-LogicalAnd.is

pub returns-in-LogicalOr : goal.returns-in-LogicalOr
returns-in-LogicalOr c = rw c.in-LogicalOr.is

pub returns-in-Eq : goal.returns-in-Eq
returns-in-Eq c = rw c.in-Eq.is

pub returns-in-Neq : goal.returns-in-Neq
returns-in-Neq c = rw c.in-Neq.is

pub returns-in-Less : goal.returns-in-Less
returns-in-Less c = rw c.in-Less.is

pub returns-in-AtMost : goal.returns-in-AtMost
returns-in-AtMost c = rw c.in-AtMost.is

pub returns-in-Plus : goal.returns-in-Plus
returns-in-Plus c = rw c.in-Plus.is

pub returns-in-Minus : goal.returns-in-Minus
returns-in-Minus c = rw c.in-Minus.is

pub returns-in-Times : goal.returns-in-Times
returns-in-Times c = rw c.in-Times.is

pub returns-in-Div : goal.returns-in-Div
returns-in-Div c = rw c.in-Div.is

pub returns-in-Mod : goal.returns-in-Mod
returns-in-Mod c = rw c.in-Mod.is

pub returns-in-LogicalNot : goal.returns-in-LogicalNot
returns-in-LogicalNot c = rw c.in-LogicalNot.is

pub returns-in-UnaryMinus : goal.returns-in-UnaryMinus
returns-in-UnaryMinus c = rw c.in-UnaryMinus.is
