-- `token::lexeme` meets its contract, by that of `blanks` on the rest of the text (Returns: `lexeme-past`, `lexeme-is`).
use native.Mathlib.Omega.{arith}
use borrow.Author.Rules.{rules}
use Rattle.lexing.proofs.Returns.{lexeme-past, lexeme-inside, lexeme-is}
use Rattle.lexing.proofs.token.lexeme.Goals as goal

pub returns-then-text-n : goal.returns-then-text-n
returns-then-text-n c = lexeme-past _ _ _ c.if-text-n.true

pub overflow_add-result : goal.overflow_add-result
overflow_add-result c = omega (arith, lexeme-inside c.args.text.now c.args.n c.in-Ok.ensures (search rules))

pub moved-requires : goal.moved-requires
moved-requires c = omega (arith, lexeme-inside c.args.text.now c.args.n c.in-Err.ensures (search rules))

pub returns-in-Ok : goal.returns-in-Ok
returns-in-Ok c = lexeme-is c.args.text.now c.args.n c.in-Ok.ensures c.args.value

pub returns-in-Err : goal.returns-in-Err
returns-in-Err c = rw (c.from.ensures, c.moved.ensures) (lexeme-is c.args.text.now c.args.n c.in-Err.ensures c.args.value)
