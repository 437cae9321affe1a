-- A text that is too long, and a start indent that is too large, are refused by 6; else the table is checked.
use Rattle.rendering.proofs.EntryAnswers.{over-text, over-indent}
use native.Mathlib.Omega.{arith}
use Rattle.rendering.proofs.entry.render.Goals as goal

pub returns-then-text-gt-MOST_TEXT : goal.returns-then-text-gt-MOST_TEXT
returns-then-text-gt-MOST_TEXT c =
    over-text c.args.settings c.args.root c.args.text.now c.args.words.now c.args.buffer.now c.args.buffer.now c.if-text-gt-MOST_TEXT.true

pub returns-then-start_indent-gt-MOST_INDENT : goal.returns-then-start_indent-gt-MOST_INDENT
returns-then-start_indent-gt-MOST_INDENT c =
    over-indent c.args.settings c.args.root c.args.text.now c.args.words.now c.args.buffer.now
    c.args.buffer.now (omega arith)
