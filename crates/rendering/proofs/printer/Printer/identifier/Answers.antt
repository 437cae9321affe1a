-- `old ` by the word after the name, then the name.
use Rattle.std.proofs.Common.{arith, ℕ, ◌≡◌, ◌++◌, [], Bool, true, false, eqb}
use borrow.Author.Tests.{ne_eqb}
use Rattle.lexing.specs.Answer.{pick}
use Rattle.lexing.specs.Bytes.{bytes}
use Rattle.tree.specs.Words.{bool_word}
use Rattle.layout.specs.Printer.{old_text}
use Rattle.rendering.specs.Wrote.{Puts}
use Rattle.rendering.proofs.Walk.{unwritten, prints, begin, word, text, these, part, done, third}
use Rattle.rendering.proofs.printer.Printer.identifier.Goals.{then-ahead-ne-FALSE, else-ahead-ne-FALSE}
use Rattle.rendering.proofs.printer.Printer.identifier.Goals as goal

shown : (w : ℕ) (o : Bool) → w ≡ bool_word o → pick (eqb w 0) [] (bytes "old ") ≡ bytes (old_text o)
shown w true e = rw e
shown w false e = rw e

old : (c : goal.After-word) → Puts (λ rest. pick (eqb c.ahead.result 0) [] (bytes "old ") ++ rest) c.args.self.now c.if-ahead-ne-FALSE.self
old c =
    elim c.if-ahead-ne-FALSE.branch [
      | then-ahead-ne-FALSE w ↦ rw (w.self-is, ne_eqb c.ahead.result 0 w.if-ahead-ne-FALSE.true) w.put.ensures
      | else-ahead-ne-FALSE w ↦ rw (w.self-is, w.if-ahead-ne-FALSE.false) unwritten
    ]

pub returns : goal.returns
returns c =
    let p = old c in
    prints (cc) (cc) (omega arith)
    (λ a rest g d.
    let name = part c.name.ensures a.0 tt (text (begin d) (these (shown _ a.1 (third (begin d) c.ahead.ensures)) p)) in
    done (word name c.word.ensures))
