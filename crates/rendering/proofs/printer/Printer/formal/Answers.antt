-- `injective ` by the word after the name, then the name and its type.
use Rattle.std.proofs.Common.{arith, ℕ, ◌≡◌, ◌++◌, [], Bool, true, false, eqb}
use borrow.Author.Tests.{ne_eqb}
use Rattle.lexing.specs.Answer.{pick}
use Rattle.lexing.specs.Bytes.{bytes}
use Rattle.tree.specs.Words.{bool_word}
use Rattle.layout.specs.Program.{injective_text}
use Rattle.rendering.specs.Wrote.{Puts}
use Rattle.rendering.proofs.Walk.{unwritten, prints, begin, text, these, part, done, third}
use Rattle.rendering.proofs.printer.Printer.formal.Goals.{then-ahead-ne-FALSE, else-ahead-ne-FALSE}
use Rattle.rendering.proofs.printer.Printer.formal.Goals as goal

shown : (w : ℕ) (b : Bool) → w ≡ bool_word b → pick (eqb w 0) [] (bytes "injective ") ≡ bytes (injective_text b)
shown w true e = rw e
shown w false e = rw e

injective : (c : goal.After-typed_apart) → Puts (λ rest. pick (eqb c.ahead.result 0) [] (bytes "injective ") ++ rest) c.args.self.now c.if-ahead-ne-FALSE.self
injective c =
    elim c.if-ahead-ne-FALSE.branch [
      | then-ahead-ne-FALSE w ↦ rw (w.self-is, ne_eqb c.ahead.result 0 w.if-ahead-ne-FALSE.true) w.put.ensures
      | else-ahead-ne-FALSE w ↦ rw (w.self-is, w.if-ahead-ne-FALSE.false) unwritten
    ]

pub returns : goal.returns
returns c =
    let p = injective c in
    prints (cc) (cc) (omega arith)
    (λ a rest g d.
    let start = text (begin d) (these (shown _ a.injective (third (begin d) c.ahead.ensures)) p) in
    done (part c.typed_apart.ensures (a.name, bool_word a.injective, a.typ) tt start))
