-- Its word by the word after the name, the name, and the three optional parts.
use Rattle.std.proofs.Common.{arith, rules, ℕ, ◌≡◌, ◌++◌, Bool, true, false, eqb}
use borrow.Author.Tests.{ne_eqb}
use Rattle.lexing.specs.Answer.{pick}
use Rattle.lexing.specs.Bytes.{bytes}
use Rattle.tree.specs.Words.{bool_word}
use Rattle.layout.specs.Statements.{mutability}
use Rattle.rendering.specs.Wrote.{Puts}
use Rattle.rendering.specs.Parts.{named, a_name}
use Rattle.rendering.specs.Sequences.{one}
use Rattle.rendering.specs.StmtParts.{a_named, a_line}
use Rattle.rendering.proofs.Walk.{prints, ready, begin, word, text, these, part, done, third, seen}
use Rattle.rendering.proofs.Sequences.{by-one-call, plainly, option-counted, printed-option}
use Rattle.rendering.proofs.StmtPrints.Pieces.{declared}
use Rattle.rendering.proofs.printer.Printer.variable.Goals.{then-ahead-eq-FALSE, else-ahead-eq-FALSE}
use Rattle.rendering.proofs.printer.Printer.variable.Goals as goal

shown : (w : ℕ) (b : Bool) → w ≡ bool_word b → pick (eqb w 0) (bytes "val ") (bytes "var ") ≡ bytes (mutability b)
shown w true e = rw e
shown w false e = rw e

kind : (c : goal.After-put-2) → Puts (λ rest. pick (eqb c.ahead.result 0) (bytes "val ") (bytes "var ") ++ rest) c.args.self.now c.if-ahead-eq-FALSE.self
kind c =
    elim c.if-ahead-eq-FALSE.branch [
      | then-ahead-eq-FALSE w ↦ rw (w.self-is, w.if-ahead-eq-FALSE.true) w.put.ensures
      | else-ahead-eq-FALSE w ↦ rw (w.self-is, ne_eqb c.ahead.result 0 w.if-ahead-eq-FALSE.false) w.put-else-ahead-eq-FALSE.ensures
    ]

pub returns : goal.returns
returns c =
    let p = kind c in
    let a-type = printed-option a_named (λ s s' r. plainly a_named (by-one-call a_name r (search rules))) c.optional.ensures in
    let an-invariant = printed-option a_line (λ s s' r. by-one-call (one a_line) r (search rules)) c.optional-2.ensures in
    let a-value = printed-option a_line (λ s s' r. by-one-call (one a_line) r (search rules)) c.optional-3.ensures in
    prints (cc) (cc) (let e = a-type.forward in let f = an-invariant.forward in let h = a-value.forward in omega arith)
    (λ a rest g d.
    let start = text (begin d) (these (shown _ a.0.is_mutable (third (begin d) c.ahead.ensures)) p) in
    let name = word (part c.name.ensures a.0.name tt start) c.word.ensures in
    let typ = seen (declared (named c.args.self.now.source) (bytes (mutability a.0.is_mutable)) a.0.name a.0.optional_type)
    (part a-type a.0.optional_type (ready g.0 (omega arith) (omega arith), option-counted a.0.optional_type _) name) in
    let f = a-type.forward in
    let invariant = part an-invariant a.0.optional_auto_inv (ready g.0 (omega arith) (omega arith), g.1.0) typ in
    let h = an-invariant.forward in
    let value = part a-value a.1 (ready g.0 (omega arith) (omega arith), g.1.1) invariant in
    done (text value c.put-2.ensures))
