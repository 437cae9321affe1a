-- A name alone, or with its type.
use Rattle.std.proofs.Common.{arith, rules}
use Rattle.std.proofs.Math.Option.{none, some}
use Rattle.rendering.specs.Parts.{Told, a_name, id_type}
use Rattle.rendering.specs.Sequences.{absent, present}
use Rattle.rendering.specs.StmtParts.{a_named}
use Rattle.rendering.proofs.Walk.{prints, begin, reads, word, text, part, done}
use Rattle.rendering.proofs.Sequences.{by-one-call, plainly, printed-option}
use Rattle.rendering.proofs.printer.Printer.id_type.Goals as goal

told : (c : goal.After-optional) → Told (id_type c.args.prefix.now) c.args.self.now c.optional.new.self
told c (n, none) rest g d =
    let name = part c.name.ensures n tt (text (begin d) c.put.ensures) in
    elim c.optional.ensures [
      | absent r ↦ done (word name r)
      | present w s₁ s₂ r k p x ↦ absurd (let z = reads name r in omega (arith, z, k))
    ]
told c (n, some t) rest g d =
    let name = part c.name.ensures n tt (text (begin d) c.put.ensures) in
    elim c.optional.ensures [
      | absent r ↦ absurd (let z = reads name r in omega (arith, z))
      | present w s₁ s₂ r k p x ↦ done (part (by-one-call a_name x (search rules)) t tt (text (word name r) p))
    ]

pub returns : goal.returns
returns c =
    let o = printed-option a_named (λ s s' r. plainly a_named (by-one-call a_name r (search rules))) c.optional.ensures in
    prints (cc) (cc) (let f = o.forward in omega arith) (told c)
