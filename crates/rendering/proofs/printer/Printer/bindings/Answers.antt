-- The bindings of a list: none, or text, a binding and the others.
use Rattle.std.proofs.Common.{arith, refl, rules, List, ℕ, [], ◌∷◌}
use Rattle.lexing.specs.Bytes.{bytes}
use Rattle.tree.specs.Ast.{binding}
use Rattle.layout.specs.Printer.{Bindings}
use Rattle.rendering.specs.declared.printer.Printer.{Printer}
use Rattle.rendering.specs.Parts.{Told, Prints, typed_name, bindings}
use Rattle.rendering.specs.Sequences.{Step, Kind, Repeatedly, end, item}
use Rattle.rendering.proofs.Walk.{prints, begin, reads, word, text, part, done}
use Rattle.rendering.proofs.Sequences.{by-call, plainly, moves, printed-list}
use Rattle.rendering.proofs.printer.Printer.bindings.Goals as goal

-- a name and its type, as a tree of a kind
abbrev a_typed : Kind
a_typed =
    record {
      Tree = λ S. (typed_name S 0).Tree;
      numbers = λ S a rest. Unit {0};
      words = λ S. (typed_name S 0).words;
      print = λ S. (typed_name S 0).print;
      indent = λ S. 0;
    }

module _ {R : Step} (h : (s s' : Printer) → R s s' → Prints typed_name s s') where
  told : {first : List ℕ} {s s' : Printer} → Repeatedly R (bytes ", ") first s s' → Told (bindings first) s s'
  unfolding Bindings
  told (end r) [] rest g d = done (word (begin d) r)
  told (end r) (binding n t ∷ bs) rest g d = absurd (let z = reads (begin d) r in omega (arith, z))
  told (item w s₁ s₂ s₃ r k p x y) [] rest g d = absurd (let z = reads (begin d) r in omega (arith, z, k))
  told (item w s₁ s₂ s₃ r k p x y) (binding n t ∷ bs) rest g d =
      let others = printed-list a_typed (λ s s' q. plainly a_typed (h s s' q)) y in
      let one-binding = part (h s₂ s₃ x) (n, t) tt (text (word (begin d) r) p) in
      done (part (prints {P = bindings (bytes ", ")} others.source others.output others.forward (told y)) bs tt one-binding)

pub separated-requires : goal.separated-requires
separated-requires c k = ((refl, tt), (search rules, moves a_typed (λ s s' r. plainly a_typed (by-call typed_name r (search rules)))))

pub returns : goal.returns
returns c =
    let list = printed-list a_typed (λ s s' r. plainly a_typed (by-call typed_name r (search rules))) c.separated.ensures in
    prints (cc) (cc) (let f = list.forward in omega arith) (told (λ s s' r. by-call typed_name r (search rules)) c.separated.ensures)
