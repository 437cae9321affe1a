-- What is printed by a closure that prints trees of a kind.
use Rattle.std.proofs.Common.{ℕ, ap, ◌∙◌, subst, arith, List, [], ◌∷◌}
use Rattle.std.proofs.Math.Option.{Option, none, some}
use denote.Ref.{MutBor}
use denote.Param.Members.{Once, Shared}
use Rattle.std.specs.Fn.{FnOnceReturnsAtMut}
use Rattle.tree.specs.Counted.{CountedOption}
use Rattle.layout.specs.Statements.{separated}
use Rattle.rendering.specs.declared.printer.Printer.{Printer}
use Rattle.rendering.specs.Parts.{Parts, Prints, Told, free}
use Rattle.rendering.specs.Sequences.{Step, Calls, Moves, Optionally, absent, present, Repeatedly, end, item, Kind, one, option_of, list_of}
use Rattle.rendering.proofs.Walk.{prints, ready, begin, reads, word, text, part, done}

-- a call by what the closure says of the printer that it is shown and leaves
pub by-call : (P : Parts) {F : Type 0} {g : Shared F (MutBor Printer × Unit {0}) (Unit {0} × (MutBor Printer × Unit {0}))} {f : F} {s s' : Printer}
    → (r : Calls g f s s') → Prints P r.shown.now r.left.now → Prints P s s'
by-call P r x = subst (Prints P _) r.leaves (subst (λ s. Prints P s r.left.now) r.shows x)

pub by-one-call : (P : Parts) {F : Type 0} {g : Once F (MutBor Printer × Unit {0}) (Unit {0} × (MutBor Printer × Unit {0}))} {f : F} {s s' : Printer}
    → (r : FnOnceReturnsAtMut g f s tt s') → Prints P r.shown.now r.left.now → Prints P s s'
by-one-call P r x = subst (Prints P _) r.leaves (subst (λ s. Prints P s r.left.now) r.shows x)

-- a part that needs nothing, as a tree of a kind
pub plainly : (K : Kind) {s s' : Printer} → Prints (free K.words K.print) s s' → Prints (one K) s s'
plainly K q = prints q.source q.output q.forward (λ t rest g d. q.prints t rest tt d)

-- options of trees that have no numbers
pub option-counted : {A : Type 0} (o : Option A) (rest : List ℕ) → CountedOption (λ (a : A) (r : List ℕ). Unit {0}) o rest
option-counted none rest = tt
option-counted (some a) rest = tt

module _ (K : Kind) {R : Step} (h : (s s' : Printer) → R s s' → Prints (one K) s s') where
  pub moves : Moves R
  moves s s' x = let q = h s s' x in record { source = q.source; output = q.output; forward = q.forward }

  -- what is optional
  pub printed-option : {prefix : List ℕ} {s s' : Printer} → Optionally R prefix s s' → Prints (option_of K prefix) s s'
  printed-option {prefix} {s} {s'} (absent r) =
      prints r.source (ap (λ o. o.ghost_name) r.output) r.forward told
    where
      told : Told (option_of K prefix) s s'
      told none rest g d = done (word (begin d) r)
      told (some a) rest g d = let z = reads (begin d) r in absurd (omega (arith, z))
  printed-option {prefix} {s} {s'} (present w s₁ s₂ r n p x) =
      let q = h s₂ s' x in
      prints (q.source ∙ p.source ∙ r.source) (q.output ∙ p.output ∙ ap (λ o. o.ghost_name) r.output) (omega (arith, r.forward, p.still, q.forward)) told
    where
      told : Told (option_of K prefix) s s'
      told none rest g d = let z = reads (begin d) r in absurd (omega (arith, z, n))
      told (some a) rest g d =
          done (part (h s₂ s' x) a (ready g.0 (omega (arith, r.forward, p.still)) (omega arith), g.1) (text (word (begin d) r) p))

  -- a list
  pub printed-list : {next first : List ℕ} {s s' : Printer} → Repeatedly R next first s s' → Prints (list_of K first next) s s'
  unfolding separated
  printed-list {next} {first} {s} {s'} (end r) = prints r.source (ap (λ o. o.ghost_name) r.output) r.forward told
    where
      told : Told (list_of K first next) s s'
      told [] rest g d = done (word (begin d) r)
      told (a ∷ l) rest g d = let z = reads (begin d) r in absurd (omega (arith, z))
  printed-list {next} {first} {s} {s'} (item w s₁ s₂ s₃ r n p x y) =
      let q = h s₂ s₃ x in
      let others = printed-list y in
      prints (others.source ∙ q.source ∙ p.source ∙ r.source) (others.output ∙ q.output ∙ p.output ∙ ap (λ o. o.ghost_name) r.output)
      (omega (arith, r.forward, p.still, q.forward, others.forward)) (told others)
    where
      told : Prints (list_of K next next) s₃ s' → Told (list_of K first next) s s'
      told others [] rest g d = let z = reads (begin d) r in absurd (omega (arith, z, n))
      told others (a ∷ l) rest g d =
          let q = h s₂ s₃ x in
          let one-item = part q a (ready g.0 (omega (arith, r.forward, p.still)) (omega arith), g.1.0) (text (word (begin d) r) p) in
          done (part others l (ready g.0 (omega (arith, r.forward, p.still, q.forward)) (omega arith), g.1.1) one-item)
