-- Options and sequences of a table, by what is done for each item: what the methods of src/items.rt that take a closure do.
use Rattle.std.specs.Prelude.{ℕ, ◌≤◌, ◌<◌, ◌≡◌, List, ◌++◌}
use denote.Ref.{MutBor}
use denote.Param.Members.{Shared}
use Rattle.tree.specs.Words.{option_words, seq_words}
use Rattle.tree.specs.Counted.{CountedOption, CountedItems}
use Rattle.layout.specs.Statements.{separated, optional}
use Rattle.rendering.specs.declared.printer.Printer.{Printer}
use Rattle.rendering.specs.declared.printer.Source.{Source}
use Rattle.rendering.specs.Wrote.{Puts}
use Rattle.rendering.specs.Parts.{Parts, Reads}
use Rattle.rendering.specs.ExprParts.{counted}

-- ---- what calls do

-- what a step may make of a printer
abbrev pub Step : Type 1
Step = Printer → Printer → Type 0

-- a call of the closure f at the printer s may leave s' there
pub record Calls {F : Type 0} (g : Shared F (MutBor Printer × Unit {0}) (Unit {0} × (MutBor Printer × Unit {0}))) (f : F) (s s' : Printer) : Type 0 where
  pub shown : MutBor Printer
  pub shows : shown.now ≡ s
  pub left : MutBor Printer
  pub met : g.post f (shown, tt) (tt, (left, tt))
  pub leaves : left.now ≡ s'

-- a step goes back nowhere, and leaves the table and the buffer's place
pub record Moved (s s' : Printer) : Type 0 where
  pub source : s'.source ≡ s.source
  pub output : s'.out.ghost_name ≡ s.out.ghost_name
  pub forward : s.at ≤ s'.at

abbrev pub Moves : Step → Type 0
Moves R = (s s' : Printer) → R s s' → Moved s s'

-- an option was read: without content, or its prefix was written and the step made
pub data Optionally (R : Step) (prefix : List ℕ) (s s' : Printer) : Type 0 where
  absent : Reads s 0 s' → Optionally R prefix s s'
  present : (w : ℕ) (s₁ s₂ : Printer) → Reads s w s₁ → 0 < w → Puts (λ rest. prefix ++ rest) s₁ s₂ → R s₂ s' → Optionally R prefix s s'

-- a sequence was read, and for each item a separator was written and the step made, `first` before the first item and `next` before each other
pub data Repeatedly (R : Step) (next : List ℕ) : (first : List ℕ) → Printer → Printer → Type 0 where
  end : {first : List ℕ} {s s' : Printer} → Reads s 0 s' → Repeatedly R next first s s'
  item : {first : List ℕ} {s s' : Printer} (w : ℕ) (s₁ s₂ s₃ : Printer) → Reads s w s₁ → 0 < w → Puts (λ rest. first ++ rest) s₁ s₂ → R s₂ s₃
      → Repeatedly R next next s₃ s' → Repeatedly R next first s s'

-- ---- what they print

-- trees of one kind: their numbers, words and prints, and the indent that they are printed at
pub record Kind : Type 1 where
  pub Tree : Source → Type 0
  pub numbers : (S : Source) → Tree S → List ℕ → Type 0
  pub words : (S : Source) → Tree S → List ℕ → List ℕ
  pub print : (S : Source) → Tree S → List ℕ → List ℕ
  pub indent : Source → ℕ

-- a tree of a kind, an optional one after its prefix, and a list of them with their separators
abbrev pub one : Kind → Parts
one K = counted K.numbers K.words K.print K.indent

abbrev pub option_of : Kind → (prefix : List ℕ) → Parts
option_of K prefix =
    counted (λ S. CountedOption (K.numbers S)) (λ S. option_words (K.words S)) (λ S o rest. optional (K.print S) prefix o rest) K.indent

abbrev pub list_of : Kind → (first next : List ℕ) → Parts
list_of K first next =
    counted (λ S. CountedItems (K.words S) (K.numbers S)) (λ S. seq_words (K.words S)) (λ S l rest. separated (K.print S) first next l rest) K.indent
