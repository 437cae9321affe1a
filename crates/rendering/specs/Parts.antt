-- What the functions that print the words at a place of a table do: the place after those words, and the print of the tree that they are.
use Rattle.std.specs.Prelude.{ℕ, ◌+◌, ◌≤◌, ◌<◌, ◌≡◌, Bool, List, ◌∷◌, length, drop, get_or, eqb}
use Rattle.std.proofs.Math.Option.{Option}
use Rattle.lexing.specs.Bytes.{bytes}
use Rattle.tree.specs.Ast.{Binding}
use Rattle.tree.specs.Words.{bool_word, natural_words, name_words, option_words, seq_words, binding_words}
use Rattle.tree.specs.Check.{NameIn}
use Rattle.layout.specs.Text.{◌▹◌, ◌▸◌, decimal}
use Rattle.layout.specs.Printer.{bool_text, old_text, quantifier_text, IdTypeDecl, Bindings, parameters}
use Rattle.rendering.specs.declared.printer.Printer.{Printer}
use Rattle.rendering.specs.declared.printer.Source.{Source}
use Rattle.rendering.specs.Tables.{name_in}
use Rattle.rendering.specs.Wrote.{Wrote}

-- trees with their words and their prints, each before what follows, and what the print of one needs, by the tree and the words that follow
pub record Part : Type 1 where
  pub Tree : Type 0
  pub given : Tree → List ℕ → Type 0
  pub words : Tree → List ℕ → List ℕ
  pub print : Tree → List ℕ → List ℕ

-- the parts of a source by their place
abbrev pub Parts : Type 1
Parts = Source → ℕ → Part

-- from a place of the table on a print X was written, and what follows its words is `rest`
pub record Done (table : List ℕ) (X : List ℕ → List ℕ) (rest : List ℕ) (s s' : Printer) : Type 0 where
  pub after : drop s'.at table ≡ rest
  pub wrote : Wrote X s.out.now s.pos s'.out.now s'.pos

-- the tree at a place of a source was printed
abbrev pub PrintsOf : Part → List ℕ → Printer → Printer → Type 0
PrintsOf P table s s' =
    (t : P.Tree) (rest : List ℕ) → P.given t rest → drop s.at table ≡ P.words t rest → Done table (P.print t) rest s s'

-- the same of the part that stands where a printer is
abbrev pub Told : Parts → Printer → Printer → Type 0
Told P s s' = PrintsOf (P s.source s.at) s.source.words.now s s'

pub record Prints (P : Parts) (s s' : Printer) : Type 0 where
  pub source : s'.source ≡ s.source
  pub output : s'.out.ghost_name ≡ s.out.ghost_name
  pub forward : s.at ≤ s'.at
  pub prints : Told P s s'

-- the next word was read; past the table's end it is 0, and the place stays
pub record Reads (s : Printer) (w : ℕ) (s' : Printer) : Type 0 where
  pub source : s'.source ≡ s.source
  pub output : s'.out ≡ s.out
  pub written : s'.pos ≡ s.pos
  pub word : w ≡ get_or s.source.words.now s.at 0
  pub forward : s.at ≤ s'.at
  pub past : s.at < length s.source.words.now → s'.at ≡ s.at + 1

-- the word so many places after the next
pub record Looks (s : Printer) (places w : ℕ) : Type 0 where
  pub word : w ≡ get_or s.source.words.now (s.at + places) 0

-- whether the next word is 0: no content of an option, no item of a sequence stands here
pub record Ends (s : Printer) (r : Bool) : Type 0 where
  pub ends : r ≡ eqb (get_or s.source.words.now s.at 0) 0

-- the number that is noted for the next word's place
pub record Counts (s : Printer) (n : ℕ) : Type 0 where
  pub noted : n ≡ get_or s.source.counts.now s.at 0

-- the names of a source's text, and a name as its part of it
abbrev pub N : Source → Type 0
N S = NameIn (length S.text.now)

abbrev pub named : (S : Source) → N S → List ℕ
named S n = name_in S.text.now n

-- trees that need nothing
abbrev pub free : {A : Source → Type 0} → ((S : Source) → A S → List ℕ → List ℕ) → ((S : Source) → A S → List ℕ → List ℕ) → Parts
free {A} words print S at = record { Tree = A S; given = λ _ _. Unit {0}; words = words S; print = print S }

abbrev pub a_bool : Parts
a_bool = free (λ S (b : Bool) rest. bool_word b ∷ rest) (λ S b rest. bool_text b ▸ rest)

abbrev pub a_natural : Parts
a_natural = free (λ S. natural_words) (λ S. decimal)

abbrev pub a_name : Parts
a_name = free (λ S. name_words {N = N S} (λ n. n.span)) (λ S n rest. named S n ▹ rest)

-- a name and text after it
abbrev pub name_head : List ℕ → Parts
name_head suffix = free (λ S. name_words {N = N S} (λ n. n.span)) (λ S n rest. named S n ▹ suffix ▹ rest)

-- a name and its type
abbrev pub typed_name : Parts
typed_name =
    free (λ S (a : N S × N S) rest. name_words (λ n. n.span) a.0 (name_words (λ n. n.span) a.1 rest))
    (λ S a rest. named S a.0 ▹ ": " ▸ named S a.1 ▹ rest)

abbrev pub id_type : List ℕ → Parts
id_type prefix =
    free (λ S (a : N S × Option (N S)) rest. name_words (λ n. n.span) a.0 (option_words (name_words (λ n. n.span)) a.1 rest))
    (λ S a rest. IdTypeDecl (named S) prefix a.0 a.1 rest)

abbrev pub bindings : List ℕ → Parts
bindings prefix = free (λ S. seq_words (binding_words {N = N S} (λ n. n.span))) (λ S bs rest. Bindings (named S) prefix bs rest)

-- a quantifier's Bool and bindings
abbrev pub quantified : Parts
quantified =
    free (λ S (a : Bool × List (Binding (N S))) rest. bool_word a.0 ∷ seq_words (binding_words (λ n. n.span)) a.1 rest)
    (λ S a rest. Bindings (named S) (bytes (quantifier_text a.0)) a.1 rest)

abbrev pub closure_parameters : Parts
closure_parameters = free (λ S. seq_words (binding_words {N = N S} (λ n. n.span))) (λ S bs rest. parameters (named S) bs rest)

-- ---- the leaves, after their first word

abbrev pub custom_literal : Parts
custom_literal =
    free (λ S (a : N S × N S) rest. name_words (λ n. n.span) a.0 (name_words (λ n. n.span) a.1 rest))
    (λ S a rest. "|" ▸ named S a.0 ▹ ": " ▸ named S a.1 ▹ "|" ▸ rest)

abbrev pub identifier : Parts
identifier =
    free (λ S (a : N S × Bool) rest. name_words (λ n. n.span) a.0 (bool_word a.1 ∷ rest)) (λ S a rest. old_text a.1 ▸ named S a.0 ▹ rest)
