-- Demand 3, entire. The contracts of the functions are `Answered` (`read_expression`), `PrintAnswered` (the prints of an expression, by
-- `one_line` that of `print_expression`, by `defaults` that of `print_expression_lines`) and `ProgramAnswered` (the prints of a program, by
-- `defaults` that of `print_program`); `PrintAnsweredBy` that of `print_expression_by`.
use Rattle.std.specs.Prelude.{ℕ, ◌≤◌, ◌<◌, ◌≡◌, ◌↔◌, refl, List, length, take, Result, Ok}
use Rattle.tree.specs.Ast.{Expr}
use Rattle.tree.specs.Limits.{most_text}
use Rattle.tree.specs.Check.{NameIn}
use Rattle.grammar.specs.Grammar.{Tree, Derives}
use Rattle.grammar.specs.OperatorTrees.{OperatorTree, Faithful, DerivesWithin, most_depth}
use Rattle.grammar.specs.Reading.{read_program, words}
use Rattle.grammar.proofs.Claims as Grammar
use Rattle.reading.specs.TreeRead.{Answered, Leaves}
use Rattle.reading.specs.Claims as Reader
use Rattle.lexing.specs.declared.refusal.Refusal.{Refusal}
use Rattle.layout.specs.declared.settings.Settings.{Settings}
use Rattle.rendering.specs.declared.PrintError.{PrintError}
use Rattle.layout.specs.PrintUtil.{Init}
use Rattle.tree.specs.Held.{Holds}
use Rattle.rendering.specs.Tables.{expressions}
use Rattle.printing.specs.Entries.{PrintAnswered, ProgramAnswered}
use Rattle.printing.specs.BySettings.{PrintAnsweredBy}
use Rattle.printing.specs.Claims.{printed-by}
use Rattle.roundtrip.specs.Nesting.{nesting}
use Rattle.roundtrip.specs.SmallNaturals.{Words32}
use Rattle.roundtrip.specs.ReadPrinted.{Unrefused, program-unrefused}
use Rattle.roundtrip.specs.ReadBack.{tree_in, written-derives, written_read, written-read-plainly}

-- First: any two derivations of a text have the same tree, whatever their depths.
pub derivations-agree : (text : List ℕ) (d d' : ℕ) (t t' : Tree) → Derives d text t → Derives d' text t' → t ≡ t'
derivations-agree = Grammar.derivations-agree

-- Second: `read_expression`, which answers r and leaves its table of n words so, gives an operator tree exactly when the text has a derivation
-- that keeps the limits, and it is the derivation's tree.
pub reading-is-deriving : (text : List ℕ) (n : ℕ) (r : Result ℕ Refusal) (table : List ℕ) (t : Tree) → Answered text n r table
    → (Leaves text n t r table × OperatorTree t) ↔ DerivesWithin n text t
reading-is-deriving = Reader.read-expression-exact

-- Third: where the words are those of a faithful operator tree e over the text and a print, by any settings and from any start indent, is not
-- refused, what it writes has a derivation with that same tree: of each depth beyond the nesting of the print's brackets ..
pub print-is-derived : (text words out out' : List ℕ) (settings : Settings) (indent n : ℕ) (e : Expr (NameIn (length text)))
    → Holds text words e → Faithful (tree_in text e) → PrintAnswered settings text words indent out (Ok n) out'
    → (d : ℕ) → nesting (tree_in text e) Init < d → Derives d (take n out') (tree_in text e)
print-is-derived = written-derives

-- .. and where the print keeps the reading limits, `read_expression` reads it back as that tree.
pub print-is-read-back : (text words out out' : List ℕ) (settings : Settings) (indent n : ℕ) (e : Expr (NameIn (length text)))
    → Holds text words e → Faithful (tree_in text e) → PrintAnswered settings text words indent out (Ok n) out'
    → (m : ℕ) (t : Tree) → DerivesWithin m (take n out') t → (r : Result ℕ Refusal) (table : List ℕ) → Answered (take n out') m r table
    → Leaves (take n out') m (tree_in text e) r table
print-is-read-back = written_read

-- The last claim in plain limits: a print of at most 32,768 bytes whose brackets nest below 200 is read back from a table of as many words as the
-- printed one, or more.
pub short-print-is-read-back : (text words out out' : List ℕ) (settings : Settings) (indent n : ℕ) (e : Expr (NameIn (length text)))
    → Holds text words e → Faithful (tree_in text e) → PrintAnswered settings text words indent out (Ok n) out'
    → Words32 words → n ≤ most_text → nesting (tree_in text e) Init < most_depth
    → (m : ℕ) → length words ≤ m → (r : Result ℕ Refusal) (table : List ℕ) → Answered (take n out') m r table
    → Leaves (take n out') m (tree_in text e) r table
short-print-is-read-back = written-read-plainly

-- The same of a print by the bytes of settings.
pub print-by-is-derived : (bytes text words out out' : List ℕ) (indent n : ℕ) (e : Expr (NameIn (length text)))
    → Holds text words e → Faithful (tree_in text e) → PrintAnsweredBy bytes text words indent out (Ok n) out'
    → (d : ℕ) → nesting (tree_in text e) Init < d → Derives d (take n out') (tree_in text e)
print-by-is-derived bytes text ws out out' indent n e h x a =
    let p = printed-by (λ s. expressions s text indent) bytes text ws out (Ok n) out' a n refl in
    written-derives text ws out out' p.0 indent n e h x p.1.1

pub short-print-by-is-read-back : (bytes text words out out' : List ℕ) (indent n : ℕ) (e : Expr (NameIn (length text)))
    → Holds text words e → Faithful (tree_in text e) → PrintAnsweredBy bytes text words indent out (Ok n) out'
    → Words32 words → n ≤ most_text → nesting (tree_in text e) Init < most_depth
    → (m : ℕ) → length words ≤ m → (r : Result ℕ Refusal) (table : List ℕ) → Answered (take n out') m r table
    → Leaves (take n out') m (tree_in text e) r table
short-print-by-is-read-back bytes text ws out out' indent n e h x a =
    let p = printed-by (λ s. expressions s text indent) bytes text ws out (Ok n) out' a n refl in
    written-read-plainly text ws out out' p.0 indent n e h x p.1.1

-- What is read of a program's text is refused by its print neither by 6 nor by 7, by any settings and into any output: r is the answer over the k words read.
pub read-program-unrefused : (settings : Settings) (text : List ℕ) (n k : ℕ) (table out out' : List ℕ) (r : Result ℕ PrintError) → read_program text n ≡ words k table
    → ProgramAnswered settings text (take k table) out r out' → Unrefused r
read-program-unrefused = program-unrefused
