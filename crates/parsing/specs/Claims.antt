-- What `parse` promises, whatever the text and the arena (`Parses` is its contract): with room it answers as the definition does, the tree's words
-- standing at a node, or the definition's refusal; without room it refuses with 5 at 0.
use Rattle.std.specs.Prelude.{ℕ, ◌≡◌, refl, true, false, List, length, Result, Err}
use Rattle.lexing.specs.declared.refusal.Reason.TheVariants.{TreeTooLarge}
use Rattle.lexing.specs.declared.refusal.Refusal.{Refusal}
use Rattle.tree.specs.Words.{program_words}
use Rattle.grammar.specs.Reading.{tree_words, parse_text, parse_program}
use Rattle.parsing.specs.Contract.{same}
use Rattle.parsing.specs.Parse.{roomy, Parses}
use Rattle.parsing.specs.ParseLaws as laws
use Rattle.parsing.specs.declared.arena.Node.{Node}
use Rattle.parsing.specs.declared.entry.Whole.{Whole}
use Rattle.parsing.specs.declared.entry.Whole.TheVariants.{Expression, Program}

-- An arena has room for a text if it has 11 nodes and two for each byte, and no more than 100,000; the text is no longer than a text may be.
-- An expression is the definition's tree, or its refusal.
pub parse-expression : (text : List ℕ) (arena later : List Node) (r : Result ℕ Refusal) → Parses Expression text arena later r
    → roomy (length text) (length arena) ≡ true → laws.Defined tree_words (parse_text text) later r
parse-expression text arena later r p h = laws.with-room p tree_words (parse_text text) refl h

-- So is a program.
pub parse-program : (text : List ℕ) (arena later : List Node) (r : Result ℕ Refusal) → Parses Program text arena later r
    → roomy (length text) (length arena) ≡ true → laws.Defined (program_words same) (parse_program text) later r
parse-program text arena later r p h = laws.with-room p (program_words same) (parse_program text) refl h

-- Without room nothing is read.
pub parse-without-room : (whole : Whole) (text : List ℕ) (arena later : List Node) (r : Result ℕ Refusal) → Parses whole text arena later r
    → roomy (length text) (length arena) ≡ false → r ≡ Err (record { reason = TreeTooLarge; place = 0 })
parse-without-room whole text arena later r p h = laws.without-room p h

-- The arena's length stays.
pub parse-keeps-length : (whole : Whole) (text : List ℕ) (arena later : List Node) (r : Result ℕ Refusal) → Parses whole text arena later r
    → length later ≡ length arena
parse-keeps-length whole text arena later r p = p.length-kept
