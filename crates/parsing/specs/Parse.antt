-- What `parse` answers: the tree of a whole text, as a node of the arena.
use Rattle.std.specs.Prelude.{ℕ, ◌+◌, ◌*◌, ◌<◌, ◌≡◌, Bool, ◌&&◌, List, length, leb, Result, Ok, Err}
use Rattle.lexing.specs.Answer.{Answer, ok, refused, pick, tree_too_large}
use Rattle.lexing.specs.CodeAnswers.{number}
use Rattle.lexing.specs.declared.refusal.Refusal.{Refusal}
use Rattle.tree.specs.Limits.{most_text}
use Rattle.tree.specs.Words.{program_words}
use Rattle.grammar.specs.OperatorTrees.{most_depth}
use Rattle.grammar.specs.Steps.{need, mapped}
use Rattle.grammar.specs.Declarations.{TopLevel}
use Rattle.grammar.specs.Reading.{tree_words, to_end, parse_text, parse_program}
use Rattle.parsing.specs.Arena.{Run, Holds, most_arena}
use Rattle.parsing.specs.Contract.{Rule, same}
use Rattle.parsing.specs.Code.{inner, opening}
use Rattle.parsing.specs.declared.arena.Node.{Node}
use Rattle.parsing.specs.declared.entry.Whole.{Whole}
use Rattle.parsing.specs.declared.entry.Whole.TheVariants.{Expression, Program}

-- the nodes of an arena for a text of so many bytes, and whether an arena of n nodes has them
abbrev pub arena_nodes : ℕ → ℕ
arena_nodes bytes = 11 + 2 * bytes

abbrev pub roomy : ℕ → ℕ → Bool
roomy bytes n = leb bytes most_text && (leb (arena_nodes bytes) n && leb n most_arena)

-- the rule of a whole text, and what is read of it, by the runs of the trees' words
abbrev pub whole_rule : Whole → Rule Run
whole_rule Expression text at = mapped tree_words (inner most_depth text at)
whole_rule Program text at = mapped (program_words same) (opening TopLevel most_depth text at)

abbrev pub whole_run : Whole → List ℕ → Answer Run
whole_run Expression text = mapped tree_words (parse_text text)
whole_run Program text = mapped (program_words same) (parse_program text)

-- a rule that must read a text to its end
abbrev pub ending : {A : Type 0} → Rule A → Rule A
ending rule text at = need at (rule text at) (to_end text)

-- what an arena of n nodes can take of it
abbrev pub parsed : Whole → List ℕ → ℕ → Answer Run
parsed whole text n = pick (roomy (length text) n) (whole_run whole text) (refused tree_too_large 0)

-- the tree of an answer stands at the node `root`
pub record Planted (text : List ℕ) (arena : List Node) (answer : Answer Run) (root : ℕ) : Type 0 where
  pub run : Run
  pub next : ℕ
  pub says : answer ≡ ok run next
  pub holds : Holds arena root run
  pub inside : root < arena_nodes (length text)

-- the code's answer against the definition's, with the arena afterwards
abbrev pub Gives : List ℕ → List Node → Answer Run → Result ℕ Refusal → Type 0
Gives text arena answer (Ok root) = Planted text arena answer root
Gives text arena answer (Err e) = answer ≡ refused (number e.reason) e.place

-- What `parse` ensures. The nodes of the arena that are not of the tree are free, after a refusal all of them.
pub record Parses (whole : Whole) (text : List ℕ) (arena later : List Node) (r : Result ℕ Refusal) : Type 0 where
  pub length-kept : length later ≡ length arena
  pub gives : Gives text later (parsed whole text (length arena)) r
