-- What the functions of an entry need: room; and what they answer, for either kind of tree.
use Rattle.std.specs.Prelude.{ℕ, ◌≤◌, ◌≡◌, List, [], length, replicate}
use Rattle.parsing.specs.Arena.{most_arena}
use Rattle.tree.specs.Limits.{most_text}
use Rattle.tree.specs.Words.{program_words}
use Rattle.grammar.specs.Reading.{Outcome, outcome, outcome_by, parse_text, parse_program, read_expression, read_program}
use Rattle.parsing.specs.Contract.{same}
use Rattle.parsing.specs.Parse.{arena_nodes}
use Rattle.parsing.specs.declared.entry.Whole.{Whole}
use Rattle.parsing.specs.declared.entry.Whole.TheVariants.{Expression, Program}

-- what reading a text takes: an arena and a stack of `size` places, eleven and two for each byte, and a table of zeros
pub record Sized (text : List ℕ) (size : ℕ) (table : List ℕ) : Type 0 where
  pub short : length text ≤ most_text
  pub small : size ≤ most_arena
  pub room : arena_nodes (length text) ≤ size
  pub clear : table ≡ replicate (length table) 0

-- what is read of a text within the limit, and of any text
abbrev pub whole_outcome : Whole → ℕ → List ℕ → Outcome
whole_outcome Expression n text = outcome n (parse_text text)
whole_outcome Program n text = outcome_by (λ p. program_words same p []) n (parse_program text)

abbrev pub read_outcome : Whole → List ℕ → ℕ → Outcome
read_outcome Expression text n = read_expression text n
read_outcome Program text n = read_program text n
