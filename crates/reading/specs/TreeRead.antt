-- What it is that the code gives a tree: the terms of demand 3's second claim.
use Rattle.std.specs.Prelude.{ℕ, ◌-◌, ◌≡◌, List, [], ◌++◌, length, replicate}
use Rattle.tree.specs.Ast.{Span, Expr}
use Rattle.tree.specs.Resolve.{resolve_expr}
use Rattle.grammar.specs.Grammar.{Tree}
use Rattle.grammar.specs.Reading.{Outcome, words, refusal, tree_words, read_expression, read_program}
use Rattle.std.specs.Prelude.{Result, Ok, Err}
use Rattle.lexing.specs.declared.refusal.Refusal.{Refusal}
use Rattle.lexing.specs.CodeAnswers.{number}

-- The code's answer, with the table as the code leaves it.
abbrev pub outcome_of : Result ℕ Refusal → List ℕ → Outcome
outcome_of (Ok count) table = words count table
outcome_of (Err e) table = refusal (number e.reason) e.place table

-- What `read_expression` ensures of its answer r and of the table of n words after it.
abbrev pub Answered : List ℕ → ℕ → Result ℕ Refusal → List ℕ → Type 0
Answered text n r table = outcome_of r table ≡ read_expression text n

-- What `read_program` ensures of them.
abbrev pub ProgramAnswered : List ℕ → ℕ → Result ℕ Refusal → List ℕ → Type 0
ProgramAnswered text n r table = outcome_of r table ≡ read_program text n

-- The answer and the table are those of the tree t: some tree over the text's spans, t once its names are bytes, has so many words as the
-- answer says, and the table holds them and zeros after them.
pub record Leaves (text : List ℕ) (n : ℕ) (t : Tree) (r : Result ℕ Refusal) (table : List ℕ) : Type 0 where
  pub tree : Expr Span
  pub named : resolve_expr text tree ≡ t
  pub counted : r ≡ Ok (length (tree_words tree []))
  pub held : table ≡ tree_words tree [] ++ replicate (n - length (tree_words tree [])) 0
