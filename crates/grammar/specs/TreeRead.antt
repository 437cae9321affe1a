-- What it is to read a tree (REFERENCE, "The entries" and "The operator grammar"): the terms of demand 3's second claim.
use Rattle.std.specs.Prelude.{ℕ, ◌-◌, ◌≡◌, List, [], ◌++◌, length, replicate}
use Rattle.lexing.specs.Answer.{Answer, ok}
use Rattle.tree.specs.Resolve.{resolve_expr}
use Rattle.grammar.specs.Grammar.{Tree}
use Rattle.grammar.specs.Reading.{Outcome, words, tree_words, read_tree, read_expression}

-- Reading a text into a table of n words gives the tree t: the tree read from the whole text is t once its names are bytes, the answer is
-- the number of its words, and the table holds them and zeros after them. `reading` and `entry` are a kind of tree's, `words_of` and `resolve`
-- give its words and its names as bytes.
pub record Gives {A B : Type 0} (reading : List ℕ → Answer A) (entry : List ℕ → ℕ → Outcome) (words_of : A → List ℕ) (resolve : List ℕ → A → B)
    (text : List ℕ) (n : ℕ) (t : B) : Type 0 where
  pub tree : A
  pub read : reading text ≡ ok tree (length text)
  pub named : resolve text tree ≡ t
  pub answered : entry text n ≡ words (length (words_of tree)) (words_of tree ++ replicate (n - length (words_of tree)) 0)

abbrev pub GivesTree : List ℕ → ℕ → Tree → Type 0
GivesTree = Gives read_tree read_expression (λ e. tree_words e []) resolve_expr
