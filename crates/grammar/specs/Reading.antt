-- Read expression and read program (REFERENCE, "The entries"): refusals 1 to 5, 12 and 13, and the table afterwards.
use Rattle.std.specs.Prelude.{ℕ, suc, ◌-◌, ◌&&◌, List, [], ◌++◌, length, replicate, leb, eqb}
use Rattle.lexing.specs.Answer.{Answer, ok, refused, unclosed_comment, pick, text_too_long, unusable_token, tree_too_large, ended_too_soon}
use Rattle.lexing.specs.Blanks.{Blanks, passed, unclosed, W}
use Rattle.tree.specs.Ast.{Span, Expr, Program}
use Rattle.tree.specs.Limits.{most_text, most_words}
use Rattle.tree.specs.Words.{expr_words, program_words}
use Rattle.grammar.specs.OperatorTrees.{most_depth}
use Rattle.grammar.specs.Steps.{Reader, after, need}
use Rattle.grammar.specs.Rules.{parse_expr}
use Rattle.grammar.specs.Statements.{gallery}
use Rattle.grammar.specs.Declarations.{TopLevel}

-- the words of a tree whose names are spans, followed by others
abbrev pub tree_words : Expr Span → List ℕ → List ℕ
tree_words = expr_words (λ s. s)

-- the place after the blanks at the start of the text
abbrev pub leading : Blanks → Answer ℕ
leading (passed n) = ok n n
leading (unclosed n) = refused unclosed_comment n

-- the text ends at this place
abbrev pub to_end : {A : Type 0} → List ℕ → A → ℕ → Answer A
to_end text a at = pick (eqb at (length text)) (ok a at) (refused unusable_token at)

-- what a rule reads of a whole text, after the blanks at its start
abbrev pub whole_text : {A : Type 0} → List ℕ → Reader A → Answer A
whole_text text rule = after (leading (W text)) Answer.none (λ at _. need at (rule at) (to_end text))

-- a text of at most 32,768 bytes is read
abbrev pub unless_long : {A : Type 0} → List ℕ → Answer A → Answer A
unless_long text r = pick (leb (length text) most_text) r (refused text_too_long most_text)

-- what a reading answers and leaves in a table of n words
pub data Outcome : Type 0 where
  words : ℕ → List ℕ → Outcome
  refusal : ℕ → ℕ → List ℕ → Outcome

-- the tree's words and zeros after them, or refusal 5 and all zero
abbrev pub stored : ℕ → List ℕ → Outcome
stored n ws =
    pick (leb (length ws) n && leb (length ws) most_words) (words (length ws) (ws ++ replicate (n - length ws) 0)) (refusal tree_too_large 0 (replicate n 0))

-- the outcome of an answer, by the words of what was read
abbrev pub outcome_by : {A : Type 0} → (A → List ℕ) → ℕ → Answer A → Outcome
outcome_by words_of n (ok a at) = stored n (words_of a)
outcome_by words_of n Answer.none = refusal unusable_token 0 (replicate n 0)
outcome_by words_of n (refused number place) = refusal number place (replicate n 0)

-- the number that a refusal of the rules is told by: a token that cannot be used, at the text's end, is that the text ended too soon
abbrev pub told_number : List ℕ → ℕ → ℕ → ℕ
told_number text number place = pick (eqb number unusable_token && eqb place (length text)) ended_too_soon number

-- an outcome by the rules' refusals, with the number that each is told by
abbrev pub told : List ℕ → Outcome → Outcome
told text (words k table) = words k table
told text (refusal number place table) = refusal (told_number text number place) place table

-- ---- read expression

-- the tree that a text of at most 32,768 bytes holds
unfoldable pub parse_text : List ℕ → Answer (Expr Span)
parse_text text = whole_text text (parse_expr text (suc (length text)) most_depth)

unfoldable pub read_tree : List ℕ → Answer (Expr Span)
unfolding parse_text
read_tree text = unless_long text (parse_text text)

abbrev pub outcome : ℕ → Answer (Expr Span) → Outcome
outcome = outcome_by (λ e. tree_words e [])

-- a text and a table of n words, by the rules' refusals
abbrev pub expression_outcome : List ℕ → ℕ → Outcome
expression_outcome text n = outcome n (read_tree text)

-- and as it is told
unfoldable pub read_expression : List ℕ → ℕ → Outcome
unfolding read_tree
read_expression text n = told text (expression_outcome text n)

-- ---- read program

unfoldable pub parse_program : List ℕ → Answer (Program Span)
parse_program text = whole_text text (TopLevel text (suc (length text)) (gallery text (suc (length text)) most_depth))

unfoldable pub read_tree_of_program : List ℕ → Answer (Program Span)
unfolding parse_program
read_tree_of_program text = unless_long text (parse_program text)

-- a text and a table of n words, by the rules' refusals
abbrev pub program_outcome : List ℕ → ℕ → Outcome
program_outcome text n = outcome_by (λ p. program_words (λ s. s) p []) n (read_tree_of_program text)

-- and as it is told
unfoldable pub read_program : List ℕ → ℕ → Outcome
unfolding read_tree_of_program
read_program text n = told text (program_outcome text n)
