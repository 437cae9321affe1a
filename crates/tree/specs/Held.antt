-- What a table holds over its text: a tree, or refusal 6 or 7 (REFERENCE, "The refusals"), once for expressions and programs. Prints and
-- judgements of a table are functions of it.
use Rattle.std.specs.Prelude.{ℕ, ◌≤◌, ◌≡◌, refl, ◌↔◌, Bool, true, cond, ◌&&◌, List, [], length, leb}
use Rattle.std.proofs.Math.Option.{Option, none, some}
use Rattle.tree.specs.Limits.{most_text, most_words}
use Rattle.tree.specs.Ast.{Expr, Program}
use Rattle.tree.specs.Words.{expr_words, program_words}
use Rattle.tree.specs.Check.{NameIn, Refusal, expression_refusal, program_refusal, oversized}
use Rattle.tree.specs.Refused.{expression-unrefused, program-unrefused}

-- the trees of a kind with their words, and the check of a table, which refuses exactly the tables that have too many words or are no tree's
pub record TableKind : Type 1 where
  pub Tree : Type 0
  pub words : Tree → List ℕ
  pub refused : List ℕ → Option Refusal
  pub unrefused : (ws : List ℕ) → (refused ws ≡ none) ↔ ((length ws ≤ most_words) × ((t : Tree) × (words t ≡ ws)))

-- the tables of expressions, and of programs, over a text of that length
abbrev pub expression_tables : ℕ → TableKind
expression_tables len =
    record {
      Tree = Expr (NameIn len);
      words = λ t. expr_words (λ n. n.span) t [];
      refused = λ ws. expression_refusal ws len;
      unrefused = λ ws. expression-unrefused ws len;
    }

abbrev pub program_tables : ℕ → TableKind
program_tables len =
    record {
      Tree = Program (NameIn len);
      words = λ t. program_words (λ n. n.span) t [];
      refused = λ ws. program_refusal ws len;
      unrefused = λ ws. program-unrefused ws len;
    }

-- a tree, or a refusal's number and place
pub data Held (T : Type 0) : Type 0 where
  held : T → Held T
  refused : ℕ → ℕ → Held T

module _ (K : TableKind) where
  -- the tree that an unrefused table holds: the one whose words these are
  abbrev pub tree_of : (words : List ℕ) → K.refused words ≡ none → K.Tree
  tree_of words e = ((K.unrefused words).0 e).1.0

  -- by the check's refusal: 7 at a misfit's place, or 6
  unfoldable pub held_checked : (words : List ℕ) (r : Option Refusal) → K.refused words ≡ r → Held K.Tree
  held_checked words none e = held (tree_of words e)
  held_checked words (some r) e = refused r.number r.place

  -- over a text, where `others` says whether the other limits that refusal 6 is about are kept; of the limits, that on words is the check's
  unfoldable pub held_by : (others : Bool) (text words : List ℕ) → Held K.Tree
  held_by others text words = cond (leb (length text) most_text && others) (held_checked words (K.refused words) refl) (refused oversized 0)

-- what a program's table holds over its text
abbrev pub program_held : (text words : List ℕ) → Held (Program (NameIn (length text)))
program_held text words = held_by (program_tables (length text)) true text words

-- the table holds the expression t over its text, whose names lie inside it
abbrev pub Holds : (text words : List ℕ) → Expr (NameIn (length text)) → Type 0
Holds text words t = expr_words (λ n. n.span) t [] ≡ words

-- the same of a program
abbrev pub HoldsProgram : (text words : List ℕ) → Program (NameIn (length text)) → Type 0
HoldsProgram text words t = program_words (λ n. n.span) t [] ≡ words

-- the limits on a text and a table that refusal 6 is about
pub record InLimits (text words : List ℕ) : Type 0 where
  pub text-fits : length text ≤ most_text
  pub words-fit : length words ≤ most_words
