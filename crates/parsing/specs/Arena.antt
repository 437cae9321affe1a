-- The arena in which the reading rules build trees: nodes that are appended and never moved. A node stands for a run of tree words, given as a
-- function that puts the run before other words.
use Rattle.std.specs.Prelude.{ℕ, ◌<◌, ◌≡◌, Bool, List, ◌∷◌, length, get_or}
use Rattle.tree.specs.Codes.{operator_code}
use Rattle.tree.specs.Tags.{more, no_more, id_expr_tag, operator_expr_tag}
use Rattle.tree.specs.Words.{bool_word}
use Rattle.tree.specs.declared.word.Operator.{Operator}
use Rattle.parsing.specs.declared.arena.Node.{Node}
use Rattle.parsing.specs.declared.arena.Node.TheVariants.{Empty, One, Two, Three, Ident, Unary, Binary, Item, Pair, Closed, Headed}

-- the most nodes of an arena
abbrev pub most_arena : ℕ
most_arena = 100000

-- what a place outside an arena is read as
abbrev pub outside : Node
outside = Three 0 0 0

abbrev pub Run : Type 0
Run = List ℕ → List ℕ

-- the node n stands for a run of words; its parts lie below it
pub data Holds (arena : List Node) : ℕ → Run → Type 0 where
  empty : {n : ℕ} → get_or arena n outside ≡ Empty → Holds arena n (λ r. r)
  one : {n x : ℕ} → get_or arena n outside ≡ One x → Holds arena n (λ r. x ∷ r)
  two : {n x y : ℕ} → get_or arena n outside ≡ Two x y → Holds arena n (λ r. x ∷ y ∷ r)
  three : {n x y z : ℕ} → get_or arena n outside ≡ Three x y z → Holds arena n (λ r. x ∷ y ∷ z ∷ r)
  ident : {n x y : ℕ} {z : Bool} → get_or arena n outside ≡ Ident x y z → Holds arena n (λ r. id_expr_tag ∷ x ∷ y ∷ bool_word z ∷ r)
  unary : {n y : ℕ} {o : Operator} {f : Run} → get_or arena n outside ≡ Unary o y → y < n → Holds arena y f
      → Holds arena n (λ r. operator_expr_tag ∷ operator_code o ∷ more ∷ f (no_more ∷ r))
  binary : {n y z : ℕ} {o : Operator} {f g : Run} → get_or arena n outside ≡ Binary o y z → y < n → z < n → Holds arena y f → Holds arena z g
      → Holds arena n (λ r. operator_expr_tag ∷ operator_code o ∷ more ∷ f (more ∷ g (no_more ∷ r)))
  item : {n y z : ℕ} {f g : Run} → get_or arena n outside ≡ Item y z → y < n → z < n → Holds arena y f → Holds arena z g
      → Holds arena n (λ r. f (more ∷ g r))
  pair : {n y z : ℕ} {f g : Run} → get_or arena n outside ≡ Pair y z → y < n → z < n → Holds arena y f → Holds arena z g → Holds arena n (λ r. f (g r))
  closed : {n y : ℕ} {f : Run} → get_or arena n outside ≡ Closed y → y < n → Holds arena y f → Holds arena n (λ r. f (no_more ∷ r))
  headed : {n x y : ℕ} {f : Run} → get_or arena n outside ≡ Headed x y → y < n → Holds arena y f → Holds arena n (λ r. x ∷ f r)

-- the nodes below `top` are as they were
pub record Kept (arena later : List Node) (top : ℕ) : Type 0 where
  pub length-kept : length later ≡ length arena
  pub below : (i : ℕ) → i < top → get_or later i outside ≡ get_or arena i outside
