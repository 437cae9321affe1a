-- A node's words in a table. The walk keeps a stack of frames, each of which stands for a run of words: its first words are written, and the
-- frames of its parts take its place. Contracts of the walk's functions.
use Rattle.std.specs.Prelude.{ℕ, ◌+◌, ◌-◌, ◌≤◌, ◌<◌, ◌≡◌, List, [], ◌∷◌, ◌++◌, length, get_or, replicate, Option, Some, None, Result, Ok, Err}
use Rattle.tree.specs.Codes.{operator_code}
use Rattle.tree.specs.Stack.{items}
use Rattle.tree.specs.declared.stack.Stack.{Stack}
use Rattle.tree.specs.Words.{bool_word}
use Rattle.tree.specs.Tags.{more, no_more, id_expr_tag, operator_expr_tag}
use Rattle.parsing.specs.Arena.{Run, Holds, most_arena, outside}
use Rattle.parsing.specs.declared.arena.Node.{Node}
use Rattle.parsing.specs.declared.arena.Node.TheVariants.{Empty, One, Two, Three, Ident, Unary, Binary, Item, Pair, Closed, Headed}
use Rattle.reading.specs.declared.flat.Frame.{Frame}
use Rattle.reading.specs.declared.flat.Frame.TheVariants.{Whole, Next, Last, End}
use Rattle.reading.specs.declared.writer.Full.{Full}
use Rattle.reading.specs.declared.writer.Writer.{Writer}

-- ---- frames

-- the words of a node before its parts
abbrev pub node_head : Node → Run
node_head Empty r = r
node_head (One x) r = x ∷ r
node_head (Two x y) r = x ∷ y ∷ r
node_head (Three x y z) r = x ∷ y ∷ z ∷ r
node_head (Ident x y z) r = id_expr_tag ∷ x ∷ y ∷ bool_word z ∷ r
node_head (Unary o y) r = operator_expr_tag ∷ operator_code o ∷ more ∷ r
node_head (Binary o y z) r = operator_expr_tag ∷ operator_code o ∷ more ∷ r
node_head (Item y z) r = r
node_head (Pair y z) r = r
node_head (Closed y) r = r
node_head (Headed x y) r = x ∷ r

-- the frames of a node's parts, the first one on top
abbrev pub node_parts : Node → List Frame
node_parts Empty = []
node_parts (One x) = []
node_parts (Two x y) = []
node_parts (Three x y z) = []
node_parts (Ident x y z) = []
node_parts (Unary o y) = Whole y ∷ End ∷ []
node_parts (Binary o y z) = Whole y ∷ Last z ∷ []
node_parts (Item y z) = Whole y ∷ Next z ∷ []
node_parts (Pair y z) = Whole y ∷ Whole z ∷ []
node_parts (Closed y) = Whole y ∷ End ∷ []
node_parts (Headed x y) = Whole y ∷ []

module _ (arena : List Node) where
  -- the words that a frame begins with
  abbrev pub head_of : Frame → Run
  head_of (Whole n) r = node_head (get_or arena n outside) r
  head_of (Next n) r = more ∷ r
  head_of (Last n) r = more ∷ r
  head_of End r = no_more ∷ r

  -- the frames that take its place
  abbrev pub parts_of : Frame → List Frame
  parts_of (Whole n) = node_parts (get_or arena n outside)
  parts_of (Next n) = Whole n ∷ []
  parts_of (Last n) = Whole n ∷ End ∷ []
  parts_of End = []

-- a frame's node is one of n
abbrev pub Inside : ℕ → Frame → Type 0
Inside n (Whole m) = m < n
Inside n (Next m) = m < n
Inside n (Last m) = m < n
Inside n End = Unit {0}

-- a frame, if there is one, on others
abbrev pub onto : Option Frame → List Frame → List Frame
onto (Some f) fs = f ∷ fs
onto None fs = fs

-- the frames that the code gives, the first one on top
abbrev pub frames_of : Option Frame × Option Frame → List Frame
frames_of p = onto p.0 (onto p.1 [])

-- a frame, if there is one, is put on a stack
pub record Puts (f : Option Frame) (s s' : Stack Frame) : Type 0 where
  pub items : items s' ≡ onto f (items s)
  pub free : s.free ≡ s'.free + length (onto f [])

-- ---- words

-- of the words `total`, all but `rest` are written, and the table's other words are 0
pub record Written (total rest : List ℕ) (w : Writer) : Type 0 where
  pub done : List ℕ
  pub free : ℕ
  pub split : total ≡ done ++ rest
  pub filled : w.table.now ≡ done ++ replicate free 0
  pub counted : w.len ≡ length done

-- so they are after a write, or the words are more than the table has places for
abbrev pub Wrote : (total rest : List ℕ) → Writer → Result Unit Full → Type 0
Wrote total rest w (Ok u) = Written total rest w
Wrote total rest w (Err e) = length w.table.now < length total

-- a run of words is written
pub record Writes (run : Run) (w w' : Writer) (r : Result Unit Full) : Type 0 where
  pub output : w'.table.ghost_name ≡ w.table.ghost_name
  pub size : length w'.table.now ≡ length w.table.now
  pub wrote : (total rest : List ℕ) → Written total (run rest) w → Wrote total rest w' r

-- ---- the walk

-- what the walk from a root needs: the node and its parts below `top`, and a stack of `places`, one for each node
pub record Rooted (arena : List Node) (places root : ℕ) : Type 0 where
  pub run : Run
  pub top : ℕ
  pub holds : Holds arena root run
  pub below : root < top
  pub inside : top ≤ length arena
  pub small : length arena ≤ most_arena
  pub room : top ≤ places

-- and what it gives: the words and zeros after them, or that they are more than the table has places for
abbrev pub Flattened : (words before after : List ℕ) → Result ℕ Full → Type 0
Flattened words before after (Ok count) = (count ≡ length words) × (after ≡ words ++ replicate (length before - length words) 0)
Flattened words before after (Err e) = length before < length words
