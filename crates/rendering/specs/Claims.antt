-- What `render` promises, whatever the text, the table and the buffer (`Renders` is its contract): r is its answer, b the buffer before the call
-- and b' the buffer after it. A table is past the limits, or its words are no tree's, or it holds a tree (`table`): refusal 6, 7, or the print.
use Rattle.std.specs.Prelude.{ℕ, ◌≤◌, ◌<◌, ◌≡◌, List, length, take, Result, Ok}
use Rattle.std.proofs.Common.{◌∙◌, refl, le-leb}
use Rattle.std.proofs.lemmas.Bool.{lt-leb}
use Rattle.rendering.specs.declared.PrintError.{PrintError}
use Rattle.rendering.specs.declared.PrintError.TheVariants.{TooLong}
use Rattle.tree.specs.Held.{refused}
use Rattle.tree.specs.HeldLaws.{Lawful, Table}
use Rattle.rendering.specs.Tables.{Printable, held_for, Within}
use Rattle.rendering.specs.TableLaws.{table, holds}
use Rattle.rendering.specs.Errors.{print_too_long, Refuses}
use Rattle.rendering.specs.Render.{Made, Renders}

-- Every table is one of the three; which, its words and the limits decide.
pub table-cases : (P : Printable) → Lawful P.kind → (text words : List ℕ) → Table P.kind (Within P text words) words (held_for P text words)
table-cases P L text words = table P L text words

module _ (P : Printable) (text words b : List ℕ) (r : Result ℕ PrintError) (b' : List ℕ) (h : Renders P text words b r b') where
  -- A refused table is refused so.
  pub refused-so : (number place : ℕ) → held_for P text words ≡ refused number place → Refuses r number place
  refused-so number place e = rw e at h.gives

  -- of a table that holds a tree
  module _ (L : Lawful P.kind) (t : P.kind.Tree) (e : P.kind.words t ≡ words) (w : Within P text words) where
    made : Made (P.print t) b r b'
    made = rw (holds P L text words t e w) at h.gives

    -- A tree whose print the buffer has room for is printed at the buffer's start.
    pub rendered : length (P.print t) ≤ length b → (r ≡ Ok (length (P.print t))) × (take (length (P.print t)) b' ≡ P.print t)
    rendered l =
        let f : r ≡ Ok (length (P.print t)) = made.answers ∙ simp (le-leb _ _ l) in
        (f, made.bytes _ f)

    -- Any other is refused by 8.
    pub too_long : length b < length (P.print t) → Refuses r print_too_long 0
    too_long l = record { error = TooLong; answers = made.answers ∙ simp (lt-leb _ _ l); numbered = refl; placed = refl }
