-- Blanks (Parser.dfy, `W1`, `PositionAfterEndOfLongComment`, `W`): space, tab, CR, LF, comments to the line's end, and long comments, which
-- nest. One that is not closed before the text ends is no blank. All are over the rest of the text.
use Rattle.std.specs.Prelude.{◌&&◌, List, [], ◌∷◌, ℕ, zero, suc, ◌+◌, length, drop, eqb}
use Rattle.std.proofs.Math.Option.{Option, none, some}
use Rattle.lexing.specs.Answer.{pick}
use Rattle.lexing.specs.Bytes.{is_space, not_newline, run, starts_with}

-- How far blanks reach: `passed`, over so many bytes; `unclosed`, a long comment that opens at this place is not closed.
pub data Blanks : Type 0 where
  passed : ℕ → Blanks
  unclosed : ℕ → Blanks

-- the same reach from k bytes further back
abbrev pub further : ℕ → Blanks → Blanks
further k (passed n) = passed (k + n)
further k (unclosed n) = unclosed (k + n)

-- what two bytes of a long comment are: `*/`, `/*` or neither
pub data Mark : Type 0 where
  closing opening neither : Mark

-- the mark that two bytes are
unfoldable pub mark : ℕ → ℕ → Mark
mark a b = pick (eqb a 42 && eqb b 47) closing (pick (eqb a 47 && eqb b 42) opening neither)

-- a count of bytes, if there is one, with k more
abbrev pub plus : ℕ → Option ℕ → Option ℕ
plus k none = none
plus k (some n) = some (k + n)

-- one step of `long_comment` at a mark, with d comments open inside the outermost: `over` goes on after two bytes, `on` after one
abbrev pub at_mark : Mark → ℕ → (ℕ → Option ℕ) → (ℕ → Option ℕ) → Option ℕ
at_mark closing zero over on = some 2
at_mark closing (suc d) over on = plus 2 (over d)
at_mark opening d over on = plus 2 (over (suc d))
at_mark neither d over on = plus 1 (on d)

-- how many bytes after its opening mark a long comment takes, with d more open inside it; `none` where it is not closed
unfoldable pub long_comment : ℕ → List ℕ → Option ℕ
long_comment d [] = none
long_comment d (a ∷ []) = none
long_comment d (a ∷ (b ∷ s)) = at_mark (mark a b) d (λ e. long_comment e s) (λ e. long_comment e (b ∷ s))

-- a count of bytes, or n where there is none
abbrev pub or_else : ℕ → Option ℕ → ℕ
or_else n none = n
or_else n (some k) = k

-- upstream's function of this name, over what lies between its `start` and its `end`: `BlankLaws` has upstream's equations of it
unfoldable pub position_after_end_of_long_comment : List ℕ → ℕ
position_after_end_of_long_comment s = or_else (length s) (long_comment 0 s)

-- a long comment from its opening mark on, by how many bytes it takes after the mark
abbrev pub comment : Option ℕ → Blanks
comment none = unclosed 0
comment (some n) = passed (2 + n)

-- the one blank that stands at the start: a space, a comment to the line's end, or a long comment; `passed 0` where there is none
unfoldable pub blank : List ℕ → Blanks
blank [] = passed 0
blank (a ∷ s) =
    pick (is_space a) (passed 1)
    (pick (starts_with (47 ∷ 47 ∷ []) (a ∷ s)) (passed (1 + run not_newline s))
    (pick (starts_with (47 ∷ 42 ∷ []) (a ∷ s)) (comment (long_comment 0 (drop 1 s))) (passed 0)))

-- after the one blank at the start: nothing, or what `on` finds past the rest of its bytes
abbrev pub onward : Blanks → (ℕ → Blanks) → Blanks
onward (passed zero) on = passed 0
onward (passed (suc k)) on = further 1 (on k)
onward (unclosed n) on = unclosed n

-- `W`, with k bytes of a blank still to pass
unfoldable pub blanks_from : ℕ → List ℕ → Blanks
blanks_from k [] = passed 0
blanks_from zero (a ∷ s) = onward (blank (a ∷ s)) (λ k. blanks_from k s)
blanks_from (suc k) (a ∷ s) = further 1 (blanks_from k s)

-- `W`: blank after blank
unfoldable pub W : List ℕ → Blanks
unfolding blanks_from
W s = blanks_from 0 s
