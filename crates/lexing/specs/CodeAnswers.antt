-- What the code's answers stand for.
use Rattle.std.specs.Prelude.{◌≡◌, List, ℕ, ◌-◌, ◌≤◌, leb, Option, Some, None, Result, Ok, Err}
use Rattle.std.proofs.Math.Option as math
use Rattle.lexing.specs.Answer.{Answer, ok, refused, text_too_long, unusable_token, level_too_deep, large_natural, tree_too_large, unclosed_comment, ended_too_soon, pick}
use Rattle.lexing.specs.Blanks.{Blanks, passed, unclosed, Mark, closing, opening, neither, long_comment}
use Rattle.lexing.specs.Tokens.{most_natural}
use Rattle.lexing.specs.declared.blank.Unclosed.{Unclosed}
use Rattle.lexing.specs.declared.blank.Mark.{Mark as CodeMark}
use Rattle.lexing.specs.declared.blank.Mark.TheVariants.{Closing, Opening}
use Rattle.lexing.specs.declared.refusal.Reason.{Reason}
use Rattle.lexing.specs.declared.refusal.Reason.TheVariants.{TextTooLong, UnusableToken, LevelTooDeep, LargeNatural, TreeTooLarge, UnclosedComment, EndedTooSoon}
use Rattle.lexing.specs.declared.refusal.Refusal.{Refusal}
use Rattle.lexing.specs.declared.token.Token.{Token}

-- how far blanks reach
abbrev pub reach_of : Result ℕ Unclosed → Blanks
reach_of (Ok n) = passed n
reach_of (Err u) = unclosed u.at

-- the mark that two bytes are
abbrev pub mark_of : Option CodeMark → Mark
mark_of (Some Closing) = closing
mark_of (Some Opening) = opening
mark_of None = neither

-- how many bytes a long comment takes after its opening mark, if it is closed
abbrev pub end_of : Option ℕ → math.Option ℕ
end_of (Some n) = math.some n
end_of None = math.none

-- the number of a refusal by its reason
abbrev pub number : Reason → ℕ
number TextTooLong = text_too_long
number UnusableToken = unusable_token
number LevelTooDeep = level_too_deep
number LargeNatural = large_natural
number TreeTooLarge = tree_too_large
number UnclosedComment = unclosed_comment
number EndedTooSoon = ended_too_soon

-- a token that stands here, one that doesn't, or a refusal by its number and place
abbrev pub answer_of : Result (Option Token) Refusal → Answer ℕ
answer_of (Ok (Some t)) = ok t.value t.size
answer_of (Ok None) = Answer.none
answer_of (Err r) = refused (number r.reason) r.place

-- the code's answer for the number n
abbrev pub number_of : ℕ → Option ℕ
number_of n = pick (leb n most_natural) (Some n) None

-- upstream's contract of `PositionAfterEndOfLongComment` over the part s of its input, and where the comment ends
pub record Position (s : List ℕ) (start end len : ℕ) : Type 0 where
  pub after-start : start ≤ len
  pub before-end : len ≤ end
  pub ends : long_comment 0 s ≡ math.some (len - start)

-- the place after a comment that is closed in the part; none where it is not
abbrev pub PositionIf : List ℕ → ℕ → ℕ → Option ℕ → Type 0
PositionIf s start end (Some len) = Position s start end len
PositionIf s start end None = long_comment 0 s ≡ math.none
