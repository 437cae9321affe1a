-- What a reading step answers, and the choice by a test.
use Rattle.std.specs.Prelude.{ℕ, ◌+◌}
-- the first where the test is true, else the second
pub use Rattle.std.specs.Prelude.{cond as pick}

-- The answer of a step that reads at a place: `ok`, with a value and the place after what was kept; `none`, it failed having kept nothing;
-- `refused`, with a refusal's number and place (REFERENCE, "The refusals").
pub data Answer (A : Type 0) : Type 0 where
  ok : A → ℕ → Answer A
  none : Answer A
  refused : ℕ → ℕ → Answer A

-- The numbers of a reading's refusals (REFERENCE, "The refusals"). The text is longer than it may be:
abbrev pub text_too_long : ℕ
text_too_long = 1

-- the rules can't go on:
abbrev pub unusable_token : ℕ
unusable_token = 2

-- one level more than may be would be opened:
abbrev pub level_too_deep : ℕ
level_too_deep = 3

-- a natural is above the largest:
abbrev pub large_natural : ℕ
large_natural = 4

-- the tree has more words than the table, or than a table may have:
abbrev pub tree_too_large : ℕ
tree_too_large = 5

-- a long comment is not closed:
abbrev pub unclosed_comment : ℕ
unclosed_comment = 12

-- the text ends where more must follow:
abbrev pub ended_too_soon : ℕ
ended_too_soon = 13

-- the answer of a step over `drop at text`, with its places counted in `text`
abbrev pub moved : {A : Type 0} → ℕ → Answer A → Answer A
moved at (ok v n) = ok v (at + n)
moved at none = none
moved at (refused number place) = refused number (at + place)
