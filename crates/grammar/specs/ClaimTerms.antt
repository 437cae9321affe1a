-- The terms of the claims on the reading rules: by which numbers and where a reading is refused, and where a rule is opened.
use Rattle.std.specs.Prelude.{ℕ, ◌+◌, ◌≤◌, ◌<◌, ◌≡◌, ◌↔◌, List, length, drop}
use Rattle.std.proofs.Math.Option.{none}
use Rattle.lexing.specs.Blanks.{long_comment}
use Rattle.lexing.specs.Refused.{Opens}
use Rattle.lexing.specs.Answer.{Answer, refused, text_too_long, unusable_token, level_too_deep, large_natural, tree_too_large, unclosed_comment, ended_too_soon}
use Rattle.tree.specs.Limits.{most_text}
use Rattle.grammar.specs.Steps.{Reader, parse_name}
use Rattle.grammar.specs.Statements.{Gallery}
use Rattle.grammar.specs.Reading.{Outcome, refusal}

-- the refusals of the rules: a token that cannot be used, which may be the text's end; at a byte of the text depth 201, or a natural above the largest;
-- a long comment that is not closed, where it opens
pub data ByRule (text : List ℕ) : ℕ → ℕ → Type 0 where
  unusable-token : {place : ℕ} → ByRule text unusable_token place
  depth : {place : ℕ} → place < length text → ByRule text level_too_deep place
  large-natural : {place : ℕ} → place < length text → ByRule text large_natural place
  open-comment : {place : ℕ} → Opens (drop place text) → long_comment 0 (drop (place + 2) text) ≡ none → ByRule text unclosed_comment place

-- the refusals of a reading, by number and place: 1 of a text that is too long; those of the rules, at a byte of the text; 13 at its end; 5 at 0
pub data OfReading (text : List ℕ) : ℕ → ℕ → Type 0 where
  long-text : most_text < length text → OfReading text text_too_long most_text
  by-rule : {number place : ℕ} → length text ≤ most_text → ByRule text number place → place < length text → OfReading text number place
  ended-too-soon : length text ≤ most_text → OfReading text ended_too_soon (length text)
  many-words : length text ≤ most_text → OfReading text tree_too_large 0

-- how a reading's outcome comes from the one by the rules' refusals: where the text ended too soon it is told so, at the same place; any other stays
pub data ToldAs (text : List ℕ) : Outcome → Outcome → Type 0 where
  ended : {table : List ℕ} → ToldAs text (refusal unusable_token (length text) table) (refusal ended_too_soon (length text) table)
  stays : {w : Outcome} → ((table : List ℕ) → w ≡ refusal unusable_token (length text) table → ⊥) → ToldAs text w w

-- two rules keep nothing at the same places: a refusal is no `none`
abbrev pub KeptAlike : {A : Type 0} → Reader A → Reader A → Type 0
KeptAlike p q = (at : ℕ) → (p at ≡ Answer.none) ↔ (q at ≡ Answer.none)

-- the rules of two galleries do, each with its own
pub record GalleriesKeptAlike (c c' : Gallery) : Type 0 where
  pub expr : KeptAlike c.expr c'.expr
  pub block : KeptAlike c.block c'.block
  pub stmt : KeptAlike c.stmt c'.stmt
  pub if_cont : KeptAlike c.if_cont c'.if_cont
  pub loop : KeptAlike c.loop c'.loop

-- a rule that may not be opened answers nothing, or is refused by 3 where it stands
pub data Unopened {A : Type 0} (at : ℕ) : Answer A → Type 0 where
  nothing : Unopened at Answer.none
  too-deep : Unopened at (refused level_too_deep at)

-- a statement that may not be: the same, or a long comment that is not closed stands after a name, before its mark
pub data UnopenedStmt (text : List ℕ) {A : Type 0} (at : ℕ) : Answer A → Type 0 where
  unopened : {r : Answer A} → Unopened at r → UnopenedStmt text at r
  open-comment : {place : ℕ} → parse_name text at ≡ refused unclosed_comment place → UnopenedStmt text at (refused unclosed_comment place)

-- no rule of a gallery may be opened
pub record GalleryUnopened (text : List ℕ) (c : Gallery) : Type 0 where
  pub expr : (at : ℕ) → Unopened at (c.expr at)
  pub block : (at : ℕ) → Unopened at (c.block at)
  pub stmt : (at : ℕ) → UnopenedStmt text at (c.stmt at)
  pub if_cont : (at : ℕ) → Unopened at (c.if_cont at)
  pub loop : (at : ℕ) → Unopened at (c.loop at)
