-- Reading steps at a place of a text: the token readers of `lexing`, and the combinators that the rules are written with (REFERENCE,
-- "Choice and repetition").
use Rattle.std.specs.Prelude.{ℕ, List, drop}
use Prim.Native.String.{String}
use Rattle.lexing.specs.Answer.{Answer, ok, refused, moved, unusable_token}
use Rattle.lexing.specs.Tokens.{parse_id, parse_custom_literal, keyword, sign, sign_not_prefix, natural}
use Rattle.tree.specs.Ast.{Span}
use Rattle.lexing.specs.Bytes.{bytes}

-- a rule: what it answers at a place
abbrev pub Reader : Type 0 → Type 0
Reader A = ℕ → Answer A

-- after a step: `stop` where it kept nothing, `go` with its value and the place after it
unfoldable pub after : {A B : Type 0} → Answer A → Answer B → (A → ℕ → Answer B) → Answer B
after (ok a next) stop go = go a next
after Answer.none stop go = stop
after (refused number place) stop go = refused number place

-- a step that must follow at a place where tokens were kept before: refusal 2 there where it keeps nothing
abbrev pub need : {A B : Type 0} → ℕ → Answer A → (A → ℕ → Answer B) → Answer B
need at r go = after r (refused unusable_token at) go

-- the same, and nothing after it
abbrev pub must : {A : Type 0} → ℕ → Answer A → Answer A
must at r = need at r (λ a next. ok a next)

-- a branch, and the next one where it kept nothing
abbrev pub ◌or◌ : {A : Type 0} → Answer A → Answer A → Answer A
◌or◌ r q = after r q (λ a next. ok a next)

-- `.M(f)`
abbrev pub mapped : {A B : Type 0} → (A → B) → Answer A → Answer B
mapped f r = after r Answer.none (λ a next. ok (f a) next)

infixr 20 ◌or◌
module _ (text : List ℕ) where
  -- `T`, `Sym` and `SymNotPrefix` of given bytes
  abbrev pub keyword_at : List ℕ → Reader ℕ
  keyword_at w at = moved at (keyword w (drop at text))

  abbrev pub sign_at : List ℕ → Reader ℕ
  sign_at w at = moved at (sign w (drop at text))

  abbrev pub T : String → Reader ℕ
  T w at = keyword_at (bytes w) at

  abbrev pub Sym : String → Reader ℕ
  Sym w at = sign_at (bytes w) at

  abbrev pub SymNotPrefix : String → String → Reader ℕ
  SymNotPrefix w longer at = moved at (sign_not_prefix (bytes w) (bytes longer) (drop at text))

  -- a token of that length at a place, as a name
  abbrev pub spanned : ℕ → Answer ℕ → Answer Span
  spanned at r = after r Answer.none (λ n next. ok (record { start = at; len = n }) next)

  abbrev pub parse_name : Reader Span
  parse_name at = spanned at (moved at (parse_id (drop at text)))

  -- `bool`, `int` and `tag` are identifiers too, and each type is the name that stands there
  abbrev pub parse_type : Reader Span
  parse_type at = parse_name at

  abbrev pub parse_literal_text : Reader Span
  parse_literal_text at = spanned at (moved at (parse_custom_literal (drop at text)))

  abbrev pub parse_nat : Reader ℕ
  parse_nat at = moved at (natural (drop at text))
