-- Whether a rule keeps a token, as a test on the text: the laws of tokens and of the combinators.
use Prim.Native.Nat.{ℕ, zero, suc}
use Rattle.std.proofs.Common.{arith, lt-ltb}
use Rattle.std.specs.Prelude.{◌≡◌, refl, ◌↔◌, Bool, ◌&&◌, ◌||◌, not, List, ◌∷◌, drop, take, length, ltb, leb}
use Rattle.std.proofs.Math.Bool.{true, false}
use Rattle.lexing.specs.Answer.{Answer, ok, refused, moved, large_natural, pick}
use Rattle.lexing.specs.Bytes.{is_digit, run, starts_with, same_bytes}
use Rattle.lexing.specs.Blanks.{Blanks, passed, unclosed, W}
use Rattle.lexing.specs.Tokens.{closed, lexeme, unless_empty, identifier_length, decimal, most_natural, parse_id, keyword, sign, sign_not_prefix, natural}
use Rattle.tree.specs.Clash.{impossible}
use Rattle.grammar.specs.Steps.{after, ◌or◌, keyword_at, sign_at, parse_name, parse_nat}

-- an answer keeps a token, or is refused, exactly where the test is true
pub data Keeps {A : Type 0} : Bool → Answer A → Type 0 where
  keeps : {a : A} {next : ℕ} → Keeps true (ok a next)
  refuses : {number place : ℕ} → Keeps true (refused number place)
  nothing : Keeps false Answer.none

-- the test of an answer
abbrev pub kept : {A : Type 0} → Answer A → Bool
kept (ok a next) = true
kept Answer.none = false
kept (refused number place) = true

-- every answer has it
pub tested : {A : Type 0} (r : Answer A) → Keeps (kept r) r
tested (ok a next) = keeps
tested Answer.none = nothing
tested (refused number place) = refuses

-- two answers under one test keep nothing alike
pub alike : {A B : Type 0} {b : Bool} {r : Answer A} {q : Answer B} → Keeps b r → Keeps b q → (r ≡ Answer.none) ↔ (q ≡ Answer.none)
alike keeps keeps = (λ e. impossible (cc), λ e. impossible (cc))
alike keeps refuses = (λ e. impossible (cc), λ e. impossible (cc))
alike refuses keeps = (λ e. impossible (cc), λ e. impossible (cc))
alike refuses refuses = (λ e. impossible (cc), λ e. impossible (cc))
alike nothing nothing = (λ e. refl, λ e. refl)

-- ---- the combinators

module _ {A B : Type 0} {go : A → ℕ → Answer B} (k : (a : A) (next : ℕ) → Keeps true (go a next)) where
  -- a step or what stands in its place, if a token is always kept after the step
  pub step : {b c : Bool} {r : Answer A} {stop : Answer B} → Keeps b r → Keeps c stop → Keeps (b || c) (after r stop go)
  unfolding after
  step (keeps {a} {next}) h = k a next
  step refuses h = refuses
  step nothing h = h

  -- a step in whose place nothing stands
  pub led : {b : Bool} {r : Answer A} → Keeps b r → Keeps b (after r Answer.none go)
  unfolding after
  led (keeps {a} {next}) = k a next
  led refuses = refuses
  led nothing = nothing

  -- any step in whose place a token is kept
  pub sure : (r : Answer A) {stop : Answer B} → Keeps true stop → Keeps true (after r stop go)
  unfolding after
  sure (ok a next) h = k a next
  sure Answer.none h = h
  sure (refused number place) h = refuses

-- one of two branches
pub either : {A : Type 0} {b c : Bool} {r q : Answer A} → Keeps b r → Keeps c q → Keeps (b || c) (r or q)
either = step (λ _ _. keeps)

-- ---- tokens

-- a token where a test is true
pub picked : {A : Type 0} (b : Bool) {r : Answer A} → Keeps true r → Keeps b (pick b r Answer.none)
picked true h = h
picked false h = nothing

-- a token of some bytes
nonempty : (n : ℕ) {r : Answer ℕ} → Keeps true r → Keeps (ltb 0 n) (unless_empty n r)
nonempty zero h = nothing
nonempty (suc n) h = rw (lt-ltb 0 (suc n) (omega arith)) h

-- with the blanks after it
lexeme-keeps : (v n : ℕ) (s : List ℕ) → Keeps true (lexeme v n s)
unfolding lexeme
lexeme-keeps v n s = by-blanks (W (drop n s))
  where
    by-blanks : (b : Blanks) → Keeps true (closed v n b)
    by-blanks (passed k) = keeps
    by-blanks (unclosed k) = refuses

-- at a place
placed : {b : Bool} {r : Answer ℕ} (at : ℕ) → Keeps b r → Keeps b (moved at r)
placed at keeps = keeps
placed at refuses = refuses
placed at nothing = nothing

-- a name stands at the start of a text; it is w
abbrev pub is_named : List ℕ → Bool
is_named s = ltb 0 (identifier_length s)

abbrev pub is_word : List ℕ → List ℕ → Bool
is_word w s = is_named s && same_bytes (take (identifier_length s) s) w

module _ (text : List ℕ) (at : ℕ) where
  -- signs, names, words and naturals
  abbrev here : List ℕ
  here = drop at text

  pub sign-keeps : (w : List ℕ) → Keeps (starts_with w (drop at text)) (sign_at text w at)
  unfolding sign
  sign-keeps w = placed at (picked (starts_with w here) (lexeme-keeps 0 (length w) here))

  pub not_prefix-keeps : (w longer : List ℕ)
      → Keeps (not (starts_with longer (drop at text)) && starts_with w (drop at text)) (moved at (sign_not_prefix w longer (drop at text)))
  unfolding sign_not_prefix sign
  not_prefix-keeps w longer = placed at (by-longer (starts_with longer here))
    where
      by-longer : (b : Bool) → Keeps (not b && starts_with w here) (pick b Answer.none (sign w here))
      by-longer true = nothing
      by-longer false = picked (starts_with w here) (lexeme-keeps 0 (length w) here)

  pub name-keeps : Keeps (is_named (drop at text)) (parse_name text at)
  unfolding parse_id
  name-keeps = led (λ _ _. keeps) (placed at (nonempty (identifier_length here) (lexeme-keeps _ _ here)))

  pub word_keeps : (b : ℕ) (w : List ℕ) → Keeps (is_word (b ∷ w) (drop at text)) (keyword_at text (b ∷ w) at)
  unfolding keyword same_bytes
  word_keeps b w = placed at (by_length (identifier_length here))
    where
      by_length : (n : ℕ) → Keeps (ltb 0 n && same_bytes (take n here) (b ∷ w)) (pick (same_bytes (take n here) (b ∷ w)) (lexeme 0 n here) Answer.none)
      by_length zero = nothing
      by_length (suc n) = rw (lt-ltb 0 (suc n) (omega arith)) (picked (same_bytes (take (suc n) here) (b ∷ w)) (lexeme-keeps 0 (suc n) here))

  pub natural-keeps : Keeps (ltb 0 (run is_digit (drop at text))) (parse_nat text at)
  unfolding natural
  natural-keeps = placed at (nonempty (run is_digit here) (by_size (leb (decimal 0 (take (run is_digit here) here)) most_natural)))
    where
      by_size : (b : Bool) → Keeps true (pick b (lexeme (decimal 0 (take (run is_digit here) here)) (run is_digit here) here) (refused large_natural 0))
      by_size true = lexeme-keeps _ _ here
      by_size false = refuses
