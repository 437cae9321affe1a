-- The tokens at a place, by what stands there.
use Rattle.std.specs.Prelude.{ℕ, zero, suc, ◌+◌, ◌≤◌, ◌≡◌, Bool, true, false, length, drop, leb}
use Rattle.std.proofs.Common.{arith, ◌∙◌, length-drop}
use Rattle.std.proofs.Math.Path.{refl, sym, ap}
use mathlib.Core.List.{List, [], ◌∷◌}
use Rattle.std.proofs.Math.Option.{Option, none}
use Rattle.std.proofs.Math.Seq.{drop-drop}
use Rattle.lexing.specs.Answer.{Answer, ok, refused, unclosed_comment, pick}
use Rattle.lexing.specs.Bytes.{is_digit, run, starts_with, bytes}
use Rattle.lexing.specs.Blanks.{Blanks, passed, unclosed, W}
use Rattle.lexing.specs.RunLaws.{run_inside}
use Rattle.lexing.specs.BlankLaws.{W-inside}
use Rattle.lexing.specs.Tokens.{identifier_length, most_natural}
use Rattle.lexing.specs.TokenLaws.{identifier-inside, starts_with-inside}
use Rattle.grammar.specs.Tokens.{Token, name, nat, mark, sign, illegal, Spelling, ◌is◌, signs, Cut, token, nothing, sign_at, natural_at, name_at}
use Rattle.grammar.specs.Tokens.{token_at, tokens_after, after_blanks, cut}
use Rattle.tree.specs.Clash.{impossible}
use Rattle.grammar.proofs.Laws.Stops.{Misses}
use Rattle.grammar.proofs.Laws.Limited.{limited}
use Rattle.grammar.proofs.Laws.Cut.{tokens-drop, tokens-first, tokens-illegal}
use Rattle.grammar.proofs.Bridge.Relation.{tokens}

-- a natural past the limit is illegal
abbrev pub limit : Token → Token
limit (name w) = name w
limit (nat n) = pick (leb n most_natural) (nat n) illegal
limit (mark k) = mark k
limit (sign g) = sign g
limit illegal = illegal

-- the limit on naturals, token by token
pub limited-first : (o : Token) (ts : List Token) → limited (o ∷ ts) ≡ limit o ∷ limited ts
limited-first (name w) ts = refl
limited-first (nat n) ts = refl
limited-first (mark k) ts = refl
limited-first (sign g) ts = refl
limited-first illegal ts = refl

-- a token lies inside the text
sign-inside : (g : List Spelling) (s : List ℕ) {o : Token} {n : ℕ} → sign_at g s ≡ token o n → n ≤ length s
unfolding sign_at
sign-inside [] s e = impossible (cc)
sign-inside (◌is◌ w t ∷ g) s {o} {n} e = by_sign (starts_with (bytes w) s) refl e (λ e. sign-inside g s e)
  where
    by_sign : (x : Bool) → starts_with (bytes w) s ≡ x → (elim x as (λ _. Cut) [ true ↦ token t (length (bytes w)) | false ↦ sign_at g s ]) ≡ token o n
        → (sign_at g s ≡ token o n → n ≤ length s) → n ≤ length s
    by_sign true p e ih = let h : length (bytes w) ≡ n = cc in rw (← h) (starts_with-inside (bytes w) s p)
    by_sign false p e ih = ih e

natural-inside : (k : ℕ) (s : List ℕ) {o : Token} {n : ℕ} → k ≤ length s → natural_at k s ≡ token o n → n ≤ length s
unfolding natural_at
natural-inside zero s h e = sign-inside signs s e
natural-inside (suc k) s {n} h e = let i : suc k ≡ n = cc in rw (← i) h

name-inside : (k : ℕ) (s : List ℕ) {o : Token} {n : ℕ} → k ≤ length s → name_at k s ≡ token o n → n ≤ length s
unfolding name_at
name-inside zero s h e = natural-inside (run is_digit s) s (run_inside is_digit s) e
name-inside (suc k) s {n} h e = let i : suc k ≡ n = cc in rw (← i) h

token-inside : (s : List ℕ) {o : Token} {n : ℕ} → token_at s ≡ token o n → n ≤ length s
unfolding token_at
token-inside s e = name-inside (identifier_length s) s (identifier-inside s) e

module _ (text : List ℕ) (at : ℕ) where
  -- the tokens after one of n bytes, by the blanks after it
  abbrev pub follow : ℕ → Blanks → List Token
  follow n (passed k) = tokens text (at + (n + k))
  follow n (unclosed place) = illegal ∷ []

  -- a byte rule's answer with the value v after a token of n bytes
  abbrev pub read_then : {A : Type 0} → A → ℕ → Blanks → Answer A
  read_then v n (passed k) = ok v (at + (n + k))
  read_then v n (unclosed place) = refused unclosed_comment (at + (n + place))

  follow-cut : (n : ℕ) (b : Blanks) → limited (after_blanks b (λ k. tokens_after k (drop n (drop at text)))) ≡ follow n b
  unfolding tokens
  follow-cut n (passed k) =
      ap limited
      (tokens-drop k (drop n (drop at text)) ∙ ap (tokens_after 0) (drop-drop k n (drop at text) ∙ drop-drop (n + k) at text)
      ∙ sym (tokens-drop (at + (n + k)) text))
  follow-cut n (unclosed place) = refl

  -- a token, and the tokens after its blanks
  pub tokens-here : {o : Token} {n : ℕ} → token_at (drop at text) ≡ token o (suc n)
      → tokens text at ≡ limit o ∷ follow (suc n) (W (drop (suc n) (drop at text)))
  unfolding tokens cut
  tokens-here {o} {n} e =
      ap limited (tokens-drop at text ∙ tokens-first (drop at text) e) ∙ limited-first o (cut (drop (suc n) (drop at text)))
      ∙ ap (λ l. limit o ∷ l) (follow-cut (suc n) (W (drop (suc n) (drop at text))))

  -- a token and its blanks lie inside the text
  pub inside-here : {o : Token} {n k : ℕ} → token_at (drop at text) ≡ token o (suc n) → W (drop (suc n) (drop at text)) ≡ passed k
      → at + (suc n + k) ≤ length text
  inside-here {n} {k} e w =
      let i : suc n ≤ length (drop at text) = token-inside (drop at text) e in
      let j : k ≤ length (drop (suc n) (drop at text)) = rw w at (W-inside (drop (suc n) (drop at text))) in
      omega (arith, length-drop at text, length-drop (suc n) (drop at text))

  -- where no token can be cut
  pub nothing-here : {X : Type 0} (look : Token → Option X) → look illegal ≡ none → token_at (drop at text) ≡ nothing → Misses look (tokens text at)
  unfolding tokens tokens_after
  nothing-here look i e = rw (tokens-drop at text) (by_bytes (drop at text) e)
    where
      by_bytes : (s : List ℕ) → token_at s ≡ nothing → Misses look (limited (tokens_after 0 s))
      by_bytes [] e = tt
      by_bytes (a ∷ s) e = rw (tokens-illegal a s e) i
