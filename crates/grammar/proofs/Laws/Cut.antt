-- The cut of a text, token by token.
use Rattle.std.specs.Prelude.{ℕ, zero, suc, pred, ◌+◌, ◌≤◌, ◌≡◌, refl, true, List, [], ◌∷◌, length, drop}
use Rattle.std.proofs.Common.{arith, sym, ◌∙◌, ap, one-add, drop-drop}
use Rattle.lexing.specs.Bytes.{is_space, run, starts_with}
use Rattle.lexing.specs.Blanks.{Blanks, passed, unclosed, further, blank, blanks_from, W}
use Rattle.lexing.specs.Tokens.{identifier_length}
use Rattle.lexing.specs.BlankLaws.{W-none}
use Rattle.grammar.specs.Tokens.{Token, illegal, Cut, token, nothing, sign_at, natural_at, name_at, token_at, after_blanks, at_token}
use Rattle.grammar.specs.Tokens.{tokens_after, cut}
use Rattle.tree.specs.Clash.{impossible}

-- the tokens after k bytes are those of the text without them
pub tokens-drop : (k : ℕ) (s : List ℕ) → tokens_after k s ≡ tokens_after 0 (drop k s)
unfolding tokens_after
tokens-drop zero s = refl
tokens-drop (suc k) [] = refl
tokens-drop (suc k) (a ∷ s) = tokens-drop k s

tokens-add : (n k : ℕ) (s : List ℕ) → tokens_after (n + k) s ≡ tokens_after k (drop n s)
tokens-add n k s = tokens-drop (n + k) s ∙ ap (tokens_after 0) (sym (drop-drop k n s)) ∙ sym (tokens-drop k (drop n s))

blanks-same : (b : Blanks) (f g : ℕ → List Token) → ((k : ℕ) → f k ≡ g k) → after_blanks b f ≡ after_blanks b g
blanks-same (passed k) f g h = h k
blanks-same (unclosed n) f g h = refl

no-token : token_at [] ≡ nothing
unfolding token_at name_at natural_at sign_at identifier_length run starts_with
no-token = refl

-- the token at a token's start, and the cut of what stands after it
pub tokens-first : (s : List ℕ) {t : Token} {n : ℕ} → token_at s ≡ token t (suc n) → tokens_after 0 s ≡ t ∷ cut (drop (suc n) s)
unfolding tokens_after at_token cut
tokens-first [] e = impossible (cc no-token)
tokens-first (a ∷ s) {t} {n} e = rw e (ap (λ l. t ∷ l) (blanks-same (W (drop n s)) _ _ (λ k. tokens-add n k s)))

-- where no token can be cut
pub tokens-illegal : (a : ℕ) (s : List ℕ) → token_at (a ∷ s) ≡ nothing → tokens_after 0 (a ∷ s) ≡ illegal ∷ []
unfolding tokens_after at_token
tokens-illegal a s e = rw e refl

one_further : (b : Blanks) (a : ℕ) (s : List ℕ) → after_blanks (further 1 b) (λ k. tokens_after k (a ∷ s)) ≡ after_blanks b (λ k. tokens_after k s)
unfolding tokens_after
one_further (passed k) a s = rw (one-add k) refl
one_further (unclosed n) a s = refl

-- a space is passed over
pub cut-space : (a : ℕ) (s : List ℕ) → is_space a ≡ true → cut (a ∷ s) ≡ cut s
unfolding cut W blanks_from blank
cut-space a s e = rw e (one_further (blanks_from 0 s) a s)

-- a token is cut where no blank stands
pub cut-token : (s : List ℕ) {t : Token} {n : ℕ} → blank s ≡ passed 0 → token_at s ≡ token t (suc n) → cut s ≡ t ∷ cut (drop (suc n) s)
unfolding cut
cut-token s b e = rw (W-none s b) (tokens-first s e)

few-after : (b : Blanks) (rest : ℕ → List Token) (n : ℕ) → 1 ≤ n → ((k : ℕ) → length (rest k) ≤ n) → length (after_blanks b rest) ≤ n
few-after (passed k) rest n z h = h k
few-after (unclosed m) rest n z h = z

few-at : (c : Cut) (a : ℕ) (s : List ℕ) (rest : ℕ → List Token) → ((k : ℕ) → length (rest k) ≤ suc (length s))
    → length (at_token c (a ∷ s) rest) ≤ suc (suc (length s))
unfolding at_token
few-at (token t n) a s rest h =
    let f : length (after_blanks (W (drop n (a ∷ s))) (λ k. rest (pred n + k))) ≤ suc (length s) = few-after (W (drop n (a ∷ s))) _ (suc (length s)) (omega arith) (λ k. h (pred n + k)) in
    omega arith
few-at nothing a s rest h = omega arith

tokens-few : (s : List ℕ) (k : ℕ) → length (tokens_after k s) ≤ suc (length s)
unfolding tokens_after
tokens-few [] k = omega arith
tokens-few (a ∷ s) zero = few-at (token_at (a ∷ s)) a s (λ k. tokens_after k s) (λ k. tokens-few s k)
tokens-few (a ∷ s) (suc k) = let h : length (tokens_after k s) ≤ suc (length s) = tokens-few s k in omega arith

-- a text has at most one token more than bytes
pub cut-few : (s : List ℕ) → length (cut s) ≤ suc (length s)
unfolding cut
cut-few s = few-after (W s) _ (suc (length s)) (omega arith) (tokens-few s)
