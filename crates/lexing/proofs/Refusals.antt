-- Where blanks are refused: at the long comment that they meet and that is not closed, and nowhere else. Where tokens are: in the blanks after
-- them, and a natural that is too large.
use Rattle.std.specs.Prelude.{◌≡◌, ◌↔◌, refl, Bool, true, false, ◌⊎◌, List, [], ◌∷◌, ℕ, zero, suc, ◌+◌, ◌≤◌, ◌<◌, length, take, drop, leb}
use Rattle.std.proofs.Common.{sym, ap, ◌∙◌, inl, inr, arith, le_refl, length-drop, drop-drop}
use Rattle.std.proofs.Math.Option.{Option, none as never, some}
use Rattle.lexing.specs.Answer.{Answer, ok, none, refused, large_natural, pick}
use Rattle.lexing.specs.Bytes.{starts_with, same_bytes, is_space, is_digit, custom_literal_char, run}
use Rattle.lexing.specs.Blanks.{Blanks, passed, unclosed, further, long_comment, comment, blank, blanks_from, W}
use Rattle.lexing.specs.Tokens.{closed, lexeme, unless_empty, identifier_length, parse_id, parse_custom_literal, keyword, sign, sign_not_prefix, natural, decimal, most_natural}
use Rattle.lexing.specs.Refused.{Leads, here, later, Opens, Meets, Refused}
use Rattle.lexing.specs.RunLaws.{pick-cases}
use Rattle.lexing.specs.BlankLaws.{W-blank, W-none, W-unclosed, further-zero, further-further}
use Rattle.lexing.specs.TokenLaws.{starts_with-true}

-- the blank at an opening mark is the long comment
pub blank-comment : (s : List ℕ) → Opens s → blank s ≡ comment (long_comment 0 (drop 2 s))
unfolding blank is_space starts_with
blank-comment s o = ap blank (starts_with-true (47 ∷ 42 ∷ []) s o)

-- a blank that is not closed is a long comment
blank-unclosed : (s : List ℕ) {n : ℕ} → blank s ≡ unclosed n → (n ≡ 0) × Opens s × (long_comment 0 (drop 2 s) ≡ never)
unfolding blank
blank-unclosed [] {n} e = cc
blank-unclosed (a ∷ s) {n} e =
    pick-cases (is_space a) e (λ _ e. cc)
    (λ _ e. pick-cases (starts_with (47 ∷ 47 ∷ []) (a ∷ s)) e (λ _ e. cc)
    (λ _ e. pick-cases (starts_with (47 ∷ 42 ∷ []) (a ∷ s)) e (λ o e. by_end o (long_comment 0 (drop 1 s)) refl e) (λ _ e. cc)))
  where
    by_end : Opens (a ∷ s) → (r : Option ℕ) → long_comment 0 (drop 1 s) ≡ r → comment r ≡ unclosed n → (n ≡ 0) × Opens (a ∷ s) × (long_comment 0 (drop 1 s) ≡ never)
    by_end o never p e = (cc, o, p)
    by_end o (some m) p e = cc

-- past blanks that lead to p blanks go on
pub W-led : {s : List ℕ} {p : ℕ} → Leads s p → W s ≡ further p (W (drop p s))
W-led {s} here = sym (further-zero (W s))
W-led {s} (later {k} {p} e l) =
    W-blank s k e ∙ ap (further (suc k)) (W-led l) ∙ further-further (suc k) p (W (drop p (drop (suc k) s)))
    ∙ ap (λ t. further (suc k + p) (W t)) (drop-drop p (suc k) s)

-- blanks lead to where they end, and there no blank stands or one that is not closed
abbrev pub Ends : List ℕ → Blanks → Type 0
Ends s (passed n) = Leads s n × (blank (drop n s) ≡ passed 0)
Ends s (unclosed p) = Leads s p × (blank (drop p s) ≡ unclosed 0)

-- the same with a blank more in front
ends-later : (s : List ℕ) (k : ℕ) (r : Blanks) → blank s ≡ passed (suc k) → Ends (drop (suc k) s) r → Ends s (further (suc k) r)
ends-later s k (passed n) e (l, f) = (later e l, rw (← drop-drop n (suc k) s) f)
ends-later s k (unclosed p) e (l, f) = (later e l, rw (← drop-drop p (suc k) s) f)

ends-within : (n : ℕ) (s : List ℕ) → length s ≤ n → Ends s (W s)
unfolding W blanks_from blank
ends-within n [] h = (here, refl)
ends-within zero (a ∷ s) h = absurd (omega arith)
ends-within (suc n) (a ∷ s) h = by-blank (blank (a ∷ s)) refl (λ k. ends-within n (drop k s) (omega (arith, length-drop k s)))
  where
    by-blank : (r : Blanks) → blank (a ∷ s) ≡ r → ((k : ℕ) → Ends (drop k s) (W (drop k s))) → Ends (a ∷ s) (W (a ∷ s))
    by-blank (passed zero) e f = rw (W-none (a ∷ s) e) (here, e)
    by-blank (passed (suc k)) e f = rw (W-blank (a ∷ s) k e) (ends-later (a ∷ s) k (W (drop k s)) e (f k))
    by-blank (unclosed m) e f = let z = (blank-unclosed (a ∷ s) e).0 in rw (W-unclosed (a ∷ s) m e, z) (here, e ∙ ap unclosed z)

-- that holds of every text
pub W-ends : (s : List ℕ) → Ends s (W s)
W-ends s = ends-within (length s) s (le_refl _)

-- blanks are refused at p where they meet a long comment there that is not closed, and only there
pub W-refused : (s : List ℕ) (p : ℕ) → (W s ≡ unclosed p) ↔ (Meets s p × (long_comment 0 (drop (p + 2) s) ≡ never))
W-refused s p = (by-end (W s) (W-ends s), λ m. W-led m.0.0 ∙ ap (further p) (not-closed m.0.1 m.1) ∙ ap unclosed (omega arith))
  where
    not-closed : Opens (drop p s) → long_comment 0 (drop (p + 2) s) ≡ never → W (drop p s) ≡ unclosed 0
    not-closed o e = W-unclosed (drop p s) 0 (blank-comment (drop p s) o ∙ ap (λ t. comment (long_comment 0 t)) (drop-drop 2 p s) ∙ ap comment e)

    by-end : (r : Blanks) → Ends s r → r ≡ unclosed p → Meets s p × (long_comment 0 (drop (p + 2) s) ≡ never)
    by-end (passed n) f e = cc
    by-end (unclosed q) (l, f) e =
        let h : q ≡ p = cc in
        let (z, o, n) = blank-unclosed (drop q s) f in
        rw (← h, ← drop-drop 2 q s) ((l, o), n)

-- there is at most one such place
pub W-refused-once : (s : List ℕ) (p q : ℕ) → Meets s p × (long_comment 0 (drop (p + 2) s) ≡ never) → Meets s q × (long_comment 0 (drop (q + 2) s) ≡ never)
    → p ≡ q
W-refused-once s p q m n = let h : unclosed p ≡ unclosed q = sym ((W-refused s p).1 m) ∙ (W-refused s q).1 n in cc

-- a comment that they meet is closed, unless they are refused at it
pub met-closed : (s : List ℕ) (p : ℕ) → Meets s p → (W s ≡ unclosed p → ⊥) → (n : ℕ) × (long_comment 0 (drop (p + 2) s) ≡ some n)
met-closed s p m f = by_end (long_comment 0 (drop (p + 2) s)) refl
  where
    by_end : (r : Option ℕ) → long_comment 0 (drop (p + 2) s) ≡ r → (n : ℕ) × (r ≡ some n)
    by_end never e = absurd (f ((W-refused s p).1 (m, e)))
    by_end (some n) e = (n, refl)

-- ---- tokens, each by the tests of its definition

module _ {number place : ℕ} where
  -- a token with the blanks after it is refused where they are
  pub lexeme-refused : (v n : ℕ) (s : List ℕ) → (lexeme v n s ≡ refused number place) ↔ Refused n s number place
  unfolding lexeme
  lexeme-refused v n s = (by-blanks (W (drop n s)) refl, λ (k, i, e, h). ap (closed v n) e ∙ rw (i, h) refl)
    where
      by-blanks : (r : Blanks) → W (drop n s) ≡ r → closed v n r ≡ refused number place → Refused n s number place
      by-blanks (passed k) w e = cc
      by-blanks (unclosed k) w e = (k, cc, w, cc)

  -- the same under the tests of the readers of tokens
  module _ {r : Answer ℕ} {Q : Type 0} (q : (r ≡ refused number place) ↔ Q) where
    unless_empty-refused : (n : ℕ) → (unless_empty n r ≡ refused number place) ↔ ((0 < n) × Q)
    unless_empty-refused zero = (λ e. cc, λ (h, _). absurd (omega arith))
    unless_empty-refused (suc n) = (λ e. (omega arith, q.0 e), λ (_, x). q.1 x)

    where-refused : (t : Bool) → (pick t r none ≡ refused number place) ↔ ((t ≡ true) × Q)
    where-refused true = (λ e. (refl, q.0 e), λ (_, x). q.1 x)
    where-refused false = (λ e. cc, λ (h, _). cc)

    unless-refused : (t : Bool) → (pick t none r ≡ refused number place) ↔ ((t ≡ false) × Q)
    unless-refused true = (λ e. cc, λ (h, _). cc)
    unless-refused false = (λ e. (refl, q.0 e), λ (_, x). q.1 x)

    or-refused : (t : Bool) (m at : ℕ) → (pick t r (refused m at) ≡ refused number place) ↔ (((t ≡ true) × Q) ⊎ ((t ≡ false) × (number ≡ m) × (place ≡ at)))
    or-refused true m at = (λ e. inl (refl, q.0 e), λ c. elim c [ inl x ↦ q.1 x.1 | inr x ↦ let h : true ≡ false = x.0 in cc ])
    or-refused false m at = (λ e. inr (refl, cc, cc), λ c. elim c [ inl x ↦ let h : false ≡ true = x.0 in cc | inr x ↦ rw (x.1, x.2) refl ])

  -- a name is refused in its blanks alone
  pub parse_id-refused : (s : List ℕ) → (parse_id s ≡ refused number place) ↔ ((0 < identifier_length s) × Refused (identifier_length s) s number place)
  unfolding parse_id
  parse_id-refused s = unless_empty-refused (lexeme-refused (identifier_length s) (identifier_length s) s) (identifier_length s)

  -- so is a keyword
  pub keyword-refused : (w s : List ℕ) → (keyword w s ≡ refused number place)
      ↔ ((same_bytes (take (identifier_length s) s) w ≡ true) × Refused (identifier_length s) s number place)
  unfolding keyword
  keyword-refused w s = where-refused (lexeme-refused 0 (identifier_length s) s) (same_bytes (take (identifier_length s) s) w)

  -- and a sign
  pub sign-refused : (w s : List ℕ) → (sign w s ≡ refused number place) ↔ ((starts_with w s ≡ true) × Refused (length w) s number place)
  unfolding sign
  sign-refused w s = where-refused (lexeme-refused 0 (length w) s) (starts_with w s)

  -- where the longer one does not stand
  pub sign_not_prefix-refused : (w longer s : List ℕ) → (sign_not_prefix w longer s ≡ refused number place)
      ↔ ((starts_with longer s ≡ false) × ((starts_with w s ≡ true) × Refused (length w) s number place))
  unfolding sign_not_prefix
  sign_not_prefix-refused w longer s = unless-refused (sign-refused w s) (starts_with longer s)

  -- a natural is refused at its first digit where it is too large, else in its blanks alone
  pub natural-refused : (s : List ℕ) → (natural s ≡ refused number place)
      ↔ ((0 < run is_digit s)
      × (((leb (decimal 0 (take (run is_digit s) s)) most_natural ≡ true) × Refused (run is_digit s) s number place)
      ⊎ ((leb (decimal 0 (take (run is_digit s) s)) most_natural ≡ false) × (number ≡ large_natural) × (place ≡ 0))))
  unfolding natural
  natural-refused s =
      unless_empty-refused
      (or-refused (lexeme-refused (decimal 0 (take (run is_digit s) s)) (run is_digit s) s) (leb (decimal 0 (take (run is_digit s) s)) most_natural) large_natural 0)
      (run is_digit s)

  -- no blank is taken after a custom literal's text, so it is never refused
  pub parse_custom_literal-unrefused : (s : List ℕ) → parse_custom_literal s ≡ refused number place → ⊥
  unfolding parse_custom_literal
  parse_custom_literal-unrefused s e = by_count (run custom_literal_char s) e
    where
      by_count : (n : ℕ) → unless_empty n (ok n n) ≡ refused number place → ⊥
      by_count zero e = cc
      by_count (suc n) e = cc
