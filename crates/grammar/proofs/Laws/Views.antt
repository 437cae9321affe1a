-- What stands where a token begins, as bytes and as a token: one case for each token. In each case a reader's tests on bytes compute, so
-- that a test is compared with the parser's by a case each.
use Rattle.std.specs.Prelude.{ℕ, suc, ◌≡◌, refl, Bool, true, false, ◌&&◌, ◌⊎◌, List, [], ◌∷◌, ◌++◌, eqb, length, take}
use Rattle.std.proofs.Common.{inl, inr, eqb-true}
use Rattle.lexing.specs.Bytes.{is_digit, can_start_identifier_char, identifier_char, run, starts_with, bytes}
use Rattle.lexing.specs.Tokens.{identifier_length, decimal}
use Rattle.grammar.specs.Tokens.{Sign, '!', '-', '*', '+', '==', '!=', '<', '<=', '>=', '>', '&&', '||', '==>', '<==', '<==>'}
use Rattle.grammar.specs.Tokens.{Mark, lparen, rparen, comma, name, nat, mark, sign, token, nothing, sign_at, natural_at, name_at, token_at}
use Rattle.tree.specs.Clash.{impossible}

-- how signs are spelt
abbrev pub spelt : Sign → List ℕ
spelt '!' = bytes "!"
spelt '-' = bytes "-"
spelt '*' = bytes "*"
spelt '+' = bytes "+"
spelt '==' = bytes "=="
spelt '!=' = bytes "!="
spelt '<' = bytes "<"
spelt '<=' = bytes "<="
spelt '>=' = bytes ">="
spelt '>' = bytes ">"
spelt '&&' = bytes "&&"
spelt '||' = bytes "||"
spelt '==>' = bytes "==>"
spelt '<==' = bytes "<=="
spelt '<==>' = bytes "<==>"

-- the spelling of a bracket or comma
abbrev pub spelt_mark : Mark → List ℕ
spelt_mark lparen = bytes "("
spelt_mark rparen = bytes ")"
spelt_mark comma = bytes ","

-- no longer sign stands where g is followed by s
abbrev pub Longest : Sign → List ℕ → Type 0
Longest '!' s = starts_with (bytes "=") s ≡ false
Longest '-' s = Unit {0}
Longest '*' s = Unit {0}
Longest '+' s = Unit {0}
Longest '==' s = starts_with (bytes ">") s ≡ false
Longest '!=' s = Unit {0}
Longest '<' s = starts_with (bytes "=") s ≡ false
Longest '<=' s = starts_with (bytes "=") s ≡ false
Longest '>=' s = Unit {0}
Longest '>' s = starts_with (bytes "=") s ≡ false
Longest '&&' s = Unit {0}
Longest '||' s = Unit {0}
Longest '==>' s = Unit {0}
Longest '<==' s = starts_with (bytes ">") s ≡ false
Longest '<==>' s = Unit {0}

-- no token can be cut
pub record Nothing (s : List ℕ) : Type 0 where
  pub no_name : identifier_length s ≡ 0
  pub no_digit : run is_digit s ≡ 0
  pub no_sign : (g : Sign) → starts_with (spelt g) s ≡ false
  pub no_mark : (k : Mark) → starts_with (spelt_mark k) s ≡ false

-- what stands at the start of a text
pub data View : List ℕ → Type 0 where
  word_view : (a : ℕ) (s : List ℕ) → can_start_identifier_char a ≡ true → View (a ∷ s)
  digit_view : (a : ℕ) (s : List ℕ) → can_start_identifier_char a ≡ false → is_digit a ≡ true → View (a ∷ s)
  sign_view : (g : Sign) (s : List ℕ) → Longest g s → View (spelt g ++ s)
  mark_view : (k : Mark) (s : List ℕ) → View (spelt_mark k ++ s)
  no_view : {s : List ℕ} → Nothing s → View s

-- the token of each case
pub word-token : (a : ℕ) (s : List ℕ) → can_start_identifier_char a ≡ true
    → token_at (a ∷ s) ≡ token (name (a ∷ take (run identifier_char s) s)) (suc (run identifier_char s))
unfolding token_at name_at identifier_length
word-token a s e = rw e refl

run_on : (p : ℕ → Bool) (a : ℕ) (s : List ℕ) → p a ≡ true → run p (a ∷ s) ≡ suc (run p s)
unfolding run
run_on p a s e = rw (e, run) refl

-- the token where a digit stands
pub digit-token : (a : ℕ) (s : List ℕ) → can_start_identifier_char a ≡ false → is_digit a ≡ true
    → token_at (a ∷ s) ≡ token (nat (decimal 0 (a ∷ take (run is_digit s) s))) (suc (run is_digit s))
unfolding token_at name_at natural_at identifier_length
digit-token a s e d = rw (e, run_on is_digit a s d) refl

-- a longer word stands nowhere that a shorter one does not
pub shorter : (a : ℕ) (v s : List ℕ) → starts_with (a ∷ []) s ≡ false → starts_with (a ∷ v) s ≡ false
unfolding starts_with
shorter a v [] e = refl
shorter a v (b ∷ s) e = by_byte (eqb a b) e
  where
    by_byte : (x : Bool) → (x && true) ≡ false → (x && starts_with v s) ≡ false
    by_byte true e = impossible (cc)
    by_byte false e = refl

-- where a sign stands
pub sign-token : (g : Sign) (s : List ℕ) → Longest g s → token_at (spelt g ++ s) ≡ token (sign g) (length (spelt g))
unfolding token_at name_at natural_at sign_at identifier_length can_start_identifier_char is_digit run starts_with
sign-token '!' s l = rw l refl
sign-token '-' s l = refl
sign-token '*' s l = refl
sign-token '+' s l = refl
sign-token '==' s l = rw l refl
sign-token '!=' s l = refl
sign-token '<' s l = rw (shorter 61 (61 ∷ 62 ∷ []) s l, shorter 61 (61 ∷ []) s l, l) refl
sign-token '<=' s l = rw (shorter 61 (62 ∷ []) s l, l) refl
sign-token '>=' s l = refl
sign-token '>' s l = rw l refl
sign-token '&&' s l = refl
sign-token '||' s l = refl
sign-token '==>' s l = refl
sign-token '<==' s l = rw l refl
sign-token '<==>' s l = refl

-- where a bracket or comma stands
pub mark-token : (k : Mark) (s : List ℕ) → token_at (spelt_mark k ++ s) ≡ token (mark k) 1
unfolding token_at name_at natural_at sign_at identifier_length can_start_identifier_char is_digit run starts_with
mark-token lparen s = refl
mark-token rparen s = refl
mark-token comma s = refl

-- where no token can be cut
pub no-token : {s : List ℕ} → Nothing s → token_at s ≡ nothing
unfolding token_at name_at natural_at sign_at starts_with
no-token n =
    rw (
      n.no_name,
      n.no_digit,
      n.no_sign '<==>',
      n.no_sign '==>',
      n.no_sign '<==',
      n.no_sign '==',
      n.no_sign '!=',
      n.no_sign '<=',
      n.no_sign '>=',
      n.no_sign '&&',
      n.no_sign '||',
      n.no_sign '<',
      n.no_sign '>',
      n.no_sign '!',
      n.no_sign '-',
      n.no_sign '*',
      n.no_sign '+',
      n.no_mark lparen,
      n.no_mark rparen,
      n.no_mark comma,
    )
    refl

-- w stands at the start, or not
starts : (w s : List ℕ) → ((t : List ℕ) × (s ≡ w ++ t)) ⊎ (starts_with w s ≡ false)
unfolding starts_with
starts [] s = inl (s, refl)
starts (a ∷ w) [] = inr refl
starts (a ∷ w) (b ∷ s) = by_byte (eqb a b) refl (starts w s)
  where
    by_byte : (x : Bool) → eqb a b ≡ x → ((t : List ℕ) × (s ≡ w ++ t)) ⊎ (starts_with w s ≡ false) → ((t : List ℕ) × (b ∷ s ≡ a ∷ w ++ t)) ⊎ ((x && starts_with w s) ≡ false)
    by_byte true e (inl f) = let h : a ≡ b = eqb-true a b e in inl (f.0, cc f.1)
    by_byte true e (inr n) = inr n
    by_byte false e r = inr refl

-- a byte that begins neither a name nor a natural: a sign, a mark or nothing
module _ (s : List ℕ) (no_name : identifier_length s ≡ 0) (no_digit : run is_digit s ≡ 0) where
  see-sign : (w : List ℕ) → ((t : List ℕ) → s ≡ w ++ t → View s) → (starts_with w s ≡ false → View s) → View s
  see-sign w f g = by-start (starts w s)
    where
      by-start : ((t : List ℕ) × (s ≡ w ++ t)) ⊎ (starts_with w s ≡ false) → View s
      by-start (inl x) = f x.0 x.1
      by-start (inr n) = g n

  sign-or-nothing : View s
  unfolding starts_with
  sign-or-nothing =
      see-sign (spelt '<==>') (λ t e. rw e (sign_view '<==>' t tt)) λ n₁.
      see-sign (spelt '==>') (λ t e. rw e (sign_view '==>' t tt)) λ n₂.
      see-sign (spelt '<==') (λ t e. rw e (sign_view '<==' t (rw e at n₁))) λ n₃.
      see-sign (spelt '==') (λ t e. rw e (sign_view '==' t (rw e at n₂))) λ n₄.
      see-sign (spelt '!=') (λ t e. rw e (sign_view '!=' t tt)) λ n₅.
      see-sign (spelt '<=') (λ t e. rw e (sign_view '<=' t (rw e at n₃))) λ n₆.
      see-sign (spelt '>=') (λ t e. rw e (sign_view '>=' t tt)) λ n₇.
      see-sign (spelt '&&') (λ t e. rw e (sign_view '&&' t tt)) λ n₈.
      see-sign (spelt '||') (λ t e. rw e (sign_view '||' t tt)) λ n₉.
      see-sign (spelt '<') (λ t e. rw e (sign_view '<' t (rw e at n₆))) λ n₁₀.
      see-sign (spelt '>') (λ t e. rw e (sign_view '>' t (rw e at n₇))) λ n₁₁.
      see-sign (spelt '!') (λ t e. rw e (sign_view '!' t (rw e at n₅))) λ n₁₂.
      see-sign (spelt '-') (λ t e. rw e (sign_view '-' t tt)) λ n₁₃.
      see-sign (spelt '*') (λ t e. rw e (sign_view '*' t tt)) λ n₁₄.
      see-sign (spelt '+') (λ t e. rw e (sign_view '+' t tt)) λ n₁₅.
      see-sign (spelt_mark lparen) (λ t e. rw e (mark_view lparen t)) λ n₁₆.
      see-sign (spelt_mark rparen) (λ t e. rw e (mark_view rparen t)) λ n₁₇.
      see-sign (spelt_mark comma) (λ t e. rw e (mark_view comma t)) λ n₁₈.
      no_view
      (record {
        no_name = no_name;
        no_digit = no_digit;
        no_sign =
            elim [ '!' ↦ n₁₂ | '-' ↦ n₁₃ | '*' ↦ n₁₄ | '+' ↦ n₁₅ | '==' ↦ n₄ | '!=' ↦ n₅ | '<' ↦ n₁₀ | '<=' ↦ n₆ | '>=' ↦ n₇ | '>' ↦ n₁₁ | '&&' ↦ n₈ | '||' ↦ n₉ | '==>' ↦ n₂ | '<==' ↦ n₃ | '<==>' ↦ n₁ ];
        no_mark = elim [ lparen ↦ n₁₆ | rparen ↦ n₁₇ | comma ↦ n₁₈ ];
      })

-- one of the five stands there
pub view : (s : List ℕ) → View s
unfolding identifier_length run
view [] = sign-or-nothing [] refl refl
view (a ∷ s) = by_first (can_start_identifier_char a) (is_digit a) refl refl
  where
    by_first : (x y : Bool) → can_start_identifier_char a ≡ x → is_digit a ≡ y → View (a ∷ s)
    by_first true y e d = word_view a s e
    by_first false true e d = digit_view a s e d
    by_first false false e d = sign-or-nothing (a ∷ s) (rw e refl) (rw (d, run) refl)
