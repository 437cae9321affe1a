-- Where the next byte begins no operator of a level, there is none.
use Prim.Native.Nat.{ℕ, zero, suc}
use mathlib.Core.Path.{◌≡◌, refl, sym, ap, ◌∙◌}
use mathlib.Core.Bool.{Bool, true, false}
use mathlib.Core.List.{List, [], ◌∷◌}
use lib.Dec.{eqb}
use lib.ListN.{drop, get_or, take}
use lib.Seq.{get_or-drop}
use native.Mathlib.Omega.{arith}
use borrow.Author.Tests.{eqb-true}
use Rattle.lexing.specs.Answer.{Answer}
use Rattle.lexing.specs.Bytes.{starts_with, same_bytes}
use Rattle.lexing.specs.Answer.{pick}
use Rattle.lexing.specs.Tokens.{identifier_length, keyword, sign, sign_not_prefix}
use Rattle.tree.specs.Clash.{impossible}
use Rattle.grammar.specs.Grammar.{Class, product, sum, comparison, conjunction, disjunction, implication, explication, equivalence}
use Rattle.grammar.specs.Steps.{after}
use Rattle.grammar.specs.Rules.{operator_of, factor_operator, term_operator, parse_comparison_operator, equality_operator, less_operator, more_operator, and_operator, or_operator, implies_operator, explies_operator, equiv_operator}
use Rattle.parsing.specs.Contract.{Missing, sign as sign_here, sign_but, word}
use Rattle.parsing.specs.Signs.{begins_operator, may_begin}
use Rattle.parsing.specs.declared.parser.Parser.{Parser}

-- a byte that begins an operator is none that begins no operator
unlike : (c : Class) (k b : ℕ) → begins_operator c b ≡ false → begins_operator c k ≡ true → eqb k b ≡ false
unlike c k b h g = by-test (eqb k b) refl
  where
    by-test : (t : Bool) → eqb k b ≡ t → eqb k b ≡ false
    by-test true e = let clash : true ≡ false = sym g ∙ ap (begins_operator c) (eqb-true k b e) ∙ h in impossible (cc)
    by-test false e = e

module _ (k b : ℕ) (w s : List ℕ) (e : eqb k b ≡ false) where
  -- a sign or a word that begins with another byte does not stand there
  no_sign : sign (k ∷ w) (b ∷ s) ≡ Answer.none
  unfolding sign starts_with
  no_sign = rw e refl

  no-sign-but : (v : List ℕ) → sign_not_prefix (k ∷ w) (k ∷ v) (b ∷ s) ≡ Answer.none
  unfolding sign_not_prefix sign starts_with
  no-sign-but v = rw e refl

  other_word : (n : ℕ) → same_bytes (take n (b ∷ s)) (k ∷ w) ≡ false
  unfolding same_bytes
  other_word zero = refl
  other_word (suc n) = rw e refl

  no_word : keyword (k ∷ w) (b ∷ s) ≡ Answer.none
  unfolding keyword
  no_word = rw (other_word (identifier_length (b ∷ s))) refl

-- bytes whose first is another one than the text's
no-sign-by : (w s : List ℕ) → may_begin w (get_or s 0 0) ≡ false → sign w s ≡ Answer.none
unfolding sign starts_with
no-sign-by [] s h = impossible (cc)
no-sign-by (a ∷ w) [] h = refl
no-sign-by (a ∷ w) (b ∷ s) h = no_sign a b w s h

no-sign-but-by : (w v s : List ℕ) → may_begin w (get_or s 0 0) ≡ false → sign_not_prefix w v s ≡ Answer.none
unfolding sign_not_prefix
no-sign-but-by w v s h = by-longer (starts_with v s)
  where
    by-longer : (t : Bool) → pick t Answer.none (sign w s) ≡ Answer.none
    by-longer true = refl
    by-longer false = no-sign-by w s h

no-word-by : (w s : List ℕ) → may_begin w (get_or s 0 0) ≡ false → keyword w s ≡ Answer.none
unfolding keyword same_bytes identifier_length
no-word-by [] s h = impossible (cc)
no-word-by (a ∷ w) [] h = refl
no-word-by (a ∷ w) (b ∷ s) h = no_word a b w s h

module _ (p : Parser) (w : List ℕ) {t : Bool} (e : t ≡ may_begin w (get_or p.text.now p.at 0)) (f : t ≡ false) where
  other-first : may_begin w (get_or (drop p.at p.text.now) 0 0) ≡ false
  other-first = ap (may_begin w) (get_or-drop p.at p.text.now 0 0 ∙ ap (λ i. get_or p.text.now i 0) (omega arith)) ∙ sym e ∙ f

  pub sign-absent : Missing (sign_here w) p p
  sign-absent = record { says = rw (no-sign-by w _ other-first) refl; same = refl }

  pub sign_but-absent : (v : List ℕ) → Missing (sign_but w v) p p
  sign_but-absent v = record { says = rw (no-sign-but-by w v _ other-first) refl; same = refl }

  pub word-absent : Missing (word w) p p
  word-absent = record { says = rw (no-word-by w _ other-first) refl; same = refl }

module _ (text : List ℕ) (at : ℕ) where
  at-end : drop at text ≡ [] → (c : Class) → operator_of text c at ≡ Answer.none
  unfolding after keyword same_bytes sign sign_not_prefix starts_with identifier_length factor_operator term_operator parse_comparison_operator equality_operator less_operator more_operator and_operator or_operator implies_operator explies_operator equiv_operator
  at-end e product = rw e refl
  at-end e sum = rw e refl
  at-end e comparison = rw e refl
  at-end e conjunction = rw e refl
  at-end e disjunction = rw e refl
  at-end e implication = rw e refl
  at-end e explication = rw e refl
  at-end e equivalence = rw e refl

  module _ (b : ℕ) (s : List ℕ) (e : drop at text ≡ b ∷ s) where
    before-byte : (c : Class) → begins_operator c b ≡ false → operator_of text c at ≡ Answer.none
    unfolding after begins_operator factor_operator term_operator parse_comparison_operator equality_operator less_operator more_operator and_operator or_operator implies_operator explies_operator equiv_operator
    before-byte product h = rw (e, no_sign 42 b _ s (unlike product 42 b h refl), no_word 100 b _ s (unlike product 100 b h refl), no_word 109 b _ s (unlike product 109 b h refl)) refl
    before-byte sum h = rw (e, no_sign 43 b _ s (unlike sum 43 b h refl), no_sign 45 b _ s (unlike sum 45 b h refl)) refl
    before-byte comparison h =
        let less = unlike comparison 60 b h refl in
        let more = unlike comparison 62 b h refl in
        rw (e, no-sign-but 61 b _ s (unlike comparison 61 b h refl) _, no_sign 33 b _ s (unlike comparison 33 b h refl), no-sign-but 60 b (61 ∷ []) s less _, no-sign-but 60 b [] s less _, no_sign 62 b (61 ∷ []) s more, no_sign 62 b [] s more) refl
    before-byte conjunction h = rw (e, no_sign 38 b _ s (unlike conjunction 38 b h refl)) refl
    before-byte disjunction h = rw (e, no_sign 124 b _ s (unlike disjunction 124 b h refl)) refl
    before-byte implication h = rw (e, no_sign 61 b _ s (unlike implication 61 b h refl)) refl
    before-byte explication h = rw (e, no-sign-but 60 b _ s (unlike explication 60 b h refl) _) refl
    before-byte equivalence h = rw (e, no_sign 60 b _ s (unlike equivalence 60 b h refl)) refl

  -- a level has no operator where the next byte begins none
  pub begins-none : (c : Class) → begins_operator c (get_or text at 0) ≡ false → operator_of text c at ≡ Answer.none
  begins-none c h = by-rest (drop at text) refl (ap (begins_operator c) (get_or-drop at text 0 0 ∙ ap (λ i. get_or text i 0) (omega arith)) ∙ h)
    where
      by-rest : (s : List ℕ) → drop at text ≡ s → begins_operator c (get_or s 0 0) ≡ false → operator_of text c at ≡ Answer.none
      by-rest [] e h = at-end e c
      by-rest (b ∷ s) e h = before-byte b s e c h
