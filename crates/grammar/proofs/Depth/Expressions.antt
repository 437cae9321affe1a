-- An expression keeps a token exactly where `opens_expr` is true (Rules.antt), whatever the rule "expr" one deeper does.
use Prim.Native.Nat.{ℕ, zero, suc}
use Prim.Native.String.{String}
use Rattle.std.proofs.Common.{arith, sym, ◌∙◌, lt-ltb, eq-eqb, ne_eqb, eqb-true}
use Rattle.std.specs.Prelude.{◌≡◌, refl, Bool, true, false, ◌&&◌, ◌||◌, not, List, [], ◌∷◌, drop, take, get_or, ltb, eqb}
use Rattle.std.proofs.Math.Bool.{and-true, or-true, or-false, or_assoc}
use Rattle.std.proofs.lemmas.Bool.{eqb-false}
use Rattle.lexing.specs.RunLaws.{run-case}
use Rattle.lexing.specs.Bytes.{is_digit, run, starts_with, same_bytes, bytes}
use Rattle.lexing.specs.Tokens.{identifier_length}
use Rattle.tree.specs.Ast.{Span, Expr}
use Rattle.grammar.specs.Grammar.{Build}
use Rattle.grammar.specs.Steps.{Reader}
use Rattle.grammar.specs.Rules as rules
use Rattle.grammar.proofs.Depth.Answers.{Keeps, keeps, refuses, step, led, sure, either, is_named, is_word, sign-keeps, not_prefix-keeps, name-keeps, word_keeps, natural-keeps}

-- what `search` lists: a step that must follow
pub ruleset always = (sure, keeps, refuses)

-- ---- operators and operands in a row keep what they begin with

module _ (operator : Reader Build) (p : Reader (Expr Span)) where
  left-keeps : (n : ℕ) (e : Expr Span) (at : ℕ) → Keeps true (rules.left_tail n operator p e at)
  unfolding rules.left_tail
  left-keeps zero e at = keeps
  left-keeps (suc n) e at = search (left-keeps n, always)

  right-keeps : (n : ℕ) (e : Expr Span) (at : ℕ) → Keeps true (rules.right_tail n operator p e at)
  unfolding rules.right_tail
  right-keeps zero e at = keeps
  right-keeps (suc n) e at = search (right-keeps n, led, always)

-- ---- what begins an expression

-- the tests of an operand's branches, in their order: each word's, a natural's, `|`, a name's and `(`
abbrev branches : (String → Bool) → Bool → Bool → Bool → Bool → Bool
branches word digit bar named bracket =
    word "if" || (word "val" || (word "forall" || (word "exists" || (word "lift" || (word "false" || (word "true" || (digit || (bar || (word "old"
    || (named || bracket))))))))))

-- a natural's first digit, by its byte
digit-here : (s : List ℕ) → ltb 0 (run is_digit s) ≡ is_digit (get_or s 0 0)
unfolding run is_digit
digit-here [] = refl
digit-here (b ∷ s) = run-case (λ n. ltb 0 n ≡ is_digit b) is_digit b s (λ e. lt-ltb 0 (suc (run is_digit s)) (omega arith) ∙ sym e) (λ e. sym e)

-- a test of two bytes, either way round
eqb_comm : (a b : ℕ) → eqb a b ≡ eqb b a
eqb_comm a b = by-test (eqb a b) refl
  where
    by-test : (t : Bool) → eqb a b ≡ t → t ≡ eqb b a
    by-test true e = sym (eq-eqb b a (sym (eqb-true a b e)))
    by-test false e = sym (ne_eqb b a (λ p. eqb-false a b e (sym p)))

-- a sign of one byte
sign-here : (x : ℕ) (s : List ℕ) → eqb 0 x ≡ false → starts_with (x ∷ []) s ≡ eqb (get_or s 0 0) x
unfolding starts_with
sign-here x [] h = sym h
sign-here x (b ∷ s) h = and-true (eqb x b) ∙ eqb_comm x b

-- `!` that no `=` follows, as a test and at the start of a text
bang-test : (bang equals : Bool) → (not (bang && (equals && true)) && (bang && true)) ≡ (bang && not equals)
bang-test true true = refl
bang-test true false = refl
bang-test false equals = refl

bang-here : (s : List ℕ) → (not (starts_with (bytes "!=") s) && starts_with (bytes "!") s) ≡ (eqb (get_or s 0 0) 33 && not (eqb (get_or s 1 0) 61))
unfolding starts_with
bang-here [] = refl
bang-here (b ∷ []) = rw (eqb_comm b 33) (bang-test (eqb 33 b) false)
bang-here (b ∷ b₁ ∷ s) = rw (eqb_comm b 33, eqb_comm b₁ 61) (bang-test (eqb 33 b) (eqb 61 b₁))

-- a prefix or an operand, where each word is a name
opens-test : (word : String → Bool) (bang minus digit bar named bracket : Bool)
    → (bang || minus || branches (λ w. named && word w) digit bar named bracket) ≡ (named || (digit || bar || bracket || minus || bang))
opens-test word true minus digit bar named bracket = simp or-true
opens-test word false true digit bar named bracket = simp or-true
opens-test word false false digit bar true bracket = simp or-true
opens-test word false false digit bar false bracket = simp (or_assoc, or-false)

-- the tests of a prefix and of an operand at the start of a text
abbrev prefix_test : List ℕ → Bool
prefix_test s = not (starts_with (bytes "!=") s) && starts_with (bytes "!") s || starts_with (bytes "-") s

abbrev operand_test : List ℕ → Bool
operand_test s = branches (λ w. is_word (bytes w) s) (ltb 0 (run is_digit s)) (starts_with (bytes "|") s) (is_named s) (starts_with (bytes "(") s)

-- together they are `opens_expr`
opens-here : (s : List ℕ) → (prefix_test s || operand_test s) ≡ rules.opens_expr s
unfolding rules.opens_expr
opens-here s =
    let b = get_or s 0 0 in
    rw (bang-here s, digit-here s, sign-here 45 s refl, sign-here 124 s refl, sign-here 40 s refl)
    (opens-test (λ w. same_bytes (take (identifier_length s) s) (bytes w)) (eqb b 33 && not (eqb (get_or s 1 0) 61)) (eqb b 45) (is_digit b) (eqb b 124) (is_named s) (eqb b 40))

module _ (text : List ℕ) (m : ℕ) (c : Reader (Expr Span)) where
  -- an operand, a prefix, and one after the other
  primary-keeps : (at : ℕ) → Keeps (operand_test (drop at text)) (rules.parse_primary_expr text m c at)
  unfolding rules.parse_primary_expr rules.parse_atomic_expr rules.after_if rules.after_val rules.after_quantifier rules.after_lift rules.after_bar rules.after_old rules.after_name rules.after_label rules.after_colon rules.after_call rules.after_paren
  primary-keeps at = search (either, led, word_keeps text at, name-keeps text at, natural-keeps text at, sign-keeps text at, always) depth 30

  prefix-keeps : (at : ℕ) → Keeps (prefix_test (drop at text)) (rules.unary_operator text at)
  unfolding rules.unary_operator
  prefix-keeps at = search (either, led, sign-keeps text at, not_prefix-keeps text at, always)

  unary_tail-keeps : (n at : ℕ) → Keeps (rules.opens_expr (drop at text)) (rules.unary_tail text m c (suc n) at)
  unfolding rules.unary_tail
  unary_tail-keeps n at = rw (← opens-here (drop at text)) (step (λ op at₁. search always) (prefix-keeps at) (primary-keeps at))

-- An expression keeps a token where `opens_expr` is true.
module _ (text : List ℕ) (n : ℕ) (c : Reader (Expr Span)) where
  pub equiv-keeps : (at : ℕ) → Keeps (rules.opens_expr (drop at text)) (rules.parse_equiv_expr text (suc n) c at)
  unfolding rules.parse_equiv_expr rules.parse_imp_exp_expr rules.imp_exp_tail rules.parse_logical_expr rules.logical_tail rules.parse_juct_expr rules.once_tail rules.parse_term_expr rules.parse_factor_expr rules.parse_unary_expr
  equiv-keeps at = search (led, left-keeps, right-keeps, unary_tail-keeps text (suc n) c n, always) depth 12
