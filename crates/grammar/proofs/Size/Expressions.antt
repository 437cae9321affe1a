-- An expression that a rule (Rules.antt) gives has fewer words than five for each byte that the rule takes, if the rule "expr" one deeper does so.
use Prim.Native.Nat.{ℕ, zero, suc, ◌+◌, ◌≤◌}
use Rattle.std.proofs.Common.{arith}
use Rattle.std.specs.Prelude.{◌≡◌, Bool, List, ◌∷◌, length, drop}
use Rattle.lexing.specs.Answer.{moved}
use Rattle.lexing.specs.Tokens.{sign_not_prefix}
use Rattle.tree.specs.Ast.{Span, Expr, Patterns, no_patterns, pattern}
use Rattle.lexing.specs.Bytes.{bytes}
use Rattle.grammar.specs.Grammar.{Build, straight, swapped, build}
use Rattle.grammar.specs.Grammar.{Class, product, sum, comparison, conjunction, disjunction, implication, explication, equivalence}
use Rattle.grammar.specs.Steps.{Reader, mapped, keyword_at, sign_at}
use Rattle.grammar.specs.Rules as rules
use Rattle.grammar.proofs.Size.Sizes.{name_size, option_size, seq_size, binding_size, expr_size, exprs_size, patterns_size, closure_bindings_size, closure_properties_size}
use Rattle.grammar.proofs.Size.Answers.{Few, FewAt, few, nothing, refuses, FewWords, item, step, by, either, picked, since, lighter, led, keyword-few, sign-few, not_prefix-few, natural-few, name-few, literal-few}
use Rattle.grammar.proofs.Size.Answers.{Sums, list-sums, nonempty-few, listed-few}

-- an expression as an item of a sequence
abbrev E : Expr Span → ℕ
E = item expr_size

-- ---- sequences

pub exprs-sum : Sums rules.exprs expr_size exprs_size 1
exprs-sum = record { none = omega arith; more = λ e es. omega arith }

abbrev closure_size : rules.ClosureItem → ℕ
closure_size c = 2 + seq_size binding_size c.1 + expr_size c.2

closures-sum : Sums rules.closures closure_size closure_bindings_size 1
closures-sum = record { none = omega arith; more = λ c cs. omega arith }

abbrev property_size : rules.PropertyItem → ℕ
property_size p = patterns_size p.0 + expr_size p.1

properties-sum : Sums rules.properties property_size closure_properties_size 1
properties-sum = record { none = omega arith; more = λ p ps. omega arith }

-- ---- operators and operands in a row

build-size : (b : Build) (t u : Expr Span) → expr_size (build b t u) ≡ 5 + expr_size t + expr_size u
build-size (straight op) t u = omega arith
build-size (swapped op) t u = omega arith

module _ {operator : Reader Build} (o : FewWords (λ _. 5) 0 operator) {p : Reader (Expr Span)} (operand : FewWords E 0 p) where
  left_tail-few : (n from : ℕ) (e : Expr Span) (at : ℕ) → Few (E e) from at 0 → FewAt E from 0 (rules.left_tail n operator p e at)
  unfolding rules.left_tail
  left_tail-few zero from e at h = few {a = e} h
  left_tail-few (suc n) from e at h =
      by o at (few {a = e} h)
      (λ b at₁ p₁. by operand at₁ refuses (λ e₁ at₂ p₂. left_tail-few n from (build b e e₁) at₂ (omega (arith, build-size b e e₁))))

  right_tail-few : (n from : ℕ) (e : Expr Span) (at : ℕ) → Few (E e) from at 0 → FewAt E from 0 (rules.right_tail n operator p e at)
  unfolding rules.right_tail
  right_tail-few zero from e at h = few {a = e} h
  right_tail-few (suc n) from e at h =
      by o at (few {a = e} h)
      (λ b at₁ p₁. by operand at₁ refuses
      (λ e₁ at₂ p₂. step E 0 (right_tail-few n at₁ e₁ at₂ p₂) nothing (λ e₂ at₃ p₃. few (omega (arith, build-size b e e₂)))))

module _ (text : List ℕ) where
  -- ---- signs

  module _ {A : Type 0} (f : ℕ → A) (at : ℕ) (b : ℕ) (w : List ℕ) where
    by_sign : FewAt (λ _. 5) at 0 (mapped f (sign_at text (b ∷ w) at))
    by_sign = by (sign-few text (b ∷ w)) at nothing (λ _ at₁ p. few (omega arith))

    by-not_prefix : (longer : List ℕ) → FewAt (λ _. 5) at 0 (mapped f (moved at (sign_not_prefix (b ∷ w) longer (drop at text))))
    by-not_prefix longer = by (not_prefix-few text (b ∷ w) longer) at nothing (λ _ at₁ p. few (omega arith))

    by_word : FewAt (λ _. 5) at 0 (mapped f (keyword_at text (b ∷ w) at))
    by_word = by (keyword-few text (b ∷ w)) at nothing (λ _ at₁ p. few (omega arith))

  unary_operator-few : FewWords (λ _. 5) 0 (rules.unary_operator text)
  unfolding rules.unary_operator
  unary_operator-few at = search (either, by_sign, by-not_prefix)

  operator-few : (k : Class) → FewWords (λ _. 5) 0 (rules.operator_of text k)
  unfolding rules.factor_operator rules.term_operator rules.parse_comparison_operator rules.equality_operator rules.less_operator rules.more_operator rules.and_operator rules.or_operator rules.implies_operator rules.explies_operator rules.equiv_operator
  operator-few product at = search (either, by_sign, by_word)
  operator-few sum at = search (either, by_sign)
  operator-few comparison at = search (either, by_sign, by-not_prefix)
  operator-few conjunction at = search by_sign
  operator-few disjunction at = search by_sign
  operator-few implication at = search by_sign
  operator-few explication at = search by-not_prefix
  operator-few equivalence at = search by_sign

  -- ---- names with types

  -- three bytes at least
  pub parse_id_type-few : FewWords (λ _. 15) 0 (rules.parse_id_type text)
  unfolding rules.parse_id_type
  parse_id_type-few at =
      by (name-few text) at nothing
      (λ n at₁ p₁. by (sign-few text _) at₁ refuses (λ _ at₂ p₂. by (name-few text) at₂ refuses (λ t at₃ p₃. few (omega arith))))

  pub parse_optional_type-few : FewWords (option_size name_size) 1 (rules.parse_optional_type text)
  unfolding rules.parse_optional_type
  parse_optional_type-few at =
      by (not_prefix-few text _ _) at (few (omega arith)) (λ _ at₁ p₁. by (name-few text) at₁ refuses (λ t at₂ p₂. few (omega arith)))

  binding-few : FewWords (item binding_size) 0 (rules.parse_id_type text)
  binding-few at = lighter (λ b. omega arith) (parse_id_type-few at)

  -- ---- operands

  module _ (m : ℕ) {c : Reader (Expr Span)} (expr : FewWords (item expr_size) 0 c) where
    arguments-few : FewWords exprs_size 1 (rules.parse_listed text m rules.exprs c (bytes ")"))
    arguments-few = listed-few exprs-sum text 0 (omega arith) expr m _

    -- clauses that begin with a word
    parse_marked-few : (n : ℕ) (w : List ℕ) → 1 ≤ length w → FewWords patterns_size 1 (rules.parse_marked text m c n w)
    unfolding rules.parse_marked
    parse_marked-few zero w l at = few {a = no_patterns} {next = at} (omega arith)
    parse_marked-few (suc n) w l at =
        by (keyword-few text w) at (few (omega arith))
        (λ _ at₁ p₁. by (nonempty-few exprs-sum text 0 (omega arith) expr m) at₁ refuses
        (λ es at₂ p₂. by (parse_marked-few n w l) at₂ nothing (λ ps at₃ p₃. few (omega arith))))

    parse_parameters-few : FewWords (seq_size binding_size) 1 (rules.parse_parameters text m)
    unfolding rules.parse_parameters
    parse_parameters-few at =
        by (sign-few text _) at (few (omega arith))
        (λ _ at₁ p₁. since (omega arith) (listed-few (list-sums binding_size) text 0 (omega arith) binding-few m _ at₁))

    closure-few : FewWords (item closure_size) 0 (rules.parse_closure_binding text m c)
    unfolding rules.parse_closure_binding
    closure-few at =
        by (name-few text) at nothing
        (λ n at₁ p₁. by parse_parameters-few at₁ refuses
        (λ ps at₂ p₂. by (sign-few text _) at₂ refuses (λ _ at₃ p₃. by expr at₃ refuses (λ e at₄ p₄. few (omega arith)))))

    property-few : FewWords (item property_size) 1 (rules.parse_closure_property text m c)
    unfolding rules.parse_closure_property
    property-few at = by (parse_marked-few m (bytes "trigger") (omega arith)) at nothing body
      where
        body : (ts : Patterns Span) (at₁ : ℕ) → Few (patterns_size ts) at at₁ 1 → FewAt (item property_size) at 1 (rules.after_triggers ts at₁ (c at₁))
        body no_patterns at₁ p₁ = by expr at₁ nothing (λ e at₂ p₂. few (omega arith))
        body (pattern es ts) at₁ p₁ = by expr at₁ refuses (λ e at₂ p₂. few (omega arith))

    -- ---- after a word, a sign or a name, whose first byte allows five words more

    after_if-few : FewWords E 5 (rules.after_if text c)
    unfolding rules.after_if
    after_if-few at =
        by expr at refuses
        (λ g at₁ p₁. by expr at₁ refuses
        (λ t at₂ p₂. by (keyword-few text _) at₂ refuses (λ _ at₃ p₃. by expr at₃ refuses (λ e at₄ p₄. few (omega arith)))))

    after_val-few : FewWords E 5 (rules.after_val text c)
    unfolding rules.after_val
    after_val-few at =
        by (name-few text) at refuses
        (λ n at₁ p₁. by parse_optional_type-few at₁ refuses
        (λ t at₂ p₂. by (sign-few text _) at₂ refuses
        (λ _ at₃ p₃. by expr at₃ refuses (λ r at₄ p₄. by expr at₄ refuses (λ e at₅ p₅. few (omega arith))))))

    after_quantifier-few : (universal : Bool) → FewWords E 5 (rules.after_quantifier text m c universal)
    unfolding rules.after_quantifier
    after_quantifier-few universal at =
        by (nonempty-few (list-sums binding_size) text 0 (omega arith) binding-few m) at refuses
        (λ bs at₁ p₁. by (parse_marked-few m (bytes "pattern") (omega arith)) at₁ refuses
        (λ ps at₂ p₂. by expr at₂ refuses (λ e at₃ p₃. few (omega arith))))

    after_lift-few : FewWords E 5 (rules.after_lift text m c)
    unfolding rules.after_lift
    after_lift-few at =
        by (nonempty-few closures-sum text 0 (omega arith) closure-few m) at refuses
        (λ bs at₁ p₁. by (keyword-few text _) at₁ refuses
        (λ _ at₂ p₂. by (name-few text) at₂ refuses
        (λ n at₃ p₃. by (sign-few text _) at₃ refuses
        (λ _ at₄ p₄. by (name-few text) at₄ refuses
        (λ t at₅ p₅. by (keyword-few text _) at₅ refuses
        (λ _ at₆ p₆. by (sign-few text _) at₆ refuses
        (λ _ at₇ p₇. by (listed-few properties-sum text 1 (omega arith) property-few m _) at₇ refuses (λ ps at₈ p₈. few (omega arith)))))))))

    after_bar-few : FewWords E 5 (rules.after_bar text)
    unfolding rules.after_bar
    after_bar-few at =
        by (literal-few text) at refuses
        (λ s at₁ p₁. by (sign-few text _) at₁ refuses
        (λ _ at₂ p₂. by (name-few text) at₂ refuses (λ t at₃ p₃. by (sign-few text _) at₃ refuses (λ _ at₄ p₄. few (omega arith)))))

    after_name-few : (n : Span) → FewWords E 5 (rules.after_name text m c n)
    unfolding rules.after_name rules.after_label rules.after_colon rules.after_call
    after_name-few n at =
        by (sign-few text _) at
        (by (sign-few text _) at (few (omega arith)) (λ _ at₁ p₁. by expr at₁ refuses (λ e at₂ p₂. few (omega arith))))
        (λ _ at₁ p₁. by arguments-few at₁ refuses (λ es at₂ p₂. few (omega arith)))

    parse_atomic_expr-few : FewWords E 0 (rules.parse_atomic_expr text m c)
    unfolding rules.parse_atomic_expr rules.after_old rules.after_paren
    parse_atomic_expr-few at =
        either (by (keyword-few text _) at nothing (λ _ at₁ p₁. few (omega arith)))
        (either (by (keyword-few text _) at nothing (λ _ at₁ p₁. few (omega arith)))
        (either (by (natural-few text) at nothing (λ _ at₁ p₁. few (omega arith)))
        (either (by (sign-few text _) at nothing (λ _ at₁ p₁. since (omega arith) (after_bar-few at₁)))
        (either (by (keyword-few text _) at nothing (λ _ at₁ p₁. by (name-few text) at₁ refuses (λ n at₂ p₂. few (omega arith))))
        (either (by (name-few text) at nothing (λ n at₁ p₁. since (omega arith) (after_name-few n at₁)))
        (by (sign-few text _) at nothing
        (λ _ at₁ p₁. by expr at₁ refuses (λ e at₂ p₂. by (sign-few text _) at₂ refuses (λ _ at₃ p₃. few {a = e} (omega arith))))))))))

    parse_primary_expr-few : FewWords E 0 (rules.parse_primary_expr text m c)
    unfolding rules.parse_primary_expr
    parse_primary_expr-few at =
        either (led text after_if-few _ _ at)
        (either (led text after_val-few _ _ at)
        (either (led text (after_quantifier-few _) _ _ at)
        (either (led text (after_quantifier-few _) _ _ at) (either (led text after_lift-few _ _ at) (parse_atomic_expr-few at)))))

    -- ---- the levels

    unary_tail-few : (n : ℕ) → FewWords E 0 (rules.unary_tail text m c n)
    unfolding rules.unary_tail
    unary_tail-few zero at = parse_primary_expr-few at
    unary_tail-few (suc n) at =
        by unary_operator-few at (parse_primary_expr-few at) (λ op at₁ p₁. by (unary_tail-few n) at₁ refuses (λ e at₂ p₂. few (omega arith)))

    parse_equiv_expr-few : FewWords E 0 (rules.parse_equiv_expr text m c)
    unfolding rules.parse_equiv_expr rules.parse_imp_exp_expr rules.imp_exp_tail rules.parse_logical_expr rules.logical_tail rules.parse_juct_expr rules.once_tail rules.left_tail rules.parse_term_expr rules.parse_factor_expr rules.parse_unary_expr
    parse_equiv_expr-few at =
        let unary = unary_tail-few m in
        let factor : FewWords E 0 (rules.parse_factor_expr text m c) = λ at. by unary at nothing (left_tail-few (operator-few product) unary m at) in
        let term : FewWords E 0 (rules.parse_term_expr text m c) = λ at. by factor at nothing (left_tail-few (operator-few sum) factor m at) in
        let juct : FewWords E 0 (rules.parse_juct_expr text m c) = λ at. by term at nothing (left_tail-few (operator-few comparison) term 1 at) in
        let logical : FewWords E 0 (rules.parse_logical_expr text m c) = λ at. by juct at nothing
        (λ e at₁ h. by (operator-few conjunction) at₁ (left_tail-few (operator-few disjunction) juct m at e at₁ h) (λ _ _ _. left_tail-few (operator-few conjunction) juct m at e at₁ h)) in
        let imp_exp : FewWords E 0 (rules.parse_imp_exp_expr text m c) = λ at. by logical at nothing
        (λ e at₁ h. by (operator-few implication) at₁ (left_tail-few (operator-few explication) logical m at e at₁ h) (λ _ _ _. right_tail-few (operator-few implication) logical m at e at₁ h)) in
        by imp_exp at nothing (left_tail-few (operator-few equivalence) imp_exp m at)

  -- an expression at any depth
  pub parse_expr-few : (m d : ℕ) → FewWords (item expr_size) 0 (rules.parse_expr text m d)
  unfolding rules.parse_expr
  parse_expr-few m zero at = picked (rules.opens_expr (drop at text)) refuses nothing
  parse_expr-few m (suc d) at = parse_equiv_expr-few m (parse_expr-few m d) at
