-- A function that changes no span inside the text changes no tree that a rule of expressions (Rules.antt) gives, and the rule's places lie inside
-- the text, if the same holds of the rule "expr" one deeper.
use Prim.Native.Nat.{ℕ, zero, suc}
use Rattle.std.proofs.Math.Path.{refl}
use Rattle.std.specs.Prelude.{Bool, List, map, drop}
use Rattle.lexing.specs.Answer.{Answer}
use Rattle.lexing.specs.Tokens.{identifier_length}
use Rattle.tree.specs.Ast.{Span, Binding, binding, Expr, ◌then◌, Patterns, no_patterns, pattern, closure_binding, closure_property}
use Rattle.tree.specs.Resolve.{map_option, map_binding, map_expr, map_exprs, map_patterns, map_closure_bindings, map_closure_properties}
use Rattle.lexing.specs.Bytes.{bytes, is_digit}
use Rattle.grammar.specs.Grammar.{Build, straight, swapped, build, single}
use Rattle.grammar.specs.Grammar.{Class, product, sum, comparison, conjunction, disjunction, implication, explication, equivalence}
use Rattle.grammar.specs.Steps.{Reader, after}
use Rattle.grammar.specs.Rules as rules
use Rattle.grammar.proofs.Inside.Answers.{Inside, Gives, given, nothing, ReadsIn, Any, Fixed, unusable, too-deep, before-end, step, by, token, picked, sign-placed, steps, Closed, list-closed, nonempty-gives, listed-gives, Keeping, name-kept, literal-kept}

module _ {text : List ℕ} (K : Keeping text) where
  abbrev keep : Span → Span
  keep = K.keep

  abbrev Reads : {A : Type 0} → (A → Type 0) → Reader A → Type 0
  Reads P = ReadsIn P text

  -- no name in it changes
  abbrev Kept : Expr Span → Type 0
  Kept = Fixed (map_expr keep)

  -- ---- sequences

  pub exprs-closed : Closed rules.exprs Kept (Fixed (map_exprs keep))
  exprs-closed = record { none = refl; more = λ e h es t i. ◌then◌ (h i) (t i) }

  bindings-closed : Closed rules.bindings (Fixed (map_binding keep)) (Fixed (map (map_binding keep)))
  bindings-closed = list-closed (map_binding keep) (λ b h. h)

  abbrev ClosureKept : rules.ClosureItem → Type 0
  ClosureKept c = Fixed keep c.0 × Fixed (map (map_binding keep)) c.1 × Kept c.2

  closures-closed : Closed rules.closures ClosureKept (Fixed (map_closure_bindings keep))
  closures-closed = record { none = refl; more = λ c h cs t i. closure_binding (h.0 i) (h.1 i) (h.2 i) (t i) }

  abbrev PropertyKept : rules.PropertyItem → Type 0
  PropertyKept p = Fixed (map_patterns keep) p.0 × Kept p.1

  properties-closed : Closed rules.properties PropertyKept (Fixed (map_closure_properties keep))
  properties-closed = record { none = refl; more = λ p h ps t i. closure_property (h.0 i) (h.1 i) (t i) }

  -- ---- operators and operands in a row

  build-kept : (b : Build) {e e₁ : Expr Span} → Kept e → Kept e₁ → Kept (build b e e₁)
  build-kept (straight op) h g = λ i. build (straight op) (h i) (g i)
  build-kept (swapped op) h g = λ i. build (swapped op) (h i) (g i)

  module _ {operator : Reader Build} (o : Reads Any operator) {p : Reader (Expr Span)} (operand : Reads Kept p) where
    left_tail-kept : (n : ℕ) (e : Expr Span) → Kept e → Reads Kept (rules.left_tail n operator p e)
    unfolding rules.left_tail
    left_tail-kept zero e h at l = given h l
    left_tail-kept (suc n) e h at l =
        by o at l (given h l) (λ b _ at₁ l₁. by operand at₁ l₁ (unusable l₁) (λ e₁ g. left_tail-kept n (build b e e₁) (build-kept b h g)))

    right_tail-kept : (n : ℕ) (e : Expr Span) → Kept e → Reads Kept (rules.right_tail n operator p e)
    unfolding rules.right_tail
    right_tail-kept zero e h at l = given h l
    right_tail-kept (suc n) e h at l =
        by o at l (given h l)
        (λ b _ at₁ l₁. by operand at₁ l₁ (unusable l₁) (λ e₁ g at₂ l₂. step _ (right_tail-kept n e₁ g at₂ l₂) nothing (λ _ g₂ _. given (build-kept b h g₂))))

  -- ---- names with types

  parse_id_type-kept : Reads (Fixed (map_binding keep)) (rules.parse_id_type text)
  unfolding rules.parse_id_type
  parse_id_type-kept at l = search (by (name-kept K), steps) depth 12

  abbrev name_of : Binding Span → Span
  name_of (binding n t) = n

  abbrev type_of : Binding Span → Span
  type_of (binding n t) = t

  -- after a name with a type
  pub by-id_type : {B : Type 0} {Q : B → Type 0} {stop : Answer B} (go : Binding Span → ℕ → Answer B) (at : ℕ) → Inside text at → Gives Q text stop
      → ((n t : Span) → Fixed keep n → Fixed keep t → Reads Q (go (binding n t))) → Gives Q text (after (rules.parse_id_type text at) stop go)
  by-id_type {Q} go at l s f = step _ (parse_id_type-kept at l) s parts
    where
      parts : (b : Binding Span) → Fixed (map_binding keep) b → Reads Q (go b)
      parts (binding n t) h = f n t (λ i. name_of (h i)) (λ i. type_of (h i))

  pub parse_optional_type-kept : Reads (Fixed (map_option keep)) (rules.parse_optional_type text)
  unfolding rules.parse_optional_type
  parse_optional_type-kept at l = search (by (name-kept K), steps) depth 8

  -- ---- operators

  operator-placed : (k : Class) → Reads Any (rules.operator_of text k)
  unfolding rules.factor_operator rules.term_operator rules.parse_comparison_operator rules.equality_operator rules.less_operator rules.more_operator rules.and_operator rules.or_operator rules.implies_operator rules.explies_operator rules.equiv_operator
  operator-placed product at l = search steps depth 12
  operator-placed sum at l = search steps depth 12
  operator-placed comparison at l = search steps depth 12
  operator-placed conjunction at l = search steps depth 12
  operator-placed disjunction at l = search steps depth 12
  operator-placed implication at l = search steps depth 12
  operator-placed explication at l = search steps depth 12
  operator-placed equivalence at l = search steps depth 12

  prefix-placed : Reads Any (rules.unary_operator text)
  unfolding rules.unary_operator
  prefix-placed at l = search steps depth 12

  -- ---- operands

  module _ (m : ℕ) {c : Reader (Expr Span)} (expr : Reads Kept c) where
    bindings-kept : Reads (Fixed (map (map_binding keep))) (rules.parse_nonempty_comma_delimited_seq text m rules.bindings (rules.parse_id_type text))
    bindings-kept = nonempty-gives text bindings-closed _ parse_id_type-kept m

    parse_marked-kept : (n : ℕ) (w : List ℕ) → Reads (Fixed (map_patterns keep)) (rules.parse_marked text m c n w)
    unfolding rules.parse_marked
    parse_marked-kept zero w at l = given refl l
    parse_marked-kept (suc n) w at l = search (by (nonempty-gives text exprs-closed c expr m), by (parse_marked-kept n w), steps) depth 8

    parse_parameters-kept : Reads (Fixed (map (map_binding keep))) (rules.parse_parameters text m)
    unfolding rules.parse_parameters
    parse_parameters-kept at l =
        token (sign-placed text at l _) (given refl l) (λ _. listed-gives text bindings-closed _ parse_id_type-kept m (bytes ")"))

    closures-kept : Reads (Fixed (map_closure_bindings keep)) (rules.parse_nonempty_comma_delimited_seq text m rules.closures (rules.parse_closure_binding text m c))
    unfolding rules.parse_closure_binding
    closures-kept = nonempty-gives text closures-closed _ (λ at l. search (by expr, by (name-kept K), by parse_parameters-kept, steps) depth 12) m

    after_triggers-kept : (ts : Patterns Span) → Fixed (map_patterns keep) ts → Reads PropertyKept (λ at. rules.after_triggers ts at (c at))
    after_triggers-kept no_patterns h at l = search (by expr, steps)
    after_triggers-kept (pattern es ts) h at l = search (by expr, steps)

    properties-kept : Reads (Fixed (map_closure_properties keep)) (rules.parse_listed text m rules.properties (rules.parse_closure_property text m c) (bytes "}"))
    unfolding rules.parse_closure_property
    properties-kept = listed-gives text properties-closed _ (λ at l. step _ (parse_marked-kept m (bytes "trigger") at l) nothing after_triggers-kept) m _

    parse_atomic_expr-kept : Reads Kept (rules.parse_atomic_expr text m c)
    unfolding rules.parse_atomic_expr rules.after_bar rules.after_old rules.after_name rules.after_label rules.after_colon rules.after_call rules.after_paren
    parse_atomic_expr-kept at l =
        search (by expr, by (name-kept K), by (literal-kept K), by (listed-gives text exprs-closed c expr m (bytes ")")), steps) depth 24

    after_lift-kept : Reads Kept (rules.after_lift text m c)
    unfolding rules.after_lift
    after_lift-kept at l = search (by (name-kept K), by closures-kept, by properties-kept, steps) depth 20

    after_quantifier-kept : (universal : Bool) → Reads Kept (rules.after_quantifier text m c universal)
    unfolding rules.after_quantifier
    after_quantifier-kept universal at l = search (by expr, by bindings-kept, by (parse_marked-kept m (bytes "pattern")), steps) depth 12

    parse_primary_expr-kept : Reads Kept (rules.parse_primary_expr text m c)
    unfolding rules.parse_primary_expr rules.after_if rules.after_val
    parse_primary_expr-kept at l =
        search (by expr, by (name-kept K), by parse_optional_type-kept, after_quantifier-kept, after_lift-kept, parse_atomic_expr-kept, steps) depth 20

    -- ---- the levels

    unary_tail-kept : (n : ℕ) → Reads Kept (rules.unary_tail text m c n)
    unfolding rules.unary_tail
    unary_tail-kept zero at l = parse_primary_expr-kept at l
    unary_tail-kept (suc n) at l =
        step Any (prefix-placed at l) (parse_primary_expr-kept at l)
        (λ op _ at₁ l₁. by (unary_tail-kept n) at₁ l₁ (unusable l₁) (λ _ h _. given (λ i. single op (h i))))

    parse_equiv_expr-kept : Reads Kept (rules.parse_equiv_expr text m c)
    unfolding rules.parse_equiv_expr rules.parse_imp_exp_expr rules.imp_exp_tail rules.parse_logical_expr rules.logical_tail rules.parse_juct_expr rules.once_tail rules.left_tail rules.parse_term_expr rules.parse_factor_expr rules.parse_unary_expr
    parse_equiv_expr-kept at l =
        let o = operator-placed in
        let unary = unary_tail-kept m in
        let factor : Reads Kept (rules.parse_factor_expr text m c) = λ at l. step _ (unary at l) nothing (left_tail-kept (o product) unary m) in
        let term : Reads Kept (rules.parse_term_expr text m c) = λ at l. step _ (factor at l) nothing (left_tail-kept (o sum) factor m) in
        let juct : Reads Kept (rules.parse_juct_expr text m c) = λ at l. step _ (term at l) nothing (left_tail-kept (o comparison) term 1) in
        let logical : Reads Kept (rules.parse_logical_expr text m c) = λ at l. step _ (juct at l) nothing
        (λ e h at₁ l₁. by (o conjunction) at₁ l₁ (left_tail-kept (o disjunction) juct m e h at₁ l₁) (λ _ _ _ _. left_tail-kept (o conjunction) juct m e h at₁ l₁)) in
        let imp_exp : Reads Kept (rules.parse_imp_exp_expr text m c) = λ at l. step _ (logical at l) nothing
        (λ e h at₁ l₁. by (o implication) at₁ l₁ (left_tail-kept (o explication) logical m e h at₁ l₁) (λ _ _ _ _. right_tail-kept (o implication) logical m e h at₁ l₁)) in
        step _ (imp_exp at l) nothing (left_tail-kept (o equivalence) imp_exp m)

  pub parse_expr-kept : (m d : ℕ) → ReadsIn (Fixed (map_expr K.keep)) text (rules.parse_expr text m d)
  unfolding rules.parse_expr rules.opens_expr rules.opens_at identifier_length is_digit
  parse_expr-kept m zero at l = before-end at (λ e. rw e refl) (λ i. picked (rules.opens_expr (drop at text)) (too-deep i) nothing)
  parse_expr-kept m (suc d) at l = parse_equiv_expr-kept m (parse_expr-kept m d) at l
