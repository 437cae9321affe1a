-- A statement that a rule (Statements.antt) gives has fewer words than five for each byte that the rule takes, if those that the rules in its
-- gallery give have: two more after `if`.
use Prim.Native.Nat.{ℕ, zero, suc, ◌+◌, ◌≤◌}
use Rattle.std.proofs.Common.{arith}
use Rattle.std.specs.Prelude.{Bool, List, ◌∷◌, drop}
use Rattle.std.proofs.Math.Option.{some}
use Rattle.lexing.specs.Answer.{Answer, ok, refused}
use Rattle.tree.specs.Ast.{Span, Binding, binding, Expr, Stmt, Assign, Check, Assume, Reach, Assert, AForall, Probe}
use Rattle.grammar.specs.Steps.{Reader, parse_name}
use Rattle.grammar.specs.Rules.{opens_expr, parse_nonempty_comma_delimited_seq}
use Rattle.grammar.specs.Statements as rules
use Rattle.grammar.specs.Statements.{Gallery}
use Rattle.grammar.proofs.Size.Sizes.{name_size, option_size, seq_size, expr_size, call_argument_size, stmt_size, stmts_size, cases_size, a_expr_size, a_exprs_size}
use Rattle.grammar.proofs.Size.Answers.{Few, FewAt, few, nothing, refuses, FewWords, item, step, by, either, picked, since, lighter, led, keyword-few, sign-few, name-few}
use Rattle.grammar.proofs.Size.Answers.{Sums, list-sums, rep-few, nonempty-few, listed-few}
use Rattle.grammar.proofs.Size.Expressions.{parse_id_type-few, parse_optional_type-few, parse_expr-few}

-- a statement as an item of a sequence
abbrev S : Stmt Span → ℕ
S = item stmt_size

-- the rules of a gallery do
pub record AllFew (c : Gallery) : Type 0 where
  pub expr : FewWords (item expr_size) 0 c.expr
  pub block : FewWords (item stmt_size) 0 c.block
  pub stmt : FewWords (item stmt_size) 0 c.stmt
  pub if_cont : FewWords (item stmt_size) 2 c.if_cont
  pub loop : FewWords (item stmt_size) 0 c.loop

-- ---- sequences

statements-sum : Sums rules.statements stmt_size stmts_size 1
statements-sum = record { none = omega arith; more = λ s ss. omega arith }

abbrev case_size : Expr Span × Stmt Span → ℕ
case_size k = expr_size k.0 + stmt_size k.1

cases-sum : Sums rules.cases case_size cases_size 1
cases-sum = record { none = omega arith; more = λ k ks. omega arith }

aexprs-sum : Sums rules.aexprs a_expr_size a_exprs_size 1
aexprs-sum = record { none = omega arith; more = λ a es. omega arith }

module _ (text : List ℕ) where
  -- names with commas between them
  pub names-few : (m : ℕ) → FewWords (seq_size name_size) 1 (parse_nonempty_comma_delimited_seq text m rules.names (parse_name text))
  names-few = nonempty-few (list-sums name_size) text 0 (omega arith) (λ at. lighter (λ n. omega arith) (name-few text at))

  -- a name and its mark
  atomic-few : {k : ℕ} {mark : Reader ℕ} → FewWords (λ _. k) 0 mark → FewWords (λ _. 5 + k) 0 (rules.atomic text mark)
  unfolding rules.atomic
  atomic-few h at = by (name-few text) at nothing (λ n at₁ p₁. by h at₁ nothing (λ _ at₂ p₂. few (omega arith)))

  mark-few : FewWords (λ _. 5) 0 (rules.mark text)
  unfolding rules.mark
  mark-few at =
      either (lighter (λ _. omega arith) (sign-few text _ at)) (either (lighter (λ _. omega arith) (sign-few text _ at)) (sign-few text _ at))

  parse_optional_exit_argument-few : FewWords (option_size name_size) 1 (rules.parse_optional_exit_argument text)
  unfolding rules.parse_optional_exit_argument
  parse_optional_exit_argument-few at =
      by (atomic-few mark-few) at (by (name-few text) at (few (omega arith)) (λ n at₁ p₁. few (omega arith))) (λ _ _ _. few (omega arith))

  module _ (m : ℕ) {c : Gallery} (k : AllFew c) where
    -- an expression that must follow, made into something with no more than five words besides; the same of a block
    pub the_expr-few : {A : Type 0} {size : A → ℕ} (f : Expr Span → A) → ((e : Expr Span) → size (f e) ≤ 6 + expr_size e) → FewWords size 5 (rules.the_expr text m c f)
    the_expr-few f l at = either (by k.expr at nothing (λ e at₁ p. few (omega (arith, l e)))) refuses

    the_block-few : {A : Type 0} {size : A → ℕ} (f : Stmt Span → A) → ((s : Stmt Span) → size (f s) ≤ 6 + stmt_size s) → FewWords size 5 (rules.the_block text m c f)
    the_block-few f l at = either (by k.block at nothing (λ s at₁ p. few (omega (arith, l s)))) refuses

    pub parse_optional_auto_invariant-few : FewWords (option_size expr_size) 1 (rules.parse_optional_auto_invariant text m c)
    unfolding rules.parse_optional_auto_invariant
    parse_optional_auto_invariant-few at =
        by (keyword-few text _) at (few (omega arith)) (λ _ at₁ p₁. since (omega arith) (the_expr-few some (λ e. omega arith) at₁))

    parse_init-few : FewWords (option_size expr_size) 1 (rules.parse_init text m c)
    unfolding rules.parse_init
    parse_init-few at = by (sign-few text _) at (few (omega arith)) (λ _ at₁ p₁. since (omega arith) (the_expr-few some (λ e. omega arith) at₁))

    argument-few : FewWords (item call_argument_size) 1 (rules.parse_call_argument text m c)
    unfolding rules.parse_call_argument
    argument-few at =
        either (by (keyword-few text _) at nothing (λ _ at₁ p₁. either (by (name-few text) at₁ nothing (λ n at₂ p₂. few (omega arith))) refuses))
        (either (by (keyword-few text _) at nothing (λ _ at₁ p₁. either (by (name-few text) at₁ nothing (λ n at₂ p₂. few (omega arith))) refuses))
        (by k.expr at nothing (λ e at₁ p₁. few (omega arith))))

    -- clauses that begin with a word
    pub clauses-few : (b : ℕ) (w : List ℕ) → FewWords a_exprs_size 1 (rules.parse_a_expr_seq text m c (b ∷ w))
    unfolding rules.parse_a_expr_seq rules.parse_a_expr
    clauses-few b w =
        rep-few aexprs-sum (λ at. by (keyword-few text (b ∷ w)) at nothing
        (λ _ at₁ p₁. either (either (by k.block at₁ nothing (λ s at₂ p₂. few (omega arith)))
        (by k.expr at₁ nothing (λ e at₂ p₂. few (omega arith)))) refuses)) m

    -- ---- parse_stmt: what stands after a word has up to five more

    parse_variable_declaration-few : (is_mutable : Bool) → FewWords S 5 (rules.parse_variable_declaration text m c is_mutable)
    unfolding rules.parse_variable_declaration
    parse_variable_declaration-few is_mutable at =
        by (name-few text) at refuses
        (λ n at₁ p₁. by (parse_optional_type-few text) at₁ refuses
        (λ t at₂ p₂. by parse_optional_auto_invariant-few at₂ refuses
        (λ i at₃ p₃. by parse_init-few at₃ refuses
        (λ e at₄ p₄. by (rep-few statements-sum k.stmt m) at₄ refuses (λ ss at₅ p₅. few (omega arith))))))

    after_forall-few : FewWords S 5 (rules.after_forall text m c)
    unfolding rules.after_forall
    after_forall-few at = by (parse_id_type-few text) at refuses body
      where
        body : (b : Binding Span) (at₁ : ℕ) → Few 15 at at₁ 0 → FewAt S at 5 (rules.the_block text m c (rules.over_type b) at₁)
        body (binding n t) at₁ p₁ = since (omega arith) (the_block-few (AForall n t) (λ s. omega arith) at₁)

    parse_or-few : FewWords S 0 (rules.parse_or text m c)
    unfolding rules.parse_or
    parse_or-few at =
        by (keyword-few text _) at nothing (λ _ at₁ p₁. since (omega arith) (the_block-few (λ s. s) (λ s. omega arith) at₁))

    after_choose-few : FewWords S 5 (rules.after_choose text m c)
    unfolding rules.after_choose
    after_choose-few at =
        by k.block at refuses (λ s at₁ p₁. by (rep-few statements-sum parse_or-few m) at₁ refuses (λ ss at₂ p₂. few (omega arith)))

    parse_case-few : FewWords (λ k. 10 + case_size k) 0 (rules.parse_case text m c)
    unfolding rules.parse_case
    parse_case-few at =
        by (keyword-few text _) at nothing
        (λ _ at₁ p₁. by k.expr at₁ refuses (λ e at₂ p₂. either (by k.block at₂ nothing (λ s at₃ p₃. few (omega arith))) refuses))

    parse_else-few : FewWords stmt_size 2 (rules.parse_else text m c)
    unfolding rules.parse_else
    parse_else-few at =
        by (keyword-few text _) at (few (omega arith))
        (λ _ at₁ p₁. either (either (by (keyword-few text _) at₁ nothing
        (λ _ at₂ p₂. either (lighter (λ s. omega arith) (since (omega arith) (k.if_cont at₂))) refuses))
        (lighter (λ s. omega arith) (since (omega arith) (k.block at₁)))) refuses)

    parse_if_cont-few : FewWords S 2 (rules.parse_if_cont text m c)
    unfolding rules.parse_if_cont
    parse_if_cont-few at =
        either (by parse_case-few at nothing
        (λ k at₁ p₁. by (rep-few cases-sum (λ at. lighter (λ k. omega arith) (parse_case-few at)) m) at₁ refuses (λ ks at₂ p₂. few (omega arith))))
        (by k.expr at nothing
        (λ e at₁ p₁. by k.block at₁ refuses (λ s at₂ p₂. by parse_else-few at₂ refuses (λ t at₃ p₃. few (omega arith)))))

    parse_loop-few : FewWords S 0 (rules.parse_loop text m c)
    unfolding rules.parse_loop
    parse_loop-few at =
        by (keyword-few text _) at nothing
        (λ _ at₁ p₁. by (clauses-few _ _) at₁ refuses (λ is at₂ p₂. either (by k.block at₂ nothing (λ s at₃ p₃. few (omega arith))) refuses))

    after_label-few : (n : Span) → FewWords S 5 (rules.after_label text m c n)
    unfolding rules.after_label
    after_label-few n at = either (step S 0 (either (k.block at) (k.loop at)) nothing (λ s at₁ p₁. few (omega arith))) refuses

    after_call-few : (n : Span) → FewWords S 10 (rules.after_call text m c n)
    unfolding rules.after_call
    after_call-few n at =
        either (by (listed-few (list-sums call_argument_size) text 1 (omega arith) argument-few m _) at nothing (λ cs at₁ p₁. few (omega arith))) refuses

    parse_stmt-few : FewWords S 0 (rules.parse_stmt text m c)
    unfolding rules.parse_stmt rules.after_assign
    parse_stmt-few at =
        either (led text (parse_variable_declaration-few _) _ _ at)
        (either (led text (parse_variable_declaration-few _) _ _ at)
        (either (led text (λ at. either (by (names-few m) at nothing (λ ns at₁ p₁. few (omega arith))) refuses) _ _ at)
        (either (led text (λ at. either (by parse_optional_exit_argument-few at nothing (λ l at₁ p₁. few (omega arith))) refuses) _ _ at)
        (either (led text (λ at. few (omega arith)) _ _ at)
        (either (led text (the_expr-few Check (λ e. omega arith)) _ _ at)
        (either (led text (the_expr-few Assume (λ e. omega arith)) _ _ at)
        (either (led text (the_expr-few Reach (λ e. omega arith)) _ _ at)
        (either (led text (the_expr-few Assert (λ e. omega arith)) _ _ at)
        (either (led text (the_expr-few Probe (λ e. omega arith)) _ _ at)
        (either (led text after_forall-few _ _ at)
        (either (k.block at)
        (either (led text after_choose-few _ _ at)
        (either (led text (λ at. either (since (omega arith) (parse_if_cont-few at)) refuses) _ _ at)
        (either (k.loop at)
        (either (by (atomic-few (sign-few text _)) at nothing (λ n at₁ p₁. since (omega arith) (the_expr-few (Assign n) (λ e. omega arith) at₁)))
        (either (by (atomic-few (sign-few text _)) at nothing (λ n at₁ p₁. since (omega arith) (after_label-few n at₁)))
        (by (atomic-few (sign-few text _)) at nothing (λ n at₁ p₁. since (omega arith) (after_call-few n at₁)))))))))))))))))))

    parse_block-few : FewWords S 0 (rules.parse_block text m c)
    unfolding rules.parse_block rules.rep_till
    parse_block-few at =
        by (sign-few text _) at nothing
        (λ _ at₁ p₁. either (step stmts_size 1 {at = at₁} (by (rep-few statements-sum parse_stmt-few m) at₁ refuses
        (λ ss at₂ p₂. by (sign-few text _) at₂ refuses (λ _ at₃ p₃. few {a = ss} (omega arith)))) nothing (λ ss at₂ p₂. few (omega arith))) refuses)

  -- ---- depth

  -- what is too deep gives nothing
  too_deep-few : {A : Type 0} {from : ℕ} (at : ℕ) (r : Answer A) → FewAt S from 0 (rules.too_deep at r)
  unfolding rules.too_deep
  too_deep-few at (ok a next) = refuses
  too_deep-few at Answer.none = nothing
  too_deep-few at (refused number place) = refuses

  -- the rules with d levels left
  pub gallery-few : (m d : ℕ) → AllFew (rules.gallery text m d)
  unfolding rules.gallery
  gallery-few m zero =
      record {
        expr = parse_expr-few text m zero;
        block = λ at. too_deep-few at _;
        stmt = λ at. either (too_deep-few at _) (either (too_deep-few at _) (by (name-few text) at nothing (λ _ _ _. too_deep-few at _)));
        if_cont = λ at. picked (opens_expr (drop at text)) refuses nothing;
        loop = λ at. too_deep-few at _;
      }
  gallery-few m (suc d) =
      record {
        expr = parse_expr-few text m (suc d);
        block = parse_block-few m (gallery-few m d);
        stmt = parse_stmt-few m (gallery-few m d);
        if_cont = parse_if_cont-few m (gallery-few m d);
        loop = parse_loop-few m (gallery-few m d);
      }
