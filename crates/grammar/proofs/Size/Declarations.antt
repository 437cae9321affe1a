-- A program that `TopLevel` (Declarations.antt) gives has at most five words for each byte that it takes, and five more.
use Rattle.std.specs.Prelude.{ℕ, ◌+◌, ◌≤◌, List}
use Rattle.std.proofs.Common.{arith}
use Rattle.std.proofs.Math.Option.{none}
use Rattle.tree.specs.Ast.{Span, Binding, Exprs, no_exprs, ◌then◌, Program}
use Rattle.grammar.specs.Steps.{mapped}
use Rattle.grammar.specs.Rules.{parse_id_type}
use Rattle.grammar.specs.Statements.{Gallery}
use Rattle.grammar.specs.Declarations as rules
use Rattle.grammar.specs.Declarations.{TopLevelDecl, TType, TTagger, TFunction, TAxiom, TProc, declare, SeparateTopLevelDecls}
use Rattle.grammar.proofs.Size.Sizes.{name_size, option_size, seq_size, exprs_size, stmt_size, f_parameter_size, function_definition_size, function_size, axiom_size, p_parameter_size, procedure_size, program_size}
use Rattle.grammar.proofs.Size.Answers.{Few, FewAt, few, nothing, refuses, FewWords, item, step, by, either, since, led, keyword-few, sign-few, name-few}
use Rattle.grammar.proofs.Size.Answers.{Sums, list-sums, rep-few, listed-few}
use Rattle.grammar.proofs.Size.Expressions.{exprs-sum, parse_id_type-few}
use Rattle.grammar.proofs.Size.Statements.{AllFew, names-few, the_expr-few, parse_optional_auto_invariant-few, clauses-few}

-- a declaration's words, without the 1 before it
abbrev declaration_size : TopLevelDecl → ℕ
declaration_size (TType t) = 2
declaration_size (TTagger t) = 4
declaration_size (TFunction f) = function_size f
declaration_size (TAxiom a) = axiom_size a
declaration_size (TProc p) = procedure_size p

declarations-sum : Sums rules.declarations declaration_size (λ ds. program_size (SeparateTopLevelDecls ds)) 5
unfolding SeparateTopLevelDecls
declarations-sum = record { none = omega arith; more = λ d ds. before d (SeparateTopLevelDecls ds) }
  where
    before : (d : TopLevelDecl) (p : Program Span) → program_size (declare d p) ≤ item declaration_size d + program_size p
    before (TType t) p = omega arith
    before (TTagger t) p = omega arith
    before (TFunction f) p = omega arith
    before (TAxiom a) p = omega arith
    before (TProc d) p = omega arith

module _ (text : List ℕ) (m : ℕ) {c : Gallery} (k : AllFew c) where
  -- a name with its type, made into something of at most 15 words
  made : {A : Type 0} {size : A → ℕ} (f : Binding Span → A) → ((a : A) → size a ≤ 15) → FewWords size 0 (λ at. mapped f (parse_id_type text at))
  made f l at = by (parse_id_type-few text) at nothing (λ b at₁ p. few (omega (arith, l (f b))))

  formal-few : FewWords (item f_parameter_size) 0 (rules.parse_function_formal text)
  unfolding rules.parse_function_formal
  formal-few at =
      by (keyword-few text _) at (made _ (λ p. omega arith) at) (λ _ at₁ p₁. either (since (omega arith) (made _ (λ p. omega arith) at₁)) refuses)

  parse_tag-few : FewWords (option_size name_size) 1 (rules.parse_tag text)
  unfolding rules.parse_tag
  parse_tag-few at =
      by (keyword-few text _) at (few (omega arith)) (λ _ at₁ p₁. by (name-few text) at₁ refuses (λ n at₂ p₂. few (omega arith)))

  parse_function_definition-few : FewWords (option_size function_definition_size) 1 (rules.parse_function_definition text m c)
  unfolding rules.parse_function_definition rules.parse_when_clause
  parse_function_definition-few at =
      by (rep-few exprs-sum (λ at. led text (the_expr-few text m k (λ e. e) (λ e. omega arith)) _ _ at) m) at refuses
      (λ es at₁ p₁. by (sign-few text _) at₁ (undefined-few es at₁ p₁)
      (λ _ at₂ p₂. by k.expr at₂ refuses (λ e at₃ p₃. by (sign-few text _) at₃ refuses (λ _ at₄ p₄. few (omega arith)))))
    where
      undefined-few : (es : Exprs Span) (at₁ : ℕ) → Few (exprs_size es) at at₁ 1 → FewAt (option_size function_definition_size) at 1 (rules.undefined es at₁)
      undefined-few no_exprs at₁ p₁ = few {a = none} {next = at₁} (omega arith)
      undefined-few (◌then◌ e es) at₁ p₁ = refuses

  after_function-few : FewWords (item function_size) 5 (rules.after_function text m c)
  unfolding rules.after_function
  after_function-few at =
      by (name-few text) at refuses
      (λ n at₁ p₁. by (sign-few text _) at₁ refuses
      (λ _ at₂ p₂. by (listed-few (list-sums f_parameter_size) text 0 (omega arith) formal-few m _) at₂ refuses
      (λ ps at₃ p₃. by (sign-few text _) at₃ refuses
      (λ _ at₄ p₄. by (name-few text) at₄ refuses
      (λ t at₅ p₅. by parse_tag-few at₅ refuses (λ g at₆ p₆. by parse_function_definition-few at₆ refuses (λ d at₇ p₇. few (omega arith))))))))

  parse_explains-few : FewWords (seq_size name_size) 1 (rules.parse_explains text m c)
  unfolding rules.parse_explains
  parse_explains-few at = by (keyword-few text _) at (few (omega arith)) (λ _ at₁ p₁. either (since (omega arith) (names-few text m at₁)) refuses)

  after_axiom-few : FewWords (item axiom_size) 5 (rules.after_axiom text m c)
  unfolding rules.after_axiom
  after_axiom-few at =
      by parse_explains-few at refuses (λ ns at₁ p₁. either (by k.expr at₁ nothing (λ e at₂ p₂. few (omega arith))) refuses)

  parse_moded-few : FewWords (λ _. 15) 0 (rules.parse_moded text)
  unfolding rules.parse_moded
  parse_moded-few at =
      either (by (keyword-few text _) at nothing (λ _ at₁ p₁. either (since (omega arith) (made _ (λ p. omega arith) at₁)) refuses))
      (either (by (keyword-few text _) at nothing (λ _ at₁ p₁. either (since (omega arith) (made _ (λ p. omega arith) at₁)) refuses))
      (made _ (λ p. omega arith) at))

  parameter-few : FewWords (item p_parameter_size) 0 (rules.parse_proc_formal text m c)
  unfolding rules.parse_proc_formal
  parameter-few at =
      by parse_moded-few at nothing (λ p at₁ p₁. by (parse_optional_auto_invariant-few text m k) at₁ refuses (λ i at₂ p₂. few (omega arith)))

  after_procedure-few : FewWords (item procedure_size) 5 (rules.after_procedure text m c)
  unfolding rules.after_procedure
  after_procedure-few at =
      by (name-few text) at refuses
      (λ n at₁ p₁. by (sign-few text _) at₁ refuses
      (λ _ at₂ p₂. by (listed-few (list-sums p_parameter_size) text 0 (omega arith) parameter-few m _) at₂ refuses
      (λ ps at₃ p₃. by (clauses-few text m k _ _) at₃ refuses
      (λ pre at₄ p₄. by (clauses-few text m k _ _) at₄ refuses
      (λ post at₅ p₅. step (option_size stmt_size) 1 {at = at₅} (by k.block at₅ (few (omega arith)) (λ s at₆ p₆. few (omega arith))) refuses
      (λ b at₆ p₆. few (omega arith)))))))

  parse_top_level_decl-few : FewWords (item declaration_size) 0 (rules.parse_top_level_decl text m c)
  unfolding rules.parse_top_level_decl rules.after_type rules.after_tagger
  parse_top_level_decl-few at =
      either (led text (λ at. step (λ _. 5) 0 {at = at} (either (name-few text at) refuses) nothing (λ n at₁ p₁. few (omega arith))) _ _ at)
      (either (led text (λ at. step (λ _. 10) 0 {at = at} (by (name-few text) at refuses
      (λ n at₁ p₁. by (keyword-few text _) at₁ refuses (λ _ at₂ p₂. by (name-few text) at₂ refuses (λ t at₃ p₃. few (omega arith))))) nothing
      (λ t at₁ p₁. few (omega arith))) _ _ at)
      (either (led text (λ at. by after_function-few at nothing (λ f at₁ p₁. few (omega arith))) _ _ at)
      (either (led text (λ at. by after_axiom-few at nothing (λ a at₁ p₁. few (omega arith))) _ _ at)
      (led text (λ at. by after_procedure-few at nothing (λ p at₁ p₁. few (omega arith))) _ _ at))))

  -- a program
  pub TopLevel-few : FewWords program_size 5 (rules.TopLevel text m c)
  unfolding rules.TopLevel
  TopLevel-few at = by (rep-few declarations-sum parse_top_level_decl-few m) at nothing (λ ds at₁ p₁. few {a = SeparateTopLevelDecls ds} p₁)
