-- A function that changes no span inside the text changes no program that `TopLevel` (Declarations.antt) gives, and its places lie inside the text.
use Rattle.std.specs.Prelude.{ℕ, refl, List, map}
use Rattle.std.proofs.Math.Option.{Option, none, some}
use Rattle.lexing.specs.Answer.{Answer, ok}
use Rattle.tree.specs.Ast.{Span, Exprs, no_exprs, ◌then◌, FParameter, FunctionDefinition, PParameter, Program}
use Rattle.tree.specs.Resolve.{map_option, map_expr, map_stmt, map_a_exprs, map_f_parameter, map_function_definition, map_p_parameter, map_program}
use Rattle.lexing.specs.Bytes.{bytes}
use Rattle.grammar.specs.Steps.{Reader, after, mapped, keyword_at}
use Rattle.grammar.specs.Rules.{parse_listed}
use Rattle.grammar.specs.Statements.{Gallery}
use Rattle.grammar.specs.Declarations as rules
use Rattle.grammar.specs.Declarations.{TopLevelDecl, TType, TTagger, TFunction, TAxiom, TProc, declare, SeparateTopLevelDecls}
use Rattle.grammar.proofs.Inside.Answers.{given, nothing, ReadsIn, Fixed, unusable, step, by, token, either, sign-placed, keyword-placed, steps, Closed, list-closed, rep-gives, listed-gives, Keeping, name-kept}
use Rattle.grammar.proofs.Inside.Expressions.{exprs-closed, by-id_type}
use Rattle.grammar.proofs.Inside.Statements.{KeptBy, names-kept, parse_optional_auto_invariant-kept, by-clauses}

module _ {text : List ℕ} (K : Keeping text) where
  abbrev keep : Span → Span
  keep = K.keep

  abbrev Reads : {A : Type 0} → (A → Type 0) → Reader A → Type 0
  Reads P = ReadsIn P text

  -- ---- sequences

  abbrev FormalKept : FParameter Span → Type 0
  FormalKept p = Fixed keep p.name × Fixed keep p.typ

  formals-closed : Closed rules.formals FormalKept (Fixed (map (map_f_parameter keep)))
  formals-closed = list-closed (map_f_parameter keep) (λ p h i. record { name = h.0 i; injective = p.injective; typ = h.1 i })

  abbrev ParameterKept : PParameter Span → Type 0
  ParameterKept p = Fixed keep p.name × Fixed keep p.typ × Fixed (map_option (map_expr keep)) p.optional_auto_inv

  parameters-closed : Closed rules.parameters ParameterKept (Fixed (map (map_p_parameter keep)))
  parameters-closed = list-closed (map_p_parameter keep) (λ p h i. record { name = h.0 i; mode = p.mode; typ = h.1 i; optional_auto_inv = h.2 i })

  abbrev Kept : Program Span → Type 0
  Kept = Fixed (map_program keep)

  -- before a program that is kept it makes one that is kept
  abbrev Declares : TopLevelDecl → Type 0
  Declares d = (p : Program Span) → Kept p → Kept (declare d p)

  declarations-closed : Closed rules.declarations Declares (λ ds. Kept (SeparateTopLevelDecls ds))
  unfolding SeparateTopLevelDecls
  declarations-closed = record { none = refl; more = λ d h ds t. h (SeparateTopLevelDecls ds) t }

  -- ---- declarations

  module _ (m : ℕ) {c : Gallery} (k : KeptBy K.keep text c) where
    formals-kept : Reads (Fixed (map (map_f_parameter keep))) (parse_listed text m rules.formals (rules.parse_function_formal text) (bytes ")"))
    unfolding rules.parse_function_formal
    formals-kept = listed-gives text formals-closed _ (λ at l. search (by-id_type K, steps) depth 8) m _

    abbrev DefinitionKept : Option (FunctionDefinition Span) → Type 0
    DefinitionKept = Fixed (map_option (map_function_definition keep))

    undefined-kept : (es : Exprs Span) → Reads DefinitionKept (rules.undefined es)
    undefined-kept no_exprs at l = given refl l
    undefined-kept (◌then◌ e es) at l = unusable l

    parse_function_definition-kept : Reads DefinitionKept (rules.parse_function_definition text m c)
    unfolding rules.parse_function_definition
    parse_function_definition-kept at l =
        by (rep-gives text (exprs-closed K) _ (λ at l. search (by k.expr, steps) depth 8) m) at l (unusable l)
        (λ es when at₁ l₁. token (sign-placed text at₁ l₁ _) (undefined-kept es at₁ l₁) (λ _ at₂ l₂. by k.expr at₂ l₂ (unusable l₂)
        (λ _ e at₃ l₃. token (sign-placed text at₃ l₃ _) (unusable l₃) (λ _ _. given (λ i. some (record { when = when i; body = e i }))))))

    parse_tag-kept : Reads (Fixed (map_option keep)) (rules.parse_tag text)
    unfolding rules.parse_tag
    parse_tag-kept at l = search (by (name-kept K), steps) depth 8

    after_function-kept : Reads
        (λ f. Fixed keep f.name × Fixed (map (map_f_parameter keep)) f.parameters × Fixed keep f.result_type × Fixed (map_option keep) f.tag
        × DefinitionKept f.definition) (rules.after_function text m c)
    unfolding rules.after_function
    after_function-kept at l = search (by (name-kept K), by formals-kept, by parse_tag-kept, by parse_function_definition-kept, steps) depth 24

    moded-kept : Reads (λ p. Fixed keep p.name × Fixed keep p.typ) (rules.parse_moded text)
    unfolding rules.parse_moded
    moded-kept at l = search (by-id_type K, steps) depth 12

    parameters-kept : Reads (Fixed (map (map_p_parameter keep))) (parse_listed text m rules.parameters (rules.parse_proc_formal text m c) (bytes ")"))
    unfolding rules.parse_proc_formal
    parameters-kept =
        listed-gives text parameters-closed _
        (λ at l. by moded-kept at l nothing
        (λ _ p at₁ l₁. by (parse_optional_auto_invariant-kept K m k) at₁ l₁ (unusable l₁) (λ _ i _. given (p.0, p.1, i)))) m _

    body_kept : Reads (Fixed (map_option (map_stmt keep))) (λ at. after (c.block at) (ok none at) (λ s at₁. ok (some s) at₁))
    body_kept at l = search (by k.block, steps)

    after_procedure-kept : Reads
        (λ p. Fixed keep p.name × Fixed (map (map_p_parameter keep)) p.parameters × Fixed (map_a_exprs keep) p.pre × Fixed (map_a_exprs keep) p.post
        × Fixed (map_option (map_stmt keep)) p.body) (rules.after_procedure text m c)
    unfolding rules.after_procedure
    after_procedure-kept at l = search (by (name-kept K), by parameters-kept, by-clauses K m k, by body_kept, steps) depth 24

    parse_explains-kept : Reads (Fixed (map keep)) (rules.parse_explains text m c)
    unfolding rules.parse_explains
    parse_explains-kept at l = search (by (names-kept K m), steps) depth 8

    -- a declaration after its word
    declared : {A : Type 0} (P : A → Type 0) (w : List ℕ) (f : A → TopLevelDecl) {rule : Reader A} → Reads P rule → ((a : A) → P a → Declares (f a))
        → Reads Declares (λ at. after (keyword_at text w at) Answer.none (λ _ at₁. mapped f (rule at₁)))
    declared P w f h d at l = token (keyword-placed text at l w) nothing (λ _ at₁ l₁. by h at₁ l₁ nothing (λ a p _. given (d a p)))

    parse_top_level_decl-declares : Reads Declares (rules.parse_top_level_decl text m c)
    unfolding rules.parse_top_level_decl
    parse_top_level_decl-declares at l =
        either (declared (Fixed keep) _ TType (λ at l. search (by (name-kept K), steps)) (λ _ h _ g i. declare (TType (h i)) (g i)) at l)
        (either (declared (λ t. Fixed keep t.name × Fixed keep t.typ) _ TTagger (λ at l. search (by (name-kept K), steps) depth 12)
        (λ _ h _ g i. declare (TTagger (record { name = h.0 i; typ = h.1 i })) (g i)) at l)
        (either (declared _ _ TFunction after_function-kept
        (λ _ h _ g i. declare (TFunction (record { name = h.0 i; parameters = h.1 i; result_type = h.2 i; tag = h.3 i; definition = h.4 i })) (g i)) at l)
        (either (declared (λ a. Fixed (map keep) a.explains × Fixed (map_expr keep) a.expr) _ TAxiom (λ at l. search (by k.expr, by parse_explains-kept, steps) depth 12)
        (λ _ h _ g i. declare (TAxiom (record { explains = h.0 i; expr = h.1 i })) (g i)) at l)
        (declared _ _ TProc after_procedure-kept
        (λ _ h _ g i. declare (TProc (record { name = h.0 i; parameters = h.1 i; pre = h.2 i; post = h.3 i; body = h.4 i })) (g i)) at l))))

    pub TopLevel-kept : ReadsIn (Fixed (map_program K.keep)) text (rules.TopLevel text m c)
    unfolding rules.TopLevel
    TopLevel-kept at l = step _ (rep-gives text declarations-closed _ parse_top_level_decl-declares m at l) nothing (λ _ h _. given h)
