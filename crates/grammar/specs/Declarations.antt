-- The reading rules of declarations and programs, in Parser.dfy's order and under its names in snake case (REFERENCE, "The reading rules").
use Rattle.std.specs.Prelude.{ℕ, Bool, true, false, List, [], ◌∷◌}
use Rattle.std.proofs.Math.Option.{Option, none, some}
use Rattle.lexing.specs.Answer.{Answer, ok, refused, unusable_token}
use Rattle.tree.specs.Ast.{Span, Binding, binding, Expr, Exprs, no_exprs, ◌then◌, ParameterMode, In, InOut, Out}
use Rattle.tree.specs.Ast.{Tagger, FParameter, FunctionDefinition, Function, Axiom, PParameter, Procedure, Program}
use Rattle.lexing.specs.Bytes.{bytes}
use Rattle.grammar.specs.Steps.{Reader, after, need, must, ◌or◌, mapped, T, Sym, parse_name, parse_type}
use Rattle.grammar.specs.Rules.{Sequence, exprs, parse_id_type, parse_nonempty_comma_delimited_seq, parse_listed}
use Rattle.grammar.specs.Statements.{Gallery, rep, names, parse_optional_auto_invariant, parse_a_expr_seq, the_expr}

abbrev pub formals : Sequence (FParameter Span) (List (FParameter Span))
formals = record { nil = []; cons = ◌∷◌ }

abbrev pub parameters : Sequence (PParameter Span) (List (PParameter Span))
parameters = record { nil = []; cons = ◌∷◌ }

pub data TopLevelDecl : Type 0 where
  TType : Span → TopLevelDecl
  TTagger : Tagger Span → TopLevelDecl
  TFunction : Function Span → TopLevelDecl
  TAxiom : Axiom Span → TopLevelDecl
  TProc : Procedure Span → TopLevelDecl

abbrev pub declarations : Sequence TopLevelDecl (List TopLevelDecl)
declarations = record { nil = []; cons = ◌∷◌ }

-- a declaration before those of a program
abbrev pub declare : TopLevelDecl → Program Span → Program Span
declare (TType t) p = record { types = t ∷ p.types; taggers = p.taggers; functions = p.functions; axioms = p.axioms; procedures = p.procedures }
declare (TTagger t) p = record { types = p.types; taggers = t ∷ p.taggers; functions = p.functions; axioms = p.axioms; procedures = p.procedures }
declare (TFunction f) p = record { types = p.types; taggers = p.taggers; functions = f ∷ p.functions; axioms = p.axioms; procedures = p.procedures }
declare (TAxiom a) p = record { types = p.types; taggers = p.taggers; functions = p.functions; axioms = a ∷ p.axioms; procedures = p.procedures }
declare (TProc d) p = record { types = p.types; taggers = p.taggers; functions = p.functions; axioms = p.axioms; procedures = d ∷ p.procedures }

-- `SeparateTopLevelDecls`: each kind in the order of the text
unfoldable pub SeparateTopLevelDecls : List TopLevelDecl → Program Span
SeparateTopLevelDecls [] = record { types = []; taggers = []; functions = []; axioms = []; procedures = [] }
SeparateTopLevelDecls (d ∷ ds) = declare d (SeparateTopLevelDecls ds)

-- a formal of a function
abbrev pub formal : Bool → Binding Span → FParameter Span
formal i (binding n t) = record { name = n; injective = i; typ = t }

-- no `{` follows: there is no definition, unless `when` clauses stood before it
abbrev pub undefined : Exprs Span → Reader (Option (FunctionDefinition Span))
undefined no_exprs at = ok none at
undefined (◌then◌ e es) at = refused unusable_token at

-- a parameter without its invariant
abbrev pub moded : ParameterMode → Binding Span → PParameter Span
moded d (binding n t) = record { name = n; mode = d; typ = t; optional_auto_inv = none }

module _ (text : List ℕ) where
  -- after `type`
  unfoldable pub after_type : Reader Span
  after_type at = must at (parse_name text at)

  -- after `tagger`
  unfoldable pub after_tagger : Reader (Tagger Span)
  after_tagger at =
      need at (parse_name text at)
      (λ n at₁. need at₁ (T text "for" at₁) (λ _ at₂. need at₂ (parse_type text at₂) (λ t at₃. ok (record { name = n; typ = t }) at₃)))

  -- a name with its type must follow `injective`
  unfoldable pub parse_function_formal : Reader (FParameter Span)
  parse_function_formal at =
      after (T text "injective" at) (mapped (formal false) (parse_id_type text at)) (λ _ at₁. must at₁ (mapped (formal true) (parse_id_type text at₁)))

  -- `T("tag").e_I(parseId).Option()`
  unfoldable pub parse_tag : Reader (Option Span)
  parse_tag at = after (T text "tag" at) (ok none at) (λ _ at₁. need at₁ (parse_name text at₁) (λ n at₂. ok (some n) at₂))

  module _ (m : ℕ) (c : Gallery) where
    unfoldable pub parse_when_clause : Reader (Expr Span)
    parse_when_clause at = after (T text "when" at) Answer.none (λ _ at₁. the_expr text m c (λ e. e) at₁)

    -- `parseFunctionDefinition.Option()`
    unfoldable pub parse_function_definition : Reader (Option (FunctionDefinition Span))
    unfolding parse_when_clause rep
    parse_function_definition at =
        need at (rep exprs m parse_when_clause at)
        (λ when at₁. after (Sym text "{" at₁) (undefined when at₁)
        (λ _ at₂. need at₂ (c.expr at₂) (λ e at₃. need at₃ (Sym text "}" at₃) (λ _ at₄. ok (some (record { when = when; body = e })) at₄))))

    -- after `function`
    unfoldable pub after_function : Reader (Function Span)
    unfolding parse_function_formal parse_tag parse_function_definition
    after_function at =
        need at (parse_name text at)
        (λ n at₁. need at₁ (Sym text "(" at₁)
        (λ _ at₂. need at₂ (parse_listed text m formals parse_function_formal (bytes ")") at₂)
        (λ ps at₃. need at₃ (Sym text ":" at₃)
        (λ _ at₄. need at₄ (parse_type text at₄)
        (λ t at₅. need at₅ (parse_tag at₅)
        (λ g at₆. need at₆ (parse_function_definition at₆)
        (λ d at₇. ok (record { name = n; parameters = ps; result_type = t; tag = g; definition = d }) at₇)))))))

    -- `T("explains").e_I(..).Option()`
    unfoldable pub parse_explains : Reader (List Span)
    parse_explains at =
        after (T text "explains" at) (ok [] at) (λ _ at₁. must at₁ (parse_nonempty_comma_delimited_seq text m names (parse_name text) at₁))

    -- after `axiom`
    unfoldable pub after_axiom : Reader (Axiom Span)
    unfolding parse_explains
    after_axiom at = need at (parse_explains at) (λ ns at₁. the_expr text m c (λ e. record { explains = ns; expr = e }) at₁)

  -- `parseParameterMode` and a name with its type, which must follow `inout` and `out`
  unfoldable pub parse_moded : Reader (PParameter Span)
  parse_moded at =
      after (T text "inout" at) Answer.none (λ _ at₁. must at₁ (mapped (moded InOut) (parse_id_type text at₁)))
      or after (T text "out" at) Answer.none (λ _ at₁. must at₁ (mapped (moded Out) (parse_id_type text at₁)))
      or mapped (moded In) (parse_id_type text at)

  module _ (m : ℕ) (c : Gallery) where
    unfoldable pub parse_proc_formal : Reader (PParameter Span)
    unfolding parse_moded parse_optional_auto_invariant
    parse_proc_formal at =
        after (parse_moded at) Answer.none
        (λ p at₁. need at₁ (parse_optional_auto_invariant text m c at₁)
        (λ i at₂. ok (record { name = p.name; mode = p.mode; typ = p.typ; optional_auto_inv = i }) at₂))

    -- after `procedure`
    unfoldable pub after_procedure : Reader (Procedure Span)
    unfolding parse_proc_formal parse_a_expr_seq
    after_procedure at =
        need at (parse_name text at)
        (λ n at₁. need at₁ (Sym text "(" at₁)
        (λ _ at₂. need at₂ (parse_listed text m parameters parse_proc_formal (bytes ")") at₂)
        (λ ps at₃. need at₃ (parse_a_expr_seq text m c (bytes "requires") at₃)
        (λ pre at₄. need at₄ (parse_a_expr_seq text m c (bytes "ensures") at₄)
        (λ post at₅. need at₅ (after (c.block at₅) (ok none at₅) (λ s at₆. ok (some s) at₆))
        (λ b at₆. ok (record { name = n; parameters = ps; pre = pre; post = post; body = b }) at₆))))))

    unfoldable pub parse_top_level_decl : Reader TopLevelDecl
    unfolding after_type after_tagger after_function after_axiom after_procedure
    parse_top_level_decl at =
        after (T text "type" at) Answer.none (λ _ at₁. mapped TType (after_type at₁))
        or after (T text "tagger" at) Answer.none (λ _ at₁. mapped TTagger (after_tagger at₁))
        or after (T text "function" at) Answer.none (λ _ at₁. mapped TFunction (after_function m c at₁))
        or after (T text "axiom" at) Answer.none (λ _ at₁. mapped TAxiom (after_axiom m c at₁))
        or after (T text "procedure" at) Answer.none (λ _ at₁. mapped TProc (after_procedure at₁))

    -- `TopLevel` between the leading blanks and the text's end. Each token takes the blanks after it, so upstream's blanks after a declaration
    -- are none.
    unfoldable pub TopLevel : Reader (Program Span)
    unfolding parse_top_level_decl SeparateTopLevelDecls rep
    TopLevel at = mapped SeparateTopLevelDecls (rep declarations m parse_top_level_decl at)
