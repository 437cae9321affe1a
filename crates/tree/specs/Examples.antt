-- Closed examples, by computation: words of trees, and tables with their answers.
use Rattle.std.specs.Prelude.{Err}
use Rattle.std.specs.Prelude.{ℕ, ◌+◌, ◌≡◌, refl, false, List, [], ◌∷◌, get_or, drop, replicate}
use Rattle.std.proofs.Math.Option.{some}
use Rattle.tree.specs.Ast.{Span, Expr, Exprs, Operator, OperatorExpr, IdExpr, ILiteral, Plus, no_exprs, ◌then◌, Return, no_a_exprs, InOut}
use Rattle.tree.specs.Resolve.{part, resolve_expr}
use Rattle.tree.specs.Words.{expr_words, program_words, operator_word, exprs_words}
use Rattle.tree.specs.Kind.{expr}
use Rattle.tree.specs.Check.{one_tree, run, check_expression, check_program}
use Rattle.tree.specs.Trees.{spans, words}
use Rattle.tree.specs.Walk.{tree-at-word}
use Rattle.tree.specs.declared.CheckError.TheVariants.{Misfit, TooManyWords}

abbrev span : ℕ → ℕ → Span
span s l = record { start = s; len = l }

-- P11: `a + 1`
abbrev a+1 : Expr Span
a+1 = OperatorExpr Plus (◌then◌ (IdExpr (span 0 1) false) (◌then◌ (ILiteral 1) no_exprs))

abbrev p11 : List ℕ
p11 = 5 ∷ 10 ∷ 1 ∷ 4 ∷ 0 ∷ 1 ∷ 0 ∷ 1 ∷ 2 ∷ 0 ∷ 1 ∷ 0 ∷ []

p11-words : expr_words (λ s. s) a+1 [] ≡ p11
p11-words = refl

p11-tree : check_expression p11 5 ≡ one_tree
unfolding check_expression run
p11-tree = refl

-- over the empty text its name misfits, at the name's first word; cut off, the word count is the place
p11-name : check_expression p11 0 ≡ Err (Misfit 4)
unfolding check_expression run
p11-name = refl

p11-cut : check_expression (5 ∷ 10 ∷ 1 ∷ 4 ∷ 9 ∷ []) 5 ≡ Err (Misfit 5)
unfolding check_expression run
p11-cut = refl

-- its names' bytes: `a` is 97
p11-resolved : resolve_expr (97 ∷ 32 ∷ 43 ∷ 32 ∷ 49 ∷ []) a+1 ≡ OperatorExpr Plus (◌then◌ (IdExpr (97 ∷ []) false) (◌then◌ (ILiteral 1) no_exprs))
unfolding part
p11-resolved = refl

-- the empty program; a word more
empty-program : check_program (0 ∷ 0 ∷ 0 ∷ 0 ∷ 0 ∷ []) 4 ≡ one_tree
unfolding check_program run
empty-program = refl

surplus-word : check_program (0 ∷ 0 ∷ 0 ∷ 0 ∷ 0 ∷ 0 ∷ []) 4 ≡ Err (Misfit 5)
unfolding check_program run
surplus-word = refl

-- a bool, an operator, a sequence's mark, an expression's and a statement's word that are none
no_bool : check_expression (1 ∷ 2 ∷ []) 0 ≡ Err (Misfit 1)
unfolding check_expression run
no_bool = refl

no-operator : check_expression (5 ∷ 17 ∷ 0 ∷ []) 0 ≡ Err (Misfit 1)
unfolding check_expression run
no-operator = refl

no-mark : check_expression (5 ∷ 10 ∷ 2 ∷ []) 0 ≡ Err (Misfit 2)
unfolding check_expression run
no-mark = refl

no-expr : check_expression (37 ∷ []) 0 ≡ Err (Misfit 0)
unfolding check_expression run
no-expr = refl

-- `procedure p(inout x: int autoinv 18446744073709551615) { return }`, and the same with mode 4 and with 39 for the body
abbrev procedure_with : ℕ → ℕ → List ℕ
procedure_with m s = 0 ∷ 0 ∷ 0 ∷ 0 ∷ 1 ∷ 10 ∷ 1 ∷ 1 ∷ 18 ∷ 1 ∷ m ∷ 21 ∷ 3 ∷ 1 ∷ 2 ∷ 4294967295 ∷ 4294967295 ∷ 0 ∷ 0 ∷ 0 ∷ 1 ∷ s ∷ 0 ∷ []

procedure-words :
    program_words (λ s. s)
    (record {
      types = [];
      taggers = [];
      functions = [];
      axioms = [];
      procedures =
          record {
            name = span 10 1;
            parameters = record { name = span 18 1; mode = InOut; typ = span 21 3; optional_auto_inv = some (ILiteral 18446744073709551615) } ∷ [];
            pre = no_a_exprs;
            post = no_a_exprs;
            body = some Return;
          }
          ∷ [];
    })
    []
    ≡ procedure_with 2 37
procedure-words = refl

procedure-tree : check_program (procedure_with 2 37) 65 ≡ one_tree
unfolding check_program run
procedure-tree = refl

no_mode : check_program (procedure_with 4 37) 65 ≡ Err (Misfit 10)
unfolding check_program run
no_mode = refl

no-stmt : check_program (procedure_with 2 39) 65 ≡ Err (Misfit 21)
unfolding check_program run
no-stmt = refl

too_long : check_expression (replicate 16385 0) 0 ≡ Err TooManyWords
unfolding check_expression
too_long = refl

-- the law of a walk at the word 5, as it computes
at-operator : (table : List ℕ) (at : ℕ) (t : Expr Span) (rest : List ℕ) → drop at table ≡ words spans expr t rest → get_or table at 0 ≡ 5
    → (o : Operator) × (es : Exprs Span) × (OperatorExpr o es ≡ t) × (operator_word o ∷ exprs_words (λ s. s) es rest ≡ drop (at + 1) table)
at-operator table at t rest e w = let r = tree-at-word spans table at expr t rest 5 e w in (r.0.0, r.0.1.0, r.1, r.2)
