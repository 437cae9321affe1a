-- How many words an expression has depends neither on its names nor on their spans: each name has two words.
use Rattle.std.specs.Prelude.{ℕ, suc, ◌≡◌, refl, List, [], ◌∷◌, length}
use Rattle.std.proofs.Common.{sym, ap, ◌∙◌}
use Rattle.std.proofs.Math.Option.{Option, none, some}
use Rattle.tree.specs.Ast.{Span, Binding, binding}
use Rattle.tree.specs.Ast.{Expr, BLiteral, ILiteral, CustomLiteral, IdExpr, OperatorExpr, FunctionCallExpr, LabeledExpr, LetExpr, QuantifierExpr, ClosureExpr}
use Rattle.tree.specs.Ast.{Exprs, no_exprs, ◌then◌, Patterns, no_patterns, pattern}
use Rattle.tree.specs.Ast.{ClosureBindings, no_closure_bindings, closure_binding, ClosureProperties, no_closure_properties, closure_property}
use Rattle.tree.specs.Resolve.{map_expr}
use Rattle.tree.specs.Words.{name_words, option_words, seq_words, binding_words, expr_words, exprs_words, patterns_words, closure_bindings_words, closure_properties_words}
use Rattle.tree.specs.MapWords.{expr-map}

-- as many words before rests of equal length
abbrev AsMany : (List ℕ → List ℕ) → (List ℕ → List ℕ) → Type 0
AsMany p q = (r s : List ℕ) → length r ≡ length s → length (p r) ≡ length (q s)

-- one word, and two, before as many
one : {m n : ℕ} → m ≡ n → suc m ≡ suc n
one e = ap suc e

two : {m n : ℕ} → m ≡ n → suc (suc m) ≡ suc (suc n)
two e = ap (λ n. suc (suc n)) e

module _ {N : Type 0} (f g : N → Span) where
  -- an option of a name, and bindings
  option-count : (t : Option N) → AsMany (option_words (name_words f) t) (option_words (name_words g) t)
  option-count none r s h = one h
  option-count (some n) r s h = one (two h)

  bindings-count : (t : List (Binding N)) → AsMany (seq_words (binding_words f) t) (seq_words (binding_words g) t)
  bindings-count [] r s h = one h
  bindings-count (binding n t ∷ l) r s h = one (two (two (bindings-count l r s h)))

  mutual
    pub expr-count : (t : Expr N) → AsMany (expr_words f t) (expr_words g t)
    expr-count (BLiteral b) r s h = two h
    expr-count (ILiteral n) r s h = one (two h)
    expr-count (CustomLiteral n t) r s h = one (two (two h))
    expr-count (IdExpr n o) r s h = one (two (one h))
    expr-count (OperatorExpr o es) r s h = two (exprs-count es r s h)
    expr-count (FunctionCallExpr n es) r s h = one (two (exprs-count es r s h))
    expr-count (LabeledExpr n e) r s h = one (two (expr-count e r s h))
    expr-count (LetExpr n t v e) r s h = one (two (option-count t _ _ (expr-count v _ _ (expr-count e r s h))))
    expr-count (QuantifierExpr u bs ps e) r s h = two (bindings-count bs _ _ (patterns-count ps _ _ (expr-count e r s h)))
    expr-count (ClosureExpr bs n t ps) r s h = one (closure_bindings-count bs _ _ (two (two (closure_properties-count ps r s h))))

    exprs-count : (t : Exprs N) → AsMany (exprs_words f t) (exprs_words g t)
    exprs-count no_exprs r s h = one h
    exprs-count (◌then◌ e es) r s h = one (expr-count e _ _ (exprs-count es r s h))

    patterns-count : (t : Patterns N) → AsMany (patterns_words f t) (patterns_words g t)
    patterns-count no_patterns r s h = one h
    patterns-count (pattern es ps) r s h = one (exprs-count es _ _ (patterns-count ps r s h))

    closure_bindings-count : (t : ClosureBindings N) → AsMany (closure_bindings_words f t) (closure_bindings_words g t)
    closure_bindings-count no_closure_bindings r s h = one h
    closure_bindings-count (closure_binding n ps e bs) r s h = one (two (bindings-count ps _ _ (expr-count e _ _ (closure_bindings-count bs r s h))))

    closure_properties-count : (t : ClosureProperties N) → AsMany (closure_properties_words f t) (closure_properties_words g t)
    closure_properties-count no_closure_properties r s h = one h
    closure_properties-count (closure_property ts e ps) r s h = one (patterns-count ts _ _ (expr-count e _ _ (closure_properties-count ps r s h)))

-- so mapping the names keeps the count
pub map-count : {N M : Type 0} (f : N → M) (g : M → Span) (h : N → Span) (t : Expr N) → length (expr_words g (map_expr f t) []) ≡ length (expr_words h t [])
map-count f g h t =
    ap (λ (w : List ℕ → List ℕ). length (w [])) (sym (expr-map g f t)) ∙ expr-count (λ n. g (f n)) h t [] [] refl
