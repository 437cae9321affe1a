-- The trees of each kind, with their words, and for each word the constructor that it stands for: what relates a table to its tree.
use Rattle.std.specs.Prelude.{ℕ, zero, suc, ◌+◌, ◌-◌, ◌^◌, ◌≡◌, refl, Bool, true, cond, List, [], ◌∷◌, leb, ltb}
use Rattle.std.proofs.Math.Bridge.{le_prop}
use Rattle.std.proofs.Math.Option.{Option, none, some}
use Rattle.std.proofs.Common.{leb-true, le-leb}
use Rattle.tree.specs.Ast.{Span, Operator, ParameterMode, Binding, CallArgument}
use Rattle.tree.specs.Ast.{Tagger, FParameter, FunctionDefinition, Function, Axiom, PParameter, Procedure}
use Rattle.tree.specs.Ast.{Expr, Exprs, Patterns, ClosureBindings, ClosureProperties, Stmt, Stmts, Cases, AExpr, AExprs}
use Rattle.tree.specs.Kind.{Kind, bool, operator, mode, natural, low, name, length_from, expr, stmt, aexpr, option, seq}
use Rattle.tree.specs.Kind.{Item, of_name, of_expr, of_binding, of_pattern, of_closure_binding, of_closure_property, of_stmt, of_call_argument, of_case, of_a_expr, of_tagger, of_f_parameter, of_function, of_axiom, of_p_parameter, of_procedure}
use Rattle.tree.specs.Kind.{Content, a_name, an_expr, a_stmt, a_definition}
use Rattle.tree.specs.Check.{NameIn, within}
use Rattle.tree.specs.Words.{bool_word, operator_word, mode_word, natural_words, name_words, option_words, seq_words, binding_words, expr_words, exprs_words, patterns_words, closure_bindings_words, closure_properties_words}
use Rattle.tree.specs.Words.{call_argument_words, stmt_words, stmts_words, cases_words, a_expr_words, a_exprs_words, tagger_words, f_parameter_words, function_definition_words, function_words, axiom_words, p_parameter_words, procedure_words}

-- Names that stand for the spans which pass a test
pub record Names : Type 1 where
  pub N : Type 0
  pub span : N → Span
  pub inside : ℕ → ℕ → Bool
  pub named : (s l : ℕ) → inside s l ≡ true → N
  pub inside-span : (n : N) → inside (span n).start (span n).len ≡ true
  pub span-named : (s l : ℕ) (h : inside s l ≡ true) → span (named s l h) ≡ record { start = s; len = l }
  pub named-span : (n : N) (h : inside (span n).start (span n).len ≡ true) → named (span n).start (span n).len h ≡ n

-- every span is a name
abbrev pub spans : Names
spans =
    record {
      N = Span;
      span = λ n. n;
      inside = λ s l. true;
      named = λ s l h. record { start = s; len = l };
      inside-span = λ n. refl;
      span-named = λ s l h. refl;
      named-span = λ n h. refl;
    }

-- the spans inside a text of that length
abbrev pub names_in : ℕ → Names
names_in len =
    record {
      N = NameIn len;
      span = λ n. n.span;
      inside = within len;
      named = λ s l h. record { span = record { start = s; len = l }; inside = leb-true (s + l) len h };
      inside-span = λ n. le-leb _ _ n.inside;
      span-named = λ s l h. refl;
      named-span = λ n h i. record { span = n.span; inside = le_prop (leb-true _ _ h) n.inside i };
    }

-- pairs in a row, `a ▸ b ▸ tt`
infixr 30 ◌▸◌
abbrev pub ◌▸◌ : {A B : Type 0} → A → B → A × B
a ▸ b = (a, b)

-- a second word that passes its test
abbrev pub Second : (ℕ → Bool) → Type 0
Second test = (l : ℕ) × (test l ≡ true)

-- a low word's test
abbrev pub below : ℕ → Bool
below l = ltb l (2 ^ 32)

module _ (I : Names) where
  -- the trees of an option's content and of a sequence
  abbrev pub Held : Content → Type 0
  Held a_name = I.N
  Held an_expr = Expr I.N
  Held a_stmt = Stmt I.N
  Held a_definition = FunctionDefinition I.N

  abbrev pub Seq : Item → Type 0
  Seq of_name = List I.N
  Seq of_expr = Exprs I.N
  Seq of_binding = List (Binding I.N)
  Seq of_pattern = Patterns I.N
  Seq of_closure_binding = ClosureBindings I.N
  Seq of_closure_property = ClosureProperties I.N
  Seq of_stmt = Stmts I.N
  Seq of_call_argument = List (CallArgument I.N)
  Seq of_case = Cases I.N
  Seq of_a_expr = AExprs I.N
  Seq of_tagger = List (Tagger I.N)
  Seq of_f_parameter = List (FParameter I.N)
  Seq of_function = List (Function I.N)
  Seq of_axiom = List (Axiom I.N)
  Seq of_p_parameter = List (PParameter I.N)
  Seq of_procedure = List (Procedure I.N)

  -- the trees of a kind; of a pending second word, that word
  abbrev pub Tree : Kind → Type 0
  Tree bool = Bool
  Tree operator = Operator
  Tree mode = ParameterMode
  Tree natural = ℕ
  Tree low = Second below
  Tree name = I.N
  Tree (length_from s) = Second (I.inside s)
  Tree expr = Expr I.N
  Tree stmt = Stmt I.N
  Tree aexpr = AExpr I.N
  Tree (option c) = Option (Held c)
  Tree (seq i) = Seq i

  abbrev pub Trees : List Kind → Type 0
  Trees [] = Unit {0}
  Trees (k ∷ ks) = Tree k × Trees ks

  abbrev pub held_words : (c : Content) → Option (Held c) → List ℕ → List ℕ
  held_words a_name = option_words (name_words I.span)
  held_words an_expr = option_words (expr_words I.span)
  held_words a_stmt = option_words (stmt_words I.span)
  held_words a_definition = option_words (function_definition_words I.span)

  abbrev pub items_words : (i : Item) → Seq i → List ℕ → List ℕ
  items_words of_name = seq_words (name_words I.span)
  items_words of_expr = exprs_words I.span
  items_words of_binding = seq_words (binding_words I.span)
  items_words of_pattern = patterns_words I.span
  items_words of_closure_binding = closure_bindings_words I.span
  items_words of_closure_property = closure_properties_words I.span
  items_words of_stmt = stmts_words I.span
  items_words of_call_argument = seq_words (call_argument_words I.span)
  items_words of_case = cases_words I.span
  items_words of_a_expr = a_exprs_words I.span
  items_words of_tagger = seq_words (tagger_words I.span)
  items_words of_f_parameter = seq_words (f_parameter_words I.span)
  items_words of_function = seq_words (function_words I.span)
  items_words of_axiom = seq_words (axiom_words I.span)
  items_words of_p_parameter = seq_words (p_parameter_words I.span)
  items_words of_procedure = seq_words (procedure_words I.span)

  -- the words of a kind's tree, and of the trees of several kinds, before a rest
  abbrev pub words : (k : Kind) → Tree k → List ℕ → List ℕ
  words bool t rest = bool_word t ∷ rest
  words operator t rest = operator_word t ∷ rest
  words mode t rest = mode_word t ∷ rest
  words natural t rest = natural_words t rest
  words low t rest = t.0 ∷ rest
  words name t rest = name_words I.span t rest
  words (length_from s) t rest = t.0 ∷ rest
  words expr t rest = expr_words I.span t rest
  words stmt t rest = stmt_words I.span t rest
  words aexpr t rest = a_expr_words I.span t rest
  words (option c) t rest = held_words c t rest
  words (seq i) t rest = items_words i t rest

  abbrev pub all_words : (ks : List Kind) → Trees ks → List ℕ → List ℕ
  all_words [] ts rest = rest
  all_words (k ∷ ks) ts rest = words k ts.0 (all_words ks ts.1 rest)

  -- a function of trees of these kinds, and its value
  abbrev pub Fun : List Kind → Type 0 → Type 0
  Fun [] R = R
  Fun (k ∷ ks) R = Tree k → Fun ks R

  abbrev pub apply : (ks : List Kind) {R : Type 0} → Fun ks R → Trees ks → R
  apply [] f ts = f
  apply (k ∷ ks) f ts = apply ks (f ts.0) ts.1

  -- what a word stands for: a constructor with its fields' kinds
  pub record Form (R : Type 0) : Type 0 where
    pub fields : List Kind
    pub make : Fun fields R

  -- a constructor for each row
  abbrev pub Makes : List (List Kind) → Type 0 → Type 0
  Makes [] R = Unit {0}
  Makes (r ∷ rs) R = Fun r R × Makes rs R

  abbrev pub form_at : (rows : List (List Kind)) {R : Type 0} → Makes rows R → ℕ → Option (Form R)
  form_at [] m n = none
  form_at (r ∷ rs) m zero = some (record { fields = r; make = m.0 })
  form_at (r ∷ rs) m (suc n) = form_at rs m.1 n

  abbrev pub tagged_form : ℕ → (rows : List (List Kind)) {R : Type 0} → Makes rows R → ℕ → Option (Form R)
  tagged_form first rows m w = cond (leb first w) (form_at rows m (w - first)) none
