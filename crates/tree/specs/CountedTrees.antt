-- `Counted` over the kinds: of a tree of any kind, and what a constructor's fields say of what it makes.
use Rattle.std.specs.Prelude.{ℕ, zero, suc, ◌-◌, ◌≡◌, Bool, true, false, cond, List, [], ◌∷◌, length, leb}
use Rattle.std.proofs.Common.{true≢false}
use Rattle.std.proofs.Math.Option.{Option, none, some}
use Rattle.tree.specs.Kind.{Kind, bool, operator, mode, natural, low, name, length_from, expr, stmt, aexpr, option, seq}
use Rattle.tree.specs.Kind.{Item, of_name, of_expr, of_binding, of_pattern, of_closure_binding, of_closure_property, of_stmt, of_call_argument, of_case, of_a_expr, of_tagger, of_f_parameter, of_function, of_axiom, of_p_parameter, of_procedure}
use Rattle.tree.specs.Kind.{Content, a_name, an_expr, a_stmt, a_definition, first_word, rows}
use Rattle.tree.specs.Words.{call_argument_words, function_words, axiom_words, p_parameter_words, procedure_words}
use Rattle.tree.specs.Tally.{sequence}
use Rattle.tree.specs.Counted.{expr_count, pattern_count, closure_binding_count, closure_property_count, stmt_count, case_count, a_expr_count, CountedOption, CountedItems, Noted}
use Rattle.tree.specs.Counted.{CountedExpr, CountedExprs, CountedPatterns, CountedClosureBindings, CountedClosureProperties}
use Rattle.tree.specs.Counted.{CountedCallArgument, CountedStmt, CountedStmts, CountedCases, CountedAExpr, CountedAExprs}
use Rattle.tree.specs.Counted.{CountedDefinition, CountedFunction, CountedAxiom, CountedPParameter, CountedProcedure}
use Rattle.tree.specs.Trees.{◌▸◌, Names, Held, Seq, Tree, Trees, words, all_words, apply, Form, Makes, form_at}
use Rattle.tree.specs.Forms.{makes, row_form, form}

module _ (I : Names) (counts : List ℕ) (size : ℕ) where
  -- how many items a sequence has
  abbrev pub item_count : (i : Item) → Seq I i → ℕ
  item_count of_name t = length t
  item_count of_expr t = expr_count t
  item_count of_binding t = length t
  item_count of_pattern t = pattern_count t
  item_count of_closure_binding t = closure_binding_count t
  item_count of_closure_property t = closure_property_count t
  item_count of_stmt t = stmt_count t
  item_count of_call_argument t = length t
  item_count of_case t = case_count t
  item_count of_a_expr t = a_expr_count t
  item_count of_tagger t = length t
  item_count of_f_parameter t = length t
  item_count of_function t = length t
  item_count of_axiom t = length t
  item_count of_p_parameter t = length t
  item_count of_procedure t = length t

  -- the items of a sequence
  abbrev pub Items : (i : Item) → Seq I i → List ℕ → Type 0
  Items of_name t rest = Unit {0}
  Items of_expr t rest = CountedExprs I.span counts size t rest
  Items of_binding t rest = Unit {0}
  Items of_pattern t rest = CountedPatterns I.span counts size t rest
  Items of_closure_binding t rest = CountedClosureBindings I.span counts size t rest
  Items of_closure_property t rest = CountedClosureProperties I.span counts size t rest
  Items of_stmt t rest = CountedStmts I.span counts size t rest
  Items of_call_argument t rest = CountedItems (call_argument_words I.span) (CountedCallArgument I.span counts size) t rest
  Items of_case t rest = CountedCases I.span counts size t rest
  Items of_a_expr t rest = CountedAExprs I.span counts size t rest
  Items of_tagger t rest = Unit {0}
  Items of_f_parameter t rest = Unit {0}
  Items of_function t rest = CountedItems (function_words I.span) (CountedFunction I.span counts size) t rest
  Items of_axiom t rest = CountedItems (axiom_words I.span) (CountedAxiom I.span counts size) t rest
  Items of_p_parameter t rest = CountedItems (p_parameter_words I.span) (CountedPParameter I.span counts size) t rest
  Items of_procedure t rest = CountedItems (procedure_words I.span) (CountedProcedure I.span counts size) t rest

  -- an option's content
  abbrev pub CountedHeld : (c : Content) → Option (Held I c) → List ℕ → Type 0
  CountedHeld a_name t rest = Unit {0}
  CountedHeld an_expr t rest = CountedOption (CountedExpr I.span counts size) t rest
  CountedHeld a_stmt t rest = CountedOption (CountedStmt I.span counts size) t rest
  CountedHeld a_definition t rest = CountedOption (CountedDefinition I.span counts size) t rest

  -- a tree of any kind: of a sequence, its number where it starts and its items
  abbrev pub CountedTree : (k : Kind) → Tree I k → List ℕ → Type 0
  CountedTree bool t rest = Unit {0}
  CountedTree operator t rest = Unit {0}
  CountedTree mode t rest = Unit {0}
  CountedTree natural t rest = Unit {0}
  CountedTree low t rest = Unit {0}
  CountedTree name t rest = Unit {0}
  CountedTree (length_from s) t rest = Unit {0}
  CountedTree expr t rest = CountedExpr I.span counts size t rest
  CountedTree stmt t rest = CountedStmt I.span counts size t rest
  CountedTree aexpr t rest = CountedAExpr I.span counts size t rest
  CountedTree (option c) t rest = CountedHeld c t rest
  CountedTree (seq i) t rest = Noted I.span counts size (words I (seq i) t rest) (item_count i t) × Items i t rest

  -- trees of several kinds
  abbrev pub CountedTrees : (ks : List Kind) → Trees I ks → List ℕ → Type 0
  CountedTrees [] ts rest = Unit {0}
  CountedTrees (k ∷ ks) ts rest = CountedTree k ts.0 (all_words I ks ts.1 rest) × CountedTrees ks ts.1 rest

  -- ---- what the fields say of what a form makes

  abbrev pub MadeCounted : (k : Kind) → Option (Form I (Tree I k)) → Type 0
  MadeCounted k none = Unit {0}
  MadeCounted k (some f) = (ts : Trees I f.fields) (rest : List ℕ) → CountedTrees f.fields ts rest → CountedTree k (apply I f.fields f.make ts) rest

  abbrev RowsCounted : (k : Kind) (rs : List (List Kind)) → Makes I rs (Tree I k) → Type 0
  RowsCounted k [] m = Unit {0}
  RowsCounted k (r ∷ rs) m = MadeCounted k (some (record { fields = r; make = m.0 })) × RowsCounted k rs m.1

  -- the row with a number
  rows-counted : (k : Kind) (rs : List (List Kind)) (m : Makes I rs (Tree I k)) → RowsCounted k rs m → (n : ℕ) → MadeCounted k (form_at I rs m n)
  rows-counted k [] m h n = tt
  rows-counted k (r ∷ rs) m h zero = h.0
  rows-counted k (r ∷ rs) m h (suc n) = rows-counted k rs m.1 h.1 n

  counted-expr : RowsCounted expr (rows expr) (makes I expr)
  counted-expr =
      (λ ts rest c. tt) ▸ (λ ts rest c. tt) ▸ (λ ts rest c. tt) ▸ (λ ts rest c. tt)
      ▸ (λ ts rest c. c.1.0)
      ▸ (λ ts rest c. c.1.0)
      ▸ (λ ts rest c. c.1.0)
      ▸ (λ ts rest c. (c.1.1.0, c.1.1.1.0))
      ▸ (λ ts rest c. (c.1.0.0, c.1.1.0.0, c.1.1.0.1, c.1.1.1.0))
      ▸ (λ ts rest c. (c.0.0, c.0.1, c.1.1.1.0.0, c.1.1.1.0.1))
      ▸ tt

  counted-stmt : RowsCounted stmt (rows stmt) (makes I stmt)
  counted-stmt =
      (λ ts rest c. (c.1.1.1.0, c.1.1.1.1.0, c.1.1.1.1.1.0))
      ▸ (λ ts rest c. c.1.0)
      ▸ (λ ts rest c. c.0.0)
      ▸ (λ ts rest c. c.0)
      ▸ (λ ts rest c. c.1.0)
      ▸ (λ ts rest c. c.0)
      ▸ (λ ts rest c. c.0)
      ▸ (λ ts rest c. c.0)
      ▸ (λ ts rest c. c.0)
      ▸ (λ ts rest c. c.1.1.0)
      ▸ (λ ts rest c. c.0)
      ▸ (λ ts rest c. (c.0, c.1.0, c.1.1.0))
      ▸ (λ ts rest c. c.0)
      ▸ (λ ts rest c. (c.0.0, c.0.1, c.1.0))
      ▸ (λ ts rest c. c.1.0)
      ▸ (λ ts rest c. tt)
      ▸ (λ ts rest c. tt)
      ▸ (λ ts rest c. c.0)
      ▸ tt

  counted-option : (c : Content) → RowsCounted (option c) (rows (option c)) (makes I (option c))
  counted-option a_name = (λ ts rest c. tt) ▸ (λ ts rest c. tt) ▸ tt
  counted-option an_expr = (λ ts rest c. tt) ▸ (λ ts rest c. c.0) ▸ tt
  counted-option a_stmt = (λ ts rest c. tt) ▸ (λ ts rest c. c.0) ▸ tt
  counted-option a_definition = (λ ts rest c. tt) ▸ (λ ts rest c. (c.0.0, c.0.1, c.1.0)) ▸ tt

  -- the form of a word, of a kind with rows
  row-counted : (k : Kind) → RowsCounted k (rows k) (makes I k) → (w : ℕ) → MadeCounted k (row_form I k w)
  row-counted k h w = by-test (leb (first_word k) w)
    where
      by-test : (b : Bool) → MadeCounted k (cond b (form_at I (rows k) (makes I k) (w - first_word k)) none)
      by-test true = rows-counted k (rows k) (makes I k) h (w - first_word k)
      by-test false = tt

  -- of a kind of which no tree has sequences
  leaf-counted : (k : Kind) → ((t : Tree I k) (rest : List ℕ) → CountedTree k t rest) → (o : Option (Form I (Tree I k))) → MadeCounted k o
  leaf-counted k h none = tt
  leaf-counted k h (some f) = λ ts rest c. h (apply I f.fields f.make ts) rest

  -- the form of a word makes a tree that is counted where its fields are
  pub made_counted : (k : Kind) → sequence k ≡ false → (w : ℕ) → MadeCounted k (form I k w)
  made_counted bool q w = leaf-counted bool (λ t rest. tt) (form I bool w)
  made_counted operator q w = leaf-counted operator (λ t rest. tt) (form I operator w)
  made_counted mode q w = leaf-counted mode (λ t rest. tt) (form I mode w)
  made_counted natural q w = leaf-counted natural (λ t rest. tt) (form I natural w)
  made_counted low q w = leaf-counted low (λ t rest. tt) (form I low w)
  made_counted name q w = leaf-counted name (λ t rest. tt) (form I name w)
  made_counted (length_from s) q w = leaf-counted (length_from s) (λ t rest. tt) (form I (length_from s) w)
  made_counted expr q w = row-counted expr counted-expr w
  made_counted stmt q w = row-counted stmt counted-stmt w
  made_counted aexpr q w = row-counted aexpr ((λ ts rest c. c.0) ▸ (λ ts rest c. c.0) ▸ tt) w
  made_counted (option c) q w = row-counted (option c) (counted-option c) w
  made_counted (seq i) q w = absurd (true≢false q)
