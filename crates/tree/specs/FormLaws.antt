-- The laws of `form`: it has the fields of `turn`; what it makes has that word first and then the fields' words; every tree is made so.
-- Together: `opened`, by which a reader of a table that holds a tree's words goes from a word to the fields' words.
use Rattle.std.specs.Prelude.{ℕ, zero, suc, ◌+◌, ◌-◌, ◌*◌, ◌/◌, ◌%◌, ◌^◌, ◌<◌, ◌≡◌, refl, Bool, true, false, cond, List, [], ◌∷◌, leb}
use Rattle.std.proofs.Common.{arith, ap, true≢false, ltb-true, leb-true, lt-ltb}
use Rattle.std.proofs.Math.Bool.{Bool-set}
use Rattle.std.proofs.Math.Option.{Option, none, some}
use Rattle.tree.specs.Ast.{Span, ParameterMode, In, InOut, Out, binding}
use Rattle.tree.specs.Ast.{Operator, IfThenElse, Equiv, LogicalImp, LogicalAnd, LogicalOr, Eq, Neq, Less, AtMost, Plus, Minus, Times, Div, Mod, LogicalNot, UnaryMinus}
use Rattle.tree.specs.Ast.{Expr, BLiteral, ILiteral, CustomLiteral, IdExpr, OperatorExpr, FunctionCallExpr, LabeledExpr, LetExpr, QuantifierExpr, ClosureExpr}
use Rattle.tree.specs.Ast.{no_exprs, ◌then◌, no_patterns, pattern, no_closure_bindings, closure_binding, no_closure_properties, closure_property}
use Rattle.tree.specs.Ast.{Stmt, VarDecl, Assign, Reinit, Block, Call, Check, Assume, Reach, Assert, AForall, Choose, If, IfCase, Loop, LabeledStmt, Exit, Return, Probe}
use Rattle.tree.specs.Ast.{no_stmts, stmts, no_cases, case, AExpr, a_expr, AAssertion, no_a_exprs, a_exprs}
use Rattle.tree.specs.Kind.{Kind, bool, operator, mode, natural, low, name, length_from, expr, stmt, aexpr, option, seq}
use Rattle.tree.specs.Kind.{Item, of_name, of_expr, of_binding, of_pattern, of_closure_binding, of_closure_property, of_stmt, of_call_argument, of_case, of_a_expr, of_tagger, of_f_parameter, of_function, of_axiom, of_p_parameter, of_procedure}
use Rattle.tree.specs.Kind.{Content, a_name, an_expr, a_stmt, a_definition, first_word, rows}
use Rattle.tree.specs.Kind.{Turn, fits, misfit, row_at, by_row, second, turn}
use Rattle.tree.specs.Trees.{◌▸◌, Names, below, Held, Seq, Tree, Trees, words, all_words, apply, Form, Makes, form_at}
use Rattle.tree.specs.Forms.{makes, row_form, second_form, form}

module _ (I : Names) where
  -- ---- `form` has the fields of `turn`

  -- both misfit, or both have these fields
  abbrev pub Agrees : {R : Type 0} → Turn → Option (Form I R) → Type 0
  Agrees (fits fs) none = ⊥
  Agrees (fits fs) (some f) = fs ≡ f.fields
  Agrees (misfit n) none = Unit {0}
  Agrees (misfit n) (some f) = ⊥

  -- the form of a row's number has the row as its fields
  rows_agree : (R : Type 0) (rs : List (List Kind)) (m : Makes I rs R) (n : ℕ) → Agrees (row_at rs n) (form_at I rs m n)
  rows_agree R [] m n = tt
  rows_agree R (r ∷ rs) m zero = refl
  rows_agree R (r ∷ rs) m (suc n) = rows_agree R rs m.1 n

  -- so the form of a word agrees with its turn, of a kind with rows
  row-agrees : (k : Kind) (w : ℕ) → Agrees (by_row k w) (row_form I k w)
  row-agrees k w = by-test (leb (first_word k) w)
    where
      n : ℕ
      n = w - first_word k

      by-test : (b : Bool) → Agrees {R = Tree I k} (cond b (row_at (rows k) n) (misfit 0)) (cond b (form_at I (rows k) (makes I k) n) none)
      by-test true = rows_agree (Tree I k) (rows k) (makes I k) n
      by-test false = tt

  -- and of a second word, by its test
  second-agrees : (test : ℕ → Bool) (l back : ℕ) (b : Bool) (e : test l ≡ b) → Agrees (second b back) (second_form I test l b e)
  second-agrees test l back true e = refl
  second-agrees test l back false e = tt

  pub agree : (k : Kind) (w : ℕ) → Agrees (turn I.inside k w) (form I k w)
  agree bool w = row-agrees bool w
  agree operator w = row-agrees operator w
  agree mode w = row-agrees mode w
  agree natural w = refl
  agree low w = second-agrees below w 0 (below w) refl
  agree name w = refl
  agree (length_from s) w = second-agrees (I.inside s) w 1 (I.inside s w) refl
  agree expr w = row-agrees expr w
  agree stmt w = row-agrees stmt w
  agree aexpr w = row-agrees aexpr w
  agree (option c) w = row-agrees (option c) w
  agree (seq i) w = row-agrees (seq i) w

  -- ---- what a form makes has that word first, and then the fields' words

  -- the words of what a form makes
  abbrev pub Spells : (k : Kind) → ℕ → Option (Form I (Tree I k)) → Type 0
  Spells k w none = Unit {0}
  Spells k w (some f) = (ts : Trees I f.fields) (rest : List ℕ) → words I k (apply I f.fields f.make ts) rest ≡ w ∷ all_words I f.fields ts rest

  -- the words of what each row makes, the words counted from the first
  abbrev RowsSpell : (k : Kind) → ℕ → (rs : List (List Kind)) → Makes I rs (Tree I k) → Type 0
  RowsSpell k first [] m = Unit {0}
  RowsSpell k first (r ∷ rs) m = Spells k first (some (record { fields = r; make = m.0 })) × RowsSpell k (suc first) rs m.1

  -- the row with a number has its word
  rows-spell : (k : Kind) (first : ℕ) (rs : List (List Kind)) (m : Makes I rs (Tree I k)) → RowsSpell k first rs m
      → (n w : ℕ) → first + n ≡ w → Spells k w (form_at I rs m n)
  rows-spell k first [] m h n w e = tt
  rows-spell k first (r ∷ rs) m h zero w e = let f : first ≡ w = omega arith in rw (← f) h.0
  rows-spell k first (r ∷ rs) m h (suc n) w e = rows-spell k (suc first) rs m.1 h.1 n w (omega arith)

  -- each constructor's words are its word and its fields' words, by computation
  constructors-spell : (k : Kind) → RowsSpell k (first_word k) (rows k) (makes I k)
  constructors-spell bool = (λ ts rest. refl) ▸ (λ ts rest. refl) ▸ tt
  constructors-spell operator =
      (λ ts rest. refl) ▸ (λ ts rest. refl) ▸ (λ ts rest. refl) ▸ (λ ts rest. refl) ▸ (λ ts rest. refl) ▸ (λ ts rest. refl)
      ▸ (λ ts rest. refl) ▸ (λ ts rest. refl) ▸ (λ ts rest. refl) ▸ (λ ts rest. refl) ▸ (λ ts rest. refl) ▸ (λ ts rest. refl)
      ▸ (λ ts rest. refl) ▸ (λ ts rest. refl) ▸ (λ ts rest. refl) ▸ (λ ts rest. refl) ▸ tt
  constructors-spell mode = (λ ts rest. refl) ▸ (λ ts rest. refl) ▸ (λ ts rest. refl) ▸ tt
  constructors-spell natural = tt
  constructors-spell low = tt
  constructors-spell name = tt
  constructors-spell (length_from s) = tt
  constructors-spell expr =
      (λ ts rest. refl) ▸ (λ ts rest. refl) ▸ (λ ts rest. refl) ▸ (λ ts rest. refl) ▸ (λ ts rest. refl) ▸ (λ ts rest. refl)
      ▸ (λ ts rest. refl) ▸ (λ ts rest. refl) ▸ (λ ts rest. refl) ▸ (λ ts rest. refl) ▸ tt
  constructors-spell stmt =
      (λ ts rest. refl) ▸ (λ ts rest. refl) ▸ (λ ts rest. refl) ▸ (λ ts rest. refl) ▸ (λ ts rest. refl) ▸ (λ ts rest. refl)
      ▸ (λ ts rest. refl) ▸ (λ ts rest. refl) ▸ (λ ts rest. refl) ▸ (λ ts rest. refl) ▸ (λ ts rest. refl) ▸ (λ ts rest. refl)
      ▸ (λ ts rest. refl) ▸ (λ ts rest. refl) ▸ (λ ts rest. refl) ▸ (λ ts rest. refl) ▸ (λ ts rest. refl) ▸ (λ ts rest. refl)
      ▸ tt
  constructors-spell aexpr = (λ ts rest. refl) ▸ (λ ts rest. refl) ▸ tt
  constructors-spell (option a_name) = (λ ts rest. refl) ▸ (λ ts rest. refl) ▸ tt
  constructors-spell (option an_expr) = (λ ts rest. refl) ▸ (λ ts rest. refl) ▸ tt
  constructors-spell (option a_stmt) = (λ ts rest. refl) ▸ (λ ts rest. refl) ▸ tt
  constructors-spell (option a_definition) = (λ ts rest. refl) ▸ (λ ts rest. refl) ▸ tt
  constructors-spell (seq of_name) = (λ ts rest. refl) ▸ (λ ts rest. refl) ▸ tt
  constructors-spell (seq of_expr) = (λ ts rest. refl) ▸ (λ ts rest. refl) ▸ tt
  constructors-spell (seq of_binding) = (λ ts rest. refl) ▸ (λ ts rest. refl) ▸ tt
  constructors-spell (seq of_pattern) = (λ ts rest. refl) ▸ (λ ts rest. refl) ▸ tt
  constructors-spell (seq of_closure_binding) = (λ ts rest. refl) ▸ (λ ts rest. refl) ▸ tt
  constructors-spell (seq of_closure_property) = (λ ts rest. refl) ▸ (λ ts rest. refl) ▸ tt
  constructors-spell (seq of_stmt) = (λ ts rest. refl) ▸ (λ ts rest. refl) ▸ tt
  constructors-spell (seq of_call_argument) = (λ ts rest. refl) ▸ (λ ts rest. refl) ▸ tt
  constructors-spell (seq of_case) = (λ ts rest. refl) ▸ (λ ts rest. refl) ▸ tt
  constructors-spell (seq of_a_expr) = (λ ts rest. refl) ▸ (λ ts rest. refl) ▸ tt
  constructors-spell (seq of_tagger) = (λ ts rest. refl) ▸ (λ ts rest. refl) ▸ tt
  constructors-spell (seq of_f_parameter) = (λ ts rest. refl) ▸ (λ ts rest. refl) ▸ tt
  constructors-spell (seq of_function) = (λ ts rest. refl) ▸ (λ ts rest. refl) ▸ tt
  constructors-spell (seq of_axiom) = (λ ts rest. refl) ▸ (λ ts rest. refl) ▸ tt
  constructors-spell (seq of_p_parameter) = (λ ts rest. refl) ▸ (λ ts rest. refl) ▸ tt
  constructors-spell (seq of_procedure) = (λ ts rest. refl) ▸ (λ ts rest. refl) ▸ tt

  -- what the form of a word makes has that word first, of a kind with rows
  row-spells : (k : Kind) (w : ℕ) → Spells k w (row_form I k w)
  row-spells k w = by-test (leb (first_word k) w) refl
    where
      n : ℕ
      n = w - first_word k

      by-test : (b : Bool) → leb (first_word k) w ≡ b → Spells k w (cond b (form_at I (rows k) (makes I k) n) none)
      by-test true e =
          let le = leb-true (first_word k) w e in
          rows-spell k (first_word k) (rows k) (makes I k) (constructors-spell k) n w (omega arith)
      by-test false e = tt

  -- the two words of a natural made of two words
  natural-spells : (h l : ℕ) → l < 2 ^ 32 → (rest : List ℕ) → (h * 2 ^ 32 + l) / 2 ^ 32 ∷ (h * 2 ^ 32 + l) % 2 ^ 32 ∷ rest ≡ h ∷ l ∷ rest
  natural-spells h l b rest =
      let high : (h * 2 ^ 32 + l) / 2 ^ 32 ≡ h = omega arith in
      let down : (h * 2 ^ 32 + l) % 2 ^ 32 ≡ l = omega arith in
      cc

  -- the same of a natural's second word
  low-spells : (w : ℕ) (b : Bool) (e : below w ≡ b) → Spells low w (second_form I below w b e)
  low-spells w true e = λ ts rest. refl
  low-spells w false e = tt

  -- and of a name's
  length-spells : (s w : ℕ) (b : Bool) (e : I.inside s w ≡ b) → Spells (length_from s) w (second_form I (I.inside s) w b e)
  length-spells s w true e = λ ts rest. refl
  length-spells s w false e = tt

  pub spells : (k : Kind) (w : ℕ) → Spells k w (form I k w)
  spells bool w = row-spells bool w
  spells operator w = row-spells operator w
  spells mode w = row-spells mode w
  spells natural w = λ ts rest. natural-spells w ts.0.0 (ltb-true _ _ ts.0.1) rest
  spells low w = low-spells w (below w) refl
  spells name w = λ ts rest. ap (λ (s : Span). s.start ∷ s.len ∷ rest) (I.span-named w ts.0.0 ts.0.1)
  spells (length_from s) w = length-spells s w (I.inside s w) refl
  spells expr w = row-spells expr w
  spells stmt w = row-spells stmt w
  spells aexpr w = row-spells aexpr w
  spells (option c) w = row-spells (option c) w
  spells (seq i) w = row-spells (seq i) w

  -- ---- every tree is made by a form

  -- the tree is what the form makes of some fields
  abbrev pub MadeBy : {R : Type 0} → Option (Form I R) → R → Type 0
  MadeBy none t = ⊥
  MadeBy (some f) t = (ts : Trees I f.fields) × (apply I f.fields f.make ts ≡ t)

  -- of the form of some word
  abbrev pub Made : (k : Kind) → Tree I k → Type 0
  Made k t = (w : ℕ) × MadeBy (form I k w) t

  made-bool : (t : Bool) → Made bool t
  made-bool false = (0, (tt, refl))
  made-bool true = (1, (tt, refl))

  made-operator : (t : Operator) → Made operator t
  made-operator IfThenElse = (1, (tt, refl))
  made-operator Equiv = (2, (tt, refl))
  made-operator LogicalImp = (3, (tt, refl))
  made-operator LogicalAnd = (4, (tt, refl))
  made-operator LogicalOr = (5, (tt, refl))
  made-operator Eq = (6, (tt, refl))
  made-operator Neq = (7, (tt, refl))
  made-operator Less = (8, (tt, refl))
  made-operator AtMost = (9, (tt, refl))
  made-operator Plus = (10, (tt, refl))
  made-operator Minus = (11, (tt, refl))
  made-operator Times = (12, (tt, refl))
  made-operator Div = (13, (tt, refl))
  made-operator Mod = (14, (tt, refl))
  made-operator LogicalNot = (15, (tt, refl))
  made-operator UnaryMinus = (16, (tt, refl))

  made-mode : (t : ParameterMode) → Made mode t
  made-mode In = (1, (tt, refl))
  made-mode InOut = (2, (tt, refl))
  made-mode Out = (3, (tt, refl))

  made-natural : (n : ℕ) → Made natural n
  made-natural n = (n / 2 ^ 32, (((n % 2 ^ 32, lt-ltb (n % 2 ^ 32) (2 ^ 32) (omega arith)), tt), omega arith))

  made-second : (test : ℕ → Bool) (l : ℕ) (h : test l ≡ true) (b : Bool) (e : test l ≡ b) → MadeBy (second_form I test l b e) (l, h)
  made-second test l h true e = (tt, ap (λ (p : test l ≡ true). (l, p)) (Bool-set (test l) true e h))
  made-second test l h false e = let z : true ≡ false = cc in absurd (true≢false z)

  made-expr : (t : Expr I.N) → Made expr t
  made-expr (BLiteral b) = (1, ((b, tt), refl))
  made-expr (ILiteral n) = (2, ((n, tt), refl))
  made-expr (CustomLiteral s t) = (3, ((s, (t, tt)), refl))
  made-expr (IdExpr n o) = (4, ((n, (o, tt)), refl))
  made-expr (OperatorExpr o es) = (5, ((o, (es, tt)), refl))
  made-expr (FunctionCallExpr n es) = (6, ((n, (es, tt)), refl))
  made-expr (LabeledExpr n e) = (7, ((n, (e, tt)), refl))
  made-expr (LetExpr n t r e) = (8, ((n, (t, (r, (e, tt)))), refl))
  made-expr (QuantifierExpr u bs ps e) = (9, ((u, (bs, (ps, (e, tt)))), refl))
  made-expr (ClosureExpr bs n t ps) = (10, ((bs, (n, (t, (ps, tt)))), refl))

  made-stmt : (t : Stmt I.N) → Made stmt t
  made-stmt (VarDecl v i s) = (21, ((v.name, (v.is_mutable, (v.optional_type, (v.optional_auto_inv, (i, (s, tt)))))), refl))
  made-stmt (Assign n e) = (22, ((n, (e, tt)), refl))
  made-stmt (Reinit ns) = (23, ((ns, tt), refl))
  made-stmt (Block ss) = (24, ((ss, tt), refl))
  made-stmt (Call n cs) = (25, ((n, (cs, tt)), refl))
  made-stmt (Check e) = (26, ((e, tt), refl))
  made-stmt (Assume e) = (27, ((e, tt), refl))
  made-stmt (Reach e) = (28, ((e, tt), refl))
  made-stmt (Assert e) = (29, ((e, tt), refl))
  made-stmt (AForall n t s) = (30, ((n, (t, (s, tt))), refl))
  made-stmt (Choose ss) = (31, ((ss, tt), refl))
  made-stmt (If e s t) = (32, ((e, (s, (t, tt))), refl))
  made-stmt (IfCase cs) = (33, ((cs, tt), refl))
  made-stmt (Loop is s) = (34, ((is, (s, tt)), refl))
  made-stmt (LabeledStmt n s) = (35, ((n, (s, tt)), refl))
  made-stmt (Exit l) = (36, ((l, tt), refl))
  made-stmt Return = (37, (tt, refl))
  made-stmt (Probe e) = (38, ((e, tt), refl))

  made-aexpr : (t : AExpr I.N) → Made aexpr t
  made-aexpr (a_expr e) = (1, ((e, tt), refl))
  made-aexpr (AAssertion s) = (2, ((s, tt), refl))

  made-option : (c : Content) (t : Option (Held I c)) → Made (option c) t
  made-option a_name none = (0, (tt, refl))
  made-option a_name (some n) = (1, ((n, tt), refl))
  made-option an_expr none = (0, (tt, refl))
  made-option an_expr (some e) = (1, ((e, tt), refl))
  made-option a_stmt none = (0, (tt, refl))
  made-option a_stmt (some s) = (1, ((s, tt), refl))
  made-option a_definition none = (0, (tt, refl))
  made-option a_definition (some d) = (1, ((d.when, (d.body, tt)), refl))

  made-seq : (i : Item) (t : Seq I i) → Made (seq i) t
  made-seq of_name [] = (0, (tt, refl))
  made-seq of_name (x ∷ l) = (1, ((x, (l, tt)), refl))
  made-seq of_expr no_exprs = (0, (tt, refl))
  made-seq of_expr (◌then◌ e l) = (1, ((e, (l, tt)), refl))
  made-seq of_binding [] = (0, (tt, refl))
  made-seq of_binding (binding n t ∷ l) = (1, ((n, (t, (l, tt))), refl))
  made-seq of_pattern no_patterns = (0, (tt, refl))
  made-seq of_pattern (pattern es l) = (1, ((es, (l, tt)), refl))
  made-seq of_closure_binding no_closure_bindings = (0, (tt, refl))
  made-seq of_closure_binding (closure_binding n ps e l) = (1, ((n, (ps, (e, (l, tt)))), refl))
  made-seq of_closure_property no_closure_properties = (0, (tt, refl))
  made-seq of_closure_property (closure_property ts e l) = (1, ((ts, (e, (l, tt))), refl))
  made-seq of_stmt no_stmts = (0, (tt, refl))
  made-seq of_stmt (stmts s l) = (1, ((s, (l, tt)), refl))
  made-seq of_call_argument [] = (0, (tt, refl))
  made-seq of_call_argument (x ∷ l) = (1, ((x.mode, (x.arg, (l, tt))), refl))
  made-seq of_case no_cases = (0, (tt, refl))
  made-seq of_case (case e s l) = (1, ((e, (s, (l, tt))), refl))
  made-seq of_a_expr no_a_exprs = (0, (tt, refl))
  made-seq of_a_expr (a_exprs a l) = (1, ((a, (l, tt)), refl))
  made-seq of_tagger [] = (0, (tt, refl))
  made-seq of_tagger (x ∷ l) = (1, ((x.name, (x.typ, (l, tt))), refl))
  made-seq of_f_parameter [] = (0, (tt, refl))
  made-seq of_f_parameter (x ∷ l) = (1, ((x.name, (x.injective, (x.typ, (l, tt)))), refl))
  made-seq of_function [] = (0, (tt, refl))
  made-seq of_function (x ∷ l) = (1, ((x.name, (x.parameters, (x.result_type, (x.tag, (x.definition, (l, tt)))))), refl))
  made-seq of_axiom [] = (0, (tt, refl))
  made-seq of_axiom (x ∷ l) = (1, ((x.explains, (x.expr, (l, tt))), refl))
  made-seq of_p_parameter [] = (0, (tt, refl))
  made-seq of_p_parameter (x ∷ l) = (1, ((x.name, (x.mode, (x.typ, (x.optional_auto_inv, (l, tt))))), refl))
  made-seq of_procedure [] = (0, (tt, refl))
  made-seq of_procedure (x ∷ l) = (1, ((x.name, (x.parameters, (x.pre, (x.post, (x.body, (l, tt)))))), refl))

  pub made : (k : Kind) (t : Tree I k) → Made k t
  made bool t = made-bool t
  made operator t = made-operator t
  made mode t = made-mode t
  made natural t = made-natural t
  made low t = (t.0, made-second below t.0 t.1 (below t.0) refl)
  made name t = ((I.span t).start, ((((I.span t).len, I.inside-span t), tt), I.named-span t (I.inside-span t)))
  made (length_from s) t = (t.0, made-second (I.inside s) t.0 t.1 (I.inside s t.0) refl)
  made expr t = made-expr t
  made stmt t = made-stmt t
  made aexpr t = made-aexpr t
  made (option c) t = made-option c t
  made (seq i) t = made-seq i t
