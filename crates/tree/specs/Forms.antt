-- The constructor that a word stands for where a kind is expected, over the rows of `Kind`: `form k w` has the kinds of the fields that
-- `turn k w` gives, and a function from the fields' trees to the kind's tree.
use Rattle.std.specs.Prelude.{ℕ, ◌+◌, ◌*◌, ◌^◌, ◌≡◌, refl, Bool, true, false, [], ◌∷◌, ◌++◌, replicate}
use Rattle.std.proofs.Math.Option.{Option, none, some}
use Rattle.tree.specs.Ast.{In, InOut, Out, binding}
use Rattle.tree.specs.Ast.{Operator, IfThenElse, Equiv, LogicalImp, LogicalAnd, LogicalOr, Eq, Neq, Less, AtMost, Plus, Minus, Times, Div, Mod, LogicalNot, UnaryMinus}
use Rattle.tree.specs.Ast.{Expr, BLiteral, ILiteral, CustomLiteral, IdExpr, OperatorExpr, FunctionCallExpr, LabeledExpr, LetExpr, QuantifierExpr, ClosureExpr}
use Rattle.tree.specs.Ast.{no_exprs, ◌then◌, no_patterns, pattern, no_closure_bindings, closure_binding, no_closure_properties, closure_property}
use Rattle.tree.specs.Ast.{Stmt, VarDecl, Assign, Reinit, Block, Call, Check, Assume, Reach, Assert, AForall, Choose, If, IfCase, Loop, LabeledStmt, Exit, Return, Probe}
use Rattle.tree.specs.Ast.{no_stmts, stmts, no_cases, case, a_expr, AAssertion, no_a_exprs, a_exprs}
use Rattle.tree.specs.Kind.{Kind, bool, operator, mode, natural, low, name, length_from, expr, stmt, aexpr, option, seq}
use Rattle.tree.specs.Kind.{Item, of_name, of_expr, of_binding, of_pattern, of_closure_binding, of_closure_property, of_stmt, of_call_argument, of_case, of_a_expr, of_tagger, of_f_parameter, of_function, of_axiom, of_p_parameter, of_procedure}
use Rattle.tree.specs.Kind.{Content, a_name, an_expr, a_stmt, a_definition, fields, contents, expr_rows, stmt_rows, first_word, rows}
use Rattle.tree.specs.Trees.{◌▸◌, Names, Second, below, Held, Seq, Tree, Fun, Form, Makes, tagged_form}

module _ (I : Names) where
  abbrev pub operators : Makes I (replicate 16 []) Operator
  operators =
      IfThenElse ▸ Equiv ▸ LogicalImp ▸ LogicalAnd ▸ LogicalOr ▸ Eq ▸ Neq ▸ Less ▸ AtMost
      ▸ Plus ▸ Minus ▸ Times ▸ Div ▸ Mod ▸ LogicalNot ▸ UnaryMinus ▸ tt

  abbrev pub expr_makes : Makes I expr_rows (Expr I.N)
  expr_makes =
      BLiteral ▸ ILiteral ▸ CustomLiteral ▸ IdExpr ▸ OperatorExpr ▸ FunctionCallExpr ▸ LabeledExpr
      ▸ LetExpr ▸ QuantifierExpr ▸ ClosureExpr ▸ tt

  -- the variable of a declaration by its fields
  abbrev var_decl : I.N → Bool → Option I.N → Option (Expr I.N) → Option (Expr I.N) → Stmt I.N → Stmt I.N
  var_decl n m t a i s = VarDecl (record { name = n; is_mutable = m; optional_type = t; optional_auto_inv = a }) i s

  abbrev pub stmt_makes : Makes I stmt_rows (Stmt I.N)
  stmt_makes =
      var_decl ▸ Assign ▸ Reinit ▸ Block ▸ Call ▸ Check ▸ Assume ▸ Reach ▸ Assert ▸ AForall
      ▸ Choose ▸ If ▸ IfCase ▸ Loop ▸ LabeledStmt ▸ Exit ▸ Return ▸ Probe ▸ tt

  -- an option by its content's fields
  abbrev pub option_make : (c : Content) → Fun I (contents c) (Option (Held I c))
  option_make a_name = λ n. some n
  option_make an_expr = λ e. some e
  option_make a_stmt = λ s. some s
  option_make a_definition = λ w b. some (record { when = w; body = b })

  -- a sequence of nothing, and a sequence by its first item's fields and the items after it
  abbrev pub empty : (i : Item) → Seq I i
  empty of_name = []
  empty of_expr = no_exprs
  empty of_binding = []
  empty of_pattern = no_patterns
  empty of_closure_binding = no_closure_bindings
  empty of_closure_property = no_closure_properties
  empty of_stmt = no_stmts
  empty of_call_argument = []
  empty of_case = no_cases
  empty of_a_expr = no_a_exprs
  empty of_tagger = []
  empty of_f_parameter = []
  empty of_function = []
  empty of_axiom = []
  empty of_p_parameter = []
  empty of_procedure = []

  abbrev pub item_make : (i : Item) → Fun I (fields i ++ (seq i ∷ [])) (Seq I i)
  item_make of_name = λ n l. n ∷ l
  item_make of_expr = λ e l. ◌then◌ e l
  item_make of_binding = λ n t l. binding n t ∷ l
  item_make of_pattern = λ es l. pattern es l
  item_make of_closure_binding = λ n ps e l. closure_binding n ps e l
  item_make of_closure_property = λ ts e l. closure_property ts e l
  item_make of_stmt = λ s l. stmts s l
  item_make of_call_argument = λ m e l. record { mode = m; arg = e } ∷ l
  item_make of_case = λ e s l. case e s l
  item_make of_a_expr = λ a l. a_exprs a l
  item_make of_tagger = λ n t l. record { name = n; typ = t } ∷ l
  item_make of_f_parameter = λ n j t l. record { name = n; injective = j; typ = t } ∷ l
  item_make of_function = λ n ps r t d l. record { name = n; parameters = ps; result_type = r; tag = t; definition = d } ∷ l
  item_make of_axiom = λ ns e l. record { explains = ns; expr = e } ∷ l
  item_make of_p_parameter = λ n m t a l. record { name = n; mode = m; typ = t; optional_auto_inv = a } ∷ l
  item_make of_procedure = λ n ps q r b l. record { name = n; parameters = ps; pre = q; post = r; body = b } ∷ l

  -- a constructor for each row of a kind
  abbrev pub makes : (k : Kind) → Makes I (rows k) (Tree I k)
  makes bool = (false, (true, tt))
  makes operator = operators
  makes mode = (In, (InOut, (Out, tt)))
  makes natural = tt
  makes low = tt
  makes name = tt
  makes (length_from s) = tt
  makes expr = expr_makes
  makes stmt = stmt_makes
  makes aexpr = (a_expr, (AAssertion, tt))
  makes (option c) = (none, (option_make c, tt))
  makes (seq i) = (empty i, (item_make i, tt))

  abbrev pub row_form : (k : Kind) → ℕ → Option (Form I (Tree I k))
  row_form k w = tagged_form I (first_word k) (rows k) (makes k) w

  -- a second word, where it passes its test
  abbrev pub second_form : (test : ℕ → Bool) (l : ℕ) (b : Bool) → test l ≡ b → Option (Form I (Second test))
  second_form test l true e = some (record { fields = []; make = (l, e) })
  second_form test l false e = none

  abbrev pub form : (k : Kind) → ℕ → Option (Form I (Tree I k))
  form bool w = row_form bool w
  form operator w = row_form operator w
  form mode w = row_form mode w
  form natural w = some (record { fields = low ∷ []; make = λ l. w * 2 ^ 32 + l.0 })
  form low w = second_form below w (below w) refl
  form name w = some (record { fields = length_from w ∷ []; make = λ l. I.named w l.0 l.1 })
  form (length_from s) w = second_form (I.inside s) w (I.inside s w) refl
  form expr w = row_form expr w
  form stmt w = row_form stmt w
  form aexpr w = row_form aexpr w
  form (option c) w = row_form (option c) w
  form (seq i) w = row_form (seq i) w
