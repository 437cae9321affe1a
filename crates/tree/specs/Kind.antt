-- What may be expected at a word of a table, and what a word that is expected says of the words after it: the kinds of its constructor's
-- fields (REFERENCE, "The tree words"). Upstream's datatypes of one constructor are their fields alone, so they stand here only as the
-- items of options and sequences.
use Rattle.std.specs.Prelude.{ℕ, zero, suc, ◌-◌, ◌^◌, Bool, cond, List, [], ◌∷◌, ◌++◌, replicate, leb, ltb}
use Rattle.tree.specs.Tags.{no_more, b_literal_tag, var_decl_tag, a_expr_tag}

-- what a sequence may hold
pub data Item : Type 0 where
  of_name of_expr of_binding of_pattern of_closure_binding of_closure_property : Item
  of_stmt of_call_argument of_case of_a_expr : Item
  of_tagger of_f_parameter of_function of_axiom of_p_parameter of_procedure : Item

-- what an option may hold
pub data Content : Type 0 where
  a_name an_expr a_stmt a_definition : Content

-- what may be expected at a word. `low` is a natural's second word, and `length_from s` the second word of a name that starts at s.
pub data Kind : Type 0 where
  bool operator mode natural low name : Kind
  length_from : ℕ → Kind
  expr stmt aexpr : Kind
  option : Content → Kind
  seq : Item → Kind

-- the fields of an item, in the order of its datatype
abbrev pub fields : Item → List Kind
fields of_name = name ∷ []
fields of_expr = expr ∷ []
fields of_binding = name ∷ name ∷ []
fields of_pattern = seq of_expr ∷ []
fields of_closure_binding = name ∷ seq of_binding ∷ expr ∷ []
fields of_closure_property = seq of_pattern ∷ expr ∷ []
fields of_stmt = stmt ∷ []
fields of_call_argument = mode ∷ expr ∷ []
fields of_case = expr ∷ stmt ∷ []
fields of_a_expr = aexpr ∷ []
fields of_tagger = name ∷ name ∷ []
fields of_f_parameter = name ∷ bool ∷ name ∷ []
fields of_function = name ∷ seq of_f_parameter ∷ name ∷ option a_name ∷ option a_definition ∷ []
fields of_axiom = seq of_name ∷ expr ∷ []
fields of_p_parameter = name ∷ mode ∷ name ∷ option an_expr ∷ []
fields of_procedure = name ∷ seq of_p_parameter ∷ seq of_a_expr ∷ seq of_a_expr ∷ option a_stmt ∷ []

-- the fields of an option's content
abbrev pub contents : Content → List Kind
contents a_name = name ∷ []
contents an_expr = expr ∷ []
contents a_stmt = stmt ∷ []
contents a_definition = seq of_expr ∷ expr ∷ []

-- the fields of Expr's constructors, in datatype order
abbrev pub expr_rows : List (List Kind)
expr_rows =
    (bool ∷ [])  -- BLiteral
    ∷ (natural ∷ [])  -- ILiteral
    ∷ (name ∷ name ∷ [])  -- CustomLiteral
    ∷ (name ∷ bool ∷ [])  -- IdExpr
    ∷ (operator ∷ seq of_expr ∷ [])  -- OperatorExpr
    ∷ (name ∷ seq of_expr ∷ [])  -- FunctionCallExpr
    ∷ (name ∷ expr ∷ [])  -- LabeledExpr
    ∷ (name ∷ option a_name ∷ expr ∷ expr ∷ [])  -- LetExpr
    ∷ (bool ∷ seq of_binding ∷ seq of_pattern ∷ expr ∷ [])  -- QuantifierExpr
    ∷ (seq of_closure_binding ∷ name ∷ name ∷ seq of_closure_property ∷ [])  -- ClosureExpr
    ∷ []

-- the fields of Stmt's constructors, in datatype order; the variable of a VarDecl is its four fields
abbrev pub stmt_rows : List (List Kind)
stmt_rows =
    (name ∷ bool ∷ option a_name ∷ option an_expr ∷ option an_expr ∷ stmt ∷ [])  -- VarDecl
    ∷ (name ∷ expr ∷ [])  -- Assign
    ∷ (seq of_name ∷ [])  -- Reinit
    ∷ (seq of_stmt ∷ [])  -- Block
    ∷ (name ∷ seq of_call_argument ∷ [])  -- Call
    ∷ (expr ∷ [])  -- Check
    ∷ (expr ∷ [])  -- Assume
    ∷ (expr ∷ [])  -- Reach
    ∷ (expr ∷ [])  -- Assert
    ∷ (name ∷ name ∷ stmt ∷ [])  -- AForall
    ∷ (seq of_stmt ∷ [])  -- Choose
    ∷ (expr ∷ stmt ∷ stmt ∷ [])  -- If
    ∷ (seq of_case ∷ [])  -- IfCase
    ∷ (seq of_a_expr ∷ stmt ∷ [])  -- Loop
    ∷ (name ∷ stmt ∷ [])  -- LabeledStmt
    ∷ (option a_name ∷ [])  -- Exit
    ∷ []  -- Return
    ∷ (expr ∷ [])  -- Probe
    ∷ []

-- the fields of AExpr's constructors
abbrev pub aexpr_rows : List (List Kind)
aexpr_rows =
    (expr ∷ [])  -- AExpr
    ∷ (stmt ∷ [])  -- AAssertion
    ∷ []

-- the fields of a program
abbrev pub program_fields : List Kind
program_fields = seq of_name ∷ seq of_tagger ∷ seq of_function ∷ seq of_axiom ∷ seq of_procedure ∷ []

-- A kind's constructors begin with the words from `first_word` on, in datatype order, and have the fields of `rows`. A natural and a name,
-- whose first word may be any, have no rows.
abbrev pub first_word : Kind → ℕ
first_word bool = 0
first_word operator = 1
first_word mode = 1
first_word natural = 0
first_word low = 0
first_word name = 0
first_word (length_from s) = 0
first_word expr = b_literal_tag
first_word stmt = var_decl_tag
first_word aexpr = a_expr_tag
first_word (option c) = no_more
first_word (seq i) = no_more

abbrev pub rows : Kind → List (List Kind)
rows bool = replicate 2 []
rows operator = replicate 16 []
rows mode = replicate 3 []
rows natural = []
rows low = []
rows name = []
rows (length_from s) = []
rows expr = expr_rows
rows stmt = stmt_rows
rows aexpr = aexpr_rows
rows (option c) = [] ∷ contents c ∷ []
rows (seq i) = [] ∷ (fields i ++ (seq i ∷ [])) ∷ []

-- What a word says where a kind is expected: the kinds that follow, or that it misfits, at the place so many words back
pub data Turn : Type 0 where
  fits : List Kind → Turn
  misfit : ℕ → Turn

-- the row with that number
abbrev pub row_at : List (List Kind) → ℕ → Turn
row_at [] n = misfit 0
row_at (r ∷ rs) zero = fits r
row_at (r ∷ rs) (suc n) = row_at rs n

-- the row of a word, where the first row's word is that number
abbrev pub tagged : ℕ → List (List Kind) → ℕ → Turn
tagged first rs w = cond (leb first w) (row_at rs (w - first)) (misfit 0)

-- the row of a word of that kind
abbrev pub by_row : Kind → ℕ → Turn
by_row k w = tagged (first_word k) (rows k) w

-- a name's or natural's second word, by its test: one that fails it misfits so many words back
abbrev pub second : Bool → ℕ → Turn
second test back = cond test (fits []) (misfit back)

-- `inside s l` says whether a name with start s and length l lies inside the text; one that does not misfits at its first word. A natural's
-- low word is below 2 ^ 32, so that its two words are those of one natural.
abbrev pub turn : (ℕ → ℕ → Bool) → Kind → ℕ → Turn
turn inside bool w = by_row bool w
turn inside operator w = by_row operator w
turn inside mode w = by_row mode w
turn inside natural w = fits (low ∷ [])
turn inside low w = second (ltb w (2 ^ 32)) 0
turn inside name w = fits (length_from w ∷ [])
turn inside (length_from s) w = second (inside s w) 1
turn inside expr w = by_row expr w
turn inside stmt w = by_row stmt w
turn inside aexpr w = by_row aexpr w
turn inside (option c) w = by_row (option c) w
turn inside (seq i) w = by_row (seq i) w
