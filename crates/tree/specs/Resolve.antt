-- `map_X f` applies f to every name of an X; `resolve` takes spans over a text to the bytes that they cover.
use Rattle.std.specs.Prelude.{ℕ, List, map, take, drop}
use Rattle.std.proofs.Math.Option.{Option, none, some}
use Rattle.tree.specs.Ast.{Span, Binding, binding, Variable, CallArgument}
use Rattle.tree.specs.Ast.{Tagger, FParameter, FunctionDefinition, Function, Axiom, PParameter, Procedure, Program}
use Rattle.tree.specs.Ast.{Expr, BLiteral, ILiteral, CustomLiteral, IdExpr, OperatorExpr, FunctionCallExpr, LabeledExpr, LetExpr, QuantifierExpr, ClosureExpr}
use Rattle.tree.specs.Ast.{Exprs, no_exprs, ◌then◌, Patterns, no_patterns, pattern}
use Rattle.tree.specs.Ast.{ClosureBindings, no_closure_bindings, closure_binding, ClosureProperties, no_closure_properties, closure_property}
use Rattle.tree.specs.Ast.{Stmt, VarDecl, Assign, Reinit, Block, Call, Check, Assume, Reach, Assert, AForall, Choose, If, IfCase, Loop, LabeledStmt, Exit, Return, Probe}
use Rattle.tree.specs.Ast.{Stmts, no_stmts, stmts, Cases, no_cases, case, AExpr, a_expr, AAssertion, AExprs, no_a_exprs, a_exprs}

abbrev pub map_option : {A B : Type 0} → (A → B) → Option A → Option B
map_option f none = none
map_option f (some a) = some (f a)

module _ {N M : Type 0} (f : N → M) where
  abbrev pub map_binding : Binding N → Binding M
  map_binding (binding n t) = binding (f n) (f t)

  abbrev mutual
    pub map_expr : Expr N → Expr M
    map_expr (BLiteral b) = BLiteral b
    map_expr (ILiteral n) = ILiteral n
    map_expr (CustomLiteral s t) = CustomLiteral (f s) (f t)
    map_expr (IdExpr n o) = IdExpr (f n) o
    map_expr (OperatorExpr o es) = OperatorExpr o (map_exprs es)
    map_expr (FunctionCallExpr n es) = FunctionCallExpr (f n) (map_exprs es)
    map_expr (LabeledExpr n e) = LabeledExpr (f n) (map_expr e)
    map_expr (LetExpr n t r e) = LetExpr (f n) (map_option f t) (map_expr r) (map_expr e)
    map_expr (QuantifierExpr u bs ps e) = QuantifierExpr u (map map_binding bs) (map_patterns ps) (map_expr e)
    map_expr (ClosureExpr bs n t ps) = ClosureExpr (map_closure_bindings bs) (f n) (f t) (map_closure_properties ps)

    pub map_exprs : Exprs N → Exprs M
    map_exprs no_exprs = no_exprs
    map_exprs (◌then◌ e es) = ◌then◌ (map_expr e) (map_exprs es)

    pub map_patterns : Patterns N → Patterns M
    map_patterns no_patterns = no_patterns
    map_patterns (pattern es ps) = pattern (map_exprs es) (map_patterns ps)

    pub map_closure_bindings : ClosureBindings N → ClosureBindings M
    map_closure_bindings no_closure_bindings = no_closure_bindings
    map_closure_bindings (closure_binding n ps e bs) = closure_binding (f n) (map map_binding ps) (map_expr e) (map_closure_bindings bs)

    pub map_closure_properties : ClosureProperties N → ClosureProperties M
    map_closure_properties no_closure_properties = no_closure_properties
    map_closure_properties (closure_property ts e ps) = closure_property (map_patterns ts) (map_expr e) (map_closure_properties ps)

  abbrev pub map_variable : Variable N → Variable M
  map_variable v =
      record {
        name = f v.name;
        is_mutable = v.is_mutable;
        optional_type = map_option f v.optional_type;
        optional_auto_inv = map_option map_expr v.optional_auto_inv;
      }

  abbrev pub map_call_argument : CallArgument N → CallArgument M
  map_call_argument a = record { mode = a.mode; arg = map_expr a.arg }

  abbrev mutual
    pub map_stmt : Stmt N → Stmt M
    map_stmt (VarDecl v i s) = VarDecl (map_variable v) (map_option map_expr i) (map_stmt s)
    map_stmt (Assign n e) = Assign (f n) (map_expr e)
    map_stmt (Reinit ns) = Reinit (map f ns)
    map_stmt (Block ss) = Block (map_stmts ss)
    map_stmt (Call n cs) = Call (f n) (map map_call_argument cs)
    map_stmt (Check e) = Check (map_expr e)
    map_stmt (Assume e) = Assume (map_expr e)
    map_stmt (Reach e) = Reach (map_expr e)
    map_stmt (Assert e) = Assert (map_expr e)
    map_stmt (AForall n t s) = AForall (f n) (f t) (map_stmt s)
    map_stmt (Choose ss) = Choose (map_stmts ss)
    map_stmt (If e s t) = If (map_expr e) (map_stmt s) (map_stmt t)
    map_stmt (IfCase cs) = IfCase (map_cases cs)
    map_stmt (Loop is s) = Loop (map_a_exprs is) (map_stmt s)
    map_stmt (LabeledStmt n s) = LabeledStmt (f n) (map_stmt s)
    map_stmt (Exit l) = Exit (map_option f l)
    map_stmt Return = Return
    map_stmt (Probe e) = Probe (map_expr e)

    pub map_stmts : Stmts N → Stmts M
    map_stmts no_stmts = no_stmts
    map_stmts (stmts s ss) = stmts (map_stmt s) (map_stmts ss)

    pub map_cases : Cases N → Cases M
    map_cases no_cases = no_cases
    map_cases (case e s cs) = case (map_expr e) (map_stmt s) (map_cases cs)

    pub map_a_expr : AExpr N → AExpr M
    map_a_expr (a_expr e) = a_expr (map_expr e)
    map_a_expr (AAssertion s) = AAssertion (map_stmt s)

    pub map_a_exprs : AExprs N → AExprs M
    map_a_exprs no_a_exprs = no_a_exprs
    map_a_exprs (a_exprs a es) = a_exprs (map_a_expr a) (map_a_exprs es)

  abbrev pub map_tagger : Tagger N → Tagger M
  map_tagger t = record { name = f t.name; typ = f t.typ }

  abbrev pub map_f_parameter : FParameter N → FParameter M
  map_f_parameter p = record { name = f p.name; injective = p.injective; typ = f p.typ }

  abbrev pub map_function_definition : FunctionDefinition N → FunctionDefinition M
  map_function_definition d = record { when = map_exprs d.when; body = map_expr d.body }

  abbrev pub map_function : Function N → Function M
  map_function g =
      record {
        name = f g.name;
        parameters = map map_f_parameter g.parameters;
        result_type = f g.result_type;
        tag = map_option f g.tag;
        definition = map_option map_function_definition g.definition;
      }

  abbrev pub map_axiom : Axiom N → Axiom M
  map_axiom a = record { explains = map f a.explains; expr = map_expr a.expr }

  abbrev pub map_p_parameter : PParameter N → PParameter M
  map_p_parameter p =
      record {
        name = f p.name;
        mode = p.mode;
        typ = f p.typ;
        optional_auto_inv = map_option map_expr p.optional_auto_inv;
      }

  abbrev pub map_procedure : Procedure N → Procedure M
  map_procedure p =
      record {
        name = f p.name;
        parameters = map map_p_parameter p.parameters;
        pre = map_a_exprs p.pre;
        post = map_a_exprs p.post;
        body = map_option map_stmt p.body;
      }

  abbrev pub map_program : Program N → Program M
  map_program p =
      record {
        types = map f p.types;
        taggers = map map_tagger p.taggers;
        functions = map map_function p.functions;
        axioms = map map_axiom p.axioms;
        procedures = map map_procedure p.procedures;
      }

-- the bytes of a text that a start and a length cover; bytes past the text's end are none
unfoldable pub part : List ℕ → ℕ → ℕ → List ℕ
part text start len = take len (drop start text)

-- the bytes of a name
abbrev pub bytes_of : List ℕ → Span → List ℕ
bytes_of text s = part text s.start s.len

-- a tree over a text, with each name as its bytes
abbrev pub resolve_expr : List ℕ → Expr Span → Expr (List ℕ)
resolve_expr text = map_expr (bytes_of text)

abbrev pub resolve_stmt : List ℕ → Stmt Span → Stmt (List ℕ)
resolve_stmt text = map_stmt (bytes_of text)

abbrev pub resolve_program : List ℕ → Program Span → Program (List ℕ)
resolve_program text = map_program (bytes_of text)
