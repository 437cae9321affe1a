-- Closed examples, by computation: the print of each kind of declaration, by an indent step of 3 and the smaller ones by upstream's 2, and of a
-- program, with another name in every place.
use Rattle.std.specs.Prelude.{◌≡◌, refl, true, false, [], ◌∷◌}
use Rattle.std.proofs.Math.Option.{none, some}
use Rattle.lexing.specs.Bytes.{bytes}
use Rattle.tree.specs.Ast.{In, InOut, Out, OperatorExpr, IfThenElse, LogicalAnd, Exit, a_expr, AAssertion, Check, no_a_exprs, a_exprs, no_exprs}
use Rattle.layout.specs.Examples.{list as exprs}
use Rattle.layout.specs.StatementExamples.{statements-computed, v, both, block}
use Rattle.layout.specs.declared.settings.Form.TheVariants.{Broken}
use Rattle.layout.specs.Program.{TypeDecl, TaggerDecl, when_clauses, FunctionDecl, AxiomDecl, Procedure, Program}

-- `unfolding program-computed` opens the prints of programs too
unfoldable pub program-computed : Unit {0}
unfolding statements-computed when_clauses Program
program-computed = tt

type-decl : TypeDecl bytes "a" [] ≡ bytes "type a\n"
type-decl = refl

tagger-decl : TaggerDecl bytes (record { name = "a"; typ = "b" }) [] ≡ bytes "tagger a for b\n"
tagger-decl = refl

-- two parameters, the second injective; a tag; two `when` clauses, each on its line; the body on broken lines
function-decl : FunctionDecl bytes 3 Broken
    (record {
      name = "a";
      parameters = record { name = "b"; injective = false; typ = "c" } ∷ record { name = "d"; injective = true; typ = "e" } ∷ [];
      result_type = "f";
      tag = some "g";
      definition = some (record { when = exprs (v "h" ∷ both ∷ []); body = OperatorExpr LogicalAnd (exprs (v "j" ∷ v "k" ∷ [])) });
    }) []
    ≡ bytes "function a(b: c, injective d: e): f tag g\n   when h\n   when a && b\n{\n   j &&\n   k\n}\n"
unfolding program-computed
function-decl = refl

bare-function : FunctionDecl bytes 2 Broken (record { name = "a"; parameters = []; result_type = "b"; tag = none; definition = none }) [] ≡ bytes "function a(): b\n"
unfolding program-computed
bare-function = refl

-- a definition without `when`
function-body : FunctionDecl bytes 2 Broken
    (record { name = "a"; parameters = []; result_type = "b"; tag = none; definition = some (record { when = no_exprs; body = v "c" }) }) []
    ≡ bytes "function a(): b\n{\n  c\n}\n"
unfolding program-computed
function-body = refl

axiom-decl : AxiomDecl bytes 3 Broken (record { explains = "a" ∷ "b" ∷ []; expr = OperatorExpr LogicalAnd (exprs (v "c" ∷ v "d" ∷ [])) }) []
    ≡ bytes "axiom explains a, b\n   c &&\n   d\n"
unfolding program-computed
axiom-decl = refl

bare-axiom : AxiomDecl bytes 2 Broken (record { explains = []; expr = v "a" }) [] ≡ bytes "axiom\n  a\n"
unfolding program-computed
bare-axiom = refl

-- a parameter of each mode, one with an invariant; two requires, two ensures; a body
procedure : Procedure bytes 3
    (record {
      name = "a";
      parameters = record { name = "b"; mode = In; typ = "c"; optional_auto_inv = none }
          ∷ record { name = "d"; mode = InOut; typ = "e"; optional_auto_inv = some (v "f") }
          ∷ record { name = "g"; mode = Out; typ = "h"; optional_auto_inv = none }
          ∷ [];
      pre = a_exprs (a_expr (v "i")) (a_exprs (AAssertion (Check (v "j"))) no_a_exprs);
      post = a_exprs (AAssertion (Check (v "k"))) (a_exprs (a_expr (v "l")) no_a_exprs);
      body = some (block (Exit (some "m") ∷ []));
    }) []
    ≡ bytes "procedure a(b: c, inout d: e autoinv f, out g: h)\n   requires i\n   requires check j\n   ensures check k\n   ensures l\n{\n   exit m\n}\n"
unfolding program-computed
procedure = refl

bare-procedure : Procedure bytes 2 (record { name = "a"; parameters = []; pre = no_a_exprs; post = no_a_exprs; body = none }) [] ≡ bytes "procedure a()\n"
unfolding program-computed
bare-procedure = refl

-- a body that is no block
procedure-body : Procedure bytes 2 (record { name = "a"; parameters = []; pre = no_a_exprs; post = no_a_exprs; body = some (Exit (some "b")) }) []
    ≡ bytes "procedure a()\n{\n  exit b\n}\n"
unfolding program-computed
procedure-body = refl

-- the step inside a body, an axiom, and the assertions and the body of a procedure
function-steps : FunctionDecl bytes 3 Broken
    (record {
      name = "a";
      parameters = [];
      result_type = "b";
      tag = none;
      definition = some (record { when = no_exprs; body = OperatorExpr IfThenElse (exprs (v "c" ∷ v "d" ∷ v "e" ∷ [])) });
    }) []
    ≡ bytes "function a(): b\n{\n   if c\n      d\n   else\n      e\n}\n"
unfolding program-computed
function-steps = refl

axiom-steps : AxiomDecl bytes 3 Broken (record { explains = []; expr = OperatorExpr IfThenElse (exprs (v "a" ∷ v "b" ∷ v "c" ∷ [])) }) []
    ≡ bytes "axiom\n   if a\n      b\n   else\n      c\n"
unfolding program-computed
axiom-steps = refl

procedure-steps : Procedure bytes 3
    (record {
      name = "a";
      parameters = [];
      pre = a_exprs (AAssertion (block (Check (v "b") ∷ []))) no_a_exprs;
      post = a_exprs (AAssertion (block (Check (v "c") ∷ []))) no_a_exprs;
      body = some (block (block (Exit (some "d") ∷ []) ∷ []));
    }) []
    ≡ bytes "procedure a()\n   requires {\n      check b\n   }\n   ensures {\n      check c\n   }\n{\n   {\n      exit d\n   }\n}\n"
unfolding program-computed
procedure-steps = refl

-- the five kinds in upstream's order, the declarations of a kind in their own
program : Program bytes 2 Broken
    (record {
      types = "a" ∷ "b" ∷ [];
      taggers = record { name = "c"; typ = "d" } ∷ record { name = "e"; typ = "f" } ∷ [];
      functions = record { name = "g"; parameters = []; result_type = "h"; tag = none; definition = none }
          ∷ record { name = "i"; parameters = []; result_type = "j"; tag = none; definition = none }
          ∷ [];
      axioms = record { explains = []; expr = v "k" } ∷ record { explains = []; expr = v "l" } ∷ [];
      procedures = record { name = "m"; parameters = []; pre = no_a_exprs; post = no_a_exprs; body = none }
          ∷ record { name = "n"; parameters = []; pre = no_a_exprs; post = no_a_exprs; body = none }
          ∷ [];
    }) []
    ≡ bytes
    "// B3 program\n\ntype a\n\ntype b\n\ntagger c for d\n\ntagger e for f\n\nfunction g(): h\n\nfunction i(): j\n\naxiom\n  k\n\naxiom\n  l\n\nprocedure m()\n\nprocedure n()\n"
unfolding program-computed
program = refl

-- 14 bytes
empty-program : Program bytes 2 Broken (record { types = []; taggers = []; functions = []; axioms = []; procedures = [] }) [] ≡ bytes "// B3 program\n"
unfolding program-computed
empty-program = refl
