-- Closed examples, by computation: declarations whose expressions stand on one line, by steps that are not upstream's, with another name in
-- every place.
use Rattle.std.specs.Prelude.{◌≡◌, refl, [], ◌∷◌}
use Prim.Native.String.{String}
use Rattle.std.proofs.Math.Option.{none, some}
use Rattle.lexing.specs.Bytes.{bytes}
use Rattle.tree.specs.Ast.{OperatorExpr, IfThenElse, LogicalAnd, Program, Check, AAssertion, no_a_exprs, a_exprs, no_exprs}
use Rattle.layout.specs.declared.format.ExprFormatOption.TheVariants.{SingleLine, MultipleLines}
use Rattle.layout.specs.declared.settings.Form.TheVariants.{OneLine, Broken}
use Rattle.layout.specs.Settings.{format_at}
use Rattle.layout.specs.Examples.{list as exprs}
use Rattle.layout.specs.StatementExamples.{v, block}
use Rattle.layout.specs.ProgramExamples.{program-computed}
use Rattle.layout.specs.Program.{FunctionDecl, AxiomDecl, Program as Print}

one-line-format : format_at OneLine 7 ≡ SingleLine
one-line-format = refl

broken-format : format_at Broken 7 ≡ MultipleLines 7
broken-format = refl

-- the line break and the indent before the body stay
one-line-function : FunctionDecl bytes 4 OneLine
    (record {
      name = "a";
      parameters = [];
      result_type = "b";
      tag = none;
      definition = some (record { when = exprs (v "c" ∷ []); body = OperatorExpr IfThenElse (exprs (v "d" ∷ v "e" ∷ v "f" ∷ [])) });
    }) []
    ≡ bytes "function a(): b\n    when c\n{\n    if d e else f\n}\n"
unfolding program-computed
one-line-function = refl

one-line-axiom : AxiomDecl bytes 1 OneLine (record { explains = "a" ∷ []; expr = OperatorExpr LogicalAnd (exprs (v "b" ∷ v "c" ∷ [])) }) []
    ≡ bytes "axiom explains a\n b && c\n"
unfolding program-computed
one-line-axiom = refl

-- a function's body, an axiom, and a block in a procedure's assertion and body
abbrev every-part : Program String
every-part =
    record {
      types = [];
      taggers = [];
      functions = record {
        name = "a";
        parameters = [];
        result_type = "b";
        tag = none;
        definition = some (record { when = no_exprs; body = OperatorExpr LogicalAnd (exprs (v "c" ∷ v "d" ∷ [])) });
      } ∷ [];
      axioms = record { explains = []; expr = OperatorExpr LogicalAnd (exprs (v "e" ∷ v "f" ∷ [])) } ∷ [];
      procedures = record {
        name = "g";
        parameters = [];
        pre = a_exprs (AAssertion (block (Check (v "h") ∷ []))) no_a_exprs;
        post = no_a_exprs;
        body = some (block (Check (v "i") ∷ []));
      } ∷ [];
    }

one-line-program : Print bytes 8 OneLine every-part []
    ≡ bytes
    "// B3 program\n\nfunction a(): b\n{\n        c && d\n}\n\naxiom\n        e && f\n\nprocedure g()\n        requires {\n                check h\n        }\n{\n        check i\n}\n"
unfolding program-computed
one-line-program = refl

broken-program : Print bytes 1 Broken every-part []
    ≡ bytes "// B3 program\n\nfunction a(): b\n{\n c &&\n d\n}\n\naxiom\n e &&\n f\n\nprocedure g()\n requires {\n  check h\n }\n{\n check i\n}\n"
unfolding program-computed
broken-program = refl
