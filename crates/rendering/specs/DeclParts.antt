-- The parts of a table that hold declarations, with their prints: what the methods of src/program.rt print.
use Rattle.std.specs.Prelude.{length}
use Rattle.tree.specs.Ast.{Expr, Stmt, Tagger, FunctionDefinition, Function, Axiom, Procedure as Proc}
use Rattle.tree.specs.Words.{name_words, expr_words, exprs_words, stmt_words, tagger_words, function_definition_words, function_words, axiom_words, procedure_words, program_words}
use Rattle.tree.specs.Counted.{CountedExprs, CountedDefinition, CountedFunction, CountedAxiom, CountedProcedure, CountedProgram}
use Rattle.layout.specs.Text.{◌▹◌, ◌▸◌}
use Rattle.layout.specs.PrintUtil.{Indent, Init}
use Rattle.layout.specs.Settings.{format_at}
use Rattle.layout.specs.Printer.{Expression}
use Rattle.layout.specs.Statements.{inline}
use Rattle.layout.specs.Program.{TypeDecl, TaggerDecl, when_clauses, definition, FunctionDecl, AxiomDecl, body, Procedure, Program}
use Rattle.rendering.specs.Parts.{N, named, Parts}
use Rattle.rendering.specs.ExprParts.{Numbered, counted}
use Rattle.rendering.specs.Sequences.{Kind}
use Rattle.rendering.specs.StmtParts.{NumberedStmt}

-- ---- parts of declarations

-- an expression in the source's form at the first indent
abbrev pub indented : Parts
indented =
    counted Numbered (λ S. expr_words {N = N S} (λ n. n.span))
    (λ S e rest. Indent S.step ▹ Expression (named S) S.step e Init (format_at S.form S.step) rest) (λ S. S.step)

-- a `when` clause, on a line of its own
abbrev pub a_when : Kind
a_when =
    record {
      Tree = λ S. Expr (N S);
      numbers = Numbered;
      words = λ S. expr_words {N = N S} (λ n. n.span);
      print = λ S e rest. Indent S.step ▹ "when " ▸ inline (named S) S.step e ("\n" ▸ rest);
      indent = λ S. S.step;
    }

abbrev pub when_list : Parts
when_list =
    counted (λ S. CountedExprs {N = N S} (λ n. n.span) S.counts.now (length S.words.now)) (λ S. exprs_words (λ n. n.span))
    (λ S es rest. when_clauses (named S) S.step es rest) (λ S. S.step)

abbrev pub a_definition : Kind
a_definition =
    record {
      Tree = λ S. FunctionDefinition (N S);
      numbers = λ S. CountedDefinition {N = N S} (λ n. n.span) S.counts.now (length S.words.now);
      words = λ S. function_definition_words (λ n. n.span);
      print = λ S d rest. definition (named S) S.step S.form d rest;
      indent = λ S. S.step;
    }

abbrev pub a_body : Kind
a_body =
    record {
      Tree = λ S. Stmt (N S);
      numbers = NumberedStmt;
      words = λ S. stmt_words {N = N S} (λ n. n.span);
      print = λ S s rest. body (named S) S.step s rest;
      indent = λ S. S.step;
    }

-- ---- declarations

abbrev pub a_type_decl : Kind
a_type_decl =
    record {
      Tree = N;
      numbers = λ S n rest. Unit {0};
      words = λ S. name_words {N = N S} (λ n. n.span);
      print = λ S. TypeDecl (named S);
      indent = λ S. S.step;
    }

abbrev pub a_tagger_decl : Kind
a_tagger_decl =
    record {
      Tree = λ S. Tagger (N S);
      numbers = λ S t rest. Unit {0};
      words = λ S. tagger_words {N = N S} (λ n. n.span);
      print = λ S. TaggerDecl (named S);
      indent = λ S. S.step;
    }

abbrev pub a_function_decl : Kind
a_function_decl =
    record {
      Tree = λ S. Function (N S);
      numbers = λ S. CountedFunction {N = N S} (λ n. n.span) S.counts.now (length S.words.now);
      words = λ S. function_words (λ n. n.span);
      print = λ S. FunctionDecl (named S) S.step S.form;
      indent = λ S. S.step;
    }

abbrev pub an_axiom_decl : Kind
an_axiom_decl =
    record {
      Tree = λ S. Axiom (N S);
      numbers = λ S. CountedAxiom {N = N S} (λ n. n.span) S.counts.now (length S.words.now);
      words = λ S. axiom_words (λ n. n.span);
      print = λ S. AxiomDecl (named S) S.step S.form;
      indent = λ S. S.step;
    }

abbrev pub a_procedure : Kind
a_procedure =
    record {
      Tree = λ S. Proc (N S);
      numbers = λ S. CountedProcedure {N = N S} (λ n. n.span) S.counts.now (length S.words.now);
      words = λ S. procedure_words (λ n. n.span);
      print = λ S. Procedure (named S) S.step;
      indent = λ S. S.step;
    }

abbrev pub a_program : Parts
a_program =
    counted (λ S. CountedProgram {N = N S} (λ n. n.span) S.counts.now (length S.words.now)) (λ S. program_words (λ n. n.span))
    (λ S p rest. Program (named S) S.step S.form p rest) (λ S. S.step)
