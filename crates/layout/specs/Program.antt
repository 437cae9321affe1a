-- Printer.dfy, the prints of programs and their declarations, method by method, as in `Statements`. The form says how the expressions of
-- function bodies and axioms are printed; upstream's is `Broken`.
use Rattle.std.specs.Prelude.{ℕ, Bool, true, false, List, []}
use Prim.Native.String.{String}
use Rattle.lexing.specs.Bytes.{bytes}
use Rattle.tree.specs.Ast.{Exprs, no_exprs, ◌then◌, Stmt}
use Rattle.tree.specs.Ast.{Tagger, FParameter, FunctionDefinition, Function, Axiom, PParameter, Procedure as Proc, Program as Tree}
use Rattle.layout.specs.declared.settings.Form.{Form}
use Rattle.layout.specs.Text.{◌▹◌, ◌▸◌}
use Rattle.layout.specs.PrintUtil.{Indent, Init}
use Rattle.layout.specs.Settings.{format_at}
use Rattle.layout.specs.Printer.{Expression}
use Rattle.layout.specs.Statements.{Before, separated, optional, mode_text, inline, OptionalAutoInvariant, shown, StmtAsBlock, PrintAExprs}

abbrev pub injective_text : Bool → String
injective_text true = "injective "
injective_text false = ""

-- declarations, an empty line before each
abbrev pub declarations : {A : Type 0} → (A → Before) → List A → Before
declarations item l rest = separated item (bytes "\n") (bytes "\n") l rest

module _ {N : Type 0} (name : N → List ℕ) where
  abbrev pub TypeDecl : N → Before
  TypeDecl t rest = "type " ▸ name t ▹ "\n" ▸ rest

  abbrev pub TaggerDecl : Tagger N → Before
  TaggerDecl t rest = "tagger " ▸ name t.name ▹ " for " ▸ name t.typ ▹ "\n" ▸ rest

  -- a function's parameter
  abbrev pub formal : FParameter N → Before
  formal p rest = injective_text p.injective ▸ name p.name ▹ ": " ▸ name p.typ ▹ rest

module _ {N : Type 0} (name : N → List ℕ) (step : ℕ) where
  unfoldable pub when_clauses : Exprs N → Before
  when_clauses no_exprs rest = rest
  when_clauses (◌then◌ e es) rest = Indent step ▹ "when " ▸ inline name step e ("\n" ▸ when_clauses es rest)

module _ {N : Type 0} (name : N → List ℕ) (step : ℕ) (form : Form) where
  abbrev pub definition : FunctionDefinition N → Before
  definition d rest =
      when_clauses name step d.when ("{\n" ▸ Indent step ▹ Expression name step d.body Init (format_at form step) ("\n}\n" ▸ rest))

  abbrev pub FunctionDecl : Function N → Before
  FunctionDecl f rest =
      "function " ▸ name f.name ▹ "("
      ▸ separated (formal name) [] (bytes ", ") f.parameters
      ("): " ▸ name f.result_type ▹ optional (λ t r. name t ▹ r) (bytes " tag ") f.tag ("\n" ▸ optional definition [] f.definition rest))

  abbrev pub AxiomDecl : Axiom N → Before
  AxiomDecl a rest =
      "axiom"
      ▸ separated (λ n r. name n ▹ r) (bytes " explains ") (bytes ", ") a.explains
      ("\n" ▸ Indent step ▹ Expression name step a.expr Init (format_at form step) ("\n" ▸ rest))

module _ {N : Type 0} (name : N → List ℕ) (step : ℕ) where
  -- a procedure's parameter
  abbrev pub parameter : PParameter N → Before
  parameter p rest = mode_text p.mode ▸ name p.name ▹ ": " ▸ name p.typ ▹ OptionalAutoInvariant name step p.optional_auto_inv rest

  abbrev pub body : Stmt N → Before
  body s rest = StmtAsBlock name step (shown name step s) 0 "\n" rest

  abbrev pub Procedure : Proc N → Before
  Procedure p rest =
      "procedure " ▸ name p.name ▹ "("
      ▸ separated parameter [] (bytes ", ") p.parameters
      (")\n" ▸ PrintAExprs name step p.pre (bytes "requires") step (PrintAExprs name step p.post (bytes "ensures") step (optional body [] p.body rest)))

module _ {N : Type 0} (name : N → List ℕ) (step : ℕ) (form : Form) where
  unfoldable pub Program : Tree N → Before
  Program p rest =
      "// B3 program\n"
      ▸ declarations (TypeDecl name) p.types
      (declarations (TaggerDecl name) p.taggers
      (declarations (FunctionDecl name step form) p.functions
      (declarations (AxiomDecl name step form) p.axioms (declarations (Procedure name step) p.procedures rest))))
