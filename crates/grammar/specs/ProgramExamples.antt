-- Closed examples of reading programs, by computation: each statement, each declaration and each optional part, there and missing, with a
-- different name in every place.
use Rattle.std.specs.Prelude.{ℕ, ◌≡◌, refl, true, false, List, [], ◌∷◌}
use Prim.Native.String.{String}
use Rattle.std.proofs.Math.Option.{Option, none, some}
use Rattle.lexing.specs.Answer.{Answer, ok, refused}
use Rattle.tree.specs.Ast.{Span, Expr, ILiteral, IdExpr, OperatorExpr, Plus, no_exprs, ◌then◌, In, InOut, Out, Program}
use Rattle.tree.specs.Ast.{Stmt, VarDecl, Assign, Reinit, Block, Call, Check, Assume, Reach, Assert, AForall, Choose, If, IfCase, Loop, LabeledStmt, Exit, Return, Probe}
use Rattle.tree.specs.Ast.{Stmts, no_stmts, stmts, no_cases, case, a_expr, AAssertion, no_a_exprs, a_exprs}
use Rattle.tree.specs.Resolve.{part, resolve_program}
use Rattle.lexing.specs.Bytes.{bytes}
use Rattle.grammar.specs.Words.{one_of}
use Rattle.grammar.specs.Statements
use Rattle.grammar.specs.Declarations
use Rattle.grammar.specs.Reading.{Outcome, refusal, parse_program, read_tree_of_program, read_program}
use Rattle.grammar.specs.ReadingExamples.{computed as expressions}

unfoldable pub computed : Unit {0}
unfolding expressions one_of part read_program read_tree_of_program parse_program Statements.rep Statements.rep_till Statements.atomic Statements.mark
    Statements.parse_optional_auto_invariant Statements.parse_call_argument Statements.parse_a_expr Statements.parse_a_expr_seq Statements.parse_init
    Statements.parse_variable_declaration Statements.parse_optional_exit_argument Statements.after_forall Statements.parse_or Statements.after_choose
    Statements.parse_case Statements.parse_else Statements.parse_if_cont Statements.parse_loop Statements.after_assign Statements.after_label
    Statements.after_call Statements.parse_stmt Statements.parse_block Statements.too_deep Statements.word_of Statements.gallery Declarations.SeparateTopLevelDecls
    Declarations.after_type Declarations.after_tagger Declarations.parse_function_formal Declarations.parse_tag Declarations.parse_when_clause
    Declarations.parse_function_definition Declarations.after_function Declarations.parse_explains Declarations.after_axiom Declarations.parse_moded
    Declarations.parse_proc_formal Declarations.after_procedure Declarations.parse_top_level_decl Declarations.TopLevel
computed = tt

abbrev Named : Type 0
Named = List ℕ

-- a program that is read, its names as bytes
abbrev named : List ℕ → Answer (Program Span) → Option (Program Named)
named text (ok p next) = some (resolve_program text p)
named text Answer.none = none
named text (refused number place) = none

-- the program that a text is read as
abbrev program_of : String → Option (Program Named)
program_of s = named (bytes s) (read_tree_of_program (bytes s))

-- the number and the place of a refusal
abbrev refused_by : ℕ → ℕ → Outcome
refused_by number place = refusal number place []

abbrev read : String → Outcome
read s = read_program (bytes s) 0

abbrev variable : String → Expr Named
variable w = IdExpr (bytes w) false

-- statements one after the other
abbrev all : List (Stmt Named) → Stmts Named
all [] = no_stmts
all (s ∷ l) = stmts s (all l)

abbrev block : List (Stmt Named) → Stmt Named
block l = Block (all l)

-- a program of one procedure p without parameters, whose body are these statements
abbrev body : List (Stmt Named) → Option (Program Named)
body l =
    some (record {
      types = [];
      taggers = [];
      functions = [];
      axioms = [];
      procedures = record { name = bytes "p"; parameters = []; pre = no_a_exprs; post = no_a_exprs; body = some (block l) } ∷ [];
    })

-- ---- statements

-- a variable with all its parts, and the statements after it as its body
var-full : program_of "procedure p() { var a: t autoinv (b) := c d() return }"
    ≡ body (VarDecl (record { name = bytes "a"; is_mutable = true; optional_type = some (bytes "t"); optional_auto_inv = some (variable "b") }) (some (variable "c"))
    (block (Call (bytes "d") [] ∷ Return ∷ [])) ∷ [])
unfolding computed
var-full = refl

-- two constants without parts, the second in the first's body
val-bare : program_of "procedure p() { val a val b }"
    ≡ body (VarDecl (record { name = bytes "a"; is_mutable = false; optional_type = none; optional_auto_inv = none }) none
    (block (VarDecl (record { name = bytes "b"; is_mutable = false; optional_type = none; optional_auto_inv = none }) none (block []) ∷ [])) ∷ [])
unfolding computed
val-bare = refl

-- in a nested block the body ends with the block
var-in-block : program_of "procedure p() { { var a } return }"
    ≡ body (block (VarDecl (record { name = bytes "a"; is_mutable = true; optional_type = none; optional_auto_inv = none }) none (block []) ∷ []) ∷ Return ∷ [])
unfolding computed
var-in-block = refl

assign-reinit : program_of "procedure p() { a := b reinit c, d }" ≡ body (Assign (bytes "a") (variable "b") ∷ Reinit (bytes "c" ∷ bytes "d" ∷ []) ∷ [])
unfolding computed
assign-reinit = refl

call-modes : program_of "procedure p() { q(out a, inout b, c) r() }"
    ≡ body (Call (bytes "q")
    (record { mode = Out; arg = variable "a" } ∷ record { mode = InOut; arg = variable "b" } ∷ record { mode = In; arg = variable "c" } ∷ [])
    ∷ Call (bytes "r") [] ∷ [])
unfolding computed
call-modes = refl

conditions : program_of "procedure p() { check a assume b reach c assert d probe e }"
    ≡ body (Check (variable "a") ∷ Assume (variable "b") ∷ Reach (variable "c") ∷ Assert (variable "d") ∷ Probe (variable "e") ∷ [])
unfolding computed
conditions = refl

for-all : program_of "procedure p() { forall a: t { return } }" ≡ body (AForall (bytes "a") (bytes "t") (block (Return ∷ [])) ∷ [])
unfolding computed
for-all = refl

choice : program_of "procedure p() { choose { check a } or { check b } choose { } }"
    ≡ body (Choose (all (block (Check (variable "a") ∷ []) ∷ block (Check (variable "b") ∷ []) ∷ [])) ∷ Choose (all (block [] ∷ [])) ∷ [])
unfolding computed
choice = refl

-- with an else part, with a chain of them, and without
conditional : program_of "procedure p() { if a { return } else if b { } else { exit } if c { } }"
    ≡ body (If (variable "a") (block (Return ∷ [])) (If (variable "b") (block []) (block (Exit none ∷ [])))
    ∷ If (variable "c") (block []) (block []) ∷ [])
unfolding computed
conditional = refl

case-by-case : program_of "procedure p() { if case a { return } case b { } if c { } else if case d { } }"
    ≡ body (IfCase (case (variable "a") (block (Return ∷ [])) (case (variable "b") (block []) no_cases))
    ∷ If (variable "c") (block []) (IfCase (case (variable "d") (block []) no_cases)) ∷ [])
unfolding computed
case-by-case = refl

-- invariants that are an expression and an assertion, and none
loops : program_of "procedure p() { loop invariant a invariant { check b } { return } loop { } }"
    ≡ body (Loop (a_exprs (a_expr (variable "a")) (a_exprs (AAssertion (block (Check (variable "b") ∷ []))) no_a_exprs)) (block (Return ∷ []))
    ∷ Loop no_a_exprs (block []) ∷ [])
unfolding computed
loops = refl

labels : program_of "procedure p() { a: { exit a } b: loop { exit } }"
    ≡ body (LabeledStmt (bytes "a") (block (Exit (some (bytes "a")) ∷ [])) ∷ LabeledStmt (bytes "b") (Loop no_a_exprs (block (Exit none ∷ []))) ∷ [])
unfolding computed
labels = refl

-- a name with a mark is no label of an exit; `return` without one is
exits : program_of "procedure p() { exit a := b exit c: { } exit d() exit return }"
    ≡ body (Exit none ∷ Assign (bytes "a") (variable "b") ∷ Exit none ∷ LabeledStmt (bytes "c") (block []) ∷ Exit none ∷ Call (bytes "d") []
    ∷ Exit (some (bytes "return")) ∷ [])
unfolding computed
exits = refl

-- a word with more bytes is no keyword; `out` in brackets is no mode
longer-words : program_of "procedure p() { returns := a if b { } elsex := c q((out) + 1, outx) }"
    ≡ body (Assign (bytes "returns") (variable "a") ∷ If (variable "b") (block []) (block []) ∷ Assign (bytes "elsex") (variable "c")
    ∷ Call (bytes "q") (record { mode = In; arg = OperatorExpr Plus (◌then◌ (variable "out") (◌then◌ (ILiteral 1) no_exprs)) } ∷ record { mode = In; arg = variable "outx" } ∷ []) ∷ [])
unfolding computed
longer-words = refl

-- three of each that may be repeated, in the text's order
threes : program_of "procedure p() { reinit a, b, c if case d { } case e { } case f { } loop invariant g invariant h invariant i { } choose { } or { } or { return } }"
    ≡ body (Reinit (bytes "a" ∷ bytes "b" ∷ bytes "c" ∷ [])
    ∷ IfCase (case (variable "d") (block []) (case (variable "e") (block []) (case (variable "f") (block []) no_cases)))
    ∷ Loop (a_exprs (a_expr (variable "g")) (a_exprs (a_expr (variable "h")) (a_exprs (a_expr (variable "i")) no_a_exprs))) (block [])
    ∷ Choose (all (block [] ∷ block [] ∷ block (Return ∷ []) ∷ [])) ∷ [])
unfolding computed
threes = refl

-- ---- declarations

-- each kind in the order of the text, the kinds in upstream's order
kinds : program_of "axiom a type t tagger g for u axiom b function f(): v type w procedure q() tagger h for x function k(): y procedure r()"
    ≡ some (record {
      types = bytes "t" ∷ bytes "w" ∷ [];
      taggers = record { name = bytes "g"; typ = bytes "u" } ∷ record { name = bytes "h"; typ = bytes "x" } ∷ [];
      functions =
          record { name = bytes "f"; parameters = []; result_type = bytes "v"; tag = none; definition = none }
          ∷ record { name = bytes "k"; parameters = []; result_type = bytes "y"; tag = none; definition = none }
          ∷ [];
      axioms = record { explains = []; expr = variable "a" } ∷ record { explains = []; expr = variable "b" } ∷ [];
      procedures =
          record { name = bytes "q"; parameters = []; pre = no_a_exprs; post = no_a_exprs; body = none }
          ∷ record { name = bytes "r"; parameters = []; pre = no_a_exprs; post = no_a_exprs; body = none }
          ∷ [];
    })
unfolding computed
kinds = refl

function-full : program_of "function f(injective a: t, b: u): v tag g when c when d { e }"
    ≡ some (record {
      types = [];
      taggers = [];
      functions =
          record {
            name = bytes "f";
            parameters =
                record { name = bytes "a"; injective = true; typ = bytes "t" } ∷ record { name = bytes "b"; injective = false; typ = bytes "u" } ∷ [];
            result_type = bytes "v";
            tag = some (bytes "g");
            definition = some (record { when = ◌then◌ (variable "c") (◌then◌ (variable "d") no_exprs); body = variable "e" });
          }
          ∷ [];
      axioms = [];
      procedures = [];
    })
unfolding computed
function-full = refl

-- a definition without `when`, and an axiom that explains
axiom-explains : program_of "function f(): v { e } axiom explains a, b c"
    ≡ some (record {
      types = [];
      taggers = [];
      functions =
          record { name = bytes "f"; parameters = []; result_type = bytes "v"; tag = none; definition = some (record { when = no_exprs; body = variable "e" }) } ∷ [];
      axioms = record { explains = bytes "a" ∷ bytes "b" ∷ []; expr = variable "c" } ∷ [];
      procedures = [];
    })
unfolding computed
axiom-explains = refl

procedure-full : program_of "procedure p(a: t, inout b: u autoinv c, out d: v) requires e requires { check f } ensures g { return }"
    ≡ some (record {
      types = [];
      taggers = [];
      functions = [];
      axioms = [];
      procedures =
          record {
            name = bytes "p";
            parameters =
                record { name = bytes "a"; mode = In; typ = bytes "t"; optional_auto_inv = none }
                ∷ record { name = bytes "b"; mode = InOut; typ = bytes "u"; optional_auto_inv = some (variable "c") }
                ∷ record { name = bytes "d"; mode = Out; typ = bytes "v"; optional_auto_inv = none }
                ∷ [];
            pre = a_exprs (a_expr (variable "e")) (a_exprs (AAssertion (block (Check (variable "f") ∷ []))) no_a_exprs);
            post = a_exprs (a_expr (variable "g")) no_a_exprs;
            body = some (block (Return ∷ []));
          }
          ∷ [];
    })
unfolding computed
procedure-full = refl

-- ---- refusals

-- a statement led by a name without a mark: the name's place, also at the text's end
no-mark : read "procedure p() { x }" ≡ refused_by 2 16
unfolding computed
no-mark = refl

no-mark-at-end : read "procedure p() { x" ≡ refused_by 2 16
unfolding computed
no-mark-at-end = refl

-- `:` is found in `:=`
sign-in-sign : read "procedure p() { var v autoinv w := 1 }" ≡ refused_by 2 33
unfolding computed
sign-in-sign = refl

-- what is no declaration
no-declaration : read "type a check" ≡ refused_by 2 7
unfolding computed
no-declaration = refl

-- a definition's body must follow `when`
when_alone : read "function f(): t when a" ≡ refused_by 13 22
unfolding computed
when_alone = refl

-- ---- depth: the four rules where no level is left, refused at their first token or kept nothing

abbrev pub none_left : String → Statements.Gallery
none_left s = Statements.gallery (bytes s) 20 0

block-deep : (none_left "{ }").block 0 ≡ refused 3 0
unfolding computed
block-deep = refl

loop-deep : (none_left "loop { }").loop 0 ≡ refused 3 0
unfolding computed
loop-deep = refl

if-cont-deep : (none_left "case a { }").if_cont 0 ≡ refused 3 0
unfolding computed
if-cont-deep = refl

stmt-word-deep : (none_left "return").stmt 0 ≡ refused 3 0
unfolding computed
stmt-word-deep = refl

stmt-mark-deep : (none_left "x := 1").stmt 0 ≡ refused 3 0
unfolding computed
stmt-mark-deep = refl

stmt-name-kept-nothing : (none_left "x }").stmt 0 ≡ Answer.none
unfolding computed
stmt-name-kept-nothing = refl

loop-kept-nothing : (none_left "loops").loop 0 ≡ Answer.none
unfolding computed
loop-kept-nothing = refl

if-cont-kept-nothing : (none_left "{ }").if_cont 0 ≡ Answer.none
unfolding computed
if-cont-kept-nothing = refl

-- P12 (REFERENCE, "Trials"): a long comment that is not closed
unclosed-comment : read_program (bytes "/* q") 5 ≡ refusal 12 0 (0 ∷ 0 ∷ 0 ∷ 0 ∷ 0 ∷ [])
unfolding computed
unclosed-comment = refl
