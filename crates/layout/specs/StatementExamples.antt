-- Closed examples, by computation: the print of each form of a statement, at indent 4 and by an indent step of 3, with another name in every
-- place.
use Rattle.std.specs.Prelude.{◌≡◌, refl, true, false, List, [], ◌∷◌}
use Prim.Native.String.{String}
use Rattle.std.proofs.Math.Option.{none, some}
use Rattle.lexing.specs.Bytes.{bytes}
use Rattle.tree.specs.Ast.{In, InOut, Out, Expr, IdExpr, LogicalAnd}
use Rattle.tree.specs.Ast.{Stmt, VarDecl, Assign, Reinit, Block, Call, Check, Assume, Reach, Assert, AForall, Choose, If, IfCase, Loop, LabeledStmt, Exit, Return, Probe}
use Rattle.tree.specs.Ast.{Stmts, no_stmts, stmts, no_cases, case, a_expr, AAssertion, no_a_exprs, a_exprs}
use Rattle.layout.specs.Examples.{computed, two}
use Rattle.layout.specs.Statements.{separated, shown, StatementList, choices, case_list, aexpr, PrintAExprs, Statement}

-- `unfolding statements-computed` opens the prints of statements too
unfoldable pub statements-computed : Unit {0}
unfolding computed separated shown StatementList choices case_list aexpr PrintAExprs
statements-computed = tt

-- the print with the initial indent, no `}` following, and where one follows
abbrev Prints : Stmt String → String → Type 0
Prints s text = Statement bytes 3 s 4 false false [] ≡ bytes text

abbrev LastPrints : Stmt String → String → Type 0
LastPrints s text = Statement bytes 3 s 4 true false [] ≡ bytes text

abbrev pub v : String → Expr String
v n = IdExpr n false

abbrev pub list : List (Stmt String) → Stmts String
list [] = no_stmts
list (s ∷ ss) = stmts s (list ss)

abbrev pub block : List (Stmt String) → Stmt String
block ss = Block (list ss)

-- an operator that breaks the line on broken lines
abbrev pub both : Expr String
both = two LogicalAnd (v "a") (v "b")

abbrev exit : String → Stmt String
exit n = Exit (some n)

-- ---- variables

abbrev var-a : Stmt String → Stmt String
var-a body = VarDecl (record { name = "a"; is_mutable = true; optional_type = some "b"; optional_auto_inv = some (v "c") }) (some (v "d")) body

abbrev val-a : Stmt String → Stmt String
val-a body = VarDecl (record { name = "a"; is_mutable = false; optional_type = none; optional_auto_inv = none }) none body

-- braces of its own where no `}` follows, else none
variable : Prints (var-a (block (Assign "e" (v "f") ∷ [])))
    "    {\n       var a: b autoinv c := d\n       e := f\n    }\n"
unfolding statements-computed
variable = refl

last-variable : LastPrints (var-a (block (Assign "e" (v "f") ∷ exit "g" ∷ [])))
    "    var a: b autoinv c := d\n    e := f\n    exit g\n"
unfolding statements-computed
last-variable = refl

-- a body that is no block
bare-body : LastPrints (val-a (exit "b")) "    val a\n    exit b\n"
unfolding statements-computed
bare-body = refl

nested-body : LastPrints (val-a (var-a (exit "e"))) "    val a\n    var a: b autoinv c := d\n    exit e\n"
unfolding statements-computed
nested-body = refl

-- the braces of the outer one serve both
nested-variables : Prints (val-a (var-a (exit "e"))) "    {\n       val a\n       var a: b autoinv c := d\n       exit e\n    }\n"
unfolding statements-computed
nested-variables = refl

-- in a list: the last statement's `}` is the list's, another's its own
not_last : Prints (block (val-a (block []) ∷ exit "b" ∷ val-a (exit "c") ∷ []))
    "    {\n       {\n          val a\n       }\n       exit b\n       val a\n       exit c\n    }\n"
unfolding statements-computed
not_last = refl

-- ---- statements without statements in them

assign : Prints (Assign "a" (v "b")) "    a := b\n"
unfolding statements-computed
assign = refl

reinit : Prints (Reinit ("a" ∷ "b" ∷ "c" ∷ [])) "    reinit a, b, c\n"
unfolding statements-computed
reinit = refl

no-reinit : Prints (Reinit []) "    reinit \n"
unfolding statements-computed
no-reinit = refl

call : Prints (Call "a" (record { mode = Out; arg = v "b" } ∷ record { mode = In; arg = v "c" } ∷ record { mode = InOut; arg = v "d" } ∷ []))
    "    a(out b, c, inout d)\n"
unfolding statements-computed
call = refl

no_arguments : Prints (Call "a" []) "    a()\n"
unfolding statements-computed
no_arguments = refl

check : Prints (Check (v "a")) "    check a\n"
unfolding statements-computed
check = refl

assume : Prints (Assume (v "a")) "    assume a\n"
unfolding statements-computed
assume = refl

reach : Prints (Reach (v "a")) "    reach a\n"
unfolding statements-computed
reach = refl

assert : Prints (Assert (v "a")) "    assert a\n"
unfolding statements-computed
assert = refl

probe : Prints (Probe (v "a")) "    probe a\n"
unfolding statements-computed
probe = refl

labelled-exit : Prints (exit "a") "    exit a\n"
unfolding statements-computed
labelled-exit = refl

bare-exit : Prints (Exit none) "    exit\n"
unfolding statements-computed
bare-exit = refl

return : Prints Return "    return\n"
unfolding statements-computed
return = refl

-- ---- statements in statements

empty_block : Prints (block []) "    {\n    }\n"
unfolding statements-computed
empty_block = refl

blocks : Prints (block (exit "a" ∷ block (exit "b" ∷ []) ∷ exit "c" ∷ [])) "    {\n       exit a\n       {\n          exit b\n       }\n       exit c\n    }\n"
unfolding statements-computed
blocks = refl

for-all : Prints (AForall "a" "b" (block (exit "c" ∷ exit "d" ∷ []))) "    forall a: b {\n       exit c\n       exit d\n    }\n"
unfolding statements-computed
for-all = refl

-- a body that is no block gets its braces; a variable in it has braces of its own
for-all-variable : Prints (AForall "e" "f" (val-a (exit "b"))) "    forall e: f {\n       {\n          val a\n          exit b\n       }\n    }\n"
unfolding statements-computed
for-all-variable = refl

choose : Prints (Choose (list (block (exit "a" ∷ exit "b" ∷ []) ∷ exit "c" ∷ block [] ∷ [])))
    "    choose {\n       exit a\n       exit b\n    } or {\n       exit c\n    } or {\n    }\n"
unfolding statements-computed
choose = refl

no-branches : Prints (Choose no_stmts) "    choose { }\n"
unfolding statements-computed
no-branches = refl

-- an else part that is an empty block is left out
if-then : Prints (If (v "a") (block (exit "b" ∷ [])) (block [])) "    if a {\n       exit b\n    }\n"
unfolding statements-computed
if-then = refl

if-else : Prints (If (v "a") (exit "b") (block (exit "c" ∷ exit "d" ∷ []))) "    if a {\n       exit b\n    } else {\n       exit c\n       exit d\n    }\n"
unfolding statements-computed
if-else = refl

-- an else part that is no block gets its braces
plain-else : Prints (If (v "a") (exit "b") (exit "c")) "    if a {\n       exit b\n    } else {\n       exit c\n    }\n"
unfolding statements-computed
plain-else = refl

-- a conditional after `else` stays on the line
else-if : Prints (If (v "a") (exit "b") (If (v "c") (exit "d") (IfCase (case (v "e") (exit "f") no_cases))))
    "    if a {\n       exit b\n    } else if c {\n       exit d\n    } else if case e {\n       exit f\n    }\n"
unfolding statements-computed
else-if = refl

else-loop : Prints (If (v "a") (exit "b") (Loop no_a_exprs (exit "c"))) "    if a {\n       exit b\n    } else {\n       loop {\n          exit c\n       }\n    }\n"
unfolding statements-computed
else-loop = refl

-- a block of one empty block is no empty block
else-block : Prints (If (v "a") (exit "b") (block (block [] ∷ []))) "    if a {\n       exit b\n    } else {\n       {\n       }\n    }\n"
unfolding statements-computed
else-block = refl

if-cases : Prints (IfCase (case (v "a") (block (exit "b" ∷ exit "c" ∷ [])) (case (v "d") (exit "e") (case (v "f") (block []) no_cases))))
    "    if case a {\n       exit b\n       exit c\n    } case d {\n       exit e\n    } case f {\n    }\n"
unfolding statements-computed
if-cases = refl

-- upstream prints the indent inside the line
no_cases_lem : Prints (IfCase no_cases) "    if     case false {\n    }\n"
unfolding statements-computed
no_cases_lem = refl

bare-loop : Prints (Loop no_a_exprs (block (exit "a" ∷ []))) "    loop {\n       exit a\n    }\n"
unfolding statements-computed
bare-loop = refl

-- any statement may stand as an assertion
loop : Prints
    (Loop (a_exprs (a_expr (v "a")) (a_exprs (AAssertion (Check (v "b"))) (a_exprs (AAssertion (block (exit "c" ∷ []))) no_a_exprs))) (exit "d"))
    "    loop\n       invariant a\n       invariant check b\n       invariant {\n          exit c\n       }\n    {\n       exit d\n    }\n"
unfolding statements-computed
loop = refl

-- a variable as an assertion has braces of its own
loop-variable : Prints (Loop (a_exprs (AAssertion (val-a (exit "b"))) no_a_exprs) (block []))
    "    loop\n       invariant {\n          val a\n          exit b\n       }\n    {\n    }\n"
unfolding statements-computed
loop-variable = refl

-- a loop after a label stays on the line
labelled-loop : Prints (LabeledStmt "a" (Loop no_a_exprs (exit "b"))) "    a: loop {\n       exit b\n    }\n"
unfolding statements-computed
labelled-loop = refl

labelled-block : Prints (LabeledStmt "a" (block (exit "b" ∷ exit "c" ∷ []))) "    a: {\n       exit b\n       exit c\n    }\n"
unfolding statements-computed
labelled-block = refl

labelled-if : Prints (LabeledStmt "a" (If (v "b") (exit "c") (block []))) "    a: {\n       if b {\n          exit c\n       }\n    }\n"
unfolding statements-computed
labelled-if = refl

labelled-cases : Prints (LabeledStmt "a" (IfCase (case (v "b") (exit "c") no_cases))) "    a: {\n       if case b {\n          exit c\n       }\n    }\n"
unfolding statements-computed
labelled-cases = refl

labelled-other : Prints (LabeledStmt "a" (LabeledStmt "b" (exit "c"))) "    a: {\n       b: {\n          exit c\n       }\n    }\n"
unfolding statements-computed
labelled-other = refl

-- expressions in statements stay on their line
on-their-line : Prints
    (block
    (Assign "c" both
    ∷ Check both
    ∷ Call "p" (record { mode = Out; arg = both } ∷ [])
    ∷ If both (block []) (block [])
    ∷ IfCase (case both (block []) no_cases)
    ∷ Loop (a_exprs (a_expr both) no_a_exprs) (block [])
    ∷ VarDecl (record { name = "d"; is_mutable = true; optional_type = none; optional_auto_inv = some both }) (some both) (block [])
    ∷ []))
    "    {\n       c := a && b\n       check a && b\n       p(out a && b)\n       if a && b {\n       }\n       if case a && b {\n       }\n       loop\n          invariant a && b\n       {\n       }\n       var d autoinv a && b := a && b\n    }\n"
unfolding statements-computed
on-their-line = refl

-- by upstream's step
two-spaces : Statement bytes 2 (block (block (exit "a" ∷ []) ∷ [])) 1 false false [] ≡ bytes " {\n   {\n     exit a\n   }\n }\n"
unfolding statements-computed
two-spaces = refl

-- with `omit_initial_indent`
no-first-indent : Statement bytes 3 (block (exit "a" ∷ [])) 4 false true [] ≡ bytes "{\n       exit a\n    }\n"
unfolding statements-computed
no-first-indent = refl
