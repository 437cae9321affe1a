-- The word that begins each constructor of Expr, Stmt and AExpr, in datatype order, and the words before and after what an option and a
-- sequence hold (REFERENCE, "The tree words").
use Rattle.std.specs.Prelude.{ℕ}

-- before the content of an option and each item of a sequence; where there is no content, and after the last item
abbrev pub more : ℕ
more = 1

abbrev pub no_more : ℕ
no_more = 0

-- Expr
abbrev pub b_literal_tag : ℕ
b_literal_tag = 1

abbrev pub i_literal_tag : ℕ
i_literal_tag = 2

abbrev pub custom_literal_tag : ℕ
custom_literal_tag = 3

abbrev pub id_expr_tag : ℕ
id_expr_tag = 4

abbrev pub operator_expr_tag : ℕ
operator_expr_tag = 5

abbrev pub function_call_expr_tag : ℕ
function_call_expr_tag = 6

abbrev pub labeled_expr_tag : ℕ
labeled_expr_tag = 7

abbrev pub let_expr_tag : ℕ
let_expr_tag = 8

abbrev pub quantifier_expr_tag : ℕ
quantifier_expr_tag = 9

abbrev pub closure_expr_tag : ℕ
closure_expr_tag = 10

-- Stmt
abbrev pub var_decl_tag : ℕ
var_decl_tag = 21

abbrev pub assign_tag : ℕ
assign_tag = 22

abbrev pub reinit_tag : ℕ
reinit_tag = 23

abbrev pub block_tag : ℕ
block_tag = 24

abbrev pub call_tag : ℕ
call_tag = 25

abbrev pub check_tag : ℕ
check_tag = 26

abbrev pub assume_tag : ℕ
assume_tag = 27

abbrev pub reach_tag : ℕ
reach_tag = 28

abbrev pub assert_tag : ℕ
assert_tag = 29

abbrev pub a_forall_tag : ℕ
a_forall_tag = 30

abbrev pub choose_tag : ℕ
choose_tag = 31

abbrev pub if_tag : ℕ
if_tag = 32

abbrev pub if_case_tag : ℕ
if_case_tag = 33

abbrev pub loop_tag : ℕ
loop_tag = 34

abbrev pub labeled_stmt_tag : ℕ
labeled_stmt_tag = 35

abbrev pub exit_tag : ℕ
exit_tag = 36

abbrev pub return_tag : ℕ
return_tag = 37

abbrev pub probe_tag : ℕ
probe_tag = 38

-- AExpr
abbrev pub a_expr_tag : ℕ
a_expr_tag = 1

abbrev pub a_assertion_tag : ℕ
a_assertion_tag = 2
