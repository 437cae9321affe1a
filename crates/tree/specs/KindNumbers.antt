-- The numbers of the kinds that may be expected at a word (REFERENCE, "The outline of a table").
use Rattle.std.specs.Prelude.{ℕ, List, [], ◌∷◌, ◌++◌, get_or}
use Rattle.tree.specs.Kind.{Kind, bool, operator, mode, natural, low, name, length_from, expr, stmt, aexpr, option, seq}
use Rattle.tree.specs.Kind.{Item, of_name, of_expr, of_binding, of_pattern, of_closure_binding, of_closure_property, of_stmt, of_call_argument, of_case, of_a_expr, of_tagger, of_f_parameter, of_function, of_axiom, of_p_parameter, of_procedure}
use Rattle.tree.specs.Kind.{Content, a_name, an_expr, a_stmt, a_definition}

-- a name's and a natural's second word
abbrev pub second_word : ℕ
second_word = 0

abbrev pub bool_kind : ℕ
bool_kind = 1

abbrev pub operator_kind : ℕ
operator_kind = 2

abbrev pub mode_kind : ℕ
mode_kind = 3

abbrev pub expr_kind : ℕ
expr_kind = 4

abbrev pub stmt_kind : ℕ
stmt_kind = 5

abbrev pub aexpr_kind : ℕ
aexpr_kind = 6

abbrev pub option_name_kind : ℕ
option_name_kind = 7

abbrev pub option_expr_kind : ℕ
option_expr_kind = 8

abbrev pub option_stmt_kind : ℕ
option_stmt_kind = 9

abbrev pub option_definition_kind : ℕ
option_definition_kind = 10

abbrev pub names_kind : ℕ
names_kind = 11

abbrev pub exprs_kind : ℕ
exprs_kind = 12

abbrev pub bindings_kind : ℕ
bindings_kind = 13

abbrev pub patterns_kind : ℕ
patterns_kind = 14

abbrev pub closure_bindings_kind : ℕ
closure_bindings_kind = 15

abbrev pub closure_properties_kind : ℕ
closure_properties_kind = 16

abbrev pub stmts_kind : ℕ
stmts_kind = 17

abbrev pub call_arguments_kind : ℕ
call_arguments_kind = 18

abbrev pub cases_kind : ℕ
cases_kind = 19

abbrev pub aexprs_kind : ℕ
aexprs_kind = 20

abbrev pub taggers_kind : ℕ
taggers_kind = 21

abbrev pub fparameters_kind : ℕ
fparameters_kind = 22

abbrev pub functions_kind : ℕ
functions_kind = 23

abbrev pub axioms_kind : ℕ
axioms_kind = 24

abbrev pub pparameters_kind : ℕ
pparameters_kind = 25

abbrev pub procedures_kind : ℕ
procedures_kind = 26

abbrev pub name_kind : ℕ
name_kind = 27

abbrev pub natural_kind : ℕ
natural_kind = 28

-- the number of an option's kind, and of a sequence's
abbrev pub content_number : Content → ℕ
content_number a_name = option_name_kind
content_number an_expr = option_expr_kind
content_number a_stmt = option_stmt_kind
content_number a_definition = option_definition_kind

abbrev pub item_number : Item → ℕ
item_number of_name = names_kind
item_number of_expr = exprs_kind
item_number of_binding = bindings_kind
item_number of_pattern = patterns_kind
item_number of_closure_binding = closure_bindings_kind
item_number of_closure_property = closure_properties_kind
item_number of_stmt = stmts_kind
item_number of_call_argument = call_arguments_kind
item_number of_case = cases_kind
item_number of_a_expr = aexprs_kind
item_number of_tagger = taggers_kind
item_number of_f_parameter = fparameters_kind
item_number of_function = functions_kind
item_number of_axiom = axioms_kind
item_number of_p_parameter = pparameters_kind
item_number of_procedure = procedures_kind

-- the number of a kind
abbrev pub kind_number : Kind → ℕ
kind_number bool = bool_kind
kind_number operator = operator_kind
kind_number mode = mode_kind
kind_number natural = natural_kind
kind_number low = second_word
kind_number name = name_kind
kind_number (length_from s) = second_word
kind_number expr = expr_kind
kind_number stmt = stmt_kind
kind_number aexpr = aexpr_kind
kind_number (option c) = content_number c
kind_number (seq i) = item_number i

-- ---- the kind with a number

-- the options and sequences: the kinds from 7 to 26
abbrev pub content_kinds : List Kind
content_kinds =
    option a_name ∷ option an_expr ∷ option a_stmt ∷ option a_definition
    ∷ seq of_name ∷ seq of_expr ∷ seq of_binding ∷ seq of_pattern ∷ seq of_closure_binding ∷ seq of_closure_property
    ∷ seq of_stmt ∷ seq of_call_argument ∷ seq of_case ∷ seq of_a_expr
    ∷ seq of_tagger ∷ seq of_f_parameter ∷ seq of_function ∷ seq of_axiom ∷ seq of_p_parameter ∷ seq of_procedure ∷ []

-- the kind with a number; 0 stands for no kind and is taken for `bool`, and 29 to 31 are taken for 28
abbrev pub kinds : List Kind
kinds = (bool ∷ bool ∷ operator ∷ mode ∷ expr ∷ stmt ∷ aexpr ∷ []) ++ (content_kinds ++ (name ∷ natural ∷ natural ∷ natural ∷ natural ∷ []))

-- the kind with that number
unfoldable pub kind_of : ℕ → Kind
kind_of n = get_or kinds n bool
