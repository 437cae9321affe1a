-- The row of a word, by the enum that it is decoded to.
use Prim.Native.Nat.{ℕ, zero, suc, ◌+◌, ◌-◌, ◌≤◌, ◌<◌}
use native.Mathlib.Nat.{le_of_suc-le-suc, not-suc-le-zero}
use native.Mathlib.Omega.{arith}
use mathlib.Core.Path.{◌≡◌, refl, sym, ap, subst, ◌∙◌}
use mathlib.Core.Bool.{Bool, true, false}
use mathlib.Core.List.{List, [], ◌∷◌}
use lib.ListN.{length, replicate}
use lib.Dec.{leb, ltb}
use borrow.Author.Tests.{le-leb, lt-leb, leb-true, ltb-true, ltb-false}
use Rattle.std.specs.Prelude.{Option, Some, None, is_some}
use Rattle.tree.specs.Clash.{impossible}
use Rattle.tree.specs.Kind.{Kind, bool, operator, mode, expr, stmt, aexpr, Turn, fits, misfit, row_at, tagged, by_row, second, expr_rows, stmt_rows, aexpr_rows}
use Rattle.tree.specs.Codes.{mode_code, operator_code, expr_code, stmt_code, aexpr_code, Decodes}
use Rattle.tree.specs.KindCodes.{as_kind}
use Rattle.tree.specs.Rows.{word_fields, OneWord}
use Rattle.tree.specs.Trees.{◌▸◌}
use Rattle.tree.specs.declared.kind.Kind.{Kind as KindCode}
use Rattle.tree.specs.declared.kind.Kind.TheVariants as kind
use Rattle.tree.specs.declared.word.Mode.{Mode}
use Rattle.tree.specs.declared.word.Mode.TheVariants as mode_of
use Rattle.tree.specs.declared.word.Operator.{Operator}
use Rattle.tree.specs.declared.word.Operator.TheVariants as operator_of
use Rattle.tree.specs.declared.word.ExprTag.{ExprTag}
use Rattle.tree.specs.declared.word.ExprTag.TheVariants as expr_of
use Rattle.tree.specs.declared.word.StmtTag.{StmtTag}
use Rattle.tree.specs.declared.word.StmtTag.TheVariants as stmt_of
use Rattle.tree.specs.declared.word.AExprTag.{AExprTag}
use Rattle.tree.specs.declared.word.AExprTag.TheVariants as aexpr_of

-- past the last row there is none
row_out : (rows : List (List Kind)) (i : ℕ) → length rows ≤ i → row_at rows i ≡ misfit 0
row_out [] i h = refl
row_out (r ∷ rs) zero h = absurd (not-suc-le-zero h)
row_out (r ∷ rs) (suc i) h = row_out rs i (le_of_suc-le-suc h)

-- a word past the last row's
tagged-high : (first : ℕ) (rows : List (List Kind)) (w : ℕ) → first + length rows ≤ w → misfit 0 ≡ tagged first rows w
tagged-high first rows w h = simp (le-leb first w (omega arith)) (sym (row_out rows (w - first) (omega arith)))

-- ---- a word's row, where an enum's words are those from the first on

module _ {E : Type 0} (code : E → ℕ) where
  -- these have the words from the first on
  abbrev pub InTurn : ℕ → List E → Type 0
  InTurn first [] = Unit {0}
  InTurn first (e ∷ es) = (code e ≡ first) × InTurn (suc first) es

  pub in-turn : (first : ℕ) (es : List E) → InTurn first es → (i : ℕ) → i < length es → (e : E) × (code e ≡ first + i)
  in-turn first [] t i h = absurd (not-suc-le-zero h)
  in-turn first (e ∷ es) t zero h = (e, omega (arith, t.0))
  in-turn first (e ∷ es) t (suc i) h = let r = in-turn (suc first) es t.1 i (le_of_suc-le-suc h) in (r.0, omega (arith, r.1))

  module _ (first : ℕ) (es : List E) (t : InTurn first es) (rows : List (List Kind)) (many : length rows ≡ length es) (fields : E → List Kind)
      (fit : (e : E) → tagged first rows (code e) ≡ fits (fields e)) where
    abbrev turn_by : Option E → Turn
    turn_by (Some e) = fits (fields e)
    turn_by None = misfit 0

    decoded-row : (r : Option E) (w : ℕ) → Decodes code w r → turn_by r ≡ tagged first rows w
    decoded-row (Some e) w d = let c : code e ≡ w = (d e).0 refl in sym (subst (λ (n : ℕ). tagged first rows n ≡ fits (fields e)) c (fit e))
    decoded-row None w d = by_first (leb first w) refl
      where
        by_last : (b : Bool) → first ≤ w → ltb (w - first) (length es) ≡ b → misfit 0 ≡ row_at rows (w - first)
        by_last true l h =
            let r = in-turn first es t (w - first) (ltb-true _ _ h) in
            let e : ◌≡◌ {A = Option E} None (Some r.0) = (d r.0).1 (omega (arith, r.1)) in
            impossible cc
        by_last false l h = sym (row_out rows (w - first) (omega (arith, ltb-false _ _ h)))

        by_first : (b : Bool) → leb first w ≡ b → misfit 0 ≡ tagged first rows w
        by_first true h = rw h (by_last (ltb (w - first) (length es)) (leb-true _ _ h) refl)
        by_first false h = rw h

-- ---- the rows of the kinds that have words of their own

all_modes : List Mode
all_modes = mode_of.In ∷ mode_of.InOut ∷ mode_of.Out ∷ []

fits-mode : (e : Mode) → tagged 1 (replicate 3 []) (mode_code e) ≡ fits []
fits-mode mode_of.In = refl
fits-mode mode_of.InOut = refl
fits-mode mode_of.Out = refl

pub mode-row : (r : Option Mode) (w : ℕ) → Decodes mode_code w r → second (is_some r) 0 ≡ by_row mode w
unfolding all_modes
mode-row (Some e) w d = decoded-row mode_code 1 all_modes (refl ▸ refl ▸ refl ▸ tt) (replicate 3 []) refl (λ e. []) fits-mode (Some e) w d
mode-row None w d = decoded-row mode_code 1 all_modes (refl ▸ refl ▸ refl ▸ tt) (replicate 3 []) refl (λ e. []) fits-mode None w d

all_operators : List Operator
all_operators = operator_of.IfThenElse ∷ operator_of.Equiv ∷ operator_of.LogicalImp ∷ operator_of.LogicalAnd ∷ operator_of.LogicalOr ∷ operator_of.Eq ∷ operator_of.Neq ∷ operator_of.Less ∷ operator_of.AtMost ∷ operator_of.Plus ∷ operator_of.Minus ∷ operator_of.Times ∷ operator_of.Div ∷ operator_of.Mod ∷ operator_of.LogicalNot ∷ operator_of.UnaryMinus ∷ []

fits-operator : (e : Operator) → tagged 1 (replicate 16 []) (operator_code e) ≡ fits []
fits-operator operator_of.IfThenElse = refl
fits-operator operator_of.Equiv = refl
fits-operator operator_of.LogicalImp = refl
fits-operator operator_of.LogicalAnd = refl
fits-operator operator_of.LogicalOr = refl
fits-operator operator_of.Eq = refl
fits-operator operator_of.Neq = refl
fits-operator operator_of.Less = refl
fits-operator operator_of.AtMost = refl
fits-operator operator_of.Plus = refl
fits-operator operator_of.Minus = refl
fits-operator operator_of.Times = refl
fits-operator operator_of.Div = refl
fits-operator operator_of.Mod = refl
fits-operator operator_of.LogicalNot = refl
fits-operator operator_of.UnaryMinus = refl

pub operator-row : (r : Option Operator) (w : ℕ) → Decodes operator_code w r → second (is_some r) 0 ≡ by_row operator w
unfolding all_operators
operator-row (Some e) w d = decoded-row operator_code 1 all_operators (refl ▸ refl ▸ refl ▸ refl ▸ refl ▸ refl ▸ refl ▸ refl ▸ refl ▸ refl ▸ refl ▸ refl ▸ refl ▸ refl ▸ refl ▸ refl ▸ tt) (replicate 16 []) refl (λ e. []) fits-operator (Some e) w d
operator-row None w d = decoded-row operator_code 1 all_operators (refl ▸ refl ▸ refl ▸ refl ▸ refl ▸ refl ▸ refl ▸ refl ▸ refl ▸ refl ▸ refl ▸ refl ▸ refl ▸ refl ▸ refl ▸ refl ▸ tt) (replicate 16 []) refl (λ e. []) fits-operator None w d

all_exprs : List ExprTag
all_exprs = expr_of.BLiteral ∷ expr_of.ILiteral ∷ expr_of.CustomLiteral ∷ expr_of.IdExpr ∷ expr_of.OperatorExpr ∷ expr_of.FunctionCallExpr ∷ expr_of.LabeledExpr ∷ expr_of.LetExpr ∷ expr_of.QuantifierExpr ∷ expr_of.ClosureExpr ∷ []

fits-expr : (e : ExprTag) → tagged 1 expr_rows (expr_code e) ≡ fits (word_fields expr (expr_code e))
fits-expr expr_of.BLiteral = refl
fits-expr expr_of.ILiteral = refl
fits-expr expr_of.CustomLiteral = refl
fits-expr expr_of.IdExpr = refl
fits-expr expr_of.OperatorExpr = refl
fits-expr expr_of.FunctionCallExpr = refl
fits-expr expr_of.LabeledExpr = refl
fits-expr expr_of.LetExpr = refl
fits-expr expr_of.QuantifierExpr = refl
fits-expr expr_of.ClosureExpr = refl

pub expr-row : (e : ExprTag) (w : ℕ) → Decodes expr_code w (Some e) → fits (word_fields expr (expr_code e)) ≡ by_row expr w
unfolding all_exprs
expr-row e w d = decoded-row expr_code 1 all_exprs (refl ▸ refl ▸ refl ▸ refl ▸ refl ▸ refl ▸ refl ▸ refl ▸ refl ▸ refl ▸ tt) expr_rows refl (λ e. word_fields expr (expr_code e)) fits-expr (Some e) w d

pub expr-none : (w : ℕ) → Decodes expr_code w None → misfit 0 ≡ by_row expr w
unfolding all_exprs
expr-none w d = decoded-row expr_code 1 all_exprs (refl ▸ refl ▸ refl ▸ refl ▸ refl ▸ refl ▸ refl ▸ refl ▸ refl ▸ refl ▸ tt) expr_rows refl (λ e. word_fields expr (expr_code e)) fits-expr None w d

all_stmts : List StmtTag
all_stmts = stmt_of.VarDecl ∷ stmt_of.Assign ∷ stmt_of.Reinit ∷ stmt_of.Block ∷ stmt_of.Call ∷ stmt_of.Check ∷ stmt_of.Assume ∷ stmt_of.Reach ∷ stmt_of.Assert ∷ stmt_of.AForall ∷ stmt_of.Choose ∷ stmt_of.If ∷ stmt_of.IfCase ∷ stmt_of.Loop ∷ stmt_of.LabeledStmt ∷ stmt_of.Exit ∷ stmt_of.Return ∷ stmt_of.Probe ∷ []

fits-stmt : (e : StmtTag) → tagged 21 stmt_rows (stmt_code e) ≡ fits (word_fields stmt (stmt_code e))
fits-stmt stmt_of.VarDecl = refl
fits-stmt stmt_of.Assign = refl
fits-stmt stmt_of.Reinit = refl
fits-stmt stmt_of.Block = refl
fits-stmt stmt_of.Call = refl
fits-stmt stmt_of.Check = refl
fits-stmt stmt_of.Assume = refl
fits-stmt stmt_of.Reach = refl
fits-stmt stmt_of.Assert = refl
fits-stmt stmt_of.AForall = refl
fits-stmt stmt_of.Choose = refl
fits-stmt stmt_of.If = refl
fits-stmt stmt_of.IfCase = refl
fits-stmt stmt_of.Loop = refl
fits-stmt stmt_of.LabeledStmt = refl
fits-stmt stmt_of.Exit = refl
fits-stmt stmt_of.Return = refl
fits-stmt stmt_of.Probe = refl

pub stmt-row : (e : StmtTag) (w : ℕ) → Decodes stmt_code w (Some e) → fits (word_fields stmt (stmt_code e)) ≡ by_row stmt w
unfolding all_stmts
stmt-row e w d = decoded-row stmt_code 21 all_stmts (refl ▸ refl ▸ refl ▸ refl ▸ refl ▸ refl ▸ refl ▸ refl ▸ refl ▸ refl ▸ refl ▸ refl ▸ refl ▸ refl ▸ refl ▸ refl ▸ refl ▸ refl ▸ tt) stmt_rows refl (λ e. word_fields stmt (stmt_code e)) fits-stmt (Some e) w d

pub stmt-none : (w : ℕ) → Decodes stmt_code w None → misfit 0 ≡ by_row stmt w
unfolding all_stmts
stmt-none w d = decoded-row stmt_code 21 all_stmts (refl ▸ refl ▸ refl ▸ refl ▸ refl ▸ refl ▸ refl ▸ refl ▸ refl ▸ refl ▸ refl ▸ refl ▸ refl ▸ refl ▸ refl ▸ refl ▸ refl ▸ refl ▸ tt) stmt_rows refl (λ e. word_fields stmt (stmt_code e)) fits-stmt None w d

all_aexprs : List AExprTag
all_aexprs = aexpr_of.AExpr ∷ aexpr_of.AAssertion ∷ []

fits-aexpr : (e : AExprTag) → tagged 1 aexpr_rows (aexpr_code e) ≡ fits (word_fields aexpr (aexpr_code e))
fits-aexpr aexpr_of.AExpr = refl
fits-aexpr aexpr_of.AAssertion = refl

pub aexpr-row : (e : AExprTag) (w : ℕ) → Decodes aexpr_code w (Some e) → fits (word_fields aexpr (aexpr_code e)) ≡ by_row aexpr w
unfolding all_aexprs
aexpr-row e w d = decoded-row aexpr_code 1 all_aexprs (refl ▸ refl ▸ tt) aexpr_rows refl (λ e. word_fields aexpr (aexpr_code e)) fits-aexpr (Some e) w d

pub aexpr-none : (w : ℕ) → Decodes aexpr_code w None → misfit 0 ≡ by_row aexpr w
unfolding all_aexprs
aexpr-none w d = decoded-row aexpr_code 1 all_aexprs (refl ▸ refl ▸ tt) aexpr_rows refl (λ e. word_fields aexpr (aexpr_code e)) fits-aexpr None w d

-- a Bool's
pub bool-row : (w : ℕ) → second (leb w 1) 0 ≡ by_row bool w
bool-row zero = refl
bool-row (suc zero) = refl
bool-row (suc (suc w)) =
    let n : 2 ≤ suc (suc w) = omega arith in
    let l : length {A = List Kind} (replicate 2 []) ≡ 2 = refl in
    ap (λ (b : Bool). second b 0) (lt-leb (suc (suc w)) 1 n) ∙ tagged-high 0 (replicate 2 []) (suc (suc w)) (omega (arith, l))

-- of one word are all but a name and a natural
pub one-word : (k : KindCode) → (k ≡ kind.Name → ⊥) → (k ≡ kind.Natural → ⊥) → OneWord (as_kind k)
one-word kind.Bool n m = λ inside w. refl
one-word kind.Operator n m = λ inside w. refl
one-word kind.Mode n m = λ inside w. refl
one-word kind.Expr n m = λ inside w. refl
one-word kind.Stmt n m = λ inside w. refl
one-word kind.AExpr n m = λ inside w. refl
one-word kind.OptionName n m = λ inside w. refl
one-word kind.OptionExpr n m = λ inside w. refl
one-word kind.OptionStmt n m = λ inside w. refl
one-word kind.OptionDefinition n m = λ inside w. refl
one-word kind.Names n m = λ inside w. refl
one-word kind.Exprs n m = λ inside w. refl
one-word kind.Bindings n m = λ inside w. refl
one-word kind.Patterns n m = λ inside w. refl
one-word kind.ClosureBindings n m = λ inside w. refl
one-word kind.ClosureProperties n m = λ inside w. refl
one-word kind.Stmts n m = λ inside w. refl
one-word kind.CallArguments n m = λ inside w. refl
one-word kind.Cases n m = λ inside w. refl
one-word kind.AExprs n m = λ inside w. refl
one-word kind.Taggers n m = λ inside w. refl
one-word kind.FParameters n m = λ inside w. refl
one-word kind.Functions n m = λ inside w. refl
one-word kind.Axioms n m = λ inside w. refl
one-word kind.PParameters n m = λ inside w. refl
one-word kind.Procedures n m = λ inside w. refl
one-word kind.Name n m = absurd (n refl)
one-word kind.Natural n m = absurd (m refl)
