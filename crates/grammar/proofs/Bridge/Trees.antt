-- Trees over a text that are no operator trees stay so under every operator and in every call.
use Rattle.std.specs.Prelude.{ℕ, ◌≡◌, refl, List, true}
use Rattle.tree.specs.Ast.{Span, Expr, BLiteral, ILiteral, CustomLiteral, IdExpr, OperatorExpr, FunctionCallExpr, LabeledExpr, LetExpr}
use Rattle.tree.specs.Ast.{QuantifierExpr, ClosureExpr, Exprs, no_exprs, ◌then◌, Operator}
use Rattle.tree.specs.Resolve as resolved
use Rattle.tree.specs.Resolve.{map_exprs, resolve_expr}
use Rattle.grammar.specs.Grammar.{Tree, Build, straight, swapped, build, single}
use Rattle.grammar.specs.OperatorTrees.{Operators, AllOperators, OperatorTree}

-- a list of trees over a text, with each name as its bytes
abbrev pub resolve_exprs : List ℕ → Exprs Span → Exprs (List ℕ)
resolve_exprs text = map_exprs (resolved.bytes_of text)

-- a list of operator trees
abbrev pub OperatorTrees : Exprs (List ℕ) → Type 0
OperatorTrees = AllOperators (λ w. true) (λ op u. true)

-- no operator tree over the text
abbrev pub Bad : List ℕ → Expr Span → Type 0
Bad text e = OperatorTree (resolve_expr text e) → ⊥

-- a list with a tree that is no operator tree
abbrev pub BadList : List ℕ → Exprs Span → Type 0
BadList text es = OperatorTrees (resolve_exprs text es) → ⊥

-- at most two operands
abbrev pub Few : Exprs (List ℕ) → Type 0
Few no_exprs = Unit {0}
Few (◌then◌ t no_exprs) = Unit {0}
Few (◌then◌ t (◌then◌ u no_exprs)) = Unit {0}
Few (◌then◌ t (◌then◌ u (◌then◌ v es))) = ⊥

-- the root of an operator tree
abbrev pub Root : Tree → Type 0
Root (BLiteral b) = Unit {0}
Root (ILiteral n) = Unit {0}
Root (CustomLiteral s t) = ⊥
Root (IdExpr w o) = Unit {0}
Root (OperatorExpr op es) = Few es
Root (FunctionCallExpr w es) = Unit {0}
Root (LabeledExpr w t) = ⊥
Root (LetExpr w y t u) = ⊥
Root (QuantifierExpr u bs ps t) = ⊥
Root (ClosureExpr bs w y ps) = ⊥

-- an operator tree has such a root
pub root : {t : Tree} → OperatorTree t → Root t
root Operators.boolean = tt
root Operators.natural = tt
root (Operators.variable n) = tt
root (Operators.call n x) = tt
root (Operators.unary n x) = tt
root (Operators.binary n x y f) = tt

binary-inv : {op : Operator} {t u : Tree} → OperatorTree (OperatorExpr op (◌then◌ t (◌then◌ u no_exprs))) → OperatorTree t × OperatorTree u
binary-inv (Operators.binary n x y f) = (x, y)

unary-inv : {op : Operator} {t : Tree} → OperatorTree (OperatorExpr op (◌then◌ t no_exprs)) → OperatorTree t
unary-inv (Operators.unary n x) = x

call-inv : {w : List ℕ} {es : Exprs (List ℕ)} → OperatorTree (FunctionCallExpr w es) → OperatorTrees es
call-inv (Operators.call n x) = x

next-inv : {t : Tree} {es : Exprs (List ℕ)} → OperatorTrees (◌then◌ t es) → OperatorTree t × OperatorTrees es
next-inv (AllOperators.next x y) = (x, y)

module _ (text : List ℕ) where
  -- names as bytes before or after a tree is built
  pub resolve-build : (b : Build) (e e' : Expr Span) → build b (resolve_expr text e) (resolve_expr text e') ≡ resolve_expr text (build b e e')
  resolve-build (straight op) e e' = refl
  resolve-build (swapped op) e e' = refl

  -- a bad operand, on the left or the right, makes a bad tree
  pub bad-left : (b : Build) (e e' : Expr Span) → Bad text e → Bad text (build b e e')
  bad-left (straight op) e e' h x = h (binary-inv x).0
  bad-left (swapped op) e e' h x = h (binary-inv x).1

  pub bad-right : (b : Build) (e e' : Expr Span) → Bad text e' → Bad text (build b e e')
  bad-right (straight op) e e' h x = h (binary-inv x).1
  bad-right (swapped op) e e' h x = h (binary-inv x).0

  -- and so does the operand of a prefix
  pub bad-single : (op : Operator) (e : Expr Span) → Bad text e → Bad text (single op e)
  bad-single op e h x = h (unary-inv x)

  -- a bad argument makes a bad call
  pub bad-call : (n : Span) (es : Exprs Span) → BadList text es → Bad text (FunctionCallExpr n es)
  bad-call n es h x = h (call-inv x)

  -- a list with a bad tree is bad
  pub bad-first : (e : Expr Span) (es : Exprs Span) → Bad text e → BadList text (◌then◌ e es)
  bad-first e es h x = h (next-inv x).0

  pub bad-rest : (e : Expr Span) (es : Exprs Span) → BadList text es → BadList text (◌then◌ e es)
  bad-rest e es h x = h (next-inv x).1
