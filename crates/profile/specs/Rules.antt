-- When a rule of the bench profile is broken, by the trees of a program: which rule, and at which place of its words. A tree stands at a place where
-- the words from there on are its words and those of what follows it.
use Rattle.std.specs.Prelude.{ℕ, suc, ◌+◌, ◌<◌, ◌≡◌, List, [], ◌∷◌, length}
use Rattle.std.proofs.Math.Option.{some, none}
use Rattle.tree.specs.Ast.{Expr, Stmt, Stmts, Reach, AForall, Choose, Probe, Loop, LabeledStmt, Exit, no_a_exprs, Procedure, Program}
use Rattle.tree.specs.Words.{stmt_words, program_words}
use Rattle.tree.specs.Resolve.{bytes_of}
use Rattle.tree.specs.Kind.{Kind, stmt, seq, of_procedure, program_fields}
use Rattle.tree.specs.Check.{NameIn}
use Rattle.tree.specs.Trees.{Names, Tree, Trees, names_in}
use Rattle.tree.specs.OutlineTrees.{Stands}
use Rattle.profile.specs.Profile.{statements_rule, bodies_rule, invariants_rule, labels_rule}

module _ (text : List ℕ) (p : Program (NameIn (length text))) where
  -- names inside the text, and the program's words
  abbrev pub N : Type 0
  N = NameIn (length text)

  abbrev pub inside : Names
  inside = names_in (length text)

  abbrev pub table : List ℕ
  table = program_words (λ n. n.span) p []

  -- this tree, before these, stands at a place of the program's words
  pub record Found (at : ℕ) (k : Kind) (t : Tree inside k) : Type 0 where
    pub later : List Kind
    pub trees : Trees inside later
    pub stands : Stands inside program_fields table at (k ∷ later) (t, trees)

  -- the statements that rule 1 excludes
  pub data Unsuited : Stmt N → Type 0 where
    reach : (e : Expr N) → Unsuited (Reach e)
    a_forall : (variable typ : N) (s : Stmt N) → Unsuited (AForall variable typ s)
    choose : (branches : Stmts N) → Unsuited (Choose branches)
    probe : (e : Expr N) → Unsuited (Probe e)

  -- the place is inside a statement of that label: its words begin before the place and end after it
  pub record Around (label : List ℕ) (at : ℕ) : Type 0 where
    pub start : ℕ
    pub name : N
    pub body : Stmt N
    pub found : Found start stmt (LabeledStmt name body)
    pub labelled : bytes_of text name.span ≡ label
    pub before : start < at
    pub beyond : at < start + length (stmt_words (λ n. n.span) (LabeledStmt name body) [])

  -- A rule, by its number, is broken at a place: a statement that rule 1 excludes; a procedure without a body, behind its mark; a loop without
  -- invariants; an exit whose label none of the statements around it has.
  pub data Broken : ℕ → ℕ → Type 0 where
    statement : {at : ℕ} {s : Stmt N} → Found at stmt s → Unsuited s → Broken statements_rule at
    procedure : {mark : ℕ} {q : Procedure N} {qs : List (Procedure N)}
        → Found mark (seq of_procedure) (q ∷ qs) → q.body ≡ none → Broken bodies_rule (suc mark)
    loop : {at : ℕ} {s : Stmt N} → Found at stmt (Loop no_a_exprs s) → Broken invariants_rule at
    exit : {at : ℕ} {name : N} → Found at stmt (Exit (some name)) → (Around (bytes_of text name.span) at → ⊥) → Broken labels_rule at
