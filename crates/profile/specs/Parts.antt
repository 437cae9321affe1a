-- The parts of a program by its constructors alone, and what the rules of the bench profile say of them. A tree is a part of itself, and what is a
-- part of one of the trees that its constructor is made of is a part of it. With a part are known the labels of the statements around it.
use Rattle.std.specs.Prelude.{ℕ, ◌≡◌, ◌⊎◌, List, [], ◌∷◌, length}
use Rattle.std.proofs.Math.Option.{some, none}
use Rattle.tree.specs.Ast.{Stmt, Loop, LabeledStmt, Exit, no_a_exprs, Procedure, Program}
use Rattle.tree.specs.Resolve.{bytes_of}
use Rattle.tree.specs.Kind.{Kind, stmt, seq, of_procedure, program_fields}
use Rattle.tree.specs.Check.{NameIn}
use Rattle.tree.specs.Trees.{Names, Tree, Trees, apply, Form}
use Rattle.tree.specs.Forms.{form}
use Rattle.tree.specs.Tables.{from_program}
use Rattle.profile.specs.Rules.{inside, Unsuited}

-- the label is one of these
abbrev pub Among : List ℕ → List (List ℕ) → Type 0
Among label [] = ⊥
Among label (l ∷ ls) = (l ≡ label) ⊎ Among label ls

module _ (I : Names) where
  -- the tree is one of several
  pub data OneOf : (ks : List Kind) → Trees I ks → (k : Kind) → Tree I k → Type 0 where
    first : {k : Kind} {ks : List Kind} {t : Tree I k} {ts : Trees I ks} → OneOf (k ∷ ks) (t, ts) k t
    later : {l : Kind} {ks : List Kind} {u : Tree I l} {ts : Trees I ks} {k : Kind} {t : Tree I k} → OneOf ks ts k t → OneOf (l ∷ ks) (u, ts) k t

  -- a constructor of the kind (`form`, by the word that it begins with) makes the tree of these
  pub record MadeOf (k : Kind) (t : Tree I k) : Type 0 where
    pub word : ℕ
    pub maker : Form I (Tree I k)
    pub formed : form I k word ≡ some maker
    pub parts : Trees I maker.fields
    pub made : apply I maker.fields maker.make parts ≡ t

  -- the tree is a statement with a label
  pub data IsLabelled : (k : Kind) → Tree I k → Type 0 where
    is_labelled : (n : I.N) (s : Stmt I.N) → IsLabelled stmt (LabeledStmt n s)

  module _ (bytes : I.N → List ℕ) where
    -- around what a tree is made of are the labels that are around the tree, and its own
    pub data Labels : (k : Kind) → Tree I k → List (List ℕ) → List (List ℕ) → Type 0 where
      labelled : (n : I.N) (s : Stmt I.N) (ls : List (List ℕ)) → Labels stmt (LabeledStmt n s) ls (bytes n ∷ ls)
      unlabelled : {k : Kind} {t : Tree I k} (ls : List (List ℕ)) → (IsLabelled k t → ⊥) → Labels k t ls ls

    -- of a tree inside the labels ls, a part inside the labels ms
    pub data Part : (k : Kind) → Tree I k → (ls : List (List ℕ)) → (l : Kind) → Tree I l → (ms : List (List ℕ)) → Type 0 where
      itself : {k : Kind} {t : Tree I k} {ls : List (List ℕ)} → Part k t ls k t ls
      of : {k : Kind} {t : Tree I k} {ls ns : List (List ℕ)} {j : Kind} {u : Tree I j} {l : Kind} {v : Tree I l} {ms : List (List ℕ)}
          → Labels k t ls ns → (m : MadeOf k t) → OneOf m.maker.fields m.parts j u → Part j u ns l v ms → Part k t ls l v ms

module _ (text : List ℕ) (p : Program (NameIn (length text))) where
  abbrev Name : Type 0
  Name = NameIn (length text)

  -- a part of one of the program's five sequences, inside these labels
  pub record PartOf (k : Kind) (t : Tree (inside text p) k) (ls : List (List ℕ)) : Type 0 where
    pub field : Kind
    pub tree : Tree (inside text p) field
    pub one : OneOf (inside text p) program_fields (from_program (inside text p) p) field tree
    pub part : Part (inside text p) (λ n. bytes_of text n.span) field tree [] k t ls

  -- The four rules: no statement is one that rule 1 excludes; no procedure lacks its body; no loop lacks its invariants; the label of an exit is
  -- among those around it.
  pub record KeepsRules : Type 0 where
    pub statements : (s : Stmt Name) (ls : List (List ℕ)) → PartOf stmt s ls → Unsuited text p s → ⊥
    pub bodies : (q : Procedure Name) (qs : List (Procedure Name)) (ls : List (List ℕ))
        → PartOf (seq of_procedure) (q ∷ qs) ls → q.body ≡ none → ⊥
    pub invariants : (s : Stmt Name) (ls : List (List ℕ)) → PartOf stmt (Loop no_a_exprs s) ls → ⊥
    pub labels : (n : Name) (ls : List (List ℕ)) → PartOf stmt (Exit (some n)) ls → Among (bytes_of text n.span) ls
