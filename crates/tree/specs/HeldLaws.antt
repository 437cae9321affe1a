-- What a table holds by what the check says of it.
use Rattle.std.specs.Prelude.{Ok, Err}
use Rattle.std.specs.Prelude.{ℕ, ◌≤◌, ◌<◌, ◌≡◌, Bool, ◌&&◌, List, [], ◌∷◌, length, leb}
use Rattle.std.proofs.Common.{arith, leb-true, leb-false, le-leb}
use Rattle.std.proofs.Math.Path.{refl, ap}
use Rattle.std.proofs.Math.Bool.{true, false, cond}
use Rattle.std.proofs.Math.Option.{Option, none, some}
use Rattle.std.proofs.lemmas.Bool.{lt-leb}
use Rattle.tree.specs.Clash.{impossible}
use Rattle.tree.specs.Limits.{most_text, most_words}
use Rattle.tree.specs.Ast.{Expr, Program}
use Rattle.tree.specs.Kind.{expr, program_fields}
use Rattle.tree.specs.Check.{Checked, NameIn, Refusal, check_expression, check_program, refusal as check_refusal, expression_refusal, program_refusal, oversized, misfitting}
use Rattle.tree.specs.Trees.{Trees, names_in}
use Rattle.tree.specs.Accepted.{unique}
use Rattle.tree.specs.Tables.{to_program, from_program}
use Rattle.tree.specs.Refused.{expression-too-many, expression-misfit, program-too-many, program-misfit}
use Rattle.tree.specs.Held.{TableKind, expression_tables, program_tables, Held, held, refused, tree_of, held_checked, held_by, program_held, Holds, HoldsProgram, InLimits}
use Rattle.tree.specs.declared.CheckError.TheVariants.{Misfit, TooManyWords}

-- ---- the two kinds of table

-- a kind whose words determine the tree, and whose check refuses by 6 and 7 as in REFERENCE, "The refusals"
pub record Lawful (K : TableKind) : Type 0 where
  pub same : (words : List ℕ) (t u : K.Tree) → K.words t ≡ words → K.words u ≡ words → t ≡ u
  pub found : (words : List ℕ) → (c : Checked) × (K.refused words ≡ check_refusal c)
  pub too_many : (words : List ℕ) → K.refused words ≡ some (record { number = oversized; place = 0 }) → most_words < length words
  pub misfit : (words : List ℕ) (place : ℕ) → K.refused words ≡ some (record { number = misfitting; place = place }) → length words ≤ most_words

-- two trees with the same words
pub same-tree : (text words : List ℕ) (t u : Expr (NameIn (length text))) → Holds text words t → Holds text words u → t ≡ u
same-tree text words t u e f =
    let h = unique (names_in (length text)) (expr ∷ []) words (t, tt) (u, tt) [] [] e f in
    ap (λ (ts : Trees (names_in (length text)) (expr ∷ [])). ts.0) h.0

pub same-program : (text words : List ℕ) (t u : Program (NameIn (length text))) → HoldsProgram text words t → HoldsProgram text words u → t ≡ u
same-program text words t u e f =
    let I = names_in (length text) in
    ap (to_program I) (unique I program_fields words (from_program I t) (from_program I u) [] [] e f).0

-- expressions and programs are such kinds
pub expression-laws : (text : List ℕ) → Lawful (expression_tables (length text))
unfolding expression_refusal
expression-laws text =
    record {
      same = same-tree text;
      found = λ ws. (check_expression ws (length text), refl);
      too_many = λ ws. (expression-too-many ws (length text)).0;
      misfit = λ ws p e. (expression-misfit ws (length text) p e).1;
    }

pub program-laws : (text : List ℕ) → Lawful (program_tables (length text))
unfolding program_refusal
program-laws text =
    record {
      same = same-program text;
      found = λ ws. (check_program ws (length text), refl);
      too_many = λ ws. (program-too-many ws (length text)).0;
      misfit = λ ws p e. (program-misfit ws (length text) p e).1;
    }

-- ---- what a table holds

module _ (K : TableKind) (text words : List ℕ) where
  -- of one that holds a tree
  module _ (L : Lawful K) (t : K.Tree) (e : K.words t ≡ words) where
    -- the tree of an unrefused table is the one whose words these are
    pub tree-of : (h : K.refused words ≡ none) → tree_of K words h ≡ t
    tree-of h =
        let a = ((K.unrefused words).0 h).1 in
        L.same words a.0 t a.1 e

    -- an unrefused table holds it
    checked : (r : Option Refusal) (h : K.refused words ≡ r) → r ≡ none → held_checked K words r h ≡ held t
    unfolding held_checked
    checked none h k = ap held (tree-of h)
    checked (some r) h k = impossible cc

    -- so does a table within the limits
    pub holds : {others : Bool} → length text ≤ most_text → length words ≤ most_words → others ≡ true → held_by K others text words ≡ held t
    unfolding held_by
    holds ht hw ho = simp (le-leb _ _ ht, ho) (checked (K.refused words) refl ((K.unrefused words).1 (hw, (t, e))))

  -- the check's refusal
  refused-by : (q : Refusal) (r : Option Refusal) (h : K.refused words ≡ r) → r ≡ some q → held_checked K words r h ≡ refused q.number q.place
  unfolding held_checked
  refused-by q none h k = impossible cc
  refused-by q (some r) h k = cc

  -- within the other limits the table is refused by it
  pub refuses : {others : Bool} → length text ≤ most_text → others ≡ true → (q : Refusal) → K.refused words ≡ some q
      → held_by K others text words ≡ refused q.number q.place
  unfolding held_by
  refuses ht ho q k = simp (le-leb _ _ ht, ho) (refused-by q (K.refused words) refl k)

  -- a text that is too long is refused by 6
  pub long-text : (others : Bool) → most_text < length text → held_by K others text words ≡ refused oversized 0
  unfolding held_by
  long-text others h = simp (lt-leb (length text) most_text h)

  -- so is a table with another limit passed
  pub past-limit : {others : Bool} → others ≡ false → held_by K others text words ≡ refused oversized 0
  unfolding held_by
  past-limit {others} h = by-test (leb (length text) most_text)
    where
      by-test : (v : Bool) → cond (v && others) (held_checked K words (K.refused words) refl) (refused oversized 0) ≡ refused oversized 0
      by-test true = simp h
      by-test false = refl

-- a table past the limits (`within` says that it keeps them), one whose words are no tree's, and one that holds a tree
pub data Table (K : TableKind) (within : Type 0) (words : List ℕ) : Held K.Tree → Type 0 where
  over : (within → ⊥) → Table K within words (refused oversized 0)
  misfit : within → (place : ℕ) → K.refused words ≡ some (record { number = misfitting; place = place })
      → Table K within words (refused misfitting place)
  tree : within → (t : K.Tree) → K.words t ≡ words → Table K within words (held t)

module _ (K : TableKind) (L : Lawful K) (others : Bool) (text words : List ℕ) (within : Type 0) (keeps : InLimits text words → others ≡ true → within)
    (kept : within → InLimits text words × (others ≡ true)) where
  -- by the check's answer
  of-check : length text ≤ most_text → others ≡ true → (c : Checked) → K.refused words ≡ check_refusal c → Table K within words (held_by K others text words)
  of-check ht ho (Ok u) h =
      let a = (K.unrefused words).0 h in
      rw (holds K text words L a.1.0 a.1.1 ht a.0 ho) (tree (keeps (record { text-fits = ht; words-fit = a.0 }) ho) a.1.0 a.1.1)
  of-check ht ho (Err (Misfit place)) h =
      rw (refuses K text words ht ho _ h) (misfit (keeps (record { text-fits = ht; words-fit = L.misfit words place h }) ho) place h)
  of-check ht ho (Err TooManyWords) h =
      let k = L.too_many words h in
      rw (refuses K text words ht ho _ h) (over (λ w. let f = (kept w).0.words-fit in omega arith))

  -- by the limits
  by-others : length text ≤ most_text → (b : Bool) → others ≡ b → Table K within words (held_by K others text words)
  by-others ht true e = of-check ht e (L.found words).0 (L.found words).1
  by-others ht false e = rw (past-limit K text words e) (over (λ w. let f = (kept w).1 in impossible cc))

  past-text : most_text < length text → Table K within words (held_by K others text words)
  past-text h = rw (long-text K text words others h) (over (λ w. let f = (kept w).0.text-fits in omega arith))

  by-text : (b : Bool) → leb (length text) most_text ≡ b → Table K within words (held_by K others text words)
  by-text true e = by-others (leb-true _ _ e) others refl
  by-text false e = past-text (leb-false _ _ e)

  -- every table is one of the three
  pub table : Table K within words (held_by K others text words)
  table = by-text (leb (length text) most_text) refl

-- every program's table is
pub program-table : (text words : List ℕ) → Table (program_tables (length text)) (InLimits text words) words (program_held text words)
program-table text words = table (program_tables (length text)) (program-laws text) true text words (InLimits text words) (λ w h. w) (λ w. (w, refl))
