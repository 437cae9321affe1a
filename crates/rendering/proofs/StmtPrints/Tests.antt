-- What the first word of a statement tells of it: whether it is a conditional, a loop, a block, an empty block.
use Rattle.std.proofs.Common.{ℕ, ◌+◌, ◌≡◌, arith, get_or, length, refl, sym, ap, ◌∙◌, subst, Bool, true, false, ◌||◌, eqb, List, ◌∷◌, drop}
use Rattle.std.proofs.Math.Option.{none}
use borrow.Author.Tests.{ne_eqb}
use Rattle.tree.specs.Ast.{Stmt, VarDecl, Assign, Reinit, Block, Call, Check, Assume, Reach, Assert, AForall, Choose, If, IfCase, Loop, LabeledStmt, Exit, Return, Probe}
use Rattle.tree.specs.Ast.{Stmts, no_stmts, stmts}
use Rattle.tree.specs.Words.{stmt_words}
use Rattle.tree.specs.Kind.{stmt}
use Rattle.tree.specs.Trees.{names_in}
use Rattle.tree.specs.Walk.{tree-at-word}
use Rattle.std.proofs.lemmas.Bool.{false≢true}
use Rattle.layout.specs.Statements.{Shown, is_no_stmts, shown}
use Rattle.rendering.specs.declared.printer.Source.{Source}
use Rattle.rendering.specs.declared.printer.Printer.{Printer}
use Rattle.rendering.specs.Parts.{N, Looks}
use Rattle.rendering.specs.StmtParts.{Tells, show}
use Rattle.rendering.proofs.Walk.{Walk, begin, first, second}

-- what a word tells of a statement as it is shown
pub record ToldOf (w : ℕ) (s : Shown) : Type 0 where
  pub if-is : s.is_if ≡ (eqb w 32 || eqb w 33)
  pub loop-is : s.is_loop ≡ eqb w 34
  pub no-list : (w ≡ 24 → ⊥) → s.list ≡ none
  pub not-empty : (w ≡ 24 → ⊥) → s.is_empty_block ≡ false

-- a statement that is no block
otherwise : (w : ℕ) (s : Shown) → s.is_if ≡ (eqb w 32 || eqb w 33) → s.is_loop ≡ eqb w 34 → s.list ≡ none → s.is_empty_block ≡ false → ToldOf w s
otherwise w s i l n e = record { if-is = i; loop-is = l; no-list = λ _. n; not-empty = λ _. e }

-- the same of an equal word
same_word : {w v : ℕ} {s : Shown} → w ≡ v → ToldOf v s → ToldOf w s
same_word {s = s} e t = subst (λ (x : ℕ). ToldOf x s) (sym e) t

module _ {s : Printer} {w : ℕ} (l : Looks s 0 w) where
  -- the word at a statement's place tells it
  pub told : (t : Stmt (N s.source)) (rest : List ℕ) → drop s.at s.source.words.now ≡ stmt_words (λ n. n.span) t rest → ToldOf w (show s.source t)
  unfolding shown
  told (VarDecl v i b) rest d = same_word (first (begin d) l) (otherwise 21 (show s.source (VarDecl v i b)) refl refl refl refl)
  told (Assign n e) rest d = same_word (first (begin d) l) (otherwise 22 (show s.source (Assign n e)) refl refl refl refl)
  told (Reinit ns) rest d = same_word (first (begin d) l) (otherwise 23 (show s.source (Reinit ns)) refl refl refl refl)
  told (Block ss) rest d = same_word (first (begin d) l) (record { if-is = refl; loop-is = refl; no-list = λ h. absurd (h refl); not-empty = λ h. absurd (h refl) })
  told (Call n cs) rest d = same_word (first (begin d) l) (otherwise 25 (show s.source (Call n cs)) refl refl refl refl)
  told (Check e) rest d = same_word (first (begin d) l) (otherwise 26 (show s.source (Check e)) refl refl refl refl)
  told (Assume e) rest d = same_word (first (begin d) l) (otherwise 27 (show s.source (Assume e)) refl refl refl refl)
  told (Reach e) rest d = same_word (first (begin d) l) (otherwise 28 (show s.source (Reach e)) refl refl refl refl)
  told (Assert e) rest d = same_word (first (begin d) l) (otherwise 29 (show s.source (Assert e)) refl refl refl refl)
  told (AForall n u b) rest d = same_word (first (begin d) l) (otherwise 30 (show s.source (AForall n u b)) refl refl refl refl)
  told (Choose ss) rest d = same_word (first (begin d) l) (otherwise 31 (show s.source (Choose ss)) refl refl refl refl)
  told (If e b c) rest d = same_word (first (begin d) l) (otherwise 32 (show s.source (If e b c)) refl refl refl refl)
  told (IfCase cs) rest d = same_word (first (begin d) l) (otherwise 33 (show s.source (IfCase cs)) refl refl refl refl)
  told (Loop is b) rest d = same_word (first (begin d) l) (otherwise 34 (show s.source (Loop is b)) refl refl refl refl)
  told (LabeledStmt n b) rest d = same_word (first (begin d) l) (otherwise 35 (show s.source (LabeledStmt n b)) refl refl refl refl)
  told (Exit o) rest d = same_word (first (begin d) l) (otherwise 36 (show s.source (Exit o)) refl refl refl refl)
  told Return rest d = same_word (first (begin d) l) (otherwise 37 (show s.source Return) refl refl refl refl)
  told (Probe e) rest d = same_word (first (begin d) l) (otherwise 38 (show s.source (Probe e)) refl refl refl refl)

  -- ---- the tests of the code

  -- word 32
  pub tells-if : w ≡ 32 → Tells s (λ s. s.is_if) true
  tells-if h = record { tells = λ t rest d. sym ((told t rest d).if-is ∙ ap (λ (v : ℕ). eqb v 32 || eqb v 33) h) }

  -- word 33, or neither
  pub tells-case : (w ≡ 32 → ⊥) → Tells s (λ s. s.is_if) (eqb w 33)
  tells-case h = record { tells = λ t rest d. sym ((told t rest d).if-is ∙ ap (λ (v : Bool). v || eqb w 33) (ne_eqb w 32 h)) }

  -- word 34, or another
  pub tells-loop : Tells s (λ s. s.is_loop) (eqb w 34)
  tells-loop = record { tells = λ t rest d. sym (told t rest d).loop-is }

  -- no block
  pub tells-other : (w ≡ 24 → ⊥) → Tells s (λ s. s.is_empty_block) false
  tells-other h = record { tells = λ t rest d. sym ((told t rest d).not-empty h) }

-- the statements of a block whose word was seen
block-of : {s : Printer} {w : ℕ} → Looks s 0 w → w ≡ 24 → (t : Stmt (N s.source)) (rest : List ℕ) → drop s.at s.source.words.now ≡ stmt_words (λ n. n.span) t rest
    → (ss : Stmts (N s.source)) × (Block ss ≡ t)
block-of {s} {w} l h t rest d =
    let z : s.at + 0 ≡ s.at = omega arith in
    let e : get_or s.source.words.now s.at 0 ≡ 24 = ap (λ (k : ℕ). get_or s.source.words.now k 0) (sym z) ∙ sym l.word ∙ h in
    let o = tree-at-word (names_in (length s.source.text.now)) s.source.words.now s.at stmt t rest 24 d e in
    (o.0.0, o.1)

-- a block, by the word after its own
pub tells-empty : {s : Printer} {w v : ℕ} → Looks s 0 w → w ≡ 24 → Looks s 1 v → Tells s (λ s. s.is_empty_block) (eqb v 0)
unfolding shown
tells-empty {s} {w} {v} l h m = record { tells = λ t rest d. let o = block-of l h t rest d in subst (Q rest) o.1 (by-items o.0 rest) d }
  where
    Q : List ℕ → Stmt (N s.source) → Type 0
    Q rest u = drop s.at s.source.words.now ≡ stmt_words (λ n. n.span) u rest → eqb v 0 ≡ (show s.source u).is_empty_block

    by-items : (ss : Stmts (N s.source)) (rest : List ℕ) → drop s.at s.source.words.now ≡ stmt_words (λ n. n.span) (Block ss) rest → eqb v 0 ≡ is_no_stmts ss
    by-items no_stmts rest d = ap (λ (k : ℕ). eqb k 0) (second (begin d) m)
    by-items (stmts t ss) rest d = ap (λ (k : ℕ). eqb k 0) (second (begin d) m)

-- what a test says of a statement that stands further on
pub tells-of : {s₀ s : Printer} {X : List ℕ → List ℕ} {test : Shown → Bool} {r : Bool} (t : Stmt (N s₀.source)) (rest : List ℕ) → Walk s₀ X (stmt_words (λ n. n.span) t rest) s → Tells s test r
    → r ≡ test (show s₀.source t)
tells-of {s₀} {s} {test = test} {r = r} t rest l q =
    let Q : Source → Type 0 = λ S. (u : Stmt (N S)) (rs : List ℕ) → drop s.at S.words.now ≡ stmt_words (λ n. n.span) u rs → r ≡ test (show S u) in
    subst Q l.source q.tells t rest l.left

-- an empty block's words
pub empty-block-words : (S : Source) (t : Stmt (N S)) (rest : List ℕ) → true ≡ (show S t).is_empty_block → stmt_words (λ n. n.span) t rest ≡ 24 ∷ 0 ∷ rest
unfolding shown
empty-block-words S (VarDecl v i b) rest h = absurd (false≢true (sym h))
empty-block-words S (Assign n e) rest h = absurd (false≢true (sym h))
empty-block-words S (Reinit ns) rest h = absurd (false≢true (sym h))
empty-block-words S (Block no_stmts) rest h = refl
empty-block-words S (Block (stmts t ss)) rest h = absurd (false≢true (sym h))
empty-block-words S (Call n cs) rest h = absurd (false≢true (sym h))
empty-block-words S (Check e) rest h = absurd (false≢true (sym h))
empty-block-words S (Assume e) rest h = absurd (false≢true (sym h))
empty-block-words S (Reach e) rest h = absurd (false≢true (sym h))
empty-block-words S (Assert e) rest h = absurd (false≢true (sym h))
empty-block-words S (AForall n u b) rest h = absurd (false≢true (sym h))
empty-block-words S (Choose ss) rest h = absurd (false≢true (sym h))
empty-block-words S (If e b c) rest h = absurd (false≢true (sym h))
empty-block-words S (IfCase cs) rest h = absurd (false≢true (sym h))
empty-block-words S (Loop is b) rest h = absurd (false≢true (sym h))
empty-block-words S (LabeledStmt n b) rest h = absurd (false≢true (sym h))
empty-block-words S (Exit o) rest h = absurd (false≢true (sym h))
empty-block-words S Return rest h = absurd (false≢true (sym h))
empty-block-words S (Probe e) rest h = absurd (false≢true (sym h))
