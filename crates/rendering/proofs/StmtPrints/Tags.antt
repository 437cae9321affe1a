-- A statement by its first word.
use Rattle.std.proofs.Common.{ℕ, ◌+◌, ◌-◌, ◌<◌, ◌≡◌, refl, sym, ap, ◌∙◌, arith, Bool, List, ◌++◌, length, drop, get_or, Option, Some, None}
use Rattle.lexing.specs.Bytes.{bytes}
use Rattle.tree.specs.Ast.{Stmt, VarDecl, Assign, Reinit, Block, Call, Check, Assume, Reach, Assert, AForall, Choose, If, IfCase, Loop, LabeledStmt, Exit, Return, Probe}
use Rattle.tree.specs.Ast.{Stmts, no_stmts, stmts}
use Rattle.tree.specs.Words.{stmt_words, stmts_words}
use Rattle.tree.specs.Codes.{Decodes, stmt_code}
use Rattle.tree.specs.declared.word.StmtTag.{StmtTag}
use Rattle.tree.specs.declared.word.StmtTag.TheVariants as tag
use Rattle.tree.specs.Kind.{stmt}
use Rattle.tree.specs.Trees.{names_in}
use Rattle.tree.specs.Walk.{tree-at-word, word-range}
use Rattle.layout.specs.PrintUtil.{deeper_by}
use Rattle.layout.specs.Indents.{held}
use Rattle.layout.specs.Statements.{shown}
use Rattle.rendering.specs.declared.printer.Printer.{Printer}
use Rattle.rendering.specs.declared.printer.Source.{Source}
use Rattle.rendering.specs.Wrote.{Puts}
use Rattle.rendering.specs.Parts.{N, Told, Prints, Reads, Looks, free}
use Rattle.rendering.specs.ExprParts.{Ready}
use Rattle.rendering.specs.StmtParts.{a_stmt, an_inner, statement_list, a_variable, an_assign, a_reinit, a_braces, a_call_stmt, an_expression_stmt, a_forall, a_choose, an_if, an_if_case, a_loop, a_labelled, an_exit}
use Rattle.rendering.proofs.Walk.{begin, reads, inside}
use Rattle.rendering.proofs.Words.{found, within, passed, by-word, fixed}

-- ---- indents

-- where a statement stands is inside the table
pub stands : (s : Printer) (t : Stmt (N s.source)) (rest : List ℕ) → drop s.at s.source.words.now ≡ stmt_words (λ n. n.span) t rest → s.at < length s.source.words.now
stands s t rest d = let r = word-range (names_in (length s.source.text.now)) s.source.words.now s.at stmt t rest d in within s.source.words.now s.at (omega arith)

pub stands-list : (s : Printer) (ss : Stmts (N s.source)) (rest : List ℕ) → drop s.at s.source.words.now ≡ stmts_words (λ n. n.span) ss rest → s.at < length s.source.words.now
stands-list s no_stmts rest d = inside (begin {s = s} d)
stands-list s (stmts t ss) rest d = inside (begin {s = s} d)

-- 64 bits hold an indent one step deeper there
pub one-deeper : {S : Source} {at : ℕ} (indent : ℕ) → Ready S at (indent + S.step) → at < length S.words.now → deeper_by S.step indent ≡ indent + S.step
one-deeper {S} indent k h = held S.step indent (let n = k.few in let r = k.room in omega arith)

-- ---- tags

-- after a statement's first word less is left
pub tagged : {s s₁ : Printer} {w : ℕ} {q : Option StmtTag} {e : StmtTag} → Reads s w s₁ → Decodes stmt_code w q → q ≡ Some e
    → length s₁.source.words.now - s₁.at < length s.source.words.now - s.at
tagged {e = e} r f h = let k = found f h in let l = positive e in passed r (omega arith)
  where
    positive : (e : StmtTag) → 0 < stmt_code e
    positive tag.VarDecl = omega arith
    positive tag.Assign = omega arith
    positive tag.Reinit = omega arith
    positive tag.Block = omega arith
    positive tag.Call = omega arith
    positive tag.Check = omega arith
    positive tag.Assume = omega arith
    positive tag.Reach = omega arith
    positive tag.Assert = omega arith
    positive tag.AForall = omega arith
    positive tag.Choose = omega arith
    positive tag.If = omega arith
    positive tag.IfCase = omega arith
    positive tag.Loop = omega arith
    positive tag.LabeledStmt = omega arith
    positive tag.Exit = omega arith
    positive tag.Return = omega arith
    positive tag.Probe = omega arith

module _ {s s₁ : Printer} {w : ℕ} {q : Option StmtTag} (r : Reads s w s₁) (f : Decodes stmt_code w q) (indent : ℕ) (followed : Bool) where
  -- the word of a tag
  is : (e : StmtTag) → q ≡ Some e → get_or s.source.words.now s.at 0 ≡ stmt_code e
  is e h = sym r.word ∙ found f h

  -- an indent one step deeper fits after it
  deep : {i : ℕ} {C : Type 0} → s₁.at ≡ s.at + 1 → Ready s.source s.at i × C → Ready s.source s₁.at (i + s.source.step) × C
  deep h g = let k = g.0.room in let l = g.0.short in (record { few = g.0.few; short = g.0.short; room = omega arith }, g.1)

  flat : {i : ℕ} {C : Type 0} → s₁.at ≡ s.at + 1 → Ready s.source s.at i × C → Ready s.source s₁.at (0 + s.source.step) × C
  flat h g = let k = g.0.room in let l = g.0.short in (record { few = g.0.few; short = g.0.short; room = omega arith }, g.1)

  plain : {i : ℕ} {C : Type 0} → s₁.at ≡ s.at + 1 → Ready s.source s.at i × C → Ready s.source s₁.at 0 × C
  plain h g = (record { few = g.0.few; short = g.0.short; room = omega arith }, g.1)

  -- a word that has a tag is found
  no : (e : StmtTag) → q ≡ None → w ≡ stmt_code e → ⊥
  no e h k = let z : None ≡ Some e = sym h ∙ (f e).1 (sym k) in cc

  pub is-variable : {s₂ : Printer} {e : StmtTag} → q ≡ Some e → e ≡ tag.VarDecl → Prints (a_variable indent followed) s₁ s₂ → Told (a_stmt indent followed) s s₂
  unfolding shown
  is-variable h k x =
      by-word r (a_stmt indent followed) (a_variable indent followed) 21 (λ a. VarDecl a.0 a.1 a.2) (λ t rest d. let o = tree-at-word (names_in (length s.source.text.now)) s.source.words.now s.at stmt t rest 21 d (is tag.VarDecl (h ∙ ap Some k)) in ((record { name = o.0.0; is_mutable = o.0.1.0; optional_type = o.0.1.1.0; optional_auto_inv = o.0.1.1.1.0 }, o.0.1.1.1.1.0, o.0.1.1.1.1.1.0), o.1))
      (λ a rest. deep) (λ a rest. refl) (λ a. refl) x

  pub is-assign : {s₂ : Printer} {e : StmtTag} → q ≡ Some e → e ≡ tag.Assign → Prints an_assign s₁ s₂ → Told (a_stmt indent followed) s s₂
  unfolding shown
  is-assign h k x =
      by-word r (a_stmt indent followed) an_assign 22 (λ a. Assign a.0 a.1) (λ t rest d. let o = tree-at-word (names_in (length s.source.text.now)) s.source.words.now s.at stmt t rest 22 d (is tag.Assign (h ∙ ap Some k)) in ((o.0.0, o.0.1.0), o.1))
      (λ a rest. flat) (λ a rest. refl) (λ a. refl) x

  pub is-reinit : {s₂ : Printer} {e : StmtTag} → q ≡ Some e → e ≡ tag.Reinit → Prints a_reinit s₁ s₂ → Told (a_stmt indent followed) s s₂
  unfolding shown
  is-reinit h k x =
      by-word r (a_stmt indent followed) a_reinit 23 (λ a. Reinit a) (λ t rest d. let o = tree-at-word (names_in (length s.source.text.now)) s.source.words.now s.at stmt t rest 23 d (is tag.Reinit (h ∙ ap Some k)) in (o.0.0, o.1))
      (λ a rest. flat) (λ a rest. refl) (λ a. refl) x

  pub is-block : {s₂ : Printer} {e : StmtTag} → q ≡ Some e → e ≡ tag.Block → Prints (a_braces indent) s₁ s₂ → Told (a_stmt indent followed) s s₂
  unfolding shown
  is-block h k x =
      by-word r (a_stmt indent followed) (a_braces indent) 24 (λ a. Block a) (λ t rest d. let o = tree-at-word (names_in (length s.source.text.now)) s.source.words.now s.at stmt t rest 24 d (is tag.Block (h ∙ ap Some k)) in (o.0.0, o.1))
      (λ a rest. deep) (λ a rest. refl) (λ a. refl) x

  pub is-call : {s₂ : Printer} {e : StmtTag} → q ≡ Some e → e ≡ tag.Call → Prints a_call_stmt s₁ s₂ → Told (a_stmt indent followed) s s₂
  unfolding shown
  is-call h k x =
      by-word r (a_stmt indent followed) a_call_stmt 25 (λ a. Call a.0 a.1) (λ t rest d. let o = tree-at-word (names_in (length s.source.text.now)) s.source.words.now s.at stmt t rest 25 d (is tag.Call (h ∙ ap Some k)) in ((o.0.0, o.0.1.0), o.1))
      (λ a rest. flat) (λ a rest. refl) (λ a. refl) x

  pub is-check : {s₂ : Printer} {e : StmtTag} → q ≡ Some e → e ≡ tag.Check → Prints (an_expression_stmt (bytes "check ")) s₁ s₂ → Told (a_stmt indent followed) s s₂
  unfolding shown
  is-check h k x =
      by-word r (a_stmt indent followed) (an_expression_stmt (bytes "check ")) 26 (λ a. Check a) (λ t rest d. let o = tree-at-word (names_in (length s.source.text.now)) s.source.words.now s.at stmt t rest 26 d (is tag.Check (h ∙ ap Some k)) in (o.0.0, o.1))
      (λ a rest. plain) (λ a rest. refl) (λ a. refl) x

  pub is-assume : {s₂ : Printer} {e : StmtTag} → q ≡ Some e → e ≡ tag.Assume → Prints (an_expression_stmt (bytes "assume ")) s₁ s₂ → Told (a_stmt indent followed) s s₂
  unfolding shown
  is-assume h k x =
      by-word r (a_stmt indent followed) (an_expression_stmt (bytes "assume ")) 27 (λ a. Assume a) (λ t rest d. let o = tree-at-word (names_in (length s.source.text.now)) s.source.words.now s.at stmt t rest 27 d (is tag.Assume (h ∙ ap Some k)) in (o.0.0, o.1))
      (λ a rest. plain) (λ a rest. refl) (λ a. refl) x

  pub is-reach : {s₂ : Printer} {e : StmtTag} → q ≡ Some e → e ≡ tag.Reach → Prints (an_expression_stmt (bytes "reach ")) s₁ s₂ → Told (a_stmt indent followed) s s₂
  unfolding shown
  is-reach h k x =
      by-word r (a_stmt indent followed) (an_expression_stmt (bytes "reach ")) 28 (λ a. Reach a) (λ t rest d. let o = tree-at-word (names_in (length s.source.text.now)) s.source.words.now s.at stmt t rest 28 d (is tag.Reach (h ∙ ap Some k)) in (o.0.0, o.1))
      (λ a rest. plain) (λ a rest. refl) (λ a. refl) x

  pub is-assert : {s₂ : Printer} {e : StmtTag} → q ≡ Some e → e ≡ tag.Assert → Prints (an_expression_stmt (bytes "assert ")) s₁ s₂ → Told (a_stmt indent followed) s s₂
  unfolding shown
  is-assert h k x =
      by-word r (a_stmt indent followed) (an_expression_stmt (bytes "assert ")) 29 (λ a. Assert a) (λ t rest d. let o = tree-at-word (names_in (length s.source.text.now)) s.source.words.now s.at stmt t rest 29 d (is tag.Assert (h ∙ ap Some k)) in (o.0.0, o.1))
      (λ a rest. plain) (λ a rest. refl) (λ a. refl) x

  pub is-forall : {s₂ : Printer} {e : StmtTag} → q ≡ Some e → e ≡ tag.AForall → Prints (a_forall indent) s₁ s₂ → Told (a_stmt indent followed) s s₂
  unfolding shown
  is-forall h k x =
      by-word r (a_stmt indent followed) (a_forall indent) 30 (λ a. AForall a.0 a.1 a.2) (λ t rest d. let o = tree-at-word (names_in (length s.source.text.now)) s.source.words.now s.at stmt t rest 30 d (is tag.AForall (h ∙ ap Some k)) in ((o.0.0, o.0.1.0, o.0.1.1.0), o.1))
      (λ a rest. deep) (λ a rest. refl) (λ a. refl) x

  pub is-choose : {s₂ : Printer} {e : StmtTag} → q ≡ Some e → e ≡ tag.Choose → Prints (a_choose indent) s₁ s₂ → Told (a_stmt indent followed) s s₂
  unfolding shown
  is-choose h k x =
      by-word r (a_stmt indent followed) (a_choose indent) 31 (λ a. Choose a) (λ t rest d. let o = tree-at-word (names_in (length s.source.text.now)) s.source.words.now s.at stmt t rest 31 d (is tag.Choose (h ∙ ap Some k)) in (o.0.0, o.1))
      (λ a rest. deep) (λ a rest. refl) (λ a. refl) x

  pub is-if : {s₂ : Printer} {e : StmtTag} → q ≡ Some e → e ≡ tag.If → Prints (an_if indent) s₁ s₂ → Told (a_stmt indent followed) s s₂
  unfolding shown
  is-if h k x =
      by-word r (a_stmt indent followed) (an_if indent) 32 (λ a. If a.0 a.1 a.2) (λ t rest d. let o = tree-at-word (names_in (length s.source.text.now)) s.source.words.now s.at stmt t rest 32 d (is tag.If (h ∙ ap Some k)) in ((o.0.0, o.0.1.0, o.0.1.1.0), o.1))
      (λ a rest. deep) (λ a rest. refl) (λ a. refl) x

  pub is-if-case : {s₂ : Printer} {e : StmtTag} → q ≡ Some e → e ≡ tag.IfCase → Prints (an_if_case indent) s₁ s₂ → Told (a_stmt indent followed) s s₂
  unfolding shown
  is-if-case h k x =
      by-word r (a_stmt indent followed) (an_if_case indent) 33 (λ a. IfCase a) (λ t rest d. let o = tree-at-word (names_in (length s.source.text.now)) s.source.words.now s.at stmt t rest 33 d (is tag.IfCase (h ∙ ap Some k)) in (o.0.0, o.1))
      (λ a rest. deep) (λ a rest. refl) (λ a. refl) x

  pub is-loop : {s₂ : Printer} {e : StmtTag} → q ≡ Some e → e ≡ tag.Loop → Prints (a_loop indent) s₁ s₂ → Told (a_stmt indent followed) s s₂
  unfolding shown
  is-loop h k x =
      by-word r (a_stmt indent followed) (a_loop indent) 34 (λ a. Loop a.0 a.1) (λ t rest d. let o = tree-at-word (names_in (length s.source.text.now)) s.source.words.now s.at stmt t rest 34 d (is tag.Loop (h ∙ ap Some k)) in ((o.0.0, o.0.1.0), o.1))
      (λ a rest. deep) (λ a rest. refl) (λ a. refl) x

  pub is-label : {s₂ : Printer} {e : StmtTag} → q ≡ Some e → e ≡ tag.LabeledStmt → Prints (a_labelled indent) s₁ s₂ → Told (a_stmt indent followed) s s₂
  unfolding shown
  is-label h k x =
      by-word r (a_stmt indent followed) (a_labelled indent) 35 (λ a. LabeledStmt a.0 a.1) (λ t rest d. let o = tree-at-word (names_in (length s.source.text.now)) s.source.words.now s.at stmt t rest 35 d (is tag.LabeledStmt (h ∙ ap Some k)) in ((o.0.0, o.0.1.0), o.1))
      (λ a rest. deep) (λ a rest. refl) (λ a. refl) x

  pub is-exit : {s₂ : Printer} {e : StmtTag} → q ≡ Some e → e ≡ tag.Exit → Prints an_exit s₁ s₂ → Told (a_stmt indent followed) s s₂
  unfolding shown
  is-exit h k x =
      by-word r (a_stmt indent followed) an_exit 36 (λ a. Exit a) (λ t rest d. let o = tree-at-word (names_in (length s.source.text.now)) s.source.words.now s.at stmt t rest 36 d (is tag.Exit (h ∙ ap Some k)) in (o.0.0, o.1))
      (λ a rest. flat) (λ a rest. refl) (λ a. refl) x

  pub is-return : {s₂ : Printer} {e : StmtTag} → q ≡ Some e → e ≡ tag.Return → Puts (λ rest. bytes "return\n" ++ rest) s₁ s₂ → Told (a_stmt indent followed) s s₂
  unfolding shown
  is-return h k x =
      by-word r (a_stmt indent followed) (free (λ S (u : Unit {0}) rest. rest) (λ S u rest. bytes "return\n" ++ rest)) 37 (λ u. Return) (λ t rest d. let o = tree-at-word (names_in (length s.source.text.now)) s.source.words.now s.at stmt t rest 37 d (is tag.Return (h ∙ ap Some k)) in (tt, o.1))
      (λ a rest n k. tt) (λ a rest. refl) (λ a. refl) (fixed x)

  pub is-probe : {s₂ : Printer} {e : StmtTag} → q ≡ Some e → e ≡ tag.Probe → Prints (an_expression_stmt (bytes "probe ")) s₁ s₂ → Told (a_stmt indent followed) s s₂
  unfolding shown
  is-probe h k x =
      by-word r (a_stmt indent followed) (an_expression_stmt (bytes "probe ")) 38 (λ a. Probe a) (λ t rest d. let o = tree-at-word (names_in (length s.source.text.now)) s.source.words.now s.at stmt t rest 38 d (is tag.Probe (h ∙ ap Some k)) in (o.0.0, o.1))
      (λ a rest. plain) (λ a rest. refl) (λ a. refl) x

  -- no statement has another word
  pub is-none : q ≡ None → Told (a_stmt indent followed) s s₁
  is-none h (VarDecl v i b) rest g d = absurd (no tag.VarDecl h (reads (begin d) r))
  is-none h (Assign n e) rest g d = absurd (no tag.Assign h (reads (begin d) r))
  is-none h (Reinit ns) rest g d = absurd (no tag.Reinit h (reads (begin d) r))
  is-none h (Block ss) rest g d = absurd (no tag.Block h (reads (begin d) r))
  is-none h (Call n cs) rest g d = absurd (no tag.Call h (reads (begin d) r))
  is-none h (Check e) rest g d = absurd (no tag.Check h (reads (begin d) r))
  is-none h (Assume e) rest g d = absurd (no tag.Assume h (reads (begin d) r))
  is-none h (Reach e) rest g d = absurd (no tag.Reach h (reads (begin d) r))
  is-none h (Assert e) rest g d = absurd (no tag.Assert h (reads (begin d) r))
  is-none h (AForall n u b) rest g d = absurd (no tag.AForall h (reads (begin d) r))
  is-none h (Choose ss) rest g d = absurd (no tag.Choose h (reads (begin d) r))
  is-none h (If e b c) rest g d = absurd (no tag.If h (reads (begin d) r))
  is-none h (IfCase cs) rest g d = absurd (no tag.IfCase h (reads (begin d) r))
  is-none h (Loop is b) rest g d = absurd (no tag.Loop h (reads (begin d) r))
  is-none h (LabeledStmt n b) rest g d = absurd (no tag.LabeledStmt h (reads (begin d) r))
  is-none h (Exit l) rest g d = absurd (no tag.Exit h (reads (begin d) r))
  is-none h Return rest g d = absurd (no tag.Return h (reads (begin d) r))
  is-none h (Probe e) rest g d = absurd (no tag.Probe h (reads (begin d) r))

-- a block's statements in the place of the block
pub is-list : {s s₁ s₂ : Printer} {w v : ℕ} → Reads s w s₁ → Looks s 0 v → v ≡ 24 → (indent : ℕ) (followed : Bool) → Prints (statement_list indent) s₁ s₂ → Told (an_inner indent followed) s s₂
unfolding shown
is-list {s} {s₁} {v = v} r l h indent followed x =
    let z : s.at + 0 ≡ s.at = omega arith in
    let e : get_or s.source.words.now s.at 0 ≡ 24 = ap (λ (k : ℕ). get_or s.source.words.now k 0) (sym z) ∙ sym l.word ∙ h in
    by-word r (an_inner indent followed) (statement_list indent) 24 (λ a. Block a)
    (λ t rest d. let o = tree-at-word (names_in (length s.source.text.now)) s.source.words.now s.at stmt t rest 24 d e in (o.0.0, o.1))
    (λ a rest n g. (let k = g.0.room in record { few = g.0.few; short = g.0.short; room = omega arith }, g.1)) (λ a rest. refl) (λ a. refl) x
