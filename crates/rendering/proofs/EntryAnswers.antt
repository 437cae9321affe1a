-- What `render` and the functions below it answer, once over the root of a table's tree.
use Prim.Native.Nat.{ℕ, ◌+◌, ◌≤◌, ◌<◌, min}
use native.Mathlib.Omega.{arith}
use mathlib.Core.Path.{◌≡◌, refl, sym, ap, ◌∙◌, subst}
use mathlib.Core.Option.{Option, none}
use mathlib.Core.List.{List, [], append-nil}
use lib.ListN.{length, take}
use lib.Dec.{leb}
use borrow.Author.Tests.{le-leb, lt-leb}
use Rattle.tree.specs.Clash.{impossible}
use Rattle.tree.specs.Limits.{most_text, most_words}
use Rattle.tree.specs.Check.{Refusal, oversized, misfitting}
use Rattle.tree.specs.CountLaws.{expression-counted, program-counted}
use Rattle.rendering.specs.declared.printer.Printer.{Printer}
use Rattle.std.specs.Prelude.{Result, Ok, Err}
use Rattle.tree.specs.Check.{refusal as check_refusal}
use Rattle.tree.specs.declared.CheckError.{CheckError}
use Rattle.tree.specs.declared.CheckError.TheVariants.{Misfit as CheckMisfit, TooManyWords as CheckTooManyWords}
use Rattle.rendering.specs.declared.PrintError.{PrintError}
use Rattle.rendering.specs.declared.PrintError.TheVariants.{Oversized, Misfit, TooLong}
use Rattle.rendering.specs.Errors.{of_check}
use Rattle.rendering.specs.declared.Root.{Root}
use Rattle.rendering.specs.declared.Root.TheVariants.{AnExpression, AProgram}
use Rattle.tree.specs.Held.{TableKind, Held, held, refused}
use Rattle.tree.specs.HeldLaws.{Lawful, expression-laws, program-laws, refuses, long-text, past-limit}
use Rattle.rendering.specs.Tables.{most_indent, Printable, print_of, program_print_of, held_for, Within}
use Rattle.rendering.specs.TableLaws.{holds}
use Rattle.rendering.specs.Wrote.{Wrote}
use Rattle.rendering.specs.Parts.{Prints}
use Rattle.rendering.specs.ExprParts.{widest_step, an_expr}
use Rattle.rendering.specs.DeclParts.{a_program}
use Rattle.layout.specs.PrintUtil.{Init}
use Rattle.layout.specs.Settings.{format_at}
use Rattle.rendering.specs.Render.{root_kind, root_print, root_indent, rooted, root_counts, settings_in, root_part, RootCounted, Numbered, Made, Gives, Renders, Makes}
use Rattle.layout.specs.declared.settings.Settings.{Settings}
use Rattle.layout.specs.Indents.{format-start}

-- ---- from a write to a print

-- what a write of a whole print says of the print's length
whole_length : {X : List ℕ → List ℕ} {b b' : List ℕ} {n : ℕ} → Wrote X b 0 b' n → min n (length b + 1) ≡ min (length (X [])) (length b + 1)
whole_length w = let a = w.adds [] in let p = w.place in omega arith

-- a print that fits the buffer stands at its start
fitting : {X : List ℕ → List ℕ} {b b' : List ℕ} {n : ℕ} → Wrote X b 0 b' n → n ≤ length b' → Made (X []) b (Ok n) b'
fitting {X} {b} {b'} {n} w h =
    let k : n ≤ length b = let s = w.same in omega arith in
    let l : n ≡ length (X []) = let p = whole_length w in omega arith in
    let f : ◌≡◌ {A = Result ℕ PrintError} (Ok n) (Ok (length (X []))) = ap Ok l in
    record {
      answers = f ∙ sym (simp (le-leb (length (X [])) (length b) (omega arith)));
      bytes = λ m e. let same : n ≡ m = cc in rw (sym same) (sym (append-nil (take n b')) ∙ w.bytes k []);
    }

-- a print that is longer than the buffer is refused
longer : {X : List ℕ → List ℕ} {b b' : List ℕ} {n : ℕ} → Wrote X b 0 b' n → length b' < n → Made (X []) b (Err TooLong) b'
longer {X} {b} w h =
    record {
      answers = let p = whole_length w in let s = w.same in sym (simp (lt-leb (length (X [])) (length b) (omega arith)));
      bytes = λ m e. impossible cc;
    }

-- ---- the print of a table's tree

-- an accepted table is no longer than a table may be
few : (K : TableKind) (words : List ℕ) → K.refused words ≡ none → length words ≤ most_words
few K words e = ((K.unrefused words).0 e).0

-- what the check that accepts a table notes are the numbers of items
pub numbered : (text words before : List ℕ) (root : Root) {after : List ℕ} → (length words ≤ most_words → length words ≤ length before)
    → (root_kind text root).refused words ≡ none → after ≡ root_counts root words (length text) before → Numbered text words after root
numbered text words before root {after} h e f =
    let l : length words ≤ most_words = few (root_kind text root) words e in
    record { few = l; counted = λ t d. subst (λ (c : List ℕ). RootCounted text words c root t) (sym f) (by-root root t d l (h l)) }
  where
    by-root : (r : Root) (t : (root_kind text r).Tree) → (root_kind text r).words t ≡ words → length words ≤ most_words → length words ≤ length before
        → RootCounted text words (root_counts r words (length text) before) r t
    by-root (AnExpression indent) t d l m = expression-counted words (length text) before t d l m
    by-root AProgram t d l m = program-counted words (length text) before t d l m

-- the write of a tree's print, by what follows from every write of it
written : (root : Root) {s s' : Printer} {r : Result ℕ PrintError} → s.at ≡ 0 → s.pos ≡ 0 → s.source.step ≤ widest_step → root_indent root ≤ most_indent
    → length s.source.words.now ≤ most_words → Prints (root_part root) s s'
    → ((X : List ℕ → List ℕ) → Wrote X s.out.now 0 s'.out.now s'.pos → Made (X []) s.out.now r s'.out.now)
    → (t : (root_kind s.source.text.now root).Tree) → RootCounted s.source.text.now s.source.words.now s.source.counts.now root t
    → (root_kind s.source.text.now root).words t ≡ s.source.words.now → Made (root_print (settings_in s.source) s.source.text.now root t) s.out.now r s'.out.now
unfolding print_of program_print_of
written (AnExpression indent) {s} e p m i l x k t c f =
    let j = format-start s.source.form indent in
    k _ (rw p at (x.prints t [] (record { few = l; short = m; room = omega arith }, c) (rw e (sym f))).wrote)
written AProgram {s} e p m i l x k t c f = k _ (rw p at (x.prints t [] (record { few = l; short = m; room = omega arith }, c) (rw e (sym f))).wrote)

module _ (root : Root) {s s' : Printer} (e : s.at ≡ 0) (p : s.pos ≡ 0) (m : s.source.step ≤ widest_step) (i : root_indent root ≤ most_indent)
    (n : Numbered s.source.text.now s.source.words.now s.source.counts.now root) (x : Prints (root_part root) s s') where
  -- a print that fits the buffer b', and one that is longer
  pub fits : {b' : List ℕ} → b' ≡ s'.out.now → s'.pos ≤ length s.out.now → Makes (rooted (settings_in s.source) s.source.text.now root) s.source.words.now s.out.now (Ok s'.pos) b'
  fits q h = rw q (record { made = λ t f. written root e p m i n.few x (λ X w. fitting w (let k = w.same in omega arith)) t (n.counted t f) f })

  pub passes : {b' : List ℕ} → b' ≡ s'.out.now → length s.out.now < s'.pos → Makes (rooted (settings_in s.source) s.source.text.now root) s.source.words.now s.out.now (Err TooLong) b'
  passes q h = rw q (record { made = λ t f. written root e p m i n.few x (λ X w. longer w (let k = w.same in omega arith)) t (n.counted t f) f })

-- ---- by the root

-- each root's trees are lawful
pub root_laws : (text : List ℕ) (root : Root) → Lawful (root_kind text root)
root_laws text (AnExpression indent) = expression-laws text
root_laws text AProgram = program-laws text

-- the print of a tree by its root
pub prints-by : {s s' : Printer} {root k : Root} → root ≡ k → Prints (root_part k) s s' → Prints (root_part root) s s'
prints-by {s} {s'} e x = subst (λ (r : Root). Prints (root_part r) s s') (sym e) x

pub prints-expression : {s s' : Printer} {indent : ℕ} → Prints (an_expr Init (format_at s.source.form indent)) s s' → Prints (root_part (AnExpression indent)) s s'
prints-expression x = record { source = x.source; output = x.output; forward = x.forward; prints = x.prints }

pub prints-program : {s s' : Printer} → Prints a_program s s' → Prints (root_part AProgram) s s'
prints-program x = record { source = x.source; output = x.output; forward = x.forward; prints = x.prints }

-- the check of a table by its root
pub checked-by : (text words before : List ℕ) {root k : Root} {q : Option Refusal} {after : List ℕ} → root ≡ k
    → (q ≡ (root_kind text k).refused words) × (after ≡ root_counts k words (length text) before)
    → (q ≡ (root_kind text root).refused words) × (after ≡ root_counts root words (length text) before)
checked-by text words before {q = q} {after = after} e x =
    subst (λ (r : Root). (q ≡ (root_kind text r).refused words) × (after ≡ root_counts r words (length text) before)) (sym e) x

-- ---- the refusals, and the print of an accepted table

module _ (settings : Settings) (root : Root) (text words b b' : List ℕ) where
  abbrev P : Printable
  P = rooted settings text root

  -- what the table is refused by
  by-held : {r : Result ℕ PrintError} (h : Held P.kind.Tree) → held_for P text words ≡ h → Gives P b r b' h → Renders P text words b r b'
  by-held {r} h e g = record { gives = subst (λ (x : Held P.kind.Tree). Gives P b r b' x) (sym e) g }

  -- a text that is too long, and a start indent that is too large, are refused by 6
  pub over-text : most_text < length text → Renders P text words b (Err Oversized) b'
  over-text h = by-held (refused oversized 0) (long-text P.kind text words (leb P.indent most_indent) h) (record { error = Oversized; answers = refl; numbered = refl; placed = refl })

  pub over-indent : most_indent < root_indent root → Renders P text words b (Err Oversized) b'
  over-indent h = by-held (refused oversized 0) (past-limit P.kind text words (lt-leb _ _ h)) (record { error = Oversized; answers = refl; numbered = refl; placed = refl })

  module _ (t : length text ≤ most_text) (i : root_indent root ≤ most_indent) where
    -- the check's refusal is the answer
    pub refused-table : (e : CheckError) → P.kind.refused words ≡ check_refusal (Err e) → Renders P text words b (Err (of_check e)) b'
    refused-table (CheckMisfit place) e =
        by-held (refused misfitting place) (refuses P.kind text words t (le-leb _ _ i) _ e) (record { error = Misfit place; answers = refl; numbered = refl; placed = refl })
    refused-table CheckTooManyWords e =
        by-held (refused oversized 0) (refuses P.kind text words t (le-leb _ _ i) _ e) (record { error = Oversized; answers = refl; numbered = refl; placed = refl })

    -- the print of an unrefused table's tree is the answer
    pub accepted : {r : Result ℕ PrintError} → P.kind.refused words ≡ none → Makes P words b r b' → Renders P text words b r b'
    accepted e x =
        let a = (P.kind.unrefused words).0 e in
        let w : Within P text words = record { text-fits = t; words-fit = a.0; indent-fits = i } in
        by-held (held a.1.0) (holds P (root_laws text root) text words a.1.0 a.1.1 w) (x.made a.1.0 a.1.1)
