-- What a print answers, by cases: the refusals 6, 7 and 8 (REFERENCE, "The refusals"), and the print of the table's tree.
use Rattle.std.specs.Prelude.{ℕ, ◌↔◌, ◌⊎◌, Bool, ◌&&◌, List, ◌++◌, length, drop}
use Rattle.std.proofs.Common.{arith, ap, ◌∙◌, subst, inl, inr}
use Rattle.std.proofs.Math.Path.{◌≡◌, refl, sym}
use Rattle.std.proofs.Math.Bool.{true, false}
use Rattle.std.proofs.Math.Option.{Option, some}
use Rattle.std.proofs.Math.Dec.{leb}
use borrow.Author.Tests.{leb-true, le-leb}
use Rattle.lexing.specs.RunLaws.{pick-cases, both_true}
use Rattle.tree.specs.Clash.{impossible}
use Rattle.tree.specs.Check.{Refusal, oversized, misfitting}
use Rattle.tree.specs.Held.{Held}
use Rattle.tree.specs.HeldLaws as tables
use Rattle.tree.specs.HeldLaws.{Lawful, Table}
use Rattle.rendering.specs.Tables.{Printable, Within}
use Rattle.rendering.specs.TableLaws.{table}
use Rattle.rendering.specs.Errors.{print_too_long, print_error_number, print_error_place, Refuses}
use Rattle.std.specs.Prelude.{Result, Ok, Err}
use Rattle.rendering.specs.declared.PrintError.{PrintError}
use Rattle.printing.specs.Entries.{most_print, written, refusal, outcome_of, stored, print_held, print_table, Answered, Fits}

-- one of the four cases holds of the answer r and of the output afterwards
pub data Answer (P : Printable) (text words out : List ℕ) (r : Result ℕ PrintError) (out' : List ℕ) : Type 0 where
  over : (Within P text words → ⊥) → Refuses r oversized 0 → out' ≡ out → Answer P text words out r out'
  misfit : Within P text words → (place : ℕ) → P.kind.refused words ≡ some (record { number = misfitting; place = place }) → Refuses r misfitting place → out' ≡ out
      → Answer P text words out r out'
  long : Within P text words → (t : P.kind.Tree) → P.kind.words t ≡ words → (Fits (P.print t) out → ⊥) → Refuses r print_too_long 0 → out' ≡ out
      → Answer P text words out r out'
  printed : Within P text words → (t : P.kind.Tree) → P.kind.words t ≡ words → Fits (P.print t) out
      → r ≡ Ok (length (P.print t)) → out' ≡ P.print t ++ drop (length (P.print t)) out
      → Answer P text words out r out'

-- an outcome and the code's answer
is-refused : (r : Result ℕ PrintError) {number place : ℕ} {out out' : List ℕ} → outcome_of r out' ≡ refusal number place out → (Refuses r number place) × (out' ≡ out)
is-refused (Ok n) e = impossible cc
is-refused (Err error) e = (record { error = error; answers = refl; numbered = cc; placed = cc }, cc)

-- a print and the code's answer
is-written : (r : Result ℕ PrintError) {n : ℕ} {after out' : List ℕ} → outcome_of r out' ≡ written n after → (r ≡ Ok n) × (out' ≡ after)
is-written (Ok n) e = (cc, cc)
is-written (Err error) e = impossible cc

module _ (P : Printable) (L : Lawful P.kind) (text words out : List ℕ) (r : Result ℕ PrintError) (out' : List ℕ) where
  -- the cases of a table with a tree's words
  of_tree : Within P text words → (t : P.kind.Tree) → P.kind.words t ≡ words → stored (P.print t) out ≡ outcome_of r out'
      → Answer P text words out r out'
  unfolding stored
  of_tree w t h e =
      pick-cases (leb (length (P.print t)) (length out) && leb (length (P.print t)) most_print) e
      (λ b f. let two = both_true _ _ b in
      let c = is-written r (sym f) in
      printed w t h (record { in-output = leb-true _ _ two.0; in-print = leb-true _ _ two.1 }) c.0 c.1)
      (λ b f. let c = is-refused r (sym f) in
      long w t h
      (λ k. let z : ◌≡◌ {A = Bool} true false = sym (simp (le-leb _ _ k.in-output, le-leb _ _ k.in-print)) ∙ b in
      let y : ◌≡◌ {A = ℕ} 0 1 = cc in absurd (omega arith))
      c.0 c.1)

  -- the cases of a table
  of-table : {h : Held P.kind.Tree} → Table P.kind (Within P text words) words h → print_held P h out ≡ outcome_of r out' → Answer P text words out r out'
  of-table (tables.over n) e = let c = is-refused r (sym e) in over n c.0 c.1
  of-table (tables.misfit w place m) e = let c = is-refused r (sym e) in misfit w place m c.0 c.1
  of-table (tables.tree w t h) e = of_tree w t h e

  -- every answer is one of the four
  pub cases : Answered P text words out r out' → Answer P text words out r out'
  unfolding print_table
  cases a = of-table (table P L text words) (sym a)

-- a refusal has one place
same_place : {q : Option Refusal} {p p' : ℕ} → q ≡ some (record { number = misfitting; place = p }) → q ≡ some (record { number = misfitting; place = p' }) → p ≡ p'
same_place {p = p} {p' = p'} e f =
    let h : ◌≡◌ {A = Refusal} (record { number = misfitting; place = p }) (record { number = misfitting; place = p' }) = cc in ap (λ (r : Refusal). r.place) h

-- two refusals have one number, and no refusal is a print
one_number : {r : Result ℕ PrintError} {m n p q : ℕ} → Refuses r m p → Refuses r n q → m ≡ n
one_number {m = m} {n = n} e f = let h : ◌≡◌ {A = Result ℕ PrintError} (Err e.error) (Err f.error) = sym e.answers ∙ f.answers in let k : e.error ≡ f.error = cc in sym e.numbered ∙ ap print_error_number k ∙ f.numbered

-- and one place
one_place : {r : Result ℕ PrintError} {m n p q : ℕ} → Refuses r m p → Refuses r n q → p ≡ q
one_place e f =
    let h : ◌≡◌ {A = Result ℕ PrintError} (Err e.error) (Err f.error) = sym e.answers ∙ f.answers in
    let k : e.error ≡ f.error = cc in
    sym e.placed ∙ ap print_error_place k ∙ f.placed

-- no refusal is a print
not_written : {Q : Type 0} {r : Result ℕ PrintError} {n m p : ℕ} → r ≡ Ok n → Refuses r m p → Q
not_written e f = let h = f.answers in impossible cc

-- ---- what the claims cite

module _ (P : Printable) (L : Lawful P.kind) (text words out : List ℕ) (r : Result ℕ PrintError) (out' : List ℕ) (a : Answered P text words out r out') where
  abbrev T : Type 0
  T = P.kind.Tree

  abbrev print : T → List ℕ
  print t = P.print t

  abbrev answer : Answer P text words out r out'
  answer = cases P L text words out r out' a

  -- a table that holds a tree is no misfit
  held : (t : T) → P.kind.words t ≡ words → Within P text words → {place : ℕ} → P.kind.refused words ≡ some (record { number = misfitting; place = place }) → ⊥
  held t h w m = let e = (P.kind.unrefused words).1 (w.words-fit, (t, h)) in impossible cc

  -- a print of one tree with the table's words fits where that of another does
  fits-too : (t u : T) → P.kind.words t ≡ words → P.kind.words u ≡ words → Fits (print t) out → Fits (print u) out
  fits-too t u h i f = subst (λ (x : T). Fits (print x) out) (L.same words t u h i) f

  -- a tree whose print fits is printed
  pub tree-printed : (t : T) → P.kind.words t ≡ words → Within P text words → Fits (print t) out
      → (r ≡ Ok (length (print t))) × (out' ≡ print t ++ drop (length (print t)) out)
  tree-printed t h w f =
      elim answer [
        | over n e k ↦ absurd (n w)
        | misfit v place m e k ↦ absurd (held t h w m)
        | long v u i n e k ↦ absurd (n (fits-too t u h i f))
        | printed v u i g e k ↦
            subst (λ (x : T). (r ≡ Ok (length (print x))) × (out' ≡ print x ++ drop (length (print x)) out)) (L.same words u t i h) (e, k)
      ]

  -- what is written is such a print
  pub written-tree : (n : ℕ) → r ≡ Ok n → Within P text words × ((t : T) × ((P.kind.words t ≡ words) × Fits (print t) out))
  written-tree n e =
      elim answer [
        | over m f k ↦ not_written e f
        | misfit v place m f k ↦ not_written e f
        | long v u i m f k ↦ not_written e f
        | printed v u i g f k ↦ (v, (u, (i, g)))
      ]

  -- refusal 6 exactly past the limits
  pub refused-6 : (Refuses r oversized 0) ↔ (Within P text words → ⊥)
  refused-6 = (
    λ e w. elim answer [
      | over n f k ↦ n w
      | misfit v place m f k ↦ let z : ◌≡◌ {A = ℕ} 6 7 = one_number e f in omega arith
      | long v u i n f k ↦ let z : ◌≡◌ {A = ℕ} 6 8 = one_number e f in omega arith
      | printed v u i g f k ↦ not_written f e
    ],
    λ n. elim answer [ over m f k ↦ f | misfit v place m f k ↦ absurd (n v) | long v u i m f k ↦ absurd (n v) | printed v u i g f k ↦ absurd (n v) ],
  )

  -- refusal 7 exactly where the check refuses by 7, at its place
  pub refused-7-place : (place : ℕ)
      → (Refuses r misfitting place) ↔ (Within P text words × (P.kind.refused words ≡ some (record { number = misfitting; place = place })))
  refused-7-place place = (
    λ e. elim answer [
      | over n f k ↦ let z : ◌≡◌ {A = ℕ} 7 6 = one_number e f in absurd (omega arith)
      | misfit v at m f k ↦ (v, m ∙ ap (λ (p : ℕ). some (record { number = misfitting; place = p })) (one_place f e))
      | long v u i n f k ↦ let z : ◌≡◌ {A = ℕ} 7 8 = one_number e f in absurd (omega arith)
      | printed v u i g f k ↦ not_written f e
    ],
    λ h. elim answer [
      | over n f k ↦ absurd (n h.0)
      | misfit v at m f k ↦ subst (Refuses r misfitting) (same_place m h.1) f
      | long v u i n f k ↦ absurd (held u i v h.1)
      | printed v u i g f k ↦ absurd (held u i v h.1)
    ],
  )

  -- and exactly where the table holds no tree
  pub refused-7 : ((place : ℕ) × (Refuses r misfitting place)) ↔ (Within P text words × ((t : T) → P.kind.words t ≡ words → ⊥))
  refused-7 = (
    λ e. let h = (refused-7-place e.0).0 e.1 in (h.0, λ t i. held t i h.0 h.1),
    λ h. elim answer [
      | over n f k ↦ absurd (n h.0)
      | misfit v at m f k ↦ (at, f)
      | long v u i n f k ↦ absurd (h.1 u i)
      | printed v u i g f k ↦ absurd (h.1 u i)
    ],
  )

  -- refusal 8 exactly where the print does not fit
  pub refused-8 : (Refuses r print_too_long 0) ↔ (Within P text words × ((t : T) × ((P.kind.words t ≡ words) × (Fits (print t) out → ⊥))))
  refused-8 = (
    λ e. elim answer [
      | over n f k ↦ let z : ◌≡◌ {A = ℕ} 8 6 = one_number e f in absurd (omega arith)
      | misfit v place m f k ↦ let z : ◌≡◌ {A = ℕ} 8 7 = one_number e f in absurd (omega arith)
      | long v u i n f k ↦ (v, (u, (i, n)))
      | printed v u i g f k ↦ not_written f e
    ],
    λ h. elim answer [
      | over n f k ↦ absurd (n h.0)
      | misfit v place m f k ↦ absurd (held h.1.0 h.1.1.0 v m)
      | long v u i n f k ↦ f
      | printed v u i g f k ↦ absurd (h.1.1.1 (fits-too u h.1.0 i h.1.1.0 g))
    ],
  )

  -- no other refusal, and the output stays
  pub refusal-keeps : (number place : ℕ) → Refuses r number place → ((Refuses r oversized 0) ⊎ (Refuses r misfitting place) ⊎ (Refuses r print_too_long 0)) × (out' ≡ out)
  refusal-keeps number place e =
      elim answer [
        | over n f k ↦ (inl f, k)
        | misfit v at m f k ↦ (inr (inl (subst (Refuses r misfitting) (one_place f e) f)), k)
        | long v u i n f k ↦ (inr (inr f), k)
        | printed v u i g f k ↦ not_written f e
      ]
