-- What is proved of the judgement of a table, beside the contract of `judge_program`.
use Rattle.std.specs.Prelude.{ℕ, ◌≤◌, ◌<◌, ◌≡◌, refl, ◌↔◌, true, List, length, Option, Some, None}
use Rattle.std.proofs.Common.{arith, sym, ap, ◌∙◌, subst, ⊎_elim}
use Rattle.std.proofs.lemmas.Bool.{cases_lt}
use Rattle.std.proofs.Math.Option.{some}
use Rattle.tree.specs.Clash.{impossible}
use Rattle.tree.specs.Ast.{Program}
use Rattle.tree.specs.Check.{NameIn, program_refusal}
use Rattle.tree.specs.Refused.{program-misfit}
use Rattle.tree.specs.Held.{Held, held, refused as refused_by, program_held, program_tables, HoldsProgram, InLimits}
use Rattle.tree.specs.HeldLaws.{Table, over as over_limits, misfit as misfits, tree, program-table, program-laws, holds}
use Rattle.profile.specs.Profile.{Judgement, fits, breach, refused, places, broken, verdict, judge_held, judge_program}
use Rattle.profile.specs.Rules.{table, Broken, statement, procedure, loop, exit}
use Rattle.profile.specs.Parts.{KeepsRules}
use Rattle.profile.proofs.PlaceLaws.{at_places}
use Rattle.profile.proofs.PartLaws.{unbroken-keeps}
use Rattle.profile.proofs.RuleLaws.{broken-found, found-broken, broken-in}
use Rattle.profile.proofs.VerdictLaws.{First, Verdict, keeps, breaks, verdict-of, found-none, found-first}

module _ (text : List ℕ) (p : Program (NameIn (length text))) where
  -- ---- what can be broken

  -- At one place no two rules are broken,
  pub one-rule : {rule other at : ℕ} → Broken text p rule at → Broken text p other at → rule ≡ other
  one-rule {rule} {other} b c = some-same (sym (found-broken text p b) ∙ found-broken text p c)
    where
      some-same : ◌≡◌ {A = Option ℕ} (Some rule) (Some other) → rule ≡ other
      some-same e = cc

  -- it is one of four, and the place is a word's.
  pub rule-numbers : {rule at : ℕ} → Broken text p rule at → (1 ≤ rule) × (rule ≤ 4)
  rule-numbers (statement f u) = (omega arith, omega arith)
  rule-numbers (procedure f e) = (omega arith, omega arith)
  rule-numbers (loop f) = (omega arith, omega arith)
  rule-numbers (exit f out) = (omega arith, omega arith)

  pub broken-place : {rule at : ℕ} → Broken text p rule at → at < length (table text p)
  broken-place = broken-in text p

  -- ---- the verdict on the program's words

  -- at a place where the trees break no rule, none is found
  unbroken : (at : ℕ) → at < length (table text p) → ((rule : ℕ) → Broken text p rule at → ⊥) → broken (at_places text p) text at ≡ None
  unbroken at h never = by-rule (broken (at_places text p) text at) refl
    where
      by-rule : (o : Option ℕ) → broken (at_places text p) text at ≡ o → o ≡ None
      by-rule None e = refl
      by-rule (Some rule) e = absurd (never rule (broken-found text p at rule h e))

  verdict-fits : (verdict text (table text p) ≡ fits) ↔ ((rule at : ℕ) → Broken text p rule at → ⊥)
  unfolding verdict
  verdict-fits = (
    λ e rule at b. by-verdict rule at b (verdict-of (broken (at_places text p) text) (length (table text p)) 0) e,
    λ never. sym (found-none (broken (at_places text p) text) (length (table text p)) (λ i h. unbroken i h (λ rule. never rule i))),
  )
    where
      by-verdict : (rule at : ℕ) → Broken text p rule at → {j : Judgement} → Verdict (broken (at_places text p) text) (length (table text p)) 0 j → j ≡ fits → ⊥
      by-verdict rule at b (keeps k) e =
          let n = k at (omega arith) (omega (arith, broken-in text p b)) in
          let s = found-broken text p b in
          impossible cc
      by-verdict rule at b (breaks f) e = impossible cc

  verdict-breach : (rule at : ℕ) → (verdict text (table text p) ≡ breach rule at) ↔ (Broken text p rule at × ((other i : ℕ) → Broken text p other i → at ≤ i))
  unfolding verdict
  verdict-breach rule at = (
    λ e. by-verdict (verdict-of (broken (at_places text p) text) (length (table text p)) 0) e,
    λ b. sym (found-first (broken (at_places text p) text) (length (table text p)) (broken-in text p b.0) (found-broken text p b.0)
        (λ i h. unbroken i (omega (arith, h, broken-in text p b.0)) (λ other c. let l = b.1 other i c in omega arith))),
  )
    where
      earliest : {n i : ℕ} → First (broken (at_places text p) text) (length (table text p)) 0 n i → Broken text p n i × ((other k : ℕ) → Broken text p other k → i ≤ k)
      earliest {n} {i} f = (
        broken-found text p i n (omega (arith, f.before-end)) f.broken,
        λ other k b. ⊎_elim (λ l. let e = f.kept k (omega arith) l in let s = found-broken text p b in impossible cc) (λ l. l) (cases_lt k i),
      )

      by-verdict : {j : Judgement} → Verdict (broken (at_places text p) text) (length (table text p)) 0 j → j ≡ breach rule at
          → Broken text p rule at × ((other i : ℕ) → Broken text p other i → at ≤ i)
      by-verdict (keeps k) e = impossible cc
      by-verdict (breaks {number = n} {place = i} f) e =
          let a : n ≡ rule = cc in
          let b : i ≡ at = cc in
          subst (λ (r : ℕ). Broken text p r at × ((other k : ℕ) → Broken text p other k → at ≤ k)) a
          (subst (λ (x : ℕ). Broken text p n x × ((other k : ℕ) → Broken text p other k → x ≤ k)) b (earliest f))

-- ---- the judgement of a table

-- A table that holds a program within the limits is judged by its words.
pub held-judged : (text words : List ℕ) → InLimits text words → (p : Program (NameIn (length text))) → HoldsProgram text words p
    → judge_program text words ≡ verdict text words
unfolding judge_program
held-judged text words l p e =
    ap (judge_held text words) (holds (program_tables (length text)) text words (program-laws text) p e {others = true} l.text-fits l.words-fit refl)

module _ (text words : List ℕ) (limits : InLimits text words) (p : Program (NameIn (length text))) (holds : HoldsProgram text words p) where
  its-verdict : judge_program text words ≡ verdict text (table text p)
  its-verdict = held-judged text words limits p holds ∙ ap (verdict text) (sym holds)

  -- It fits exactly when no rule is broken anywhere;
  pub fits-exactly : (judge_program text words ≡ fits) ↔ ((rule at : ℕ) → Broken text p rule at → ⊥)
  fits-exactly = (λ e. (verdict-fits text p).0 (sym its-verdict ∙ e), λ never. its-verdict ∙ (verdict-fits text p).1 never)

  -- and a breach is answered exactly when that rule is broken at that place, and none at an earlier one.
  pub breach-exactly : (rule at : ℕ) → (judge_program text words ≡ breach rule at) ↔ (Broken text p rule at × ((other i : ℕ) → Broken text p other i → at ≤ i))
  breach-exactly rule at = (λ e. (verdict-breach text p rule at).0 (sym its-verdict ∙ e), λ b. its-verdict ∙ (verdict-breach text p rule at).1 b)

  -- The rules as they are said of the program's parts, with the labels around each: it fits exactly when all of them are kept.
  pub fits-kept : (judge_program text words ≡ fits) ↔ KeepsRules text p
  fits-kept = (λ e. (unbroken-keeps text p).0 (fits-exactly.0 e), λ k. fits-exactly.1 ((unbroken-keeps text p).1 k))

-- Every other table is refused, by 6 past the limits and else by 7, as for a print of a program.
pub data Judged (text words : List ℕ) : Judgement → Type 0 where
  over : (InLimits text words → ⊥) → Judged text words (refused 6 0)
  misfit : InLimits text words → (place : ℕ) → program_refusal words (length text) ≡ some (record { number = 7; place = place }) → place ≤ length words → Judged text words (refused 7 place)
  program : InLimits text words → (p : Program (NameIn (length text))) → HoldsProgram text words p → Judged text words (verdict text words)

pub judged : (text words : List ℕ) → Judged text words (judge_program text words)
unfolding judge_program
judged text words = by-table (program-table text words)
  where
    by-table : {h : Held (Program (NameIn (length text)))} → Table (program_tables (length text)) (InLimits text words) words h → Judged text words (judge_held text words h)
    by-table (over_limits h) = over h
    by-table (misfits l place e) = misfit l place e (program-misfit words (length text) place e).0
    by-table (tree l p e) = program l p e

-- a verdict is no refusal
never-refused : (text words : List ℕ) {number place : ℕ} → verdict text words ≡ refused number place → ⊥
unfolding verdict
never-refused text words e = by-verdict (verdict-of (broken (places words (length text)) text) (length words) 0) e
  where
    by-verdict : {j : Judgement} → Verdict (broken (places words (length text)) text) (length words) 0 j → {number place : ℕ} → j ≡ refused number place → ⊥
    by-verdict (keeps k) e = impossible cc
    by-verdict (breaks f) e = impossible cc

-- So the judgement refuses exactly what a print of a program refuses by 6 and 7.
pub refused-exactly : (text words : List ℕ) (number place : ℕ) → (judge_program text words ≡ refused number place) ↔ (program_held text words ≡ refused_by number place)
unfolding judge_program
refused-exactly text words number place = (λ e. by-held (program_held text words) e, λ e. ap (judge_held text words) e)
  where
    by-held : (h : Held (Program (NameIn (length text)))) → judge_held text words h ≡ refused number place → h ≡ refused_by number place
    by-held (held p) e = absurd (never-refused text words e)
    by-held (refused_by n at) e = cc
