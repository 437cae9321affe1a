-- The check's answers as refusals (REFERENCE, "The refusals"), and which tables each refusal has.
use Rattle.std.specs.Prelude.{Ok, Err}
use Rattle.std.specs.Prelude.{ℕ, suc, ◌-◌, ◌≤◌, ◌<◌, ◌≡◌, refl, ◌↔◌, Bool, true, false, cond, List, [], ◌∷◌, ◌++◌, length, leb}
use Rattle.std.proofs.Common.{arith, ap, leb-false}
use Rattle.std.proofs.Math.Logic.Iff
use Rattle.std.proofs.Math.Option.{Option, none, some}
use Rattle.std.proofs.lemmas.Bool.{lt-leb}
use Rattle.tree.specs.Clash.{impossible}
use Rattle.tree.specs.Ast.{Expr, Program}
use Rattle.tree.specs.Words.{expr_words, program_words}
use Rattle.tree.specs.Limits.{most_words}
use Rattle.tree.specs.Kind.{Kind, expr, program_fields, fits, misfit, turn, Turn}
use Rattle.tree.specs.Check.{one_tree, Checked, NameIn, run, within, check, check_expression, check_program, Refusal, refusal, expression_refusal, program_refusal}
use Rattle.tree.specs.Tables as tables
use Rattle.tree.specs.declared.CheckError.TheVariants.{Misfit, TooManyWords}

-- the parts of a refusal, 0 where there is none
number_of : Option Refusal → ℕ
number_of none = 0
number_of (some r) = r.number

place_of : Option Refusal → ℕ
place_of none = 0
place_of (some r) = r.place

-- one tree's words, and no other answer, have no refusal
pub no-refusal : (c : Checked) → (refusal c ≡ none) ↔ (c ≡ one_tree)
no-refusal (Ok u) = (λ e. refl, λ e. refl)
no-refusal (Err (Misfit at)) = (λ e. cc, λ e. cc)
no-refusal (Err TooManyWords) = (λ e. cc, λ e. cc)

-- a misfit, and no other answer, has refusal 7, at its place
pub refusal-7 : (c : Checked) (place : ℕ) → (refusal c ≡ some (record { number = 7; place = place })) ↔ (c ≡ Err (Misfit place))
unfolding number_of place_of
refusal-7 (Ok u) place = (λ e. cc, λ e. cc)
refusal-7 (Err (Misfit at)) place = (λ e. ap (λ r. Err (Misfit (place_of r))) e, λ e. ap refusal e)
refusal-7 (Err TooManyWords) place = (λ e. let h : ◌≡◌ {A = ℕ} 6 7 = ap number_of e in absurd (omega arith), λ e. cc)

-- the refusal tells the answer
refusal-injective : (c d : Checked) → refusal c ≡ refusal d → c ≡ d
unfolding number_of
refusal-injective c (Ok u) e = (no-refusal c).0 e
refusal-injective c (Err (Misfit at)) e = (refusal-7 c at).0 e
refusal-injective (Ok u) (Err TooManyWords) e = cc
refusal-injective (Err (Misfit at)) (Err TooManyWords) e = let h : ◌≡◌ {A = ℕ} 7 6 = ap number_of e in absurd (omega arith)
refusal-injective (Err TooManyWords) (Err TooManyWords) e = refl

-- a run over the words never says that there are too many
run-counts-none : (inside : ℕ → ℕ → Bool) (ks : List Kind) (at : ℕ) (ws : List ℕ) → run inside ks at ws ≡ Err TooManyWords → ⊥
unfolding run
run-counts-none inside [] at [] e = impossible cc
run-counts-none inside (k ∷ ks) at [] e = impossible cc
run-counts-none inside [] at (w ∷ ws) e = impossible cc
run-counts-none inside (k ∷ ks) at (w ∷ ws) e = by_turn (turn inside k w) e (λ fs. run-counts-none inside (fs ++ ks) (suc at) ws)
  where
    by_turn : (t : Turn) → ◌≡◌ {A = Checked} (elim t [ fits fs ↦ run inside (fs ++ ks) (suc at) ws | misfit back ↦ Err (Misfit (at - back)) ]) (Err TooManyWords)
        → ((fs : List Kind) → run inside (fs ++ ks) (suc at) ws ≡ Err TooManyWords → ⊥) → ⊥
    by_turn (fits fs) e f = f fs e
    by_turn (misfit back) e f = impossible cc

-- more words than the limit, and no other table, have refusal 6
pub refusal-6 : (ks : List Kind) (words : List ℕ) (len : ℕ) → (refusal (check ks words len) ≡ some (record { number = 6; place = 0 })) ↔ (most_words < length words)
unfolding number_of
refusal-6 ks words len = (λ e. leb-false _ _ (few (leb (length words) most_words) refl e), λ h. ap (λ b. refusal (cond b (run (within len) ks 0 words) (Err TooManyWords))) (lt-leb _ _ h))
  where
    six : (c : Checked) → refusal c ≡ some (record { number = 6; place = 0 }) → c ≡ Err TooManyWords
    six (Ok u) e = cc
    six (Err (Misfit at)) e = let h : ◌≡◌ {A = ℕ} 7 6 = ap number_of e in absurd (omega arith)
    six (Err TooManyWords) e = refl

    few : (b : Bool) → leb (length words) most_words ≡ b → refusal (cond b (run (within len) ks 0 words) (Err TooManyWords)) ≡ some (record { number = 6; place = 0 })
        → leb (length words) most_words ≡ false
    few true p e = absurd (run-counts-none (within len) ks 0 words (six _ e))
    few false p e = p

-- an answer with the refusal of a table is the check's
pub expression-answer : (words : List ℕ) (len : ℕ) {c : Checked} → refusal c ≡ expression_refusal words len → c ≡ check_expression words len
unfolding expression_refusal
expression-answer words len e = refusal-injective _ _ e

pub program-answer : (words : List ℕ) (len : ℕ) {c : Checked} → refusal c ≡ program_refusal words len → c ≡ check_program words len
unfolding program_refusal
program-answer words len e = refusal-injective _ _ e

-- ---- the two tables: no refusal, refusal 6, refusal 7

pub expression-unrefused : (words : List ℕ) (len : ℕ)
    → (expression_refusal words len ≡ none) ↔ ((length words ≤ most_words) × ((t : Expr (NameIn len)) × (expr_words (λ n. n.span) t [] ≡ words)))
unfolding expression_refusal
expression-unrefused words len = Iff.trans (no-refusal (check_expression words len)) (tables.expression-accepted words len)

pub expression-too-many : (words : List ℕ) (len : ℕ) → (expression_refusal words len ≡ some (record { number = 6; place = 0 })) ↔ (most_words < length words)
unfolding expression_refusal check_expression
expression-too-many words len = refusal-6 (expr ∷ []) words len

pub expression-misfit : (words : List ℕ) (len p : ℕ) → expression_refusal words len ≡ some (record { number = 7; place = p }) → (p ≤ length words) × (length words ≤ most_words)
unfolding expression_refusal
expression-misfit words len p e = tables.expression-place words len p ((refusal-7 (check_expression words len) p).0 e)

pub program-unrefused : (words : List ℕ) (len : ℕ)
    → (program_refusal words len ≡ none) ↔ ((length words ≤ most_words) × ((p : Program (NameIn len)) × (program_words (λ n. n.span) p [] ≡ words)))
unfolding program_refusal
program-unrefused words len = Iff.trans (no-refusal (check_program words len)) (tables.program-accepted words len)

pub program-too-many : (words : List ℕ) (len : ℕ) → (program_refusal words len ≡ some (record { number = 6; place = 0 })) ↔ (most_words < length words)
unfolding program_refusal check_program
program-too-many words len = refusal-6 program_fields words len

pub program-misfit : (words : List ℕ) (len p : ℕ) → program_refusal words len ≡ some (record { number = 7; place = p }) → (p ≤ length words) × (length words ≤ most_words)
unfolding program_refusal
program-misfit words len p e = tables.program-place words len p ((refusal-7 (check_program words len) p).0 e)
