-- From lists of expected kinds to the two tables: an expression's and a program's.
use Rattle.std.specs.Prelude.{Err}
use Rattle.std.specs.Prelude.{ℕ, suc, ◌+◌, ◌-◌, ◌≤◌, ◌≡◌, refl, Bool, true, false, cond, ◌↔◌, List, [], ◌∷◌, ◌++◌, length, leb}
use Rattle.std.proofs.Common.{arith, ap, leb-true, le-leb}
use Rattle.tree.specs.Limits.{most_words}
use Rattle.tree.specs.Clash.{impossible}
use Rattle.tree.specs.Ast.{Span, Expr, Program}
use Rattle.tree.specs.Words.{expr_words, program_words}
use Rattle.tree.specs.Kind.{Kind, expr, program_fields, Turn, fits, misfit, turn}
use Rattle.tree.specs.Check.{one_tree, Checked, NameIn, within, run, check, check_expression, check_program}
use Rattle.tree.specs.Trees.{Names, Trees, all_words, spans, names_in}
use Rattle.tree.specs.Accepted.{sound, complete, unique}
use Rattle.tree.specs.declared.CheckError.TheVariants.{Misfit, TooManyWords}

-- one tree of each kind in turn, and no more words than the limit
accepted : (ks : List Kind) (words : List ℕ) (len : ℕ)
    → (check ks words len ≡ one_tree) ↔ ((length words ≤ most_words) × ((ts : Trees (names_in len) ks) × (all_words (names_in len) ks ts [] ≡ words)))
accepted ks words len = (to (leb (length words) most_words) refl, λ h. from (leb (length words) most_words) (le-leb _ _ h.0) h.1)
  where
    Answer : Bool → Checked
    Answer b = cond b (run (within len) ks 0 words) (Err TooManyWords)

    to : (b : Bool) → leb (length words) most_words ≡ b → Answer b ≡ one_tree
        → (length words ≤ most_words) × ((ts : Trees (names_in len) ks) × (all_words (names_in len) ks ts [] ≡ words))
    to true h e = (leb-true _ _ h, sound (names_in len) ks 0 words e)
    to false h e = impossible cc

    from : (b : Bool) → b ≡ true → (ts : Trees (names_in len) ks) × (all_words (names_in len) ks ts [] ≡ words) → Answer b ≡ one_tree
    from true h t = complete (names_in len) ks 0 words t.0 t.1
    from false h t = impossible cc

-- a program is its five sequences
module _ (I : Names) where
  abbrev pub to_program : Trees I program_fields → Program I.N
  to_program ts = record { types = ts.0; taggers = ts.1.0; functions = ts.1.1.0; axioms = ts.1.1.1.0; procedures = ts.1.1.1.1.0 }

  abbrev pub from_program : Program I.N → Trees I program_fields
  from_program p = (p.types, (p.taggers, (p.functions, (p.axioms, (p.procedures, tt)))))

pub expression-accepted : (words : List ℕ) (len : ℕ)
    → (check_expression words len ≡ one_tree) ↔ ((length words ≤ most_words) × ((t : Expr (NameIn len)) × (expr_words (λ n. n.span) t [] ≡ words)))
unfolding check_expression
expression-accepted words len =
    let a = accepted (expr ∷ []) words len in
    ((λ e. let r = a.0 e in (r.0, (r.1.0.0, r.1.1))), (λ h. a.1 (h.0, ((h.1.0, tt), h.1.1))))

pub program-accepted : (words : List ℕ) (len : ℕ)
    → (check_program words len ≡ one_tree) ↔ ((length words ≤ most_words) × ((p : Program (NameIn len)) × (program_words (λ n. n.span) p [] ≡ words)))
unfolding check_program
program-accepted words len =
    let a = accepted program_fields words len in (
      (λ e. let r = a.0 e in (r.0, (to_program (names_in len) r.1.0, r.1.1))),
      (λ h. a.1 (h.0, (from_program (names_in len) h.1.0, h.1.1))),
    )

pub expression-unique : (t t' : Expr Span) (rest rest' : List ℕ) → expr_words (λ s. s) t rest ≡ expr_words (λ s. s) t' rest' → (t ≡ t') × (rest ≡ rest')
expression-unique t t' rest rest' e =
    let u = unique spans (expr ∷ []) (expr_words (λ s. s) t' rest') (t, tt) (t', tt) rest rest' e refl in
    (ap (λ (ts : Trees spans (expr ∷ [])). ts.0) u.0, u.1)

pub program-unique : (p p' : Program Span) (rest rest' : List ℕ) → program_words (λ s. s) p rest ≡ program_words (λ s. s) p' rest' → (p ≡ p') × (rest ≡ rest')
program-unique p p' rest rest' e =
    let u = unique spans program_fields (program_words (λ s. s) p' rest') (from_program spans p) (from_program spans p') rest rest' e refl in
    (ap (to_program spans) u.0, u.1)

-- a misfit's place is at most the word count
run-place : (inside : ℕ → ℕ → Bool) (ks : List Kind) (at : ℕ) (ws : List ℕ) (p : ℕ) → run inside ks at ws ≡ Err (Misfit p) → p ≤ at + length ws
unfolding run
run-place inside [] at [] p e = impossible cc
run-place inside (k ∷ ks) at [] p e = let q : at ≡ p = cc in omega arith
run-place inside [] at (w ∷ ws) p e = let q : at ≡ p = cc in omega arith
run-place inside (k ∷ ks) at (w ∷ ws) p e = by_turn (turn inside k w) e (λ fs h. run-place inside (fs ++ ks) (suc at) ws p h)
  where
    by_turn : (u : Turn) → ◌≡◌ {A = Checked} (elim u [ fits fs ↦ run inside (fs ++ ks) (suc at) ws | misfit b ↦ Err (Misfit (at - b)) ]) (Err (Misfit p))
        → ((fs : List Kind) → run inside (fs ++ ks) (suc at) ws ≡ Err (Misfit p) → p ≤ suc at + length ws) → p ≤ at + suc (length ws)
    by_turn (fits fs) h ih = let q = ih fs h in omega arith
    by_turn (misfit b) h ih = let q : at - b ≡ p = cc in omega arith

-- a table's misfit has a place of at most the word count, and the words are within the limit
place : (ks : List Kind) (words : List ℕ) (len p : ℕ) → check ks words len ≡ Err (Misfit p) → (p ≤ length words) × (length words ≤ most_words)
place ks words len p = by-test (leb (length words) most_words) refl
  where
    by-test : (b : Bool) → leb (length words) most_words ≡ b → cond b (run (within len) ks 0 words) (Err TooManyWords) ≡ Err (Misfit p) → (p ≤ length words) × (length words ≤ most_words)
    by-test true h e = let q = run-place (within len) ks 0 words p e in (omega arith, leb-true _ _ h)
    by-test false h e = impossible cc

pub expression-place : (words : List ℕ) (len p : ℕ) → check_expression words len ≡ Err (Misfit p) → (p ≤ length words) × (length words ≤ most_words)
unfolding check_expression
expression-place words len p e = place (expr ∷ []) words len p e

pub program-place : (words : List ℕ) (len p : ℕ) → check_program words len ≡ Err (Misfit p) → (p ≤ length words) × (length words ≤ most_words)
unfolding check_program
program-place words len p e = place program_fields words len p e
