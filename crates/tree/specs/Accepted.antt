-- The check accepts exactly the words of a tree over names inside the text, and the words determine the tree. Stated over lists of expected
-- kinds and any test of names.
use Rattle.std.specs.Prelude.{Err}
use Rattle.std.specs.Prelude.{ℕ, suc, ◌-◌, ◌≡◌}
use Rattle.std.proofs.Math.Path.{refl, ap, subst}
use Rattle.std.proofs.Common.{sym, ◌∙◌}
use Rattle.std.proofs.Math.Option.{Option, none, some}
use mathlib.Core.List.{List, [], ◌∷◌, ◌++◌}
use Rattle.tree.specs.Clash.{impossible}
use Rattle.tree.specs.Kind.{Kind, Turn, fits, misfit, turn}
use Rattle.tree.specs.Check.{Checked, one_tree, run}
use Rattle.tree.specs.Trees.{Names, Tree, Trees, all_words, apply, Form}
use Rattle.tree.specs.Forms.{form}
use Rattle.tree.specs.FormLaws.{Agrees, agree, Spells, spells}
use Rattle.tree.specs.Opened.{Opened, opened, some_word, join, front, back, join-words, split-words, join-same}
use Rattle.tree.specs.declared.CheckError.TheVariants.{Misfit}

module _ (I : Names) where
  -- ---- accepted words are a tree's

  abbrev Spelt : List Kind → List ℕ → Type 0
  Spelt ks ws = (ts : Trees I ks) × (all_words I ks ts [] ≡ ws)

  pub sound : (ks : List Kind) (at : ℕ) (ws : List ℕ) → run I.inside ks at ws ≡ one_tree → (ts : Trees I ks) × (all_words I ks ts [] ≡ ws)
  unfolding run
  sound [] at [] e = (tt, refl)
  sound (k ∷ ks) at [] e = impossible cc
  sound [] at (w ∷ ws) e = impossible cc
  sound (k ∷ ks) at (w ∷ ws) e =
      by_turn (turn I.inside k w) (form I k w) (agree I k w) (spells I k w) e (λ fs h. sound (fs ++ ks) (suc at) ws h)
    where
      by_turn : (u : Turn) (o : Option (Form I (Tree I k))) → Agrees I u o → Spells I k w o
          → ◌≡◌ {A = Checked} (elim u [ fits fs ↦ run I.inside (fs ++ ks) (suc at) ws | misfit b ↦ Err (Misfit (at - b)) ]) one_tree
          → ((fs : List Kind) → run I.inside (fs ++ ks) (suc at) ws ≡ one_tree → Spelt (fs ++ ks) ws) → Spelt (k ∷ ks) (w ∷ ws)
      by_turn (fits fs) none a s h ih = absurd a
      by_turn (fits fs) (some f) a s h ih =
          let p : Spelt (f.fields ++ ks) ws = subst (λ (x : List Kind). Spelt (x ++ ks) ws) a (ih fs h) in (
            (apply I f.fields f.make (front I f.fields ks p.0), back I f.fields ks p.0),
            s (front I f.fields ks p.0) (all_words I ks (back I f.fields ks p.0) [])
                ∙ ap (λ (x : List ℕ). w ∷ x) (sym (split-words I f.fields ks p.0 []) ∙ p.1),
          )
      by_turn (misfit b) none a s h ih = impossible cc
      by_turn (misfit b) (some f) a s h ih = absurd a

  -- ---- a tree's words are accepted

  pub complete : (ks : List Kind) (at : ℕ) (ws : List ℕ) (ts : Trees I ks) → all_words I ks ts [] ≡ ws → run I.inside ks at ws ≡ one_tree
  unfolding run
  complete [] at [] ts e = refl
  complete (k ∷ ks) at [] ts e = absurd (some_word I k ts.0 (all_words I ks ts.1 []) e)
  complete [] at (w ∷ ws) ts e = impossible cc
  complete (k ∷ ks) at (w ∷ ws) ts e =
      by_turn (turn I.inside k w) (form I k w) (agree I k w) (opened I k ts.0 (all_words I ks ts.1 []) w ws e)
      (λ fs us h. complete (fs ++ ks) (suc at) ws us h)
    where
      by_turn : (u : Turn) (o : Option (Form I (Tree I k))) → Agrees I u o → Opened I o ts.0 (all_words I ks ts.1 []) ws
          → ((fs : List Kind) (us : Trees I (fs ++ ks)) → all_words I (fs ++ ks) us [] ≡ ws → run I.inside (fs ++ ks) (suc at) ws ≡ one_tree)
          → ◌≡◌ {A = Checked} (elim u [ fits fs ↦ run I.inside (fs ++ ks) (suc at) ws | misfit b ↦ Err (Misfit (at - b)) ]) one_tree
      by_turn (fits fs) none a o ih = absurd o
      by_turn (fits fs) (some f) a o ih =
          subst (λ (x : List Kind). run I.inside (x ++ ks) (suc at) ws ≡ one_tree) (sym a)
          (ih f.fields (join I f.fields ks o.0 ts.1) (join-words I f.fields ks o.0 ts.1 [] ∙ o.2))
      by_turn (misfit b) none a o ih = absurd o
      by_turn (misfit b) (some f) a o ih = absurd a

  -- ---- the words determine the trees, and the rest

  pub unique : (ks : List Kind) (ws : List ℕ) (ts ts' : Trees I ks) (rest rest' : List ℕ)
      → all_words I ks ts rest ≡ ws → all_words I ks ts' rest' ≡ ws → (ts ≡ ts') × (rest ≡ rest')
  unique [] [] ts ts' rest rest' e e' = (refl, cc)
  unique [] (w ∷ ws) ts ts' rest rest' e e' = (refl, cc)
  unique (k ∷ ks) [] ts ts' rest rest' e e' = absurd (some_word I k ts.0 (all_words I ks ts.1 rest) e)
  unique (k ∷ ks) (w ∷ ws) ts ts' rest rest' e e' =
      by_form (form I k w) (opened I k ts.0 (all_words I ks ts.1 rest) w ws e) (opened I k ts'.0 (all_words I ks ts'.1 rest') w ws e')
      (λ fs us us' h h'. unique (fs ++ ks) ws us us' rest rest' h h')
    where
      by_form : (o : Option (Form I (Tree I k))) → Opened I o ts.0 (all_words I ks ts.1 rest) ws → Opened I o ts'.0 (all_words I ks ts'.1 rest') ws
          → ((fs : List Kind) (us us' : Trees I (fs ++ ks)) → all_words I (fs ++ ks) us rest ≡ ws → all_words I (fs ++ ks) us' rest' ≡ ws → (us ≡ us') × (rest ≡ rest'))
          → (ts ≡ ts') × (rest ≡ rest')
      by_form none o o' ih = absurd o
      by_form (some f) o o' ih =
          let r = ih f.fields (join I f.fields ks o.0 ts.1) (join I f.fields ks o'.0 ts'.1)
          (join-words I f.fields ks o.0 ts.1 rest ∙ o.2) (join-words I f.fields ks o'.0 ts'.1 rest' ∙ o'.2) in
          let j = join-same I f.fields ks o.0 o'.0 ts.1 ts'.1 r.0 in
          let h : ts.0 ≡ ts'.0 = sym o.1 ∙ ap (apply I f.fields f.make) j.0 ∙ o'.1 in
          ((λ i. (h i, j.1 i)), r.1)
