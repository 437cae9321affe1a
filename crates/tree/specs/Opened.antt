-- A tree's words, opened at the first: `opened` goes from a word to the words of the fields. Trees of two lists of kinds as trees of one.
use Rattle.std.specs.Prelude.{ℕ, ◌≡◌, refl, List, [], ◌∷◌, ◌++◌}
use Rattle.std.proofs.Common.{sym, ap, ◌∙◌, subst}
use Rattle.std.proofs.Math.Option.{Option, none, some}
use Rattle.tree.specs.Clash.{impossible}
use Rattle.tree.specs.Kind.{Kind}
use Rattle.tree.specs.Trees.{Names, Tree, Trees, words, all_words, apply, Form}
use Rattle.tree.specs.Forms.{form}
use Rattle.tree.specs.FormLaws.{Spells, spells, MadeBy, made}

module _ (I : Names) where
  -- the words after the first are those of the fields' trees, of which the tree is made
  abbrev pub Opened : {R : Type 0} → Option (Form I R) → R → List ℕ → List ℕ → Type 0
  Opened none t rest ws = ⊥
  Opened (some f) t rest ws = (ts : Trees I f.fields) × (apply I f.fields f.make ts ≡ t) × (all_words I f.fields ts rest ≡ ws)

  -- the first word is that of the form which made the tree
  open-form : (k : Kind) (t : Tree I k) (rest : List ℕ) (v w : ℕ) (ws : List ℕ) (o : Option (Form I (Tree I k)))
      → Spells I k v o → MadeBy I o t → words I k t rest ≡ w ∷ ws → (v ≡ w) × Opened o t rest ws
  open-form k t rest v w ws none s m e = absurd m
  open-form k t rest v w ws (some f) s m e =
      let a : words I k (apply I f.fields f.make m.0) rest ≡ v ∷ all_words I f.fields m.0 rest = s m.0 rest in
      let b : v ∷ all_words I f.fields m.0 rest ≡ w ∷ ws = sym a ∙ ap (λ (u : Tree I k). words I k u rest) m.1 ∙ e in
      (cc, (m.0, m.1, cc))

  -- the first word has a form, and the tree is made of it
  pub opened : (k : Kind) (t : Tree I k) (rest : List ℕ) (w : ℕ) (ws : List ℕ) → words I k t rest ≡ w ∷ ws → Opened (form I k w) t rest ws
  opened k t rest w ws e = by-maker (made I k t)
    where
      by-maker : (v : ℕ) × MadeBy I (form I k v) t → Opened (form I k w) t rest ws
      by-maker m =
          let o = open-form k t rest m.0 w ws (form I k m.0) (spells I k m.0) m.1 e in
          subst (λ (v : ℕ). Opened (form I k v) t rest ws) o.0 o.1

  -- a tree has a word
  pub some_word : (k : Kind) (t : Tree I k) (rest : List ℕ) → words I k t rest ≡ [] → ⊥
  some_word k t rest e = by_form (made I k t).0 (form I k (made I k t).0) (spells I k (made I k t).0) (made I k t).1
    where
      by_form : (v : ℕ) (o : Option (Form I (Tree I k))) → Spells I k v o → MadeBy I o t → ⊥
      by_form v none s m = m
      by_form v (some f) s m =
          let a : words I k (apply I f.fields f.make m.0) rest ≡ v ∷ all_words I f.fields m.0 rest = s m.0 rest in
          let b : [] ≡ v ∷ all_words I f.fields m.0 rest = sym e ∙ ap (λ (u : Tree I k). words I k u rest) (sym m.1) ∙ a in
          impossible cc

  -- ---- trees of two lists of kinds as trees of one

  -- the trees of two lists of kinds as those of one, and each part of them
  abbrev pub join : (fs ks : List Kind) → Trees I fs → Trees I ks → Trees I (fs ++ ks)
  join [] ks ts us = us
  join (f ∷ fs) ks ts us = (ts.0, join fs ks ts.1 us)

  abbrev pub front : (fs ks : List Kind) → Trees I (fs ++ ks) → Trees I fs
  front [] ks ts = tt
  front (f ∷ fs) ks ts = (ts.0, front fs ks ts.1)

  abbrev pub back : (fs ks : List Kind) → Trees I (fs ++ ks) → Trees I ks
  back [] ks ts = ts
  back (f ∷ fs) ks ts = back fs ks ts.1

  -- the words of both are those of one after the other
  pub join-words : (fs ks : List Kind) (ts : Trees I fs) (us : Trees I ks) (rest : List ℕ)
      → all_words I (fs ++ ks) (join fs ks ts us) rest ≡ all_words I fs ts (all_words I ks us rest)
  join-words [] ks ts us rest = refl
  join-words (f ∷ fs) ks ts us rest = ap (words I f ts.0) (join-words fs ks ts.1 us rest)

  -- and of the parts likewise
  pub split-words : (fs ks : List Kind) (ts : Trees I (fs ++ ks)) (rest : List ℕ)
      → all_words I (fs ++ ks) ts rest ≡ all_words I fs (front fs ks ts) (all_words I ks (back fs ks ts) rest)
  split-words [] ks ts rest = refl
  split-words (f ∷ fs) ks ts rest = ap (words I f ts.0) (split-words fs ks ts.1 rest)

  -- equal trees have equal parts
  pub join-same : (fs ks : List Kind) (ts ts' : Trees I fs) (us us' : Trees I ks) → join fs ks ts us ≡ join fs ks ts' us' → (ts ≡ ts') × (us ≡ us')
  join-same [] ks ts ts' us us' e = (refl, e)
  join-same (f ∷ fs) ks ts ts' us us' e =
      let r = join-same fs ks ts.1 ts'.1 us us' (ap (λ (p : Trees I ((f ∷ fs) ++ ks)). p.1) e) in
      ((λ i. ((e i).0, r.0 i)), r.1)
