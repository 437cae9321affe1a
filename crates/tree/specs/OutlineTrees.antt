-- Laws for whoever walks a table that holds trees by its outline: at a place where trees stand (`Stands`), the kind and the end of the first, and
-- the places of its fields and of what follows it.
use Prim.Native.Nat.{ℕ, suc, ◌+◌, ◌-◌, ◌<◌}
use native.Mathlib.Omega.{arith}
use Rattle.std.specs.Prelude.{◌≡◌, refl, get_or}
use Rattle.std.proofs.Math.Path.{sym, ap}
use Rattle.std.proofs.Common.{◌∙◌, subst, length-drop, drop-drop}
use Rattle.std.proofs.Math.Option.{Option, none, some}
use mathlib.Core.List.{List, [], ◌∷◌, ◌++◌}
use Rattle.std.proofs.Math.ListN.{length, drop}
use Rattle.tree.specs.Kind.{Kind, Turn, fits, misfit, turn}
use Rattle.tree.specs.KindNumbers.{kind_number}
use Rattle.tree.specs.Trees.{Names, Tree, Trees, all_words, apply, Form}
use Rattle.tree.specs.Forms.{form}
use Rattle.tree.specs.FormLaws.{Agrees, agree}
use Rattle.tree.specs.Opened.{Opened, opened, some_word, join, join-words}
use Rattle.tree.specs.Walk.{tree-at}
use Rattle.tree.specs.Accepted.{complete}
use Rattle.tree.specs.Outline.{extent, kind_numbers, end_places}
use Rattle.tree.specs.OutlineLaws.{Expects, expects-start, expects-behind, Word, word_at}

module _ (I : Names) where
  -- what stands for kinds is the words of their trees
  pub extent-trees : (ks : List Kind) (ws : List ℕ) (ts : Trees I ks) (rest : List ℕ) → all_words I ks ts rest ≡ ws
      → (extent I.inside ks ws + length rest ≡ length ws) × (drop (extent I.inside ks ws) ws ≡ rest)
  unfolding extent
  extent-trees [] [] ts rest e = (let h = ap length e in omega arith, sym e)
  extent-trees [] (w ∷ ws) ts rest e = (let h = ap length e in omega arith, sym e)
  extent-trees (k ∷ ks) [] ts rest e = absurd (some_word I k ts.0 (all_words I ks ts.1 rest) e)
  extent-trees (k ∷ ks) (w ∷ ws) ts rest e =
      by_turn (turn I.inside k w) (form I k w) (agree I k w) (opened I k ts.0 (all_words I ks ts.1 rest) w ws e)
      (λ fs us h. extent-trees (fs ++ ks) ws us rest h)
    where
      by_turn : (u : Turn) (o : Option (Form I (Tree I k))) → Agrees I u o → Opened I o ts.0 (all_words I ks ts.1 rest) ws
          → ((fs : List Kind) (us : Trees I (fs ++ ks)) → all_words I (fs ++ ks) us rest ≡ ws
          → (extent I.inside (fs ++ ks) ws + length rest ≡ length ws) × (drop (extent I.inside (fs ++ ks) ws) ws ≡ rest))
          → (elim u [ fits fs ↦ suc (extent I.inside (fs ++ ks) ws) | misfit back ↦ 0 ] + length rest ≡ suc (length ws))
          × (drop (elim u [ fits fs ↦ suc (extent I.inside (fs ++ ks) ws) | misfit back ↦ 0 ]) (w ∷ ws) ≡ rest)
      by_turn (fits fs) none a o ih = absurd o
      by_turn (fits fs) (some f) a o ih =
          let us = join I f.fields ks o.0 ts.1 in
          let h = ih f.fields us (join-words I f.fields ks o.0 ts.1 rest ∙ o.2) in
          let n = ap (λ (x : List Kind). extent I.inside (x ++ ks) ws) a in
          let l = h.0 in
          (omega arith, ap (λ (m : ℕ). drop m ws) n ∙ h.1)
      by_turn (misfit b) none a o ih = absurd o
      by_turn (misfit b) (some f) a o ih = absurd a

module _ (I : Names) (ks₀ : List Kind) (table : List ℕ) where
  -- From a place on stand the trees ts of the kinds ks, and nothing else, in a table of trees of the kinds ks₀.
  pub record Stands (at : ℕ) (ks : List Kind) (ts : Trees I ks) : Type 0 where
    pub expects : Expects I.inside ks₀ table at ks
    pub words-at : drop at table ≡ all_words I ks ts []

  -- at the start, the table's trees
  pub stands-start : (ts : Trees I ks₀) → all_words I ks₀ ts [] ≡ table → Stands 0 ks₀ ts
  stands-start ts e = record { expects = expects-start I.inside ks₀ table (complete I ks₀ 0 table ts e); words-at = sym e }

  -- of the first tree: the number of its kind, and the place after its words, where the others stand
  pub record FirstTree (at : ℕ) (k : Kind) (ks : List Kind) (ts : Trees I ks) : Type 0 where
    pub kind-is : get_or (kind_numbers I.inside ks₀ table) at 0 ≡ kind_number k
    pub end_is : get_or (end_places I.inside ks₀ 0 table) at 0 ≡ length table - length (all_words I ks ts [])
    pub before-end : at < length table - length (all_words I ks ts [])
    pub others : Stands (length table - length (all_words I ks ts [])) ks ts

  pub first-tree : (at : ℕ) (k : Kind) (ks : List Kind) (t : Tree I k) (ts : Trees I ks) → Stands at (k ∷ ks) (t, ts) → FirstTree at k ks ts
  first-tree at k ks t ts s =
      let w = word_at I.inside ks₀ table at k ks s.expects in
      let x = extent-trees I (k ∷ []) (drop at table) (t, tt) (all_words I ks ts []) (sym s.words-at) in
      let n = extent I.inside (k ∷ []) (drop at table) in
      let m = x.0 in
      let e : at + n ≡ length table - length (all_words I ks ts []) = omega (arith, length-drop at table, w.inside-table) in
      record {
        kind-is = w.kind-is;
        end_is = w.end_is ∙ e;
        before-end = omega (arith, w.counts);
        others =
            record {
              expects = subst (λ (p : ℕ). Expects I.inside ks₀ table p ks) e (expects-behind I.inside ks₀ table at (k ∷ []) ks s.expects);
              words-at = ap (λ (p : ℕ). drop p table) (sym e) ∙ sym (drop-drop n at table) ∙ x.1;
            };
      }

  -- its fields, of which it is made, stand behind its first word
  pub record Parts (at : ℕ) (k : Kind) (ks : List Kind) (t : Tree I k) (ts : Trees I ks) : Type 0 where
    pub maker : Form I (Tree I k)
    pub formed : form I k (get_or table at 0) ≡ some maker
    pub parts : Trees I maker.fields
    pub made : apply I maker.fields maker.make parts ≡ t
    pub stand : Stands (suc at) (maker.fields ++ ks) (join I maker.fields ks parts ts)

  pub parts-of : (at : ℕ) (k : Kind) (ks : List Kind) (t : Tree I k) (ts : Trees I ks) → Stands at (k ∷ ks) (t, ts) → Parts at k ks t ts
  parts-of at k ks t ts s =
      by_form (form I k (get_or table at 0)) refl (agree I k (get_or table at 0)) (tree-at I table at k t (all_words I ks ts []) s.words-at).1
    where
      w : Word I.inside ks₀ table at k ks
      w = word_at I.inside ks₀ table at k ks s.expects

      same-fields : (f : Form I (Tree I k)) → Agrees I (turn I.inside k (get_or table at 0)) (some f) → w.fields ≡ f.fields
      same-fields f a = subst (λ (u : Turn). Agrees I u (some f)) w.turns a

      by_form : (o : Option (Form I (Tree I k))) → form I k (get_or table at 0) ≡ o → Agrees I (turn I.inside k (get_or table at 0)) o
          → Opened I o t (all_words I ks ts []) (drop (at + 1) table) → Parts at k ks t ts
      by_form none e a o = absurd o
      by_form (some f) e a o =
          let n : suc at ≡ at + 1 = omega arith in
          record {
            maker = f;
            formed = e;
            parts = o.0;
            made = o.1;
            stand =
                record {
                  expects = subst (λ (x : List Kind). Expects I.inside ks₀ table (suc at) (x ++ ks)) (same-fields f a) w.expects;
                  words-at = ap (λ (p : ℕ). drop p table) n ∙ sym o.2 ∙ sym (join-words I f.fields ks o.0 ts []);
                };
          }
