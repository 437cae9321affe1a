-- Laws for whoever walks a table that holds a tree's words: what stands at a place, and where the fields' words start. One law over the kinds:
-- at the place of a tree of kind k, the word w has a form, the tree is made of the form's fields, and their words start one word further on.
-- `Opened I (form I k w) t rest ws` computes at a numeral w: for `expr` and 5 it is the parts (o, (es, tt)) with OperatorExpr o es ≡ t and
-- operator_word o ∷ exprs_words es rest ≡ ws.
use Rattle.std.specs.Prelude.{ℕ, zero, suc, ◌+◌, ◌-◌, ◌*◌, ◌/◌, ◌%◌, ◌^◌, ◌≤◌, ◌<◌, ◌≡◌, refl, Bool, true, false, cond, List, [], ◌∷◌, ◌++◌, length, get_or, drop, leb}
use Rattle.std.proofs.Common.{arith, sym, ap, ◌∙◌, subst, leb-true}
use Rattle.std.proofs.Math.Option.{Option, none, some}
use Rattle.tree.specs.Clash.{impossible}
use Rattle.tree.specs.Kind.{Kind, bool, operator, mode, natural, low, name, length_from, expr, stmt, aexpr, option, seq, first_word, rows}
use Rattle.tree.specs.Trees.{Names, Tree, Trees, words, all_words, Form, Makes, form_at}
use Rattle.tree.specs.Forms.{makes, row_form, form}
use Rattle.tree.specs.FormLaws.{Spells, spells}
use Rattle.tree.specs.Opened.{Opened, opened, some_word, join, join-words}

-- ---- the word at a place

-- a word at a place: the place lies in the table, and the rest starts one further on
pub head_at : (table : List ℕ) (at w : ℕ) (ws : List ℕ) → drop at table ≡ w ∷ ws
    → (at < length table) × (get_or table at 0 ≡ w) × (drop (at + 1) table ≡ ws)
head_at [] zero w ws e = impossible cc
head_at [] (suc at) w ws e = impossible cc
head_at (v ∷ table) zero w ws e = (omega arith, cc, cc)
head_at (v ∷ table) (suc at) w ws e =
    let h = head_at table at w ws e in
    let n : suc at + 1 ≡ suc (at + 1) = omega arith in
    (omega arith, h.1, rw n h.2)

-- two words at a place
pub pair-at : (table : List ℕ) (at v w : ℕ) (ws : List ℕ) → drop at table ≡ v ∷ w ∷ ws
    → (get_or table at 0 ≡ v) × (get_or table (at + 1) 0 ≡ w) × (drop (at + 2) table ≡ ws)
pair-at table at v w ws e =
    let a = head_at table at v (w ∷ ws) e in
    let b = head_at table (at + 1) w ws a.2 in
    let n : (at + 1) + 1 ≡ at + 2 = omega arith in
    (a.1, b.1, rw n at b.2)

module _ (I : Names) where
  -- ---- a tree at a place

  -- the word at its place has a form of which the tree is made
  pub tree-at : (table : List ℕ) (at : ℕ) (k : Kind) (t : Tree I k) (rest : List ℕ) → drop at table ≡ words I k t rest
      → (at < length table) × Opened I (form I k (get_or table at 0)) t rest (drop (at + 1) table)
  tree-at table at k t rest e = by-words (words I k t rest) refl
    where
      by-words : (ws : List ℕ) → words I k t rest ≡ ws → (at < length table) × Opened I (form I k (get_or table at 0)) t rest (drop (at + 1) table)
      by-words [] f = absurd (some_word I k t rest f)
      by-words (w ∷ ws) f =
          let h = head_at table at w ws (e ∙ f) in
          (h.0, opened I k t rest (get_or table at 0) (drop (at + 1) table) (f ∙ sym (λ i. h.1 i ∷ h.2 i)))

  -- the same at a word that is known: at a numeral, what stands in `Opened` computes
  pub tree-at-word : (table : List ℕ) (at : ℕ) (k : Kind) (t : Tree I k) (rest : List ℕ) (w : ℕ) → drop at table ≡ words I k t rest → get_or table at 0 ≡ w
      → Opened I (form I k w) t rest (drop (at + 1) table)
  tree-at-word table at k t rest w e f =
      subst (λ (v : ℕ). Opened I (form I k v) t rest (drop (at + 1) table)) f (tree-at table at k t rest e).1

  -- a row that makes a tree has a number below the count of rows
  rows-range : (R : Type 0) (rs : List (List Kind)) (m : Makes I rs R) (n : ℕ) (t : R) (rest ws : List ℕ) → Opened I (form_at I rs m n) t rest ws → n < length rs
  rows-range R [] m n t rest ws o = absurd o
  rows-range R (r ∷ rs) m zero t rest ws o = omega arith
  rows-range R (r ∷ rs) m (suc n) t rest ws o = let h = rows-range R rs m.1 n t rest ws o in omega arith

  -- so its word is one of its kind's
  row-range : (k : Kind) (w : ℕ) (t : Tree I k) (rest ws : List ℕ) → Opened I (row_form I k w) t rest ws → (first_word k ≤ w) × (w < first_word k + length (rows k))
  row-range k w t rest ws = by-test (leb (first_word k) w) refl
    where
      n : ℕ
      n = w - first_word k

      by-test : (b : Bool) → leb (first_word k) w ≡ b → Opened I (cond b (form_at I (rows k) (makes I k) n) none) t rest ws
          → (first_word k ≤ w) × (w < first_word k + length (rows k))
      by-test true e o =
          let h = rows-range (Tree I k) (rows k) (makes I k) n t rest ws o in
          let l = leb-true (first_word k) w e in
          (omega arith, omega arith)
      by-test false e o = absurd o

  -- the words that a kind's trees begin with: of a kind with rows, theirs
  abbrev pub Range : Kind → ℕ → Type 0
  Range bool w = w < 2
  Range operator w = (1 ≤ w) × (w < 17)
  Range mode w = (1 ≤ w) × (w < 4)
  Range natural w = Unit {0}
  Range low w = Unit {0}
  Range name w = Unit {0}
  Range (length_from s) w = Unit {0}
  Range expr w = (1 ≤ w) × (w < 11)
  Range stmt w = (21 ≤ w) × (w < 39)
  Range aexpr w = (1 ≤ w) × (w < 3)
  Range (option c) w = w < 2
  Range (seq i) w = w < 2

  -- a word with a form is one that its kind's trees begin with
  range : (k : Kind) (w : ℕ) (t : Tree I k) (rest ws : List ℕ) → Opened I (form I k w) t rest ws → Range k w
  range bool w t rest ws o = (row-range bool w t rest ws o).1
  range operator w t rest ws o = row-range operator w t rest ws o
  range mode w t rest ws o = row-range mode w t rest ws o
  range natural w t rest ws o = tt
  range low w t rest ws o = tt
  range name w t rest ws o = tt
  range (length_from s) w t rest ws o = tt
  range expr w t rest ws o = row-range expr w t rest ws o
  range stmt w t rest ws o = row-range stmt w t rest ws o
  range aexpr w t rest ws o = row-range aexpr w t rest ws o
  range (option c) w t rest ws o = (row-range (option c) w t rest ws o).1
  range (seq i) w t rest ws o = (row-range (seq i) w t rest ws o).1

  -- the word at a tree's place is one that its kind begins with
  pub word-range : (table : List ℕ) (at : ℕ) (k : Kind) (t : Tree I k) (rest : List ℕ) → drop at table ≡ words I k t rest → Range k (get_or table at 0)
  word-range table at k t rest e = range k (get_or table at 0) t rest (drop (at + 1) table) (tree-at table at k t rest e).1

  -- a natural by its two words (a name's two words are `pair-at` as it stands)
  pub natural-at : (table : List ℕ) (at n : ℕ) (rest : List ℕ) → drop at table ≡ words I natural n rest
      → (get_or table at 0 * 2 ^ 32 + get_or table (at + 1) 0 ≡ n) × (drop (at + 2) table ≡ rest)
  natural-at table at n rest e =
      let p = pair-at table at (n / 2 ^ 32) (n % 2 ^ 32) rest e in
      (omega (arith, p.0, p.1), p.2)

  -- ---- words and what follows them

  -- the words of trees before a rest are their words and then the rest
  follow : (ks : List Kind) (ws : List ℕ) (ts : Trees I ks) (rest : List ℕ) → all_words I ks ts [] ≡ ws → all_words I ks ts rest ≡ ws ++ rest
  follow [] [] ts rest e = refl
  follow [] (w ∷ ws) ts rest e = impossible cc
  follow (k ∷ ks) [] ts rest e = absurd (some_word I k ts.0 (all_words I ks ts.1 []) e)
  follow (k ∷ ks) (w ∷ ws) ts rest e =
      by_form (form I k w) (spells I k w) (opened I k ts.0 (all_words I ks ts.1 []) w ws e) (λ fs us h. follow (fs ++ ks) ws us rest h)
    where
      by_form : (o : Option (Form I (Tree I k))) → Spells I k w o → Opened I o ts.0 (all_words I ks ts.1 []) ws
          → ((fs : List Kind) (us : Trees I (fs ++ ks)) → all_words I (fs ++ ks) us [] ≡ ws → all_words I (fs ++ ks) us rest ≡ ws ++ rest)
          → words I k ts.0 (all_words I ks ts.1 rest) ≡ w ∷ (ws ++ rest)
      by_form none s o ih = absurd o
      by_form (some f) s o ih =
          ap (λ (u : Tree I k). words I k u (all_words I ks ts.1 rest)) (sym o.1)
          ∙ s o.0 (all_words I ks ts.1 rest)
          ∙ ap (λ (l : List ℕ). w ∷ l)
          (sym (join-words I f.fields ks o.0 ts.1 rest)
          ∙ ih f.fields (join I f.fields ks o.0 ts.1) (join-words I f.fields ks o.0 ts.1 [] ∙ o.2))

  -- the same of one tree
  pub words_append : (k : Kind) (t : Tree I k) (rest : List ℕ) → words I k t rest ≡ words I k t [] ++ rest
  words_append k t rest = follow (k ∷ []) (words I k t []) (t, tt) rest refl
