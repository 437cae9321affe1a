-- After the walk over a tree's words every sequence of the tree has its number noted: what is expected is followed with the trees that stand
-- for it, and the number of a sequence is noted once, at a place that nothing noted later is for.
use Rattle.std.specs.Prelude.{ℕ, zero, suc, ◌+◌, ◌-◌, ◌≤◌, ◌≡◌, refl, Bool, false, List, [], ◌∷◌, ◌++◌, length, get_or, drop, set}
use Rattle.std.proofs.Common.{arith, sym, ◌∙◌, subst, true≢false, append-nil, length-set, length-drop, get_or-set_same, le-leb}
use Rattle.std.proofs.Math.Path.{ap}
use Rattle.std.proofs.Math.Bool.{cond}
use Rattle.std.proofs.Math.Option.{Option, none, some}
use Rattle.tree.specs.Limits.{most_words}
use Rattle.tree.specs.Ast.{Expr, Program}
use Rattle.tree.specs.Words.{expr_words, program_words}
use Rattle.tree.specs.Check.{NameIn, within}
use Rattle.tree.specs.Counted.{Noted, CountedExpr, CountedProgram}
use Rattle.tree.specs.Kind.{Kind, bool, operator, mode, natural, low, name, length_from, expr, stmt, aexpr, option, seq}
use Rattle.tree.specs.Kind.{Item, of_name, of_expr, of_binding, of_pattern, of_closure_binding, of_closure_property, of_stmt, of_call_argument, of_case, of_a_expr, of_tagger, of_f_parameter, of_function, of_axiom, of_p_parameter, of_procedure}
use Rattle.tree.specs.Kind.{fields, program_fields, Turn, fits, misfit, turn}
use Rattle.tree.specs.Trees.{Names, names_in, Tree, Trees, words, all_words, apply, Form}
use Rattle.tree.specs.Forms.{empty, item_make, form}
use Rattle.tree.specs.FormLaws.{Agrees, agree}
use Rattle.tree.specs.Opened.{Opened, opened as open-tree, some_word}
use Rattle.tree.specs.Walk.{tree-at, word-range}
use Rattle.tree.specs.Tally.{Mark, Expected, sequence, opened, mark_at, more, marked, noted, tally, counts, expression_counts, program_counts}
use Rattle.tree.specs.CountPlaces.{BelowMark, Below, below_apart, marked-below, at-below, mark-rest, kept}
use Rattle.tree.specs.CountedTrees.{item_count, Items, CountedTree, CountedTrees, MadeCounted, made_counted}

-- a kind is a sequence, or none
by_kind : (P : Kind → Type 0) → ((i : Item) → P (seq i)) → ((k : Kind) → sequence k ≡ false → P k) → (k : Kind) → P k
by_kind P s n bool = n bool refl
by_kind P s n operator = n operator refl
by_kind P s n mode = n mode refl
by_kind P s n natural = n natural refl
by_kind P s n low = n low refl
by_kind P s n name = n name refl
by_kind P s n (length_from x) = n (length_from x) refl
by_kind P s n expr = n expr refl
by_kind P s n stmt = n stmt refl
by_kind P s n aexpr = n aexpr refl
by_kind P s n (option c) = n (option c) refl
by_kind P s n (seq i) = s i

-- nothing is noted without a mark, or before fields
noted-none : (fs : List Kind) (counts : List ℕ) → noted fs none counts ≡ counts
noted-none [] counts = refl
noted-none (k ∷ fs) counts = refl

noted-snoc : (fs : List Kind) (k : Kind) (m : Option Mark) (counts : List ℕ) → noted (fs ++ (k ∷ [])) m counts ≡ counts
noted-snoc [] k m counts = refl
noted-snoc (x ∷ fs) k m counts = refl

module _ (I : Names) where
  -- trees of what is expected, and their words
  abbrev Forest : List Expected → Type 0
  Forest [] = Unit {0}
  Forest (e ∷ es) = Tree I e.kind × Forest es

  abbrev forest_words : (es : List Expected) → Forest es → List ℕ
  forest_words [] ts = []
  forest_words (e ∷ es) ts = words I e.kind ts.0 (forest_words es ts.1)

  -- the trees of a word's fields before others
  abbrev grow : (fs : List Kind) (m : Option Mark) (es : List Expected) → Trees I fs → Forest es → Forest (marked fs m ++ es)
  grow [] m es ts us = us
  grow (k ∷ []) m es ts us = (ts.0, us)
  grow (k ∷ l ∷ ks) m es ts us = (ts.0, grow (l ∷ ks) m es ts.1 us)

  grow-words : (fs : List Kind) (m : Option Mark) (es : List Expected) (ts : Trees I fs) (us : Forest es)
      → forest_words (marked fs m ++ es) (grow fs m es ts us) ≡ all_words I fs ts (forest_words es us)
  grow-words [] m es ts us = refl
  grow-words (k ∷ []) m es ts us = refl
  grow-words (k ∷ l ∷ ks) m es ts us = ap (words I k ts.0) (grow-words (l ∷ ks) m es ts.1 us)

  -- ---- what is to be shown of the trees, by the numbers C after the walk over a table of `size` words

  module _ (C : List ℕ) (size : ℕ) where
    -- of the rest of a sequence: its number is that of the items passed and those left
    abbrev Rest : (k : Kind) → Mark → Tree I k → List ℕ → Type 0
    Rest bool m t rest = CountedTree I C size bool t rest
    Rest operator m t rest = CountedTree I C size operator t rest
    Rest mode m t rest = CountedTree I C size mode t rest
    Rest natural m t rest = CountedTree I C size natural t rest
    Rest low m t rest = CountedTree I C size low t rest
    Rest name m t rest = CountedTree I C size name t rest
    Rest (length_from s) m t rest = CountedTree I C size (length_from s) t rest
    Rest expr m t rest = CountedTree I C size expr t rest
    Rest stmt m t rest = CountedTree I C size stmt t rest
    Rest aexpr m t rest = CountedTree I C size aexpr t rest
    Rest (option c) m t rest = CountedTree I C size (option c) t rest
    Rest (seq i) m t rest = (get_or C m.start 0 ≡ m.passed + item_count I C size i t) × Items I C size i t rest

    abbrev Goal : (k : Kind) → Option Mark → Tree I k → List ℕ → Type 0
    Goal k none t rest = CountedTree I C size k t rest
    Goal k (some m) t rest = Rest k m t rest

    abbrev Goals : (es : List Expected) → Forest es → Type 0
    Goals [] ts = Unit {0}
    Goals (e ∷ es) ts = Goal e.kind e.mark ts.0 (forest_words es ts.1) × Goals es ts.1

    abbrev FieldGoals : (fs : List Kind) → Option Mark → Trees I fs → List ℕ → Type 0
    FieldGoals [] m ts rest = Unit {0}
    FieldGoals (k ∷ []) m ts rest = Goal k m ts.0 rest
    FieldGoals (k ∷ l ∷ ks) m ts rest = Goal k none ts.0 (all_words I (l ∷ ks) ts.1 rest) × FieldGoals (l ∷ ks) m ts.1 rest

    split : (fs : List Kind) (m : Option Mark) (es : List Expected) (ts : Trees I fs) (us : Forest es)
        → Goals (marked fs m ++ es) (grow fs m es ts us) → FieldGoals fs m ts (forest_words es us) × Goals es us
    split [] m es ts us g = (tt, g)
    split (k ∷ []) m es ts us g = (g.0, g.1)
    split (k ∷ l ∷ ks) m es ts us g =
        let r = split (l ∷ ks) m es ts.1 us g.1 in
        ((subst (Goal k none ts.0) (grow-words (l ∷ ks) m es ts.1 us) g.0, r.0), r.1)

    -- fields without a mark
    fields-counted : (fs : List Kind) (ts : Trees I fs) (rest : List ℕ) → FieldGoals fs none ts rest → CountedTrees I C size fs ts rest
    fields-counted [] ts rest g = tt
    fields-counted (k ∷ []) ts rest g = (g, tt)
    fields-counted (k ∷ l ∷ ks) ts rest g = (g.0, fields-counted (l ∷ ks) ts.1 rest g.1)

    -- what is no sequence needs no number
    plain-goal : (k : Kind) → sequence k ≡ false → (m : Option Mark) (t : Tree I k) (rest : List ℕ) → CountedTree I C size k t rest → Goal k m t rest
    plain-goal k q none t rest c = c
    plain-goal bool q (some m) t rest c = c
    plain-goal operator q (some m) t rest c = c
    plain-goal mode q (some m) t rest c = c
    plain-goal natural q (some m) t rest c = c
    plain-goal low q (some m) t rest c = c
    plain-goal name q (some m) t rest c = c
    plain-goal (length_from s) q (some m) t rest c = c
    plain-goal expr q (some m) t rest c = c
    plain-goal stmt q (some m) t rest c = c
    plain-goal aexpr q (some m) t rest c = c
    plain-goal (option o) q (some m) t rest c = c
    plain-goal (seq i) q (some m) t rest c = absurd (true≢false q)

    -- a sequence by the mark that it has at its place
    sequence-goal : (i : Item) (m : Option Mark) (at : ℕ) (t : Tree I (seq i)) (rest : List ℕ) → at + length (words I (seq i) t rest) ≡ size
        → Rest (seq i) (opened m at) t rest → Goal (seq i) m t rest
    sequence-goal i none at t rest p g =
        let e : size - length (words I (seq i) t rest) ≡ at = omega arith in
        let n = g.0 in
        (ap (λ (x : ℕ). get_or C x 0) e ∙ (let z : get_or C at 0 ≡ item_count I C size i t = omega arith in z), g.1)
    sequence-goal i (some m) at t rest p g = g

    -- the empty sequence
    none_left : (i : Item) (rest : List ℕ) → (item_count I C size i (empty I i) ≡ 0) × Items I C size i (empty I i) rest
    none_left of_name rest = (refl, tt)
    none_left of_expr rest = (refl, tt)
    none_left of_binding rest = (refl, tt)
    none_left of_pattern rest = (refl, tt)
    none_left of_closure_binding rest = (refl, tt)
    none_left of_closure_property rest = (refl, tt)
    none_left of_stmt rest = (refl, tt)
    none_left of_call_argument rest = (refl, tt)
    none_left of_case rest = (refl, tt)
    none_left of_a_expr rest = (refl, tt)
    none_left of_tagger rest = (refl, tt)
    none_left of_f_parameter rest = (refl, tt)
    none_left of_function rest = (refl, tt)
    none_left of_axiom rest = (refl, tt)
    none_left of_p_parameter rest = (refl, tt)
    none_left of_procedure rest = (refl, tt)

    -- one item more is passed, and one fewer is left
    passed_on : (x p n : ℕ) → x ≡ p + 1 + n → x ≡ p + suc n
    passed_on x p n e = omega arith

    -- an item, and the rest of the sequence
    item-goal : (i : Item) (s p : ℕ) (ts : Trees I (fields i ++ (seq i ∷ []))) (rest : List ℕ)
        → FieldGoals (fields i ++ (seq i ∷ [])) (some (record { start = s; passed = p + 1 })) ts rest
        → Rest (seq i) (record { start = s; passed = p }) (apply I (fields i ++ (seq i ∷ [])) (item_make I i) ts) rest
    item-goal of_name s p ts rest g = (passed_on _ p _ g.1.0, tt)
    item-goal of_expr s p ts rest g = (passed_on _ p _ g.1.0, (g.0, g.1.1))
    item-goal of_binding s p ts rest g = (passed_on _ p _ g.1.1.0, tt)
    item-goal of_pattern s p ts rest g = (passed_on _ p _ g.1.0, (g.0.0, g.0.1, g.1.1))
    item-goal of_closure_binding s p ts rest g = (passed_on _ p _ g.1.1.1.0, (g.1.0.0, g.1.1.0, g.1.1.1.1))
    item-goal of_closure_property s p ts rest g = (passed_on _ p _ g.1.1.0, (g.0.0, g.0.1, g.1.0, g.1.1.1))
    item-goal of_stmt s p ts rest g = (passed_on _ p _ g.1.0, (g.0, g.1.1))
    item-goal of_call_argument s p ts rest g = (passed_on _ p _ g.1.1.0, (g.1.0, g.1.1.1))
    item-goal of_case s p ts rest g = (passed_on _ p _ g.1.1.0, (g.0, g.1.0, g.1.1.1))
    item-goal of_a_expr s p ts rest g = (passed_on _ p _ g.1.0, (g.0, g.1.1))
    item-goal of_tagger s p ts rest g = (passed_on _ p _ g.1.1.0, tt)
    item-goal of_f_parameter s p ts rest g = (passed_on _ p _ g.1.1.1.0, tt)
    item-goal of_function s p ts rest g = (passed_on _ p _ g.1.1.1.1.1.0, ((g.1.0.0, g.1.1.1.1.0), g.1.1.1.1.1.1))
    item-goal of_axiom s p ts rest g = (passed_on _ p _ g.1.1.0, ((g.0.0, g.1.0), g.1.1.1))
    item-goal of_p_parameter s p ts rest g = (passed_on _ p _ g.1.1.1.1.0, (g.1.1.1.0, g.1.1.1.1.1))
    item-goal of_procedure s p ts rest g = (
      passed_on _ p _ g.1.1.1.1.1.0,
      ((g.1.0, g.1.1.0.0, g.1.1.0.1, g.1.1.1.0.0, g.1.1.1.0.1, g.1.1.1.1.0), g.1.1.1.1.1.1),
    )

    -- ---- a step of the walk

    module _ (es : List Expected) (us : Forest es) (at w : ℕ) (ws counts : List ℕ) (p : at + suc (length ws) ≡ size) (l : size ≤ length counts)
        (later : (ns : List Expected) (c : List ℕ) (vs : Forest ns) → forest_words ns vs ≡ ws → size ≤ length c → Below (suc at) ns
        → tally I.inside ns (suc at) ws c ≡ C → Goals ns vs) where
      -- the word of what is expected, and then the words of the rest
      abbrev Step : Kind → Type 0
      Step k =
          (m : Option Mark) (t : Tree I k) → words I k t (forest_words es us) ≡ w ∷ ws → BelowMark at m (λ c. Below c es)
          → tally I.inside (record { kind = k; mark = m } ∷ es) at (w ∷ ws) counts ≡ C → Goal k m t (forest_words es us) × Goals es us

      -- the fields of a word, and the rest
      fields-step : (fs : List Kind) (m : Option Mark) (ts : Trees I fs) → all_words I fs ts (forest_words es us) ≡ ws → BelowMark (suc at) m (λ c. Below c es)
          → (c : List ℕ) → size ≤ length c → tally I.inside (marked fs m ++ es) (suc at) ws c ≡ C → FieldGoals fs m ts (forest_words es us) × Goals es us
      fields-step fs m ts d b c k e =
          split fs m es ts us
          (later (marked fs m ++ es) c (grow fs m es ts us) (grow-words fs m es ts us ∙ d) k
          (marked-below (suc at) m fs es b (mark-rest (suc at) m es b)) e)

      -- what is no sequence
      plain_step : (k : Kind) → sequence k ≡ false → Step k
      unfolding tally
      plain_step k q m t d b e =
          by_turn (turn I.inside k w) (form I k w) (agree I k w) (made_counted I C size k q w) (open-tree I k t (forest_words es us) w ws d) e
        where
          unmarked : mark_at k m at ≡ none
          unmarked = ap (λ (x : Bool). cond x (some (opened m at)) none) q

          below : Below (suc at) es
          below = mark-rest (suc at) (mark_at k m at) es (at-below k m at es b)

          by_turn : (u : Turn) (o : Option (Form I (Tree I k))) → Agrees I u o → MadeCounted I C size k o → Opened I o t (forest_words es us) ws
              → elim u [ fits fs ↦ tally I.inside (marked fs (more (mark_at k m at)) ++ es) (suc at) ws (noted fs (mark_at k m at) counts) | misfit back ↦ counts ] ≡ C
              → Goal k m t (forest_words es us) × Goals es us
          by_turn (fits fs) none a g o h = absurd a
          by_turn (fits fs) (some f) a g o h =
              let h₁ : tally I.inside (marked f.fields none ++ es) (suc at) ws counts ≡ C =
              ap (λ (c : List ℕ). tally I.inside (marked f.fields none ++ es) (suc at) ws c) (sym (noted-none f.fields counts))
              ∙ sym (λ i. tally I.inside (marked (a i) (more (unmarked i)) ++ es) (suc at) ws (noted (a i) (unmarked i) counts)) ∙ h in
              let r = fields-step f.fields none o.0 o.2 below counts l h₁ in
              let c = g o.0 (forest_words es us) (fields-counted f.fields o.0 (forest_words es us) r.0) in
              (plain-goal k q m t (forest_words es us) (subst (λ (x : Tree I k). CountedTree I C size k x (forest_words es us)) o.1 c), r.1)
          by_turn (misfit x) none a g o h = absurd o
          by_turn (misfit x) (some f) a g o h = absurd a

      -- a sequence: its end, or an item
      sequence-step : (i : Item) → Step (seq i)
      unfolding tally
      sequence-step i m t d b e = by_word w d e
        where
          below : BelowMark (suc at) (some (opened m at)) (λ c. Below c es)
          below = at-below (seq i) m at es b

          by_word : (v : ℕ) → words I (seq i) t (forest_words es us) ≡ v ∷ ws → tally I.inside (record { kind = seq i; mark = m } ∷ es) at (v ∷ ws) counts ≡ C
              → Goal (seq i) m t (forest_words es us) × Goals es us
          by_word zero d e =
              let o = open-tree I (seq i) t (forest_words es us) 0 ws d in
              let n = none_left i (forest_words es us) in
              let x = below.0 in
              let c : get_or C (opened m at).start 0 ≡ (opened m at).passed =
              ap (λ (y : List ℕ). get_or y (opened m at).start 0) (sym e)
              ∙ kept I.inside es (suc at) ws (set counts (opened m at).start (opened m at).passed) (opened m at).start x
              (below_apart es (opened m at).start below.1)
              ∙ get_or-set_same counts (opened m at).start (opened m at).passed 0 (omega arith) in
              let k = n.0 in
              let g : Rest (seq i) (opened m at) (empty I i) (forest_words es us) = (omega arith, n.1) in (
                sequence-goal i m at t (forest_words es us) (ap (λ (y : List ℕ). at + length y) d ∙ p)
                    (subst (λ (y : Tree I (seq i)). Rest (seq i) (opened m at) y (forest_words es us)) o.1 g),
                later es (set counts (opened m at).start (opened m at).passed) us o.2 (simp length-set l) (mark-rest (suc at) (some (opened m at)) es below) e,
              )
          by_word (suc zero) d e =
              let o = open-tree I (seq i) t (forest_words es us) 1 ws d in
              let h : tally I.inside (marked (fields i ++ (seq i ∷ [])) (more (some (opened m at))) ++ es) (suc at) ws counts ≡ C =
              ap (λ (c : List ℕ). tally I.inside (marked (fields i ++ (seq i ∷ [])) (more (some (opened m at))) ++ es) (suc at) ws c)
              (sym (noted-snoc (fields i) (seq i) (some (opened m at)) counts)) ∙ e in
              let r = fields-step (fields i ++ (seq i ∷ [])) (more (some (opened m at))) o.0 o.2 below counts l h in
              let g = item-goal i (opened m at).start (opened m at).passed o.0 (forest_words es us) r.0 in (
                sequence-goal i m at t (forest_words es us) (ap (λ (y : List ℕ). at + length y) d ∙ p)
                    (subst (λ (y : Tree I (seq i)). Rest (seq i) (opened m at) y (forest_words es us)) o.1 g),
                r.1,
              )
          by_word (suc (suc v)) d e =
              let x = word-range I (suc (suc v) ∷ ws) 0 (seq i) t (forest_words es us) (sym d) in absurd (omega arith)

      step : (k : Kind) → Step k
      step = by_kind Step sequence-step plain_step

    -- every tree of what is expected is counted
    all-counted : (es : List Expected) (at : ℕ) (ws counts : List ℕ) (ts : Forest es) → forest_words es ts ≡ ws → at + length ws ≡ size → size ≤ length counts
        → Below at es → tally I.inside es at ws counts ≡ C → Goals es ts
    all-counted [] at [] counts ts d p l b e = tt
    all-counted (x ∷ es) at [] counts ts d p l b e = absurd (some_word I x.kind ts.0 (forest_words es ts.1) d)
    all-counted [] at (w ∷ ws) counts ts d p l b e = tt
    all-counted (x ∷ es) at (w ∷ ws) counts ts d p l b e =
        step es ts.1 at w ws counts p l (λ ns c vs f k g h. all-counted ns (suc at) ws c vs f (omega arith) k g h) x.kind x.mark ts.0 d b e

  -- the trees of a table are counted after its walk
  pub table_counted : (ks : List Kind) (ts : Trees I ks) (table counts : List ℕ) → all_words I ks ts [] ≡ table → length table ≤ length counts
      → CountedTrees I (tally I.inside (marked ks none) 0 table counts) (length table) ks ts []
  table_counted ks ts table counts d l =
      let c = tally I.inside (marked ks none) 0 table counts in
      let e : tally I.inside (marked ks none ++ []) 0 table counts ≡ c =
      ap (λ (es : List Expected). tally I.inside es 0 table counts) (append-nil (marked ks none)) in
      let g = all-counted c (length table) (marked ks none ++ []) 0 table counts (grow ks none [] ts tt) (grow-words ks none [] ts tt ∙ d) (omega arith) l
      (marked-below 0 none ks [] tt tt) e in
      fields-counted c (length table) ks ts [] (split c (length table) ks none [] ts tt g).0

-- the number of a sequence that stands at a place of the table
pub noted-at : (I : Names) (counts table : List ℕ) (at : ℕ) (i : Item) (t : Tree I (seq i)) (rest : List ℕ) {n : ℕ} → drop at table ≡ words I (seq i) t rest
    → Noted I.span counts (length table) (words I (seq i) t rest) n → get_or counts at 0 ≡ n
noted-at I counts table at i t rest d c =
    let h = (tree-at I table at (seq i) t rest d).0 in
    let l = length-drop at table in
    let e = ap length d in
    let p : at ≡ length table - length (words I (seq i) t rest) = omega arith in
    ap (λ (x : ℕ). get_or counts x 0) p ∙ c

-- ---- the tables of expressions and programs

-- the numbers of a table that is not too long
walked : (ks : List Kind) (table : List ℕ) (len : ℕ) (before : List ℕ) → length table ≤ most_words → tally (within len) (marked ks none) 0 table before ≡ counts ks table len before
walked ks table len before h = sym (simp (le-leb (length table) most_words h))

pub expression-counted : (table : List ℕ) (len : ℕ) (before : List ℕ) (t : Expr (NameIn len)) → expr_words (λ n. n.span) t [] ≡ table
    → length table ≤ most_words → length table ≤ length before → CountedExpr (λ n. n.span) (expression_counts table len before) (length table) t []
unfolding expression_counts
expression-counted table len before t d h l =
    subst (λ (c : List ℕ). CountedExpr (λ (n : NameIn len). n.span) c (length table) t []) (walked (expr ∷ []) table len before h)
    (table_counted (names_in len) (expr ∷ []) (t, tt) table before d l).0

pub program-counted : (table : List ℕ) (len : ℕ) (before : List ℕ) (p : Program (NameIn len)) → program_words (λ n. n.span) p [] ≡ table
    → length table ≤ most_words → length table ≤ length before → CountedProgram (λ n. n.span) (program_counts table len before) (length table) p []
unfolding program_counts
program-counted table len before p d h l =
    let g = table_counted (names_in len) program_fields (p.types, (p.taggers, (p.functions, (p.axioms, (p.procedures, tt))))) table before d l in
    subst (λ (c : List ℕ). CountedProgram (λ (n : NameIn len). n.span) c (length table) p []) (walked program_fields table len before h)
    (g.0.0, g.1.0.0, g.1.1.0, g.1.1.1.0, g.1.1.1.1.0)
