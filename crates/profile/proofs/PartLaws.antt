-- What stands at the places of a program's words are its parts, and the labels around a part are those of the statements that its place is inside.
use Rattle.std.specs.Prelude.{ℕ, zero, suc, ◌+◌, ◌-◌, ◌≤◌, ◌<◌, ◌≡◌, refl, ◌↔◌, ◌⊎◌, Bool, true, false, List, [], ◌∷◌, ◌++◌, length, get_or, drop}
use Rattle.std.proofs.Common.{arith, sym, ap, ◌∙◌, subst, inl, inr, ⊎_elim, length-drop, length-append}
use Rattle.std.proofs.lemmas.Bool.{cases_lt}
use Rattle.std.proofs.Math.Option.{Option, some}
use Rattle.tree.specs.Clash.{impossible}
use Rattle.tree.specs.Ast.{LabeledStmt, Exit, Program}
use Rattle.tree.specs.Tags.{labeled_stmt_tag}
use Rattle.tree.specs.Resolve.{bytes_of}
use Rattle.tree.specs.Kind.{Kind, Turn, stmt, program_fields, turn}
use Rattle.tree.specs.KindNumbers.{kind_number}
use Rattle.tree.specs.Check.{NameIn}
use Rattle.tree.specs.Trees.{Tree, Trees, words, all_words, apply, Form}
use Rattle.tree.specs.FormLaws.{Agrees, agree, Spells, spells}
use Rattle.tree.specs.Opened.{join, join-words}
use Rattle.tree.specs.Walk.{head_at, words_append}
use Rattle.tree.specs.Accepted.{unique}
use Rattle.tree.specs.OutlineLaws.{Expects, Word, word_at}
use Rattle.tree.specs.OutlineTrees.{Stands, first-tree, parts-of}
use Rattle.tree.specs.ProgramOutline.{stands}
use Rattle.tree.specs.Tables.{from_program}
use Rattle.profile.specs.Profile.{Places, statement as is_statement, around, statements_rule, bodies_rule, invariants_rule, labels_rule}
use Rattle.profile.specs.Rules.{inside, table, Found, Around, Broken, statement, procedure, loop, exit}
use Rattle.profile.specs.Parts.{Among, OneOf, first, later, MadeOf, IsLabelled, is_labelled, Labels, labelled, unlabelled, Part, itself, of, PartOf, KeepsRules}
use Rattle.profile.proofs.PlaceLaws.{at_places, kind-with, kind-at, after}
use Rattle.profile.proofs.RuleLaws.{in-table, end-of, statement-of, found-statement, first-word, around-found, found-around}

module _ (text : List ℕ) (p : Program (NameIn (length text))) where
  abbrev N : Type 0
  N = NameIn (length text)

  abbrev bytes : N → List ℕ
  bytes n = bytes_of text n.span

  abbrev t : Places
  t = at_places text p

  abbrev Standing : (at : ℕ) (ks : List Kind) → Trees (inside text p) ks → Type 0
  Standing = Stands (inside text p) program_fields (table text p)

  -- ---- places and ends

  -- the place where trees stand that nothing follows
  abbrev place-of : (ks : List Kind) → Trees (inside text p) ks → ℕ
  place-of ks ts = length (table text p) - length (all_words (inside text p) ks ts [])

  -- words before a rest make none of it shorter
  not-shorter : (ks : List Kind) (ts : Trees (inside text p) ks) (rest : List ℕ) → length rest ≤ length (all_words (inside text p) ks ts rest)
  not-shorter [] ts rest = omega arith
  not-shorter (k ∷ ks) ts rest =
      let a = ap length (words_append (inside text p) k ts.0 (all_words (inside text p) ks ts.1 rest)) in
      let b = length-append (words (inside text p) k ts.0 []) (all_words (inside text p) ks ts.1 rest) in
      omega (arith, a, b, not-shorter ks ts.1 rest)

  -- trees stand at their place
  stands-at : {at : ℕ} {ks : List Kind} {ts : Trees (inside text p) ks} → Standing at ks ts → at ≡ place-of ks ts
  stands-at {at} {ks} {ts} s = omega (arith, ap length s.words-at, length-drop at (table text p), s.expects.within-table)

  end-is : {at : ℕ} {k : Kind} {ks : List Kind} {x : Tree (inside text p) k} {ts : Trees (inside text p) ks} → Standing at (k ∷ ks) (x, ts)
      → (t.end at ≡ place-of ks ts) × (at < place-of ks ts)
  end-is {at} {k} {ks} {x} {ts} s = let f = first-tree (inside text p) program_fields (table text p) at k ks x ts s in (f.end_is, f.before-end)

  -- what follows trees stands no earlier than they do
  no-earlier : {at : ℕ} (fs ks : List Kind) (us : Trees (inside text p) fs) (ts : Trees (inside text p) ks)
      → Standing at (fs ++ ks) (join (inside text p) fs ks us ts) → at ≤ place-of ks ts
  no-earlier {at} fs ks us ts s =
      omega (arith, stands-at s, ap length (join-words (inside text p) fs ks us ts []), not-shorter fs us (all_words (inside text p) ks ts []))

  -- ---- what a tree is made of stands behind its first word

  behind : {at : ℕ} {k : Kind} {ks : List Kind} {x : Tree (inside text p) k} {ts : Trees (inside text p) ks} → Standing at (k ∷ ks) (x, ts)
      → (m : MadeOf (inside text p) k x) → Standing (suc at) (m.maker.fields ++ ks) (join (inside text p) m.maker.fields ks m.parts ts)
  behind {at} {k} {ks} {x} {ts} s m =
      let e : words (inside text p) k x (all_words (inside text p) ks ts []) ≡ m.word ∷ all_words (inside text p) m.maker.fields m.parts (all_words (inside text p) ks ts []) =
      ap (λ (y : Tree (inside text p) k). words (inside text p) k y (all_words (inside text p) ks ts [])) (sym m.made) ∙ spelt (all_words (inside text p) ks ts []) in
      let h = head_at (table text p) at m.word _ (s.words-at ∙ e) in
      let n : suc at ≡ at + 1 = omega arith in
      record {
        expects = subst (λ (fs : List Kind). Expects (inside text p).inside program_fields (table text p) (suc at) (fs ++ ks)) (same-fields h.1) w.expects;
        words-at = ap (λ (i : ℕ). drop i (table text p)) n ∙ h.2 ∙ sym (join-words (inside text p) m.maker.fields ks m.parts ts []);
      }
    where
      w : Word (inside text p).inside program_fields (table text p) at k ks
      w = word_at (inside text p).inside program_fields (table text p) at k ks s.expects

      spelt : (rest : List ℕ) → words (inside text p) k (apply (inside text p) m.maker.fields m.maker.make m.parts) rest ≡ m.word ∷ all_words (inside text p) m.maker.fields m.parts rest
      spelt rest = subst (λ (o : Option (Form (inside text p) (Tree (inside text p) k))). Spells (inside text p) k m.word o) m.formed (spells (inside text p) k m.word) m.parts rest

      same-fields : get_or (table text p) at 0 ≡ m.word → w.fields ≡ m.maker.fields
      same-fields e =
          subst (λ (u : Turn). Agrees (inside text p) u (some m.maker)) (ap (turn (inside text p).inside k) (sym e) ∙ w.turns)
          (subst (λ (o : Option (Form (inside text p) (Tree (inside text p) k))). Agrees (inside text p) (turn (inside text p).inside k m.word) o) m.formed (agree (inside text p) k m.word))

  -- every tree that stands somewhere is made of some
  makers : {at : ℕ} {k : Kind} {ks : List Kind} {x : Tree (inside text p) k} {ts : Trees (inside text p) ks} → Standing at (k ∷ ks) (x, ts) → MadeOf (inside text p) k x
  makers {at} {k} {ks} {x} {ts} s =
      let o = parts-of (inside text p) program_fields (table text p) at k ks x ts s in
      record { word = get_or (table text p) at 0; maker = o.maker; formed = o.formed; parts = o.parts; made = o.made }

  -- ---- trees that begin within others end within them

  enclosed : (n : ℕ) {at : ℕ} (fs ks : List Kind) (us : Trees (inside text p) fs) (ts : Trees (inside text p) ks)
      → Standing at (fs ++ ks) (join (inside text p) fs ks us ts) → place-of ks ts ≤ at + n → (y : ℕ) → at ≤ y → y < place-of ks ts → t.end y ≤ place-of ks ts
  enclosed n [] ks us ts s few y l h = absurd (omega (arith, stands-at s))
  enclosed zero (f ∷ fs) ks us ts s few y l h = absurd (omega arith)
  enclosed (suc n) {at} (f ∷ fs) ks us ts s few y l h =
      let e = end-is s in
      let next = after text p s in
      let m = makers s in
      let o = no-earlier fs ks us.1 ts next in
      ⊎_elim
      (λ j. ⊎_elim
      (λ k. let i = enclosed n m.maker.fields (fs ++ ks) m.parts (join (inside text p) fs ks us.1 ts) (behind s m) (omega (arith, e.0, e.1, o)) y (omega arith) (omega (arith, e.0)) in
      omega (arith, i, o, e.0))
      (λ k. let i : y ≡ at = omega arith in omega (arith, ap t.end i, o))
      (cases_lt at y))
      (λ j. enclosed n fs ks us.1 ts next (omega (arith, e.0, e.1)) y j h)
      (cases_lt y (t.end at))

  -- of a tree at a place, the trees that begin behind it up to its end
  enclosed-in : {at : ℕ} {k : Kind} {x : Tree (inside text p) k} → (f : Found text p at k x) → (y : ℕ) → at ≤ y → y < t.end at → t.end y ≤ t.end at
  enclosed-in {at} {k} {x} f y l h =
      let e = end-is f.stands in
      omega (arith, e.0, enclosed (length (table text p)) (k ∷ []) f.later (x, tt) f.trees f.stands (omega arith) y l (omega (arith, e.0)))

  -- ---- one tree at a place

  -- two trees of one kind at one place are the same
  same-tree : {at : ℕ} {k : Kind} {x y : Tree (inside text p) k} → Found text p at k x → Found text p at k y → x ≡ y
  same-tree {at} {k} {x} {y} f g =
      ap (λ (us : Trees (inside text p) (k ∷ [])). us.0)
      (unique (inside text p) (k ∷ []) (drop at (table text p)) (x, tt) (y, tt) (all_words (inside text p) f.later f.trees []) (all_words (inside text p) g.later g.trees [])
      (sym f.stands.words-at) (sym g.stands.words-at)).0

  -- and so are two whose kind has a number of its own
  same-there : {at : ℕ} {k l : Kind} {x : Tree (inside text p) k} {y : Tree (inside text p) l} (P : (j : Kind) → Tree (inside text p) j → Type 0)
      → Found text p at k x → Found text p at l y → 0 < kind_number l → P k x → P l y
  same-there {at} {k} {l} {x} {y} P f g z =
      by-kind (kind-with k l (sym (kind-at text p f.stands) ∙ kind-at text p g.stands) z) y g
    where
      by-kind : {j : Kind} → k ≡ j → (y : Tree (inside text p) j) → Found text p at j y → P k x → P j y
      by-kind e =
          subst (λ (j : Kind). (y : Tree (inside text p) j) → Found text p at j y → P k x → P j y) e
          (λ y g q. subst (λ (u : Tree (inside text p) k). P k u) (same-tree f g) q)

  -- ---- the labels around a place

  -- they are those of the statements that the place is inside
  abbrev pub Surround : List (List ℕ) → ℕ → Type 0
  Surround ls at = (label : List ℕ) → Among label ls ↔ Around text p label at

  -- what begins from one place on has ended at another
  abbrev Clear : (from at : ℕ) → Type 0
  Clear from at = (y : ℕ) → from ≤ y → y < at → t.end y ≤ at

  -- inside a statement at a place is each place behind that place, within the tree that stands there
  widened : {label : List ℕ} {at b : ℕ} {k : Kind} {x : Tree (inside text p) k} → Found text p at k x → at < b → b < t.end at → Around text p label at → Around text p label b
  widened {label} {at} {b} f h l a =
      record {
        start = a.start;
        name = a.name;
        body = a.body;
        found = a.found;
        labelled = a.labelled;
        before = omega (arith, a.before);
        beyond = omega (arith, end-of text p a.found, enclosed-in a.found at (omega (arith, a.before)) (omega (arith, a.beyond, end-of text p a.found)));
      }

  narrowed : {label : List ℕ} {at b : ℕ} → at < b → (a : Around text p label b) → a.start < at → Around text p label at
  narrowed h a l =
      record { start = a.start; name = a.name; body = a.body; found = a.found; labelled = a.labelled; before = l; beyond = omega (arith, a.beyond) }

  -- around what a tree is made of
  surround-parts : {at b : ℕ} {k : Kind} {x : Tree (inside text p) k} {ls ms : List (List ℕ)} → Found text p at k x → Labels (inside text p) bytes k x ls ms
      → Surround ls at → at < b → b < t.end at → Clear (suc at) b → Surround ms b
  surround-parts {at} {b} f (labelled n s ls) around h l clear label = (to, from)
    where
      to : (bytes n ≡ label) ⊎ Among label ls → Around text p label b
      to (inl e) = record { start = at; name = n; body = s; found = f; labelled = e; before = h; beyond = omega (arith, end-of text p f) }
      to (inr a) = widened f h l ((around label).0 a)

      here : (a : Around text p label b) → at ≡ a.start → bytes n ≡ label
      here a e =
          let g : Found text p at stmt (LabeledStmt a.name a.body) = subst (λ (i : ℕ). Found text p i stmt (LabeledStmt a.name a.body)) (sym e) a.found in
          let same : LabeledStmt n s ≡ LabeledStmt a.name a.body = same-tree f g in
          let m : n ≡ a.name = cc in
          ap bytes m ∙ a.labelled

      from : Around text p label b → (bytes n ≡ label) ⊎ Among label ls
      from a =
          ⊎_elim (λ j. inr ((around label).1 (narrowed h a j)))
          (λ j. ⊎_elim (λ i. let c = clear a.start i a.before in absurd (omega (arith, c, a.beyond, end-of text p a.found))) (λ i. inl (here a (omega arith))) (cases_lt at a.start))
          (cases_lt a.start at)
  surround-parts {at} {b} {k} {x} f (unlabelled ls plain) around h l clear label = ((λ a. widened f h l ((around label).0 a)), from)
    where
      here : (a : Around text p label b) → at ≡ a.start → ⊥
      here a e =
          let g : Found text p at stmt (LabeledStmt a.name a.body) = subst (λ (i : ℕ). Found text p i stmt (LabeledStmt a.name a.body)) (sym e) a.found in
          plain (same-there (IsLabelled (inside text p)) g f (omega (arith, kind-at text p f.stands, kind-at text p g.stands)) (is_labelled a.name a.body))

      from : Around text p label b → Among label ls
      from a =
          ⊎_elim (λ j. (around label).1 (narrowed h a j))
          (λ j. ⊎_elim (λ i. let c = clear a.start i a.before in absurd (omega (arith, c, a.beyond, end-of text p a.found))) (λ i. absurd (here a (omega arith))) (cases_lt at a.start))
          (cases_lt a.start at)

  -- a statement with a label stands where one is asked for
  labelled-word : {at : ℕ} {k : Kind} {x : Tree (inside text p) k} → IsLabelled (inside text p) k x → Found text p at k x → is_statement t labeled_stmt_tag at ≡ true
  labelled-word (is_labelled n s) f = statement-of text p f labeled_stmt_tag (first-word text p f _ _ refl)

  -- each tree at a place has labels around what it is made of
  labels-of : {at : ℕ} {k : Kind} {x : Tree (inside text p) k} → Found text p at k x → (ls : List (List ℕ)) → (ms : List (List ℕ)) × Labels (inside text p) bytes k x ls ms
  labels-of {at} {k} {x} f ls = by-test (is_statement t labeled_stmt_tag at) refl
    where
      by-test : (b : Bool) → is_statement t labeled_stmt_tag at ≡ b → (ms : List (List ℕ)) × Labels (inside text p) bytes k x ls ms
      by-test true e =
          let g = found-statement text p at (in-table text p f) labeled_stmt_tag e _ refl in
          let n = g.0.0 in (
            bytes n ∷ ls,
            same-there (λ j u. Labels (inside text p) bytes j u ls (bytes n ∷ ls)) g.1 f (omega (arith, kind-at text p f.stands, kind-at text p g.1.stands)) (labelled n g.0.1.0 ls),
          )
      by-test false e = (ls, unlabelled ls (λ i. let w = labelled-word i f in impossible cc))

  -- ---- from parts to places

  -- one of several trees that stand from a place on
  record Member (at : ℕ) (fs ks : List Kind) (ts : Trees (inside text p) ks) (k : Kind) (x : Tree (inside text p) k) : Type 0 where
    place : ℕ
    found : Found text p place k x
    from : at ≤ place
    before-end : place < place-of ks ts
    clear : Clear at place

  member : {at : ℕ} {fs : List Kind} (ks : List Kind) {us : Trees (inside text p) fs} (ts : Trees (inside text p) ks) {k : Kind} {x : Tree (inside text p) k}
      → Standing at (fs ++ ks) (join (inside text p) fs ks us ts) → OneOf (inside text p) fs us k x → Member at fs ks ts k x
  member {at} ks ts s (first {ks = fs} {ts = us}) =
      let e = end-is s in
      record {
        place = at;
        found = record { later = fs ++ ks; trees = join (inside text p) fs ks us ts; stands = s };
        from = omega arith;
        before-end = omega (arith, e.0, e.1, no-earlier fs ks us ts (after text p s));
        clear = λ y l h. absurd (omega arith);
      }
  member {at} ks ts s (later {ks = fs} {u = u} {ts = us} o) =
      let e = end-is s in
      let m = member {at = t.end at} {fs = fs} ks {us = us} ts (after text p s) o in
      record {
        place = m.place;
        found = m.found;
        from = omega (arith, m.from, e.0, e.1);
        before-end = m.before-end;
        clear = λ y l h.
            ⊎_elim (λ j. omega (arith, m.from, enclosed-in (record { later = fs ++ ks; trees = join (inside text p) fs ks us ts; stands = s }) y l j)) (λ j. m.clear y j h) (cases_lt y (t.end at));
      }

  -- a part of a tree that stands at a place stands somewhere, and the labels around it are around that place
  part-stands : {at : ℕ} {k l : Kind} {x : Tree (inside text p) k} {y : Tree (inside text p) l} {ls ms : List (List ℕ)} → Part (inside text p) bytes k x ls l y ms
      → Found text p at k x → Surround ls at → (b : ℕ) × Found text p b l y × Surround ms b
  part-stands {at} itself f around = (at, f, around)
  part-stands {at} (of labels m one rest) f around =
      let e = end-is f.stands in
      let o = member f.later f.trees (behind f.stands m) one in
      part-stands {at = o.place} rest o.found (surround-parts f labels around (omega (arith, o.from)) (omega (arith, o.before-end, e.0)) o.clear)

  -- ---- from places to parts

  -- what stands at a place is a part of one of several trees, and the labels around it are around the place
  record Reached (fs : List Kind) (us : Trees (inside text p) fs) (ls : List (List ℕ)) (at : ℕ) (l : Kind) (y : Tree (inside text p) l) : Type 0 where
    field : Kind
    tree : Tree (inside text p) field
    one : OneOf (inside text p) fs us field tree
    labels : List (List ℕ)
    part : Part (inside text p) bytes field tree ls l y labels
    around : Surround labels at

  -- one more tree in front
  passed : {f : Kind} {fs : List Kind} {u : Tree (inside text p) f} {us : Trees (inside text p) fs} {ls : List (List ℕ)} {at : ℕ} {l : Kind} {y : Tree (inside text p) l}
      → Reached fs us ls at l y → Reached (f ∷ fs) (u, us) ls at l y
  passed r = record { field = r.field; tree = r.tree; one = later r.one; labels = r.labels; part = r.part; around = r.around }

  -- the labels around each place from `at` on where none of what began there goes on
  abbrev Surrounded : (ls : List (List ℕ)) (at end : ℕ) → Type 0
  Surrounded ls at end = (b : ℕ) → at ≤ b → b < end → Clear at b → Surround ls b

  reached : (n : ℕ) {at b : ℕ} {l : Kind} {y : Tree (inside text p) l} → Found text p b l y → 0 < kind_number l
      → (fs ks : List Kind) (us : Trees (inside text p) fs) (ts : Trees (inside text p) ks) → Standing at (fs ++ ks) (join (inside text p) fs ks us ts)
      → place-of ks ts ≤ at + n → (ls : List (List ℕ)) → Surrounded ls at (place-of ks ts) → at ≤ b → b < place-of ks ts → Reached fs us ls b l y
  reached n g z [] ks us ts s few ls around l h = absurd (omega (arith, stands-at s))
  reached zero g z (f ∷ fs) ks us ts s few ls around l h = absurd (omega arith)
  reached (suc n) {at} {b} {l = j} {y} g z (f ∷ fs) ks us ts s few ls around l h =
      let e = end-is s in
      let next = after text p s in
      let o = no-earlier fs ks us.1 ts next in
      let first-found : Found text p at f us.0 = record { later = fs ++ ks; trees = join (inside text p) fs ks us.1 ts; stands = s } in
      let here : Surround ls at = around at (omega arith) (omega (arith, e.0, e.1, o)) (λ i k m. absurd (omega arith)) in
      let m = makers s in
      let own = labels-of first-found ls in
      ⊎_elim
      (λ i. ⊎_elim
      (λ k.
      let r = reached n g z m.maker.fields (fs ++ ks) m.parts (join (inside text p) fs ks us.1 ts) (behind s m) (omega (arith, e.0, e.1, o)) own.0
      (λ c q w clear. surround-parts first-found own.1 here (omega arith) (omega (arith, e.0)) clear) (omega arith) (omega (arith, e.0)) in
      record { field = f; tree = us.0; one = first; labels = r.labels; part = of own.1 m r.one r.part; around = r.around })
      (λ k. at-first first-found here (omega arith))
      (cases_lt at b))
      (λ i. passed (reached n g z fs ks us.1 ts next (omega (arith, e.0, e.1)) ls
      (λ c q w clear. around c (omega (arith, e.0, e.1)) w
      (λ v k r. ⊎_elim (λ x. omega (arith, enclosed-in first-found v k x, q)) (λ x. clear v x r) (cases_lt v (t.end at)))) i h))
      (cases_lt b (t.end at))
    where
      at-first : Found text p at f us.0 → Surround ls at → at ≡ b → Reached (f ∷ fs) us ls b j y
      at-first k here e =
          let g' : Found text p at j y = subst (λ (i : ℕ). Found text p i j y) (sym e) g in
          record {
            field = f;
            tree = us.0;
            one = first;
            labels = ls;
            part = same-there (λ i v. Part (inside text p) bytes f us.0 ls i v ls) k g' z itself;
            around = subst (λ (i : ℕ). Surround ls i) e here;
          }

  -- ---- the parts of the program

  root : Standing 0 (program_fields ++ []) (join (inside text p) program_fields [] (from_program (inside text p) p) tt)
  root = stands (table text p) (length text) p refl

  -- no labels are around its sequences
  root-surrounded : Surrounded [] 0 (place-of [] tt)
  root-surrounded b l h clear label = (
    λ a. absurd a,
    λ a. let c = clear a.start (omega arith) a.before in absurd (omega (arith, c, a.beyond, end-of text p a.found)),
  )

  -- a part stands at a place inside the statements of its labels
  pub part-found : {k : Kind} {x : Tree (inside text p) k} {ls : List (List ℕ)} → PartOf text p k x ls → (at : ℕ) × Found text p at k x × Surround ls at
  part-found q =
      let m = member {fs = program_fields} [] {us = from_program (inside text p) p} tt root q.one in
      part-stands q.part m.found (root-surrounded m.place m.from m.before-end m.clear)

  -- and what stands at a place is a part
  pub found-part : {at : ℕ} {k : Kind} {x : Tree (inside text p) k} → Found text p at k x → 0 < kind_number k → (ls : List (List ℕ)) × PartOf text p k x ls × Surround ls at
  found-part {at} f z =
      let r = reached (length (table text p)) f z program_fields [] (from_program (inside text p) p) tt root (omega arith) [] root-surrounded (omega arith) (omega (arith, in-table text p f)) in
      (r.labels, record { field = r.field; tree = r.tree; one = r.one; part = r.part }, r.around)

  -- ---- the rules of parts

  -- no rule is broken at a place exactly where the parts keep the rules
  pub unbroken-keeps : ((rule at : ℕ) → Broken text p rule at → ⊥) ↔ KeepsRules text p
  unbroken-keeps = (
    λ never. record {
      statements = λ s ls q u. let f = part-found q in never statements_rule f.0 (statement f.1 u);
      bodies = λ r rs ls q e. let f = part-found q in never bodies_rule (suc f.0) (procedure f.1 e);
      invariants = λ s ls q. let f = part-found q in never invariants_rule f.0 (loop f.1);
      labels = λ n ls q. let f = part-found q in (f.2 (bytes n)).1 (is-around never f.0 n f.1);
    },
    keeps,
  )
    where
      is-around : ((rule at : ℕ) → Broken text p rule at → ⊥) → (at : ℕ) (n : N) → Found text p at stmt (Exit (some n)) → Around text p (bytes n) at
      is-around never at n f = by-test (around t text at (bytes n) at) refl
        where
          by-test : (b : Bool) → around t text at (bytes n) at ≡ b → Around text p (bytes n) at
          by-test true e = around-found text p at (bytes n) at (omega arith) (in-table text p f) e
          by-test false e = absurd (never labels_rule at (exit f (λ a. let y = found-around text p a at a.before in impossible cc)))

      keeps : KeepsRules text p → (rule at : ℕ) → Broken text p rule at → ⊥
      keeps k rule at (statement {s = s} f u) = let q = found-part f (omega arith) in k.statements s q.0 q.1 u
      keeps k rule at (procedure {q = r} {qs = rs} f e) = let q = found-part f (omega arith) in k.bodies r rs q.0 q.1 e
      keeps k rule at (loop {s = s} f) = let q = found-part f (omega arith) in k.invariants s q.0 q.1
      keeps k rule at (exit {name = n} f out) = let q = found-part f (omega arith) in out ((q.2 (bytes n)).0 (k.labels n q.0 q.1))
