-- A rule of the bench profile is broken at a place of a program's words exactly where the trees say so.
use Rattle.std.specs.Prelude.{ℕ, zero, suc, ◌+◌, ◌≤◌, ◌<◌, ◌≡◌, refl, Bool, ◌&&◌, List, [], ◌∷◌, length, get_or, eqb, ltb, Some, None}
use Rattle.std.proofs.Common.{arith, sym, ap, ◌∙◌, subst, length-drop, length-append, get_or-drop, ⊎_elim}
use Rattle.std.proofs.lemmas.Bool.{and_parts, and_from, and_left, and_right, or_cases, or_from, or_left, or_right, eq-eqb, eqb-true, lt-ltb, ltb-true, not-true, not_from_false, cases_lt, false_from_ne_true}
use Rattle.std.proofs.Math.Bool.{true, false, cond}
use Rattle.std.proofs.Math.Option.{Option, some, none}
use Rattle.tree.specs.Clash.{impossible}
use Rattle.tree.specs.Ast.{Stmt, Loop, LabeledStmt, Exit, AExprs, no_a_exprs, a_exprs, Procedure, Program}
use Rattle.tree.specs.Tags.{more, no_more, reach_tag, a_forall_tag, choose_tag, loop_tag, labeled_stmt_tag, exit_tag, probe_tag}
use Rattle.tree.specs.Resolve.{part, bytes_of}
use Rattle.tree.specs.Kind.{Kind, name, stmt, option, a_stmt, seq, of_procedure, of_p_parameter, of_a_expr, program_fields}
use Rattle.tree.specs.KindNumbers.{kind_number}
use Rattle.tree.specs.Check.{NameIn}
use Rattle.tree.specs.Trees.{Tree, Trees, words, all_words, apply, Form}
use Rattle.tree.specs.Forms.{form}
use Rattle.tree.specs.Walk.{head_at, words_append}
use Rattle.tree.specs.OutlineTrees.{Stands, first-tree}
use Rattle.names.specs.Names.{same}
use Rattle.names.specs.NumberLaws.{same_refl, same_true}
use Rattle.profile.specs.Profile.{Places, statement as is_statement, procedure as is_procedure, exit as is_exit, body, name as name_at, unsuited, lacks_body, lacks_invariant, around, lacks_label, broken}
use Rattle.profile.specs.Profile.{statements_rule, bodies_rule, invariants_rule, labels_rule}
use Rattle.profile.specs.Rules.{inside, table, Found, Unsuited, reach, a_forall, choose, probe, Around, Broken, statement, procedure, loop, exit}
use Rattle.profile.proofs.PlaceLaws.{kind-with, at_places, here, after, kind-at, made-of}

module _ (text : List ℕ) (p : Program (NameIn (length text))) where
  abbrev t : Places
  t = at_places text p

  abbrev N : Type 0
  N = NameIn (length text)

  -- ---- what stands at a place, by the numbers there

  -- the word so many places on
  word-of : {at : ℕ} {k : Kind} {x : Tree (inside text p) k} → (f : Found text p at k x) → (i : ℕ)
      → t.word (at + i) ≡ get_or (words (inside text p) k x (all_words (inside text p) f.later f.trees [])) i 0
  word-of {at} f i = sym (get_or-drop at (table text p) i 0) ∙ ap (λ (l : List ℕ). get_or l i 0) f.stands.words-at

  pub first-word : {at : ℕ} {k : Kind} {x : Tree (inside text p) k} → (f : Found text p at k x) → (w : ℕ) (ws : List ℕ)
      → words (inside text p) k x (all_words (inside text p) f.later f.trees []) ≡ w ∷ ws → t.word at ≡ w
  first-word {at} f w ws e = (head_at (table text p) at w ws (f.stands.words-at ∙ e)).1

  -- a tree of the kind with that number
  of-kind : (at : ℕ) → at < length (table text p) → (k : Kind) → 0 < kind_number k → t.kind at ≡ kind_number k → (x : Tree (inside text p) k) × Found text p at k x
  of-kind at h k z e =
      let s = here text p at h in
      subst (λ (l : Kind). (x : Tree (inside text p) l) → Stands (inside text p) program_fields (table text p) at (l ∷ s.later) (x, s.trees) → (x : Tree (inside text p) k) × Found text p at k x)
      (kind-with k s.kind (sym e ∙ kind-at text p s.stands) (let m = kind-at text p s.stands in omega (arith, e)))
      (λ x stands. (x, record { later = s.later; trees = s.trees; stands = stands }))
      s.tree s.stands

  -- what is found is inside the table
  pub in-table : {at : ℕ} {k : Kind} {x : Tree (inside text p) k} → Found text p at k x → at < length (table text p)
  in-table {at} {k} {x} f = let b = (first-tree (inside text p) program_fields (table text p) at k f.later x f.trees f.stands).before-end in omega arith

  -- ---- statements

  pub statement-of : {at : ℕ} {s : Stmt N} → Found text p at stmt s → (tag : ℕ) → t.word at ≡ tag → is_statement t tag at ≡ true
  statement-of {at} f tag e = and_from _ _ (eq-eqb _ _ (kind-at text p f.stands)) (eq-eqb _ _ e)

  pub found-statement : (at : ℕ) → at < length (table text p) → (tag : ℕ) → is_statement t tag at ≡ true
      → (f : Form (inside text p) (Stmt N)) → form (inside text p) stmt tag ≡ some f
      → (us : Trees (inside text p) f.fields) × Found text p at stmt (apply (inside text p) f.fields f.make us)
  found-statement at h tag e f g =
      let b = and_parts _ _ e in
      let s = of-kind at h stmt (omega arith) (eqb-true _ _ b.0) in
      let m = made-of text p s.1.stands tag f (eqb-true _ _ b.1) g in
      (m.parts, subst (λ (x : Stmt N). Found text p at stmt x) (sym m.made) s.1)

  -- ---- rule 1

  pub unsuited-found : (at : ℕ) → at < length (table text p) → unsuited t at ≡ true → (s : Stmt N) × Found text p at stmt s × Unsuited text p s
  unsuited-found at h e =
      ⊎_elim (λ a. ⊎_elim (λ b. ⊎_elim (λ c. let f = found-statement at h reach_tag c _ refl in (_, f.1, reach _))
      (λ c. let f = found-statement at h a_forall_tag c _ refl in (_, f.1, a_forall _ _ _)) (or_cases _ _ b))
      (λ b. let f = found-statement at h choose_tag b _ refl in (_, f.1, choose _)) (or_cases _ _ a))
      (λ a. let f = found-statement at h probe_tag a _ refl in (_, f.1, probe _)) (or_cases _ _ e)

  pub found-unsuited : {at : ℕ} {s : Stmt N} → Found text p at stmt s → Unsuited text p s → unsuited t at ≡ true
  found-unsuited f (reach e) = or_left _ _ (or_left _ _ (or_left _ _ (statement-of f reach_tag (first-word f _ _ refl))))
  found-unsuited f (a_forall variable typ s) = or_left _ _ (or_left _ _ (or_right _ _ (statement-of f a_forall_tag (first-word f _ _ refl))))
  found-unsuited f (choose branches) = or_left _ _ (or_right _ _ (statement-of f choose_tag (first-word f _ _ refl)))
  found-unsuited f (probe e) = or_right _ _ (statement-of f probe_tag (first-word f _ _ refl))

  -- ---- rule 2

  -- from a procedure's name on, its body
  body-stands : {at : ℕ} {n : N} {ps : Tree (inside text p) (seq of_p_parameter)} {pre post : AExprs N} {b : Option (Stmt N)} {ks : List Kind} {ts : Trees (inside text p) ks}
      → Stands (inside text p) program_fields (table text p) at (name ∷ seq of_p_parameter ∷ seq of_a_expr ∷ seq of_a_expr ∷ option a_stmt ∷ ks) (n, (ps, (pre, (post, (b, ts)))))
      → Found text p (body t at) (option a_stmt) b
  body-stands {ks = ks} {ts = ts} s = record { later = ks; trees = ts; stands = after text p (after text p (after text p (after text p s))) }

  -- a body is said by the word there
  body-word : {at : ℕ} {b : Option (Stmt N)} → Found text p at (option a_stmt) b → t.word at ≡ elim b [ some s ↦ more | none ↦ no_more ]
  body-word {b = none} f = first-word f _ _ refl
  body-word {b = some s} f = first-word f _ _ refl

  -- the first of several procedures: its name and its body stand behind its mark
  record FirstProcedure (mark : ℕ) (x : List (Procedure N)) : Type 0 where
    first : Procedure N
    others : List (Procedure N)
    made : first ∷ others ≡ x
    name-found : Found text p (suc mark) name first.name
    body-found : Found text p (body t (suc mark)) (option a_stmt) first.body

  first-procedure : {mark : ℕ} {x : List (Procedure N)} → Found text p mark (seq of_procedure) x → t.word mark ≡ more → FirstProcedure mark x
  first-procedure {mark} {x} f e =
      let m = made-of text p f.stands more _ e refl in
      record {
        first = record { name = m.parts.0; parameters = m.parts.1.0; pre = m.parts.1.1.0; post = m.parts.1.1.1.0; body = m.parts.1.1.1.1.0 };
        others = m.parts.1.1.1.1.1.0;
        made = m.made;
        name-found = record { later = _; trees = _; stands = m.stand };
        body-found = body-stands m.stand;
      }

  abbrev body_of : List (Procedure N) → Option (Stmt N)
  body_of [] = none
  body_of (q ∷ qs) = q.body

  pub record NoBody (at : ℕ) : Type 0 where
    pub mark : ℕ
    pub first : Procedure N
    pub others : List (Procedure N)
    pub behind : suc mark ≡ at
    pub found : Found text p mark (seq of_procedure) (first ∷ others)
    pub no-body : first.body ≡ none

  -- where no body is said there is none
  said-none : {at : ℕ} {b : Option (Stmt N)} → Found text p at (option a_stmt) b → t.word at ≡ no_more → b ≡ none
  said-none {b = none} f e = refl
  said-none {b = some s} f e = let w = body-word f in impossible cc

  pub no-body-found : (at : ℕ) → at < length (table text p) → lacks_body t at ≡ true → NoBody at
  no-body-found zero h e = impossible cc
  no-body-found (suc mark) h e =
      let b = and_parts _ _ e in
      let m = and_parts _ _ b.0 in
      let f = of-kind mark (omega arith) (seq of_procedure) (omega arith) (eqb-true _ _ m.0) in
      let q = first-procedure f.1 (eqb-true _ _ m.1) in
      record {
        mark = mark;
        first = q.first;
        others = q.others;
        behind = refl;
        found = subst (λ (x : List (Procedure N)). Found text p mark (seq of_procedure) x) (sym q.made) f.1;
        no-body = said-none q.body-found (eqb-true _ _ b.1);
      }

  pub found-no-body : {mark : ℕ} {q : Procedure N} {qs : List (Procedure N)} → Found text p mark (seq of_procedure) (q ∷ qs) → q.body ≡ none → lacks_body t (suc mark) ≡ true
  found-no-body {mark} {q} {qs} f e =
      let w = first-word f _ _ refl in
      let o = first-procedure f w in
      let none-said = body-word o.body-found ∙ ap (λ (b : Option (Stmt N)). elim b [ some s ↦ more | none ↦ no_more ]) (ap body_of o.made ∙ e) in
      and_from _ _ (and_from _ _ (eq-eqb _ _ (kind-at text p f.stands)) (eq-eqb _ _ w)) (eq-eqb _ _ none-said)

  -- ---- rule 3

  pub no-invariant-found : (at : ℕ) → at < length (table text p) → lacks_invariant t at ≡ true → (s : Stmt N) × Found text p at stmt (Loop no_a_exprs s)
  no-invariant-found at h e =
      let b = and_parts _ _ e in
      let f = found-statement at h loop_tag b.0 _ refl in
      by-items f.0.0 f.0.1.0 f.1 (eqb-true _ _ b.1)
    where
      by-items : (is : AExprs N) (s : Stmt N) → Found text p at stmt (Loop is s) → t.word (at + 1) ≡ no_more → (s : Stmt N) × Found text p at stmt (Loop no_a_exprs s)
      by-items no_a_exprs s f w = (s, f)
      by-items (a_exprs a es) s f w = let v = word-of f 1 in impossible cc

  pub found-no-invariant : {at : ℕ} {s : Stmt N} → Found text p at stmt (Loop no_a_exprs s) → lacks_invariant t at ≡ true
  found-no-invariant f = and_from _ _ (statement-of f loop_tag (first-word f _ _ refl)) (eq-eqb _ _ (word-of f 1))

  -- ---- rule 4

  -- an exit with a label, and the bytes of its label
  exit-found : (at : ℕ) → at < length (table text p) → is_exit t at ≡ true → (n : N) × Found text p at stmt (Exit (some n))
  exit-found at h e =
      let b = and_parts _ _ e in
      let f = found-statement at h exit_tag b.0 _ refl in
      by-label f.0.0 f.1 (eqb-true _ _ b.1)
    where
      by-label : (o : Option N) → Found text p at stmt (Exit o) → t.word (at + 1) ≡ more → (n : N) × Found text p at stmt (Exit (some n))
      by-label none f w = let v = word-of f 1 in impossible cc
      by-label (some n) f w = (n, f)

  found-exit : {at : ℕ} {n : N} → Found text p at stmt (Exit (some n)) → is_exit t at ≡ true
  found-exit f = and_from _ _ (statement-of f exit_tag (first-word f _ _ refl)) (eq-eqb _ _ (word-of f 1))

  name-by : (i : ℕ) (n : N) → t.word i ≡ n.span.start → t.word (i + 1) ≡ n.span.len → name_at t text i ≡ bytes_of text n.span
  name-by i n a b j = part text (a j) (b j)

  exit-name : {at : ℕ} {n : N} → Found text p at stmt (Exit (some n)) → name_at t text (at + 2) ≡ bytes_of text n.span
  exit-name {at} {n} f = let e : at + 2 + 1 ≡ at + 3 = omega arith in name-by (at + 2) n (word-of f 2) (ap t.word e ∙ word-of f 3)

  label-name : {at : ℕ} {n : N} {s : Stmt N} → Found text p at stmt (LabeledStmt n s) → name_at t text (at + 1) ≡ bytes_of text n.span
  label-name {at} {n} {s} f = let e : at + 1 + 1 ≡ at + 2 = omega arith in name-by (at + 1) n (word-of f 1) (ap t.word e ∙ word-of f 2)

  -- the end of a tree is behind its words
  pub end-of : {at : ℕ} {k : Kind} {x : Tree (inside text p) k} → Found text p at k x → t.end at ≡ at + length (words (inside text p) k x [])
  end-of {at} {k} {x} f =
      let rest = all_words (inside text p) f.later f.trees [] in
      let e = (first-tree (inside text p) program_fields (table text p) at k f.later x f.trees f.stands).end_is in
      let l = ap length f.stands.words-at ∙ ap length (words_append (inside text p) k x rest) ∙ length-append (words (inside text p) k x []) rest in
      let b = (first-tree (inside text p) program_fields (table text p) at k f.later x f.trees f.stands).before-end in
      omega (arith, e, l, b, length-drop at (table text p))

  pub around-found : (start : ℕ) (label : List ℕ) (at : ℕ) → start ≤ at → at < length (table text p) → around t text start label at ≡ true → Around text p label at
  unfolding around
  around-found zero label at l h e = impossible cc
  around-found (suc start) label at l h e = ⊎_elim here (λ o. around-found start label at (omega arith) h o) (or_cases _ _ e)
    where
      here : (is_statement t labeled_stmt_tag start && same (name_at t text (start + 1)) label && ltb at (t.end start)) ≡ true → Around text p label at
      here b =
          let a = and_parts _ _ b in
          let c = and_parts _ _ a.0 in
          let f = found-statement start (omega arith) labeled_stmt_tag c.0 _ refl in
          record {
            start = start;
            name = f.0.0;
            body = f.0.1.0;
            found = f.1;
            labelled = sym (label-name f.1) ∙ same_true _ _ c.1;
            before = omega arith;
            beyond = omega (arith, ltb-true _ _ a.1, end-of f.1);
          }

  pub found-around : {label : List ℕ} {at : ℕ} → (a : Around text p label at) → (start : ℕ) → a.start < start → around t text start label at ≡ true
  unfolding around
  found-around a zero h = absurd (omega arith)
  found-around {label} {at} a (suc start) h = ⊎_elim (λ l. or_right _ _ (found-around a start l)) (λ l. or_left _ _ (last (omega arith))) (cases_lt a.start start)
    where
      last : a.start ≡ start → (is_statement t labeled_stmt_tag start && same (name_at t text (start + 1)) label && ltb at (t.end start)) ≡ true
      last e =
          subst (λ (i : ℕ). (is_statement t labeled_stmt_tag i && same (name_at t text (i + 1)) label && ltb at (t.end i)) ≡ true) e
          (and_from _ _ (and_from _ _ (statement-of a.found labeled_stmt_tag (first-word a.found _ _ refl))
          (ap (λ (b : List ℕ). same b label) (label-name a.found ∙ a.labelled) ∙ same_refl label))
          (lt-ltb _ _ (omega (arith, a.beyond, end-of a.found))))

  pub no-label-found : (at : ℕ) → at < length (table text p) → lacks_label t text at ≡ true → (n : N) × Found text p at stmt (Exit (some n)) × (Around text p (bytes_of text n.span) at → ⊥)
  no-label-found at h e =
      let b = and_parts _ _ e in
      let f = exit-found at h b.0 in
      let no = not-true _ b.1 in
      (f.0, f.1, λ a. let y = ap (λ (l : List ℕ). around t text at l at) (exit-name f.1) ∙ found-around a at a.before in impossible cc)

  pub found-no-label : {at : ℕ} {n : N} → Found text p at stmt (Exit (some n)) → (Around text p (bytes_of text n.span) at → ⊥) → lacks_label t text at ≡ true
  found-no-label {at} {n} f out =
      and_from _ _ (found-exit f)
      (not_from_false _ (false_from_ne_true _ (λ y.
      out (around-found at (bytes_of text n.span) at (omega arith) (in-table f)
      (ap (λ (l : List ℕ). around t text at l at) (sym (exit-name f)) ∙ y)))))

  -- ---- at most one rule at a place

  -- behind the mark before a procedure stands its name
  procedure-kind : (at : ℕ) → at < length (table text p) → is_procedure t at ≡ true → t.kind at ≡ kind_number name
  procedure-kind zero h e = impossible cc
  procedure-kind (suc mark) h e =
      let m = and_parts _ _ e in
      let f = of-kind mark (omega arith) (seq of_procedure) (omega arith) (eqb-true _ _ m.0) in
      kind-at text p (first-procedure f.1 (eqb-true _ _ m.1)).name-found.stands

  procedure-suited : (at : ℕ) → at < length (table text p) → t.kind at ≡ kind_number name → unsuited t at ≡ false
  procedure-suited at h k = false_from_ne_true _ (λ e. let f = unsuited-found at h e in let s = kind-at text p f.1.stands in impossible cc)

  -- a statement is no procedure
  no-procedure : {at : ℕ} {s : Stmt N} → Found text p at stmt s → lacks_body t at ≡ false
  no-procedure {at} f =
      false_from_ne_true _ (λ e.
      let k = procedure-kind at (in-table f) (and_parts _ _ e).0 in
      let s = kind-at text p f.stands in
      impossible cc)

  -- one whose first word is another's is none of a constructor
  not-of : (at tag w : ℕ) → t.word at ≡ w → eqb w tag ≡ false → is_statement t tag at ≡ false
  not-of at tag w e d = and_right _ _ (ap (λ (v : ℕ). eqb v tag) e ∙ d)

  -- nor does it break rule 1, where the word is none of that rule's
  suited : (at w : ℕ) → t.word at ≡ w → eqb w reach_tag ≡ false → eqb w a_forall_tag ≡ false → eqb w choose_tag ≡ false → eqb w probe_tag ≡ false → unsuited t at ≡ false
  suited at w e r a c b =
      or_from _ _ (or_from _ _ (or_from _ _ (not-of at reach_tag w e r) (not-of at a_forall_tag w e a)) (not-of at choose_tag w e c)) (not-of at probe_tag w e b)

  exit-no-loop : (at : ℕ) → t.word at ≡ exit_tag → lacks_invariant t at ≡ false
  exit-no-loop at e = and_left _ _ (not-of at loop_tag exit_tag e refl)

  -- ---- all rules

  -- the rule that is asked for is broken by the trees
  pub broken-found : (at r : ℕ) → at < length (table text p) → broken t text at ≡ Some r → Broken text p r at
  unfolding broken
  broken-found at r h e = by-statement (unsuited t at) refl e
    where
      is-rule : (rule : ℕ) → Some rule ≡ Some r → Broken text p rule at → Broken text p r at
      is-rule rule q b = let m : rule ≡ r = cc in subst (λ (n : ℕ). Broken text p n at) m b

      by-label : (b : Bool) → lacks_label t text at ≡ b → cond b (Some labels_rule) None ≡ Some r → Broken text p r at
      by-label true q e = let f = no-label-found at h q in is-rule labels_rule e (exit f.1 f.2)
      by-label false q e = impossible cc

      by-loop : (b : Bool) → lacks_invariant t at ≡ b → cond b (Some invariants_rule) (cond (lacks_label t text at) (Some labels_rule) None) ≡ Some r → Broken text p r at
      by-loop true q e = let f = no-invariant-found at h q in is-rule invariants_rule e (loop f.1)
      by-loop false q e = by-label (lacks_label t text at) refl e

      by-procedure : (b : Bool) → lacks_body t at ≡ b
          → cond b (Some bodies_rule) (cond (lacks_invariant t at) (Some invariants_rule) (cond (lacks_label t text at) (Some labels_rule) None)) ≡ Some r → Broken text p r at
      by-procedure true q e =
          let f = no-body-found at h q in
          is-rule bodies_rule e (subst (λ (i : ℕ). Broken text p bodies_rule i) f.behind (procedure f.found f.no-body))
      by-procedure false q e = by-loop (lacks_invariant t at) refl e

      by-statement : (b : Bool) → unsuited t at ≡ b
          → cond b (Some statements_rule) (cond (lacks_body t at) (Some bodies_rule) (cond (lacks_invariant t at) (Some invariants_rule) (cond (lacks_label t text at) (Some labels_rule) None))) ≡ Some r
          → Broken text p r at
      by-statement true q e = let f = unsuited-found at h q in is-rule statements_rule e (statement f.1 f.2)
      by-statement false q e = by-procedure (lacks_body t at) refl e

  -- and one that the trees break is the one that is asked for
  pub found-broken : {r at : ℕ} → Broken text p r at → broken t text at ≡ Some r
  unfolding broken
  found-broken (statement f u) = simp (found-unsuited f u)
  found-broken (procedure {mark} f e) =
      let n = (first-procedure f (first-word f _ _ refl)).name-found in
      simp (procedure-suited (suc mark) (in-table n) (kind-at text p n.stands), found-no-body f e)
  found-broken (loop {at} f) = simp (suited at loop_tag (first-word f _ _ refl) refl refl refl refl, no-procedure f, found-no-invariant f)
  found-broken (exit {at} f out) =
      let w = first-word f _ _ refl in
      simp (suited at exit_tag w refl refl refl refl, no-procedure f, exit-no-loop at w, found-no-label f out)

  pub broken-in : {r at : ℕ} → Broken text p r at → at < length (table text p)
  broken-in (statement f u) = in-table f
  broken-in (procedure f e) = in-table (first-procedure f (first-word f _ _ refl)).name-found
  broken-in (loop f) = in-table f
  broken-in (exit f out) = in-table f
