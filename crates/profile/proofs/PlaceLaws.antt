-- Laws of the places of a program's words: at each of them a tree stands, whose kind and end the outline has.
use Rattle.std.specs.Prelude.{ℕ, zero, suc, ◌<◌, ◌≡◌, refl, List, [], ◌∷◌, ◌++◌, length}
use Rattle.std.proofs.Common.{arith, sym, ap, ◌∙◌, subst}
use Rattle.std.proofs.Math.Option.{some}
use Rattle.tree.specs.Ast.{Program}
use Rattle.tree.specs.Kind.{Kind, bool, operator, mode, natural, low, name, length_from, expr, stmt, aexpr, option, seq, program_fields}
use Rattle.tree.specs.Kind.{Item, of_name, of_expr, of_binding, of_pattern, of_closure_binding, of_closure_property, of_stmt, of_call_argument, of_case, of_a_expr, of_tagger, of_f_parameter, of_function, of_axiom, of_p_parameter, of_procedure}
use Rattle.tree.specs.Kind.{Content, a_name, an_expr, a_stmt, a_definition}
use Rattle.tree.specs.KindNumbers.{kind_number, kind_of, content_number, item_number}
use Rattle.tree.specs.Check.{NameIn}
use Rattle.tree.specs.Trees.{Tree, Trees, apply, Form}
use Rattle.tree.specs.Forms.{form}
use Rattle.tree.specs.Opened.{join}
use Rattle.tree.specs.OutlineLaws.{not-over}
use Rattle.tree.specs.OutlineTrees.{Stands, first-tree, parts-of}
use Rattle.tree.specs.Tables.{from_program}
use Rattle.tree.specs.ProgramOutline.{stands}
use Rattle.profile.specs.Profile.{Places, places}
use Rattle.profile.specs.Rules.{inside, table}

-- ---- the kind with a number

content-numbered : (c : Content) → kind_of (content_number c) ≡ option c
unfolding kind_of
content-numbered a_name = refl
content-numbered an_expr = refl
content-numbered a_stmt = refl
content-numbered a_definition = refl

item-numbered : (i : Item) → kind_of (item_number i) ≡ seq i
unfolding kind_of
item-numbered of_name = refl
item-numbered of_expr = refl
item-numbered of_binding = refl
item-numbered of_pattern = refl
item-numbered of_closure_binding = refl
item-numbered of_closure_property = refl
item-numbered of_stmt = refl
item-numbered of_call_argument = refl
item-numbered of_case = refl
item-numbered of_a_expr = refl
item-numbered of_tagger = refl
item-numbered of_f_parameter = refl
item-numbered of_function = refl
item-numbered of_axiom = refl
item-numbered of_p_parameter = refl
item-numbered of_procedure = refl

-- a kind is that of its number, save those of second words
numbered : (k : Kind) → 0 < kind_number k → kind_of (kind_number k) ≡ k
unfolding kind_of
numbered bool h = refl
numbered operator h = refl
numbered mode h = refl
numbered natural h = refl
numbered low h = absurd (omega arith)
numbered name h = refl
numbered (length_from s) h = absurd (omega arith)
numbered expr h = refl
numbered stmt h = refl
numbered aexpr h = refl
numbered (option c) h = content-numbered c
numbered (seq i) h = item-numbered i

pub kind-with : (k l : Kind) → kind_number k ≡ kind_number l → 0 < kind_number l → k ≡ l
kind-with k l e h = sym (numbered k (omega (arith, e))) ∙ ap kind_of e ∙ numbered l h

module _ (text : List ℕ) (p : Program (NameIn (length text))) where
  abbrev N : Type 0
  N = NameIn (length text)

  -- what stands at a place of the program's words, and what is known of the places
  abbrev Standing : (at : ℕ) (ks : List Kind) → Trees (inside text p) ks → Type 0
  Standing = Stands (inside text p) program_fields (table text p)

  abbrev pub at_places : Places
  at_places = places (table text p) (length text)

  -- ---- what stands at a place

  pub record Here (at : ℕ) : Type 0 where
    pub kind : Kind
    pub later : List Kind
    pub tree : Tree (inside text p) kind
    pub trees : Trees (inside text p) later
    pub stands : Standing at (kind ∷ later) (tree, trees)

  one-of : (at : ℕ) → at < length (table text p) → (ks : List Kind) (ts : Trees (inside text p) ks) → Standing at ks ts → Here at
  one-of at h [] ts s = absurd (not-over (inside text p).inside program_fields (table text p) at h s.expects)
  one-of at h (k ∷ ks) ts s = record { kind = k; later = ks; tree = ts.0; trees = ts.1; stands = s }

  -- at each place there is a tree
  pub here : (at : ℕ) → at < length (table text p) → Here at
  here zero h = one-of 0 h program_fields (from_program (inside text p) p) (stands (table text p) (length text) p refl)
  here (suc at) h =
      let s = here at (omega arith) in
      let f = parts-of (inside text p) program_fields (table text p) at s.kind s.later s.tree s.trees s.stands in
      one-of (suc at) h (f.maker.fields ++ s.later) (join (inside text p) f.maker.fields s.later f.parts s.trees) f.stand

  -- what follows a tree stands at its end
  pub after : {at : ℕ} {k : Kind} {ks : List Kind} {t : Tree (inside text p) k} {ts : Trees (inside text p) ks}
      → Standing at (k ∷ ks) (t, ts) → Standing (at_places.end at) ks ts
  after {at} {k} {ks} {t} {ts} s =
      let f = first-tree (inside text p) program_fields (table text p) at k ks t ts s in
      subst (λ (n : ℕ). Standing n ks ts) (sym f.end_is) f.others

  -- the number of its kind stands there
  pub kind-at : {at : ℕ} {k : Kind} {ks : List Kind} {t : Tree (inside text p) k} {ts : Trees (inside text p) ks}
      → Standing at (k ∷ ks) (t, ts) → at_places.kind at ≡ kind_number k
  kind-at {at} {k} {ks} {t} {ts} s = (first-tree (inside text p) program_fields (table text p) at k ks t ts s).kind-is

  -- ---- a tree whose first word is known

  -- it is made of these trees, which stand behind that word
  pub record MadeOf (at : ℕ) (k : Kind) (ks : List Kind) (t : Tree (inside text p) k) (ts : Trees (inside text p) ks) (f : Form (inside text p) (Tree (inside text p) k)) : Type 0 where
    pub parts : Trees (inside text p) f.fields
    pub made : apply (inside text p) f.fields f.make parts ≡ t
    pub stand : Standing (suc at) (f.fields ++ ks) (join (inside text p) f.fields ks parts ts)

  pub made-of : {at : ℕ} {k : Kind} {ks : List Kind} {t : Tree (inside text p) k} {ts : Trees (inside text p) ks} → Standing at (k ∷ ks) (t, ts)
      → (w : ℕ) (f : Form (inside text p) (Tree (inside text p) k)) → at_places.word at ≡ w → form (inside text p) k w ≡ some f → MadeOf at k ks t ts f
  made-of {at} {k} {ks} {t} {ts} s w f e g =
      let o = parts-of (inside text p) program_fields (table text p) at k ks t ts s in
      let m : o.maker ≡ f = some-same (sym o.formed ∙ ap (form (inside text p) k) e ∙ g) in
      subst (λ (x : Form (inside text p) (Tree (inside text p) k)). MadeOf at k ks t ts x) m (record { parts = o.parts; made = o.made; stand = o.stand })
    where
      some-same : {x y : Form (inside text p) (Tree (inside text p) k)} → some x ≡ some y → x ≡ y
      some-same e = cc
