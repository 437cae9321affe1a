-- Of words that the check accepts, the code notes the kinds and the ends of the outline.
use Rattle.std.specs.Prelude.{Err}
use Prim.Native.Nat.{ℕ, zero, suc, ◌+◌, ◌-◌, ◌^◌, ◌≤◌, ◌<◌}
use native.Mathlib.Omega.{arith}
use mathlib.Core.Path.{◌≡◌, refl, sym, ap, ◌∙◌}
use mathlib.Core.Bool.{Bool, true, false}
use mathlib.Core.List.{List, [], ◌∷◌, ◌++◌, append-nil, append_assoc}
use lib.ListN.{length, get_or, take, drop, set, length-set}
use lib.Seq.{take-suc-set, get_or-set_same, get_or-set_other, get_or-take, ext_get_or, length-take-le, drop-drop}
use lib.Dec.{eqb, ltb}
use borrow.Author.Tests.{eqb-true, eqb-false}
use Rattle.tree.specs.Clash.{impossible}
use Rattle.tree.specs.Kind.{Kind, bool, operator, mode, natural, low, name, length_from, expr, stmt, aexpr, option, seq, Turn, fits, misfit, turn, second}
use Rattle.tree.specs.Kind.{Item, of_name, of_expr, of_binding, of_pattern, of_closure_binding, of_closure_property, of_stmt, of_call_argument, of_case, of_a_expr, of_tagger, of_f_parameter, of_function, of_axiom, of_p_parameter, of_procedure}
use Rattle.tree.specs.Kind.{Content, a_name, an_expr, a_stmt, a_definition}
use Rattle.tree.specs.KindNumbers.{kind_number, kind_of}
use Rattle.tree.specs.Check.{Checked, one_tree, run}
use Rattle.tree.specs.Outline.{extent, kind_numbers, end_places}
use Rattle.tree.specs.OutlineLaws.{lengths, extent-none, behind, Expects, expects-behind, word_at, not-over, expects-at}
use Rattle.tree.specs.Notes.{kind_notes, field_count, fields_at, fields_end, end_at, end_notes}
use Rattle.tree.specs.declared.CheckError.TheVariants.{Misfit}

-- ---- the kinds

module _ (inside : ℕ → ℕ → Bool) where
  -- the notes of accepted words: those before them, and then the kinds' numbers
  kinds-noted : (ks : List Kind) (at : ℕ) (ws notes : List ℕ) → run inside ks at ws ≡ one_tree → at + length ws ≤ length notes
      → take (at + length ws) (kind_notes inside ks at ws notes) ≡ take at notes ++ kind_numbers inside ks ws
  unfolding run kind_notes kind_numbers
  kinds-noted [] at [] notes e h = let z : at + 0 ≡ at = omega arith in ap (λ (n : ℕ). take n notes) z ∙ sym (append-nil (take at notes))
  kinds-noted [] at (w ∷ ws) notes e h = impossible cc
  kinds-noted (k ∷ ks) at [] notes e h = impossible cc
  kinds-noted (k ∷ ks) at (w ∷ ws) notes e h = by_turn (turn inside k w) e (λ fs. kinds-noted (fs ++ ks) (suc at) ws (set notes at (kind_number k)))
    where
      by_turn : (u : Turn) → ◌≡◌ {A = Checked} (elim u [ fits fs ↦ run inside (fs ++ ks) (suc at) ws | misfit back ↦ Err (Misfit (at - back)) ]) one_tree
          → ((fs : List Kind) → run inside (fs ++ ks) (suc at) ws ≡ one_tree → suc at + length ws ≤ length (set notes at (kind_number k))
          → take (suc at + length ws) (kind_notes inside (fs ++ ks) (suc at) ws (set notes at (kind_number k)))
          ≡ take (suc at) (set notes at (kind_number k)) ++ kind_numbers inside (fs ++ ks) ws)
          → take (at + suc (length ws)) (elim u [ fits fs ↦ kind_notes inside (fs ++ ks) (suc at) ws (set notes at (kind_number k)) | misfit back ↦ notes ])
          ≡ take at notes ++ (kind_number k ∷ elim u [ fits fs ↦ kind_numbers inside (fs ++ ks) ws | misfit back ↦ [] ])
      by_turn (misfit back) e ih = impossible cc
      by_turn (fits fs) e ih =
          let n : at + suc (length ws) ≡ suc at + length ws = omega arith in
          ap (λ (m : ℕ). take m (kind_notes inside (fs ++ ks) (suc at) ws (set notes at (kind_number k)))) n
          ∙ ih fs e (simp length-set (omega arith))
          ∙ ap (λ (l : List ℕ). l ++ kind_numbers inside (fs ++ ks) ws) (take-suc-set notes at (kind_number k) (omega arith))
          ∙ append_assoc (take at notes) (kind_number k ∷ []) (kind_numbers inside (fs ++ ks) ws)

-- ---- the kind with a number, and its fields

module _ (inside : ℕ → ℕ → Bool) where
  -- a second word has no fields
  second-fields : (b : Bool) (back : ℕ) (fs : List Kind) → second b back ≡ fits fs → 0 ≡ length fs
  second-fields true back fs e = ap field_count e
  second-fields false back fs e = impossible cc

  -- those of an option's mark, and of a sequence's
  content-fields : (c : Content) (w : ℕ) (fs : List Kind) → turn inside (option c) w ≡ fits fs → fields_at (kind_number (option c)) w ≡ length fs
  unfolding kind_of
  content-fields a_name w fs e = ap field_count e
  content-fields an_expr w fs e = ap field_count e
  content-fields a_stmt w fs e = ap field_count e
  content-fields a_definition w fs e = ap field_count e

  item-fields : (i : Item) (w : ℕ) (fs : List Kind) → turn inside (seq i) w ≡ fits fs → fields_at (kind_number (seq i)) w ≡ length fs
  unfolding kind_of
  item-fields of_name w fs e = ap field_count e
  item-fields of_expr w fs e = ap field_count e
  item-fields of_binding w fs e = ap field_count e
  item-fields of_pattern w fs e = ap field_count e
  item-fields of_closure_binding w fs e = ap field_count e
  item-fields of_closure_property w fs e = ap field_count e
  item-fields of_stmt w fs e = ap field_count e
  item-fields of_call_argument w fs e = ap field_count e
  item-fields of_case w fs e = ap field_count e
  item-fields of_a_expr w fs e = ap field_count e
  item-fields of_tagger w fs e = ap field_count e
  item-fields of_f_parameter w fs e = ap field_count e
  item-fields of_function w fs e = ap field_count e
  item-fields of_axiom w fs e = ap field_count e
  item-fields of_p_parameter w fs e = ap field_count e
  item-fields of_procedure w fs e = ap field_count e

  -- the fields of a word that fits, by the number of its kind
  fields-of : (k : Kind) (w : ℕ) (fs : List Kind) → turn inside k w ≡ fits fs → fields_at (kind_number k) w ≡ length fs
  unfolding kind_of
  fields-of bool w fs e = ap field_count e
  fields-of operator w fs e = ap field_count e
  fields-of mode w fs e = ap field_count e
  fields-of natural w fs e = ap field_count e
  fields-of low w fs e = second-fields (ltb w (2 ^ 32)) 0 fs e
  fields-of name w fs e = ap field_count e
  fields-of (length_from s) w fs e = second-fields (inside s w) 1 fs e
  fields-of expr w fs e = ap field_count e
  fields-of stmt w fs e = ap field_count e
  fields-of aexpr w fs e = ap field_count e
  fields-of (option c) w fs e = content-fields c w fs e
  fields-of (seq i) w fs e = item-fields i w fs e

-- ---- the ends

module _ (inside : ℕ → ℕ → Bool) (ks₀ : List Kind) (table kinds : List ℕ) (accepted : run inside ks₀ 0 table ≡ one_tree)
    (numbered : (i : ℕ) → i < length table → get_or kinds i 0 ≡ get_or (kind_numbers inside ks₀ table) i 0) where
  -- the ends from a place on are those of the outline
  abbrev Right : List ℕ → ℕ → Type 0
  Right ends i = (at : ℕ) → i ≤ at → at < length table → get_or ends at 0 ≡ get_or (end_places inside ks₀ 0 table) at 0

  -- so fields that begin there end where their words do
  fields-end : (ends : List ℕ) (i : ℕ) → Right ends i → (fs ks : List Kind) (at : ℕ) → i ≤ at → Expects inside ks₀ table at (fs ++ ks)
      → fields_end (length fs) ends at ≡ at + extent inside fs (drop at table)
  fields-end ends i r [] ks at h x = omega (arith, extent-none inside (drop at table))
  fields-end ends i r (f ∷ fs) ks at h x =
      let w = word_at inside ks₀ table at f (fs ++ ks) x in
      let e : get_or ends at 0 ≡ at + extent inside (f ∷ []) (drop at table) = r at h w.inside-table ∙ w.end_is in
      let n = extent inside (f ∷ []) (drop at table) in
      let b = behind inside (f ∷ []) (fs ++ ks) at (drop at table) x.goes in
      let m : extent inside fs (drop (at + n) table) ≡ extent inside fs (drop n (drop at table)) = ap (extent inside fs) (sym (drop-drop n at table)) in
      ap (fields_end (length fs) ends) e
      ∙ fields-end ends i r fs ks (at + n) (omega arith) (expects-behind inside ks₀ table at (f ∷ []) (fs ++ ks) x)
      ∙ omega (arith, b.both fs, m)

  -- what begins at a place ends where the outline says, where the ends behind it do
  end-right : (ends : List ℕ) (at : ℕ) → at < length table → Right ends (suc at) → end_at table kinds at ends ≡ get_or (end_places inside ks₀ 0 table) at 0
  end-right ends at h r = by-kinds (expects-at inside ks₀ table accepted at (omega arith))
    where
      by-kinds : (ks : List Kind) × Expects inside ks₀ table at ks → end_at table kinds at ends ≡ get_or (end_places inside ks₀ 0 table) at 0
      by-kinds ([], x) = absurd (not-over inside ks₀ table at h x)
      by-kinds (k ∷ ks, x) =
          let w = word_at inside ks₀ table at k ks x in
          let n : at + 1 ≡ suc at = omega arith in
          ap (λ (m : ℕ). fields_end (fields_at m (get_or table at 0)) ends (at + 1)) (numbered at h ∙ w.kind-is)
          ∙ (λ i. fields_end (fields-of inside k (get_or table at 0) w.fields w.turns i) ends (n i))
          ∙ fields-end ends (suc at) r w.fields ks (suc at) (omega arith) w.expects
          ∙ omega (arith, w.end_is, w.counts)

  -- a note at a place, and those behind it
  note-right : (ends : List ℕ) (i : ℕ) → i < length ends → i < length table → Right ends (suc i) → Right (set ends i (end_at table kinds i ends)) i
  note-right ends i l h r at a t = by_place (eqb at i) refl
    where
      by_place : (b : Bool) → eqb at i ≡ b → get_or (set ends i (end_at table kinds i ends)) at 0 ≡ get_or (end_places inside ks₀ 0 table) at 0
      by_place true e =
          let z = eqb-true at i e in
          rw z (get_or-set_same ends i (end_at table kinds i ends) 0 l ∙ end-right ends i h r)
      by_place false e =
          let n = eqb-false at i e in
          get_or-set_other ends i at (end_at table kinds i ends) 0 n ∙ r at (omega arith) t

  notes-right : (i : ℕ) (ends : List ℕ) → i ≤ length ends → i ≤ length table → Right ends i → Right (end_notes table kinds i ends) 0
  unfolding end_notes
  notes-right zero ends l h r = r
  notes-right (suc i) ends l h r =
      notes-right i (set ends i (end_at table kinds i ends)) (simp length-set (omega arith)) (omega arith) (note-right ends i (omega arith) (omega arith) r)

  notes-length : (i : ℕ) (ends : List ℕ) → length (end_notes table kinds i ends) ≡ length ends
  unfolding end_notes
  notes-length zero ends = refl
  notes-length (suc i) ends = notes-length i (set ends i (end_at table kinds i ends)) ∙ length-set ends i (end_at table kinds i ends)

  -- the code's ends of a table are those of the outline
  pub ends_found : (ends : List ℕ) → length table ≤ length ends → take (length table) (end_notes table kinds (length table) ends) ≡ end_places inside ks₀ 0 table
  ends_found ends h =
      let n : length (take (length table) (end_notes table kinds (length table) ends)) ≡ length table =
      length-take-le (length table) (end_notes table kinds (length table) ends) (omega (arith, notes-length (length table) ends)) in
      ext_get_or 0 (take (length table) (end_notes table kinds (length table) ends)) (end_places inside ks₀ 0 table) (n ∙ sym (lengths inside ks₀ 0 table accepted).1)
      (λ i l.
      let t : i < length table = omega (arith, n) in
      get_or-take (length table) (end_notes table kinds (length table) ends) i 0 t
      ∙ notes-right (length table) ends h (omega arith) (λ at a b. absurd (omega arith)) i (omega arith) t)

-- ---- a whole table

module _ (inside : ℕ → ℕ → Bool) (ks₀ : List Kind) (table : List ℕ) (accepted : run inside ks₀ 0 table ≡ one_tree) where
  -- the code's kinds of a table are those of the outline
  pub kinds-found : (notes : List ℕ) → length table ≤ length notes → take (length table) (kind_notes inside ks₀ 0 table notes) ≡ kind_numbers inside ks₀ table
  kinds-found notes h =
      let z : 0 + length table ≡ length table = omega arith in
      ap (λ (n : ℕ). take n (kind_notes inside ks₀ 0 table notes)) (sym z) ∙ kinds-noted inside ks₀ 0 table notes accepted (omega arith)

  -- and so each of them
  pub kinds-numbered : (kinds : List ℕ) → take (length table) kinds ≡ kind_numbers inside ks₀ table
      → (i : ℕ) → i < length table → get_or kinds i 0 ≡ get_or (kind_numbers inside ks₀ table) i 0
  kinds-numbered kinds e i h = sym (get_or-take (length table) kinds i 0 h) ∙ ap (λ (l : List ℕ). get_or l i 0) e
