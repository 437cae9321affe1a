-- Laws of the outline of a table that the check accepts, for whoever walks it with its kinds and ends: what is expected at a place
-- (`Expects`), and from there at the fields of what stands there, and behind it.
use Rattle.std.specs.Prelude.{Err}
use Prim.Native.Nat.{ℕ, zero, suc, ◌+◌, ◌-◌, ◌≤◌, ◌<◌}
use native.Mathlib.Omega.{arith}
use Rattle.std.specs.Prelude.{◌≡◌, Bool, get_or}
use Rattle.std.proofs.Math.Path.{refl, sym, ap}
use Rattle.std.proofs.Common.{◌∙◌, length-drop, drop-cons, drop-drop}
use mathlib.Core.List.{List, [], ◌∷◌, ◌++◌, append-nil, append_assoc}
use Rattle.std.proofs.Math.ListN.{length, drop}
use Rattle.tree.specs.Clash.{impossible}
use Rattle.tree.specs.Kind.{Kind, Turn, fits, misfit, turn}
use Rattle.tree.specs.KindNumbers.{kind_number}
use Rattle.tree.specs.Check.{Checked, one_tree, run}
use Rattle.tree.specs.Walk.{head_at}
use Rattle.tree.specs.Outline.{extent, kind_numbers, end_places, filled}
use Rattle.tree.specs.declared.CheckError.TheVariants.{Misfit}

module _ (inside : ℕ → ℕ → Bool) where
  -- behind the first `count` words, at the place `next`, the check goes on with the kinds ls, and so do the numbers and the ends
  pub record Behind (ls : List Kind) (at : ℕ) (ws : List ℕ) (count : ℕ) (total : List Kind → ℕ) (kinds ends : List ℕ) : Type 0 where
    pub next : ℕ
    pub place : next ≡ at + count
    pub short : count ≤ length ws
    pub goes : run inside ls next (drop count ws) ≡ one_tree
    pub both : (ms : List Kind) → total ms ≡ count + extent inside ms (drop count ws)
    pub kinds-on : drop count kinds ≡ kind_numbers inside ls (drop count ws)
    pub ends_on : drop count ends ≡ end_places inside ls next (drop count ws)

  -- so it is behind what stands for the first kinds of a list
  abbrev pub BehindKinds : List Kind → List Kind → ℕ → List ℕ → Type 0
  BehindKinds ks ls at ws = Behind ls at ws (extent inside ks ws) (λ ms. extent inside (ks ++ ms) ws) (kind_numbers inside (ks ++ ls) ws) (end_places inside (ks ++ ls) at ws)

  -- as many as there are words
  pub lengths : (ks : List Kind) (at : ℕ) (ws : List ℕ) → run inside ks at ws ≡ one_tree
      → (length (kind_numbers inside ks ws) ≡ length ws) × (length (end_places inside ks at ws) ≡ length ws)
  unfolding run kind_numbers end_places
  lengths [] at [] e = (refl, refl)
  lengths [] at (w ∷ ws) e = impossible cc
  lengths (k ∷ ks) at [] e = impossible cc
  lengths (k ∷ ks) at (w ∷ ws) e = by_turn (turn inside k w) e (λ fs. lengths (fs ++ ks) (suc at) ws)
    where
      by_turn : (u : Turn) → ◌≡◌ {A = Checked} (elim u [ fits fs ↦ run inside (fs ++ ks) (suc at) ws | misfit back ↦ Err (Misfit (at - back)) ]) one_tree
          → ((fs : List Kind) → run inside (fs ++ ks) (suc at) ws ≡ one_tree
          → (length (kind_numbers inside (fs ++ ks) ws) ≡ length ws) × (length (end_places inside (fs ++ ks) (suc at) ws) ≡ length ws))
          → (suc (length {A = ℕ} (elim u [ fits fs ↦ kind_numbers inside (fs ++ ks) ws | misfit back ↦ [] ])) ≡ suc (length ws))
          × (suc (length {A = ℕ} (elim u [ fits fs ↦ end_places inside (fs ++ ks) (suc at) ws | misfit back ↦ [] ])) ≡ suc (length ws))
      by_turn (misfit back) e ih = impossible cc
      by_turn (fits fs) e ih = let h = ih fs e in (ap suc h.0, ap suc h.1)

  -- and never more
  pub bounded : (ks : List Kind) (at : ℕ) (ws : List ℕ) → (length (kind_numbers inside ks ws) ≤ length ws) × (length (end_places inside ks at ws) ≤ length ws)
  unfolding kind_numbers end_places
  bounded [] at [] = (omega arith, omega arith)
  bounded [] at (w ∷ ws) = (omega arith, omega arith)
  bounded (k ∷ ks) at [] = (omega arith, omega arith)
  bounded (k ∷ ks) at (w ∷ ws) = by_turn (turn inside k w) (λ fs. bounded (fs ++ ks) (suc at) ws)
    where
      by_turn : (u : Turn)
          → ((fs : List Kind) → (length (kind_numbers inside (fs ++ ks) ws) ≤ length ws) × (length (end_places inside (fs ++ ks) (suc at) ws) ≤ length ws))
          → (suc (length {A = ℕ} (elim u [ fits fs ↦ kind_numbers inside (fs ++ ks) ws | misfit back ↦ [] ])) ≤ suc (length ws))
          × (suc (length {A = ℕ} (elim u [ fits fs ↦ end_places inside (fs ++ ks) (suc at) ws | misfit back ↦ [] ])) ≤ suc (length ws))
      by_turn (misfit back) ih = (omega arith, omega arith)
      by_turn (fits fs) ih = let h = ih fs in let m = h.0 in let n = h.1 in (omega arith, omega arith)

  -- no words stand for no kinds
  pub extent-none : (ws : List ℕ) → extent inside [] ws ≡ 0
  unfolding extent
  extent-none [] = refl
  extent-none (w ∷ ws) = refl

  pub behind : (ks ls : List Kind) (at : ℕ) (ws : List ℕ) → run inside (ks ++ ls) at ws ≡ one_tree → BehindKinds ks ls at ws
  unfolding run extent kind_numbers end_places
  behind [] ls at [] e = record { next = at; place = omega arith; short = omega arith; goes = e; both = λ ms. omega arith; kinds-on = refl; ends_on = refl }
  behind [] ls at (w ∷ ws) e = record { next = at; place = omega arith; short = omega arith; goes = e; both = λ ms. omega arith; kinds-on = refl; ends_on = refl }
  behind (k ∷ ks) ls at [] e = impossible cc
  behind (k ∷ ks) ls at (w ∷ ws) e =
      by_turn (turn inside k w) (at + extent inside (k ∷ []) (w ∷ ws)) e (λ fs h. behind (fs ++ ks) ls (suc at) ws h)
    where
      by_turn : (u : Turn) (end : ℕ) → ◌≡◌ {A = Checked} (elim u [ fits fs ↦ run inside (fs ++ (ks ++ ls)) (suc at) ws | misfit back ↦ Err (Misfit (at - back)) ]) one_tree
          → ((fs : List Kind) → run inside ((fs ++ ks) ++ ls) (suc at) ws ≡ one_tree → BehindKinds (fs ++ ks) ls (suc at) ws)
          → Behind ls at (w ∷ ws) (elim u [ fits fs ↦ suc (extent inside (fs ++ ks) ws) | misfit back ↦ 0 ])
          (λ ms. elim u [ fits fs ↦ suc (extent inside (fs ++ (ks ++ ms)) ws) | misfit back ↦ 0 ])
          (kind_number k ∷ elim u [ fits fs ↦ kind_numbers inside (fs ++ (ks ++ ls)) ws | misfit back ↦ [] ])
          (end ∷ elim u [ fits fs ↦ end_places inside (fs ++ (ks ++ ls)) (suc at) ws | misfit back ↦ [] ])
      by_turn (misfit back) end e ih = impossible cc
      by_turn (fits fs) end e ih =
          let l : (fs ++ ks) ++ ls ≡ fs ++ (ks ++ ls) = append_assoc fs ks ls in
          let b = ih fs (ap (λ (x : List Kind). run inside x (suc at) ws) l ∙ e) in
          record {
            next = b.next;
            place = omega (arith, b.place);
            short = omega (arith, b.short);
            goes = b.goes;
            both = λ ms. let t = ap (λ (x : List Kind). extent inside x ws) (append_assoc fs ks ms) in omega (arith, b.both ms);
            kinds-on = sym (ap (λ (x : List Kind). drop (extent inside (fs ++ ks) ws) (kind_numbers inside x ws)) l) ∙ b.kinds-on;
            ends_on = sym (ap (λ (x : List Kind). drop (extent inside (fs ++ ks) ws) (end_places inside x (suc at) ws)) l) ∙ b.ends_on;
          }

module _ (inside : ℕ → ℕ → Bool) (ks₀ : List Kind) (table : List ℕ) where
  -- In a table where the kinds ks₀ are expected at the start, the kinds ks are expected at a place, and the check accepts the rest.
  pub record Expects (at : ℕ) (ks : List Kind) : Type 0 where
    pub within-table : at ≤ length table
    pub goes : run inside ks at (drop at table) ≡ one_tree
    pub kinds-at : drop at (kind_numbers inside ks₀ table) ≡ kind_numbers inside ks (drop at table)
    pub ends_at : drop at (end_places inside ks₀ 0 table) ≡ end_places inside ks at (drop at table)

  -- at the start
  pub expects-start : run inside ks₀ 0 table ≡ one_tree → Expects 0 ks₀
  expects-start e = record { within-table = omega arith; goes = e; kinds-at = refl; ends_at = refl }

  -- behind what stands for the first kinds the others are expected
  pub expects-behind : (at : ℕ) (ks ls : List Kind) → Expects at (ks ++ ls) → Expects (at + extent inside ks (drop at table)) ls
  expects-behind at ks ls x =
      let b = behind inside ks ls at (drop at table) x.goes in
      let n = extent inside ks (drop at table) in
      let d : (l : List ℕ) → drop (at + n) l ≡ drop n (drop at l) = λ l. sym (drop-drop n at l) in
      record {
        within-table = omega (arith, b.short, length-drop at table, x.within-table);
        goes = (λ i. run inside ls (sym b.place i) (d table i)) ∙ b.goes;
        kinds-at = d (kind_numbers inside ks₀ table) ∙ ap (drop n) x.kinds-at ∙ b.kinds-on ∙ ap (kind_numbers inside ls) (sym (d table));
        ends_at = d (end_places inside ks₀ 0 table) ∙ ap (drop n) x.ends_at ∙ b.ends_on ∙ (λ i. end_places inside ls (b.place i) (sym (d table) i));
      }

  -- the word at a place where a kind is expected: it has fields, which are expected behind it; its number is the kind's, and its end that of what
  -- stands for the kind
  pub record Word (at : ℕ) (k : Kind) (ks : List Kind) : Type 0 where
    pub inside-table : at < length table
    pub fields : List Kind
    pub turns : turn inside k (get_or table at 0) ≡ fits fields
    pub expects : Expects (suc at) (fields ++ ks)
    pub kind-is : get_or (kind_numbers inside ks₀ table) at 0 ≡ kind_number k
    pub end_is : get_or (end_places inside ks₀ 0 table) at 0 ≡ at + extent inside (k ∷ []) (drop at table)
    pub counts : extent inside (k ∷ []) (drop at table) ≡ suc (extent inside fields (drop (suc at) table))

  pub word_at : (at : ℕ) (k : Kind) (ks : List Kind) → Expects at (k ∷ ks) → Word at k ks
  unfolding run extent kind_numbers end_places
  word_at at k ks x = by-words (drop at table) refl x.goes x.kinds-at x.ends_at
    where
      by_turn : (w : ℕ) (ws : List ℕ) → drop at table ≡ w ∷ ws → (u : Turn) → turn inside k w ≡ u
          → ◌≡◌ {A = Checked} (elim u [ fits fs ↦ run inside (fs ++ ks) (suc at) ws | misfit back ↦ Err (Misfit (at - back)) ]) one_tree
          → drop at (kind_numbers inside ks₀ table) ≡ kind_number k ∷ elim u [ fits fs ↦ kind_numbers inside (fs ++ ks) ws | misfit back ↦ [] ]
          → drop at (end_places inside ks₀ 0 table) ≡ (at + extent inside (k ∷ []) (w ∷ ws)) ∷ elim u [ fits fs ↦ end_places inside (fs ++ ks) (suc at) ws | misfit back ↦ [] ]
          → extent inside (k ∷ []) (w ∷ ws) ≡ elim u [ fits fs ↦ suc (extent inside (fs ++ []) ws) | misfit back ↦ 0 ] → Word at k ks
      by_turn w ws e (misfit back) t g a b c = impossible cc
      by_turn w ws e (fits fs) t g a b c =
          let h = head_at table at w ws e in
          let p = head_at (kind_numbers inside ks₀ table) at _ _ a in
          let q = head_at (end_places inside ks₀ 0 table) at _ _ b in
          let n : at + 1 ≡ suc at = omega arith in
          let r : drop (suc at) table ≡ ws = ap (λ (m : ℕ). drop m table) (sym n) ∙ h.2 in
          record {
            inside-table = h.0;
            fields = fs;
            turns = ap (turn inside k) h.1 ∙ t;
            expects =
                record {
                  within-table = h.0;
                  goes = ap (run inside (fs ++ ks) (suc at)) r ∙ g;
                  kinds-at = ap (λ (m : ℕ). drop m (kind_numbers inside ks₀ table)) (sym n) ∙ p.2 ∙ ap (kind_numbers inside (fs ++ ks)) (sym r);
                  ends_at = ap (λ (m : ℕ). drop m (end_places inside ks₀ 0 table)) (sym n) ∙ q.2 ∙ ap (end_places inside (fs ++ ks) (suc at)) (sym r);
                };
            kind-is = p.1;
            end_is = q.1 ∙ ap (λ (l : List ℕ). at + extent inside (k ∷ []) l) (sym e);
            counts =
                ap (extent inside (k ∷ [])) e ∙ c ∙ ap (λ (l : List Kind). suc (extent inside l ws)) (append-nil fs)
                ∙ ap (λ (l : List ℕ). suc (extent inside fs l)) (sym r);
          }

      by-words : (ws : List ℕ) → drop at table ≡ ws → run inside (k ∷ ks) at ws ≡ one_tree → drop at (kind_numbers inside ks₀ table) ≡ kind_numbers inside (k ∷ ks) ws
          → drop at (end_places inside ks₀ 0 table) ≡ end_places inside (k ∷ ks) at ws → Word at k ks
      by-words [] e g a b = impossible cc
      by-words (w ∷ ws) e g a b = by_turn w ws e (turn inside k w) refl g a b refl

  -- before the table's end something is expected
  pub not-over : (at : ℕ) → at < length table → Expects at [] → ⊥
  unfolding run
  not-over at h x =
      let g : run inside [] at (get_or table at 0 ∷ drop (suc at) table) ≡ one_tree = ap (run inside [] at) (sym (drop-cons table at 0 h)) ∙ x.goes in
      impossible cc

  -- so what is expected is known at each place
  pub expects-at : run inside ks₀ 0 table ≡ one_tree → (at : ℕ) → at ≤ length table → (ks : List Kind) × Expects at ks
  expects-at e zero h = (ks₀, expects-start e)
  expects-at e (suc at) h = by-kinds (expects-at e at (omega arith))
    where
      by-kinds : (ks : List Kind) × Expects at ks → (ks : List Kind) × Expects (suc at) ks
      by-kinds ([], x) = absurd (not-over at h x)
      by-kinds (k ∷ ks, x) = let w = word_at at k ks x in (w.fields ++ ks, w.expects)

-- ---- what is left in a slice

-- the numbers as far as the slice goes, and then what stood there
pub filled_at : (numbers before : List ℕ) (i : ℕ) → i < length numbers → i < length before → get_or (filled numbers before) i 0 ≡ get_or numbers i 0
filled_at [] before i h l = absurd (omega arith)
filled_at (n ∷ numbers) [] i h l = absurd (omega arith)
filled_at (n ∷ numbers) (b ∷ before) zero h l = refl
filled_at (n ∷ numbers) (b ∷ before) (suc i) h l = filled_at numbers before i (omega arith) (omega arith)

pub filled-later : (numbers before : List ℕ) (i : ℕ) → length numbers ≤ i → get_or (filled numbers before) i 0 ≡ get_or before i 0
filled-later [] before i h = refl
filled-later (n ∷ numbers) [] zero h = refl
filled-later (n ∷ numbers) [] (suc i) h = refl
filled-later (n ∷ numbers) (b ∷ before) zero h = absurd (omega arith)
filled-later (n ∷ numbers) (b ∷ before) (suc i) h = filled-later numbers before i (omega arith)

pub filled-length : (numbers before : List ℕ) → length (filled numbers before) ≡ length before
filled-length [] before = refl
filled-length (n ∷ numbers) [] = refl
filled-length (n ∷ numbers) (b ∷ before) = ap suc (filled-length numbers before)
