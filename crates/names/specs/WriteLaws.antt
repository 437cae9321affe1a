-- Lists written from the front.
use Rattle.std.specs.Prelude.{ℕ, ◌+◌, ◌-◌, ◌<◌, ◌≤◌, min, ◌≡◌, refl, List, ◌++◌, length, get_or, take, drop, set}
use Rattle.std.proofs.Common.{arith, sym, ap, ◌∙◌, ⊎_elim, length-append, length-drop, length-set, length-take-le, get_or-take, get_or-drop, get_or-set_same, get_or-set_other}
use Rattle.std.proofs.lemmas.List.{get_or_append_left, get_or-append_right, get_or_past}
use Rattle.tree.specs.Outline.{filled}
use Rattle.tree.specs.OutlineLaws.{filled-length, filled_at, filled-later}
use Rattle.names.specs.NumberLaws.{lt-or-le}
use Rattle.names.specs.Spans.{Written}

module _ (value : ℕ → ℕ) where
  pub written_none : (before : List ℕ) → Written value 0 before before
  written_none before = record { same_length = refl; written = λ i h. absurd (omega arith); kept = λ i h. refl }

  pub written_next : (i : ℕ) (before now : List ℕ) → i < length before → Written value i before now → Written value (i + 1) before (set now i (value i))
  written_next i before now h w =
      record {
        same_length = length-set now i (value i) ∙ w.same_length;
        written = λ j k. ⊎_elim (λ l. get_or-set_other now i j (value i) 0 (omega arith) ∙ w.written j l)
            (λ l. let e : j ≡ i = omega arith in rw e (get_or-set_same now i (value i) 0 (omega (arith, w.same_length)))) (lt-or-le j i);
        kept = λ j k. get_or-set_other now i j (value i) 0 (omega arith) ∙ w.kept j (omega arith);
      }

  pub written-to : (i n : ℕ) (before now : List ℕ) → i ≡ n → Written value i before now → Written value n before now
  written-to i n before now e w = rw (← e) w

-- the first n numbers of a list, copied
pub written_front : (from before front : List ℕ) (n : ℕ) → n ≤ length from → n ≤ length before → front ≡ take n from → Written (λ i. get_or from i 0) n before (front ++ drop n before)
written_front from before front n f b e =
    let long : length front ≡ n = ap length e ∙ length-take-le n from f in
    record {
      same_length = omega (arith, length-append front (drop n before), length-drop n before);
      written = λ i h. get_or_append_left front (drop n before) 0 i (omega arith) ∙ ap (λ (l : List ℕ). get_or l i 0) e ∙ get_or-take n from i 0 h;
      kept = λ i h.
          let d : n + (i - n) ≡ i = omega arith in
          get_or-append_right front (drop n before) n i 0 long h ∙ get_or-drop n before (i - n) 0 ∙ ap (λ (k : ℕ). get_or before k 0) d;
    }

-- a list filled from the front, as far as it goes
pub written_filled : (from before : List ℕ) → Written (λ i. get_or from i 0) (min (length from) (length before)) before (filled from before)
written_filled from before =
    record {
      same_length = filled-length from before;
      written = λ i h. filled_at from before i (omega arith) (omega arith);
      kept = λ i h.
          ⊎_elim (λ l. get_or_past (filled from before) i 0 (omega (arith, filled-length from before)) ∙ sym (get_or_past before i 0 (omega arith)))
          (λ l. filled-later from before i l) (lt-or-le i (length from));
    }
