-- Classes of places whose two keys stand in one list.
use Rattle.std.specs.Prelude.{ℕ, ◌+◌, ◌-◌, ◌<◌, ◌≤◌, min, ◌≡◌, refl, List, length, get_or, take, drop}
use Rattle.std.proofs.Common.{arith, sym, ap, ◌∙◌, length-take, length-drop, length-take-le, get_or-take, get_or-drop, take_all}
use Rattle.names.specs.Classes.{Classed, Ready}
use Rattle.names.specs.ClassLaws.{class-early, class-equal}
use Rattle.names.specs.Spans.{Written, Pairs, PairsIn, PairClasses}

-- the keys from the place w on
abbrev from : ℕ → List ℕ → List ℕ
from w keys = take (length keys - w) (drop w keys)

from_at : (keys : List ℕ) (w i : ℕ) → get_or (from w keys) i 0 ≡ get_or keys (i + w) 0
from_at keys w i =
    let e : w + i ≡ i + w = omega arith in
    ap (λ (l : List ℕ). get_or l i 0) (take_all (length keys - w) (drop w keys) (simp length-drop (omega arith))) ∙ get_or-drop w keys i 0
    ∙ ap (λ (p : ℕ). get_or keys p 0) e

-- arrays that are enough for the pairs are enough for all keys and those from the place w on
pub pairs-ready : (keys : List ℕ) (w n most : ℕ) (heads next seen out : List ℕ) → PairsIn keys w n most heads next seen out
    → Ready keys (take (length keys - w) (drop w keys)) n most heads next seen out
pairs-ready keys w n most heads next seen out r =
    let p = r.pairs in
    let enough = p.enough in
    record {
      first-keys = record { enough = omega arith; below = p.firsts };
      second-keys = record { enough = simp (length-take, length-drop) (omega arith); below = λ i h. rw (from_at keys w i) (p.seconds i h) };
      heads-enough = r.heads-enough;
      seen-enough = r.seen-enough;
      next-enough = r.next-enough;
      out-enough = r.out-enough;
      few = p.few;
    }

-- the first keys of n places and their second keys, each in a list of its own
pub record Parted (keys : List ℕ) (w n : ℕ) (first second : List ℕ) : Type 0 where
  pub firsts : (i : ℕ) → i < n → get_or first i 0 ≡ get_or keys i 0
  pub seconds : (i : ℕ) → i < n → get_or second i 0 ≡ get_or keys (i + w) 0

module _ (keys : List ℕ) (w n : ℕ) where
  pub parted : Parted keys w n (take n keys) (take (w + n - w) (drop w keys))
  parted =
      let e : w + n - w ≡ n = omega arith in
      record {
        firsts = λ i l. get_or-take n keys i 0 l;
        seconds = λ i l. let s : w + i ≡ i + w = omega arith in rw e (get_or-take n (drop w keys) i 0 l ∙ get_or-drop w keys i 0 ∙ ap (λ (p : ℕ). get_or keys p 0) s);
      }

  pub parted-length : n + w ≤ length keys → (length (take n keys) ≡ n) × (length (take (w + n - w) (drop w keys)) ≡ n)
  parted-length h =
      let e : w + n - w ≡ n = omega arith in
      (length-take-le n keys (omega arith), rw e (length-take-le n (drop w keys) (omega (arith, length-drop w keys))))

-- the classes of the keys in two lists, copied over the first keys
pub parted-classed : (keys first second : List ℕ) (w n most : ℕ) (classes keys' : List ℕ) → Pairs keys w n most → Parted keys w n first second → Classed first second n classes
    → Written (λ i. get_or classes i 0) n keys keys' → PairClasses keys w n keys'
parted-classed keys first second w n most classes keys' p parted made copied =
    let at : (i : ℕ) → i < n → get_or keys' i 0 ≡ get_or classes i 0 = copied.written in
    record {
      same_length = copied.same_length;
      early = λ i h. omega (arith, at i h, class-early made i h);
      own = λ i h.
          let c = get_or classes i 0 in
          let l : c < n = omega (arith, class-early made i h) in
          ap (λ (k : ℕ). get_or keys' k 0) (at i h) ∙ at c l ∙ (class-equal made c i l h).1 (made.each i h).same ∙ sym (at i h);
      equal = λ i j h k.
          let one = class-equal made i j h k in
          let fi = parted.firsts i h in
          let fj = parted.firsts j k in
          let si = parted.seconds i h in
          let sj = parted.seconds j k in (
            λ e. let s = one.0 (sym (at i h) ∙ e ∙ at j k) in record { firsts = sym fi ∙ s.firsts ∙ fj; seconds = sym si ∙ s.seconds ∙ sj },
            λ s. at i h ∙ one.1 (record { firsts = fi ∙ s.firsts ∙ sym fj; seconds = si ∙ s.seconds ∙ sym sj }) ∙ sym (at j k),
          );
      kept = copied.kept;
    }

-- the same where the lists are all keys and those from the place w on
pub pairs-classed : (keys : List ℕ) (w n most : ℕ) (classes keys' : List ℕ) → Pairs keys w n most → Classed keys (take (length keys - w) (drop w keys)) n classes
    → Written (λ i. get_or classes i 0) (min n (length keys)) keys keys' → PairClasses keys w n keys'
pairs-classed keys w n most classes keys' p made copied =
    let enough = p.enough in
    let e : min n (length keys) ≡ n = omega arith in
    parted-classed keys keys (from w keys) w n most classes keys' p (record { firsts = λ i l. refl; seconds = λ i l. from_at keys w i }) made (rw e at copied)
