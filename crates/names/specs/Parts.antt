-- Laws of the parts of a text: two parts of one length are equal exactly when two shorter parts that cover them are; a part is that of
-- the clipped span; the names of a list of spans.
use Rattle.std.specs.Prelude.{ℕ, zero, suc, ◌+◌, ◌*◌, ◌-◌, ◌/◌, ◌<◌, ◌≤◌, min, ◌≡◌, refl, ◌↔◌, List, [], ◌∷◌, length, get_or, take, drop}
use Rattle.std.proofs.Common.{arith, sym, ap, ◌∙◌, ⊎_elim, length-take, length-drop, ext_get_or, get_or-take, get_or-drop, take_all, take-take}
use Rattle.tree.specs.Resolve.{part}
use Rattle.names.specs.Names.{most_spans, most_bytes, spelt, names}
use Rattle.names.specs.NumberLaws.{lt-or-le}

pub part_length : (text : List ℕ) (s l : ℕ) → length (part text s l) ≡ min l (length text - s)
unfolding part
part_length text s l = simp (length-take, length-drop)

-- equal parts inside the text have one length
pub lengths-equal : (text : List ℕ) (s t l m : ℕ) → s + l ≤ length text → t + m ≤ length text → part text s l ≡ part text t m → l ≡ m
lengths-equal text s t l m f g e = omega (arith, ap length e, part_length text s l, part_length text t m)

part_at : (text : List ℕ) (s l i : ℕ) → i < l → get_or (part text s l) i 0 ≡ get_or text (s + i) 0
unfolding part
part_at text s l i h = get_or-take l (drop s text) i 0 h ∙ get_or-drop s text i 0

module _ (text : List ℕ) where
  -- the l bytes from s and from t are equal
  abbrev Agree : ℕ → ℕ → ℕ → Type 0
  Agree s t l = (i : ℕ) → i < l → get_or text (s + i) 0 ≡ get_or text (t + i) 0

  agree : (s t l : ℕ) → part text s l ≡ part text t l → Agree s t l
  agree s t l e i h = sym (part_at text s l i h) ∙ ap (λ (b : List ℕ). get_or b i 0) e ∙ part_at text t l i h

  agreed : (s t l : ℕ) → s + l ≤ length text → t + l ≤ length text → Agree s t l → part text s l ≡ part text t l
  agreed s t l f g a =
      ext_get_or 0 (part text s l) (part text t l) (omega (arith, part_length text s l, part_length text t l))
      (λ i h. let k : i < l = omega (arith, part_length text s l) in part_at text s l i k ∙ a i k ∙ sym (part_at text t l i k))

  -- two parts of w + d bytes, d ≤ w, are equal exactly when their first w bytes and their last w bytes are
  pub cover : (s t d w : ℕ) → d ≤ w → s + (d + w) ≤ length text → t + (d + w) ≤ length text
      → (part text s (d + w) ≡ part text t (d + w)) ↔ ((part text s w ≡ part text t w) × (part text (s + d) w ≡ part text (t + d) w))
  cover s t d w h f g = (
    λ e. let a = agree s t (d + w) e in (
      agreed s t w (omega arith) (omega arith) (λ i k. a i (omega arith)),
      agreed (s + d) (t + d) w (omega arith) (omega arith) (λ i k. by-sum i s t (a (d + i) (omega arith))),
    ),
    λ e. let a = agree s t w e.0 in let b = agree (s + d) (t + d) w e.1 in
        agreed s t (d + w) f g (λ i k. ⊎_elim (λ l. a i l) (λ l. at-end i l (b (i - d) (omega arith))) (lt-or-le i w)),
  )
    where
      by-sum : (i x y : ℕ) → get_or text (x + (d + i)) 0 ≡ get_or text (y + (d + i)) 0 → get_or text (x + d + i) 0 ≡ get_or text (y + d + i) 0
      by-sum i x y e =
          let p : x + d + i ≡ x + (d + i) = omega arith in
          let q : y + d + i ≡ y + (d + i) = omega arith in
          rw (p, q) e

      at-end : (i : ℕ) → w ≤ i → get_or text (s + d + (i - d)) 0 ≡ get_or text (t + d + (i - d)) 0 → get_or text (s + i) 0 ≡ get_or text (t + i) 0
      at-end i l e =
          let p : s + d + (i - d) ≡ s + i = omega arith in
          let q : t + d + (i - d) ≡ t + i = omega arith in
          rw (p, q) at e

-- a span clipped to a text of length len
abbrev pub start_in : ℕ → ℕ → ℕ
start_in len s = min s len

abbrev pub length_in : ℕ → ℕ → ℕ → ℕ
length_in len s l = min l (len - start_in len s)

pub clipped : (text : List ℕ) (s l : ℕ) → part text s l ≡ part text (start_in (length text) s) (length_in (length text) s l)
clipped text s l =
    let s' = start_in (length text) s in
    let l' = length_in (length text) s l in
    ext_get_or 0 (part text s l) (part text s' l') (omega (arith, part_length text s l, part_length text s' l'))
    (λ i h. let k : i < min l (length text - s) = omega (arith, part_length text s l) in
    let e : s ≡ s' = omega arith in
    part_at text s l i (omega arith) ∙ ap (λ (x : ℕ). get_or text (x + i) 0) e ∙ sym (part_at text s' l' i (omega arith)))

spelt-length : (text spans : List ℕ) → length (spelt text spans) ≡ length spans / 2
unfolding spelt
spelt-length text [] = refl
spelt-length text (s ∷ []) = refl
spelt-length text (s ∷ l ∷ spans) = omega (arith, spelt-length text spans)

spelt-at : (text spans : List ℕ) (i : ℕ) → i < length (spelt text spans)
    → get_or (spelt text spans) i [] ≡ part text (get_or spans (2 * i) 0) (get_or spans (2 * i + 1) 0)
unfolding spelt
spelt-at text [] i h = absurd (omega arith)
spelt-at text (s ∷ []) i h = absurd (omega arith)
spelt-at text (s ∷ l ∷ spans) zero h = refl
spelt-at text (s ∷ l ∷ spans) (suc i) h =
    let p : 2 * suc i ≡ suc (suc (2 * i)) = omega arith in
    let q : 2 * suc i + 1 ≡ suc (suc (2 * i + 1)) = omega arith in
    rw (q, p) (spelt-at text spans i (omega arith))

-- the first m names over the first k bytes
module _ (m k : ℕ) (text spans : List ℕ) where
  first-length : length (take m (spelt (take k text) spans)) ≡ min m (length spans / 2)
  first-length = simp (length-take, spelt-length)

  first-at : (i : ℕ) → length text ≤ k → i < length (take m (spelt (take k text) spans))
      → get_or (take m (spelt (take k text) spans)) i [] ≡ part text (start_in (length text) (get_or spans (2 * i) 0)) (length_in (length text) (get_or spans (2 * i) 0) (get_or spans (2 * i + 1) 0))
  first-at i few h =
      let within : i < min m (length spans / 2) = rw (← first-length) h in
      rw (take_all k text few)
      (get_or-take m (spelt text spans) i [] (omega arith) ∙ spelt-at text spans i (omega (arith, spelt-length text spans)) ∙ clipped text (get_or spans (2 * i) 0) (get_or spans (2 * i + 1) 0))

pub names-length : (text spans : List ℕ) → length (names text spans) ≡ min most_spans (length spans / 2)
unfolding names
names-length = first-length most_spans most_bytes

-- the name of a span of a text that is read whole
pub name-at : (text spans : List ℕ) (i : ℕ) → length text ≤ most_bytes → i < length (names text spans)
    → get_or (names text spans) i [] ≡ part text (start_in (length text) (get_or spans (2 * i) 0)) (length_in (length text) (get_or spans (2 * i) 0) (get_or spans (2 * i + 1) 0))
unfolding names
name-at = first-at most_spans most_bytes

-- a text has the names of what is read of it
pub names-cut : (text spans : List ℕ) → names (take most_bytes text) spans ≡ names text spans
unfolding names
names-cut text spans = ap (λ (t : List ℕ). take most_spans (spelt t spans)) (take-take most_bytes most_bytes text (omega arith))

-- what is read of a text, where it is cut at its own length
pub read-cut : (k : ℕ) (text : List ℕ) → take (min (length text) k) text ≡ take k text
read-cut k text =
    ⊎_elim (λ h. let e : min (length text) k ≡ length text = omega arith in rw e (take_all (length text) text (omega arith) ∙ sym (take_all k text (omega arith))))
    (λ h. let e : min (length text) k ≡ k = omega arith in rw e) (lt-or-le (length text) k)
