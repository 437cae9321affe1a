-- The keys of spans: none at first, those of each width, and what their classes say of the names.
use Rattle.std.specs.Prelude.{ℕ, ◌+◌, ◌-◌, ◌<◌, ◌≤◌, max, ◌≡◌, refl, ◌↔◌, ◌⊎◌, List, [], length, get_or, set, replicate}
use native.Mathlib.Omega.{arith}
use Rattle.std.proofs.Common.{sym, ap, ap₂, ◌∙◌, inl, inr, ⊎_elim, length-set, get_or-set_same, get_or-set_other}
use Rattle.std.proofs.lemmas.List.{get_or-replicate}
use Rattle.tree.specs.Resolve.{part}
use Rattle.names.specs.NumberLaws.{lt-or-le}
use Rattle.names.specs.Parts.{cover}
use Rattle.names.specs.Spans.{SamePair, Blocks, start_of, length_of, Longest, AtWidth, first_key, last_key, KeyTaken, KeysTaken}
use Rattle.names.specs.Spans.{Keyed, KeyedAll}

-- before the first width only empty spans have keys
module _ (text spans : List ℕ) (n most : ℕ) where
  empty : (s l : ℕ) → l < 1 → part text s l ≡ []
  unfolding part
  empty s l h = let e : l ≡ 0 = omega arith in rw e

  pub keyed-none : (keys keys' : List ℕ) → keys' ≡ replicate (length keys) 0 → n + n ≤ length keys → 0 < most → Keyed text spans 1 n most keys'
  keyed-none keys keys' zero f m =
      let x : (i : ℕ) → i < n + n → ◌≡◌ {A = ℕ} (get_or keys' i 0) 0 = λ i h. rw zero (get_or-replicate (length keys) i 0 0 (omega arith)) in
      record {
        firsts = λ i h. omega (arith, x i (omega arith));
        seconds = λ i h. omega (arith, x (i + n) (omega arith));
        equal = λ i j h k e l. (
          λ s. empty _ _ l ∙ sym (empty _ _ (omega arith)),
          λ p. record { firsts = x i (omega arith) ∙ sym (x j (omega arith)); seconds = x (i + n) (omega arith) ∙ sym (x (j + n) (omega arith)) },
        );
      }

-- the greatest length, span by span
module _ (len : ℕ) (spans : List ℕ) where
  pub longest-none : Longest len spans 0 0
  longest-none = record { each = λ i h. absurd (omega arith); within = omega arith }

  pub longest-next : (i most l most' : ℕ) → Longest len spans i most → l ≡ length_of len spans i → most' ≡ max most l → Longest len spans (i + 1) most'
  longest-next i most l most' r e m =
      record {
        each = λ j h. ⊎_elim (λ k. grown (length_of len spans j) (r.each j k)) (λ k. let q : j ≡ i = omega arith in rw q (reached (length_of len spans i) e)) (lt-or-le j i);
        within = let f : length_of len spans i ≤ len = omega arith in inside (length_of len spans i) e f r.within;
      }
    where
      grown : (x : ℕ) → x ≤ most → x ≤ most'
      grown x h = omega arith

      reached : (x : ℕ) → l ≡ x → x ≤ most'
      reached x h = omega arith

      inside : (x : ℕ) → l ≡ x → x ≤ len → most ≤ len → most' ≤ len
      inside x h f g = omega arith

  pub longest-to : (i n most : ℕ) → i ≡ n → Longest len spans i most → Longest len spans n most
  longest-to i n most e r = rw (← e) r

-- the keys of one span
module _ (len : ℕ) (spans classes : List ℕ) (n w i l : ℕ) (told : l ≡ length_of len spans i) (keys : List ℕ) where
  skip : (AtWidth len spans w i → ⊥) → KeyTaken len spans classes n w i keys keys
  skip d = record { taken = λ a. absurd (d a); skipped = λ q. refl }

  pub key-short : l < w → KeyTaken len spans classes n w i keys keys
  key-short h = skip (λ a. omega (arith, a.least))

  pub key-long : w + w ≤ l → KeyTaken len spans classes n w i keys keys
  key-long h = skip (λ a. omega (arith, a.below))

  pub key-taken : (s x y : ℕ) → w ≤ l → l < w + w → s ≡ start_of len spans i → x ≡ get_or classes s 0 → y ≡ get_or classes (s + (l - w)) 0
      → KeyTaken len spans classes n w i keys (set (set keys i x) (i + n) y)
  key-taken s x y h k e p q =
      let a : AtWidth len spans w i = record { least = omega arith; below = omega arith } in
      let p' = p ∙ ap (λ (s : ℕ). get_or classes s 0) e in
      let q' = q ∙ ap₂ (λ (s l : ℕ). get_or classes (s + (l - w)) 0) e told in
      record { taken = λ b. ap₂ (λ (x y : ℕ). set (set keys i x) (i + n) y) p' q'; skipped = λ d. absurd (d a) }

-- the keys of a width, span by span
module _ (len : ℕ) (spans classes : List ℕ) (n w : ℕ) where
  pub keys_none : (keys : List ℕ) → KeysTaken len spans classes n w 0 keys keys
  keys_none keys = record { same_length = refl; taken = λ i h. absurd (omega arith); kept = λ i h d. (refl, refl) }

  -- whether a span is of the width
  at-width-or : (i : ℕ) → AtWidth len spans w i ⊎ (AtWidth len spans w i → ⊥)
  at-width-or i =
      ⊎_elim (λ h. inr (λ a. omega (arith, a.least)))
      (λ h. ⊎_elim (λ k. inl (record { least = h; below = k })) (λ k. inr (λ a. omega (arith, a.below))) (lt-or-le (length_of len spans i) (w + w)))
      (lt-or-le (length_of len spans i) w)

  set-keys : (i x y : ℕ) (keys₀ keys : List ℕ) → i < n → n + n ≤ length keys₀ → x ≡ first_key len spans classes i → y ≡ last_key len spans classes w i → AtWidth len spans w i
      → KeysTaken len spans classes n w i keys₀ keys → KeysTaken len spans classes n w (i + 1) keys₀ (set (set keys i x) (i + n) y)
  set-keys i x y keys₀ keys h f p q a r =
      record {
        same_length = length-set (set keys i x) (i + n) y ∙ length-set keys i x ∙ r.same_length;
        taken = λ j k b. ⊎_elim (λ l. let t = r.taken j l b in (other j (omega arith) (omega arith) ∙ t.0, other (j + n) (omega arith) (omega arith) ∙ t.1))
            (λ l. let e : j ≡ i = omega arith in rw e (first, second)) (lt-or-le j i);
        kept = λ j k d.
            let apart : j ≡ i → ⊥ = λ e. clash j e d in
            let t = r.kept j k (λ l. d (omega arith)) in
            (other j apart (omega arith) ∙ t.0, other (j + n) (omega arith) (omega (arith, apart)) ∙ t.1);
      }
    where
      other : (j : ℕ) → (j ≡ i → ⊥) → (j ≡ i + n → ⊥) → get_or (set (set keys i x) (i + n) y) j 0 ≡ get_or keys j 0
      other j d e = get_or-set_other (set keys i x) (i + n) j y 0 e ∙ get_or-set_other keys i j x 0 d

      first : get_or (set (set keys i x) (i + n) y) i 0 ≡ first_key len spans classes i
      first = get_or-set_other (set keys i x) (i + n) i y 0 (omega arith) ∙ get_or-set_same keys i x 0 (omega (arith, r.same_length)) ∙ p

      second : get_or (set (set keys i x) (i + n) y) (i + n) 0 ≡ last_key len spans classes w i
      second = get_or-set_same (set keys i x) (i + n) y 0 (omega (arith, r.same_length, length-set keys i x)) ∙ q

      clash : (j : ℕ) → j ≡ i → (j < i + 1 → AtWidth len spans w j → ⊥) → ⊥
      clash j e = rw e (λ d. d (omega arith) a)

  keep-keys : (i : ℕ) (keys₀ keys : List ℕ) → (AtWidth len spans w i → ⊥) → KeysTaken len spans classes n w i keys₀ keys → KeysTaken len spans classes n w (i + 1) keys₀ keys
  keep-keys i keys₀ keys d r =
      record {
        same_length = r.same_length;
        taken = λ j k b. ⊎_elim (λ l. r.taken j l b) (λ l. absurd (clash j (omega arith) b)) (lt-or-le j i);
        kept = λ j k e. r.kept j k (λ l. e (omega arith));
      }
    where
      clash : (j : ℕ) → j ≡ i → AtWidth len spans w j → ⊥
      clash j e = rw e d

  pub keys-next : (i : ℕ) (keys₀ keys keys' : List ℕ) → i < n → n + n ≤ length keys₀ → KeysTaken len spans classes n w i keys₀ keys → KeyTaken len spans classes n w i keys keys'
      → KeysTaken len spans classes n w (i + 1) keys₀ keys'
  keys-next i keys₀ keys keys' h f r s =
      ⊎_elim (λ a. rw (s.taken a) (set-keys i _ _ keys₀ keys h f refl refl a r)) (λ d. rw (s.skipped d) (keep-keys i keys₀ keys d r)) (at-width-or i)

  pub keys-to : (i : ℕ) (keys₀ keys : List ℕ) → i ≡ n → KeysTaken len spans classes n w i keys₀ keys → KeysTaken len spans classes n w n keys₀ keys
  keys-to i keys₀ keys e r = rw e at r

-- the keys after a width
module _ (text spans classes : List ℕ) (w n most : ℕ) (blocks : Blocks text classes w most) (keys keys' : List ℕ)
    (before : Keyed text spans w n most keys) (done : KeysTaken (length text) spans classes n w n keys keys')
  where
    -- two blocks cover a span of the width
    covered : (s t l l' : ℕ) → l ≡ l' → w ≤ l → l < w + w → s + l ≤ length text → t + l ≤ length text
        → ((get_or classes s 0 ≡ get_or classes t 0) × (get_or classes (s + (l - w)) 0 ≡ get_or classes (t + (l' - w)) 0)) ↔ (part text s l ≡ part text t l')
    covered s t l l' same h k f g =
        rw (← same)
        (let d = l - w in
        let e : d + w ≡ l = omega arith in
        let both : (part text s l ≡ part text t l) ↔ ((part text s w ≡ part text t w) × (part text (s + d) w ≡ part text (t + d) w)) =
        rw e at (cover text s t d w (omega arith) (omega arith) (omega arith)) in
        let low = blocks.equal s t (omega arith) (omega arith) in
        let high = blocks.equal (s + d) (t + d) (omega arith) (omega arith) in
        (λ p. both.1 (low.0 p.0, high.0 p.1), λ p. let b = both.0 p in (low.1 b.0, high.1 b.1)))

    keyed-below : (i : ℕ) → i < n → (get_or keys' i 0 < most) × (get_or keys' (i + n) 0 < most)
    keyed-below i h =
        ⊎_elim
        (λ a. let s : w ≤ length_of (length text) spans i = a.least in
        let t = done.taken i h a in (
          omega (arith, t.0, blocks.below (start_of (length text) spans i) (omega arith)),
          omega (arith, t.1, blocks.below (start_of (length text) spans i + (length_of (length text) spans i - w)) (omega arith)),
        ))
        (λ d. let t = done.kept i h (λ k. d) in (omega (arith, t.0, before.firsts i h), omega (arith, t.1, before.seconds i h)))
        (at-width-or (length text) spans classes n w i)

    keyed-equal : (i j : ℕ) → i < n → j < n → length_of (length text) spans i ≡ length_of (length text) spans j → length_of (length text) spans i < w + w
        → SamePair keys' n i j
        ↔ (part text (start_of (length text) spans i) (length_of (length text) spans i) ≡ part text (start_of (length text) spans j) (length_of (length text) spans j))
    keyed-equal i j h k e l =
        ⊎_elim
        (λ s.
        let out : (p : ℕ) → length_of (length text) spans p < w → AtWidth (length text) spans w p → ⊥ = λ p q a. omega (arith, a.least) in
        let a = done.kept i h (λ c. out i s) in
        let b = done.kept j k (λ c. out j (omega arith)) in
        let old = before.equal i j h k e s in (
          λ p. old.0 (record { firsts = sym a.0 ∙ p.firsts ∙ b.0; seconds = sym a.1 ∙ p.seconds ∙ b.1 }),
          λ p. let q = old.1 p in record { firsts = a.0 ∙ q.firsts ∙ sym b.0; seconds = a.1 ∙ q.seconds ∙ sym b.1 },
        ))
        (λ s.
        let a = done.taken i h (record { least = s; below = l }) in
        let b = done.taken j k (record { least = omega arith; below = omega arith }) in
        let new = covered (start_of (length text) spans i) (start_of (length text) spans j) (length_of (length text) spans i) (length_of (length text) spans j) e s l (omega arith) (omega arith) in (
          λ p. new.0 (sym a.0 ∙ p.firsts ∙ b.0, sym a.1 ∙ p.seconds ∙ b.1),
          λ p. let q = new.1 p in record { firsts = a.0 ∙ q.0 ∙ sym b.0; seconds = a.1 ∙ q.1 ∙ sym b.1 },
        ))
        (lt-or-le (length_of (length text) spans i) w)

    pub keyed-next : Keyed text spans (w + w) n most keys'
    keyed-next = record { firsts = λ i h. (keyed-below i h).0; seconds = λ i h. (keyed-below i h).1; equal = keyed-equal }

-- above the greatest length all spans have keys
pub keyed-all : (text spans : List ℕ) (n most longest w : ℕ) (keys : List ℕ) → Longest (length text) spans n longest → longest < w → Keyed text spans w n most keys
    → KeyedAll text spans n most keys
keyed-all text spans n most longest w keys l h k = record { width = w; short = λ i f. below (length_of (length text) spans i) (l.each i f); keyed = k }
  where
    below : (x : ℕ) → x ≤ longest → x < w
    below x e = omega arith
