-- The places at which numbers are still to be noted while a table is walked, and that a number which is noted stays.
use Rattle.std.specs.Prelude.{ℕ, suc, ◌≤◌, ◌<◌, ◌≡◌, refl, Bool, true, false, cond, List, [], ◌∷◌, ◌++◌, get_or}
use Rattle.std.proofs.Common.{arith, ◌∙◌, get_or-set_other}
use Rattle.std.proofs.Math.Option.{Option, none, some}
use Rattle.tree.specs.Kind.{Kind, Turn, fits, misfit, turn}
use Rattle.tree.specs.Tally.{Mark, Expected, sequence, opened, mark_at, more, marked, noted, tally}

-- ---- the places that are still to be noted

-- none of the marks is of that place
abbrev pub ApartMark : ℕ → Option Mark → Type 0
ApartMark s none = Unit {0}
ApartMark s (some m) = s ≡ m.start → ⊥

abbrev pub Apart : ℕ → List Expected → Type 0
Apart s [] = Unit {0}
Apart s (e ∷ es) = ApartMark s e.mark × Apart s es

-- each mark is of a place before the bound and before those above it
abbrev pub BelowMark : ℕ → Option Mark → (ℕ → Type 0) → Type 0
BelowMark b none P = P b
BelowMark b (some m) P = (m.start < b) × P m.start

abbrev pub Below : ℕ → List Expected → Type 0
Below b [] = Unit {0}
Below b (e ∷ es) = BelowMark b e.mark (λ c. Below c es)

pub below_more : (es : List Expected) (b c : ℕ) → b ≤ c → Below b es → Below c es
below_more [] b c h x = tt
below_more (e ∷ es) b c h x = by-mark e.mark (below_more es b c h) x
  where
    by-mark : (m : Option Mark) → (Below b es → Below c es) → BelowMark b m (λ d. Below d es) → BelowMark c m (λ d. Below d es)
    by-mark none ih y = ih y
    by-mark (some m) ih y = (let l = y.0 in omega arith, y.1)

pub below_apart : (es : List Expected) (b : ℕ) → Below b es → Apart b es
below_apart [] b x = tt
below_apart (e ∷ es) b x = by-mark e.mark (below_apart es b) x
  where
    by-mark : (m : Option Mark) → (Below b es → Apart b es) → BelowMark b m (λ d. Below d es) → ApartMark b m × Apart b es
    by-mark none ih y = (tt, ih y)
    by-mark (some m) ih y = let l = y.0 in (λ z. omega arith, ih (below_more es m.start b (omega arith) y.1))

-- the marks of a word's fields are that of its sequence
marked-apart : (s : ℕ) (m : Option Mark) (fs : List Kind) (es : List Expected) → ApartMark s m → Apart s es → Apart s (marked fs m ++ es)
marked-apart s m [] es a x = x
marked-apart s m (k ∷ []) es a x = (a, x)
marked-apart s m (k ∷ l ∷ ks) es a x = (tt, marked-apart s m (l ∷ ks) es a x)

pub marked-below : (b : ℕ) (m : Option Mark) (fs : List Kind) (es : List Expected) → BelowMark b m (λ c. Below c es) → Below b es → Below b (marked fs m ++ es)
marked-below b m [] es y x = x
marked-below b m (k ∷ []) es y x = y
marked-below b m (k ∷ l ∷ ks) es y x = marked-below b m (l ∷ ks) es y x

more-apart : (s : ℕ) (m : Option Mark) → ApartMark s m → ApartMark s (more m)
more-apart s none a = tt
more-apart s (some m) a = a

pub more-below : (b : ℕ) (m : Option Mark) (es : List Expected) → BelowMark b m (λ c. Below c es) → BelowMark b (more m) (λ c. Below c es)
more-below b none es y = y
more-below b (some m) es y = y

-- the mark of what stands at a place is of that place, or its own
at-apart : (k : Kind) (m : Option Mark) (at s : ℕ) → s < at → ApartMark s m → ApartMark s (mark_at k m at)
at-apart k m at s h a = by_kind (sequence k) m a
  where
    by_kind : (b : Bool) (m : Option Mark) → ApartMark s m → ApartMark s (cond b (some (opened m at)) none)
    by_kind true none a = λ z. omega arith
    by_kind true (some m) a = a
    by_kind false m a = tt

pub at-below : (k : Kind) (m : Option Mark) (at : ℕ) (es : List Expected) → BelowMark at m (λ c. Below c es) → BelowMark (suc at) (mark_at k m at) (λ c. Below c es)
at-below k m at es y = by_kind (sequence k) m y
  where
    by_kind : (b : Bool) (m : Option Mark) → BelowMark at m (λ c. Below c es) → BelowMark (suc at) (cond b (some (opened m at)) none) (λ c. Below c es)
    by_kind true none y = (omega arith, y)
    by_kind true (some m) y = (let l = y.0 in omega arith, y.1)
    by_kind false none y = below_more es at (suc at) (omega arith) y
    by_kind false (some m) y = let l = y.0 in below_more es m.start (suc at) (omega arith) y.1

-- what is below a mark's place is below the bound
pub mark-rest : (b : ℕ) (m : Option Mark) (es : List Expected) → BelowMark b m (λ c. Below c es) → Below b es
mark-rest b none es y = y
mark-rest b (some m) es y = let l = y.0 in below_more es m.start b (omega arith) y.1

-- ---- a number that is noted stays

-- what is noted at another place
noted-apart : (fs : List Kind) (m : Option Mark) (counts : List ℕ) (s : ℕ) → ApartMark s m → get_or (noted fs m counts) s 0 ≡ get_or counts s 0
noted-apart [] none counts s a = refl
noted-apart [] (some m) counts s a = get_or-set_other counts m.start s m.passed 0 a
noted-apart (k ∷ fs) m counts s a = refl

pub kept : (inside : ℕ → ℕ → Bool) (es : List Expected) (at : ℕ) (ws counts : List ℕ) (s : ℕ) → s < at → Apart s es → get_or (tally inside es at ws counts) s 0 ≡ get_or counts s 0
unfolding tally
kept inside [] at [] counts s h a = refl
kept inside (e ∷ es) at [] counts s h a = refl
kept inside [] at (w ∷ ws) counts s h a = refl
kept inside (e ∷ es) at (w ∷ ws) counts s h a =
    by_turn (turn inside e.kind w) (λ fs ns c x. kept inside ns (suc at) ws c s (omega arith) x)
  where
    by_turn : (u : Turn) → ((fs : List Kind) (ns : List Expected) (c : List ℕ) → Apart s ns → get_or (tally inside ns (suc at) ws c) s 0 ≡ get_or c s 0)
        → get_or (elim u [ fits fs ↦ tally inside (marked fs (more (mark_at e.kind e.mark at)) ++ es) (suc at) ws (noted fs (mark_at e.kind e.mark at) counts) | misfit b ↦ counts ]) s 0 ≡ get_or counts s 0
    by_turn (fits fs) ih =
        let y = at-apart e.kind e.mark at s h a.0 in
        ih fs (marked fs (more (mark_at e.kind e.mark at)) ++ es) (noted fs (mark_at e.kind e.mark at) counts)
        (marked-apart s (more (mark_at e.kind e.mark at)) fs es (more-apart s (mark_at e.kind e.mark at) y) a.1)
        ∙ noted-apart fs (mark_at e.kind e.mark at) counts s y
    by_turn (misfit b) ih = refl
