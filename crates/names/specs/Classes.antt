-- What the classes of places with two keys are, and what the functions that find them ensure; arrays that are large enough for them.
use Rattle.std.specs.Prelude.{ℕ, suc, ◌<◌, ◌≤◌, ◌≡◌, List, length, get_or}

-- the first n keys are below a bound
pub record Keys (keys : List ℕ) (n most : ℕ) : Type 0 where
  pub enough : n ≤ length keys
  pub below : (i : ℕ) → i < n → get_or keys i 0 < most

-- two places have the same keys
pub record Same (first second : List ℕ) (i j : ℕ) : Type 0 where
  pub firsts : get_or first i 0 ≡ get_or first j 0
  pub seconds : get_or second i 0 ≡ get_or second j 0

-- a place is the first below n with the keys of another
pub record FirstOf (first second : List ℕ) (n i c : ℕ) : Type 0 where
  pub early : c ≤ i
  pub same : Same first second c i
  pub least : (j : ℕ) → j < n → Same first second j i → c ≤ j

-- the classes of the first n places, each its first place
pub record Classed (first second : List ℕ) (n : ℕ) (classes : List ℕ) : Type 0 where
  pub enough : n ≤ length classes
  pub each : (i : ℕ) → i < n → FirstOf first second n i (get_or classes i 0)

-- ---- the places of one first key

-- the first place from `from` on with the key v, or n where there is none
pub record NextPlace (keys : List ℕ) (n v from place : ℕ) : Type 0 where
  pub later : from ≤ place
  pub inside : place ≤ n
  pub found : place < n → get_or keys place 0 ≡ v
  pub none : (j : ℕ) → from ≤ j → j < place → get_or keys j 0 ≡ v → ⊥

-- at each place from `from` on the next place with its key
abbrev pub Nexts : List ℕ → ℕ → ℕ → List ℕ → Type 0
Nexts keys n from next = (j : ℕ) → from ≤ j → j < n → NextPlace keys n (get_or keys j 0) (suc j) (get_or next j 0)

-- at each key below `most` the first place from `from` on with it
abbrev pub Heads : List ℕ → ℕ → ℕ → ℕ → List ℕ → Type 0
Heads keys n most from heads = (v : ℕ) → v < most → NextPlace keys n v from (get_or heads v 0)

-- ---- the places seen

-- at each second key a place that is the first with its two keys
abbrev pub Seen : List ℕ → List ℕ → ℕ → List ℕ → Type 0
Seen first second n seen =
    (j : ℕ) → j < n
    → (get_or seen (get_or second j 0) 0 < n) × FirstOf first second n (get_or seen (get_or second j 0) 0) (get_or seen (get_or second j 0) 0)

-- ---- what the functions ensure

-- the lists of the places with one key: at a key the first place with it, at a place the next with its key
pub record Chained (keys : List ℕ) (n most : ℕ) (heads next : List ℕ) : Type 0 where
  pub firsts : Heads keys n most 0 heads
  pub nexts : Nexts keys n 0 next

-- of two places the first one where their keys are the same, else the second one
pub record Class (first second : List ℕ) (s at c : ℕ) : Type 0 where
  pub old : Same first second s at → c ≡ s
  pub new : (Same first second s at → ⊥) → c ≡ at

-- the places with the first key v have their classes, and the others keep theirs
pub record Followed (first second : List ℕ) (n v : ℕ) (seen out seen' out' : List ℕ) : Type 0 where
  pub seen-length : length seen' ≡ length seen
  pub out-length : length out' ≡ length out
  pub seen-firsts : Seen first second n seen'
  pub classed : (j : ℕ) → j < n → get_or first j 0 ≡ v → FirstOf first second n j (get_or out' j 0)
  pub kept : (j : ℕ) → (get_or first j 0 ≡ v → ⊥) → get_or out' j 0 ≡ get_or out j 0

-- ---- arrays

-- n places whose keys are below `most`, and arrays that are large enough for their classes
pub record Ready (first second : List ℕ) (n most : ℕ) (heads next seen out : List ℕ) : Type 0 where
  pub first-keys : Keys first n most
  pub second-keys : Keys second n most
  pub heads-enough : most ≤ length heads
  pub next-enough : n ≤ length next
  pub seen-enough : most ≤ length seen
  pub out-enough : n ≤ length out
  pub few : n ≤ 65535
