-- What the private functions establish of the classes of blocks and of the keys of spans.
use Rattle.std.specs.Prelude.{ℕ, suc, ◌+◌, ◌*◌, ◌-◌, ◌<◌, ◌≤◌, ◌≡◌, ◌↔◌, List, [], length, get_or, take, set}
use Rattle.tree.specs.Resolve.{part}
use Rattle.names.specs.Names.{most_spans, most_bytes, names, numbering, distinct}
use Rattle.names.specs.Parts.{start_in, length_in}

-- the first n numbers of a list are given by a function, and the others kept
pub record Written (value : ℕ → ℕ) (n : ℕ) (before after : List ℕ) : Type 0 where
  pub same_length : length after ≡ length before
  pub written : (i : ℕ) → i < n → get_or after i 0 ≡ value i
  pub kept : (i : ℕ) → n ≤ i → get_or after i 0 ≡ get_or before i 0

-- two places have the same two keys, at the places themselves and w further on
pub record SamePair (keys : List ℕ) (w i j : ℕ) : Type 0 where
  pub firsts : get_or keys i 0 ≡ get_or keys j 0
  pub seconds : get_or keys (i + w) 0 ≡ get_or keys (j + w) 0

-- what `pair_classes` needs: the keys of n places, below `most`
pub record Pairs (keys : List ℕ) (w n most : ℕ) : Type 0 where
  pub enough : n + w ≤ length keys
  pub few : n ≤ most_bytes
  pub few-keys : most ≤ suc most_bytes
  pub firsts : (i : ℕ) → i < n → get_or keys i 0 < most
  pub seconds : (i : ℕ) → i < n → get_or keys (i + w) 0 < most

-- the same with arrays that are large enough
pub record PairsIn (keys : List ℕ) (w n most : ℕ) (heads next seen out : List ℕ) : Type 0 where
  pub pairs : Pairs keys w n most
  pub heads-enough : most ≤ length heads
  pub seen-enough : most ≤ length seen
  pub next-enough : n ≤ length next
  pub out-enough : n ≤ length out

-- the classes of n places with two keys each, over their first keys: one class exactly where the keys are the same, named by its first place
pub record PairClasses (keys : List ℕ) (w n : ℕ) (classes : List ℕ) : Type 0 where
  pub same_length : length classes ≡ length keys
  pub early : (i : ℕ) → i < n → get_or classes i 0 ≤ i
  pub own : (i : ℕ) → i < n → get_or classes (get_or classes i 0) 0 ≡ get_or classes i 0
  pub equal : (i j : ℕ) → i < n → j < n → (get_or classes i 0 ≡ get_or classes j 0) ↔ SamePair keys w i j
  pub kept : (i : ℕ) → n ≤ i → get_or classes i 0 ≡ get_or keys i 0

-- the classes of the blocks of w bytes, by the places where they start: below a bound, and equal exactly when the blocks are
pub record Blocks (text classes : List ℕ) (w most : ℕ) : Type 0 where
  pub below : (i : ℕ) → i + w ≤ length text → get_or classes i 0 < most
  pub equal : (i j : ℕ) → i + w ≤ length text → j + w ≤ length text → (get_or classes i 0 ≡ get_or classes j 0) ↔ (part text i w ≡ part text j w)

-- what `widen` needs
pub record Widens (text : List ℕ) (w longest most : ℕ) (classes : List ℕ) : Type 0 where
  pub few_bytes : length text ≤ most_bytes
  pub few-keys : most ≤ suc most_bytes
  pub below : length text < most
  pub positive : 1 ≤ w
  pub wide : w ≤ longest
  pub within : longest ≤ length text
  pub blocks : Blocks text classes w most
  pub enough : length text ≤ length classes

-- the start and the length of a span in a text of length len
abbrev pub start_of : ℕ → List ℕ → ℕ → ℕ
start_of len spans i = start_in len (get_or spans (2 * i) 0)

abbrev pub length_of : ℕ → List ℕ → ℕ → ℕ
length_of len spans i = length_in len (get_or spans (2 * i) 0) (get_or spans (2 * i + 1) 0)

-- no length of the first n spans is greater than a number
pub record Longest (len : ℕ) (spans : List ℕ) (n most : ℕ) : Type 0 where
  pub each : (i : ℕ) → i < n → length_of len spans i ≤ most
  pub within : most ≤ len

-- a span's length is at least w and below 2 w
pub record AtWidth (len : ℕ) (spans : List ℕ) (w i : ℕ) : Type 0 where
  pub least : w ≤ length_of len spans i
  pub below : length_of len spans i < w + w

-- the keys of such a span: the classes of its first and of its last w bytes
abbrev pub first_key : ℕ → List ℕ → List ℕ → ℕ → ℕ
first_key len spans classes i = get_or classes (start_of len spans i) 0

abbrev pub last_key : ℕ → List ℕ → List ℕ → ℕ → ℕ → ℕ
last_key len spans classes w i = get_or classes (start_of len spans i + (length_of len spans i - w)) 0

-- the keys of n spans stand at i and at i + n; those of the span i are set if it is of the width w
pub record KeyTaken (len : ℕ) (spans classes : List ℕ) (n w i : ℕ) (keys keys' : List ℕ) : Type 0 where
  pub taken : AtWidth len spans w i → keys' ≡ set (set keys i (first_key len spans classes i)) (i + n) (last_key len spans classes w i)
  pub skipped : (AtWidth len spans w i → ⊥) → keys' ≡ keys

-- those of the first m spans are set where the spans are of the width w
pub record KeysTaken (len : ℕ) (spans classes : List ℕ) (n w m : ℕ) (keys keys' : List ℕ) : Type 0 where
  pub same_length : length keys' ≡ length keys
  pub taken : (i : ℕ) → i < m → AtWidth len spans w i → (get_or keys' i 0 ≡ first_key len spans classes i) × (get_or keys' (i + n) 0 ≡ last_key len spans classes w i)
  pub kept : (i : ℕ) → i < n → (i < m → AtWidth len spans w i → ⊥) → (get_or keys' i 0 ≡ get_or keys i 0) × (get_or keys' (i + n) 0 ≡ get_or keys (i + n) 0)

-- the keys of n spans are below a bound, and two spans of one length below w have the same keys exactly when their bytes are equal
pub record Keyed (text spans : List ℕ) (w n most : ℕ) (keys : List ℕ) : Type 0 where
  pub firsts : (i : ℕ) → i < n → get_or keys i 0 < most
  pub seconds : (i : ℕ) → i < n → get_or keys (i + n) 0 < most
  pub equal : (i j : ℕ) → i < n → j < n → length_of (length text) spans i ≡ length_of (length text) spans j → length_of (length text) spans i < w
      → SamePair keys n i j
      ↔ (part text (start_of (length text) spans i) (length_of (length text) spans i) ≡ part text (start_of (length text) spans j) (length_of (length text) spans j))

-- the second keys of the first m of n spans are their lengths
pub record Lengths (len : ℕ) (spans : List ℕ) (n m : ℕ) (keys keys' : List ℕ) : Type 0 where
  pub same_length : length keys' ≡ length keys
  pub written : (i : ℕ) → i < m → get_or keys' (i + n) 0 ≡ length_of len spans i
  pub kept : (i : ℕ) → i < n → get_or keys' i 0 ≡ get_or keys i 0

-- the text and its n names; keys are below `most`
pub record Sized (text spans : List ℕ) (n most : ℕ) : Type 0 where
  pub few_bytes : length text ≤ most_bytes
  pub few-spans : n ≤ most_spans
  pub few-keys : most ≤ suc most_bytes
  pub all : n ≡ length (names text spans)
  pub bytes_below : 256 ≤ most
  pub places-below : length text < most
  pub spans-below : n ≤ most

-- the same with arrays for a class of each byte and two keys of each span
pub record Room (text spans : List ℕ) (n most : ℕ) (classes keys : List ℕ) : Type 0 where
  pub sized : Sized text spans n most
  pub classes-enough : length text ≤ length classes
  pub keys-enough : n + n ≤ length keys

-- the state at a width: its blocks have classes if a span is so long, and the shorter spans have keys
pub record Reached (text spans : List ℕ) (n most longest w : ℕ) (classes keys : List ℕ) : Type 0 where
  pub positive : 1 ≤ w
  pub blocks : w ≤ longest → Blocks text classes w most
  pub keyed : Keyed text spans w n most keys

-- the keys of all n spans
pub record KeyedAll (text spans : List ℕ) (n most : ℕ) (keys : List ℕ) : Type 0 where
  pub width : ℕ
  pub short : (i : ℕ) → i < n → length_of (length text) spans i < width
  pub keyed : Keyed text spans width n most keys

-- what the first spans of equal bytes are found from: all keys, with room for two of each span
pub record Sorts (text spans : List ℕ) (n most : ℕ) (keys : List ℕ) : Type 0 where
  pub sized : Sized text spans n most
  pub keyed : KeyedAll text spans n most keys
  pub enough : n + n ≤ length keys

-- the first n of the names have the first place of an equal name as their class
pub record FirstEqual (bs : List (List ℕ)) (n : ℕ) (classes : List ℕ) : Type 0 where
  pub early : (i : ℕ) → i < n → get_or classes i 0 ≤ i
  pub equal : (i : ℕ) → i < n → get_or bs (get_or classes i 0) [] ≡ get_or bs i []
  pub least : (i j : ℕ) → i < n → j < n → get_or bs j [] ≡ get_or bs i [] → get_or classes i 0 ≤ j

-- the numbers of the first i names and the count of the distinct ones among them
pub record Ranked (bs : List (List ℕ)) (i count : ℕ) (ranks : List ℕ) : Type 0 where
  pub counted : count ≡ length (distinct [] (take i bs))
  pub each : (j : ℕ) → j < i → get_or ranks j 0 ≡ get_or (numbering [] bs) j 0

-- a text that is read whole and its n names, with arrays for a class of each byte and two keys of each span
pub record Prepared (text spans : List ℕ) (n : ℕ) (classes keys : List ℕ) : Type 0 where
  pub few_bytes : length text ≤ most_bytes
  pub all : n ≡ length (names text spans)
  pub classes-enough : length text ≤ length classes
  pub keys-enough : n + n ≤ length keys
