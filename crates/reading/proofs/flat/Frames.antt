-- Frames of the walk: what the stack stands for, and one step.
use Prim.Native.Nat.{ℕ, suc, ◌+◌, ◌*◌, ◌-◌, ◌^◌, ◌≤◌, ◌<◌}
use native.Mathlib.Omega.{arith}
use mathlib.Core.Path.{◌≡◌, refl}
use mathlib.Core.List.{List, [], ◌∷◌, ◌++◌}
use lib.ListN.{length, get_or}
use lib.Pow.{pow_pos, pow-lt, add-lt-pow}
use Rattle.parsing.specs.Arena.{Run, Holds, outside, empty, one, two, three, ident, unary, binary, item, pair, closed, headed}
use Rattle.parsing.specs.declared.arena.Node.{Node}
use Rattle.reading.specs.Flat.{node_head, node_parts, head_of, parts_of, Inside}
use Rattle.reading.specs.declared.flat.Frame.{Frame}
use Rattle.reading.specs.declared.flat.Frame.TheVariants.{Whole, Next, Last, End}

-- ---- what the stack stands for

-- a frame stands for a run of words, with its node below l
pub data Means (arena : List Node) (l : ℕ) : Frame → Run → Type 0 where
  end : 1 ≤ l → Means arena l End (λ r. 0 ∷ r)
  alone : {n : ℕ} {f : Run} → n < l → Holds arena n f → Means arena l (Whole n) f
  after_one : {n : ℕ} {f : Run} → n < l → Holds arena n f → Means arena l (Next n) (λ r. 1 ∷ f r)
  between : {n : ℕ} {f : Run} → n + 2 ≤ l → Holds arena n f → Means arena l (Last n) (λ r. 1 ∷ f (0 ∷ r))

-- the frames from the top of the stack on: each one's limit lies below the limit of the one under it
pub data Pending (arena : List Node) (top : ℕ) : ℕ → List Frame → Run → Type 0 where
  nothing : {l : ℕ} → 1 ≤ l → l ≤ top + 1 → Pending arena top l [] (λ r. r)
  push : {l m : ℕ} {w : Frame} {fs : List Frame} {f g : Run} → Means arena l w f → l < m → Pending arena top m fs g
      → Pending arena top l (w ∷ fs) (λ r. f (g r))

-- each frame takes one of the limits between it and `top`
pub few : {arena : List Node} {top l : ℕ} {fs : List Frame} {g : Run} → Pending arena top l fs g → l + length fs ≤ top + 1
few (nothing k h) = omega arith
few (push fr h p) = omega (arith, few p)

limited : {arena : List Node} {l : ℕ} {w : Frame} {f : Run} → Means arena l w f → 1 ≤ l
limited (end h) = h
limited (alone h o) = omega arith
limited (after_one h o) = omega arith
limited (between h o) = omega arith

pub above : {arena : List Node} {top l : ℕ} {fs : List Frame} {g : Run} → Pending arena top l fs g → 1 ≤ l
above (nothing k h) = k
above (push fr h p) = limited fr

means-inside : {arena : List Node} {l : ℕ} {w : Frame} {f : Run} {n : ℕ} → Means arena l w f → l ≤ n → Inside n w
means-inside (end h) k = tt
means-inside (alone h o) k = omega arith
means-inside (after_one h o) k = omega arith
means-inside (between h o) k = omega arith

pub top_inside : {arena : List Node} {top l : ℕ} {w : Frame} {fs : List Frame} {g : Run} → Pending arena top l (w ∷ fs) g → Inside top w
top_inside {top = top} (push fr h p) = means-inside fr (omega (arith, few p))

-- ---- one turn

-- what falls with each turn
abbrev pub rank : Frame → ℕ
rank (Whole n) = 4 * n + 1
rank (Next n) = 4 * n + 2
rank (Last n) = 4 * n + 3
rank End = 0

abbrev pub weight : List Frame → ℕ
weight [] = 0
weight (w ∷ ws) = 2 ^ rank w + weight ws

none-less : (w k : ℕ) → k < 2 ^ w + k
none-less w k = omega (arith, pow_pos w)

one_less : {a w : ℕ} (k : ℕ) → a < w → 2 ^ a + k < 2 ^ w + k
one_less k h = omega (arith, pow-lt h)

two-less : (a b w k : ℕ) → a + 2 ≤ w → b + 2 ≤ w → 2 ^ a + (2 ^ b + k) < 2 ^ w + k
two-less a b w k h j =
    let p : a < w - 1 = omega arith in
    let q : b < w - 1 = omega arith in
    let e : suc (w - 1) ≡ w = omega arith in
    omega (arith, rw e at (add-lt-pow (w - 1) (pow-lt p) (pow-lt q)))

-- the frame w on top of fs, whose run is g: after w's first words
pub record Stepped (arena : List Node) (top : ℕ) (w : Frame) (fs : List Frame) (g : Run) : Type 0 where
  pub limit : ℕ
  pub run : Run
  pub pending : Pending arena top limit (parts_of arena w ++ fs) run
  pub says : (r : List ℕ) → g r ≡ head_of arena w (run r)
  pub less : weight (parts_of arena w ++ fs) < 2 ^ rank w + weight fs

-- a node's frame
module _ {arena : List Node} {n : ℕ} {node : Node} (e : get_or arena n outside ≡ node) where
  visited : {top limit : ℕ} {run g : Run} (ps fs : List Frame) → node_parts node ≡ ps → Pending arena top limit (ps ++ fs) run
      → ((r : List ℕ) → g r ≡ node_head node (run r)) → weight (ps ++ fs) < 2 ^ rank (Whole n) + weight fs → Stepped arena top (Whole n) fs g
  visited {limit = limit} {run = run} ps fs q p s h =
      record { limit = limit; run = run; pending = rw (e, q) p; says = λ r. rw e (s r); less = rw (e, q) h }

  -- a node with no part, and one with two
  leaf : {top m : ℕ} {fs : List Frame} {g h : Run} → node_parts node ≡ [] → Pending arena top m fs g → ((r : List ℕ) → h r ≡ node_head node (g r))
      → Stepped arena top (Whole n) fs h
  leaf {fs = fs} q p s = visited [] fs q p s (none-less (rank (Whole n)) (weight fs))

  over : {top m l y : ℕ} {fs : List Frame} {f g j : Run} (v : Frame) {k : Run} → node_parts node ≡ Whole y ∷ v ∷ [] → rank v + 2 ≤ rank (Whole n)
      → y < n → n < l → l < m → Holds arena y f → Means arena l v k → Pending arena top m fs g
      → ((r : List ℕ) → j r ≡ node_head node (f (k (g r)))) → Stepped arena top (Whole n) fs j
  over {y = y} {fs = fs} v q u b c h o fr p s =
      visited (Whole y ∷ v ∷ []) fs q (push (alone b o) c (push fr h p)) s (two-less (rank (Whole y)) (rank v) (rank (Whole n)) (weight fs) (omega arith) u)

module _ {arena : List Node} {top l m : ℕ} {fs : List Frame} {g : Run} (h : l < m) (p : Pending arena top m fs g) where
  node-step : {n : ℕ} {f : Run} → n < l → Holds arena n f → Stepped arena top (Whole n) fs (λ r. f (g r))
  node-step c (empty a) = leaf a refl p (λ r. refl)
  node-step c (one a) = leaf a refl p (λ r. refl)
  node-step c (two a) = leaf a refl p (λ r. refl)
  node-step c (three a) = leaf a refl p (λ r. refl)
  node-step c (ident a) = leaf a refl p (λ r. refl)
  node-step c (unary a b o) = over a End refl (omega arith) b c h o (end (omega arith)) p (λ r. refl)
  node-step c (binary {z = z} a b d o q) = over a (Last z) refl (omega arith) b c h o (between (omega arith) q) p (λ r. refl)
  node-step c (item {z = z} a b d o q) = over a (Next z) refl (omega arith) b c h o (after_one (omega arith) q) p (λ r. refl)
  node-step c (pair {z = z} a b d o q) = over a (Whole z) refl (omega arith) b c h o (alone (omega arith) q) p (λ r. refl)
  node-step c (closed a b o) = over a End refl (omega arith) b c h o (end (omega arith)) p (λ r. refl)
  node-step c (headed {y = y} a b o) =
      visited a (Whole y ∷ []) fs refl (push (alone b o) (omega arith) p) (λ r. refl) (one_less (weight fs) (omega arith))

  frame_step : {w : Frame} {f : Run} → Means arena l w f → Stepped arena top w fs (λ r. f (g r))
  frame_step (end c) = record { limit = m; run = g; pending = p; says = λ r. refl; less = none-less 0 (weight fs) }
  frame_step (alone c o) = node-step c o
  frame_step (after_one {n = n} c o) =
      record { limit = l; run = _; pending = push (alone c o) h p; says = λ r. refl; less = one_less {a = rank (Whole n)} (weight fs) (omega arith) }
  frame_step (between {n = n} c o) =
      let a : n < n + 1 = omega arith in
      record {
        limit = n + 1;
        run = _;
        pending = push (alone a o) (omega arith) (push (end (omega arith)) h p);
        says = λ r. refl;
        less = two-less (rank (Whole n)) 0 (rank (Last n)) (weight fs) (omega arith) (omega arith);
      }

pub step : {arena : List Node} {top l : ℕ} {w : Frame} {fs : List Frame} {g : Run} → Pending arena top l (w ∷ fs) g → Stepped arena top w fs g
step (push fr h p) = frame_step h p fr
