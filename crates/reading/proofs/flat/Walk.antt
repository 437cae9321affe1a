-- The loop of `Writer::tree`: what it has written and what its stack stands for are together the words of the root.
use Prim.Native.Nat.{ℕ, ◌+◌, ◌≤◌, ◌<◌}
use native.Mathlib.Omega.{arith}
use mathlib.Core.Path.{◌≡◌, refl, sym, ap, ◌∙◌}
use mathlib.Core.List.{List, [], ◌∷◌, ◌++◌}
use lib.ListN.{length, length-append}
use Rattle.std.specs.Prelude.{Option, Some, None, Ok, Err}
use Rattle.tree.specs.Stack.{items, Popped}
use Rattle.tree.specs.declared.stack.Stack.{Stack}
use Rattle.parsing.specs.Arena.{Run, Holds}
use Rattle.parsing.specs.declared.arena.Node.{Node}
use Rattle.reading.specs.Flat.{head_of, parts_of, onto, Inside, Puts, Written, Writes, Rooted}
use Rattle.reading.specs.declared.flat.Frame.{Frame}
use Rattle.reading.specs.declared.flat.Frame.TheVariants.{Whole}
use Rattle.reading.specs.declared.writer.Full.{Full}
use Rattle.reading.specs.declared.writer.Writer.{Writer}
use Rattle.reading.proofs.flat.Frames.{alone, Pending, nothing, push, few, above, top_inside, weight, Stepped, step}

-- where the run f was to be written, that of the frames fs is left; w₀ is the writer before the walk
pub record Walking (arena : List Node) (top : ℕ) (f : Run) (fs : List Frame) (w₀ w : Writer) : Type 0 where
  pub limit : ℕ
  pub run : Run
  pub pending : Pending arena top limit fs run
  pub written : (total rest : List ℕ) → Written total (f rest) w₀ → Written total (run rest) w

-- the loop's invariant, for every run that the root stands for
pub record Walks (arena : List Node) (root : ℕ) (fs : List Frame) (w₀ w : Writer) : Type 0 where
  pub output : w.table.ghost_name ≡ w₀.table.ghost_name
  pub size : length w.table.now ≡ length w₀.table.now
  pub walking : (f : Run) (top : ℕ) → Holds arena root f → root < top → Walking arena top f fs w₀ w

-- at the root
pub walks-start : {arena : List Node} {root : ℕ} {w : Writer} → Walks arena root (Whole root ∷ []) w w
walks-start =
    record {
      output = refl;
      size = refl;
      walking = λ f top o h.
          let a : top < top + 1 = omega arith in
          let b : top + 1 ≤ top + 1 = omega arith in
          let c : 1 ≤ top + 1 = omega arith in
          record { limit = top; run = f; pending = push (alone h o) a (nothing c b); written = λ total rest p. p };
    }

-- in a turn, at the frame w over fs
module _ {arena : List Node} {root places : ℕ} (q : Rooted arena places root) {w : Frame} {fs : List Frame} {w₀ writer : Writer}
    (o : Walks arena root (w ∷ fs) w₀ writer) where
  at-root : Walking arena q.top q.run (w ∷ fs) w₀ writer
  at-root = o.walking q.run q.top q.holds q.below

  here : Stepped arena q.top w fs at-root.run
  here = step at-root.pending

  inside_more : (v : Frame) (n m : ℕ) → n ≤ m → Inside n v → Inside m v
  inside_more (Whole k) n m l h = omega arith
  inside_more (Frame.Next k) n m l h = omega arith
  inside_more (Frame.Last k) n m l h = omega arith
  inside_more Frame.End n m l h = tt

  pub walks-inside : Inside (length arena) w
  walks-inside = inside_more w q.top (length arena) q.inside (top_inside at-root.pending)

  pub walks-less : weight (parts_of arena w ++ fs) < weight (w ∷ fs)
  walks-less = here.less

  pub walks-room : length (parts_of arena w) + length fs ≤ places
  walks-room =
      let l = few here.pending in
      let a = above here.pending in
      omega (arith, q.room, length-append (parts_of arena w) fs)

  -- its first words are written, or the table has no place left for them
  pub walks-next : {writer' : Writer} → Writes (head_of arena w) writer writer' (Ok tt) → Walks arena root (parts_of arena w ++ fs) w₀ writer'
  walks-next x =
      record {
        output = x.output ∙ o.output;
        size = x.size ∙ o.size;
        walking = λ f top p b.
            let k = o.walking f top p b in
            let s : Stepped arena top w fs k.run = step k.pending in
            record {
              limit = s.limit;
              run = s.run;
              pending = s.pending;
              written = λ total rest z. x.wrote total (s.run rest) (rw (s.says rest) at (k.written total rest z));
            };
      }

  pub walks-full : {writer' : Writer} {e : Full} → Writes (head_of arena w) writer writer' (Err e) → (f : Run) → Holds arena root f → Writes f w₀ writer' (Err e)
  walks-full x f p =
      let k = o.walking f (root + 1) p (omega arith) in
      let s : Stepped arena (root + 1) w fs k.run = step k.pending in
      record {
        output = x.output ∙ o.output;
        size = x.size ∙ o.size;
        wrote = λ total rest z. x.wrote total (s.run rest) (rw (s.says rest) at (k.written total rest z));
      }

-- after the last turn
pub walks-end : {arena : List Node} {root : ℕ} {w₀ w : Writer} → Walks arena root [] w₀ w → (f : Run) → Holds arena root f → Writes f w₀ w (Ok tt)
walks-end {arena} {root} {w₀} {w} o f h = record { output = o.output; size = o.size; wrote = ended k.pending k.written }
  where
    k : Walking arena (root + 1) f [] w₀ w
    k = o.walking f (root + 1) h (omega arith)

    ended : {l : ℕ} {g : Run} → Pending arena (root + 1) l [] g → ((total rest : List ℕ) → Written total (f rest) w₀ → Written total (g rest) w)
        → (total rest : List ℕ) → Written total (f rest) w₀ → Written total rest w
    ended (nothing a b) x = x

-- ---- the stack

-- two frames, if there are so many, on others
onto-twice : (p q : Option Frame) (fs : List Frame) {ps : List Frame} → onto p (onto q []) ≡ ps → onto p (onto q fs) ≡ ps ++ fs
onto-twice (Some f) (Some g) fs e = rw (sym e) refl
onto-twice (Some f) None fs e = rw (sym e) refl
onto-twice None (Some g) fs e = rw (sym e) refl
onto-twice None None fs e = rw (sym e) refl

onto-adds : (p : Option Frame) (fs : List Frame) → length (onto p fs) ≡ length (onto p []) + length fs
onto-adds (Some f) fs = omega arith
onto-adds None fs = omega arith

-- a stack has so many places
abbrev pub Places : Stack Frame → ℕ → Type 0
Places s n = s.free + length (items s) ≡ n

pub places-popped : (s s' : Stack Frame) {w : Frame} {n : ℕ} → Popped s (Some w) s' → Places s n → Places s' n
places-popped s s' p e = omega (arith, ap length p.0, p.1)

pub places-put : (p : Option Frame) {s s' : Stack Frame} {n : ℕ} → Puts p s s' → Places s n → Places s' n
places-put p {s} h e = omega (arith, ap length h.items, h.free, onto-adds p (items s))

-- after the frames p and q of the parts were put on it, q first
module _ (p q : Option Frame) {s₁ s₂ : Stack Frame} {ps : List Frame} (e : onto p (onto q []) ≡ ps) (h : Puts q s₁ s₂) where
  pub replaced : {s₃ : Stack Frame} → Puts p s₂ s₃ → items s₃ ≡ ps ++ items s₁
  replaced k = k.items ∙ ap (onto p) h.items ∙ onto-twice p q (items s₁) e

  -- there is room for the second of them
  pub room-left : {n : ℕ} → length ps + length (items s₁) ≤ n → Places s₁ n → length (onto p []) ≤ s₂.free
  room-left l z = omega (arith, h.free, ap length e, onto-adds p (onto q []))
