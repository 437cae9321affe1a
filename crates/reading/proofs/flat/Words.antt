-- Words in the table: what a write of a few more gives.
use Prim.Native.Nat.{ℕ, ◌+◌, ◌-◌, ◌≤◌, ◌<◌}
use native.Mathlib.Omega.{arith}
use mathlib.Core.Path.{◌≡◌, refl, sym, ap, ◌∙◌}
use mathlib.Core.List.{List, [], ◌++◌, append-nil}
use lib.ListN.{length, take, drop, replicate, length-take, length-drop, length-replicate}
use Rattle.std.specs.Prelude.{Result, Ok, Err}
use Rattle.std.proofs.lemmas.List.{append_assoc, length-append, take_at, drop_at, drop-replicate}
use Rattle.parsing.specs.Arena.{Run}
use Rattle.reading.specs.Flat.{Written, Wrote, Writes, Flattened}
use Rattle.reading.specs.declared.writer.Full.{Full}
use Rattle.reading.specs.declared.writer.Writer.{Writer}

-- no word
pub writes_none : {w : Writer} → Writes (λ r. r) w w (Ok tt)
writes_none = record { output = refl; size = refl; wrote = λ total rest p. p }

module _ {w w' : Writer} (ws : List ℕ) where
  -- words after those that are written
  pub writes-inside : {ys : List ℕ} {k : ℕ} → w'.table.ghost_name ≡ w.table.ghost_name → w'.len ≡ w.len + k
      → w'.table.now ≡ take w.len w.table.now ++ (ys ++ drop k (drop w.len w.table.now)) → ys ≡ ws → k ≡ length ws → w.len + k ≤ length w.table.now
      → Writes (λ r. ws ++ r) w w' (Ok tt)
  writes-inside {ys} {k} o l e y n h = record { output = o; size = size; wrote = wrote }
    where
      size : length w'.table.now ≡ length w.table.now
      size =
          omega (
            arith,
            ap length e,
            ap length y,
            n,
            length-append (take w.len w.table.now) (ys ++ drop k (drop w.len w.table.now)),
            length-append ys (drop k (drop w.len w.table.now)),
            length-take w.len w.table.now,
            length-drop k (drop w.len w.table.now),
            length-drop w.len w.table.now,
          )

      wrote : (total rest : List ℕ) → Written total (ws ++ rest) w → Written total rest w'
      wrote total rest p =
          let q : take w.len w.table.now ≡ p.done = ap (take w.len) p.filled ∙ take_at p.done (replicate p.free 0) w.len (sym p.counted) in
          let d : drop k (drop w.len w.table.now) ≡ replicate (p.free - k) 0 =
          ap (λ l. drop k (drop w.len l)) p.filled ∙ ap (drop k) (drop_at p.done (replicate p.free 0) w.len (sym p.counted)) ∙ drop-replicate k p.free 0 in
          record {
            done = p.done ++ ws;
            free = p.free - k;
            split = p.split ∙ sym (append_assoc p.done ws rest);
            filled = e ∙ rw (q, y, d) (sym (append_assoc p.done ws (replicate (p.free - k) 0)));
            counted = omega (arith, l, p.counted, n, length-append p.done ws);
          }

  -- words that the table has no places for
  pub writes-past : w'.table.ghost_name ≡ w.table.ghost_name → w'.table.now ≡ w.table.now → length w'.table.now < w.len + length ws
      → Writes (λ r. ws ++ r) w w' (Err _)
  writes-past o e h =
      record {
        output = o;
        size = ap length e;
        wrote = λ total rest p. omega (arith, h, ap length p.split, p.counted, length-append p.done (ws ++ rest), length-append ws rest);
      }

-- a run from the start of a table of zeros on
module _ {f : Run} {w w' : Writer} {r : Result Unit Full} (x : Writes f w w' r) (z : w.len ≡ 0) (e : w.table.now ≡ replicate (length w.table.now) 0) where
  all : Wrote (f []) [] w' r
  all = x.wrote (f []) [] (record { done = []; free = length w.table.now; split = refl; filled = e; counted = z })

  -- t is what the table holds once the writer is let go
  pub all-written : r ≡ Ok tt → {t : List ℕ} → (w.table.ghost_name ≡ w'.table.ghost_name → t ≡ w'.table.now) → Flattened (f []) w.table.now t (Ok w'.len)
  all-written h later =
      let p : Written (f []) [] w' = rw h at all in
      let d : p.done ≡ f [] = sym (p.split ∙ append-nil p.done) in
      let n : length w'.table.now ≡ length p.done + p.free =
      ap length p.filled ∙ length-append p.done (replicate p.free 0) ∙ ap (λ n. length p.done + n) (length-replicate p.free 0) in
      let k : p.free ≡ length w.table.now - length p.done = omega (arith, x.size) in
      rw (sym d) (p.counted, later (sym x.output) ∙ p.filled ∙ ap (λ n. p.done ++ replicate n 0) k)

  pub not-all : {e : Full} → r ≡ Err e → length w.table.now < length (f [])
  not-all h = let l : length w'.table.now < length (f []) = rw h at all in omega (arith, x.size)
