-- What is read of a text, the bound of the keys, and arrays that are large enough.
use Rattle.std.specs.Prelude.{ℕ, ◌+◌, ◌/◌, ◌≤◌, min, max, ◌≡◌, List, length, take, replicate}
use Rattle.std.proofs.Common.{arith, sym, length-take, length-take-le}
use Rattle.std.proofs.lemmas.List.{length-replicate}
use Rattle.names.specs.Names.{most_spans, most_bytes, names}
use Rattle.names.specs.Parts.{names-length}
use Rattle.names.specs.Spans.{Pairs, PairsIn, Sized, Room, Prepared}

-- how many numbers an array has
pub counted : (n : ℕ) → n ≡ length (replicate {A = ℕ} n 0)
counted n = sym (length-replicate n 0)

-- the first numbers of a list
pub cut-length : (n : ℕ) (l : List ℕ) → n ≤ length l → n ≡ length (take n l)
cut-length n l h = sym (length-take-le n l h)

pub cut-few : (n : ℕ) (l : List ℕ) → length (take n l) ≤ n
cut-few n l = simp length-take (omega arith)

-- the keys' bound is the least that is enough for the bytes, the places and the spans
pub sized_in : (text spans : List ℕ) (n most : ℕ) → length text ≤ most_bytes → n ≡ length (names text spans) → most ≡ max (max (length text + 1) n) 256 → Sized text spans n most
sized_in text spans n most few all e =
    let few-spans : n ≤ most_spans = omega (arith, all, names-length text spans) in
    record {
      few_bytes = few;
      few-spans = few-spans;
      few-keys = omega arith;
      all = all;
      bytes_below = omega arith;
      places-below = omega arith;
      spans-below = omega arith;
    }

-- arrays of one size for the classes
pub pairs-in : (cells : ℕ) (keys : List ℕ) (w n most size : ℕ) → Pairs keys w n most → size ≡ max most n → size ≤ cells
    → PairsIn keys w n most (replicate cells 0) (replicate cells 0) (replicate cells 0) (replicate cells 0)
pairs-in cells keys w n most size p e f =
    record {
      pairs = p;
      heads-enough = omega (arith, counted cells);
      seen-enough = omega (arith, counted cells);
      next-enough = omega (arith, counted cells);
      out-enough = omega (arith, counted cells);
    }

-- the arrays that are enough for a text and its names are enough with that bound of the keys
pub room_in : (text spans : List ℕ) (n : ℕ) (classes keys : List ℕ) (places most : ℕ) → Prepared text spans n classes keys → places ≡ max (length text + 1) n → most ≡ max 256 places
    → Room text spans n most classes keys
room_in text spans n classes keys places most p e f =
    record { sized = sized_in text spans n most p.few_bytes p.all (omega arith); classes-enough = p.classes-enough; keys-enough = p.keys-enough }

-- an array for the places and one for the keys
pub prepared-in : (places cells : ℕ) (text spans : List ℕ) (n : ℕ) → length text ≤ most_bytes → n ≡ min (length spans / 2) most_spans → length text ≤ places → n + n ≤ cells
    → Prepared text spans n (replicate places 0) (replicate cells 0)
prepared-in places cells text spans n few e p c =
    record {
      few_bytes = few;
      all = omega (arith, names-length text spans);
      classes-enough = omega (arith, counted places);
      keys-enough = omega (arith, counted cells);
    }
