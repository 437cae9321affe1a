-- The classes of blocks: those of single bytes, and those of twice the width.
use Rattle.std.specs.Prelude.{ℕ, ◌+◌, ◌-◌, ◌<◌, ◌≤◌, ◌≡◌, List, [], ◌∷◌, length, get_or}
use Rattle.std.proofs.Common.{arith, sym, ap, ◌∙◌, drop-cons}
use Rattle.tree.specs.Resolve.{part}
use Rattle.names.specs.Parts.{cover}
use Rattle.names.specs.Spans.{Written, Pairs, PairClasses, Blocks, Widens}

one_byte : (text : List ℕ) (i : ℕ) → i < length text → part text i 1 ≡ get_or text i 0 ∷ []
unfolding part
one_byte text i h = rw (drop-cons text i 0 h)

pub blocks-one : (text cells cells' : List ℕ) (most : ℕ) → Written (λ i. get_or text i 0) (length text) cells cells' → ((i : ℕ) → get_or text i 0 < 256) → 256 ≤ most
    → Blocks text cells' 1 most
blocks-one text cells cells' most b bytes m =
    record {
      below = λ i h. omega (arith, b.written i (omega arith), bytes i);
      equal = λ i j h k.
          let f : i < length text = omega arith in
          let g : j < length text = omega arith in (
            λ e. one_byte text i f ∙ ap (λ (x : ℕ). x ∷ []) (sym (b.written i f) ∙ e ∙ b.written j g) ∙ sym (one_byte text j g),
            λ e. b.written i f ∙ ap (λ (l : List ℕ). get_or l 0 0) (sym (one_byte text i f) ∙ e ∙ one_byte text j g) ∙ sym (b.written j g),
          );
    }

-- what `pair_classes` needs to double the width
pub double-pairs : (text : List ℕ) (w longest most : ℕ) (classes : List ℕ) → Widens text w longest most classes → w + w ≤ longest
    → Pairs classes w (length text - (w + w) + 1) most
double-pairs text w longest most classes r h =
    let within = r.within in
    let positive = r.positive in
    record {
      enough = omega (arith, r.enough);
      few = omega (arith, r.few_bytes);
      few-keys = r.few-keys;
      firsts = λ i k. r.blocks.below i (omega arith);
      seconds = λ i k. r.blocks.below (i + w) (omega arith);
    }

pub blocks-double : (text : List ℕ) (w longest most : ℕ) (classes classes' : List ℕ) → Widens text w longest most classes → w + w ≤ longest
    → PairClasses classes w (length text - (w + w) + 1) classes' → Blocks text classes' (w + w) most
blocks-double text w longest most classes classes' r h made =
    let within = r.within in
    let large = r.below in
    record {
      below = λ i k. omega (arith, made.early i (omega arith));
      equal = λ i j k l.
          let one = made.equal i j (omega arith) (omega arith) in
          let low = r.blocks.equal i j (omega arith) (omega arith) in
          let high = r.blocks.equal (i + w) (j + w) (omega arith) (omega arith) in
          let both = cover text i j w w (omega arith) k l in (
            λ e. let s = one.0 e in both.1 (low.0 s.firsts, high.0 s.seconds),
            λ e. let b = both.0 e in one.1 (record { firsts = low.1 b.0; seconds = high.1 b.1 }),
          );
    }
