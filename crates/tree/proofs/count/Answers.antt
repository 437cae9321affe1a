-- `count` meets its contract: a table that is not too long is walked, another refused.
use Rattle.std.specs.Prelude.{Err}
use Prim.Native.Nat.{ℕ, ◌≤◌, ◌<◌}
use mathlib.Core.Path.{◌≡◌, sym, ◌∙◌}
use mathlib.Core.Option.{none}
use mathlib.Core.List.{List}
use native.Mathlib.Omega.{arith}
use lib.ListN.{length}
use borrow.Author.Tests.{le-leb, lt-leb}
use Rattle.tree.specs.Clash.{impossible}
use Rattle.tree.specs.Limits.{most_words}
use Rattle.tree.specs.Kind.{Kind}
use Rattle.tree.specs.Check.{one_tree, Checked, run, within, check}
use Rattle.tree.specs.Notes.{kind_notes}
use Rattle.tree.specs.Tally.{marked, tally, counts}
use Rattle.tree.specs.declared.CheckError.TheVariants.{TooManyWords}
use Rattle.tree.proofs.count.Goals as goal

-- a table that is walked
module _ (ks : List Kind) (words : List ℕ) (len : ℕ) (before kinds : List ℕ) {r : Checked} {after later : List ℕ} where
  walked : length words ≤ most_words
      → (r ≡ run (within len) ks 0 words) × (after ≡ tally (within len) (marked ks none) 0 words before) × (r ≡ one_tree → later ≡ kind_notes (within len) ks 0 words kinds)
      → (r ≡ check ks words len) × (after ≡ counts ks words len before) × (r ≡ one_tree → later ≡ kind_notes (within len) ks 0 words kinds)
  walked h e = (e.0 ∙ sym (simp (le-leb (length words) most_words h)), e.1 ∙ sym (simp (le-leb (length words) most_words h)), e.2)

-- a table that is too long
unwalked : (ks : List Kind) (words : List ℕ) (len : ℕ) (before kinds : List ℕ) → most_words < length words
    → (Err TooManyWords ≡ check ks words len) × (before ≡ counts ks words len before) × (Err TooManyWords ≡ one_tree → kinds ≡ kind_notes (within len) ks 0 words kinds)
unwalked ks words len before kinds h = (sym (simp (lt-leb (length words) most_words h)), sym (simp (lt-leb (length words) most_words h)), λ e. impossible cc)

pub returns-then-size-lt-SMALL : goal.returns-then-size-lt-SMALL
returns-then-size-lt-SMALL c = walked _ _ _ _ _ (omega arith) c.walk_small.ensures

pub returns-then-size-lt-MEDIUM : goal.returns-then-size-lt-MEDIUM
returns-then-size-lt-MEDIUM c = walked _ _ _ _ _ (omega arith) c.walk_medium.ensures

pub returns-then-size-le-MOST_WORDS : goal.returns-then-size-le-MOST_WORDS
returns-then-size-le-MOST_WORDS c = walked _ _ _ _ _ (omega arith) c.walk_large.ensures

pub returns-else-size-le-MOST_WORDS : goal.returns-else-size-le-MOST_WORDS
returns-else-size-le-MOST_WORDS c = unwalked _ c.args.table.now.words.now _ _ _ (omega arith)
