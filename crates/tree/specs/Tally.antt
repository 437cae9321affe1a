-- How many items each sequence of a table has, found in the check's one pass over the words: at the place where a sequence starts, its
-- number of items is noted when its end is met. So what a tree's print depends on stands in a list with a place for each word.
use Rattle.std.specs.Prelude.{ℕ, suc, ◌+◌, Bool, true, false, cond, List, [], ◌∷◌, ◌++◌, length, set, leb}
use Rattle.std.proofs.Math.Option.{Option, none, some}
use Rattle.tree.specs.Limits.{most_words}
use Rattle.tree.specs.Kind.{Kind, bool, operator, mode, natural, low, name, length_from, expr, stmt, aexpr, option, seq, program_fields, fits, misfit, turn}
use Rattle.tree.specs.Check.{within}

-- where a sequence started, and how many of its items are passed
pub record Mark : Type 0 where
  pub start : ℕ
  pub passed : ℕ

-- what is expected at a word: a kind, with a mark where it is the rest of a sequence of which items are passed
pub record Expected : Type 0 where
  pub kind : Kind
  pub mark : Option Mark

-- whether a kind is a sequence
abbrev pub sequence : Kind → Bool
sequence bool = false
sequence operator = false
sequence mode = false
sequence natural = false
sequence low = false
sequence name = false
sequence (length_from s) = false
sequence expr = false
sequence stmt = false
sequence aexpr = false
sequence (option c) = false
sequence (seq i) = true

-- the mark of a sequence at a place: one that has none starts there
abbrev pub opened : Option Mark → ℕ → Mark
opened none at = record { start = at; passed = 0 }
opened (some m) at = m

-- the mark of what is expected at a place; only sequences have one
abbrev pub mark_at : Kind → Option Mark → ℕ → Option Mark
mark_at k m at = cond (sequence k) (some (opened m at)) none

-- one item more is passed
abbrev pub more : Option Mark → Option Mark
more none = none
more (some m) = some (record { start = m.start; passed = m.passed + 1 })

-- kinds of which the last has the mark: a sequence stands last in its own row
abbrev pub marked : List Kind → Option Mark → List Expected
marked [] m = []
marked (k ∷ []) m = record { kind = k; mark = m } ∷ []
marked (k ∷ l ∷ ks) m = record { kind = k; mark = none } ∷ marked (l ∷ ks) m

-- the number of a sequence that ends, at the place where it started; it ends where no kinds follow its word
abbrev pub noted : List Kind → Option Mark → List ℕ → List ℕ
noted [] none counts = counts
noted [] (some m) counts = set counts m.start m.passed
noted (k ∷ ks) m counts = counts

-- The numbers after the words from the place `at` on are passed, as far as the check goes; `run` goes the same way.
unfoldable pub tally : (ℕ → ℕ → Bool) → List Expected → ℕ → List ℕ → List ℕ → List ℕ
tally inside [] at [] counts = counts
tally inside (e ∷ es) at [] counts = counts
tally inside [] at (w ∷ ws) counts = counts
tally inside (e ∷ es) at (w ∷ ws) counts =
    elim (turn inside e.kind w) [
      | fits fs ↦
          tally inside (marked fs (more (mark_at e.kind e.mark at)) ++ es) (suc at) ws
          (noted fs (mark_at e.kind e.mark at) counts)
      | misfit back ↦ counts
    ]

-- the numbers of a table of these kinds; of one that is too long nothing is noted
abbrev pub counts : List Kind → List ℕ → ℕ → List ℕ → List ℕ
counts ks words len before = cond (leb (length words) most_words) (tally (within len) (marked ks none) 0 words before) before

-- the numbers of a table of an expression, and of a program, over a text of that length
unfoldable pub expression_counts : List ℕ → ℕ → List ℕ → List ℕ
expression_counts words len before = counts (expr ∷ []) words len before

unfoldable pub program_counts : List ℕ → ℕ → List ℕ → List ℕ
program_counts words len before = counts program_fields words len before
