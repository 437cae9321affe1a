-- The rows and the stack of the check's code. Only contracts of private functions cite this file.
use Rattle.std.specs.Prelude.{ℕ, Bool, ◌+◌, ◌<◌, ◌≤◌, ◌≡◌, cond, List, [], ◌∷◌, ◌++◌, length, map, drop, leb, Result, Ok, Err, Option, Some, None}
use Rattle.std.proofs.Math.Option.{Option as Maybe, none, some}
use denote.Ref.{Bor}
use Rattle.tree.specs.Kind.{Kind, bool, operator, mode, natural, low, name, length_from, expr, stmt, aexpr, option, seq, fields, contents, Turn, fits, misfit, by_row, turn}
use Rattle.tree.specs.KindNumbers.{kind_number}
use Rattle.tree.specs.KindCodes.{as_kind}
use Rattle.tree.specs.Check.{run, within}
use Rattle.tree.specs.Tally.{Mark, Expected, mark_at, more, marked, noted, tally}
use Rattle.tree.specs.Notes.{note_kind, kind_notes}
use Rattle.tree.specs.declared.kind.Kind.{Kind as KindCode}
use Rattle.tree.specs.declared.frames.Mark.{Mark as MarkCode}
use Rattle.tree.specs.declared.frames.Frame.{Frame}
use Rattle.tree.specs.declared.walk.Step.{Step}
use Rattle.tree.specs.declared.CheckError.{CheckError}
use Rattle.tree.specs.declared.stack.Stack.{Stack}
use Rattle.tree.specs.Stack.{items, Pushed}

-- the fields of a word where that kind is expected, none where it misfits
abbrev pub word_fields : Kind → ℕ → List Kind
word_fields k w = elim (by_row k w) [ fits fs ↦ fs | misfit back ↦ [] ]

-- what stands after a 1 in an option or a sequence
abbrev pub content_fields : Kind → List Kind
content_fields bool = []
content_fields operator = []
content_fields mode = []
content_fields natural = []
content_fields low = []
content_fields name = []
content_fields (length_from s) = []
content_fields expr = []
content_fields stmt = []
content_fields aexpr = []
content_fields (option c) = contents c
content_fields (seq i) = fields i ++ (seq i ∷ [])

-- a kind of one word, or one that a word begins; of the code's kinds all but `name` and `natural`
abbrev pub OneWord : Kind → Type 0
OneWord k = (inside : ℕ → ℕ → Bool) (w : ℕ) → turn inside k w ≡ by_row k w

-- what the code's answer says of a word
abbrev pub as_turn : Option (Bor (List KindCode)) → Turn
as_turn (Some r) = fits (map as_kind r.now)
as_turn None = misfit 0

-- ---- the frames of the walk's stack

-- the mark that is meant
abbrev pub as_mark : Option MarkCode → Maybe Mark
as_mark None = none
as_mark (Some m) = some (record { start = m.start; passed = m.passed })

-- how many items it says are passed
abbrev pub passed_of : Option MarkCode → ℕ
passed_of None = 0
passed_of (Some m) = m.passed

-- what a frame expects: its kinds, the last with its mark
abbrev pub expected_of : Frame → List Expected
expected_of f = marked (map as_kind f.kinds.now) (as_mark f.mark)

-- its first kind, where there is one, and what it expects after that
abbrev pub Splits : Frame → Option (KindCode × Frame) → Type 0
Splits f None = f.kinds.now ≡ []
Splits f (Some s) = (f.kinds.now ≡ s.0 ∷ s.1.kinds.now) × (s.1.mark ≡ f.mark)

-- the mark of the kind before what a frame expects, which is the frame's where no other follows
abbrev pub own_mark : Frame → Maybe Mark
own_mark rest = cond (leb (length rest.kinds.now) 0) (as_mark rest.mark) none

-- that mark at a place, of which no more is passed than of the frame's
pub record MarkIs (rest : Frame) (k : KindCode) (at : ℕ) (r : Option MarkCode) : Type 0 where
  pub is : as_mark r ≡ mark_at (as_kind k) (own_mark rest) at
  pub small : passed_of r ≤ passed_of rest.mark

-- one item more
pub record MoreIs (m r : Option MarkCode) : Type 0 where
  pub is : as_mark r ≡ more (as_mark m)
  pub small : passed_of r ≤ passed_of m + 1

-- a frame is added to the stack, unless it expects nothing
pub record Adds (f : Frame) (s s' : Stack Frame) : Type 0 where
  pub none : f.kinds.now ≡ [] → (items s' ≡ items s) × (s'.free ≡ s.free)
  pub some : (f.kinds.now ≡ [] → ⊥) → Pushed f s s'

-- a word's fields are expected first, with the rest on the stack; the rest, where there are none
pub record Enters (fields rest : Frame) (s : Stack Frame) (top : Frame) (s' : Stack Frame) : Type 0 where
  pub none : fields.kinds.now ≡ [] → (top ≡ rest) × (items s' ≡ items s) × (s'.free ≡ s.free)
  pub some : (fields.kinds.now ≡ [] → ⊥) → (top ≡ fields) × Adds rest s s'

-- ---- a step of the walk

-- the words from a place on fit the kind k: the check, and the count of items, go on behind them where the kinds of the fields are expected
pub record Went (words : List ℕ) (len at : ℕ) (k : Kind) (next : ℕ) (fs : List Kind) : Type 0 where
  pub forward : at < next
  pub inside : next ≤ length words
  pub goes : (ks : List Kind) → run (within len) (k ∷ ks) at (drop at words) ≡ run (within len) (fs ++ ks) next (drop next words)
  pub counts : (m : Maybe Mark) (es : List Expected) (c : List ℕ) → tally (within len) (record { kind = k; mark = m } ∷ es) at (drop at words) c
      ≡ tally (within len) (marked fs (more (mark_at k m at)) ++ es) next (drop next words) (noted fs (mark_at k m at) c)
  pub kinds : (ks : List Kind) (n : List ℕ) → kind_notes (within len) (k ∷ ks) at (drop at words) n
      ≡ kind_notes (within len) (fs ++ ks) next (drop next words) (note_kind at next (kind_number k) n)

-- they misfit: the check ends with that error, and nothing more is noted
pub record Stopped (words : List ℕ) (len at : ℕ) (k : Kind) (e : CheckError) : Type 0 where
  pub stops : (ks : List Kind) → run (within len) (k ∷ ks) at (drop at words) ≡ Err e
  pub keeps : (m : Maybe Mark) (es : List Expected) (c : List ℕ) → tally (within len) (record { kind = k; mark = m } ∷ es) at (drop at words) c ≡ c

-- what a step says of the words from a place on where the kind k is expected
abbrev pub Stepped : List ℕ → ℕ → ℕ → Kind → Result Step CheckError → Type 0
Stepped words len at k (Ok s) = Went words len at k s.next (map as_kind s.fields.now)
Stepped words len at k (Err e) = Stopped words len at k e

-- what a walk finds where kinds are expected at the table's start, how it leaves the numbers of items, and, where the words are one tree, the kinds
abbrev pub Walked : List ℕ → ℕ → List Kind → Result (Unit {0}) CheckError → List ℕ → List ℕ → List ℕ → List ℕ → Type 0
Walked words len ks r counts counts' kinds kinds' =
    (r ≡ run (within len) ks 0 words) × (counts' ≡ tally (within len) (marked ks none) 0 words counts)
    × (r ≡ Ok tt → kinds' ≡ kind_notes (within len) ks 0 words kinds)
