-- The loop of `many`: where a turn begins.
use Rattle.std.proofs.Common.{ℕ, zero, suc, ◌+◌, ◌≤◌, ◌≡◌, ◌∙◌, refl, sym, ap, subst, List, [], ◌∷◌, length, arith}
use mathlib.Core.Path.{fun_ext}
use Rattle.lexing.specs.Answer.{Answer, ok, refused}
use Rattle.tree.specs.Tags.{more, no_more}
use Rattle.grammar.specs.Steps.{after, mapped}
use Rattle.grammar.specs.StepLaws.{mapped-same}
use Rattle.grammar.specs.Statements.{rep}
use Rattle.parsing.specs.Arena.{Run, Holds}
use Rattle.parsing.specs.Contract.{Rule, Spare, Read, Pushed, Closes}
use Rattle.parsing.specs.Code.{turns}
use Rattle.parsing.specs.Statements.{Nothing, Spared, RepeatedOf, RepetitionOf, repeated, repeated_words, repetition_words, repeated_rule}
use Rattle.parsing.specs.declared.arena.Node.TheVariants.{Item}
use Rattle.parsing.specs.declared.parser.Parser.{Parser}
use Rattle.parsing.specs.declared.stmt.Repeated.{Repeated}
use Rattle.parsing.specs.declared.stmt.Repeated.TheVariants.{Stmts as Statements, Nested, Branches, Cases as CaseItems, Requires, Ensures, Invariants, Whens}
use Rattle.parsing.proofs.Laws.{after-ok, after-none, after-refused}
use Rattle.parsing.proofs.Places.{Place, said, begin_with, itemed, again, later-next}
use Rattle.parsing.proofs.StatementPlaces.{stayed, left-after}

-- the words of no items, and of an item before others
nil-words : (k : Repeated) (r : List ℕ) → repetition_words k (repeated k).nil r ≡ no_more ∷ r
nil-words Statements r = refl
nil-words Nested r = refl
nil-words Branches r = refl
nil-words CaseItems r = refl
nil-words Requires r = refl
nil-words Ensures r = refl
nil-words Invariants r = refl
nil-words Whens r = refl

cons-words : (k : Repeated) (a : RepeatedOf k) (l : RepetitionOf k) (r : List ℕ)
    → repetition_words k ((repeated k).cons a l) r ≡ more ∷ repeated_words k a (repetition_words k l r)
cons-words Statements a l r = refl
cons-words Nested a l r = refl
cons-words Branches a l r = refl
cons-words CaseItems a l r = refl
cons-words Requires a l r = refl
cons-words Ensures a l r = refl
cons-words Invariants a l r = refl
cons-words Whens a l r = refl

-- the items of a kind, until one keeps nothing
abbrev pub repetition_rule : (k : Repeated) → ℕ → Rule (RepetitionOf k)
repetition_rule k depth text = rep (repeated k) (turns text) (repeated_rule k depth text)

-- the items and the end
abbrev whole : (k : Repeated) (depth : ℕ) → Parser → Answer (RepetitionOf k)
whole k depth p = rep (repeated k) (turns p.text.now) (repeated_rule k depth p.text.now) p.at

-- items were read to where the parser stands; `list` stands for them, and as many turns are left as bytes at least
pub record Gathered (k : Repeated) (depth : ℕ) (p q : Parser) (list : ℕ) : Type 0 where
  pub run : Run
  pub join : RepetitionOf k → RepetitionOf k
  pub joins : (l : RepetitionOf k) (r : List ℕ) → repetition_words k (join l) r ≡ run (repetition_words k l r)
  pub left : ℕ
  pub enough : length p.text.now ≤ q.at + left
  pub place : Place (whole k depth p) 1 p q q.at 0 1 (mapped join (rep (repeated k) (suc left) (repeated_rule k depth p.text.now) q.at)) ((list, run) ∷ [])

-- none yet
pub gathered-none : (k : Repeated) (depth : ℕ) {p : Parser} → Spare p 1 → Gathered k depth p p 0
gathered-none k depth {p} r =
    record {
      run = λ r. r;
      join = λ l. l;
      joins = λ l r. refl;
      left = length p.text.now;
      enough = omega arith;
      place =
          let l : Place (whole k depth p) 1 p p p.at 0 1 (whole k depth p) [] = begin_with r in
          record {
            says = sym (mapped-same (whole k depth p));
            here = l.here;
            later = l.later;
            forward = l.forward;
            within = l.within;
            stands = (record { holds = Holds.empty p.empty_run; below = omega (arith, p.above) }, tt);
          };
    }

mapped-mapped : {A B C : Type 0} (f : B → C) (g : A → B) (r : Answer A) → mapped f (mapped g r) ≡ mapped (λ a. f (g a)) r
unfolding after
mapped-mapped f g (ok a next) = refl
mapped-mapped f g Answer.none = refl
mapped-mapped f g (refused number place) = refl

module _ (k : Repeated) (depth : ℕ) {p q : Parser} {list : ℕ} (g : Gathered k depth p q list) where
  -- a turn, by its item
  turn-ok : {a : RepeatedOf k} {next : ℕ} → repeated_rule k depth p.text.now q.at ≡ ok a next
      → mapped g.join (rep (repeated k) (suc g.left) (repeated_rule k depth p.text.now) q.at)
      ≡ mapped (λ l. g.join ((repeated k).cons a l)) (rep (repeated k) g.left (repeated_rule k depth p.text.now) next)
  unfolding rep
  turn-ok e = ap (mapped g.join) (after-ok _ _ _ e) ∙ mapped-mapped _ _ _

  turn-none : repeated_rule k depth p.text.now q.at ≡ Answer.none
      → mapped g.join (rep (repeated k) (suc g.left) (repeated_rule k depth p.text.now) q.at) ≡ ok (g.join (repeated k).nil) q.at
  unfolding rep
  turn-none e = ap (mapped g.join) (after-none _ _ _ e) ∙ after-ok _ _ _ refl

  turn-refused : {number place : ℕ} → repeated_rule k depth p.text.now q.at ≡ refused number place
      → mapped g.join (rep (repeated k) (suc g.left) (repeated_rule k depth p.text.now) q.at) ≡ refused number place
  unfolding rep
  turn-refused e = ap (mapped g.join) (after-refused _ _ _ e) ∙ after-refused _ _ _ refl

  -- an item was read, and its node made
  pub gathered-next : {s t : Parser} {item n : ℕ} → Spared (repeated_words k) (repeated_rule k depth) q s item → Pushed (Item list item) s t n
      → Gathered k depth p t n
  gathered-next {s} {t} {item} {n} r m = by-left g.left refl
    where
      a : RepeatedOf k
      a = r.read.value

      says : repeated_rule k depth p.text.now q.at ≡ ok a s.at
      says = rw (← g.place.later.text_same) r.read.says

      next : Place (whole k depth p) 1 p t s.at 2 1 (mapped (λ l. g.join ((repeated k).cons a l)) (rep (repeated k) g.left (repeated_rule k depth p.text.now) s.at))
          ((n, λ x. g.run (more ∷ repeated_words k a x)) ∷ (item, repeated_words k a) ∷ (list, g.run) ∷ [])
      next = itemed m (left-after _ r g.place (turn-ok says)) refl

      by-left : (l : ℕ) → g.left ≡ l → Gathered k depth p t n
      by-left zero e = absurd (omega (arith, g.enough, r.read.went.onward, s.inside, ap length r.read.went.later.text_same, ap length g.place.later.text_same))
      by-left (suc l) e =
          record {
            run = λ x. g.run (more ∷ repeated_words k a x);
            join = λ l. g.join ((repeated k).cons a l);
            joins = λ l x. g.joins ((repeated k).cons a l) x ∙ ap g.run (cons-words k a l x);
            left = l;
            enough = omega (arith, g.enough, r.read.went.onward, m.made.at_same);
            place = again (λ at. mapped (λ l. g.join ((repeated k).cons a l)) (rep (repeated k) (suc l) (repeated_rule k depth p.text.now) at)) 0 1 (rw e at next) refl refl;
          }

  -- no item follows, and the list was closed
  pub gathered-all : {s t : Parser} {n : ℕ} → Nothing (repeated_rule k depth) q s → Closes list s t n
      → Read (repetition_words k) (λ text. rep (repeated k) (turns text) (repeated_rule k depth text)) 0 1 p t n
  gathered-all {s} {t} {n} r m =
      let says : repeated_rule k depth p.text.now q.at ≡ Answer.none = rw (← g.place.later.text_same) r.says in
      let l = stayed r.stayed (said (turn-none says) g.place) in
      let e : (λ x. g.run (no_more ∷ x)) ≡ repetition_words k (g.join (repeated k).nil) = fun_ext (λ x. ap g.run (sym (nil-words k x)) ∙ sym (g.joins (repeated k).nil x)) in
      record {
        value = g.join (repeated k).nil;
        says = l.says ∙ ap (ok (g.join (repeated k).nil)) (sym (m.at_same ∙ l.here));
        holds = subst (Holds t.arena.now n) e (m.holds l.stands.0);
        below = m.below;
        went = record {
          later = later-next l.later m.later;
          onward = omega (arith, l.forward, l.here, m.at_same);
          paid = omega (arith, l.within, l.here, m.at_same, m.grows);
        };
      }

  -- the next item is refused
  pub gathered-refused : {number place : ℕ} → repeated_rule k depth q.text.now q.at ≡ refused number place → whole k depth p ≡ refused number place
  gathered-refused {number} {place} e =
      let says : repeated_rule k depth p.text.now q.at ≡ refused number place = rw (← g.place.later.text_same) e in
      g.place.says ∙ turn-refused says
