-- Places of a method: what is known there of the rule's answer, of the parser, and of the nodes made on the way. A place is the one before it
-- and one step.
use Rattle.std.proofs.Common.{ℕ, ◌+◌, ◌*◌, ◌-◌, ◌≤◌, ◌<◌, ◌≡◌, ◌∙◌, refl, sym, ap, subst, List, [], ◌∷◌, length, get_or, Bool, true, false, leb, Option, Some, None, Result, Ok, Err, arith}
use borrow.Author.Tests.{leb-true}
use mathlib.Core.HLevel.{is_prop→PathP}
use mathlib.Core.Sum.{⊎_set}
use Rattle.std.proofs.Math.Bridge.{le_prop}
use Rattle.std.proofs.Math.Nat.{ℕ_set}
use Rattle.lexing.specs.Answer.{Answer, ok, refused}
use Rattle.tree.specs.Ast.{Span, Expr}
use Rattle.tree.specs.Clash.{impossible}
use Rattle.tree.specs.Codes.{operator_code}
use Rattle.tree.specs.Words.{bool_word}
use Rattle.tree.specs.declared.word.Operator.{Operator}
use Rattle.tree.specs.Limits.{most_text}
use Rattle.tree.specs.Tags.{more, no_more, operator_expr_tag, id_expr_tag}
use Rattle.grammar.specs.Steps.{after, need, must, mapped}
use Rattle.lexing.specs.CodeAnswers.{number}
use Rattle.parsing.specs.Arena.{Run, Holds, Kept, most_arena, outside}
use Rattle.parsing.specs.Contract.{Rule, needed, Later, Went, Spare, Read, Reads, Reads_if, Took, Takes_if, Named, Missing, span, Standing, Made, Pushed, Four, Chosen, Closes}
use Rattle.grammar.specs.Grammar.{build}
use Rattle.grammar.specs.Reading.{tree_words}
use Rattle.parsing.specs.Signs.{Operated, build_of}
use Rattle.parsing.specs.Code.{Combined}
use Rattle.parsing.specs.declared.sign.Sign.{Sign}
use Rattle.parsing.specs.declared.arena.Node.{Node}
use Rattle.parsing.specs.declared.arena.Node.TheVariants.{Empty, One, Two, Three, Ident, Unary, Binary, Item, Pair, Closed, Headed}
use Rattle.parsing.specs.declared.parser.Name.{Name}
use Rattle.lexing.specs.declared.refusal.Refusal.{Refusal}
use Rattle.parsing.specs.declared.parser.Parser.{Parser}
use Rattle.parsing.proofs.Laws.{need-ok, need-refused, must-mapped-ok, must-mapped-refused, after-ok, after-none, after-refused}

-- ---- the arena

pub kept_trans : {arena later last : List Node} {top n : ℕ} → top ≤ n → Kept arena later top → Kept later last n → Kept arena last top
kept_trans l p q = record { length-kept = q.length-kept ∙ p.length-kept; below = λ i h. q.below i (omega arith) ∙ p.below i h }

pub later-next : {p q s : Parser} → Later p q → Later q s → Later p s
later-next a b =
    record {
      text_same = b.text_same ∙ a.text_same;
      lent_same = b.lent_same ∙ a.lent_same;
      kept = kept_trans a.grows a.kept b.kept;
      grows = omega (arith, a.grows, b.grows);
    }

pub later-same : {p : Parser} → Later p p
later-same = record { text_same = refl; lent_same = refl; kept = record { length-kept = refl; below = λ i h. refl }; grows = omega arith }

module _ {arena later : List Node} {top : ℕ} (k : Kept arena later top) where
  pub holds_kept : {n : ℕ} {f : Run} → n < top → Holds arena n f → Holds later n f
  holds_kept l (Holds.empty e) = Holds.empty (k.below _ l ∙ e)
  holds_kept l (Holds.one e) = Holds.one (k.below _ l ∙ e)
  holds_kept l (Holds.two e) = Holds.two (k.below _ l ∙ e)
  holds_kept l (Holds.three e) = Holds.three (k.below _ l ∙ e)
  holds_kept l (Holds.ident e) = Holds.ident (k.below _ l ∙ e)
  holds_kept l (Holds.unary e a h) = Holds.unary (k.below _ l ∙ e) a (holds_kept (omega arith) h)
  holds_kept l (Holds.binary e a b h i) = Holds.binary (k.below _ l ∙ e) a b (holds_kept (omega arith) h) (holds_kept (omega arith) i)
  holds_kept l (Holds.item e a b h i) = Holds.item (k.below _ l ∙ e) a b (holds_kept (omega arith) h) (holds_kept (omega arith) i)
  holds_kept l (Holds.pair e a b h i) = Holds.pair (k.below _ l ∙ e) a b (holds_kept (omega arith) h) (holds_kept (omega arith) i)
  holds_kept l (Holds.closed e a h) = Holds.closed (k.below _ l ∙ e) a (holds_kept (omega arith) h)
  holds_kept l (Holds.headed e a h) = Holds.headed (k.below _ l ∙ e) a (holds_kept (omega arith) h)

-- a node that stands
pub standing-on : {q s : Parser} {n : ℕ} {f : Run} → Later q s → Standing q n f → Standing s n f
standing-on l x = record { holds = holds_kept l.kept x.below x.holds; below = omega (arith, x.below, l.grows) }

abbrev pub Stand : Parser → List (ℕ × Run) → Type 0
Stand p [] = Unit {0}
Stand p ((n, f) ∷ ns) = Standing p n f × Stand p ns

pub stand-on : {p q : Parser} → Later p q → (ns : List (ℕ × Run)) → Stand p ns → Stand q ns
stand-on l [] s = tt
stand-on l ((n, f) ∷ ns) (s, ss) = (standing-on l s, stand-on l ns ss)

-- the place may go back
pub later-back : {p q s : Parser} → Later p q → s.text ≡ q.text → s.arena ≡ q.arena → s.top ≡ q.top → Later p s
later-back l t a n = record { text_same = rw t l.text_same; lent_same = rw a l.lent_same; kept = rw a l.kept; grows = omega (arith, l.grows) }

-- ---- the parser

-- parsers with the same fields are the same
pub parser-same : {p q : Parser} → q.text ≡ p.text → q.arena ≡ p.arena → q.at ≡ p.at → q.top ≡ p.top → q ≡ p
parser-same {p} {q} t a h n =
    λ i. record {
      text = t i;
      arena = a i;
      at = h i;
      top = n i;
      short = is_prop→PathP (λ i. length (t i).now ≤ most_text) (λ i. le_prop) q.short p.short i;
      small = is_prop→PathP (λ i. length (a i).now ≤ most_arena) (λ i. le_prop) q.small p.small i;
      inside = is_prop→PathP (λ i. h i ≤ length (t i).now) (λ i. le_prop) q.inside p.inside i;
      above = is_prop→PathP (λ i. 2 ≤ n i) (λ i. le_prop) q.above p.above i;
      room = is_prop→PathP (λ i. n i + 2 * length (t i).now ≤ length (a i).now + 2 * h i) (λ i. le_prop) q.room p.room i;
      empty_run = is_prop→PathP (λ i. get_or (a i).now 0 outside ≡ Empty) (λ i. hlevel (ℕ_set, ⊎_set)) q.empty_run p.empty_run i;
      end_run = is_prop→PathP (λ i. get_or (a i).now 1 outside ≡ One no_more) (λ i. hlevel (ℕ_set, ⊎_set)) q.end_run p.end_run i;
    }

-- room for no nodes more
pub no_credit : {p : Parser} → Spare p 0
no_credit {p} = record { room = omega (arith, p.room) }

-- from p to q, with `lent` nodes more than two for each byte: the place `at` was come to, at least `bytes` bytes were kept, `spare` nodes are
-- free beyond two for each byte; `rest` is what is left of the answer; the last node made is the first
pub record Place {A : Type 0} (answer : Answer A) (lent : ℕ) (p q : Parser) (at bytes spare : ℕ) (rest : Answer A) (made : List (ℕ × Run)) : Type 0 where
  pub says : answer ≡ rest
  pub here : q.at ≡ at
  pub later : Later p q
  pub forward : p.at + bytes ≤ at
  pub within : q.top + spare + 2 * p.at ≤ p.top + lent + 2 * at
  pub stands : Stand q made

module _ {A : Type 0} {answer : Answer A} where
  -- with room for `lent` nodes more, and for none
  pub begin_with : {lent : ℕ} {p : Parser} → Spare p lent → Place answer lent p p p.at 0 lent answer []
  begin_with r =
      record {
        says = refl;
        here = refl;
        later = later-same;
        forward = omega arith;
        within = omega arith;
        stands = tt;
      }

  pub begin : {p : Parser} → Place answer 0 p p p.at 0 0 answer []
  begin = begin_with no_credit

less : (k spare : ℕ) → leb k spare ≡ true → spare - k + k ≤ spare
less k spare c = let h = leb-true _ _ c in omega arith

module _ {A : Type 0} {answer : Answer A} {lent : ℕ} {p q : Parser} {at bytes spare : ℕ} where
  -- the rule of a step answers the same where it is read
  met : {B : Type 0} (rule : Rule B) {rest : Answer A} {made : List (ℕ × Run)} {r : Answer B} → Place answer lent p q at bytes spare rest made
      → rule q.text.now q.at ≡ r → rule p.text.now at ≡ r
  met rule l e = rw (← l.here, ← l.later.text_same) e

  -- a step that built a node, and one that passed a token
  built : {rest : Answer A} {made : List (ℕ × Run)} (next : Answer A) {least credit n : ℕ} {f : Run} {s : Parser} → rest ≡ next → Went least credit q s
      → Standing s n f → Place answer lent p q at bytes spare rest made → leb credit spare ≡ true
      → Place answer lent p s s.at (bytes + least) (spare - credit) next ((n, f) ∷ made)
  built {made = made} next e w x l c =
      let k = leb-true _ _ c in
      record {
        says = l.says ∙ e;
        here = refl;
        later = later-next l.later w.later;
        forward = omega (arith, l.forward, l.here, w.onward);
        within = omega (arith, l.within, l.here, w.paid);
        stands = (x, stand-on w.later made l.stands);
      }

  kept_on : {rest : Answer A} {made : List (ℕ × Run)} (next : Answer A) {least : ℕ} {s : Parser} → rest ≡ next → Went least 0 q s → s.top ≡ q.top
      → Place answer lent p q at bytes spare rest made → Place answer lent p s s.at (bytes + least) (spare + 2 * least) next made
  kept_on {made = made} next e w t l =
      record {
        says = l.says ∙ e;
        here = refl;
        later = later-next l.later w.later;
        forward = omega (arith, l.forward, l.here, w.onward);
        within = omega (arith, l.within, l.here, w.onward);
        stands = stand-on w.later made l.stands;
      }

  -- ---- steps that must follow
  pub read : {B : Type 0} {words : B → Run} (rule : Rule B) (go : B → ℕ → Answer A) {least credit n : ℕ} {s : Parser} {made : List (ℕ × Run)}
      (r : Read words (needed rule) least credit q s n) → Place answer lent p q at bytes spare (need at (rule p.text.now at) go) made
      → leb credit spare ≡ true
      → Place answer lent p s s.at (bytes + least) (spare - credit) (go r.value s.at) ((n, words r.value) ∷ made)
  read rule go r l c =
      built (go r.value _) (need-ok at (rule p.text.now at) go (met (needed rule) l r.says)) r.went (record { holds = r.holds; below = r.below }) l c

  pub took : (rule : Rule ℕ) (go : ℕ → ℕ → Answer A) {least : ℕ} {s : Parser} {made : List (ℕ × Run)}
      (r : Took (needed rule) least q s) → Place answer lent p q at bytes spare (need at (rule p.text.now at) go) made
      → Place answer lent p s s.at (bytes + least) (spare + 2 * least) (go r.value s.at) made
  took rule go r l = kept_on (go r.value _) (need-ok at (rule p.text.now at) go (met (needed rule) l r.says)) r.went r.top_same l

  pub named : (rule : Rule Span) (go : Span → ℕ → Answer A) {n : Name} {s : Parser} {made : List (ℕ × Run)}
      (r : Named (needed rule) q s n) → Place answer lent p q at bytes spare (need at (rule p.text.now at) go) made
      → Place answer lent p s s.at (bytes + 1) (spare + 2) (go (span n) s.at) made
  named rule go {n} r l = kept_on (go (span n) _) (need-ok at (rule p.text.now at) go (met (needed rule) l r.says)) r.went r.top_same l

  -- ---- the same, mapped
  pub read_mapped : {B : Type 0} {words : B → Run} (rule : Rule B) (f : B → A) {least credit n : ℕ} {s : Parser} {made : List (ℕ × Run)}
      (r : Read words (needed rule) least credit q s n) → Place answer lent p q at bytes spare (must at (mapped f (rule p.text.now at))) made
      → leb credit spare ≡ true
      → Place answer lent p s s.at (bytes + least) (spare - credit) (ok (f r.value) s.at) ((n, words r.value) ∷ made)
  read_mapped rule f r l c =
      built (ok (f r.value) _) (must-mapped-ok at (rule p.text.now at) f (met (needed rule) l r.says)) r.went (record { holds = r.holds; below = r.below }) l c

  pub named_mapped : (rule : Rule Span) (f : Span → A) {n : Name} {s : Parser} {made : List (ℕ × Run)}
      (r : Named (needed rule) q s n) → Place answer lent p q at bytes spare (must at (mapped f (rule p.text.now at))) made
      → Place answer lent p s s.at (bytes + 1) (spare + 2) (ok (f (span n)) s.at) made
  named_mapped rule f {n} r l =
      kept_on (ok (f (span n)) _) (must-mapped-ok at (rule p.text.now at) f (met (needed rule) l r.says)) r.went r.top_same l

  -- ---- steps that may follow
  pub read_if : {B : Type 0} {words : B → Run} (rule : Rule B) (stop : Answer A) (go : B → ℕ → Answer A) {least credit n : ℕ} {s : Parser} {made : List (ℕ × Run)}
      (r : Read words rule least credit q s n) → Place answer lent p q at bytes spare (after (rule p.text.now at) stop go) made
      → leb credit spare ≡ true
      → Place answer lent p s s.at (bytes + least) (spare - credit) (go r.value s.at) ((n, words r.value) ∷ made)
  read_if rule stop go r l c =
      built (go r.value _) (after-ok (rule p.text.now at) stop go (met rule l r.says)) r.went (record { holds = r.holds; below = r.below }) l c

  pub taken : (rule : Rule ℕ) (stop : Answer A) (go : ℕ → ℕ → Answer A) {least : ℕ} {s : Parser} {made : List (ℕ × Run)}
      (r : Took rule least q s) → Place answer lent p q at bytes spare (after (rule p.text.now at) stop go) made
      → Place answer lent p s s.at (bytes + least) (spare + 2 * least) (go r.value s.at) made
  taken rule stop go r l = kept_on (go r.value _) (after-ok (rule p.text.now at) stop go (met rule l r.says)) r.went r.top_same l

  pub named_if : (rule : Rule Span) (stop : Answer A) (go : Span → ℕ → Answer A) {n : Name} {s : Parser} {made : List (ℕ × Run)}
      (r : Named rule q s n) → Place answer lent p q at bytes spare (after (rule p.text.now at) stop go) made
      → Place answer lent p s s.at (bytes + 1) (spare + 2) (go (span n) s.at) made
  named_if rule stop go {n} r l = kept_on (go (span n) _) (after-ok (rule p.text.now at) stop go (met rule l r.says)) r.went r.top_same l

  pub operated : {B C : Type 0} {of : C → B} (rule : Rule B) (stop : Answer A) (go : B → ℕ → Answer A) {c : C} {s : Parser} {made : List (ℕ × Run)}
      (r : Operated of rule q s c) → Place answer lent p q at bytes spare (after (rule p.text.now at) stop go) made
      → Place answer lent p s s.at (bytes + 1) (spare + 2) (go (of c) s.at) made
  operated {of = of} rule stop go {c} r l = kept_on (go (of c) _) (after-ok (rule p.text.now at) stop go (met rule l r.says)) r.went r.top_same l

  -- ---- the last step: what is left is its rule
  pub read_last : {words : A → Run} (rule : Rule A) {least credit n : ℕ} {s : Parser} {made : List (ℕ × Run)} (r : Read words rule least credit q s n)
      → Place answer lent p q at bytes spare (rule p.text.now at) made → leb credit spare ≡ true
      → Place answer lent p s s.at (bytes + least) (spare - credit) (ok r.value s.at) ((n, words r.value) ∷ made)
  read_last rule r l c = built (ok r.value _) (met rule l r.says) r.went (record { holds = r.holds; below = r.below }) l c

  -- ---- refusals on the way
  pub refused_at : {B : Type 0} (rule : Rule B) (go : B → ℕ → Answer A) {number place : ℕ} {made : List (ℕ × Run)}
      → Place answer lent p q at bytes spare (need at (rule p.text.now at) go) made → needed rule q.text.now q.at ≡ refused number place
      → answer ≡ refused number place
  refused_at rule go l e = l.says ∙ need-refused at (rule p.text.now at) go (met (needed rule) l e)

  pub refused_mapped : {B : Type 0} (rule : Rule B) (f : B → A) {number place : ℕ} {made : List (ℕ × Run)}
      → Place answer lent p q at bytes spare (must at (mapped f (rule p.text.now at))) made → needed rule q.text.now q.at ≡ refused number place
      → answer ≡ refused number place
  refused_mapped rule f l e = l.says ∙ must-mapped-refused at (rule p.text.now at) f (met (needed rule) l e)

  pub refused_last : (rule : Rule A) {number place : ℕ} {made : List (ℕ × Run)} → Place answer lent p q at bytes spare (rule p.text.now at) made
      → rule q.text.now q.at ≡ refused number place → answer ≡ refused number place
  refused_last rule l e = l.says ∙ met rule l e

  -- ---- steps that keep nothing

  -- the same place by another form of the rest, and with other nodes
  pub said : {rest other : Answer A} {made : List (ℕ × Run)} → rest ≡ other → Place answer lent p q at bytes spare rest made
      → Place answer lent p q at bytes spare other made
  said e l =
      record { says = l.says ∙ e; here = l.here; later = l.later; forward = l.forward; within = l.within; stands = l.stands }

  standing : {rest : Answer A} {made : List (ℕ × Run)} (others : List (ℕ × Run)) → Stand q others → Place answer lent p q at bytes spare rest made
      → Place answer lent p q at bytes spare rest others
  standing others x l =
      record { says = l.says; here = l.here; later = l.later; forward = l.forward; within = l.within; stands = x }

  -- a rule that may follow was not there
  pub skipped : {B : Type 0} (rule : Rule B) (stop : Answer A) (go : B → ℕ → Answer A) {s : Parser} {made : List (ℕ × Run)}
      → Missing rule q s → Place answer lent p q at bytes spare (after (rule p.text.now at) stop go) made
      → Place answer lent p s at bytes spare stop made
  skipped rule stop go r l = rw r.same (said (after-none (rule p.text.now at) stop go (met rule l r.says)) l)

  module _ {rest : Answer A} where
    pub standing-more : {n : ℕ} {f : Run} {made : List (ℕ × Run)} → Standing q n f → Place answer lent p q at bytes spare rest made
        → Place answer lent p q at bytes spare rest ((n, f) ∷ made)
    standing-more x l = standing _ (x, l.stands) l

    -- the empty run before the other nodes, and the end of a sequence without items
    pub with_empty : {made : List (ℕ × Run)} → Place answer lent p q at bytes spare rest made → Place answer lent p q at bytes spare rest ((0, λ r. r) ∷ made)
    with_empty l = standing-more (record { holds = Holds.empty q.empty_run; below = omega (arith, q.above) }) l

    pub with_end : {made : List (ℕ × Run)} → Place answer lent p q at bytes spare rest made
        → Place answer lent p q at bytes spare rest ((1, λ r. no_more ∷ r) ∷ made)
    with_end l = standing-more (record { holds = Holds.one q.end_run; below = omega (arith, q.above) }) l

    -- the first two in the other order, and all but the first
    pub turned : {n m : ℕ} {f g : Run} {made : List (ℕ × Run)} → Place answer lent p q at bytes spare rest ((n, f) ∷ (m, g) ∷ made)
        → Place answer lent p q at bytes spare rest ((m, g) ∷ (n, f) ∷ made)
    turned l = let (x, (y, more)) = l.stands in standing _ (y, (x, more)) l

    pub without : {n : ℕ} {f : Run} {made : List (ℕ × Run)} → Place answer lent p q at bytes spare rest ((n, f) ∷ made)
        → Place answer lent p q at bytes spare rest made
    without l = standing _ l.stands.1 l

    -- k nodes at most were made on the way from q to s
    over_nodes : (k left : ℕ) {n : ℕ} {f : Run} {s : Parser} {made : List (ℕ × Run)} → Later q s → s.at ≡ q.at → s.top ≤ q.top + k → Standing s n f
        → Place answer lent p q at bytes spare rest made → left + k ≤ spare → Place answer lent p s at bytes left rest ((n, f) ∷ made)
    over_nodes k left {made = made} m e t x l c =
        record {
          says = l.says;
          here = e ∙ l.here;
          later = later-next l.later m;
          forward = l.forward;
          within = omega (arith, l.within);
          stands = (x, stand-on m made l.stands);
        }

    -- the last of them stands for a run
    pub noted : {k n : ℕ} {f : Run} {s : Parser} {made : List (ℕ × Run)} → Made k q s n → Holds s.arena.now n f
        → Place answer lent p q at bytes spare rest made → leb k spare ≡ true → Place answer lent p s at bytes (spare - k) rest ((n, f) ∷ made)
    noted {k} m h l c =
        over_nodes k _ m.later m.at_same (omega (arith, m.top)) (record { holds = h; below = omega (arith, m.last) }) l (less k spare c)

    -- the end of the last node's sequence, which has items or none
    pub ended : {n a : ℕ} {f : Run} {s : Parser} {made : List (ℕ × Run)} → Closes a q s n → Place answer lent p q at bytes spare rest ((a, f) ∷ made)
        → leb 1 spare ≡ true → Place answer lent p s at bytes (spare - 1) rest ((n, λ r. f (no_more ∷ r)) ∷ (a, f) ∷ made)
    ended m l c = over_nodes 1 _ m.later m.at_same m.grows (record { holds = m.holds l.stands.0; below = m.below }) l (less 1 spare c)

    pub ended_empty : {n a : ℕ} {f : Run} {s : Parser} {made : List (ℕ × Run)} → Closes a q s n → a ≡ 0
        → Place answer lent p q at bytes spare rest ((a, f) ∷ made) → Place answer lent p s at bytes spare rest ((n, λ r. f (no_more ∷ r)) ∷ (a, f) ∷ made)
    ended_empty m e l =
        over_nodes 0 spare m.later m.at_same (omega (arith, m.stays e)) (record { holds = m.holds l.stands.0; below = m.below }) l (omega arith)

-- what is left is a name, and it was read
pub name_last : {answer : Answer Span} {lent : ℕ} {p q : Parser} {at bytes spare : ℕ} (rule : Rule Span) {n : Name} {s : Parser} {made : List (ℕ × Run)}
    → Named rule q s n → Place answer lent p q at bytes spare (rule p.text.now at) made
    → Place answer lent p s s.at (bytes + 1) (spare + 2) (ok (span n) s.at) made
name_last rule {n} r l = kept_on (ok (span n) _) (met rule l r.says) r.went r.top_same l

-- ---- the runs of nodes over nodes that stand
module _ {q s : Parser} {n : ℕ} where
  -- the last node made stands
  pub made-standing : {f : Run} {k : ℕ} → Made k q s n → Holds s.arena.now n f → Standing s n f
  made-standing m h = record { holds = h; below = omega (arith, m.last) }

  pub one-holds : {x : ℕ} → Pushed (One x) q s n → Holds s.arena.now n (λ r. x ∷ r)
  one-holds m = Holds.one m.here

  pub two-holds : {x y : ℕ} → Pushed (Two x y) q s n → Holds s.arena.now n (λ r. x ∷ y ∷ r)
  two-holds m = Holds.two m.here

  pub three-holds : {x y z : ℕ} → Pushed (Three x y z) q s n → Holds s.arena.now n (λ r. x ∷ y ∷ z ∷ r)
  three-holds m = Holds.three m.here

  pub ident-holds : {x y : ℕ} {z : Bool} → Pushed (Ident x y z) q s n → Holds s.arena.now n (λ r. id_expr_tag ∷ x ∷ y ∷ bool_word z ∷ r)
  ident-holds m = Holds.ident m.here

  pub unary-holds : {op : Operator} {a : ℕ} {f : Run} → Pushed (Unary op a) q s n → Standing q a f
      → Holds s.arena.now n (λ r. operator_expr_tag ∷ operator_code op ∷ more ∷ f (no_more ∷ r))
  unary-holds m x = Holds.unary m.here (omega (arith, x.below, m.made.last, m.made.top)) (holds_kept m.made.later.kept x.below x.holds)

  pub closed-holds : {a : ℕ} {f : Run} → Pushed (Closed a) q s n → Standing q a f → Holds s.arena.now n (λ r. f (no_more ∷ r))
  closed-holds m x = Holds.closed m.here (omega (arith, x.below, m.made.last, m.made.top)) (holds_kept m.made.later.kept x.below x.holds)

  pub headed-holds : {x a : ℕ} {f : Run} → Pushed (Headed x a) q s n → Standing q a f → Holds s.arena.now n (λ r. x ∷ f r)
  headed-holds m x = Holds.headed m.here (omega (arith, x.below, m.made.last, m.made.top)) (holds_kept m.made.later.kept x.below x.holds)

  module _ {a b : ℕ} {f g : Run} (x : Standing q a f) (y : Standing q b g) where
    pub pair-holds : Pushed (Pair a b) q s n → Holds s.arena.now n (λ r. f (g r))
    pair-holds m =
        let l = m.made.later in
        Holds.pair m.here (omega (arith, x.below, m.made.last, m.made.top)) (omega (arith, y.below, m.made.last, m.made.top)) (holds_kept l.kept x.below x.holds)
        (holds_kept l.kept y.below y.holds)

    pub item-holds : Pushed (Item a b) q s n → Holds s.arena.now n (λ r. f (more ∷ g r))
    item-holds m =
        let l = m.made.later in
        Holds.item m.here (omega (arith, x.below, m.made.last, m.made.top)) (omega (arith, y.below, m.made.last, m.made.top)) (holds_kept l.kept x.below x.holds)
        (holds_kept l.kept y.below y.holds)

    pub binary-holds : {op : Operator} → Pushed (Binary op a b) q s n
        → Holds s.arena.now n (λ r. operator_expr_tag ∷ operator_code op ∷ more ∷ f (more ∷ g (no_more ∷ r)))
    binary-holds m =
        let l = m.made.later in
        Holds.binary m.here (omega (arith, x.below, m.made.last, m.made.top)) (omega (arith, y.below, m.made.last, m.made.top)) (holds_kept l.kept x.below x.holds)
        (holds_kept l.kept y.below y.holds)

-- a sequence without items, with its end
pub empty-closed : {p : Parser} {n : ℕ} {f : Run} → n ≡ 0 → Standing p n f → Holds p.arena.now 1 (λ r. f (no_more ∷ r))
empty-closed {p = p} e x = by-node e x.holds
  where
    by-node : {n : ℕ} {f : Run} → n ≡ 0 → Holds p.arena.now n f → Holds p.arena.now 1 (λ r. f (no_more ∷ r))
    by-node e (Holds.empty h) = Holds.one p.end_run
    by-node e (Holds.one h) = let k = p.empty_run in impossible cc
    by-node e (Holds.two h) = let k = p.empty_run in impossible cc
    by-node e (Holds.three h) = let k = p.empty_run in impossible cc
    by-node e (Holds.ident h) = let k = p.empty_run in impossible cc
    by-node e (Holds.unary h l x) = absurd (omega arith)
    by-node e (Holds.binary h l m x y) = absurd (omega arith)
    by-node e (Holds.item h l m x y) = absurd (omega arith)
    by-node e (Holds.pair h l m x y) = absurd (omega arith)
    by-node e (Holds.closed h l x) = absurd (omega arith)
    by-node e (Holds.headed h l x) = absurd (omega arith)

-- IfThenElse: its word, three items, and the end
pub choice-holds : {p p₁ p₂ p₃ p₄ q : Parser} {i j k m n u v w : ℕ} {f g h : Run} → Pushed (Two operator_expr_tag 1) p p₁ i → Pushed (Item i u) p₁ p₂ j
    → Pushed (Item j v) p₂ p₃ k → Pushed (Item k w) p₃ p₄ m → Pushed (Closed m) p₄ q n → Standing p u f → Standing p v g → Standing p w h
    → Holds q.arena.now n (λ r. operator_expr_tag ∷ 1 ∷ more ∷ f (more ∷ g (more ∷ h (no_more ∷ r))))
choice-holds a b c d e x y z =
    let head = made-standing a.made (two-holds a) in
    let first = made-standing b.made (item-holds head (standing-on a.made.later x) b) in
    let l = later-next a.made.later b.made.later in
    let second = made-standing c.made (item-holds first (standing-on l y) c) in
    let third = made-standing d.made (item-holds second (standing-on (later-next l c.made.later) z) d) in
    closed-holds e third

-- four runs: two pairs, and a pair of them
pub four-holds : {p p₁ p₂ q : Parser} {i j n a b c d : ℕ} {f g h k : Run} → Pushed (Pair a b) p p₁ i → Pushed (Pair c d) p₁ p₂ j → Pushed (Pair i j) p₂ q n
    → Standing p a f → Standing p b g → Standing p c h → Standing p d k → Holds q.arena.now n (λ r. f (g (h (k r))))
four-holds l m o x y z w =
    let first = made-standing l.made (pair-holds x y l) in
    let second = made-standing m.made (pair-holds (standing-on l.made.later z) (standing-on l.made.later w) m) in
    pair-holds (standing-on m.made.later first) second o

-- ---- places after nodes that were made
module _ {A : Type 0} {answer : Answer A} {lent : ℕ} {p q : Parser} {at bytes spare n : ℕ} {s : Parser} {rest : Answer A} {made : List (ℕ × Run)} where
  pub one-made : {x : ℕ} → Pushed (One x) q s n → Place answer lent p q at bytes spare rest made → leb 1 spare ≡ true
      → Place answer lent p s at bytes (spare - 1) rest ((n, λ r. x ∷ r) ∷ made)
  one-made m l c = noted m.made (one-holds m) l c

  pub two-made : {x y : ℕ} → Pushed (Two x y) q s n → Place answer lent p q at bytes spare rest made → leb 1 spare ≡ true
      → Place answer lent p s at bytes (spare - 1) rest ((n, λ r. x ∷ y ∷ r) ∷ made)
  two-made m l c = noted m.made (two-holds m) l c

  pub three-made : {x y z : ℕ} → Pushed (Three x y z) q s n → Place answer lent p q at bytes spare rest made → leb 1 spare ≡ true
      → Place answer lent p s at bytes (spare - 1) rest ((n, λ r. x ∷ y ∷ z ∷ r) ∷ made)
  three-made m l c = noted m.made (three-holds m) l c

  pub ident-made : {x y : ℕ} {z : Bool} → Pushed (Ident x y z) q s n → Place answer lent p q at bytes spare rest made → leb 1 spare ≡ true
      → Place answer lent p s at bytes (spare - 1) rest ((n, λ r. id_expr_tag ∷ x ∷ y ∷ bool_word z ∷ r) ∷ made)
  ident-made m l c = noted m.made (ident-holds m) l c

  -- over the last node
  pub headed : {x a : ℕ} {f : Run} → Pushed (Headed x a) q s n → Place answer lent p q at bytes spare rest ((a, f) ∷ made) → leb 1 spare ≡ true
      → Place answer lent p s at bytes (spare - 1) rest ((n, λ r. x ∷ f r) ∷ (a, f) ∷ made)
  headed m l c = noted m.made (headed-holds m l.stands.0) l c

  -- over the last two, and a node over the last two in the other order
  pub paired : {a b : ℕ} {f g : Run} → Pushed (Pair a b) q s n → Place answer lent p q at bytes spare rest ((b, g) ∷ (a, f) ∷ made) → leb 1 spare ≡ true
      → Place answer lent p s at bytes (spare - 1) rest ((n, λ r. f (g r)) ∷ (b, g) ∷ (a, f) ∷ made)
  paired m l c = noted m.made (pair-holds l.stands.1.0 l.stands.0 m) l c

  pub itemed : {a b : ℕ} {f g : Run} → Pushed (Item a b) q s n → Place answer lent p q at bytes spare rest ((b, g) ∷ (a, f) ∷ made) → leb 1 spare ≡ true
      → Place answer lent p s at bytes (spare - 1) rest ((n, λ r. f (more ∷ g r)) ∷ (b, g) ∷ (a, f) ∷ made)
  itemed m l c = noted m.made (item-holds l.stands.1.0 l.stands.0 m) l c

  -- over the last three and four
  pub chosen : {x y z : ℕ} {f g h : Run} → Chosen x y z q s n → Place answer lent p q at bytes spare rest ((z, h) ∷ (y, g) ∷ (x, f) ∷ made)
      → leb 5 spare ≡ true
      → Place answer lent p s at bytes (spare - 5) rest ((n, λ r. operator_expr_tag ∷ 1 ∷ more ∷ f (more ∷ g (more ∷ h (no_more ∷ r)))) ∷ (z, h) ∷ (y, g) ∷ (x, f) ∷ made)
  chosen m l c = let (w, (v, (u, ns))) = l.stands in noted m.made (m.holds u v w) l c

  pub foured : {x y z w : ℕ} {f g h k : Run} → Four x y z w q s n
      → Place answer lent p q at bytes spare rest ((w, k) ∷ (z, h) ∷ (y, g) ∷ (x, f) ∷ made) → leb 3 spare ≡ true
      → Place answer lent p s at bytes (spare - 3) rest ((n, λ r. f (g (h (k r)))) ∷ (w, k) ∷ (z, h) ∷ (y, g) ∷ (x, f) ∷ made)
  foured m l c = let (d, (c', (b, (a, ns)))) = l.stands in noted m.made (m.holds a b c' d) l c

  -- an operator over the last two
  pub combined : {o : Sign} {a b : ℕ} (t u : Expr Span) → Combined o a b q s n
      → Place answer lent p q at bytes spare rest ((b, tree_words u) ∷ (a, tree_words t) ∷ made) → leb 1 spare ≡ true
      → Place answer lent p s at bytes (spare - 1) rest ((n, tree_words (build (build_of o) t u)) ∷ (b, tree_words u) ∷ (a, tree_words t) ∷ made)
  combined t u m l c = noted m.made (m.holds t u l.stands.1.0 l.stands.0) l c

-- a turn of a loop begins with the last node, at the parser's place; the numbers may be less
pub again : {A : Type 0} {answer : Answer A} {lent : ℕ} {p q : Parser} {at bytes spare : ℕ} (rest : ℕ → Answer A) {n : ℕ} {f : Run} {made : List (ℕ × Run)}
    (bytes₁ spare₁ : ℕ) → Place answer lent p q at bytes spare (rest at) ((n, f) ∷ made) → leb bytes₁ bytes ≡ true → leb spare₁ spare ≡ true
    → Place answer lent p q q.at bytes₁ spare₁ (rest q.at) ((n, f) ∷ [])
again {bytes} {spare} rest bytes₁ spare₁ l b w =
    let k = leb-true _ _ b in
    let m = leb-true _ _ w in
    record {
      says = l.says ∙ ap rest (sym l.here);
      here = refl;
      later = l.later;
      forward = omega (arith, l.forward, l.here);
      within = omega (arith, l.within, l.here);
      stands = (l.stands.0, tt);
    }

-- a token that stands, or does not, by the test of a `bool`
pub stood : (rule : Rule ℕ) (least : ℕ) (p q : Parser) {b : Bool} → Takes_if rule least p q (Ok b) → b ≡ true → Took rule least p q
stood rule least p q {b = true} t e = t
stood rule least p q {b = false} t e = cc

pub absent : (rule : Rule ℕ) (least : ℕ) (p q : Parser) {b : Bool} → Takes_if rule least p q (Ok b) → b ≡ false
    → Missing rule p q
absent rule least p q {b = true} t e = cc
absent rule least p q {b = false} t e = t

-- what was read by another rule, or a token
pub read_as : {A : Type 0} (words : A → Run) (rule other : Rule A) (least credit : ℕ) (p q : Parser) {n : ℕ} (r : Read words other least credit p q n)
    → rule p.text.now p.at ≡ ok r.value q.at → Read words rule least credit p q n
read_as words rule other least credit p q r e = record { value = r.value; says = e; holds = r.holds; below = r.below; went = r.went }

pub took-as : (rule other : Rule ℕ) (least k : ℕ) (p q : Parser) (t : Took other k p q) → rule p.text.now p.at ≡ ok t.value q.at → leb least k ≡ true
    → Took rule least p q
took-as rule other least k p q t e h =
    let l = leb-true _ _ h in
    record {
      value = t.value;
      says = e;
      went = record { later = t.went.later; onward = omega (arith, t.went.onward); paid = t.went.paid };
      top_same = t.top_same;
    }

pub takes_if_same : (rule other : Rule ℕ) (least : ℕ) (p q : Parser) (r : Result Bool Refusal) → rule p.text.now p.at ≡ other p.text.now p.at
    → Takes_if other least p q r → Takes_if rule least p q r
takes_if_same rule other least p q (Ok true) e f = record { value = f.value; says = e ∙ f.says; went = f.went; top_same = f.top_same }
takes_if_same rule other least p q (Ok false) e f = record { says = e ∙ f.says; same = f.same }
takes_if_same rule other least p q (Err d) e f = e ∙ f

pub reads_if_same : {A : Type 0} (words : A → Run) (rule other : Rule A) (least credit : ℕ) (p q : Parser) (r : Result (Option ℕ) Refusal)
    → rule p.text.now p.at ≡ other p.text.now p.at → Reads_if words other least credit p q r → Reads_if words rule least credit p q r
reads_if_same words rule other least credit p q (Ok (Some n)) e f = record { value = f.value; says = e ∙ f.says; holds = f.holds; below = f.below; went = f.went }
reads_if_same words rule other least credit p q (Ok None) e f = record { says = e ∙ f.says; same = f.same }
reads_if_same words rule other least credit p q (Err d) e f = e ∙ f

-- the same node for another value with the same words
pub as_run : {A : Type 0} {answer : Answer A} {lent : ℕ} {p q : Parser} {at bytes spare n : ℕ} {rest : Answer A} {f g : Run} {made : List (ℕ × Run)} → f ≡ g
    → Place answer lent p q at bytes spare rest ((n, f) ∷ made) → Place answer lent p q at bytes spare rest ((n, g) ∷ made)
as_run {answer = answer} {lent} {p} {q} {at} {bytes} {spare} {n} {rest} {made = made} e l = subst (λ f. Place answer lent p q at bytes spare rest ((n, f) ∷ made)) e l

-- the rule ends with the last node
pub done : {A : Type 0} {words : A → Run} (rule : Rule A) {least credit lent n : ℕ} {p q : Parser} {at bytes spare : ℕ} {v : A} {made : List (ℕ × Run)}
    → Place (rule p.text.now p.at) lent p q at bytes spare (ok v at) ((n, words v) ∷ made) → leb least bytes ≡ true → leb lent (credit + spare) ≡ true
    → Read words rule least credit p q n
done rule {v = v} l b w =
    let k = leb-true _ _ b in
    let m = leb-true _ _ w in
    record {
      value = v;
      says = l.says ∙ ap (ok v) (sym l.here);
      holds = l.stands.0.holds;
      below = l.stands.0.below;
      went = record {
        later = l.later;
        onward = omega (arith, l.forward, l.here);
        paid = omega (arith, l.within, l.here);
      };
    }

-- the rule ends with another rule
pub tail : {A : Type 0} (words : A → Run) (rule other : Rule A) (least credit least₁ credit₁ : ℕ) {lent : ℕ} {p q : Parser} (s : Parser)
    {at bytes spare : ℕ} {made : List (ℕ × Run)} (r : Result ℕ Refusal) → Reads words other least₁ credit₁ q s r
    → Place (rule p.text.now p.at) lent p q at bytes spare (other p.text.now at) made → leb credit₁ spare ≡ true → leb least (bytes + least₁) ≡ true
    → leb lent (credit + (spare - credit₁)) ≡ true → Reads words rule least credit p s r
tail words rule other least credit least₁ credit₁ s (Ok n) f l c b w = done rule (read_last other f l c) b w
tail words rule other least credit least₁ credit₁ {p = p} s {at = at} (Err e) f l c b w =
    let h : other p.text.now at ≡ refused (number e.reason) e.place = rw (← l.here, ← l.later.text_same) f in l.says ∙ h

-- a rule that may keep nothing is another one, mapped, where the parser is as it was
pub mapped_if : {A B : Type 0} (words : A → Run) (words₁ : B → Run) (rule : Rule A) (other : Rule B) (f : B → A) (least credit : ℕ) (p q : Parser)
    (r : Result (Option ℕ) Refusal) → ((b : B) → words₁ b ≡ words (f b)) → rule p.text.now p.at ≡ mapped f (other p.text.now p.at)
    → Reads_if words₁ other least credit p q r → Reads_if words rule least credit p q r
mapped_if words words₁ rule other f least credit p q (Ok (Some n)) w e r =
    record {
      value = f r.value;
      says = e ∙ after-ok _ _ _ r.says;
      holds = subst (Holds q.arena.now n) (w r.value) r.holds;
      below = r.below;
      went = r.went;
    }
mapped_if words words₁ rule other f least credit p q (Ok None) w e r = record { says = e ∙ after-none _ _ _ r.says; same = r.same }
mapped_if words words₁ rule other f least credit p q (Err d) w e r = e ∙ after-refused _ _ _ r
