-- Places of the rules of expressions: tests of tokens, nodes that the rule has no need of yet, and the end of a sequence.
use Rattle.std.proofs.Common.{ℕ, zero, suc, ◌+◌, ◌*◌, ◌-◌, ◌≤◌, ◌≡◌, ◌∙◌, refl, ap, List, [], ◌∷◌, length, Bool, true, false, leb, Option, Some, None, Result, Ok, Err, arith}
use Rattle.std.specs.Option.{is_some}
use borrow.Author.Tests.{leb-true}
use Rattle.lexing.specs.Answer.{Answer, ok, refused}
use Rattle.lexing.specs.CodeAnswers.{number}
use Rattle.lexing.specs.declared.refusal.Refusal.{Refusal}
use Rattle.grammar.specs.Steps.{after, must}
use Rattle.parsing.specs.Arena.{Run}
use Rattle.parsing.specs.Contract.{Rule, needed, Spare, Read, Reads_if, Takes_if, Missing, Made, Closes}
use Rattle.parsing.specs.Expressions.{Seen, Sees}
use Rattle.parsing.specs.Signs.{Operates}
use Rattle.parsing.specs.declared.parser.Parser.{Parser}
use Rattle.parsing.proofs.Laws.{after-ok, after-refused}
use Rattle.parsing.proofs.Places.{Place, later-next, later-back, parser-same, stand-on, taken, skipped, stood, absent}

-- ---- steps
module _ {A : Type 0} {answer : Answer A} {lent : ℕ} {p q : Parser} {at bytes spare : ℕ} where
  -- without the two under the last node
  pub over-two : {n a b : ℕ} {f g h : Run} {rest : Answer A} {made : List (ℕ × Run)}
      → Place answer lent p q at bytes spare rest ((n, f) ∷ (a, g) ∷ (b, h) ∷ made) → Place answer lent p q at bytes spare rest ((n, f) ∷ made)
  over-two l =
      record { says = l.says; here = l.here; later = l.later; forward = l.forward; within = l.within; stands = (l.stands.0, l.stands.1.1.1) }

  -- fewer bytes kept, and fewer nodes to spare
  pub lessened : {rest : Answer A} {made : List (ℕ × Run)} (bytes₁ spare₁ : ℕ) → bytes₁ ≤ bytes → spare₁ ≤ spare
      → Place answer lent p q at bytes spare rest made → Place answer lent p q at bytes₁ spare₁ rest made
  lessened bytes₁ spare₁ b w l =
      record {
        says = l.says;
        here = l.here;
        later = l.later;
        forward = omega (arith, l.forward);
        within = omega (arith, l.within);
        stands = l.stands;
      }

  -- room for what is to spare
  pub spare-left : {rest : Answer A} {made : List (ℕ × Run)} → Spare p lent → Place answer lent p q at bytes spare rest made → Spare q spare
  spare-left r l =
      let k = l.later.kept.length-kept in
      let t = l.later.text_same in
      record { room = omega (arith, r.room, l.within, l.here, ap length t, k) }

  -- an operator stands here
  pub seen : {B : Type 0} (rule : Rule B) (stop go : Answer A) {s : Parser} {made : List (ℕ × Run)} → Seen rule q s
      → Place answer lent p q at bytes spare (after (rule p.text.now at) stop (λ b at₁. go)) made → Place answer lent p s at bytes spare go made
  seen rule stop go {s = s} {made} r l =
      let h : rule p.text.now at ≡ ok r.value r.next = rw (← l.here, ← l.later.text_same) r.says in
      record {
        says = l.says ∙ after-ok (rule p.text.now at) stop (λ b at₁. go) h;
        here = r.at_same ∙ l.here;
        later = later-next l.later r.later;
        forward = l.forward;
        within = omega (arith, l.within, r.top_same);
        stands = stand-on r.later made l.stands;
      }

  -- nodes were made, of which the rule has no need yet
  pub unused : {k n : ℕ} {s : Parser} {rest : Answer A} {made : List (ℕ × Run)} → Made k q s n → Place answer lent p q at bytes spare rest made
      → k ≤ spare → Place answer lent p s at bytes (spare - k) rest made
  unused {made = made} m l c =
      record {
        says = l.says;
        here = m.at_same ∙ l.here;
        later = later-next l.later m.later;
        forward = l.forward;
        within = omega (arith, l.within, m.top);
        stands = stand-on m.later made l.stands;
      }

  -- a sequence with its end
  pub closed : {list n : ℕ} {f : Run} {s : Parser} {rest : Answer A} {made : List (ℕ × Run)} → Closes list q s n
      → Place answer lent p q at bytes spare rest ((list, f) ∷ made) → ((list ≡ 0 → ⊥) → 1 ≤ spare)
      → Place answer lent p s at bytes 0 rest ((n, λ r. f (0 ∷ r)) ∷ [])
  closed {list} {n} {s = s} m l c =
      record {
        says = l.says;
        here = m.at_same ∙ l.here;
        later = later-next l.later m.later;
        forward = l.forward;
        within = by-list list refl;
        stands = (record { holds = m.holds l.stands.0; below = m.below }, tt);
      }
    where
      by-list : (k : ℕ) → list ≡ k → s.top + 0 + 2 * p.at ≤ p.top + lent + 2 * at
      by-list zero z = omega (arith, l.within, m.stays z)
      by-list (suc k) z = let h = c (λ e. omega arith) in omega (arith, l.within, m.grows)

  -- a token that may follow stands here, or does not, by the test of a `bool`
  module _ (rule : Rule ℕ) (least : ℕ) (stop : Answer A) (go : ℕ → ℕ → Answer A) {s : Parser} {made : List (ℕ × Run)} {b : Bool} (t : Takes_if rule least q s (Ok b)) where
    pub stands-here : (e : b ≡ true) → Place answer lent p q at bytes spare (after (rule p.text.now at) stop go) made
        → Place answer lent p s s.at (bytes + least) (spare + 2 * least) (go (stood rule least q s t e).value s.at) made
    stands-here e l = taken rule stop go (stood rule least q s t e) l

    pub absent-here : b ≡ false → Place answer lent p q at bytes spare (after (rule p.text.now at) stop go) made
        → Place answer lent p s at bytes spare stop made
    absent-here e l = skipped rule stop go (absent rule least q s t e) l

  -- a step that may follow is refused
  pub stopped : {B : Type 0} (rule : Rule B) (stop : Answer A) (go : B → ℕ → Answer A) {made : List (ℕ × Run)} {n m : ℕ}
      → rule q.text.now q.at ≡ refused n m → Place answer lent p q at bytes spare (after (rule p.text.now at) stop go) made → answer ≡ refused n m
  stopped rule stop go f l = l.says ∙ after-refused (rule p.text.now at) stop go (rw (← l.here, ← l.later.text_same) f)

-- a rule that always keeps something, as one that must follow
pub must-stands : {A : Type 0} (at : ℕ) (r : Answer A) {v : A} {n : ℕ} → r ≡ ok v n → must at r ≡ ok v n
unfolding after
must-stands at r e = ap (must at) e

abbrev pub sure : {A : Type 0} {words : A → Run} {rule : Rule A} {least credit n : ℕ} {p q : Parser} → Read words rule least credit p q n
    → Read words (needed rule) least credit p q n
sure {rule = rule} {p = p} f =
    record { value = f.value; says = must-stands p.at (rule p.text.now p.at) f.says; holds = f.holds; below = f.below; went = f.went }

-- where nothing was kept before
module _ {A : Type 0} (words : A → Run) (whole rule : Rule A) (least credit least₁ credit₁ : ℕ) {p q : Parser} (s : Parser) where
  pub tail_if : (r : Result (Option ℕ) Refusal) → q ≡ p → whole p.text.now p.at ≡ rule p.text.now p.at → Reads_if words rule least₁ credit₁ q s r
      → leb least least₁ ≡ true → leb credit₁ credit ≡ true → Reads_if words whole least credit p s r
  tail_if (Ok (Some n)) e o f b w =
      let k = leb-true _ _ b in
      let m = leb-true _ _ w in
      let g : Read words rule least₁ credit₁ p s n = rw e at f in
      record {
        value = g.value;
        says = o ∙ g.says;
        holds = g.holds;
        below = g.below;
        went = record { later = g.went.later; onward = omega (arith, g.went.onward); paid = omega (arith, g.went.paid) };
      }
  tail_if (Ok None) e o f b w = let g : Missing rule p s = rw e at f in record { says = o ∙ g.says; same = g.same }
  tail_if (Err d) e o f b w = let g : rule p.text.now p.at ≡ refused (number d.reason) d.place = rw e at f in o ∙ g

-- whether a rule's token stands here, where the parser goes back to
pub sees-back : {B C : Type 0} (of : C → B) (rule : Rule B) (p q s : Parser) (o : Option C) {b : Bool} → Operates of rule p q (Ok o) → b ≡ is_some o
    → s.text ≡ q.text → s.arena ≡ q.arena → s.at ≡ p.at → s.top ≡ q.top → Sees rule p s (Ok b)
sees-back of rule p q s (Some c) r e t a h n =
    rw e (record { value = of c; next = q.at; says = r.says; later = later-back r.went.later t a n; at_same = h; top_same = n ∙ r.top_same })
sees-back of rule p q s None r e t a h n =
    rw e (record { says = r.says; same = parser-same (t ∙ ap (λ p. p.text) r.same) (a ∙ ap (λ p. p.arena) r.same) h (n ∙ ap (λ p. p.top) r.same) })

-- a test of a `bool`, after `sees`
pub was-seen : {A : Type 0} (rule : Rule A) (p q : Parser) {b : Bool} → Sees rule p q (Ok b) → b ≡ true → Seen rule p q
was-seen rule p q {b = true} t e = t
was-seen rule p q {b = false} t e = cc
