-- Places of the statement rules: rules that leave a node, how such rules end, and what is left of the answer said otherwise.
use Rattle.std.proofs.Common.{ℕ, ◌+◌, ◌*◌, ◌-◌, ◌≤◌, ◌≡◌, ◌∙◌, refl, sym, ap, subst, Bool, List, [], ◌∷◌, length, true, false, leb, Option, Some, None, Result, Ok, Err, arith}
use borrow.Author.Tests.{leb-true}
use Rattle.std.specs.Result.{IsErrAnd}
use Rattle.std.proofs.lemmas.Result.{err_from_is_err_and}
use Rattle.lexing.specs.Answer.{Answer, ok, refused, unusable_token}
use Rattle.lexing.specs.CodeAnswers.{number}
use Rattle.lexing.specs.declared.refusal.Reason.TheVariants.{LevelTooDeep}
use Rattle.lexing.specs.declared.refusal.Refusal.{Refusal}
use Rattle.tree.specs.Clash.{impossible}
use Rattle.grammar.specs.Steps.{after, need, mapped, parse_name}
use Rattle.grammar.specs.Statements.{too_deep}
use Rattle.grammar.specs.StepLaws.{mapped-same}
use Rattle.parsing.specs.Arena.{Run, Holds}
use Rattle.parsing.specs.Contract.{Rule, needed, Read, Reads, Later, Spare, Named, Took, Takes_if}
use Rattle.parsing.specs.TooDeep.{too_deep_if}
use Rattle.parsing.specs.Statements.{Stayed, Nothing, Spared, Spares, Spares_if, Stops}
use Rattle.parsing.specs.declared.parser.Name.{Name}
use Rattle.parsing.specs.declared.parser.Parser.{Parser}
use Rattle.parsing.proofs.Laws.{need-ok, after-ok, after-none, after-refused}
use Rattle.parsing.proofs.Places.{Place, said, read_if, refused_last, turned, without, stand-on, later-next, later-same, later-back}

-- ---- rules that keep nothing

-- the parser is where it was, as it never moved or as it went back
pub stay : {p q : Parser} → q ≡ p → Stayed p q
stay e = rw e (record { later = later-same; at_same = refl; top_same = refl })

pub back : {p q s : Parser} → Later p q → q.top ≡ p.top → s.text ≡ q.text → s.arena ≡ q.arena → s.at ≡ p.at → s.top ≡ q.top → Stayed p s
back l e t a h n =
    record {
      later = later-back l t a n;
      at_same = h;
      top_same = n ∙ e;
    }

-- what a rule says of the text as it was
pub says-of : {A : Type 0} (rule : Rule A) {p q : Parser} {at : ℕ} {r : Answer A} → Later p q → rule q.text.now at ≡ r → rule p.text.now at ≡ r
says-of rule {at = at} l e = ap (λ s. rule s at) (sym l.text_same) ∙ e

-- ---- refusals

module _ {A : Type 0} (words : A → Run) (rule : Rule A) (p q : Parser) (e : Refusal) (s : rule p.text.now p.at ≡ refused (number e.reason) e.place) where
  pub spares_err : (r : Result ℕ Refusal) → IsErrAnd r (λ y. y ≡ e) → Spares words rule p q r
  spares_err r h = let p = err_from_is_err_and r h in rw (p.1, p.2) s

  pub spares_if_err : (r : Result (Option ℕ) Refusal) → IsErrAnd r (λ y. y ≡ e) → Spares_if words rule p q r
  spares_if_err r h = let p = err_from_is_err_and r h in rw (p.1, p.2) s

pub stops_err : {A : Type 0} (rule : Rule A) (p q : Parser) (e : Refusal) → rule p.text.now p.at ≡ refused (number e.reason) e.place
    → (r : Result Unit Refusal) → IsErrAnd r (λ y. y ≡ e) → Stops rule p q r
stops_err rule p q e s r h = let p = err_from_is_err_and r h in rw (p.1, p.2) s

-- a token that is too deep if it stands: what is refused, and that nothing was kept
module _ (rule : Rule ℕ) (least : ℕ) (p q : Parser) where
  pub deep-says : {B : Type 0} (place : ℕ) (r : Result Bool Refusal) {e : Refusal} → Takes_if rule least p q r → Err e ≡ too_deep_if place r
      → too_deep {B = B} place (rule p.text.now p.at) ≡ refused (number e.reason) e.place
  unfolding too_deep
  deep-says place (Ok true) {e} t h = let s : e ≡ record { reason = LevelTooDeep; place = place } = cc in rw (s, t.says) refl
  deep-says place (Ok false) {e} t h = impossible (cc)
  deep-says place (Err d) {e} t h = let s : e ≡ record { reason = LevelTooDeep; place = place } = cc in rw (s, t) refl

  pub deep-none : {B : Type 0} (place : ℕ) (r : Result Bool Refusal) {u : Unit} → Takes_if rule least p q r → Ok u ≡ too_deep_if place r
      → (too_deep {B = B} place (rule p.text.now p.at) ≡ Answer.none) × (q ≡ p)
  unfolding too_deep
  deep-none place (Ok true) {u} t h = impossible (cc)
  deep-none place (Ok false) {u} t h = (rw t.says refl, t.same)
  deep-none place (Err d) {u} t h = impossible (cc)

  -- a rule that is too deep where such a token stands
  pub deep-stops : {A : Type 0} (other : Rule A) (r : Result Bool Refusal) → Takes_if rule least p q r
      → other p.text.now p.at ≡ too_deep p.at (rule p.text.now p.at) → Stops other p q (too_deep_if p.at r)
  unfolding too_deep
  deep-stops other (Ok true) t e = e ∙ rw t.says refl
  deep-stops other (Ok false) t e = record { says = e ∙ rw t.says refl; stayed = stay t.same }
  deep-stops other (Err d) t e = e ∙ rw t refl

pub ruleset sparing = (spares_err, spares_if_err, stops_err)

-- ---- steps

module _ {A : Type 0} {answer : Answer A} {lent : ℕ} {p q : Parser} {at bytes spare : ℕ} where
  -- a rule was read that leaves a node
  pub left-after : {B : Type 0} {words : B → Run} {rule : Rule B} {n : ℕ} {s : Parser} {rest : Answer A} {made : List (ℕ × Run)} (next : Answer A)
      → (r : Spared words rule q s n) → (Place answer lent p q at bytes spare rest made) → rest ≡ next
      → Place answer lent p s s.at (bytes + 2) (spare + 1) next ((n, words r.read.value) ∷ made)
  left-after {made = made} next r l e =
      let f = r.read.went in
      record {
        says = l.says ∙ e;
        here = refl;
        later = later-next l.later f.later;
        forward = omega (arith, l.forward, l.here, f.onward);
        within = omega (arith, l.within, l.here, r.left);
        stands = (record { holds = r.read.holds; below = r.read.below }, stand-on f.later made l.stands);
      }

  -- a rule that never keeps nothing was read, where it must follow
  pub read-all : {B : Type 0} {words : B → Run} (rule : Rule B) (go : B → ℕ → Answer A) {least credit n : ℕ} {s : Parser} {made : List (ℕ × Run)}
      (r : Read words rule least credit q s n) → Place answer lent p q at bytes spare (need at (rule p.text.now at) go) made
      → leb credit spare ≡ true
      → Place answer lent p s s.at (bytes + least) (spare - credit) (go r.value s.at) ((n, words r.value) ∷ made)
  read-all rule go r l c = read_if rule (refused unusable_token at) go r l c

  -- one that must follow
  pub spared : {B : Type 0} {words : B → Run} (rule : Rule B) (go : B → ℕ → Answer A) {n : ℕ} {s : Parser} {made : List (ℕ × Run)}
      (r : Spared words (needed rule) q s n) → Place answer lent p q at bytes spare (need at (rule p.text.now at) go) made
      → Place answer lent p s s.at (bytes + 2) (spare + 1) (go r.read.value s.at) ((n, words r.read.value) ∷ made)
  spared rule go {s = s} r l =
      let h : needed rule p.text.now at ≡ ok r.read.value s.at = rw (← l.here, ← l.later.text_same) r.read.says in
      left-after (go r.read.value s.at) r l (need-ok at (rule p.text.now at) go h)

  -- one that may
  pub spared_if : {B : Type 0} {words : B → Run} (rule : Rule B) (stop : Answer A) (go : B → ℕ → Answer A) {n : ℕ} {s : Parser} {made : List (ℕ × Run)}
      (r : Spared words rule q s n) → Place answer lent p q at bytes spare (after (rule p.text.now at) stop go) made
      → Place answer lent p s s.at (bytes + 2) (spare + 1) (go r.read.value s.at) ((n, words r.read.value) ∷ made)
  spared_if rule stop go {s = s} r l =
      let h : rule p.text.now at ≡ ok r.read.value s.at = rw (← l.here, ← l.later.text_same) r.read.says in
      left-after (go r.read.value s.at) r l (after-ok (rule p.text.now at) stop go h)

  -- the parser stayed
  pub stayed : {s : Parser} {rest : Answer A} {made : List (ℕ × Run)} → Stayed q s → Place answer lent p q at bytes spare rest made
      → Place answer lent p s at bytes spare rest made
  stayed {made = made} r l =
      record {
        says = l.says;
        here = r.at_same ∙ l.here;
        later = later-next l.later r.later;
        forward = l.forward;
        within = omega (arith, l.within, r.top_same);
        stands = stand-on r.later made l.stands;
      }

  -- one that kept nothing
  pub passed : {B : Type 0} (rule : Rule B) (stop : Answer A) (go : B → ℕ → Answer A) {s : Parser} {made : List (ℕ × Run)}
      → Nothing rule q s → Place answer lent p q at bytes spare (after (rule p.text.now at) stop go) made
      → Place answer lent p s at bytes spare stop made
  passed rule stop go {s = s} {made} r l =
      let h : rule p.text.now at ≡ Answer.none = rw (← l.here, ← l.later.text_same) r.says in
      stayed r.stayed (said (after-none (rule p.text.now at) stop go h) l)

-- a name was passed of `least` bytes at least
pub word-passed : {A : Type 0} {answer : Answer A} {lent : ℕ} {p q : Parser} {n : Name} (least : ℕ) (rest : Answer A) → Named parse_name p q n → Spare p lent
    → p.at + least ≤ q.at → answer ≡ rest → Place answer lent p q q.at least (lent + 2 * least) rest []
word-passed least rest n r l e =
    record { says = e; here = refl; later = n.went.later; forward = l; within = omega (arith, l, n.top_same); stands = tt }

-- without the second node
pub without-next : {A : Type 0} {answer : Answer A} {lent : ℕ} {p q : Parser} {at bytes spare : ℕ} {rest : Answer A} {n m : ℕ} {f g : Run} {made : List (ℕ × Run)}
    → Place answer lent p q at bytes spare rest ((n, f) ∷ (m, g) ∷ made) → Place answer lent p q at bytes spare rest ((n, f) ∷ made)
without-next l = without (turned l)

-- room at a place
pub room : {A : Type 0} {answer : Answer A} {lent : ℕ} {p q : Parser} {at bytes spare : ℕ} {rest : Answer A} {made : List (ℕ × Run)} (credit : ℕ) → Spare p lent
    → Place answer lent p q at bytes spare rest made → leb credit spare ≡ true → Spare q credit
room credit r l c =
    let k = leb-true _ _ c in
    record { room = omega (arith, r.room, l.within, l.here, l.later.kept.length-kept, ap length l.later.text_same) }

-- a token of fewer bytes than it has
pub took-least : {rule : Rule ℕ} {k : ℕ} {p q : Parser} (least : ℕ) → least ≤ k → Took rule k p q → Took rule least p q
took-least least h t =
    record {
      value = t.value;
      says = t.says;
      went = record { later = t.went.later; onward = omega (arith, t.went.onward); paid = t.went.paid };
      top_same = t.top_same;
    }

-- ---- ends

-- with the refusal of a step
module _ {A : Type 0} {answer : Answer A} {lent : ℕ} {p q : Parser} {at bytes spare number place : ℕ} {made : List (ℕ × Run)} where
  pub refuses : {B : Type 0} (rule : Rule B) (stop : Answer A) (go : B → ℕ → Answer A) → rule q.text.now q.at ≡ refused number place
      → Place answer lent p q at bytes spare (after (rule p.text.now at) stop go) made → answer ≡ refused number place
  refuses rule stop go e l =
      let h : rule p.text.now at ≡ refused number place = rw (← l.here, ← l.later.text_same) e in
      l.says ∙ after-refused (rule p.text.now at) stop go h

-- with the last node, and a node left
pub ends : {A : Type 0} {words : A → Run} (rule : Rule A) {lent n : ℕ} {p q : Parser} {at bytes spare : ℕ} {v : A} {made : List (ℕ × Run)}
    → Place (rule p.text.now p.at) lent p q at bytes spare (ok v at) ((n, words v) ∷ made) → leb 2 bytes ≡ true → leb (lent + 1) spare ≡ true
    → Spared words rule p q n
ends rule {v = v} l b w =
    let k = leb-true _ _ b in
    let m = leb-true _ _ w in
    record {
      read = record {
        value = v;
        says = l.says ∙ ap (ok v) (sym l.here);
        holds = l.stands.0.holds;
        below = l.stands.0.below;
        went = record {
          later = l.later;
          onward = omega (arith, l.forward, l.here);
          paid = omega (arith, l.within, l.here);
        };
      };
      left = omega (arith, l.within, l.here);
    }

-- with another rule's answer, which is mapped
module _ {A B : Type 0} {words : A → Run} {words₁ : B → Run} (rule : Rule A) (other : Rule B) (f : B → A) (same : (b : B) → words₁ b ≡ words (f b))
    {lent : ℕ} {p q : Parser} {at bytes spare : ℕ} {made : List (ℕ × Run)} where
  read-mapped : {least credit least₁ credit₁ n : ℕ} {s : Parser} → Read words₁ other least₁ credit₁ q s n
      → Place (rule p.text.now p.at) lent p q at bytes spare (mapped f (other p.text.now at)) made
      → least ≤ bytes + least₁ → lent + credit₁ ≤ credit + spare → Read words rule least credit p s n
  read-mapped {n = n} {s} r l b w =
      let h : other p.text.now at ≡ ok r.value s.at = rw (← l.here, ← l.later.text_same) r.says in
      record {
        value = f r.value;
        says = l.says ∙ after-ok (other p.text.now at) Answer.none (λ b n. ok (f b) n) h;
        holds = subst (Holds s.arena.now n) (same r.value) r.holds;
        below = r.below;
        went = record {
          later = later-next l.later r.went.later;
          onward = omega (arith, l.forward, l.here, r.went.onward);
          paid = omega (arith, l.within, l.here, r.went.paid);
        };
      }

  pub ends-mapped : {least₁ credit₁ n : ℕ} {s : Parser} → Read words₁ other least₁ credit₁ q s n
      → Place (rule p.text.now p.at) lent p q at bytes spare (mapped f (other p.text.now at)) made
      → leb 2 (bytes + least₁) ≡ true → leb (lent + credit₁ + 1) spare ≡ true → Spared words rule p s n
  ends-mapped r l b w =
      let k = leb-true _ _ b in
      let m = leb-true _ _ w in
      record { read = read-mapped r l (omega arith) (omega arith); left = omega (arith, l.within, l.here, r.went.paid) }

-- with another rule's answer
pub ends-last : {A : Type 0} {words : A → Run} (rule other : Rule A) {lent : ℕ} {p q s : Parser} {at bytes spare least₁ credit₁ n : ℕ} {made : List (ℕ × Run)}
    → Read words other least₁ credit₁ q s n → Place (rule p.text.now p.at) lent p q at bytes spare (other p.text.now at) made
    → leb 2 (bytes + least₁) ≡ true → leb (lent + credit₁ + 1) spare ≡ true → Spared words rule p s n
ends-last rule other r l b w = ends-mapped rule other (λ a. a) (λ a. refl) r (said (sym (mapped-same _)) l) b w

-- by another rule, whatever it answers
module _ {A B : Type 0} (words : A → Run) {words₁ : B → Run} (rule : Rule A) (other : Rule B) (f : B → A) (same : (b : B) → words₁ b ≡ words (f b))
    (least credit least₁ credit₁ : ℕ) {lent : ℕ} {p q : Parser} (s : Parser) {at bytes spare : ℕ} {made : List (ℕ × Run)} where
  pub tail-mapped : (r : Result ℕ Refusal) → Reads words₁ other least₁ credit₁ q s r
      → Place (rule p.text.now p.at) lent p q at bytes spare (mapped f (other p.text.now at)) made
      → leb least (bytes + least₁) ≡ true → leb (lent + credit₁) (credit + spare) ≡ true → Reads words rule least credit p s r
  tail-mapped (Ok n) r l b w = read-mapped rule other f same r l (leb-true _ _ b) (leb-true _ _ w)
  tail-mapped (Err e) r l b w = refuses other _ _ r l

module _ {A : Type 0} (words : A → Run) (rule other : Rule A) (least₁ credit₁ : ℕ) {lent : ℕ} {p q : Parser} (s : Parser) {at bytes spare : ℕ} {made : List (ℕ × Run)} where
  pub tail-spares : (r : Result ℕ Refusal) → Reads words other least₁ credit₁ q s r
      → Place (rule p.text.now p.at) lent p q at bytes spare (other p.text.now at) made
      → leb 2 (bytes + least₁) ≡ true → leb (lent + credit₁ + 1) spare ≡ true → Spares words rule p s r
  tail-spares (Ok n) r l b w = ends-last rule other r l b w
  tail-spares (Err e) r l b w = refused_last other l r

-- the same rule by another name
pub spares_if_same : {A : Type 0} (words : A → Run) (rule other : Rule A) (p q : Parser) (r : Result (Option ℕ) Refusal)
    → rule p.text.now p.at ≡ other p.text.now p.at → Spares_if words other p q r → Spares_if words rule p q r
spares_if_same words rule other p q (Ok (Some n)) e f =
    record {
      read = record { value = f.read.value; says = e ∙ f.read.says; holds = f.read.holds; below = f.read.below; went = f.read.went };
      left = f.left;
    }
spares_if_same words rule other p q (Ok None) e f = record { says = e ∙ f.says; stayed = f.stayed }
spares_if_same words rule other p q (Err d) e f = e ∙ f
