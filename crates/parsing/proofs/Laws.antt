-- Laws of answers and of steps: what a step gives, and how a refusal is passed on.
use Rattle.std.proofs.Common.{ℕ, ◌≡◌, ap, Option, Result, Bool}
use Rattle.std.specs.Result.{IsErrAnd}
use Rattle.std.proofs.lemmas.Result.{err_from_is_err_and}
use Rattle.lexing.specs.Answer.{Answer, ok, refused}
use Rattle.tree.specs.Ast.{Span}
use Rattle.grammar.specs.Steps.{after, need, must, mapped, parse_name}
use Rattle.parsing.specs.Arena.{Run}
use Rattle.parsing.specs.Contract.{Rule, Reads, Reads_if, Takes, Takes_if, Names, Names_if, Passes_word}
use Rattle.lexing.specs.CodeAnswers.{number}
use Rattle.lexing.specs.declared.refusal.Refusal.{Refusal}
use Rattle.parsing.specs.Signs.{Operates}
use Rattle.parsing.specs.declared.parser.Name.{Name}
use Rattle.parsing.specs.declared.parser.Parser.{Parser}

-- a step that must follow stands, or is refused
pub need-ok : {A B : Type 0} (at : ℕ) (r : Answer A) (go : A → ℕ → Answer B) {v : A} {n : ℕ} → must at r ≡ ok v n → need at r go ≡ go v n
unfolding after
need-ok at (ok w m) go e = cc
need-ok at Answer.none go e = cc
need-ok at (refused a b) go e = cc

pub need-refused : {A B : Type 0} (at : ℕ) (r : Answer A) (go : A → ℕ → Answer B) {number place : ℕ} → must at r ≡ refused number place
    → need at r go ≡ refused number place
unfolding after
need-refused at (ok w m) go e = cc
need-refused at Answer.none go e = cc
need-refused at (refused a b) go e = cc

-- the same of a step that is mapped
pub must-mapped-ok : {A B : Type 0} (at : ℕ) (r : Answer A) (f : A → B) {v : A} {n : ℕ} → must at r ≡ ok v n → must at (mapped f r) ≡ ok (f v) n
unfolding after
must-mapped-ok at (ok w m) f e = cc
must-mapped-ok at Answer.none f e = cc
must-mapped-ok at (refused a b) f e = cc

pub must-mapped-refused : {A B : Type 0} (at : ℕ) (r : Answer A) (f : A → B) {number place : ℕ} → must at r ≡ refused number place
    → must at (mapped f r) ≡ refused number place
unfolding after
must-mapped-refused at (ok w m) f e = cc
must-mapped-refused at Answer.none f e = cc
must-mapped-refused at (refused a b) f e = cc

pub after-ok : {A B : Type 0} (r : Answer A) (stop : Answer B) (go : A → ℕ → Answer B) {v : A} {n : ℕ} → r ≡ ok v n → after r stop go ≡ go v n
unfolding after
after-ok r stop go e = ap (λ r. after r stop go) e

pub after-none : {A B : Type 0} (r : Answer A) (stop : Answer B) (go : A → ℕ → Answer B) → r ≡ Answer.none → after r stop go ≡ stop
unfolding after
after-none r stop go e = ap (λ r. after r stop go) e

pub after-refused : {A B : Type 0} (r : Answer A) (stop : Answer B) (go : A → ℕ → Answer B) {number place : ℕ} → r ≡ refused number place
    → after r stop go ≡ refused number place
unfolding after
after-refused r stop go e = ap (λ r. after r stop go) e

pub reads_err : {A : Type 0} (words : A → Run) (rule : Rule A) (least credit : ℕ) (p q : Parser) (r : Result ℕ Refusal) (e : Refusal)
    → IsErrAnd r (λ y. y ≡ e) → rule p.text.now p.at ≡ refused (number e.reason) e.place → Reads words rule least credit p q r
reads_err words rule least credit p q r e h s = let p = err_from_is_err_and r h in rw (p.1, p.2) s

pub reads_if_err : {A : Type 0} (words : A → Run) (rule : Rule A) (least credit : ℕ) (p q : Parser) (r : Result (Option ℕ) Refusal) (e : Refusal)
    → IsErrAnd r (λ y. y ≡ e) → rule p.text.now p.at ≡ refused (number e.reason) e.place → Reads_if words rule least credit p q r
reads_if_err words rule least credit p q r e h s = let p = err_from_is_err_and r h in rw (p.1, p.2) s

pub takes_err : (rule : Rule ℕ) (least : ℕ) (p q : Parser) (r : Result Unit Refusal) (e : Refusal)
    → IsErrAnd r (λ y. y ≡ e) → rule p.text.now p.at ≡ refused (number e.reason) e.place → Takes rule least p q r
takes_err rule least p q r e h s = let p = err_from_is_err_and r h in rw (p.1, p.2) s

pub takes_if_err : (rule : Rule ℕ) (least : ℕ) (p q : Parser) (r : Result Bool Refusal) (e : Refusal)
    → IsErrAnd r (λ y. y ≡ e) → rule p.text.now p.at ≡ refused (number e.reason) e.place → Takes_if rule least p q r
takes_if_err rule least p q r e h s = let p = err_from_is_err_and r h in rw (p.1, p.2) s

pub names_err : (rule : Rule Span) (p q : Parser) (r : Result Name Refusal) (e : Refusal)
    → IsErrAnd r (λ y. y ≡ e) → rule p.text.now p.at ≡ refused (number e.reason) e.place → Names rule p q r
names_err rule p q r e h s = let p = err_from_is_err_and r h in rw (p.1, p.2) s

pub names_if_err : (rule : Rule Span) (p q : Parser) (r : Result (Option Name) Refusal) (e : Refusal)
    → IsErrAnd r (λ y. y ≡ e) → rule p.text.now p.at ≡ refused (number e.reason) e.place → Names_if rule p q r
names_if_err rule p q r e h s = let p = err_from_is_err_and r h in rw (p.1, p.2) s

pub passes_word_err : (len : ℕ) (p q : Parser) (r : Result Name Refusal) (e : Refusal)
    → IsErrAnd r (λ y. y ≡ e) → parse_name p.text.now p.at ≡ refused (number e.reason) e.place → Passes_word len p q r
passes_word_err len p q r e h s = let p = err_from_is_err_and r h in rw (p.1, p.2) s

pub operates_err : {B C : Type 0} (of : C → B) (rule : Rule B) (p q : Parser) (r : Result (Option C) Refusal) (e : Refusal)
    → IsErrAnd r (λ y. y ≡ e) → rule p.text.now p.at ≡ refused (number e.reason) e.place → Operates of rule p q r
operates_err of rule p q r e h s = let p = err_from_is_err_and r h in rw (p.1, p.2) s

pub ruleset failing = (reads_err, operates_err, takes_if_err, names_err, names_if_err, passes_word_err, reads_if_err, takes_err, need-ok, need-refused, must-mapped-refused, after-ok, after-none, after-refused)
