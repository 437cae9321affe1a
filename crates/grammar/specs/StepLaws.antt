-- Laws of `after`, and of `mapped` and `need`, which are made of it.
use Rattle.std.specs.Prelude.{ℕ, ◌≡◌, refl}
use Rattle.lexing.specs.Answer.{Answer, ok, refused}
use Rattle.grammar.specs.Steps.{after, need, mapped}

-- what stands after a step goes into both its branches
pub after-after : {A B C : Type 0} (r : Answer A) (stop : Answer B) (go : A → ℕ → Answer B) (last : Answer C) (k : B → ℕ → Answer C)
    → after (after r stop go) last k ≡ after r (after stop last k) (λ a at. after (go a at) last k)
unfolding after
after-after (ok a at) stop go last k = refl
after-after Answer.none stop go last k = refl
after-after (refused number place) stop go last k = refl

-- `mapped` of the identity, of two functions, and of a needed step
pub mapped-same : {A : Type 0} (r : Answer A) → mapped (λ a. a) r ≡ r
unfolding after
mapped-same (ok a next) = refl
mapped-same Answer.none = refl
mapped-same (refused number place) = refl

pub mapped-twice : {A B C : Type 0} (f : A → B) (g : B → C) (r : Answer A) → mapped g (mapped f r) ≡ mapped (λ a. g (f a)) r
unfolding after
mapped-twice f g r = after-after r Answer.none (λ a next. ok (f a) next) Answer.none (λ b next. ok (g b) next)

pub mapped-need : {A B C : Type 0} (f : B → C) (at : ℕ) (r : Answer A) (go : A → ℕ → Answer B)
    → mapped f (need at r go) ≡ need at r (λ a next. mapped f (go a next))
unfolding after
mapped-need f at r go = after-after r (refused 2 at) go Answer.none (λ b next. ok (f b) next)
