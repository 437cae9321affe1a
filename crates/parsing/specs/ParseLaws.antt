-- What `parse` answers by the definition's tree, in an arena that has room and in one that has not.
use Rattle.std.specs.Prelude.{ℕ, ◌≡◌, refl, true, false, List, length, Result, Ok, Err}
use Rattle.std.proofs.Common.{sym, ap, subst, ◌∙◌}
use Rattle.lexing.specs.Answer.{Answer, ok, refused, pick, tree_too_large}
use Rattle.lexing.specs.CodeAnswers.{number}
use Rattle.lexing.specs.declared.refusal.Reason.{Reason}
use Rattle.lexing.specs.declared.refusal.Reason.TheVariants.{TextTooLong, UnusableToken, LevelTooDeep, LargeNatural, TreeTooLarge, UnclosedComment, EndedTooSoon}
use Rattle.lexing.specs.declared.refusal.Refusal.{Refusal}
use Rattle.tree.specs.Clash.{impossible}
use Rattle.grammar.specs.Steps.{after, mapped}
use Rattle.parsing.specs.Arena.{Run, Holds}
use Rattle.parsing.specs.Parse.{roomy, whole_run, Gives, Parses}
use Rattle.parsing.specs.declared.arena.Node.{Node}
use Rattle.parsing.specs.declared.entry.Whole.{Whole}

-- the definition's tree stands at a node, or its refusal was answered
pub record Stands {A : Type 0} (words : A → Run) (answer : Answer A) (later : List Node) (root : ℕ) : Type 0 where
  pub tree : A
  pub next : ℕ
  pub says : answer ≡ ok tree next
  pub holds : Holds later root (words tree)

abbrev pub Defined : {A : Type 0} → (A → Run) → Answer A → List Node → Result ℕ Refusal → Type 0
Defined words answer later (Ok root) = Stands words answer later root
Defined words answer later (Err e) = answer ≡ refused (number e.reason) e.place

gives-defined : {A : Type 0} (words : A → Run) (text : List ℕ) (later : List Node) (answer : Answer A) (r : Result ℕ Refusal)
    → Gives text later (mapped words answer) r → Defined words answer later r
unfolding after
gives-defined words text later (ok a next) (Ok root) g =
    let e : words a ≡ g.run = let s = g.says in cc in
    record { tree = a; next = next; says = refl; holds = subst (Holds later root) (sym e) g.holds }
gives-defined words text later Answer.none (Ok root) g = let s = g.says in impossible cc
gives-defined words text later (refused n p) (Ok root) g = let s = g.says in impossible cc
gives-defined words text later (ok a next) (Err e) g = impossible cc
gives-defined words text later Answer.none (Err e) g = impossible cc
gives-defined words text later (refused n p) (Err e) g =
    let h : n ≡ number e.reason = cc in
    let l : p ≡ e.place = cc in
    rw (← h, ← l) refl

-- a reason by its number
large-reason : (r : Reason) → tree_too_large ≡ number r → r ≡ TreeTooLarge
large-reason TextTooLong e = impossible cc
large-reason UnusableToken e = impossible cc
large-reason LevelTooDeep e = impossible cc
large-reason LargeNatural e = impossible cc
large-reason TreeTooLarge e = refl
large-reason UnclosedComment e = impossible cc
large-reason EndedTooSoon e = impossible cc

module _ {whole : Whole} {text : List ℕ} {arena later : List Node} {r : Result ℕ Refusal} (p : Parses whole text arena later r) where
  -- with room
  pub with-room : {A : Type 0} (words : A → Run) (answer : Answer A) → whole_run whole text ≡ mapped words answer → roomy (length text) (length arena) ≡ true
      → Defined words answer later r
  with-room words answer e h =
      gives-defined words text later answer r
      (subst (λ a. Gives text later a r) (ap (λ t. pick t (whole_run whole text) (refused tree_too_large 0)) h ∙ e) p.gives)

  -- and without
  pub without-room : roomy (length text) (length arena) ≡ false → r ≡ Err (record { reason = TreeTooLarge; place = 0 })
  without-room h = by_answer r (subst (λ a. Gives text later a r) (ap (λ t. pick t (whole_run whole text) (refused tree_too_large 0)) h) p.gives)
    where
      by_answer : (r : Result ℕ Refusal) → Gives text later (refused tree_too_large 0) r → r ≡ Err (record { reason = TreeTooLarge; place = 0 })
      by_answer (Ok root) g = let s = g.says in impossible cc
      by_answer (Err e) g =
          let h : tree_too_large ≡ number e.reason = cc in
          let l : 0 ≡ e.place = cc in
          rw (← large-reason e.reason h, ← l) refl
