-- The simulation of a call's arguments: a comma list that may be empty, and the closing bracket.
use Prim.Native.Nat.{ℕ, zero, suc, ◌≤◌}
use Rattle.std.specs.Prelude.{◌≡◌, Bool, List, [], ◌∷◌, length, drop}
use Rattle.std.proofs.Math.Path.{refl, sym, ap}
use Rattle.std.proofs.Common.{◌∙◌}
use Rattle.std.proofs.Math.Bool.{true, false}
use Rattle.std.proofs.Math.Option.{Option, none, some}
use Rattle.lexing.specs.Answer.{Answer, ok, refused}
use Rattle.lexing.specs.Bytes.{starts_with, bytes}
use Rattle.lexing.specs.Tokens as lexing
use Rattle.lexing.specs.TokenLaws.{starts_with-true}
use Rattle.tree.specs.Ast.{Span, Expr, Exprs, no_exprs, ◌then◌}
use Rattle.tree.specs.Resolve.{resolve_expr}
use Rattle.grammar.specs.Tokens.{Token, mark, illegal, rparen, comma}
use Rattle.grammar.specs.Grammar.{Tree}
use Rattle.grammar.specs.Parser as parser
use Rattle.grammar.specs.Parser.{Parsed, parsed, failed, Parser, looked, see, is_mark, parse_series, parse_items}
use Rattle.grammar.specs.Steps.{Reader, after, mapped, sign_at}
use Rattle.grammar.specs.StepLaws.{after-after}
use Rattle.grammar.specs.Rules as rules
use Rattle.grammar.specs.Rules.{exprs}
use Rattle.grammar.proofs.Laws.Looks.{mark-inv}
use Rattle.grammar.proofs.Laws.Stops.{see-misses}
use Rattle.grammar.proofs.Laws.Views.{spelt_mark}
use Rattle.grammar.proofs.Bridge.Relation.{tokens, Halted, fails, waits, refuses, reads, Dead, ends, absent, Sim, agree, dead, Test, seen, unclosed, missed}
use Rattle.grammar.proofs.Bridge.Relation.{dead-after, halted-after, sim-after, sim-see, none_halts, test-misses, test-none}
use Rattle.grammar.proofs.Bridge.Trees.{BadList, resolve_exprs, bad-first, bad-rest}
use Rattle.grammar.proofs.Bridge.Tests.{mark-test}
use Rattle.grammar.proofs.Bridge.Tails.{Level}

-- ---- what stands after a step goes into both its branches

see-after : {X A B : Type 0} (look : Token → Option X) (ts : List Token) (stop : Parsed A) (go : X → List Token → Parsed A) (k : A → List Token → Parsed B)
    → see look ts (parser.after stop k) (λ x us. parser.after (go x us) k) ≡ parser.after (see look ts stop go) k
unfolding see
see-after look [] stop go k = refl
see-after {X} look (o ∷ ts) stop go k = at (look o)
  where
    at : (x : Option X) → looked x ts (parser.after stop k) (λ x us. parser.after (go x us) k) ≡ parser.after (looked x ts stop go) k
    at none = refl
    at (some x) = refl

-- the simulation of lists of expressions
abbrev pub SimExprs : List ℕ → Answer (Exprs Span) → Parsed (Exprs (List ℕ)) → Type 0
SimExprs text = Sim text (resolve_exprs text) (BadList text)

module _ (text : List ℕ) where
  -- the closing bracket after a list
  abbrev close : Answer (Exprs Span) → Answer (Exprs Span)
  close r = after r Answer.none (λ l at. after (sign_at text (spelt_mark rparen) at) (refused 2 at) (λ _ at₁. ok l at₁))

  close-mapped : (f : Exprs Span → Exprs Span) (r : Answer (Exprs Span)) → close (mapped f r) ≡ mapped f (close r)
  unfolding after
  close-mapped f (ok l at) = sym (after-after (sign_at text (spelt_mark rparen) at) (refused 2 at) (λ _ at₁. ok l at₁) Answer.none (λ l at. ok (f l) at))
  close-mapped f Answer.none = refl
  close-mapped f (refused number place) = refl

  -- an empty list
  nil-sim : (at : ℕ) → SimExprs text (close (ok no_exprs at)) (see (is_mark rparen) (tokens text at) failed (λ x vs. parsed no_exprs vs))
  unfolding after
  nil-sim at = sim-see _ _ _ _ (mark-test text at rparen) (dead (ends refuses) fails) (λ _ at₁ h. agree no_exprs at₁ h) (λ x us. waits)

  module _ (m : ℕ) {c : Reader (Expr Span)} {e : Parser} (l : Level text c e) where
    -- the rest of a list after an item
    abbrev rest : ℕ → List Token → Parsed (Exprs (List ℕ))
    rest k us = see (is_mark comma) us (see (is_mark rparen) us failed (λ x vs. parsed no_exprs vs)) (λ x vs. parse_series k e vs)

    first_rest : (k : ℕ) (t : Tree) (us : List Token)
        → see (is_mark comma) us (see (is_mark rparen) us failed (λ x vs. parsed (◌then◌ t no_exprs) vs))
        (λ x vs. parser.after (parse_series k e vs) (λ es ws. parsed (◌then◌ t es) ws)) ≡ parser.after (rest k us) (λ es ws. parsed (◌then◌ t es) ws)
    unfolding parser.after
    first_rest k t us =
        ap (λ r. see (is_mark comma) us r (λ x vs. parser.after (parse_series k e vs) (λ es ws. parsed (◌then◌ t es) ws)))
        (see-after (is_mark rparen) us failed (λ x vs. parsed no_exprs vs) (λ es ws. parsed (◌then◌ t es) ws))
        ∙ see-after (is_mark comma) us (see (is_mark rparen) us failed (λ x vs. parsed no_exprs vs)) (λ x vs. parse_series k e vs) (λ es ws. parsed (◌then◌ t es) ws)

    rest-halts : (k : ℕ) (us : List Token) → Halted (rest k (illegal ∷ us))
    unfolding see is_mark
    rest-halts k us = fails

    -- an item and the rest of a list, by the simulation of the rest
    item-sim : (k : ℕ) → ((at : ℕ) → at ≤ length text → SimExprs text (close (rules.comma_tail text exprs k c at)) (rest k (tokens text at)))
        → (stop : Answer (Exprs Span)) → Dead (BadList text) stop → (at : ℕ)
        → SimExprs text (after (c at) stop (λ a at₁. close (mapped (◌then◌ a) (rules.comma_tail text exprs k c at₁)))) (parse_series (suc k) e (tokens text at))
    unfolding parse_series
    item-sim k ih stop d at =
        sim-after stop _ _ (l.sim at) d
        (λ a at₁ h. rw (first_rest k (resolve_expr text a) (tokens text at₁), close-mapped (◌then◌ a))
        (sim-after _ _ _ (ih at₁ h) absent (λ es at₂ h₂. agree (◌then◌ a es) at₂ h₂) (λ es at₂ bad. ends (reads (bad-rest text a es bad))) (λ es ws. waits)))
        (λ a at₁ bad. rw (close-mapped (◌then◌ a))
        (dead-after (close (rules.comma_tail text exprs k c at₁)) _ _ absent (λ es at₂. ends (reads (bad-first text a es bad)))))
        (λ t us. rw (first_rest k t (illegal ∷ us)) (halted-after _ (rest-halts k us) (λ es ws. waits)))

    -- no turns left: a comma is refused
    no-turns : {r : Answer ℕ} {ts : List Token} {d : Answer (Exprs Span)} {stop : Parsed (Exprs (List ℕ))} → Test text (λ _. tt) (is_mark comma) r ts
        → SimExprs text d stop → ((us : List Token) → ts ≡ mark comma ∷ us → Dead (BadList text) d)
        → SimExprs text d (see (is_mark comma) ts stop (λ x vs. failed))
    unfolding see
    no-turns (seen a next o h e) s k = rw e (dead (k (tokens text next) (ap (λ o. o ∷ tokens text next) (mark-inv comma o e))) fails)
    no-turns (unclosed number place o x ts e) s k = rw e (dead (k (illegal ∷ ts) (ap (λ o. o ∷ illegal ∷ ts) (mark-inv comma o e))) fails)
    no-turns {stop} (missed {ts} n) s k = rw (see-misses (is_mark comma) ts stop (λ x vs. failed) n) s

    no-close : (at : ℕ) (us : List Token) → tokens text at ≡ mark comma ∷ us → Dead (BadList text) (close (ok no_exprs at))
    unfolding after is_mark
    no-close at us t = rw (test-misses (mark-test text at rparen) (rw t refl)) (ends refuses)

    close-refused : (number place : ℕ) → Dead (BadList text) (close (refused number place))
    unfolding after
    close-refused number place = ends refuses

    series-halts : (k : ℕ) (us : List Token) → Halted (parse_series k e (illegal ∷ us))
    unfolding parse_series
    series-halts zero us = fails
    series-halts (suc k) us =
        halted-after _ (l.halts us) (λ t vs. rw (first_rest k t (illegal ∷ vs)) (halted-after _ (rest-halts k vs) (λ es ws. waits)))

    comma-sim : (k : ℕ) → ((at : ℕ) → at ≤ length text → SimExprs text (close (rules.comma_tail text exprs k c at)) (rest k (tokens text at)))
        → (at : ℕ)
        → SimExprs text
        (close (after (sign_at text (spelt_mark comma) at) (ok no_exprs at)
        (λ _ at₁. after (c at₁) (refused 2 at₁) (λ a at₂. mapped (◌then◌ a) (rules.comma_tail text exprs k c at₂))))) (rest (suc k) (tokens text at))
    comma-sim k ih at =
        rw (after-after (sign_at text (spelt_mark comma) at))
        (sim-see _ _ _ _ (mark-test text at comma) (nil-sim at)
        (λ _ at₁ h. rw (after-after (c at₁)) (item-sim k ih (close (refused 2 at₁)) (close-refused 2 at₁) at₁)) (λ x us. series-halts (suc k) us))

    rest-sim : (k at : ℕ) → at ≤ length text → SimExprs text (close (rules.comma_tail text exprs k c at)) (rest k (tokens text at))
    unfolding rules.comma_tail parse_series
    rest-sim zero at h = no-turns (mark-test text at comma) (nil-sim at) (λ us t. no-close at us t)
    rest-sim (suc k) at h = comma-sim k (rest-sim k) at

    -- a list of at least one expression
    abbrev nonempty : Reader (Exprs Span)
    nonempty at = rules.parse_nonempty_comma_delimited_seq text m exprs c at

    nonempty-sim : (at : ℕ) → SimExprs text (close (nonempty at)) (parse_series (suc m) e (tokens text at))
    unfolding rules.parse_nonempty_comma_delimited_seq after
    nonempty-sim at = rw (after-after (c at)) (item-sim m (rest-sim m) (close Answer.none) absent at)

    -- where the closing bracket stands the list is empty
    closed-sim : (at : ℕ) (s : List ℕ) → drop at text ≡ 41 ∷ s
        → SimExprs text (close (after (nonempty at) (ok no_exprs at) (λ a next. ok a next))) (parse_items m e (tokens text at))
    unfolding rules.parse_nonempty_comma_delimited_seq parse_items after
    closed-sim at s p =
        let n : nonempty at ≡ Answer.none = rw (l.closed at s p) refl in
        rw n
        (sim-see _ _ _ _ (mark-test text at rparen) (dead (ends refuses) (none_halts (rw n at (nonempty-sim at)))) (λ _ at₁ h. agree no_exprs at₁ h)
        (λ x us. waits))

    -- where it doesn't, an empty list is refused
    open-sim : (at : ℕ) → sign_at text (spelt_mark rparen) at ≡ Answer.none → (r : Answer (Exprs Span)) {o : Parsed (Exprs (List ℕ))} → SimExprs text (close r) o
        → SimExprs text (close (after r (ok no_exprs at) (λ a next. ok a next))) o
    unfolding after
    open-sim at n (ok l₁ next) s = s
    open-sim at n Answer.none s = rw n (dead (ends refuses) (none_halts s))
    open-sim at n (refused number place) s = s

    -- a list that may be empty is never absent, so that what is refused where it is absent doesn't count
    listed : (at : ℕ) → rules.parse_listed text m exprs c (bytes ")") at ≡ close (rules.parse_comma_delimited_seq text m exprs c at)
    unfolding rules.parse_listed rules.parse_comma_delimited_seq after
    listed at = by_answer (nonempty at)
      where
        by_answer : (r : Answer (Exprs Span))
            → after (after r (ok no_exprs at) (λ a next. ok a next)) (refused 2 at) (λ l at₁. after (sign_at text (spelt_mark rparen) at₁) (refused 2 at₁) (λ _ at₂. ok l at₂))
            ≡ close (after r (ok no_exprs at) (λ a next. ok a next))
        by_answer (ok es next) = refl
        by_answer Answer.none = refl
        by_answer (refused number place) = refl

    -- a call's arguments and the closing bracket
    pub items-sim : (at : ℕ) → SimExprs text (rules.parse_listed text m exprs c (bytes ")") at) (parse_items m e (tokens text at))
    unfolding rules.parse_comma_delimited_seq parse_items lexing.sign
    items-sim at = rw (listed at) (by-bracket (starts_with (spelt_mark rparen) (drop at text)) refl)
      where
        by-bracket : (b : Bool) → starts_with (spelt_mark rparen) (drop at text) ≡ b
            → SimExprs text (close (after (nonempty at) (ok no_exprs at) (λ a next. ok a next))) (parse_items m e (tokens text at))
        by-bracket true p = closed-sim at (drop 1 (drop at text)) (starts_with-true (spelt_mark rparen) (drop at text) p)
        by-bracket false p =
            let n : sign_at text (spelt_mark rparen) at ≡ Answer.none = rw p refl in
            rw (see-misses (is_mark rparen) (tokens text at) _ _ (test-none (rw n at (mark-test text at rparen)))) (open-sim at n (nonempty at) (nonempty-sim at))

    -- which do not begin with an illegal token
    pub items-halts : (us : List Token) → Halted (parse_items m e (illegal ∷ us))
    unfolding parse_items see is_mark
    items-halts us = series-halts (suc m) us
