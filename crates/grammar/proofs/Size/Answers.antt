-- What a rule gives has at most five words for each byte that the rule takes, and so many more: the laws of tokens, of the combinators (Steps.antt)
-- and of the sequences (Rules.antt, Statements.antt).
use Prim.Native.Nat.{ℕ, zero, suc, ◌+◌, ◌*◌, ◌≤◌}
use Rattle.std.proofs.Common.{arith}
use Rattle.std.specs.Prelude.{Bool, true, false, List, [], ◌∷◌, length, drop}
use Rattle.lexing.specs.Answer.{Answer, ok, refused, moved, pick}
use Rattle.lexing.specs.Tokens.{parse_id, parse_custom_literal, keyword, sign, sign_not_prefix, natural}
use Rattle.lexing.specs.TokenLaws.{Within, parse_id-within, parse_custom_literal-within, natural-within, sign-within, sign_not_prefix-within, keyword-within}
use Rattle.grammar.specs.Steps.{Reader, after, ◌or◌, keyword_at, sign_at, parse_name, parse_literal_text, parse_nat}
use Rattle.grammar.specs.Rules.{Sequence, comma_tail, parse_nonempty_comma_delimited_seq, parse_comma_delimited_seq, parse_listed}
use Rattle.grammar.specs.Statements.{rep}
use Rattle.grammar.proofs.Size.Sizes.{seq_size}

-- n words are at most five for each byte from `at` to `next`, and so many more
abbrev pub Few : ℕ → ℕ → ℕ → ℕ → Type 0
Few n at next more = n + 5 * at ≤ 5 * next + more

-- the words of what is given, if anything, are so few from `at` on
pub data FewAt {A : Type 0} (size : A → ℕ) (at more : ℕ) : Answer A → Type 0 where
  few : {a : A} {next : ℕ} → Few (size a) at next more → FewAt size at more (ok a next)
  nothing : FewAt size at more Answer.none
  refuses : {number place : ℕ} → FewAt size at more (refused number place)

-- the same of a rule, at every place
abbrev pub FewWords : {A : Type 0} → (A → ℕ) → ℕ → Reader A → Type 0
FewWords size more rule = (at : ℕ) → FewAt size at more (rule at)

-- as an item of a sequence, with the 1 before it
abbrev pub item : {A : Type 0} → (A → ℕ) → A → ℕ
item size a = 1 + size a

-- ---- the combinators

module _ {A : Type 0} (size : A → ℕ) (more : ℕ) {B : Type 0} {s : B → ℕ} {from m : ℕ} {stop : Answer B} {go : A → ℕ → Answer B} where
  -- after a step
  pub step : {r : Answer A} {at : ℕ} → FewAt size at more r → FewAt s from m stop
      → ((a : A) (next : ℕ) → Few (size a) at next more → FewAt s from m (go a next)) → FewAt s from m (after r stop go)
  unfolding after
  step (few {a} {next} h) p k = k a next h
  step nothing p k = p
  step refuses p k = refuses

-- after a rule
pub by : {A : Type 0} {size : A → ℕ} {more : ℕ} {rule : Reader A} → FewWords size more rule
    → {B : Type 0} {s : B → ℕ} {from m : ℕ} {stop : Answer B} {go : A → ℕ → Answer B} (at : ℕ) → FewAt s from m stop
    → ((a : A) (next : ℕ) → Few (size a) at next more → FewAt s from m (go a next)) → FewAt s from m (after (rule at) stop go)
by h at = step _ _ (h at)

module _ {A : Type 0} {size : A → ℕ} {at more : ℕ} where
  pub either : {r q : Answer A} → FewAt size at more r → FewAt size at more q → FewAt size at more (r or q)
  either g h = step size more g h (λ a next. few)

  pub picked : {r q : Answer A} (b : Bool) → FewAt size at more r → FewAt size at more q → FewAt size at more (pick b r q)
  picked true g h = g
  picked false g h = h

  -- from an earlier place, with so many less; and of a smaller size
  pub since : {from less : ℕ} {r : Answer A} → 5 * from + more ≤ 5 * at + less → FewAt size at more r → FewAt size from less r
  since l (few {a} {next} h) = few {a = a} {next = next} (omega arith)
  since l nothing = nothing
  since l refuses = refuses

  pub lighter : {small : A → ℕ} {r : Answer A} → ((a : A) → small a ≤ size a) → FewAt size at more r → FewAt small at more r
  lighter l (few {a} {next} h) = few {a = a} {next = next} (omega (arith, l a))
  lighter l nothing = nothing
  lighter l refuses = refuses

-- ---- tokens: at least five words for each byte of theirs

-- a token of at least k bytes
token-few : (k n at : ℕ) (r : Answer ℕ) → Within k n r → FewAt (λ _. 5 * k) at 0 (moved at r)
token-few k n at (ok v next) h = few {next = at + next} (omega arith)
token-few k n at Answer.none h = nothing
token-few k n at (refused number place) h = refuses

module _ (text : List ℕ) where
  pub keyword-few : (w : List ℕ) → FewWords (λ _. 5 * length w) 0 (keyword_at text w)
  keyword-few w at = token-few _ _ at (keyword w (drop at text)) (keyword-within w (drop at text))

  pub sign-few : (w : List ℕ) → FewWords (λ _. 5 * length w) 0 (sign_at text w)
  sign-few w at = token-few _ _ at (sign w (drop at text)) (sign-within w (drop at text))

  pub not_prefix-few : (w longer : List ℕ) → FewWords (λ _. 5 * length w) 0 (λ at. moved at (sign_not_prefix w longer (drop at text)))
  not_prefix-few w longer at = token-few _ _ at (sign_not_prefix w longer (drop at text)) (sign_not_prefix-within w longer (drop at text))

  pub natural-few : FewWords (λ _. 5) 0 (parse_nat text)
  natural-few at = token-few 1 _ at (natural (drop at text)) (natural-within (drop at text))

  pub name-few : FewWords (λ _. 5) 0 (parse_name text)
  name-few at = step _ _ (token-few 1 _ at (parse_id (drop at text)) (parse_id-within (drop at text))) nothing (λ _ _. few)

  pub literal-few : FewWords (λ _. 5) 0 (parse_literal_text text)
  literal-few at = step _ _ (token-few 1 _ at (parse_custom_literal (drop at text)) (parse_custom_literal-within (drop at text))) nothing (λ _ _. few)

  -- after a word, whose first byte allows five words more
  pub led : {A : Type 0} {size : A → ℕ} {rule : Reader A} → FewWords size 5 rule → (b : ℕ) (w : List ℕ) (at : ℕ)
      → FewAt size at 0 (after (keyword_at text (b ∷ w) at) Answer.none (λ _ at₁. rule at₁))
  led h b w at = by (keyword-few (b ∷ w)) at nothing (λ _ at₁ p. since (omega arith) (h at₁))

-- ---- sequences

-- how many words a sequence has: no more than its items, each with the 1 before it, and so many at its end
pub record Sums {A L : Type 0} (q : Sequence A L) (each : A → ℕ) (all : L → ℕ) (end : ℕ) : Type 0 where
  pub none : all q.nil ≤ end
  pub more : (a : A) (l : L) → all (q.cons a l) ≤ item each a + all l

-- a list
pub list-sums : {A : Type 0} (each : A → ℕ) → Sums (record { nil = []; cons = ◌∷◌ }) each (seq_size each) 1
list-sums each = record { none = omega arith; more = λ a l. omega arith }

module _ {A L : Type 0} {q : Sequence A L} {each : A → ℕ} {all : L → ℕ} {end : ℕ} (k : Sums q each all end) where
  -- of items that are few with the 1 before them
  pub rep-few : {rule : Reader A} → FewWords (item each) 0 rule → (n : ℕ) → FewWords all end (rep q n rule)
  unfolding rep
  rep-few h zero at = few {a = q.nil} {next = at} (omega (arith, k.none))
  rep-few h (suc n) at =
      by h at (few (omega (arith, k.none))) (λ a at₁ p. by (rep-few h n) at₁ nothing (λ l at₂ p₂. few (omega (arith, k.more a l))))

  -- of items that have up to five more, as many as a comma allows
  module _ (text : List ℕ) {rule : Reader A} (over : ℕ) (small : over ≤ 5) (h : FewWords (item each) over rule) where
    comma_tail-few : (n : ℕ) → FewWords all end (comma_tail text q n rule)
    unfolding comma_tail
    comma_tail-few zero at = few {a = q.nil} {next = at} (omega (arith, k.none))
    comma_tail-few (suc n) at =
        by (sign-few text _) at (few (omega (arith, k.none)))
        (λ _ at₁ p₁. by h at₁ refuses (λ a at₂ p₂. by (comma_tail-few n) at₂ nothing (λ l at₃ p₃. few (omega (arith, k.more a l)))))

    module _ (m : ℕ) where
      pub nonempty-few : FewWords all (over + end) (parse_nonempty_comma_delimited_seq text m q rule)
      unfolding parse_nonempty_comma_delimited_seq
      nonempty-few at = by h at nothing (λ a at₁ p₁. by (comma_tail-few m) at₁ nothing (λ l at₂ p₂. few (omega (arith, k.more a l))))

      pub listed-few : (close : List ℕ) → FewWords all (over + end) (parse_listed text m q rule close)
      unfolding parse_listed parse_comma_delimited_seq
      listed-few close at =
          step all (over + end) (either (nonempty-few at) (few (omega (arith, k.none)))) refuses
          (λ l at₁ p₁. by (sign-few text close) at₁ refuses (λ _ at₂ p₂. few (omega arith)))
