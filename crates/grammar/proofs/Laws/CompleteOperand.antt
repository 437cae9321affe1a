-- The parser is complete: operands.
use Prim.Native.Nat.{ℕ, zero, suc, pred, ◌+◌, ◌≤◌, ◌<◌}
use Rattle.std.specs.Prelude.{◌≡◌, length}
use Rattle.std.proofs.Math.Path.{refl}
use Rattle.std.proofs.Common.{sym, ◌∙◌, arith}
use mathlib.Core.List.{List, [], ◌∷◌, ◌++◌, append_assoc}
use Rattle.std.proofs.Math.Option.{none, some}
use Rattle.std.proofs.Math.ListN.{length-append}
use Rattle.lexing.specs.RunLaws.{pick-both}
use Rattle.lexing.specs.Bytes.{same_bytes, bytes}
use Rattle.tree.specs.Ast.{Operator, Exprs, no_exprs, ◌then◌}
use Rattle.grammar.specs.Words.{one_of, is_name}
use Rattle.grammar.specs.Tokens.{Token, name, nat, mark, sign, illegal, lparen, rparen, comma}
use Rattle.grammar.specs.Grammar.{Tree, Rule, single, role, word_role, as_unary, unary, Series, Items, Operand, Unary}
use Rattle.grammar.specs.Grammar.{last, also, empty, series, falsehood, truth, natural, variable, old_variable, call, bracketed, bare}
use Rattle.grammar.specs.Grammar.{prefixed}
use Rattle.grammar.specs.Parser.{parsed, failed, Parser, after, see, is_nat, is_word, is_mark, parse_series, parse_items, parse_named}
use Rattle.grammar.specs.Parser.{parse_excluded, parse_bracketed, parse_operand, parse_unary}
use Rattle.tree.specs.Clash.{impossible}
use Rattle.grammar.proofs.Laws.Looks.{mark-inv}
use Rattle.grammar.proofs.Laws.Stops.{misses, see-misses, Stops, stops-rparen, stops-comma}
use Rattle.grammar.proofs.Laws.Complete.{Complete}

never : {X : Type 0} {x : X} {ts : List Token} → parsed x ts ≡ failed → ⊥
never e = impossible (cc)

module _ {n m : ℕ} {E : Rule} {e : Parser} (s : Complete n m E e) (closed : (ts : List Token) → e (mark rparen ∷ ts) ≡ failed) where
  last_step : (k : ℕ) {ts : List Token} {t : Tree} → E ts t → length ts ≤ m → (rest : List Token) → 0 < k
      → parse_series k e (ts ++ mark rparen ∷ rest) ≡ parsed (◌then◌ t no_exprs) rest
  unfolding parse_series after see is_mark
  last_step zero d h rest z = absurd (omega arith)
  last_step (suc k) d h rest z = rw (s.parses d h (mark rparen ∷ rest) stops-rparen) refl

  also-step : (k : ℕ) {ts : List Token} (us : List Token) {t : Tree} {es : Exprs (List ℕ)} {rest : List Token} → E ts t → length ts ≤ m → 0 < k
      → parse_series (pred k) e us ≡ parsed es rest → parse_series k e (ts ++ mark comma ∷ us) ≡ parsed (◌then◌ t es) rest
  unfolding parse_series after see is_mark
  also-step zero us d h z x = absurd (omega arith)
  also-step (suc k) us d h z x = rw (s.parses d h (mark comma ∷ us) stops-comma, x) refl

  series-parses : (k : ℕ) {ts : List Token} {es : Exprs (List ℕ)} → Series E ts es → length ts < k → length ts ≤ m → (rest : List Token)
      → parse_series k e (ts ++ mark rparen ∷ rest) ≡ parsed es rest
  series-parses k (last d) i h rest = last_step k d h rest (omega arith)
  series-parses k (also {ts} {us} d x) i h rest =
      let long : length (ts ++ mark comma ∷ us) ≡ length ts + suc (length us) = length-append ts (mark comma ∷ us) in
      rw (append_assoc ts (mark comma ∷ us) (mark rparen ∷ rest))
      (also-step k (us ++ mark rparen ∷ rest) d (omega arith) (omega arith) (series-parses (pred k) x (omega arith) (omega arith) rest))

  no-series : (k : ℕ) (ts : List Token) → parse_series k e (mark rparen ∷ ts) ≡ failed
  unfolding parse_series after
  no-series zero ts = refl
  no-series (suc k) ts = rw (closed ts) refl

  items-parses : {ts : List Token} {es : Exprs (List ℕ)} → Items E ts es → length ts ≤ m → (rest : List Token)
      → parse_items m e (ts ++ mark rparen ∷ rest) ≡ parsed es rest
  unfolding parse_items see is_mark
  items-parses empty h rest = refl
  items-parses (series {ts} {es} d) h rest =
      let x : parse_series (suc m) e (ts ++ mark rparen ∷ rest) ≡ parsed es rest = series-parses (suc m) d (omega arith) h rest in
      see-misses (is_mark rparen) (ts ++ mark rparen ∷ rest) _ _
      (misses (is_mark rparen) (ts ++ mark rparen ∷ rest) (λ o us y f l. never (sym x ∙ rw (f, mark-inv rparen o l) (no-series (suc m) us)))) ∙ x

  bracketed-parses : {ts : List Token} {t : Tree} → E ts t → length ts ≤ m → (rest : List Token) → parse_bracketed e (ts ++ mark rparen ∷ rest) ≡ parsed t rest
  unfolding parse_bracketed after see is_mark
  bracketed-parses d h rest = rw (s.parses d h (mark rparen ∷ rest) stops-rparen) refl

  operand-parses : {ts : List Token} {t : Tree} → Operand E ts t → length ts ≤ m → (rest : List Token) → Stops 0 rest → parse_operand m e (ts ++ rest) ≡ parsed t rest
  unfolding parse_operand parse_named parse_excluded after see is_nat is_word is_mark is_name one_of same_bytes
  operand-parses falsehood h rest st = refl
  operand-parses truth h rest st = refl
  operand-parses natural h rest st = refl
  operand-parses (variable n) h rest st = rw n (see-misses (is_mark lparen) rest _ _ st.no_call)
  operand-parses old_variable h rest st = refl
  operand-parses (call {ts} n x) h rest st =
      rw (n, append_assoc ts (mark rparen ∷ []) rest, items-parses x (omega (arith, length-append ts (mark rparen ∷ []))) rest) refl
  operand-parses (bracketed {ts} d) h rest st =
      rw (append_assoc ts (mark rparen ∷ []) rest) (bracketed-parses d (omega (arith, length-append ts (mark rparen ∷ []))) rest)

  -- a derived operand is what is read
  pub operand-complete : Complete 0 m (Operand E) (parse_operand m e)
  operand-complete = record { parses = λ d h rest st. operand-parses d h rest st }

no-prefix : (w : List ℕ) → unary (name w) ≡ none
unfolding unary role word_role
no-prefix w = pick-both (λ r. as_unary r ≡ none) (same_bytes w (bytes "div")) refl (pick-both (λ r. as_unary r ≡ none) (same_bytes w (bytes "mod")) refl refl)

-- no operand begins with a prefix
pub unprefixed : (m : ℕ) (e : Parser) (o : Token) (op : Operator) (ts : List Token) → unary o ≡ some op → parse_operand m e (o ∷ ts) ≡ failed
unfolding parse_operand see is_nat is_word is_mark unary role
unprefixed m e (name w) op ts l = impossible (cc (no-prefix w))
unprefixed m e (nat n) op ts l = impossible (cc)
unprefixed m e (mark k) op ts l = impossible (cc)
unprefixed m e (sign g) op ts l = refl
unprefixed m e illegal op ts l = impossible (cc)

module _ {m : ℕ} {S : Rule} {p : Parser} (s : Complete 0 m S p) (plain : (o : Token) (op : Operator) (ts : List Token) → unary o ≡ some op → p (o ∷ ts) ≡ failed) where
  bare-parses : (k : ℕ) {ts : List Token} {t : Tree} → S ts t → length ts ≤ m → (rest : List Token) → Stops 0 rest → parse_unary k p (ts ++ rest) ≡ parsed t rest
  unfolding parse_unary
  bare-parses zero d h rest st = s.parses d h rest st
  bare-parses (suc k) {ts} d h rest st =
      let x = s.parses d h rest st in
      see-misses unary (ts ++ rest) _ _ (misses unary (ts ++ rest) (λ o us op f l. never (sym x ∙ rw f (plain o op us l)))) ∙ x

  prefixed-step : (k : ℕ) (ts : List Token) {t : Tree} {op : Operator} {rest : List Token} (o : Token) → unary o ≡ some op → 0 < k
      → parse_unary (pred k) p (ts ++ rest) ≡ parsed t rest → parse_unary k p (o ∷ ts ++ rest) ≡ parsed (single op t) rest
  unfolding parse_unary see after
  prefixed-step zero ts o l z x = absurd (omega arith)
  prefixed-step (suc k) ts o l z x = rw (l, x) refl

  unary-parses : (k : ℕ) {ts : List Token} {t : Tree} → Unary S ts t → length ts ≤ k → length ts ≤ m → (rest : List Token) → Stops 0 rest
      → parse_unary k p (ts ++ rest) ≡ parsed t rest
  unary-parses k (bare d) i h rest st = bare-parses k d h rest st
  unary-parses k (prefixed {ts} {o} l d) i h rest st = prefixed-step k ts o l (omega arith) (unary-parses (pred k) d (omega arith) (omega arith) rest st)

  -- and so it is with prefixes
  pub unary-complete : Complete 0 m (Unary S) (parse_unary m p)
  unary-complete = record { parses = λ d h rest st. unary-parses m d h h rest st }
