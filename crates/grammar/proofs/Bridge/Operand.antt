-- The simulation of operands, and of the prefixes before them.
use Prim.Native.Nat.{ℕ, zero, suc, ◌+◌, ◌≤◌}
use Rattle.std.specs.Prelude.{◌≡◌, Bool, List, ◌∷◌, length, drop, take, leb}
use Rattle.std.proofs.Math.Path.{refl}
use Rattle.std.proofs.Common.{◌∙◌, ap}
use Rattle.std.proofs.Math.Bool.{true, false}
use Rattle.lexing.specs.Answer.{Answer, ok, refused, large_natural, moved, pick}
use Rattle.lexing.specs.Bytes.{is_digit, can_start_identifier_char, run, starts_with, same_bytes}
use Rattle.lexing.specs.Blanks.{Blanks, passed, unclosed, W}
use Rattle.lexing.specs.Tokens as lexing
use Rattle.lexing.specs.Tokens.{closed, lexeme, identifier_length, decimal, most_natural}
use Rattle.lexing.specs.TokenLaws.{starts_with-true}
use Rattle.tree.specs.Ast.{Span, Expr, ILiteral}
use Rattle.grammar.specs.Tokens.{Token, nat, illegal, lparen}
use Rattle.grammar.specs.Grammar.{unary, role, single}
use Rattle.grammar.specs.Parser.{failed, Parser, see, is_nat, is_word, is_mark, parse_bracketed, parse_operand, parse_unary}
use Rattle.grammar.specs.Steps.{Reader, after, mapped, Sym, sign_at, parse_nat}
use Rattle.grammar.specs.Rules as rules
use Rattle.grammar.proofs.Laws.Stops.{Misses, see-misses}
use Rattle.grammar.proofs.Laws.Views.{spelt_mark}
use Rattle.grammar.proofs.Bridge.Relation.{Halted, fails, waits, refuses, reads, Dead, ends, absent, agree, dead, tokens}
use Rattle.grammar.proofs.Bridge.Relation.{dead-after, dead-then, halted-after, sim-after, sim-see, test-none}
use Rattle.grammar.proofs.Bridge.Places.{limit, follow, tokens-here, inside-here, nothing-here}
use Rattle.grammar.proofs.Bridge.Trees.{Bad, bad-single}
use Rattle.grammar.proofs.Bridge.Tests.{Stands, word, digits, other, nowhere, stands, mark-test, prefix-test}
use Rattle.grammar.proofs.Bridge.Tails.{SimExpr, Level}
use Rattle.grammar.proofs.Bridge.NoOperand.{bar-ends}
use Rattle.grammar.proofs.Bridge.AfterName.{bracketed-sim, bracketed-halts}
use Rattle.grammar.proofs.Bridge.WordOperand.{word-sim}

module _ (text : List ℕ) (m : ℕ) {c : Reader (Expr Span)} {e : Parser} (l : Level text c e) (at : ℕ) where
  abbrev primary : Answer (Expr Span)
  primary = rules.parse_primary_expr text m c at

  -- a natural of n digits, where no word stands; x says that it keeps the limit
  natural-by : (n v : ℕ) (q : Answer (Expr Span)) (x : Bool) (b : Blanks) → ((k : ℕ) → b ≡ passed k → at + (n + k) ≤ length text)
      → SimExpr text (after (mapped ILiteral (moved at (pick x (closed v n b) (refused large_natural 0)))) q (λ a next. ok a next))
      (parse_operand m e (pick x (nat v) illegal ∷ follow text at n b))
  unfolding after parse_operand see is_nat is_word is_mark
  natural-by n v q true (passed k) i = agree (ILiteral v) (at + (n + k)) (i k refl)
  natural-by n v q true (unclosed place) i = dead (ends refuses) waits
  natural-by n v q false b i = dead (ends refuses) fails

  -- the branches at a place where no word stands
  abbrev number : Answer ℕ → Answer (Expr Span)
  number r =
      after (mapped ILiteral r)
      (after (after (Sym text "|" at) Answer.none (λ _ at₁. rules.after_bar text at₁))
      (after (sign_at text (spelt_mark lparen) at) Answer.none (λ _ at₁. rules.after_paren text c at₁)) (λ a next. ok a next)) (λ a next. ok a next)

  wordless : identifier_length (drop at text) ≡ 0 → primary ≡ number (parse_nat text at)
  unfolding rules.parse_primary_expr rules.parse_atomic_expr after lexing.keyword lexing.parse_id same_bytes
  wordless i = rw i refl

  natural-here : (n : ℕ) → run is_digit (drop at text) ≡ suc n
      → parse_nat text at
      ≡ moved at (pick (leb (decimal 0 (take (suc n) (drop at text))) most_natural)
      (closed (decimal 0 (take (suc n) (drop at text))) (suc n) (W (drop (suc n) (drop at text)))) (refused large_natural 0))
  unfolding lexing.natural lexeme
  natural-here n d = rw d refl

  natural-sim : (n : ℕ) → identifier_length (drop at text) ≡ 0 → run is_digit (drop at text) ≡ suc n
      → ((k : ℕ) → W (drop (suc n) (drop at text)) ≡ passed k → at + (suc n + k) ≤ length text)
      → SimExpr text primary
      (parse_operand m e (limit (nat (decimal 0 (take (suc n) (drop at text)))) ∷ follow text at (suc n) (W (drop (suc n) (drop at text)))))
  natural-sim n i d f =
      rw (wordless i, natural-here n d)
      (natural-by (suc n) (decimal 0 (take (suc n) (drop at text))) _ (leb (decimal 0 (take (suc n) (drop at text))) most_natural) _ f)

  -- neither a word nor a natural: an opening bracket, or no operand
  bracket : Misses is_nat (tokens text at) → Misses is_word (tokens text at)
      → parse_operand m e (tokens text at) ≡ see (is_mark lparen) (tokens text at) failed (λ x us. parse_bracketed e us)
  unfolding parse_operand
  bracket n w = see-misses is_nat (tokens text at) _ _ n ∙ see-misses is_word (tokens text at) _ _ w

  open-primary : (s : List ℕ) → drop at text ≡ 40 ∷ s
      → primary ≡ after (sign_at text (spelt_mark lparen) at) Answer.none (λ _ at₁. rules.after_paren text c at₁)
  unfolding rules.parse_primary_expr rules.parse_atomic_expr after lexing.keyword lexing.parse_id lexing.natural lexing.sign same_bytes identifier_length can_start_identifier_char is_digit run starts_with
  open-primary s p = rw p refl

  -- a custom literal, or nothing
  bar-dead : sign_at text (spelt_mark lparen) at ≡ Answer.none → Dead (Bad text) (number Answer.none)
  unfolding after
  bar-dead q =
      rw q
      (dead-then Answer.none _ (dead-after (Sym text "|" at) Answer.none _ absent (λ _ at₁. ends (bar-ends text at₁))) absent
      (λ a next p. ends (reads p)))

  bracket-sim : Misses is_nat (tokens text at) → Misses is_word (tokens text at) → identifier_length (drop at text) ≡ 0 → run is_digit (drop at text) ≡ 0
      → SimExpr text primary (parse_operand m e (tokens text at))
  unfolding lexing.sign lexing.natural
  bracket-sim n w i d = rw (bracket n w) (by-bracket (starts_with (spelt_mark lparen) (drop at text)) refl)
    where
      by-bracket : (x : Bool) → starts_with (spelt_mark lparen) (drop at text) ≡ x
          → SimExpr text primary (see (is_mark lparen) (tokens text at) failed (λ x us. parse_bracketed e us))
      by-bracket true p =
          rw (open-primary (drop 1 (drop at text)) (starts_with-true (spelt_mark lparen) (drop at text) p))
          (sim-see _ _ _ _ (mark-test text at lparen) (dead absent fails) (λ _ at₁ h. bracketed-sim text l at₁) (λ x us. bracketed-halts text l us))
      by-bracket false p =
          let q : sign_at text (spelt_mark lparen) at ≡ Answer.none = rw p refl in
          let r : parse_nat text at ≡ Answer.none = rw d refl in
          rw (see-misses (is_mark lparen) (tokens text at) _ _ (test-none (rw q at (mark-test text at lparen))), wordless i, r) (dead (bar-dead q) fails)

  operand-by : Stands text at → SimExpr text primary (parse_operand m e (tokens text at))
  unfolding is_nat is_word is_mark
  operand-by (word n t a) =
      rw (tokens-here text at t)
      (word-sim text m l at n (ap (λ r. r.name) a) (λ k w. inside-here text at t w) (ap (λ r. r.digits) a) (ap (λ r. r.opening) a))
  operand-by (digits n t a) =
      rw (tokens-here text at t) (natural-sim n (ap (λ r. r.name) a) (ap (λ r. r.digits) a) (λ k w. inside-here text at t w))
  operand-by (other o n t k x y a) =
      bracket-sim (rw (tokens-here text at t, k) x) (rw (tokens-here text at t, k) y) (ap (λ r. r.name) a) (ap (λ r. r.digits) a)
  operand-by (nowhere t a) =
      bracket-sim (nothing-here text at is_nat refl t) (nothing-here text at is_word refl t) (ap (λ r. r.name) a) (ap (λ r. r.digits) a)

  no-primary : (s : List ℕ) → drop at text ≡ 41 ∷ s → primary ≡ Answer.none
  unfolding rules.parse_primary_expr rules.parse_atomic_expr after lexing.keyword lexing.parse_id lexing.natural lexing.sign same_bytes identifier_length can_start_identifier_char is_digit run starts_with
  no-primary s p = rw p refl

module _ (text : List ℕ) (m : ℕ) {c : Reader (Expr Span)} {e : Parser} (l : Level text c e) where
  operand-halts : (us : List Token) → Halted (parse_operand m e (illegal ∷ us))
  unfolding parse_operand see is_nat is_word is_mark
  operand-halts us = fails

  operand : Level text (rules.parse_primary_expr text m c) (parse_operand m e)
  operand =
      record {
        sim = λ at. operand-by text m l at (stands text at);
        halts = operand-halts;
        closed = λ at s p. no-primary text m l at s p;
      }

  unary-halts : (k : ℕ) (us : List Token) → Halted (parse_unary k (parse_operand m e) (illegal ∷ us))
  unfolding parse_unary see unary role
  unary-halts zero us = operand-halts us
  unary-halts (suc k) us = operand-halts us

  unary-sim : (k at : ℕ) → SimExpr text (rules.unary_tail text m c k at) (parse_unary k (parse_operand m e) (tokens text at))
  unfolding rules.unary_tail parse_unary
  unary-sim zero at = operand.sim at
  unary-sim (suc k) at =
      sim-see _ _ _ _ (prefix-test text at) (operand.sim at)
      (λ op at₁ h. sim-after _ _ _ (unary-sim k at₁) (ends refuses) (λ a at₂ h₂. agree (single op a) at₂ h₂)
      (λ a at₂ bad. ends (reads (bad-single text op a bad))) (λ t us. waits))
      (λ op us. halted-after _ (unary-halts k us) (λ t vs. waits))

  no-unary : (k at : ℕ) (s : List ℕ) → drop at text ≡ 41 ∷ s → rules.unary_tail text m c k at ≡ Answer.none
  unfolding rules.unary_tail rules.unary_operator after lexing.sign lexing.sign_not_prefix starts_with
  no-unary zero at s p = no-primary text m l at s p
  no-unary (suc k) at s p = rw p (no-primary text m l at s p)

  -- operands with their prefixes
  pub unary-level : Level text (rules.parse_unary_expr text m c) (parse_unary m (parse_operand m e))
  unfolding rules.parse_unary_expr
  unary-level = record { sim = unary-sim m; halts = unary-halts m; closed = no-unary m }
