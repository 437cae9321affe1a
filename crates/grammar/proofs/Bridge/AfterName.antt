-- The simulation of what follows a name, `old` or an opening bracket.
use Prim.Native.Nat.{ℕ, suc, ◌+◌, ◌≤◌}
use Rattle.std.specs.Prelude.{◌≡◌, Bool, length, drop, take, leb}
use Rattle.std.proofs.Math.Path.{refl}
use Rattle.std.proofs.Common.{ap}
use Rattle.std.proofs.Math.Bool.{true, false}
use mathlib.Core.List.{List, [], ◌∷◌}
use Rattle.std.proofs.Math.Option.{none}
use Rattle.lexing.specs.RunLaws.{pick-both}
use Rattle.lexing.specs.Answer.{Answer, unclosed_comment, moved}
use Rattle.lexing.specs.Bytes.{is_digit, can_start_identifier_char, run, starts_with, bytes}
use Rattle.lexing.specs.Blanks.{Blanks, passed, unclosed, W}
use Rattle.lexing.specs.Tokens as lexing
use Rattle.lexing.specs.Tokens.{closed, lexeme, identifier_length, decimal, most_natural}
use Rattle.lexing.specs.TokenLaws.{starts_with-true}
use Rattle.tree.specs.Ast.{Span, Expr, IdExpr, FunctionCallExpr}
use Rattle.tree.specs.Resolve as resolved
use Rattle.tree.specs.Resolve.{part}
use Rattle.grammar.specs.Tokens as cutting
use Rattle.grammar.specs.Tokens.{Token, name, illegal, lparen, rparen, token_at, name_at, natural_at}
use Rattle.grammar.specs.Grammar.{Tree}
use Rattle.grammar.specs.Parser as parser
use Rattle.grammar.specs.Parser.{parsed, failed, Parser, see, is_mark, is_word, parse_named, parse_bracketed}
use Rattle.grammar.specs.Steps.{Reader, after, spanned, parse_name}
use Rattle.grammar.specs.Rules as rules
use Rattle.grammar.proofs.Laws.Cut.{tokens-drop, tokens-illegal}
use Rattle.grammar.proofs.Bridge.Relation as relation
use Rattle.grammar.proofs.Bridge.Relation.{tokens, Halted, fails, waits, KeepsToken, refuses, reads, ends, agree, dead, Test, seen, missed}
use Rattle.grammar.proofs.Bridge.Relation.{dead-after, ends-after, ends-then, halted-after, sim-after, sim-see}
use Rattle.grammar.proofs.Bridge.Places.{follow, tokens-here, inside-here, nothing-here}
use Rattle.grammar.proofs.Bridge.Trees.{bad-call}
use Rattle.grammar.proofs.Bridge.Tests.{Stands, word, digits, other, nowhere, stands, mark-test}
use Rattle.grammar.proofs.Bridge.Tails.{SimExpr, Level}
use Rattle.grammar.proofs.Bridge.NoOperand.{colon-ends}
use Rattle.grammar.proofs.Bridge.Series.{items-sim, items-halts}

module _ (text : List ℕ) (at : ℕ) where
  no_name : identifier_length (drop at text) ≡ 0 → parse_name text at ≡ Answer.none
  unfolding lexing.parse_id after
  no_name e = rw e refl

  name-seen : (n : ℕ) (b : Blanks) → ((k : ℕ) → b ≡ passed k → at + (suc n + k) ≤ length text)
      → Test text (resolved.bytes_of text) is_word (spanned text at (moved at (closed (suc n) (suc n) b)))
      (name (take (suc n) (drop at text)) ∷ follow text at (suc n) b)
  unfolding after is_word part
  name-seen n (passed k) f = seen (record { start = at; len = suc n }) (at + (suc n + k)) (name (take (suc n) (drop at text))) (f k refl) refl
  name-seen n (unclosed place) f = relation.unclosed unclosed_comment (at + (suc n + place)) (name (take (suc n) (drop at text))) (take (suc n) (drop at text)) [] refl

  name_by : Stands text at → Test text (resolved.bytes_of text) is_word (parse_name text at) (tokens text at)
  unfolding lexing.parse_id lexeme is_word
  name_by (word n t a) =
      rw (ap (λ r. r.name) a, tokens-here text at t) (name-seen n (W (drop (suc n) (drop at text))) (λ k w. inside-here text at t w))
  name_by (digits n t a) =
      rw (no_name (ap (λ r. r.name) a), tokens-here text at t)
      (missed (pick-both (λ o. is_word o ≡ none) (leb (decimal 0 (take (suc n) (drop at text))) most_natural) refl refl))
  name_by (other o n t l x y a) = rw (no_name (ap (λ r. r.name) a), tokens-here text at t, l) (missed y)
  name_by (nowhere t a) = rw (no_name (ap (λ r. r.name) a)) (missed (nothing-here text at is_word refl t))

  -- an identifier
  pub name-test : Test text (resolved.bytes_of text) is_word (parse_name text at) (tokens text at)
  name-test = name_by (stands text at)

-- a token is read or refused
pub lexeme-ends : (v at n : ℕ) (b : Blanks) → KeepsToken (moved at (closed v n b))
lexeme-ends v at n (passed k) = reads tt
lexeme-ends v at n (unclosed place) = refuses

module _ (text : List ℕ) where
  -- after `old`
  pub old-sim : (at : ℕ) → SimExpr text (rules.after_old text at) (see is_word (tokens text at) failed (λ v us. parsed (IdExpr v true) us))
  unfolding rules.after_old
  old-sim at = sim-see _ _ _ _ (name-test text at) (dead (ends refuses) fails) (λ n at₁ h. agree (IdExpr n true) at₁ h) (λ v us. waits)

  -- `after_old` keeps a token
  pub old-ends : (at : ℕ) → KeepsToken (rules.after_old text at)
  unfolding rules.after_old
  old-ends at = ends-after _ _ _ refuses (λ n at₁. reads tt)

  -- where a colon stands no token can be cut
  colon-illegal : (at : ℕ) (s : List ℕ) → drop at text ≡ 58 ∷ s → tokens text at ≡ illegal ∷ []
  unfolding tokens token_at name_at natural_at cutting.sign_at identifier_length can_start_identifier_char is_digit run starts_with
  colon-illegal at s p = rw (tokens-drop at text, p, tokens-illegal 58 s refl) refl

module _ (text : List ℕ) {c : Reader (Expr Span)} {e : Parser} (l : Level text c e) where
  label-sim : (n : Span) (at : ℕ) → at ≤ length text
      → SimExpr text (rules.after_label text c n at) (parsed (IdExpr (resolved.bytes_of text n) false) (tokens text at))
  unfolding rules.after_label lexing.sign lexeme after
  label-sim n at h = by-colon (starts_with (bytes ":") (drop at text)) refl
    where
      by-colon : (b : Bool) → starts_with (bytes ":") (drop at text) ≡ b
          → SimExpr text (rules.after_label text c n at) (parsed (IdExpr (resolved.bytes_of text n) false) (tokens text at))
      by-colon true p =
          rw (p, colon-illegal text at (drop 1 (drop at text)) (starts_with-true (bytes ":") (drop at text) p))
          (dead (ends (ends-then _ _ (lexeme-ends 0 at 1 (W (drop 1 (drop at text)))) (λ _ at₁. colon-ends text c n at₁))) waits)
      by-colon false p = rw p (agree (IdExpr n false) at h)

  closed-halts : (t : Tree) (us : List Token) → Halted (see (is_mark rparen) (illegal ∷ us) failed (λ x vs. parsed t vs))
  unfolding see is_mark
  closed-halts t us = fails

  -- after an opening bracket
  pub bracketed-sim : (at : ℕ) → SimExpr text (rules.after_paren text c at) (parse_bracketed e (tokens text at))
  unfolding rules.after_paren parse_bracketed
  bracketed-sim at =
      sim-after _ _ _ (l.sim at) (ends refuses)
      (λ a at₁ h. sim-see _ _ _ _ (mark-test text at₁ rparen) (dead (ends refuses) fails) (λ _ at₂ h₂. agree a at₂ h₂) (λ x us. waits))
      (λ a at₁ bad. dead-after _ _ _ (ends refuses) (λ _ at₂. ends (reads bad))) (λ t us. closed-halts t us)

  -- a bracketed expression does not begin with an illegal token
  pub bracketed-halts : (us : List Token) → Halted (parse_bracketed e (illegal ∷ us))
  unfolding parse_bracketed
  bracketed-halts us = halted-after _ (l.halts us) (λ t vs. closed-halts t vs)

module _ (text : List ℕ) (m : ℕ) {c : Reader (Expr Span)} {e : Parser} (l : Level text c e) where
  call_sim : (n : Span) (at : ℕ)
      → SimExpr text (rules.after_call text m c n at)
      (parser.after (parser.parse_items m e (tokens text at)) (λ es vs. parsed (FunctionCallExpr (resolved.bytes_of text n) es) vs))
  unfolding rules.after_call
  call_sim n at =
      sim-after _ _ _ (items-sim text m l at) (ends refuses) (λ es at₁ h. agree (FunctionCallExpr n es) at₁ h)
      (λ es at₁ bad. ends (reads (bad-call text n es bad))) (λ es vs. waits)

  -- after a name
  pub name-sim : (n : Span) (at : ℕ) → at ≤ length text
      → SimExpr text (rules.after_name text m c n at) (parse_named m e (resolved.bytes_of text n) (tokens text at))
  unfolding rules.after_name parse_named
  name-sim n at h =
      sim-see _ _ _ _ (mark-test text at lparen) (label-sim text l n at h) (λ _ at₁ h₁. call_sim n at₁) (λ x us. halted-after _ (items-halts text m l us) (λ es vs. waits))

  -- a name before an illegal token stands alone
  pub named-halts : (w : List ℕ) (us : List Token) → Halted (parse_named m e w (illegal ∷ us))
  unfolding parse_named see is_mark
  named-halts w us = waits
