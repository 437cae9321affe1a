-- The simulation of a whole text: what is read is an operator tree exactly where the parser gives a tree, and then it is that tree.
use Prim.Native.Nat.{ℕ, suc, pred, ◌+◌, ◌≤◌, ◌<◌}
use Rattle.std.proofs.Common.{arith, eqb-true}
use Rattle.std.specs.Prelude.{◌≡◌, Bool, true, false, length, drop, eqb}
use Rattle.std.proofs.Math.Path.{refl}
use mathlib.Core.List.{List, [], ◌∷◌}
use Rattle.std.proofs.Math.Option.{Option, none, some}
use Rattle.std.proofs.Math.ListN.{length-drop}
use Rattle.std.proofs.Math.Seq.{drop-length}
use Rattle.std.proofs.lemmas.Bool.{eqb-false}
use Rattle.lexing.specs.RunLaws.{pick-both}
use Rattle.lexing.specs.Answer.{Answer, ok, refused, pick}
use Rattle.lexing.specs.Blanks.{Blanks, passed, unclosed, W}
use Rattle.tree.specs.Ast.{Span, Expr}
use Rattle.tree.specs.Resolve.{resolve_expr}
use Rattle.grammar.specs.Tokens.{Token, Cut, token, nothing, token_at, at_token, tokens_after, after_blanks, cut}
use Rattle.grammar.specs.Grammar.{Tree}
use Rattle.grammar.specs.OperatorTrees.{OperatorTree}
use Rattle.grammar.specs.Parser as parser
use Rattle.grammar.specs.Parser.{Parsed, parsed, whole}
use Rattle.grammar.specs.Steps.{after, need}
use Rattle.grammar.specs.Rules as rules
use Rattle.grammar.specs.Reading.{leading, to_end, parse_text}
use Rattle.grammar.specs.OperatorTrees.{most_depth}
use Rattle.tree.specs.Clash.{impossible}
use Rattle.grammar.proofs.Laws.Limited.{limited}
use Rattle.grammar.proofs.Laws.Cut.{tokens-drop}
use Rattle.grammar.proofs.Bridge.Relation.{tokens, Halted, fails, waits, refuses, reads, Dead, ends, absent, agree, dead, dead-then}
use Rattle.grammar.proofs.Bridge.Places.{limited-first}
use Rattle.grammar.proofs.Bridge.Trees.{Bad}
use Rattle.grammar.proofs.Bridge.Tails.{SimExpr}
use Rattle.grammar.proofs.Bridge.ExprLevels.{expr-level}

-- A text's reading and the parser's tree: equal, or neither gives an operator tree.
pub data Agrees (text : List ℕ) : Answer (Expr Span) → Option Tree → Type 0 where
  same : (e : Expr Span) → Agrees text (ok e (length text)) (some (resolve_expr text e))
  neither : {r : Answer (Expr Span)} → Dead (Bad text) r → Agrees text r none

module _ (text : List ℕ) where
  -- the tokens end where the text ends
  end-tokens : tokens text (length text) ≡ []
  unfolding tokens tokens_after
  end-tokens = rw (tokens-drop (length text) text, drop-length text) refl

  whole-more : (t : Tree) (at : ℕ) → at < length text → whole (parsed t (tokens text at)) ≡ none
  unfolding tokens tokens_after at_token
  whole-more t at h = rw (tokens-drop at text) (by_bytes (drop at text) (omega (arith, length-drop at text)))
    where
      first : (c : Cut) (s : List ℕ) (rest : ℕ → List Token) → whole (parsed t (limited (at_token c s rest))) ≡ none
      first (token o n) s rest = rw (limited-first o (after_blanks (W (drop n s)) (λ k. rest (pred n + k)))) refl
      first nothing s rest = refl

      by_bytes : (s : List ℕ) → 0 < length s → whole (parsed t (limited (tokens_after 0 s))) ≡ none
      by_bytes [] i = absurd (omega arith)
      by_bytes (a ∷ s) i = first (token_at (a ∷ s)) (a ∷ s) (λ k. tokens_after k s)

  -- the end of the text
  at-end : (e : Expr Span) (next : ℕ) → next ≤ length text → Agrees text (to_end text e next) (whole (parsed (resolve_expr text e) (tokens text next)))
  at-end e next h = by_end (eqb next (length text)) refl
    where
      by_end : (b : Bool) → eqb next (length text) ≡ b → Agrees text (pick b (ok e next) (refused 2 next)) (whole (parsed (resolve_expr text e) (tokens text next)))
      by_end true p = rw (eqb-true next (length text) p, end-tokens) (same e)
      by_end false p =
          let n : next ≡ length text → ⊥ = eqb-false next (length text) p in
          let i : next < length text = omega arith in
          rw (whole-more (resolve_expr text e) next i) (neither (ends refuses))

  halted-whole : {o : Parsed Tree} → Halted o → whole o ≡ none
  halted-whole fails = refl
  halted-whole waits = refl

  bad-end : (e : Expr Span) (next : ℕ) → Bad text e → Dead (Bad text) (to_end text e next)
  bad-end e next bad = pick-both (Dead (Bad text)) (eqb next (length text)) (ends (reads bad)) (ends refuses)

  whole-agrees : (at : ℕ) {r : Answer (Expr Span)} {o : Parsed Tree} → SimExpr text r o → Agrees text (after r (refused 2 at) (to_end text)) (whole o)
  unfolding after
  whole-agrees at (agree e next h) = at-end e next h
  whole-agrees at (dead d w) = rw (halted-whole w) (neither (dead-then (refused 2 at) (to_end text) d (ends refuses) bad-end))

  -- a text without the limits on its length and words
  pub text-agrees : Agrees text (parse_text text) (whole (parser.parse_expr (suc (length text)) most_depth (limited (cut text))))
  unfolding parse_text cut after tokens
  text-agrees = by-blanks (W text)
    where
      by-blanks : (b : Blanks)
          → Agrees text (after (leading b) Answer.none (λ at _. need at (rules.parse_expr text (suc (length text)) most_depth at) (to_end text)))
          (whole (parser.parse_expr (suc (length text)) most_depth (limited (after_blanks b (λ k. tokens_after k text)))))
      by-blanks (passed k) = whole-agrees k ((expr-level text (length text) most_depth).sim k)
      by-blanks (unclosed n) = rw (halted-whole ((expr-level text (length text) most_depth).halts [])) (neither (ends refuses))

-- an operator tree that is read is the parser's
pub agrees-ok : {text : List ℕ} {r : Answer (Expr Span)} {w : Option Tree} → Agrees text r w → (e : Expr Span) {next : ℕ} → r ≡ ok e next
    → OperatorTree (resolve_expr text e) → w ≡ some (resolve_expr text e)
agrees-ok (same e') e p x = let q : e' ≡ e = cc in rw q refl
agrees-ok {text} (neither d) e p x = absurd (no-tree d p)
  where
    no-tree : {r : Answer (Expr Span)} {next : ℕ} → Dead (Bad text) r → r ≡ ok e next → ⊥
    no-tree absent p = impossible (cc)
    no-tree (ends refuses) p = impossible (cc)
    no-tree (ends (reads {a} bad)) p = let q : a ≡ e = cc in bad (rw q x)

-- the parser's tree is read
pub agrees-some : {text : List ℕ} {r : Answer (Expr Span)} {w : Option Tree} → Agrees text r w → {t : Tree} → w ≡ some t
    → (e : Expr Span) × (r ≡ ok e (length text)) × (resolve_expr text e ≡ t)
agrees-some (same e) p = (e, refl, cc)
agrees-some (neither d) p = impossible (cc)
