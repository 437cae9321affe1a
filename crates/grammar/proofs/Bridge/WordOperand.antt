-- The simulation of an operand that begins with a word.
use Prim.Native.Nat.{ℕ, suc, ◌+◌, ◌≤◌}
use Prim.Native.String.{String}
use Rattle.std.specs.Prelude.{◌≡◌, Bool, List, [], ◌∷◌, length, take}
use Rattle.std.proofs.Math.Path.{refl}
use Rattle.std.proofs.Math.Bool.{true, false}
use Rattle.std.proofs.Math.ListN.{drop}
use Rattle.lexing.specs.Answer.{Answer, ok, moved}
use Rattle.lexing.specs.Bytes.{is_digit, can_start_identifier_char, run, starts_with, same_bytes, bytes}
use Rattle.lexing.specs.Blanks.{Blanks, passed, unclosed, W}
use Rattle.lexing.specs.Tokens as lexing
use Rattle.lexing.specs.Tokens.{closed, lexeme, identifier_length}
use Rattle.lexing.specs.TokenLaws.{same_bytes-true, same_bytes-refl, starts_with-true}
use Rattle.tree.specs.Ast.{Span, Expr, BLiteral, IdExpr}
use Rattle.tree.specs.Resolve.{part}
use Rattle.grammar.specs.Words.{one_of, is_name}
use Rattle.grammar.specs.Tokens.{Token, name, lparen}
use Rattle.grammar.specs.Grammar.{Tree}
use Rattle.grammar.specs.Parser.{Parsed, parsed, failed, Parser, see, is_nat, is_word, parse_named, parse_excluded, parse_operand}
use Rattle.grammar.specs.Steps.{Reader, after, T, Sym, sign_at, spanned, parse_name, parse_nat}
use Rattle.grammar.specs.Rules as rules
use Rattle.tree.specs.Clash.{impossible}
use Rattle.grammar.proofs.Laws.Views.{spelt_mark}
use Rattle.grammar.proofs.Bridge.Relation.{Halted, fails, waits, Ends, refuses, reads, ends, absent, agree, dead}
use Rattle.grammar.proofs.Bridge.Relation.{ends-then, dead-then}
use Rattle.grammar.proofs.Bridge.Places.{follow}
use Rattle.grammar.proofs.Bridge.Trees.{Bad}
use Rattle.grammar.proofs.Bridge.Tails.{SimExpr, Level}
use Rattle.grammar.proofs.Bridge.NoOperand.{if-ends, val-ends, quantifier-ends, lift-ends}
use Rattle.grammar.proofs.Bridge.AfterName.{lexeme-ends, name-sim, named-halts, old-sim, old-ends}

-- ---- a branch of a rule and the branches after it

module _ {text : List ℕ} {o : Parsed Tree} where
  -- a branch that keeps nothing
  pub skip : {A : Type 0} {r : Answer A} (go : A → ℕ → Answer (Expr Span)) (q : Answer (Expr Span)) → r ≡ Answer.none → SimExpr text q o
      → SimExpr text (after (after r Answer.none go) q (λ a next. ok a next)) o
  unfolding after
  skip go q e s = rw e s

  -- a branch that keeps a token
  pub kept : {r : Answer (Expr Span)} (q : Answer (Expr Span)) {P : Expr Span → Type 0} → Ends P r → SimExpr text r o
      → SimExpr text (after r q (λ a next. ok a next)) o
  unfolding after
  kept q refuses s = s
  kept q (reads p) s = s

-- the last branch
pub last-branch : {text : List ℕ} {r : Answer (Expr Span)} {o : Parsed Tree} → SimExpr text r o
    → SimExpr text (after r Answer.none (λ a next. ok a next)) o
unfolding after
last-branch (agree a next h) = agree a next h
last-branch (dead d w) = dead (dead-then _ _ d absent (λ a next p. ends (reads p))) w

-- a branch that keeps a token is not left
pub ends-or : {A : Type 0} {P : A → Type 0} {r : Answer A} (q : Answer A) → Ends P r → Ends P (after r q (λ a next. ok a next))
unfolding after
ends-or q refuses = refuses
ends-or q (reads p) = reads p

differ : (a b : List ℕ) → same_bytes a b ≡ false → same_bytes b a ≡ false
differ a b e = by_bytes (same_bytes b a) refl
  where
    by_bytes : (x : Bool) → same_bytes b a ≡ x → x ≡ false
    by_bytes true p = let q : b ≡ a = same_bytes-true b a p in impossible (cc (same_bytes-refl a))
    by_bytes false p = refl

-- A word of n bytes with the blanks b after it, at a place where neither a digit nor `|` nor `(` stands.
module _ (text : List ℕ) (m : ℕ) {c : Reader (Expr Span)} {e : Parser} (l : Level text c e) (at n : ℕ)
    (word : identifier_length (drop at text) ≡ suc n) (inside : (k : ℕ) → W (drop (suc n) (drop at text)) ≡ passed k → at + (suc n + k) ≤ length text) where
  abbrev w : List ℕ
  w = take (suc n) (drop at text)

  abbrev b : Blanks
  b = W (drop (suc n) (drop at text))

  keyword-here : (v : List ℕ) → same_bytes w v ≡ true → moved at (lexing.keyword v (drop at text)) ≡ moved at (closed 0 (suc n) b)
  unfolding lexing.keyword lexeme
  keyword-here v p = rw (word, p) refl

  keyword-not : (v : List ℕ) → same_bytes w v ≡ false → moved at (lexing.keyword v (drop at text)) ≡ Answer.none
  unfolding lexing.keyword
  keyword-not v p = rw (word, p) refl

  -- the branch of a keyword
  keyword-branch : (v : String) (go : ℕ → ℕ → Answer (Expr Span)) (q : Answer (Expr Span)) {o : Parsed Tree}
      → (w ≡ bytes v → SimExpr text (after (after (moved at (closed 0 (suc n) b)) Answer.none go) q (λ a next. ok a next)) o)
      → (same_bytes w (bytes v) ≡ false → SimExpr text q o) → SimExpr text (after (after (T text v at) Answer.none go) q (λ a next. ok a next)) o
  keyword-branch v go q {o} f g = by (same_bytes w (bytes v)) refl
    where
      by : (x : Bool) → same_bytes w (bytes v) ≡ x → SimExpr text (after (after (T text v at) Answer.none go) q (λ a next. ok a next)) o
      by true p = rw (keyword-here (bytes v) p) (f (same_bytes-true w (bytes v) p))
      by false p = skip go q (keyword-not (bytes v) p) (g p)

  -- a word that begins no operand
  excluded : (v : String) (go : ℕ → ℕ → Answer (Expr Span)) (q : Answer (Expr Span)) → ((x at₁ : ℕ) → Ends (Bad text) (go x at₁))
      → ((us : List Token) → Halted (parse_operand m e (name (bytes v) ∷ us))) → w ≡ bytes v
      → SimExpr text (after (after (moved at (closed 0 (suc n) b)) Answer.none go) q (λ a next. ok a next)) (parse_operand m e (name w ∷ follow text at (suc n) b))
  excluded v go q f h p = rw p (dead (ends (ends-or q (ends-then _ _ (lexeme-ends 0 at (suc n) b) f))) (h (follow text at (suc n) b)))

  literal-by : (x : Bool) (q : Answer (Expr Span)) (b : Blanks) → ((k : ℕ) → b ≡ passed k → at + (suc n + k) ≤ length text)
      → SimExpr text (after (after (moved at (closed 0 (suc n) b)) Answer.none (λ _ next. ok (BLiteral x) next)) q (λ a next. ok a next))
      (parsed (BLiteral x) (follow text at (suc n) b))
  unfolding after
  literal-by x q (passed k) i = agree (BLiteral x) (at + (suc n + k)) (i k refl)
  literal-by x q (unclosed place) i = dead (ends refuses) waits

  -- `false` and `true`
  literal : (v : String) (x : Bool) (q : Answer (Expr Span))
      → ((us : List Token) → parse_operand m e (name (bytes v) ∷ us) ≡ parsed (BLiteral x) us) → w ≡ bytes v
      → SimExpr text (after (after (moved at (closed 0 (suc n) b)) Answer.none (λ _ next. ok (BLiteral x) next)) q (λ a next. ok a next))
      (parse_operand m e (name w ∷ follow text at (suc n) b))
  literal v x q f p = rw (p, f (follow text at (suc n) b)) (literal-by x q b inside)

  old-by : (q : Answer (Expr Span)) (b : Blanks)
      → SimExpr text (after (after (moved at (closed 0 (suc n) b)) Answer.none (λ _ at₁. rules.after_old text at₁)) q (λ a next. ok a next))
      (see is_word (follow text at (suc n) b) failed (λ v us. parsed (IdExpr v true) us))
  unfolding after see is_word
  old-by q (passed k) = kept q (old-ends text (at + (suc n + k))) (old-sim text (at + (suc n + k)))
  old-by q (unclosed place) = dead (ends refuses) fails

  old : (q : Answer (Expr Span)) → w ≡ bytes "old"
      → SimExpr text (after (after (moved at (closed 0 (suc n) b)) Answer.none (λ _ at₁. rules.after_old text at₁)) q (λ a next. ok a next))
      (parse_operand m e (name w ∷ follow text at (suc n) b))
  unfolding parse_operand parse_excluded see is_nat is_word is_name one_of same_bytes
  old q p = rw p (old-by q b)

  name_by : (b : Blanks) → ((k : ℕ) → b ≡ passed k → at + (suc n + k) ≤ length text)
      → SimExpr text
      (after (after (spanned text at (moved at (closed (suc n) (suc n) b))) Answer.none (λ n at₁. rules.after_name text m c n at₁)) Answer.none
      (λ a next. ok a next)) (parse_named m e w (follow text at (suc n) b))
  unfolding after part
  name_by (passed k) i = last-branch (name-sim text m l (record { start = at; len = suc n }) (at + (suc n + k)) (i k refl))
  name_by (unclosed place) i = dead (ends refuses) (named-halts text m l w [])

  named : is_name w ≡ true → sign_at text (spelt_mark lparen) at ≡ Answer.none
      → SimExpr text
      (after (after (parse_name text at) Answer.none (λ n at₁. rules.after_name text m c n at₁))
      (after (sign_at text (spelt_mark lparen) at) Answer.none (λ _ at₁. rules.after_paren text c at₁)) (λ a next. ok a next))
      (parse_operand m e (name w ∷ follow text at (suc n) b))
  unfolding parse_operand see is_nat is_word lexing.parse_id lexeme after
  named p q = rw (p, q, word) (name_by b inside)

  no_operand : (us : List Token)
      → Halted (parse_operand m e (name (bytes "if") ∷ us)) × Halted (parse_operand m e (name (bytes "val") ∷ us))
      × Halted (parse_operand m e (name (bytes "forall") ∷ us)) × Halted (parse_operand m e (name (bytes "exists") ∷ us))
      × Halted (parse_operand m e (name (bytes "lift") ∷ us))
  unfolding parse_operand parse_excluded see is_nat is_word is_name one_of same_bytes
  no_operand us = (fails, fails, fails, fails, fails)

  literals : (us : List Token)
      → (parse_operand m e (name (bytes "false") ∷ us) ≡ parsed (BLiteral false) us) × (parse_operand m e (name (bytes "true") ∷ us) ≡ parsed (BLiteral true) us)
  unfolding parse_operand parse_excluded see is_nat is_word is_name one_of same_bytes
  literals us = (refl, refl)

  no-natural : run is_digit (drop at text) ≡ 0 → parse_nat text at ≡ Answer.none
  unfolding lexing.natural
  no-natural d = rw d refl

  no-bar : Sym text "|" at ≡ Answer.none
  unfolding lexing.sign identifier_length can_start_identifier_char
  no-bar = by-bar (starts_with (bytes "|") (drop at text)) refl
    where
      by-bar : (x : Bool) → starts_with (bytes "|") (drop at text) ≡ x → Sym text "|" at ≡ Answer.none
      by-bar true p =
          let s : drop at text ≡ 124 ∷ drop 1 (drop at text) = starts_with-true (bytes "|") (drop at text) p in
          let z : 0 ≡ suc n = rw s at word in
          impossible (cc)
      by-bar false p = rw p refl

  is_name_lem : same_bytes w (bytes "if") ≡ false → same_bytes w (bytes "val") ≡ false → same_bytes w (bytes "forall") ≡ false → same_bytes w (bytes "exists") ≡ false
      → same_bytes w (bytes "lift") ≡ false → same_bytes w (bytes "false") ≡ false → same_bytes w (bytes "true") ≡ false → same_bytes w (bytes "old") ≡ false
      → is_name w ≡ true
  unfolding is_name one_of
  is_name_lem n₁ n₂ n₃ n₄ n₅ n₆ n₇ n₈ =
      rw (
        differ w (bytes "if") n₁,
        differ w (bytes "val") n₂,
        differ w (bytes "forall") n₃,
        differ w (bytes "exists") n₄,
        differ w (bytes "lift") n₅,
        differ w (bytes "false") n₆,
        differ w (bytes "true") n₇,
        differ w (bytes "old") n₈,
      )
      refl

  -- an operand that begins with a word
  pub word-sim : run is_digit (drop at text) ≡ 0 → sign_at text (spelt_mark lparen) at ≡ Answer.none
      → SimExpr text (rules.parse_primary_expr text m c at) (parse_operand m e (name w ∷ follow text at (suc n) b))
  unfolding rules.parse_primary_expr rules.parse_atomic_expr
  word-sim d p =
      keyword-branch "if" _ _ (excluded "if" _ _ (λ _ at₁. if-ends text c at₁) (λ us. (no_operand us).0)) λ n₁.
      keyword-branch "val" _ _ (excluded "val" _ _ (λ _ at₁. val-ends text c at₁) (λ us. (no_operand us).1)) λ n₂.
      keyword-branch "forall" _ _ (excluded "forall" _ _ (λ _ at₁. quantifier-ends text m c _ at₁) (λ us. (no_operand us).2)) λ n₃.
      keyword-branch "exists" _ _ (excluded "exists" _ _ (λ _ at₁. quantifier-ends text m c _ at₁) (λ us. (no_operand us).3)) λ n₄.
      keyword-branch "lift" _ _ (excluded "lift" _ _ (λ _ at₁. lift-ends text m c at₁) (λ us. (no_operand us).4)) λ n₅.
      keyword-branch "false" _ _ (literal "false" false _ (λ us. (literals us).0)) λ n₆.
      keyword-branch "true" _ _ (literal "true" true _ (λ us. (literals us).1)) λ n₇.
      skip _ _ (no-natural d)
      (skip _ _ no-bar (keyword-branch "old" _ _ (old _) λ n₈. named (is_name_lem n₁ n₂ n₃ n₄ n₅ n₆ n₇ n₈) p))
