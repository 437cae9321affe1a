-- Each test of the byte rules accepts what the parser's accepts, at every place.
use Prim.Native.Nat.{ℕ, suc, pred, ◌+◌, ◌≤◌}
use Rattle.std.specs.Prelude.{◌≡◌, Bool, false, ◌&&◌, ◌||◌, List, [], ◌∷◌, ◌++◌, length, take, drop, leb, eqb}
use Rattle.std.proofs.Math.Path.{refl, ap}
use Rattle.std.proofs.Common.{sym, ◌∙◌, arith, eqb-true, leb-true, ne_eqb}
use Rattle.std.proofs.Math.Bool.{true}
use Rattle.std.proofs.Math.Option.{Option, none, some}
use Rattle.std.proofs.lemmas.Bool.{lt-leb}
use Rattle.lexing.specs.RunLaws.{both_true, pick-both}
use Rattle.lexing.specs.Answer.{Answer, unclosed_comment, moved}
use Rattle.lexing.specs.Bytes.{is_digit, can_start_identifier_char, identifier_char, run, starts_with, same_bytes}
use Rattle.lexing.specs.Blanks.{Blanks, passed, unclosed, W}
use Rattle.lexing.specs.Tokens.{closed, lexeme, identifier_length, decimal, most_natural}
use Rattle.grammar.specs.Tokens.{Sign, '!', '-', '*', '+', '==', '!=', '<', '<=', '>=', '>', '&&', '||', '==>', '<==', '<==>'}
use Rattle.grammar.specs.Tokens.{Token, name, nat, mark, sign, illegal, Mark, lparen, rparen, comma, token, nothing, token_at}
use Rattle.grammar.specs.Grammar.{Class, product, sum, comparison, conjunction, disjunction, implication, explication, equivalence}
use Rattle.grammar.specs.Grammar.{Build, role, word_role, unary, binary}
use Rattle.grammar.specs.Parser.{is_mark, is_nat, is_word, in_class}
use Rattle.grammar.specs.Steps.{after, mapped, sign_at}
use Rattle.grammar.specs.Rules as rules
use Rattle.grammar.specs.Rules.{operator_of}
use Rattle.tree.specs.Clash.{impossible}
use Rattle.grammar.proofs.Laws.Stops.{Misses}
use Rattle.grammar.proofs.Laws.Views.{spelt, spelt_mark, Longest, View, word_view, digit_view, sign_view, mark_view, no_view, view, Nothing}
use Rattle.grammar.proofs.Laws.Views.{word-token, digit-token, sign-token, mark-token, no-token}
use Rattle.grammar.proofs.Bridge.Relation as relation
use Rattle.grammar.proofs.Bridge.Relation.{tokens, Test, seen, missed}
use Rattle.grammar.proofs.Bridge.Places.{limit, follow, read_then, tokens-here, inside-here, nothing-here}
use Rattle.grammar.proofs.Bridge.Answers.{given, Answers, answers_at, answers_of, sign-answers, mark-answers, word-answers}

-- a byte that begins a name or a natural
abbrev begins : ℕ → Bool
begins b = can_start_identifier_char b || is_digit b

apart : (x a : ℕ) (w s : List ℕ) → begins a ≡ true → begins x ≡ false → starts_with (x ∷ w) (a ∷ s) ≡ false
unfolding starts_with
apart x a w s p q = by_byte (eqb x a) refl
  where
    by_byte : (b : Bool) → eqb x a ≡ b → (b && starts_with w s) ≡ false
    by_byte true e = let h : x ≡ a = eqb-true x a e in impossible (cc)
    by_byte false e = refl

-- no sign begins with such a byte
no_sign_lem : (a : ℕ) (s : List ℕ) → begins a ≡ true → (g : Sign) → starts_with (spelt g) (a ∷ s) ≡ false
unfolding can_start_identifier_char is_digit
no_sign_lem a s p '!' = apart 33 a [] s p refl
no_sign_lem a s p '-' = apart 45 a [] s p refl
no_sign_lem a s p '*' = apart 42 a [] s p refl
no_sign_lem a s p '+' = apart 43 a [] s p refl
no_sign_lem a s p '==' = apart 61 a (61 ∷ []) s p refl
no_sign_lem a s p '!=' = apart 33 a (61 ∷ []) s p refl
no_sign_lem a s p '<' = apart 60 a [] s p refl
no_sign_lem a s p '<=' = apart 60 a (61 ∷ []) s p refl
no_sign_lem a s p '>=' = apart 62 a (61 ∷ []) s p refl
no_sign_lem a s p '>' = apart 62 a [] s p refl
no_sign_lem a s p '&&' = apart 38 a (38 ∷ []) s p refl
no_sign_lem a s p '||' = apart 124 a (124 ∷ []) s p refl
no_sign_lem a s p '==>' = apart 61 a (61 ∷ 62 ∷ []) s p refl
no_sign_lem a s p '<==' = apart 60 a (61 ∷ 61 ∷ []) s p refl
no_sign_lem a s p '<==>' = apart 60 a (61 ∷ 61 ∷ 62 ∷ []) s p refl

no-mark : (a : ℕ) (s : List ℕ) → begins a ≡ true → (k : Mark) → starts_with (spelt_mark k) (a ∷ s) ≡ false
unfolding can_start_identifier_char is_digit
no-mark a s p lparen = apart 40 a [] s p refl
no-mark a s p rparen = apart 41 a [] s p refl
no-mark a s p comma = apart 44 a [] s p refl

-- a letter is no digit
letter : (a : ℕ) → can_start_identifier_char a ≡ true → is_digit a ≡ false
unfolding can_start_identifier_char is_digit
letter a p = by-digit (is_digit a) refl
  where
    by-digit : (b : Bool) → is_digit a ≡ b → b ≡ false
    by-digit true e =
        let h : 48 ≤ a = leb-true 48 a (both_true (leb 48 a) (leb a 57) e).0 in
        let i : a ≤ 57 = leb-true a 57 (both_true (leb 48 a) (leb a 57) e).1 in
        let j : can_start_identifier_char a ≡ false = rw (lt-leb 97 a (omega arith), lt-leb 65 a (omega arith), ne_eqb a 37 (λ e. omega arith)) refl in
        impossible (cc)
    by-digit false e = refl

-- What stands at a place, with the answers of the tests there: a word, digits, a sign or mark, or nothing.
pub data Stands (text : List ℕ) (at : ℕ) : Type 0 where
  word : (n : ℕ) → token_at (drop at text) ≡ token (name (take (suc n) (drop at text))) (suc n)
      → answers_at text at ≡ answers_of (name (take (suc n) (drop at text))) (moved at (lexeme 0 (suc n) (drop at text))) (suc n) 0 → Stands text at
  digits : (n : ℕ) → token_at (drop at text) ≡ token (nat (decimal 0 (take (suc n) (drop at text)))) (suc n)
      → answers_at text at ≡ answers_of illegal Answer.none 0 (suc n) → Stands text at
  other : (o : Token) (n : ℕ) → token_at (drop at text) ≡ token o (suc n) → limit o ≡ o → is_nat o ≡ none → is_word o ≡ none
      → answers_at text at ≡ answers_of o (moved at (lexeme 0 (suc n) (drop at text))) 0 0 → Stands text at
  nowhere : token_at (drop at text) ≡ nothing → answers_at text at ≡ answers_of illegal Answer.none 0 0 → Stands text at

sign-length : (g : Sign) → length (spelt g) ≡ suc (pred (length (spelt g)))
sign-length =
    elim [ '!' ↦ refl | '-' ↦ refl | '*' ↦ refl | '+' ↦ refl | '==' ↦ refl | '!=' ↦ refl | '<' ↦ refl | '<=' ↦ refl | '>=' ↦ refl | '>' ↦ refl | '&&' ↦ refl | '||' ↦ refl | '==>' ↦ refl | '<==' ↦ refl | '<==>' ↦ refl ]

module _ (text : List ℕ) (at : ℕ) where
  sign-here : (g : Sign) (s : List ℕ) → Longest g s → drop at text ≡ spelt g ++ s → Stands text at
  unfolding is_nat is_word
  sign-here g s l e =
      let t : token_at (drop at text) ≡ token (sign g) (length (spelt g)) = rw e (sign-token g s l) in
      let a = sign-answers text at g s l e in
      other (sign g) (pred (length (spelt g))) (t ∙ ap (token (sign g)) (sign-length g)) refl refl refl
      (a ∙ ap (λ n. answers_of (sign g) (moved at (lexeme 0 n (drop at text))) 0 0) (sign-length g))

  word-here : (a : ℕ) (s : List ℕ) → can_start_identifier_char a ≡ true → drop at text ≡ a ∷ s → Stands text at
  unfolding identifier_length run
  word-here a s p e =
      let i : identifier_length (drop at text) ≡ suc (run identifier_char s) = rw (e, p) refl in
      let d : run is_digit (drop at text) ≡ 0 = rw (e, run, letter a p) refl in
      let b : begins a ≡ true = rw p refl in
      word (run identifier_char s) (rw e (word-token a s p)) (word-answers text at (λ g. rw e (no_sign_lem a s b g)) (λ k. rw e (no-mark a s b k)) i d)

  digits-here : (a : ℕ) (s : List ℕ) → can_start_identifier_char a ≡ false → is_digit a ≡ true → drop at text ≡ a ∷ s → Stands text at
  unfolding identifier_length run in_class unary binary role word_role is_mark same_bytes
  digits-here a s p q e =
      let i : identifier_length (drop at text) ≡ 0 = rw (e, p) refl in
      let d : run is_digit (drop at text) ≡ suc (run is_digit s) = rw (e, run, q) refl in
      let b : begins a ≡ true = rw (p, q) refl in
      digits (run is_digit s) (rw e (digit-token a s p q)) (word-answers text at (λ g. rw e (no_sign_lem a s b g)) (λ k. rw e (no-mark a s b k)) i d)

  nothing-at : Nothing (drop at text) → Stands text at
  unfolding in_class unary binary role word_role is_mark same_bytes
  nothing-at n = nowhere (no-token n) (word-answers text at n.no_sign n.no_mark n.no_name n.no_digit)

  stands_by : (s : List ℕ) → View s → drop at text ≡ s → Stands text at
  unfolding is_nat is_word
  stands_by s (word_view a t p) e = word-here a t p e
  stands_by s (digit_view a t p q) e = digits-here a t p q e
  stands_by s (sign_view g t l) e = sign-here g t l e
  stands_by s (mark_view k t) e = other (mark k) 0 (rw e (mark-token k t)) refl refl refl (mark-answers text at k t e)
  stands_by s (no_view n) e = nothing-at (rw e n)

  -- one of the four stands at every place
  pub stands : Stands text at
  stands = stands_by (drop at text) (view (drop at text)) refl

-- A field of the answers that is what the parser's test `look` gives: v gives the byte side's value, h the answer with it.
module _ {A X : Type 0} (text : List ℕ) (at : ℕ) (twin : A → X) (look : Token → Option X) (v : X → A) (h : X → Answer ℕ → Answer A)
    (twins : (x : X) → twin (v x) ≡ x) (sends : (x : X) (n : ℕ) (b : Blanks) → h x (moved at (closed 0 n b)) ≡ read_then text at (v x) n b) where
  test-token : (o : Token) (n : ℕ) (b : Blanks) → ((k : ℕ) → b ≡ passed k → at + (n + k) ≤ length text) → (x : Option X) → look o ≡ x
      → Test text twin look (given x (λ x. h x (moved at (closed 0 n b)))) (o ∷ follow text at n b)
  test-token o n b f none e = missed e
  test-token o n (passed k) f (some x) e = rw (sends x n (passed k)) (seen (v x) (at + (n + k)) o (f k refl) (e ∙ ap some (sym (twins x))))
  test-token o n (unclosed place) f (some x) e = rw (sends x n (unclosed place)) (relation.unclosed unclosed_comment (at + (n + place)) o x [] e)

  module _ (field : Answers → Answer A) (is : (o : Token) (r : Answer ℕ) (i d : ℕ) → field (answers_of o r i d) ≡ given (look o) (λ x. h x r))
      (no-nat : (n : ℕ) → look (nat n) ≡ none) (no-illegal : look illegal ≡ none) where
    test-here : {o : Token} {n i d : ℕ} → token_at (drop at text) ≡ token o (suc n) → limit o ≡ o
        → answers_at text at ≡ answers_of o (moved at (lexeme 0 (suc n) (drop at text))) i d → Test text twin look (field (answers_at text at)) (tokens text at)
    unfolding lexeme
    test-here {o} {n} {i} {d} t l a =
        let f : field (answers_at text at) ≡ given (look o) (λ x. h x (moved at (lexeme 0 (suc n) (drop at text)))) = ap field a ∙ is o _ i d in
        rw (f, tokens-here text at t, l) (test-token o (suc n) (W (drop (suc n) (drop at text))) (λ k w. inside-here text at t w) (look o) refl)

    no-digits : (v : ℕ) (ts : List Token) → Misses look (limit (nat v) ∷ ts)
    no-digits v ts = pick-both (λ o. look o ≡ none) (leb v most_natural) (no-nat v) no-illegal

    test_by : Stands text at → Test text twin look (field (answers_at text at)) (tokens text at)
    test_by (word n t a) = test-here t refl a
    test_by (digits n t a) =
        rw (ap field a ∙ is illegal Answer.none 0 (suc n), no-illegal, tokens-here text at t)
        (missed (no-digits (decimal 0 (take (suc n) (drop at text))) (follow text at (suc n) (W (drop (suc n) (drop at text))))))
    test_by (other o n t l x y a) = test-here t l a
    test_by (nowhere t a) = rw (ap field a ∙ is illegal Answer.none 0 0, no-illegal) (missed (nothing-here text at look no-illegal t))

module _ (text : List ℕ) (at : ℕ) where
  mapped-read_then : {X : Type 0} (x : X) (n : ℕ) (b : Blanks) → mapped (λ _. x) (moved at (closed 0 n b)) ≡ read_then text at x n b
  unfolding after
  mapped-read_then x n (passed k) = refl
  mapped-read_then x n (unclosed place) = refl

  moved-read_then : (x : Unit {0}) (n : ℕ) (b : Blanks) → moved at (closed 0 n b) ≡ read_then text at 0 n b
  moved-read_then x n (passed k) = refl
  moved-read_then x n (unclosed place) = refl

  operator-test : (c : Class) (field : Answers → Answer Build)
      → ((o : Token) (r : Answer ℕ) (i d : ℕ) → field (answers_of o r i d) ≡ given (in_class c o) (λ b. mapped (λ _. b) r))
      → Test text (λ b. b) (in_class c) (field (answers_at text at)) (tokens text at)
  unfolding in_class binary role
  operator-test c field is =
      test_by text at (λ b. b) (in_class c) (λ b. b) (λ b r. mapped (λ _. b) r) (λ b. refl) mapped-read_then field is (λ n. refl) refl (stands text at)

  -- the operators of a class
  pub class-test : (c : Class) → Test text (λ b. b) (in_class c) (operator_of text c at) (tokens text at)
  class-test product = operator-test product (λ a. a.operators.0) (λ o r i d. refl)
  class-test sum = operator-test sum (λ a. a.operators.1) (λ o r i d. refl)
  class-test comparison = operator-test comparison (λ a. a.operators.2) (λ o r i d. refl)
  class-test conjunction = operator-test conjunction (λ a. a.operators.3) (λ o r i d. refl)
  class-test disjunction = operator-test disjunction (λ a. a.operators.4) (λ o r i d. refl)
  class-test implication = operator-test implication (λ a. a.operators.5) (λ o r i d. refl)
  class-test explication = operator-test explication (λ a. a.operators.6) (λ o r i d. refl)
  class-test equivalence = operator-test equivalence (λ a. a.operators.7) (λ o r i d. refl)

  -- the prefixes
  pub prefix-test : Test text (λ op. op) unary (rules.unary_operator text at) (tokens text at)
  unfolding unary role
  prefix-test =
      test_by text at (λ op. op) unary (λ op. op) (λ op r. mapped (λ _. op) r) (λ op. refl) mapped-read_then (λ a. a.prefix) (λ o r i d. refl)
      (λ n. refl) refl (stands text at)

  marked-test : (k : Mark) (field : Answers → Answer ℕ)
      → ((o : Token) (r : Answer ℕ) (i d : ℕ) → field (answers_of o r i d) ≡ given (is_mark k o) (λ _. r))
      → Test text (λ _. tt) (is_mark k) (field (answers_at text at)) (tokens text at)
  unfolding is_mark
  marked-test k field is =
      test_by text at (λ _. tt) (is_mark k) (λ _. 0) (λ _ r. r) (λ x. refl) moved-read_then field is (λ n. refl) refl (stands text at)

  -- brackets and comma
  pub mark-test : (k : Mark) → Test text (λ _. tt) (is_mark k) (sign_at text (spelt_mark k) at) (tokens text at)
  mark-test lparen = marked-test lparen (λ a. a.opening) (λ o r i d. refl)
  mark-test rparen = marked-test rparen (λ a. a.closing) (λ o r i d. refl)
  mark-test comma = marked-test comma (λ a. a.separator) (λ o r i d. refl)
