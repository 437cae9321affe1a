-- What the tests of the byte rules answer at a place, as one record, and what they should answer for the token that stands there.
use Rattle.std.specs.Prelude.{ℕ, ◌≡◌, Bool, List, [], ◌∷◌, ◌++◌, length, drop, take}
use Rattle.std.proofs.Math.Path.{refl}
use Rattle.std.proofs.Common.{◌∙◌}
use Rattle.std.proofs.Math.Bool.{true, false}
use Rattle.std.proofs.Math.Option.{Option, none, some}
use Rattle.lexing.specs.Answer.{Answer, ok, moved}
use Rattle.lexing.specs.Bytes.{is_digit, can_start_identifier_char, run, starts_with, same_bytes, bytes}
use Rattle.lexing.specs.Tokens as lexing
use Rattle.lexing.specs.Tokens.{lexeme, identifier_length}
use Rattle.lexing.specs.Blanks.{Blanks, passed, unclosed, W}
use Rattle.tree.specs.Ast.{Operator, LogicalNot, Times, Div, Mod, Plus, Eq, Neq, Less, AtMost}
use Rattle.grammar.specs.Tokens.{Sign, '!', '-', '*', '+', '==', '!=', '<', '<=', '>=', '>', '&&', '||', '==>', '<==', '<==>'}
use Rattle.grammar.specs.Tokens.{Token, name, mark, sign, Mark, lparen, rparen, comma}
use Rattle.grammar.specs.Grammar.{Class, product, sum, comparison, conjunction, disjunction, implication, explication, equivalence}
use Rattle.grammar.specs.Grammar.{Build, straight, swapped, sign_role, word_role, role, unary, binary}
use Rattle.grammar.specs.Parser.{is_mark, in_class}
use Rattle.grammar.specs.Steps.{after, ◌or◌, mapped, sign_at, T}
use Rattle.grammar.specs.Rules as rules
use Rattle.grammar.specs.Rules.{operator_of}
use Rattle.grammar.proofs.Laws.Views.{spelt, spelt_mark, Longest, shorter}

-- h of what a test of the parser gives, if it accepts the token
abbrev pub given : {X A : Type 0} → Option X → (X → Answer A) → Answer A
given none h = Answer.none
given (some x) h = h x

-- a value for each class
abbrev pub PerClass : Type 0 → Type 0
PerClass A = A × A × A × A × A × A × A × A

-- the values of a function on classes
abbrev pub every : {A : Type 0} → (Class → A) → PerClass A
every f = (f product, f sum, f comparison, f conjunction, f disjunction, f implication, f explication, f equivalence)

-- the answers of the tests, and the lengths of the identifier and of the natural at the place
pub record Answers : Type 0 where
  pub operators : PerClass (Answer Build)
  pub prefix : Answer Operator
  pub opening : Answer ℕ
  pub closing : Answer ℕ
  pub separator : Answer ℕ
  pub name : ℕ
  pub digits : ℕ

-- what the tests answer at a place
abbrev pub answers_at : List ℕ → ℕ → Answers
answers_at text at =
    record {
      operators = every (λ c. operator_of text c at);
      prefix = rules.unary_operator text at;
      opening = sign_at text (spelt_mark lparen) at;
      closing = sign_at text (spelt_mark rparen) at;
      separator = sign_at text (spelt_mark comma) at;
      name = identifier_length (drop at text);
      digits = run is_digit (drop at text);
    }

-- r is the answer of a test that finds the token o
abbrev pub answers_of : Token → Answer ℕ → ℕ → ℕ → Answers
answers_of o r n d =
    record {
      operators = every (λ c. given (in_class c o) (λ b. mapped (λ _. b) r));
      prefix = given (unary o) (λ op. mapped (λ _. op) r);
      opening = given (is_mark lparen o) (λ _. r);
      closing = given (is_mark rparen o) (λ _. r);
      separator = given (is_mark comma o) (λ _. r);
      name = n;
      digits = d;
    }

-- the answers where no sign stands, r being that on words
abbrev only_words : Answer Build → ℕ → ℕ → Answers
only_words r n d =
    record {
      operators = (r, Answer.none, Answer.none, Answer.none, Answer.none, Answer.none, Answer.none, Answer.none);
      prefix = Answer.none;
      opening = Answer.none;
      closing = Answer.none;
      separator = Answer.none;
      name = n;
      digits = d;
    }

-- the readers of signs: `unfolding readers` opens them
unfoldable readers : Unit {0}
unfolding rules.factor_operator rules.term_operator rules.parse_comparison_operator rules.and_operator rules.or_operator rules.implies_operator rules.explies_operator rules.equiv_operator rules.unary_operator rules.equality_operator rules.less_operator rules.more_operator after lexing.sign lexing.sign_not_prefix starts_with
readers = tt

-- a token is read or refused: no later branch is tried
or-lexeme : {X : Type 0} (x : X) (at n : ℕ) (s : List ℕ) (q : Answer X)
    → after (mapped (λ _. x) (moved at (lexeme 0 n s))) q (λ a next. ok a next) ≡ mapped (λ _. x) (moved at (lexeme 0 n s))
unfolding after lexeme
or-lexeme {X} x at n s q = by-blanks (W (drop n s))
  where
    by-blanks : (b : Blanks) → after (mapped (λ _. x) (moved at (lexing.closed 0 n b))) q (λ a next. ok a next) ≡ mapped (λ _. x) (moved at (lexing.closed 0 n b))
    by-blanks (passed k) = refl
    by-blanks (unclosed place) = refl

module _ (text : List ℕ) (at : ℕ) where
  -- where a sign stands, the longest there
  pub sign-answers : (g : Sign) (s : List ℕ) → Longest g s → drop at text ≡ spelt g ++ s
      → answers_at text at ≡ answers_of (sign g) (moved at (lexeme 0 (length (spelt g)) (drop at text))) 0 0
  unfolding readers lexing.keyword identifier_length can_start_identifier_char is_digit run same_bytes is_mark in_class unary binary role sign_role
  sign-answers '!' s l e = rw (e, l, or-lexeme LogicalNot) refl
  sign-answers '-' s l e = rw e refl
  sign-answers '*' s l e = rw (e, or-lexeme (straight Times)) refl
  sign-answers '+' s l e = rw (e, or-lexeme (straight Plus)) refl
  sign-answers '==' s l e = rw (e, l, or-lexeme (straight Eq), or-lexeme (straight Eq)) refl
  sign-answers '!=' s l e = rw (e, or-lexeme (straight Neq)) refl
  sign-answers '<' s l e = rw (e, shorter 61 (61 ∷ 62 ∷ []) s l, shorter 61 (61 ∷ []) s l, l, or-lexeme (straight Less)) refl
  sign-answers '<=' s l e = rw (e, shorter 61 (62 ∷ []) s l, l, or-lexeme (straight AtMost), or-lexeme (straight AtMost)) refl
  sign-answers '>=' s l e = rw (e, or-lexeme (swapped AtMost)) refl
  sign-answers '>' s l e = rw (e, l) refl
  sign-answers '&&' s l e = rw e refl
  sign-answers '||' s l e = rw e refl
  sign-answers '==>' s l e = rw e refl
  sign-answers '<==' s l e = rw (e, l) refl
  sign-answers '<==>' s l e = rw e refl

  -- where a bracket or comma stands
  pub mark-answers : (k : Mark) (s : List ℕ) → drop at text ≡ spelt_mark k ++ s
      → answers_at text at ≡ answers_of (mark k) (moved at (lexeme 0 1 (drop at text))) 0 0
  unfolding readers lexing.keyword identifier_length can_start_identifier_char is_digit run same_bytes is_mark in_class unary binary role sign_role
  mark-answers lparen s e = rw e refl
  mark-answers rparen s e = rw e refl
  mark-answers comma s e = rw e refl

  module _ (no_sign : (g : Sign) → starts_with (spelt g) (drop at text) ≡ false) (no_mark : (k : Mark) → starts_with (spelt_mark k) (drop at text) ≡ false) where
    signless : answers_at text at
        ≡ only_words (mapped (λ _. straight Div) (T text "div" at) or mapped (λ _. straight Mod) (T text "mod" at)) (identifier_length (drop at text))
        (run is_digit (drop at text))
    unfolding readers
    signless =
        rw (
          no_sign '<==>',
          no_sign '==>',
          no_sign '<==',
          no_sign '==',
          no_sign '!=',
          no_sign '<=',
          no_sign '>=',
          no_sign '&&',
          no_sign '||',
          no_sign '<',
          no_sign '>',
          no_sign '!',
          no_sign '-',
          no_sign '*',
          no_sign '+',
          no_mark lparen,
          no_mark rparen,
          no_mark comma,
        )
        refl

    -- Where no sign stands, the token is the identifier there, or the empty one; n and d are the lengths of the identifier and of the natural.
    pub word-answers : {n d : ℕ} → identifier_length (drop at text) ≡ n → run is_digit (drop at text) ≡ d
        → answers_at text at ≡ answers_of (name (take n (drop at text))) (moved at (lexeme 0 n (drop at text))) n d
    unfolding after lexing.keyword is_mark in_class unary binary role word_role
    word-answers {n} {d} i j = signless ∙ by_word (same_bytes (take n (drop at text)) (bytes "div")) (same_bytes (take n (drop at text)) (bytes "mod")) refl refl
      where
        by_word : (x y : Bool) → same_bytes (take n (drop at text)) (bytes "div") ≡ x → same_bytes (take n (drop at text)) (bytes "mod") ≡ y
            → only_words (mapped (λ _. straight Div) (T text "div" at) or mapped (λ _. straight Mod) (T text "mod" at)) (identifier_length (drop at text))
            (run is_digit (drop at text)) ≡ answers_of (name (take n (drop at text))) (moved at (lexeme 0 n (drop at text))) n d
        by_word true y e f = rw (i, j, e, or-lexeme (straight Div)) refl
        by_word false true e f = rw (i, j, e, f) refl
        by_word false false e f = rw (i, j, e, f) refl
