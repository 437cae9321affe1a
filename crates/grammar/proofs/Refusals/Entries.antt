-- The refusals of read expression and read program (Reading.antt), by number and place.
use Rattle.std.specs.Prelude.{ℕ, suc, ◌-◌, ◌≤◌, ◌<◌, ◌≡◌, ◌↔◌, refl, Bool, true, false, ◌&&◌, List, [], ◌∷◌, ◌++◌, length, drop, replicate, leb, eqb}
use Rattle.std.proofs.Common.{◌∙◌, zero-le, arith, subst, leb-true, leb-false, eqb-true, eq-eqb}
use Rattle.std.proofs.lemmas.Bool.{eqb-false}
use Rattle.std.proofs.Math.ListN.{length-drop}
use Rattle.lexing.specs.RunLaws.{both_true}
use Rattle.lexing.specs.TokenLaws.{starts_with-inside}
use Rattle.lexing.specs.Answer.{Answer, refused, pick, text_too_long, unusable_token, tree_too_large, ended_too_soon}
use Rattle.tree.specs.Limits.{most_text, most_words}
use Rattle.tree.specs.Clash.{impossible}
use Rattle.tree.specs.Resolve.{map_program}
use Rattle.grammar.specs.Steps.{Reader}
use Rattle.grammar.specs.Statements.{gallery}
use Rattle.grammar.specs.Declarations.{TopLevel}
use Rattle.grammar.specs.OperatorTrees.{most_depth}
use Rattle.grammar.specs.Reading.{Outcome, words, refusal, parse_text, parse_program, whole_text, unless_long, stored, outcome_by, told_number, told, expression_outcome, read_tree, read_expression, program_outcome, read_tree_of_program, read_program}
use Rattle.grammar.specs.ClaimTerms.{ByRule, unusable-token, depth, large-natural, open-comment, OfReading, long-text, by-rule, ended-too-soon, many-words, ToldAs, ended, stays}
use Rattle.grammar.proofs.Told.{told-as}
use Rattle.grammar.proofs.Inside.Answers.{Gives, given, nothing, refuses, ReadsIn, Fixed, Keeping}
use Rattle.grammar.proofs.Inside.Expressions.{parse_expr-kept}
use Rattle.grammar.proofs.Inside.Statements.{gallery-kept}
use Rattle.grammar.proofs.Inside.Declarations.{TopLevel-kept}
use Rattle.grammar.proofs.Inside.Accepted.{whole-gives}

-- no rule refuses by 0, 5 or 13
rule-number : {text : List ℕ} {number place : ℕ} → ByRule text number place → (1 ≤ number) × (number ≡ tree_too_large → ⊥) × (number ≡ ended_too_soon → ⊥)
rule-number unusable-token = (omega arith, λ e. omega arith, λ e. omega arith)
rule-number (depth l) = (omega arith, λ e. omega arith, λ e. omega arith)
rule-number (large-natural l) = (omega arith, λ e. omega arith, λ e. omega arith)
rule-number (open-comment o c) = (omega arith, λ e. omega arith, λ e. omega arith)

-- The number of a reading's refusal is not 0, and its place at most 32,768.
pub refusal-numbered : {text : List ℕ} {number place : ℕ} → OfReading text number place → 1 ≤ number
refusal-numbered (long-text h) = omega arith
refusal-numbered (by-rule h r l) = (rule-number r).0
refusal-numbered (ended-too-soon h) = omega arith
refusal-numbered (many-words h) = omega arith

pub refusal-inside : {text : List ℕ} {number place : ℕ} → OfReading text number place → place ≤ most_text
refusal-inside (long-text h) = omega arith
refusal-inside (by-rule h r l) = omega arith
refusal-inside (ended-too-soon h) = h
refusal-inside (many-words h) = omega arith

-- what the rules refuse, by number and place, before it is told
data OfRules (text : List ℕ) : ℕ → ℕ → Type 0 where
  long : most_text < length text → OfRules text text_too_long most_text
  rule : {number place : ℕ} → length text ≤ most_text → ByRule text number place → place ≤ length text → OfRules text number place
  many : length text ≤ most_text → OfRules text tree_too_large 0

-- a refusal is told as one of a reading
told-by : {text : List ℕ} {number place : ℕ} → OfRules text number place → OfReading text (told_number text number place) place
told-by (long h) = long-text h
told-by {text} {place} (rule h unusable-token l) = by-place (eqb place (length text)) refl
  where
    by-place : (b : Bool) → eqb place (length text) ≡ b → OfReading text (pick b 13 2) place
    by-place true e = rw (eqb-true place (length text) e) (ended-too-soon h)
    by-place false e = by-rule h unusable-token (omega (arith, l, eqb-false place (length text) e))
told-by (rule h (depth l) _) = by-rule h (depth l) l
told-by (rule h (large-natural l) _) = by-rule h (large-natural l) l
told-by {text} {place} (rule h (open-comment o c) _) =
    by-rule h (open-comment o c) (omega (arith, starts_with-inside (47 ∷ 42 ∷ []) (drop place text) o, length-drop place text))
told-by (many h) = many-words h

-- and none is refused by 13
not-ended : {text : List ℕ} {place : ℕ} → OfRules text ended_too_soon place → ⊥
not-ended r = none-is r refl
  where
    none-is : {text : List ℕ} {number place : ℕ} → OfRules text number place → number ≡ ended_too_soon → ⊥
    none-is (long h) e = omega arith
    none-is (rule h r l) e = (rule-number r).2 e
    none-is (many h) e = omega arith

-- a text of at most 32,768 bytes, and k words that a table of n has room for
pub record Held (text : List ℕ) (n k : ℕ) : Type 0 where
  pub short : length text ≤ most_text
  pub fits : k ≤ n

-- an outcome by the rules is one or the other
abbrev Limited : List ℕ → ℕ → Outcome → Type 0
Limited text n (words k table) = Held text n k
Limited text n (refusal number place table) = OfRules text number place

-- no text is refused by 5 before its words are stored
whole-refused : {A : Type 0} {P : A → Type 0} (text : List ℕ) {rule : Reader A} → ReadsIn P text rule → {number place : ℕ}
    → unless_long text (whole_text text rule) ≡ refused number place → number ≡ 5 → ⊥
whole-refused {A} {P} text {rule} h {number} {place} = by_length (leb (length text) most_text)
  where
    of-rules : {r : Answer A} → Gives P text r → r ≡ refused number place → number ≡ 5 → ⊥
    of-rules (given g l) e f = impossible (cc)
    of-rules nothing e f = impossible (cc)
    of-rules (refuses {number = k} n i) e f = let same : k ≡ number = cc in (rule-number n).1 (same ∙ f)

    by_length : (b : Bool) → pick b (whole_text text rule) (refused 1 most_text) ≡ refused number place → number ≡ 5 → ⊥
    by_length true e f = of-rules (whole-gives text h) e f
    by_length false e f = let same : 1 ≡ number = cc in omega arith

-- the words are stored, or refused by 5
stored-limited : (text : List ℕ) (n : ℕ) → length text ≤ most_text → (ws : List ℕ) → Limited text n (stored n ws)
stored-limited text n h ws = by-fit (leb (length ws) n && leb (length ws) most_words) refl
  where
    by-fit : (b : Bool) → (leb (length ws) n && leb (length ws) most_words) ≡ b
        → Limited text n (pick b (words (length ws) (ws ++ replicate (n - length ws) 0)) (refusal 5 0 (replicate n 0)))
    by-fit true e = record { short = h; fits = leb-true _ _ (both_true _ _ e).0 }
    by-fit false e = many h

module _ {A : Type 0} {P : A → Type 0} (words_of : A → List ℕ) (text : List ℕ) (n : ℕ) where
  -- of a text of at most 32,768 bytes
  answer-limited : length text ≤ most_text → {r : Answer A} → Gives P text r → Limited text n (outcome_by words_of n r)
  answer-limited h (given {a} g l) = stored-limited text n h (words_of a)
  answer-limited h nothing = rule h unusable-token zero-le
  answer-limited h (refuses n i) = rule h n i.inside

  -- of any text
  text-limited : {rule : Reader A} → ReadsIn P text rule → Limited text n (outcome_by words_of n (unless_long text (whole_text text rule)))
  text-limited {rule} h = by_length (leb (length text) most_text) refl
    where
      by_length : (b : Bool) → leb (length text) most_text ≡ b → Limited text n (outcome_by words_of n (pick b (whole_text text rule) (refused 1 most_text)))
      by_length true e = answer-limited (leb-true _ _ e) (whole-gives text h)
      by_length false e = long (leb-false _ _ e)

-- the same of an outcome as it is told
abbrev Readable : List ℕ → ℕ → Outcome → Type 0
Readable text n (words k table) = Held text n k
Readable text n (refusal number place table) = OfReading text number place

module _ (text : List ℕ) (n : ℕ) where
  readable : (w : Outcome) → Limited text n w → Readable text n (told text w)
  readable (words k table) l = l
  readable (refusal number place table) l = told-by l

  -- 13 is told where the rules refuse the text's end, and only there
  ended-exactly : (w : Outcome) → Limited text n w → (place : ℕ) (table : List ℕ)
      → (told text w ≡ refusal ended_too_soon place table) ↔ ((place ≡ length text) × (w ≡ refusal unusable_token (length text) table))
  ended-exactly w l place table = (only-there l (told-as text w), λ (p, e). rw (e, p, eq-eqb (length text) (length text) refl) refl)
    where
      only-there : {w t : Outcome} → Limited text n w → ToldAs text w t → t ≡ refusal ended_too_soon place table
          → (place ≡ length text) × (w ≡ refusal unusable_token (length text) table)
      only-there l ended e = (cc, cc)
      only-there l (stays s) e = absurd (not-ended (subst (Limited text n) e l))

-- A token that cannot be used stands before the text's end, and only at its end it is told that the text ended too soon.
pub unusable-inside : {text : List ℕ} {number place : ℕ} → OfReading text number place → number ≡ unusable_token → place < length text
unusable-inside (long-text h) e = absurd (omega arith)
unusable-inside (by-rule h r l) e = l
unusable-inside (ended-too-soon h) e = absurd (omega arith)
unusable-inside (many-words h) e = absurd (omega arith)

-- what the rules give, of which the places are used here
module _ (text : List ℕ) where
  abbrev same : Keeping text
  same = record { keep = λ s. s; kept = λ s h. refl }

  abbrev turns : ℕ
  turns = suc (length text)

  program-reads : ReadsIn (Fixed (map_program (λ s. s))) text (TopLevel text turns (gallery text turns most_depth))
  program-reads = TopLevel-kept same turns (gallery-kept same turns most_depth)

-- No rule of programs refuses by 5.
pub program-rules-refused : (text : List ℕ) {number place : ℕ} → read_tree_of_program text ≡ refused number place → number ≡ 5 → ⊥
unfolding read_tree_of_program parse_program
program-rules-refused text = whole-refused text (program-reads text)

module _ (text : List ℕ) (n : ℕ) where
  expression-limited : Limited text n (expression_outcome text n)
  unfolding read_tree parse_text
  expression-limited = text-limited _ text n (parse_expr-kept (same text) (turns text) most_depth)

  program-limited : Limited text n (program_outcome text n)
  unfolding read_tree_of_program parse_program
  program-limited = text-limited _ text n (program-reads text)

  -- The refusals of read expression and of read program.
  pub expression-refused : {number place : ℕ} {table : List ℕ} → read_expression text n ≡ refusal number place table → OfReading text number place
  unfolding read_expression
  expression-refused e = subst (Readable text n) e (readable text n _ expression-limited)

  pub program-refused : {number place : ℕ} {table : List ℕ} → read_program text n ≡ refusal number place table → OfReading text number place
  unfolding read_program
  program-refused e = subst (Readable text n) e (readable text n _ program-limited)

  -- A program that is read keeps the limits.
  pub program-held : {k : ℕ} {table : List ℕ} → read_program text n ≡ words k table → Held text n k
  unfolding read_program
  program-held e = subst (Readable text n) e (readable text n _ program-limited)

  -- Each is told by 13 exactly where the rules refuse the text's end by 2.
  pub expression-ended : (place : ℕ) (table : List ℕ)
      → (read_expression text n ≡ refusal ended_too_soon place table) ↔ ((place ≡ length text) × (expression_outcome text n ≡ refusal unusable_token (length text) table))
  unfolding read_expression
  expression-ended = ended-exactly text n _ expression-limited

  pub program-ended : (place : ℕ) (table : List ℕ)
      → (read_program text n ≡ refusal ended_too_soon place table) ↔ ((place ≡ length text) × (program_outcome text n ≡ refusal unusable_token (length text) table))
  unfolding read_program
  program-ended = ended-exactly text n _ program-limited
