-- Tokens where a parser stands, as they are read by the functions of `lexing`.
use Rattle.std.proofs.Common.{ℕ, zero, suc, ◌+◌, ◌-◌, ◌≤◌, ◌≡◌, ◌∙◌, refl, sym, ap, subst, List, [], ◌∷◌, length, take, drop, arith, Bool, true, false, Option, Some, None, Result, Ok, Err, length-drop}
use Rattle.std.proofs.lemmas.List.{take_all}
use Rattle.std.proofs.Math.Nat.{le_of_eq, le_refl}
use Rattle.lexing.specs.Answer.{Answer, ok, refused, moved, unclosed_comment}
use Rattle.lexing.specs.Bytes.{same_bytes, run, custom_literal_char}
use Rattle.lexing.specs.Tokens.{keyword, parse_id, parse_custom_literal, natural, closed, lexeme, unless_empty, identifier_length}
use Rattle.lexing.specs.Blanks.{Blanks, passed, unclosed, W}
use Rattle.lexing.specs.CodeAnswers.{answer_of, number}
use Rattle.lexing.specs.TokenLaws.{Within, unless_empty-some, lexeme-within, parse_custom_literal-within, natural-within, keyword-is, identifier-inside}
use Rattle.lexing.specs.declared.token.Token.{Token}
use Rattle.lexing.specs.declared.refusal.Refusal.{Refusal}
use Rattle.tree.specs.Limits.{most_text}
use Rattle.tree.specs.Clash.{impossible}
use Rattle.grammar.specs.Steps.{after, spanned, parse_name, parse_literal_text, parse_nat}
use Rattle.parsing.specs.Contract.{Rule, Went, Takes_if, Lies, Passing, Refusing, Not_here, Stands, Passed, Named, Missing, Spelt, word_here, Passing_word, word}
use Rattle.parsing.specs.Signs.{Operates}
use Rattle.parsing.specs.declared.parser.Parser.{Parser}

-- `&text[at..]` is the rest from `at` on
pub suffix : (s : List ℕ) (at : ℕ) → take (length s - at) (drop at s) ≡ drop at s
suffix s at = take_all (length s - at) (drop at s) (le_of_eq (length-drop at s))

-- the word that stands here, or none
module _ (p : Parser) {n : ℕ} (e : n ≡ identifier_length (take (length p.text.now - p.at) (drop p.at p.text.now))) where
  measures : identifier_length (drop p.at p.text.now) ≡ n
  measures = sym (e ∙ ap identifier_length (suffix p.text.now p.at))

  pub word-spelt : (n ≡ 0 → ⊥) → Spelt p n
  word-spelt f =
      record {
        measured = measures;
        inside = omega (arith, measures, p.inside, identifier-inside (drop p.at p.text.now), length-drop p.at p.text.now);
        filled = omega (arith, f);
      }

  pub word-absent : n ≡ 0 → identifier_length (drop p.at p.text.now) ≡ 0
  word-absent z = measures ∙ z

-- whether it is given bytes
pub here-spelt : (p : Parser) {len : ℕ} {b : Bool} (w : List ℕ) → Spelt p len → b ≡ same_bytes (take len (drop p.at p.text.now)) w → b ≡ word_here p w
here-spelt p w s e = rw s.measured e

pub here-none : (p : Parser) (w : List ℕ) → identifier_length (drop p.at p.text.now) ≡ 0 → 1 ≤ length w → false ≡ word_here p w
unfolding same_bytes
here-none p [] e h = absurd (omega arith)
here-none p (x ∷ w) e h = rw e refl

-- a token is inside the text where its answer is
lies : (p : Parser) (k : ℕ) (r : Result (Option Token) Refusal) → Within k (length (drop p.at p.text.now)) (answer_of r) → Lies p r
lies p k (Ok (Some t)) w = omega (arith, p.inside, length-drop p.at p.text.now)
lies p k (Ok None) w = tt
lies p k (Err e) w = omega (arith, p.inside, length-drop p.at p.text.now)

module _ (p : Parser) (r : Result (Option Token) Refusal) (a : Answer ℕ) (k : ℕ) (e : answer_of r ≡ a)
    (w : Within k (length (drop p.at p.text.now)) a) where
  fits : Within k (length (drop p.at p.text.now)) (answer_of r)
  fits = subst (Within k (length (drop p.at p.text.now))) (sym e) w

  pub answer-lies : Lies p r
  answer-lies = lies p k r fits

  module _ (q : Parser) where
    -- a token that was passed
    pub went : (v : ℕ) (m : Passing r p q v) → Went k 0 p q
    went v m =
        let w : Within k (length (drop p.at p.text.now)) (ok v m.size) = rw m.was at fits in
        record {
          later = m.went.later;
          onward = omega (arith, m.place, w.0);
          paid = omega (arith, m.went.paid, m.place, m.top_same);
        }

    -- a token that may stand was read, whose answer is the rule's with places from here on
    pub answer-takes : (rule : Rule ℕ) → rule p.text.now p.at ≡ moved p.at a → (b : Result Bool Refusal) → Stands r p q b → Takes_if rule k p q b
    answer-takes rule says (Ok true) f =
        let m = f.passing in
        record { value = f.value; says = says ∙ rw (← e, m.was, m.place) refl; went = went f.value m; top_same = m.top_same }
    answer-takes rule says (Ok false) f = record { says = says ∙ rw (← e, f.was) refl; same = f.same }
    answer-takes rule says (Err d) f = says ∙ rw (← e, f.was, f.here) refl

-- the same, for a reader of the rest of the text
module _ (reader : List ℕ → Answer ℕ) (k : ℕ) (within : (s : List ℕ) → Within k (length s) (reader s)) (p : Parser)
    (r : Result (Option Token) Refusal) (e : answer_of r ≡ reader (take (length p.text.now - p.at) (drop p.at p.text.now))) where
  here : answer_of r ≡ reader (drop p.at p.text.now)
  here = e ∙ ap reader (suffix p.text.now p.at)

  pub token-lies : Lies p r
  token-lies = answer-lies p r _ k here (within (drop p.at p.text.now))

  pub token-takes : (rule : Rule ℕ) → ((text : List ℕ) (at : ℕ) → rule text at ≡ moved at (reader (drop at text))) → (q : Parser) (b : Result Bool Refusal)
      → Stands r p q b → Takes_if rule k p q b
  token-takes rule says q b f = answer-takes p r _ k here (within (drop p.at p.text.now)) q rule (says _ _) b f

-- ---- the word of `len` bytes, and the blanks after it
module _ (p : Parser) (len : ℕ) (s : Spelt p len) (r : Result (Option Token) Refusal)
    (e : answer_of r ≡ lexeme 0 len (take (length p.text.now - p.at) (drop p.at p.text.now))) where
  blanks-here : answer_of r ≡ lexeme 0 len (drop p.at p.text.now)
  blanks-here = e ∙ ap (lexeme 0 len) (suffix p.text.now p.at)

  blanks-within : (k : ℕ) → k ≤ len → Within k (length (drop p.at p.text.now)) (lexeme 0 len (drop p.at p.text.now))
  blanks-within k h = lexeme-within 0 k len (drop p.at p.text.now) h (omega (arith, s.inside, length-drop p.at p.text.now))

  pub word-lies : Lies p r
  word-lies = answer-lies p r _ len blanks-here (blanks-within len (le_refl _))

  module _ (q : Parser) where
    -- `T` of the word's bytes
    pub keyword-takes : (w : List ℕ) → same_bytes (take len (drop p.at p.text.now)) w ≡ true → (b : Result Bool Refusal) → Stands r p q b
        → Takes_if (word w) (length w) p q b
    unfolding keyword
    keyword-takes w h b f =
        let m : same_bytes (take (identifier_length (drop p.at p.text.now)) (drop p.at p.text.now)) w ≡ true = rw s.measured h in
        let l : length w ≤ len = omega (arith, (keyword-is w (drop p.at p.text.now) m).1, s.measured) in
        answer-takes p r _ (length w) blanks-here (blanks-within (length w) l) q (word w) (rw (m, s.measured) refl) b f

  -- the word as a name
  name-closed : parse_name p.text.now p.at ≡ spanned p.text.now p.at (moved p.at (closed len len (W (drop len (drop p.at p.text.now)))))
  unfolding after parse_id lexeme
  name-closed = rw s.measured (ap (λ r. spanned p.text.now p.at (moved p.at r)) (sym (unless_empty-some len _ (λ z. omega (arith, s.filled)))))

  module _ (q : Parser) where
    by-blanks : (b : Blanks) → W (drop len (drop p.at p.text.now)) ≡ b → answer_of r ≡ closed 0 len b → (t : Bool) → Stands r p q (Ok t)
        → Passing_word len p q (record { start = p.at; len = len })
    unfolding after
    by-blanks (passed k) w a true f =
        let m = f.passing in
        let e : ok f.value m.size ≡ ok 0 (len + k) = rw m.was at a in
        let h : len + k ≡ m.size = cc in
        record {
          named = record {
            says = name-closed ∙ rw (w, m.place, ← h) refl;
            went = went p r _ 1 blanks-here (blanks-within 1 s.filled) q f.value m;
            top_same = m.top_same;
            start_is = refl;
            low = omega (arith, m.place);
          };
          len_is = refl;
        }
    by-blanks (passed k) w a false f = let e : ◌≡◌ {A = Answer ℕ} Answer.none (ok 0 (len + k)) = rw f.was at a in impossible cc
    by-blanks (unclosed k) w a true f = let e : ok f.value f.passing.size ≡ refused unclosed_comment (len + k) = rw f.passing.was at a in impossible cc
    by-blanks (unclosed k) w a false f = let e : ◌≡◌ {A = Answer ℕ} Answer.none (refused unclosed_comment (len + k)) = rw f.was at a in impossible cc

    pub word-passes : (t : Bool) → Stands r p q (Ok t) → Passing_word len p q (record { start = p.at; len = len })
    unfolding lexeme
    word-passes t f = by-blanks (W (drop len (drop p.at p.text.now))) refl blanks-here t f

    refused-by : (b : Blanks) → W (drop len (drop p.at p.text.now)) ≡ b → answer_of r ≡ closed 0 len b → (d : Refusal) → Refusing r p d
        → parse_name p.text.now p.at ≡ refused (number d.reason) d.place
    unfolding after
    refused-by (passed k) w a d f = let e : ◌≡◌ {A = Answer ℕ} (refused (number d.reason) f.place) (ok 0 (len + k)) = rw f.was at a in impossible cc
    refused-by (unclosed k) w a d f =
        let e : refused (number d.reason) f.place ≡ refused unclosed_comment (len + k) = rw f.was at a in
        let h : unclosed_comment ≡ number d.reason = cc in
        let l : len + k ≡ f.place = cc in
        name-closed ∙ rw (w, f.here, ← h, ← l) refl

    pub word-refused : (d : Refusal) → Refusing r p d → parse_name p.text.now p.at ≡ refused (number d.reason) d.place
    unfolding lexeme
    word-refused d f = refused-by (W (drop len (drop p.at p.text.now))) refl blanks-here d f

-- where another word or none stands the keyword does not
pub no-keyword : (p q : Parser) (w : List ℕ) → word_here p w ≡ false → q ≡ p → Missing (word w) p q
unfolding keyword
no-keyword p q w h e = record { says = rw h refl; same = e }

-- where no word stands, no name does
pub no-name : (p q : Parser) → identifier_length (drop p.at p.text.now) ≡ 0 → q ≡ p → Missing parse_name p q
unfolding after parse_id
no-name p q n e = record { says = rw n refl; same = e }

-- ---- the text of a custom literal
module _ (p : Parser) (r : Result (Option Token) Refusal)
    (e : answer_of r ≡ parse_custom_literal (take (length p.text.now - p.at) (drop p.at p.text.now))) where
  text-here : answer_of r ≡ parse_custom_literal (drop p.at p.text.now)
  text-here = e ∙ ap parse_custom_literal (suffix p.text.now p.at)

  text-within : Within 1 (length (drop p.at p.text.now)) (parse_custom_literal (drop p.at p.text.now))
  text-within = parse_custom_literal-within (drop p.at p.text.now)

  -- its value is its length
  whole : (v n : ℕ) → parse_custom_literal (drop p.at p.text.now) ≡ ok v n → v ≡ n
  unfolding parse_custom_literal
  whole v n h = by-length (run custom_literal_char (drop p.at p.text.now)) h
    where
      by-length : (k : ℕ) → unless_empty k (ok k k) ≡ ok v n → v ≡ n
      by-length zero h = impossible cc
      by-length (suc k) h = cc

  module _ (q : Parser) where
    pub text-read : (v : ℕ) → Passing r p q v → Named parse_literal_text p q (record { start = p.at; len = v })
    unfolding after
    text-read v m =
        let h : parse_custom_literal (drop p.at p.text.now) ≡ ok v m.size = rw m.was at (sym text-here) in
        let l : v ≡ m.size = whole v m.size h in
        record {
          says = rw (h, m.place) refl;
          went = went p r _ 1 text-here text-within q v m;
          top_same = m.top_same;
          start_is = refl;
          low = omega (arith, m.place);
        }

    -- its length is that of a text at most
    pub text-short : (v : ℕ) → Passing r p q v → v ≤ most_text
    text-short v m = let n = text-read v m in omega (arith, n.low, q.inside, q.short)

    pub text-missing : Not_here r p q → Missing parse_literal_text p q
    unfolding after
    text-missing f = record { says = rw (← text-here, f.was) refl; same = f.same }

    pub text-refused : (d : Refusal) → Refusing r p d → parse_literal_text p.text.now p.at ≡ refused (number d.reason) d.place
    unfolding after
    text-refused d f = rw (← text-here, f.was, f.here) refl

-- ---- a natural
module _ (p : Parser) (r : Result (Option Token) Refusal)
    (e : answer_of r ≡ natural (take (length p.text.now - p.at) (drop p.at p.text.now))) (q : Parser) where
  natural-here : answer_of r ≡ natural (drop p.at p.text.now)
  natural-here = e ∙ ap natural (suffix p.text.now p.at)

  pub natural-operates : (b : Result (Option ℕ) Refusal) → Passed r p q b → Operates (λ v. v) parse_nat p q b
  natural-operates (Ok (Some v)) m =
      record {
        says = rw (← natural-here, m.was, m.place) refl;
        went = went p r _ 1 natural-here (natural-within (drop p.at p.text.now)) q v m;
        top_same = m.top_same;
      }
  natural-operates (Ok None) f = record { says = rw (← natural-here, f.was) refl; same = f.same }
  natural-operates (Err d) f = rw (← natural-here, f.was, f.here) refl
