-- A tree that is read is one over names inside the text, so the words that are stored pass the check.
use Rattle.std.specs.Prelude.{ℕ, suc, ◌+◌, ◌≤◌, ◌≡◌, refl, Bool, true, false, List, [], length, take, leb, eqb}
use Rattle.std.proofs.Common.{arith, zero-le, sym, ap, ◌∙◌, leb-true, le-leb}
use Rattle.std.proofs.Math.Option.{none}
use Rattle.std.proofs.Math.Seq.{take-append_seam}
use Rattle.lexing.specs.RunLaws.{pick-cases}
use Rattle.lexing.specs.Answer.{Answer, ok, refused}
use Rattle.lexing.specs.Blanks.{Blanks, passed, unclosed, W}
use Rattle.lexing.specs.BlankLaws.{reach, W-inside}
use Rattle.tree.specs.Ast.{Span, Expr, Program}
use Rattle.tree.specs.Limits.{most_text, most_words}
use Rattle.tree.specs.Resolve.{map_expr, map_program}
use Rattle.tree.specs.Words.{expr_words, program_words}
use Rattle.tree.specs.Check.{NameIn, expression_refusal, program_refusal}
use Rattle.tree.specs.MapWords.{expr-map, program-map}
use Rattle.tree.specs.Claims.{expression-accepted, program-accepted, expression-unique, program-unique, expression-spans, program-spans}
use Rattle.tree.specs.Clash.{impossible}
use Rattle.grammar.specs.Steps.{Reader, after, need}
use Rattle.grammar.specs.OperatorTrees.{most_depth}
use Rattle.grammar.specs.ClaimTerms.{open-comment}
use Rattle.grammar.specs.Reading.{Outcome, words, refusal, leading, to_end, whole_text, unless_long, stored, outcome_by, told, read_tree, read_expression, read_tree_of_program, read_program}
use Rattle.grammar.proofs.Bridge.Limits.{stored-inv, stored-fits}
use Rattle.grammar.proofs.Told.{told-words}
use Rattle.grammar.proofs.Inside.Answers.{Gives, given, refuses, ReadsIn, gives-ok, unusable, step, picked, open-at, Keeping}
use Rattle.grammar.proofs.Inside.Expressions.{parse_expr-kept}
use Rattle.grammar.proofs.Inside.Statements.{gallery-kept}
use Rattle.grammar.proofs.Inside.Declarations.{TopLevel-kept}

-- what a rule gives of a whole text
pub whole-gives : {A : Type 0} {P : A → Type 0} {rule : Reader A} (text : List ℕ) → ReadsIn P text rule → Gives P text (whole_text text rule)
unfolding after
whole-gives {P} {rule} text h = by-blanks (W text) refl (W-inside text)
  where
    by-blanks : (b : Blanks) → W text ≡ b → reach b ≤ length text → Gives P text (after (leading b) Answer.none (λ at _. need at (rule at) (to_end text)))
    by-blanks (passed n) e l = step _ (h n (record { inside = l })) (unusable (record { inside = l })) (λ a g next m. picked (eqb next (length text)) (given g m) (unusable m))
    by-blanks (unclosed n) e l =
        let (o, c) = open-at text 0 n e in
        let z : 0 + n ≡ n = omega arith in
        refuses {place = n} (open-comment (rw z at o) (rw z at c)) (record { inside = l })

-- so it is of what is read
read-gives : {A : Type 0} {P : A → Type 0} {rule : Reader A} (text : List ℕ) → ReadsIn P text rule → {a : A} {next : ℕ}
    → unless_long text (whole_text text rule) ≡ ok a next → P a
read-gives text h e = pick-cases (leb (length text) most_text) e (λ _ r. gives-ok (whole-gives text h) r) (λ _ r. impossible (cc))

-- ---- names inside a text of that length

module _ (len : ℕ) where
  abbrev clip_by : (s : Span) (b : Bool) → leb (s.start + s.len) len ≡ b → NameIn len
  clip_by s true h = record { span = s; inside = leb-true _ _ h }
  clip_by s false h = record { span = record { start = 0; len = 0 }; inside = zero-le }

  -- the span itself where it lies inside, else an empty one
  abbrev clip : Span → NameIn len
  clip s = clip_by s (leb (s.start + s.len) len) refl

  clip-kept : (s : Span) (b : Bool) (h : leb (s.start + s.len) len ≡ b) → b ≡ true → (clip_by s b h).span ≡ s
  clip-kept s true h e = refl
  clip-kept s false h e = impossible (cc)

  abbrev span_in : NameIn len → Span
  span_in n = n.span

  abbrev clip_span : Span → Span
  clip_span s = (clip s).span

  -- the spans of clipped names, since a tree's words determine it
  expr-clipped : (e : Expr Span) → map_expr span_in (map_expr clip e) ≡ map_expr clip_span e
  expr-clipped e =
      let same = sym (expr-map (λ s. s) span_in (map_expr clip e)) ∙ sym (expr-map span_in clip e) ∙ expr-map (λ s. s) clip_span e in
      (expression-unique _ _ [] [] (λ i. same i [])).0

  program-clipped : (p : Program Span) → map_program span_in (map_program clip p) ≡ map_program clip_span p
  program-clipped p =
      let same = sym (program-map (λ s. s) span_in (map_program clip p)) ∙ sym (program-map span_in clip p) ∙ program-map (λ s. s) clip_span p in
      (program-unique _ _ [] [] (λ i. same i [])).0

module _ (text : List ℕ) where
  abbrev clipping : Keeping text
  clipping = record { keep = clip_span (length text); kept = λ s h. clip-kept (length text) s _ refl (le-leb _ _ h) }

  -- a tree that is read is one over names inside the text
  pub expression-inside : {e : Expr Span} {next : ℕ} → read_tree text ≡ ok e next → (t : Expr (NameIn (length text))) × (map_expr (λ n. n.span) t ≡ e)
  unfolding read_tree
  expression-inside {e} r =
      let kept = read-gives text (parse_expr-kept clipping (suc (length text)) most_depth) r in
      (map_expr (clip (length text)) e, expr-clipped (length text) e ∙ kept)

  pub program-inside : {p : Program Span} {next : ℕ} → read_tree_of_program text ≡ ok p next
      → (t : Program (NameIn (length text))) × (map_program (λ n. n.span) t ≡ p)
  unfolding read_tree_of_program
  program-inside {p} r =
      let kept = read-gives text (TopLevel-kept clipping (suc (length text)) (gallery-kept clipping (suc (length text)) most_depth)) r in
      (map_program (clip (length text)) p, program-clipped (length text) p ∙ kept)

-- ---- the table

abbrev held : Outcome → List ℕ
held (words k ws) = take k ws
held (refusal number place ws) = []

-- the words in a table pass a test that the words of each tree in B pass, if what is read is such a tree
table-passes : {A B : Type 0} (words_of : A → List ℕ) (spans : B → A) (Passes : List ℕ → Type 0)
    → ((b : B) → length (words_of (spans b)) ≤ most_words → Passes (words_of (spans b)))
    → (r : Answer A) → ((a : A) (next : ℕ) → r ≡ ok a next → (b : B) × (spans b ≡ a))
    → (text : List ℕ) (n : ℕ) {k : ℕ} {ws : List ℕ} → told text (outcome_by words_of n r) ≡ words k ws → Passes (take k ws)
table-passes words_of spans Passes passes (ok a next) inside text n {k} {ws} t =
    let (b, q) = inside a next refl in
    let p : stored n (words_of a) ≡ words k ws = told-words text (stored n (words_of a)) t in
    let (fits, few) = stored-inv [] n (words_of a) p in
    let taken : take k ws ≡ words_of a = ap held (sym p ∙ stored-fits [] n (words_of a) fits few) ∙ take-append_seam (words_of a) _ in
    rw (taken, ← q) (passes b (rw q few))
table-passes words_of spans Passes passes Answer.none inside text n p = impossible (cc)
table-passes words_of spans Passes passes (refused number place) inside text n p = impossible (cc)

module _ (text : List ℕ) (n : ℕ) {k : ℕ} {ws : List ℕ} where
  pub expression-passes : read_expression text n ≡ words k ws → expression_refusal (take k ws) (length text) ≡ none
  unfolding read_expression
  expression-passes =
      table-passes (λ e. expr_words (λ s. s) e []) (map_expr (λ n. n.span)) (λ ws. expression_refusal ws (length text) ≡ none)
      (λ t few. (expression-accepted _ _).1 (few, (t, λ i. expression-spans _ t i []))) (read_tree text) (λ e next. expression-inside text) text n

  pub program-passes : read_program text n ≡ words k ws → program_refusal (take k ws) (length text) ≡ none
  unfolding read_program
  program-passes =
      table-passes (λ p. program_words (λ s. s) p []) (map_program (λ n. n.span)) (λ ws. program_refusal ws (length text) ≡ none)
      (λ t few. (program-accepted _ _).1 (few, (t, λ i. program-spans _ t i []))) (read_tree_of_program text) (λ p next. program-inside text) text n
