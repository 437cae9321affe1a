-- What a rule gives at a place of a text: the laws of tokens, of the combinators (Steps.antt), of the sequences (Rules.antt, Statements.antt) and of
-- names.
use Prim.Native.Nat.{ℕ, zero, suc, ◌+◌, ◌≤◌, ◌<◌}
use Rattle.std.proofs.Common.{arith, subst}
use Rattle.std.specs.Prelude.{◌≡◌, Bool, true, false, List, [], ◌∷◌, map, drop}
use Rattle.std.proofs.Math.Path.{refl, ap}
use Rattle.std.proofs.Math.ListN.{length, length-drop}
use Rattle.lexing.specs.Answer.{Answer, ok, refused, moved, pick}
use Rattle.lexing.specs.Bytes.{custom_literal_char, run}
use Rattle.lexing.specs.Blanks.{Blanks, passed, unclosed, long_comment, W}
use Rattle.lexing.specs.Refused.{Opens}
use Rattle.lexing.proofs.Claims.{unclosed-exactly}
use Rattle.std.proofs.Math.Option.{none}
use Rattle.std.proofs.Common.{drop-drop}
use Rattle.lexing.specs.BlankLaws.{reach, W-inside}
use Rattle.lexing.specs.RunLaws.{run_inside}
use Rattle.lexing.specs.Tokens.{closed, lexeme, unless_empty, identifier_length, parse_id, parse_custom_literal, keyword, sign, sign_not_prefix, natural}
use Rattle.lexing.specs.TokenLaws.{Token, absent, too_large, present, identifier-inside, natural-token, sign-token, sign_not_prefix-token, keyword-token}
use Rattle.tree.specs.Ast.{Span}
use Rattle.tree.specs.Clash.{impossible}
use Rattle.grammar.specs.Steps.{Reader, after, ◌or◌, spanned, parse_name, parse_literal_text}
use Rattle.grammar.specs.Rules.{Sequence, comma_tail, parse_nonempty_comma_delimited_seq, parse_comma_delimited_seq, parse_listed}
use Rattle.grammar.specs.Statements.{rep}
use Rattle.grammar.specs.ClaimTerms.{ByRule, unusable-token, depth, large-natural, open-comment}

-- a place of a text, or its end
pub record Inside (text : List ℕ) (at : ℕ) : Type 0 where
  pub inside : at ≤ length text

-- what is given, if anything, has the property P; the place after it, and a refusal's place, lie inside a text of that length; a refusal is by a
-- rule of `ByRule`
pub data Gives {A : Type 0} (P : A → Type 0) (text : List ℕ) : Answer A → Type 0 where
  given : {a : A} {next : ℕ} → P a → Inside text next → Gives P text (ok a next)
  nothing : Gives P text Answer.none
  refuses : {number place : ℕ} → ByRule text number place → Inside text place → Gives P text (refused number place)

-- the same of a rule, at every place of the text
abbrev pub ReadsIn : {A : Type 0} → (A → Type 0) → List ℕ → Reader A → Type 0
ReadsIn P text rule = (at : ℕ) → Inside text at → Gives P text (rule at)

-- no property
abbrev pub Any : {A : Type 0} → A → Type 0
Any a = Unit {0}

-- f changes nothing in it
abbrev pub Fixed : {A : Type 0} → (A → A) → A → Type 0
Fixed f a = f a ≡ a

-- what is given has the property
pub gives-ok : {A : Type 0} {P : A → Type 0} {text : List ℕ} {r : Answer A} {a : A} {next : ℕ} → Gives P text r → r ≡ ok a next → P a
gives-ok {P} (given h l) e = subst P (cc) h
gives-ok nothing e = impossible (cc)
gives-ok (refuses n l) e = impossible (cc)

-- ---- the combinators

module _ {text : List ℕ} where
  -- refusal 2, and refusal 3
  pub unusable : {A : Type 0} {P : A → Type 0} {at : ℕ} → Inside text at → Gives P text (refused 2 at)
  unusable = refuses unusable-token

  pub too-deep : {A : Type 0} {P : A → Type 0} {at : ℕ} → at < length text → Gives P text (refused 3 at)
  too-deep l = refuses (depth l) (record { inside = omega (arith, l) })

  module _ {A : Type 0} (P : A → Type 0) {B : Type 0} {Q : B → Type 0} {stop : Answer B} {go : A → ℕ → Answer B} where
    -- after a step that gives something with the property P
    pub step : {r : Answer A} → Gives P text r → Gives Q text stop → ((a : A) → P a → ReadsIn Q text (go a)) → Gives Q text (after r stop go)
    unfolding after
    step (given {a} {next} h l) s k = k a h next l
    step nothing s k = s
    step (refuses n l) s k = refuses n l

  -- after a rule that gives such
  pub by : {A : Type 0} {P : A → Type 0} {rule : Reader A} → ReadsIn P text rule → {B : Type 0} {Q : B → Type 0} {stop : Answer B} {go : A → ℕ → Answer B}
      (at : ℕ) → Inside text at → Gives Q text stop → ((a : A) → P a → ReadsIn Q text (go a)) → Gives Q text (after (rule at) stop go)
  by h at l = step _ (h at l)

  module _ {A : Type 0} {P : A → Type 0} where
    -- after a token
    pub token : {stop : Answer A} {go : ℕ → ℕ → Answer A} {r : Answer ℕ} → Gives Any text r → Gives P text stop → ((n : ℕ) → ReadsIn P text (go n))
        → Gives P text (after r stop go)
    token g s k = step _ g s (λ n _. k n)

    pub either : {r q : Answer A} → Gives P text r → Gives P text q → Gives P text (r or q)
    either g h = step P g h (λ a p next. given p)

    pub picked : {r q : Answer A} (b : Bool) → Gives P text r → Gives P text q → Gives P text (pick b r q)
    picked true g h = g
    picked false g h = h

    -- with a weaker property
    pub weaker : {Q : A → Type 0} {r : Answer A} → ((a : A) → P a → Q a) → Gives P text r → Gives Q text r
    weaker f (given {a} h l) = given (f a h) l
    weaker f nothing = nothing
    weaker f (refuses n l) = refuses n l

-- ---- tokens

-- where blanks are refused a long comment opens, and is not closed
pub open-at : (text : List ℕ) (at m : ℕ) → W (drop at text) ≡ unclosed m → Opens (drop (at + m) text) × (long_comment 0 (drop (at + m + 2) text) ≡ none)
open-at text at m e =
    let (meets, c) = (unclosed-exactly (drop at text) m).0 e in
    let two : at + (m + 2) ≡ at + m + 2 = omega arith in
    (rw (drop-drop m at text) at meets.1, rw (drop-drop (m + 2) at text, two) at c)

module _ (text : List ℕ) (at : ℕ) (h : Inside text at) where
  lexeme-given : (v n : ℕ) → n ≤ length (drop at text) → Gives (λ u. u ≡ v) text (moved at (lexeme v n (drop at text)))
  unfolding lexeme
  lexeme-given v n l = by-blanks (W (drop n (drop at text))) refl (W-inside (drop n (drop at text)))
    where
      by-blanks : (b : Blanks) → W (drop n (drop at text)) ≡ b → reach b ≤ length (drop n (drop at text)) → Gives (λ u. u ≡ v) text (moved at (closed v n b))
      by-blanks (passed m) e i = given {next = at + (n + m)} refl (record { inside = omega (arith, h.inside, length-drop n (drop at text), length-drop at text) })
      by-blanks (unclosed m) e i =
          let (o, c) = open-at text (at + n) m (rw (drop-drop n at text) at e) in
          let p : at + n + m ≡ at + (n + m) = omega arith in
          refuses {place = at + (n + m)} (open-comment (rw p at o) (rw p at c)) (record { inside = omega (arith, h.inside, length-drop n (drop at text), length-drop at text) })

  lexed : {k : ℕ} {r : Answer ℕ} → Token k (drop at text) r → Gives Any text (moved at r)
  lexed absent = nothing
  lexed (too_large p) = refuses {place = at + 0} (large-natural (omega (arith, p, length-drop at text))) (record { inside = omega (arith, h.inside) })
  lexed (present v n k l) = weaker (λ _ _. tt) (lexeme-given v n l)

  pub natural-placed : Gives Any text (moved at (natural (drop at text)))
  natural-placed = lexed (natural-token _)

  pub sign-placed : (w : List ℕ) → Gives Any text (moved at (sign w (drop at text)))
  sign-placed w = lexed (sign-token w _)

  pub not_prefix-placed : (w longer : List ℕ) → Gives Any text (moved at (sign_not_prefix w longer (drop at text)))
  not_prefix-placed w longer = lexed (sign_not_prefix-token w longer _)

  pub keyword-placed : (w : List ℕ) → Gives Any text (moved at (keyword w (drop at text)))
  keyword-placed w = lexed (keyword-token w _)

-- ---- the text's end

module _ {A : Type 0} {P : A → Type 0} {text : List ℕ} (at : ℕ) where
  -- a rule that keeps nothing at the text's end need be looked at only before it
  pub before-end : {r : Answer A} → (drop at text ≡ [] → r ≡ Answer.none) → (at < length text → Gives P text r) → Gives P text r
  before-end {r} e f = by-rest (drop at text) refl
    where
      by-rest : (s : List ℕ) → drop at text ≡ s → Gives P text r
      by-rest [] d = rw (e d) nothing
      by-rest (b ∷ s) d = f (omega (arith, ap length d, length-drop at text))

-- what `search` lists after the laws of a rule's own steps
pub ruleset steps = (either, token, given, nothing, unusable, natural-placed, sign-placed, not_prefix-placed, keyword-placed)

-- ---- sequences

-- items with the property P make a sequence with the property R
pub record Closed {A L : Type 0} (q : Sequence A L) (P : A → Type 0) (R : L → Type 0) : Type 0 where
  pub none : R q.nil
  pub more : (a : A) → P a → (l : L) → R l → R (q.cons a l)

-- a list of items that f doesn't change
pub list-closed : {A : Type 0} {P : A → Type 0} (f : A → A) → ((a : A) → P a → Fixed f a) → Closed (record { nil = []; cons = ◌∷◌ }) P (Fixed (map f))
list-closed f fixed = record { none = refl; more = λ a h l t i. fixed a h i ∷ t i }

module _ (text : List ℕ) {A L : Type 0} {q : Sequence A L} {P : A → Type 0} {R : L → Type 0} (k : Closed q P R) (item : Reader A) (h : ReadsIn P text item) where
  pub rep-gives : (n : ℕ) → ReadsIn R text (rep q n item)
  unfolding rep
  rep-gives zero at l = given k.none l
  rep-gives (suc n) at l =
      step _ (h at l) (given k.none l) (λ a g at₁ l₁. step _ (rep-gives n at₁ l₁) nothing (λ s t _. given (k.more a g s t)))

  comma_tail-gives : (n : ℕ) → ReadsIn R text (comma_tail text q n item)
  unfolding comma_tail
  comma_tail-gives zero at l = given k.none l
  comma_tail-gives (suc n) at l =
      token (sign-placed text at l _) (given k.none l)
      (λ _ at₁ l₁. step _ (h at₁ l₁) (unusable l₁) (λ a g at₂ l₂. step _ (comma_tail-gives n at₂ l₂) nothing (λ s t _. given (k.more a g s t))))

  module _ (m : ℕ) where
    pub nonempty-gives : ReadsIn R text (parse_nonempty_comma_delimited_seq text m q item)
    unfolding parse_nonempty_comma_delimited_seq
    nonempty-gives at l = step _ (h at l) nothing (λ a g at₁ l₁. step _ (comma_tail-gives m at₁ l₁) nothing (λ s t _. given (k.more a g s t)))

    pub listed-gives : (close : List ℕ) → ReadsIn R text (parse_listed text m q item close)
    unfolding parse_listed parse_comma_delimited_seq
    listed-gives close at l =
        step _ (either (nonempty-gives at l) (given k.none l)) (unusable l)
        (λ s g at₁ l₁. token (sign-placed text at₁ l₁ close) (unusable l₁) (λ _ _. given g))

-- ---- names

-- a function that changes no span inside the text
pub record Keeping (text : List ℕ) : Type 0 where
  pub keep : Span → Span
  pub kept : (s : Span) → s.start + s.len ≤ length text → keep s ≡ s

module _ {text : List ℕ} (K : Keeping text) where
  -- a token of n bytes whose value is n
  span-kept : (at n : ℕ) (r : Answer ℕ) → Inside text at → n ≤ length (drop at text) → Gives (λ v. v ≡ n) text (moved at r)
      → Gives (Fixed K.keep) text (spanned text at (moved at (unless_empty n r)))
  unfolding after
  span-kept at zero r a l g = nothing
  span-kept at (suc n) r a l g = step _ g nothing (λ v e _. given (K.kept (record { start = at; len = v }) (omega (arith, length-drop at text, a.inside))))

  pub name-kept : ReadsIn (Fixed K.keep) text (parse_name text)
  unfolding parse_id
  name-kept at l =
      span-kept at (identifier_length (drop at text)) _ l (identifier-inside (drop at text)) (lexeme-given text at l _ _ (identifier-inside (drop at text)))

  pub literal-kept : ReadsIn (Fixed K.keep) text (parse_literal_text text)
  unfolding parse_custom_literal
  literal-kept at l =
      let inside = run_inside custom_literal_char (drop at text) in
      span-kept at (run custom_literal_char (drop at text)) _ l inside (given {next = at + run custom_literal_char (drop at text)} refl (record { inside = omega (arith, l.inside, inside, length-drop at text) }))
