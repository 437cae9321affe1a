-- The identifier at a place: as one of a table's words, with its blanks, and as a name.
use Rattle.std.proofs.Common.{ℕ, zero, suc, ◌+◌, ◌-◌, ◌≤◌, ◌<◌, ◌≡◌, ◌∙◌, refl, sym, ap, subst, Bool, true, false, List, [], ◌∷◌, length, take, drop, get_or, leb, arith}
use Rattle.std.proofs.Math.Option.{Option, none, some}
use Prim.Native.String.{String}
use mathlib.Core.Bool.{◌&&◌, ◌||◌}
use lib.Seq.{get_or-drop}
use lib.ListN.{length-take, length-drop}
use borrow.Author.Tests.{leb-true}
use Rattle.lexing.specs.Answer.{Answer, ok, refused, unclosed_comment, pick, moved}
use Rattle.lexing.specs.Bytes.{same_bytes, can_start_identifier_char, identifier_char, bytes}
use Rattle.lexing.specs.Blanks.{Blanks, passed, unclosed, W}
use Rattle.lexing.specs.Tokens.{closed, lexeme, unless_empty, identifier_length, keyword, parse_id}
use Rattle.lexing.specs.TokenLaws.{same_bytes-true, identifier-starts, identifier-maximal}
use Rattle.tree.specs.Ast.{Span}
use Rattle.tree.specs.Clash.{impossible}
use Rattle.grammar.specs.Steps.{after, ◌or◌, T, keyword_at, spanned, parse_name}
use Rattle.grammar.specs.Statements.{word_of}
use Rattle.parsing.specs.Leads.{classed}
use Rattle.parsing.proofs.Laws.{after-none}

-- ---- answers other than `none`

abbrev kept : {A : Type 0} → Answer A → ℕ
kept (ok a next) = 1
kept Answer.none = 0
kept (refused number place) = 1

pub record Keeps {A : Type 0} (r : Answer A) : Type 0 where
  pub some : kept r ≡ 1

-- a step that must follow is one, if what goes on after it is
pub needed-keeps : {A B : Type 0} (at : ℕ) (r : Answer A) (go : A → ℕ → Answer B) → ((a : A) (next : ℕ) → Keeps (go a next)) → Keeps (after r (refused 2 at) go)
unfolding after
needed-keeps at (ok a next) go f = f a next
needed-keeps at Answer.none go f = record { some = refl }
needed-keeps at (refused number place) go f = record { some = refl }

after-keeps : {A B : Type 0} (r : Answer A) (go : A → ℕ → Answer B) → Keeps r → ((a : A) (next : ℕ) → Keeps (go a next)) → Keeps (after r Answer.none go)
unfolding after
after-keeps (ok a next) go k f = f a next
after-keeps Answer.none go k f = absurd (omega (arith, k.some))
after-keeps (refused number place) go k f = record { some = refl }

-- what follows it in a choice plays no part
pub or-keeps : {A : Type 0} (r q : Answer A) → Keeps r → (r or q) ≡ r
unfolding after
or-keeps (ok a next) q k = refl
or-keeps Answer.none q k = absurd (omega (arith, k.some))
or-keeps (refused number place) q k = refl

-- a branch whose first step keeps nothing
pub no-branch : {A B : Type 0} {s : Answer B} (go : B → ℕ → Answer A) (q : Answer A) → s ≡ Answer.none → (after s Answer.none go or q) ≡ q
unfolding after
no-branch go q e = rw e refl

-- ---- the entry of a table that bytes are

abbrev pub found : {K : Type 0} → List (String × K) → List ℕ → Option K
found [] b = none
found (l ∷ ls) b = pick (same_bytes b (bytes l.0)) (some l.1) (found ls b)

abbrev pub or_else : {K : Type 0} → K → Option K → K
or_else other none = other
or_else other (some k) = k

pub classed-found : {K : Type 0} (ls : List (String × K)) (other : K) (b : List ℕ) → classed ls other b ≡ or_else other (found ls b)
classed-found [] other b = refl
classed-found (l ∷ ls) other b = by-test (same_bytes b (bytes l.0)) (classed-found ls other b)
  where
    by-test : (t : Bool) → classed ls other b ≡ or_else other (found ls b)
        → pick t l.1 (classed ls other b) ≡ or_else other (pick t (some l.1) (found ls b))
    by-test true i = refl
    by-test false i = i

and-true : (a b : Bool) → (a && b) ≡ true → (a ≡ true) × (b ≡ true)
and-true true b e = (refl, e)
and-true false b e = impossible (cc)

-- words have as many bytes at least as `least` says, two or more
module _ {K : Type 0} (least : K → ℕ) where
  abbrev pub listed : List (String × K) → Bool
  listed [] = true
  listed (l ∷ ls) = (leb 2 (least l.1) && leb (least l.1) (length (bytes l.0))) && listed ls

  found-long : (ls : List (String × K)) (b : List ℕ) {k : K} → listed ls ≡ true → found ls b ≡ some k → (2 ≤ least k) × (least k ≤ length b)
  found-long [] b {k} f e = impossible (cc)
  found-long (l ∷ ls) b {k} f e =
      let (h, g) = and-true _ _ f in
      let (m, n) = and-true _ _ h in
      by-test (same_bytes b (bytes l.0)) refl m n e (λ e. found-long ls b g e)
    where
      by-test : (t : Bool) → same_bytes b (bytes l.0) ≡ t → leb 2 (least l.1) ≡ true → leb (least l.1) (length (bytes l.0)) ≡ true
          → pick t (some l.1) (found ls b) ≡ some k → (found ls b ≡ some k → (2 ≤ least k) × (least k ≤ length b)) → (2 ≤ least k) × (least k ≤ length b)
      by-test true s m n e more =
          let h : l.1 ≡ k = cc in
          let p : b ≡ bytes l.0 = same_bytes-true b (bytes l.0) s in
          let q : least l.1 ≡ least k = ap least h in
          (omega (arith, leb-true 2 (least l.1) m), omega (arith, leb-true (least l.1) (length (bytes l.0)) n, ap length p))
      by-test false s m n e more = more e

  -- so have the bytes what is said of their entry, or of the others
  pub classed-long : (ls : List (String × K)) (other : K) (b : List ℕ) {k : K} → listed ls ≡ true → least other ≤ length b → k ≡ classed ls other b → least k ≤ length b
  classed-long ls other b f h e = subst (λ k. least k ≤ length b) (sym (e ∙ classed-found ls other b)) (by-entry (found ls b) refl)
    where
      by-entry : (o : Option K) → found ls b ≡ o → least (or_else other o) ≤ length b
      by-entry none s = h
      by-entry (some k) s = (found-long ls b f s).1

  -- bytes that have no entry
  pub none_found : (ls : List (String × K)) (other : K) (b : List ℕ) → listed ls ≡ true → least other ≤ 1 → other ≡ classed ls other b → found ls b ≡ none
  none_found ls other b f h e = by-entry (found ls b) refl (e ∙ classed-found ls other b)
    where
      by-entry : (o : Option K) → found ls b ≡ o → other ≡ or_else other o → o ≡ none
      by-entry none s e = refl
      by-entry (some k) s e = let l = (found-long ls b f s).0 in let q : least other ≡ least k = ap least e in absurd (omega arith)

-- one of a list of words
abbrev pub any_word : List String → List ℕ → Bool
any_word [] b = false
any_word (v ∷ vs) b = same_bytes b (bytes v) || any_word vs b

-- the words of a table, and whether an entry was found
abbrev words : {K : Type 0} → List (String × K) → List String
words [] = []
words (l ∷ ls) = l.0 ∷ words ls

abbrev pub any_found : {K : Type 0} → Option K → Bool
any_found none = false
any_found (some k) = true

pub any-listed : {K : Type 0} (ls : List (String × K)) (b : List ℕ) → any_word (words ls) b ≡ any_found (found ls b)
any-listed [] b = refl
any-listed (l ∷ ls) b = by-test (same_bytes b (bytes l.0)) (any-listed ls b)
  where
    by-test : (t : Bool) → any_word (words ls) b ≡ any_found (found ls b) → (t || any_word (words ls) b) ≡ any_found (pick t (some l.1) (found ls b))
    by-test true i = refl
    by-test false i = i

-- ---- a word at a place

module _ (text : List ℕ) (at : ℕ) where
  -- the identifier's bytes, and what its blanks answer
  abbrev pub here : List ℕ
  here = take (identifier_length (drop at text)) (drop at text)

  abbrev pub blanks : Answer ℕ
  blanks = moved at (lexeme 0 (identifier_length (drop at text)) (drop at text))

  pub blanks-keep : Keeps blanks
  unfolding lexeme
  blanks-keep = by-blanks (W (drop (identifier_length (drop at text)) (drop at text)))
    where
      by-blanks : (r : Blanks) → Keeps (moved at (closed 0 (identifier_length (drop at text)) r))
      by-blanks (passed k) = record { some = refl }
      by-blanks (unclosed k) = record { some = refl }

  -- a word keeps them, if the bytes are its own
  pub keyword-tested : (w : List ℕ) → keyword_at text w at ≡ pick (same_bytes here w) blanks Answer.none
  unfolding keyword
  keyword-tested w = by-test (same_bytes here w)
    where
      by-test : (t : Bool) → moved at (pick t (lexeme 0 (identifier_length (drop at text)) (drop at text)) Answer.none) ≡ pick t blanks Answer.none
      by-test true = refl
      by-test false = refl

  pub words-tested : (ws : List String) → word_of text ws at ≡ pick (any_word ws here) blanks Answer.none
  unfolding word_of
  words-tested [] = refl
  words-tested (v ∷ vs) = by-test (same_bytes here (bytes v)) (keyword-tested (bytes v)) (words-tested vs)
    where
      by-test : (t : Bool) → T text v at ≡ pick t blanks Answer.none → word_of text vs at ≡ pick (any_word vs here) blanks Answer.none
          → (T text v at or word_of text vs at) ≡ pick (t || any_word vs here) blanks Answer.none
      by-test true e i = ap (λ r. r or word_of text vs at) e ∙ or-keeps blanks _ blanks-keep
      by-test false e i = after-none _ _ _ e ∙ i

-- a choice of branches that begin with a table's words
module _ {K A : Type 0} (text : List ℕ) (at : ℕ) (rule : K → ℕ → Answer A) where
  abbrev pub branches : List (String × K) → Answer A → Answer A
  branches [] q = q
  branches (l ∷ ls) q = after (T text l.0 at) Answer.none (λ _ at₁. rule l.1 at₁) or branches ls q

  -- the branch of an entry
  abbrev pub chosen : Option K → Answer A → Answer A
  chosen none q = q
  chosen (some k) q = after (blanks text at) Answer.none (λ _ at₁. rule k at₁)

  -- the choice is the branch of the bytes' entry, if the rule after each word keeps something
  pub branches-chosen : (least : K → ℕ) → ((k : K) → 2 ≤ least k → (next : ℕ) → Keeps (rule k next)) → (ls : List (String × K)) → listed least ls ≡ true → (q : Answer A)
      → branches ls q ≡ chosen (found ls (here text at)) q
  branches-chosen least keeps [] f q = refl
  branches-chosen least keeps (l ∷ ls) f q =
      let (h, g) = and-true _ _ f in
      let (m, n) = and-true _ _ h in
      by-test (same_bytes (here text at) (bytes l.0)) (keyword-tested text at (bytes l.0)) (leb-true 2 (least l.1) m) (branches-chosen least keeps ls g q)
    where
      by-test : (t : Bool) → T text l.0 at ≡ pick t (blanks text at) Answer.none → 2 ≤ least l.1 → branches ls q ≡ chosen (found ls (here text at)) q
          → (after (T text l.0 at) Answer.none (λ _ at₁. rule l.1 at₁) or branches ls q) ≡ chosen (pick t (some l.1) (found ls (here text at))) q
      by-test true e m i =
          ap (λ r. after r Answer.none (λ _ at₁. rule l.1 at₁) or branches ls q) e
          ∙ or-keeps _ _ (after-keeps (blanks text at) _ (blanks-keep text at) (λ _ next. keeps l.1 m next))
      by-test false e m i = no-branch _ _ e ∙ i

-- ---- an identifier as a name

module _ (text : List ℕ) (at : ℕ) where
  -- none
  pub no_name : identifier_length (drop at text) ≡ 0 → parse_name text at ≡ Answer.none
  unfolding after parse_id
  no_name e = rw e refl

  -- its blanks, where they were passed and where they are refused
  pub blanks-passed : {n : Span} {next : ℕ} → parse_name text at ≡ ok n next → blanks text at ≡ ok 0 next
  unfolding after parse_id lexeme
  blanks-passed {n} {next} e = alike (identifier_length (drop at text)) (W (drop (identifier_length (drop at text)) (drop at text))) e
    where
      alike : (i : ℕ) (b : Blanks) → spanned text at (moved at (unless_empty i (closed i i b))) ≡ ok n next → moved at (closed 0 i b) ≡ ok 0 next
      alike zero b e = impossible (cc)
      alike (suc i) (passed k) e = let l : at + (suc i + k) ≡ next = cc in rw l refl
      alike (suc i) (unclosed k) e = impossible (cc)

  pub blanks-refused : {number place : ℕ} → parse_name text at ≡ refused number place → blanks text at ≡ refused number place
  unfolding after parse_id lexeme
  blanks-refused {number} {place} e = alike (identifier_length (drop at text)) (W (drop (identifier_length (drop at text)) (drop at text))) e
    where
      alike : (i : ℕ) (b : Blanks) → spanned text at (moved at (unless_empty i (closed i i b))) ≡ refused number place
          → moved at (closed 0 i b) ≡ refused number place
      alike zero b e = impossible (cc)
      alike (suc i) (passed k) e = impossible (cc)
      alike (suc i) (unclosed k) e =
          let h : unclosed_comment ≡ number = cc in
          let l : at + (suc i + k) ≡ place = cc in
          rw (h, l) refl

  -- one that is read has bytes
  name-some : {n : Span} {next : ℕ} → parse_name text at ≡ ok n next → 0 < identifier_length (drop at text)
  name-some {n} {next} e = by_length (identifier_length (drop at text)) refl
    where
      by_length : (k : ℕ) → identifier_length (drop at text) ≡ k → 0 < identifier_length (drop at text)
      by_length zero z = let q : Answer.none ≡ ok n next = sym (no_name z) ∙ e in impossible (cc)
      by_length (suc k) z = omega arith

-- a byte that begins an identifier continues one
starts-continues : (b : ℕ) → can_start_identifier_char b ≡ true → identifier_char b ≡ true
unfolding identifier_char
starts-continues b e = rw e refl

-- between a word of `len` bytes and the name at `next` there is a blank
pub word-apart : (text : List ℕ) (at len next : ℕ) → identifier_length (drop at text) ≡ len → 0 < len → at + len ≤ next
    → {n : Span} {k : ℕ} → parse_name text next ≡ ok n k → at + len < next
word-apart text at len next measured filled past {n} {k} e = by-gap (next - (at + len)) refl
  where
    touching : next ≡ at + len → ⊥
    touching z =
        let s = drop at text in
        let a : identifier_char (get_or s (identifier_length s) 0) ≡ false = identifier-maximal s (omega (arith, measured)) in
        let b : can_start_identifier_char (get_or (drop next text) 0 0) ≡ true = identifier-starts (drop next text) (name-some text next e) in
        let p : get_or s (identifier_length s) 0 ≡ get_or text (at + len) 0 = get_or-drop at text _ 0 ∙ ap (λ i. get_or text (at + i) 0) measured in
        let q : get_or (drop next text) 0 0 ≡ get_or text (at + len) 0 = get_or-drop next text 0 0 ∙ ap (λ i. get_or text i 0) (omega arith) in
        let t : true ≡ false = sym (starts-continues _ (sym (ap can_start_identifier_char q) ∙ b)) ∙ sym (ap identifier_char p) ∙ a in
        let f : ◌≡◌ {A = ℕ} 0 1 = cc in
        omega arith

    by-gap : (g : ℕ) → next - (at + len) ≡ g → at + len < next
    by-gap zero z = absurd (touching (omega (arith, past)))
    by-gap (suc g) z = omega arith

-- the bytes of a word that lies inside the text
pub word-long : (text : List ℕ) (at len : ℕ) → at + len ≤ length text → length (take len (drop at text)) ≡ len
word-long text at len h = omega (arith, length-take len (drop at text), length-drop at text)
