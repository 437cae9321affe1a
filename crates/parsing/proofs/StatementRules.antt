-- The rule of a statement by what stands at a place: a word, a name, or neither.
use Rattle.std.proofs.Common.{ℕ, eqb, eqb-true, ◌≤◌, ◌<◌, ◌≡◌, ◌∙◌, refl, sym, ap, Bool, true, false, not, ◌&&◌, ◌||◌, List, [], ◌∷◌, ◌++◌, take, drop, arith}
use Rattle.std.proofs.Math.Option.{Option, none, some}
use Rattle.std.proofs.Math.Nat.{le_refl}
use Prim.Native.String.{String}
use Rattle.lexing.specs.Answer.{Answer, ok, refused, pick}
use Rattle.lexing.specs.Bytes.{starts_with, same_bytes, can_start_identifier_char, bytes}
use Rattle.lexing.specs.Tokens.{identifier_length, sign}
use Rattle.lexing.specs.RunLaws.{both_true}
use Rattle.lexing.specs.TokenLaws.{same_bytes-true, starts_with-true}
use Rattle.tree.specs.Ast.{Span, Stmt}
use Rattle.tree.specs.Clash.{impossible}
use Rattle.grammar.specs.Steps.{after, ◌or◌, T, Sym, sign_at, parse_name}
use Rattle.grammar.specs.Statements.{Gallery, gallery, atomic, mark, word_of, too_deep, simple_words, statement_words, parse_stmt, after_assign, after_label, after_call}
use Rattle.parsing.specs.Code.{turns, opened}
use Rattle.parsing.specs.Leads.{classed, leads_before, leads_after, leads, is_loop, opens_none, lead_of}
use Rattle.parsing.specs.Statements.{named_stmt}
use Rattle.parsing.specs.declared.lead.Lead.{Lead}
use Rattle.parsing.specs.declared.lead.Lead.TheVariants.{Choose, If, Loop, Name}
use Rattle.parsing.proofs.Laws.{after-ok, after-none, after-refused}
use Rattle.parsing.proofs.StatementEquations.{atomic-none, atomic-refused, atomic-named}
use Rattle.parsing.proofs.StatementWords.{found, or_else, classed-found, none_found, any_word, any_found, any-listed, listed, here, blanks, blanks-keep, keyword-tested, words-tested, branches, chosen, branches-chosen, no_name, blanks-passed, blanks-refused, no-branch}
use Rattle.parsing.proofs.StatementBranches.{lead_rule, lead_least, lead-keeps}
use Rattle.parsing.proofs.StatementLevels.{deep-kept, Unrefused, reads, misses, loop-deep, block-none, loop_rule}

-- ---- signs and words that can't stand

-- no sign of one byte where an identifier stands
no_sign : (text : List ℕ) (at b : ℕ) → can_start_identifier_char b ≡ false → 0 < identifier_length (drop at text) → sign_at text (b ∷ []) at ≡ Answer.none
unfolding sign identifier_length
no_sign text at b n filled = by-test (starts_with (b ∷ []) (drop at text)) refl
  where
    by-test : (x : Bool) → starts_with (b ∷ []) (drop at text) ≡ x → sign_at text (b ∷ []) at ≡ Answer.none
    by-test true p =
        let s : drop at text ≡ b ∷ drop 1 (drop at text) = starts_with-true (b ∷ []) (drop at text) p in
        let z : 0 < 0 = rw (s, n) at filled in absurd (omega arith)
    by-test false p = rw p refl

no-brace : (text : List ℕ) (at : ℕ) → 0 < identifier_length (drop at text) → Sym text "{" at ≡ Answer.none
unfolding can_start_identifier_char
no-brace text at filled = no_sign text at 123 refl filled

-- ---- choices

-- equal branches; a branch that keeps nothing, before and after one
or_same : {A : Type 0} {r r₁ q q₁ : Answer A} → r ≡ r₁ → q ≡ q₁ → (r or q) ≡ (r₁ or q₁)
or_same {r₁ = r₁} {q} e f = ap (λ r. r or q) e ∙ ap (λ q. r₁ or q) f

or-none : {A : Type 0} {r : Answer A} (q : Answer A) → r ≡ Answer.none → (r or q) ≡ q
or-none q e = after-none _ _ _ e

none_or : {A : Type 0} (r : Answer A) {q : Answer A} → q ≡ Answer.none → (r or q) ≡ r
unfolding after
none_or (ok a next) e = refl
none_or Answer.none e = e
none_or (refused number place) e = refl

-- ---- the word `loop`

-- entries of which none is that of `loop`
abbrev none-loop : List (String × Lead) → Bool
none-loop [] = true
none-loop (l ∷ ls) = not (is_loop l.1) && none-loop ls

classed-loop : (ls : List (String × Lead)) (other : Lead) (b : List ℕ) → none-loop ls ≡ true → is_loop (classed ls other b) ≡ true → is_loop other ≡ true
classed-loop [] other b f e = e
classed-loop (l ∷ ls) other b f e = by-test (same_bytes b (bytes l.0)) (is_loop l.1) refl f e (classed-loop ls other b)
  where
    by-test : (t i : Bool) → is_loop l.1 ≡ i → (not i && none-loop ls) ≡ true → is_loop (pick t l.1 (classed ls other b)) ≡ true
        → (none-loop ls ≡ true → is_loop (classed ls other b) ≡ true → is_loop other ≡ true) → is_loop other ≡ true
    by-test true true i f e h = impossible (cc)
    by-test true false i f e h = impossible (cc)
    by-test false true i f e h = impossible (cc)
    by-test false false i f e h = h f e

-- bytes whose lead is `loop` are its bytes
loop-bytes : (b : List ℕ) → is_loop (lead_of b) ≡ true → b ≡ bytes "loop"
unfolding lead_of
loop-bytes b e = by-test (same_bytes b (bytes "loop")) refl (classed-loop (leads_before ++ (("choose", Choose) ∷ ("if", If) ∷ [])) _ b refl e)
  where
    by-test : (t : Bool) → same_bytes b (bytes "loop") ≡ t → is_loop (pick t Loop Name) ≡ true → b ≡ bytes "loop"
    by-test true s h = same_bytes-true b (bytes "loop") s
    by-test false s h = impossible (cc)

-- where `loop` may open its level, one is left
pub level-left : (depth : ℕ) {k : Lead} → false ≡ opens_none k depth → k ≡ Loop → depth ≡ 0 → ⊥
unfolding opens_none
level-left depth {k} h l z = let f : false ≡ true = rw (z, l) at h in impossible (cc)

module _ (text : List ℕ) (at : ℕ) where
  -- the word is not refused where its blanks are passed, or where other bytes stand
  loop-unrefused : {next : ℕ} → blanks text at ≡ ok 0 next → Unrefused (T text "loop" at)
  loop-unrefused {next} e = rw (keyword-tested text at (bytes "loop"), e) (by-test (same_bytes (here text at) (bytes "loop")))
    where
      by-test : (t : Bool) → Unrefused {A = ℕ} (pick t (ok 0 next) Answer.none)
      by-test true = reads
      by-test false = misses

  loop-missed : is_loop (lead_of (here text at)) ≡ false → Unrefused (T text "loop" at)
  unfolding lead_of same_bytes
  loop-missed h = rw (keyword-tested text at (bytes "loop")) (by-test (same_bytes (here text at) (bytes "loop")) refl)
    where
      by-test : (t : Bool) → same_bytes (here text at) (bytes "loop") ≡ t → Unrefused (pick t (blanks text at) Answer.none)
      by-test true s = let f : true ≡ false = sym (ap (λ b. is_loop (lead_of b)) (same_bytes-true (here text at) (bytes "loop") s)) ∙ h in impossible (cc)
      by-test false s = misses

-- ---- parse_stmt

module _ (text : List ℕ) (depth at : ℕ) where
  abbrev c : Gallery
  c = opened depth text

  abbrev marked : Answer (Stmt Span)
  marked =
      after (atomic text (Sym text ":=") at) Answer.none (λ n at₁. after_assign text (turns text) c n at₁)
      or after (atomic text (Sym text ":") at) Answer.none (λ n at₁. after_label text (turns text) c n at₁)
      or after (atomic text (Sym text "(") at) Answer.none (λ n at₁. after_call text (turns text) c n at₁)

  -- the rule is the branches of the leads, with a block between them, and those of a name with its mark
  module _ (n : Span) (starts : n.start ≡ at) (u : depth ≡ 0 → Unrefused (T text "loop" at)) where
    abbrev led : List (String × Lead) → Answer (Stmt Span) → Answer (Stmt Span)
    led ls q = branches text at (λ k at₁. lead_rule k depth n text at₁) ls q

    abbrev by-entry : Option Lead → Answer (Stmt Span) → Answer (Stmt Span)
    by-entry o q = chosen text at (λ k at₁. lead_rule k depth n text at₁) o q

    stmt-branches : parse_stmt text (turns text) c at ≡ led leads_before (c.block at or led leads_after marked)
    unfolding parse_stmt
    stmt-branches =
        rw starts (ap (λ r. led leads_before (c.block at or (led (("choose", Choose) ∷ ("if", If) ∷ []) (r or marked)))) (loop_rule text depth at u))

    by-lead : (ls : List (String × Lead)) → listed lead_least ls ≡ true → (q : Answer (Stmt Span)) → led ls q ≡ by-entry (found ls (here text at)) q
    by-lead ls f q = branches-chosen text at (λ k at₁. lead_rule k depth n text at₁) lead_least (λ k l next. lead-keeps k l depth n text next) ls f q

    -- where an identifier stands no block does
    word-branches : 0 < identifier_length (drop at text) → parse_stmt text (turns text) c at ≡ by-entry (found leads (here text at)) marked
    word-branches filled =
        stmt-branches
        ∙ ap (led leads_before) (or-none _ (block-none text depth at (no-brace text at filled)))
        ∙ by-lead leads refl marked

  -- where a word of `len` bytes stands, the name of each marked branch is read
  module _ {len : ℕ} (measured : identifier_length (drop at text) ≡ len) (filled : 1 ≤ len) where
    pub word-stmt : (k : Lead) → k ≡ lead_of (take len (drop at text)) → {n : Span} {next : ℕ} → n.start ≡ at → parse_name text at ≡ ok n next
        → parse_stmt text (turns text) c at ≡ lead_rule k depth n text next
    unfolding lead_of
    word-stmt k e {n} {next} starts d =
        let m : marked ≡ named_stmt depth n text next =
        or_same (atomic-named text (Sym text ":=") at _ d) (or_same (atomic-named text (Sym text ":") at _ d) (atomic-named text (Sym text "(") at _ d)) in
        let said : k ≡ or_else Name (found leads (here text at)) = e ∙ ap (λ n. lead_of (take n (drop at text))) (sym measured) ∙ classed-found leads Name (here text at) in
        let u : depth ≡ 0 → Unrefused (T text "loop" at) = λ z. loop-unrefused text at (blanks-passed text at d) in
        word-branches n starts u (omega (arith, measured))
        ∙ ap (by-entry n starts u (found leads (here text at))) m
        ∙ by-found (found leads (here text at))
        ∙ ap (λ k. lead_rule k depth n text next) (sym said)
      where
        by-found : (o : Option Lead)
            → by-entry n starts (λ z. loop-unrefused text at (blanks-passed text at d)) o (named_stmt depth n text next) ≡ lead_rule (or_else Name o) depth n text next
        by-found none = refl
        by-found (some k) = after-ok _ _ _ (blanks-passed text at d)

    -- one whose blanks are refused is refused alike, save a loop with no level left
    pub stmt-refused : (k : Lead) → k ≡ lead_of (take len (drop at text)) → false ≡ opens_none k depth
        → {number place : ℕ} → parse_name text at ≡ refused number place → parse_stmt text (turns text) c at ≡ refused number place
    unfolding opens_none
    stmt-refused k f h {number} {place} e = word-branches (record { start = at; len = len }) refl unrefused (omega (arith, measured)) ∙ by-found (found leads (here text at))
      where
        unrefused : depth ≡ 0 → Unrefused (T text "loop" at)
        unrefused z =
            let l : is_loop k ≡ false = sym (rw z at h) in
            loop-missed text at (sym (ap is_loop (f ∙ ap (λ n. lead_of (take n (drop at text))) (sym measured))) ∙ l)

        by-found : (o : Option Lead) → by-entry (record { start = at; len = len }) refl unrefused o marked ≡ refused number place
        by-found none = after-refused _ _ _ (after-refused _ _ _ (atomic-refused text _ at e))
        by-found (some k) = after-refused _ _ _ (blanks-refused text at e)

    -- a loop with no level left is refused where it stands, though the blanks after its word be
    pub stmt-deep : (k : Lead) → k ≡ lead_of (take len (drop at text)) → true ≡ opens_none k depth → parse_stmt text (turns text) c at ≡ refused 3 at
    unfolding parse_stmt same_bytes opens_none
    stmt-deep k f h =
        let (z, l) = both_true (eqb depth 0) (is_loop k) (sym h) in
        let z : depth ≡ 0 = eqb-true depth 0 z in
        let e : is_loop (lead_of (take len (drop at text))) ≡ true = sym (ap is_loop f) ∙ l in
        let n : Span = record { start = at; len = len } in
        let b : here text at ≡ bytes "loop" = loop-bytes _ (ap (λ n. is_loop (lead_of (take n (drop at text)))) measured ∙ e) in
        let k : T text "loop" at ≡ blanks text at = keyword-tested text at (bytes "loop") ∙ ap (λ s. pick (same_bytes s (bytes "loop")) (blanks text at) Answer.none) b in
        let l : c.loop at ≡ refused 3 at = loop-deep text depth at z ∙ deep-kept at (T text "loop" at) (rw k (blanks-keep text at)) in
        let rule : Lead → ℕ → Answer (Stmt Span) = λ k at₁. lead_rule k depth n text at₁ in
        let pass : (ls : List (String × Lead)) → listed lead_least ls ≡ true → found ls (bytes "loop") ≡ none → (q : Answer (Stmt Span)) → branches text at rule ls q ≡ q =
        λ ls f g q. branches-chosen text at rule lead_least (λ k l next. lead-keeps k l depth n text next) ls f q ∙ ap (λ s. chosen text at rule (found ls s) q) b
        ∙ ap (λ o. chosen text at rule o q) g in
        pass leads_before refl refl _
        ∙ or-none _ (block-none text depth at (no-brace text at (omega (arith, measured))))
        ∙ pass (("choose", Choose) ∷ ("if", If) ∷ []) refl refl _
        ∙ after-refused _ _ _ l

  -- one that begins with no word is a block
  pub wordless-stmt : identifier_length (drop at text) ≡ 0 → parse_stmt text (turns text) c at ≡ c.block at
  unfolding same_bytes
  wordless-stmt e =
      let s : Span = record { start = at; len = 0 } in
      let h : here text at ≡ [] = rw e refl in
      let n : parse_name text at ≡ Answer.none = no_name text at e in
      let u : depth ≡ 0 → Unrefused (T text "loop" at) = λ z. rw (keyword-tested text at (bytes "loop") ∙ ap (λ s. pick (same_bytes s (bytes "loop")) (blanks text at) Answer.none) h) misses in
      let no_lead : (ls : List (String × Lead)) → listed lead_least ls ≡ true → found ls [] ≡ none → (q : Answer (Stmt Span)) → led s refl u ls q ≡ q =
      λ ls f g q. by-lead s refl u ls f q ∙ ap (λ b. by-entry s refl u (found ls b) q) h ∙ ap (λ o. by-entry s refl u o q) g in
      stmt-branches s refl u
      ∙ no_lead leads_before refl refl _
      ∙ none_or (c.block at)
      (no_lead leads_after refl refl _
      ∙ no-branch _ _ (atomic-none text _ at n)
      ∙ no-branch _ _ (atomic-none text _ at n)
      ∙ after-none _ _ _ (atomic-none text _ at n))

-- ---- "stmt" where no level is left: a brace, a word of a statement, or a name with its mark

-- one of the words of statements is one of the leads
any_append : (ws vs : List String) (b : List ℕ) → any_word (ws ++ vs) b ≡ (any_word ws b || any_word vs b)
any_append [] vs b = refl
any_append (w ∷ ws) vs b = by-test (same_bytes b (bytes w)) (any_append ws vs b)
  where
    by-test : (t : Bool) → any_word (ws ++ vs) b ≡ (any_word ws b || any_word vs b) → (t || any_word (ws ++ vs) b) ≡ ((t || any_word ws b) || any_word vs b)
    by-test true i = refl
    by-test false i = i

or_swap : (x y : Bool) → (x || y) ≡ (y || x)
or_swap true true = refl
or_swap true false = refl
or_swap false true = refl
or_swap false false = refl

statement-words : (b : List ℕ) → any_word statement_words b ≡ any_found (found leads b)
statement-words b =
    let later : List String = "forall" ∷ "choose" ∷ "if" ∷ "loop" ∷ [] in
    ap (λ t. same_bytes b (bytes "var") || (same_bytes b (bytes "val") || t))
    (any_append later simple_words b ∙ or_swap (any_word later b) (any_word simple_words b) ∙ sym (any_append simple_words later b))
    ∙ any-listed leads b

module _ (text : List ℕ) (at : ℕ) where
  -- a name and its mark
  abbrev deep_mark : Answer (Stmt Span)
  deep_mark = after (parse_name text at) Answer.none (λ _ at₁. too_deep at (mark text at₁))

  deep-rule : (opened 0 text).stmt at ≡ (too_deep at (Sym text "{" at) or too_deep at (word_of text statement_words at) or deep_mark)
  unfolding gallery
  deep-rule = refl

  -- only a brace can stand where no identifier does
  pub deep-wordless : identifier_length (drop at text) ≡ 0 → (opened 0 text).stmt at ≡ too_deep at (Sym text "{" at)
  unfolding same_bytes too_deep
  deep-wordless e =
      let h : here text at ≡ [] = rw e refl in
      let n : word_of text statement_words at ≡ Answer.none = words-tested text at statement_words ∙ ap (λ b. pick (any_word statement_words b) (blanks text at) Answer.none) h in
      deep-rule ∙ none_or _ (or-none _ (ap (too_deep at) n) ∙ after-none _ _ _ (no_name text at e))

  -- where an identifier stands, by its lead
  module _ {len : ℕ} (measured : identifier_length (drop at text) ≡ len) (filled : 1 ≤ len) {k : Lead} (e : k ≡ lead_of (take len (drop at text))) where
    said : k ≡ or_else Name (found leads (here text at))
    unfolding lead_of
    said = e ∙ ap (λ n. lead_of (take n (drop at text))) (sym measured) ∙ classed-found leads Name (here text at)

    deep-words : (b : Bool) → any_found (found leads (here text at)) ≡ b
        → (opened 0 text).stmt at ≡ (too_deep at (pick b (blanks text at) Answer.none) or deep_mark)
    unfolding too_deep
    deep-words b h =
        deep-rule
        ∙ or-none _ (ap (too_deep at) (no-brace text at (omega (arith, measured))))
        ∙ ap (λ r. too_deep at r or deep_mark)
        (words-tested text at statement_words ∙ ap (λ t. pick t (blanks text at) Answer.none) (statement-words (here text at) ∙ h))

    -- a word; its blanks play no part
    pub deep-lead : (k ≡ Name → ⊥) → (opened 0 text).stmt at ≡ refused 3 at
    deep-lead w = deep-words true (by-entry (found leads (here text at)) said) ∙ after-refused _ _ _ (deep-kept at (blanks text at) (blanks-keep text at))
      where
        by-entry : (o : Option Lead) → k ≡ or_else Name o → any_found o ≡ true
        by-entry none h = absurd (w h)
        by-entry (some k) h = refl

    -- a name
    module _ (h : k ≡ Name) where
      deep-name : (opened 0 text).stmt at ≡ deep_mark
      unfolding too_deep
      deep-name =
          deep-words false (ap any_found (none_found lead_least leads Name (here text at) refl (le_refl 1) (sym h ∙ said ∙ sym (classed-found leads Name (here text at)))))
          ∙ or-none deep_mark refl

      pub deep-named : {n : Span} {next : ℕ} → parse_name text at ≡ ok n next → (opened 0 text).stmt at ≡ too_deep at (mark text next)
      deep-named d = deep-name ∙ after-ok _ _ _ d

      pub deep-refused : {number place : ℕ} → parse_name text at ≡ refused number place → (opened 0 text).stmt at ≡ refused number place
      deep-refused d = deep-name ∙ after-refused _ _ _ d
