-- What `parse` answers: the definition's rule from the first token on, in an arena with its first nodes.
use Rattle.std.proofs.Common.{ℕ, ◌+◌, ◌*◌, ◌≤◌, ◌<◌, ◌≡◌, ◌∙◌, refl, sym, ap, Bool, true, false, List, length, get_or, leb, eqb, Result, Ok, Err, arith, slice_set}
use Rattle.std.proofs.lemmas.List.{length-set, get_or-set_same, get_or-set_other}
use borrow.Author.Tests.{leb-true, eq-eqb, ne_eqb}
use Rattle.lexing.specs.Answer.{Answer, ok, refused, unclosed_comment, unusable_token, pick}
use Rattle.lexing.specs.BlankLaws.{reach, W-inside}
use Rattle.lexing.specs.Blanks.{Blanks, W, passed, unclosed}
use Rattle.lexing.specs.CodeAnswers.{reach_of, number}
use Rattle.lexing.specs.RunLaws.{both_true}
use Rattle.lexing.specs.declared.blank.Unclosed.{Unclosed}
use Rattle.lexing.specs.declared.refusal.Refusal.{Refusal}
use Rattle.tree.specs.Limits.{most_text}
use Rattle.tree.specs.Words.{program_words}
use Rattle.grammar.specs.OperatorTrees.{most_depth}
use Rattle.grammar.specs.Steps.{Reader, after, need, mapped}
use Rattle.grammar.specs.Declarations.{TopLevel}
use Rattle.grammar.specs.Reading.{leading, to_end, whole_text, tree_words, parse_text, parse_program}
use Rattle.parsing.specs.Arena.{Run, outside, most_arena}
use Rattle.parsing.specs.Code.{inner, opening}
use Rattle.parsing.specs.Contract.{Rule, Read, Reads, needed, same}
use Rattle.parsing.specs.Parse.{arena_nodes, roomy, whole_rule, whole_run, parsed, ending, Gives, Parses}
use Rattle.parsing.specs.declared.arena.Node.{Node}
use Rattle.parsing.specs.declared.arena.Node.TheVariants.{Empty, One}
use Rattle.parsing.specs.declared.entry.Whole.{Whole}
use Rattle.parsing.specs.declared.entry.Whole.TheVariants.{Expression, Program}
use Rattle.parsing.specs.declared.parser.Parser.{Parser}
use Rattle.parsing.proofs.Laws.{must-mapped-ok, must-mapped-refused, need-ok, after-ok}
use Rattle.parsing.proofs.Places.{read_as}

-- ---- the definition

-- the run of what a rule reads of a whole text
mapped-whole : {A : Type 0} (words_of : A → Run) (rule : Reader A) (text : List ℕ)
    → whole_text text (λ at. mapped words_of (rule at)) ≡ mapped words_of (whole_text text rule)
unfolding after
mapped-whole {A} words_of rule text = by-blanks (W text)
  where
    either : (e : Bool) (a : A) (next : ℕ) → pick e (ok (words_of a) next) (refused 2 next) ≡ mapped words_of (pick e (ok a next) (refused 2 next))
    either true a next = refl
    either false a next = refl

    by_answer : (at : ℕ) (answer : Answer A) → need at (mapped words_of answer) (to_end text) ≡ mapped words_of (need at answer (to_end text))
    by_answer at (ok a next) = either (eqb next (length text)) a next
    by_answer at Answer.none = refl
    by_answer at (refused number place) = refl

    by-blanks : (b : Blanks) → after (leading b) Answer.none (λ at _. need at (mapped words_of (rule at)) (to_end text))
        ≡ mapped words_of (after (leading b) Answer.none (λ at _. need at (rule at) (to_end text)))
    by-blanks (passed at) = by_answer at (rule at)
    by-blanks (unclosed at) = refl

whole_run_lem : (k : Whole) (text : List ℕ) → whole_text text (whole_rule k text) ≡ whole_run k text
unfolding parse_text parse_program
whole_run_lem Expression text = mapped-whole tree_words (inner most_depth text) text
whole_run_lem Program text = mapped-whole (program_words same) (opening TopLevel most_depth text) text

-- what is read, by how `blanks` reached the text's first token
module _ (k : Whole) (text : List ℕ) (n : ℕ) (room : roomy (length text) n ≡ true) (r : Result ℕ Unclosed) (passes : reach_of r ≡ W text) where
  read_whole : parsed k text n ≡ whole_text text (whole_rule k text)
  read_whole = rw room (sym (whole_run_lem k text))

  -- a comment that is not closed
  pub unclosed-refused : {place : Unclosed} → r ≡ Err place → parsed k text n ≡ refused unclosed_comment place.at
  unfolding after
  unclosed-refused {place} p =
      let t : whole_text text (whole_rule k text) ≡ refused unclosed_comment place.at = rw (sym passes ∙ ap reach_of p) in
      read_whole ∙ t

  module _ {at : ℕ} (p : r ≡ Ok at) where
    blanks-passed : W text ≡ passed at
    blanks-passed = sym passes ∙ ap reach_of p

    -- the first token's place
    pub passed-inside : at ≤ length text
    passed-inside = omega (arith, W-inside text, ap reach blanks-passed)

    -- the rule begins there
    pub read-from : parsed k text n ≡ ending (whole_rule k) text at
    unfolding after
    read-from = let t : whole_text text (whole_rule k text) ≡ ending (whole_rule k) text at = rw blanks-passed in read_whole ∙ t

-- ---- the run of a tree's words
pub run-reads : {A : Type 0} (words : A → Run) (rule : Rule A) (least credit least₁ credit₁ : ℕ) (p q : Parser) (r : Result ℕ Refusal) → leb least₁ least ≡ true
    → leb credit credit₁ ≡ true → Reads words (needed rule) least credit p q r
    → Reads (λ f. f) (needed (λ text at. mapped words (rule text at))) least₁ credit₁ p q r
run-reads words rule least credit least₁ credit₁ p q (Ok n) l c r =
    let k = leb-true _ _ l in
    let m = leb-true _ _ c in
    record {
      value = words r.value;
      says = must-mapped-ok p.at (rule p.text.now p.at) words r.says;
      holds = r.holds;
      below = r.below;
      went = record { later = r.went.later; onward = omega (arith, r.went.onward); paid = omega (arith, r.went.paid) };
    }
run-reads words rule least credit least₁ credit₁ p q (Err e) l c r = must-mapped-refused p.at (rule p.text.now p.at) words r

-- a rule that keeps something needs no more
pub must-reads : {A : Type 0} (words : A → Run) (rule : Rule A) (least credit : ℕ) (p q : Parser) (r : Result ℕ Refusal) → Reads words rule least credit p q r
    → Reads words (needed rule) least credit p q r
unfolding after
must-reads words rule least credit p q (Ok n) r =
    record { value = r.value; says = after-ok (rule p.text.now p.at) _ _ r.says; holds = r.holds; below = r.below; went = r.went }
must-reads words rule least credit p q (Err e) r = rw r refl

-- ---- the arena's first nodes
abbrev pub started : List Node → List Node
started a = slice_set (slice_set a 0 Empty) 1 (One 0)

-- an arena that has room
module _ (text : List ℕ) (a : List Node) (room : roomy (length text) (length a) ≡ true) where
  start-length : length (started a) ≡ length a
  start-length = length-set (slice_set a 0 Empty) 1 (One 0) ∙ length-set a 0 Empty

  pub start-short : length text ≤ most_text
  start-short = leb-true _ _ (both_true (leb (length text) most_text) _ room).0

  arena-fits : (leb (arena_nodes (length text)) (length a) ≡ true) × (leb (length a) most_arena ≡ true)
  arena-fits = both_true (leb (arena_nodes (length text)) (length a)) _ (both_true (leb (length text) most_text) _ room).1

  pub start-small : length (started a) ≤ most_arena
  start-small = let h = leb-true _ _ arena-fits.1 in omega (arith, start-length)

  start-roomy : arena_nodes (length text) ≤ length a
  start-roomy = leb-true _ _ arena-fits.0

  pub start-room : (at : ℕ) → 2 + 9 + 2 * length text ≤ length (started a) + 2 * at
  start-room at = omega (arith, start-roomy, start-length)

  pub start-empty : get_or (started a) 0 outside ≡ Empty
  start-empty =
      get_or-set_other (slice_set a 0 Empty) 1 0 (One 0) outside (λ e. omega arith) ∙ get_or-set_same a 0 Empty outside (omega (arith, start-roomy))

  pub start-end : get_or (started a) 1 outside ≡ One 0
  start-end = get_or-set_same (slice_set a 0 Empty) 1 (One 0) outside (omega (arith, start-roomy, length-set a 0 Empty))

module _ (p : Parser) (a : List Node) (arena-is : p.arena.now ≡ started a) where
  -- what `parse` answers, by the place that the rule of a whole text came to
  pub start-gives : (whole : Whole) (q : Parser) (later : List Node) → p.top ≡ 2
      → parsed whole p.text.now (length a) ≡ ending (whole_rule whole) p.text.now p.at → length later ≡ length (started a)
      → (p.arena.ghost_name ≡ q.arena.ghost_name → later ≡ q.arena.now) → (r : Result ℕ Refusal) → Reads (λ f. f) (ending (whole_rule whole)) 0 9 p q r
      → Parses whole p.text.now a later r
  start-gives whole q later top says len name r f =
      record { length-kept = len ∙ length-set (slice_set a 0 Empty) 1 (One 0) ∙ length-set a 0 Empty; gives = by-result r f }
    where
      by-result : (r : Result ℕ Refusal) → Reads (λ f. f) (ending (whole_rule whole)) 0 9 p q r → Gives p.text.now later (parsed whole p.text.now (length a)) r
      by-result (Ok root) f =
          let e : later ≡ q.arena.now = name (sym f.went.later.lent_same) in
          record {
            run = f.value;
            next = q.at;
            says = says ∙ f.says;
            holds = rw e f.holds;
            inside = omega (arith, f.below, f.went.paid, q.inside, ap length f.went.later.text_same);
          }
      by-result (Err e) f = says ∙ f

-- a rule that came to the text's end, and one that did not
pub at-end : (whole : Whole) (p q : Parser) {n : ℕ} (r : Read (λ f. f) (needed (whole_rule whole)) 0 9 p q n) → length q.text.now ≤ q.at
    → Read (λ f. f) (ending (whole_rule whole)) 0 9 p q n
at-end whole p q r h =
    let e : eqb q.at (length p.text.now) ≡ true = eq-eqb _ _ (omega (arith, q.inside, ap length r.went.later.text_same)) in
    read_as _ _ _ 0 9 p q r (need-ok p.at (whole_rule whole p.text.now p.at) (to_end p.text.now) r.says ∙ rw e refl)

pub before-end : (whole : Whole) (p q : Parser) {n : ℕ} (r : Read (λ f. f) (needed (whole_rule whole)) 0 9 p q n) → q.at < length q.text.now
    → ending (whole_rule whole) p.text.now p.at ≡ refused unusable_token q.at
before-end whole p q r h =
    let e : eqb q.at (length p.text.now) ≡ false = ne_eqb _ _ (λ z. omega (arith, ap length r.went.later.text_same)) in
    need-ok p.at (whole_rule whole p.text.now p.at) (to_end p.text.now) r.says ∙ rw e refl
