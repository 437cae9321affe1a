-- The outcomes of `store`, `read_in` and `read`, over plain lists and any kind of tree.
use Prim.Native.Nat.{ℕ, ◌+◌, ◌≤◌, ◌<◌}
use native.Mathlib.Omega.{arith}
use mathlib.Core.Path.{◌≡◌, refl, sym, ap, ◌∙◌}
use mathlib.Core.List.{List, []}
use lib.ListN.{length, replicate}
use borrow.Author.Tests.{le-leb, lt-leb}
use Rattle.lexing.specs.Answer.{Answer, ok, refused}
use Rattle.tree.specs.Limits.{most_text}
use Rattle.tree.specs.Words.{program_words}
use Rattle.grammar.specs.Steps.{after, mapped}
use Rattle.grammar.proofs.Told.{told-stored}
use Rattle.grammar.specs.Reading.{Outcome, refusal, stored, outcome_by, told, tree_words, parse_text, parse_program, read_tree, read_tree_of_program, read_expression, read_program}
use Rattle.parsing.specs.Arena.{Run, Holds}
use Rattle.parsing.specs.Contract.{same}
use Rattle.parsing.specs.Parse.{arena_nodes, whole_run, parsed, Planted, Parses}
use Rattle.parsing.specs.declared.entry.Whole.{Whole}
use Rattle.parsing.specs.declared.entry.Whole.TheVariants.{Expression, Program}
use Rattle.parsing.specs.declared.arena.Node.{Node}
use Rattle.std.specs.Prelude.{Result, Ok, Err}
use Rattle.lexing.specs.CodeAnswers.{number}
use Rattle.lexing.specs.declared.refusal.Refusal.{Refusal}
use Rattle.lexing.specs.declared.refusal.Reason.TheVariants.{TextTooLong}
use Rattle.reading.specs.TreeRead.{outcome_of}
use Rattle.reading.specs.Entry.{Sized, whole_outcome, read_outcome}
use Rattle.reading.specs.Flat.{Rooted}

-- ---- `read_in`

-- the outcome is the same by the runs as by the trees
run-outcome : {A : Type 0} (words_of : A → Run) (n : ℕ) (answer : Answer A)
    → outcome_by (λ f. f []) n (mapped words_of answer) ≡ outcome_by (λ a. words_of a []) n answer
unfolding after
run-outcome words_of n (ok a next) = refl
run-outcome words_of n Answer.none = refl
run-outcome words_of n (refused number place) = refl

whole-outcome : (k : Whole) (text : List ℕ) (n : ℕ) → outcome_by (λ f. f []) n (whole_run k text) ≡ whole_outcome k n text
whole-outcome Expression text n = run-outcome tree_words n (parse_text text)
whole-outcome Program text n = run-outcome (program_words same) n (parse_program text)

-- what `parse` answers
module _ (k : Whole) {text table : List ℕ} {size : ℕ} {arena later : List Node} (q : Sized text size table) (l : length arena ≡ size) (r : Result ℕ Refusal)
    (o : Parses k text arena later r) where
  parsed-outcome : {answer : Answer Run} → parsed k text (length arena) ≡ answer
      → outcome_by (λ f. f []) (length table) answer ≡ whole_outcome k (length table) text
  parsed-outcome e =
      let t : parsed k text (length arena) ≡ whole_run k text = rw (l, le-leb _ _ q.short, le-leb _ _ q.room, le-leb _ _ q.small) in
      ap (outcome_by (λ f. f []) (length table)) (sym e ∙ t) ∙ whole-outcome k text (length table)

  -- a refusal, as it is told
  pub parse-refused : {e : Refusal} → r ≡ Err e → (e' : Refusal) → ((table : List ℕ) → outcome_of (Err e') table ≡ told text (outcome_of (Err e) table))
      → outcome_of (Err e') table ≡ told text (whole_outcome k (length table) text)
  parse-refused {e} h e' t =
      let p : parsed k text (length arena) ≡ refused (number e.reason) e.place = rw h at o.gives in
      t table ∙ ap (told text) (ap (refusal (number e.reason) e.place) q.clear ∙ parsed-outcome p)

  -- a tree
  module _ {root : ℕ} (e : r ≡ Ok root) where
    tree : Planted text later (parsed k text (length arena)) root
    tree = rw e at o.gives

    -- what `store` needs of it
    pub parse-rooted : Rooted later size root
    parse-rooted =
        record {
          run = tree.run;
          top = arena_nodes (length text);
          holds = tree.holds;
          below = tree.inside;
          inside = omega (arith, q.room, o.length-kept, l);
          small = omega (arith, q.small, o.length-kept, l);
          room = q.room;
        }

    -- what `store` answers
    pub parse-stored : {w : Outcome} → ((f : Run) → Holds later root f → w ≡ stored (length table) (f [])) → w ≡ told text (whole_outcome k (length table) text)
    parse-stored h = h tree.run tree.holds ∙ sym (told-stored text (length table) (tree.run [])) ∙ ap (told text) (parsed-outcome tree.says)

-- ---- `store`

-- a stack of fewer places is enough, with one for each node to the root
pub rooted-by : {arena : List Node} {places : ℕ} (few root : ℕ) → Rooted arena places root → root < few → Rooted arena few root
rooted-by few root r h =
    record {
      run = r.run;
      top = root + 1;
      holds = r.holds;
      below = omega arith;
      inside = omega (arith, r.below, r.inside);
      small = r.small;
      room = omega arith;
    }

-- ---- `read`

-- a text within the limit, and one that is too long
pub answered : (k : Whole) (text : List ℕ) {n m : ℕ} {w : Outcome} → w ≡ told text (whole_outcome k n text) → n ≡ m → length text ≤ most_text → w ≡ read_outcome k text m
unfolding read_expression read_tree read_program read_tree_of_program
answered Expression text e k h = e ∙ ap (λ n. told text (whole_outcome Expression n text)) k ∙ simp (le-leb _ _ h)
answered Program text e k h = e ∙ ap (λ n. told text (whole_outcome Program n text)) k ∙ simp (le-leb _ _ h)

pub answered-long : (k : Whole) (text table : List ℕ) (n : ℕ) → most_text < length text → table ≡ replicate n 0
    → outcome_of (Err (record { reason = TextTooLong; place = most_text })) table ≡ read_outcome k text n
unfolding read_expression read_tree read_program read_tree_of_program
answered-long Expression text table n h z = simp (lt-leb _ _ h) (ap (refusal 1 most_text) z)
answered-long Program text table n h z = simp (lt-leb _ _ h) (ap (refusal 1 most_text) z)
