-- Prints of faithful operator trees are derived and read back: one argument for every format (one line, or broken lines from any start
-- indent) and every indent step.
use Rattle.std.specs.Prelude.{ℕ, suc, ◌≤◌, ◌<◌, ◌≡◌, List, [], ◌++◌}
use Rattle.std.proofs.Math.Path.{refl, sym, ap}
use Rattle.std.proofs.Common.{subst, ◌∙◌, arith, length-take}
use Rattle.std.proofs.Math.ListN.{length, take, drop}
use Rattle.std.proofs.Math.Seq.{take-append_seam}
use Rattle.tree.specs.Ast.{Expr}
use Rattle.tree.specs.Limits.{most_text, most_words}
use Rattle.tree.specs.Resolve.{map_expr}
use Rattle.tree.specs.Check.{NameIn}
use Rattle.tree.specs.Claims.{expression-count}
use Rattle.grammar.specs.Tokens.{cut}
use Rattle.grammar.specs.Grammar.{Tree, Derives}
use Rattle.grammar.specs.OperatorTrees.{Faithful, most_depth, word_count, DerivesWithin}
use Rattle.grammar.proofs.Claims.{derivations-agree}
use Rattle.reading.specs.TreeRead.{Answered, Leaves}
use Rattle.reading.specs.Claims.{read-expression-exact}
use Rattle.lexing.specs.declared.refusal.Refusal.{Refusal}
use Rattle.std.specs.Prelude.{Result, Ok}
use Rattle.layout.specs.declared.format.ExprFormatOption.{ExprFormatOption}
use Rattle.layout.specs.declared.settings.Settings.{Settings}
use Rattle.layout.specs.PrintUtil.{Init}
use Rattle.layout.specs.Settings.{format_at}
use Rattle.layout.specs.Printer.{Expression}
use Rattle.tree.specs.Held.{Holds}
use Rattle.rendering.specs.Tables.{name_in, expressions, print_of}
use Rattle.printing.specs.Entries.{PrintAnswered}
use Rattle.tree.specs.HeldLaws.{same-tree, expression-laws}
use Rattle.printing.specs.Claims.{tree-printed, written-tree}
use Rattle.roundtrip.specs.Nesting.{nesting}
use Rattle.roundtrip.specs.Derived.{printed-derives}
use Rattle.roundtrip.specs.PrintedNames.{print-named}
use Rattle.roundtrip.specs.SmallNaturals.{SmallTree, derived-small, Words32, words_small}

module _ (step : ℕ) (format : ExprFormatOption) where
  -- the print of a tree whose names are bytes
  unfoldable pub print : Tree → List ℕ
  print t = Expression (λ w. w) step t Init format []

  -- The print has a derivation with that same tree, of each depth beyond the nesting of the print's brackets.
  pub print-derives : (t : Tree) (d : ℕ) → Faithful t → nesting t Init < d → Derives d (print t) t
  unfolding print
  print-derives t d x h = printed-derives step x format d h

  -- Every derivation of the print has that tree.
  pub print-determines : (t t' : Tree) (d : ℕ) → Faithful t → Derives d (print t) t' → t' ≡ t
  print-determines t t' d x y = derivations-agree (print t) d (suc (nesting t Init)) t' t y (print-derives t (suc (nesting t Init)) x (omega arith))

  -- So a print that keeps the reading limits has a derivation with its own tree that keeps them.
  pub print-within : (table : ℕ) (t t' : Tree) → Faithful t → DerivesWithin table (print t) t' → DerivesWithin table (print t) t
  print-within table t t' x y = subst (DerivesWithin table (print t)) (print-determines t t' most_depth x y.derives) y

  -- What keeps them, said of the tree and the print.
  pub print-keeps : (table : ℕ) (t : Tree) → Faithful t → SmallTree t → length (print t) ≤ most_text → nesting t Init < most_depth → word_count t ≤ table
      → word_count t ≤ most_words → DerivesWithin table (print t) t
  print-keeps table t x s l n f w =
      let d = print-derives t most_depth x n in
      record { short = l; derives = d; naturals = derived-small most_depth (cut (print t)) t d s; fits = f; few = w }

-- ---- what the code answers

-- the tree that a table holds over its text, its names as bytes
abbrev pub tree_in : (text : List ℕ) → Expr (NameIn (length text)) → Tree
tree_in text e = map_expr (name_in text) e

module _ (text words out out' : List ℕ) (settings : Settings) (indent n : ℕ) (e : Expr (NameIn (length text))) (holds : Holds text words e)
    (x : Faithful (tree_in text e)) (a : PrintAnswered settings text words indent out (Ok n) out') where
  -- the format that the settings give it
  abbrev format : ExprFormatOption
  format = format_at settings.form indent

  -- what was written is the print of the tree that the table holds, with its names as bytes
  is-print : print settings.step format (tree_in text e) ≡ take n out'
  unfolding print_of print
  is-print =
      let w = written-tree (expressions settings text indent) (expression-laws text) text words out (Ok n) out' a n refl in
      let t : Expr (NameIn (length text)) = w.1.0 in
      let p = print_of settings text indent t in
      let q = tree-printed (expressions settings text indent) (expression-laws text) text words out (Ok n) out' a t w.1.1.0 w.0 w.1.1.1 in
      let k : length p ≡ n = cc q.0 in
      let same : t ≡ e = same-tree text words t e w.1.1.0 holds in
      sym (print-named (name_in text) settings.step e Init format [])
      ∙ ap (print_of settings text indent) (sym same)
      ∙ sym (take-append_seam p (drop (length p) out))
      ∙ ap (λ m. take m (p ++ drop (length p) out)) k
      ∙ ap (take n) (sym q.1)

  -- what was written is derived
  pub written-derives : (d : ℕ) → nesting (tree_in text e) Init < d → Derives d (take n out') (tree_in text e)
  written-derives d h = subst (λ p. Derives d p (tree_in text e)) is-print (print-derives settings.step format (tree_in text e) d x h)

  -- and is read back where it keeps the reading limits
  pub written_read : (m : ℕ) (t : Tree) → DerivesWithin m (take n out') t → (r : Result ℕ Refusal) (table : List ℕ) → Answered (take n out') m r table
      → Leaves (take n out') m (tree_in text e) r table
  written_read m t y r table b =
      let z : DerivesWithin m (print settings.step format (tree_in text e)) t = rw is-print y in
      let w : DerivesWithin m (take n out') (tree_in text e) = subst (λ p. DerivesWithin m p (tree_in text e)) is-print (print-within settings.step format m (tree_in text e) t x z) in
      ((read-expression-exact (take n out') m r table (tree_in text e) b).1 w).0

  -- The same from plain limits: those on the print's length and nesting. The tree's words are the table's, so they fit where these fit, and the
  -- table's naturals are small.
  module _ (w : Words32 words) (short : n ≤ most_text) (flat : nesting (tree_in text e) Init < most_depth) where
    counted : word_count (tree_in text e) ≡ length words
    counted = expression-count (name_in text) _ _ e ∙ ap length holds

    keeps : (m : ℕ) → length words ≤ m → DerivesWithin m (take n out') (tree_in text e)
    keeps m h =
        let t = tree_in text e in
        let c : word_count t ≡ length words = counted in
        let few : length words ≤ most_words = (written-tree (expressions settings text indent) (expression-laws text) text words out (Ok n) out' a n refl).0.words-fit in
        let k : length (print settings.step format t) ≤ most_text = rw is-print (omega (arith, length-take n out')) in
        subst (λ p. DerivesWithin m p t) is-print
        (print-keeps settings.step format m t x (words_small (name_in text) e [] (subst Words32 (sym holds) w)) k flat (omega arith) (omega arith))

    pub written-read-plainly : (m : ℕ) → length words ≤ m → (r : Result ℕ Refusal) (table : List ℕ) → Answered (take n out') m r table
        → Leaves (take n out') m (tree_in text e) r table
    written-read-plainly m h = written_read m (tree_in text e) (keeps m h)
