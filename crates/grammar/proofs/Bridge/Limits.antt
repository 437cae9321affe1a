-- The limits on the text's length and on the words, around the simulation of a whole text.
use Rattle.std.specs.Prelude.{ℕ, suc, ◌-◌, ◌≤◌, ◌≡◌, Bool, ◌&&◌, List, [], ◌++◌, length, replicate}
use Rattle.std.proofs.Common.{arith, sym, ◌∙◌, leb-true, le-leb}
use Rattle.std.proofs.Math.Path.{refl, ap}
use Rattle.std.proofs.Math.Bool.{true, false}
use Rattle.std.proofs.Math.Dec.{leb}
use Rattle.lexing.specs.RunLaws.{both_true}
use Rattle.lexing.specs.Answer.{ok, refused, pick}
use Rattle.tree.specs.Ast.{Span, Expr}
use Rattle.tree.specs.Limits.{most_text, most_words}
use Rattle.tree.specs.Resolve.{bytes_of, resolve_expr}
use Rattle.grammar.specs.Grammar.{Tree}
use Rattle.grammar.specs.OperatorTrees.{OperatorTree, DerivesWithin, word_count, most_depth}
use Rattle.grammar.specs.Tokens.{cut}
use Rattle.grammar.proofs.Told.{told-stored}
use Rattle.grammar.specs.Reading.{words, refusal, tree_words, stored, outcome, told, parse_text, read_tree, read_expression}
use Rattle.grammar.specs.TreeRead.{GivesTree}
use Rattle.tree.specs.Clash.{impossible}
use Rattle.grammar.proofs.Laws.Limited.{parse-limited}
use Rattle.grammar.proofs.Laws.Every.{derived-operators}
use Rattle.tree.specs.Claims.{expression-count}
use Rattle.grammar.proofs.Bridge.WholeText.{text-agrees, agrees-ok, agrees-some}

module _ (text : List ℕ) (n : ℕ) where
  -- reading a text that is not too long
  read-inv : {e : Expr Span} {next : ℕ} → read_tree text ≡ ok e next → (length text ≤ most_text) × (parse_text text ≡ ok e next)
  unfolding read_tree
  read-inv {e} {next} p = by_length (leb (length text) most_text) refl p
    where
      by_length : (b : Bool) → leb (length text) most_text ≡ b → pick b (parse_text text) (refused 1 most_text) ≡ ok e next
          → (length text ≤ most_text) × (parse_text text ≡ ok e next)
      by_length true q p = (leb-true (length text) most_text q, p)
      by_length false q p = impossible (cc)

  read_short : {e : Expr Span} {next : ℕ} → length text ≤ most_text → parse_text text ≡ ok e next → read_tree text ≡ ok e next
  unfolding read_tree
  read_short h p = rw (le-leb (length text) most_text h) p

  -- the words fit exactly where they are stored
  pub stored-inv : (ws : List ℕ) {k : ℕ} {l : List ℕ} → stored n ws ≡ words k l → (length ws ≤ n) × (length ws ≤ most_words)
  stored-inv ws {k} {l} p = by-room (leb (length ws) n && leb (length ws) most_words) refl p
    where
      by-room : (b : Bool) → (leb (length ws) n && leb (length ws) most_words) ≡ b
          → pick b (words (length ws) (ws ++ replicate (n - length ws) 0)) (refusal 5 0 (replicate n 0)) ≡ words k l
          → (length ws ≤ n) × (length ws ≤ most_words)
      by-room true q p =
          let (a, b) = both_true (leb (length ws) n) (leb (length ws) most_words) q in
          (leb-true (length ws) n a, leb-true (length ws) most_words b)
      by-room false q p = impossible (cc)

  -- words that fit are stored
  pub stored-fits : (ws : List ℕ) → length ws ≤ n → length ws ≤ most_words → stored n ws ≡ words (length ws) (ws ++ replicate (n - length ws) 0)
  stored-fits ws h i = rw (le-leb (length ws) n h, le-leb (length ws) most_words i) refl

  count : (e : Expr Span) → length (tree_words e []) ≡ word_count (resolve_expr text e)
  count e = sym (expression-count (bytes_of text) _ _ e)

  stored-read : {e : Expr Span} {next : ℕ} → read_tree text ≡ ok e next → read_expression text n ≡ stored n (tree_words e [])
  unfolding read_expression
  stored-read {e} p = ap (λ r. told text (outcome n r)) p ∙ told-stored text n (tree_words e [])

  -- an operator tree that is stored has a derivation within the limits
  pub read-derives : {k next : ℕ} {ws : List ℕ} {e : Expr Span} → read_expression text n ≡ words k ws → read_tree text ≡ ok e next
      → OperatorTree (resolve_expr text e) → DerivesWithin n text (resolve_expr text e)
  read-derives {e} a r x =
      let (short, p) = read-inv r in
      let d = (parse-limited (suc (length text)) most_depth text (resolve_expr text e) (omega arith)).0 (agrees-ok (text-agrees text) e p x) in
      let f = stored-inv (tree_words e []) (sym (stored-read r) ∙ a) in
      record { short = short; derives = d.0; naturals = d.1; fits = rw (← count e) f.0; few = rw (← count e) f.1 }

  -- an operator tree that is given has a derivation within the limits
  pub gives-derives : {t : Tree} → GivesTree text n t → OperatorTree t → DerivesWithin n text t
  gives-derives {t} g x = rw g.named at (read-derives g.answered g.read (rw g.named x))

  -- the tree of a derivation within the limits is read
  pub derives-gives : {t : Tree} → DerivesWithin n text t → GivesTree text n t
  derives-gives {t} d =
      let w = (parse-limited (suc (length text)) most_depth text t (omega arith)).1 (d.derives, d.naturals) in
      let (e, p, q) = agrees-some (text-agrees text) w in
      let r : read_tree text ≡ ok e (length text) = read_short d.short p in
      let c : length (tree_words e []) ≡ word_count t = count e ∙ ap word_count q in
      record {
        tree = e;
        read = r;
        named = q;
        answered = stored-read r ∙ stored-fits (tree_words e []) (rw c d.fits) (rw c d.few);
      }

  -- a text gives one tree
  pub gives_same : {t u : Tree} → GivesTree text n t → GivesTree text n u → t ≡ u
  gives_same g h = let e : g.tree ≡ h.tree = cc (g.read, h.read) in sym g.named ∙ ap (resolve_expr text) e ∙ h.named

-- a derivation's tree is an operator tree
pub derives-operators : {text : List ℕ} {n : ℕ} {t : Tree} → DerivesWithin n text t → OperatorTree t
derives-operators {text} {t} d = derived-operators most_depth (cut text) t d.derives
