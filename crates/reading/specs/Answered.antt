-- The code's answer and table against the definition's, by that a table's words determine its tree.
use Rattle.std.specs.Prelude.{ℕ, ◌-◌, ◌≡◌}
use Rattle.std.proofs.Math.Path.{refl, ap}
use Rattle.std.proofs.Common.{sym, ◌∙◌}
use mathlib.Core.List.{List, [], ◌++◌}
use Rattle.std.proofs.Math.ListN.{length, replicate}
use Rattle.lexing.specs.Answer.{Answer, ok, refused}
use Rattle.tree.specs.Ast.{Span, Expr}
use Rattle.tree.specs.Clash.{impossible}
use Rattle.tree.specs.Kind.{expr}
use Rattle.tree.specs.Claims.{expression-unique, append}
use Rattle.grammar.specs.Grammar.{Tree}
use Rattle.grammar.specs.OperatorTrees.{OperatorTree, DerivesWithin}
use Rattle.grammar.specs.Reading.{Outcome, words, refusal, tree_words, outcome, read_tree, read_expression}
use Rattle.reading.specs.TreeRead.{Answered, Leaves}
use Rattle.grammar.proofs.Told.{told-words}
use Rattle.grammar.proofs.Bridge.Limits.{read-derives, derives-gives, stored-inv, stored-fits}
use Rattle.std.specs.Prelude.{Result, Ok, Err}
use Rattle.lexing.specs.declared.refusal.Refusal.{Refusal}

-- the parts of an answer that is no refusal
abbrev count : Outcome → ℕ
count (words k ws) = k
count (refusal number place ws) = 0

abbrev table : Outcome → List ℕ
table (words k ws) = ws
table (refusal number place ws) = ws

-- a tree's words with zeros after them are no other tree's
held-once : (e e' : Expr Span) (k k' : ℕ) → tree_words e [] ++ replicate k 0 ≡ tree_words e' [] ++ replicate k' 0 → e ≡ e'
held-once e e' k k' h =
    (expression-unique e e' (replicate k 0) (replicate k' 0) (append expr e (replicate k 0) ∙ h ∙ sym (append expr e' (replicate k' 0)))).0

module _ (text : List ℕ) (n : ℕ) where
  -- the tree whose words are in the table is the one that was read
  read_held : (e : Expr Span) (m : ℕ) {k : ℕ} → read_expression text n ≡ words k (tree_words e [] ++ replicate m 0) → (next : ℕ) × (read_tree text ≡ ok e next)
  unfolding read_expression
  read_held e m {k} h = by_answer (read_tree text) refl (told-words text (outcome n (read_tree text)) h)
    where
      by_answer : (a : Answer (Expr Span)) → read_tree text ≡ a → outcome n a ≡ words k (tree_words e [] ++ replicate m 0) → (next : ℕ) × (read_tree text ≡ ok e next)
      by_answer (ok e' next) r h =
          let (f, g) = stored-inv text n (tree_words e' []) h in
          let w : tree_words e' [] ++ replicate (n - length (tree_words e' [])) 0 ≡ tree_words e [] ++ replicate m 0 =
          ap table (sym (stored-fits text n (tree_words e' []) f g) ∙ h) in
          (next, r ∙ ap (λ x. ok x next) (held-once e' e (n - length (tree_words e' [])) m w))
      by_answer Answer.none r h = impossible (cc)
      by_answer (refused number place) r h = impossible (cc)

  -- the code leaves an operator tree: the text has a derivation of it
  pub leaves-derives : {r : Result ℕ Refusal} {after : List ℕ} {t : Tree} → Answered text n r after → Leaves text n t r after → OperatorTree t → DerivesWithin n text t
  leaves-derives {t} a l x =
      let h : read_expression text n ≡ words (length (tree_words l.tree [])) (tree_words l.tree [] ++ replicate (n - length (tree_words l.tree [])) 0) =
      sym (rw (l.counted, l.held) at a) in
      rw l.named at (read-derives text n h (read_held l.tree (n - length (tree_words l.tree [])) h).1 (rw l.named x))

  -- and the other way round
  pub derives-leaves : (r : Result ℕ Refusal) {after : List ℕ} {t : Tree} → Answered text n r after → DerivesWithin n text t → Leaves text n t r after
  derives-leaves (Ok k) a d =
      let g = derives-gives text n d in
      record { tree = g.tree; named = g.named; counted = ap Ok (ap count (a ∙ g.answered)); held = ap table (a ∙ g.answered) }
  derives-leaves (Err e) a d =
      let h = a ∙ (derives-gives text n d).answered in impossible (cc h)
