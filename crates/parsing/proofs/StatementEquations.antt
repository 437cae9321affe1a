-- The statement rules step by step, as their methods read them.
use Rattle.std.proofs.Common.{ℕ, zero, suc, ◌≡◌, ◌∙◌, refl, ap, Bool, true, false, List, ◌∷◌, drop, Option, Some, None, Ok, arith}
use mathlib.Core.Path.{fun_ext}
use Rattle.lexing.specs.Answer.{Answer, ok, refused, pick}
use Rattle.tree.specs.Ast.{Span, Binding, binding, Expr, Stmt, Block, If, IfCase, no_stmts, case, a_expr, AAssertion}
use Rattle.tree.specs.Clash.{impossible}
use Rattle.tree.specs.Words.{binding_words, stmt_words}
use Rattle.grammar.specs.Reading.{tree_words}
use Rattle.grammar.specs.Rules.{opens_expr, parse_expr}
use Rattle.grammar.specs.Steps.{Reader, after, need, must, mapped, ◌or◌, T, keyword_at, parse_name}
use Rattle.grammar.specs.Statements.{gallery, the_expr, atomic, rep, cases, over_type, parse_case, parse_else, parse_if_cont, parse_a_expr}
use Rattle.parsing.specs.Contract.{needed, same, Reads_if}
use Rattle.parsing.specs.Code.{turns, inner, opened, opening}
use Rattle.parsing.specs.Statements.{cond_stmt}
use Rattle.parsing.specs.declared.parser.Parser.{Parser}
use Rattle.parsing.proofs.Laws.{after-none, after-refused}
use Rattle.parsing.proofs.StatementWords.{Keeps, needed-keeps, or-keeps}

-- "expr" of the rules with so many levels left
pub opened-expr : (text : List ℕ) (depth : ℕ) → (opened depth text).expr ≡ inner depth text
unfolding gallery
opened-expr text zero = refl
opened-expr text (suc depth) = refl

-- a step that must follow, mapped
pub must-mapped : {A B : Type 0} (f : A → B) (at : ℕ) (r : Answer A) → must at (mapped f r) ≡ mapped f (must at r)
unfolding after
must-mapped f at (ok a next) = refl
must-mapped f at Answer.none = refl
must-mapped f at (refused number place) = refl

pub must-need : {A B : Type 0} (f : A → B) (at : ℕ) (r : Answer A) → must at (mapped f r) ≡ need at r (λ a next. ok (f a) next)
unfolding after
must-need f at (ok a next) = refl
must-need f at Answer.none = refl
must-need f at (refused number place) = refl

pub must-refused : {A B : Type 0} (f : A → B) (at : ℕ) (r : Answer A) {number place : ℕ} → must at r ≡ refused number place → must at (mapped f r) ≡ refused number place
unfolding after
must-refused f at (ok a next) e = cc
must-refused f at Answer.none {number} {place} e =
    let h : 2 ≡ number = cc in
    let l : at ≡ place = cc in
    rw (← h, ← l) refl
must-refused f at (refused a b) {number} {place} e =
    let h : a ≡ number = cc in
    let l : b ≡ place = cc in
    rw (← h, ← l) refl

-- an expression that must follow
module _ {A : Type 0} (f : Expr Span → A) (text : List ℕ) (depth at : ℕ) where
  pub expr-needed : the_expr text (turns text) (opened depth text) f at ≡ need at (inner depth text at) (λ e at₁. ok (f e) at₁)
  expr-needed = ap (λ c. must at (mapped f (c at))) (opened-expr text depth) ∙ must-need f at (inner depth text at)

  pub expr-mapped : the_expr text (turns text) (opened depth text) f at ≡ mapped f (must at (inner depth text at))
  expr-mapped = ap (λ c. must at (mapped f (c at))) (opened-expr text depth) ∙ must-mapped f at (inner depth text at)

pub ruleset equations = (opened-expr, must-refused)

-- ---- a name and its mark

-- no name, one whose blanks are refused, and one that was read
pub atomic-none : (text : List ℕ) (mark : Reader ℕ) (at : ℕ) → parse_name text at ≡ Answer.none → atomic text mark at ≡ Answer.none
unfolding atomic
atomic-none text mark at e = after-none _ _ _ e

pub atomic-refused : (text : List ℕ) (mark : Reader ℕ) (at : ℕ) {number place : ℕ} → parse_name text at ≡ refused number place
    → atomic text mark at ≡ refused number place
unfolding atomic
atomic-refused text mark at e = after-refused _ _ _ e

pub atomic-named : {A : Type 0} (text : List ℕ) (mark : Reader ℕ) (at : ℕ) {n : Span} {next : ℕ} (go : Span → ℕ → Answer A) → parse_name text at ≡ ok n next
    → after (atomic text mark at) Answer.none go ≡ after (mark next) Answer.none (λ _ at₁. go n at₁)
unfolding atomic after
atomic-named {A} text mark at {n} {next} go e = rw e (marked (mark next))
  where
    marked : (r : Answer ℕ) → after (mapped (λ _. n) r) Answer.none go ≡ after r Answer.none (λ _ at₁. go n at₁)
    marked (ok v k) = refl
    marked Answer.none = refl
    marked (refused number place) = refl

-- ---- choices

-- a branch that keeps something after its first step, and what follows it in the choice
kept-or : {A B : Type 0} (s : Answer B) (go : B → ℕ → Answer A) (q : Answer A) → ((b : B) (n : ℕ) → Keeps (go b n)) → (after s Answer.none go or q) ≡ after s q go
unfolding after
kept-or (ok b n) go q k = or-keeps (go b n) q (k b n)
kept-or Answer.none go q k = refl
kept-or (refused number place) go q k = refl

-- what keeps something must follow already
must-kept : {A : Type 0} (at : ℕ) (r : Answer A) → Keeps r → must at r ≡ r
unfolding after
must-kept at (ok a next) k = refl
must-kept at Answer.none k = absurd (omega (arith, k.some))
must-kept at (refused number place) k = refl

-- a step and what goes on after it, where they must follow
pub must-after : {A B : Type 0} (at : ℕ) (s : Answer B) (q : Answer A) (go : B → ℕ → Answer A) → ((b : B) (n : ℕ) → Keeps (go b n)) → must at (after s q go) ≡ after s (must at q) go
unfolding after
must-after at (ok b n) q go k = must-kept at (go b n) (k b n)
must-after at Answer.none q go k = refl
must-after at (refused number place) q go k = refl

pub must-first : {A B : Type 0} (at : ℕ) (s : Answer B) (go : B → ℕ → Answer A) → ((b : B) (n : ℕ) → Keeps (go b n)) → must at (after s Answer.none go) ≡ need at s go
unfolding after
must-first at s go k = must-after at s Answer.none go k

pub ok-keeps : {A : Type 0} (a : A) (at : ℕ) → Keeps (ok a at)
ok-keeps a at = record { some = refl }

-- two branches that are made into something, of which one must follow
needed-either : {A B C : Type 0} (at : ℕ) (f : A → C) (g : B → C) (x : Answer A) (y : Answer B)
    → must at (mapped f x or mapped g y) ≡ after x (mapped g (must at y)) (λ a n. ok (f a) n)
unfolding after
needed-either at f g (ok a n) y = refl
needed-either at f g Answer.none y = must-mapped g at y
needed-either at f g (refused number place) y = refl

-- ---- the rules, by their steps

module _ (text : List ℕ) (depth : ℕ) where
  -- a condition, which must follow, a block and what follows them
  pub cond-rule : (at : ℕ)
      → needed (cond_stmt depth) text at
      ≡ need at (inner depth text at)
      (λ e at₁. need at₁ ((opened depth text).block at₁)
      (λ thn at₂. need at₂ (parse_else text (turns text) (opened depth text) at₂) (λ els at₃. ok (If e thn els) at₃)))
  cond-rule at = must-first at (inner depth text at) _ (λ e at₁. needed-keeps _ _ _ (λ thn at₂. needed-keeps _ _ _ (λ els at₃. ok-keeps _ _)))

  -- a case and others, or a condition
  abbrev after_case : Expr Span × Stmt Span → ℕ → Answer (Stmt Span)
  after_case k at =
      need at (rep cases (turns text) (parse_case text (turns text) (opened depth text)) at) (λ ks at₁. ok (IfCase (case k.0 k.1 ks)) at₁)

  abbrev cond_by : Reader (Expr Span) → Reader (Stmt Span)
  cond_by expr at =
      after (expr at) Answer.none
      (λ e at₁. need at₁ ((opened depth text).block at₁)
      (λ thn at₂. need at₂ (parse_else text (turns text) (opened depth text) at₂) (λ els at₃. ok (If e thn els) at₃)))

  pub cont-rule : (at : ℕ)
      → needed (opening parse_if_cont depth) text at
      ≡ after (parse_case text (turns text) (opened depth text) at) (needed (cond_stmt depth) text at)
      (λ k at₁. need at₁ (rep cases (turns text) (parse_case text (turns text) (opened depth text)) at₁) (λ ks at₂. ok (IfCase (case k.0 k.1 ks)) at₂))
  unfolding parse_if_cont
  cont-rule at =
      let keeps : (k : Expr Span × Stmt Span) (at₁ : ℕ) → Keeps (after_case k at₁) = λ k at₁. needed-keeps _ _ _ (λ ks at₂. ok-keeps _ _) in
      ap (λ expr. must at (after (parse_case text (turns text) (opened depth text) at) Answer.none after_case or cond_by expr at)) (opened-expr text depth)
      ∙ ap (must at) (kept-or (parse_case text (turns text) (opened depth text) at) after_case (cond_stmt depth text at) keeps)
      ∙ must-after at _ _ after_case keeps

  -- `else` and what it leads
  pub else-rule : (at : ℕ)
      → parse_else text (turns text) (opened depth text) at
      ≡ after (T text "else" at) (ok (Block no_stmts) at)
      (λ _ at₁. after (T text "if" at₁) (must at₁ ((opened depth text).block at₁)) (λ _ at₂. must at₂ ((opened depth text).if_cont at₂)))
  unfolding parse_else
  else-rule at =
      ap (after (T text "else" at) (ok (Block no_stmts) at))
      (fun_ext (λ _. fun_ext (λ at₁.
      ap (must at₁) (kept-or (T text "if" at₁) _ _ (λ _ at₂. needed-keeps _ _ _ (λ s at₃. ok-keeps _ _)))
      ∙ must-after at₁ _ _ _ (λ _ at₂. needed-keeps _ _ _ (λ s at₃. ok-keeps _ _)))))

  -- a block or an expression after a word
  pub aexpr-rule : (w : List ℕ) (at : ℕ)
      → parse_a_expr text (turns text) (opened depth text) w at
      ≡ after (keyword_at text w at) Answer.none
      (λ _ at₁. after ((opened depth text).block at₁) (mapped a_expr (must at₁ (inner depth text at₁))) (λ s at₂. ok (AAssertion s) at₂))
  unfolding parse_a_expr
  aexpr-rule w at =
      rw (opened-expr text depth)
      (ap (after (keyword_at text w at) Answer.none) (fun_ext (λ _. fun_ext (λ at₁. needed-either at₁ AAssertion a_expr ((opened depth text).block at₁) (inner depth text at₁)))))

  -- a condition and a block after `case`
  pub case-rule : (at : ℕ)
      → parse_case text (turns text) (opened depth text) at
      ≡ after (T text "case" at) Answer.none
      (λ _ at₁. need at₁ (inner depth text at₁) (λ e at₂. need at₂ ((opened depth text).block at₂) (λ s at₃. ok (e, s) at₃)))
  unfolding parse_case
  case-rule at =
      rw (opened-expr text depth)
      (ap (after (T text "case" at) Answer.none) (fun_ext (λ _. fun_ext (λ at₁. ap (need at₁ (inner depth text at₁)) (fun_ext (λ e. fun_ext (λ at₂. must-need (λ s. (e, s)) at₂ _)))))))

module _ (text : List ℕ) where
  -- "if-cont" where no level is left
  pub cont-deep : (at : ℕ) {number place : ℕ} → inner 0 text at ≡ refused number place → (opened 0 text).if_cont at ≡ refused number place
  unfolding gallery parse_expr
  cont-deep at {number} {place} e = by-test (opens_expr (drop at text)) e
    where
      by-test : (b : Bool) → ◌≡◌ {A = Answer (Expr Span)} (pick b (refused 3 at) Answer.none) (refused number place)
          → ◌≡◌ {A = Answer (Stmt Span)} (pick b (refused 3 at) Answer.none) (refused number place)
      by-test true e =
          let h : 3 ≡ number = cc in
          let l : at ≡ place = cc in
          rw (← h, ← l) refl
      by-test false e = impossible cc

  pub cont-none : (p q : Parser) (r : Option ℕ) → p.text.now ≡ text → Reads_if tree_words (inner 0) 1 0 p q (Ok r)
      → (opened 0 text).if_cont p.at ≡ Answer.none
  unfolding gallery parse_expr
  cont-none p q (Some n) e r = absurd (by-test (opens_expr (drop p.at text)) (rw e at r.says))
    where
      by-test : (b : Bool) {v : Expr Span} {n : ℕ} → ◌≡◌ {A = Answer (Expr Span)} (pick b (refused 3 p.at) Answer.none) (ok v n) → ⊥
      by-test true e = impossible cc
      by-test false e = impossible cc
  cont-none p q None e r = by-test (opens_expr (drop p.at text)) (rw e at r.says)
    where
      by-test : (b : Bool) → ◌≡◌ {A = Answer (Expr Span)} (pick b (refused 3 p.at) Answer.none) Answer.none
          → ◌≡◌ {A = Answer (Stmt Span)} (pick b (refused 3 p.at) Answer.none) Answer.none
      by-test true e = impossible cc
      by-test false e = refl

-- the words of a statement for all values of a type
pub forall-words : (b : Binding Span) (s : Stmt Span) → (λ r. 30 ∷ binding_words same b (stmt_words same s r)) ≡ stmt_words same (over_type b s)
forall-words (binding n t) s = refl
