-- The rules of expressions, as their methods take their steps.
use Rattle.std.proofs.Common.{ℕ, zero, suc, ◌<◌, ◌≡◌, ◌∙◌, refl, sym, ap, List, ◌∷◌, take, drop, Bool, true, false, arith}
use Rattle.std.proofs.Math.Option.{none, some}
use mathlib.Core.Path.{fun_ext}
use Rattle.lexing.specs.Answer.{Answer, ok, refused, moved}
use Rattle.lexing.specs.Bytes.{is_digit, can_start_identifier_char, run, starts_with, same_bytes, bytes}
use Rattle.lexing.specs.Blanks.{Blanks, passed, unclosed, W}
use Rattle.lexing.specs.Tokens.{closed, lexeme, identifier_length, keyword, sign, parse_id, natural}
use Rattle.lexing.specs.TokenLaws.{starts_with-true}
use Rattle.tree.specs.Ast.{Span, Expr, BLiteral, ILiteral, IdExpr, Exprs, Patterns, no_patterns, pattern}
use Rattle.tree.specs.Ast as ast
use Rattle.tree.specs.Words.{bool_word}
use mir.Val.{bool_byte}
use Rattle.grammar.specs.Steps.{Reader, after, need, must, mapped, ◌or◌, T, Sym, sign_at, parse_name, parse_nat}
use Rattle.grammar.specs.StepLaws.{after-after}
use Rattle.grammar.specs.Rules.{parse_primary_expr, parse_atomic_expr, after_if, after_val, after_quantifier, after_lift, after_old, after_name, after_paren, after_triggers}
use Rattle.grammar.specs.Rules.{Sequence, exprs, PropertyItem, parse_nonempty_comma_delimited_seq, parse_comma_delimited_seq, parse_listed, parse_marked, parse_closure_property}
use Rattle.grammar.specs.Statements.{gallery, the_expr, parse_optional_auto_invariant, parse_call_argument}
use Rattle.grammar.proofs.Bridge.NoOperand.{if-ends, val-ends, quantifier-ends, lift-ends}
use Rattle.grammar.proofs.Bridge.Relation.{Ends, refuses, reads}
use Rattle.grammar.proofs.Bridge.Tests.{Stands, word, digits, other, nowhere, stands}
use Rattle.parsing.specs.Code.{turns, inner, opened, literal_expr, custom_expr, constant_expr, reference_argument}

-- the word of a `bool`
pub bool-word : (b : Bool) → bool_byte b ≡ bool_word b
bool-word false = refl
bool-word true = refl

-- ---- choices

-- a choice of three
pub or_assoc : {A : Type 0} (r q p : Answer A) → ((r or q) or p) ≡ (r or (q or p))
unfolding after
or_assoc (ok a next) q p = refl
or_assoc Answer.none q p = refl
or_assoc (refused number place) q p = refl

or-none : {A : Type 0} (r : Answer A) → (r or Answer.none) ≡ r
unfolding after
or-none (ok a next) = refl
or-none Answer.none = refl
or-none (refused number place) = refl

-- a branch that keeps something once its token stands: what follows it in the choice plays no part
ends-or : {A : Type 0} {P : A → Type 0} {r : Answer A} (q : Answer A) → Ends P r → (r or q) ≡ r
unfolding after
ends-or q refuses = refl
ends-or q (reads p) = refl

branch : {A B : Type 0} {P : A → Type 0} (s : Answer B) (go : B → ℕ → Answer A) (q : Answer A) → ((b : B) (next : ℕ) → Ends P (go b next))
    → (after s Answer.none go or q) ≡ after s q go
unfolding after
branch (ok b next) go q e = ends-or q (e b next)
branch Answer.none go q e = refl
branch (refused number place) go q e = refl

-- ---- operands that begin with a word, and others

module _ (text : List ℕ) (at : ℕ) where
  -- where an identifier stands, its first byte is no digit, `|` or `(`
  module _ (some : 0 < identifier_length (drop at text)) where
    no-natural : parse_nat text at ≡ Answer.none
    unfolding natural
    no-natural = let z : run is_digit (drop at text) ≡ 0 = digitless (stands text at) in rw z refl
      where
        nameless : identifier_length (drop at text) ≡ 0 → run is_digit (drop at text) ≡ 0
        nameless e = absurd (omega arith)

        digitless : Stands text at → run is_digit (drop at text) ≡ 0
        digitless (word i t a) = ap (λ r. r.digits) a
        digitless (digits i t a) = nameless (ap (λ r. r.name) a)
        digitless (other o i t l x y a) = nameless (ap (λ r. r.name) a)
        digitless (nowhere t a) = nameless (ap (λ r. r.name) a)

    no-bar : Sym text "|" at ≡ Answer.none
    unfolding sign identifier_length can_start_identifier_char
    no-bar = barless (starts_with (bytes "|") (drop at text)) refl
      where
        barless : (x : Bool) → starts_with (bytes "|") (drop at text) ≡ x → Sym text "|" at ≡ Answer.none
        barless true p =
            let s : drop at text ≡ 124 ∷ drop 1 (drop at text) = starts_with-true (bytes "|") (drop at text) p in
            let z : 0 < 0 = rw s at some in absurd (omega arith)
        barless false p = rw p refl

    no-paren : Sym text "(" at ≡ Answer.none
    unfolding sign identifier_length can_start_identifier_char
    no-paren = parenless (starts_with (bytes "(") (drop at text)) refl
      where
        parenless : (x : Bool) → starts_with (bytes "(") (drop at text) ≡ x → Sym text "(" at ≡ Answer.none
        parenless true p =
            let s : drop at text ≡ 40 ∷ drop 1 (drop at text) = starts_with-true (bytes "(") (drop at text) p in
            let z : 0 < 0 = rw s at some in absurd (omega arith)
        parenless false p = rw p refl

    atomic : (m : ℕ) (c : Reader (Expr Span))
        → parse_atomic_expr text m c at ≡ (constant_expr text at or after (parse_name text at) Answer.none (λ n at₁. after_name text m c n at₁))
    unfolding parse_atomic_expr after
    atomic m c =
        let f : Answer (Expr Span) = mapped (λ _. BLiteral false) (T text "false" at) in
        let t : Answer (Expr Span) = mapped (λ _. BLiteral true) (T text "true" at) in
        let o : Answer (Expr Span) = after (T text "old" at) Answer.none (λ _ at₁. after_old text at₁) in
        let n : Answer (Expr Span) = after (parse_name text at) Answer.none (λ n at₁. after_name text m c n at₁) in
        let h : parse_atomic_expr text m c at ≡ (f or (t or (o or (n or Answer.none)))) = rw (no-natural, no-bar, no-paren) refl in
        h ∙ ap (λ r. f or (t or (o or r))) (or-none n) ∙ sym (or_assoc f (t or o) n ∙ ap (λ r. f or r) (or_assoc t o n))

    -- the words that open an operand, one after another, and the names
    pub worded-rule : (m : ℕ) (c : Reader (Expr Span))
        → parse_primary_expr text m c at
        ≡ after (T text "if" at)
        (after (T text "val" at)
        (after (T text "forall" at)
        (after (T text "exists" at)
        (after (T text "lift" at)
        (constant_expr text at or after (parse_name text at) Answer.none (λ n at₁. after_name text m c n at₁))
        (λ _ at₁. after_lift text m c at₁))
        (λ _ at₁. after_quantifier text m c false at₁))
        (λ _ at₁. after_quantifier text m c true at₁))
        (λ _ at₁. after_val text c at₁))
        (λ _ at₁. after_if text c at₁)
    unfolding parse_primary_expr
    worded-rule m c =
        branch (T text "if" at) (λ _ at₁. after_if text c at₁) _ (λ _ at₁. if-ends text c at₁)
        ∙ ap (λ r. after (T text "if" at) r (λ _ at₁. after_if text c at₁))
        (branch (T text "val" at) (λ _ at₁. after_val text c at₁) _ (λ _ at₁. val-ends text c at₁)
        ∙ ap (λ r. after (T text "val" at) r (λ _ at₁. after_val text c at₁))
        (branch (T text "forall" at) (λ _ at₁. after_quantifier text m c true at₁) _ (λ _ at₁. quantifier-ends text m c true at₁)
        ∙ ap (λ r. after (T text "forall" at) r (λ _ at₁. after_quantifier text m c true at₁))
        (branch (T text "exists" at) (λ _ at₁. after_quantifier text m c false at₁) _ (λ _ at₁. quantifier-ends text m c false at₁)
        ∙ ap (λ r. after (T text "exists" at) r (λ _ at₁. after_quantifier text m c false at₁))
        (branch (T text "lift" at) (λ _ at₁. after_lift text m c at₁) _ (λ _ at₁. lift-ends text m c at₁)
        ∙ ap (λ r. after (T text "lift" at) r (λ _ at₁. after_lift text m c at₁)) (atomic m c)))))

  -- where none stands
  wordless-branches : (m : ℕ) (c : Reader (Expr Span)) → identifier_length (drop at text) ≡ 0
      → parse_primary_expr text m c at
      ≡ (mapped ILiteral (parse_nat text at) or (custom_expr text at or after (Sym text "(" at) Answer.none (λ _ at₁. after_paren text c at₁)))
  unfolding parse_primary_expr parse_atomic_expr after keyword parse_id same_bytes
  wordless-branches m c e = rw e refl

  pub wordless-rule : (m : ℕ) (c : Reader (Expr Span)) → identifier_length (drop at text) ≡ 0
      → parse_primary_expr text m c at ≡ (literal_expr text at or after (Sym text "(" at) Answer.none (λ _ at₁. after_paren text c at₁))
  wordless-rule m c e = wordless-branches m c e ∙ sym (or_assoc (mapped ILiteral (parse_nat text at)) (custom_expr text at) _)

-- two ways to go on that agree
after_same : {A B : Type 0} {go go₁ : A → ℕ → Answer B} (r : Answer A) (stop : Answer B) → ((a : A) (next : ℕ) → go a next ≡ go₁ a next)
    → after r stop go ≡ after r stop go₁
after_same r stop e = ap (after r stop) (fun_ext (λ a. fun_ext (e a)))

-- `parse_listed`, by whether the sequence has items
pub listed-rule : {A L : Type 0} (text : List ℕ) (m : ℕ) (q : Sequence A L) (item : Reader A) (close : List ℕ) (at : ℕ)
    → parse_listed text m q item close at
    ≡ after (parse_nonempty_comma_delimited_seq text m q item at) (need at (sign_at text close at) (λ _ at₂. ok q.nil at₂))
    (λ l at₁. need at₁ (sign_at text close at₁) (λ _ at₂. ok l at₂))
unfolding parse_listed parse_comma_delimited_seq after
listed-rule text m q item close at =
    after-after (parse_nonempty_comma_delimited_seq text m q item at) (ok q.nil at) (λ l at₁. ok l at₁) (refused 2 at)
    (λ l at₁. need at₁ (sign_at text close at₁) (λ _ at₂. ok l at₂))

-- ---- closure properties, by whether `trigger` stands

module _ (text : List ℕ) (m : ℕ) (c : Reader (Expr Span)) (k at : ℕ) where
  abbrev Property : Answer (Patterns Span) → Answer PropertyItem
  Property r = after r Answer.none (λ ts at₁. after_triggers ts at₁ (c at₁))

  abbrev with-triggers : Answer (Patterns Span) → Answer PropertyItem
  with-triggers r = after r Answer.none (λ ts at₁. need at₁ (c at₁) (λ body at₂. ok (ts, body) at₂))

  by-patterns : (es : Exprs Span) (r : Answer (Patterns Span)) → Property (mapped (pattern es) r) ≡ with-triggers (mapped (pattern es) r)
  unfolding after
  by-patterns es (ok ts next) = refl
  by-patterns es Answer.none = refl
  by-patterns es (refused number place) = refl

  by-items : (at₁ : ℕ) (r : Answer (Exprs Span)) (rest : Reader (Patterns Span))
      → Property (need at₁ r (λ es at₂. mapped (pattern es) (rest at₂))) ≡ with-triggers (need at₁ r (λ es at₂. mapped (pattern es) (rest at₂)))
  unfolding after
  by-items at₁ (ok es next) rest = by-patterns es (rest next)
  by-items at₁ Answer.none rest = refl
  by-items at₁ (refused number place) rest = refl

  by-mark : (n : ℕ) (b : Blanks) (stop : Answer (Patterns Span)) (go : ℕ → ℕ → Answer (Patterns Span))
      → ((v at₁ : ℕ) → Property (go v at₁) ≡ with-triggers (go v at₁))
      → Property (after (moved at (closed 0 n b)) stop go) ≡ with-triggers (after (moved at (closed 0 n b)) stop go)
  unfolding after
  by-mark n (passed j) stop go h = h _ _
  by-mark n (unclosed j) stop go h = refl

abbrev trigger_ahead : List ℕ → ℕ → Bool
trigger_ahead text at = same_bytes (take (identifier_length (drop at text)) (drop at text)) (bytes "trigger")

pub triggered-rule : (text : List ℕ) (m : ℕ) (c : Reader (Expr Span)) (at : ℕ) → trigger_ahead text at ≡ true
    → parse_closure_property text (suc m) c at
    ≡ after (parse_marked text (suc m) c (suc m) (bytes "trigger") at) Answer.none (λ ts at₁. need at₁ (c at₁) (λ body at₂. ok (ts, body) at₂))
unfolding parse_closure_property parse_marked keyword lexeme
triggered-rule text m c at h =
    rw h (by-mark text (suc m) c m at _ (W (drop (identifier_length (drop at text)) (drop at text))) _ _
    (λ v at₁. by-items text (suc m) c m at at₁ (parse_nonempty_comma_delimited_seq text (suc m) exprs c at₁) (parse_marked text (suc m) c m (bytes "trigger"))))

pub untriggered-rule : (text : List ℕ) (m : ℕ) (c : Reader (Expr Span)) (at : ℕ) → trigger_ahead text at ≡ false
    → parse_closure_property text (suc m) c at ≡ after (c at) Answer.none (λ body at₁. ok (no_patterns, body) at₁)
unfolding parse_closure_property parse_marked keyword after
untriggered-rule text m c at h = rw h refl

-- ---- rules that a statement opens too

-- "expr" of the rules with so many levels left
pub opened-expr : (text : List ℕ) (depth : ℕ) → (opened depth text).expr ≡ inner depth text
unfolding gallery
opened-expr text zero = refl
opened-expr text (suc depth) = refl

must-need : {A B : Type 0} (f : A → B) (at : ℕ) (r : Answer A) → must at (mapped f r) ≡ need at r (λ a next. ok (f a) next)
unfolding after
must-need f at (ok a next) = refl
must-need f at Answer.none = refl
must-need f at (refused number place) = refl

-- an expression that must follow
pub expr-needed : {A : Type 0} (f : Expr Span → A) (text : List ℕ) (depth at : ℕ)
    → the_expr text (turns text) (opened depth text) f at ≡ need at (inner depth text at) (λ e at₁. ok (f e) at₁)
expr-needed f text depth at = ap (λ c. must at (mapped f (c at))) (opened-expr text depth) ∙ must-need f at (inner depth text at)

pub invariant-is : (text : List ℕ) (depth at : ℕ)
    → parse_optional_auto_invariant text (turns text) (opened depth text) at
    ≡ after (T text "autoinv" at) (ok none at) (λ _ at₁. need at₁ (inner depth text at₁) (λ e at₂. ok (some e) at₂))
unfolding parse_optional_auto_invariant
invariant-is text depth at = after_same (T text "autoinv" at) _ (λ _ at₁. expr-needed some text depth at₁)

pub argument-is : (text : List ℕ) (depth at : ℕ)
    → parse_call_argument text (turns text) (opened depth text) at
    ≡ (reference_argument text at or mapped (λ e. record { mode = ast.In; arg = e }) (inner depth text at))
unfolding parse_call_argument
argument-is text depth at =
    sym (or_assoc
    (after (T text "out" at) Answer.none (λ _ at₁. must at₁ (mapped (λ n. record { mode = ast.Out; arg = IdExpr n false }) (parse_name text at₁))))
    (after (T text "inout" at) Answer.none (λ _ at₁. must at₁ (mapped (λ n. record { mode = ast.InOut; arg = IdExpr n false }) (parse_name text at₁)))) _)
    ∙ ap (λ c. reference_argument text at or mapped (λ e. record { mode = ast.In; arg = e }) (c at)) (opened-expr text depth)
