-- A function that changes no span inside the text changes no tree that a rule of statements (Statements.antt) gives, and the rule's places lie inside
-- the text, if the same holds of the rules in its gallery.
use Prim.Native.Nat.{zero, suc}
use Prim.Native.String.{String}
use Rattle.std.specs.Prelude.{ℕ, ◌<◌, length, refl, Bool, true, false, drop}
use mathlib.Core.List.{List, map}
use Rattle.std.proofs.Math.Option.{Option}
use Rattle.lexing.specs.Answer.{Answer, ok, refused}
use Rattle.lexing.specs.Tokens.{parse_id, keyword, sign, identifier_length}
use Rattle.tree.specs.Ast.{Span, Expr, Stmt, VarDecl, Block, IfCase, stmts, case, AExprs, a_exprs}
use Rattle.tree.specs.Resolve.{map_option, map_expr, map_call_argument, map_stmt, map_stmts, map_cases, map_a_expr, map_a_exprs}
use Rattle.lexing.specs.Bytes.{bytes, is_digit, starts_with, same_bytes}
use Rattle.grammar.specs.Steps.{Reader, after, sign_at, parse_name}
use Rattle.grammar.specs.Rules.{opens_expr, opens_at, parse_nonempty_comma_delimited_seq, parse_listed}
use Rattle.grammar.specs.Statements as rules
use Rattle.grammar.specs.Statements.{Gallery}
use Rattle.grammar.proofs.Inside.Answers.{Inside, Gives, given, nothing, ReadsIn, Any, Fixed, unusable, too-deep, before-end, step, by, token, either, picked, sign-placed, keyword-placed, steps, Closed, list-closed, rep-gives, nonempty-gives, listed-gives, Keeping, name-kept}
use Rattle.grammar.proofs.Inside.Expressions.{by-id_type, parse_optional_type-kept, parse_expr-kept}

-- it holds of the rules of a gallery
pub record KeptBy (keep : Span → Span) (text : List ℕ) (c : Gallery) : Type 0 where
  pub expr : ReadsIn (Fixed (map_expr keep)) text c.expr
  pub block : ReadsIn (Fixed (map_stmt keep)) text c.block
  pub stmt : ReadsIn (Fixed (map_stmt keep)) text c.stmt
  pub if_cont : ReadsIn (Fixed (map_stmt keep)) text c.if_cont
  pub loop : ReadsIn (Fixed (map_stmt keep)) text c.loop

module _ {text : List ℕ} (K : Keeping text) where
  abbrev keep : Span → Span
  keep = K.keep

  abbrev Reads : {A : Type 0} → (A → Type 0) → Reader A → Type 0
  Reads P = ReadsIn P text

  abbrev Kept : Stmt Span → Type 0
  Kept = Fixed (map_stmt keep)

  abbrev OptionKept : Option (Expr Span) → Type 0
  OptionKept = Fixed (map_option (map_expr keep))

  -- ---- sequences

  statements-closed : Closed rules.statements Kept (Fixed (map_stmts keep))
  statements-closed = record { none = refl; more = λ s h ss t i. stmts (h i) (t i) }

  abbrev CaseKept : Expr Span × Stmt Span → Type 0
  CaseKept k = Fixed (map_expr keep) k.0 × Kept k.1

  cases-closed : Closed rules.cases CaseKept (Fixed (map_cases keep))
  cases-closed = record { none = refl; more = λ k h ks t i. case (h.0 i) (h.1 i) (t i) }

  aexprs-closed : Closed rules.aexprs (Fixed (map_a_expr keep)) (Fixed (map_a_exprs keep))
  aexprs-closed = record { none = refl; more = λ a h es t i. a_exprs (h i) (t i) }

  arguments-closed : Closed rules.arguments (λ a. Fixed (map_expr keep) a.arg) (Fixed (map (map_call_argument keep)))
  arguments-closed = list-closed (map_call_argument keep) (λ a h i. record { mode = a.mode; arg = h i })

  pub names-kept : (m : ℕ) → Reads (Fixed (map K.keep)) (parse_nonempty_comma_delimited_seq text m rules.names (parse_name text))
  names-kept = nonempty-gives text (list-closed keep (λ n h. h)) _ (name-kept K)

  -- a name that a mark follows: a step, a sign, and one of the three signs
  atomic-kept : (mark : Reader ℕ) → Reads Any mark → Reads (Fixed keep) (rules.atomic text mark)
  unfolding rules.atomic
  atomic-kept mark h at l = by (name-kept K) at l nothing (λ _ n at₁ l₁. token (h at₁ l₁) nothing (λ _ _. given n))

  signed-kept : (w : List ℕ) → Reads (Fixed keep) (rules.atomic text (sign_at text w))
  signed-kept w = atomic-kept (sign_at text w) (λ at l. sign-placed text at l w)

  mark-placed : Reads Any (rules.mark text)
  unfolding rules.mark
  mark-placed at l = search steps

  marked-kept : Reads (Fixed keep) (rules.atomic text (rules.mark text))
  marked-kept = atomic-kept (rules.mark text) mark-placed

  module _ (m : ℕ) {c : Gallery} (k : KeptBy K.keep text c) where
    pub parse_optional_auto_invariant-kept : Reads (Fixed (map_option (map_expr K.keep))) (rules.parse_optional_auto_invariant text m c)
    unfolding rules.parse_optional_auto_invariant
    parse_optional_auto_invariant-kept at l = search (by k.expr, steps) depth 8

    arguments-kept : Reads (Fixed (map (map_call_argument keep))) (parse_listed text m rules.arguments (rules.parse_call_argument text m c) (bytes ")"))
    unfolding rules.parse_call_argument
    arguments-kept = listed-gives text arguments-closed _ (λ at l. search (by k.expr, by (name-kept K), steps) depth 12) m _

    -- after clauses that begin with a word
    pub by-clauses : {B : Type 0} {Q : B → Type 0} {stop : Answer B} {go : AExprs Span → ℕ → Answer B} (w : List ℕ) (at : ℕ) → Inside text at
        → Gives Q text stop → ((es : AExprs Span) → Fixed (map_a_exprs K.keep) es → Reads Q (go es))
        → Gives Q text (after (rules.parse_a_expr_seq text m c w at) stop go)
    unfolding rules.parse_a_expr_seq
    by-clauses w at l =
        step _ (rep-gives text aexprs-closed (rules.parse_a_expr text m c w) (λ at l. search (by k.expr, by k.block, steps) depth 12) m at l)

    -- ---- parse_stmt

    parse_init-kept : Reads OptionKept (rules.parse_init text m c)
    unfolding rules.parse_init
    parse_init-kept at l = search (by k.expr, steps) depth 8

    parse_variable_declaration-kept : (is_mutable : Bool) → Reads Kept (rules.parse_variable_declaration text m c is_mutable)
    unfolding rules.parse_variable_declaration
    parse_variable_declaration-kept is_mutable at l =
        by (name-kept K) at l (unusable l) (λ _ n at₁ l₁. by (parse_optional_type-kept K) at₁ l₁ (unusable l₁) (λ _ t at₂ l₂. by parse_optional_auto_invariant-kept at₂ l₂ (unusable l₂)
        (λ _ a at₃ l₃. by parse_init-kept at₃ l₃ (unusable l₃) (λ _ init at₄ l₄. by (rep-gives text statements-closed _ k.stmt m) at₄ l₄ (unusable l₄)
        (λ _ ss _. given (λ i. VarDecl (record { name = n i; is_mutable = is_mutable; optional_type = t i; optional_auto_inv = a i }) (init i) (Block (ss i))))))))

    parse_or-kept : Reads Kept (rules.parse_or text m c)
    unfolding rules.parse_or
    parse_or-kept at l = search (by k.block, steps) depth 8

    parse_case-kept : Reads CaseKept (rules.parse_case text m c)
    unfolding rules.parse_case
    parse_case-kept at l = search (by k.expr, by k.block, steps) depth 12

    parse_else-kept : Reads Kept (rules.parse_else text m c)
    unfolding rules.parse_else
    parse_else-kept at l = search (by k.if_cont, step {text = text} Kept, k.block, steps) depth 12

    parse_if_cont-kept : Reads Kept (rules.parse_if_cont text m c)
    unfolding rules.parse_if_cont
    parse_if_cont-kept at l =
        either (by parse_case-kept at l nothing (λ k h at₁ l₁. by (rep-gives text cases-closed _ parse_case-kept m) at₁ l₁ (unusable l₁)
        (λ ks t _. given (λ i. IfCase (cases-closed.more k h ks t i))))) (search (by k.expr, by k.block, by parse_else-kept, steps) depth 12)

    parse_loop-kept : Reads Kept (rules.parse_loop text m c)
    unfolding rules.parse_loop
    parse_loop-kept at l = search (by k.block, by-clauses, steps) depth 12

    parse_optional_exit_argument-kept : Reads (Fixed (map_option keep)) (rules.parse_optional_exit_argument text)
    unfolding rules.parse_optional_exit_argument
    parse_optional_exit_argument-kept at l = search (by marked-kept, by (name-kept K), steps) depth 8

    -- after a word
    led : (w : String) {p : Reader (Stmt Span)} → Reads Kept p → Reads Kept (rules.led text m c w p)
    led w h at l = token (keyword-placed text at l (bytes w)) nothing (λ _. h)

    parse_stmt-kept : Reads Kept (rules.parse_stmt text m c)
    unfolding rules.parse_stmt
    parse_stmt-kept at l =
        either (led "var" (parse_variable_declaration-kept true) at l)
        (either (led "val" (parse_variable_declaration-kept false) at l)
        (either (led "reinit" (λ at l. search (by (names-kept m), steps) depth 8) at l)
        (either (led "exit" (λ at l. search (by parse_optional_exit_argument-kept, steps) depth 8) at l)
        (either (led "return" (λ at. given refl) at l)
        (either (led "check" (λ at l. search (by k.expr, steps)) at l)
        (either (led "assume" (λ at l. search (by k.expr, steps)) at l)
        (either (led "reach" (λ at l. search (by k.expr, steps)) at l)
        (either (led "assert" (λ at l. search (by k.expr, steps)) at l)
        (either (led "probe" (λ at l. search (by k.expr, steps)) at l)
        (either (led "forall" (λ at l. search (by-id_type K, by k.block, steps) depth 8) at l)
        (either (k.block at l)
        (either (led "choose" (λ at l. search (by k.block, by (rep-gives text statements-closed (rules.parse_or text m c) parse_or-kept m), steps) depth 8) at l)
        (either (led "if" (λ at l. search (by parse_if_cont-kept, steps)) at l)
        (either (k.loop at l)
        (either (by (signed-kept _) at l nothing (λ n h at l. search (by k.expr, steps)))
        (either (by (signed-kept _) at l nothing (λ n h at l. search (step {text = text} Kept, k.block, k.loop, steps)))
        (by (signed-kept _) at l nothing (λ n h at l. search (by arguments-kept, steps)))))))))))))))))))

    parse_block-kept : Reads Kept (rules.parse_block text m c)
    unfolding rules.parse_block rules.rep_till
    parse_block-kept at l =
        search (step {text = text} (Fixed (map_stmts keep)), by (rep-gives text statements-closed (rules.parse_stmt text m c) parse_stmt-kept m), steps) depth 12

  -- ---- depth

  -- refusal 3 at a place before the text's end, where a token stands
  deep : {at : ℕ} → at < length text → (r : Answer ℕ) → Gives Kept text (rules.too_deep at r)
  unfolding rules.too_deep
  deep i (ok n next) = too-deep i
  deep i Answer.none = nothing
  deep i (refused number place) = too-deep i

  pub gallery-kept : (m d : ℕ) → KeptBy K.keep text (rules.gallery text m d)
  unfolding rules.gallery rules.too_deep rules.word_of rules.mark after opens_expr opens_at parse_id keyword sign starts_with identifier_length same_bytes is_digit
  gallery-kept m zero =
      record {
        expr = parse_expr-kept K m zero;
        block = λ at l. before-end at (λ e. rw e refl) (λ i. deep i _);
        stmt = λ at l.
            before-end at (λ e. rw e refl)
            (λ i. either (deep i _) (either (deep i _) (by (name-kept K) at l nothing (λ _ _ _ _. deep i _))));
        if_cont = λ at l. before-end at (λ e. rw e refl) (λ i. picked (opens_expr (drop at text)) (too-deep i) nothing);
        loop = λ at l. before-end at (λ e. rw e refl) (λ i. deep i _);
      }
  gallery-kept m (suc d) =
      record {
        expr = parse_expr-kept K m (suc d);
        block = parse_block-kept m (gallery-kept m d);
        stmt = parse_stmt-kept m (gallery-kept m d);
        if_cont = parse_if_cont-kept m (gallery-kept m d);
        loop = parse_loop-kept m (gallery-kept m d);
      }
