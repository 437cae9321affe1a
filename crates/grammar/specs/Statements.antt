-- The reading rules of statements, in Parser.dfy's order and under its names (REFERENCE, "The reading rules"). `c` holds the rules that a
-- rule opens: "expr" of `exprGallery` and the four of `stmtGallery`, each with the levels that are left. m bounds the turns of each repetition.
use Prim.Native.Nat.{ℕ, zero, suc}
use Prim.Native.String.{String}
use Rattle.std.specs.Prelude.{Bool, true, false, List, [], ◌∷◌, drop}
use Rattle.std.proofs.Math.Option.{Option, none, some}
use Rattle.lexing.specs.Answer.{Answer, ok, refused, pick, level_too_deep}
use Rattle.tree.specs.Ast.{Span, Binding, binding, Expr, IdExpr, CallArgument, ParameterMode, In, InOut, Out}
use Rattle.tree.specs.Ast.{Stmt, VarDecl, Assign, Reinit, Block, Call, Check, Assume, Reach, Assert, AForall, Choose, If, IfCase, Loop, LabeledStmt, Exit, Return, Probe}
use Rattle.tree.specs.Ast.{Stmts, no_stmts, stmts, Cases, no_cases, case, AExpr, a_expr, AAssertion, AExprs, no_a_exprs, a_exprs}
use Rattle.lexing.specs.Bytes.{bytes}
use Rattle.grammar.specs.Steps.{Reader, after, need, must, ◌or◌, mapped, T, Sym, keyword_at, parse_name}
use Rattle.grammar.specs.Rules.{Sequence, opens_expr, parse_expr, parse_id_type, parse_optional_type, parse_nonempty_comma_delimited_seq, parse_listed}

-- ---- repetition

-- `.Rep()`: items until one keeps nothing
unfoldable pub rep : {A L : Type 0} → Sequence A L → ℕ → Reader A → Reader L
rep q zero item at = ok q.nil at
rep q (suc k) item at = after (item at) (ok q.nil at) (λ a at₁. mapped (q.cons a) (rep q k item at₁))

-- `RepTill`: items until one keeps nothing, and what must follow them
unfoldable pub rep_till : {A L U : Type 0} → Sequence A L → ℕ → Reader A → Reader U → Reader L
unfolding rep
rep_till q k item till at = need at (rep q k item at) (λ l at₁. need at₁ (till at₁) (λ _ at₂. ok l at₂))

-- ---- sequences

abbrev pub names : Sequence Span (List Span)
names = record { nil = []; cons = ◌∷◌ }

abbrev pub arguments : Sequence (CallArgument Span) (List (CallArgument Span))
arguments = record { nil = []; cons = ◌∷◌ }

abbrev pub statements : Sequence (Stmt Span) (Stmts Span)
statements = record { nil = no_stmts; cons = stmts }

-- a case: condition and body
abbrev pub cases : Sequence (Expr Span × Stmt Span) (Cases Span)
cases = record { nil = no_cases; cons = λ k l. case k.0 k.1 l }

abbrev pub aexprs : Sequence (AExpr Span) (AExprs Span)
aexprs = record { nil = no_a_exprs; cons = a_exprs }

-- the rules that a statement opens
pub record Gallery : Type 0 where
  pub expr : Reader (Expr Span)
  pub block : Reader (Stmt Span)
  pub stmt : Reader (Stmt Span)
  pub if_cont : Reader (Stmt Span)
  pub loop : Reader (Stmt Span)

abbrev S : Type 0
S = Stmt Span

abbrev E : Type 0
E = Expr Span

-- a statement for all values of a type
abbrev pub over_type : Binding Span → S → S
over_type (binding n t) s = AForall n t s

-- the words that begin a statement that holds no statement, and those that begin a statement
abbrev pub simple_words : List String
simple_words = "reinit" ∷ "exit" ∷ "return" ∷ "check" ∷ "assume" ∷ "reach" ∷ "assert" ∷ "probe" ∷ []

abbrev pub statement_words : List String
statement_words = "var" ∷ "val" ∷ "forall" ∷ "choose" ∷ "if" ∷ "loop" ∷ simple_words

-- refusal 3 at a place where a token stands, though the blanks after it be refused
unfoldable pub too_deep : {A B : Type 0} → ℕ → Answer A → Answer B
too_deep at (ok a next) = refused level_too_deep at
too_deep at Answer.none = Answer.none
too_deep at (refused number place) = refused level_too_deep at

module _ (text : List ℕ) where
  -- ---- a name and its mark

  -- `Atomic(parseId.I_e(..))`: a name that the step follows; where the step keeps nothing, the name is given back
  unfoldable pub atomic : Reader ℕ → Reader Span
  atomic mark at = after (parse_name text at) Answer.none (λ n at₁. mapped (λ _. n) (mark at₁))

  -- `Or([Sym(":="), Sym(":"), Sym("(")])`
  unfoldable pub mark : Reader ℕ
  mark at = Sym text ":=" at or Sym text ":" at or Sym text "(" at

  -- `Lookahead(parseId.I_e(..))`: where a name with a mark follows, there is no label
  unfoldable pub parse_optional_exit_argument : Reader (Option Span)
  unfolding atomic mark
  parse_optional_exit_argument at =
      after (atomic mark at) (after (parse_name text at) (ok none at) (λ n at₁. ok (some n) at₁)) (λ _ _. ok none at)

  module _ (m : ℕ) where
    module _ (c : Gallery) where
      -- an expression that must follow, made into something
      abbrev pub the_expr : {A : Type 0} → (E → A) → Reader A
      the_expr f at = must at (mapped f (c.expr at))

      -- a block that must follow
      abbrev pub the_block : {A : Type 0} → (S → A) → Reader A
      the_block f at = must at (mapped f (c.block at))

      -- `T(w).e_I(expr).Option()`
      unfoldable pub parse_optional_auto_invariant : Reader (Option E)
      parse_optional_auto_invariant at = after (T text "autoinv" at) (ok none at) (λ _ at₁. the_expr some at₁)

      unfoldable pub parse_call_argument : Reader (CallArgument Span)
      parse_call_argument at =
          after (T text "out" at) Answer.none (λ _ at₁. by_name Out at₁)
          or after (T text "inout" at) Answer.none (λ _ at₁. by_name InOut at₁)
          or mapped (λ e. record { mode = In; arg = e }) (c.expr at)
        where
          by_name : ParameterMode → Reader (CallArgument Span)
          by_name d at = must at (mapped (λ n. record { mode = d; arg = IdExpr n false }) (parse_name text at))

      -- `parseAExpr`
      unfoldable pub parse_a_expr : List ℕ → Reader (AExpr Span)
      parse_a_expr w at =
          after (keyword_at text w at) Answer.none
          (λ _ at₁. must at₁ (mapped AAssertion (c.block at₁) or mapped a_expr (c.expr at₁)))

      unfoldable pub parse_a_expr_seq : List ℕ → Reader (AExprs Span)
      unfolding parse_a_expr rep
      parse_a_expr_seq w at = rep aexprs m (parse_a_expr w) at

      -- ---- parseStmt

      unfoldable pub parse_init : Reader (Option E)
      parse_init at = after (Sym text ":=" at) (ok none at) (λ _ at₁. the_expr some at₁)

      -- after `var` or `val`: the statements after the declaration are its body
      unfoldable pub parse_variable_declaration : Bool → Reader S
      unfolding parse_optional_auto_invariant parse_init rep
      parse_variable_declaration is_mutable at =
          need at (parse_name text at)
          (λ n at₁. need at₁ (parse_optional_type text at₁)
          (λ t at₂. need at₂ (parse_optional_auto_invariant at₂)
          (λ i at₃. need at₃ (parse_init at₃)
          (λ init at₄. need at₄ (rep statements m c.stmt at₄)
          (λ ss at₅. ok (VarDecl (record { name = n; is_mutable = is_mutable; optional_type = t; optional_auto_inv = i }) init (Block ss)) at₅)))))

      unfoldable pub after_forall : Reader S
      after_forall at = need at (parse_id_type text at) (λ b at₁. the_block (over_type b) at₁)

      -- `T("or").e_I(c("block"))`
      unfoldable pub parse_or : Reader S
      parse_or at = after (T text "or" at) Answer.none (λ _ at₁. the_block (λ s. s) at₁)

      unfoldable pub after_choose : Reader S
      unfolding parse_or rep
      after_choose at = need at (c.block at) (λ s at₁. need at₁ (rep statements m parse_or at₁) (λ ss at₂. ok (Choose (stmts s ss)) at₂))

      -- a condition and a body
      unfoldable pub parse_case : Reader (E × S)
      parse_case at = after (T text "case" at) Answer.none (λ _ at₁. need at₁ (c.expr at₁) (λ e at₂. the_block (λ s. (e, s)) at₂))

      -- `T("else").e_I(..)`, or the empty block
      unfoldable pub parse_else : Reader S
      parse_else at =
          after (T text "else" at) (ok (Block no_stmts) at)
          (λ _ at₁. must at₁ (after (T text "if" at₁) Answer.none (λ _ at₂. must at₂ (c.if_cont at₂)) or c.block at₁))

      unfoldable pub parse_if_cont : Reader S
      unfolding parse_case parse_else rep
      parse_if_cont at =
          after (parse_case at) Answer.none (λ k at₁. need at₁ (rep cases m parse_case at₁) (λ ks at₂. ok (IfCase (cases.cons k ks)) at₂))
          or after (c.expr at) Answer.none
          (λ e at₁. need at₁ (c.block at₁) (λ thn at₂. need at₂ (parse_else at₂) (λ els at₃. ok (If e thn els) at₃)))

      unfoldable pub parse_loop : Reader S
      unfolding parse_a_expr_seq
      parse_loop at =
          after (T text "loop" at) Answer.none
          (λ _ at₁. need at₁ (parse_a_expr_seq (bytes "invariant") at₁) (λ is at₂. the_block (Loop is) at₂))

      -- after a name and `:=`, `:` or `(`
      unfoldable pub after_assign : Span → Reader S
      after_assign n at = the_expr (Assign n) at

      unfoldable pub after_label : Span → Reader S
      after_label n at = must at (mapped (LabeledStmt n) (c.block at or c.loop at))

      unfoldable pub after_call : Span → Reader S
      unfolding parse_call_argument
      after_call n at = must at (mapped (Call n) (parse_listed text m arguments parse_call_argument (bytes ")") at))

      abbrev pub led : String → Reader S → Reader S
      led w p at = after (T text w at) Answer.none (λ _ at₁. p at₁)

      unfoldable pub parse_stmt : Reader S
      unfolding parse_variable_declaration parse_optional_exit_argument after_forall after_choose parse_if_cont after_assign after_label after_call atomic
      parse_stmt at =
          led "var" (parse_variable_declaration true) at
          or led "val" (parse_variable_declaration false) at
          or led "reinit" (λ at₁. must at₁ (mapped Reinit (parse_nonempty_comma_delimited_seq text m names (parse_name text) at₁))) at
          or led "exit" (λ at₁. must at₁ (mapped Exit (parse_optional_exit_argument at₁))) at
          or led "return" (λ at₁. ok Return at₁) at
          or led "check" (the_expr Check) at
          or led "assume" (the_expr Assume) at
          or led "reach" (the_expr Reach) at
          or led "assert" (the_expr Assert) at
          or led "probe" (the_expr Probe) at
          or led "forall" after_forall at
          or c.block at
          or led "choose" after_choose at
          or led "if" (λ at₁. must at₁ (parse_if_cont at₁)) at
          or c.loop at
          or after (atomic (Sym text ":=") at) Answer.none (λ n at₁. after_assign n at₁)
          or after (atomic (Sym text ":") at) Answer.none (λ n at₁. after_label n at₁)
          or after (atomic (Sym text "(") at) Answer.none (λ n at₁. after_call n at₁)

      -- "block" of `stmtGallery`
      unfoldable pub parse_block : Reader S
      unfolding parse_stmt rep_till
      parse_block at = after (Sym text "{" at) Answer.none (λ _ at₁. must at₁ (mapped Block (rep_till statements m parse_stmt (Sym text "}") at₁)))

  -- ---- depth

  -- one of the words
  unfoldable pub word_of : List String → Reader ℕ
  word_of [] at = Answer.none
  word_of (w ∷ ws) at = T text w at or word_of ws at

  -- the rules with d levels left: where none is left, refusal 3 at the rule's first token (Claims, `depth-kept`), of a statement that a name leads at
  -- the name, where its mark follows. No text reaches "if-cont" there, as a condition and a block with no level left come before it.
  unfoldable pub gallery : ℕ → ℕ → Gallery
  unfolding too_deep word_of mark parse_block parse_stmt parse_if_cont parse_loop
  gallery m zero =
      record {
        expr = parse_expr text m zero;
        block = λ at. too_deep at (Sym text "{" at);
        stmt = λ at. too_deep at (Sym text "{" at) or too_deep at (word_of statement_words at) or after (parse_name text at) Answer.none (λ _ at₁. too_deep at (mark at₁));
        if_cont = λ at. pick (opens_expr (drop at text)) (refused level_too_deep at) Answer.none;
        loop = λ at. too_deep at (T text "loop" at);
      }
  gallery m (suc d) =
      record {
        expr = parse_expr text m (suc d);
        block = parse_block m (gallery m d);
        stmt = parse_stmt m (gallery m d);
        if_cont = parse_if_cont m (gallery m d);
        loop = parse_loop m (gallery m d);
      }
