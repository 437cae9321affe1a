-- The print of a call, from its arguments' prints.
use Rattle.std.specs.Prelude.{ℕ, suc, max, ◌≤◌, ◌≡◌, refl, true, List, [], ◌∷◌, ◌++◌}
use Rattle.std.proofs.Common.{sym, ap, ◌∙◌, append_assoc, append-nil, arith}
use Rattle.lexing.specs.Bytes.{is_space, identifier_char, bytes}
use Rattle.tree.specs.Ast.{FunctionCallExpr, Exprs, no_exprs, ◌then◌}
use Rattle.grammar.specs.Words.{is_name, is_identifier}
use Rattle.grammar.specs.Tokens.{Token, name, mark, lparen, rparen, comma, cut}
use Rattle.grammar.specs.Grammar.{Tree, Series, last, also, Items, empty, series, call, Whole}
use Rattle.grammar.proofs.Laws.Cut.{cut-space}
use Rattle.grammar.proofs.Laws.Pieces.{Ends, cut-name, cut-mark}
use Rattle.layout.specs.declared.format.ExprFormatOption.TheVariants.{SingleLine}
use Rattle.layout.specs.Text.{◌▹◌, ◌▸◌}
use Rattle.layout.specs.PrintUtil.{Init}
use Rattle.layout.specs.Printer.{Operand, ExpressionList}
use Rattle.roundtrip.specs.Levels.{Level, operand}
use Rattle.roundtrip.specs.Cutting.{name-starts}
use Rattle.roundtrip.specs.Printed.{Printed, whole-printed}

-- the arguments after the first one
pub record PrintedRest (items : List Operand) (n : ℕ) (es : Exprs (List ℕ)) : Type 0 where
  pub tokens : List Token
  pub cuts : (r : List ℕ) → Ends identifier_char r → cut (ExpressionList (bytes ", ") items r) ≡ tokens ++ cut r
  pub ends : (r : List ℕ) → Ends identifier_char r → Ends identifier_char (ExpressionList (bytes ", ") items r)
  pub derives : (d : ℕ) → n ≤ d → (ts : List Token) (t : Tree) → Whole d ts t → Series (Whole d) (ts ++ tokens) (◌then◌ t es)

-- all of them
pub record PrintedItems (items : List Operand) (n : ℕ) (es : Exprs (List ℕ)) : Type 0 where
  pub tokens : List Token
  pub cuts : (r : List ℕ) → Ends identifier_char r → cut (ExpressionList [] items r) ≡ tokens ++ cut r
  pub derives : (d : ℕ) → n ≤ d → Items (Whole d) tokens es

-- no further arguments
pub no-rest : PrintedRest [] 0 no_exprs
unfolding ExpressionList
no-rest =
    record {
      tokens = [];
      cuts = λ r h. refl;
      ends = λ r h. h;
      derives = λ d h ts t x. rw (append-nil ts) (last x);
    }

-- an argument and those after it
pub more-rest : (a : Operand) (items : List Operand) {n m : ℕ} {l : Level} {t : Tree} {es : Exprs (List ℕ)} → Printed (a.print Init) n l t
    → PrintedRest items m es → PrintedRest (a ∷ items) (max (suc n) m) (◌then◌ t es)
unfolding ExpressionList is_space identifier_char
more-rest a items p q =
    record {
      tokens = mark comma ∷ p.tokens ++ q.tokens;
      cuts = λ r h.
          let next = ExpressionList (bytes ", ") items r in
          cut-mark comma (32 ∷ a.print Init SingleLine next)
          ∙ ap (λ l. mark comma ∷ l)
          (cut-space 32 (a.print Init SingleLine next) refl
          ∙ p.cuts SingleLine next (q.ends r h)
          ∙ ap (λ l. p.tokens ++ l) (q.cuts r h)
          ∙ sym (append_assoc p.tokens q.tokens (cut r)));
      ends = λ r h. refl;
      derives = λ d h ts t x. also x (q.derives d (omega arith) _ _ (whole-printed p d (omega arith)));
    }

-- no arguments
pub no_items : PrintedItems [] 0 no_exprs
unfolding ExpressionList
no_items = record { tokens = []; cuts = λ r h. refl; derives = λ d h. empty }

-- the first argument and the others
pub more-items : (a : Operand) (items : List Operand) {n m : ℕ} {l : Level} {t : Tree} {es : Exprs (List ℕ)} → Printed (a.print Init) n l t
    → PrintedRest items m es → PrintedItems (a ∷ items) (max (suc n) m) (◌then◌ t es)
unfolding ExpressionList
more-items a items p q =
    record {
      tokens = p.tokens ++ q.tokens;
      cuts = λ r h.
          p.cuts SingleLine (ExpressionList (bytes ", ") items r) (q.ends r h)
          ∙ ap (λ l. p.tokens ++ l) (q.cuts r h)
          ∙ sym (append_assoc p.tokens q.tokens (cut r));
      derives = λ d h. series (q.derives d (omega arith) _ _ (whole-printed p d (omega arith)));
    }

-- a call
pub call-printed : (w : List ℕ) (items : List Operand) {n : ℕ} {es : Exprs (List ℕ)} → is_identifier w ≡ true → is_name w ≡ true → PrintedItems items n es
    → Printed (λ f r. w ▹ "(" ▸ ExpressionList [] items (")" ▸ r)) n operand (FunctionCallExpr w es)
unfolding identifier_char
call-printed w items i k p =
    record {
      tokens = name w ∷ mark lparen ∷ p.tokens ++ mark rparen ∷ [];
      cuts = λ f r h.
          cut-name w ("(" ▸ ExpressionList [] items (")" ▸ r)) i refl
          ∙ ap (λ l. name w ∷ l)
          (cut-mark lparen (ExpressionList [] items (")" ▸ r))
          ∙ ap (λ l. mark lparen ∷ l)
          (p.cuts (")" ▸ r) refl ∙ ap (λ l. p.tokens ++ l) (cut-mark rparen r) ∙ sym (append_assoc p.tokens (mark rparen ∷ []) (cut r))));
      begins = λ f r. name-starts w ("(" ▸ ExpressionList [] items (")" ▸ r)) i;
      derives = λ d h. record { derived = call k (p.derives d h) };
    }
