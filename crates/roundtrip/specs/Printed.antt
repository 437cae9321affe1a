-- What is proved of each print, whatever the format: it is cut into the same tokens, and they have a derivation with its tree. The laws here
-- make this of a print from the same of its parts.
use Rattle.std.specs.Prelude.{ℕ, zero, suc, ◌≤◌, ◌<◌, ◌≡◌, refl, Bool, true, false, List, [], ◌∷◌, ◌++◌}
use Rattle.std.proofs.Common.{sym, ap, ◌∙◌, append_assoc, arith}
use Rattle.lexing.specs.Answer.{pick}
use Rattle.lexing.specs.Bytes.{is_space, can_start_identifier_char, identifier_char, run, bytes}
use Rattle.lexing.specs.Tokens.{identifier_length}
use Rattle.tree.specs.Ast.{ILiteral, IdExpr}
use Rattle.grammar.specs.Words.{is_identifier}
use Rattle.grammar.specs.Tokens.{Token, name, nat, mark, lparen, rparen, cut}
use Rattle.grammar.specs.Grammar.{Tree, Rule, word, Operand, natural, old_variable, bracketed, Whole}
use Rattle.grammar.proofs.Laws.Cut.{cut-space}
use Rattle.grammar.proofs.Laws.Pieces.{Ends, lengthens, cut-name, cut-mark}
use Rattle.layout.specs.declared.power.Side.TheVariants.{Left, Right}
use Rattle.layout.specs.declared.format.ExprFormatOption.{ExprFormatOption}
use Rattle.layout.specs.Text.{◌▹◌, ◌▸◌, decimal}
use Rattle.layout.specs.PrintUtil.{parenthesis}
use Rattle.roundtrip.specs.Levels.{Level, operand, At, fits_in_lem, fits_whole}
use Rattle.roundtrip.specs.Cutting.{name-starts, natural-starts, cut-natural}

-- A text that a print writes before a rest, in a format: cut into `tokens`, which are derived at a level over expressions of depth n.
pub record Printed (text : ExprFormatOption → List ℕ → List ℕ) (n : ℕ) (l : Level) (t : Tree) : Type 0 where
  pub tokens : List Token
  pub cuts : (f : ExprFormatOption) (rest : List ℕ) → Ends identifier_char rest → cut (text f rest) ≡ tokens ++ cut rest
  pub begins : (f : ExprFormatOption) (rest : List ℕ) → Ends lengthens (text f rest)
  pub derives : (d : ℕ) → n ≤ d → At l (Whole d) tokens t

-- the tokens as a whole expression
pub whole-printed : {text : ExprFormatOption → List ℕ → List ℕ} {n : ℕ} {l : Level} {t : Tree} (p : Printed text n l t) (d : ℕ) → n < d
    → Whole d p.tokens t
unfolding Whole
whole-printed p zero h = absurd (omega arith)
whole-printed {l} p (suc d) h = (fits_in_lem (fits_whole l) (p.derives d (omega arith))).derived

-- ---- operands

-- a word that is an operand
pub word-printed : (w : List ℕ) {t : Tree} → is_identifier w ≡ true → ((E : Rule) → Operand E (name w ∷ []) t) → Printed (λ f r. w ++ r) 0 operand t
word-printed w i x =
    record {
      tokens = name w ∷ [];
      cuts = λ f r h. cut-name w r i h;
      begins = λ f r. name-starts w r i;
      derives = λ d h. record { derived = x (Whole d) };
    }

-- a natural
pub natural-printed : (n : ℕ) → Printed (λ f r. decimal n r) 0 operand (ILiteral n)
natural-printed n =
    record {
      tokens = nat n ∷ [];
      cuts = λ f r h. cut-natural n r h;
      begins = λ f r. natural-starts n r;
      derives = λ d h. record { derived = natural };
    }

-- a name after `old`
pub old-printed : (w : List ℕ) → is_identifier w ≡ true → Printed (λ f r. "old " ▸ w ▹ r) 0 operand (IdExpr w true)
unfolding is_space is_identifier identifier_length can_start_identifier_char identifier_char run lengthens
old-printed w i =
    record {
      tokens = word "old" ∷ name w ∷ [];
      cuts = λ f r h. cut-name (bytes "old") (32 ∷ w ++ r) refl refl ∙ ap (λ l. word "old" ∷ l) (cut-space 32 (w ++ r) refl ∙ cut-name w r i h);
      begins = λ f r. refl;
      derives = λ d h. record { derived = old_variable };
    }

-- ---- brackets

-- an expression in brackets
pub brackets-printed : {text : ExprFormatOption → List ℕ → List ℕ} {n : ℕ} {l : Level} {t : Tree} → Printed text n l t
    → Printed (λ f r. 40 ∷ text f (41 ∷ r)) (suc n) operand t
unfolding identifier_char lengthens
brackets-printed {text} p =
    record {
      tokens = mark lparen ∷ p.tokens ++ mark rparen ∷ [];
      cuts = λ f r h.
          cut-mark lparen (text f (41 ∷ r))
          ∙ ap (λ l. mark lparen ∷ l)
          (p.cuts f (41 ∷ r) refl ∙ ap (λ l. p.tokens ++ l) (cut-mark rparen r) ∙ sym (append_assoc p.tokens (mark rparen ∷ []) (cut r)));
      begins = λ f r. refl;
      derives = λ d h. record { derived = bracketed (whole-printed p d h) };
    }

-- brackets where an operator does not win
pub wrapped-printed : {text : ExprFormatOption → List ℕ → List ℕ} {n : ℕ} {l : Level} {t : Tree} (wins : Bool) → Printed text n l t
    → Printed (λ f r. parenthesis wins Left ▹ text f (parenthesis wins Right ▹ r)) (pick wins n (suc n)) (pick wins l operand) t
wrapped-printed true p = p
wrapped-printed false p = brackets-printed p
