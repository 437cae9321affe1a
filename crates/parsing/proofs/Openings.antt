-- The first token of an expression, where a parser stands; and the words of parameters.
use Rattle.std.proofs.Common.{ℕ, zero, suc, ◌+◌, ◌-◌, ◌<◌, ◌≡◌, ◌∙◌, refl, sym, Bool, true, false, Option, Some, None, drop, get_or, arith, get_or-drop}
use borrow.Author.Tests.{lt-ltb, le-ltb}
use Rattle.std.specs.Option.{is_some}
use Rattle.tree.specs.Clash.{impossible}
use Rattle.lexing.specs.Answer.{refused, level_too_deep}
use Rattle.lexing.specs.Tokens.{identifier_length}
use Rattle.tree.specs.Ast.{Span, Binding, binding, ParameterMode}
use Rattle.tree.specs.Words.{bool_word, mode_word, f_parameter_words}
use Rattle.grammar.specs.Rules.{opens_at, opens_expr, parse_expr, parse_equiv_expr}
use Rattle.grammar.specs.Declarations.{formal, moded}
use Rattle.parsing.specs.Code.{inner, turning, marked_words, moded_words}
use Rattle.parsing.specs.Contract.{Ahead, Missing, same}
use Rattle.parsing.specs.declared.parser.Parser.{Parser}

module _ (p : Parser) where
  pub opens-word : (o : Option ℕ) {r : Bool} → Ahead p o → r ≡ is_some o → r ≡ true → r ≡ opens_expr (drop p.at p.text.now)
  unfolding opens_expr
  opens-word (Some n) s e h = rw (lt-ltb 0 (identifier_length (drop p.at p.text.now)) (omega (arith, s.measured, s.filled))) h
  opens-word None s e h = impossible cc

  byte : (i : ℕ) {b : ℕ} → b ≡ get_or p.text.now (p.at + i) 0 → b ≡ get_or (drop p.at p.text.now) i 0
  byte i e = e ∙ sym (get_or-drop p.at p.text.now i 0)

  pub opens-byte : (o : Option ℕ) {a b : ℕ} {t r : Bool} → Ahead p o → t ≡ is_some o → t ≡ false → a ≡ get_or p.text.now (p.at + 0) 0 → b ≡ get_or p.text.now (p.at + 1) 0 → r ≡ opens_at a b
      → r ≡ opens_expr (drop p.at p.text.now)
  unfolding opens_expr
  opens-byte (Some n) s f h i j e = impossible cc
  opens-byte None s f h i j e = rw (le-ltb 0 (identifier_length (drop p.at p.text.now)) (omega (arith, s))) (rw (byte 0 i, byte 1 j) at e)

  -- where no level is left
  pub deep-opens : opens_expr (drop p.at p.text.now) ≡ true → inner 0 p.text.now p.at ≡ refused level_too_deep p.at
  unfolding parse_expr
  deep-opens h = rw h refl

  pub deep-stops : opens_expr (drop p.at p.text.now) ≡ false → Missing (inner 0) p p
  unfolding parse_expr
  deep-stops h = record { says = rw h refl; same = refl }

-- one level is opened
pub level-opens : (depth : ℕ) → 0 < depth → inner depth ≡ turning parse_equiv_expr (depth - 1)
unfolding parse_expr
level-opens zero h = absurd (omega arith)
level-opens (suc depth) h = let e : suc depth - 1 ≡ depth = omega arith in rw e refl

-- the words of a name, of a word and of a type are those of a parameter
pub formal-words : (injective : Bool) (b : Binding Span) → marked_words (bool_word injective) b ≡ f_parameter_words same (formal injective b)
formal-words injective (binding n t) = refl

pub mode-words : (mode : ParameterMode) (b : Binding Span) → marked_words (mode_word mode) b ≡ moded_words (moded mode b)
mode-words mode (binding n t) = refl
