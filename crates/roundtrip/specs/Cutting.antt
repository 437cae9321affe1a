-- How the parts of a print are cut: blanks, names, naturals and operators, and what may stand after each.
use Rattle.std.specs.Prelude.{ℕ, zero, suc, ◌≤◌, ◌<◌, ◌≡◌, refl, Bool, true, false, ◌||◌, List, [], ◌∷◌, ◌++◌, leb, eqb, length, replicate, get_or}
use Rattle.std.proofs.Common.{ap, ◌∙◌, arith, leb-true, eqb-true}
use Rattle.lexing.specs.Bytes.{is_space, is_digit, can_start_identifier_char, identifier_char, one_of, run, bytes}
use Rattle.lexing.specs.RunLaws.{run-all, both_true}
use Rattle.lexing.specs.TokenLaws.{identifier-starts}
use Rattle.lexing.specs.Tokens.{identifier_length}
use Rattle.tree.specs.Ast.{Operator, IfThenElse, Equiv, LogicalImp, LogicalAnd, LogicalOr, Eq, Neq, Less, AtMost, Plus, Minus, Times, Div, Mod, ArgumentCount}
use Rattle.tree.specs.Ast.{LogicalNot, UnaryMinus}
use Rattle.grammar.specs.Words.{is_identifier}
use Rattle.grammar.specs.Tokens.{Token, name, nat, mark, sign, illegal, cut}
use Rattle.grammar.specs.Tokens.{'!', '-', '*', '+', '==', '!=', '<', '<=', '&&', '||', '==>', '<==>'}
use Rattle.tree.specs.Clash.{impossible}
use Rattle.grammar.proofs.Laws.Cut.{cut-space}
use Rattle.grammar.proofs.Laws.Pieces.{Ends, lengthens, cut-name, cut-nat, cut-sign}
use Rattle.layout.specs.declared.format.ExprFormatOption.{ExprFormatOption}
use Rattle.layout.specs.declared.format.ExprFormatOption.TheVariants.{SingleLine, MultipleLines}
use Rattle.layout.specs.Text.{◌▹◌, ◌▸◌, decimal}
use Rattle.layout.specs.PrintUtil.{Space, ToString}
use Rattle.roundtrip.specs.Operators.{token_of}
use Rattle.roundtrip.specs.Decimal.{digits-written}

-- ---- blanks

cut-indent : (n : ℕ) (s : List ℕ) → cut (replicate n 32 ++ s) ≡ cut s
unfolding is_space
cut-indent zero s = refl
cut-indent (suc n) s = cut-space 32 (replicate n 32 ++ s) refl ∙ cut-indent n s

-- a format's space is passed over
pub cut-blank : (f : ExprFormatOption) (s : List ℕ) → cut (Space f ▹ s) ≡ cut s
unfolding is_space
cut-blank SingleLine s = cut-space 32 s refl
cut-blank (MultipleLines indent) s = cut-space 10 (replicate indent 32 ++ s) refl ∙ cut-indent indent s

-- ---- what may follow

-- no byte stands there that would make the token another one
abbrev pub Follows : Token → List ℕ → Type 0
Follows (name w) s = Ends identifier_char s
Follows (nat n) s = Ends is_digit s
Follows (mark k) s = Unit {0}
Follows (sign g) s = Ends lengthens s
Follows illegal s = Unit {0}

-- a format's space follows every token
pub blank-follows : (o : Token) (f : ExprFormatOption) (s : List ℕ) → Follows o (Space f ▹ s)
unfolding identifier_char lengthens
blank-follows (name w) SingleLine s = refl
blank-follows (name w) (MultipleLines indent) s = refl
blank-follows (nat n) SingleLine s = refl
blank-follows (nat n) (MultipleLines indent) s = refl
blank-follows (mark k) f s = tt
blank-follows (sign g) SingleLine s = refl
blank-follows (sign g) (MultipleLines indent) s = refl
blank-follows illegal f s = tt

-- ---- tokens

-- an operator is cut as its token
pub cut-operator : (op : Operator) (s : List ℕ) → (ArgumentCount op ≡ 3 → ⊥) → Follows (token_of op) s → cut (ToString op ▸ s) ≡ token_of op ∷ cut s
unfolding is_identifier identifier_length can_start_identifier_char identifier_char is_digit run
cut-operator IfThenElse s n h = absurd (n refl)
cut-operator Equiv s n h = cut-sign '<==>' s h
cut-operator LogicalImp s n h = cut-sign '==>' s h
cut-operator LogicalAnd s n h = cut-sign '&&' s h
cut-operator LogicalOr s n h = cut-sign '||' s h
cut-operator Eq s n h = cut-sign '==' s h
cut-operator Neq s n h = cut-sign '!=' s h
cut-operator Less s n h = cut-sign '<' s h
cut-operator AtMost s n h = cut-sign '<=' s h
cut-operator Plus s n h = cut-sign '+' s h
cut-operator Minus s n h = cut-sign '-' s h
cut-operator Times s n h = cut-sign '*' s h
cut-operator Div s n h = cut-name (bytes "div") s refl h
cut-operator Mod s n h = cut-name (bytes "mod") s refl h
cut-operator LogicalNot s n h = cut-sign '!' s h
cut-operator UnaryMinus s n h = cut-sign '-' s h

-- a byte of an identifier lengthens no sign
no-lengthening : (b : ℕ) → identifier_char b ≡ true → lengthens b ≡ false
unfolding lengthens identifier_char
no-lengthening b h = by_tests (eqb 61 b) (eqb 62 b) refl refl
  where
    by_tests : (x y : Bool) → eqb 61 b ≡ x → eqb 62 b ≡ y → (x || y) ≡ false
    by_tests true y p q = let e : 61 ≡ b = eqb-true 61 b p in impossible (cc (ap identifier_char e))
    by_tests false true p q = let e : 62 ≡ b = eqb-true 62 b q in impossible (cc (ap identifier_char e))
    by_tests false false p q = refl

-- a text that begins with such a byte lengthens no sign
starts : (w s : List ℕ) → 0 < length w → identifier_char (get_or w 0 0) ≡ true → Ends lengthens (w ++ s)
starts [] s z h = absurd (omega arith)
starts (b ∷ w) s z h = no-lengthening b h

start-char : (b : ℕ) → can_start_identifier_char b ≡ true → identifier_char b ≡ true
unfolding identifier_char
start-char b h = rw h refl

digit_char : (b : ℕ) → is_digit b ≡ true → identifier_char b ≡ true
unfolding identifier_char
digit_char b h = by-letter (can_start_identifier_char b)
  where
    by-letter : (x : Bool) → (x || is_digit b || one_of (95 ∷ 36 ∷ 46 ∷ []) b) ≡ true
    by-letter true = refl
    by-letter false = rw h refl

-- what ends a name ends a natural
pub digits-end : (s : List ℕ) → Ends identifier_char s → Ends is_digit s
digits-end [] h = tt
digits-end (b ∷ s) h = by-digit (is_digit b) refl
  where
    by-digit : (x : Bool) → is_digit b ≡ x → is_digit b ≡ false
    by-digit true e = let i : identifier_char b ≡ true = digit_char b e in impossible (cc)
    by-digit false e = e

identifier-size : (w : List ℕ) → is_identifier w ≡ true → (0 < length w) × (0 < identifier_length w)
unfolding is_identifier
identifier-size w h =
    let (a, b) = both_true (leb 1 (length w)) (eqb (identifier_length w) (length w)) h in
    let n : 1 ≤ length w = leb-true 1 (length w) a in
    let e : identifier_length w ≡ length w = eqb-true (identifier_length w) (length w) b in
    (n, omega arith)

-- a name and a natural begin with no byte that lengthens a sign
pub name-starts : (w s : List ℕ) → is_identifier w ≡ true → Ends lengthens (w ++ s)
name-starts w s h = let (n, i) = identifier-size w h in starts w s n (start-char (get_or w 0 0) (identifier-starts w i))

pub natural-starts : (n : ℕ) (s : List ℕ) → Ends lengthens (decimal n s)
natural-starts n s =
    let w = digits-written (suc n) n (omega arith) in
    let i : 0 < run is_digit w.text = omega (arith, w.stands.some, w.stands.all) in
    rw (w.written s) (starts w.text s w.stands.some (digit_char (get_or w.text 0 0) (run-all is_digit w.text 0 i)))

-- a natural's print is cut as that natural
pub cut-natural : (n : ℕ) (s : List ℕ) → Ends identifier_char s → cut (decimal n s) ≡ nat n ∷ cut s
cut-natural n s h =
    let w = digits-written (suc n) n (omega arith) in
    rw (w.written s) (cut-nat w.text s w.stands.some w.stands.all (digits-end s h) ∙ ap (λ m. nat m ∷ cut s) w.stands.value)
