-- Where a step must follow and does not: refusal 2 at the first token that cannot be used, or 13 at the text's end (REFERENCE, "Choice and repetition"),
-- by computation. Each step that a rule must take stands here, at a place that no other place before it has. A keyword with nothing after it is no name.
use Rattle.std.specs.Prelude.{ℕ, ◌≡◌, refl, List, [], ◌∷◌, map, replicate}
use Prim.Native.String.{String}
use Rattle.lexing.specs.Bytes.{bytes}
use Rattle.grammar.specs.Reading.{Outcome, words, refusal, read_expression, read_program}
use Rattle.grammar.specs.ProgramExamples.{computed}

infixl 70 ◌stops◌ ◌ends◌
-- a text, and the place where it is refused: that of a token, or the text's end
pub data Row : Type 0 where
  ◌stops◌ : String → ℕ → Row
  ◌ends◌ : String → ℕ → Row

-- at its place by a number
abbrev pub refused_by : ℕ → Row → Outcome
refused_by number (◌stops◌ s place) = refusal number place []
refused_by number (◌ends◌ s place) = refusal number place []

-- by the number of its kind
abbrev expected : Row → Outcome
expected (◌stops◌ s place) = refusal 2 place []
expected (◌ends◌ s place) = refusal 13 place []

-- what the two readings answer with a table of no words
abbrev pub expression_of : Row → Outcome
expression_of (◌stops◌ s place) = read_expression (bytes s) 0
expression_of (◌ends◌ s place) = read_expression (bytes s) 0

abbrev pub program_of : Row → Outcome
program_of (◌stops◌ s place) = read_program (bytes s) 0
program_of (◌ends◌ s place) = read_program (bytes s) 0

-- ---- expressions

-- operators, operands, brackets and calls
abbrev operator_rows : List Row
operator_rows =
    "" ends 0
    ∷ "  )" stops 2
    ∷ "a b" stops 2
    ∷ "a + )" stops 4
    ∷ "a * )" stops 4
    ∷ "a < )" stops 4
    ∷ "a && )" stops 5
    ∷ "a || )" stops 5
    ∷ "a ==> )" stops 6
    ∷ "a ==> b ==> )" stops 12
    ∷ "a <== )" stops 6
    ∷ "a <==> )" stops 7
    ∷ "- )" stops 2
    ∷ "! - )" stops 4
    ∷ "( )" stops 2
    ∷ "(a b" stops 3
    ∷ "old" ends 3
    ∷ "old 5" stops 4
    ∷ "l : )" stops 4
    ∷ "f(]" stops 2
    ∷ "f(a b)" stops 4
    ∷ "f(a, )" stops 5
    ∷ "| :t|" stops 2
    ∷ "|s :t|" stops 2
    ∷ "|s: 5|" stops 4
    ∷ "|s:t b" stops 5
    ∷ []

operator-places : map expression_of operator_rows ≡ map expected operator_rows
unfolding computed
operator-places = refl

-- conditionals, `val` and quantifiers
abbrev form_rows : List Row
form_rows =
    "if" ends 2
    ∷ "if )" stops 3
    ∷ "if a )" stops 5
    ∷ "if a b c" stops 7
    ∷ "if a b else )" stops 12
    ∷ "val" ends 3
    ∷ "val 5" stops 4
    ∷ "val x a" stops 6
    ∷ "val x : 5" stops 8
    ∷ "val x : t a" stops 10
    ∷ "val x := )" stops 9
    ∷ "val x := a )" stops 11
    ∷ "forall" ends 6
    ∷ "exists" ends 6
    ∷ "forall 5" stops 7
    ∷ "exists 5" stops 7
    ∷ "forall x t" stops 9
    ∷ "forall x : 5" stops 11
    ∷ "forall x : t, 5" stops 14
    ∷ "forall x : t )" stops 13
    ∷ "forall x : t pattern )" stops 21
    ∷ "forall x : t pattern a, )" stops 24
    ∷ "forall x : t pattern a )" stops 23
    ∷ []

form-places : map expression_of form_rows ≡ map expected form_rows
unfolding computed
form-places = refl

-- closures
abbrev closure_rows : List Row
closure_rows =
    "lift" ends 4
    ∷ "lift 5" stops 5
    ∷ "lift f a" stops 7
    ∷ "lift f(5" stops 7
    ∷ "lift f(x t" stops 9
    ∷ "lift f(x : t a" stops 13
    ∷ "lift f(x : t) a" stops 14
    ∷ "lift f := )" stops 10
    ∷ "lift f := a, 5" stops 13
    ∷ "lift f := a 5" stops 12
    ∷ "lift f := a into 5" stops 17
    ∷ "lift f := a into n t" stops 19
    ∷ "lift f := a into n : 5" stops 21
    ∷ "lift f := a into n : t {" stops 23
    ∷ "lift f := a into n : t by a" stops 26
    ∷ "lift f := a into n : t by { trigger }" stops 36
    ∷ "lift f := a into n : t by { trigger b }" stops 38
    ∷ "lift f := a into n : t by { b )" stops 30
    ∷ "lift f := a into n : t by { b, }" stops 31
    ∷ []

closure-places : map expression_of closure_rows ≡ map expected closure_rows
unfolding computed
closure-places = refl

-- ---- programs

-- statements without blocks, and what ends a block
abbrev statement_rows : List Row
statement_rows =
    "procedure p() { return := 1 }" stops 23
    ∷ "procedure p() { { } 5 }" stops 20
    ∷ "procedure p() { var 5 }" stops 20
    ∷ "procedure p() { val := 1 }" stops 20
    ∷ "procedure p() { var a : 5 }" stops 24
    ∷ "procedure p() { var a autoinv } }" stops 30
    ∷ "procedure p() { var a := }" stops 25
    ∷ "procedure p() { reinit 5 }" stops 23
    ∷ "procedure p() { reinit a, 5 }" stops 26
    ∷ "procedure p() { check }" stops 22
    ∷ "procedure p() { assume }" stops 23
    ∷ "procedure p() { reach }" stops 22
    ∷ "procedure p() { assert }" stops 23
    ∷ "procedure p() { probe }" stops 22
    ∷ "procedure p() { a := }" stops 21
    ∷ "procedure p() { a: check b }" stops 19
    ∷ "procedure p() { loop: { } }" stops 20
    ∷ "procedure p() { q(a b) }" stops 20
    ∷ "procedure p() { q(a, ) }" stops 21
    ∷ "procedure p() { q(out) }" stops 21
    ∷ "procedure p() { q(inout) }" stops 23
    ∷ "procedure p() { q(out 1) }" stops 22
    ∷ "procedure p() { q(inout 1) }" stops 24
    ∷ []

statement-places : map program_of statement_rows ≡ map expected statement_rows
unfolding computed
statement-places = refl

-- statements with blocks, where another statement stands for one
abbrev block_rows : List Row
block_rows =
    "procedure p() { forall { } }" stops 23
    ∷ "procedure p() { forall x int { } }" stops 25
    ∷ "procedure p() { forall x: 5 }" stops 26
    ∷ "procedure p() { forall x: int check a }" stops 30
    ∷ "procedure p() { choose check a }" stops 23
    ∷ "procedure p() { choose { } or }" stops 30
    ∷ "procedure p() { if { } }" stops 19
    ∷ "procedure p() { if a check b }" stops 21
    ∷ "procedure p() { if a { } else check b }" stops 30
    ∷ "procedure p() { if a { } else if { } }" stops 33
    ∷ "procedure p() { if a { } else if b check c }" stops 35
    ∷ "procedure p() { if case { } }" stops 24
    ∷ "procedure p() { if case a check b }" stops 26
    ∷ "procedure p() { if case a { } case { } }" stops 35
    ∷ "procedure p() { loop check a }" stops 21
    ∷ "procedure p() { loop invariant } }" stops 31
    ∷ "procedure p() { loop invariant a check b }" stops 33
    ∷ []

block-places : map program_of block_rows ≡ map expected block_rows
unfolding computed
block-places = refl

-- types, taggers, axioms and functions
abbrev declaration_rows : List Row
declaration_rows =
    "type 5" stops 5
    ∷ "type t 5" stops 7
    ∷ "tagger 5" stops 7
    ∷ "tagger g t" stops 9
    ∷ "tagger g for 5" stops 13
    ∷ "axiom" ends 5
    ∷ "axiom }" stops 6
    ∷ "axiom explains" ends 14
    ∷ "axiom explains a, 5" stops 18
    ∷ "axiom explains a }" stops 17
    ∷ "function (" stops 9
    ∷ "function f : t" stops 11
    ∷ "function f(a t" stops 13
    ∷ "function f(a: 5" stops 14
    ∷ "function f(injective 5" stops 21
    ∷ "function f(a: t b" stops 16
    ∷ "function f(a: t, )" stops 17
    ∷ "function f() t" stops 13
    ∷ "function f(): 5" stops 14
    ∷ "function f(): t tag 5" stops 20
    ∷ "function f(): t when {" stops 21
    ∷ "function f(): t when a when b axiom c" stops 30
    ∷ "function f(): int { }" stops 20
    ∷ "function f(): t { a b" stops 20
    ∷ []

declaration-places : map program_of declaration_rows ≡ map expected declaration_rows
unfolding computed
declaration-places = refl

-- procedures
abbrev procedure_rows : List Row
procedure_rows =
    "procedure (" stops 10
    ∷ "procedure p {" stops 12
    ∷ "procedure p(5" stops 12
    ∷ "procedure p(out: int)" stops 15
    ∷ "procedure p(inout: int)" stops 17
    ∷ "procedure p(inout 5" stops 18
    ∷ "procedure p(a t" stops 14
    ∷ "procedure p(a: 5" stops 15
    ∷ "procedure p(a: t b" stops 17
    ∷ "procedure p(a: t, )" stops 18
    ∷ "procedure p(a: t autoinv )" stops 25
    ∷ "procedure p() requires }" stops 23
    ∷ "procedure p() requires a }" stops 25
    ∷ "procedure p() ensures }" stops 22
    ∷ "procedure p() ensures a requires b" stops 24
    ∷ []

procedure-places : map program_of procedure_rows ≡ map expected procedure_rows
unfolding computed
procedure-places = refl

-- ---- the text's end

-- after a token, blanks or a comment, where more must follow; the last byte is refused itself where it cannot be used, as a blank after a custom
-- literal's text
abbrev end_rows : List Row
end_rows =
    "  " ends 2
    ∷ "//" ends 2
    ∷ "a +" ends 3
    ∷ "a + " ends 4
    ∷ "a + // b" ends 8
    ∷ "a + /* b */" ends 11
    ∷ "a )" stops 2
    ∷ "(a" ends 2
    ∷ "(a)\n)" stops 4
    ∷ "f(a," ends 4
    ∷ "|s:t" ends 4
    ∷ "|s " stops 2
    ∷ "|//x:int|" ends 9
    ∷ []

expression-ends : map expression_of end_rows ≡ map expected end_rows
unfolding computed
expression-ends = refl

-- the same; a name that begins no declaration, or a statement without its mark, is refused itself, though it ends the text
abbrev program_end_rows : List Row
program_end_rows =
    "type" ends 4
    ∷ "type " ends 5
    ∷ "type // t" ends 9
    ∷ "type /* t */" ends 12
    ∷ "type t t" stops 7
    ∷ "t" stops 0
    ∷ "procedure p() {" ends 15
    ∷ "procedure p() { x" stops 16
    ∷ "procedure p() { x " stops 16
    ∷ "procedure p() { x :=" ends 20
    ∷ []

program-ends : map program_of program_end_rows ≡ map expected program_end_rows
unfolding computed
program-ends = refl

-- a natural that ends the text
natural-ends : read_expression (bytes "18446744073709551616") 0 ≡ refusal 4 0 []
unfolding computed
natural-ends = refl

-- a text of no bytes: no expression, and as a program five words
empty-expression : read_expression [] 2 ≡ refusal 13 0 (0 ∷ 0 ∷ [])
unfolding computed
empty-expression = refl

short-table : read_program [] 4 ≡ refusal 5 0 (0 ∷ 0 ∷ 0 ∷ 0 ∷ [])
unfolding computed
short-table = refl

empty-program : read_program [] 5 ≡ words 5 (0 ∷ 0 ∷ 0 ∷ 0 ∷ 0 ∷ [])
unfolding computed
empty-program = refl

-- two words, and as many as bytes
two-words : read_expression (bytes "true") 2 ≡ words 2 (1 ∷ 1 ∷ [])
unfolding computed
two-words = refl

words-as-bytes : read_expression (bytes "abcd") 4 ≡ words 4 (4 ∷ 0 ∷ 4 ∷ 0 ∷ [])
unfolding computed
words-as-bytes = refl

-- a text of the greatest length, and one of a byte more
longest-text : read_expression (replicate 32768 32) 0 ≡ refusal 13 32768 []
unfolding computed
longest-text = refl

long-text : read_expression (replicate 32769 32) 0 ≡ refusal 1 32768 []
unfolding computed
long-text = refl
