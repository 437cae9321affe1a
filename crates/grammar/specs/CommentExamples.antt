-- Long comments that are not closed (REFERENCE, "Blanks and tokens"), by computation: refusal 12 at the comment, wherever blanks may stand, and what comes
-- before it.
use Rattle.std.specs.Prelude.{◌≡◌, refl, List, [], ◌∷◌, map}
use Prim.Native.String.{String}
use Rattle.lexing.specs.Answer.{refused}
use Rattle.lexing.specs.Bytes.{bytes}
use Rattle.grammar.specs.Reading.{words, refusal, read_expression}
use Rattle.grammar.specs.ProgramExamples.{computed, none_left}
use Rattle.grammar.specs.RefusalExamples.{Row, ◌stops◌, refused_by, expression_of, program_of}

-- ---- expressions

-- at the start, after each kind of token, and where an operator or an operand may stand
abbrev expression_rows : List Row
expression_rows =
    "/* a" stops 0
    ∷ "/*" stops 0
    ∷ "/**/ /*/" stops 5
    ∷ "a /* b */ /* c" stops 10
    ∷ "a /* /* */" stops 2
    ∷ "a + /* b" stops 4
    ∷ "7/*" stops 1
    ∷ "true /*" stops 5
    ∷ "a div /*" stops 6
    ∷ "old /* a" stops 4
    ∷ "old a /*" stops 6
    ∷ "! /* a" stops 2
    ∷ "( /* a)" stops 2
    ∷ "(a /*)" stops 3
    ∷ "f /* ()" stops 2
    ∷ "f(a, /* b)" stops 5
    ∷ "f(a) /*" stops 5
    ∷ "l : /* a" stops 4
    ∷ "|/*a:int|" stops 1
    ∷ "|a:/* int|" stops 3
    ∷ "|a:int/*|" stops 6
    ∷ "|a:int|/*" stops 7
    ∷ "if a b else /* c" stops 12
    ∷ "val x : t /* := a b" stops 10
    ∷ "forall x /* : t a" stops 9
    ∷ []

expression-comments : map expression_of expression_rows ≡ map (refused_by 12) expression_rows
unfolding computed
expression-comments = refl

-- what is met before the comment
abbrev earlier_rows : List Row
earlier_rows = "a b /* c" stops 2 ∷ ") /*" stops 0 ∷ "|a /* b" stops 2 ∷ "a //\n= /*" stops 5 ∷ []

earlier-tokens : map expression_of earlier_rows ≡ map (refused_by 2) earlier_rows
unfolding computed
earlier-tokens = refl

earlier-natural : expression_of ("18446744073709551616/*" stops 0) ≡ refusal 4 0 []
unfolding computed
earlier-natural = refl

-- one that is closed where the text ends is closed
closed-comment : read_expression (bytes "a /* /* b */*/") 4 ≡ words 4 (4 ∷ 0 ∷ 1 ∷ 0 ∷ [])
unfolding computed
closed-comment = refl

-- ---- programs

-- after words of declarations and statements; after a name, before its mark; where `exit` looks for a label and a mark
abbrev program_rows : List Row
program_rows =
    "type /* T" stops 5
    ∷ "type T /* q" stops 7
    ∷ "type A /*" stops 7
    ∷ "axiom /* a" stops 6
    ∷ "function f /* (): t" stops 11
    ∷ "procedure p() /* { }" stops 14
    ∷ "procedure p() { x /* := 1 }" stops 18
    ∷ "procedure p() { x := /* 1 }" stops 21
    ∷ "procedure p() { exit /* }" stops 21
    ∷ "procedure p() { exit x /* }" stops 23
    ∷ "procedure p() { exit x : /* }" stops 25
    ∷ "procedure p() { return } /* q" stops 25
    ∷ "procedure p() { loop /* { } }" stops 21
    ∷ "procedure p() { l : loop invariant /* a { } }" stops 35
    ∷ []

program-comments : map program_of program_rows ≡ map (refused_by 12) program_rows
unfolding computed
program-comments = refl

-- a name that begins no declaration is met before it
no-declaration : program_of ("x /*" stops 0) ≡ refusal 2 0 []
unfolding computed
no-declaration = refl

-- ---- depth: where no level is left the first token decides, of a statement that a name leads the name with its mark

comment-block-deep : (none_left "{ /*").block 0 ≡ refused 3 0
unfolding computed
comment-block-deep = refl

comment-loop-deep : (none_left "loop /*").loop 0 ≡ refused 3 0
unfolding computed
comment-loop-deep = refl

comment-expr-deep : (none_left "a /*").expr 0 ≡ refused 3 0
unfolding computed
comment-expr-deep = refl

abbrev deep_rows : List String
deep_rows = "{ /*" ∷ "loop /*" ∷ "var /*" ∷ "return/*" ∷ "x := /*" ∷ "x : /*" ∷ "x( /*" ∷ []

comment-stmt-deep : map (λ s. (none_left s).stmt 0) deep_rows ≡ map (λ s. refused 3 0) deep_rows
unfolding computed
comment-stmt-deep = refl

comment-name-deep : (none_left "x /* :=").stmt 0 ≡ refused 12 2
unfolding computed
comment-name-deep = refl
