-- Closed examples, by computation: each pins a rule of REFERENCE, "Blanks and tokens", on a text.
use Rattle.std.specs.Prelude.{◌≡◌, refl, List, [], ◌∷◌, ℕ}
use Prim.Native.Char.{code}
use Prim.Native.String.{String, [] as end, ◌∷◌ as ◌then◌}
use Rattle.lexing.specs.Answer.{ok, none, refused}
use Rattle.lexing.specs.Bytes.{is_space, is_digit, can_start_identifier_char, identifier_char, custom_literal_char, not_newline, run, starts_with, same_bytes}
use Rattle.lexing.specs.Blanks.{passed, unclosed, mark, long_comment, position_after_end_of_long_comment, blank, blanks_from, W}
use Rattle.lexing.specs.Tokens.{lexeme, identifier_length, parse_id, parse_custom_literal, keyword, sign, sign_not_prefix, natural, decimal}

-- the bytes of an ASCII text
abbrev pub ascii : String → List ℕ
ascii end = []
ascii (c then s) = code c ∷ ascii s

-- `unfolding computed` opens the crate's definitions, so that they compute on a closed text
unfoldable pub computed : Unit {0}
unfolding is_space is_digit can_start_identifier_char identifier_char custom_literal_char not_newline run starts_with same_bytes mark long_comment position_after_end_of_long_comment blank blanks_from W lexeme identifier_length parse_id parse_custom_literal keyword sign sign_not_prefix natural decimal
computed = tt

-- ---- blanks

-- long comments nest: the first inner `*/` ends only the inner one
nested : W (ascii "/*a/*b*/c*/x") ≡ passed 11
unfolding computed
nested = refl

-- one that is not closed is at its opening mark, not at that of a comment inside it
never-closed : W (ascii "/*/**/x") ≡ unclosed 0
unfolding computed
never-closed = refl

-- the `*` of an opening mark is no part of a closing one
opening-alone : W (ascii "/*/x") ≡ unclosed 0
unfolding computed
opening-alone = refl

-- nor is that of an inner one: no two marks share a byte
inner-opening-alone : W (ascii "/*/*/*/") ≡ unclosed 0
unfolding computed
inner-opening-alone = refl

-- a slash alone opens none
slash-alone : W (ascii "/ */") ≡ passed 0
unfolding computed
slash-alone = refl

-- one that is closed where the text ends is closed
closed-at-the-end : W (ascii "/*a/*b*/*/") ≡ passed 10
unfolding computed
closed-at-the-end = refl

-- after blanks that are passed, a closed comment among them, the place is that of the comment that stays open
open-after-blanks : W (ascii " /**/\n/* */ //*\n/*/**/") ≡ unclosed 16
unfolding computed
open-after-blanks = refl

-- in a comment to the line's end a long one doesn't open
opened-in-a-line : W (ascii "///*\nx") ≡ passed 5
unfolding computed
opened-in-a-line = refl

-- a token is refused at such a comment after it
after-a-name : parse_id (ascii "a1 /* q") ≡ refused 12 3
unfolding computed
after-a-name = refl

after-a-keyword : keyword (ascii "if") (ascii "if/* q") ≡ refused 12 2
unfolding computed
after-a-keyword = refl

after-a-natural : natural (ascii "7 /**/ /*/") ≡ refused 12 7
unfolding computed
after-a-natural = refl

after-a-sign : sign (ascii ":=") (ascii ":=\n/*") ≡ refused 12 3
unfolding computed
after-a-sign = refl

-- a natural that is too large comes before the comment after it
large-before-a-comment : natural (ascii "18446744073709551616/*") ≡ refused 4 0
unfolding computed
large-before-a-comment = refl

-- no blank is taken after a custom literal's text, so no comment opens there
literal-before-a-comment : parse_custom_literal (ascii "a /*") ≡ ok 1 1
unfolding computed
literal-before-a-comment = refl

-- `//` inside a long comment means nothing
slashes-inside : W (ascii "/*// */x") ≡ passed 7
unfolding computed
slashes-inside = refl

-- a comment to the line's end ends at LF, not at CR
line-comment : W (ascii "//a\rb\nx") ≡ passed 6
unfolding computed
line-comment = refl

-- and LF is no part of it
line-comment-alone : blank (ascii "//a\nx") ≡ passed 3
unfolding computed
line-comment-alone = refl

-- at the text's end no blank stands
no-text : blank [] ≡ passed 0
unfolding computed
no-text = refl

spaces : W (ascii "\t\r\n x") ≡ passed 4
unfolding computed
spaces = refl

-- ---- words

-- `%` continues a name, and starts one
percent : parse_id (ascii "a%b c") ≡ ok 3 4
unfolding computed
percent = refl

percent-first : parse_id (ascii "%_$.9//") ≡ ok 5 7
unfolding computed
percent-first = refl

keyword-whole : keyword (ascii "if") (ascii "if (a)") ≡ ok 0 3
unfolding computed
keyword-whole = refl

-- before an identifier character a keyword is none
keyword-longer : keyword (ascii "if") (ascii "if.a") ≡ none
unfolding computed
keyword-longer = refl

-- ---- naturals

most : natural (ascii "18446744073709551615") ≡ ok 18446744073709551615 20
unfolding computed
most = refl

one_more : natural (ascii "18446744073709551616") ≡ refused 4 0
unfolding computed
one_more = refl

-- any number of digits
leading_zeros : natural (ascii "000000000000000000000018446744073709551615 ") ≡ ok 18446744073709551615 43
unfolding computed
leading_zeros = refl

-- a natural ends where its digits end
no-end-check : natural (ascii "5div 3") ≡ ok 5 1
unfolding computed
no-end-check = refl

-- ---- custom literals and signs

-- `/` and `*` are literal characters
literal : parse_custom_literal (ascii "a/**/:int") ≡ ok 5 5
unfolding computed
literal = refl

-- no blank is taken after a literal
literal-blank : parse_custom_literal (ascii "a :int") ≡ ok 1 1
unfolding computed
literal-blank = refl

-- a sign is found inside a longer one, unless the longer one is excluded
inside : sign (ascii ":") (ascii ":= 1") ≡ ok 0 1
unfolding computed
inside = refl

excluded : sign_not_prefix (ascii ":") (ascii ":=") (ascii ":= 1") ≡ none
unfolding computed
excluded = refl
