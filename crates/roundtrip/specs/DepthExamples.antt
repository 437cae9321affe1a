-- The limit of the depth (REFERENCE, "Depth"), by computation: 201 is refused by 3 where its first token stands, by 2 at another token, and by 13 at the
-- text's end.
use Rattle.std.specs.Prelude.{ℕ, zero, suc, ◌≡◌, refl, List, [], ◌++◌}
use Prim.Native.String.{String}
use Rattle.lexing.specs.Bytes.{bytes}
use Rattle.grammar.specs.Reading.{Outcome, refusal, read_expression, read_program}
use Rattle.grammar.specs.ProgramExamples.{computed}

-- so many copies of one text before another
unfoldable copies : ℕ → String → List ℕ → List ℕ
copies zero w s = s
copies (suc n) w s = bytes w ++ copies n w s

-- a procedure with so many declarations, each in the one before it, and a statement in the last
abbrev nested : ℕ → String → Outcome
nested n s = read_program (bytes "procedure p() { " ++ copies n "var a " (bytes s)) 0

brackets-deep : read_expression (copies 200 "(" (bytes "a")) 0 ≡ refusal 3 200 []
unfolding computed copies
brackets-deep = refl

brackets-ended : read_expression (copies 200 "(" (bytes ")")) 0 ≡ refusal 2 200 []
unfolding computed copies
brackets-ended = refl

brackets-unfinished : read_expression (copies 200 "(" []) 0 ≡ refusal 13 200 []
unfolding computed copies
brackets-unfinished = refl

brackets-past : read_expression (copies 201 "(" []) 0 ≡ refusal 3 200 []
unfolding computed copies
brackets-past = refl

blocks-unfinished : read_program (bytes "procedure p() " ++ copies 200 "{" []) 0 ≡ refusal 13 214 []
unfolding computed copies
blocks-unfinished = refl

blocks-past : read_program (bytes "procedure p() " ++ copies 201 "{" []) 0 ≡ refusal 3 214 []
unfolding computed copies
blocks-past = refl

loop-deep : nested 199 "x: loop { } }" ≡ refusal 3 1213 []
unfolding computed copies
loop-deep = refl

else-deep : nested 198 "if b { } else if c { } }" ≡ refusal 3 1221 []
unfolding computed copies
else-deep = refl
