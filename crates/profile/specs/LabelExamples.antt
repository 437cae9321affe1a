-- Closed examples: rule 4, what is around an exit and which labels are equal, and the first of several breaches. The text is `aab`; a body begins
-- at the place 11.
use Rattle.std.specs.Prelude.{ℕ, ◌≡◌, refl, true, false, cond, List, [], ◌∷◌, ◌++◌, eqb, Option, Some, None}
use Rattle.profile.specs.Profile.{fits, breach, Places, places, around, first_breach, verdict}
use Rattle.profile.specs.Examples.{verdicts-computed, aab, program, procedure, judged-by, judged}

-- ---- what is around

-- nothing; without a label an exit is always fine
alone : judged (36 ∷ 1 ∷ 0 ∷ 1 ∷ []) ≡ breach 4 11
unfolding verdicts-computed
alone = refl

no-label : judged (36 ∷ 0 ∷ []) ≡ fits
unfolding verdicts-computed
no-label = refl

no-label-in-loop : judged (34 ∷ 1 ∷ 1 ∷ 1 ∷ 0 ∷ 0 ∷ 36 ∷ 0 ∷ []) ≡ fits
unfolding verdicts-computed
no-label-in-loop = refl

-- a statement of the label: the exit is all of it, or its last
directly : judged (35 ∷ 0 ∷ 1 ∷ 36 ∷ 1 ∷ 0 ∷ 1 ∷ []) ≡ fits
unfolding verdicts-computed
directly = refl

last : judged (35 ∷ 0 ∷ 1 ∷ 24 ∷ 1 ∷ 37 ∷ 1 ∷ 36 ∷ 1 ∷ 0 ∷ 1 ∷ 0 ∷ []) ≡ fits
unfolding verdicts-computed
last = refl

-- a variable's name is no label
variable : judged (21 ∷ 0 ∷ 1 ∷ 0 ∷ 0 ∷ 0 ∷ 0 ∷ 36 ∷ 1 ∷ 0 ∷ 1 ∷ []) ≡ breach 4 18
unfolding verdicts-computed
variable = refl

-- a sibling that has ended, or that is still to begin
sibling : judged (24 ∷ 1 ∷ 35 ∷ 0 ∷ 1 ∷ 24 ∷ 0 ∷ 1 ∷ 36 ∷ 1 ∷ 0 ∷ 1 ∷ 0 ∷ []) ≡ breach 4 19
unfolding verdicts-computed
sibling = refl

later : judged (24 ∷ 1 ∷ 36 ∷ 1 ∷ 0 ∷ 1 ∷ 1 ∷ 35 ∷ 0 ∷ 1 ∷ 24 ∷ 0 ∷ 0 ∷ []) ≡ breach 4 13
unfolding verdicts-computed
later = refl

-- a sibling of which the exit begins at the end: the branches of an If
next-word : judged (32 ∷ 1 ∷ 0 ∷ 35 ∷ 0 ∷ 1 ∷ 37 ∷ 36 ∷ 1 ∷ 0 ∷ 1 ∷ []) ≡ breach 4 18
unfolding verdicts-computed
next-word = refl

-- behind an inner statement of the same label the outer one is still around, and behind both none
behind-inner : judged (35 ∷ 0 ∷ 1 ∷ 24 ∷ 1 ∷ 35 ∷ 1 ∷ 1 ∷ 24 ∷ 0 ∷ 1 ∷ 36 ∷ 1 ∷ 0 ∷ 1 ∷ 0 ∷ []) ≡ fits
unfolding verdicts-computed
behind-inner = refl

behind-both : judged (24 ∷ 1 ∷ 35 ∷ 0 ∷ 1 ∷ 35 ∷ 1 ∷ 1 ∷ 24 ∷ 0 ∷ 1 ∷ 36 ∷ 1 ∷ 0 ∷ 1 ∷ 0 ∷ []) ≡ breach 4 22
unfolding verdicts-computed
behind-both = refl

-- after a sibling of the same label has ended, a new one is around
second-sibling : judged (24 ∷ 1 ∷ 35 ∷ 0 ∷ 1 ∷ 24 ∷ 0 ∷ 1 ∷ 35 ∷ 1 ∷ 1 ∷ 36 ∷ 1 ∷ 0 ∷ 1 ∷ 0 ∷ []) ≡ fits
unfolding verdicts-computed
second-sibling = refl

-- two labels, the outer one and the inner one
outer : judged (35 ∷ 0 ∷ 1 ∷ 35 ∷ 2 ∷ 1 ∷ 36 ∷ 1 ∷ 1 ∷ 1 ∷ []) ≡ fits
unfolding verdicts-computed
outer = refl

inner : judged (35 ∷ 0 ∷ 1 ∷ 35 ∷ 2 ∷ 1 ∷ 36 ∷ 1 ∷ 2 ∷ 1 ∷ []) ≡ fits
unfolding verdicts-computed
inner = refl

neither : judged (35 ∷ 0 ∷ 1 ∷ 35 ∷ 2 ∷ 1 ∷ 36 ∷ 1 ∷ 1 ∷ 2 ∷ []) ≡ breach 4 17
unfolding verdicts-computed
neither = refl

-- an inner label that has ended, in an outer one that has not
inner-ended : judged (35 ∷ 0 ∷ 1 ∷ 24 ∷ 1 ∷ 35 ∷ 2 ∷ 1 ∷ 24 ∷ 0 ∷ 1 ∷ 36 ∷ 1 ∷ 2 ∷ 1 ∷ 0 ∷ []) ≡ breach 4 22
unfolding verdicts-computed
inner-ended = refl

-- an assertion block among the invariants of a loop: the loop is labelled, or its body
in-invariant : judged (35 ∷ 0 ∷ 1 ∷ 34 ∷ 1 ∷ 2 ∷ 36 ∷ 1 ∷ 1 ∷ 1 ∷ 0 ∷ 37 ∷ []) ≡ fits
unfolding verdicts-computed
in-invariant = refl

in-invariant-before : judged (34 ∷ 1 ∷ 2 ∷ 36 ∷ 1 ∷ 1 ∷ 1 ∷ 0 ∷ 35 ∷ 0 ∷ 1 ∷ 37 ∷ []) ≡ breach 4 14
unfolding verdicts-computed
in-invariant-before = refl

-- a label in an assertion block of a condition: it is around an exit there, and not around one in the body
in-condition : judged-by (1 ∷ 2 ∷ 35 ∷ 0 ∷ 1 ∷ 36 ∷ 1 ∷ 1 ∷ 1 ∷ 0 ∷ []) (0 ∷ []) (1 ∷ 37 ∷ []) ≡ fits
unfolding verdicts-computed
in-condition = refl

from-condition : judged-by (0 ∷ []) (1 ∷ 2 ∷ 35 ∷ 0 ∷ 1 ∷ 24 ∷ 0 ∷ 0 ∷ []) (1 ∷ 36 ∷ 1 ∷ 1 ∷ 1 ∷ []) ≡ breach 4 18
unfolding verdicts-computed
from-condition = refl

-- a label of the procedure before
abbrev two : List ℕ
two = procedure (0 ∷ []) (0 ∷ []) (1 ∷ 35 ∷ 0 ∷ 1 ∷ 24 ∷ 0 ∷ []) ++ procedure (0 ∷ []) (0 ∷ []) (1 ∷ 36 ∷ 1 ∷ 0 ∷ 1 ∷ [])

other-procedure : verdict aab (program two) ≡ breach 4 23
unfolding verdicts-computed
other-procedure = refl

-- by the definition: the statement that begins at 11 and ends at 18 is around from the start after it, and up to the place before its end
abbrev labelled : Places
labelled = places (program (procedure (0 ∷ []) (0 ∷ []) (1 ∷ 35 ∷ 0 ∷ 1 ∷ 36 ∷ 1 ∷ 0 ∷ 1 ∷ []))) 3

around-end : around labelled aab 12 (97 ∷ []) 17 ≡ true
unfolding verdicts-computed
around-end = refl

around-past-end : around labelled aab 17 (97 ∷ []) 18 ≡ false
unfolding verdicts-computed
around-past-end = refl

around-start : around labelled aab 11 (97 ∷ []) 14 ≡ false
unfolding verdicts-computed
around-start = refl

around-other : around labelled aab 14 (98 ∷ []) 14 ≡ false
unfolding verdicts-computed
around-other = refl

-- ---- which labels are equal

-- equal bytes at other places
equal-bytes : judged (35 ∷ 0 ∷ 1 ∷ 36 ∷ 1 ∷ 1 ∷ 1 ∷ []) ≡ fits
unfolding verdicts-computed
equal-bytes = refl

-- other bytes of the same length, or at the same start: the beginning of the label, and what begins with it; the end of the label
other-bytes : judged (35 ∷ 1 ∷ 1 ∷ 36 ∷ 1 ∷ 2 ∷ 1 ∷ []) ≡ breach 4 14
unfolding verdicts-computed
other-bytes = refl

other-bytes-of-two : judged (35 ∷ 0 ∷ 2 ∷ 36 ∷ 1 ∷ 1 ∷ 2 ∷ []) ≡ breach 4 14
unfolding verdicts-computed
other-bytes-of-two = refl

beginning : judged (35 ∷ 0 ∷ 2 ∷ 36 ∷ 1 ∷ 0 ∷ 1 ∷ []) ≡ breach 4 14
unfolding verdicts-computed
beginning = refl

longer : judged (35 ∷ 0 ∷ 1 ∷ 36 ∷ 1 ∷ 0 ∷ 2 ∷ []) ≡ breach 4 14
unfolding verdicts-computed
longer = refl

end-of-label : judged (35 ∷ 1 ∷ 2 ∷ 36 ∷ 1 ∷ 2 ∷ 1 ∷ []) ≡ breach 4 14
unfolding verdicts-computed
end-of-label = refl

-- the empty label, at two places; it is no other's beginning
empty : judged (35 ∷ 0 ∷ 0 ∷ 36 ∷ 1 ∷ 3 ∷ 0 ∷ []) ≡ fits
unfolding verdicts-computed
empty = refl

empty-alone : judged (36 ∷ 1 ∷ 3 ∷ 0 ∷ []) ≡ breach 4 11
unfolding verdicts-computed
empty-alone = refl

empty-in-other : judged (35 ∷ 1 ∷ 1 ∷ 36 ∷ 1 ∷ 1 ∷ 0 ∷ []) ≡ breach 4 14
unfolding verdicts-computed
empty-in-other = refl

other-in-empty : judged (35 ∷ 1 ∷ 0 ∷ 36 ∷ 1 ∷ 1 ∷ 1 ∷ []) ≡ breach 4 14
unfolding verdicts-computed
other-in-empty = refl

-- the procedure's name, which is no label
procedure-name : judged (36 ∷ 1 ∷ 2 ∷ 1 ∷ []) ≡ breach 4 11
unfolding verdicts-computed
procedure-name = refl

-- ---- the first breach

-- two rules in both orders
reach-before-loop : judged (24 ∷ 1 ∷ 28 ∷ 1 ∷ 0 ∷ 1 ∷ 34 ∷ 0 ∷ 37 ∷ 0 ∷ []) ≡ breach 1 13
unfolding verdicts-computed
reach-before-loop = refl

loop-before-reach : judged (24 ∷ 1 ∷ 34 ∷ 0 ∷ 37 ∷ 1 ∷ 28 ∷ 1 ∷ 0 ∷ 0 ∷ []) ≡ breach 3 13
unfolding verdicts-computed
loop-before-reach = refl

exit-before-loop : judged (24 ∷ 1 ∷ 36 ∷ 1 ∷ 0 ∷ 1 ∷ 1 ∷ 34 ∷ 0 ∷ 37 ∷ 0 ∷ []) ≡ breach 4 13
unfolding verdicts-computed
exit-before-loop = refl

loop-before-exit : judged (24 ∷ 1 ∷ 34 ∷ 0 ∷ 36 ∷ 1 ∷ 0 ∷ 1 ∷ 0 ∷ []) ≡ breach 3 13
unfolding verdicts-computed
loop-before-exit = refl

-- a procedure without body, behind a breach in the one before it, and before a breach in its own condition
reach-before-no-body : verdict aab (program (procedure (0 ∷ []) (0 ∷ []) (1 ∷ 28 ∷ 1 ∷ 0 ∷ []) ++ procedure (0 ∷ []) (0 ∷ []) (0 ∷ []))) ≡ breach 1 11
unfolding verdicts-computed
reach-before-no-body = refl

no-body-before-reach : judged-by (1 ∷ 2 ∷ 28 ∷ 1 ∷ 0 ∷ 0 ∷ []) (0 ∷ []) (0 ∷ []) ≡ breach 2 5
unfolding verdicts-computed
no-body-before-reach = refl

-- the outer of two statements that break the same rule, and the first of two exits
outer-choose : judged (31 ∷ 1 ∷ 31 ∷ 0 ∷ 0 ∷ []) ≡ breach 1 11
unfolding verdicts-computed
outer-choose = refl

first-exit : judged (24 ∷ 1 ∷ 36 ∷ 1 ∷ 0 ∷ 1 ∷ 1 ∷ 36 ∷ 1 ∷ 1 ∷ 1 ∷ 0 ∷ []) ≡ breach 4 13
unfolding verdicts-computed
first-exit = refl

-- by the definition: a rule that is broken at 7 alone, among the two and the three places from 5 on
abbrev at-seven : ℕ → Option ℕ
at-seven at = cond (eqb at 7) (Some 9) None

up-to-six : first_breach at-seven 2 5 ≡ fits
unfolding verdicts-computed
up-to-six = refl

up-to-seven : first_breach at-seven 3 5 ≡ breach 9 7
unfolding verdicts-computed
up-to-seven = refl
