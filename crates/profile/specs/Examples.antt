-- Closed examples: rules 1 to 3, what each of them is about and what it lets pass, and what a table is refused by. The text is `aab`; in its
-- programs the words of a procedure `b` begin at the place 5, and its body's at 11 where it has neither parameters nor conditions.
use Rattle.std.specs.Prelude.{ℕ, ◌≡◌, refl, false, List, [], ◌∷◌, ◌++◌, replicate, Ok, Err}
use Rattle.tree.specs.Resolve.{part}
use Rattle.tree.specs.Outline.{extent, kind_numbers, end_places}
use Rattle.tree.specs.Check.{run, check_program, program_refusal}
use Rattle.tree.specs.Held.{held_checked, held_by}
use Rattle.tree.specs.declared.CheckError.TheVariants.{Misfit as CheckMisfit, TooManyWords as CheckTooManyWords}
use Rattle.names.specs.Names.{same}
use Rattle.profile.specs.declared.answer.Rule.TheVariants.{Statements, Bodies, Invariants, Labels}
use Rattle.profile.specs.declared.answer.Verdict.TheVariants.{Fits, Breaks}
use Rattle.profile.specs.declared.answer.JudgeError.TheVariants.{Oversized, Misfit}
use Rattle.profile.specs.Profile.{Judgement, fits, breach, refused, places, procedure as is_procedure, around, broken, first_breach, verdict, judge_program}
use Rattle.profile.specs.Answers.{of_check, judgement_of}

-- `unfolding verdicts-computed` opens what a verdict is made of
unfoldable pub verdicts-computed : Unit {0}
unfolding verdict first_breach broken around extent kind_numbers end_places same part
verdicts-computed = tt

abbrev pub aab : List ℕ
aab = 97 ∷ 97 ∷ 98 ∷ []

-- a program of procedures, and a procedure `b` without parameters whose conditions before, conditions after and body these are
abbrev pub program : List ℕ → List ℕ
program procedures = 0 ∷ 0 ∷ 0 ∷ 0 ∷ procedures ++ (0 ∷ [])

abbrev pub procedure : List ℕ → List ℕ → List ℕ → List ℕ
procedure before after body = 1 ∷ 2 ∷ 1 ∷ 0 ∷ before ++ (after ++ body)

-- the verdict on a program with one such procedure, and on one whose procedure has this body and no conditions
abbrev pub judged-by : List ℕ → List ℕ → List ℕ → Judgement
judged-by before after body = verdict aab (program (procedure before after body))

abbrev pub judged : List ℕ → Judgement
judged body = judged-by (0 ∷ []) (0 ∷ []) (1 ∷ body)

-- ---- rule 1

-- each of its four statements
reach : judged (28 ∷ 4 ∷ 0 ∷ 2 ∷ 0 ∷ []) ≡ breach 1 11
unfolding verdicts-computed
reach = refl

a-forall : judged (30 ∷ 0 ∷ 1 ∷ 2 ∷ 1 ∷ 37 ∷ []) ≡ breach 1 11
unfolding verdicts-computed
a-forall = refl

choose : judged (31 ∷ 1 ∷ 37 ∷ 0 ∷ []) ≡ breach 1 11
unfolding verdicts-computed
choose = refl

probe : judged (38 ∷ 4 ∷ 0 ∷ 2 ∷ 0 ∷ []) ≡ breach 1 11
unfolding verdicts-computed
probe = refl

-- every other statement, in datatype order
abbrev other_statements : List ℕ
other_statements =
    24
    ∷ 1 ∷ 21 ∷ 0 ∷ 1 ∷ 0 ∷ 1 ∷ 2 ∷ 1 ∷ 0 ∷ 1 ∷ 1 ∷ 0 ∷ 37  -- VarDecl
    ∷ 1 ∷ 22 ∷ 0 ∷ 2 ∷ 1 ∷ 1  -- Assign
    ∷ 1 ∷ 23 ∷ 1 ∷ 0 ∷ 3 ∷ 0  -- Reinit
    ∷ 1 ∷ 24 ∷ 0  -- Block
    ∷ 1 ∷ 25 ∷ 1 ∷ 1 ∷ 1 ∷ 3 ∷ 1 ∷ 0 ∷ 0  -- Call
    ∷ 1 ∷ 26 ∷ 1 ∷ 0  -- Check
    ∷ 1 ∷ 27 ∷ 1 ∷ 0  -- Assume
    ∷ 1 ∷ 29 ∷ 1 ∷ 0  -- Assert
    ∷ 1 ∷ 32 ∷ 1 ∷ 0 ∷ 37 ∷ 37  -- If
    ∷ 1 ∷ 33 ∷ 1 ∷ 1 ∷ 0 ∷ 37 ∷ 0  -- IfCase
    ∷ 1 ∷ 34 ∷ 1 ∷ 1 ∷ 1 ∷ 0 ∷ 0 ∷ 37  -- Loop
    ∷ 1 ∷ 35 ∷ 0 ∷ 1 ∷ 36 ∷ 1 ∷ 0 ∷ 1  -- LabeledStmt, with an Exit
    ∷ 1 ∷ 36 ∷ 0  -- Exit
    ∷ 1 ∷ 37  -- Return
    ∷ 0 ∷ []

others : judged other_statements ≡ fits
unfolding verdicts-computed
others = refl

-- their numbers elsewhere than as a statement's first word: two naturals
naturals : judged (26 ∷ 5 ∷ 10 ∷ 1 ∷ 2 ∷ 28 ∷ 30 ∷ 1 ∷ 2 ∷ 31 ∷ 38 ∷ 0 ∷ []) ≡ fits
unfolding verdicts-computed
naturals = refl

-- the other branch of an If, the second case of an IfCase, behind a variable
else-branch : judged (32 ∷ 1 ∷ 0 ∷ 37 ∷ 38 ∷ 1 ∷ 1 ∷ []) ≡ breach 1 15
unfolding verdicts-computed
else-branch = refl

second-case : judged (33 ∷ 1 ∷ 1 ∷ 0 ∷ 37 ∷ 1 ∷ 1 ∷ 1 ∷ 31 ∷ 0 ∷ 0 ∷ []) ≡ breach 1 19
unfolding verdicts-computed
second-case = refl

variable : judged (21 ∷ 0 ∷ 1 ∷ 0 ∷ 0 ∷ 0 ∷ 0 ∷ 28 ∷ 1 ∷ 1 ∷ []) ≡ breach 1 18
unfolding verdicts-computed
variable = refl

-- assertion blocks: the second condition before, the first after, and the second invariant of a loop
before : judged-by (1 ∷ 1 ∷ 1 ∷ 0 ∷ 1 ∷ 2 ∷ 28 ∷ 1 ∷ 0 ∷ 0 ∷ []) (0 ∷ []) (1 ∷ 37 ∷ []) ≡ breach 1 14
unfolding verdicts-computed
before = refl

after : judged-by (0 ∷ []) (1 ∷ 2 ∷ 38 ∷ 1 ∷ 0 ∷ 0 ∷ []) (1 ∷ 37 ∷ []) ≡ breach 1 11
unfolding verdicts-computed
after = refl

invariant : judged (34 ∷ 1 ∷ 1 ∷ 1 ∷ 0 ∷ 1 ∷ 2 ∷ 31 ∷ 0 ∷ 0 ∷ 37 ∷ []) ≡ breach 1 18
unfolding verdicts-computed
invariant = refl

-- assertion blocks of other statements
assertion-blocks : judged-by (1 ∷ 2 ∷ 26 ∷ 1 ∷ 0 ∷ 0 ∷ []) (1 ∷ 2 ∷ 24 ∷ 0 ∷ 0 ∷ []) (1 ∷ 37 ∷ []) ≡ fits
unfolding verdicts-computed
assertion-blocks = refl

-- ---- rule 2

-- the place is the name's first word and not the mark before it
no-body : judged-by (0 ∷ []) (0 ∷ []) (0 ∷ []) ≡ breach 2 5
unfolding verdicts-computed
no-body = refl

with-body : judged (37 ∷ []) ≡ fits
unfolding verdicts-computed
with-body = refl

-- behind parameters and conditions, of which the sequences end with a 0 too
no-body-behind : verdict aab (program (1 ∷ 2 ∷ 1 ∷ 1 ∷ 0 ∷ 1 ∷ 1 ∷ 0 ∷ 2 ∷ 1 ∷ 1 ∷ 1 ∷ 0 ∷ 1 ∷ 1 ∷ 1 ∷ 0 ∷ 1 ∷ 2 ∷ 37 ∷ 0 ∷ 0 ∷ [])) ≡ breach 2 5
unfolding verdicts-computed
no-body-behind = refl

body-behind : verdict aab (program (1 ∷ 2 ∷ 1 ∷ 1 ∷ 0 ∷ 1 ∷ 1 ∷ 0 ∷ 2 ∷ 1 ∷ 1 ∷ 1 ∷ 0 ∷ 1 ∷ 1 ∷ 1 ∷ 0 ∷ 1 ∷ 2 ∷ 37 ∷ 0 ∷ 1 ∷ 24 ∷ 0 ∷ [])) ≡ fits
unfolding verdicts-computed
body-behind = refl

-- the second of three procedures
abbrev three : List ℕ
three = procedure (0 ∷ []) (0 ∷ []) (1 ∷ 24 ∷ 0 ∷ []) ++ (procedure (0 ∷ []) (0 ∷ []) (0 ∷ []) ++ procedure (0 ∷ []) (0 ∷ []) (1 ∷ 37 ∷ []))

second-without : verdict aab (program three) ≡ breach 2 14
unfolding verdicts-computed
second-without = refl

-- no procedure at all, with a type and without
no-procedures : verdict aab (program []) ≡ fits
unfolding verdicts-computed
no-procedures = refl

type-alone : verdict aab (1 ∷ 0 ∷ 2 ∷ 0 ∷ 0 ∷ 0 ∷ 0 ∷ 0 ∷ []) ≡ fits
unfolding verdicts-computed
type-alone = refl

-- a function without body, and an axiom
function-alone : verdict aab (0 ∷ 0 ∷ 1 ∷ 0 ∷ 1 ∷ 0 ∷ 1 ∷ 1 ∷ 0 ∷ 0 ∷ 0 ∷ 1 ∷ 0 ∷ 1 ∷ 0 ∷ 0 ∷ 0 ∷ []) ≡ fits
unfolding verdicts-computed
function-alone = refl

-- by the definition: no procedure stands behind the mark of their end
behind-end : is_procedure (places (program []) 3) 5 ≡ false
unfolding verdicts-computed
behind-end = refl

-- ---- rule 3

no-invariant : judged (34 ∷ 0 ∷ 37 ∷ []) ≡ breach 3 11
unfolding verdicts-computed
no-invariant = refl

-- one invariant is enough: an expression, and an assertion block, also one with nothing in it
expression : judged (34 ∷ 1 ∷ 1 ∷ 1 ∷ 0 ∷ 0 ∷ 37 ∷ []) ≡ fits
unfolding verdicts-computed
expression = refl

assertion-block : judged (34 ∷ 1 ∷ 2 ∷ 24 ∷ 0 ∷ 0 ∷ 37 ∷ []) ≡ fits
unfolding verdicts-computed
assertion-block = refl

-- loops in a loop: as its body, in its invariant
inner-loop : judged (34 ∷ 1 ∷ 1 ∷ 1 ∷ 0 ∷ 0 ∷ 34 ∷ 0 ∷ 37 ∷ []) ≡ breach 3 17
unfolding verdicts-computed
inner-loop = refl

loop-in-invariant : judged (34 ∷ 1 ∷ 2 ∷ 34 ∷ 0 ∷ 37 ∷ 0 ∷ 37 ∷ []) ≡ breach 3 14
unfolding verdicts-computed
loop-in-invariant = refl

-- a loop in a condition's assertion block
loop-before : judged-by (1 ∷ 2 ∷ 34 ∷ 0 ∷ 37 ∷ 0 ∷ []) (0 ∷ []) (1 ∷ 37 ∷ []) ≡ breach 3 10
unfolding verdicts-computed
loop-before = refl

-- its number as a natural, before a 0
loop-number : judged (26 ∷ 2 ∷ 34 ∷ 0 ∷ []) ≡ fits
unfolding verdicts-computed
loop-number = refl

-- ---- the judgement of a table

-- a program within the limits has its verdict
judged-fits : judge_program aab (program (procedure (0 ∷ []) (0 ∷ []) (1 ∷ 37 ∷ []))) ≡ fits
unfolding verdicts-computed judge_program held_by held_checked program_refusal check_program run
judged-fits = refl

judged-breach : judge_program aab (program (procedure (0 ∷ []) (0 ∷ []) (0 ∷ []))) ≡ breach 2 5
unfolding verdicts-computed judge_program held_by held_checked program_refusal check_program run
judged-breach = refl

-- a table that holds none: a mark that is none, a word too few, a word too many, a name past the text; a breach before it is no answer
bad-mark : judge_program aab (0 ∷ 0 ∷ 0 ∷ 2 ∷ 0 ∷ []) ≡ refused 7 3
unfolding judge_program held_by held_checked program_refusal check_program run
bad-mark = refl

missing : judge_program aab (0 ∷ 0 ∷ 0 ∷ 0 ∷ 1 ∷ 2 ∷ 1 ∷ 0 ∷ 0 ∷ 0 ∷ 0 ∷ []) ≡ refused 7 11
unfolding judge_program held_by held_checked program_refusal check_program run
missing = refl

surplus : judge_program aab (0 ∷ 0 ∷ 0 ∷ 0 ∷ 1 ∷ 2 ∷ 1 ∷ 0 ∷ 0 ∷ 0 ∷ 0 ∷ 0 ∷ 0 ∷ []) ≡ refused 7 12
unfolding judge_program held_by held_checked program_refusal check_program run
surplus = refl

past-text : judge_program aab (0 ∷ 0 ∷ 0 ∷ 0 ∷ 1 ∷ 2 ∷ 2 ∷ 0 ∷ 0 ∷ 0 ∷ 0 ∷ 0 ∷ []) ≡ refused 7 5
unfolding judge_program held_by held_checked program_refusal check_program run
past-text = refl

-- a text of 32,769 bytes, whatever the words, and 16,385 words; up to the limits a misfit is told
long-text : judge_program (replicate 32769 32) (9 ∷ []) ≡ refused 6 0
unfolding judge_program held_by
long-text = refl

longest-text : judge_program (replicate 32768 32) (9 ∷ []) ≡ refused 7 0
unfolding judge_program held_by held_checked program_refusal check_program run
longest-text = refl

many-words : judge_program aab (replicate 16385 0) ≡ refused 6 0
unfolding judge_program held_by held_checked program_refusal check_program
many-words = refl

most-words : judge_program aab (replicate 16384 0) ≡ refused 7 5
unfolding judge_program held_by held_checked program_refusal check_program run
most-words = refl

-- ---- what the code answers, as a judgement

fits-answered : judgement_of (Ok Fits) ≡ fits
fits-answered = refl

statements-answered : judgement_of (Ok (Breaks (record { rule = Statements; place = 11 }))) ≡ breach 1 11
statements-answered = refl

bodies-answered : judgement_of (Ok (Breaks (record { rule = Bodies; place = 5 }))) ≡ breach 2 5
bodies-answered = refl

invariants-answered : judgement_of (Ok (Breaks (record { rule = Invariants; place = 12 }))) ≡ breach 3 12
invariants-answered = refl

labels-answered : judgement_of (Ok (Breaks (record { rule = Labels; place = 13 }))) ≡ breach 4 13
labels-answered = refl

oversized-answered : judgement_of (Err Oversized) ≡ refused 6 0
oversized-answered = refl

misfit-answered : judgement_of (Err (Misfit 14)) ≡ refused 7 14
misfit-answered = refl

-- the check's errors
misfit-checked : judgement_of (Err (of_check (CheckMisfit 15))) ≡ refused 7 15
misfit-checked = refl

many-words-checked : judgement_of (Err (of_check CheckTooManyWords)) ≡ refused 6 0
many-words-checked = refl
