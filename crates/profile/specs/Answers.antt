-- What the code answers, as a judgement: the numbers of its rules, and the numbers and places of its errors (REFERENCE, "The refusals").
use Rattle.std.specs.Prelude.{ℕ, Result, Ok, Err}
use Rattle.tree.specs.Check.{oversized, misfitting}
use Rattle.tree.specs.declared.CheckError.{CheckError}
use Rattle.tree.specs.declared.CheckError.TheVariants.{Misfit as CheckMisfit, TooManyWords as CheckTooManyWords}
use Rattle.profile.specs.declared.answer.Rule.{Rule}
use Rattle.profile.specs.declared.answer.Rule.TheVariants.{Statements, Bodies, Invariants, Labels}
use Rattle.profile.specs.declared.answer.Verdict.{Verdict}
use Rattle.profile.specs.declared.answer.Verdict.TheVariants.{Fits, Breaks}
use Rattle.profile.specs.declared.answer.JudgeError.{JudgeError}
use Rattle.profile.specs.declared.answer.JudgeError.TheVariants.{Oversized, Misfit}
use Rattle.profile.specs.Profile.{statements_rule, bodies_rule, invariants_rule, labels_rule, Judgement, fits, breach, refused}

abbrev pub rule_number : Rule → ℕ
rule_number Statements = statements_rule
rule_number Bodies = bodies_rule
rule_number Invariants = invariants_rule
rule_number Labels = labels_rule

abbrev pub judge_error_number : JudgeError → ℕ
judge_error_number Oversized = oversized
judge_error_number (Misfit place) = misfitting

abbrev pub judge_error_place : JudgeError → ℕ
judge_error_place Oversized = 0
judge_error_place (Misfit place) = place

-- the error of a table that the check refuses
abbrev pub of_check : CheckError → JudgeError
of_check (CheckMisfit place) = Misfit place
of_check CheckTooManyWords = Oversized

-- a verdict, and an answer
abbrev pub verdict_of : Verdict → Judgement
verdict_of Fits = fits
verdict_of (Breaks b) = breach (rule_number b.rule) b.place

abbrev pub judgement_of : Result Verdict JudgeError → Judgement
judgement_of (Ok v) = verdict_of v
judgement_of (Err e) = refused (judge_error_number e) (judge_error_place e)
