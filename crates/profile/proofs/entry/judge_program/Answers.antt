-- `judge_program` meets its contract: refusals 6 and 7, and the verdict on a table that the check accepts.
use Rattle.std.proofs.Common.{sym, ap, ◌∙◌}
use Rattle.std.proofs.lemmas.Result.{err_from_is_err_and}
use Rattle.tree.specs.Check.{refusal}
use Rattle.profile.proofs.JudgeLaws.{long-judged, refused-judged, few-words, judged}
use Rattle.profile.proofs.entry.judge_program.Goals as goal

pub returns-then-text-gt-MOST_TEXT : goal.returns-then-text-gt-MOST_TEXT
returns-then-text-gt-MOST_TEXT c = long-judged c.args.text.now c.args.words.now c.if-text-gt-MOST_TEXT.true

pub returns-in_err-outline_program : goal.returns-in_err-outline_program
returns-in_err-outline_program c =
    let p = err_from_is_err_and c.from_residual.result c.from_residual.ensures.1 in
    rw (p.1, p.2)
    (refused-judged c.args.text.now c.args.words.now c.if-text-gt-MOST_TEXT.false _ (sym (ap refusal c.in_err-outline_program.was) ∙ c.outline_program.ensures.0))

pub invariant_of-outline : goal.invariant_of-outline
invariant_of-outline c =
    record {
      short = c.if-text-gt-MOST_TEXT.false;
      few = few-words c.args.text.now c.args.words.now (sym (ap refusal c.in_ok-outline_program.was) ∙ c.outline_program.ensures.0);
    }

pub returns : goal.returns
returns c =
    judged c.args.text.now c.args.words.now (sym (ap refusal c.in_ok-outline_program.was) ∙ c.outline_program.ensures.0)
    _ _ c.outline_program.ensures.1 c.outline_program.ensures.2 c.blank-kinds.ensures.room c.blank-kinds.ensures.zero c.blank-ends.ensures.room c.blank-ends.ensures.zero
    _ c.if-text-gt-MOST_TEXT.false c.judge.ensures
