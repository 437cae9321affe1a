-- `outline_program` meets its contract: of an accepted table the kinds and ends are copied, of a refused one nothing is.
use native.Mathlib.Omega.{arith}
use mathlib.Core.Path.{sym, ap, ◌∙◌}
use Rattle.std.proofs.lemmas.Result.{err_from_is_err_and}
use Rattle.tree.specs.Check.{check_program, refusal, program_refusal}
use Rattle.tree.proofs.OutlineAnswers.{accepted, refusal-of, refused-keeps, kinds-copied, ends-copied}
use Rattle.tree.proofs.outline_program.Goals as goal

pub find_ends-requires : goal.find_ends-requires
unfolding check_program
find_ends-requires c = (accepted c.args.words.now c.args.text_len c.in_ok-count.was c.count.ensures.0).0

pub returns : goal.returns
unfolding check_program program_refusal
returns c =
    let s = c.args in
    let w = s.words.now in
    let was = c.in_ok-count.was in
    let h = sym was ∙ c.count.ensures.0 in
    let a = accepted w s.text_len was c.count.ensures.0 in
    let e = refusal-of w s.text_len h in
    let n = c.count.ensures.2 was in (
      ap refusal h,
      kinds-copied w s.text_len e a.1 _ (omega (arith, a.0, c.blank-noted.ensures)) n s.kinds.now c.fill.ensures,
      ends-copied w s.text_len e a.1 _ (omega (arith, a.0, c.blank-noted.ensures)) n _ s.ends.now (omega (arith, a.0, c.blank-found.ensures)) c.find_ends.ensures c.fill-2.ensures,
    )

pub returns-in_err-count : goal.returns-in_err-count
unfolding check_program program_refusal
returns-in_err-count c =
    let s = c.args in
    let h = sym c.in_err-count.was ∙ c.count.ensures.0 in
    let e = refusal-of s.words.now s.text_len h in
    let p = err_from_is_err_and c.from_residual.result c.from_residual.ensures.1 in
    rw (p.1, p.2) (ap refusal h, (refused-keeps s.words.now s.text_len e s.kinds.now).0, (refused-keeps s.words.now s.text_len e s.ends.now).1)
