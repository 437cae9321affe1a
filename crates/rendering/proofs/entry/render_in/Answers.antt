-- The refusals 6 and 7, and the print of an accepted table by the numbers that the check notes.
use Rattle.std.proofs.Common.{ℕ, arith, sym, ap, ◌∙◌}
use lib.ListN.{length-replicate}
use Rattle.std.proofs.lemmas.Result.{err_from_is_err_and}
use Rattle.tree.specs.Check.{refusal as check_refusal}
use Rattle.rendering.proofs.EntryAnswers.{numbered, refused-table, accepted}
use Rattle.rendering.proofs.entry.render_in.Goals as goal

pub render_by-requires : goal.render_by-requires
render_by-requires g c = (
  omega arith,
  c.requires.indent,
  numbered c.args.text.now c.args.words.now _ c.args.root (λ h. let k = c.requires.words h in omega (arith, k, length-replicate {A = ℕ} g.row.SIZE 0))
      (sym c.count.ensures.0 ∙ ap check_refusal c.in_ok-count.was) c.count.ensures.1,
)

pub returns : goal.returns
returns g c =
    accepted c.args.settings c.args.root c.args.text.now
    c.args.words.now c.args.buffer.now _
    c.requires.text c.requires.indent
    (sym c.count.ensures.0 ∙ ap check_refusal c.in_ok-count.was) (rw c.from.ensures at c.render_by.ensures)

pub returns-in_err-count : goal.returns-in_err-count
returns-in_err-count g c =
    let p = err_from_is_err_and c.from_residual.result c.from_residual.ensures.1 in
    rw (p.1, p.2)
    (refused-table c.args.settings c.args.root c.args.text.now
    c.args.words.now c.args.buffer.now
    c.args.buffer.now c.requires.text c.requires.indent _
    (sym c.count.ensures.0 ∙ ap check_refusal c.in_err-count.was))
