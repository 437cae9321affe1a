-- What `render` made in the buffer, handed over.
use native.Mathlib.Omega.{arith}
use Rattle.std.proofs.Common.{ℕ}
use Rattle.std.proofs.lemmas.List.{length-replicate}
use Rattle.std.proofs.lemmas.Result.{err_from_is_err_and}
use Rattle.printing.proofs.EntryAnswers.{handed, refused-too}
use Rattle.printing.proofs.entry.print_through.Goals as goal

pub returns : goal.returns
returns g c =
    let l = length-replicate {A = ℕ} g.row.SIZE 0 in
    handed c.render.ensures c.args.out.now (omega (arith, l, c.requires.0)) (omega (arith, l, c.requires.1)) c.in_ok-n.was c.deliver.ensures

pub returns-in_err-n : goal.returns-in_err-n
returns-in_err-n g c =
    let l = length-replicate {A = ℕ} g.row.SIZE 0 in
    let p = err_from_is_err_and c.from_residual.result c.from_residual.ensures.1 in
    rw (p.1, p.2) (refused-too c.render.ensures c.args.out.now (omega (arith, l, c.requires.0)) (omega (arith, l, c.requires.1)) c.in_err-n.was)
