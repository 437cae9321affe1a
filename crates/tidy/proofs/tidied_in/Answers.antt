-- `tidied_in` meets its contract, by those of `read_program` and `print_program` (Answers).
use native.Mathlib.Omega.{arith}
use Rattle.std.proofs.Common.{ℕ}
use Rattle.std.proofs.lemmas.List.{length-replicate}
use Rattle.std.proofs.lemmas.Result.{err_from_is_err_and}
use Rattle.tidy.proofs.Answers.{gives-same, print-gives, print-fails, words-inside, words-printable, words-answered, reading-fails}
use Rattle.tidy.proofs.tidied_in.Goals as goal

pub returns-in_err-n : goal.returns-in_err-n
returns-in_err-n g c =
    let a = rw (length-replicate {A = ℕ} g.row.WORDS 0) at c.read_program.ensures in
    let p = err_from_is_err_and c.from_residual.result c.from_residual.ensures.1 in
    rw (p.1, p.2) (reading-fails _ _ _ c.read_program.result a c.in_err-n.was c.args.out.now)

pub shared_whole_as_front-print_program : goal.shared_whole_as_front-print_program
shared_whole_as_front-print_program g c =
    let a = rw (length-replicate {A = ℕ} g.row.WORDS 0) at c.read_program.ensures in
    (words-inside _ _ _ c.read_program.result a c.in_ok-n.was, omega (arith, c.requires))

pub returns-in_err-print_program : goal.returns-in_err-print_program
returns-in_err-print_program g c =
    let a = rw (length-replicate {A = ℕ} g.row.WORDS 0) at c.read_program.ensures in
    let p = err_from_is_err_and c.from_residual-in_err-print_program.result c.from_residual-in_err-print_program.ensures.1 in
    gives-same (words-answered _ _ _ c.read_program.result a c.in_ok-n.was c.args.out.now)
    (rw (p.1, p.2)
    (print-fails _ _ _ c.print_program.result _ c.print_program.ensures c.in_err-print_program.was (words-printable _ _ _ c.read_program.result a c.in_ok-n.was)))

pub returns : goal.returns
returns g c =
    let a = rw (length-replicate {A = ℕ} g.row.WORDS 0) at c.read_program.ensures in
    gives-same (words-answered _ _ _ c.read_program.result a c.in_ok-n.was c.args.out.now)
    (print-gives _ _ _ c.print_program.result _ c.print_program.ensures c.in_ok-print_program.was)
