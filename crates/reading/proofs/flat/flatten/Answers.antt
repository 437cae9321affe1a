-- `flat::flatten` meets its contract, by that of `Writer::tree` (Words).
use Rattle.std.proofs.Common.{refl, rules}
use Rattle.std.proofs.lemmas.Result.{err_from_is_err_and}
use Rattle.reading.proofs.flat.Words.{all-written, not-all}
use Rattle.reading.proofs.flat.flatten.Goals as goal

pub returns : goal.returns
returns c = λ f h. all-written (c.tree.ensures f h) refl c.requires.clear c.in_ok-tree.was (λ e. search rules)

pub returns-in_err-tree : goal.returns-in_err-tree
returns-in_err-tree c = λ f h.
    let e = err_from_is_err_and c.from_residual.result c.from_residual.ensures.1 in
    rw e.1 (not-all (c.tree.ensures f h) refl c.requires.clear c.in_err-tree.was)
