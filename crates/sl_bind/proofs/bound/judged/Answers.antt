use Rattle.std.proofs.lemmas.Result.{err_from_is_err_and}
use Rattle.sl_bind.proofs.bound.judged.Goals as goal

pub returns-in_err-late : goal.returns-in_err-late
returns-in_err-late c =
    let p = err_from_is_err_and c.from_residual.result c.from_residual.ensures.1 in
    rw (p.1, p.2) tt
