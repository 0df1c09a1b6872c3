use Rattle.std.proofs.Common.{◌^◌, arith}
use Rattle.std.proofs.lemmas.Nat.{mod_below}
use Rattle.sl_word.proofs.Powers.{bytes_pos}
use Rattle.sl_build_emit.proofs.varnodes.residue.Goals as goal

pub overflow_sub-result : goal.overflow_sub-result
overflow_sub-result c =
    let low = mod_below c.in-Below.v (256 ^ c.args.n.bytes) (bytes_pos c.args.n.bytes) in
    omega (arith, low, c.greatest.ensures, c.cut-in-Below.ensures)
