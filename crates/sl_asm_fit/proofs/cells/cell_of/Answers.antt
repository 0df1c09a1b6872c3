use Rattle.std.proofs.Common.{◌*◌, ◌-◌}
use Rattle.sl_asm_fit.proofs.BitLemmas.{byte_within}
use Rattle.sl_asm_fit.proofs.cells.cell_of.Goals as goal

pub invariant_of-result : goal.invariant_of-result
invariant_of-result c =
    let cube = c.args.cube.now in
    record { within = byte_within cube.value cube.mask c.byte_of-2.result c.byte_of.result (8 * (15 - c.args.index)) cube.within c.byte_of-2.type_inv c.byte_of-2.ensures c.byte_of.ensures }

pub returns : goal.returns
returns c = record { byte = c.byte_of.type_inv; mask = c.byte_of.ensures; value = c.byte_of-2.ensures }
