use Rattle.std.proofs.Common.{◌<◌, ◌≤◌, length, arith, refl}
use Rattle.std.proofs.lemmas.Option.{slice_get_read}
use Rattle.sl_asm_known.proofs.ValueLemmas.{name_has, no_name}
use Rattle.sl_asm_known.proofs.values.name_bits.Goals as goal

pub returns-then-index-names : goal.returns-then-index-names
returns-then-index-names c =
    let names = c.args.names.now in
    let below : c.args.number < length names = omega arith in
    λ values are. name_has names values c.args.number c.index-names-index.result are
    (slice_get_read names (length names) c.args.number c.index-names-index.result refl below c.index-names-index.is)

pub returns : goal.returns
returns c =
    let names = c.args.names.now in
    let past : length names ≤ c.args.number = omega arith in
    λ values are. no_name names values c.args.number c.exact.result are past c.exact.ensures.has
