use Rattle.std.proofs.Common.{◌<◌, ◌+◌, ◌^◌, ap, ◌∙◌, length, min, rules}
use Rattle.sl_decode_leaves.specs.Extents.{extent}
use Rattle.sl_build.proofs.FieldLemmas.{same_place}
use Rattle.sl_build.proofs.fields.field_at.Goals as goal

pub returns : goal.returns
returns c =
    let few : length c.args.bytes.now < 2 ^ 63 = search rules in
    c.field_reference.ensures
    ∙ same_place c.args.t.now c.args.id c.args.bytes.now c.args.context c.args.at (extent c.args.place.now c.args.lengths.now) c.extent_of.result c.saturating_add-at.result few
    c.extent_of.ensures (c.saturating_add-at.ensures ∙ ap (λ n. min (n + c.extent_of.result) 18446744073709551615) c.from.ensures)
