use Rattle.std.proofs.Common.{◌<◌, ◌+◌, ◌^◌, ap, ◌∙◌, ◌++◌, length, min, rules}
use Rattle.sl_decode_leaves.specs.Extents.{extent}
use Rattle.sl_show.specs.Texts.{lengths_of}
use Rattle.sl_show.proofs.PartLemmas.{same_place}
use Rattle.sl_show.proofs.texts.push_field_at.Goals as goal

pub returns-clause-text : goal.returns-clause-text
returns-clause-text c values f e =
    let few : length c.args.bytes.now < 2 ^ 63 = search rules in
    c.in_ok-push_field.ensures
    ∙ ap (λ text. c.args.out.now.items ++ text)
    (same_place c.args.t.now c.args.id c.args.bytes.now c.args.node.now.context c.args.node.now.at (extent c.args.place.now (lengths_of f)) c.extent_among.result c.saturating_add-at.result few
    (c.extent_among.ensures values f e) (c.saturating_add-at.ensures ∙ ap (λ n. min (n + c.extent_among.result) 18446744073709551615) c.from.ensures))
