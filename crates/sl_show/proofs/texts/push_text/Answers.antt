use Rattle.std.proofs.Common.{ap, ◌∙◌, ◌++◌}
use Rattle.sl_show.specs.Texts.{shown_text}
use Rattle.sl_show.proofs.FlatLemmas.{whole_rows}
use Rattle.sl_show.proofs.PartLemmas.{shown_is}
use Rattle.sl_show.proofs.texts.push_text.Goals as goal

pub returns : goal.returns
returns c constructors f are nodes values =
    c.in_ok-push_first.ensures.text f (whole_rows f c.args.of.values.now c.args.nodes.now nodes values)
    ∙ ap (λ text. c.make_room.new.out.items ++ text) (shown_is c.args.t.now c.args.templates.now constructors c.args.of.bytes.now f are)
    ∙ ap (λ before. before ++ shown_text c.args.t.now constructors c.args.of.bytes.now f) c.make_room.ensures
