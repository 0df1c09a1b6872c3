use Rattle.sl_build.proofs.sections.Sections.list.Goals as goal

pub returns : goal.returns
returns c s f stands row values =
    c.in_ok-list.ensures s f c.args.of.address c.args.of.after stands c.address_number.ensures c.address_number-2.ensures c.in_ok-top.ensures.value row values
