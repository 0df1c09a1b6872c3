use Rattle.std.proofs.Common.{List, map, ap, ◌∙◌}
use Rattle.sl_decode_meaning.specs.Places.{Leaf}
use Rattle.sl_meaning_instruction.specs.Operands.{given_reference}
use Rattle.sl_build.proofs.slots.slots_of.Goals as goal

pub returns-clause-slots : goal.returns-clause-slots
returns-clause-slots c bytes n lengths =
    let t = c.args.t.now in
    let os = c.args.operands.now in
    c.in_ok-slots.ensures t bytes n lengths
    ∙ ap (λ (ls : List Leaf). map (λ o. given_reference t bytes n ls o.name o.means) os) (c.in_ok-leaves.ensures.leaves lengths)
