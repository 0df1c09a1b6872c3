use Rattle.std.proofs.Common.{ap, ◌∙◌}
use Rattle.std.specs.Option.{option_map}
use Rattle.sl_decode_leaves.specs.Extents.{extent}
use Rattle.sl_decode_leaves.specs.declared.leaves.Leaf as l
use Rattle.sl_decode_leaves.proofs.FirstLemmas.{first_named}
use Rattle.sl_decode_leaves.proofs.leaves.first_of.Goals as goal

pub returns-in-Some : goal.returns-in-Some
returns-in-Some c = λ lengths.
    ap (option_map (λ (x : l.Leaf). extent x.place lengths)) c.in-Some.ensures ∙ first_named lengths c.args.name.now c.args.leaves.now

pub returns-in-None : goal.returns-in-None
returns-in-None c = λ lengths.
    ap (option_map (λ (x : l.Leaf). extent x.place lengths)) c.in-None.ensures ∙ first_named lengths c.args.name.now c.args.leaves.now
