use Rattle.std.proofs.Common.{ap, sym, ◌∙◌}
use Rattle.sl_section_sizes.specs.Putting.{put_one}
use Rattle.sl_section_sizes.proofs.PutLemmas.{lists_set}
use Rattle.sl_section_sizes.specs.Sizings.{lists_of}
use Rattle.sl_section_sizes.proofs.putting.put.Goals as goal

pub returns-then-number-len : goal.returns-then-number-len
returns-then-number-len c =
    let all = c.args.all.now.items in
    lists_set all c.in-Some.number c.args.sizes ∙ ap (λ o. put_one (lists_of all) o c.args.sizes.items) (sym c.in-Some.is)
