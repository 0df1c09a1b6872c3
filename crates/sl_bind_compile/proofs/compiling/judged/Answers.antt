use Rattle.sl_section_sizes.specs.Sizings.{lists_of}
use Rattle.sl_bind_compile.proofs.compiling.judged.Goals as goal

pub checked-requires : goal.checked-requires
checked-requires c = (lists_of c.args.bound.sizes.items, c.requires)
