use Rattle.std.proofs.Common.{subst}
use Rattle.sl_section_equations.specs.Known.{exports_of}
use Rattle.sl_section_equations.specs.SizesIn.{address_in}
use Rattle.sl_word.specs.Sizes.{byte_counts}
use Rattle.sl_section_sizes.specs.ConstructorViews.{constructor_of}
use Rattle.sl_section_sizes.specs.Sizings as z
use Rattle.sl_section_sizes.proofs.sizing.next_sizes.Goals as goal

pub returns-in-Ok-clause-sizes : goal.returns-in-Ok-clause-sizes
returns-in-Ok-clause-sizes c =
    let address = address_in (byte_counts c.args.spaces.now) c.args.default.bytes in
    subst (λ xs. z.IsSized address (exports_of xs) (constructor_of c.args.constructor.now) c.in-Ok.sizes.items) c.as_slice.ensures.value c.in-Ok.ensures.sizes

pub returns-in-Err-clause-stop : goal.returns-in-Err-clause-stop
returns-in-Err-clause-stop c =
    let address = address_in (byte_counts c.args.spaces.now) c.args.default.bytes in
    subst (λ xs. z.StopsAt address (exports_of xs) (constructor_of c.args.constructor.now) c.in-Err.stop) c.as_slice.ensures.value c.in-Err.ensures.stop
