use Rattle.std.proofs.Common.{IfErr, IfOk, Option, List, ℕ, ap, ◌∙◌}
use Rattle.sl_section_equations.specs.Known.{exports_of}
use Rattle.sl_section_equations.specs.SizesIn.{address_in, size_in}
use Rattle.sl_word.specs.Sizes.{byte_counts}
use Rattle.sl_section_sizes.specs.ConstructorViews.{constructor_of}
use Rattle.sl_section_sizes.specs.Sizings as z
use Rattle.sl_section_sizes.proofs.ExportLemmas.{by_two}
use Rattle.sl_section_sizes.proofs.sizing.sized_behind.Goals as goal

pub returns-clause-sizes : goal.returns-clause-sizes
returns-clause-sizes c =
    let address = address_in (byte_counts c.args.spaces.now) c.args.default.bytes in
    by_two (λ (os : List (Option ℕ)) (e : Option ℕ). IfOk c.sized.result (λ sizes. z.IsSizedBy address (size_in os) e (constructor_of c.args.constructor.now) sizes.items))
    (ap exports_of c.as_slice-operands.ensures.value ∙ c.in-Ok.ensures) c.size_in-earlier.ensures c.sized.ensures.sizes

pub returns-clause-stop : goal.returns-clause-stop
returns-clause-stop c =
    let address = address_in (byte_counts c.args.spaces.now) c.args.default.bytes in
    by_two (λ (os : List (Option ℕ)) (e : Option ℕ). IfErr c.sized.result (z.StopsBy address (size_in os) e (constructor_of c.args.constructor.now)))
    (ap exports_of c.as_slice-operands.ensures.value ∙ c.in-Ok.ensures) c.size_in-earlier.ensures c.sized.ensures.stop
