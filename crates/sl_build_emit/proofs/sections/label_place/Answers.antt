use Rattle.std.proofs.Common.{◌≡◌, ℕ, List, [], drop, ap, sym, ◌∙◌, arith}
use Rattle.std.proofs.Math.ListN.{drop_of_length-le}
use Rattle.sl_build_emit.proofs.SectionLemmas.{scan_none}
use Rattle.sl_build_emit.specs.Views.{scan}
use Rattle.sl_section_flat.specs.Views.{label_of}
use Rattle.sl_build_template.specs.Views.{parts_of}
use Rattle.sl_build_emit.proofs.sections.label_place.Goals as goal

pub returns-then-lengths-index : goal.returns-then-lengths-index
returns-then-lengths-index c =
    let rest = parts_of (drop c.parts.index c.args.parts.now) in
    let none : drop c.parts.index c.args.lengths.now ≡ [] = drop_of_length-le c.args.lengths.now (omega (arith, c.if-lengths-index.true)) in
    sym (ap (λ (ns : List ℕ). scan rest ns (label_of c.args.l) c.parts.place) none ∙ scan_none rest (label_of c.args.l) c.parts.place)
    ∙ c.parts.invariant
