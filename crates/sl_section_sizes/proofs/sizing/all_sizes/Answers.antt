use Rattle.std.proofs.Common.{◌≡◌, ◌+◌, ◌++◌, ◌∷◌, [], List, None, replicate, arith, rules, sym, subst}
use Rattle.std.proofs.lemmas.List.{map-append}
use Rattle.sl_section_equations.specs.Known.{exports_of}
use Rattle.sl_section_equations.specs.SizesIn.{address_in}
use Rattle.sl_word.specs.Sizes.{byte_counts}
use Rattle.sl_word.specs.declared.word.Size.{Size}
use Rattle.sl_section_sizes.specs.ConstructorViews.{constructor_of, constructors_of}
use Rattle.sl_section_sizes.specs.Sizings as z
use Rattle.sl_spec_rules.proofs.Seen.{below_map, past_map, seen_map}
use Rattle.sl_section_sizes.proofs.RunLemmas.{IsRun, error_of, run_ends, run_goes, run_stops}
use Rattle.sl_section_sizes.proofs.sizing.all_sizes.Goals as goal

pub returns-in-Err-next_sizes-clause-error : goal.returns-in-Err-next_sizes-clause-error
returns-in-Err-next_sizes-clause-error c =
    let address = address_in (byte_counts c.args.spaces.now) c.args.default.bytes in
    let start = replicate c.args.tables None in
    let cs = constructors_of c.args.constructors.now in
    let stop = c.in-Err-next_sizes.stop in
    let here = run_stops address start cs (exports_of c.constructors.exports.items) (z.lists_of c.constructors.sections.items) c.constructors.index
    (constructor_of c.index-constructors-index.result) stop (below_map constructor_of c.args.constructors.now c.constructors.index c.constructors-test.true) (seen_map constructor_of c.args.constructors.now c.constructors.index c.index-constructors-index.result c.constructors-test.true c.index-constructors-index.is) c.in-Err-next_sizes.ensures.stop c.constructors.invariant in
    subst (z.IsError address start cs) (sym c.error_at.ensures) (error_of address start cs c.constructors.index stop here)

pub constructors-preserved : goal.constructors-preserved
constructors-preserved c =
    let address = address_in (byte_counts c.args.spaces.now) c.args.default.bytes in
    let start = replicate c.args.tables None in
    let cs = constructors_of c.args.constructors.now in
    let sizes = c.in-Ok-next_sizes.sizes in
    let here = run_goes address start cs (exports_of c.constructors.exports.items) (exports_of c.next_sizes.new.exports.items) (z.lists_of c.constructors.sections.items)
    c.constructors.index (constructor_of c.index-constructors-index.result) sizes.items (below_map constructor_of c.args.constructors.now c.constructors.index c.constructors-test.true) (seen_map constructor_of c.args.constructors.now c.constructors.index c.index-constructors-index.result c.constructors-test.true c.index-constructors-index.is)
    c.in-Ok-next_sizes.ensures.sizes c.in-Ok-next_sizes.ensures.kept c.constructors.invariant in
    let pushed : z.lists_of c.push.new.self.items ≡ z.lists_of c.constructors.sections.items ++ sizes.items ∷ [] = search (rules, map-append) in
    subst (λ (l : List (List Size)). IsRun address start cs (exports_of c.next_sizes.new.exports.items) l (c.constructors.index + 1)) (sym pushed) here

pub returns-clause-sizes : goal.returns-clause-sizes
returns-clause-sizes c =
    run_ends (address_in (byte_counts c.args.spaces.now) c.args.default.bytes) (replicate c.args.tables None) (constructors_of c.args.constructors.now)
    (exports_of c.constructors.exports.items) (z.lists_of c.constructors.sections.items) c.constructors.index (past_map constructor_of c.args.constructors.now c.constructors.index c.constructors-test.false) c.constructors.invariant
