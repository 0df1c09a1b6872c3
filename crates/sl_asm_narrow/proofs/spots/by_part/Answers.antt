use Rattle.std.proofs.Common.{subst, sym}
use Rattle.std.specs.Prelude.{option_map}
use Rattle.sl_asm_narrow.proofs.SpotLemmas.{by_place}
use Rattle.sl_asm_narrow.specs.Spots.{KeepsPart}
use Rattle.sl_show.specs.declared.templates.Part.{Part}
use Rattle.sl_asm_narrow.proofs.spots.by_part.Goals as goal

pub returns-clause-keeps : goal.returns-clause-keeps
returns-clause-keeps c =
    let found = option_map (λ v. v.items) c.in_ok-found.found in
    subst (λ (q : Part). KeepsPart c.args.t.now c.args.region.items c.args.lengths.now c.args.goal.now.at c.args.goal.now.context q c.args.text.now found) (sym c.in-Field.is)
    (by_place c.args.t.now c.args.lengths.now c.args.goal.now.at c.args.goal.now.context c.args.region.items c.in-Field.id c.in-Some.place c.in-Field.place c.args.text.now found c.in-Some.ensures.place c.in_ok-found.ensures.keeps)
