use Rattle.std.proofs.Common.{ℕ, length, refl, subst}
use Rattle.std.proofs.lemmas.Option.{slice_get_read}
use Rattle.sl_gap.specs.Findings.{AreMatched}
use Rattle.sl_gap.proofs.HoleLemmas.{matched_some}
use Rattle.sl_gap.proofs.holes.cubes_at.Goals as goal

pub returns : goal.returns
returns c = λ t cs are.
    let k = c.in-Some.kept.now in
    let found = c.in-Some.ensures.lookup in
    let there = slice_get_read c.args.tables.now (length c.args.tables.now) c.table.inside.0 k refl found.3.0 found.1 in
    subst (λ (n : ℕ). AreMatched t cs n c.in_ok-cubes.cubes.items) c.table.view_is
    (matched_some t cs c.args.tables.now are c.table.inside.0 k there c.in_ok-cubes.cubes.items c.in_ok-cubes.ensures)
