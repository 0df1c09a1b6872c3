use Rattle.std.proofs.Common.{[], map}
use Rattle.sl_ast.specs.Views.{member_of as seen}
use Rattle.sl_spec_rules.proofs.Seen.{below_map, read_map}
use Rattle.sl_spec_registers.proofs.FreshLemmas.{made_goes}
use Rattle.sl_spec_definitions.specs.AttachRules.{register_entry}
use Rattle.sl_spec_definitions.proofs.members.register_entries.Goals as goal

pub members-preserved : goal.members-preserved
members-preserved c =
    let members = c.args.members.now in
    let below = c.members-test.true in
    rw (c.in_ok-push.ensures.items, c.in_ok-entry.ensures) (made_goes (register_entry c.args.registers.now) [] (map seen members) c.members.entries.items c.members.index _
    (below_map seen members c.members.index below) (read_map seen members c.members.index _ below) c.members.invariant)
