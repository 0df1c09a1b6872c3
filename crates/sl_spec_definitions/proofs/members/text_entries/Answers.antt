use Rattle.std.proofs.Common.{ℕ, List, [], map, Option, option_map}
use Rattle.std.specs.Borrow.{Bor}
use Rattle.std.proofs.lemmas.List.{map_push}
use Rattle.sl_ast.specs.Views.{member_of as seen}
use Rattle.sl_spec_rules.proofs.Seen.{below_map, read_map}
use Rattle.sl_spec_registers.proofs.FreshLemmas.{made_goes}
use Rattle.sl_spec_definitions.specs.AttachRules.{text_entry}
use Rattle.sl_spec_definitions.proofs.members.text_entries.Goals as goal

abbrev bytes : Option (Bor (List ℕ)) → Option (List ℕ)
bytes e = option_map (λ t. t.now) e

pub members-preserved : goal.members-preserved
members-preserved c =
    let members = c.args.members.now in
    let below = c.members-test.true in
    rw c.in_ok-push.ensures.items (rw (map_push bytes c.members.entries.items _) (rw c.text_entry-entry.ensures
    (made_goes text_entry [] (map seen members) (map bytes c.members.entries.items) c.members.index _ (below_map seen members c.members.index below)
    (read_map seen members c.members.index _ below) c.members.invariant)))
