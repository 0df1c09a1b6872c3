use Rattle.std.proofs.Common.{ℕ, List, [], map}
use Rattle.std.specs.Borrow.{Bor}
use Rattle.std.proofs.lemmas.List.{map_push}
use Rattle.sl_ast.specs.Trees.{BitRange}
use Rattle.sl_ast.specs.Views.{bit_range_of as seen}
use Rattle.sl_spec_rules.proofs.Seen.{below_map, read_map}
use Rattle.sl_spec_registers.proofs.FreshLemmas.{made_goes}
use Rattle.sl_spec_registers.proofs.bit_ranges.bit_range_names.Goals as goal

abbrev bytes : Bor (List ℕ) → List ℕ
bytes n = n.now

pub places-preserved : goal.places-preserved
places-preserved c =
    let given = c.args.given.now in
    let below = c.places-test.true in
    rw c.in_ok-push.ensures.items (rw (map_push bytes c.places.names.items _)
    (made_goes (λ (r : BitRange). r.name) [] (map seen given) (map bytes c.places.names.items) c.places.index _
    (below_map seen given c.places.index below) (read_map seen given c.places.index _ below) c.places.invariant))
