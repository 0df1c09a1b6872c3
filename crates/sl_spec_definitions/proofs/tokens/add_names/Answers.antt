use Rattle.std.proofs.Common.{ℕ, List, map}
use Rattle.std.specs.Borrow.{Bor}
use Rattle.std.proofs.lemmas.List.{map_push}
use Rattle.sl_ast.specs.Trees.{Field}
use Rattle.sl_ast.specs.Views.{field_of as seen}
use Rattle.sl_spec_rules.proofs.Seen.{below_map, read_map}
use Rattle.sl_spec_registers.proofs.FreshLemmas.{made_goes}
use Rattle.sl_spec_definitions.proofs.tokens.add_names.Goals as goal

abbrev bytes : Bor (List ℕ) → List ℕ
bytes n = n.now

pub fields-preserved : goal.fields-preserved
fields-preserved c =
    let fields = c.args.fields.now in
    let below = c.fields-test.true in
    rw c.in_ok-push.ensures.items (rw (map_push bytes c.fields.names.items _)
    (made_goes (λ (f : Field). f.name) (map bytes c.args.names.now.items) (map seen fields) (map bytes c.fields.names.items) c.fields.index _
    (below_map seen fields c.fields.index below) (read_map seen fields c.fields.index c.index-fields-index.result below) c.fields.invariant))
