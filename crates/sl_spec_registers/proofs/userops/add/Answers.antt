use Rattle.std.proofs.Common.{◌+◌, List, ℕ, drop, map, refl}
use Rattle.std.specs.Borrow.{Bor}
use Rattle.sl_spec_rules.proofs.Seen.{below_map, read_map}
use Rattle.sl_spec.specs.Tables.{UserOp}
use Rattle.sl_spec_registers.specs.UserOps.{userop_of}
use Rattle.sl_spec_registers.proofs.FreshLemmas.{first_is_free, made_goes, rest_at, rest_is_left}
use Rattle.sl_spec_registers.proofs.userops.add.Goals as goal

abbrev seen : Bor (List ℕ) → List ℕ
seen n = n.now

pub add-requires-clause-fresh : goal.add-requires-clause-fresh
add-requires-clause-fresh c =
    let names = map seen c.args.names.now in
    let below = below_map seen c.args.names.now c.names.index c.names-test.true in
    let at = read_map seen c.args.names.now c.names.index _ c.names-test.true in
    let rest = rest_at names c.names.index _ below at in
    first_is_free (λ (u : UserOp). u.name) c.names.userops _ (drop (c.names.index + 1) names) (drop c.names.index names) rest c.names.invariant.left

pub names-preserved : goal.names-preserved
names-preserved c =
    let names = map seen c.args.names.now in
    let below = below_map seen c.args.names.now c.names.index c.names-test.true in
    let at = read_map seen c.args.names.now c.names.index _ c.names-test.true in
    let rest = rest_at names c.names.index _ below at in
    rw c.in_ok-add.ensures.added (record {
      made = made_goes userop_of c.args.userops.now names c.names.userops c.names.index _ below at c.names.invariant.made;
      left = rest_is_left (λ (u : UserOp). u.name) c.names.userops _ (drop (c.names.index + 1) names) (drop c.names.index names) rest c.names.invariant.left _ refl;
    })
