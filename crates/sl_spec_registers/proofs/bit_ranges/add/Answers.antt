use Rattle.std.proofs.Common.{◌+◌, drop, map, refl, ap, arith}
use Rattle.sl_ast.specs.Views.{bit_range_of as seen}
use Rattle.sl_spec_rules.proofs.Seen.{below_map, read_map}
use Rattle.sl_spec.specs.Tables.{BitRange}
use Rattle.sl_spec_registers.specs.RegisterRules.{bit_range_names, bit_range_of}
use Rattle.sl_spec_registers.proofs.BitRangeLemmas.{range_is_small}
use Rattle.sl_spec_registers.proofs.FreshLemmas.{first_is_free, made_goes, rest_at, rest_is_left}
use Rattle.sl_spec_registers.proofs.bit_ranges.add.Goals as goal

pub overflow_cast-added : goal.overflow_cast-added
overflow_cast-added c =
    let ranges = c.args.given.now in
    let below = c.places-test.true in
    let is_small = range_is_small c.args.registers.now (map seen ranges) c.places.index _ (below_map seen ranges c.places.index below) (read_map seen ranges c.places.index _ below) c.requires.within
    c.bits_in-bits.result c.bits_in-bits.ensures.is c.bits_in-bits.ensures.most in
    omega (arith, is_small.0)

pub overflow_cast-added-in-places : goal.overflow_cast-added-in-places
overflow_cast-added-in-places c =
    let ranges = c.args.given.now in
    let below = c.places-test.true in
    let is_small = range_is_small c.args.registers.now (map seen ranges) c.places.index _ (below_map seen ranges c.places.index below) (read_map seen ranges c.places.index _ below) c.requires.within
    c.bits_in-bits.result c.bits_in-bits.ensures.is c.bits_in-bits.ensures.most in
    omega (arith, is_small.1)

pub add-requires-clause-fresh : goal.add-requires-clause-fresh
add-requires-clause-fresh c =
    let ranges = c.args.given.now in
    let given = map seen ranges in
    let below = c.places-test.true in
    let at = read_map seen ranges c.places.index _ below in
    let rest = ap bit_range_names (rest_at given c.places.index _ (below_map seen ranges c.places.index below) at) in
    first_is_free (λ (r : BitRange). r.name) c.places.bitranges _ (bit_range_names (drop (c.places.index + 1) given)) (bit_range_names (drop c.places.index given)) rest c.places.invariant.left

pub places-preserved : goal.places-preserved
places-preserved c =
    let ranges = c.args.given.now in
    let given = map seen ranges in
    let registers = c.args.registers.now in
    let below = c.places-test.true in
    let at = read_map seen ranges c.places.index _ below in
    let rest = ap bit_range_names (rest_at given c.places.index _ (below_map seen ranges c.places.index below) at) in
    rw (c.in_ok-add.ensures.added, c.unwrap_or.ensures, c.in_ok-number.ensures) (record {
      made = made_goes (bit_range_of registers) c.args.bitranges.now given c.places.bitranges c.places.index _ (below_map seen ranges c.places.index below) at c.places.invariant.made;
      left = rest_is_left (λ (r : BitRange). r.name) c.places.bitranges _ (bit_range_names (drop (c.places.index + 1) given)) (bit_range_names (drop c.places.index given)) rest c.places.invariant.left
          _ refl;
    })
