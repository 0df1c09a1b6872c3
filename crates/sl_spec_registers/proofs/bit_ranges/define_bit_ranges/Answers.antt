use Rattle.std.proofs.Common.{ℕ, List, map, sym, ap, ◌∙◌}
use Rattle.std.specs.Borrow.{Bor}
use Rattle.sl_ast.specs.Views.{bit_range_of as seen}
use Rattle.sl_spec_rules.proofs.ListLemmas.{all_map}
use Rattle.sl_spec_registers.specs.NewNames.{are_new}
use Rattle.sl_spec_registers.specs.RegisterRules.{bit_range_names, is_bit_range}
use Rattle.sl_spec_registers.proofs.FreshLemmas.{are_free}
use Rattle.sl_spec_registers.proofs.bit_ranges.define_bit_ranges.Goals as goal

abbrev bytes : Bor (List ℕ) → List ℕ
bytes n = n.now

pub add-requires-clause-within : goal.add-requires-clause-within
add-requires-clause-within c =
    all_map (is_bit_range c.args.t.now.registers) seen c.args.given.now ∙ sym c.all_bit_ranges.ensures ∙ c.if-not-all_bit_ranges.false

pub add-requires-clause-fresh : goal.add-requires-clause-fresh
add-requires-clause-fresh c =
    let t = c.args.t.now in
    let same = ap (are_new t) (ap (map bytes) c.as_slice.ensures.value ∙ c.in_ok-names.ensures) in
    (are_free t (bit_range_names (map seen c.args.given.now)) (sym same ∙ (sym c.in_ok-are_new.ensures.is ∙ c.if-not-branch.false))).bitranges
