use Rattle.std.proofs.Common.{◌+◌, ℕ, List, drop, map, refl, sym, ap, ◌∙◌}
use Rattle.std.specs.Borrow.{Bor}
use Rattle.sl_spec_rules.proofs.Seen.{below_map, read_map}
use Rattle.sl_spec.specs.Attachments.{is_attached}
use Rattle.sl_spec.specs.Tables.{Attached}
use Rattle.sl_spec.specs.Views.{entries_of}
use Rattle.sl_spec_registers.proofs.FreshLemmas.{made_goes, rest_at}
use Rattle.sl_spec_definitions.specs.AttachRules.{are_open, attachment}
use Rattle.sl_spec_definitions.proofs.AttachLemmas.{first_is_free, rest_is_left}
use Rattle.sl_spec_definitions.proofs.attached.add.Goals as goal

abbrev seen : Bor (List ℕ) → List ℕ
seen n = n.now

pub add-requires : goal.add-requires
add-requires c =
    let names = map seen c.args.names.now in
    let below = below_map seen c.args.names.now c.names.index c.names-test.true in
    let at = read_map seen c.args.names.now c.names.index _ c.names-test.true in
    let left = ap (are_open c.args.fields.now c.names.attached) (sym (rest_at names c.names.index _ below at)) ∙ c.names.invariant.left in
    ap (λ (a : Attached). is_attached a.field c.names.attached) c.in_ok-added.ensures
    ∙ first_is_free c.args.fields.now c.names.attached _ (drop (c.names.index + 1) names) left

pub names-preserved : goal.names-preserved
names-preserved c =
    let names = map seen c.args.names.now in
    let fields = c.args.fields.now in
    let below = below_map seen c.args.names.now c.names.index c.names-test.true in
    let at = read_map seen c.args.names.now c.names.index _ c.names-test.true in
    let left = ap (are_open fields c.names.attached) (sym (rest_at names c.names.index _ below at)) ∙ c.names.invariant.left in
    rw (c.in_ok-add.ensures.added, c.in_ok-added.ensures) (record {
      made = made_goes (attachment fields (entries_of c.args.entries.now.value)) c.args.attached.now names c.names.attached c.names.index _ below at c.names.invariant.made;
      left = rest_is_left fields c.names.attached _ _ (drop (c.names.index + 1) names) refl left;
    })
