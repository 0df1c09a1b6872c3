use Rattle.std.proofs.Common.{◌≡◌, ◌≤◌, ◌<◌, ℕ, List, Option, None, Some, Vec, Global, length, arith, refl, ap, subst, sym, ◌∙◌}
use Rattle.std.specs.Prelude.{option_map, slice_get}
use denote.Ref.{Bor}
use Rattle.std.proofs.lemmas.Bool.{ltb-true}
use Rattle.std.proofs.lemmas.Option.{same_Some, slice_get_read}
use Rattle.sl_asm_bounds.specs.Bounds.{AreAsLong, IsOfSome}
use Rattle.sl_asm_bounds.specs.declared.bounds.Bounds.{Bounds}
use Rattle.sl_asm_fit.specs.declared.Cell.{Cell}
use Rattle.sl_asm_narrow.proofs.NodeLemmas.{all_places, all_ways, by_constructor, more_places, more_ways, not_shown, nowhere, whole_text, without_text}
use Rattle.sl_asm_narrow.proofs.OperandLemmas.{reaches_all, reaches_more, reaches_none, reaches_nothing}
use Rattle.sl_asm_narrow.specs.Nodes.{BoundsOperand, HoldAll}
use Rattle.sl_asm_narrow.specs.Readers.{parts_at}
use Rattle.sl_asm_narrow.specs.declared.operands.Operands.{Operands}
use Rattle.sl_decode_plan.specs.declared.plans.Slot.{Slot}
use Rattle.sl_asm_narrow.proofs.reader.Reader.+reading.Goals as goal
use Rattle.sl_asm_narrow.proofs.reader.Reader.+reading.Goals.{table-then-may_begin+in_ok-one+in_ok-all, table-else-may_begin}

-- ---- constructor

pub constructor-returns-then-not-may_be_shown-clause-bounds : goal.constructor-returns-then-not-may_be_shown-clause-bounds
constructor-returns-then-not-may_be_shown-clause-bounds t c =
    let kept = c.args.kept.now in
    let number = c.index-number.result.now in
    let number_is = slice_get_read kept.ctors.items (length kept.ctors.items) c.args.place number refl c.requires.there c.index-number.ensures in
    not_shown c.args.self.now c.requires.ready c.args.setting.now c.args.region.now kept c.args.place c.args.goal.now number number_is
    c.parts-parts.result.now c.parts-parts.ensures c.may_be_shown.result c.if-not-may_be_shown.true c.may_be_shown.ensures

pub constructor-returns-in_default-narrow-clause-bounds : goal.constructor-returns-in_default-narrow-clause-bounds
constructor-returns-in_default-narrow-clause-bounds t c =
    let kept = c.args.kept.now in
    let number = c.index-number.result.now in
    let number_is = slice_get_read kept.ctors.items (length kept.ctors.items) c.args.place number refl c.requires.there c.index-number.ensures in
    let there : c.args.place < length kept.sets.items = omega (arith, c.requires.there, c.requires.paired) in
    let set_is = slice_get_read kept.sets.items (length kept.sets.items) c.args.place c.index-set.result.now refl there c.index-set.ensures in
    let keeps = rw c.deref-2.ensures.value at c.in_ok-narrow.ensures.keeps in
    nowhere c.args.self.now c.requires.ready c.args.setting.now c.args.region.now kept c.args.place c.args.goal.now number number_is
    c.parts-parts.result.now c.parts-parts.ensures c.index-set.result.now set_is
    (λ bytes is. subst (λ (o : Option (Vec Cell Global)). IsOfSome (option_map (λ v. v.items) o) bytes) c.in_default-narrow.is (keeps bytes is))

pub constructor-returns-clause-bounds : goal.constructor-returns-clause-bounds
constructor-returns-clause-bounds t c =
    let kept = c.args.kept.now in
    let plans = c.args.self.now.plans.items in
    let number = c.index-number.result.now in
    let number_is = slice_get_read kept.ctors.items (length kept.ctors.items) c.args.place number refl c.requires.there c.index-number.ensures in
    let there : c.args.place < length kept.sets.items = omega (arith, c.requires.there, c.requires.paired) in
    let set_is = slice_get_read kept.sets.items (length kept.sets.items) c.args.place c.index-set.result.now refl there c.index-set.ensures in
    let plan = c.in-Some.plan.now in
    let lookup = rw c.deref.ensures.value at c.in-Some.ensures.lookup in
    let plan_is = slice_get_read plans (length plans) number plan refl (ltb-true number (length plans) (sym lookup.0)) lookup.1 in
    let keeps = rw c.deref-2.ensures.value at c.in_ok-narrow.ensures.keeps in
    let cells = c.in-Some-narrow.cells.items in
    let acts = rw c.deref-3.ensures.value at c.after_actions-after.ensures.context in
    let bounds = rw c.deref-4.ensures.value at c.in_ok-found.ensures.bounds in
    by_constructor c.args.self.now c.requires.ready c.args.setting.now c.args.region.now kept c.args.place c.args.goal.now number number_is
    c.parts-parts.result.now c.parts-parts.ensures c.index-set.result.now set_is cells plan c.after_actions-after.result c.in_ok-found.found plan_is
    (λ bytes is. subst (λ (o : Option (Vec Cell Global)). IsOfSome (option_map (λ v. v.items) o) bytes) c.in-Some-narrow.is (keeps bytes is))
    c.after_actions-after.ensures.at c.after_actions-after.ensures.text acts bounds

-- ---- displayed

pub displayed-returns-in_default-clause-bounds : goal.displayed-returns-in_default-clause-bounds
displayed-returns-in_default-clause-bounds t c =
    without_text c.args.self.now c.args.setting.now c.args.region.now c.args.plan.now c.args.parts.now c.args.goal.now _ c.in_ok-found.ensures.bounds

pub displayed-returns-then-is_alone-clause-bounds : goal.displayed-returns-then-is_alone-clause-bounds
displayed-returns-then-is_alone-clause-bounds t c =
    whole_text c.args.self.now c.args.setting.now c.args.region.now c.args.plan.now c.args.parts.now c.args.goal.now c.in-Some.text c.in_ok-found-2.found c.in-Some.is
    (c.if-is_alone.ensures refl) c.in_ok-found-2.ensures.bounds

pub displayed-ways-preserved : goal.displayed-ways-preserved
displayed-ways-preserved t c =
    let ways = c.in_ok-ways.ways.items in
    let i = c.ways.index in
    let within : i < length ways = omega arith in
    let way_is = slice_get_read ways (length ways) i c.index.result.now refl within c.index.ensures in record {
      first = more_ways c.args.self.now c.args.setting.now c.args.region.now c.args.plan.now c.args.parts.now c.args.goal.now ways i c.as_slice.result.now
          c.ways.all c.in_ok-one.one c.in_ok-all.all
          (λ way is. ap (λ (v : Vec (Bor (List ℕ)) Global). v.items) (same_Some way c.index.result.now (sym is ∙ way_is)) ∙ sym c.as_slice.ensures.value)
          c.in_ok-all.ensures.first c.in_ok-all.ensures.second c.in_ok-one.ensures.bounds c.ways.invariant.first;
      long = c.in_ok-all.ensures.long c.ways.invariant.long c.in_ok-one.ensures.long;
    }

pub displayed-returns-clause-bounds : goal.displayed-returns-clause-bounds
displayed-returns-clause-bounds t c =
    let ways = c.in_ok-ways.ways.items in
    let whole : length ways ≤ c.ways.index = omega arith in
    all_ways c.args.self.now c.args.setting.now c.args.region.now c.args.plan.now c.args.parts.now c.args.goal.now ways c.ways.index c.in-Some.text
    c.ways.all c.in-Some.is whole c.in_ok-ways.ensures c.ways.invariant.first

-- ---- inner

pub inner-returns-in_default-clause-bounds : goal.inner-returns-in_default-clause-bounds
inner-returns-in_default-clause-bounds t c = λ w inside context long text after known n texts_are.
    subst (λ (o : Option Operands). HoldAll o w.bytes n.inner after) c.in_default.is (c.in_ok-below.ensures.bounds w inside context long text after known n texts_are)

pub inner-returns-clause-bounds : goal.inner-returns-clause-bounds
inner-returns-clause-bounds t c = λ w inside context long text after known n texts_are.
    let within = subst (λ (o : Option Operands). HoldAll o w.bytes n.inner after) c.in-Some.is (c.in_ok-below.ensures.bounds w inside context long text after known n texts_are) in
    c.in_ok-found.ensures.bounds w context long text after known n within texts_are

-- ---- operand

pub operand-returns-in_default-clause-bounds : goal.operand-returns-in_default-clause-bounds
operand-returns-in_default-clause-bounds t c =
    let anyway = rw c.deref.ensures.value at c.in_ok-same.ensures.within in
    λ w lengths before long text after within shown says. anyway w.bytes long after within.region

-- ---- operands

pub operands-slots-init : goal.operands-slots-init
operands-slots-init t c = record {
  reaches = reaches_none c.args.self.now c.args.setting.now c.args.region.now c.args.node.now c.in_ok-known.known c.in_ok-known.ensures.within;
  long = ap length c.in_ok-known.ensures.region;
}

pub operands-returns-in_default-clause-bounds : goal.operands-returns-in_default-clause-bounds
operands-returns-in_default-clause-bounds t c =
    let slots = c.as_slice-slots.result.now in
    let i = c.slots.index in
    let slot = c.index-slots-index.result in
    let within : i < length slots = omega arith in
    let slot_is = subst (λ (l : List Slot). slice_get l i ≡ Some slot) c.as_slice-slots.ensures.value (slice_get_read slots (length slots) i slot refl within c.index-slots-index.is) in
    reaches_nothing c.args.self.now c.args.setting.now c.args.region.now c.args.node.now i slot slot_is
    c.slots.known c.text_of-text.result c.text_of-text.ensures
    (subst (λ (o : Option Bounds). BoundsOperand c.args.self.now c.args.setting.now c.slots.known slot c.args.node.now.goal.at c.text_of-text.result o) c.in_default.is c.in_ok-next.ensures.bounds)
    c.slots.invariant.reaches

pub operands-slots-preserved : goal.operands-slots-preserved
operands-slots-preserved t c =
    let slots = c.as_slice-slots.result.now in
    let i = c.slots.index in
    let slot = c.index-slots-index.result in
    let within : i < length slots = omega arith in
    let slot_is = subst (λ (l : List Slot). slice_get l i ≡ Some slot) c.as_slice-slots.ensures.value (slice_get_read slots (length slots) i slot refl within c.index-slots-index.is) in
    let long = subst (λ (o : Option Bounds). AreAsLong (length c.slots.known.region.items) o) c.in-Some.is c.in_ok-next.ensures.long in record {
      reaches = reaches_more c.args.self.now c.args.setting.now c.args.region.now c.args.node.now i slot slot_is
          c.slots.known c.add.new.self c.text_of-text.result c.text_of-text.ensures c.in-Some.bounds
          (subst (λ (o : Option Bounds). BoundsOperand c.args.self.now c.args.setting.now c.slots.known slot c.args.node.now.goal.at c.text_of-text.result o) c.in-Some.is c.in_ok-next.ensures.bounds)
          c.in_ok-add.ensures.within c.slots.invariant.reaches;
      long = ap length c.in_ok-add.ensures.region ∙ long ∙ c.slots.invariant.long;
    }

pub operands-returns-clause-bounds : goal.operands-returns-clause-bounds
operands-returns-clause-bounds t c =
    let slots = c.args.node.now.plan.now.slots.items in
    let same = ap length c.as_slice-slots.ensures.value in
    let whole : length slots ≤ c.slots.index = omega (arith, same) in
    reaches_all c.args.self.now c.args.setting.now c.args.region.now c.args.node.now c.slots.index c.slots.known whole
    c.slots.invariant.reaches

-- ---- table

pub table-returns-in_default-clause-bounds : goal.table-returns-in_default-clause-bounds
table-returns-in_default-clause-bounds t c = λ w inside before long text after known shown says. c.in_ok-same.ensures.within w.bytes long after inside

pub table-returns-then-depth-eq0-clause-bounds : goal.table-returns-then-depth-eq0-clause-bounds
table-returns-then-depth-eq0-clause-bounds t c = λ w inside before long text after known shown says. c.in_ok-same-2.ensures.within w.bytes long after inside

pub table-places-preserved : goal.table-places-preserved
table-places-preserved t c =
    let r = c.args.self.now in
    let setting = c.args.setting.now in
    let region = c.args.region.now in
    let kept = c.in-Some.kept.now in
    let aim = c.args.goal.now in
    let place = c.places.place in
    let within : place < length kept.ctors.items = omega arith in
    elim c.if-may_begin.branch [
      | table-then-may_begin+in_ok-one+in_ok-all w ↦ record {
        first = rw w.all-is (more_places r setting region kept aim place c.places.all w.in_ok-one.one w.in_ok-all.all
            w.in_ok-all.ensures.first w.in_ok-all.ensures.second w.in_ok-one.ensures.bounds c.places.invariant.first);
        long = rw w.all-is (w.in_ok-all.ensures.long c.places.invariant.long w.in_ok-one.ensures.long);
      }
      | table-else-may_begin w ↦
          let number = c.index.result.now in
          let number_is = slice_get_read kept.ctors.items (length kept.ctors.items) place number refl within c.index.ensures in
          record {
            first = rw w.all-is (more_places r setting region kept aim place c.places.all None c.places.all
                (λ xs long after same h. h) (λ xs long after same h. absurd h)
                (not_shown r c.requires.ready setting region kept place aim number number_is (parts_at r number) refl c.may_begin.result w.if-may_begin.false
                (c.may_begin.ensures c.requires.ready)) c.places.invariant.first);
            long = rw w.all-is c.places.invariant.long;
          }
    ]

pub table-returns-clause-bounds : goal.table-returns-clause-bounds
table-returns-clause-bounds t c =
    let kept = c.in-Some.kept.now in
    let whole : length kept.ctors.items ≤ c.places.place = omega arith in
    all_places c.args.self.now c.requires.ready c.args.table kept (sym c.in-Some.ensures.same) c.in-Some.ensures.paired c.args.setting.now c.args.region.now c.args.goal.now
    c.requires.place c.places.place c.places.all whole c.places.invariant.first
