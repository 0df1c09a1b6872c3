use Rattle.std.proofs.Common.{rules, Ok, refl, ap, sym, subst, ◌∙◌, arith}
use Rattle.std.proofs.lemmas.Grind.{common_steps}
use Rattle.sl_ast.specs.Validity.{deepest}
use Rattle.sl_ast.specs.Views.{head_of, kind_of}
use Rattle.sl_ast.specs.declared.items.Item.{Item}
use Rattle.sl_store_format.specs.Items.{inner_here, placed_here}
use Rattle.sl_store_bytes.specs.Lists.{list_of}
use Rattle.sl_store_read.specs.Placed.{AreInside, IsItem}
use Rattle.sl_store_read.proofs.Nested.{item_stops_at_place, item_stops_at_head, item_stops_at_inside, item_stops_at_plain, read_with, read_plain}
use Rattle.sl_store_read.proofs.items.item_here.Goals as goal

pub returns-in_err-place : goal.returns-in_err-place
returns-in_err-place c =
    let stop = item_stops_at_place c.args.files c.args.bytes.now c.in_err-place.field-0.0 c.in_err-place.ensures in
    first_of (search rules, grind (arith, common_steps))

pub returns-in_err-head-in-With : goal.returns-in_err-head-in-With
returns-in_err-head-in-With c =
    let with = c.in_ok-form.ensures ∙ ap (λ k. Ok (k, c.coded.new.self)) c.in-With.is in
    let stop = item_stops_at_head c.args.files c.args.bytes.now c.place_here.new.bytes c.in_ok-place.place c.in_ok-place.ensures c.coded.new.self c.in_err-head-in-With.field-0.0 with c.in_err-head-in-With.ensures in
    first_of (search rules, grind (arith, common_steps))

pub returns-in_err-inside-in-With : goal.returns-in_err-inside-in-With
returns-in_err-inside-in-With c =
    let with = c.in_ok-form.ensures ∙ ap (λ k. Ok (k, c.coded.new.self)) c.in-With.is in
    let stop = item_stops_at_inside c.args.files c.args.bytes.now c.place_here.new.bytes c.in_ok-place.place c.in_ok-place.ensures c.coded.new.self c.head_here.new.bytes (head_of c.in_ok-head-in-With.head)
    c.in_err-inside-in-With.field-0.0 with c.in_ok-head-in-With.ensures c.in_err-inside-in-With.ensures in
    first_of (search rules, grind (arith, common_steps))

pub returns-in_err-kind-in_default : goal.returns-in_err-kind-in_default
returns-in_err-kind-in_default c =
    let stop = item_stops_at_plain c.args.files c.args.bytes.now c.place_here.new.bytes c.in_ok-place.place c.in_ok-place.ensures c.coded.new.self c.in_ok-form.form c.in_err-kind-in_default.field-0.0 c.in_ok-form.ensures
    c.in_default.not-With c.in_err-kind-in_default.ensures in
    first_of (search rules, grind (arith, common_steps))

pub returns-in_ok-inside-in-With : goal.returns-in_ok-inside-in-With
returns-in_ok-inside-in-With c =
    let with = c.in_ok-form.ensures ∙ ap (λ k. Ok (k, c.coded.new.self)) c.in-With.is in
    let inside = subst (λ ps. AreInside (list_of (inner_here c.args.files deepest) c.head_here.new.bytes) ps c.in_ok-inside-in-With.inside.items c.inside_here.new.places.items c.inside_here.new.bytes)
    c.in_ok-push.ensures.items c.in_ok-inside-in-With.ensures in
    read_with c.args.files c.args.bytes.now c.place_here.new.bytes c.coded.new.self c.head_here.new.bytes c.inside_here.new.bytes c.in_ok-place.place c.args.places.now.items
    c.inside_here.new.places.items _ (head_of c.in_ok-head-in-With.head) c.in_ok-inside-in-With.inside.items refl c.in_ok-place.ensures with c.in_ok-head-in-With.ensures inside refl (c.len-first.ensures ∙ c.args.places.now.ok.0)

pub returns-in_ok-kind-in_default : goal.returns-in_ok-kind-in_default
returns-in_ok-kind-in_default c =
    let y : Item = record { first = c.len-first.result; kind = c.in_ok-kind-in_default.kind } in
    let read = read_plain c.args.files c.args.bytes.now c.place_here.new.bytes c.coded.new.self c.plain_by.new.bytes c.in_ok-place.place c.args.places.now.items c.in_ok-form.form y
    (kind_of c.in_ok-kind-in_default.kind) refl c.in_ok-place.ensures c.in_ok-form.ensures c.in_default.not-With c.in_ok-kind-in_default.ensures (c.len-first.ensures ∙ c.args.places.now.ok.0) in
    subst (λ ps. IsItem (placed_here c.args.files c.args.bytes.now) c.args.places.now.items y ps c.plain_by.new.bytes) (sym c.in_ok-push.ensures.items) read
