use Rattle.std.proofs.Common.{rules, ◌+◌, ◌-◌, Ok, ap, sym, subst, ◌∙◌, arith}
use Rattle.std.proofs.lemmas.Grind.{common_steps}
use Rattle.sl_ast.specs.Views.{head_of}
use Rattle.sl_ast.specs.declared.constructors.Inner.TheVariants as n
use Rattle.sl_store_format.specs.Items.{inner_here}
use Rattle.sl_store_bytes.specs.Lists.{list_of}
use Rattle.sl_store_read.specs.Placed.{AreInside, IsInner}
use Rattle.sl_store_read.proofs.Nested.{deeper_of, inner_is, deeper_is, deep_enough, stops_at_place, stops_at_form, stops_at_head, stops_at_inside, stops_at_constructor, read_block, read_constructor, inside_begins, inside_goes, inside_stops, inside_ends}
use Rattle.sl_store_phrases.proofs.Rounds.{stops_along}
use Rattle.sl_store_read.proofs.items.+inner.Goals as goal

pub inside_here-rounds-init : goal.inside_here-rounds-init
inside_here-rounds-init t c =
    inside_begins c.args.files c.args.depth c.args.bytes.now c.number.new.self c.in_ok-count.count (c.in_ok-count.count - 0) c.new-found.result.items c.args.places.now.items
    (omega arith) c.new-found.ensures.items c.in_ok-count.ensures.reads

pub inside_here-returns-in_err-inner_here : goal.inside_here-returns-in_err-inner_here
inside_here-returns-in_err-inner_here t c =
    let stop = inside_stops c.args.files c.args.depth (list_of (inner_here c.args.files c.args.depth) c.args.bytes.now) (c.in_ok-count.count - c.rounds._round)
    (c.in_ok-count.count - (c.rounds._round + 1)) c.rounds.found.items c.args.places.now.items c.rounds.places.items c.rounds.bytes c.in_err-inner_here.field-0.0 (omega arith)
    c.rounds.invariant c.in_err-inner_here.ensures in
    first_of (search rules, grind (arith, common_steps))

pub inside_here-rounds-preserved : goal.inside_here-rounds-preserved
inside_here-rounds-preserved t c =
    inside_goes c.args.files c.args.depth (list_of (inner_here c.args.files c.args.depth) c.args.bytes.now) (c.in_ok-count.count - c.rounds._round)
    (c.in_ok-count.count - (c.rounds._round + 1)) c.rounds.found.items c.push.new.self.items c.args.places.now.items c.rounds.places.items c.inner_here.new.places.items c.rounds.bytes
    c.inner_here.new.bytes c.in_ok-inner_here.field-0 (omega arith) c.in_ok-push.ensures.items c.rounds.invariant c.in_ok-inner_here.ensures

pub inside_here-returns : goal.inside_here-returns
inside_here-returns t c =
    inside_ends c.args.files c.args.depth (list_of (inner_here c.args.files c.args.depth) c.args.bytes.now) (c.in_ok-count.count - c.rounds._round) c.rounds.found.items
    c.args.places.now.items c.rounds.places.items c.rounds.bytes (omega arith) c.rounds.invariant

-- ---- a constructor or a block

pub inner_here-returns-in_err-place : goal.inner_here-returns-in_err-place
inner_here-returns-in_err-place t c =
    let stop = stops_along _ _ c.in_err-place.field-0.0 (inner_is c.args.files c.args.depth c.args.bytes.now)
    (stops_at_place (deeper_of c.args.files c.args.depth) c.args.files c.args.depth c.args.bytes.now c.in_err-place.field-0.0 c.in_err-place.ensures) in
    first_of (search rules, grind (arith, common_steps))

pub inner_here-returns-in_err-inner_form : goal.inner_here-returns-in_err-inner_form
inner_here-returns-in_err-inner_form t c =
    let stop = stops_along _ _ c.in_err-inner_form.field-0.0 (inner_is c.args.files c.args.depth c.args.bytes.now)
    (stops_at_form (deeper_of c.args.files c.args.depth) c.args.files c.args.depth c.args.bytes.now c.place_here.new.bytes c.in_ok-place.place c.in_ok-place.ensures
    c.in_err-inner_form.field-0.0 c.in_err-inner_form.ensures) in
    first_of (search rules, grind (arith, common_steps))

pub inner_here-overflow_sub-depth : goal.inner_here-overflow_sub-depth
inner_here-overflow_sub-depth t c =
    let with = c.in_ok-inner_form.ensures ∙ ap (λ k. Ok (k, c.inner_form.new.bytes)) c.in-With.is in
    let deep = deep_enough c.args.depth c.place_here.new.bytes c.inner_form.new.bytes with in
    first_of (search rules, grind (arith, common_steps))

pub inner_here-inside_here-requires : goal.inner_here-inside_here-requires
inner_here-inside_here-requires t c =
    let with = c.in_ok-inner_form.ensures ∙ ap (λ k. Ok (k, c.inner_form.new.bytes)) c.in-With.is in
    let deep = deep_enough c.args.depth c.place_here.new.bytes c.inner_form.new.bytes with in
    first_of (search rules, omega arith, grind (arith, common_steps))

pub inner_here-returns-in_err-head-in-With : goal.inner_here-returns-in_err-head-in-With
inner_here-returns-in_err-head-in-With t c =
    let with = c.in_ok-inner_form.ensures ∙ ap (λ k. Ok (k, c.inner_form.new.bytes)) c.in-With.is in
    let stop = stops_along _ _ c.in_err-head-in-With.field-0.0 (inner_is c.args.files c.args.depth c.args.bytes.now)
    (stops_at_head (deeper_of c.args.files c.args.depth) c.args.files c.args.depth c.args.bytes.now c.place_here.new.bytes c.in_ok-place.place c.in_ok-place.ensures c.inner_form.new.bytes
    c.in_err-head-in-With.field-0.0 with c.in_err-head-in-With.ensures) in
    first_of (search rules, grind (arith, common_steps))

pub inner_here-returns-in_err-inside-in-With : goal.inner_here-returns-in_err-inside-in-With
inner_here-returns-in_err-inside-in-With t c =
    let with = c.in_ok-inner_form.ensures ∙ ap (λ k. Ok (k, c.inner_form.new.bytes)) c.in-With.is in
    let deep = deep_enough c.args.depth c.place_here.new.bytes c.inner_form.new.bytes with in
    let inside = stops_along _ _ c.in_err-inside-in-With.field-0.0 (ap (λ d. list_of d c.head_here.new.bytes) (deeper_is c.args.files c.args.depth deep)) c.in_err-inside-in-With.ensures in
    let stop = stops_along _ _ c.in_err-inside-in-With.field-0.0 (inner_is c.args.files c.args.depth c.args.bytes.now)
    (stops_at_inside (deeper_of c.args.files c.args.depth) c.args.files c.args.depth c.args.bytes.now c.place_here.new.bytes c.in_ok-place.place c.in_ok-place.ensures
    c.inner_form.new.bytes c.head_here.new.bytes (head_of c.in_ok-head-in-With.head) c.in_err-inside-in-With.field-0.0 with c.in_ok-head-in-With.ensures inside) in
    first_of (search rules, grind (arith, common_steps))

pub inner_here-returns-in_err-constructor-in_default : goal.inner_here-returns-in_err-constructor-in_default
inner_here-returns-in_err-constructor-in_default t c =
    let stop = stops_along _ _ c.in_err-constructor-in_default.field-0.0 (inner_is c.args.files c.args.depth c.args.bytes.now)
    (stops_at_constructor (deeper_of c.args.files c.args.depth) c.args.files c.args.depth c.args.bytes.now c.place_here.new.bytes c.in_ok-place.place c.in_ok-place.ensures
    c.inner_form.new.bytes c.in_ok-inner_form.field-0 c.in_err-constructor-in_default.field-0.0 c.in_ok-inner_form.ensures c.in_default.not-With c.in_err-constructor-in_default.ensures) in
    first_of (search rules, grind (arith, common_steps))

pub inner_here-returns-in_ok-inside-in-With : goal.inner_here-returns-in_ok-inside-in-With
inner_here-returns-in_ok-inside-in-With t c =
    let with = c.in_ok-inner_form.ensures ∙ ap (λ k. Ok (k, c.inner_form.new.bytes)) c.in-With.is in
    let deep = deep_enough c.args.depth c.place_here.new.bytes c.inner_form.new.bytes with in
    let inside = subst (λ ps. AreInside (list_of (inner_here c.args.files (c.args.depth - 1)) c.head_here.new.bytes) ps c.in_ok-inside-in-With.inside.items c.inside_here.new.places.items c.inside_here.new.bytes)
    c.in_ok-push.ensures.items c.in_ok-inside-in-With.ensures in
    read_block c.args.files c.args.depth c.args.bytes.now c.place_here.new.bytes c.inner_form.new.bytes c.head_here.new.bytes c.inside_here.new.bytes c.in_ok-place.place
    c.args.places.now.items c.inside_here.new.places.items _ c.in_ok-head-in-With.head c.in_ok-inside-in-With.inside c.in_ok-place.ensures with c.in_ok-head-in-With.ensures deep inside (c.len-first.ensures ∙ c.args.places.now.ok.0)

pub inner_here-returns-in_ok-constructor-in_default : goal.inner_here-returns-in_ok-constructor-in_default
inner_here-returns-in_ok-constructor-in_default t c =
    let read = read_constructor c.args.files c.args.depth c.args.bytes.now c.place_here.new.bytes c.inner_form.new.bytes c.constructor_here.new.bytes c.in_ok-place.place
    c.args.places.now.items c.len-first.result c.in_ok-inner_form.field-0 c.in_ok-constructor-in_default.constructor c.in_ok-place.ensures c.in_ok-inner_form.ensures c.in_default.not-With
    c.in_ok-constructor-in_default.ensures (c.len-first.ensures ∙ c.args.places.now.ok.0) in
    subst (λ ps. IsInner (inner_here c.args.files c.args.depth c.args.bytes.now) c.args.places.now.items (n.Constructor c.len-first.result c.in_ok-constructor-in_default.constructor) ps c.constructor_here.new.bytes)
    (sym c.in_ok-push.ensures.items) read
