use Rattle.std.proofs.Common.{◌≡◌, ◌+◌, ◌-◌, ◌/◌, ◌<◌, ◌≤◌, ◌∙◌, ap, arith}
use Rattle.sl_asm_known.proofs.BitsLemmas.{keeps_all, narrowed_more, narrowed_none, narrowed_nowhere, token_left, token_nowhere}
use Rattle.sl_asm_known.specs.FieldBits.{HasTokenBits}
use Rattle.sl_spec.specs.Tables.{Token}
use Rattle.sl_asm_known.proofs.narrowing.by_token.Goals as goal

pub returns-then-at-size : goal.returns-then-at-size
returns-then-at-size c = keeps_all (HasTokenBits c.args.token.now c.args.at c.args.integer.now) c.args.region.items

pub bytes-init : goal.bytes-init
bytes-init c = narrowed_none c.args.token.now.endian c.from-size.result c.args.at c.args.integer.now c.args.region.items

pub returns-then-not-narrow_one : goal.returns-then-not-narrow_one
returns-then-not-narrow_one c =
    let token = c.args.token.now in
    let size = c.from-size.result in
    let most : c.token.inside.bits ≤ 64 = c.token.invariant.1 in
    let bytes : size ≡ token.bits / 8 = c.from-size.ensures ∙ ap (λ (t : Token). t.bits / 8) c.token.view_is in
    let within : c.args.at + size ≤ 272 = omega (arith, most, c.from-size.ensures, c.if-at-size.false) in
    token_nowhere token size c.args.at c.args.integer.now bytes within c.args.region.items
    (narrowed_nowhere token.endian c.token.inside.endian size c.args.at c.args.integer.now c.args.region.items c.bytes.left.items c.bytes.rest c.bytes.step c.turn.result
    c.lowest-byte.result (ap (λ (t : Token). t.endian) c.token.view_is) c.turn.ensures.value c.turn.ensures.within c.bytes-test.true within c.bytes.invariant
    c.lowest-byte.ensures c.if-not-narrow_one.ensures)

pub bytes-preserved : goal.bytes-preserved
bytes-preserved c =
    let token = c.args.token.now in
    let size = c.from-size.result in
    let most : c.token.inside.bits ≤ 64 = c.token.invariant.1 in
    let within : c.args.at + size ≤ 272 = omega (arith, most, c.from-size.ensures, c.if-at-size.false) in
    narrowed_more token.endian c.token.inside.endian size c.args.at c.args.integer.now c.args.region.items c.bytes.left.items c.bytes.rest c.bytes.step c.turn.result
    c.lowest-byte.result (ap (λ (t : Token). t.endian) c.token.view_is) c.turn.ensures.value c.turn.ensures.within c.bytes-test.true within c.bytes.invariant
    c.lowest-byte.ensures c.narrow_one.new.region.items c.above-rest.result c.if-not-narrow_one.ensures c.above-rest.ensures

pub returns : goal.returns
returns c =
    let token = c.args.token.now in
    let size = c.from-size.result in
    let most : c.token.inside.bits ≤ 64 = c.token.invariant.1 in
    let bytes : size ≡ token.bits / 8 = c.from-size.ensures ∙ ap (λ (t : Token). t.bits / 8) c.token.view_is in
    let within : c.args.at + size ≤ 272 = omega (arith, most, c.from-size.ensures, c.if-at-size.false) in
    token_left token size c.args.at c.args.integer.now bytes within c.args.region.items c.bytes.left.items c.bytes.rest c.bytes.step c.bytes.invariant
