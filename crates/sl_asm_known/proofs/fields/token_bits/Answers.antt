use Rattle.std.proofs.Common.{◌≡◌, ◌+◌, ◌/◌, ◌≤◌, ◌∙◌, ap, arith}
use Rattle.sl_asm_known.proofs.TokenLemmas.{part_at, token_begun, token_done, token_none, token_step}
use Rattle.sl_asm_known.proofs.fields.token_bits.Goals as goal
use Rattle.sl_spec.specs.Tables.{Token}

pub returns-then-at-size : goal.returns-then-at-size
returns-then-at-size c =
    let most : c.token.inside.bits ≤ 64 = c.token.invariant.1 in
    let size : c.from-size.result ≡ c.args.token.now.bits / 8 = c.from-size.ensures ∙ ap (λ (t : Token). t.bits / 8) c.token.view_is in
    let small : c.from-size.result ≤ 272 = omega (arith, most, c.from-size.ensures) in
    λ xs place inside is. token_none c.args.token.now xs c.from-size.result c.args.at place c.exact_bits.result size small c.if-at-size.true is c.exact_bits.ensures

pub bytes-init : goal.bytes-init
bytes-init c = λ xs inside. token_begun c.args.token.now.endian (part_at c.from-size.result c.args.at xs) c.exact_bits-number.result c.exact_bits-number.ensures

pub bytes-preserved : goal.bytes-preserved
bytes-preserved c =
    let most : c.token.inside.bits ≤ 64 = c.token.invariant.1 in
    let within : c.args.at + c.from-size.result ≤ 272 = omega (arith, most, c.from-size.ensures, c.if-at-size.false) in
    token_step c.args.region.now c.args.token.now.endian c.token.inside.endian c.from-size.result c.args.at c.bytes.index c.turn.result c.bytes.number c.appended-number.result
    c.byte_at-byte.result (ap (λ (t : Token). t.endian) c.token.view_is) c.turn.ensures.value c.turn.ensures.within c.bytes-test.true within c.appended-number.ensures
    c.byte_at-byte.ensures c.bytes.invariant

pub returns : goal.returns
returns c =
    let most : c.token.inside.bits ≤ 64 = c.token.invariant.1 in
    let size : c.from-size.result ≡ c.args.token.now.bits / 8 = c.from-size.ensures ∙ ap (λ (t : Token). t.bits / 8) c.token.view_is in
    let within : c.args.at + c.from-size.result ≤ 272 = omega (arith, most, c.from-size.ensures, c.if-at-size.false) in
    let whole : c.bytes.index ≡ c.from-size.result = omega arith in
    λ xs place inside is. token_done c.args.token.now xs c.from-size.result c.args.at place c.bytes.index c.bytes.number size within is whole (c.bytes.invariant xs inside)
