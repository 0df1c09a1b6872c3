use Rattle.std.proofs.Common.{◌≡◌, ◌≢◌, ℕ, ◌-◌, ◌^◌, ◌<◌, List, drop, length, ap, subst, ◌∙◌, rules, Ok}
use Rattle.hex.specs.Hex.{decode_sized, encode_lower}
use Rattle.std.specs.Int.{to_be_bytes, w64}
use Rattle.sl_asm_lines.proofs.NumberLemmas.{address_bytes, same_bytes, spelled}
use Rattle.sl_asm_lines.proofs.front.read_address.Goals as goal

pub returns-then-fill : goal.returns-then-fill
returns-then-fill c =
    let out = c.fill.new.bytes in
    let size = c.args.size.bytes in
    let digits = c.args.digits.now in
    let long : length out ≡ size = search rules in
    let is : decode_sized digits size ≡ Ok out = subst (λ (n : ℕ). decode_sized digits n ≡ Ok out) long (c.fill.ensures.filled c.if-fill.true) in
    let own : address_bytes size c.number_of.result ≡ out = subst (λ (n : ℕ). drop (8 - n) (to_be_bytes w64 c.number_of.result) ≡ out) long c.number_of.ensures.digits in (
      subst (λ (n : ℕ). c.number_of.result < 256 ^ n) long c.number_of.ensures.below,
      λ b spells. ap encode_lower (own ∙ same_bytes _ out (address_bytes size b) is (spelled size b digits c.args.size.at_most_8 spells)),
    )

pub returns-else-fill : goal.returns-else-fill
returns-else-fill c a spells =
    let size = c.args.size.bytes in
    let digits = c.args.digits.now in
    let long : length c.fill.new.bytes ≡ size = search rules in
    let refused : (bs : List ℕ) → decode_sized digits size ≢ Ok bs = subst (λ (n : ℕ). (bs : List ℕ) → decode_sized digits n ≢ Ok bs) long (c.fill.ensures.refused c.if-fill.false) in
    refused (address_bytes size a) (spelled size a digits c.args.size.at_most_8 spells)
