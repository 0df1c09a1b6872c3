use Rattle.std.proofs.Common.{◌<◌, ℕ, length, map, ap, ◌∙◌, arith}
use Rattle.std.proofs.lemmas.List.{take_all}
use Rattle.sl_word.specs.Sizes.{byte_counts}
use Rattle.sl_spec.specs.Tables.{Space}
use Rattle.sl_spec_tables.proofs.PositionLemmas.{at_slice}
use Rattle.sl_spec_tables.proofs.RowLemmas.{made_more}
use Rattle.sl_word.specs.declared.word.AddressSize.{AddressSize}
use Rattle.sl_section_sizes.proofs.addresses.address_sizes.Goals as goal

abbrev size : Space → ℕ
size s = s.size

abbrev bytes : AddressSize → ℕ
bytes a = a.bytes

pub spaces-preserved : goal.spaces-preserved
spaces-preserved c =
    let spaces = c.args.t.now.spaces in
    let i = c.spaces.index in
    let s = c.member.result.now in
    let below : i < length spaces = omega (arith, c.spaces-test.true, c.len-index-end.ensures) in
    ap byte_counts c.in_ok-push.ensures.items
    ∙ made_more bytes size spaces c.spaces.sizes.items c.address_size.result s i below (at_slice spaces i s c.member.ensures) c.address_size.ensures c.spaces.invariant

pub returns : goal.returns
returns c =
    let spaces = c.args.t.now.spaces in
    c.spaces.invariant ∙ ap (map size) (take_all c.spaces.index spaces (omega (arith, c.spaces-test.false, c.len-index-end.ensures)))
