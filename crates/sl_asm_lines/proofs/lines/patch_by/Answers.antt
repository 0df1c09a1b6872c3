use Rattle.std.proofs.Common.{List, ap, arith}
use Rattle.sl_asm_lines.proofs.PatchedLemmas.{comes_to, in_words, ok_of, total_kept}
use Rattle.sl_asm_lines.specs.Readers.{decoding_of, own_tables_of}
use Rattle.sl_asm_lines.specs.Steps.{total}
use Rattle.sl_decode_choices.specs.Choosers.{chosen}
use Rattle.sl_list_instructions.specs.Told.{tells}
use Rattle.sl_spec.specs.Unfolded.{all_placed}
use Rattle.sl_spec.specs.declared.unfolded.Unfolded.{Unfolded}
use Rattle.sl_asm_lines.proofs.lines.patch_by.Goals as goal

pub patch-requires-clause-fits : goal.patch-requires-clause-fits
patch-requires-clause-fits c =
    let size = c.address_size-address_size.result in
    let k = ok_of c.in_ok-listing.field-0 c.in-Ok.listing _ _ c.in_ok-listing.ensures c.in-Ok.is in
    in_words size.bytes c.args.text.now c.in-Ok.listing size.at_most_8 k

pub patch-requires-clause-whole : goal.patch-requires-clause-whole
patch-requires-clause-whole c =
    let listing = c.in-Ok.listing in
    let k = ok_of c.in_ok-listing.field-0 listing _ _ c.in_ok-listing.ensures c.in-Ok.is in
    omega (arith, ap total c.as_slice-3.ensures.value, total_kept listing.image.items listing.lines.items k.lines k.are_kept)

pub returns : goal.returns
returns c =
    let r = c.args.reader.now in
    let t = own_tables_of r in
    let choose = chosen r.disassembly.now.disassembler.choosers in
    let listing = c.in-Ok.listing in
    let k = ok_of c.in_ok-listing.field-0 listing _ _ c.in_ok-listing.ensures c.in-Ok.is in
    comes_to (λ v. v.items) (tells t (all_placed c.as_slice-2.result.now) choose) (decoding_of r) c.address_size-address_size.result.bytes _ t.alignment c.args.start c.args.text.now listing
    c.as_slice-3.result.now k (ap (λ (us : List Unfolded). tells t (all_placed us) choose) c.as_slice-2.ensures.value) c.address_size-address_size.ensures c.as_slice-3.ensures.value c.patch.result c.patch.ensures
