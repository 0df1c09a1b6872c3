use Rattle.std.proofs.Common.{◌≡◌, ◌+◌, ◌/◌, ◌%◌, ◌^◌, ◌∙◌, Option, Some, get_or, sym, ap, arith}
use Rattle.std.specs.BTreeMap.{get}
use Rattle.std.specs.Option.{option_copied}
use Rattle.std.specs.Ordering.{nat_cmp}
use Rattle.sl_word.specs.declared.page.Page.{Page}
use Rattle.sl_word.specs.Pages.{byte_in, page_of, page_or}
use Rattle.sl_word.proofs.InOnePage.{byte_there, number_in_page}
use Rattle.sl_word.proofs.LayoutLaws.{number_of-same}
use Rattle.sl_word.proofs.Powers.{bytes_mono}
use Rattle.sl_word.proofs.space.Space.narrow.Goals as goal

pub returns-in-Some-listed-clause-value : goal.returns-in-Some-listed-clause-value
returns-in-Some-listed-clause-value c =
    let lies = c.in-Some.ensures in
    let space = c.args.self.now in
    let page = c.in-Some-listed.page.now in
    let there : page_of c.args.self.now.pages (c.in-Some.offset / 4096) ≡ Some c.in-Some-listed.page.now =
    ap (λ (x : Option Page). page_or x (get nat_cmp c.args.self.now.pages.others (c.in-Some.offset / 4096))) (sym c.listed.ensures ∙ ap option_copied c.in-Some-listed.is)
    in
    c.narrow.ensures.value
    ∙ number_of-same c.args.endian (λ i. get_or page.bytes.items (c.in-Some.offset % 4096 + i) 0) (λ i. byte_in space (c.in-Some.offset + i)) c.args.size.bytes
    (λ i h. sym (byte_there space c.in-Some.offset i page there (omega (arith, h, lies.page, c.requires))))
    ∙ number_in_page c.args.endian (byte_in space) (256 ^ space.size.bytes) c.args.base c.in-Some.offset c.args.size.bytes lies.at (omega (arith, lies.room, c.requires))

pub overflow_cast-bits : goal.overflow_cast-bits
overflow_cast-bits c =
    omega (arith, c.number-bits.ensures.below, bytes_mono c.args.size.bytes 8 c.requires)
