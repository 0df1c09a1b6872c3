use Rattle.std.proofs.Common.{◌≡◌, ◌+◌, ◌/◌, ◌%◌, ◌∙◌, Some, None, get_or, sym, ap, arith}
use Rattle.std.specs.Option.{option_copied}
use Rattle.sl_word.specs.Pages.{byte_in, page_of}
use Rattle.sl_word.proofs.InOnePage.{byte_absent, byte_there, number_of-zeros}
use Rattle.sl_word.proofs.LayoutLaws.{number_of-same}
use Rattle.sl_word.proofs.Powers.{bytes_pos}
use Rattle.sl_word.proofs.space.Space.number_in_page.Goals as goal

pub returns-in-Some-clause-value : goal.returns-in-Some-clause-value
returns-in-Some-clause-value c =
    let there : page_of c.args.self.now.pages (c.args.offset / 4096) ≡ Some c.in-Some.page.now = sym c.page.ensures ∙ ap option_copied c.in-Some.is in
    c.number.ensures.value
    ∙ number_of-same c.args.endian (λ i. get_or c.in-Some.page.now.bytes.items (c.args.offset % 4096 + i) 0) (λ i. byte_in c.args.self.now (c.args.offset + i)) c.args.size.bytes
    (λ i h. sym (byte_there c.args.self.now c.args.offset i c.in-Some.page.now there (omega (arith, c.requires))))

pub returns-in-None-clause-value : goal.returns-in-None-clause-value
returns-in-None-clause-value c =
    let absent : page_of c.args.self.now.pages (c.args.offset / 4096) ≡ None = sym c.page.ensures ∙ ap option_copied c.in-None.is in
    sym (number_of-zeros c.args.endian (λ i. byte_in c.args.self.now (c.args.offset + i)) c.args.size.bytes
    (λ i h. byte_absent c.args.self.now c.args.offset i absent (omega (arith, c.requires))))

pub returns-in-None-clause-below : goal.returns-in-None-clause-below
returns-in-None-clause-below c = bytes_pos c.args.size.bytes
