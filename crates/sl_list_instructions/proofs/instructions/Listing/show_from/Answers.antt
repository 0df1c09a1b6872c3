use Rattle.std.proofs.Common.{◌≤◌, ◌+◌, ◌∙◌, ap, arith, List, ℕ, rules, take}
use Rattle.sl_list_instructions.specs.Lines.{listed_line}
use Rattle.sl_list_instructions.proofs.ShowLemmas.{shows_beyond, shows_instruction, shows_mark}
use Rattle.sl_list_instructions.proofs.instructions.Listing.show_from.Goals as goal

pub returns-then-beyond-gt0-clause-shown : goal.returns-then-beyond-gt0-clause-shown
returns-then-beyond-gt0-clause-shown g c cs stands =
    let fits : c.from-alignment.result ≤ 272 = search rules in
    shows_beyond _ c.args.at cs c.put_line.new.line.items c.args.bytes.now c.requires.bytes c.from-alignment.result c.from.result c.clear.new.self.items
    c.from-alignment.ensures c.from.ensures fits c.if-beyond-gt0.true c.in_ok-put_line.ensures c.clear.ensures.items

pub returns-in_ok-put_line-in-Ok-clause-shown : goal.returns-in_ok-put_line-in-Ok-clause-shown
returns-in_ok-put_line-in-Ok-clause-shown g c cs stands =
    let window = c.args.bytes.now in
    let fits : c.in_ok-count-in-Ok.count ≤ 272 = omega (arith, c.in_ok-count-in-Ok.ensures.most) in
    shows_instruction _ c.args.at cs c.put_line-in-Ok.new.line.items window c.requires.bytes c.at-context.result c.from.result c.from.ensures c.if-beyond-gt0.false c.at-context.type_inv (c.at-context.ensures _ cs stands)
    c.in_ok-length.field-0 c.in-Ok.length c.in_ok-count-in-Ok.count c.tell.new.text.items c.tell.new.commits.items c.in-Ok.is c.in_ok-length.ensures c.in_ok-count-in-Ok.ensures.same fits
    (c.in_ok-put_line-in-Ok.ensures
    ∙ ap (λ (text : List ℕ). listed_line c.args.self.now.address_size.bytes (c.args.self.now.base + c.args.at) (take c.in_ok-count-in-Ok.count window) text) c.as_slice.ensures.value)

pub returns-in_ok-put_line-in-Err-clause-shown : goal.returns-in_ok-put_line-in-Err-clause-shown
returns-in_ok-put_line-in-Err-clause-shown g c cs stands =
    let fits : c.from-alignment.result ≤ 272 = search rules in
    shows_mark _ c.args.at cs c.put_line-in-Err.new.line.items c.args.bytes.now c.requires.bytes c.at-context.result c.from.result c.from.ensures c.if-beyond-gt0.false c.at-context.type_inv (c.at-context.ensures _ cs stands)
    c.in_ok-length.field-0 c.in-Err.fault c.tell.new.text.items c.mark_of.result.now c.from-alignment.result c.tell.new.commits.items c.clear-in-Err.new.self.items c.in-Err.is c.in_ok-length.ensures
    c.from-alignment.ensures fits c.mark_of.ensures c.in_ok-put_line-in-Err.ensures c.clear-in-Err.ensures.items
