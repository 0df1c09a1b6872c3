use Rattle.std.proofs.Common.{refl}
use Rattle.sl_asm_lines.proofs.ReadingLemmas.{keeps_more}
use Rattle.sl_asm_lines.proofs.reading.add_line.Goals as goal

pub returns-clause-kept : goal.returns-clause-kept
returns-clause-kept c lines k =
    keeps_more c.args.listing.now.image.items c.args.bytes.now c.args.text.now c.args.listing.now.lines.items lines _ c.extend_from_slice.new.self.items c.push.new.self.items k
    c.in_ok-extend_from_slice.ensures.items c.in_ok-push.ensures.items refl
