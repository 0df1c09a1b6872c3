use Rattle.std.proofs.Common.{sym}
use Rattle.sl_asm_lines.proofs.EncoderLemmas.{encoder_finds}
use Rattle.sl_asm_lines.proofs.lines.ReaderEncoder.encode.Goals as goal

pub returns : goal.returns
returns c =
    encoder_finds c.args.self.now c.requires c.args.address c.args.context c.args.text.now (λ v. v.items) c.in_ok-found.found c.args.count c.from.result (sym c.from.ensures) c.in_ok-found.ensures
