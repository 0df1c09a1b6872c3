use Rattle.std.proofs.Common.{◌≡◌, ◌+◌, List, drop, length}
use Rattle.sl_asm_lines.specs.Kept.{AreKept}
use Rattle.sl_asm_lines.specs.Lines.{Line}
use Rattle.sl_asm_lines.specs.Steps.{ArePassed, total}
use Rattle.sl_asm_lines.proofs.patching.Patcher.first_other.Given as goal

abbrev pub invariant-lines : goal.invariant-lines
invariant-lines g l = record {
  left : l.position.at + total (drop l.index l.lines) ≡ length l.image;
  passed : (ls : List Line) → AreKept l.image l.lines ls
      → ArePassed (g.D.Decoder.tells l.self.decoder.now) l.self.address_size.bytes l.self.alignment l.self.start l.self.base ls l.lines l.index l.image l.position.at l.position.contexts;
}
