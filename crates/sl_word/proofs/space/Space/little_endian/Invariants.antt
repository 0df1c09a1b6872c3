use Rattle.std.proofs.Common.{◌≡◌, ◌<◌, ◌^◌}
use Rattle.sl_word.specs.Pages.{byte_after}
use Rattle.sl_word.specs.Layout.{little_endian}
use Rattle.sl_word.proofs.space.Space.little_endian.Given as goal

abbrev pub invariant-loop-place : goal.invariant-loop-place
invariant-loop-place l = (l.number ≡ little_endian (byte_after l.self l.base) l.place) × (l.number < 256 ^ l.place)
