use Rattle.std.proofs.Common.{◌≡◌, ◌<◌, ◌≤◌, ◌+◌, ◌^◌, suc, drop, false, length}
use Rattle.std.specs.Fmt.{digits}
use Rattle.sl_show.proofs.NumberLemmas.{onto}
use Rattle.sl_show.proofs.numbers.push_digits.Given as goal

abbrev pub invariant-digits : goal.invariant-digits
invariant-digits l = record {
  size : length l.buffer ≡ 16;
  within : l.at ≤ 15;
  fits : l.left < 16 ^ suc l.at;
  rest : onto (l.at + 49) l.left (drop (l.at + 1) l.buffer) ≡ digits 16 false l.number;
}

abbrev pub decreases-digits : goal.decreases-digits
decreases-digits l = l.left
