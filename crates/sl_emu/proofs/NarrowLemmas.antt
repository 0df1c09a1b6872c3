-- Numbers of n bytes, as search takes them.
use Rattle.std.proofs.Common.{◌≡◌, ℕ, ◌%◌, ◌^◌, ◌<◌, ◌≤◌}
use Rattle.sl_word.proofs.Powers as powers
use Rattle.sl_word.proofs.TwosComplement as complement

pub bytes_mono : (m n : ℕ) → m ≤ n → 256 ^ m ≤ 256 ^ n
bytes_mono m n h = powers.bytes_mono m n h

pub kept : (x m : ℕ) → x < m → x % m ≡ x
kept x m h = complement.kept x m h
