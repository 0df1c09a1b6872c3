-- law: names of files: bytes of UTF-8, each judged by those of its character before it.
use Rattle.std.specs.Prelude.{◌≡◌, ℕ, ◌-◌, Bool, true, false, ◌&&◌, ◌||◌, ◌==◌, nat_le, if◌then◌else◌, List}
use Rattle.sl_store_bytes.specs.Lists.{listed, IsListed}
use Rattle.sl_store_bytes.specs.Numbers.{greatest}
use Rattle.sl_store_bytes.specs.Reader.{Reader, byte}

-- how many bytes of a character are still due, and in which range the next of them is
pub record Due : Type 0 where
  pub owed : ℕ
  pub low : ℕ
  pub high : ℕ

abbrev pub due : ℕ → ℕ → ℕ → Due
due n l h = record { owed = n; low = l; high = h }

-- no character is begun
abbrev pub none_due : Due
none_due = due 0 128 191

-- the byte begins a character
abbrev pub leads : ℕ → Bool
leads b = nat_le b 127 || (nat_le 194 b && nat_le b 244)

-- what follows the first byte of a character
unfoldable pub led : ℕ → Due
led b =
    if nat_le b 127 then none_due else
    (if nat_le b 223 then due 1 128 191 else
    (if b == 224 then due 2 160 191 else
    (if b == 237 then due 2 128 159 else
    (if nat_le b 239 then due 2 128 191 else
    (if b == 240 then due 3 144 191 else
    (if b == 244 then due 3 128 143 else due 3 128 191))))))

-- the byte goes on, with so many more bytes after it
unfoldable pub goes_on : ℕ → Due → ℕ → Bool
goes_on left s b = if s.owed == 0 then leads b && nat_le (led b).owed left else nat_le s.low b && nat_le b s.high

unfoldable pub then_due : Due → ℕ → Due
then_due s b = if s.owed == 0 then led b else due (s.owed - 1) 128 191

unfoldable pub file_name : Reader (List ℕ)
file_name = listed 0 greatest (λ left s. byte (goes_on left s)) then_due none_due

abbrev pub GoesOn : ℕ → Due → ℕ → Type 0
GoesOn left s b = goes_on left s b ≡ true

abbrev pub IsReadName : List ℕ → Type 0
IsReadName = IsListed 0 greatest GoesOn then_due none_due
