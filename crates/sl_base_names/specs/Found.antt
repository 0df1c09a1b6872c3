-- view: what is found by names, as the program keeps it.
use Rattle.std.specs.Prelude.{◌≡◌, ℕ, zero, suc, ◌+◌, ◌*◌, ◌<◌, Bool, List, Option, cond, get_or, length, nat_le}
use Rattle.std.specs.Cmp.Lexicographic.{slice_cmp}
use Rattle.std.specs.Map.{lookup}
use Rattle.std.specs.Ordering.{is_eq, nat_cmp}
use Rattle.sl_base_names.specs.Names.{index_in}
use Rattle.sl_base_names.specs.declared.by_name.ByName.{ByName}

-- Each element is a byte.
abbrev pub AreBytes : List ℕ → Type 0
AreBytes name = (i : ℕ) → get_or name i 0 < 256

-- whether a number stands for the name
abbrev pub is_short : List ℕ → Bool
is_short name = nat_le (length name) 15

-- The first k of the digits f 0, f 1, .. to the base 256, behind a 1: so no two names have the same number.
abbrev pub digits : (ℕ → ℕ) → ℕ → ℕ
digits f zero = 1
digits f (suc k) = digits f k * 256 + f k

-- the number that stands for a short name
abbrev pub number_of : List ℕ → ℕ
number_of name = digits (λ i. get_or name i 0) (length name)

-- the index that the program finds
abbrev pub found : ByName → List ℕ → Option ℕ
found by_name name = cond (is_short name) (lookup (λ k. is_eq (nat_cmp (number_of name) k)) by_name.short.entries)
    (lookup (λ k. is_eq (slice_cmp nat_cmp name k.items)) by_name.long.entries)

-- Each name has its index among the names, and no other name has any.
abbrev pub AreFound : ByName → List (List ℕ) → Type 0
AreFound by_name names = (name : List ℕ) → AreBytes name → found by_name name ≡ index_in names name
