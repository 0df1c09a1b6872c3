-- The numbers of a table's constructors.
use Rattle.std.proofs.Common.{◌≡◌, ℕ, ◌==◌, true, List, length, slice_get, Option, Some, None, refl, ap, ◌∙◌, arith}
use Rattle.std.specs.List.{Contains, range_with_len}
use Rattle.std.proofs.lemmas.List.FromFn.{get_or-range_with_len, length-range_with_len}
use Rattle.std.proofs.lemmas.Option.{slice_get_within}
use Rattle.sl_spec_constructors.proofs.MemberLemmas.{in_filter, passes_filter}
use Rattle.sl_spec_constructors.specs.Listed.{is_of, numbers_of}
use Rattle.sl_spec.specs.Tables.{Ctor}

-- a number of a table's constructors is that of one
pub numbered : (ctors : List Ctor) (table i : ℕ) → Contains (numbers_of ctors table) i → (c : Ctor) × (slice_get ctors i ≡ Some c) × (c.table ≡ table)
numbered ctors table i c =
    by (slice_get ctors i) refl (passes_filter (λ j. is_of table (slice_get ctors j)) (range_with_len 0 (length ctors)) i c)
  where
    same : (a b : ℕ) → (a == b) ≡ true → a ≡ b
    same a b h = grind arith

    by : (o : Option Ctor) → slice_get ctors i ≡ o → is_of table o ≡ true → (c : Ctor) × (slice_get ctors i ≡ Some c) × (c.table ≡ table)
    by None is h = absurd (cc)
    by (Some c) is h = (c, is, same c.table table h)

-- a constructor's number is among those of its table
pub in_numbers : (ctors : List Ctor) (i : ℕ) (c : Ctor) → slice_get ctors i ≡ Some c → Contains (numbers_of ctors c.table) i
in_numbers ctors i c is =
    let below = slice_get_within ctors i c is in
    in_filter (λ j. is_of c.table (slice_get ctors j)) (range_with_len 0 (length ctors)) i (ap (is_of c.table) is ∙ itself c.table)
    (i, omega (arith, below, length-range_with_len 0 (length ctors)), get_or-range_with_len 0 (length ctors) i i below ∙ omega arith)
  where
    itself : (n : ℕ) → (n == n) ≡ true
    itself n = grind arith
