-- meaning: bytes that stand for the members of a table.
use Rattle.std.specs.Prelude.{ℕ, Bool, if◌then◌else◌, List, Option, None, Some, slice_get}
use Rattle.sl_store_bytes.specs.Reader.{Reader, choose}

abbrev pub got : {K : Type 0} → List K → Option ℕ → Option K
got table None = None
got table (Some b) = slice_get table b

abbrev pub kept : {K : Type 0} → (K → Bool) → Option K → Option K
kept test None = None
kept test (Some k) = if test k then Some k else None

-- a byte that counts in the table
abbrev pub coded : {K : Type 0} → List K → Reader K
coded table = choose (got table)

-- a byte that counts in the table a member that passes the test
abbrev pub coded_if : {K : Type 0} → (K → Bool) → List K → Reader K
coded_if test table = choose (λ o. kept test (got table o))
