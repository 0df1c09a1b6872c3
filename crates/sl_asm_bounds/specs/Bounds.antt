-- view: what is known of nodes: regions, lengths, contexts and texts.
use Rattle.std.specs.Prelude.{◌≡◌, ℕ, ◌%◌, ◌^◌, ◌<◌, ◌≤◌, List, [], Option, None, Some, length, get_or}
use Rattle.sl_asm_fit.specs.Regions.{IsOf}
use Rattle.sl_asm_fit.specs.Windows.{with_zeros}
use Rattle.sl_asm_fit.specs.declared.Cell.{Cell}
use Rattle.sl_asm_known.specs.declared.Frame.{Frame}
use Rattle.sl_asm_bounds.specs.declared.bounds.Bounds.{Bounds}
use Rattle.sl_cube.specs.Points.{IsInSome}
use Rattle.sl_cube.specs.declared.Cube.{Cube}
use Rattle.sl_decode_meaning.specs.Decoding.{point_at}
use Rattle.sl_decode_meaning.specs.Values.{Site}

-- as a greatest length: none is known
abbrev pub unbounded : ℕ
unbounded = 4294967295

-- The number is at most the greatest one, if that is known.
abbrev pub IsUpTo : ℕ → ℕ → Type 0
IsUpTo most n = most < unbounded → n ≤ most

-- A length between these is the least one.
abbrev pub IsKnown : ℕ → ℕ → Type 0
IsKnown least most = (n : ℕ) → least ≤ n → IsUpTo most n → n ≡ least

-- It is the one that is known, if any is.
abbrev pub Fits : {A : Type 0} → Option A → A → Type 0
Fits None x = Unit {0}
Fits (Some known) x = known ≡ x

-- A site of the actions of a node on its context: its bytes are a list of the region followed by
-- zeros, its place and the address of the instruction are the frame's, and there are no lengths of
-- operands, values of names and address after the instruction yet.
pub record IsEarlySite (f : Frame) (region : List Cell) (s : Site) : Type 0 where
  pub bytes : List ℕ
  pub of_region : IsOf region bytes
  pub reads : s.bytes ≡ with_zeros bytes
  pub at : s.at ≡ f.at
  pub lengths : s.lengths ≡ []
  pub start : s.start ≡ f.start
  pub next : s.next ≡ 0
  pub values : s.values ≡ []

-- The lengths are between these.
pub record AreBetween (leasts mosts lengths : List ℕ) : Type 0 where
  pub fewest : length leasts ≡ length lengths
  pub many : length mosts ≡ length lengths
  pub least : (k : ℕ) → get_or leasts k 0 ≤ get_or lengths k 0
  pub most : (k : ℕ) → IsUpTo (get_or mosts k 0) (get_or lengths k 0)

-- A list, the length of the node that stands in it, and the context that it leaves are as is known.
pub record IsWithin (b : Bounds) (xs : List ℕ) (long after : ℕ) : Type 0 where
  pub region : IsOf b.region.items xs
  pub least : b.least ≤ long
  pub most : IsUpTo b.most long
  pub leaves : Fits b.after after

-- The bounds are there, and they are within them.
abbrev pub Holds : Option Bounds → List ℕ → ℕ → ℕ → Type 0
Holds None xs long after = ⊥
Holds (Some b) xs long after = IsWithin b xs long after

-- The region is there, and the list is in it.
abbrev pub IsOfSome : Option (List Cell) → List ℕ → Type 0
IsOfSome None xs = ⊥
IsOfSome (Some region) xs = IsOf region xs

-- A list of the region which, followed by zeros, is in one of the cubes at the place, from the 64 bits
-- of a context that is as known.
pub record IsInCubes (region : List Cell) (at : ℕ) (context : Option ℕ) (cubes : List Cube) (xs : List ℕ) : Type 0 where
  pub of_region : IsOf region xs
  pub from : ℕ
  pub known : Fits context from
  pub inside : IsInSome cubes (point_at (with_zeros xs) at (from % 2 ^ 64))

-- The bounds' region, if they are there, has so many bytes.
abbrev pub AreAsLong : ℕ → Option Bounds → Type 0
AreAsLong count None = Unit {0}
AreAsLong count (Some b) = length b.region.items ≡ count

-- So has the region, if it is there.
abbrev pub IsAsLong : ℕ → Option (List Cell) → Type 0
IsAsLong count None = Unit {0}
IsAsLong count (Some region) = length region ≡ count
