-- view: regions narrowed by what is known of a field's bits.
use Rattle.std.specs.Prelude.{◌≡◌, ℕ, suc, ◌+◌, ◌-◌, ◌<◌, ◌^◌, List, Option, None, Some, IfOk, IfSome, length, min, slice_get}
use Rattle.std.specs.Int.{bit_at}
use Rattle.sl_asm_bits.specs.Known.{Has, HasBits}
use Rattle.sl_asm_bits.specs.declared.Known.{Known}
use Rattle.sl_asm_fit.specs.Regions.{IsOf}
use Rattle.sl_asm_fit.specs.Windows.{with_zeros}
use Rattle.sl_asm_fit.specs.declared.Cell.{Cell}
use Rattle.sl_asm_known.specs.Tokens.{token_number}
use Rattle.sl_asm_known.specs.declared.Frame.{Frame}
use Rattle.sl_decode_leaves.specs.Extents.{extent}
use Rattle.sl_decode_leaves.specs.Fields.{own_if}
use Rattle.sl_decode_leaves.specs.declared.extents.Extent.{Extent}
use Rattle.sl_decode_meaning.specs.Lookups.{number_at}
use Rattle.sl_spec.specs.Tables.{Field, Token}
use Rattle.sl_spec.specs.declared.tables.Tables.{Tables}

-- Read from this number, the field has each of its bits that is known, the lowest first.
abbrev pub HasKnownBits : Field → Known → ℕ → Type 0
HasKnownBits f k number = (i : ℕ) → i < suc f.high - f.low → bit_at k.mask i ≡ 1 → bit_at number (f.low + i) ≡ bit_at k.value i

-- The same of a field of which something may be known; if nothing can be, there is no such number.
abbrev pub HasSomeBits : Field → Option Known → ℕ → Type 0
HasSomeBits f None number = ⊥
HasSomeBits f (Some k) number = HasKnownBits f k number

-- Lists of the region, among them each for which this holds.
pub record KeepsWhere (P : List ℕ → Type 0) (region narrow : List Cell) : Type 0 where
  pub long : length narrow ≡ length region
  pub within : (xs : List ℕ) → IsOf narrow xs → IsOf region xs
  pub stays : (xs : List ℕ) → IsOf region xs → P xs → IsOf narrow xs

-- Such lists, or that it holds for none.
abbrev pub IsLeftWhere : (List ℕ → Type 0) → List Cell → Option (List Cell) → Type 0
IsLeftWhere P region None = (xs : List ℕ) → IsOf region xs → P xs → ⊥
IsLeftWhere P region (Some narrow) = KeepsWhere P region narrow

-- In a list which zeros follow, the integer of a token at the place has the bits that are known. `at` stands
-- for each place from 2^64 - 1 on, too.
pub record HasTokenBits (token : Token) (at : ℕ) (k : Known) (xs : List ℕ) : Type 0 where
  pub place : ℕ
  pub place_is : at ≡ min place (2 ^ 64 - 1)
  pub has : Has k (token_number token (with_zeros xs) place)

-- So has the number that a field is read from, its token at the place, from a context that is as known.
pub record HasNumberBits (t : Tables) (f : Field) (at : ℕ) (context : Option ℕ) (k : Known) (xs : List ℕ) : Type 0 where
  pub place : ℕ
  pub place_is : at ≡ min place (2 ^ 64 - 1)
  pub from : ℕ
  pub known : IfSome context (λ c. c ≡ from)
  pub has : Has k (number_at t f (with_zeros xs) place from)

-- So has the field.
pub record HasFieldBits (t : Tables) (f : Field) (at : ℕ) (context : Option ℕ) (k : Known) (xs : List ℕ) : Type 0 where
  pub place : ℕ
  pub place_is : at ≡ min place (2 ^ 64 - 1)
  pub from : ℕ
  pub known : IfSome context (λ c. c ≡ from)
  pub has : HasKnownBits f k (number_at t f (with_zeros xs) place from)

-- There the field has an own value with the bits that are wanted.
abbrev pub GivesOwn : Tables → Frame → (id : ℕ) → Extent → Known → List ℕ → Type 0
GivesOwn t f id place wanted xs = IfOk (own_if t (slice_get t.fields id) (with_zeros xs) (f.at + extent place f.lengths.now) f.context) (HasBits wanted)
