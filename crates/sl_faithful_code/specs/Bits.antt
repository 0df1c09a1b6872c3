-- law: the operations that take bits out of a value and that put bits into one: by masks, which
-- are constants of at most 64 bits, and in a greater value by shifts.
use Rattle.std.specs.Prelude.{ℕ, ◌+◌, ◌-◌, ◌*◌, ◌%◌, ◌^◌, ◌==◌, ◌&&◌, ◌||◌, nat_le, nat_lt, not, Bool, true}
use Rattle.std.specs.Prelude.{false, if◌then◌else◌, List, [], ◌∷◌, ◌++◌, Option, Some, None}
use Rattle.sl_faithful_code.specs.Operations.{Operation, amount, at_temp, binary, constant, unary}
use Rattle.sl_pcode.specs.declared.varnode.Place2.{Place2}
use Rattle.sl_pcode.specs.declared.varnode.Place2.TheVariants.{Const}
use Rattle.sl_pcode.specs.declared.varnode.Varnode.{Varnode}
use Rattle.sl_section_flat.specs.Sections as s
use Rattle.sl_section_flat.specs.Sections.{Symbol, Term}
use Rattle.sl_section_flat.specs.declared.term.Order.{Order}
use Rattle.sl_section_flat.specs.declared.term.Order.TheVariants.{AsWritten, Exchanged}
use Rattle.sl_word.specs.declared.operation.Op1.{Op1}
use Rattle.sl_word.specs.declared.operation.Op1.TheVariants.{BoolNegate, IntZext}
use Rattle.sl_word.specs.declared.operation.Op2.{Op2}
use Rattle.sl_word.specs.declared.operation.Op2.TheVariants as two
use Rattle.sl_word.specs.declared.operation.Op2.TheVariants.{IntAdd, IntAnd, IntLeft, IntOr, IntRight}
use Rattle.sl_word.specs.declared.operation.Op2.TheVariants.{IntSub, Subpiece}
use Rattle.sl_word.specs.declared.word.Size.{Size}

-- ---- what the text says of a value

-- the operators that give 0 or 1
abbrev pub is_test : Op2 → Bool
is_test two.IntEqual = true
is_test two.IntNotEqual = true
is_test two.IntLess = true
is_test two.IntLessEqual = true
is_test two.IntSless = true
is_test two.IntSlessEqual = true
is_test two.IntCarry = true
is_test two.IntScarry = true
is_test two.IntSborrow = true
is_test _ = false

-- What an operator makes of values of which it is known, or isn't, that they have no bits but the
-- lowest `count`.
abbrev pub one_is_below : Op1 → (value : Bool) → (count : ℕ) → Bool
one_is_below IntZext value count = value
one_is_below BoolNegate value count = value && nat_lt 0 count
one_is_below _ value count = false

abbrev pub two_is_below : Op2 → (first second : Bool) → (count : ℕ) → Bool
two_is_below two.IntAnd first second count = first || second
two_is_below two.BoolAnd first second count = first || second
two_is_below two.IntOr first second count = first && second
two_is_below two.BoolOr first second count = first && second
two_is_below two.IntXor first second count = first && second
two_is_below two.BoolXor first second count = first && second
two_is_below op first second count = is_test op && nat_lt 0 count

abbrev pub ordered_is_below : Op2 → Order → (left right : Bool) → (count : ℕ) → Bool
ordered_is_below op AsWritten left right count = two_is_below op left right count
ordered_is_below op Exchanged left right count = two_is_below op right left count

abbrev pub symbol_is_below : Symbol → (count : ℕ) → Bool
symbol_is_below (s.bit_range space offset n low k) count = nat_le k count
symbol_is_below _ count = false

-- the value has no bits but the lowest `count`
abbrev pub is_below : Term → (count : ℕ) → Bool
is_below (s.number v x) count = nat_lt v (2 ^ count)
is_below (s.sized v n x) count = nat_lt v (2 ^ count)
is_below (s.name a x) count = symbol_is_below a count
is_below (s.paren e x) count = is_below e count
is_below (s.bits e low k x) count = nat_le k count
is_below (s.one op e x) count = one_is_below op (is_below e count) count
is_below (s.two op order a b x) count =
    ordered_is_below op order (is_below a count) (is_below b count) count
is_below _ count = false

-- ---- masks

-- the lowest bits, and those from `low` on
abbrev pub ones : (count : ℕ) → ℕ
ones count = 2 ^ count - 1

abbrev pub mask : (low count : ℕ) → ℕ
mask low count = 2 ^ (count + low) - 2 ^ low

-- all other bits of n bytes
abbrev pub others : Size → (low count : ℕ) → Varnode
others n low count = constant (256 ^ n.bytes - 1 - mask low count) n

-- the bits lie in n bytes, and a constant has so many
abbrev pub has_mask : Size → (low count : ℕ) → Bool
has_mask n low count = nat_le n.bytes 8 && nat_le (low + count) (8 * n.bytes)

-- the number that a varnode is
abbrev pub number_at : Place2 → (offset : ℕ) → Option ℕ
number_at Const offset = Some offset
number_at _ offset = None

-- A value may have bits above those that are put, and they would stay beside them.
abbrev pub has_more : Size → (v : Varnode) → (below : Bool) → (low count : ℕ) → Bool
has_more n v below low count =
    not below && (nat_lt count (8 * v.size.bytes) && nat_lt (low + count) (8 * n.bytes))

-- ---- operations that are left out where they would do nothing

abbrev pub taken : Bool → Operation → List Operation
taken false o = []
taken true o = o ∷ []

-- where the value is then
abbrev pub moved : Bool → (new at : Varnode) → Varnode
moved false new at = at
moved true new at = new

module _ (top : ℕ) where
  -- ---- bits that are taken: moved down, cut to the size, and the bits above cleared

  abbrev pub lowered : (t : ℕ) → (from : Varnode) → (low : ℕ) → Varnode
  lowered t from low = moved (nat_lt 0 low) (at_temp top t from.size) from

  abbrev pub lower : (t : ℕ) → (from : Varnode) → (low : ℕ) → List Operation
  lower t from low =
      taken (nat_lt 0 low) (binary IntRight (at_temp top t from.size) from (amount low))

  abbrev pub shortened : (t : ℕ) → (from : Varnode) → Size → Varnode
  shortened t from n = moved (nat_lt n.bytes from.size.bytes) (at_temp top t n) from

  abbrev pub shorten : (t : ℕ) → (from : Varnode) → Size → List Operation
  shorten t from n =
      taken (nat_lt n.bytes from.size.bytes) (binary Subpiece (at_temp top t n) from (amount 0))

  -- from a value that is moved down already
  abbrev pub clear_above : (t : ℕ) → (from : Varnode) → (count : ℕ) → (out : Varnode)
      → List Operation
  clear_above t from count out = shorten t from out.size
      ++ binary IntAnd out (shortened t from out.size) (constant (ones count) out.size) ∷ []

  abbrev pub bits_by_mask : (t : ℕ) → (from : Varnode) → (low count : ℕ) → (out : Varnode)
      → List Operation
  bits_by_mask t from low count out =
      if nat_lt (low + count) (8 * from.size.bytes) && nat_lt count (8 * out.size.bytes)
      then lower t from low ++ clear_above t (lowered t from low) count out
      else if nat_lt out.size.bytes from.size.bytes
      then lower t from low ++ binary Subpiece out (lowered t from low) (amount 0) ∷ []
      else binary IntRight out from (amount low) ∷ []

  -- moved up to the top, and down again
  abbrev pub bits_by_shifts : (t : ℕ) → (from : Varnode) → (low count : ℕ) → (out : Varnode)
      → List Operation
  bits_by_shifts t from low count out =
      binary IntLeft (at_temp top t from.size) from
      (amount (8 * from.size.bytes - (low + count)))
      ∷ binary IntRight (at_temp top t from.size) (at_temp top t from.size)
      (amount (8 * from.size.bytes - count))
      ∷ binary Subpiece out (at_temp top t from.size) (amount 0) ∷ []

  -- `count` bits from bit `low` on of what is read
  unfoldable pub bits_into : (t : ℕ) → (from : Varnode) → (low count : ℕ) → (out : Varnode)
      → List Operation
  bits_into t from low count out =
      if has_mask from.size low count && nat_le out.size.bytes from.size.bytes
      then bits_by_mask t from low count out else bits_by_shifts t from low count out

  -- ---- bits that are put

  -- bits of a number
  abbrev pub number_put : (t : ℕ) → Size → (old : Varnode) → (low count k : ℕ) → (out : Varnode)
      → List Operation
  number_put t n old low count k out =
      if k == 0 then binary IntAnd out old (others n low count) ∷ []
      else if k == mask low count then binary IntOr out old (constant k n) ∷ []
      else binary IntAnd (at_temp top (t + 1) n) old (others n low count)
      ∷ binary IntOr out (at_temp top (t + 1) n) (constant k n) ∷ []

  -- a value as one of n bytes
  abbrev pub widened : (t : ℕ) → Size → (v : Varnode) → Varnode
  widened t n v = moved (nat_lt v.size.bytes n.bytes) (at_temp top t n) v

  abbrev pub widen : (t : ℕ) → Size → (v : Varnode) → List Operation
  widen t n v = taken (nat_lt v.size.bytes n.bytes) (unary IntZext (at_temp top t n) v)

  -- its bits above cleared
  abbrev pub cleared : Bool → (t : ℕ) → Size → (v : Varnode) → Varnode
  cleared more t n v = moved more (at_temp top t n) v

  abbrev pub clear : Bool → (t : ℕ) → Size → (v : Varnode) → (count : ℕ) → List Operation
  clear more t n v count =
      taken more (binary IntAnd (at_temp top t n) v (constant (ones count) n))

  -- moved to its place
  abbrev pub raised : (t : ℕ) → Size → (v : Varnode) → (low : ℕ) → Varnode
  raised t n v low = moved (nat_lt 0 low) (at_temp top t n) v

  abbrev pub raise : (t : ℕ) → Size → (v : Varnode) → (low : ℕ) → List Operation
  raise t n v low = taken (nat_lt 0 low) (binary IntLeft (at_temp top t n) v (amount low))

  -- and joined with the other bits of the old value
  abbrev pub join : (t : ℕ) → Size → (old v : Varnode) → (low count : ℕ) → (out : Varnode)
      → List Operation
  join t n old v low count out =
      binary IntAnd (at_temp top (t + 1) n) old (others n low count)
      ∷ binary IntOr out (at_temp top (t + 1) n) v ∷ []

  abbrev pub raise_and_join : (t : ℕ) → Size → (old v : Varnode) → (low count : ℕ)
      → (out : Varnode) → List Operation
  raise_and_join t n old v low count out =
      raise t n v low ++ join t n old (raised t n v low) low count out

  abbrev pub value_put : (t : ℕ) → Size → (old v : Varnode) → (below : Bool) → (low count : ℕ)
      → (out : Varnode) → List Operation
  value_put t n old v below low count out = widen t n v
      ++ (clear (has_more n v below low count) t n (widened t n v) count
      ++ raise_and_join t n old (cleared (has_more n v below low count) t n (widened t n v)) low
      count out)

  abbrev pub put_by_mask : Option ℕ → (t : ℕ) → Size → (old v : Varnode) → (below : Bool)
      → (low count : ℕ) → (out : Varnode) → List Operation
  put_by_mask (Some k) t n old v below low count out =
      number_put t n old low count (k % 2 ^ count * 2 ^ low) out
  put_by_mask None t n old v below low count out = value_put t n old v below low count out

  -- the new bits are moved up to the top and down to their place, the old ones taken away
  abbrev pub put_by_shifts : (t : ℕ) → Size → (old v : Varnode) → (low count : ℕ)
      → (out : Varnode) → List Operation
  put_by_shifts t n old v low count out =
      unary IntZext (at_temp top t n) v
      ∷ binary IntLeft (at_temp top t n) (at_temp top t n) (amount (8 * n.bytes - count))
      ∷ binary IntRight (at_temp top t n) (at_temp top t n)
      (amount (8 * n.bytes - (low + count)))
      ∷ binary IntLeft (at_temp top (t + 1) n) old (amount (8 * n.bytes - (low + count)))
      ∷ binary IntRight (at_temp top (t + 1) n) (at_temp top (t + 1) n)
      (amount (8 * n.bytes - count))
      ∷ binary IntLeft (at_temp top (t + 1) n) (at_temp top (t + 1) n) (amount low)
      ∷ binary IntSub (at_temp top (t + 1) n) old (at_temp top (t + 1) n)
      ∷ binary IntAdd out (at_temp top (t + 1) n) (at_temp top t n) ∷ []

  -- a value of n bytes with bits of another, `v`, in their place. `below`: that has no bits but
  -- these.
  unfoldable pub bits_put : (t : ℕ) → Size → (old v : Varnode) → (below : Bool)
      → (low count : ℕ) → (out : Varnode) → List Operation
  bits_put t n old v below low count out = if has_mask n low count
      then put_by_mask (number_at v.place v.offset) t n old v below low count out
      else put_by_shifts t n old v low count out
