-- meaning: the bytes that a constraint looks at.
use Rattle.std.specs.Prelude.{◌≡◌, ℕ, ◌-◌, ◌/◌, ◌<◌, ◌≤◌, ◌^◌, Option, Some, None}
use Rattle.sl_spec.specs.FieldValues.{token_of}
use Rattle.sl_spec.specs.Tables.{Field, Token}
use Rattle.sl_word.specs.declared.word.Endian.{Endian}
use Rattle.sl_word.specs.declared.word.Endian.TheVariants.{Little, Big}
use Rattle.sl_shape_constraints.specs.Values.{Constraint, HoldsOf, width}

-- the byte of a token that has this bit of its integer, by its index
abbrev pub byte_of : Endian → ℕ → ℕ → ℕ
byte_of Little bytes bit = bit / 8
byte_of Big bytes bit = bytes - 1 - bit / 8

-- The byte of the token has a bit of the field. The context is in no byte.
abbrev pub HasBitOfField : Option Token → Field → ℕ → Type 0
HasBitOfField None f i = ⊥
HasBitOfField (Some t) f i = (bit : ℕ) × (f.low ≤ bit) × (bit ≤ f.high)
    × (bit / 8 < t.bits / 8) × (i ≡ byte_of t.endian (t.bits / 8) bit)

-- The constraint holds of every code of its field.
abbrev pub HoldsOfAll : Constraint → Type 0
HoldsOfAll c = (code : ℕ) → code < 2 ^ width c.field → HoldsOf c code

-- The constraint looks at the byte of its token.
abbrev pub Constrains : Constraint → ℕ → Type 0
Constrains c i =
    (HoldsOfAll c → ⊥) × HasBitOfField (token_of c.tokens c.field) c.field i

-- One past the greatest number for which this holds; 0 where it holds for none.
pub record IsEnd (P : ℕ → Type 0) (n : ℕ) : Type 0 where
  pub all : (i : ℕ) → P i → i < n
  pub last : 0 < n → P (n - 1)
