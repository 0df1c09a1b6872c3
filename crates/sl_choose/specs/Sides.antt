-- law: entries at the two sides of bits, and bits at which a split has to be made.
use Rattle.std.specs.Prelude.{◌≡◌, ℕ, ◌<◌, ◌^◌, ◌⊎◌, ◌==◌, ◌&&◌, Bool, List, [], ◌∷◌, ◌++◌, length, Contains, bit_and, count_by, not}
use Rattle.sl_cube.specs.declared.Cube.{Cube}
use Rattle.sl_cube.specs.declared.Point.{Point}
use Rattle.sl_choose.specs.declared.Entry.{Entry}

-- The cube fixes none of the bits to 1.
abbrev pub SetsNone : Cube → Point → Type 0
SetsNone c bits = (bit_and c.value bits.bytes ≡ 0) × (bit_and c.ctx_value bits.context ≡ 0)

-- The cube fixes each of the bits.
abbrev pub Covers : Cube → Point → Type 0
Covers c bits = (bit_and c.mask bits.bytes ≡ bits.bytes) × (bit_and c.ctx_mask bits.context ≡ bits.context)

-- The entry is put where its cube has points without, and with some of, the bits.
abbrev pub IsPut : Entry → Point → List Entry → List Entry → List Entry → List Entry → Type 0
IsPut e bits low high low_new high_new =
    ((SetsNone e.cube bits → ⊥) × (low_new ≡ low) × (high_new ≡ high ++ e ∷ []))
    ⊎ (SetsNone e.cube bits × Covers e.cube bits × (low_new ≡ low ++ e ∷ []) × (high_new ≡ high))
    ⊎ (SetsNone e.cube bits × (Covers e.cube bits → ⊥) × (low_new ≡ low ++ e ∷ []) × (high_new ≡ high ++ e ∷ []))

abbrev pub AllCover : List Entry → Point → Type 0
AllCover entries bits = (e : Entry) → Contains entries e → Covers e.cube bits

abbrev pub SomeClear : List Entry → Point → Type 0
SomeClear entries bits = (e : Entry) × Contains entries e × SetsNone e.cube bits

abbrev pub SomeSet : List Entry → Point → Type 0
SomeSet entries bits = (e : Entry) × Contains entries e × (SetsNone e.cube bits → ⊥)

-- whether the cube may have a point with none of the bits: it fixes none of them to 1
abbrev pub may_lack : Point → Cube → Bool
may_lack bits c = (bit_and c.value bits.bytes == 0) && (bit_and c.ctx_value bits.context == 0)

-- whether the cube fixes each of the bits
abbrev pub fixes : Point → Cube → Bool
fixes bits c = (bit_and c.mask bits.bytes == bits.bytes) && (bit_and c.ctx_mask bits.context == bits.context)

-- whether the cube may have a point with some of the bits: it doesn't fix all of them to 0
abbrev pub may_have : Point → Cube → Bool
may_have bits c = not (may_lack bits c && fixes bits c)

-- how many entries a point without the bits may be in
abbrev pub lacks_count : Point → List Entry → ℕ
lacks_count bits entries = count_by (λ e. may_lack bits e.cube) entries

-- how many entries a point with some of the bits may be in
abbrev pub has_count : Point → List Entry → ℕ
has_count bits entries = count_by (λ e. may_have bits e.cube) entries

-- The two lists have the entries that a point without the bits, and one with some of them, may be in.
pub record IsSides (entries : List Entry) (bits : Point) (low high : List Entry) : Type 0 where
  pub low_among : (e : Entry) → Contains low e → Contains entries e
  pub high_among : (e : Entry) → Contains high e → Contains entries e
  pub low_all : (e : Entry) → Contains entries e → SetsNone e.cube bits → Contains low e
  pub high_all : (e : Entry) → Contains entries e → (SetsNone e.cube bits × Covers e.cube bits → ⊥) → Contains high e
  pub low_count : length low ≡ lacks_count bits entries
  pub high_count : length high ≡ has_count bits entries

-- All cubes fix the bits, and two differ in them.
pub record IsForced (entries : List Entry) (bits : Point) : Type 0 where
  pub all : AllCover entries bits
  pub clear : SomeClear entries bits
  pub set : SomeSet entries bits

abbrev pub byte_bit : ℕ → Point
byte_bit k = record { bytes = 2 ^ k; context = 0 }

abbrev pub context_bit : ℕ → Point
context_bit k = record { bytes = 0; context = 2 ^ k }

abbrev pub HasNoForcedByte : List Entry → ℕ → Type 0
HasNoForcedByte entries n = (k : ℕ) → k < n → IsForced entries (byte_bit k) → ⊥

abbrev pub HasNoForcedContext : List Entry → ℕ → Type 0
HasNoForcedContext entries n = (k : ℕ) → k < n → IsForced entries (context_bit k) → ⊥

-- There is no bit that all cubes fix and in which two differ.
pub record HasNoForced (entries : List Entry) : Type 0 where
  pub bytes : HasNoForcedByte entries 128
  pub context : HasNoForcedContext entries 64
