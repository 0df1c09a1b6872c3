-- law: what is defined lies where it can be (SLEIGH manual, "Space Definitions", "Naming
-- Registers", "Bit Range Registers", "Attaching Registers").
use Rattle.std.specs.Prelude.{◌≡◌, ℕ, ◌+◌, ◌*◌, ◌^◌, ◌<◌, ◌≤◌, List, Option, Some, slice_get}
use Rattle.sl_spec.specs.Tables as spec
use Rattle.sl_spec.specs.Tables.{Attached, BitRange, Register, Space}
use Rattle.sl_spec.specs.declared.tables.Tables.{Tables}

module _ (t : Tables) where
  -- A register has 1 to 16 bytes, and the first one is in a space.
  pub record RegisterLies (r : Register) : Type 0 where
    pub space : Space
    pub there : slice_get t.spaces r.space ≡ Some space
    pub begins : r.offset < 256 ^ space.size
    pub some : 1 ≤ r.size
    pub most : r.size ≤ 16

  -- A bit range has a bit at least, and is one of a register.
  pub record BitsLie (b : BitRange) : Type 0 where
    pub register : Register
    pub there : slice_get t.registers b.register ≡ Some register
    pub some : 1 ≤ b.count
    pub within : b.low + b.count ≤ 8 * register.size

  -- A register of this number has so many bytes.
  pub record HasBytes (bytes id : ℕ) : Type 0 where
    pub register : Register
    pub there : slice_get t.registers id ≡ Some register
    pub size : register.size ≡ bytes

  -- All registers of a list are there, and have one size.
  pub record AreAlike (ids : List (Option ℕ)) : Type 0 where
    pub bytes : ℕ
    pub each : (k id : ℕ) → slice_get ids k ≡ Some (Some id) → HasBytes bytes id

  -- Addresses have 1 to 8 bytes, registers and bit ranges lie in spaces, and registers that are
  -- attached to a field have one size.
  pub record AreDefined : Type 0 where
    pub spaces : (i : ℕ) (z : Space) → slice_get t.spaces i ≡ Some z → (1 ≤ z.size) × (z.size ≤ 8)
    pub registers : (i : ℕ) (r : Register) → slice_get t.registers i ≡ Some r → RegisterLies r
    pub bit_ranges : (i : ℕ) (b : BitRange) → slice_get t.bitranges i ≡ Some b → BitsLie b
    pub attached : (i : ℕ) (a : Attached) (ids : List (Option ℕ)) → slice_get t.attached i ≡ Some a
        → a.entries ≡ spec.registers ids → AreAlike ids
