-- The default space, and what an image that is loaded makes of a memory.
use Rattle.std.proofs.Common.{◌≡◌, ℕ, zero, suc, ◌+◌, ◌-◌, ◌%◌, ◌^◌, ◌<◌, ◌≤◌, inl, inr, Bool, true, false, List}
use Rattle.std.proofs.Common.{[], ◌∷◌, length, Option, Some, refl, sym, ap, ◌∙◌, arith}
use Rattle.std.proofs.lemmas.Grind.{common_steps}
use Rattle.std.specs.Prelude.{◌==◌, ◌&&◌, if◌then◌else◌, map, nat_le, position, slice_get, slice_index, unwrap_or}
use Rattle.std.specs.List.{position_or_len}
use Rattle.std.proofs.Math.Nat.{mod-eq_of_lt}
use Rattle.std.proofs.lemmas.Bool.{cases_lt, eq-eqb, eqb-true, false≢true, leb-false, leb-true}
use Rattle.std.proofs.lemmas.List.{get_or_past}
use Rattle.std.proofs.lemmas.List.Folds.{find_at}
use Rattle.std.proofs.lemmas.List.Quantifiers.{position-Some}
use Rattle.sl_faithful_code.specs.Faithful.{AreBytes}
use Rattle.sl_decode_meaning.specs.Actions.{address_bytes, size_or_all}
use Rattle.sl_meaning_instruction.specs.Instructions.{default_space}
use Rattle.sl_list_instructions.specs.Listing.{Image}
use Rattle.sl_step_run.specs.Running.{opening}
use Rattle.sl_spec.specs.Tables.{Space}
use Rattle.sl_spec.specs.declared.definitions.SpaceKind.TheVariants as kind
use Rattle.sl_spec.specs.declared.tables.Tables.{Tables}
use Rattle.sl_word.specs.Bytes.{KeepsOthers, PutsBytes, address_size, byte_at}
use Rattle.sl_word.specs.declared.state.State.{State}

-- ---- the default space

sized : (ss : List Space) (k : ℕ) → k < length ss → slice_index (map (λ s. s.size) ss) k ≡ size_or_all (slice_get ss k)
sized [] k below = absurd (omega (arith, below))
sized (s ∷ ss) zero below = refl
sized (s ∷ ss) (suc k) below = sized ss k (omega (arith, below))

no_space : Space
no_space = record { name = []; kind = kind.Ram; size = 0; default = false }

pub default_within : (t : Tables) (space : ℕ) → position (λ s. s.default) t.spaces ≡ Some space
    → space < length t.spaces
default_within t space is = (position-Some (λ s. s.default) t.spaces space no_space is).0

pub default_size : (t : Tables) (space : ℕ) → position (λ s. s.default) t.spaces ≡ Some space
    → slice_index (map (λ s. s.size) t.spaces) space ≡ address_bytes t
default_size t space is =
    let at : position_or_len (λ s. s.default) t.spaces ≡ space = grind (arith, common_steps) in
    sized t.spaces space (default_within t space is)
    ∙ ap (λ (k : ℕ). size_or_all (slice_get t.spaces k)) (sym at) ∙ ap size_or_all
    (sym (find_at (λ s. s.default) t.spaces))

pub default_is : (t : Tables) (space : ℕ) → position (λ s. s.default) t.spaces ≡ Some space → default_space t ≡ space
default_is t space is = ap (λ (o : Option ℕ). unwrap_or o 0) is

-- ---- the memory

-- a byte of the image, or 0
pub opening_bytes : (t : Tables) (i : Image) → ((k : ℕ) → slice_index i.bytes k < 256) → AreBytes (opening t i)
opening_bytes t i small = λ space offset. by (space == default_space t && nat_le i.base offset) space offset
  where
    by : (b : Bool) (space offset : ℕ) → (if b then slice_index i.bytes (offset - i.base) else 0) < 256
    by true space offset = small (offset - i.base)
    by false space offset = omega arith

module _ (t : Tables) (i : Image) (old new : State) (space : ℕ) (is : default_space t ≡ space)
    (size : address_size old space ≡ address_bytes t)
    (fits : i.base + length i.bytes ≤ 256 ^ address_bytes t) (zeros : (z offset : ℕ) → byte_at old z offset ≡ 0)
    (puts : PutsBytes old new space i.base (length i.bytes) (slice_index i.bytes))
    (keeps : KeepsOthers old new space) where
  -- the image doesn't go round the end of the space
  whole : (k : ℕ) → k < length i.bytes → (i.base + k) % 256 ^ address_size old space ≡ i.base + k
  whole k below = ap (λ (n : ℕ). (i.base + k) % 256 ^ n) size ∙ mod-eq_of_lt (omega (arith, below, fits))

  before : (offset : ℕ) → offset < i.base → byte_at new space offset ≡ 0
  before offset less = puts.kept offset (λ k below same. omega (arith, whole k below, same, less)) ∙ zeros space offset

  within : (k : ℕ) → byte_at new space (i.base + k) ≡ slice_index i.bytes k
  within k = elim (cases_lt k (length i.bytes)) [
    | inl below ↦ ap (byte_at new space) (sym (whole k below)) ∙ puts.put k below
    | inr past ↦
        puts.kept (i.base + k) (λ j below same. omega (arith, whole j below, same, past, below))
        ∙ zeros space (i.base + k) ∙ sym (get_or_past i.bytes k 0 past)
  ]

  behind : (offset : ℕ) → i.base ≤ offset → byte_at new space offset ≡ slice_index i.bytes (offset - i.base)
  behind offset most =
      let at : i.base + (offset - i.base) ≡ offset = omega (arith, most) in
      ap (byte_at new space) (sym at) ∙ within (offset - i.base)

  by : (z offset : ℕ) (a b : Bool) → (z == default_space t) ≡ a → nat_le i.base offset ≡ b
      → byte_at new z offset ≡ (if a && b then slice_index i.bytes (offset - i.base) else 0)
  by z offset true true e f =
      ap (λ (y : ℕ). byte_at new y offset) (eqb-true z (default_space t) e ∙ is) ∙ behind offset
      (leb-true i.base offset f)
  by z offset true false e f =
      ap (λ (y : ℕ). byte_at new y offset) (eqb-true z (default_space t) e ∙ is) ∙ before offset
      (leb-false i.base offset f)
  by z offset false b e f =
      keeps.bytes z offset (λ same. false≢true (sym e ∙ eq-eqb z (default_space t) (same ∙ sym is))) ∙ zeros z offset

  pub opening_is : byte_at new ≡ opening t i
  opening_is = λ j z offset. by z offset (z == default_space t) (nat_le i.base offset) refl refl j
