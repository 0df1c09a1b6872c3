-- A write of a state, as a function on its bytes.
use Rattle.std.proofs.Common.{◌≡◌, ℕ, zero, suc, Bool, true, false, ◌+◌, ◌-◌, ◌%◌, ◌^◌, ◌<◌, ◌≤◌, ◌≢◌, List, [], ◌∷◌, map, length, get_or, sym, ap, ◌∙◌, inl, inr, arith}
use Rattle.sl_word.specs.declared.space.Space.{Space}
use mathlib.Core.Path.{fun_ext}
use Rattle.std.specs.Prelude.{if◌then◌else◌, ◌&&◌, ◌==◌, nat_lt}
use Rattle.std.proofs.lemmas.Bool.{cases_lt, cases_eq}
use Rattle.std.proofs.lemmas.List.{length-map}
use Rattle.std.proofs.lemmas.Bool.Decides.{nat_tests}
use Rattle.std.proofs.Math.Nat.{add-mod-mod, add-mod_right, mod-lt, mod-add-mod, mod-eq_of_lt}
use Rattle.sl_word.specs.declared.state.State.{State}
use Rattle.sl_word.specs.Bytes.{address_size, address_sizes, byte_at, endian_of, IsSame, KeepsOthers, PutsBytes}
use Rattle.sl_word.specs.Layout.{Puts, byte_of}
use Rattle.sl_word.specs.Memories.{distance, with_bytes, stored}
use Rattle.sl_word.proofs.Powers.{bytes_mono}
use Rattle.sl_word.proofs.Memory.{apart}

-- an offset lies as far behind a base as it says
behind : (m base offset : ℕ) → offset < m → (base + distance m base offset) % m ≡ offset
behind m base offset inside =
    let r : base % m < m = mod-lt base (omega arith) in
    let whole : base % m + (offset + (m - base % m)) ≡ offset + m = omega arith in
    sym (mod-add-mod base m (distance m base offset))
    ∙ add-mod-mod (base % m) (offset + (m - base % m)) m
    ∙ ap (λ k. k % m) whole
    ∙ add-mod_right offset m
    ∙ mod-eq_of_lt inside

-- what lies some places behind a base lies so far behind it
distance-behind : (m base i : ℕ) → i < m → distance m base ((base + i) % m) ≡ i
distance-behind m base i inside =
    let r : (base + i) % m < m = mod-lt (base + i) (omega arith) in
    let d : distance m base ((base + i) % m) < m = mod-lt ((base + i) % m + (m - base % m)) (omega arith) in
    apart base (distance m base ((base + i) % m)) i m d inside (behind m base ((base + i) % m) r)

both : (offset m d count x y : ℕ) → offset < m → d < count → (if nat_lt offset m && nat_lt d count then x else y) ≡ x
both offset m d count x y inside near = grind (arith, nat_tests)

outside : (offset m d count x y : ℕ) → m ≤ offset → (if nat_lt offset m && nat_lt d count then x else y) ≡ y
outside offset m d count x y past = grind (arith, nat_tests)

far : (offset m d count x y : ℕ) → count ≤ d → (if nat_lt offset m && nat_lt d count then x else y) ≡ y
far offset m d count x y away = grind (arith, nat_tests)

-- a space's bytes after some were put, offset by offset
pub with_bytes-put : (m base count : ℕ) (byte old new : ℕ → ℕ) → 1 ≤ m → count ≤ m → Puts m base count byte old new → (offset : ℕ) → new offset ≡ with_bytes m base count byte old offset
with_bytes-put m base count byte old new some short puts offset =
    let d : ℕ = distance m base offset in
    elim (cases_lt offset m) [
      | inl inside ↦
          elim (cases_lt (distance m base offset) count) [
            | inl near ↦
                ap new (sym (behind m base offset inside)) ∙ puts.put (distance m base offset) near
                ∙ sym (both offset m (distance m base offset) count (byte (distance m base offset)) (old offset) inside near)
            | inr away ↦
                puts.kept offset (λ i h e.
                let same : distance m base offset ≡ i = ap (distance m base) e ∙ distance-behind m base i (omega arith) in
                absurd (omega arith))
                ∙ sym (far offset m (distance m base offset) count (byte (distance m base offset)) (old offset) away)
          ]
      | inr past ↦
          puts.kept offset (λ i h e. let r : (base + i) % m < m = mod-lt (base + i) (omega arith) in absurd (omega arith))
          ∙ sym (outside offset m (distance m base offset) count (byte (distance m base offset)) (old offset) past)
    ]

taken : (b : Bool) (f g : ℕ → ℕ) (o : ℕ) → b ≡ true → (if b then f else g) o ≡ f o
taken b f g o e = ap (λ (c : Bool). (if c then f else g) o) e

passed : (b : Bool) (f g : ℕ → ℕ) (o : ℕ) → b ≡ false → (if b then f else g) o ≡ g o
passed b f g o e = ap (λ (c : Bool). (if c then f else g) o) e

are_same : (x y : ℕ) → x ≡ y → (x == y) ≡ true
are_same x y e = grind (arith, nat_tests)

are_apart : (x y : ℕ) → x ≢ y → (x == y) ≡ false
are_apart x y ne = grind (arith, nat_tests)

-- the bytes of a state after a write, space by space and offset by offset
byte_at-stored : (old new : State) (space offset count number : ℕ) → count ≤ 16 → 1 ≤ address_size old space → PutsBytes old new space offset count (byte_of (endian_of old) count number) → KeepsOthers old new space
    → (other place : ℕ) → byte_at new other place ≡ stored (endian_of old) (address_sizes old) (byte_at old) space offset count number other place
byte_at-stored old new space offset count number small some puts keeps other place =
    let m : ℕ = 256 ^ address_size old space in
    let least : 256 ≤ 256 ^ address_size old space = bytes_mono 1 (address_size old space) some in
    let byte : ℕ → ℕ = byte_of (endian_of old) count number in
    elim (cases_eq other space) [
      | inl here ↦
          ap (λ s. byte_at new s place) here
          ∙ with_bytes-put m offset count byte (byte_at old space) (byte_at new space) (omega arith) (omega arith) puts place
          ∙ sym (taken (other == space) (with_bytes m offset count byte (byte_at old space)) (byte_at old other) place (are_same other space here))
      | inr away ↦
          keeps.bytes other place away
          ∙ sym (passed (other == space) (with_bytes m offset count byte (byte_at old space)) (byte_at old other) place (are_apart other space away))
    ]

-- A write of a state, as a function on its memory.
pub memory-stored : (old new : State) (space offset count number : ℕ) → count ≤ 16 → 1 ≤ address_size old space → PutsBytes old new space offset count (byte_of (endian_of old) count number) → KeepsOthers old new space
    → byte_at new ≡ stored (endian_of old) (address_sizes old) (byte_at old) space offset count number
memory-stored old new space offset count number small some puts keeps =
    fun_ext (λ other. fun_ext (λ place. byte_at-stored old new space offset count number small some puts keeps other place))

-- Two states with the same bytes have the same memory.
pub memory-same : (old new : State) → IsSame old new → byte_at new ≡ byte_at old
memory-same old new same = fun_ext (λ space. fun_ext (λ offset. same.bytes space offset))

some_at : (xs : List Space) (i : ℕ) → i < length (map (λ one. one.size.bytes) xs) → (1 ≤ get_or (map (λ one. one.size.bytes) xs) i 0) × (get_or (map (λ one. one.size.bytes) xs) i 0 ≤ 8)
some_at [] i inside = absurd (omega arith)
some_at (x ∷ xs) zero inside = (x.size.some, x.size.at_most_8)
some_at (x ∷ xs) (suc i) inside = some_at xs i (omega arith)

-- An address has 1 to 8 bytes.
pub address_size-range : (state : State) (space : ℕ) → space < length (address_sizes state) → (1 ≤ address_size state space) × (address_size state space ≤ 8)
unfolding address_sizes
address_size-range state space inside = some_at state.spaces.items space inside

-- There are fewer than 2^32 spaces.
pub few_spaces : (state : State) → length (address_sizes state) < 2 ^ 32
unfolding address_sizes
few_spaces state = rw (length-map state.spaces.items (λ one. one.size.bytes)) state.few
