-- Regions of lists of bytes, narrowed cell by cell to a cube.
use Rattle.std.proofs.Common.{◌≡◌, ◌≢◌, ℕ, ◌+◌, ◌<◌, ◌≤◌, ◌^◌, bit_and, bit_or, List, length, get_or, set, map, replicate, below_more, Some, arith, sym, ◌∙◌, ap, refl, subst, inl, inr}
use Rattle.std.specs.Prelude.{slice_get}
use Rattle.std.specs.Int.{bit_at}
use Rattle.std.specs.List.{All}
use Rattle.std.proofs.lemmas.Bool.{cases_eq, cases_lt}
use Rattle.std.proofs.lemmas.Nat.Bits.{bit_at-zero}
use Rattle.std.proofs.lemmas.Option.{get_or_from_slice_get, same_Some, slice_get_read, slice_get_within}
use Rattle.std.proofs.lemmas.List.{get_or-map, get_or-replicate, get_or-set_other, get_or-set_same, get_or_past, length-map, length-replicate, length-set}
use Rattle.sl_asm_fit.proofs.BitLemmas.{HasByteOf, byte_from_fits, fits_from_byte}
use Rattle.sl_asm_fit.proofs.WindowLemmas.{bytes_read, reads_bytes}
use Rattle.sl_asm_fit.specs.Cells.{AreApart, Fits, IsByteOf, IsMeet}
use Rattle.sl_asm_fit.specs.Regions.{IsOf, IsOpen, Misses, MissesOne, Narrows, NarrowsOne}
use Rattle.sl_asm_fit.specs.declared.Cell.{Cell}
use Rattle.sl_cube.proofs.BitLemmas.{agrees_joined, least_agrees}
use Rattle.sl_cube.specs.Bits.{Agrees}
use Rattle.sl_cube.specs.declared.Cube.{Cube}

-- ---- cells

pub meet_made : (a b m : Cell) → m.mask ≡ bit_or a.mask b.mask → m.value ≡ bit_or a.value b.value
    → bit_and a.value (bit_and a.mask b.mask) ≡ bit_and b.value (bit_and a.mask b.mask) → IsMeet a b m
meet_made a b m mask value shared =
    let joined = λ (x : ℕ). agrees_joined a.mask a.value b.mask b.value x a.within b.within shared in
    let split = λ (x : ℕ) (h : Fits m x). (joined x).0 (rw (mask, value) at h) in
    record {
      first = λ x h. (split x h).0;
      second = λ x h. (split x h).1;
      both = λ x in_a in_b. rw (mask, value) ((joined x).1 (in_a, in_b));
    }

-- ---- one cell of a region

read_at : (cells : List Cell) (i : ℕ) (a : Cell) → i < length cells → a ≡ get_or cells i a → slice_get cells i ≡ Some a
read_at cells i a below is = slice_get_read cells (length cells) i a refl below is

pub apart_one : (region : List Cell) (i : ℕ) (a c : Cell) → i < length region → a ≡ get_or region i a → AreApart a c → MissesOne region i c
apart_one region i a c below is apart = λ xs inside fits. apart (get_or xs i 0) (inside.fits i a (read_at region i a below is)) fits

set_here : (region : List Cell) (i : ℕ) (m : Cell) → i < length region → slice_get (set region i m) i ≡ Some m
set_here region i m below =
    let long : i < length (set region i m) = rw (length-set region i m) below in
    read_at (set region i m) i m long (sym (get_or-set_same region i m m below))

set_there : (region : List Cell) (i k : ℕ) (m d : Cell) → k ≢ i → slice_get region k ≡ Some d → slice_get (set region i m) k ≡ Some d
set_there region i k m d ne is =
    let below : k < length (set region i m) = rw (length-set region i m) (slice_get_within region k d is) in
    read_at (set region i m) k d below (sym (get_or-set_other region i k m d ne ∙ get_or_from_slice_get region k d d is))

set_back : (region : List Cell) (i k : ℕ) (m d : Cell) → k ≢ i → slice_get (set region i m) k ≡ Some d → slice_get region k ≡ Some d
set_back region i k m d ne is =
    let below : k < length region = rw (length-set region i m) at (slice_get_within (set region i m) k d is) in
    read_at region k d below (sym (sym (get_or-set_other region i k m d ne) ∙ get_or_from_slice_get (set region i m) k d d is))

old_fits : (region : List Cell) (i : ℕ) (a c m : Cell) (xs : List ℕ) → i < length region → a ≡ get_or region i a → IsMeet a c m → IsOf (set region i m) xs
    → (k : ℕ) (d : Cell) → slice_get region k ≡ Some d → Fits d (get_or xs k 0)
old_fits region i a c m xs below is meet inside k d there = elim (cases_eq k i) [
  | inl e ↦
      let same : a ≡ d = same_Some a d (sym (read_at region i a below is) ∙ subst (λ (j : ℕ). slice_get region j ≡ Some d) e there) in
      subst (λ (j : ℕ). Fits d (get_or xs j 0)) (sym e) (subst (λ (x : Cell). Fits x (get_or xs i 0)) same (meet.first (get_or xs i 0) (inside.fits i m (set_here region i m below))))
  | inr ne ↦ inside.fits k d (set_there region i k m d ne there)
]

new_fits : (region : List Cell) (i : ℕ) (a c m : Cell) (xs : List ℕ) → i < length region → a ≡ get_or region i a → IsMeet a c m → IsOf region xs → Fits c (get_or xs i 0)
    → (k : ℕ) (d : Cell) → slice_get (set region i m) k ≡ Some d → Fits d (get_or xs k 0)
new_fits region i a c m xs below is meet inside fits k d there = elim (cases_eq k i) [
  | inl e ↦
      let same : m ≡ d = same_Some m d (sym (set_here region i m below) ∙ subst (λ (j : ℕ). slice_get (set region i m) j ≡ Some d) e there) in
      subst (λ (j : ℕ). Fits d (get_or xs j 0)) (sym e) (subst (λ (x : Cell). Fits x (get_or xs i 0)) same (meet.both (get_or xs i 0) (inside.fits i a (read_at region i a below is)) fits))
  | inr ne ↦ inside.fits k d (set_back region i k m d ne there)
]

pub set_one : (region : List Cell) (i : ℕ) (a c m : Cell) → i < length region → a ≡ get_or region i a → IsMeet a c m → NarrowsOne region i c (set region i m)
set_one region i a c m below is meet = record {
  long = length-set region i m;
  within = λ xs h. record { long = h.long ∙ length-set region i m; are_bytes = h.are_bytes; fits = old_fits region i a c m xs below is meet h };
  fits = λ xs h. meet.second (get_or xs i 0) (h.fits i m (set_here region i m below));
  all = λ xs h fits. record { long = h.long ∙ sym (length-set region i m); are_bytes = h.are_bytes; fits = new_fits region i a c m xs below is meet h fits };
}

past_end : (region : List Cell) (i : ℕ) (xs : List ℕ) → length region ≤ i → IsOf region xs → get_or xs i 0 ≡ 0
past_end region i xs past h = get_or_past xs i 0 (rw h.long past)

pub past_zero : (region : List Cell) (i : ℕ) (c : Cell) → length region ≤ i → c.value ≡ 0 → NarrowsOne region i c region
past_zero region i c past zero = record {
  long = refl;
  within = λ xs h. h;
  fits = λ xs h j set. ap (λ (n : ℕ). bit_at n j) (past_end region i xs past h ∙ sym zero);
  all = λ xs h fits. h;
}

pub past_other : (region : List Cell) (i : ℕ) (c : Cell) → length region ≤ i → c.value ≢ 0 → MissesOne region i c
past_other region i c past other = λ xs h fits.
    let low : c.value ≤ get_or xs i 0 = least_agrees c.mask c.value (get_or xs i 0) c.within fits in
    let none = past_end region i xs past h in
    other (omega (arith, low, none))

-- ---- the bytes of a cube

pub record NarrowsFirst (region : List Cell) (at : ℕ) (cube : Cube) (n : ℕ) (narrow : List Cell) : Type 0 where
  pub long : length narrow ≡ length region
  pub within : (xs : List ℕ) → IsOf narrow xs → IsOf region xs
  pub has : (xs : List ℕ) → IsOf narrow xs → (k : ℕ) → k < n → HasByteOf cube k (get_or xs (at + k) 0)
  pub all : (xs : List ℕ) → IsOf region xs → ((k : ℕ) → k < 16 → HasByteOf cube k (get_or xs (at + k) 0)) → IsOf narrow xs

pub first_none : (region : List Cell) (at : ℕ) (cube : Cube) → NarrowsFirst region at cube 0 region
first_none region at cube = record { long = refl; within = λ xs h. h; has = λ xs h k below. absurd (omega (arith, below)); all = λ xs h has. h }

pub first_more : (region : List Cell) (at : ℕ) (cube : Cube) (narrow new : List Cell) (n : ℕ) (c : Cell) → n < 16 → IsByteOf cube n c
    → NarrowsOne narrow (at + n) c new → NarrowsFirst region at cube n narrow → NarrowsFirst region at cube (n + 1) new
first_more region at cube narrow new n c below is one f = record {
  long = one.long ∙ f.long;
  within = λ xs h. f.within xs (one.within xs h);
  has = λ xs h. below_more (λ k. HasByteOf cube k (get_or xs (at + k) 0)) n (f.has xs (one.within xs h))
      (byte_from_fits cube n (get_or xs (at + n) 0) c is (one.fits xs h));
  all = λ xs h has. one.all xs (f.all xs h has) (fits_from_byte cube n (get_or xs (at + n) 0) c is (has n below));
}

pub first_misses : (region : List Cell) (at context : ℕ) (cube : Cube) (narrow : List Cell) (n : ℕ) (c : Cell) → at ≤ 255 → n < 16 → IsByteOf cube n c
    → MissesOne narrow (at + n) c → NarrowsFirst region at cube n narrow → Misses region at context cube
first_misses region at context cube narrow n c place below is one f = λ xs h reads.
    let has = reads_bytes cube xs at context place h.are_bytes reads in
    one xs (f.all xs h has) (fits_from_byte cube n (get_or xs (at + n) 0) c is (has n below))

pub first_all : (region : List Cell) (at context : ℕ) (cube : Cube) (narrow : List Cell) (n : ℕ) → at ≤ 255 → ((k x : ℕ) → n ≤ k → k < 16 → HasByteOf cube k x) → cube.mask < 2 ^ 128
    → Agrees cube.ctx_mask cube.ctx_value context → NarrowsFirst region at cube n narrow → Narrows region at context cube narrow
first_all region at context cube narrow n place rest fits agrees f = record {
  long = f.long;
  within = f.within;
  reads = λ xs h. bytes_read cube xs at context place h.are_bytes fits (λ k lt. elim (cases_lt k n) [
    | inl told ↦ f.has xs h k told
    | inr past ↦ rest k (get_or xs (at + k) 0) past lt
  ]) agrees;
  all = λ xs h reads. f.all xs h (reads_bytes cube xs at context place h.are_bytes reads);
}

-- ---- the region of all lists, and a list of a region

open_fits : (n : ℕ) (c : Cell) (xs : List ℕ) → c.mask ≡ 0 → (k : ℕ) (d : Cell) → slice_get (replicate n c) k ≡ Some d → Fits d (get_or xs k 0)
open_fits n c xs none k d there = λ i fixed.
    let within : k < n = rw (length-replicate n c) at (slice_get_within (replicate n c) k d there) in
    let same : c ≡ d = sym (get_or-replicate n k c d within) ∙ get_or_from_slice_get (replicate n c) k d d there in
    let clear : bit_at d.mask i ≡ 0 = ap (λ (m : ℕ). bit_at m i) (ap (λ (x : Cell). x.mask) (sym same) ∙ none) ∙ bit_at-zero i in
    absurd (omega (arith, clear, fixed))

pub open_all : (n : ℕ) (c : Cell) → c.mask ≡ 0 → IsOpen n (replicate n c)
open_all n c none = record {
  long = length-replicate n c;
  all = λ xs long bytes. record { long = long ∙ sym (length-replicate n c); are_bytes = bytes; fits = open_fits n c xs none };
}

value_at : (region : List Cell) (k : ℕ) (c : Cell) → k < length region → slice_get region k ≡ Some c → get_or (map (λ (d : Cell). d.value) region) k 0 ≡ c.value
value_at region k c below there =
    get_or-map (λ (d : Cell). d.value) region k c 0 below ∙ ap (λ (d : Cell). d.value) (get_or_from_slice_get region k c c there)

pub values_in : (region : List Cell) → All (λ b. b < 256) (map (λ (c : Cell). c.value) region) → IsOf region (map (λ (c : Cell). c.value) region)
values_in region bytes = record {
  long = length-map region (λ (c : Cell). c.value);
  are_bytes = bytes;
  fits = λ k c there i fixed.
      let within = slice_get_within region k c there in
      ap (λ (n : ℕ). bit_at n i) (value_at region k c within there);
}
