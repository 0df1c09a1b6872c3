-- Temporary bytes: what is put is read, and what lies below stays.
use Rattle.std.proofs.Common.{◌≡◌, ℕ, zero, suc, ◌+◌, ◌-◌, ◌/◌, ◌^◌, ◌<◌, ◌≤◌, Bool, true, false, ap, ◌∙◌, refl, arith}
use Rattle.std.specs.Prelude.{if◌then◌else◌, ◌&&◌, ◌==◌, nat_lt, nat_le, List, slice_index}
use Rattle.std.proofs.lemmas.Bool.Decides.{nat_tests}
use Rattle.std.proofs.lemmas.Nat.{mod_below}
use Rattle.sl_pcode.specs.Machine.{Temporaries, with_temporaries}
use Rattle.sl_word.specs.Layout.{byte_of, big_endian, little_endian, number_of}
use Rattle.sl_word.specs.Memories.{Memory, distance, stored, with_bytes}
use Rattle.sl_word.specs.declared.word.Endian.{Endian}
use Rattle.sl_word.specs.declared.word.Endian.TheVariants.{Little, Big}
use Rattle.sl_word.proofs.LayoutLaws.{number_of-byte_of, number_of-same}
use Rattle.sl_word.proofs.Memory.{byte_above, byte_below_it}
use Rattle.std.proofs.Math.Nat.{pow-suc}

-- ---- numbers of bytes

little_below : (f : ℕ → ℕ) (n : ℕ) → ((i : ℕ) → f i < 256) → little_endian f n < 256 ^ n
little_below f zero low = omega arith
little_below f (suc n) low =
    let r = byte_above (little_endian f n) (f n) n (little_below f n low) (low n) in
    omega (arith, r, pow-suc 256 n, (let e : 256 ^ (n + 1) ≡ 256 ^ suc n = ap (λ k. 256 ^ k) (let q : n + 1 ≡ suc n = omega arith in q) in e))

big_below : (f : ℕ → ℕ) (n : ℕ) → ((i : ℕ) → f i < 256) → big_endian f n < 256 ^ n
big_below f zero low = omega arith
big_below f (suc n) low =
    let r = byte_below_it (big_endian f n) (f n) n (big_below f n low) (low n) in
    omega (arith, r, pow-suc 256 n, (let e : 256 ^ (n + 1) ≡ 256 ^ suc n = ap (λ k. 256 ^ k) (let q : n + 1 ≡ suc n = omega arith in q) in e))

pub number_below : (endian : Endian) (f : ℕ → ℕ) (n : ℕ) → ((i : ℕ) → f i < 256) → number_of endian f n < 256 ^ n
number_below Little f n low = little_below f n low
number_below Big f n low = big_below f n low

pub byte_low : (endian : Endian) (n v i : ℕ) → byte_of endian n v i < 256
byte_low Little n v i = mod_below (v / 256 ^ i) 256 (omega arith)
byte_low Big n v i = mod_below (v / 256 ^ (n - 1 - i)) 256 (omega arith)

either_low : (b : Bool) (x y : ℕ) → x < 256 → y < 256 → (if b then x else y) < 256
either_low true x y hx hy = hx
either_low false x y hx hy = hy

-- ---- temporary bytes

-- all bytes below an offset are as they were, and bytes stay bytes
pub record Same (t : ℕ) (u u' : Temporaries) : Type 0 where
  pub at : (o : ℕ) → o < t → u' o ≡ u o
  pub low : ((o : ℕ) → u o < 256) → (o : ℕ) → u' o < 256

pub same_refl : (t : ℕ) (u : Temporaries) → Same t u u
same_refl t u = record { at = λ o h. refl; low = λ h. h }

pub same_trans : (t t' : ℕ) (u v w : Temporaries) → t ≤ t' → Same t u v → Same t' v w → Same t u w
same_trans t t' u v w le a b = record { at = λ o h. b.at o (omega arith) ∙ a.at o h; low = λ h. b.low (a.low h) }

-- less is asked of what stays
pub same_below : (t t' : ℕ) (u v : Temporaries) → t ≤ t' → Same t' u v → Same t u v
same_below t t' u v le a = record { at = λ o h. a.at o (omega arith); low = a.low }

here : (offset o n x y : ℕ) → offset ≤ o → o < offset + n → (if nat_le offset o && nat_lt o (offset + n) then x else y) ≡ x
here offset o n x y from below = grind (arith, nat_tests)

before : (offset o n x y : ℕ) → o < offset → (if nat_le offset o && nat_lt o (offset + n) then x else y) ≡ y
before offset o n x y less = grind (arith, nat_tests)

behind : (offset o n x y : ℕ) → offset + n ≤ o → (if nat_le offset o && nat_lt o (offset + n) then x else y) ≡ y
behind offset o n x y more = grind (arith, nat_tests)

module _ (endian : Endian) where
  -- a number of n bytes at an offset
  abbrev pub read_at : Temporaries → (offset n : ℕ) → ℕ
  read_at u offset n = number_of endian (λ i. u (offset + i)) n

  abbrev pub put_at : Temporaries → (offset n v : ℕ) → Temporaries
  put_at u offset n v = with_temporaries offset n (byte_of endian n v) u

  pub same_put : (t n v : ℕ) (u : Temporaries) → Same t u (put_at u t n v)
  same_put t n v u = record {
    at = λ o h. before t o n (byte_of endian n v (o - t)) (u o) h;
    low = λ low o. either_low (nat_le t o && nat_lt o (t + n)) (byte_of endian n v (o - t)) (u o) (byte_low endian n v (o - t)) (low o);
  }

  pub read_same : (t o n : ℕ) (u w : Temporaries) → o + n ≤ t → Same t u w → read_at w o n ≡ read_at u o n
  read_same t o n u w le s = number_of-same endian (λ i. w (o + i)) (λ i. u (o + i)) n (λ i h. s.at (o + i) (omega arith))

  pub read_put : (t n v : ℕ) (u : Temporaries) → v < 256 ^ n → read_at (put_at u t n v) t n ≡ v
  read_put t n v u lt =
      number_of-byte_of endian v n (λ i. put_at u t n v (t + i)) lt
      (λ i h. here t (t + i) n (byte_of endian n v (t + i - t)) (u (t + i)) (omega arith) (omega arith)
      ∙ ap (byte_of endian n v) (let e : t + i - t ≡ i = omega arith in e))

  -- a number that lies wholly before or behind
  pub read_apart_before : (t n v o k : ℕ) (u : Temporaries) → o + k ≤ t → read_at (put_at u t n v) o k ≡ read_at u o k
  read_apart_before t n v o k u le = read_same t o k u (put_at u t n v) le (same_put t n v u)

  pub read_apart_behind : (t n v o k : ℕ) (u : Temporaries) → t + n ≤ o → read_at (put_at u t n v) o k ≡ read_at u o k
  read_apart_behind t n v o k u le =
      number_of-same endian (λ i. put_at u t n v (o + i)) (λ i. u (o + i)) k (λ i h. behind t (o + i) n (byte_of endian n v (o + i - t)) (u (o + i)) (omega arith))

  pub low_put : (t n v : ℕ) (u : Temporaries) → ((o : ℕ) → u o < 256) → (o : ℕ) → put_at u t n v o < 256
  low_put t n v u low = (same_put t n v u).low low

  -- ---- memory

  pub low_stored : (sizes : List ℕ) (m : Memory) (space offset n v : ℕ) → ((z o : ℕ) → m z o < 256) → (z o : ℕ) → stored endian sizes m space offset n v z o < 256
  low_stored sizes m space offset n v low z o = picked (z == space)
    where
      most : ℕ
      most = 256 ^ slice_index sizes space

      picked : (b : Bool) → (if b then with_bytes (256 ^ slice_index sizes space) offset n (byte_of endian n v) (m space) else m z) o < 256
      picked true =
          either_low (nat_lt o (256 ^ slice_index sizes space) && nat_lt (distance (256 ^ slice_index sizes space) offset o) n) _ _ (byte_low endian n v (distance (256 ^ slice_index sizes space) offset o)) (low space o)
      picked false = low z o
