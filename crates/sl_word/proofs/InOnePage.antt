-- Numbers whose bytes lie in one page, and the bytes by which std lays out numbers.
use Rattle.std.proofs.Common.{◌≡◌, ℕ, zero, suc, ◌+◌, ◌-◌, ◌*◌, ◌/◌, ◌%◌, ◌^◌, ◌<◌, ◌≤◌, List, Some, None, get_or, refl, sym, ◌∙◌, ap, subst, add-one, arith}
use Rattle.std.specs.Option.{option_map_or}
use Rattle.std.specs.Int.{byte_at, byte_worth, bytes_high_first, bytes_low_first, from_be_bytes, from_le_bytes, sum_through, w64, w128}
use Rattle.std.proofs.Math.Nat.{add-mul-mod_self_left, div-div-eq-div-mul, div-one, mod-add-mod, mod-eq_of_lt, mod-lt, mul-div_cancel, pow-suc, pow-succ'}
use Rattle.std.proofs.Math.Pow.{pow-add}
use Rattle.std.proofs.lemmas.Nat.{div-mul-add, mul-add-lt}
use Rattle.std.specs.Int.Bits.{bit_and}
use Rattle.sl_word.specs.declared.page.Page.{Page}
use Rattle.sl_word.specs.declared.space.Space.{Space}
use Rattle.sl_word.specs.declared.word.Endian.{Endian}
use Rattle.sl_word.specs.declared.word.Endian.TheVariants.{Little, Big}
use Rattle.sl_word.specs.Layout.{Puts, big_endian, byte_of, little_endian, number_of}
use Rattle.sl_word.specs.Pages.{byte_in, page_of}
use Rattle.sl_word.specs.Runs.{with_run}
use Rattle.sl_word.proofs.LayoutLaws.{number_of-same}
use Rattle.sl_word.proofs.Memory.{Puts-none, Puts-run, byte_above, byte_below_it}
use Rattle.sl_word.proofs.Powers.{bytes-bits, bytes_pos, drop-bytes, low-mask}

-- what a byte is worth
worth_is : (i b : ℕ) → byte_worth i b ≡ b * 256 ^ i
worth_is zero b = omega arith
worth_is (suc i) b = refl

-- std's sums of bytes are numbers whose least significant byte is the first
least_whole : (f : ℕ → ℕ) (k : ℕ) → sum_through (λ i. byte_worth i (f i)) k ≡ little_endian f (suc k)
least_whole f zero = omega arith
least_whole f (suc k) = ap (λ n. n + f (suc k) * 256 ^ suc k) (least_whole f k)

least_zeros : (f : ℕ → ℕ) (n z : ℕ) → ((i : ℕ) → n ≤ i → f i ≡ 0) → little_endian f (z + n) ≡ little_endian f n
least_zeros f n zero none = let none_more : 0 + n ≡ n = omega arith in ap (little_endian f) none_more
least_zeros f n (suc z) none =
    let more : suc z + n ≡ suc (z + n) = omega arith in
    ap (little_endian f) more
    ∙ ap (λ b. little_endian f (z + n) + b * 256 ^ (z + n)) (none (z + n) (omega arith)) ∙ (let rest = least_zeros f n z none in omega (arith, rest))

digits_step : (s g b f x y : ℕ) → s ≡ b * y → g ≡ f * x → y ≡ x * 256 → s + g ≡ (b * 256 + f) * x
digits_step s g b f x y hs hg hy = rw (hs, hg, hy) (grind arith)

-- or those whose most significant byte is the first
most_sum : (f g : ℕ → ℕ) (j k : ℕ) → ((i : ℕ) → i ≤ k → g i ≡ f i * 256 ^ (j + k - i)) → sum_through g k ≡ big_endian f (suc k) * 256 ^ j
most_sum f g j zero is =
    let place : j + 0 - 0 ≡ j = omega arith in
    let one : f 0 * 256 ^ j ≡ (0 + f 0) * 256 ^ j = ap (λ n. n * 256 ^ j) (let e : f 0 ≡ 0 + f 0 = omega arith in e) in
    is 0 (omega arith) ∙ ap (λ e. f 0 * 256 ^ e) place ∙ one
most_sum f g j (suc k) is =
    let place : j + suc k - suc k ≡ j = omega arith in
    let last : g (suc k) ≡ f (suc k) * 256 ^ j = is (suc k) (omega arith) ∙ ap (λ e. f (suc k) * 256 ^ e) place in
    let high : sum_through g k ≡ big_endian f (suc k) * 256 ^ suc j =
    most_sum f g (suc j) k (λ i h. let e : j + suc k - i ≡ suc j + k - i = omega arith in is i (omega arith) ∙ ap (λ x. f i * 256 ^ x) e)
    in
    digits_step (sum_through g k) (g (suc k)) (big_endian f (suc k)) (f (suc k)) (256 ^ j) (256 ^ suc j) high last (pow-suc 256 j)

most_none : (f : ℕ → ℕ) (z : ℕ) → ((i : ℕ) → i < z → f i ≡ 0) → big_endian f z ≡ 0
most_none f zero none = refl
most_none f (suc z) none =
    let high = most_none f z (λ i h. none i (omega arith)) in
    let last = none z (omega arith) in
    omega (arith, high, last)

most_zeros : (f : ℕ → ℕ) (z n : ℕ) → ((i : ℕ) → i < z → f i ≡ 0) → big_endian f (n + z) ≡ big_endian (λ i. f (z + i)) n
most_zeros f z zero none = let none_more : 0 + z ≡ z = omega arith in ap (big_endian f) none_more ∙ most_none f z none
most_zeros f z (suc n) none =
    let more : suc n + z ≡ suc (n + z) = omega arith in
    let place : n + z ≡ z + n = omega arith in
    ap (big_endian f) more ∙ ap (λ x. x * 256 + f (n + z)) (most_zeros f z n none) ∙ ap (λ p. big_endian (λ i. f (z + i)) n * 256 + f p) place

-- the number of 16 bytes of which only the first ones, or the last ones, aren't 0
pub least_first_is : (whole : List ℕ) (bytes : ℕ → ℕ) (n : ℕ) → n ≤ 16 → ((i : ℕ) → i < n → get_or whole i 0 ≡ bytes i) → ((i : ℕ) → n ≤ i → get_or whole i 0 ≡ 0)
    → from_le_bytes w128 whole ≡ little_endian bytes n
least_first_is whole bytes n short is none =
    let f : ℕ → ℕ = λ i. get_or whole i 0 in
    let room : (16 - n) + n ≡ 16 = omega arith in
    least_whole f 15 ∙ ap (little_endian f) (sym room) ∙ least_zeros f n (16 - n) none ∙ number_of-same Little f bytes n is

pub most_first_is : (whole : List ℕ) (bytes : ℕ → ℕ) (n : ℕ) → n ≤ 16 → ((i : ℕ) → i < n → get_or whole (16 - n + i) 0 ≡ bytes i) → ((i : ℕ) → i < 16 - n → get_or whole i 0 ≡ 0)
    → from_be_bytes w128 whole ≡ big_endian bytes n
most_first_is whole bytes n short is none =
    let f : ℕ → ℕ = λ i. get_or whole i 0 in
    let room : n + (16 - n) ≡ 16 = omega arith in
    most_sum f (λ i. byte_worth (15 - i) (f i)) 0 15 (λ i h. worth_is (15 - i) (f i))
    ∙ (let one : big_endian f 16 * 256 ^ 0 ≡ big_endian f 16 = omega arith in one)
    ∙ ap (big_endian f) (sym room)
    ∙ most_zeros f (16 - n) n none
    ∙ number_of-same Big (λ i. f (16 - n + i)) bytes n is

ap_below : (x n : ℕ) → x < 256 ^ (n + 1) → x < 256 ^ suc n
ap_below x n h = subst (λ k. x < 256 ^ k) (add-one n) h

-- a number of n bytes is below 256^n
pub least_below : (f : ℕ → ℕ) (n : ℕ) → ((i : ℕ) → i < n → f i < 256) → little_endian f n < 256 ^ n
least_below f zero bytes = omega arith
least_below f (suc n) bytes =
    let low = least_below f n (λ i h. bytes i (omega arith)) in
    let whole = byte_above (little_endian f n) (f n) n low (bytes n (omega arith)) in
    ap_below _ n whole

pub most_below : (f : ℕ → ℕ) (n : ℕ) → ((i : ℕ) → i < n → f i < 256) → big_endian f n < 256 ^ n
most_below f zero bytes = omega arith
most_below f (suc n) bytes =
    let high = most_below f n (λ i h. bytes i (omega arith)) in
    let whole = byte_below_it (big_endian f n) (f n) n high (bytes n (omega arith)) in
    ap_below _ n whole

least_none : (n : ℕ) → little_endian (λ i. 0) n ≡ 0
least_none zero = refl
least_none (suc n) = let rest = least_none n in omega (arith, rest)

-- a number of zeros
pub number_of-zeros : (endian : Endian) (f : ℕ → ℕ) (n : ℕ) → ((i : ℕ) → i < n → f i ≡ 0) → number_of endian f n ≡ 0
number_of-zeros Big f n none = most_none f n none
number_of-zeros Little f n none = number_of-same Little f (λ i. 0) n none ∙ least_none n

-- the bytes of a number, as std lists them
byte_is : (i n : ℕ) → byte_at i n ≡ n / 256 ^ i % 256
byte_is zero n = ap (λ k. k % 256) (sym (div-one n))
byte_is (suc i) n = refl

low_byte : (i j k n : ℕ) → i < k → get_or (bytes_low_first j k n) i 0 ≡ byte_at (i + j) n
low_byte i j zero n h = absurd (omega arith)
low_byte zero j (suc k) n h = let place : j ≡ 0 + j = omega arith in ap (λ p. byte_at p n) place
low_byte (suc i) j (suc k) n h = let place : i + suc j ≡ suc i + j = omega arith in low_byte i (suc j) k n (omega arith) ∙ ap (λ p. byte_at p n) place

high_byte : (i k n : ℕ) → i < k → get_or (bytes_high_first k n) i 0 ≡ byte_at (k - 1 - i) n
high_byte i zero n h = absurd (omega arith)
high_byte zero (suc k) n h = let place : k ≡ suc k - 1 - 0 = omega arith in ap (λ p. byte_at p n) place
high_byte (suc i) (suc k) n h = let place : k - 1 - i ≡ suc k - 1 - suc i = omega arith in high_byte i k n (omega arith) ∙ ap (λ p. byte_at p n) place

-- the byte at a place of a number of a size laid out by std in k bytes, the least significant first
pub little_bytes : (k n size i : ℕ) → i < size → size ≤ k → get_or (bytes_low_first 0 k n) i 0 ≡ byte_of Little size n i
little_bytes k n size i below short = let place : i + 0 ≡ i = omega arith in low_byte i 0 k n (omega arith) ∙ ap (λ p. byte_at p n) place ∙ byte_is i n

-- the same of a number that was moved up to the first byte, the most significant first
pub big_bytes : (k n size i : ℕ) → i < size → size ≤ k → get_or (bytes_high_first k (n * 256 ^ (k - size))) i 0 ≡ byte_of Big size n i
big_bytes k n size i below short =
    let moved : ℕ = n * 256 ^ (k - size) in
    let place : k - 1 - i ≡ (k - size) + (size - 1 - i) = omega arith in
    high_byte i k (n * 256 ^ (k - size)) (omega arith)
    ∙ byte_is (k - 1 - i) (n * 256 ^ (k - size))
    ∙ ap (λ e. n * 256 ^ (k - size) / 256 ^ e % 256) place
    ∙ ap (λ m. n * 256 ^ (k - size) / m % 256) (pow-add 256 (k - size) (size - 1 - i))
    ∙ ap (λ m. m % 256) (sym (div-div-eq-div-mul (n * 256 ^ (k - size)) (256 ^ (k - size)) (256 ^ (size - 1 - i))))
    ∙ ap (λ m. m / 256 ^ (size - 1 - i) % 256) (mul-div_cancel n (bytes_pos (k - size)))

-- how a number is moved up to the first byte
pub moved_up : (k n size s : ℕ) → size ≤ k → n < 256 ^ size → s ≡ 8 * size → n * 2 ^ (8 * k - s) % 2 ^ (8 * k) ≡ n * 256 ^ (k - size)
moved_up k n size s short below e =
    let places : 8 * k - s ≡ 8 * (k - size) = omega arith in
    let size_k : size + (k - size) ≡ k = omega arith in
    let room : n * 256 ^ (k - size) < 256 ^ k = subst (λ (m : ℕ). n * 256 ^ (k - size) < m) (sym (pow-add 256 size (k - size)) ∙ ap (λ m. 256 ^ m) size_k) (omega (arith, mul-add-lt n (256 ^ (k - size)) 0 (256 ^ size) below (bytes_pos (k - size)))) in
    ap (λ m. n * 2 ^ m % 2 ^ (8 * k)) places
    ∙ ap (λ m. n * m % 2 ^ (8 * k)) (sym (bytes-bits (k - size)))
    ∙ ap (λ m. n * 256 ^ (k - size) % m) (sym (bytes-bits k))
    ∙ mod-eq_of_lt room

-- the number of the first n of more bytes
pub cut_least : (f : ℕ → ℕ) (n k : ℕ) → ((i : ℕ) → i < n + k → f i < 256) → little_endian f (n + k) % 256 ^ n ≡ little_endian f n
cut_least f n zero bytes =
    let none_more : n + 0 ≡ n = omega arith in
    ap (λ m. little_endian f m % 256 ^ n) none_more ∙ mod-eq_of_lt (least_below f n (λ i h. bytes i (omega arith)))
cut_least f n (suc k) bytes =
    let more : n + suc k ≡ suc (n + k) = omega arith in
    let turned : f (n + k) * (256 ^ n * 256 ^ k) ≡ 256 ^ n * (f (n + k) * 256 ^ k) = grind arith in
    ap (λ m. little_endian f m % 256 ^ n) more
    ∙ ap (λ p. (little_endian f (n + k) + f (n + k) * p) % 256 ^ n) (pow-add 256 n k)
    ∙ ap (λ p. (little_endian f (n + k) + p) % 256 ^ n) turned
    ∙ add-mul-mod_self_left (little_endian f (n + k)) (256 ^ n) (f (n + k) * 256 ^ k)
    ∙ cut_least f n k (λ i h. bytes i (omega arith))

pub cut_most : (f : ℕ → ℕ) (n k : ℕ) → ((i : ℕ) → i < n + k → f i < 256) → big_endian f (n + k) / 256 ^ k ≡ big_endian f n
cut_most f n zero bytes =
    let none_more : n + 0 ≡ n = omega arith in
    ap (λ m. big_endian f m / 256 ^ 0) none_more ∙ div-one (big_endian f n)
cut_most f n (suc k) bytes =
    let more : n + suc k ≡ suc (n + k) = omega arith in
    ap (λ m. big_endian f m / 256 ^ suc k) more
    ∙ ap (λ p. (big_endian f (n + k) * 256 + f (n + k)) / p) (pow-succ' 256 k)
    ∙ sym (div-div-eq-div-mul (big_endian f (n + k) * 256 + f (n + k)) 256 (256 ^ k))
    ∙ ap (λ m. m / 256 ^ k) (div-mul-add (big_endian f (n + k)) 256 (f (n + k)) (bytes (n + k) (omega arith)))
    ∙ cut_most f n k (λ i h. bytes i (omega arith))

-- the number of the first n of eight bytes, as std reads the eight
pub first_least : (whole : List ℕ) (n m : ℕ) → n ≤ 8 → m + 1 ≡ 256 ^ n → ((i : ℕ) → get_or whole i 0 < 256) → bit_and (from_le_bytes w64 whole) m ≡ little_endian (λ i. get_or whole i 0) n
first_least whole n m short mask bytes =
    let f : ℕ → ℕ = λ i. get_or whole i 0 in
    let room : 8 ≡ n + (8 - n) = omega arith in
    low-mask (from_le_bytes w64 whole) m n mask
    ∙ ap (λ v. v % 256 ^ n) (least_whole f 7 ∙ ap (little_endian f) room)
    ∙ cut_least f n (8 - n) (λ i h. bytes i)

pub first_most : (whole : List ℕ) (n r : ℕ) → n ≤ 8 → r ≡ 8 * (8 - n) → ((i : ℕ) → get_or whole i 0 < 256) → from_be_bytes w64 whole / 2 ^ r ≡ big_endian (λ i. get_or whole i 0) n
first_most whole n r short rest bytes =
    let f : ℕ → ℕ = λ i. get_or whole i 0 in
    let room : 8 ≡ n + (8 - n) = omega arith in
    let eight : from_be_bytes w64 whole ≡ big_endian f 8 =
    most_sum f (λ i. byte_worth (7 - i) (f i)) 0 7 (λ i h. worth_is (7 - i) (f i))
    ∙ (let one : big_endian f 8 * 256 ^ 0 ≡ big_endian f 8 = omega arith in one)
    in
    ap (λ m. from_be_bytes w64 whole / 2 ^ m) rest
    ∙ drop-bytes (from_be_bytes w64 whole) (8 - n)
    ∙ ap (λ v. v / 256 ^ (8 - n)) (eight ∙ ap (big_endian f) room)
    ∙ cut_most f n (8 - n) (λ i h. bytes i)

-- the number of a part of a list of bytes
pub number_of-part : (endian : Endian) (whole part : List ℕ) (place n bits : ℕ) → bits ≡ number_of endian (λ i. get_or part i 0) n → ((i : ℕ) → i < n → get_or part i 0 ≡ get_or whole (place + i) 0)
    → bits ≡ number_of endian (λ i. get_or whole (place + i) 0) n
number_of-part endian whole part place n bits value is =
    value ∙ number_of-same endian (λ i. get_or part i 0) (λ i. get_or whole (place + i) 0) n is

-- bytes that lie in one page go round no end
round : (m base offset i : ℕ) → offset ≡ base % m → (offset + i) % m ≡ (base + i) % m
round m base offset i at = ap (λ o. (o + i) % m) at ∙ mod-add-mod base m i

pub Puts-in_page : (m base offset n : ℕ) (byte old new : ℕ → ℕ) → offset ≡ base % m → offset + n ≤ m → ((o : ℕ) → new o ≡ with_run offset 0 n byte old o) → Puts m base n byte old new
Puts-in_page m base offset n byte old new at room e =
    let start : offset + 0 ≡ offset = omega arith in
    let none_more : 0 + n ≡ n = omega arith in
    let puts : Puts m offset n byte old new =
    subst (λ (k : ℕ). Puts m offset k byte old new) none_more
    (Puts-run m offset 0 n byte old old new (omega arith) (Puts-none m offset byte old) (λ o. rw start (e o)))
    in
    record {
      put = λ i below. ap new (sym (round m base offset i at)) ∙ puts.put i below;
      kept = λ o away. puts.kept o (λ i below same. away i below (same ∙ round m base offset i at));
    }

pub number_in_page : (endian : Endian) (bytes : ℕ → ℕ) (m base offset n : ℕ) → offset ≡ base % m → offset + n ≤ m
    → number_of endian (λ i. bytes (offset + i)) n ≡ number_of endian (λ i. bytes ((base + i) % m)) n
number_in_page endian bytes m base offset n at room =
    number_of-same endian (λ i. bytes (offset + i)) (λ i. bytes ((base + i) % m)) n
    (λ i below. ap bytes (sym (mod-eq_of_lt (omega arith)) ∙ round m base offset i at))

-- a byte of a page that is there, and one of a page that isn't
same_page : (offset i : ℕ) → offset % 4096 + i < 4096 → ((offset + i) / 4096 ≡ offset / 4096) × ((offset + i) % 4096 ≡ offset % 4096 + i)
same_page offset i inside = (omega arith, omega arith)

pub byte_there : (space : Space) (offset i : ℕ) (page : Page) → page_of space.pages (offset / 4096) ≡ Some page → offset % 4096 + i < 4096 → byte_in space (offset + i) ≡ get_or page.bytes.items (offset % 4096 + i) 0
byte_there space offset i page is inside =
    let same = same_page offset i inside in
    ap (λ n. option_map_or (λ one. get_or one.bytes.items ((offset + i) % 4096) 0) (page_of space.pages n) 0) same.0
    ∙ ap (λ o. option_map_or (λ one. get_or one.bytes.items ((offset + i) % 4096) 0) o 0) is
    ∙ ap (λ p. get_or page.bytes.items p 0) same.1

pub byte_absent : (space : Space) (offset i : ℕ) → page_of space.pages (offset / 4096) ≡ None → offset % 4096 + i < 4096 → byte_in space (offset + i) ≡ 0
byte_absent space offset i is inside =
    let same = same_page offset i inside in
    ap (λ n. option_map_or (λ one. get_or one.bytes.items ((offset + i) % 4096) 0) (page_of space.pages n) 0) same.0
    ∙ ap (λ o. option_map_or (λ one. get_or one.bytes.items ((offset + i) % 4096) 0) o 0) is

-- Some bytes lie in one page, before the end of the space, if they do in the last page, which may be a short one.
pub lies_in_one_page : (base size last offset count : ℕ) → 1 ≤ size → last + 1 ≡ 256 ^ size → offset ≡ base % 256 ^ size → offset % 4096 + count ≤ last % 4096 + 1
    → (offset % 4096 + count ≤ 4096) × (offset + count ≤ 256 ^ size)
lies_in_one_page base zero last offset count some end at inside = absurd (omega arith)
lies_in_one_page base (suc zero) last offset count some end at inside =
    let below : base % 256 ^ 1 < 256 ^ 1 = mod-lt base (bytes_pos 1) in
    (omega arith, omega (arith, below, end, at, inside))
lies_in_one_page base (suc (suc k)) last offset count some end at inside =
    let whole : 256 ^ suc (suc k) ≡ 4096 * (16 * 256 ^ k) = omega (arith, pow-suc 256 (suc k), pow-suc 256 k) in
    let below : base % 256 ^ suc (suc k) < 256 ^ suc (suc k) = mod-lt base (bytes_pos (suc (suc k))) in
    (omega arith, omega (arith, whole, below, end, at, inside))
