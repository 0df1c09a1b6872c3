-- A number made of the bytes at the end of eight, of which the others are 0.
use Rattle.std.proofs.Common.{◌≡◌, ℕ, zero, suc, ◌-◌, ◌*◌, ◌/◌, ◌%◌, ◌^◌, ◌<◌, ◌≤◌, List, ◌++◌, get_or, refl, arith, replicate, length-append}
use Rattle.std.proofs.Common.{◌+◌, Ok, Result, length, length-drop, drop, sym, ap, ◌∙◌, subst}
use Rattle.std.specs.Int.{byte_at, from_be_bytes, to_be_bytes, w64, bytes_high_first}
use Rattle.std.proofs.Math.Arith.{mod-mul}
use Rattle.std.proofs.Math.Nat.{div-one, mod-eq_of_lt, mod-one, pow-succ'}
use Rattle.std.proofs.lemmas.List.{drop_at, get_or-drop, length-replicate}
use Rattle.std.proofs.lemmas.Nat.{be_bytes_8}
use Rattle.hex.proofs.HexLemmas.{decode_sized-encode_lower}
use Rattle.hex.specs.Hex.{IsBytes, decode_sized, encode_lower}
use Rattle.hex.specs.declared.error.FromHexError.{FromHexError}
use Rattle.sl_list_instructions.specs.Lines.{address_text}
use Rattle.sl_word.proofs.Powers.{bytes_pos}

pub number_below : (n : ℕ) (whole : List ℕ) (number : ℕ) → n ≤ 8 → number ≡ from_be_bytes w64 whole
    → ((i : ℕ) → i < 8 - n → get_or whole i 0 ≡ 0) → ((i : ℕ) → get_or whole i 0 < 256) → number < 256 ^ n
number_below zero whole number most is zeros small =
    omega (arith, is, zeros 0 (omega arith), zeros 1 (omega arith), zeros 2 (omega arith), zeros 3 (omega arith), zeros 4 (omega arith), zeros 5 (omega arith), zeros 6 (omega arith), zeros 7 (omega arith))
number_below (suc zero) whole number most is zeros small =
    omega (arith, is, zeros 0 (omega arith), zeros 1 (omega arith), zeros 2 (omega arith), zeros 3 (omega arith), zeros 4 (omega arith), zeros 5 (omega arith), zeros 6 (omega arith), small 7)
number_below (suc (suc zero)) whole number most is zeros small =
    omega (arith, is, zeros 0 (omega arith), zeros 1 (omega arith), zeros 2 (omega arith), zeros 3 (omega arith), zeros 4 (omega arith), zeros 5 (omega arith), small 6, small 7)
number_below (suc (suc (suc zero))) whole number most is zeros small =
    omega (arith, is, zeros 0 (omega arith), zeros 1 (omega arith), zeros 2 (omega arith), zeros 3 (omega arith), zeros 4 (omega arith), small 5, small 6, small 7)
number_below (suc (suc (suc (suc zero)))) whole number most is zeros small =
    omega (arith, is, zeros 0 (omega arith), zeros 1 (omega arith), zeros 2 (omega arith), zeros 3 (omega arith), small 4, small 5, small 6, small 7)
number_below (suc (suc (suc (suc (suc zero))))) whole number most is zeros small =
    omega (arith, is, zeros 0 (omega arith), zeros 1 (omega arith), zeros 2 (omega arith), small 3, small 4, small 5, small 6, small 7)
number_below (suc (suc (suc (suc (suc (suc zero)))))) whole number most is zeros small =
    omega (arith, is, zeros 0 (omega arith), zeros 1 (omega arith), small 2, small 3, small 4, small 5, small 6, small 7)
number_below (suc (suc (suc (suc (suc (suc (suc zero))))))) whole number most is zeros small =
    omega (arith, is, zeros 0 (omega arith), small 1, small 2, small 3, small 4, small 5, small 6, small 7)
number_below (suc (suc (suc (suc (suc (suc (suc (suc zero)))))))) whole number most is zeros small =
    omega (arith, is, small 0, small 1, small 2, small 3, small 4, small 5, small 6, small 7)
number_below (suc (suc (suc (suc (suc (suc (suc (suc (suc n))))))))) whole number most is zeros small = absurd (omega (arith, most))

-- ---- an address in hexadecimal

byte_small : (k n i : ℕ) → get_or (bytes_high_first k n) i 0 < 256
byte_small zero n i = omega arith
byte_small (suc zero) n zero = omega arith
byte_small (suc (suc k)) n zero = omega arith
byte_small (suc k) n (suc i) = byte_small k n i

abbrev pub address_bytes : ℕ → ℕ → List ℕ
address_bytes size address = drop (8 - size) (to_be_bytes w64 address)

pub address_is_bytes : (size address : ℕ) → IsBytes (address_bytes size address)
address_is_bytes size address = λ i. subst (λ (b : ℕ). b < 256) (sym (get_or-drop (8 - size) (to_be_bytes w64 address) i 0)) (byte_small 8 address (8 - size + i))

pub address_long : (size address : ℕ) → size ≤ 8 → length (address_bytes size address) ≡ size
address_long size address most = omega (arith, most, length-drop (8 - size) (to_be_bytes w64 address))

-- digits that spell an address are decoded to its bytes
pub spelled : (size address : ℕ) (digits : List ℕ) → size ≤ 8 → digits ≡ address_text size address → decode_sized digits size ≡ Ok (address_bytes size address)
spelled size address digits most is = ap (λ (ds : List ℕ). decode_sized ds size) is
    ∙ decode_sized-encode_lower (address_bytes size address) size (address_long size address most) (address_is_bytes size address)

pub same_bytes : (d : Result (List ℕ) FromHexError) (a b : List ℕ) → d ≡ Ok a → d ≡ Ok b → a ≡ b
same_bytes d a b ea eb = let both : ◌≡◌ {A = Result (List ℕ) FromHexError} (Ok a) (Ok b) = sym ea ∙ eb in cc

-- ---- each address text is that of one address in the space

-- as many bytes as eight lack, all 0
abbrev zeros_before : ℕ → List ℕ → List ℕ
zeros_before size bytes = replicate (8 - size) 0 ++ bytes

zeros_small : (k : ℕ) (bs : List ℕ) → ((i : ℕ) → get_or bs i 0 < 256) → (i : ℕ) → get_or (replicate k 0 ++ bs) i 0 < 256
zeros_small zero bs small i = small i
zeros_small (suc k) bs small zero = omega arith
zeros_small (suc k) bs small (suc i) = zeros_small k bs small i

zeros_first : (k : ℕ) (bs : List ℕ) (i : ℕ) → i < k → get_or (replicate k 0 ++ bs) i 0 ≡ 0
zeros_first zero bs i less = absurd (omega (arith, less))
zeros_first (suc k) bs zero less = refl
zeros_first (suc k) bs (suc i) less = zeros_first k bs i (omega (arith, less))

module _ (size : ℕ) (most : size ≤ 8) (address : ℕ) where
  abbrev whole : List ℕ
  whole = zeros_before size (address_bytes size address)

  whole_long : length whole ≡ 8
  whole_long = omega (arith, most, length-append (replicate (8 - size) 0) (address_bytes size address), length-replicate {A = ℕ} (8 - size) 0, address_long size address most)

  whole_small : (i : ℕ) → get_or whole i 0 < 256
  whole_small = zeros_small (8 - size) (address_bytes size address) (address_is_bytes size address)

  -- the address in the space that has the text of this one
  pub lowest_address : (a : ℕ) × (a < 256 ^ size) × (address_text size a ≡ address_text size address)
  lowest_address =
      let a = from_be_bytes w64 whole in (
        a,
        number_below size whole a most refl (zeros_first (8 - size) (address_bytes size address)) whole_small,
        ap encode_lower (ap (drop (8 - size)) (be_bytes_8 whole a whole_long whole_small refl)
            ∙ drop_at (replicate (8 - size) 0) (address_bytes size address) (8 - size) (length-replicate {A = ℕ} (8 - size) 0)),
      )

byte_is : (i n : ℕ) → byte_at i n ≡ n / 256 ^ i % 256
byte_is zero n = ap (λ k. k % 256) (sym (div-one n))
byte_is (suc i) n = refl

drop_high : (k j o : ℕ) → drop k (bytes_high_first (k + j) o) ≡ bytes_high_first j o
drop_high zero j o = let same : 0 + j ≡ j = omega arith in ap (λ n. bytes_high_first n o) same
drop_high (suc k) j o = let more : suc k + j ≡ suc (k + j) = omega arith in ap (λ n. drop (suc k) (bytes_high_first n o)) more ∙ drop_high k j o

high_same : (w o p : ℕ) → bytes_high_first w o ≡ bytes_high_first w p → o % 256 ^ w ≡ p % 256 ^ w
high_same zero o p e = mod-one o ∙ sym (mod-one p)
high_same (suc w) o p e =
    let head : byte_at w o ≡ byte_at w p = cc in
    let top : o / 256 ^ w % 256 ≡ p / 256 ^ w % 256 = sym (byte_is w o) ∙ head ∙ byte_is w p in
    let low = high_same w o p (let tail : bytes_high_first w o ≡ bytes_high_first w p = cc in tail) in
    let worth : o / 256 ^ w % 256 * 256 ^ w ≡ p / 256 ^ w % 256 * 256 ^ w = ap (λ b. b * 256 ^ w) top in
    let split_o = mod-mul o {m = 256} {c = 256 ^ w} (omega arith) (bytes_pos w) in
    let split_p = mod-mul p {m = 256} {c = 256 ^ w} (omega arith) (bytes_pos w) in
    rw (pow-succ' 256 w) (omega (arith, split_o, split_p, worth, low))

pub same_address : (size a b : ℕ) → size ≤ 8 → a < 256 ^ size → b < 256 ^ size → address_text size a ≡ address_text size b → a ≡ b
same_address size a b most below_a below_b is =
    let bytes : address_bytes size a ≡ address_bytes size b = same_bytes (decode_sized (address_text size a) size) (address_bytes size a) (address_bytes size b)
    (spelled size a (address_text size a) most refl) (spelled size b (address_text size a) most is) in
    let eight : (8 - size) + size ≡ 8 = omega arith in
    let high : bytes_high_first size a ≡ bytes_high_first size b =
    sym (drop_high (8 - size) size a) ∙ ap (λ n. drop (8 - size) (bytes_high_first n a)) eight ∙ bytes ∙ ap (λ n. drop (8 - size) (bytes_high_first n b)) (sym eight) ∙ drop_high (8 - size) size b in
    sym (mod-eq_of_lt below_a) ∙ high_same size a b high ∙ mod-eq_of_lt below_b
