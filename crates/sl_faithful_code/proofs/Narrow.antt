-- The lowest bytes of a varnode have its value, cut to them.
use Rattle.std.proofs.Common.{◌≡◌, ℕ, zero, suc, ◌+◌, ◌-◌, ◌*◌, ◌%◌, ◌^◌, ◌<◌, ◌≤◌, List, refl, sym, ap, ◌∙◌, arith}
use Rattle.std.specs.Prelude.{slice_index}
use Rattle.std.proofs.Math.Arith.{mod-mul}
use Rattle.std.proofs.Math.Nat.{mod-add-mod, mod-one, pow-suc}
use Rattle.std.proofs.lemmas.Nat.{div-mul-add, mod-mul-add}
use Rattle.sl_faithful_code.specs.Narrow.{NarrowHasLowestBytes}
use Rattle.sl_faithful_code.specs.Operations.{bytes_before, narrow, offset_after}
use Rattle.sl_pcode.specs.Machine.{Temporaries, value_at, value_of}
use Rattle.sl_pcode.specs.declared.varnode.Place2.{Place2}
use Rattle.sl_pcode.specs.declared.varnode.Place2.TheVariants.{Const, Unique, In}
use Rattle.sl_pcode.specs.declared.varnode.Varnode.{Varnode}
use Rattle.sl_word.specs.Layout.{big_endian, little_endian, number_of}
use Rattle.sl_word.specs.Memories.{Memory}
use Rattle.sl_word.specs.declared.word.Endian.{Endian}
use Rattle.sl_word.specs.declared.word.Endian.TheVariants.{Little, Big}
use Rattle.sl_word.specs.declared.word.Size.{Size}
use Rattle.sl_word.proofs.InOnePage.{cut_least}
use Rattle.sl_word.proofs.LayoutLaws.{number_of-same}
use Rattle.sl_word.proofs.Powers.{bytes_pos}

-- where bytes go down, the lowest ones are the last
last_bytes : (f : ℕ → ℕ) (k n : ℕ) → ((i : ℕ) → f i < 256) → big_endian f (k + n) % 256 ^ n ≡ big_endian (λ i. f (k + i)) n
last_bytes f k zero low = mod-one (big_endian f (k + 0))
last_bytes f k (suc n) low =
    let one : k + suc n ≡ suc (k + n) = omega arith in
    let high : ℕ = big_endian f (k + n) in
    ap (λ q. big_endian f q % 256 ^ suc n) one
    ∙ ap (λ q. (high * 256 + f (k + n)) % q) (pow-suc 256 n)
    ∙ mod-mul (high * 256 + f (k + n)) {m = 256 ^ n} {c = 256} (bytes_pos n) (omega arith)
    ∙ ap (λ q. q % 256 ^ n * 256 + (high * 256 + f (k + n)) % 256) (div-mul-add high 256 (f (k + n)) (low (k + n)))
    ∙ ap (λ q. high % 256 ^ n * 256 + q) (mod-mul-add high 256 (f (k + n)) (low (k + n)))
    ∙ ap (λ q. q * 256 + f (k + n)) (last_bytes f k n low)

-- the lowest bytes of a number, in either order
lowest_bytes : (endian : Endian) (f : ℕ → ℕ) (size n : ℕ) → n ≤ size → ((i : ℕ) → f i < 256) → number_of endian (λ i. f (bytes_before endian size n + i)) n ≡ number_of endian f size % 256 ^ n
lowest_bytes Little f size n le low =
    let whole : n + (size - n) ≡ size = omega arith in
    number_of-same Little (λ i. f (0 + i)) f n (λ i h. ap f (let e : 0 + i ≡ i = omega arith in e))
    ∙ sym (cut_least f n (size - n) (λ i h. low i)) ∙ ap (λ q. little_endian f q % 256 ^ n) whole
lowest_bytes Big f size n le low =
    let whole : size - n + n ≡ size = omega arith in
    sym (last_bytes f (size - n) n low) ∙ ap (λ q. big_endian f q % 256 ^ n) whole

module _ (endian : Endian) (sizes : List ℕ) (m : Memory) (u : Temporaries) where
  narrow_at : (place : Place2) (offset size n : ℕ) → n ≤ size → ((z o : ℕ) → m z o < 256) → ((o : ℕ) → u o < 256)
      → value_at endian sizes place (offset_after sizes place offset (bytes_before endian size n) n) n m u ≡ value_at endian sizes place offset size m u % 256 ^ n
  narrow_at Const offset size n le memory low = refl
  narrow_at Unique offset size n le memory low =
      let before : ℕ = bytes_before endian size n in
      number_of-same endian (λ i. u (offset + before + i)) (λ i. u (offset + (before + i))) n (λ i h. ap u (let e : offset + before + i ≡ offset + (before + i) = omega arith in e))
      ∙ lowest_bytes endian (λ i. u (offset + i)) size n le (λ i. low (offset + i))
  narrow_at (In space) offset size n le memory low =
      let before : ℕ = bytes_before endian size n in
      let most : ℕ = 256 ^ slice_index sizes space.0 in
      number_of-same endian (λ i. m space.0 (((offset + before) % most + i) % most)) (λ i. m space.0 ((offset + (before + i)) % most)) n
      (λ i h. ap (m space.0) (mod-add-mod (offset + before) most i ∙ ap (λ q. q % most) (let e : offset + before + i ≡ offset + (before + i) = omega arith in e)))
      ∙ lowest_bytes endian (λ i. m space.0 ((offset + i) % most)) size n le (λ i. memory space.0 ((offset + i) % most))

  -- the value of the lowest bytes
  pub narrow_value : (v : Varnode) (n : Size) → n.bytes ≤ v.size.bytes → ((z o : ℕ) → m z o < 256) → ((o : ℕ) → u o < 256) → value_of endian sizes (narrow endian sizes v n) m u ≡ value_of endian sizes v m u % 256 ^ n.bytes
  narrow_value v n le memory low = narrow_at v.place v.offset v.size.bytes n.bytes le memory low

pub narrow_has_lowest_bytes : NarrowHasLowestBytes
narrow_has_lowest_bytes endian sizes v n m u le memory low = narrow_value endian sizes m u v n le memory low
