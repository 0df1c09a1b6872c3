-- Bytes in pages, and numbers laid out in bytes.
use Rattle.std.proofs.Common.{◌≡◌, ◌≢◌, ◌⊎◌, ◌≤◌, ℕ, suc, ◌+◌, ◌-◌, ◌*◌, ◌%◌, ◌^◌, ◌<◌, get_or, refl, sym, ◌∙◌, ap, inl, inr, add-one, arith}
use Rattle.std.specs.Prelude.{if◌then◌else◌, ◌&&◌, nat_le, nat_lt, replicate}
use Rattle.std.proofs.lemmas.List.{get_or-replicate, get_or_past, length-replicate}
use Rattle.std.proofs.lemmas.Bool.{cases_lt}
use Rattle.std.proofs.lemmas.Nat.{mul-add-lt}
use Rattle.std.proofs.lemmas.Bool.Decides.{nat_tests}
use Rattle.std.proofs.Math.Nat.{mod-lt, mod-add-mod, mod-eq_of_lt, pow-suc}
use Rattle.sl_word.specs.Layout.{Puts, little_endian, big_endian}
use Rattle.sl_word.specs.Runs.{with_run}
use Rattle.sl_word.proofs.Powers.{bytes-bits, bytes_mono, bytes_pos}
use Rattle.sl_word.proofs.TwosComplement.{sum-cut}

-- a list of zeros has a 0 at each place, also past its end
pub get_or-zeros : (n i : ℕ) → get_or {A = ℕ} (replicate n 0) i 0 ≡ 0
get_or-zeros n i =
    elim (cases_lt i n) [
      | inl h ↦ get_or-replicate n i 0 0 h
      | inr h ↦ get_or_past (replicate n 0) i 0 (omega (arith, length-replicate {A = ℕ} n 0))
    ]

-- Two places after a base, both below m, differ also round the end.
pub apart : (base i j m : ℕ) → i < m → j < m → (base + i) % m ≡ (base + j) % m → i ≡ j
apart base i j m hi hj same =
    let r : base % m < m = mod-lt base (omega arith) in
    let at_i = mod-add-mod base m i in
    let at_j = mod-add-mod base m j in
    elim (sum-cut (base % m) i m r hi) [
      | inl p ↦ elim (sum-cut (base % m) j m r hj) [ inl q ↦ omega (arith, at_i, at_j) | inr q ↦ omega (arith, at_i, at_j) ]
      | inr p ↦ elim (sum-cut (base % m) j m r hj) [ inl q ↦ omega (arith, at_i, at_j) | inr q ↦ omega (arith, at_i, at_j) ]
    ]

pub in_run : (place from count k x y : ℕ) → place ≤ k → k < place + count → (if nat_le place k && nat_lt k (place + count) then x else y) ≡ x
in_run place from count k x y at_least below = grind (arith, nat_tests)

pub out_of_run : (place from count k x y : ℕ) → (k < place) ⊎ (place + count ≤ k) → (if nat_le place k && nat_lt k (place + count) then x else y) ≡ y
out_of_run place from count k x y (inl before) = grind (arith, nat_tests)
out_of_run place from count k x y (inr behind) = grind (arith, nat_tests)

-- what a run of one byte leaves at its offset, and at another
write_here : (a i : ℕ) (byte mid new : ℕ → ℕ) → ((o : ℕ) → new o ≡ with_run a i 1 byte mid o) → new a ≡ byte i
write_here a i byte mid new e =
    let index : i + (a - a) ≡ i = omega arith in
    e a ∙ in_run a i 1 a _ _ (omega arith) (omega arith) ∙ ap byte index

write_other : (a i o : ℕ) (byte mid new : ℕ → ℕ) → ((o : ℕ) → new o ≡ with_run a i 1 byte mid o) → o ≢ a → new o ≡ mid o
write_other a i o byte mid new e apart =
    let outside : (o < a) ⊎ (a + 1 ≤ o) =
    elim (cases_lt o a) [
      | inl less ↦ inl less
      | inr at_least ↦ elim (cases_lt a o) [ inl more ↦ inr (omega arith) | inr at_most ↦ absurd (apart (omega arith)) ]
    ]
    in
    e o ∙ out_of_run a i 1 o _ _ outside

pub Puts-none : (m base : ℕ) (byte old : ℕ → ℕ) → Puts m base 0 byte old old
Puts-none m base byte old = record { put = λ i h. absurd (omega arith); kept = λ offset h. refl }

-- one more byte is put
pub Puts-more : (m base i a : ℕ) (byte old mid new : ℕ → ℕ) → i < m → a ≡ (base + i) % m → Puts m base i byte old mid → ((o : ℕ) → new o ≡ with_run a i 1 byte mid o) → Puts m base (i + 1) byte old new
Puts-more m base i a byte old mid new h at before e =
    record {
      put = λ k below. elim (cases_lt k i) [
        | inl less ↦
            write_other a i ((base + k) % m) byte mid new e (λ same. absurd (omega (arith, apart base k i m (omega arith) h (same ∙ at))))
            ∙ before.put k less
        | inr last ↦
            let k_is : k ≡ i = omega arith in
            ap (λ j. new ((base + j) % m)) k_is ∙ ap new (sym at) ∙ write_here a i byte mid new e ∙ ap byte (sym k_is)
      ];
      kept = λ offset away.
          write_other a i offset byte mid new e (λ same. away i (omega arith) (same ∙ at))
          ∙ before.kept offset (λ k less. away k (omega arith));
    }

-- Bytes are put after nothing has changed.
pub Puts-after : (m base n : ℕ) (byte old mid new : ℕ → ℕ) → ((o : ℕ) → mid o ≡ old o) → Puts m base n byte mid new → Puts m base n byte old new
Puts-after m base n byte old mid new same puts = record { put = puts.put; kept = λ o away. puts.kept o away ∙ same o }

-- The same bytes are put.
pub Puts-same : (m base n : ℕ) (f g old new : ℕ → ℕ) → ((i : ℕ) → i < n → f i ≡ g i) → Puts m base n f old new → Puts m base n g old new
Puts-same m base n f g old new same puts = record { put = λ i below. puts.put i below ∙ same i below; kept = puts.kept }

-- a run of bytes more is put, before the end
pub Puts-run : (m base i n : ℕ) (byte old mid new : ℕ → ℕ) → base + i + n ≤ m → Puts m base i byte old mid → ((o : ℕ) → new o ≡ with_run (base + i) i n byte mid o) → Puts m base (i + n) byte old new
Puts-run m base i n byte old mid new room before e =
    record {
      put = λ k below.
          let at : (base + k) % m ≡ base + k = mod-eq_of_lt (omega arith) in
          elim (cases_lt k i) [
            | inl less ↦
                e ((base + k) % m)
                ∙ out_of_run (base + i) i n ((base + k) % m) _ _ (inl (omega (arith, at)))
                ∙ before.put k less
            | inr more ↦
                let index : i + ((base + k) % m - (base + i)) ≡ k = omega (arith, at) in
                e ((base + k) % m)
                ∙ in_run (base + i) i n ((base + k) % m) _ _ (omega (arith, at)) (omega (arith, at))
                ∙ ap byte index
          ];
      kept = λ o away.
          let outside : (o < base + i) ⊎ (base + i + n ≤ o) =
          elim (cases_lt o (base + i)) [
            | inl less ↦ inl less
            | inr more ↦
                elim (cases_lt o (base + i + n)) [
                  | inl within ↦
                      let at : (base + (o - base)) % m ≡ base + (o - base) = mod-eq_of_lt (omega arith) in
                      absurd (away (o - base) (omega arith) (omega (arith, at)))
                  | inr past ↦ inr past
                ]
          ]
          in
          e o ∙ out_of_run (base + i) i n o _ _ outside ∙ before.kept o (λ k less. away k (omega arith));
    }

-- a run of bytes more is copied, before the end of the space
pub copied-run : (m base i n offset : ℕ) (byte old new : ℕ → ℕ) → offset ≡ (base + i) % m → offset + n ≤ m → ((k : ℕ) → k < i → old k ≡ byte ((base + k) % m)) → ((k : ℕ) → new k ≡ with_run i 0 n (λ j. byte (offset + j)) old k) → (k : ℕ) → k < i + n → new k ≡ byte ((base + k) % m)
copied-run m base i n offset byte old new at room before e k below =
    elim (cases_lt k i) [
      | inl less ↦ e k ∙ out_of_run i 0 n k _ _ (inl less) ∙ before k less
      | inr more ↦
          let sum : base + k ≡ base + i + (k - i) = omega arith in
          let same : (base + k) % m ≡ offset + (k - i) =
          ap (λ x. x % m) sum ∙ sym (mod-add-mod (base + i) m (k - i))
          ∙ ap (λ x. (x + (k - i)) % m) (sym at) ∙ mod-eq_of_lt (omega arith)
          in
          let there : offset + (0 + (k - i)) ≡ (base + k) % m = omega (arith, same) in
          e k ∙ in_run i 0 n k _ _ (omega arith) (omega arith) ∙ ap byte there
    ]

-- what a byte is worth at a place
byte_worth_below : (b p : ℕ) → b < 256 → b * 256 ^ p < 256 ^ suc p
byte_worth_below b p hb = omega (arith, mul-add-lt b (256 ^ p) 0 256 hb (bytes_pos p), pow-suc 256 p)

pub place_worth : (b p : ℕ) → b < 256 → p < 16 → b * 2 ^ (8 * p) % 2 ^ 128 ≡ b * 256 ^ p
place_worth b p hb hp =
    let whole : b * 256 ^ p < 2 ^ 128 = omega (arith, byte_worth_below b p hb, bytes_mono (suc p) 16 hp) in
    rw (← bytes-bits p) (mod-eq_of_lt whole)

-- a number of p bytes, with one more byte above it or below it
pub byte_above : (n b p : ℕ) → n < 256 ^ p → b < 256 → n + b * 256 ^ p < 256 ^ (p + 1)
byte_above n b p hn hb = rw add-one (omega (arith, mul-add-lt b (256 ^ p) n 256 hb hn, pow-suc 256 p))

pub byte_below_it : (n b p : ℕ) → n < 256 ^ p → b < 256 → n * 256 + b < 256 ^ (p + 1)
byte_below_it n b p hn hb = rw add-one (omega (arith, pow-suc 256 p))

pub little_endian-more : (f : ℕ → ℕ) (p : ℕ) → little_endian f (p + 1) ≡ little_endian f p + f p * 256 ^ p
little_endian-more f p = rw add-one refl

pub big_endian-more : (f : ℕ → ℕ) (p : ℕ) → big_endian f (p + 1) ≡ big_endian f p * 256 + f p
big_endian-more f p = rw add-one refl
