-- Temporary bytes in blocks.
use Rattle.std.specs.declared.alloc.Global.{Global}
use Rattle.std.proofs.Common.{◌≡◌, ◌≢◌, ℕ, zero, suc, ◌+◌, ◌-◌, ◌*◌, ◌/◌, ◌%◌, ◌^◌, ◌<◌, ◌≤◌, List, [], ◌∷◌, ◌++◌, Vec, Some, length, get_or, set, below_more, refl, subst, sym, ap, ◌∙◌, inl, inr, arith}
use Rattle.std.specs.Prelude.{if◌then◌else◌, ◌&&◌, nat_lt, nat_le}
use Rattle.std.specs.List.{HoldsAt, slice_get}
use Rattle.std.proofs.lemmas.Bool.{cases_lt}
use Rattle.std.proofs.lemmas.Bool.Decides.{nat_tests}
use Rattle.std.proofs.lemmas.List.{get_or-set_other, get_or-set_same, length-set}
use Rattle.std.proofs.lemmas.Option.{slice_get_cases, slice_get-get_or}
use Rattle.sl_word.specs.Layout.{big_endian, little_endian, number_of}
use Rattle.sl_word.specs.Runs.{with_run}
use Rattle.sl_word.specs.declared.word.Endian.{Endian}
use Rattle.sl_word.specs.declared.word.Endian.TheVariants.{Little, Big}
use Rattle.sl_pcode.specs.Machine.{with_temporaries}
use Rattle.sl_emu.specs.Blocks.{byte_in, bytes_in}

little_along : (f g : ℕ → ℕ) (n : ℕ) → ((i : ℕ) → i < n → f i ≡ g i) → little_endian f n ≡ little_endian g n
little_along f g zero same = refl
little_along f g (suc n) same =
    ap (λ k. k + f n * 256 ^ n) (little_along f g n (λ i h. same i (omega arith))) ∙ ap (λ b. little_endian g n + b * 256 ^ n) (same n (omega arith))

big_along : (f g : ℕ → ℕ) (n : ℕ) → ((i : ℕ) → i < n → f i ≡ g i) → big_endian f n ≡ big_endian g n
big_along f g zero same = refl
big_along f g (suc n) same =
    ap (λ k. k * 256 + f n) (big_along f g n (λ i h. same i (omega arith))) ∙ ap (λ b. big_endian g n * 256 + b) (same n (omega arith))

-- Numbers of the same bytes are the same.
pub number_along : (endian : Endian) (f g : ℕ → ℕ) (n : ℕ) → ((i : ℕ) → i < n → f i ≡ g i) → number_of endian f n ≡ number_of endian g n
number_along Little f g n same = little_along f g n same
number_along Big f g n same = big_along f g n same

here : (offset o n x y : ℕ) → offset ≤ o → o < offset + n → (if nat_le offset o && nat_lt o (offset + n) then x else y) ≡ x
here offset o n x y from below = grind (arith, nat_tests)

before : (offset o n x y : ℕ) → o < offset → (if nat_le offset o && nat_lt o (offset + n) then x else y) ≡ y
before offset o n x y less = grind (arith, nat_tests)

behind : (offset o n x y : ℕ) → offset + n ≤ o → (if nat_le offset o && nat_lt o (offset + n) then x else y) ≡ y
behind offset o n x y more = grind (arith, nat_tests)

-- bytes that are put over others
pub run_is : (offset n : ℕ) (byte bytes : ℕ → ℕ) (o : ℕ) → with_run offset 0 n byte bytes o ≡ with_temporaries offset n byte bytes o
run_is offset n byte bytes o =
    let index : 0 + (o - offset) ≡ o - offset = omega arith in
    ap (λ i. if nat_le offset o && nat_lt o (offset + n) then byte i else bytes o) index

-- ---- blocks of 2^20 bytes

parts : (o : ℕ) → (o ≡ o / 1048576 * 1048576 + o % 1048576) × (o % 1048576 < 1048576)
parts o = (omega arith, omega arith)

-- ---- lists of blocks

abbrev pub Block : Type 0
Block = Vec ℕ Global

-- a block whose bytes are all 0
abbrev pub IsBlank : Block → Type 0
IsBlank block = (p : ℕ) → get_or block.items p 0 ≡ 0

pub blanked : (blocks : List Block) (n : ℕ) (b : Block) → n < length blocks → IsBlank b → ((k : ℕ) → k < n → HoldsAt IsBlank blocks k)
    → (k : ℕ) → k < n + 1 → HoldsAt IsBlank (set blocks n b) k
blanked blocks n b inside blank before =
    below_more _ _
    (λ k h d. let other : k ≢ n = omega arith in rw get_or-set_other (before k h d))
    (λ d. rw get_or-set_same blank)

pub all_blank : (blocks : List Block) (n : ℕ) → length blocks ≤ n → ((k : ℕ) → k < n → HoldsAt IsBlank blocks k) → (o : ℕ) → bytes_in blocks o ≡ 0
all_blank blocks n whole blank o =
    elim ((slice_get_cases blocks (o / 1048576)).1) [
      | inl found ↦
          ap (λ x. byte_in x (o % 1048576)) found.2
          ∙ subst (λ (b : Block). IsBlank b) found.3 (blank (o / 1048576) (omega (arith, found.1, whole)) found.0) (o % 1048576)
      | inr past ↦ ap (λ x. byte_in x (o % 1048576)) past.1
    ]

-- a block that has no byte yet
abbrev pub IsEmpty : Block → Type 0
IsEmpty block = block.items ≡ []

added_at : (blocks : List Block) (b : Block) (j p : ℕ) → IsEmpty b → byte_in (slice_get (blocks ++ b ∷ []) j) p ≡ byte_in (slice_get blocks j) p
added_at [] b zero p empty = ap (λ l. get_or l p 0) empty
added_at [] b (suc j) p empty = refl
added_at (x ∷ blocks) b zero p empty = refl
added_at (x ∷ blocks) b (suc j) p empty = added_at blocks b j p empty

pub added : (blocks : List Block) (b : Block) → IsEmpty b → (o : ℕ) → bytes_in (blocks ++ b ∷ []) o ≡ bytes_in blocks o
added blocks b empty o = added_at blocks b (o / 1048576) (o % 1048576) empty

-- ---- bytes that are put

moved : (offset n q p o : ℕ) (byte f g : ℕ → ℕ) → o + q ≡ offset + p → f p ≡ g o → with_temporaries q n byte f p ≡ with_temporaries offset n byte g o
moved offset n q p o byte f g shift same =
    elim (cases_lt p q) [
      | inl less ↦ before q p n (byte (p - q)) (f p) less ∙ same ∙ sym (before offset o n (byte (o - offset)) (g o) (omega arith))
      | inr from ↦
          elim (cases_lt p (q + n)) [
            | inl below ↦
                let at : p - q ≡ o - offset = omega arith in
                here q p n (byte (p - q)) (f p) from below ∙ ap byte at
                ∙ sym (here offset o n (byte (o - offset)) (g o) (omega arith) (omega arith))
            | inr more ↦ behind q p n (byte (p - q)) (f p) more ∙ same ∙ sym (behind offset o n (byte (o - offset)) (g o) (omega arith))
          ]
    ]

set_other : (blocks : List Block) (k j : ℕ) (b : Block) → (j ≡ k → ⊥) → slice_get (set blocks k b) j ≡ slice_get blocks j
set_other [] k j b other = refl
set_other (x ∷ blocks) zero zero b other = absurd (other refl)
set_other (x ∷ blocks) zero (suc j) b other = refl
set_other (x ∷ blocks) (suc k) zero b other = refl
set_other (x ∷ blocks) (suc k) (suc j) b other = set_other blocks k j b (λ e. other (ap suc e))

set_same : (blocks : List Block) (k : ℕ) (b : Block) → k < length blocks → slice_get (set blocks k b) k ≡ Some b
set_same blocks k b inside =
    let within : k < length (set blocks k b) = rw length-set inside in
    slice_get-get_or (set blocks k b) k b within ∙ ap (λ x. Some x) (get_or-set_same blocks k b b inside)

-- Bytes that are put into a block are put among all.
pub put_at_block : (before_it blocks : List Block) (old new : Block) (offset n : ℕ) (byte : ℕ → ℕ) → offset / 1048576 < length blocks → old ≡ get_or blocks (offset / 1048576) old
    → ((o : ℕ) → bytes_in blocks o ≡ bytes_in before_it o) → offset % 1048576 + n ≤ 1048576
    → ((p : ℕ) → get_or new.items p 0 ≡ with_temporaries (offset % 1048576) n byte (λ i. get_or old.items i 0) p)
    → (o : ℕ) → bytes_in (set blocks (offset / 1048576) new) o ≡ with_temporaries offset n byte (bytes_in before_it) o
put_at_block before_it blocks old new offset n byte inside is same room put o =
    let k : ℕ = offset / 1048576 in
    let j : ℕ = o / 1048576 in
    let p : ℕ = o % 1048576 in
    let ours = parts o in
    let theirs = parts offset in
    elim (cases_lt (o / 1048576) (offset / 1048576)) [
      | inl less ↦
          ap (λ x. byte_in x p) (set_other blocks k j new (λ e. omega (arith, less, e))) ∙ same o
          ∙ sym (before offset o n (byte (o - offset)) (bytes_in before_it o) (omega (arith, less, ours, theirs, room)))
      | inr from ↦
          elim (cases_lt (offset / 1048576) (o / 1048576)) [
            | inl more ↦
                ap (λ x. byte_in x p) (set_other blocks k j new (λ e. omega (arith, more, e))) ∙ same o
                ∙ sym (behind offset o n (byte (o - offset)) (bytes_in before_it o) (omega (arith, more, ours, theirs, room)))
            | inr up ↦
                let e : o / 1048576 ≡ offset / 1048576 = omega (arith, from, up) in
                let was : get_or old.items p 0 ≡ bytes_in before_it o =
                sym (ap (λ x. byte_in (slice_get blocks x) p) e ∙ ap (λ y. byte_in y p) (slice_get-get_or blocks k old inside ∙ ap (λ x. Some x) (sym is))) ∙ same o
                in
                ap (λ x. byte_in (slice_get (set blocks k new) x) p) e ∙ ap (λ y. byte_in y p) (set_same blocks k new inside) ∙ put p
                ∙ moved offset n (offset % 1048576) p o byte (λ i. get_or old.items i 0) (bytes_in before_it) (omega (arith, e, ours, theirs)) was
          ]
    ]
