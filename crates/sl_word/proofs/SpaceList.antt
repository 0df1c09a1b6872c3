-- The spaces of a state, where one of them changes or one more is added.
use Rattle.std.proofs.Common.{◌≡◌, ◌≢◌, ℕ, zero, suc, ◌+◌, ◌^◌, ◌<◌, List, [], ◌∷◌, ◌++◌, map, length, set, take, get_or, Some, refl, sym, ◌∙◌, ap, subst, inl, inr, arith}
use Rattle.std.specs.Prelude.{slice_get}
use Rattle.std.specs.Option.{option_map_or}
use Rattle.std.proofs.lemmas.Option.{slice_get_within, slice_get_read}
use Rattle.std.proofs.lemmas.Bool.{cases_eq}
use Rattle.std.proofs.lemmas.List.{get_or-map, length-map, map-append, take_more}
use Rattle.sl_word.specs.declared.space.Space.{Space}
use Rattle.sl_word.specs.declared.state.State.{State}
use Rattle.sl_word.specs.Bytes.{byte_among, byte_at, address_size, address_sizes, endian_of, number_at, KeepsOthers, IsSame, PutsBytes}
use Rattle.sl_word.specs.declared.word.AddressSize.{AddressSize}
use Rattle.sl_word.specs.Pages.{byte_in}
use Rattle.sl_word.specs.Sizes.{byte_counts}
use Rattle.sl_word.specs.Layout.{Puts, byte_of}
use Rattle.sl_word.proofs.LayoutLaws.{number_of-Puts}

slice_get-set_same : (xs : List Space) (i : ℕ) (x : Space) → i < length xs → slice_get (set xs i x) i ≡ Some x
slice_get-set_same [] i x h = absurd (omega arith)
slice_get-set_same (z ∷ zs) zero x h = refl
slice_get-set_same (z ∷ zs) (suc i) x h = slice_get-set_same zs i x (omega arith)

slice_get-set_other : (xs : List Space) (i j : ℕ) (x : Space) → j ≢ i → slice_get (set xs i x) j ≡ slice_get xs j
slice_get-set_other [] i j x ne = refl
slice_get-set_other (z ∷ zs) zero zero x ne = absurd (ne refl)
slice_get-set_other (z ∷ zs) zero (suc j) x ne = refl
slice_get-set_other (z ∷ zs) (suc i) zero x ne = refl
slice_get-set_other (z ∷ zs) (suc i) (suc j) x ne = slice_get-set_other zs i j x (λ e. ne (ap suc e))

sizes_kept : (xs : List Space) (i : ℕ) (x y : Space) → slice_get xs i ≡ Some y → x.size ≡ y.size → map (λ one. one.size.bytes) (set xs i x) ≡ map (λ one. one.size.bytes) xs
sizes_kept [] i x y was size = refl
sizes_kept (z ∷ zs) zero x y was size =
    let same : z ≡ y = cc in
    ap (λ n. n ∷ map (λ one. one.size.bytes) zs) (ap (λ (n : AddressSize). n.bytes) size ∙ ap (λ one. one.size.bytes) (sym same))
sizes_kept (z ∷ zs) (suc i) x y was size = ap (λ ns. z.size.bytes ∷ ns) (sizes_kept zs i x y was size)

size_at : (xs : List Space) (i : ℕ) (y : Space) → slice_get xs i ≡ Some y → get_or (map (λ one. one.size.bytes) xs) i 0 ≡ y.size.bytes
size_at [] i y was = cc
size_at (z ∷ zs) zero y was = let same : z ≡ y = cc in ap (λ one. one.size.bytes) same
size_at (z ∷ zs) (suc i) y was = size_at zs i y was

-- A state s, of which one space y is changed to x.
module _ (s : State) (i : ℕ) (x y : Space) (was : slice_get s.spaces.items i ≡ Some y) where
  at_same : (offset : ℕ) → byte_among (set s.spaces.items i x) i offset ≡ byte_in x offset
  unfolding byte_at address_sizes endian_of
  at_same offset =
      ap (λ r. option_map_or (λ one. byte_in one offset) r 0)
      (slice_get-set_same s.spaces.items i x (slice_get_within s.spaces.items i y was))

  at_old : (offset : ℕ) → byte_at s i offset ≡ byte_in y offset
  unfolding byte_at address_sizes endian_of
  at_old offset = ap (λ r. option_map_or (λ one. byte_in one offset) r 0) was

  at_other : (j offset : ℕ) → j ≢ i → byte_among (set s.spaces.items i x) j offset ≡ byte_at s j offset
  unfolding byte_at address_sizes endian_of
  at_other j offset ne =
      ap (λ r. option_map_or (λ one. byte_in one offset) r 0) (slice_get-set_other s.spaces.items i j x ne)

  at_any : ((offset : ℕ) → byte_in x offset ≡ byte_in y offset) → (j offset : ℕ) → byte_among (set s.spaces.items i x) j offset ≡ byte_at s j offset
  unfolding byte_at address_sizes endian_of
  at_any same j offset =
      elim (cases_eq j i) [
        | inl here ↦
            subst (λ (k : ℕ). byte_among (set s.spaces.items i x) k offset ≡ byte_at s k offset) (sym here)
            (at_same offset ∙ same offset ∙ sym (at_old offset))
        | inr away ↦ at_other j offset away
      ]

  pub Puts-changed : (base count : ℕ) (byte : ℕ → ℕ) → Puts (256 ^ y.size.bytes) base count byte (byte_in y) (byte_in x) → Puts (256 ^ address_size s i) base count byte (byte_at s i) (byte_among (set s.spaces.items i x) i)
  unfolding byte_at address_sizes endian_of
  Puts-changed base count byte puts =
      rw (size_at s.spaces.items i y was) (record {
        put = λ k below. at_same _ ∙ puts.put k below;
        kept = λ offset away. at_same offset ∙ puts.kept offset away ∙ sym (at_old offset);
      })

  pub KeepsOthers-changed : (new : State) → new.endian ≡ s.endian → new.spaces.items ≡ set s.spaces.items i x → x.size ≡ y.size → KeepsOthers s new i
  unfolding byte_at address_sizes endian_of
  KeepsOthers-changed new endian spaces size =
      record {
        endian = endian;
        sizes = ap (λ xs. map (λ one. one.size.bytes) xs) spaces ∙ sizes_kept s.spaces.items i x y was size;
        bytes = λ other offset ne. ap (λ xs. byte_among xs other offset) spaces ∙ at_other other offset ne;
      }

  pub IsSame-changed : (new : State) → new.endian ≡ s.endian → new.spaces.items ≡ set s.spaces.items i x → x.size ≡ y.size → ((offset : ℕ) → byte_in x offset ≡ byte_in y offset) → IsSame s new
  unfolding byte_at address_sizes endian_of
  IsSame-changed new endian spaces size same =
      record {
        endian = endian;
        sizes = ap (λ xs. map (λ one. one.size.bytes) xs) spaces ∙ sizes_kept s.spaces.items i x y was size;
        bytes = λ space offset. ap (λ xs. byte_among xs space offset) spaces ∙ at_any same space offset;
      }

-- what is read at a place inside
pub was_there : (s : State) (i : ℕ) (y : Space) → i < length (address_sizes s) → y ≡ get_or s.spaces.items i y → slice_get s.spaces.items i ≡ Some y
unfolding byte_at address_sizes endian_of
was_there s i y inside read =
    slice_get_read s.spaces.items (length s.spaces.items) i y refl (rw (← length-map s.spaces.items (λ one. one.size.bytes)) inside) read

-- one more space of zeros
pub zeros_more : (xs : List Space) (x : Space) → ((space offset : ℕ) → byte_among xs space offset ≡ 0) → ((offset : ℕ) → byte_in x offset ≡ 0) → (space offset : ℕ) → byte_among (xs ++ x ∷ []) space offset ≡ 0
zeros_more [] x before new zero offset = new offset
zeros_more [] x before new (suc k) offset = refl
zeros_more (z ∷ zs) x before new zero offset = before 0 offset
zeros_more (z ∷ zs) x before new (suc k) offset = zeros_more zs x (λ j o. before (suc j) o) new k offset

pub sizes_more : (xs : List Space) (x : Space) (sizes : List AddressSize) (i : ℕ) → i < length sizes → map (λ one. one.size.bytes) xs ≡ take i (byte_counts sizes) → (y : AddressSize) → x.size ≡ y → y ≡ get_or sizes i y → map (λ one. one.size.bytes) (xs ++ x ∷ []) ≡ take (i + 1) (byte_counts sizes)
sizes_more xs x sizes i inside before y same read =
    map-append (λ (one : Space). one.size.bytes) xs (x ∷ [])
    ∙ ap (λ ns. ns ++ x.size.bytes ∷ []) before
    ∙ ap (λ n. take i (byte_counts sizes) ++ n ∷ []) (ap (λ (n : AddressSize). n.bytes) (same ∙ read) ∙ sym (get_or-map (λ (n : AddressSize). n.bytes) sizes i y 0 inside))
    ∙ sym (take_more (byte_counts sizes) i 0 (rw (length-map sizes (λ (n : AddressSize). n.bytes)) inside))

-- what was written is what is read
pub reads_back : (old new : State) (space offset size bits : ℕ) → KeepsOthers old new space → bits < 256 ^ size → PutsBytes old new space offset size (byte_of (endian_of old) size bits) → number_at new space offset size ≡ bits
reads_back old new space offset size bits kept below puts =
    let same_size : address_size new space ≡ address_size old space = ap (λ ns. get_or ns space 0) kept.sizes in
    rw (kept.endian, same_size)
    (number_of-Puts (endian_of old) bits size (256 ^ address_size old space) offset (byte_at old space) (byte_at new space) below puts)
