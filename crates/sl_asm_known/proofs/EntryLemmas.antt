-- Attached numbers whose indices are left.
use Rattle.std.proofs.Common.{◌≡◌, ℕ, ◌+◌, ◌<◌, ◌≤◌, List, length, below_more, Option, Some, None, IfSome, arith, subst, sym, inl, inr}
use Rattle.std.specs.Prelude.{ℤ, option_and_then}
use Rattle.std.proofs.lemmas.Bool.{cases_lt}
use Rattle.std.proofs.lemmas.Option.{slice_get_past}
use Rattle.std.specs.Int.{cast_unsigned, w64}
use Rattle.sl_asm_bits.specs.Known.{Has, HasBits, IsLeft}
use Rattle.sl_asm_bits.specs.declared.Known.{Known}
use Rattle.sl_decode_meaning.specs.Lookups.{entry_at}

-- Each of the first entries whose index is left is.
abbrev pub FirstLeft : List (Option ℤ) → Known → ℕ → Option Known → Type 0
FirstLeft numbers raw n left = (i : ℕ) → i < n → Has raw i → IfSome (entry_at numbers i) (IsLeft left)

some_map : (o : Option ℤ) (P Q : ℤ → Type 0) → ((z : ℤ) → P z → Q z) → IfSome o P → IfSome o Q
some_map (Some z) P Q f h = f z h
some_map None P Q f h = tt

pub one_more : (numbers : List (Option ℤ)) (raw : Known) (n : ℕ) (old new : Option Known) (entry : Option ℤ) → entry ≡ entry_at numbers n
    → ((z : ℤ) → IsLeft old z → IsLeft new z) → (Has raw n → IfSome entry (IsLeft new)) → FirstLeft numbers raw n old → FirstLeft numbers raw (n + 1) new
one_more numbers raw n old new entry is kept here first =
    below_more (λ i. Has raw i → IfSome (entry_at numbers i) (IsLeft new)) n
    (λ i lt has. some_map (entry_at numbers i) (IsLeft old) (IsLeft new) kept (first i lt has))
    (λ has. subst (λ (o : Option ℤ). IfSome o (IsLeft new)) is (here has))

pub all_left : (numbers : List (Option ℤ)) (raw : Known) (n : ℕ) (left : Option Known) → length numbers ≤ n → FirstLeft numbers raw n left
    → (i : ℕ) → Has raw i → IfSome (entry_at numbers i) (IsLeft left)
all_left numbers raw n left whole first i has = elim (cases_lt i n) [
  | inl lt ↦ first i lt has
  | inr past ↦
      let over : length numbers ≤ i = omega (arith, whole, past) in
      subst (λ (o : Option (Option ℤ)). IfSome (option_and_then (λ e. e) o) (IsLeft left)) (sym (slice_get_past numbers i over)) tt
]

pub wider : (a b : Known) (z : ℤ) → ((n : ℕ) → Has a n → Has b n) → HasBits a z → HasBits b z
wider a b z f h = record { fits = h.fits; bits = f (cast_unsigned w64 z) h.bits }
