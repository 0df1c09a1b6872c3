-- Regions whose lists give wanted values.
use Rattle.std.proofs.Common.{◌≡◌, ℕ, ℤ, ◌+◌, List, get_or, Option, Some, None, Ok, MatchOption, Vec, Global, false, arith, refl, sym, subst, ◌∙◌, inl, inr}
use Rattle.std.specs.Prelude.{IfOk, Result, option_map, slice_get}
use Rattle.std.specs.Option.{is_some}
use Rattle.std.specs.Int.{bit_at}
use Rattle.std.proofs.lemmas.Bool.{cases_lt}
use Rattle.std.proofs.lemmas.Nat.Bits.{bit_at-lt}
use Rattle.sl_asm_bits.specs.Known.{HasBits}
use Rattle.sl_asm_bits.specs.declared.Known.{Known}
use Rattle.sl_asm_fit.specs.Regions.{IsOf}
use Rattle.sl_asm_fit.specs.Windows.{with_zeros}
use Rattle.sl_asm_fit.specs.declared.Cell.{Cell}
use Rattle.sl_asm_known.specs.FieldBits.{GivesOwn, IsLeftWhere}
use Rattle.sl_asm_known.specs.Frames.{IsSiteOf}
use Rattle.sl_asm_known.specs.OpenBits.{IsHalf}
use Rattle.sl_asm_known.specs.declared.Bit.{Bit}
use Rattle.sl_asm_known.specs.declared.Frame.{Frame}
use Rattle.sl_asm_values.specs.Halves.{HalfGivesNone, IsHalfLeft, IsLeft, IsLeftHalf, IsLeftOf}
use Rattle.sl_asm_values.specs.Narrowing.{Gives, GivesNone, IsPart, KeepsGiving}
use Rattle.sl_asm_values.specs.declared.narrowing.Judged.{Judged}
use Rattle.sl_decode_leaves.specs.Extents.{extent}
use Rattle.sl_decode_leaves.specs.Fields.{own_if}
use Rattle.sl_decode_leaves.specs.declared.extents.Extent.{Extent}
use Rattle.sl_decode_meaning.specs.Values.{Site}
use Rattle.sl_decode_meaning.specs.declared.faults.Fault.{Fault}
use Rattle.sl_decode_plan.specs.Values.{value_in}
use Rattle.sl_decode_plan.specs.declared.values.Value.{Value}
use Rattle.sl_spec.specs.declared.tables.Tables.{Tables}

-- the same site, by a region that has its bytes
abbrev pub site_in : (f : Frame) (region narrow : List Cell) (s : Site) (is : IsSiteOf f region s) → IsOf narrow is.bytes → IsSiteOf f narrow s
site_in f region narrow s is inside = record {
  bytes = is.bytes;
  of_region = inside;
  reads = is.reads;
  at = is.at;
  lengths = is.lengths;
  context = is.context;
  start = is.start;
  next = is.next;
  names = is.names;
}

pub part_all : (region : List Cell) → IsPart region region
part_all region = record { long = refl; within = λ xs h. h }

pub part_more : (region mid narrow : List Cell) → IsPart region mid → IsPart mid narrow → IsPart region narrow
part_more region mid narrow a b = record { long = b.long ∙ a.long; within = λ xs h. a.within xs (b.within xs h) }

module _ (t : Tables) (f : Frame) (v : Value) (wanted : Known) where
  pub keeps_more : (region mid narrow : List Cell) → KeepsGiving t f region v wanted mid → KeepsGiving t f mid v wanted narrow → KeepsGiving t f region v wanted narrow
  keeps_more region mid narrow a b = record {
    part = part_more region mid narrow a.part b.part;
    stays = λ s is gives. b.stays s (site_in f region mid s is (a.stays s is gives)) gives;
  }

  pub none_left : (region mid : List Cell) → KeepsGiving t f region v wanted mid → GivesNone t f mid v wanted → GivesNone t f region v wanted
  none_left region mid a none = λ s is gives. none s (site_in f region mid s is (a.stays s is gives)) gives

  pub found_more : (region mid : List Cell) (found : Option (Vec Cell Global)) → KeepsGiving t f region v wanted mid
      → MatchOption found (GivesNone t f mid v wanted) (λ n. KeepsGiving t f mid v wanted n.items)
      → MatchOption found (GivesNone t f region v wanted) (λ n. KeepsGiving t f region v wanted n.items)
  found_more region mid None a none = none_left region mid a none
  found_more region mid (Some n) a b = keeps_more region mid n.items a b

  -- ---- fields

  module _ (id : ℕ) (place : Extent) (v_is : (s : Site) → value_in t s v ≡ own_if t (slice_get t.fields id) s.bytes (s.at + extent place s.lengths) s.context) where
    gives_own : (region : List Cell) (s : Site) (is : IsSiteOf f region s) → Gives t v wanted s → GivesOwn t f id place wanted is.bytes
    gives_own region s is gives =
        let own : own_if t (slice_get t.fields id) (with_zeros is.bytes) (f.at + extent place f.lengths.now) f.context ≡ Ok gives.number =
        sym (λ j. own_if t (slice_get t.fields id) (is.reads j) (is.at j + extent place (is.lengths j)) (is.context j)) ∙ sym (v_is s) ∙ gives.is in
        subst (λ (r : Result ℤ Fault). IfOk r (HasBits wanted)) (sym own) gives.has

    pub own_left : (region : List Cell) (found : Option (Vec Cell Global)) → IsLeftWhere (GivesOwn t f id place wanted) region (option_map (λ v. v.items) found)
        → MatchOption found (GivesNone t f region v wanted) (λ n. KeepsGiving t f region v wanted n.items)
    own_left region None none = λ s is gives. none is.bytes is.of_region (gives_own region s is gives)
    own_left region (Some n) keeps = record {
      part = record { long = keeps.long; within = keeps.within };
      stays = λ s is gives. keeps.stays is.bytes is.of_region (gives_own region s is gives);
    }

  -- ---- halves

  pub half_none : (region half : List Cell) (b : Bit) (bit : ℕ) → IsHalf region b bit half → GivesNone t f half v wanted → HalfGivesNone t f region v wanted b bit
  half_none region half b bit h none = λ s is e gives. none s (site_in f region half s is (h.all is.bytes is.of_region e)) gives

  is_bit : (x i : ℕ) → (bit_at x i ≡ 0 → ⊥) → bit_at x i ≡ 1
  is_bit x i other = let small = bit_at-lt x i in elim (cases_lt (bit_at x i) 1) [
    | inl lt ↦ absurd (other (omega (arith, lt)))
    | inr le ↦ omega (arith, le, small)
  ]

  is_clear : (x i : ℕ) → (bit_at x i ≡ 1 → ⊥) → bit_at x i ≡ 0
  is_clear x i other = let small = bit_at-lt x i in elim (cases_lt (bit_at x i) 1) [
    | inl lt ↦ omega (arith, lt)
    | inr le ↦ absurd (other (omega (arith, le, small)))
  ]

  pub neither : (region : List Cell) (b : Bit) → HalfGivesNone t f region v wanted b 0 → HalfGivesNone t f region v wanted b 1 → GivesNone t f region v wanted
  neither region b clear set = λ s is gives.
      set s is (is_bit (get_or is.bytes b.index 0) b.place (λ e. clear s is e gives)) gives

  pub set_left : (region : List Cell) (b : Bit) (j : Judged) → HalfGivesNone t f region v wanted b 0 → IsLeftHalf t f region v wanted b 1 j → IsLeft t f region v wanted j
  set_left region b j none h = record {
    keeps = record {
      part = record { long = h.half.long; within = h.half.within };
      stays = λ s is gives. h.half.all is.bytes is.of_region (is_bit (get_or is.bytes b.index 0) b.place (λ e. none s is e gives));
    };
    says = h.says;
  }

  pub clear_left : (region : List Cell) (b : Bit) (j : Judged) → IsLeftHalf t f region v wanted b 0 j → HalfGivesNone t f region v wanted b 1 → IsLeft t f region v wanted j
  clear_left region b j h none = record {
    keeps = record {
      part = record { long = h.half.long; within = h.half.within };
      stays = λ s is gives. h.half.all is.bytes is.of_region (is_clear (get_or is.bytes b.index 0) b.place (λ e. none s is e gives));
    };
    says = h.says;
  }

  pub clear_only : (region : List Cell) (b : Bit) (one : Judged) (set : Option Judged) → false ≡ is_some set → IsLeftHalf t f region v wanted b 0 one
      → IsHalfLeft t f region v wanted b 1 set → IsLeft t f region v wanted one
  clear_only region b one None none h set = clear_left region b one h set
  clear_only region b one (Some x) none h set = absurd (cc)

  pub left_more : (region : List Cell) (j one : Judged) → IsLeft t f region v wanted j → IsLeft t f j.region.items v wanted one → IsLeft t f region v wanted one
  left_more region j one a b = record { keeps = keeps_more region j.region.items one.region.items a.keeps b.keeps; says = b.says }

  pub judged_half : (region half : List Cell) (b : Bit) (bit : ℕ) (found : Option Judged) → IsHalf region b bit half
      → MatchOption found (GivesNone t f half v wanted) (IsLeftOf t f half v wanted) → IsHalfLeft t f region v wanted b bit found
  judged_half region half b bit (Some j) h of = record { half = subst (IsHalf region b bit) (sym of.same) h; says = of.says }
  judged_half region half b bit None h none = half_none region half b bit h none
