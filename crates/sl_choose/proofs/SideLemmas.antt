-- Entries at the two sides of bits.
use Rattle.std.proofs.Common.{◌≡◌, ◌↔◌, ℕ, ◌+◌, ◌<◌, ◌≤◌, ◌⊎◌, List, length, get_or, take, [], ◌∷◌, ◌++◌, below_more, min, bit_and, cond, arith, sym, ◌∙◌, ap, refl, inl, inr, subst, length-append}
use Rattle.std.specs.Prelude.{Contains}
use Rattle.std.specs.Int.{bit_at}
use Rattle.std.specs.List.{HoldsAt}
use Rattle.std.proofs.lemmas.Nat.{and_le_l}
use Rattle.std.proofs.lemmas.Nat.Bits.{bit_at_and, bit_at-lt, bit_at-zero, same_from_bits}
use Rattle.std.proofs.lemmas.List.{take_all}
use Rattle.std.proofs.lemmas.List.Elements.{Contains-append_left, Contains-push, Contains-push_cases, at_read}
use Rattle.sl_cube.specs.declared.Cube.{Cube}
use Rattle.sl_cube.specs.declared.Point.{Point}
use Rattle.sl_cube.specs.Bits.{Agrees}
use Rattle.sl_cube.specs.Points.{IsIn}
use Rattle.sl_cube.specs.Search.{Lacks}
use Rattle.sl_cube.proofs.BitLemmas.{within_bit, agrees_from_and, and_from_agrees}
use Rattle.sl_choose.specs.declared.Entry.{Entry}
use Rattle.sl_choose.specs.Sides.{SetsNone, Covers, IsPut, AllCover, SomeClear, SomeSet, IsSides, has_count, lacks_count, may_have, may_lack}
use Rattle.sl_choose.proofs.CountLemmas.{count_more, have_clear, have_free, have_set, kept_count, lack_false, lack_true, more_count}

-- ---- bits of a cube and of its points

no_and : (m : ℕ) → bit_and 0 m ≡ 0
no_and m = omega (arith, and_le_l 0 m)

pub lacks_part : (b p : ℕ) → bit_and p b ≡ 0 ↔ Agrees b 0 p
lacks_part b p = (λ e. agrees_from_and b 0 p e, λ a. and_from_agrees b 0 p (no_and b) a)

clear_bit : (v m b p z : ℕ) → v < 2 → m < 2 → b < 2 → v ≡ min v m → (m ≡ 1 → p ≡ v) → (b ≡ 1 → p ≡ z) → z ≡ 0 → min v b ≡ 0
clear_bit v m b p z a c d e f g h = grind arith

lacking_part : (m v b p : ℕ) → bit_and v m ≡ v → Agrees m v p → Agrees b 0 p → bit_and v b ≡ 0
lacking_part m v b p w inside lacks = same_from_bits _ _ (λ i.
    bit_at_and v b i
    ∙ clear_bit (bit_at v i) (bit_at m i) (bit_at b i) (bit_at p i) (bit_at 0 i) (bit_at-lt v i) (bit_at-lt m i) (bit_at-lt b i) (within_bit m v i w) (inside i) (lacks i) (bit_at-zero i)
    ∙ sym (bit_at-zero i))

-- a cube with a point that lacks the bits fixes none of them to 1
pub none_from_lacking : (c : Cube) (bits p : Point) → IsIn p c → Lacks bits p → SetsNone c bits
none_from_lacking c bits p inside lacks = (
  lacking_part c.mask c.value bits.bytes p.bytes c.within inside.0 lacks.0,
  lacking_part c.ctx_mask c.ctx_value bits.context p.context c.ctx_within inside.1 lacks.1,
)

kept_bit : (v m b p z : ℕ) → v < 2 → m < 2 → min m b ≡ b → min v b ≡ 0 → b ≡ 1 → (m ≡ 1 → p ≡ v) → z ≡ 0 → p ≡ z
kept_bit v m b p z a c e f g h k = grind arith

cleared_part : (m v b p : ℕ) → bit_and m b ≡ b → bit_and v b ≡ 0 → Agrees m v p → Agrees b 0 p
cleared_part m v b p covers none inside = λ i on. kept_bit (bit_at v i) (bit_at m i) (bit_at b i) (bit_at p i) (bit_at 0 i) (bit_at-lt v i) (bit_at-lt m i)
    (sym (bit_at_and m b i) ∙ ap (λ x. bit_at x i) covers) (sym (bit_at_and v b i) ∙ ap (λ x. bit_at x i) none ∙ bit_at-zero i) on (inside i) (bit_at-zero i)

-- the points of a cube that fixes all bits to 0 lack them
pub lacking_from_clear : (c : Cube) (bits p : Point) → SetsNone c bits → Covers c bits → IsIn p c → Lacks bits p
lacking_from_clear c bits p none covers inside = (
  cleared_part c.mask c.value bits.bytes p.bytes covers.0 none.0 inside.0,
  cleared_part c.ctx_mask c.ctx_value bits.context p.context covers.1 none.1 inside.1,
)

-- ---- one more entry

pub record SidesFirst (entries : List Entry) (bits : Point) (low high : List Entry) (n : ℕ) : Type 0 where
  pub low_among : (e : Entry) → Contains low e → Contains entries e
  pub high_among : (e : Entry) → Contains high e → Contains entries e
  pub low_all : (k : ℕ) → k < n → HoldsAt (λ (e : Entry). SetsNone e.cube bits → Contains low e) entries k
  pub high_all : (k : ℕ) → k < n → HoldsAt (λ (e : Entry). (SetsNone e.cube bits × Covers e.cube bits → ⊥) → Contains high e) entries k
  pub low_count : length low ≡ lacks_count bits (take n entries)
  pub high_count : length high ≡ has_count bits (take n entries)

not_in_nothing : (e : Entry) → Contains [] e → ⊥
not_in_nothing e h = omega (arith, h.1)

pub sides_none : (entries : List Entry) (bits : Point) → SidesFirst entries bits [] [] 0
sides_none entries bits = record {
  low_among = λ e h. absurd (not_in_nothing e h);
  high_among = λ e h. absurd (not_in_nothing e h);
  low_all = λ k below. absurd (omega arith);
  high_all = λ k below. absurd (omega arith);
  low_count = refl;
  high_count = refl;
}

record Grows (e : Entry) (old new : List Entry) : Type 0 where
  among : (x : Entry) → Contains new x → Contains old x ⊎ (e ≡ x)
  up : (x : Entry) → Contains old x → Contains new x

grows_same : (e : Entry) (old new : List Entry) → new ≡ old → Grows e old new
grows_same e old new same = record {
  among = λ x h. inl (subst (λ (xs : List Entry). Contains xs x) same h);
  up = λ x h. subst (λ (xs : List Entry). Contains xs x) (sym same) h;
}

grows_pushed : (e : Entry) (old new : List Entry) → new ≡ old ++ e ∷ [] → Grows e old new
grows_pushed e old new pushed = record {
  among = λ x h. Contains-push_cases old e x (subst (λ (xs : List Entry). Contains xs x) pushed h);
  up = λ x h. subst (λ (xs : List Entry). Contains xs x) (sym pushed) (Contains-append_left old (e ∷ []) x h);
}

has_pushed : (e : Entry) (old new : List Entry) → new ≡ old ++ e ∷ [] → Contains new e
has_pushed e old new pushed = subst (λ (xs : List Entry). Contains xs e) (sym pushed) (Contains-push old e)

longer : (e : Entry) (old new : List Entry) → new ≡ old ++ e ∷ [] → length new ≡ length old + 1
longer e old new pushed = omega (arith, simp length-append at (ap length pushed))

sides_step : (entries : List Entry) (bits : Point) (low high low_new high_new : List Entry) (n : ℕ) (e : Entry) → n < length entries → e ≡ get_or entries n e
    → Grows e low low_new → Grows e high high_new → (SetsNone e.cube bits → Contains low_new e)
    → ((SetsNone e.cube bits × Covers e.cube bits → ⊥) → Contains high_new e)
    → length low_new ≡ length low + cond (may_lack bits e.cube) 1 0 → length high_new ≡ length high + cond (may_have bits e.cube) 1 0
    → SidesFirst entries bits low high n → SidesFirst entries bits low_new high_new (n + 1)
sides_step entries bits low high low_new high_new n e below is l h low_here high_here low_sum high_sum f = record {
  low_among = λ x c. elim (l.among x c) [ inl old ↦ f.low_among x old | inr same ↦ subst (λ (y : Entry). Contains entries y) same (n, below, sym is) ];
  high_among = λ x c. elim (h.among x c) [ inl old ↦ f.high_among x old | inr same ↦ subst (λ (y : Entry). Contains entries y) same (n, below, sym is) ];
  low_all = below_more (λ k. HoldsAt (λ (x : Entry). SetsNone x.cube bits → Contains low_new x) entries k) n
      (λ k lt d none. l.up (get_or entries k d) (f.low_all k lt d none))
      (at_read entries (λ (x : Entry). SetsNone x.cube bits → Contains low_new x) n e below is low_here);
  high_all = below_more (λ k. HoldsAt (λ (x : Entry). (SetsNone x.cube bits × Covers x.cube bits → ⊥) → Contains high_new x) entries k) n
      (λ k lt d out. h.up (get_or entries k d) (f.high_all k lt d out))
      (at_read entries (λ (x : Entry). (SetsNone x.cube bits × Covers x.cube bits → ⊥) → Contains high_new x) n e below is high_here);
  low_count = omega (arith, low_sum, f.low_count, count_more (λ (x : Entry). may_lack bits x.cube) entries n e below is);
  high_count = omega (arith, high_sum, f.high_count, count_more (λ (x : Entry). may_have bits x.cube) entries n e below is);
}

pub sides_more : (entries : List Entry) (bits : Point) (low high low_new high_new : List Entry) (n : ℕ) (e : Entry) → n < length entries → e ≡ get_or entries n e
    → IsPut e bits low high low_new high_new → SidesFirst entries bits low high n → SidesFirst entries bits low_new high_new (n + 1)
sides_more entries bits low high low_new high_new n e below is (inl p) f = sides_step entries bits low high low_new high_new n e below is
    (grows_same e low low_new p.1) (grows_pushed e high high_new p.2) (λ none. absurd (p.0 none)) (λ out. has_pushed e high high_new p.2)
    (kept_count (length low) (length low_new) _ (ap length p.1) (lack_false bits e.cube p.0))
    (more_count (length high) (length high_new) _ (longer e high high_new p.2) (have_set bits e.cube p.0)) f
sides_more entries bits low high low_new high_new n e below is (inr (inl p)) f = sides_step entries bits low high low_new high_new n e below is
    (grows_pushed e low low_new p.2) (grows_same e high high_new p.3) (λ none. has_pushed e low low_new p.2) (λ out. absurd (out (p.0, p.1)))
    (more_count (length low) (length low_new) _ (longer e low low_new p.2) (lack_true bits e.cube p.0))
    (kept_count (length high) (length high_new) _ (ap length p.3) (have_clear bits e.cube p.0 p.1)) f
sides_more entries bits low high low_new high_new n e below is (inr (inr p)) f = sides_step entries bits low high low_new high_new n e below is
    (grows_pushed e low low_new p.2) (grows_pushed e high high_new p.3) (λ none. has_pushed e low low_new p.2) (λ out. has_pushed e high high_new p.3)
    (more_count (length low) (length low_new) _ (longer e low low_new p.2) (lack_true bits e.cube p.0))
    (more_count (length high) (length high_new) _ (longer e high high_new p.3) (have_free bits e.cube p.1)) f

pub sides_all : (entries : List Entry) (bits : Point) (low high : List Entry) (n : ℕ) → length entries ≤ n → SidesFirst entries bits low high n → IsSides entries bits low high
sides_all entries bits low high n all f = record {
  low_among = f.low_among;
  high_among = f.high_among;
  low_all = λ e h none.
      let lt : h.0 < n = omega (arith, h.1) in
      (subst (λ (x : Entry). SetsNone x.cube bits → Contains low x) h.2 (f.low_all h.0 lt e)) none;
  high_all = λ e h out.
      let lt : h.0 < n = omega (arith, h.1) in
      (subst (λ (x : Entry). (SetsNone x.cube bits × Covers x.cube bits → ⊥) → Contains high x) h.2 (f.high_all h.0 lt e)) out;
  low_count = f.low_count ∙ ap (lacks_count bits) (take_all n entries all);
  high_count = f.high_count ∙ ap (has_count bits) (take_all n entries all);
}

-- ---- tests over a list

pub cover_none : (entries : List Entry) (bits : Point) → (k : ℕ) → k < 0 → HoldsAt (λ (e : Entry). Covers e.cube bits) entries k
cover_none entries bits = λ k below. absurd (omega arith)

pub cover_all : (entries : List Entry) (bits : Point) (n : ℕ) → length entries ≤ n → ((k : ℕ) → k < n → HoldsAt (λ (e : Entry). Covers e.cube bits) entries k) → AllCover entries bits
cover_all entries bits n all f = λ e h.
    let lt : h.0 < n = omega (arith, h.1) in
    subst (λ (x : Entry). Covers x.cube bits) h.2 (f h.0 lt e)

pub none_clear : (entries : List Entry) (bits : Point) (n : ℕ) → length entries ≤ n → ((k : ℕ) → k < n → HoldsAt (λ (e : Entry). SetsNone e.cube bits → ⊥) entries k) → SomeClear entries bits → ⊥
none_clear entries bits n all f s =
    let lt : s.1.0 < n = omega (arith, s.1.1) in
    (subst (λ (x : Entry). SetsNone x.cube bits → ⊥) s.1.2 (f s.1.0 lt s.0)) s.2

pub none_set : (entries : List Entry) (bits : Point) (n : ℕ) → length entries ≤ n → ((k : ℕ) → k < n → HoldsAt (λ (e : Entry). SetsNone e.cube bits) entries k) → SomeSet entries bits → ⊥
none_set entries bits n all f s =
    let lt : s.1.0 < n = omega (arith, s.1.1) in
    s.2 (subst (λ (x : Entry). SetsNone x.cube bits) s.1.2 (f s.1.0 lt s.0))
