-- The window of a pattern from those of its parts.
use Rattle.std.proofs.Common.{◌≡◌, ℕ, ◌+◌, ◌-◌, ◌/◌, ◌<◌, ◌^◌, ◌⊎◌, max, Bool, true, false, nat_eq, Option, Some, refl, sym, subst, ◌∙◌, arith, inl, inr}
use Rattle.std.specs.Prelude.{if◌then◌else◌}
use Rattle.std.specs.Int.{trailing_zeros, w128}
use Rattle.std.proofs.lemmas.Bool.{cases_lt, cases_eq, eqb-true, eq-eqb, false≢true}
use Rattle.std.proofs.lemmas.Nat.Bits.{bit_at-trailing_zeros}
use Rattle.sl_ast.specs.Trees as t
use Rattle.sl_ast.specs.declared.patterns.Relation.{Relation}
use Rattle.sl_ast.specs.declared.patterns.PatternOp.{PatternOp}
use Rattle.sl_ast.specs.declared.patterns.PatternOp.TheVariants.{And}
use Rattle.sl_shape_constraints.specs.Windows.{IsEnd}
use Rattle.sl_cube.specs.declared.Cube.{Cube}
use Rattle.sl_shape_patterns.specs.Patterns.{Reading, constraint_of, right_place, told}
use Rattle.sl_shape_patterns.specs.Windows.{FixesByte, FromPlace, IfConstrains, IfFixesByte, IsWindow, NameConstrains, PatternConstrains, end_from}

-- ---- ends

pub no_end : (P : ℕ → Type 0) → ((i : ℕ) → P i → ⊥) → IsEnd P 0
no_end P none = record { all = λ i h. absurd (none i h); last = λ pos. absurd (omega (arith, pos)) }

module _ (P : ℕ → Type 0) (n place : ℕ) (e : IsEnd P n) where
  end_moved_by : (d : Bool) → d ≡ nat_eq n 0 → IsEnd (FromPlace place P) (if d then 0 else place + n)
  end_moved_by true is =
      let zero_is : n ≡ 0 = eqb-true n 0 (sym is) in
      no_end (FromPlace place P) (λ i h. omega (arith, e.all h.0 h.1, zero_is))
  end_moved_by false is =
      let some : 0 < n = elim (cases_eq n 0) [
        | inl zero_is ↦ absurd (false≢true (is ∙ eq-eqb n 0 zero_is))
        | inr ne ↦ omega (arith, ne)
      ] in
      record {
        all = λ i h. omega (arith, e.all h.0 h.1, h.2);
        last = λ pos. (n - 1, e.last some, omega (arith, some));
      }

  pub window_from : (shown : ℕ) → shown ≡ told (end_from place n) → IsWindow (FromPlace place P) shown
  window_from shown is = (end_from place n, end_moved_by (nat_eq n 0) refl, is)

end_either : (P Q : ℕ → Type 0) (m n : ℕ) → IsEnd P m → IsEnd Q n → IsEnd (λ i. P i ⊎ Q i) (max m n)
end_either P Q m n e f = record {
  all = λ i h. elim h [ inl x ↦ omega (arith, e.all i x) | inr y ↦ omega (arith, f.all i y) ];
  last = λ pos. elim (cases_lt m n) [
    | inl less ↦
        let is : n - 1 ≡ max m n - 1 = omega (arith, less) in
        inr (subst (λ (i : ℕ). Q i) is (f.last (omega (arith, less))))
    | inr ge ↦
        let is : m - 1 ≡ max m n - 1 = omega (arith, ge) in
        inl (subst (λ (i : ℕ). P i) is (e.last (omega (arith, pos, ge))))
  ];
}

window_either : (P Q : ℕ → Type 0) (a b n : ℕ) → IsWindow P a → IsWindow Q b → n ≡ max a b → IsWindow (λ i. P i ⊎ Q i) n
window_either P Q a b n u v is = (max u.0 v.0, end_either P Q u.0 v.0 u.1 v.1, omega (arith, is, u.2, v.2))

-- ---- hulls and names

pub hull_end : (hull : Cube) (n : ℕ) → 0 < hull.mask → hull.mask < 2 ^ 128 → n ≡ 16 - trailing_zeros w128 hull.mask / 8 → IsEnd (FixesByte (Some hull)) n
hull_end hull n some fits is =
    let lowest = bit_at-trailing_zeros w128 hull.mask some fits in
    let z = trailing_zeros w128 hull.mask in
    let small : z < 128 = lowest.0 in
    record {
      all = λ i h. elim (cases_lt h.0 z) [
        | inl below ↦ absurd (omega (arith, lowest.2 h.0 below, h.2))
        | inr from ↦ omega (arith, is, h.1, h.3, from, small)
      ];
      last = λ pos. (z, small, lowest.1, omega (arith, is, small));
    }

pub some_end : (is : Bool) (hull : Option Cube) (h : Cube) (n : ℕ) → is ≡ false → hull ≡ Some h → IsEnd (FixesByte (Some h)) n → IsEnd (IfFixesByte is hull) n
some_end is hull h n e f end = subst (λ (b : Bool). IsEnd (IfFixesByte b hull) n) (sym e) (subst (λ (o : Option Cube). IsEnd (FixesByte o) n) (sym f) end)

-- ---- one level of a pattern

module _ (r : Reading) where
  pub window_name : (name : t.Name) (at n shown : ℕ) → IsEnd (NameConstrains r name) n → shown ≡ told (end_from at n)
      → IsWindow (PatternConstrains r (t.bare name) at) shown
  unfolding PatternConstrains
  window_name name at n shown e is = window_from (NameConstrains r name) n at e shown is

  pub window_constraint : (name : t.Name) (relation : Relation) (x : t.Expression) (at n shown : ℕ)
      → IsEnd (IfConstrains (constraint_of r.tables name relation x)) n → shown ≡ told (end_from at n)
      → IsWindow (PatternConstrains r (t.constraint name relation x) at) shown
  unfolding PatternConstrains
  window_constraint name relation x at n shown e is = window_from (IfConstrains (constraint_of r.tables name relation x)) n at e shown is

  pub window_group : (x : t.Pattern) (at n : ℕ) → IsWindow (PatternConstrains r x at) n → IsWindow (PatternConstrains r (t.group x) at) n
  unfolding PatternConstrains
  window_group x at n w = w

  pub window_ellipsis : (x : t.Pattern) (at n : ℕ) → IsWindow (PatternConstrains r x at) n → IsWindow (PatternConstrains r (t.ellipsis x) at) n
  unfolding PatternConstrains
  window_ellipsis x at n w = w

  pub window_both : (op : PatternOp) (x y : t.Pattern) (at a b n : ℕ) → IsWindow (PatternConstrains r x at) a
      → IsWindow (PatternConstrains r y (right_place op at (r.bytes x))) b → n ≡ max a b → IsWindow (PatternConstrains r (t.joined op x y) at) n
  unfolding PatternConstrains
  window_both op x y at a b n u v is =
      window_either (PatternConstrains r x at) (PatternConstrains r y (right_place op at (r.bytes x))) a b n u v is

  pub window_in_block : (x y : t.Pattern) (a b n : ℕ) → IsWindow (PatternConstrains r x 0) a → IsWindow (PatternConstrains r y 0) b → n ≡ max a b
      → IsWindow (PatternConstrains r (t.joined And (t.group x) (t.group y)) 0) n
  window_in_block x y a b n u v is = window_both And (t.group x) (t.group y) 0 a b n (window_group x 0 a u) (window_group y 0 b v) is
