-- The first constructor that passes a test.
use Rattle.std.proofs.Common.{◌≡◌, ℕ, ◌+◌, ◌<◌, ◌≤◌, Bool, true, false, cond, List, [], ◌∷◌, length, get_or, drop, Option, Some, None, sym, ap, ◌∙◌}
use Rattle.std.specs.Prelude.{find, option_map}
use Rattle.std.proofs.lemmas.List.{drop_more, drop_all}
use Rattle.sl_spec_tables.specs.declared.faults.Place.{Place}
use Rattle.sl_spec_tables.specs.declared.faults.Place.TheVariants.{Item}
use Rattle.sl_section_exports.specs.Exports.{Row, first_place}

abbrev pub place_of : Row → Place
place_of r = Item r.0.0.item

-- no constructor before the index passes
abbrev pub IsNotBefore : (Row → Bool) → List Row → ℕ → Type 0
IsNotBefore test rs i = first_place test (drop i rs) ≡ first_place test rs

module _ (test : Row → Bool) (rs : List Row) (i : ℕ) (r : Row) (below : i < length rs) (at : r ≡ get_or rs i r) where
  here : first_place test (drop i rs) ≡ first_place test (r ∷ drop (i + 1) rs)
  here = ap (first_place test) (drop_more rs i r below ∙ ap (λ (x : Row). x ∷ drop (i + 1) rs) (sym at))

  pub is_first : test r ≡ true → IsNotBefore test rs i → Some (place_of r) ≡ first_place test rs
  is_first passes before = sym (ap (λ b. option_map place_of (cond b (Some r) (find test (drop (i + 1) rs)))) passes) ∙ sym here ∙ before

  pub is_later : test r ≡ false → IsNotBefore test rs i → IsNotBefore test rs (i + 1)
  is_later fails before = sym (ap (λ b. option_map place_of (cond b (Some r) (find test (drop (i + 1) rs)))) fails) ∙ sym here ∙ before

pub is_nowhere : (test : Row → Bool) (rs : List Row) (i : ℕ) → length rs ≤ i → IsNotBefore test rs i → None ≡ first_place test rs
is_nowhere test rs i end before = sym (ap (first_place test) (drop_all i rs end)) ∙ before
