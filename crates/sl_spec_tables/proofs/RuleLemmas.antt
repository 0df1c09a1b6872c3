-- The first constructor that passes a test.
use Rattle.std.proofs.Common.{◌≡◌, ℕ, zero, suc, ◌+◌, ◌<◌, ◌≤◌, Bool, true, false, cond, List, [], ◌∷◌, length, get_or, drop, Option, Some, None, refl, sym, ap, ◌∙◌}
use Rattle.std.specs.Prelude.{find, option_map, slice_get}
use Rattle.std.specs.List.{list_any}
use Rattle.std.proofs.lemmas.List.{drop_more, drop_all}
use Rattle.sl_spec_tables.specs.Rows as spec
use Rattle.sl_spec_tables.specs.TableRules.{first_place, has_instruction, past_most, place_of}
use Rattle.sl_spec_tables.specs.Views.{row_of, rows_of}
use Rattle.sl_spec_tables.specs.declared.faults.Place.{Place}
use Rattle.sl_spec_tables.specs.declared.rows.Row.{Row}
use Rattle.sl_spec_rules.proofs.ListLemmas.{any_map}

module _ (test : spec.Row → Bool) (rs : List spec.Row) (i : ℕ) (r : spec.Row) (below : i < length rs) (at : r ≡ get_or rs i r) where
  here : first_place test (drop i rs) ≡ first_place test (r ∷ drop (i + 1) rs)
  here = ap (first_place test) (drop_more rs i r below ∙ ap (λ (x : spec.Row). x ∷ drop (i + 1) rs) (sym at))

  pub found_here : (whole : Option Place) → test r ≡ true → first_place test (drop i rs) ≡ whole → Some (place_of r) ≡ whole
  found_here whole passes so_far = sym (ap (λ b. option_map place_of (cond b (Some r) (find test (drop (i + 1) rs)))) passes) ∙ sym here ∙ so_far

  pub found_later : (whole : Option Place) → test r ≡ false → first_place test (drop i rs) ≡ whole → first_place test (drop (i + 1) rs) ≡ whole
  found_later whole fails so_far = sym (ap (λ b. option_map place_of (cond b (Some r) (find test (drop (i + 1) rs)))) fails) ∙ sym here ∙ so_far

pub found_nowhere : (test : spec.Row → Bool) (rs : List spec.Row) (i : ℕ) (whole : Option Place) → length rs ≤ i → first_place test (drop i rs) ≡ whole → None ≡ whole
found_nowhere test rs i whole end so_far = sym (ap (first_place test) (drop_all i rs end)) ∙ so_far

place_at : (rs : List Row) (k : ℕ) → option_map place_of (slice_get (rows_of rs) k) ≡ option_map (λ r. place_of (row_of r)) (slice_get rs k)
place_at [] k = refl
place_at (r ∷ rs) zero = refl
place_at (r ∷ rs) (suc k) = place_at rs k

pub past_some : (rs : List Row) (r : Row) → Some r ≡ slice_get rs 65535 → Some (place_of (row_of r)) ≡ past_most (rows_of rs)
unfolding past_most
past_some rs r is = ap (option_map (λ r. place_of (row_of r))) is ∙ sym (place_at rs 65535)

pub past_none : (rs : List Row) → None ≡ slice_get rs 65535 → None ≡ past_most (rows_of rs)
unfolding past_most
past_none rs is = ap (option_map (λ r. place_of (row_of r))) is ∙ sym (place_at rs 65535)

pub some_of : (rs : List Row) → list_any (λ r. spec.is_of 0 (row_of r)) rs ≡ has_instruction (rows_of rs)
unfolding has_instruction
some_of rs = sym (any_map (spec.is_of 0) row_of rs)
