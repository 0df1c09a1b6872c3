-- Names that differ, as a loop over them finds it.
use Rattle.std.proofs.Common.{◌≡◌, ℕ, ◌+◌, ◌<◌, ◌≤◌, true, false, Bool, List, [], ◌∷◌, ◌++◌, length, get_or, drop, sym, ap, ◌∙◌}
use Rattle.std.specs.Prelude.{not, ◌&&◌}
use Rattle.std.proofs.lemmas.List.{drop_more}
use Rattle.std.proofs.Math.ListN.{drop_of_length-le}
use Rattle.sl_spec_rules.specs.Names.{Name, differ_behind, is_among}

module _ (names : List Name) (whole : Bool) where
  at_index : (seen : List Name) (i : ℕ) (name : Name) → i < length names → name ≡ get_or names i name
      → differ_behind seen (drop i names) ≡ (not (is_among seen name) && differ_behind (seen ++ name ∷ []) (drop (i + 1) names))
  at_index seen i name below at = ap (differ_behind seen) (drop_more names i name below ∙ ap (λ (n : Name). n ∷ drop (i + 1) names) (sym at))

  pub differ_goes : (seen : List Name) (i : ℕ) (name : Name) → i < length names → name ≡ get_or names i name → is_among seen name ≡ false
      → differ_behind seen (drop i names) ≡ whole → differ_behind (seen ++ name ∷ []) (drop (i + 1) names) ≡ whole
  differ_goes seen i name below at new so_far =
      sym (ap (λ b. not b && differ_behind (seen ++ name ∷ []) (drop (i + 1) names)) new) ∙ sym (at_index seen i name below at) ∙ so_far

  pub differ_stops : (seen : List Name) (i : ℕ) (name : Name) → i < length names → name ≡ get_or names i name → is_among seen name ≡ true
      → differ_behind seen (drop i names) ≡ whole → false ≡ whole
  differ_stops seen i name below at there so_far =
      sym (ap (λ b. not b && differ_behind (seen ++ name ∷ []) (drop (i + 1) names)) there) ∙ sym (at_index seen i name below at) ∙ so_far

  pub differ_ends : (seen : List Name) (i : ℕ) → length names ≤ i → differ_behind seen (drop i names) ≡ whole → true ≡ whole
  differ_ends seen i end so_far = sym (ap (differ_behind seen) (drop_of_length-le names end)) ∙ so_far
