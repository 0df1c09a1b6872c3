-- Parameters with their arguments, as a loop goes over both up to the end of the shorter list.
use Rattle.std.proofs.Common.{◌≡◌, ℕ, ◌≤◌, min, Bool, true, List, [], ◌∷◌, length, drop, refl, sym, ap, ◌∙◌, ⊎_elim, arith}
use Rattle.std.proofs.lemmas.Bool.{cases_lt}
use Rattle.std.proofs.Math.ListN.{drop_of_length-le}
use Rattle.sl_ast.specs.Views.{expressions_of}
use Rattle.sl_ast.specs.declared.expressions.Expr.{Expr}
use Rattle.sl_spec_rules.specs.Names.{Name}
use Rattle.sl_section_rules.specs.Macros.{with_passed}
use Rattle.sl_section_rules.specs.SectionRules.{passes_places}
use Rattle.sl_section_rules.specs.declared.scopes.Scope.{Scope}
use Rattle.sl_spec.specs.declared.tables.Tables.{Tables}

module _ (as' : List Bool) (es : List Expr) (i : ℕ) (end : min (length as') (length es) ≤ i) where
  -- one of the two lists is at its end
  at_end : {C : Type 0} (f : List Bool → List Expr → C) (c : C) → ((l : List Expr) → f [] l ≡ c) → ((l : List Bool) → f l [] ≡ c) → f (drop i as') (drop i es) ≡ c
  at_end f c first second =
      ⊎_elim (λ below. let past : length es ≤ i = omega arith in ap (f (drop i as')) (drop_of_length-le es past) ∙ second (drop i as'))
      (λ past. ap (λ (l : List Bool). f l (drop i es)) (drop_of_length-le as' past) ∙ first (drop i es)) (cases_lt i (length as'))

  module _ (t : Tables) (scope : Scope) where
    none_given : (l : List Bool) → passes_places t scope l [] ≡ true
    none_given [] = refl
    none_given (a ∷ l) = refl

    pub passes_ends : (whole : Bool) → passes_places t scope (drop i as') (expressions_of (drop i es)) ≡ whole → true ≡ whole
    passes_ends whole so_far = sym (at_end (λ xs ys. passes_places t scope xs (expressions_of ys)) true (λ l. refl) none_given) ∙ so_far

  module _ (names : List Name) where
    nothing_passed : (l : List Bool) → with_passed names l [] ≡ names
    nothing_passed [] = refl
    nothing_passed (a ∷ l) = refl

    pub passed_ends : (whole : List Name) → with_passed names (drop i as') (expressions_of (drop i es)) ≡ whole → names ≡ whole
    passed_ends whole so_far = sym (at_end (λ xs ys. with_passed names xs (expressions_of ys)) names (λ l. refl) nothing_passed) ∙ so_far
