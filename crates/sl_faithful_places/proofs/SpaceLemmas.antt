-- The default space of a text that keeps the rules.
use Rattle.std.proofs.Common.{◌≡◌, ◌+◌, ◌<◌, Bool, true, false, cond, ◌||◌, List, [], ◌∷◌, length, Option, Some, None, Ok, refl, arith}
use Rattle.std.specs.Prelude.{not}
use Rattle.std.specs.List.{list_any, position_or_len}
use Rattle.sl_ast.specs.Trees.{Item}
use Rattle.sl_bind.proofs.BoundLemmas.{is_whole}
use Rattle.sl_bind.specs.Verdict.{taken}
use Rattle.sl_faithful_places.proofs.ListLemmas.{position_below}
use Rattle.sl_faithful_places.specs.Laws.{TakenHaveSpaces}
use Rattle.sl_spec.specs.Tables.{Space}
use Rattle.sl_spec.specs.declared.tables.Tables.{Tables}
use Rattle.sl_spec_tables.specs.TableRules.{broken_at, fault_or, has_default, late_fault}
use Rattle.sl_spec_tables.specs.declared.faults.LateFault.{LateFault}
use Rattle.sl_spec_tables.specs.declared.faults.Place.TheVariants.{End}

-- the first that passes a test is there, where one passes
first_by : {X : Type 0} (test : X → Bool) (x : X) (xs : List X) (b : Bool) → (b || list_any test xs) ≡ true
    → (list_any test xs ≡ true → position_or_len test xs < length xs)
    → cond (not b) (1 + position_or_len test xs) 0 < length (x ∷ xs)
first_by test x xs true any rest = omega arith
first_by test x xs false any rest = omega (arith, rest any)

first_within : {X : Type 0} (test : X → Bool) (xs : List X) → list_any test xs ≡ true
    → position_or_len test xs < length xs
first_within test [] any = absurd (cc)
first_within test (x ∷ xs) any = first_by test x xs (test x) any (first_within test xs)

kept_rule : (holds : Bool) (other : Option LateFault) → fault_or 32 (broken_at holds (Some End)) other ≡ None
    → holds ≡ true
kept_rule true other is = refl
kept_rule false other is = absurd (let e : ⊥ = cc in e)

some_default : (items : List Item) (t : Tables) → taken items ≡ Ok t
    → list_any (λ (s : Space). s.default) t.spaces ≡ true
unfolding late_fault has_default
some_default items t is = kept_rule (has_default t) _ (is_whole items t is).none

pub taken_have_spaces : TakenHaveSpaces
taken_have_spaces items t is =
    let within = first_within (λ (s : Space). s.default) t.spaces (some_default items t is) in
    record {
      index = position_or_len (λ (s : Space). s.default) t.spaces;
      is = position_below (λ (s : Space). s.default) t.spaces within;
      within = within;
    }
