-- Plans of constructors, one behind the other.
use Rattle.std.proofs.Common.{◌≡◌, ℕ, zero, suc, ◌<◌, ◌≤◌, ◌+◌, List, [], ◌∷◌, ◌++◌, length, drop}
use Rattle.std.proofs.Common.{get_or, drop-cons, add-one, map, Option, None, Some}
use Rattle.std.proofs.Common.{slice_get, refl, sym, ap, ◌∙◌, append-nil, append_assoc}
use Rattle.std.proofs.Math.ListN.{drop_of_length-le}
use Rattle.std.proofs.lemmas.List.{map_push}
use Rattle.std.proofs.lemmas.Option.{get_or_from_slice_get, slice_get-map, slice_get_within}
use Rattle.sl_ast.specs.Trees.{Constructor}
use Rattle.sl_ast.specs.Unfolding.{Placed, written}
use Rattle.sl_decode_meaning.specs.Meanings.{Meaning, said, said_by, says}
use Rattle.sl_decode_plan.specs.Plans.{done, done_by}
use Rattle.sl_decode_plan.specs.declared.plans.Plan.{Plan}
use Rattle.sl_spec.specs.Tables.{Ctor}
use Rattle.sl_spec.specs.Unfolded.{all_placed, placed}
use Rattle.sl_spec.specs.declared.tables.Tables.{Tables}
use Rattle.sl_spec.specs.declared.unfolded.Unfolded.{Unfolded}

-- what constructors say, in order
abbrev pub all_said : Tables → List Ctor → List (Placed Constructor) → List Meaning
all_said t [] us = []
all_said t (c ∷ cs) [] = []
all_said t (c ∷ cs) (u ∷ us) = said t c.operands u.1.pattern (written u.1.actions) ∷ all_said t cs us

by_none : (t : Tables) (c : Option Ctor) → ◌≡◌ {A = Option Meaning} None (said_by t c None)
by_none t None = refl
by_none t (Some c) = refl

said_at : (t : Tables) (cs : List Ctor) (us : List (Placed Constructor)) (number : ℕ)
    → slice_get (all_said t cs us) number ≡ said_by t (slice_get cs number) (slice_get us number)
said_at t [] us zero = refl
said_at t [] us (suc n) = refl
said_at t (c ∷ cs) [] zero = refl
said_at t (c ∷ cs) [] (suc n) = by_none t (slice_get cs n)
said_at t (c ∷ cs) (u ∷ us) zero = refl
said_at t (c ∷ cs) (u ∷ us) (suc n) = said_at t cs us n

none_said : (t : Tables) (cs : List Ctor) → all_said t cs [] ≡ []
none_said t [] = refl
none_said t (c ∷ cs) = refl

drop_none : {X : Type 0} (xs : List X) (i : ℕ) → slice_get xs i ≡ None → drop i xs ≡ []
drop_none [] zero h = refl
drop_none [] (suc i) h = refl
drop_none (x ∷ xs) zero h = cc
drop_none (x ∷ xs) (suc i) h = drop_none xs i h

module _ (t : Tables) (cs : List Ctor) (us : List Unfolded) (i : ℕ) (made : List Plan) where
  -- The plans that are made do what the first constructors say.
  abbrev pub AreFirst : Type 0
  AreFirst = map (done t) made ++ all_said t (drop i cs) (all_placed (drop i us))
      ≡ all_said t cs (all_placed us)

  pub all_made : cs ≡ t.constructors → AreFirst → all_said t (drop i cs) (all_placed (drop i us)) ≡ []
      → (number : ℕ) → done_by t made number ≡ says t (all_placed us) number
  all_made are first none number =
      let same : map (done t) made ≡ all_said t cs (all_placed us) =
      sym (append-nil (map (done t) made)) ∙ sym (ap (λ l. map (done t) made ++ l) none) ∙ first in
      sym (slice_get-map (done t) made number) ∙ ap (λ l. slice_get l number) same
      ∙ said_at t cs (all_placed us) number
      ∙ ap (λ l. said_by t (slice_get l number) (slice_get (all_placed us) number)) are

  pub plan_next : (c : Ctor) (u : Unfolded) (p : Plan) (more : List Plan)
      → slice_get cs i ≡ Some c → i < length us → u ≡ get_or us i u → more ≡ made ++ p ∷ []
      → done t p ≡ said t c.operands (placed u).1.pattern (written (placed u).1.actions)
      → AreFirst → map (done t) more ++ all_said t (drop (i + 1) cs) (all_placed (drop (i + 1) us))
      ≡ all_said t cs (all_placed us)
  plan_next c u p more there within is e does first =
      let rest = all_said t (drop (i + 1) cs) (all_placed (drop (i + 1) us)) in
      let cut : drop i us ≡ u ∷ drop (i + 1) us =
      rw add-one (drop-cons us i u within) ∙ ap (λ x. x ∷ drop (i + 1) us) (sym is) in
      let cut_one : drop i cs ≡ c ∷ drop (i + 1) cs =
      rw add-one (drop-cons cs i c (slice_get_within cs i c there))
      ∙ ap (λ x. x ∷ drop (i + 1) cs) (get_or_from_slice_get cs i c c there) in
      ap (λ l. map (done t) l ++ rest) e
      ∙ ap (λ l. l ++ rest) (map_push (done t) made p)
      ∙ append_assoc (map (done t) made) (done t p ∷ []) rest
      ∙ ap (λ m. map (done t) made ++ (m ∷ rest)) does
      ∙ sym (ap (λ l. map (done t) made ++ all_said t l (placed u ∷ all_placed (drop (i + 1) us))) cut_one)
      ∙ sym (ap (λ l. map (done t) made ++ all_said t (drop i cs) (all_placed l)) cut)
      ∙ first

  pub out_of_constructors : slice_get cs i ≡ None → all_said t (drop i cs) (all_placed (drop i us)) ≡ []
  out_of_constructors none =
      ap (λ l. all_said t l (all_placed (drop i us))) (drop_none cs i none)

  pub out_of_written : length us ≤ i → all_said t (drop i cs) (all_placed (drop i us)) ≡ []
  out_of_written end =
      ap (λ l. all_said t (drop i cs) (all_placed l)) (drop_of_length-le us end)
      ∙ none_said t (drop i cs)
