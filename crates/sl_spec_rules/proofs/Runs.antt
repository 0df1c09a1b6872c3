-- Steps over a list, as a loop takes them.
use Rattle.std.proofs.Common.{◌≡◌, ℕ, ◌+◌, ◌<◌, ◌≤◌, List, [], ◌∷◌, length, get_or, drop, Result, Ok, Err, refl, sym, ap, ◌∙◌}
use Rattle.std.proofs.lemmas.List.{drop_more}
use Rattle.std.proofs.Math.ListN.{drop_of_length-le}
use Rattle.sl_spec_rules.specs.Demands.{Fails, run}
use Rattle.sl_spec_rules.specs.declared.fault.Fault.{Fault}
use Rattle.sl_spec_rules.specs.declared.fault.Fault.TheVariants.{Rule, NoMemory}

module _ {S X E : Type 0} (step : S → X → Result S E) (start : S) (xs : List X) where
  -- what is there behind i of them, and the rest of the steps, is what all come to
  abbrev pub IsRun : S → ℕ → Type 0
  IsRun now i = run step now (drop i xs) ≡ run step start xs

  pub run_begins : IsRun start 0
  run_begins = refl

  pub run_goes : (now next : S) (i : ℕ) (x : X) → i < length xs → x ≡ get_or xs i x → step now x ≡ Ok next → IsRun now i → IsRun next (i + 1)
  unfolding run
  run_goes now next i x below at is so_far =
      let rest : drop i xs ≡ x ∷ drop (i + 1) xs = drop_more xs i x below ∙ ap (λ (z : X). z ∷ drop (i + 1) xs) (sym at) in
      let here : run step now (drop i xs) ≡ run step next (drop (i + 1) xs) = rw (rest, is) refl in
      sym here ∙ so_far

  pub run_fails : (e : E) (now : S) (i : ℕ) (x : X) → i < length xs → x ≡ get_or xs i x → step now x ≡ Err e → IsRun now i → run step start xs ≡ Err e
  unfolding run
  run_fails e now i x below at fails so_far =
      let rest : drop i xs ≡ x ∷ drop (i + 1) xs = drop_more xs i x below ∙ ap (λ (z : X). z ∷ drop (i + 1) xs) (sym at) in
      let here : run step now (drop i xs) ≡ Err e = rw (rest, fails) refl in
      sym so_far ∙ here

  pub run_ends : (now : S) (i : ℕ) → length xs ≤ i → IsRun now i → run step start xs ≡ Ok now
  unfolding run
  run_ends now i end so_far =
      let none : drop i xs ≡ [] = drop_of_length-le xs end in
      let here : run step now (drop i xs) ≡ Ok now = rw none refl in
      sym so_far ∙ here

module _ {S X : Type 0} (step : S → X → Result S ℕ) (start : S) (xs : List X) where
  pub run_stops : (e : Fault) (now : S) (i : ℕ) (x : X) → i < length xs → x ≡ get_or xs i x → Fails e (step now x) → IsRun step start xs now i → Fails e (run step start xs)
  run_stops NoMemory now i x below at fails so_far = tt
  run_stops (Rule n) now i x below at fails so_far = run_fails step start xs n now i x below at fails so_far
