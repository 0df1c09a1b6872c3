-- Constructors in turn: what is known at one of them tells what becomes of all.
use Rattle.std.proofs.Common.{◌≡◌, ℕ, suc, ◌+◌, ◌<◌, ◌≤◌, List, [], ◌∷◌, ◌++◌, Option, length, drop, get_or, refl, sym, ap, ◌∙◌, subst, append_assoc, append-nil, arith}
use Rattle.std.proofs.lemmas.List.{drop_more}
use Rattle.std.proofs.Math.ListN.{drop_of_length-le}
use Rattle.sl_word.specs.declared.word.Size.{Size}
use Rattle.sl_section_sizes.specs.Sizings as z
use Rattle.sl_section_sizes.specs.Constructors.{Constructor}
use Rattle.sl_section_sizes.specs.declared.stop.Stop.{Stop}
use Rattle.sl_section_sizes.specs.declared.stop.Stop.TheVariants as p

module _ (address : Option ℕ → ℕ) (start : List (Option ℕ)) (cs : List Constructor) where
  -- What becomes of the constructors from number i on tells what becomes of all.
  pub record IsRun (now : List (Option ℕ)) (done : List (List Size)) (i : ℕ) : Type 0 where
    pub goes : (more : List (List Size)) (last : List (Option ℕ)) → z.AreSized address now (drop i cs) more last
        → z.AreSized address start cs (done ++ more) last
    pub stops : (j : ℕ) (stop : Stop) → z.FirstStop address now (drop i cs) j stop → z.FirstStop address start cs (i + j) stop

  pub run_begins : IsRun start [] 0
  run_begins = record { goes = λ more last h. h; stops = λ j stop h. subst (λ (k : ℕ). z.FirstStop address start cs k stop) (let e : j ≡ 0 + j = omega arith in e) h }

  pub run_goes : (now next : List (Option ℕ)) (done : List (List Size)) (i : ℕ) (c : Constructor) (sizes : List Size)
      → i < length cs → c ≡ get_or cs i c → z.IsSized address now c sizes → next ≡ z.after address now c sizes
      → IsRun now done i → IsRun next (done ++ sizes ∷ []) (i + 1)
  run_goes now next done i c sizes below at sized is run =
      let rest : drop i cs ≡ c ∷ drop (i + 1) cs = drop_more cs i c below ∙ ap (λ (d : Constructor). d ∷ drop (i + 1) cs) (sym at) in
      record {
        goes = λ more last h.
            let here : z.AreSized address now (c ∷ drop (i + 1) cs) (sizes ∷ more) last =
            (sized, subst (λ (e : List (Option ℕ)). z.AreSized address e (drop (i + 1) cs) more last) is h) in
            subst (λ (l : List (List Size)). z.AreSized address start cs l last) (sym (append_assoc done (sizes ∷ []) more))
            (run.goes (sizes ∷ more) last (subst (λ (l : List Constructor). z.AreSized address now l (sizes ∷ more) last) (sym rest) here));
        stops = λ j stop h.
            let here : z.FirstStop address now (c ∷ drop (i + 1) cs) (suc j) stop =
            (sizes, sized, subst (λ (e : List (Option ℕ)). z.FirstStop address e (drop (i + 1) cs) j stop) is h) in
            let moved : i + suc j ≡ i + 1 + j = omega arith in
            subst (λ (k : ℕ). z.FirstStop address start cs k stop) moved
            (run.stops (suc j) stop (subst (λ (l : List Constructor). z.FirstStop address now l (suc j) stop) (sym rest) here));
      }

  pub run_stops : (now : List (Option ℕ)) (done : List (List Size)) (i : ℕ) (c : Constructor) (stop : Stop)
      → i < length cs → c ≡ get_or cs i c → z.StopsAt address now c stop → IsRun now done i → z.FirstStop address start cs i stop
  run_stops now done i c stop below at h run =
      let rest : drop i cs ≡ c ∷ drop (i + 1) cs = drop_more cs i c below ∙ ap (λ (d : Constructor). d ∷ drop (i + 1) cs) (sym at) in
      let none : i + 0 ≡ i = omega arith in
      subst (λ (k : ℕ). z.FirstStop address start cs k stop) none
      (run.stops 0 stop (subst (λ (l : List Constructor). z.FirstStop address now l 0 stop) (sym rest) h))

  pub run_ends : (now : List (Option ℕ)) (done : List (List Size)) (i : ℕ) → length cs ≤ i → IsRun now done i
      → z.AreSized address start cs done now
  run_ends now done i end run =
      subst (λ (l : List (List Size)). z.AreSized address start cs l now) (append-nil done)
      (run.goes [] now (subst (λ (l : List Constructor). z.AreSized address now l [] now) (sym (drop_of_length-le cs end)) refl))

  -- the error of a stop
  pub error_of : (i : ℕ) (stop : Stop) → z.FirstStop address start cs i stop → z.IsError address start cs (z.error_at i stop)
  error_of i (p.Sizes e) h = h
  error_of i p.Rule h = h
  error_of i p.NoMemory h = tt
