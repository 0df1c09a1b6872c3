-- What holds of what is there and of the members that were taken, step by step.
use Rattle.std.proofs.Common.{◌≡◌, List, [], ◌∷◌, ◌++◌, Result, Ok, Err, refl, sym, subst, ◌∙◌, append_assoc, append-nil}
use Rattle.sl_spec_rules.specs.Demands.{◌>>=◌, run}

module _ {S X E : Type 0} (step : S → X → Result S E) (whole : List X) (Holds : List X → S → Type 0) where
  -- One step more keeps it.
  abbrev pub Keeps : Type 0
  Keeps = (done rest : List X) (x : X) (s t : S) → whole ≡ done ++ x ∷ rest → step s x ≡ Ok t → Holds done s → Holds (done ++ x ∷ []) t

  kept_by : (done rest : List X) (x : X) (s last : S) (r : Result S E) → step s x ≡ r → Keeps → ((t : S) → run step t rest ≡ Ok last → Holds (done ++ x ∷ []) t → Holds whole last)
      → whole ≡ done ++ x ∷ rest → (r >>= λ t. run step t rest) ≡ Ok last → Holds done s → Holds whole last
  kept_by done rest x s last (Ok t) is keeps later are taken holds = later t taken (keeps done rest x s t are is holds)
  kept_by done rest x s last (Err e) is keeps later are taken holds = absurd (cc)

  -- so all steps do
  pub kept : Keeps → (done rest : List X) (s last : S) → whole ≡ done ++ rest → run step s rest ≡ Ok last → Holds done s → Holds whole last
  unfolding run
  kept keeps done [] s last are taken holds =
      let e : s ≡ last = cc in
      subst (Holds whole) e (subst (λ (l : List X). Holds l s) (sym (append-nil done) ∙ sym are) holds)
  kept keeps done (x ∷ rest) s last are taken holds =
      kept_by done rest x s last (step s x) refl keeps (λ t later so. kept keeps (done ++ x ∷ []) rest t last (are ∙ sym (append_assoc done (x ∷ []) rest)) later so) are taken holds
