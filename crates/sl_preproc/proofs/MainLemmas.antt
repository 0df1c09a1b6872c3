-- The expansion of the main file, and the names that it asks for.
use Rattle.std.proofs.Common.{◌≡◌, ℕ, List, [], ◌∷◌, ◌++◌, Option, Some, None, Result, Ok, Err, refl, sym, ap, subst, ◌∙◌}
use Rattle.std.proofs.Common.{inl, inr}
use Rattle.sl_outside.specs.Folder.{Folder}
use Rattle.sl_outside.specs.Uses.{Names, UsesFiles}
use Rattle.sl_preproc_directives.specs.Outcomes.{◌>>◌}
use Rattle.sl_preproc.specs.Readings.{Refusal, Reading, asked_before, going_on}
use Rattle.sl_preproc.specs.Expansion.{Work, expand_file, checked, fetched, included, nothing_yet, expansion}
use Rattle.sl_preproc.specs.Expanded.{Text, text_of, expanded, asked_by}
use Rattle.sl_preproc.specs.Asks.{AsksFor}
use Rattle.sl_preproc.specs.Reads.{Reads}
use Rattle.sl_preproc.specs.Refusals.{RefusesAs}
use Rattle.sl_preproc.specs.Folders.{WhereTold}
use Rattle.sl_preproc.specs.Stops.{StopsEarly, IsReadFault}
use Rattle.sl_preproc.specs.declared.error.PreError.{PreError}
use Rattle.sl_preproc.specs.declared.error.PreError.TheVariants.{NoFile, TooLong, IncludeDepth, UndefinedName, ReplaceDepth, BadDirective, Unbalanced, ReadFault, NoMemory}
use Rattle.sl_preproc.proofs.AskLemmas.{uses_nothing, uses_then, uses_front, uses_same}
use Rattle.sl_preproc.proofs.ReadLemmas.{stop_kind, refuses_along}

-- ---- the text

along : {A B : Type 0} (e : PreError) (f : A → Result B Refusal) (defined : Result A Refusal) → RefusesAs e defined → RefusesAs e (defined >> f)
along (NoFile file line) f defined h = ap (λ d. d >> f) h
along (TooLong file line) f defined h = ap (λ d. d >> f) h
along (IncludeDepth file line) f defined h = ap (λ d. d >> f) h
along (UndefinedName file line) f defined h = ap (λ d. d >> f) h
along (ReplaceDepth file line) f defined h = ap (λ d. d >> f) h
along (BadDirective file line) f defined h = ap (λ d. d >> f) h
along (Unbalanced file line) f defined h = ap (λ d. d >> f) h
along ReadFault f defined h = tt
along NoMemory f defined h = tt

module _ (folder : Folder) (main : List ℕ) where
  text_fails : (e : PreError) → RefusesAs e (expansion folder main).result → RefusesAs e (expanded folder main)
  text_fails e h = along e (λ (work : Work). Ok (text_of work)) (expansion folder main).result h

  pub main_fails : (e : PreError) → RefusesAs e (checked main 0 (folder main)) → RefusesAs e (expanded folder main)
  unfolding expansion
  main_fails e h = text_fails e (refuses_along e _ (fetched folder main main 0) h)

  pub main_lines : (bytes s : List ℕ) (work : Work) → checked main 0 (folder main) ≡ Ok bytes → s ≡ bytes → work ≡ nothing_yet main
      → expansion folder main ≡ asked_before (main ∷ []) (expand_file (included 15 folder main) main s work)
  unfolding expansion
  main_lines bytes s work found same begun =
      ap (λ (r : Result (List ℕ) Refusal). going_on (main ∷ []) r (λ b. expand_file (included 15 folder main) main b (nothing_yet main))) found
      ∙ sym (ap (λ (x : List ℕ). asked_before (main ∷ []) (expand_file (included 15 folder main) main x work)) same
      ∙ ap (λ (w : Work). asked_before (main ∷ []) (expand_file (included 15 folder main) main bytes w)) begun)

  pub lines_fail : (e : PreError) (r : Reading Work) → expansion folder main ≡ asked_before (main ∷ []) r → RefusesAs e r.result → RefusesAs e (expanded folder main)
  lines_fail e r same h = text_fails e (subst (λ (q : Reading Work). RefusesAs e q.result) (sym same) h)

  pub main_text : (r : Reading Work) (work : Work) (text : Text) → expansion folder main ≡ asked_before (main ∷ []) r → r.result ≡ Ok work → text ≡ text_of work
      → expanded folder main ≡ Ok text
  main_text r work text same h e =
      ap (λ (q : Reading Work). q.result >> λ w. Ok (text_of w)) same
      ∙ ap (λ (q : Result Work Refusal). q >> λ w. Ok (text_of w)) h
      ∙ ap (λ (t : Text). let q : Result Text Refusal = Ok t in q) (sym e)

-- ---- the names

asked_from : {A B : Type 0} (main : List ℕ) (r : Result A Refusal) (f : A → Reading B) → (others : List (List ℕ)) × ((going_on (main ∷ []) r f).asked ≡ main ∷ others)
asked_from main (Ok x) f = ((f x).asked, refl)
asked_from main (Err e) f = ([], refl)

-- the main file is asked for first
pub asked_first : (folder : Folder) (main : List ℕ) → (others : List (List ℕ)) × (asked_by folder main ≡ main ∷ others)
unfolding expansion
asked_first folder main = asked_from main (checked main 0 (folder main)) (λ bytes. expand_file (included 15 folder main) main bytes (nothing_yet main))

asked_alone : (folder : Folder) (main : List ℕ) (e : Refusal) → checked main 0 (folder main) ≡ Err e → main ∷ [] ≡ asked_by folder main
unfolding expansion
asked_alone folder main e h =
    sym (ap (λ (r : Result (List ℕ) Refusal). (going_on (main ∷ []) r (λ bytes. expand_file (included 15 folder main) main bytes (nothing_yet main))).asked) h)

some_same : (a b : Folder) → ◌≡◌ {A = Option Folder} (Some a) (Some b) → a ≡ b
some_same a b h = cc

-- there are names that are due
main_names : (t : Option Folder) (main : List ℕ) → (names : List (List ℕ)) × AsksFor t main names
main_names None main = (main ∷ [], record { others = []; first = refl; defined = λ folder h. absurd (cc) })
main_names (Some folder) main =
    let first = asked_first folder main in
    (asked_by folder main, record { others = first.0; first = first.1; defined = λ other h. ap (λ (f : Folder). asked_by f main) (some_same folder other h) })

module _ {F : Type 0} (told : F → Option Folder) (faults : F → ℕ) (asked : F → Names) (main : List ℕ) where
  abbrev pub Asked : F → F → Type 0 → Type 0 → Type 0
  Asked old new early fails = (names : List (List ℕ)) × AsksFor (told old) main names × UsesFiles told faults asked old new names early fails

  -- memory ran out first
  pub asked_memory : (old : F) → Asked old old (StopsEarly NoMemory) (IsReadFault NoMemory)
  asked_memory old =
      let due = main_names (told old) main in
      (due.0, due.1, uses_front told faults asked old old [] due.0 _ _ _ _ tt (λ f. f) (uses_nothing told faults asked old (StopsEarly NoMemory) (IsReadFault NoMemory) (λ f. f)))

  -- the main file isn't handed out
  pub asked_main : (old new : F) (e : PreError) → WhereTold (told old) (λ folder. RefusesAs e (checked main 0 (folder main)))
      → UsesFiles told faults asked old new (main ∷ []) (StopsEarly e) (IsReadFault e) → Asked old new (StopsEarly e) (IsReadFault e)
  asked_main old new e h u = elim (stop_kind {A = List ℕ} e) [
    | inl early ↦
        (let due = main_names (told old) main in (
          due.0,
          due.1,
          uses_same told faults asked old new ((main ∷ []) ++ due.1.others) due.0 _ _ (sym due.1.first)
              (uses_front told faults asked old new (main ∷ []) due.1.others _ _ _ _ early (λ f. f) u),
        ))
    | inr refused ↦ (
      main ∷ [],
      record {
        others = [];
        first = refl;
        defined = λ folder k. (let d = refused (checked main 0 (folder main)) (h folder k) in asked_alone folder main d.0 d.1);
      },
      u,
    )
  ]

  -- its lines are expanded
  pub asked_lines : {X : Type 0} (old mid new : F) (rest : Folder → Reading Work) (v : X → Work) (r : Result X PreError) (early fails stops breaks : Type 0)
      → UsesFiles told faults asked old mid (main ∷ []) early fails → (early → ⊥)
      → WhereTold (told old) (λ folder. expansion folder main ≡ asked_before (main ∷ []) (rest folder)) → (u : Reads told faults asked mid new rest v r)
      → UsesFiles told faults asked mid new u.names stops breaks → Asked old new stops breaks
  asked_lines old mid new rest v r early fails stops breaks u goes same s q = (
    main ∷ s.names,
    record {
      others = s.names;
      first = refl;
      defined = λ folder h.
          ap (λ (l : List (List ℕ)). main ∷ l) (s.due folder (u.same_folder ∙ h)) ∙ sym (ap (λ (w : Reading Work). w.asked) (same folder h));
    },
    uses_then told faults asked old mid new (main ∷ []) s.names _ _ _ _ goes u q,
  )
