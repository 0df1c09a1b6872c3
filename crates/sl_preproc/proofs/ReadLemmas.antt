-- Calls that follow a reading, one after another.
use Rattle.std.proofs.Common.{◌≡◌, ℕ, List, [], ◌∷◌, ◌++◌, Option, Some, None, Result, Ok, Err, refl, sym, ap, subst, ◌∙◌, append_assoc, append-nil}
use Rattle.std.proofs.Common.{◌⊎◌, inl, inr}
use Rattle.std.specs.Global.{Vec}
use Rattle.sl_outside.specs.Folder.{Folder}
use Rattle.sl_outside.specs.Uses.{Names, UsesFiles}
use Rattle.sl_preproc_directives.specs.declared.fault.Cause.{Cause}
use Rattle.sl_preproc.specs.Expansion.{checked, fetched}
use Rattle.sl_preproc.specs.Readings.{Refusal, refusal, Reading, pure, refused, asked_before, going_on, ◌>>=◌}
use Rattle.sl_preproc.specs.Refusals.{RefusesAs, Answers}
use Rattle.sl_preproc.specs.Folders.{WhereTold}
use Rattle.sl_preproc.specs.Reads.{Reads, Reached}
use Rattle.sl_preproc.specs.Stops.{StopsEarly, IsReadFault, IsEarly, Fails}
use Rattle.sl_preproc.specs.declared.error.PreError.{PreError}
use Rattle.sl_preproc.specs.declared.error.PreError.TheVariants.{NoFile, TooLong, IncludeDepth, UndefinedName, ReplaceDepth, BadDirective, Unbalanced, ReadFault, NoMemory}
use Rattle.sl_preproc.proofs.AskLemmas.{uses_nothing, uses_then, uses_front, uses_same}

-- ---- readings

binds : {A B : Type 0} (r : Reading A) (f : A → Reading B) (x : A) → r.result ≡ Ok x → (r >>= f) ≡ asked_before r.asked (f x)
binds r f x h = ap (λ (q : Result _ Refusal). going_on r.asked q f) h

ends : {A B : Type 0} (r : Reading A) (f : A → Reading B) (e : Refusal) → r.result ≡ Err e → (r >>= f).asked ≡ r.asked
ends r f e h = ap (λ (q : Result _ Refusal). (going_on r.asked q f).asked) h

more_by : {A B : Type 0} (names : List (List ℕ)) (r : Result A Refusal) (f : A → Reading B) → (others : List (List ℕ)) × ((going_on names r f).asked ≡ names ++ others)
more_by names (Ok x) f = ((f x).asked, refl)
more_by names (Err e) f = ([], sym (append-nil names))

-- what goes on asks for more
more : {A B : Type 0} (r : Reading A) (f : A → Reading B) → (others : List (List ℕ)) × ((r >>= f).asked ≡ r.asked ++ others)
more r f = more_by r.asked r.result f

pub refuses_along : {A B : Type 0} (e : PreError) (f : A → Reading B) (r : Reading A) → RefusesAs e r.result → RefusesAs e (r >>= f).result
refuses_along (NoFile file line) f r h = ap (λ d. (going_on r.asked d f).result) h
refuses_along (TooLong file line) f r h = ap (λ d. (going_on r.asked d f).result) h
refuses_along (IncludeDepth file line) f r h = ap (λ d. (going_on r.asked d f).result) h
refuses_along (UndefinedName file line) f r h = ap (λ d. (going_on r.asked d f).result) h
refuses_along (ReplaceDepth file line) f r h = ap (λ d. (going_on r.asked d f).result) h
refuses_along (BadDirective file line) f r h = ap (λ d. (going_on r.asked d f).result) h
refuses_along (Unbalanced file line) f r h = ap (λ d. (going_on r.asked d f).result) h
refuses_along ReadFault f r h = tt
refuses_along NoMemory f r h = tt

-- an error stops early, or it is the refusal that is defined
pub stop_kind : {A : Type 0} (e : PreError) → StopsEarly e ⊎ ((d : Result A Refusal) → RefusesAs e d → (r : Refusal) × (d ≡ Err r))
stop_kind (NoFile file line) = inr (λ d h. (_, h))
stop_kind (TooLong file line) = inr (λ d h. (_, h))
stop_kind (IncludeDepth file line) = inr (λ d h. (_, h))
stop_kind (UndefinedName file line) = inr (λ d h. (_, h))
stop_kind (ReplaceDepth file line) = inr (λ d h. (_, h))
stop_kind (BadDirective file line) = inr (λ d h. (_, h))
stop_kind (Unbalanced file line) = inr (λ d h. (_, h))
stop_kind ReadFault = inl tt
stop_kind NoMemory = inl tt

some_same : (a b : Folder) → ◌≡◌ {A = Option Folder} (Some a) (Some b) → a ≡ b
some_same a b h = cc

-- some names with a property: those of the folder, where it is told
choose : (t : Option Folder) (P : Folder → List (List ℕ)) (Q : List (List ℕ) → Type 0) (xs : List (List ℕ)) → Q xs → ((folder : Folder) → t ≡ Some folder → Q (P folder))
    → (names : List (List ℕ)) × (WhereTold t (λ folder. names ≡ P folder)) × Q names
choose None P Q xs q g = (xs, λ folder h. absurd (cc), q)
choose (Some folder) P Q xs q g = (P folder, λ other h. ap P (some_same folder other h), g folder refl)

-- ---- calls

abbrev pub bytes_in : Vec ℕ → List ℕ
bytes_in v = v.items

module _ {F : Type 0} (told : F → Option Folder) (faults : F → ℕ) (asked : F → Names) where
  -- nothing is asked for
  pub reads_nothing : {X Y : Type 0} (old : F) (whole : Folder → Reading Y) (v : X → Y) (r : Result X PreError) → (Fails r → ⊥)
      → ((folder : Folder) → (whole folder).asked ≡ []) → ((folder : Folder) → Answers v r (whole folder).result) → Reads told faults asked old old whole v r
  reads_nothing old whole v r h e a = record {
    names = [];
    due = λ folder _. sym (e folder);
    answers = λ folder _. a folder;
    uses = uses_nothing told faults asked old (IsEarly r) (Fails r) h;
  }

  pub reads_plain : {X Y : Type 0} (old : F) (whole : Folder → Reading Y) (y : Y) (x : X) → ((folder : Folder) → whole folder ≡ pure y)
      → Reads told faults asked old old whole (λ _. y) (Ok x)
  reads_plain old whole y x e =
      reads_nothing old whole (λ _. y) (Ok x) (λ f. f) (λ folder. ap (λ (w : Reading _). w.asked) (e folder)) (λ folder. ap (λ (w : Reading _). w.result) (e folder))

  pub reads_stay : {X Y : Type 0} (old : F) (whole rest : Folder → Reading Y) (v : X → Y) (r : Result X PreError) → (Fails r → ⊥)
      → ((folder : Folder) → whole folder ≡ rest folder) → ((folder : Folder) → (rest folder).asked ≡ []) → ((folder : Folder) → Answers v r (rest folder).result)
      → Reads told faults asked old old whole v r
  reads_stay old whole rest v r h e a k =
      reads_nothing old whole v r h (λ folder. ap (λ (w : Reading _). w.asked) (e folder) ∙ a folder)
      (λ folder. subst (λ (w : Reading _). Answers v r w.result) (sym (e folder)) (k folder))

  pub reads_refused : {X Y : Type 0} (old : F) (whole : Folder → Reading Y) (v : X → Y) (e : PreError) (cause : Cause) (file : List ℕ) (line : ℕ)
      → ((folder : Folder) → whole folder ≡ refused cause file line) → (IsReadFault e → ⊥) → RefusesAs {Y = Refusal} e (Err (refusal cause file line))
      → Reads told faults asked old old whole v (Err e)
  reads_refused {Y = Y} old whole v e cause file line same h r =
      reads_stay old whole (λ _. refused cause file line) v (Err e) h same (λ _. refl)
      (λ _. refuses_along e (λ (x : Refusal). refused {X = Y} cause file line) (refused {X = Refusal} cause file line) r)

  -- a file is asked for
  pub reads_fetched : (old new : F) (name from : List ℕ) (line : ℕ) (r : Result (Vec ℕ) PreError)
      → WhereTold (told old) (λ folder. Answers bytes_in r (checked from line (folder name))) → UsesFiles told faults asked old new (name ∷ []) (IsEarly r) (Fails r)
      → Reads told faults asked old new (λ folder. fetched folder name from line) bytes_in r
  reads_fetched old new name from line r a u = record { names = name ∷ []; due = λ folder _. refl; answers = a; uses = u }

  -- memory ran out before anything was asked for
  pub reads_memory : {X Y : Type 0} (old : F) (whole : Folder → Reading Y) (v : X → Y) → Reads told faults asked old old whole v (Err NoMemory)
  reads_memory old whole v =
      let Q : List (List ℕ) → Type 0 = λ names. UsesFiles told faults asked old old names (StopsEarly NoMemory) (IsReadFault NoMemory) in
      let from : (names : List (List ℕ)) → Q names =
      λ names. uses_front told faults asked old old [] names _ _ _ _ tt (λ f. f) (uses_nothing told faults asked old (StopsEarly NoMemory) (IsReadFault NoMemory) (λ f. f)) in
      let some = choose (told old) (λ folder. (whole folder).asked) Q [] (from []) (λ folder _. from (whole folder).asked) in
      record { names = some.0; due = some.1; answers = λ folder _. tt; uses = some.2 }

  -- a first part that stops
  pub reads_stop : {X Y X2 Y2 : Type 0} (old new : F) (first : Folder → Reading Y) (v : X → Y) (e : PreError) (f : Folder → Y → Reading Y2) (whole : Folder → Reading Y2) (v2 : X2 → Y2)
      → ((folder : Folder) → whole folder ≡ (first folder >>= f folder)) → Reads told faults asked old new first v (Err e) → Reads told faults asked old new whole v2 (Err e)
  reads_stop {Y = Y} old new first v e f whole v2 same r =
      let Q : List (List ℕ) → Type 0 = λ names. UsesFiles told faults asked old new names (StopsEarly e) (IsReadFault e) in
      let some : (names : List (List ℕ)) × (WhereTold (told old) (λ folder. names ≡ (whole folder).asked)) × Q names = elim (stop_kind {A = Y} e) [
        | inl early ↦ choose (told old) (λ folder. (whole folder).asked) Q r.names r.uses (λ folder h.
            let m = more (first folder) (f folder) in
            uses_same told faults asked old new (r.names ++ m.0) (whole folder).asked _ _
            (ap (λ (l : List (List ℕ)). l ++ m.0) (r.due folder h) ∙ sym m.1 ∙ sym (ap (λ (w : Reading _). w.asked) (same folder)))
            (uses_front told faults asked old new r.names m.0 _ _ _ _ early (λ b. b) r.uses))
        | inr refused ↦ (
          r.names,
          λ folder h.
              (let d = refused (first folder).result (r.answers folder h) in r.due folder h ∙ sym (ends (first folder) (f folder) d.0 d.1) ∙ sym (ap (λ (w : Reading _). w.asked) (same folder))),
          r.uses,
        )
      ] in
      record {
        names = some.0;
        due = some.1;
        answers = λ folder h. subst (λ (w : Reading _). RefusesAs e w.result) (sym (same folder)) (refuses_along e (f folder) (first folder) (r.answers folder h));
        uses = some.2;
      }

  -- a first part that stops and asks for nothing
  pub reads_undone : {X Y Z : Type 0} (old : F) (first : Folder → Reading Y) (e : PreError) (f : Folder → Y → Reading Z) (whole : Folder → Reading Z) (v : X → Z)
      → ((folder : Folder) → whole folder ≡ (first folder >>= f folder)) → (IsReadFault e → ⊥) → ((folder : Folder) → (first folder).asked ≡ [])
      → ((folder : Folder) → RefusesAs e (first folder).result) → Reads told faults asked old old whole v (Err e)
  reads_undone old first e f whole v same h a r = reads_stop old old first (λ y. y) e f whole v same (reads_nothing old first (λ y. y) (Err e) h a r)

  -- what is left is all
  pub reached_none : {Y : Type 0} (old : F) (whole rest : Folder → Reading Y) → ((folder : Folder) → whole folder ≡ rest folder) → Reached told faults asked old old whole rest
  reached_none old whole rest same = record {
    names = [];
    so_far = λ folder _. same folder;
    uses = uses_nothing told faults asked old ⊥ ⊥ (λ f. f);
  }

  -- a part of what is left is done
  pub reached_more : {X Y Z : Type 0} (old mid new : F) (whole rest : Folder → Reading Z) (step : Folder → Reading Y) (v : X → Y) (x : X) (f : Folder → Y → Reading Z)
      → Reached told faults asked old mid whole rest → ((folder : Folder) → rest folder ≡ (step folder >>= f folder)) → Reads told faults asked mid new step v (Ok x)
      → Reached told faults asked old new whole (λ folder. f folder (v x))
  reached_more old mid new whole rest step v x f r same s = record {
    names = r.names ++ s.names;
    so_far = λ folder h.
        let k = r.uses.same_folder ∙ h in
        r.so_far folder h
        ∙ ap (λ (w : Reading _). asked_before r.names w) (same folder ∙ binds (step folder) (f folder) (v x) (s.answers folder k))
        ∙ ap (λ (l : List (List ℕ)). asked_before r.names (asked_before l (f folder (v x)))) (sym (s.due folder k))
        ∙ ap (λ (l : List (List ℕ)). record { asked = l; result = (f folder (v x)).result }) (sym (append_assoc r.names s.names (f folder (v x)).asked));
    uses = uses_then told faults asked old mid new r.names s.names _ _ _ _ (λ b. b) r.uses s.uses;
  }

  -- what is left is followed
  pub reached_reads : {X Y : Type 0} (old mid new : F) (whole rest : Folder → Reading Y) (v : X → Y) (q : Result X PreError)
      → Reached told faults asked old mid whole rest → Reads told faults asked mid new rest v q → Reads told faults asked old new whole v q
  reached_reads old mid new whole rest v q r s = record {
    names = r.names ++ s.names;
    due = λ folder h.
        ap (λ (l : List (List ℕ)). r.names ++ l) (s.due folder (r.uses.same_folder ∙ h)) ∙ sym (ap (λ (w : Reading _). w.asked) (r.so_far folder h));
    answers = λ folder h. subst (λ (w : Reading _). Answers v q w.result) (sym (r.so_far folder h)) (s.answers folder (r.uses.same_folder ∙ h));
    uses = uses_then told faults asked old mid new r.names s.names _ _ _ _ (λ b. b) r.uses s.uses;
  }

  pub reads_same : {X Y : Type 0} (old new : F) (whole rest : Folder → Reading Y) (v : X → Y) (q : Result X PreError)
      → ((folder : Folder) → whole folder ≡ rest folder) → Reads told faults asked old new rest v q → Reads told faults asked old new whole v q
  reads_same old new whole rest v q same s = reached_reads old old new whole rest v q (reached_none old whole rest same) s

  -- what comes of a reading is only seen otherwise
  pub reads_map : {X Y Z : Type 0} (old new : F) (first : Folder → Reading Y) (whole : Folder → Reading Z) (v : X → Y) (g : Y → Z) (r : Result X PreError)
      → ((folder : Folder) → whole folder ≡ (first folder >>= λ y. pure (g y))) → Reads told faults asked old new first v r → Reads told faults asked old new whole (λ x. g (v x)) r
  reads_map old new first whole v g (Ok x) same r =
      reached_reads old new new whole (λ folder. pure (g (v x))) (λ x. g (v x)) (Ok x)
      (reached_more old old new whole whole first v x (λ folder y. pure (g y)) (reached_none old whole whole (λ folder. refl)) same r)
      (reads_nothing new (λ folder. pure (g (v x))) (λ x. g (v x)) (Ok x) (λ f. f) (λ folder. refl) (λ folder. refl))
  reads_map old new first whole v g (Err e) same r = reads_stop old new first v e (λ folder y. pure (g y)) whole (λ x. g (v x)) same r
