-- Each text that a file expands to is sound.
use Rattle.std.proofs.Common.{◌≡◌, ℕ, zero, suc, ◌+◌, Bool, true, false, List, [], ◌∷◌, Option, Some, None, Result, Ok, Err, refl, subst}
use Rattle.std.specs.Prelude.{IfOk, ◌==◌, if◌then◌else◌}
use Rattle.std.specs.List.{AllByRecursion}
use Rattle.sl_preproc_directives.specs.Lines.{lines, on_first_line}
use Rattle.sl_preproc_directives.specs.Outcomes.{◌>>◌}
use Rattle.sl_outside.specs.Folder.{Folder}
use Rattle.sl_preproc.specs.ByLines.{at_end, expand_lines, line_done, line_step}
use Rattle.sl_preproc.specs.Expanded.{Text, expanded, text_of}
use Rattle.sl_preproc.specs.Expansion.{Includer, Work, expand_file, expansion, fetched, if_included, included, nothing_yet, on_line}
use Rattle.sl_preproc.specs.Naming.{joined_name}
use Rattle.sl_preproc.specs.Readings.{Reading, Refusal, going_on, pure, ◌>>=◌}
use Rattle.sl_preproc.specs.Sound.{IsSound}
use Rattle.sl_preproc.specs.Whole.{IsWhole, NoFeed}
use Rattle.sl_preproc.specs.declared.groups.Group.{Group}
use Rattle.sl_preproc.proofs.LineLemmas.{by_lines}
use Rattle.sl_preproc.proofs.SoundLemmas.{is_sound, nothing_whole, read_whole}

-- ---- what comes of readings

any_ok : {A E : Type 0} (r : Result A E) → IfOk r (λ _. Unit {0})
any_ok (Ok x) = tt
any_ok (Err e) = tt

ok_by : {A E : Type 0} (r : Result A E) (P : A → Type 0) → ((x : A) → r ≡ Ok x → P x) → IfOk r P
ok_by (Ok x) P f = f x refl
ok_by (Err e) P f = tt

goes_by : {A B : Type 0} (names : List (List ℕ)) (r : Result A Refusal) (f : A → Reading B) (P : A → Type 0) (Q : B → Type 0)
    → IfOk r P → ((x : A) → P x → IfOk (f x).result Q) → IfOk (going_on names r f).result Q
goes_by names (Ok x) f P Q h k = k x h
goes_by names (Err e) f P Q h k = tt

goes : {A B : Type 0} (r : Reading A) (f : A → Reading B) (P : A → Type 0) (Q : B → Type 0)
    → IfOk r.result P → ((x : A) → P x → IfOk (f x).result Q) → IfOk (r >>= f).result Q
goes r f P Q h k = goes_by r.asked r.result f P Q h k

-- ---- lines

first_free : (b : ℕ) (ls : List (List ℕ)) → (b == 10) ≡ false → AllByRecursion NoFeed ls → AllByRecursion NoFeed (on_first_line b ls)
first_free b [] h k = ((h, tt), tt)
first_free b (line ∷ ls) h k = ((h, k.0), k.1)

free_by : (b : ℕ) (ls : List (List ℕ)) (feed : Bool) → (b == 10) ≡ feed → AllByRecursion NoFeed ls
    → AllByRecursion NoFeed (let all : List (List ℕ) = if feed then [] ∷ ls else on_first_line b ls in all)
free_by b ls true h k = (tt, k)
free_by b ls false h k = first_free b ls h k

lines_free : (s : List ℕ) → AllByRecursion NoFeed (lines s)
lines_free [] = tt
lines_free (b ∷ s) = free_by b (lines s) (b == 10) refl (lines_free s)

-- ---- files

-- What a file that is included adds keeps the work whole.
abbrev KeepsWhole : Includer → Type 0
KeepsWhole includes = (line : ℕ) (file : List ℕ) (work : Work) → IsWhole work → IfOk (includes line file work).result IsWhole

module _ (includes : Includer) (name : List ℕ) (keeps : KeepsWhole includes) where
  step_keeps : (number : ℕ) (line : List ℕ) (gs : List Group) (work : Work) → NoFeed line → IsWhole work
      → IfOk (on_line name number (line_step name number line gs work)).result (λ s. IsWhole s.2)
  step_keeps number line gs work free whole =
      ok_by (on_line name number (line_step name number line gs work)).result (λ s. IsWhole s.2)
      (λ s e. read_whole name number line gs work s.0 s.1 s.2 e free whole)

  include_keeps : (number : ℕ) (o : Option (List ℕ)) (work : Work) → IsWhole work → IfOk (if_included o (includes number) work).result IsWhole
  include_keeps number None work whole = whole
  include_keeps number (Some file) work whole = keeps number file work whole

  line_keeps : (number : ℕ) (line : List ℕ) (gs : List Group) (work : Work) → NoFeed line → IsWhole work
      → IfOk (line_done includes name number line gs work).result (λ s. IsWhole s.1)
  unfolding line_done
  line_keeps number line gs work free whole =
      goes (on_line name number (line_step name number line gs work)) _ (λ s. IsWhole s.2) (λ s. IsWhole s.1) (step_keeps number line gs work free whole)
      (λ s k. goes (if_included s.0 (includes number) s.2) (λ w. pure (s.1, w)) IsWhole (λ s. IsWhole s.1) (include_keeps number s.0 s.2 k) (λ w j. j))

  end_keeps : (gs : List Group) (work : Work) → IsWhole work → IfOk (at_end name gs work).result IsWhole
  end_keeps [] work whole = whole
  end_keeps (g ∷ gs) work whole = tt

  lines_keep : (ls : List (List ℕ)) (number : ℕ) (gs : List Group) (work : Work) → AllByRecursion NoFeed ls → IsWhole work
      → IfOk (expand_lines includes name ls number gs work).result IsWhole
  unfolding expand_lines
  lines_keep [] number gs work free whole = end_keeps gs work whole
  lines_keep (line ∷ ls) number gs work free whole =
      goes (line_done includes name number line gs work) (λ s. expand_lines includes name ls (number + 1) s.0 s.1) (λ s. IsWhole s.1) IsWhole
      (line_keeps number line gs work free.0 whole) (λ s k. lines_keep ls (number + 1) s.0 s.1 free.1 k)

  file_keeps : (bytes : List ℕ) (work : Work) → IsWhole work → IfOk (expand_file includes name bytes work).result IsWhole
  file_keeps bytes work whole =
      subst (λ (r : Reading Work). IfOk r.result IsWhole) (by_lines includes name (lines bytes) work)
      (lines_keep (lines bytes) 1 [] work (lines_free bytes) whole)

included_keep : (left : ℕ) (folder : Folder) (from : List ℕ) → KeepsWhole (included left folder from)
unfolding included
included_keep zero folder from = λ line file work whole. tt
included_keep (suc left) folder from = λ line file work whole.
    let joined : List ℕ = joined_name from file in
    goes (fetched folder joined from line) (λ bytes. expand_file (included left folder joined) joined bytes work) (λ _. Unit {0}) IsWhole
    (any_ok (fetched folder joined from line).result)
    (λ bytes _. file_keeps (included left folder joined) joined (included_keep left folder joined) bytes work whole)

main_keeps : (folder : Folder) (main : List ℕ) → IfOk (expansion folder main).result IsWhole
unfolding expansion
main_keeps folder main =
    goes (fetched folder main main 0) (λ bytes. expand_file (included 15 folder main) main bytes (nothing_yet main)) (λ _. Unit {0}) IsWhole
    (any_ok (fetched folder main main 0).result)
    (λ bytes _. file_keeps (included 15 folder main) main (included_keep 15 folder main) bytes (nothing_yet main) (nothing_whole main))

sound_by : (r : Result Work Refusal) (text : Text) → IfOk r IsWhole → (r >> λ work. Ok (text_of work)) ≡ Ok text → IsSound text
sound_by (Ok work) text whole e = let same : text_of work ≡ text = cc in subst IsSound same (is_sound work whole)
sound_by (Err x) text whole e = absurd (cc)

pub texts_are_sound : (folder : Folder) (main : List ℕ) (text : Text) → expanded folder main ≡ Ok text → IsSound text
texts_are_sound folder main text e = sound_by (expansion folder main).result text (main_keeps folder main) e
