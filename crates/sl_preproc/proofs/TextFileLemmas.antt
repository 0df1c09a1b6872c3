-- Each file that gives a line to a text was asked for.
use Rattle.std.proofs.Common.{◌≡◌, ℕ, zero, suc, Bool, true, false, cond, List, [], ◌∷◌, ◌++◌, length, Option, Some, None, Result, Ok, Err, refl, sym, subst, append_assoc, append-nil}
use Rattle.std.proofs.Common.{inl, inr}
use Rattle.std.specs.Prelude.{IfOk, Contains, nat_lt, ◌||◌, if◌then◌else◌}
use Rattle.std.specs.List.{position_or_len}
use Rattle.std.specs.Str.{bytes_eq}
use Rattle.std.proofs.lemmas.List.Elements.{Contains-append_left, Contains-push, Contains-push_cases}
use Rattle.sl_outside.specs.Folder.{Folder}
use Rattle.sl_preproc_directives.specs.Outcomes.{◌>>◌}
use Rattle.sl_preproc_directives.specs.Lines.{lines}
use Rattle.sl_preproc_directives.specs.Directives.{Directive, Includes, Defines, Undefines, directive_at}
use Rattle.sl_preproc_directives.specs.Parts.{is_ended}
use Rattle.sl_preproc_directives.specs.Replacement.{put, write_text}
use Rattle.sl_preproc_directives.specs.declared.fault.Cause.{Cause}
use Rattle.sl_preproc.specs.Trees.{Line, numbered, words, Tree, End, Text, Alone, Marked, Branches, Branch, Closed, Unclosed, tree_of, first_open}
use Rattle.sl_preproc.specs.Trees as tree
use Rattle.sl_preproc.specs.Naming.{joined_name}
use Rattle.sl_preproc.specs.Readings.{Refusal, Reading, pure, going_on, ◌>>=◌}
use Rattle.sl_preproc.specs.Expansion.{Work, Includer, entered, line_begun, text_line, done_by, on_line, if_included, choice, closing, expand_tree, expand_branches, unless_open, expand_file, fetched, included, nothing_yet, expansion}
use Rattle.sl_preproc.specs.Expanded.{text_of, asked_by}
use Rattle.sl_preproc.specs.Expanded as spec
use Rattle.sl_preproc.specs.Laws.{AsksForFilesOfText}
use Rattle.sl_preproc.proofs.SoundLemmas.{after_ok}

-- ---- readings that keep a fact of the names so far

-- What comes of the reading has the property, with the names that were asked for by then.
abbrev Keeps : {A : Type 0} → List (List ℕ) → Reading A → (List (List ℕ) → A → Type 0) → Type 0
Keeps names r P = IfOk r.result (P (names ++ r.asked))

keeps_by : {A B : Type 0} (names asked : List (List ℕ)) (r : Result A Refusal) (f : A → Reading B) (P : List (List ℕ) → A → Type 0) (Q : List (List ℕ) → B → Type 0)
    → IfOk r (P (names ++ asked)) → ((x : A) (more : List (List ℕ)) → P more x → Keeps more (f x) Q) → Keeps names (going_on asked r f) Q
keeps_by names asked (Ok x) f P Q h k =
    subst (λ (l : List (List ℕ)). IfOk (f x).result (Q l)) (append_assoc names asked (f x).asked) (k x (names ++ asked) h)
keeps_by names asked (Err e) f P Q h k = tt

keeps_then : {A B : Type 0} (names : List (List ℕ)) (r : Reading A) (f : A → Reading B) (P : List (List ℕ) → A → Type 0) (Q : List (List ℕ) → B → Type 0)
    → Keeps names r P → ((x : A) (more : List (List ℕ)) → P more x → Keeps more (f x) Q) → Keeps names (r >>= f) Q
keeps_then names r f P Q h k = keeps_by names r.asked r.result f P Q h k

keeps_pure : {A : Type 0} (names : List (List ℕ)) (x : A) (P : List (List ℕ) → A → Type 0) → P names x → Keeps names (pure x) P
keeps_pure names x P h = subst (λ (l : List (List ℕ)). P l x) (sym (append-nil names)) h

keeps_line : {A : Type 0} (names : List (List ℕ)) (name : List ℕ) (number : ℕ) (r : Result A Cause) (P : List (List ℕ) → A → Type 0) → IfOk r (P names)
    → Keeps names (on_line name number r) P
keeps_line names name number (Ok x) P h = keeps_pure names x P h
keeps_line names name number (Err e) P h = tt

-- ---- the files of a work

abbrev Has : List (List ℕ) → Work → Type 0
Has names work = (file : List ℕ) → Contains work.files file → Contains names file

-- the file of this name and those of the work were asked for
record At (name : List ℕ) (names : List (List ℕ)) (work : Work) : Type 0 where
  here : Contains names name
  files : Has names work

has_same : (names : List (List ℕ)) (old new : Work) → new.files ≡ old.files → Has names old → Has names new
has_same names old new e h = subst (λ (fs : List (List ℕ)). (file : List ℕ) → Contains fs file → Contains names file) (sym e) h

one_more : (names files : List (List ℕ)) (name file : List ℕ) → Contains names name → ((f : List ℕ) → Contains files f → Contains names f)
    → Contains (files ++ name ∷ []) file → Contains names file
one_more names files name file here h among = elim (Contains-push_cases files name file among) [
  | inl old ↦ h file old
  | inr same ↦ subst (λ (f : List ℕ). Contains names f) same here
]

entered_by : (names files : List (List ℕ)) (name file : List ℕ) (old : Bool) → Contains names name → ((f : List ℕ) → Contains files f → Contains names f)
    → Contains (cond old files (files ++ name ∷ [])) file → Contains names file
entered_by names files name file true here h among = h file among
entered_by names files name file false here h among = one_more names files name file here h among

has_entered : (names : List (List ℕ)) (name : List ℕ) (old new : Work) → new.files ≡ entered name old.files → At name names old → Has names new
has_entered names name old new e at =
    subst (λ (fs : List (List ℕ)). (file : List ℕ) → Contains fs file → Contains names file) (sym e)
    (λ file among. entered_by names old.files name file (nat_lt (position_or_len (bytes_eq name) old.files) (length old.files)) at.here at.files among)

any_ok : {A E : Type 0} (r : Result A E) → IfOk r (λ _. Unit {0})
any_ok (Ok x) = tt
any_ok (Err e) = tt

line_files : (name : List ℕ) (number : ℕ) (line : List ℕ) (work : Work) → IfOk (text_line name number line work) (λ w. w.files ≡ entered name work.files)
unfolding text_line
line_files name number line work =
    after_ok (write_text 16 work.defs line (line_begun work.page)) _ (λ _. Unit {0}) (λ w. w.files ≡ entered name work.files)
    (any_ok (write_text 16 work.defs line (line_begun work.page)))
    (λ written _. after_ok (put 10 written) _ (λ _. Unit {0}) (λ w. w.files ≡ entered name work.files) (any_ok (put 10 written)) (λ page _. refl))

ok_map : {A E : Type 0} (r : Result A E) (P Q : A → Type 0) → ((x : A) → P x → Q x) → IfOk r P → IfOk r Q
ok_map (Ok x) P Q f h = f x h
ok_map (Err e) P Q f h = tt

done_files : (d : Option Directive) (work : Work) → IfOk (done_by d work) (λ r. r.1.files ≡ work.files)
done_files None work = tt
done_files (Some (Includes name)) work = refl
done_files (Some (Defines name value)) work = refl
done_files (Some (Undefines name)) work = refl

closing_same : (rest : List ℕ) (live ended : Bool) (work : Work) → is_ended rest ≡ ended → IfOk (closing rest live work) (λ w. w ≡ work)
closing_same rest true true work h = rw h refl
closing_same rest true false work h = rw h tt
closing_same rest false ended work h = refl

-- An included file gives lines of files alone that were asked for.
abbrev AsksFirst : Includer → Type 0
AsksFirst includes = (line : ℕ) (file : List ℕ) (work : Work) (names : List (List ℕ)) → Has names work → Keeps names (includes line file work) Has

module _ (includes : Includer) (name : List ℕ) (asks : AsksFirst includes) where
  named : (names : List (List ℕ)) (r : Reading Work) → Contains names name → Keeps names r Has → Keeps names r (At name)
  named names r here h =
      ok_map r.result (Has (names ++ r.asked)) (At name (names ++ r.asked)) (λ w k. record { here = Contains-append_left names r.asked name here; files = k }) h

  include_keeps : (names : List (List ℕ)) (line : ℕ) (o : Option (List ℕ)) (work : Work) → At name names work → Keeps names (if_included o (includes line) work) (At name)
  include_keeps names line None work at = keeps_pure names work (At name) at
  include_keeps names line (Some file) work at = named names (includes line file work) at.here (asks line file work names at.files)

  text_keeps : (names : List (List ℕ)) (line : Line) (live : Bool) (work : Work) → At name names work
      → Keeps names (let r : Reading Work = if live then on_line name line.number (text_line name line.number line.bytes work) else pure work in r) (At name)
  text_keeps names line true work at =
      keeps_line names name line.number (text_line name line.number line.bytes work) (At name)
      (ok_map (text_line name line.number line.bytes work) (λ w. w.files ≡ entered name work.files) (At name names)
      (λ w e. record { here = at.here; files = has_entered names name work w e at }) (line_files name line.number line.bytes work))
  text_keeps names line false work at = keeps_pure names work (At name) at

  alone_keeps : (names : List (List ℕ)) (line : Line) (live : Bool) (work : Work) (r : Result (Option (List ℕ) × Work) Cause) → At name names work
      → IfOk r (λ d. d.1.files ≡ work.files)
      → Keeps names (let r : Reading Work = if live then (on_line name line.number r >>= λ d. if_included d.0 (includes line.number) d.1) else pure work in r) (At name)
  alone_keeps names line true work r at h =
      keeps_then names (on_line name line.number r) (λ d. if_included d.0 (includes line.number) d.1) (λ more d. At name more d.1) (At name)
      (keeps_line names name line.number r (λ more d. At name more d.1)
      (ok_map r (λ d. d.1.files ≡ work.files) (λ d. At name names d.1) (λ d e. record { here = at.here; files = has_same names work d.1 e at.files }) h))
      (λ d more k. include_keeps more line.number d.0 d.1 k)
  alone_keeps names line false work r at h = keeps_pure names work (At name) at

  mutual
    unfolding expand_tree expand_branches

    tree_keeps : (t : Tree) (live : Bool) (work : Work) (names : List (List ℕ)) → At name names work → Keeps names (expand_tree includes name t live work) (At name)
    tree_keeps End live work names at = keeps_pure names work (At name) at
    tree_keeps (Text line t) live work names at =
        keeps_then names _ (λ w. expand_tree includes name t live w) (At name) (At name) (text_keeps names line live work at) (λ w more k. tree_keeps t live w more k)
    tree_keeps (Alone line t) live work names at =
        keeps_then names _ (λ w. expand_tree includes name t live w) (At name) (At name)
        (alone_keeps names line live work (done_by (directive_at (words line).0 (words line).1) work) at (done_files (directive_at (words line).0 (words line).1) work))
        (λ w more k. tree_keeps t live w more k)
    tree_keeps (Marked line t) live work names at = tt
    tree_keeps (tree.Group branches t) live work names at =
        keeps_then names (expand_branches includes name branches live false work) (λ w. expand_tree includes name t live w) (At name) (At name)
        (branches_keep branches live false work names at) (λ w more k. tree_keeps t live w more k)

    branches_keep : (branches : Branches) (live chosen : Bool) (work : Work) (names : List (List ℕ)) → At name names work
        → Keeps names (expand_branches includes name branches live chosen work) (At name)
    branches_keep (Branch line body others) live chosen work names at =
        keeps_then names (on_line name line.number (choice (words line) live chosen work.defs))
        (λ now. expand_tree includes name body now work >>= λ w. expand_branches includes name others live (chosen || now) w) (λ more _. At name more work) (At name)
        (keeps_line names name line.number (choice (words line) live chosen work.defs) (λ more _. At name more work)
        (ok_map (choice (words line) live chosen work.defs) (λ _. Unit {0}) (λ _. At name names work) (λ _ _. at) (any_ok (choice (words line) live chosen work.defs))))
        (λ now more k. keeps_then more (expand_tree includes name body now work) (λ w. expand_branches includes name others live (chosen || now) w) (At name) (At name)
        (tree_keeps body now work more k) (λ w rest j. branches_keep others live (chosen || now) w rest j))
    branches_keep (Closed line) live chosen work names at =
        keeps_line names name line.number (closing (words line).1 live work) (At name)
        (ok_map (closing (words line).1 live work) (λ w. w ≡ work) (At name names) (λ w e. subst (λ (x : Work). At name names x) (sym e) at)
        (closing_same (words line).1 live (is_ended (words line).1) work refl))
    branches_keep Unclosed live chosen work names at = keeps_pure names work (At name) at

  open_keeps : (o : Option ℕ) (work : Work) (names : List (List ℕ)) → Has names work → Keeps names (unless_open name o work) Has
  open_keeps None work names h = keeps_pure names work Has h
  open_keeps (Some line) work names h = tt

  file_keeps : (bytes : List ℕ) (work : Work) (names : List (List ℕ)) → At name names work → Keeps names (expand_file includes name bytes work) Has
  file_keeps bytes work names at =
      let t : Tree = tree_of (numbered 1 (lines bytes)) in
      keeps_then names (expand_tree includes name t true work) (λ w. unless_open name (first_open t) w) (At name) Has
      (tree_keeps t true work names at) (λ w more k. open_keeps (first_open t) w more k.files)

-- ---- files

more_has : (names more : List (List ℕ)) (work : Work) → Has names work → Has (names ++ more) work
more_has names more work h = λ file among. Contains-append_left names more file (h file among)

-- a file that is asked for is one of the names
fetched_keeps : (folder : Folder) (name from : List ℕ) (line : ℕ) (names : List (List ℕ)) (work : Work) → Has names work
    → Keeps names (fetched folder name from line) (λ more bytes. At name more work)
fetched_keeps folder name from line names work h =
    ok_map (fetched folder name from line).result (λ _. Unit {0}) (λ bytes. At name (names ++ name ∷ []) work)
    (λ _ _. record { here = Contains-push names name; files = more_has names (name ∷ []) work h }) (any_ok (fetched folder name from line).result)

included_keeps : (left : ℕ) (folder : Folder) (from : List ℕ) → AsksFirst (included left folder from)
unfolding included
included_keeps zero folder from = λ line file work names h. tt
included_keeps (suc left) folder from = λ line file work names h.
    let joined : List ℕ = joined_name from file in
    keeps_then names (fetched folder joined from line) (λ bytes. expand_file (included left folder joined) joined bytes work) (λ more _. At joined more work) Has
    (fetched_keeps folder joined from line names work h)
    (λ bytes more k. file_keeps (included left folder joined) joined (included_keeps left folder joined) bytes work more k)

none_yet : (main : List ℕ) → At main (main ∷ []) (nothing_yet main)
none_yet main = record { here = Contains-push [] main; files = λ file among. among }

main_keeps : (folder : Folder) (main : List ℕ) → Keeps [] (expansion folder main) Has
unfolding expansion
main_keeps folder main =
    keeps_then [] (fetched folder main main 0) (λ bytes. expand_file (included 15 folder main) main bytes (nothing_yet main)) (λ more _. At main more (nothing_yet main)) Has
    (ok_map (fetched folder main main 0).result (λ _. Unit {0}) (λ _. At main (main ∷ []) (nothing_yet main)) (λ _ _. none_yet main) (any_ok (fetched folder main main 0).result))
    (λ bytes more k. file_keeps (included 15 folder main) main (included_keeps 15 folder main) bytes (nothing_yet main) more k)

text_files : (names : List (List ℕ)) (r : Result Work Refusal) (text : spec.Text) → IfOk r (Has names) → (r >> λ work. Ok (text_of work)) ≡ Ok text
    → (file : List ℕ) → Contains text.files file → Contains names file
text_files names (Ok work) text h e file among =
    let same : text_of work ≡ text = cc in
    h file (subst (λ (t : spec.Text). Contains t.files file) (sym same) among)
text_files names (Err r) text h e file among = absurd (cc)

pub asks_for_files : AsksForFilesOfText
asks_for_files = λ folder main text e file among. text_files (asked_by folder main) (expansion folder main).result text (main_keeps folder main) e file among
