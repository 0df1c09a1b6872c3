-- The files that give an expanded text its lines.
use Rattle.std.proofs.Common.{◌≡◌, ℕ, zero, suc, ◌+◌, ◌<◌, Bool, true, false, not, cond, List, [], ◌∷◌, ◌++◌, length, Option, Some, None, Result, Ok, Err, arith, refl, sym, ap, subst, append_assoc, append-nil}
use Rattle.std.specs.Prelude.{IfOk, slice_get, nat_lt}
use Rattle.std.specs.List.{position_or_len}
use Rattle.std.specs.Str.{bytes_eq}
use Rattle.std.proofs.lemmas.Bool.Decides.{nat_tests}
use Rattle.std.proofs.lemmas.Slice.Eq.{bytes_eq-Decides}
use Rattle.sl_outside.specs.Folder.{Folder, size_limit}
use Rattle.sl_preproc_directives.specs.Directives.{Directive, Includes, Defines, Undefines, directive_at, directive_line, keyword_at}
use Rattle.sl_preproc_directives.specs.Lines.{lines}
use Rattle.sl_preproc_directives.specs.Outcomes.{◌>>◌}
use Rattle.sl_preproc_directives.specs.Replacement.{Page, Written, put, with_byte, write_text}
use Rattle.sl_preproc_directives.specs.declared.fault.Cause.{Cause}
use Rattle.sl_preproc_directives.specs.declared.fault.Cause.TheVariants.{TooLong}
use Rattle.sl_preproc.specs.ByLines.{Step, alone, at_end, directive_step, expand_lines, line_done, line_step, text_or_directive}
use Rattle.sl_preproc.specs.Expanded.{Text, text_of}
use Rattle.sl_preproc.specs.Expansion.{Includer, Work, checked, done_by, entered, expand_file, expansion, fetched, if_included, line_begun, nothing_yet, on_line, placed, text_line}
use Rattle.sl_preproc.specs.Expansion as expansion
use Rattle.sl_preproc.specs.Groups.{is_conditional, is_live, turned_by}
use Rattle.sl_preproc.specs.Naming.{joined_name}
use Rattle.sl_preproc.specs.Readings.{Reading, Refusal, going_on, pure, refusal, ◌>>=◌}
use Rattle.sl_preproc.specs.declared.groups.Group.{Group}
use Rattle.sl_preproc.specs.declared.places.Place.{Place}
use Rattle.sl_preproc.proofs.LineLemmas.{by_lines}
use Rattle.sl_test_laws.specs.Origins.{ArePlacesOf, BytesHaveTheirOriginsPlace, ComeTo, no_line, nothing, itself, included, Give, none, one_more, HasOrigins, IsInclude, IsPlaceOf, LinesHaveOrigins, Origin}
use Rattle.sl_test_laws.specs.Places.{ended}
use Rattle.sl_test_laws.proofs.Places.{place_is}

-- ---- what comes of readings

goes_by : {A B : Type 0} (names : List (List ℕ)) (r : Result A Refusal) (f : A → Reading B) (P : A → Type 0) (Q : B → Type 0)
    → IfOk r P → ((x : A) → P x → IfOk (f x).result Q) → IfOk (going_on names r f).result Q
goes_by names (Ok x) f P Q h k = k x h
goes_by names (Err e) f P Q h k = tt

goes : {A B : Type 0} (r : Reading A) (f : A → Reading B) (P : A → Type 0) (Q : B → Type 0)
    → IfOk r.result P → ((x : A) → P x → IfOk (f x).result Q) → IfOk (r >>= f).result Q
goes r f P Q h k = goes_by r.asked r.result f P Q h k

after_ok : {A B E : Type 0} (r : Result A E) (f : A → Result B E) (P : A → Type 0) (Q : B → Type 0) → IfOk r P → ((x : A) → P x → IfOk (f x) Q) → IfOk (r >> f) Q
after_ok (Ok x) f P Q h k = k x h
after_ok (Err e) f P Q h k = tt

ok_by : {A E : Type 0} (r : Result A E) → IfOk r (λ x. r ≡ Ok x)
ok_by (Ok x) = refl
ok_by (Err e) = tt

on_line_ok : {A : Type 0} (name : List ℕ) (number : ℕ) (r : Result A Cause) (P : A → Type 0) → IfOk r P → IfOk (on_line name number r).result P
on_line_ok name number (Ok x) P h = h
on_line_ok name number (Err e) P h = tt

ok_map : {A E : Type 0} (r : Result A E) (P Q : A → Type 0) → ((x : A) → P x → Q x) → IfOk r P → IfOk r Q
ok_map (Ok x) P Q f h = f x h
ok_map (Err e) P Q f h = tt

small_is : (from : List ℕ) (line : ℕ) (bytes : List ℕ) (long : Bool)
    → IfOk (let r : Result (List ℕ) Refusal = cond long (Err (refusal TooLong from line)) (Ok bytes) in r) (λ given. Some bytes ≡ Some given)
small_is from line bytes true = tt
small_is from line bytes false = refl

-- ---- places

got_more : {X : Type 0} (xs ys : List X) (i : ℕ) (x : X) → slice_get xs i ≡ Some x → slice_get (xs ++ ys) i ≡ Some x
got_more [] ys i x h = absurd (cc)
got_more (y ∷ xs) ys zero x h = h
got_more (y ∷ xs) ys (suc i) x h = got_more xs ys i x h

places_more : (files more : List (List ℕ)) (os : List Origin) (ps : List Place) → ArePlacesOf files os ps → ArePlacesOf (files ++ more) os ps
places_more files more [] [] h = tt
places_more files more (o ∷ os) (p ∷ ps) h =
    (record { file = got_more files more p.file o.file h.0.file; line = h.0.line }, places_more files more os ps h.1)
places_more files more [] (p ∷ ps) h = absurd h
places_more files more (o ∷ os) [] h = absurd h

places_push : (files : List (List ℕ)) (os : List Origin) (ps : List Place) (o : Origin) (p : Place) → ArePlacesOf files os ps → IsPlaceOf files o p
    → ArePlacesOf files (os ++ o ∷ []) (ps ++ p ∷ [])
places_push files [] [] o p h is = (is, tt)
places_push files (q ∷ os) (r ∷ ps) o p h is = (h.0, places_push files os ps o p h.1 is)
places_push files [] (r ∷ ps) o p h is = absurd h
places_push files (q ∷ os) [] o p h is = absurd h

place_got : (files : List (List ℕ)) (os : List Origin) (ps : List Place) (i : ℕ) (o : Origin) → ArePlacesOf files os ps → slice_get os i ≡ Some o
    → (p : Place) × (slice_get ps i ≡ Some p) × IsPlaceOf files o p
place_got files [] ps i o h is = absurd (cc)
place_got files (q ∷ os) [] i o h is = absurd h
place_got files (q ∷ os) (p ∷ ps) zero o h is = let same : q ≡ o = cc in (p, refl, subst (λ x. IsPlaceOf files x p) same h.0)
place_got files (q ∷ os) (p ∷ ps) (suc i) o h is = place_got files os ps i o h.1 is

pub origin_is : BytesHaveTheirOriginsPlace
origin_is t os before line after i o are bytes one_line within is =
    let got = place_got t.files os t.places (ended before) o are is in
    subst (λ p. IsPlaceOf t.files o p) (sym (place_is t before line after i got.0 bytes one_line within got.1)) got.2

-- ---- numbers of files

met_at : (name f : List ℕ) (files : List (List ℕ)) (n : ℕ) (same : Bool) → bytes_eq name f ≡ same → slice_get files n ≡ Some name
    → slice_get (f ∷ files) (cond (not same) (1 + n) 0) ≡ Some name
met_at name f files n true e h = ap Some (sym ((bytes_eq-Decides name f).0 e))
met_at name f files n false e h = let next : 1 + n ≡ suc n = omega arith in rw next h

-- a name that is put behind the others is met at its number
at_push : (name : List ℕ) (files : List (List ℕ)) → slice_get (files ++ name ∷ []) (position_or_len (bytes_eq name) files) ≡ Some name
at_push name [] = refl
at_push name (f ∷ files) = met_at name f (files ++ name ∷ []) (position_or_len (bytes_eq name) files) (bytes_eq name f) refl (at_push name files)

got_front : {X : Type 0} (xs ys : List X) (i : ℕ) (x : X) → i < length xs → slice_get (xs ++ ys) i ≡ Some x → slice_get xs i ≡ Some x
got_front [] ys i x within h = absurd (omega (arith, within))
got_front (y ∷ xs) ys zero x within h = h
got_front (y ∷ xs) ys (suc i) x within h = got_front xs ys i x (omega (arith, within)) h

chosen_at : (name : List ℕ) (files : List (List ℕ)) (n : ℕ) (known : Bool) → nat_lt n (length files) ≡ known → slice_get (files ++ name ∷ []) n ≡ Some name
    → slice_get (cond known files (files ++ name ∷ [])) n ≡ Some name
chosen_at name files n true e h = let within : n < length files = grind (arith, nat_tests) in got_front files (name ∷ []) n name within h
chosen_at name files n false e h = h

entered_at : (name : List ℕ) (files : List (List ℕ)) → slice_get (entered name files) (position_or_len (bytes_eq name) files) ≡ Some name
entered_at name files = chosen_at name files (position_or_len (bytes_eq name) files) (nat_lt (position_or_len (bytes_eq name) files) (length files)) refl (at_push name files)

kept_by : (name : List ℕ) (files : List (List ℕ)) (os : List Origin) (ps : List Place) (known : Bool) → ArePlacesOf files os ps
    → ArePlacesOf (cond known files (files ++ name ∷ [])) os ps
kept_by name files os ps true h = h
kept_by name files os ps false h = places_more files (name ∷ []) os ps h

-- ---- one line

-- the work has the text and the places of these lines
record Made (os : List Origin) (work : Work) : Type 0 where
  given : Give os work.page.text
  places : ArePlacesOf work.files os work.places

abbrev Keeps : Work → Work → Type 0
Keeps old new = (os : List Origin) → Made os old → Made os new

abbrev line_of : List ℕ → ℕ → List ℕ → Origin
line_of file number line = record { file = file; number = number; bytes = line }

put_by : (b : ℕ) (page : Page) (small : Bool) → IfOk (let r : Written = cond small (Ok (with_byte b page)) (Err TooLong) in r) (λ p. p.text ≡ page.text ++ b ∷ [])
put_by b page true = refl
put_by b page false = tt

put_text : (b : ℕ) (page : Page) → IfOk (put b page) (λ p. p.text ≡ page.text ++ b ∷ [])
unfolding put
put_text b page = put_by b page (nat_lt (length page.text) size_limit)

placed_made : (file : List ℕ) (number : ℕ) (line : List ℕ) (work : Work) (written page : Page) → write_text 16 work.defs line (line_begun work.page) ≡ Ok written
    → page.text ≡ written.text ++ 10 ∷ [] → (os : List Origin) → Made os work → Made (os ++ line_of file number line ∷ []) (placed file number page work)
placed_made file number line work written page is ends os made = record {
  given = subst (λ text. Give (os ++ line_of file number line ∷ []) text) (sym ends) (one_more (line_of file number line) work.defs made.given is);
  places = places_push (entered file work.files) os work.places (line_of file number line) _
      (kept_by file work.files os work.places (nat_lt (position_or_len (bytes_eq file) work.files) (length work.files)) made.places)
      (record { file = entered_at file work.files; line = refl });
}

text_made : (file : List ℕ) (number : ℕ) (line : List ℕ) (work : Work)
    → IfOk (text_line file number line work) (λ w. (os : List Origin) → Made os work → Made (os ++ line_of file number line ∷ []) w)
unfolding text_line
text_made file number line work =
    after_ok (write_text 16 work.defs line (line_begun work.page)) _ (λ written. write_text 16 work.defs line (line_begun work.page) ≡ Ok written) _
    (ok_by (write_text 16 work.defs line (line_begun work.page)))
    (λ written is. after_ok (put 10 written) (λ page. Ok (placed file number page work)) (λ page. page.text ≡ written.text ++ 10 ∷ []) _
    (put_text 10 written) (λ page ends. placed_made file number line work written page is ends))

-- what a line does to the work, and what it includes
data Does (file : List ℕ) (number : ℕ) (line : List ℕ) (work : Work) : Option (List ℕ) → Work → Type 0 where
  no_more : {w : Work} → Keeps work w → Does file number line work None w
  its_own : {w : Work} → directive_line line ≡ None → ((os : List Origin) → Made os work → Made (os ++ line_of file number line ∷ []) w)
      → Does file number line work None w
  a_file : {name : List ℕ} {w : Work} → IsInclude line name → Keeps work w → Does file number line work (Some name) w

same_work : (work : Work) → Keeps work work
same_work work = λ os made. made

module _ (file : List ℕ) (number : ℕ) (line : List ℕ) where
  abbrev StepDoes : Work → Option (List ℕ) × List Group × Work → Type 0
  StepDoes work s = Does file number line work s.0 s.2

  directive_does : (d : Option Directive) (work : Work) → ((name : List ℕ) → d ≡ Some (Includes name) → IsInclude line name)
      → IfOk (done_by d work) (λ r. Does file number line work r.0 r.1)
  directive_does None work is = tt
  directive_does (Some (Includes name)) work is = a_file (is name refl) (same_work work)
  directive_does (Some (Defines name value)) work is = no_more (λ os made. record { given = made.given; places = made.places })
  directive_does (Some (Undefines name)) work is = no_more (λ os made. record { given = made.given; places = made.places })

  alone_does : (live : Bool) (d : Option Directive) (gs : List Group) (work : Work) → ((name : List ℕ) → d ≡ Some (Includes name) → IsInclude line name)
      → IfOk (let r : Step = cond live (done_by d work >> λ d. Ok (d.0, gs, d.1)) (Ok (None, gs, work)) in r) (StepDoes work)
  alone_does true d gs work is = after_ok (done_by d work) _ (λ r. Does file number line work r.0 r.1) (StepDoes work) (directive_does d work is) (λ r k. k)
  alone_does false d gs work is = no_more (same_work work)

  any_ok : {A E : Type 0} (r : Result A E) → IfOk r (λ _. Unit {0})
  any_ok (Ok x) = tt
  any_ok (Err e) = tt

  word_does : (conditional : Bool) (rest : List ℕ) (gs : List Group) (work : Work) → directive_line line ≡ Some rest
      → IfOk (let d = keyword_at rest in let r : Step = cond conditional (turned_by work.defs number d.0 d.1 gs >> λ turned. Ok (None, turned, work)) (alone d.0 d.1 gs work) in r) (StepDoes work)
  word_does true rest gs work is =
      after_ok (turned_by work.defs number (keyword_at rest).0 (keyword_at rest).1 gs) _ (λ _. Unit {0}) (StepDoes work) (any_ok _) (λ turned _. no_more (same_work work))
  word_does false rest gs work is =
      alone_does (is_live gs) (directive_at (keyword_at rest).0 (keyword_at rest).1) gs work (λ name e. record { rest = rest; directive = is; names = e })

  text_does : (live : Bool) (gs : List Group) (work : Work) → directive_line line ≡ None
      → IfOk (let r : Step = cond live (text_line file number line work >> λ w. Ok (None, gs, w)) (Ok (None, gs, work)) in r) (StepDoes work)
  text_does true gs work is = after_ok (text_line file number line work) _ _ (StepDoes work) (text_made file number line work) (λ w k. its_own is k)
  text_does false gs work is = no_more (same_work work)

  either_does : (gs : List Group) (work : Work) (o : Option (List ℕ)) → directive_line line ≡ o → IfOk (text_or_directive file number line gs work o) (StepDoes work)
  unfolding directive_step
  either_does gs work (Some rest) is = word_does (is_conditional (keyword_at rest).0) rest gs work is
  either_does gs work None is = text_does (is_live gs) gs work is

  step_does : (gs : List Group) (work : Work) → IfOk (line_step file number line gs work) (StepDoes work)
  unfolding line_step
  step_does gs work = either_does gs work (directive_line line) refl

-- ---- files

module _ (folder : Folder) where
  -- behind the work of some lines, that of a file's too
  record Adds (file : List ℕ) (number : ℕ) (ls : List (List ℕ)) (os : List Origin) (work : Work) : Type 0 where
    more : List Origin
    come : ComeTo folder file number ls more
    made : Made (os ++ more) work

  -- behind the work of some lines, that of the file of this name
  record AddsFile (file : List ℕ) (os : List Origin) (work : Work) : Type 0 where
    bytes : List ℕ
    there : folder file ≡ Some bytes
    adds : Adds file 1 (lines bytes) os work

  abbrev AddFiles : Includer → List ℕ → Type 0
  AddFiles includes file = (number : ℕ) (name : List ℕ) (work : Work) (os : List Origin) → Made os work
      → IfOk (includes number name work).result (AddsFile (joined_name file name) os)

  module _ (includes : Includer) (file : List ℕ) (add : AddFiles includes file) where
    -- a line, and what stands behind it
    record AddsLine (number : ℕ) (line : List ℕ) (os : List Origin) (work : Work) : Type 0 where
      more : List Origin
      come : (others : List (List ℕ)) (rest : List Origin) → ComeTo folder file (number + 1) others rest → ComeTo folder file number (line ∷ others) (more ++ rest)
      made : Made (os ++ more) work

    made_same : (os : List Origin) (work : Work) → Made os work → Made (os ++ []) work
    made_same os work made = subst (λ xs. Made xs work) (sym (append-nil os)) made

    include_adds : (number : ℕ) (line : List ℕ) (old : Work) (o : Option (List ℕ)) (work : Work) (os : List Origin) → Made os old → Does file number line old o work
        → IfOk (if_included o (includes number) work).result (AddsLine number line os)
    include_adds number line old None work os made (no_more keeps) =
        record { more = []; come = λ others rest h. nothing h; made = made_same os work (keeps os made) }
    include_adds number line old None work os made (its_own is keeps) =
        record { more = line_of file number line ∷ []; come = λ others rest h. itself is h; made = keeps os made }
    include_adds number line old (Some name) work os made (a_file is keeps) =
        ok_map (includes number name work).result (AddsFile (joined_name file name) os) (AddsLine number line os)
        (λ w k. record { more = k.adds.more; come = λ others rest h. included is k.there k.adds.come h; made = k.adds.made }) (add number name work os (keeps os made))

    line_adds : (number : ℕ) (line : List ℕ) (gs : List Group) (work : Work) (os : List Origin) → Made os work
        → IfOk (line_done includes file number line gs work).result (λ s. AddsLine number line os s.1)
    unfolding line_done
    line_adds number line gs work os made =
        goes (on_line file number (line_step file number line gs work)) _ (λ s. Does file number line work s.0 s.2) (λ s. AddsLine number line os s.1)
        (on_line_ok file number (line_step file number line gs work) _ (step_does file number line gs work))
        (λ s k. goes (if_included s.0 (includes number) s.2) (λ w. pure (s.1, w)) (AddsLine number line os) (λ s. AddsLine number line os s.1)
        (include_adds number line work s.0 s.2 os made k) (λ w j. j))

    end_adds : (number : ℕ) (gs : List Group) (work : Work) (os : List Origin) → Made os work → IfOk (at_end file gs work).result (Adds file number [] os)
    end_adds number [] work os made = record { more = []; come = no_line; made = made_same os work made }
    end_adds number (g ∷ gs) work os made = tt

    lines_add : (ls : List (List ℕ)) (number : ℕ) (gs : List Group) (work : Work) (os : List Origin) → Made os work
        → IfOk (expand_lines includes file ls number gs work).result (Adds file number ls os)
    unfolding expand_lines
    lines_add [] number gs work os made = end_adds number gs work os made
    lines_add (line ∷ ls) number gs work os made =
        goes (line_done includes file number line gs work) (λ s. expand_lines includes file ls (number + 1) s.0 s.1) (λ s. AddsLine number line os s.1) (Adds file number (line ∷ ls) os)
        (line_adds number line gs work os made)
        (λ s k. ok_map (expand_lines includes file ls (number + 1) s.0 s.1).result (Adds file (number + 1) ls (os ++ k.more)) (Adds file number (line ∷ ls) os)
        (λ w j. record { more = k.more ++ j.more; come = k.come ls j.more j.come; made = subst (λ xs. Made xs w) (append_assoc os k.more j.more) j.made })
        (lines_add ls (number + 1) s.0 s.1 (os ++ k.more) k.made))

    file_adds : (bytes : List ℕ) (work : Work) (os : List Origin) → folder file ≡ Some bytes → Made os work → IfOk (expand_file includes file bytes work).result (AddsFile file os)
    file_adds bytes work os there made =
        subst (λ (r : Reading Work). IfOk r.result (AddsFile file os)) (by_lines includes file (lines bytes) work)
        (ok_map (expand_lines includes file (lines bytes) 1 [] work).result (Adds file 1 (lines bytes) os) (AddsFile file os)
        (λ w k. record { bytes = bytes; there = there; adds = k }) (lines_add (lines bytes) 1 [] work os made))

  checked_is : (from : List ℕ) (line : ℕ) (o : Option (List ℕ)) → IfOk (checked from line o) (λ bytes. o ≡ Some bytes)
  checked_is from line None = tt
  checked_is from line (Some bytes) = small_is from line bytes (nat_lt size_limit (length bytes))

  included_add : (left : ℕ) (file : List ℕ) → AddFiles (expansion.included left folder file) file
  unfolding expansion.included
  included_add zero file = λ number name work os made. tt
  included_add (suc left) file = λ number name work os made.
      let joined : List ℕ = joined_name file name in
      goes (fetched folder joined file number) (λ bytes. expand_file (expansion.included left folder joined) joined bytes work) (λ bytes. folder joined ≡ Some bytes) (AddsFile joined os)
      (checked_is file number (folder joined))
      (λ bytes there. file_adds (expansion.included left folder joined) joined (included_add left joined) bytes work os there made)

  main_adds : (main : List ℕ) → IfOk (expansion.expansion folder main).result (AddsFile main [])
  unfolding expansion.expansion
  main_adds main =
      goes (fetched folder main main 0) (λ bytes. expand_file (expansion.included 15 folder main) main bytes (nothing_yet main)) (λ bytes. folder main ≡ Some bytes) (AddsFile main [])
      (checked_is main 0 (folder main))
      (λ bytes there. file_adds (expansion.included 15 folder main) main (included_add 15 main) bytes (nothing_yet main) [] there (record { given = none; places = tt }))

  text_has : (main : List ℕ) (r : Result Work Refusal) (text : Text) → IfOk r (AddsFile main []) → (r >> λ work. Ok (text_of work)) ≡ Ok text → HasOrigins folder main text
  text_has main (Ok work) text k e =
      let same : text_of work ≡ text = cc in
      subst (HasOrigins folder main) same
      (record { bytes = k.bytes; origins = k.adds.more; main_file = k.there; come = k.adds.come; give = k.adds.made.given; placed = k.adds.made.places })
  text_has main (Err x) text k e = absurd (cc)

pub lines_have : LinesHaveOrigins
lines_have folder main text e = text_has folder main (expansion.expansion folder main).result text (main_adds folder main) e
