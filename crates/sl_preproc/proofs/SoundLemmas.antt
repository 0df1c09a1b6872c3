-- Each line keeps the work whole, and the text of a whole work is sound.
use Rattle.std.proofs.Common.{◌≡◌, ℕ, zero, suc, ◌+◌, ◌<◌, ◌≤◌, Bool, true, false, cond, not, List, [], ◌∷◌, ◌++◌, length, Option, Some, None, Result, Ok, Err, arith, refl, sym, ap, subst, ◌∙◌, length-append}
use Rattle.std.proofs.Common.{inl, inr}
use Rattle.std.specs.Prelude.{IfOk, IfSome, nat_lt, ◌==◌, if◌then◌else◌}
use Rattle.std.specs.List.{AllByRecursion, position_or_len}
use Rattle.std.specs.Str.{bytes_eq}
use Rattle.std.proofs.lemmas.Bool.Decides.{nat_tests}
use Rattle.std.proofs.lemmas.List.Sums.{prefix_len-le-length, sum_by-append, sum_by-cons}
use Rattle.sl_outside.specs.Folder.{size_limit}
use Rattle.sl_preproc_directives.specs.Outcomes.{◌>>◌}
use Rattle.sl_preproc_directives.specs.Lines.{lines, on_first_line}
use Rattle.sl_preproc_directives.specs.Definitions.{Values, with_value, without}
use Rattle.sl_preproc_directives.specs.Directives.{Directive, Includes, Defines, Undefines, directive_line, keyword_at, directive_at}
use Rattle.sl_preproc.specs.Groups.{is_live, is_conditional, turned_by}
use Rattle.sl_preproc_directives.specs.Replacement.{Page, Written, Piece, Byte, Name, with_byte, put, put_all, stays_in, stays, all_pieces, write_pieces, write_name, value_or_stays, write_text}
use Rattle.sl_preproc.specs.Expansion.{Work, line_begun, entered, placed, text_line, with_defs, done_by, on_line, nothing_yet}
use Rattle.sl_preproc.specs.ByLines.{Step, alone, directive_step, text_or_directive, line_step}
use Rattle.sl_preproc.specs.Expanded.{text_of}
use Rattle.sl_preproc.specs.Sound.{IsSound}
use Rattle.sl_preproc.specs.Whole.{IsWhole, NoFeed, feeds, IsEnded, AreOnLines}
use Rattle.sl_preproc.proofs.FeedLemmas.{IsOnLine, pieces_free, DefinesOnLine, directive_free, keyword_free, behind_free, defined_free, undefined_free}
use Rattle.sl_preproc_directives.specs.declared.directive.Keyword.{Keyword}
use Rattle.sl_preproc_directives.specs.declared.fault.Cause.{Cause}
use Rattle.sl_preproc_directives.specs.declared.fault.Cause.TheVariants.{TooLong}
use Rattle.sl_preproc.specs.declared.groups.Group.{Group}
use Rattle.sl_preproc_directives.specs.declared.page.LinePart.{LinePart}
use Rattle.sl_preproc_directives.specs.declared.page.LinePart.TheVariants.{Plain, Quoted, Comment}
use Rattle.sl_preproc.specs.declared.places.Place.{Place}

pub after_ok : {A B E : Type 0} (r : Result A E) (f : A → Result B E) (P : A → Type 0) (Q : B → Type 0) → IfOk r P → ((x : A) → P x → IfOk (f x) Q) → IfOk (r >> f) Q
after_ok (Ok x) f P Q h k = k x h
after_ok (Err e) f P Q h k = tt

-- ---- what is written

feed_more : (text : List ℕ) (b : ℕ) (feed : Bool) → (b == 10) ≡ feed → feeds (text ++ b ∷ []) ≡ feeds text + cond feed 1 0
feed_more text b feed h = sum_by-append (λ (c : ℕ). cond (c == 10) 1 0) text (b ∷ []) ∙ (rw h (omega arith))

-- a page that isn't too long, with so many line feeds
record Fits (count : ℕ) (page : Page) : Type 0 where
  small : length page.text ≤ size_limit
  same : feeds page.text ≡ count

put_from : (count b : ℕ) (page : Page) (small : Bool) → nat_lt (length page.text) size_limit ≡ small → (b == 10) ≡ false → Fits count page
    → IfOk (let r : Written = cond small (Ok (with_byte b page)) (Err TooLong) in r) (Fits count)
put_from count b page true h free fits =
    let lt : length page.text < size_limit = grind (arith, nat_tests) in
    record { small = omega (arith, length-append page.text (b ∷ [])); same = omega (arith, feed_more page.text b false free, fits.same) }
put_from count b page false h free fits = tt

put_fits : (count b : ℕ) (page : Page) → (b == 10) ≡ false → Fits count page → IfOk (put b page) (Fits count)
unfolding put
put_fits count b page free fits = put_from count b page (nat_lt (length page.text) size_limit) refl free fits

put_all_fits : (count : ℕ) (s : List ℕ) (page : Page) → NoFeed s → Fits count page → IfOk (put_all s page) (Fits count)
unfolding put_all
put_all_fits count [] page free h = h
put_all_fits count (b ∷ s) page free h = after_ok (put b page) (put_all s) (Fits count) (Fits count) (put_fits count b page free.0 h) (λ p k. put_all_fits count s p free.1 k)

stays_from : (count : ℕ) (part : LinePart) (name : List ℕ) (page : Page) → NoFeed name → Fits count page → IfOk (stays_in part name page) (Fits count)
stays_from count Plain name page free h = tt
stays_from count Quoted name page free h = tt
stays_from count Comment name page free h =
    after_ok (put 36 page) _ (Fits count) (Fits count) (put_fits count 36 page refl h) (λ a ha.
    after_ok (put 40 a) _ (Fits count) (Fits count) (put_fits count 40 a refl ha) (λ b hb.
    after_ok (put_all name b) (put 41) (Fits count) (Fits count) (put_all_fits count name b free hb) (λ c hc. put_fits count 41 c refl hc)))

stays_fits : (count : ℕ) (name : List ℕ) (page : Page) → NoFeed name → Fits count page → IfOk (stays name page) (Fits count)
unfolding stays
stays_fits count name page free h = stays_from count page.part name page free h

abbrev Keeps : ℕ → (List ℕ → Page → Written) → Type 0
Keeps count named = (name : List ℕ) (page : Page) → NoFeed name → Fits count page → IfOk (named name page) (Fits count)

pieces_fit : (count : ℕ) (named : List ℕ → Page → Written) → Keeps count named → (ps : List Piece) (page : Page) → AllByRecursion IsOnLine ps → Fits count page
    → IfOk (write_pieces named ps page) (Fits count)
unfolding write_pieces
pieces_fit count named keeps [] page free h = h
pieces_fit count named keeps (Byte b ∷ ps) page free h =
    after_ok (put b page) (write_pieces named ps) (Fits count) (Fits count) (put_fits count b page free.0 h) (λ p k. pieces_fit count named keeps ps p free.1 k)
pieces_fit count named keeps (Name n ∷ ps) page free h =
    after_ok (named n page) (write_pieces named ps) (Fits count) (Fits count) (keeps n page free.0 h) (λ p k. pieces_fit count named keeps ps p free.1 k)

value_fits : (count : ℕ) (named : List ℕ → Page → Written) → Keeps count named → (name : List ℕ) (page : Page) → NoFeed name → Fits count page → (value : Option (List ℕ))
    → IfSome value NoFeed → IfOk (value_or_stays named name page value) (Fits count)
value_fits count named keeps name page free h (Some value) on = pieces_fit count named keeps (all_pieces value) page (pieces_free (length value) value on) h
value_fits count named keeps name page free h None on = stays_fits count name page free h

value_on_line : (value : Option (List ℕ)) → ((v : List ℕ) → value ≡ Some v → NoFeed v) → IfSome value NoFeed
value_on_line None h = tt
value_on_line (Some v) h = h v refl

name_fits : (count left : ℕ) (defs : Values) → AreOnLines defs → Keeps count (write_name left defs)
unfolding write_name
name_fits count zero defs on name page free h = tt
name_fits count (suc left) defs on name page free h =
    value_fits count (write_name left defs) (name_fits count left defs on) name page free h (defs name) (value_on_line (defs name) (λ v e. on name v e))

text_fits : (count left : ℕ) (defs : Values) (s : List ℕ) (page : Page) → AreOnLines defs → NoFeed s → Fits count page → IfOk (write_text left defs s page) (Fits count)
text_fits count left defs s page on free h = pieces_fit count (write_name left defs) (name_fits count left defs on) (all_pieces s) page (pieces_free (length s) s free) h

-- a page whose last line has been ended
record IsEndedWith (count : ℕ) (page : Page) : Type 0 where
  small : length page.text ≤ size_limit
  same : feeds page.text ≡ count + 1
  ended : IsEnded page.text

ended_from : (count : ℕ) (page : Page) (small : Bool) → nat_lt (length page.text) size_limit ≡ small → Fits count page
    → IfOk (let r : Written = cond small (Ok (with_byte 10 page)) (Err TooLong) in r) (IsEndedWith count)
ended_from count page true h fits =
    let lt : length page.text < size_limit = grind (arith, nat_tests) in
    record {
      small = omega (arith, length-append page.text (10 ∷ []));
      same = omega (arith, feed_more page.text 10 true refl, fits.same);
      ended = inr (page.text, refl);
    }
ended_from count page false h fits = tt

put_ends : (count : ℕ) (page : Page) → Fits count page → IfOk (put 10 page) (IsEndedWith count)
unfolding put
put_ends count page fits = ended_from count page (nat_lt (length page.text) size_limit) refl fits

-- ---- the places

all_weaker : (m n : ℕ) → m ≤ n → (ps : List Place) → AllByRecursion (λ (p : Place). p.file < m) ps → AllByRecursion (λ (p : Place). p.file < n) ps
all_weaker m n le [] h = tt
all_weaker m n le (p ∷ ps) h = (omega (arith, h.0), all_weaker m n le ps h.1)

all_push : (n : ℕ) (ps : List Place) (p : Place) → AllByRecursion (λ (q : Place). q.file < n) ps → p.file < n → AllByRecursion (λ (q : Place). q.file < n) (ps ++ p ∷ [])
all_push n [] p h k = (k, tt)
all_push n (q ∷ ps) p h k = (h.0, all_push n ps p h.1 k)

entered_from : (i : ℕ) (name : List ℕ) (files : List (List ℕ)) (known : Bool) → i ≤ length files → nat_lt i (length files) ≡ known
    → (i < length (cond known files (files ++ name ∷ []))) × (length files ≤ length (cond known files (files ++ name ∷ [])))
entered_from i name files true le h = let lt : i < length files = grind (arith, nat_tests) in (lt, omega arith)
entered_from i name files false le h = (omega (arith, length-append files (name ∷ [])), omega (arith, length-append files (name ∷ [])))

entered_has : (name : List ℕ) (files : List (List ℕ)) → (position_or_len (bytes_eq name) files < length (entered name files)) × (length files ≤ length (entered name files))
entered_has name files = entered_from (position_or_len (bytes_eq name) files) name files _ (prefix_len-le-length (λ f. not (bytes_eq name f)) files) refl

placed_whole : (name : List ℕ) (line : ℕ) (page : Page) (work : Work) → IsEndedWith (feeds work.page.text) page → IsWhole work → IsWhole (placed name line page work)
placed_whole name line page work ends whole = record {
  small = ends.small;
  some = omega (arith, (entered_has name work.files).0);
  counted = omega (arith, length-append work.places (record { file = position_or_len (bytes_eq name) work.files; line = line } ∷ []), ends.same, whole.counted);
  ended = ends.ended;
  known = all_push (length (entered name work.files)) work.places (record { file = position_or_len (bytes_eq name) work.files; line = line })
      (all_weaker (length work.files) (length (entered name work.files)) (entered_has name work.files).1 work.places whole.known) (entered_has name work.files).0;
  values = whole.values;
}

begun_fits : (work : Work) → IsWhole work → Fits (feeds work.page.text) (line_begun work.page)
begun_fits work whole = record { small = whole.small; same = refl }

line_whole : (name : List ℕ) (number : ℕ) (line : List ℕ) (work : Work) → NoFeed line → IsWhole work → IfOk (text_line name number line work) IsWhole
unfolding text_line
line_whole name number line work free whole =
    after_ok (write_text 16 work.defs line (line_begun work.page)) _ (Fits (feeds work.page.text)) IsWhole
    (text_fits (feeds work.page.text) 16 work.defs line (line_begun work.page) whole.values free (begun_fits work whole)) (λ written h.
    after_ok (put 10 written) (λ page. Ok (placed name number page work)) (IsEndedWith (feeds work.page.text)) IsWhole (put_ends (feeds work.page.text) written h) (λ page k. placed_whole name number page work k whole))

-- ---- a line

abbrev StepWhole : Option (List ℕ) × List Group × Work → Type 0
StepWhole s = IsWhole s.2

with_values : (defs : Values) (work : Work) → AreOnLines defs → IsWhole work → IsWhole (with_defs defs work)
with_values defs work on h = record { small = h.small; some = h.some; counted = h.counted; ended = h.ended; known = h.known; values = on }

done_whole : (d : Option Directive) (work : Work) → IfSome d DefinesOnLine → IsWhole work → IfOk (done_by d work) (λ r. IsWhole r.1)
done_whole None work on h = tt
done_whole (Some (Includes name)) work on h = h
done_whole (Some (Defines name value)) work on h = with_values (with_value name value work.defs) work (defined_free name value work.defs on h.values) h
done_whole (Some (Undefines name)) work on h = with_values (without name work.defs) work (undefined_free name work.defs h.values) h

alone_from : (live : Bool) (d : Option Directive) (gs : List Group) (work : Work) → IfSome d DefinesOnLine → IsWhole work
    → IfOk (let r : Step = cond live (done_by d work >> λ d. Ok (d.0, gs, d.1)) (Ok (None, gs, work)) in r) StepWhole
alone_from true d gs work on h = after_ok (done_by d work) _ (λ r. IsWhole r.1) StepWhole (done_whole d work on h) (λ r k. k)
alone_from false d gs work on h = h

any_ok : {A E : Type 0} (r : Result A E) → IfOk r (λ _. Unit {0})
any_ok (Ok x) = tt
any_ok (Err e) = tt

directive_from : (conditional : Bool) (number : ℕ) (d : Keyword × List ℕ) (gs : List Group) (work : Work) → NoFeed d.1 → IsWhole work
    → IfOk (let r : Step = cond conditional (turned_by work.defs number d.0 d.1 gs >> λ turned. Ok (None, turned, work)) (alone d.0 d.1 gs work) in r) StepWhole
directive_from true number d gs work free h = after_ok (turned_by work.defs number d.0 d.1 gs) _ (λ _. Unit {0}) StepWhole (any_ok _) (λ turned k. h)
directive_from false number d gs work free h = alone_from (is_live gs) (directive_at d.0 d.1) gs work (directive_free d.0 d.1 free) h

directive_whole : (number : ℕ) (d : Keyword × List ℕ) (gs : List Group) (work : Work) → NoFeed d.1 → IsWhole work → IfOk (directive_step number d gs work) StepWhole
unfolding directive_step
directive_whole number d gs work free h = directive_from (is_conditional d.0) number d gs work free h

text_from : (live : Bool) (name : List ℕ) (number : ℕ) (line : List ℕ) (gs : List Group) (work : Work) → NoFeed line → IsWhole work
    → IfOk (let r : Step = cond live (text_line name number line work >> λ w. Ok (None, gs, w)) (Ok (None, gs, work)) in r) StepWhole
text_from true name number line gs work free h = after_ok (text_line name number line work) _ IsWhole StepWhole (line_whole name number line work free h) (λ w k. k)
text_from false name number line gs work free h = h

either_whole : (name : List ℕ) (number : ℕ) (line : List ℕ) (gs : List Group) (work : Work) → NoFeed line → IsWhole work → (o : Option (List ℕ)) → directive_line line ≡ o
    → IfOk (text_or_directive name number line gs work o) StepWhole
either_whole name number line gs work free h (Some rest) e = directive_whole number (keyword_at rest) gs work (keyword_free rest (behind_free line rest e free)) h
either_whole name number line gs work free h None e = text_from (is_live gs) name number line gs work free h

step_whole : (name : List ℕ) (number : ℕ) (line : List ℕ) (gs : List Group) (work : Work) → NoFeed line → IsWhole work → IfOk (line_step name number line gs work) StepWhole
unfolding line_step
step_whole name number line gs work free h = either_whole name number line gs work free h (directive_line line) refl

at_ok : {A : Type 0} (name : List ℕ) (number : ℕ) (r : Result A Cause) (P : A → Type 0) (x : A) → IfOk r P → (on_line name number r).result ≡ Ok x → P x
at_ok name number (Ok y) P x h e = let k : y ≡ x = cc in subst P k h
at_ok name number (Err y) P x h e = absurd (cc)

pub read_whole : (name : List ℕ) (number : ℕ) (line : List ℕ) (gs : List Group) (work : Work) (o : Option (List ℕ)) (after : List Group) (done : Work)
    → (on_line name number (line_step name number line gs work)).result ≡ Ok (o, after, done) → NoFeed line → IsWhole work → IsWhole done
read_whole name number line gs work o after done e free h = at_ok name number (line_step name number line gs work) StepWhole (o, after, done) (step_whole name number line gs work free h) e

-- ---- the whole text

pub nothing_whole : (main : List ℕ) → IsWhole (nothing_yet main)
nothing_whole main = record { small = omega arith; some = omega arith; counted = refl; ended = inl refl; known = tt; values = λ name value e. absurd (cc) }

count_first : (b : ℕ) (ls : List (List ℕ)) → 0 < length ls → length (on_first_line b ls) ≡ length ls
count_first b [] h = absurd (omega arith)
count_first b (line ∷ ls) h = refl

feed_first : (b : ℕ) (front : List ℕ) (feed : Bool) → (b == 10) ≡ feed → feeds (b ∷ front) ≡ cond feed 1 0 + feeds front
feed_first b front feed h = sum_by-cons (λ (c : ℕ). cond (c == 10) 1 0) b front ∙ ap (λ (v : Bool). cond v 1 0 + feeds front) h

count_by_feed : (b : ℕ) (front : List ℕ) (ls : List (List ℕ)) (feed : Bool) → (b == 10) ≡ feed → length ls ≡ feeds front + 1
    → length (let all : List (List ℕ) = if feed then [] ∷ ls else on_first_line b ls in all) ≡ feeds (b ∷ front) + 1
count_by_feed b front ls true h e = omega (arith, feed_first b front true h, e)
count_by_feed b front ls false h e = omega (arith, feed_first b front false h, count_first b ls (omega arith), e)

count_ended : (front : List ℕ) → length (lines (front ++ 10 ∷ [])) ≡ feeds front + 1
count_ended [] = refl
count_ended (b ∷ front) = count_by_feed b front (lines (front ++ 10 ∷ [])) (b == 10) refl (count_ended front)

count_lines : (text : List ℕ) → IsEnded text → length (lines text) ≡ feeds text
count_lines text (inl e) = rw e refl
count_lines text (inr (front, e)) = rw e (count_ended front ∙ sym (feed_more front 10 true refl))

pub is_sound : (work : Work) → IsWhole work → IsSound (text_of work)
is_sound work h = record { small = h.small; some = h.some; placed = h.counted ∙ sym (count_lines work.page.text h.ended); known = h.known }
