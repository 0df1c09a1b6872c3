-- What was written of an image, as it is due.
use Rattle.std.proofs.Common.{ℕ, ◌≤◌, List, ◌++◌, Option, Result, Ok, Err, inl, inr, refl, sym, subst, ◌∙◌, length, min, arith}
use Rattle.std.specs.Io.KnownBytes.{Appends}
use Rattle.std.specs.Result.{IsErrOf}
use Rattle.std.proofs.lemmas.List.{take-append-le, take_min}
use Rattle.sl_bind.specs.Binding.{Binds}
use Rattle.sl_faithful_accepted.specs.Laws.{IsShort}
use Rattle.sl_bind_compile.specs.Outcomes.{Compiles, all_constructors}
use Rattle.sl_list_instructions.specs.Fronts.{AppendsFront}
use Rattle.sl_list_instructions.specs.declared.listings.ListError.{ListError}
use Rattle.sl_list_instructions.specs.declared.listings.ListError.TheVariants as list
use Rattle.sl_list_instructions.specs.Listing.{IsListing}
use Rattle.sl_list_instructions.specs.Writing as lister
use Rattle.sl_outside.specs.Uses.{UsesSink}
use Rattle.sl_list_pcode.proofs.WholeLemmas.{begun_go_on}
use Rattle.sl_list_pcode.specs.Writing as pcode
use Rattle.sl_tool.specs.Answers.{Due, shows_of}
use Rattle.sl_tool.specs.Writing.{IsOfWriting, listed}
use Rattle.sl_tool.specs.Streams.{RanNone, Streams, StreamsFront}
use Rattle.sl_tool.specs.Request.{Listing, Operations}
use Rattle.sl_tool.specs.Shows.{IsOperations}
use Rattle.sl_tool.specs.Endings.{Shown, ShowsText, shown}
use Rattle.sl_tool.specs.declared.status.Ending.TheVariants.{Done}
use Rattle.sl_tool_stages.specs.Outcomes.{FailsToWrite}
use Rattle.sl_tool_stages.specs.Values.{Loaded}
use Rattle.sl_tool_stages.specs.declared.halt.Halt.{Halt}
use Rattle.sl_tool_stages.specs.declared.halt.Halt.TheVariants.{NoMemory, ReadFault, Refused, WriteFault}
use Rattle.sl_word.specs.declared.word.Size.{Size}

-- a text that is due, in which nothing runs
abbrev pub told_so : (Is : List ℕ → Type 0) (text : List ℕ) → Is text → ShowsText Is (shown Done text 0)
told_so Is text is = record { ending = refl; text = is; ran = refl }

module _ (Is : List ℕ → Type 0) (a b : Option (List ℕ)) where
  whole_told : (text : List ℕ) → Is text → Appends a b text → Streams (ShowsText Is) a b RanNone (Ok Done)
  whole_told text is w = (text, 0, told_so Is text is, w, refl)

  front_told : (text : List ℕ) → Is text → AppendsFront a b text → StreamsFront (ShowsText Is) a b RanNone
  front_told text is w = (shown Done text 0, w.0, told_so Is text is, w.1, refl)

-- the front of a front of a text is one of the text
front_goes_on : (a b : Option (List ℕ)) (text rest : List ℕ) → AppendsFront a b text → AppendsFront a b (text ++ rest)
front_goes_on a b text rest w =
    let count : ℕ = min w.0 (length text) in
    let within : min w.0 (length text) ≤ length text = omega arith in (
      count,
      subst (λ (l : List ℕ). Appends a b l) (sym (take_min w.0 text) ∙ sym (take-append-le count text rest within)) w.1,
    )

-- what was written of a text that is due, where the writing stopped
pub written_front : (due : Due) (a b : Option (List ℕ)) (G : ℕ → Type 0) (s : Shown) (h : Halt) → due s → G s.ran → IsOfWriting h → AppendsFront a b s.text
    → Streams due a b G (Err h)
written_front due a b G s (Refused x) is grew w f = absurd w
written_front due a b G s ReadFault is grew w f = absurd w
written_front due a b G s WriteFault is grew w f = (s, f.0, is, f.1, grew)
written_front due a b G s NoMemory is grew w f = inr (s, f.0, is, f.1, grew)

-- ---- a listing

-- the sink fails only where the writing does
pub listed_sink : {K : Type 0} (faults calls : K → ℕ) (old new : K) (x : Result (Unit {0}) ListError) → UsesSink faults calls old new (IsErrOf x list.WriteFault)
    → UsesSink faults calls old new (FailsToWrite (listed x))
listed_sink faults calls old new (Ok done) u = record { never_falls = u.never_falls; failed = λ f. absurd f; goes_on = u.goes_on }
listed_sink faults calls old new (Err list.WriteFault) u = record { never_falls = u.never_falls; failed = λ f. u.failed refl; goes_on = u.goes_on }
listed_sink faults calls old new (Err list.NoMemory) u = record { never_falls = u.never_falls; failed = λ f. absurd f; goes_on = u.goes_on }

module _ (l : Loaded) (a b : Option (List ℕ)) where
  abbrev Is : List ℕ → Type 0
  Is = IsListing l.compiled.tables (all_constructors l.compiled.tree.items) l.image

  pub listed_streams : (x : Result (Unit {0}) ListError) → lister.Writes l.compiled.tables (all_constructors l.compiled.tree.items) l.image a b x
      → Streams (shows_of Listing l) a b RanNone (listed x)
  listed_streams (Ok done) w = whole_told Is a b w.0 w.1 w.2
  listed_streams (Err list.WriteFault) w = front_told Is a b w.0 w.1 w.2
  listed_streams (Err list.NoMemory) (inl w) = inl w
  listed_streams (Err list.NoMemory) (inr w) = inr (front_told Is a b w.0 w.1 w.2)

-- ---- a listing with operations, what begins of which is the front of one

module _ (l : Loaded) (sizes : List (List Size)) (short : IsShort l.compiled.tree.items) (bound : Binds l.compiled.tree.items (Ok (l.compiled.tables, sizes)))
    (compiles : Compiles l.compiled.tree.items (Ok l.compiled.tables)) (a b : Option (List ℕ)) where
  begun_front : pcode.WritesFront l.compiled.tree.items l.compiled.tables sizes l.image a b → StreamsFront (shows_of Operations l) a b RanNone
  begun_front w =
      let more = begun_go_on l.compiled.tree.items l.compiled.tables sizes l.image w.0 short bound compiles w.1 in
      front_told (IsOperations l) a b (w.0 ++ more.0) (record { sizes = sizes; bound = bound; lists = more.1 }) (front_goes_on a b w.0 more.0 w.2)

  pub printed_streams : (x : Result (Unit {0}) ListError) → pcode.Writes l.compiled.tree.items l.compiled.tables sizes l.image a b x
      → Streams (shows_of Operations l) a b RanNone (listed x)
  printed_streams (Ok done) w = whole_told (IsOperations l) a b w.0 (record { sizes = sizes; bound = bound; lists = w.1 }) w.2
  printed_streams (Err list.WriteFault) w = begun_front w
  printed_streams (Err list.NoMemory) (inl w) = inl w
  printed_streams (Err list.NoMemory) (inr w) = inr (begun_front w)
