-- meaning: the answer to a request, and the files that it asks for.
use Rattle.std.specs.Prelude.{◌≡◌, ℕ, ◌≤◌, List, [], ◌∷◌, ◌++◌, codes, length}
use Rattle.std.specs.Prelude.{Bool, Option, None, Some, Result, Ok, Err, if◌then◌else◌}
use Rattle.std.specs.Str.{bytes_eq}
use Rattle.sl_bind_compile.specs.Outcomes.{all_constructors}
use Rattle.sl_tool_generator.specs.Specification.{specification}
use Rattle.sl_list_instructions.specs.Listing.{IsListing}
use Rattle.sl_outside.specs.Causes.{Rose}
use Rattle.sl_outside.specs.Folder.{Folder}
use Rattle.sl_outside.specs.Uses.{Names, Asks, AsksFront}
use Rattle.sl_preproc.specs.Asks.{AsksFor as AsksForText}
use Rattle.sl_tool.specs.Assembled.{Assembles}
use Rattle.sl_tool.specs.Endings.{Shown, ShowsText, ended}
use Rattle.sl_tool.specs.GapText.{IsGapText}
use Rattle.sl_tool.specs.Generated.{AreFigures}
use Rattle.sl_tool.specs.Counts.{count_line}
use Rattle.sl_tool.specs.Patched.{PatchesFile}
use Rattle.sl_tool.specs.Request.{Request, CheckSpec, ShowImage, ReportGaps, Generate, PackSpec, AssembleText, PatchListing, is_explained, spec_of}
use Rattle.sl_tool.specs.Request.{Show, Listing, Operations, Run}
use Rattle.sl_tool.specs.Shows.{IsOperations, ShowsRun}
use Rattle.sl_tool.specs.declared.status.Status.{Status}
use Rattle.sl_tool.specs.declared.status.Status.TheVariants.{Refused}
use Rattle.sl_tool_request.specs.Requests.{PackedFile, SpecFile, TextFile}
use Rattle.sl_store_write.specs.Packs.{IsFileOf}
use Rattle.sl_tool_stages.specs.Noted.{noted_lines}
use Rattle.sl_tool_stages.specs.Packing.{packed_form_of}
use Rattle.sl_tool_stages.specs.Problems.{explained_text, refusal_text}
use Rattle.sl_tool_stages.specs.Stage.{Stage, Then}
use Rattle.sl_tool_stages.specs.Stages.{Loads, Specifies}
use Rattle.sl_tool_stages.specs.Values.{Compiled, Loaded}
use Rattle.sl_tool_stages.specs.declared.refusal.Refusal.{Refusal}
use Rattle.sl_base_surely.specs.Surely.{Surely}

-- ---- what is due

-- what is due at the end of a request
abbrev pub Due : Type 1
Due = Shown → Type 0

-- the notes on a sound specification, where it is explained
abbrev pub noted : (explains : Bool) → Compiled → List ℕ
noted explains c = if explains then noted_lines c.tree.origin else []

-- how many tables and constructors there are, and the notes
abbrev pub checked_text : (explains : Bool) → Compiled → List ℕ
checked_text explains c = count_line (length c.tables.tables) (length c.tables.constructors) ++ noted explains c

-- what is due of a sound specification that is checked
abbrev pub counts_of : (explains : Bool) → Compiled → Due
counts_of explains c = ShowsText (λ text. text ≡ checked_text explains c)

-- what is due of an image
abbrev pub shows_of : Show → Loaded → Due
shows_of Listing l = ShowsText
    (IsListing l.compiled.tables (all_constructors l.compiled.tree.items) l.image)
shows_of Operations l = ShowsText (IsOperations l)
shows_of (Run steps) l = ShowsRun l steps

-- what is due of a sound specification whose gaps are reported
abbrev pub gaps_of : Compiled → Due
gaps_of c = ShowsText (IsGapText c)

-- what is due of a specification that was generated
abbrev pub figures_of : (size : ℕ) → Compiled → Due
figures_of size c = AreFigures c size

-- what is due of a specification that is packed: its file
abbrev pub packs_of : Compiled → Due
packs_of c = ShowsText (λ bytes. IsFileOf (packed_form_of c.tree) bytes)

-- The last stage shows what is due, and refuses nothing.
abbrev pub Shows : {A : Type 0} → (A → Due) → Stage Refusal A Shown
Shows due a (Ok s) = due a s
Shows due a (Err x) = ⊥

-- ---- requests

-- What becomes of a sound specification, a line for each kind of request: what is shown, or a
-- refusal.
abbrev pub Follows : Option Folder → Request → Stage Refusal Compiled Shown
Follows told (CheckSpec spec explains) = Shows (counts_of explains)
Follows told (ShowImage t what) = Then (Loads told t) (Shows (shows_of what))
Follows told (ReportGaps spec) = Shows gaps_of
Follows told (Generate size) = Shows (figures_of size)
Follows told (PackSpec name) = Shows packs_of
Follows told (AssembleText a) = Assembles a
Follows told (PatchListing p) = PatchesFile told p

-- the specification that is generated
abbrev pub generated : Folder
generated name = if bytes_eq (codes "gen") name then Some specification else None

-- the files of a request: those outside, or the generated one
abbrev pub folder_for : Option Folder → Request → Option Folder
folder_for told (CheckSpec spec explains) = told
folder_for told (ShowImage t what) = told
folder_for told (ReportGaps spec) = told
folder_for told (Generate size) = Some generated
folder_for told (PackSpec name) = told
folder_for told (AssembleText a) = told
folder_for told (PatchListing p) = told

-- What becomes of a request that has these files.
abbrev pub AnswersFrom : Option Folder → Request → Result Shown Refusal → Type 0
AnswersFrom told r = Then (Specifies told) (Follows told r) (spec_of r)

-- What becomes of a request.
abbrev pub Answers : Option Folder → Request → Result Shown Refusal → Type 0
Answers told r = AnswersFrom (folder_for told r) r

-- the text of a refusal, with what more is said of it or without
abbrev pub told_of : (explains : Bool) → Refusal → List ℕ
told_of explains x = if explains then explained_text x else refusal_text x

abbrev pub text_of : Request → Result Shown Refusal → List ℕ
text_of r (Ok s) = s.text
text_of r (Err x) = told_of (is_explained r) x

abbrev pub status_of : Result Shown Refusal → Status
status_of (Ok s) = ended s.ending
status_of (Err x) = Refused

-- how many operations of p-code ran whole
abbrev pub ran_of : Result Shown Refusal → ℕ
ran_of (Ok s) = s.ran
ran_of (Err x) = 0

-- ---- files

-- The names that a request asks for once the specification is there: that of the image, or of the
-- listing.
abbrev pub asked_after : Request → List (List ℕ)
asked_after (CheckSpec spec explains) = []
asked_after (ShowImage t what) = t.image ∷ []
asked_after (ReportGaps spec) = []
asked_after (Generate size) = []
asked_after (PackSpec name) = []
asked_after (AssembleText a) = []
asked_after (PatchListing p) = p.listing ∷ []

-- The names that are asked for to read a specification: those of its text, or that of its packed
-- file.
abbrev pub AsksForFile : Option Folder → SpecFile → List (List ℕ) → Type 0
AsksForFile told (TextFile name) names = AsksForText told name names
AsksForFile told (PackedFile name) names = names ≡ name ∷ []

-- The names that a request asks its files for: those of the specification, and where that is sound
-- what it asks for then.
pub data AsksFrom (told : Option Folder) (r : Request) : List (List ℕ) → Type 0 where
  unsound : {names : List (List ℕ)} {x : Refusal} → AsksForFile told (spec_of r) names
      → Specifies told (spec_of r) (Err x) → AsksFrom told r names
  sound : (names : List (List ℕ)) {c : Compiled} → AsksForFile told (spec_of r) names
      → Specifies told (spec_of r) (Ok c) → AsksFrom told r (names ++ asked_after r)

-- The names that a request asks for. What is generated isn't asked for.
abbrev pub AsksFor : Option Folder → Request → List (List ℕ) → Type 0
AsksFor told (CheckSpec spec explains) = AsksFrom told (CheckSpec spec explains)
AsksFor told (ShowImage t what) = AsksFrom told (ShowImage t what)
AsksFor told (ReportGaps spec) = AsksFrom told (ReportGaps spec)
AsksFor told (Generate size) = λ names. names ≡ []
AsksFor told (PackSpec name) = AsksFrom told (PackSpec name)
AsksFor told (AssembleText a) = AsksFrom told (AssembleText a)
AsksFor told (PatchListing p) = AsksFrom told (PatchListing p)

-- A call asks for the names that are due: for all of them, or, where it stops early, for the first
-- of them. It fails only where the count of faults rose. The folder stays as it is.
pub record UsesFilesFor {F : Type 0} (told : F → Option Folder) (faults : F → ℕ) (asked : F → Names)
    (Asked : List (List ℕ) → Type 0) (old new : F) (early fails : Type 0) : Type 0 where
  pub same_folder : told new ≡ told old
  pub never_falls : faults old ≤ faults new
  pub failed : fails → Rose (faults old) (faults new)
  pub asks_front : Surely
      ((names : List (List ℕ)) × Asked names × AsksFront (asked old) (asked new) names)
  pub asks_all : (early → ⊥)
      → (names : List (List ℕ)) × Asked names × Asks (asked old) (asked new) names
