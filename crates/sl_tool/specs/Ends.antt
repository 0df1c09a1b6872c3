-- meaning: what stands written at the end of a call, and the files that it asked for.
use Rattle.std.specs.Prelude.{◌≡◌, ℕ, ◌⊎◌, List, [], take, Option, Some, None, Result, ⊤}
use Rattle.std.specs.Io.KnownBytes.{Appends}
use Rattle.sl_outside.specs.Folder.{Folder}
use Rattle.sl_outside.specs.Uses.{Names, UsesFiles}
use Rattle.sl_tool.specs.Answers.{Answers, AsksFor, UsesFilesFor, ran_of, status_of, text_of}
use Rattle.sl_tool.specs.Request.{AssembleText, CheckSpec, Generate, PackSpec, PatchListing, ReportGaps, Request, ShowImage, usage_line}
use Rattle.sl_tool.specs.Request.{Show, Listing, Operations, Run}
use Rattle.sl_tool.specs.Endings.{Shown}
use Rattle.sl_tool.specs.declared.status.Status.{Status}
use Rattle.sl_tool.specs.declared.status.Status.TheVariants.{Done, Refused, Usage, Stopped}
use Rattle.sl_tool.specs.declared.status.Status.TheVariants.{ReadFault, WriteFault, NoMemory}
use Rattle.sl_tool_stages.specs.declared.refusal.Refusal.{Refusal}

-- The status and the text that are due of a request, and how many operations run whole; or of words
-- that are none.
pub data Means (told : Option Folder) : Option Request → Status → List ℕ → (ran : ℕ) → Type 0 where
  usage : Means told None Usage usage_line 0
  answer : {r : Request} {x : Result Shown Refusal} → Answers told r x
      → Means told (Some r) (status_of x) (text_of r x) (ran_of x)

-- The whole text that is due with this status was written, and the count grew as it says.
abbrev pub WritesWhole : Option Folder → Option Request → Option (List ℕ) → Option (List ℕ)
    → (Grown : ℕ → Type 0) → Status → Type 0
WritesWhole told r old new Grown status = (text : List ℕ) × (ran : ℕ)
    × Means told r status text ran × Appends old new text × Grown ran

-- The first bytes of a text that is due were written, and the count grew as it says.
abbrev pub WritesFirst : Option Folder → Option Request → Option (List ℕ) → Option (List ℕ)
    → (Grown : ℕ → Type 0) → Type 0
WritesFirst told r old new Grown =
    (status : Status) × (text : List ℕ) × (ran : ℕ) × (count : ℕ)
    × Means told r status text ran × Appends old new (take count text) × Grown ran

-- It asks for files of the caller, as what is generated doesn't.
abbrev pub ReadsFiles : Option Request → Type 0
ReadsFiles None = ⊥
ReadsFiles (Some (CheckSpec spec explains)) = ⊤
ReadsFiles (Some (ShowImage t what)) = ⊤
ReadsFiles (Some (ReportGaps spec)) = ⊤
ReadsFiles (Some (Generate size)) = ⊥
ReadsFiles (Some (PackSpec name)) = ⊤
ReadsFiles (Some (AssembleText a)) = ⊤
ReadsFiles (Some (PatchListing p)) = ⊤

-- It is shown without a run.
abbrev pub IsStill : Show → Type 0
IsStill Listing = ⊤
IsStill Operations = ⊤
IsStill (Run steps) = ⊥

-- Nothing is run.
abbrev pub RunsNothing : Option Request → Type 0
RunsNothing None = ⊤
RunsNothing (Some (CheckSpec spec explains)) = ⊤
RunsNothing (Some (ShowImage t what)) = IsStill what
RunsNothing (Some (ReportGaps spec)) = ⊤
RunsNothing (Some (Generate size)) = ⊥
RunsNothing (Some (PackSpec name)) = ⊤
RunsNothing (Some (AssembleText a)) = ⊤
RunsNothing (Some (PatchListing p)) = ⊤

-- What was written at each status, and how the count of operations grew; where memory ran out
-- before anything was written, it isn't told.
abbrev pub Ends : Option Folder → Option Request → Option (List ℕ) → Option (List ℕ)
    → (Grown : ℕ → Type 0) → Status → Type 0
Ends told r old new Grown Done = WritesWhole told r old new Grown Done
Ends told r old new Grown Refused = WritesWhole told r old new Grown Refused
Ends told r old new Grown Usage = WritesWhole told r old new Grown Usage
Ends told r old new Grown ReadFault = ReadsFiles r × Appends old new [] × Grown 0
Ends told r old new Grown WriteFault = WritesFirst told r old new Grown
Ends told r old new Grown NoMemory = Appends old new [] ⊎ WritesFirst told r old new Grown
Ends told r old new Grown Stopped = WritesWhole told r old new Grown Stopped

-- The call stopped before its end.
abbrev pub IsEarlyStatus : Status → Type 0
IsEarlyStatus status = (status ≡ ReadFault) ⊎ (status ≡ NoMemory)

-- What the call does to the files: without a request it asks for none.
abbrev pub RunsFor : {F : Type 0} → (F → Option Folder) → (F → ℕ) → (F → Names) → Option Request
    → F → F → Status → Type 0
RunsFor told faults asked None old new status =
    UsesFiles told faults asked old new [] ⊥ (status ≡ ReadFault)
RunsFor told faults asked (Some r) old new status =
    UsesFilesFor told faults asked (AsksFor (told old) r) old new
    (IsEarlyStatus status) (status ≡ ReadFault)
