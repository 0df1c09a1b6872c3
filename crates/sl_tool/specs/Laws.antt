-- meaning: laws above the definitions.
use Rattle.std.specs.Prelude.{◌≡◌, ℕ, ◌≤◌, ◌⊎◌, false, List, length, Option, Some, IsSome, Result, Ok, Err, ⊤}
use Rattle.std.specs.Io.KnownBytes.{Appends}
use Rattle.sl_asm_lines.specs.Patched.{IsUnedited, ListsAlike}
use Rattle.sl_bind_compile.specs.Outcomes.{all_constructors}
use Rattle.sl_list_instructions.specs.Listing.{IsListing, image_from}
use Rattle.sl_outside.specs.Causes.{Rose}
use Rattle.sl_outside.specs.Folder.{Folder, size_limit}
use Rattle.sl_store_format.specs.Packed.{IsPacked}
use Rattle.sl_store_write.specs.Packs.{IsFileOf}
use Rattle.sl_tool_contexts.specs.Words.{starting_context}
use Rattle.sl_tool_request.specs.Requests.{Assembly, PackedFile, Patch, SpecFile, TextFile}
use Rattle.sl_tool.specs.Answers.{Answers, generated}
use Rattle.sl_tool.specs.Assembled.{EncodesText}
use Rattle.sl_tool.specs.Endings.{Shown, ended}
use Rattle.sl_tool.specs.Ends.{Ends, ReadsFiles}
use Rattle.sl_tool.specs.Growth.{Grew}
use Rattle.sl_tool.specs.Request.{AssembleText, CheckSpec, Generate, PackSpec, PatchListing, ReportGaps, Request, ShowImage, Listing, Operations, Run, spec_of}
use Rattle.sl_tool.specs.declared.status.Ending.{Ending}
use Rattle.sl_tool.specs.declared.status.Ending.TheVariants.{Done}
use Rattle.sl_tool.specs.declared.status.Status.{Status}
use Rattle.sl_tool.specs.declared.status.Status.TheVariants.{NoMemory, ReadFault, WriteFault}
use Rattle.sl_tool_stages.specs.Assembling.{Begins, BeginsLines}
use Rattle.sl_tool_stages.specs.Packing.{packed_form_of}
use Rattle.sl_tool_stages.specs.Stage.{Then}
use Rattle.sl_tool_stages.specs.Stages.{Fetches, Loads, Specifies}
use Rattle.sl_tool_stages.specs.Values.{Compiled, Loaded}
use Rattle.sl_tool_stages.specs.declared.refusal.Refusal.{Refusal}
use Rattle.sl_base_surely.specs.Surely.{Surely}

-- The same refusal, or the same ending and text. How many operations run in an instruction is another number for another
-- list that does what the instruction does.
abbrev pub AreAlike : Result Shown Refusal → Result Shown Refusal → Type 0
AreAlike (Ok s) (Ok u) = (s.ending ≡ u.ending) × (s.text ≡ u.text)
AreAlike (Err x) (Err y) = x ≡ y
AreAlike _ _ = ⊥

-- Any list of operations that does what an instruction does may be printed, and any shortest encoding of a text, or any of a line.
abbrev pub HasOneText : Request → Type 0
HasOneText (CheckSpec spec explains) = ⊤
HasOneText (ShowImage t Listing) = ⊤
HasOneText (ShowImage t Operations) = ⊥
HasOneText (ShowImage t (Run steps)) = ⊤
HasOneText (ReportGaps spec) = ⊤
HasOneText (Generate size) = ⊤
HasOneText (PackSpec name) = ⊤
HasOneText (AssembleText a) = ⊥
HasOneText (PatchListing p) = ⊥

-- The folder is told, or what is asked for needs none.
abbrev pub IsTold : Option Folder → Request → Type 0
IsTold told (CheckSpec spec explains) = IsSome told
IsTold told (ShowImage t what) = IsSome told
IsTold told (ReportGaps spec) = IsSome told
IsTold told (Generate size) = ⊤
IsTold told (PackSpec name) = IsSome told
IsTold told (AssembleText a) = IsSome told
IsTold told (PatchListing p) = IsSome told

-- But for those lists and encodings a request has one answer at most.
abbrev pub HasOneAnswer : Type 0
HasOneAnswer = (told : Option Folder) (r : Request) (x y : Result Shown Refusal) → IsTold told r → HasOneText r
    → Answers told r x → Answers told r y → AreAlike x y

-- What is packed has a file: each name of a file is UTF-8, and there are few enough for a file to count them. Of a text that the
-- program read that is so.
abbrev pub MayPack : Option Folder → Request → Type 0
MayPack told (PackSpec name) = (c : Compiled) → Specifies told (TextFile name) (Ok c) → IsPacked (packed_form_of c.tree)
MayPack told _ = ⊤

-- It can't be that a request has no answer.
abbrev pub HasSomeAnswer : Type 0
HasSomeAnswer = (told : Option Folder) (r : Request) → MayPack told r → Surely ((x : Result Shown Refusal) × Answers told r x)

-- ---- what is accepted is answered

-- The text has an encoding where it is to be assembled.
pub record HasEncoding (told : Option Folder) (a : Assembly) : Type 0 where
  pub compiled : Compiled
  pub context : ℕ
  pub bytes : List ℕ
  pub sound : Specifies told a.spec (Ok compiled)
  pub begins : Begins a compiled (Ok context)
  pub encodes : EncodesText a compiled context bytes

-- The listing is there, may be assembled, and wasn't edited.
pub record HasListing (told : Option Folder) (p : Patch) : Type 0 where
  pub compiled : Compiled
  pub text : List ℕ
  pub start : ℕ
  pub sound : Specifies told p.spec (Ok compiled)
  pub there : Fetches told p.listing (Ok text)
  pub begins : BeginsLines p compiled (Ok start)
  pub unedited : IsUnedited compiled.tables (all_constructors compiled.tree.items) start text

-- What a request names is accepted: the specification is sound, where an image is shown, there is one beside it, where a text
-- is assembled, it has an encoding, and where the image of a listing is made, it is that of one.
abbrev pub Accepts : Option Folder → Request → Type 0
Accepts told (CheckSpec spec explains) = (c : Compiled) × Specifies told spec (Ok c)
Accepts told (ShowImage t what) = (l : Loaded) × Then (Specifies told) (Loads told t) t.spec (Ok l)
Accepts told (ReportGaps spec) = (c : Compiled) × Specifies told spec (Ok c)
Accepts told (Generate size) = (c : Compiled) × Specifies (Some generated) (spec_of (Generate size)) (Ok c)
Accepts told (PackSpec name) = (c : Compiled) × Specifies told (TextFile name) (Ok c)
Accepts told (AssembleText a) = HasEncoding told a
Accepts told (PatchListing p) = HasListing told p

pub record IsAccepted (told : Option Folder) (r : Request) : Type 0 where
  pub is_told : IsTold told r
  pub accepts : Accepts told r
  pub may_pack : MayPack told r

-- how a request may end that isn't refused: but for a run, which may stop, as done
abbrev pub MayEnd : Request → Ending → Type 0
MayEnd (CheckSpec spec explains) ending = ending ≡ Done
MayEnd (ShowImage t Listing) ending = ending ≡ Done
MayEnd (ShowImage t Operations) ending = ending ≡ Done
MayEnd (ShowImage t (Run steps)) ending = ⊤
MayEnd (ReportGaps spec) ending = ending ≡ Done
MayEnd (Generate size) ending = ending ≡ Done
MayEnd (PackSpec name) ending = ending ≡ Done
MayEnd (AssembleText a) ending = ending ≡ Done
MayEnd (PatchListing p) ending = ending ≡ Done

-- It can't be that the request has no answer with an ending, and it has no other.
pub record IsAnswered (told : Option Folder) (r : Request) : Type 0 where
  pub some : Surely ((s : Shown) × Answers told r (Ok s))
  pub endings : (s : Shown) → Answers told r (Ok s) → MayEnd r s.ending
  pub no_refusal : (x : Refusal) → Answers told r (Err x) → ⊥

abbrev pub AcceptedAreAnswered : Type 0
AcceptedAreAnswered = (told : Option Folder) (r : Request) → IsAccepted told r → IsAnswered told r

-- ---- packed specifications

-- the request over this file of a specification; `gen` and `pack` are over none that could be packed. A packed file has no text,
-- on which there could be notes: so `check` is taken without the option.
abbrev pub over : SpecFile → Request → Request
over file (CheckSpec spec explains) = CheckSpec file false
over file (ShowImage t what) = ShowImage (record t { spec = file }) what
over file (ReportGaps spec) = ReportGaps file
over file (Generate size) = Generate size
over file (PackSpec name) = PackSpec name
over file (AssembleText a) = AssembleText (record a { spec = file })
over file (PatchListing p) = PatchListing (record p { spec = file })

-- Two requests have the same answers.
abbrev pub AreAnsweredAlike : Option Folder → Request → Request → Type 0
AreAnsweredAlike told r q = (x : Result Shown Refusal) → (Answers told r x → Answers told q x) × (Answers told q x → Answers told r x)

-- Where a folder has the text of a sound specification, and under another name the file that it packs into, which isn't too long,
-- each request over this file is answered as the same over the text.
abbrev pub PackedIsAlike : Type 0
PackedIsAlike = (folder : Folder) (main name bytes : List ℕ) (c : Compiled) (r : Request)
    → Specifies (Some folder) (TextFile main) (Ok c) → IsFileOf (packed_form_of c.tree) bytes → length bytes ≤ size_limit
    → folder name ≡ Some bytes → AreAnsweredAlike (Some folder) (over (TextFile main) r) (over (PackedFile name) r)

-- ---- what is assembled

-- The text is the listing of some bytes by the specification, from the base on and with the context that the words give.
pub record ListsSome (told : Option Folder) (a : Assembly) (text : List ℕ) : Type 0 where
  pub compiled : Compiled
  pub context : ℕ
  pub bytes : List ℕ
  pub sound : Specifies told a.spec (Ok compiled)
  pub given : starting_context compiled.tables a.context ≡ Ok context
  pub lists : IsListing compiled.tables (all_constructors compiled.tree.items) (image_from bytes a.base context) text

-- What is printed of a text that is assembled is what `list` prints of the bytes there.
abbrev pub AssembledIsListed : Type 0
AssembledIsListed = (told : Option Folder) (a : Assembly) (s : Shown) → Answers told (AssembleText a) (Ok s) → ListsSome told a s.text

-- An image is listed by the specification as the text of the file says, but for the bytes of lines that were edited: with the
-- same addresses, numbers of bytes and texts, in the context that the words give.
pub record ListsListing (told : Option Folder) (p : Patch) (image : List ℕ) : Type 0 where
  pub compiled : Compiled
  pub text : List ℕ
  pub start : ℕ
  pub sound : Specifies told p.spec (Ok compiled)
  pub there : Fetches told p.listing (Ok text)
  pub given : starting_context compiled.tables p.context ≡ Ok start
  pub alike : ListsAlike compiled.tables (all_constructors compiled.tree.items) start text image

-- What is written of an edited listing is such an image.
abbrev pub PatchedIsListed : Type 0
PatchedIsListed = (told : Option Folder) (p : Patch) (s : Shown) → Answers told (PatchListing p) (Ok s) → ListsListing told p s.text

-- ---- the whole call

-- a count before a call and after it
pub record Counted : Type 0 where
  pub before : ℕ
  pub after : ℕ

abbrev pub HasRisen : Counted → Type 0
HasRisen c = Rose c.before c.after

-- What the whole call says of its end, by the counts of faults of its files and its sink, and that of its runner.
pub record EndsSo (told : Option Folder) (r : Request) (files sink runner : Counted) (old new : Option (List ℕ)) (status : Status) : Type 0 where
  pub ends : Ends told (Some r) old new (Grew runner.before runner.after) status
  pub reads : status ≡ ReadFault → HasRisen files
  pub writes : status ≡ WriteFault → HasRisen sink

-- The whole text of an answer that isn't refused was written, with its status, and the runner's count grew as it says.
pub record WritesAnswer (told : Option Folder) (r : Request) (runner : Counted) (old new : Option (List ℕ)) (status : Status) : Type 0 where
  pub shown : Shown
  pub answers : Answers told r (Ok shown)
  pub may_end : MayEnd r shown.ending
  pub status_is : status ≡ ended shown.ending
  pub written : Appends old new shown.text
  pub grew : Grew runner.before runner.after shown.ran

-- Where what a request names is accepted and no count of faults rose, that of the files left out where it reads none, the call
-- writes a whole answer, unless memory runs out.
abbrev pub IsComplete : Type 0
IsComplete = (told : Option Folder) (r : Request) (files sink runner : Counted) (old new : Option (List ℕ)) (status : Status)
    → EndsSo told r files sink runner old new status → IsAccepted told r → (ReadsFiles (Some r) → HasRisen files → ⊥) → (HasRisen sink → ⊥)
    → (status ≡ NoMemory) ⊎ WritesAnswer told r runner old new status
