-- meaning: the requests, and the usage line.
use Rattle.std.specs.Prelude.{ℕ, Bool, false, List, Option, codes, option_map}
use Rattle.sl_tool_request.specs.Requests.{Asked, Assembles, Assembly, Checks, Lists, Prints, Runs, Generates, Reports, Packs, Patch, Patches, Target, asked_of}
use Rattle.sl_tool_request.specs.Requests.{SpecFile, TextFile}

-- What is shown of an image: its listing, the listing with the operations of each instruction, or its
-- run for at most so many steps.
pub data Show : Type 0 where
  Listing : Show
  Operations : Show
  Run : (steps : ℕ) → Show

-- A specification, by its file, is checked, and where it is refused that is explained or not; an
-- image is shown by it; what it leaves unmatched is reported; one is generated, and listed and run
-- for so many instructions; the text with this main file is packed; an instruction is assembled; or
-- the image of an edited listing is made.
pub data Request : Type 0 where
  CheckSpec : SpecFile → (explains : Bool) → Request
  ShowImage : Target → Show → Request
  ReportGaps : SpecFile → Request
  Generate : (size : ℕ) → Request
  PackSpec : List ℕ → Request
  AssembleText : Assembly → Request
  PatchListing : Patch → Request

-- the file of the specification
abbrev pub spec_of : Request → SpecFile
spec_of (CheckSpec spec explains) = spec
spec_of (ShowImage t what) = t.spec
spec_of (ReportGaps spec) = spec
spec_of (Generate size) = TextFile (codes "gen")
spec_of (PackSpec name) = TextFile name
spec_of (AssembleText a) = a.spec
spec_of (PatchListing p) = p.spec

-- A refusal is explained.
abbrev pub is_explained : Request → Bool
is_explained (CheckSpec spec explains) = explains
is_explained (ShowImage t what) = false
is_explained (ReportGaps spec) = false
is_explained (Generate size) = false
is_explained (PackSpec name) = false
is_explained (AssembleText a) = false
is_explained (PatchListing p) = false

abbrev pub request_for : Asked → Request
request_for (Checks spec explains) = CheckSpec spec explains
request_for (Lists t) = ShowImage t Listing
request_for (Prints t) = ShowImage t Operations
request_for (Runs t steps) = ShowImage t (Run steps)
request_for (Generates size) = Generate size
request_for (Reports spec) = ReportGaps spec
request_for (Packs name) = PackSpec name
request_for (Assembles a) = AssembleText a
request_for (Patches p) = PatchListing p

-- What the words of a command line, the program's name first, ask for.
abbrev pub request_of : List (List ℕ) → Option Request
request_of words = option_map request_for (asked_of words)

abbrev pub usage_line : List ℕ
usage_line = codes "usage: sleigh check SPEC | list SPEC IMAGE | pcode SPEC IMAGE | run SPEC IMAGE | gen NUMBER | gaps SPEC | pack SPEC | asm SPEC TEXT\n"
