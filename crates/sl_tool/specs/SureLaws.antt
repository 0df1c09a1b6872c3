-- meaning: what a report on gaps promises whose last line is `sure`.
use Rattle.std.specs.Prelude.{◌≡◌, ℕ, ◌⊎◌, List, [], ◌++◌, codes, Option, Some, Ok}
use Rattle.sl_bind_compile.specs.Outcomes.{all_constructors}
use Rattle.sl_gap_sure.specs.Matched.{NeverUnmatched}
use Rattle.sl_outside.specs.Folder.{Folder}
use Rattle.sl_tool.specs.Ends.{Ends}
use Rattle.sl_tool.specs.Growth.{Grew}
use Rattle.sl_tool.specs.Laws.{Counted}
use Rattle.sl_tool.specs.Request.{ReportGaps}
use Rattle.sl_tool.specs.declared.status.Status.TheVariants.{Done}
use Rattle.sl_tool_request.specs.Requests.{SpecFile}
use Rattle.sl_tool_stages.specs.Stages.{Specifies}
use Rattle.sl_tool_stages.specs.Values.{Compiled}

-- This is the whole last line of the text: nothing stands before it, or a line feed does.
pub record HasLastLine (line text : List ℕ) : Type 0 where
  pub before : List ℕ
  pub is : text ≡ before ++ (line ++ codes "\n")
  pub whole : (before ≡ []) ⊎ ((rest : List ℕ) × (before ≡ rest ++ codes "\n"))

-- The file is that of a sound specification by which no decode ends for want of a constructor.
abbrev pub IsMatched : Option Folder → SpecFile → Type 0
IsMatched told file = (c : Compiled) × Specifies told file (Ok c) × NeverUnmatched c.tables (all_constructors c.tree.items)

-- Where a call reports gaps and ends as done, and the last line of the text that it wrote is `sure`, the specification is such.
abbrev pub PrintedSureIsMatched : Type 0
PrintedSureIsMatched = (told : Option Folder) (file : SpecFile) (runner : Counted) (old text : List ℕ)
    → Ends told (Some (ReportGaps file)) (Some old) (Some (old ++ text)) (Grew runner.before runner.after) Done
    → HasLastLine (codes "sure") text → IsMatched told file
