-- law: what is printed of a refused specification that is explained is its text, and then whole lines.
use Rattle.std.specs.Prelude.{◌≡◌, List, ◌++◌, Some, Err, ℕ}
use Rattle.sl_explain_lines.specs.Laws.{AreLines}
use Rattle.sl_outside.specs.Folder.{Folder}
use Rattle.sl_tool_request.specs.Requests.{SpecFile}
use Rattle.sl_tool_stages.specs.Problems.{explained_text, refusal_text}
use Rattle.sl_tool_stages.specs.Stages.{Specifies}
use Rattle.sl_tool_stages.specs.declared.refusal.Refusal.{Refusal}

-- Whatever bytes the files have, each line has no control byte.
abbrev pub ExplainsInLines : Type 0
ExplainsInLines = (folder : Folder) (spec : SpecFile) (x : Refusal) → Specifies (Some folder) spec (Err x)
    → (lines : List ℕ) × AreLines lines × (explained_text x ≡ refusal_text x ++ lines)
