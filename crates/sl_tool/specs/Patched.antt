-- meaning: what is due of an edited listing whose image is made.
use Rattle.std.specs.Prelude.{◌≡◌, ℕ, List, Option, Ok, Err}
use Rattle.sl_asm_lines.specs.Patched.{Fails, Gives}
use Rattle.sl_asm_lines.specs.declared.faults.LineFault.{LineFault}
use Rattle.sl_asm_lines.specs.declared.faults.LineFault.TheVariants as fault
use Rattle.sl_bind_compile.specs.Outcomes.{all_constructors}
use Rattle.sl_outside.specs.Folder.{Folder}
use Rattle.sl_tool.specs.Endings.{Shown, ShowsText}
use Rattle.sl_tool_request.specs.Requests.{Patch}
use Rattle.sl_tool_stages.specs.Assembling.{BeginsLines}
use Rattle.sl_tool_stages.specs.Problems.{refusal}
use Rattle.sl_tool_stages.specs.Stage.{Stage, Then}
use Rattle.sl_tool_stages.specs.Stages.{Fetches}
use Rattle.sl_tool_stages.specs.Values.{Compiled}
use Rattle.sl_tool_stages.specs.declared.problem.Problem.{Problem}
use Rattle.sl_tool_stages.specs.declared.problem.Problem.TheVariants.{BadAddress, BadLine, NoEncoding, Undecided}
use Rattle.sl_tool_stages.specs.declared.refusal.Refusal.{Refusal}

abbrev pub problem_of_line : LineFault → Problem
problem_of_line fault.BadLine = BadLine
problem_of_line fault.BadAddress = BadAddress
problem_of_line fault.NoEncoding = NoEncoding
problem_of_line fault.Undecided = Undecided

-- The image is written, or the line at fault is refused.
abbrev pub Patches : Patch → Compiled → (text : List ℕ) → Stage Refusal ℕ Shown
Patches p c text start (Ok s) = ShowsText (Gives c.tables (all_constructors c.tree.items) start text) s
Patches p c text start (Err x) = (number : ℕ) × (fault : LineFault)
    × Fails c.tables (all_constructors c.tree.items) start text number fault
    × (x ≡ refusal p.listing number (problem_of_line fault))

-- What becomes of the text of the listing by a sound specification.
abbrev pub PatchesText : Patch → Compiled → Stage Refusal (List ℕ) Shown
PatchesText p c text = Then (BeginsLines p) (Patches p c text) c

-- The same of the listing's file.
abbrev pub PatchesFile : Option Folder → Patch → Stage Refusal Compiled Shown
PatchesFile told p c = Then (Fetches told) (PatchesText p c) p.listing
