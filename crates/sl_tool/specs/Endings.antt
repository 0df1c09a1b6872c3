-- meaning: what a command shows, and the status of each ending.
use Rattle.std.specs.Prelude.{◌≡◌, ℕ, List, Bool, true, false}
use Rattle.sl_tool.specs.declared.status.Ending.{Ending}
use Rattle.sl_tool.specs.declared.status.Ending.TheVariants as ending
use Rattle.sl_tool.specs.declared.status.Status.{Status}
use Rattle.sl_tool.specs.declared.status.Status.TheVariants as status

-- how a command ends, what it writes, and how many operations of p-code ran whole
pub record Shown : Type 0 where
  pub ending : Ending
  pub text : List ℕ
  pub ran : ℕ

-- This text is written, and no operation is run.
pub record ShowsText (Is : List ℕ → Type 0) (s : Shown) : Type 0 where
  pub ending : s.ending ≡ ending.Done
  pub text : Is s.text
  pub ran : s.ran ≡ 0

abbrev pub shown : Ending → List ℕ → (ran : ℕ) → Shown
shown ending text ran = record { ending = ending; text = text; ran = ran }

abbrev pub ended : Ending → Status
ended ending.Done = status.Done
ended ending.Stopped = status.Stopped

-- the ending of a run
abbrev pub ending_of : Bool → Ending
ending_of true = ending.Stopped
ending_of false = ending.Done
