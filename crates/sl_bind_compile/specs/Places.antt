-- step: what errors of the crates below tell, as refusals.
use Rattle.std.specs.Prelude.{◌≡◌, ℕ, List, Option, Some, None}
use Rattle.sl_bind_compile.specs.Outcomes.{Refusal, ambiguous, flawed, item_of_ctor, of_report}
use Rattle.sl_bind_compile.specs.AtTokens.{at_tokens}
use Rattle.sl_bind_compile.specs.declared.error.CompileError.{CompileError}
use Rattle.sl_bind_compile.specs.declared.error.CompileError.TheVariants as error
use Rattle.sl_bind_compile.specs.declared.error.Flaw.{Flaw}
use Rattle.sl_bind_compile.specs.declared.error.Flaw.TheVariants as flaw
use Rattle.sl_cube_sets.specs.declared.report.Report.{Report}
use Rattle.sl_shape.specs.declared.errors.ShapeError.{ShapeError}
use Rattle.sl_shape.specs.declared.errors.ShapeError.TheVariants as shape
use Rattle.sl_conflict.specs.declared.judging.ConflictError.{ConflictError}
use Rattle.sl_conflict.specs.declared.judging.ConflictError.TheVariants as conflict
use Rattle.sl_conflict.specs.declared.soundness.Unsound.{Unsound}
use Rattle.sl_conflict.specs.declared.soundness.Unsound.TheVariants as unsound
use Rattle.sl_spec.specs.declared.tables.Tables.{Tables}

-- the flaw and its constructor, unless memory ran out
abbrev pub fault_told : ShapeError → Option (Flaw × ℕ)
fault_told (shape.InteriorEllipsis ctor) = Some (flaw.InteriorEllipsis, ctor)
fault_told (shape.TokensDiffer ctor) = Some (flaw.TokensDiffer, ctor)
fault_told (shape.Impossible ctor) = Some (flaw.Impossible, ctor)
fault_told (shape.TooManyCubes ctor n) = Some (flaw.TooManyCubes n, ctor)
fault_told (shape.WindowTooLong ctor n) = Some (flaw.WindowTooLong n, ctor)
fault_told shape.NoMemory = None

-- the table and the report on it, unless memory ran out
abbrev pub report_told : ConflictError → Option (ℕ × Report)
report_told (conflict.Ambiguous table first second both apart) =
    Some (table, record { both = both; first = first; second = second; apart = apart })
report_told conflict.NoMemory = None

-- a fault as it is refused
abbrev pub fault_refused : Tables → Option (Flaw × ℕ) → Option Refusal
fault_refused t None = None
fault_refused t (Some f) = Some (flawed f.0 (item_of_ctor t f.1))

-- a report as it is refused
abbrev pub report_refused : Tables → Option (ℕ × Report) → Option Refusal
report_refused t None = None
report_refused t (Some r) = Some (ambiguous (of_report t r.0 r.1))

-- why the tables are refused, unless memory ran out
abbrev pub refused : Tables → Unsound → Option Refusal
refused t (unsound.Shape e) = fault_refused t (fault_told e)
refused t (unsound.Conflict e) = report_refused t (report_told e)

abbrev pub IsTold : List ℕ → Option Refusal → Refusal → Type 0
IsTold indexes None told = ⊥
IsTold indexes (Some x) told = told ≡ at_tokens indexes x

-- The error tells the refusal by first tokens, unless memory ran out.
abbrev pub TellsRefusal : List ℕ → Option Refusal → CompileError → Type 0
TellsRefusal indexes x (error.Flaw flaw token) = IsTold indexes x (flawed flaw token)
TellsRefusal indexes x (error.Ambiguous a) = IsTold indexes x (ambiguous a)
TellsRefusal indexes x error.NoMemory = Unit {0}
