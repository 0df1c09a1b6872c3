-- meaning: what becomes of a specification: its tables, where they are sound, or the first reason why it is refused.
use Rattle.std.specs.Prelude.{◌≡◌, ◌⊎◌, ℕ, List, [], Option, Some, None, Result, Ok, Err, option_map, slice_get}
use Rattle.sl_ast.specs.Trees.{Constructor, Item}
use Rattle.sl_ast.specs.Unfolding.{Placed, unfolded}
use Rattle.sl_bind.specs.Binding as bind
use Rattle.sl_bind.specs.declared.fault.BindFault.{BindFault}
use Rattle.sl_bind.specs.declared.fault.BindFault.TheVariants as broken
use Rattle.sl_bind_compile.specs.Ambiguity.{Ambiguity}
use Rattle.sl_bind_compile.specs.declared.error.Flaw.{Flaw}
use Rattle.sl_bind_compile.specs.declared.error.Flaw.TheVariants as flaw
use Rattle.sl_cube_sets.specs.declared.report.Report.{Report}
use Rattle.sl_shape.specs.Tables.{IsFirstFault}
use Rattle.sl_shape.specs.declared.faults.Fault.{Fault}
use Rattle.sl_shape.specs.declared.faults.Fault.TheVariants as fault
use Rattle.sl_conflict.specs.Soundness.{IsAmbiguousAt, IsSound}
use Rattle.sl_spec.specs.Tables.{Table}
use Rattle.sl_spec.specs.ConstructorItems.{constructors_in}
use Rattle.sl_spec.specs.declared.tables.Tables.{Tables}
use Rattle.sl_word.specs.declared.word.Size.{Size}

-- ---- refusals

-- why a specification is refused: an item has a flaw, none being the text's end; or a table isn't settled
pub data Refusal : Type 0 where
  flawed : Flaw → Option ℕ → Refusal
  ambiguous : Ambiguity → Refusal

-- the tables of a specification, or why it is refused
abbrev pub Compilation : Type 0
Compilation = Result Tables Refusal

-- ---- tables

-- a broken rule, or sizes that aren't there, as a flaw
abbrev pub flaw_bound : BindFault → Flaw
flaw_bound (broken.Rule number) = flaw.Rule number
flaw_bound broken.SizeClash = flaw.SizeClash
flaw_bound broken.SizeUnfixed = flaw.SizeUnfixed

-- so of its item
abbrev pub of_bound : BindFault × Option ℕ → Refusal
of_bound fault = flawed (flaw_bound fault.0) fault.1

-- The specification has these tables, and sizes; or it breaks a rule, or has no sizes, and this comes first.
abbrev pub Binds : List Item → Compilation → Type 0
Binds items (Ok t) = (sizes : List (List Size)) × bind.Binds items (Ok (t, sizes))
Binds items (Err x) = (fault : BindFault × Option ℕ) × bind.Binds items (Err fault) × (x ≡ of_bound fault)

-- ---- sound tables

-- a fault of a pattern as a flaw of its constructor
abbrev pub flaw_of : Fault → Flaw
flaw_of fault.InteriorEllipsis = flaw.InteriorEllipsis
flaw_of fault.TokensDiffer = flaw.TokensDiffer
flaw_of fault.Impossible = flaw.Impossible
flaw_of (fault.TooManyCubes n) = flaw.TooManyCubes n
flaw_of (fault.WindowTooLong n) = flaw.WindowTooLong n

-- the item that the constructor of this number is
abbrev pub item_of_ctor : Tables → ℕ → Option ℕ
item_of_ctor t ctor = option_map (λ c. c.item) (slice_get t.constructors ctor)

abbrev pub name_or_none : Option Table → List ℕ
name_or_none None = []
name_or_none (Some b) = b.name

-- the name of a table
abbrev pub name_of : Tables → ℕ → List ℕ
name_of t table = name_or_none (slice_get t.tables table)

-- a fault of a constructor
abbrev pub of_fault : Tables → ℕ → Fault → Refusal
of_fault t ctor f = flawed (flaw_of f) (item_of_ctor t ctor)

-- a report on a table, which tells constructors by their numbers
abbrev pub of_report : Tables → ℕ → Report → Ambiguity
of_report t table told = record {
  table = name_of t table;
  first = item_of_ctor t told.first;
  second = item_of_ctor t told.second;
  both = told.both;
  apart = told.apart;
}

module _ (t : Tables) (cs : List (Placed Constructor)) where
  -- A pattern has a fault, and this is the first one.
  pub record IsFaulty (x : Refusal) : Type 0 where
    pub ctor : ℕ
    pub fault : Fault
    pub first : IsFirstFault t cs ctor fault
    pub is : x ≡ of_fault t ctor fault

  -- No pattern has a fault, and this is told of the first table that isn't settled.
  pub record IsAmbiguous (x : Refusal) : Type 0 where
    pub table : ℕ
    pub told : Report
    pub first : IsAmbiguousAt t cs table told
    pub is : x ≡ ambiguous (of_report t table told)

  -- The tables are sound, or the first fault of a pattern is told, or the first table that isn't settled.
  abbrev pub Judges : Compilation → Type 0
  Judges (Ok same) = (same ≡ t) × IsSound t cs
  Judges (Err x) = IsFaulty x ⊎ IsAmbiguous x

-- ---- the whole

-- the constructors of a text, without `with` blocks
abbrev pub all_constructors : List Item → List (Placed Constructor)
all_constructors items = constructors_in (unfolded items)

-- A rule is broken, or sizes aren't there.
pub record IsUnbound (items : List Item) (r : Compilation) : Type 0 where
  pub refusal : Refusal
  pub binds : Binds items (Err refusal)
  pub is : r ≡ Err refusal

-- No rule is broken and sizes are there, and this becomes of the tables.
pub record IsJudged (items : List Item) (r : Compilation) : Type 0 where
  pub tables : Tables
  pub binds : Binds items (Ok tables)
  pub judges : Judges tables (all_constructors items) r

-- What becomes of a specification.
abbrev pub Compiles : List Item → Compilation → Type 0
Compiles items r = IsUnbound items r ⊎ IsJudged items r
