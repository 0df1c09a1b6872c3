-- step: the names that actions use, by which it is known for whom else their steps are right.
use Rattle.std.specs.Prelude.{◌≡◌, ◌+◌, ℕ, ℤ, pos, List, Result, Ok, slice_get}
use Rattle.std.specs.List.{AllByRecursion}
use Rattle.sl_ast.specs.Trees.{Action, Expression}
use Rattle.sl_ast.specs.Trees as ast
use Rattle.sl_ast.specs.Views.{action_of}
use Rattle.sl_ast.specs.declared.patterns.Action as tree
use Rattle.sl_spec_operators.specs.Operators.{wrapped}
use Rattle.sl_decode_meaning.specs.Actions.{Changed, Own, act, address_value, tell}
use Rattle.sl_decode_meaning.specs.Kinds.{kind_of}
use Rattle.sl_decode_meaning.specs.Lookups.{given}
use Rattle.sl_decode_meaning.specs.Values.{Site, expression_value, reads, value_or_zero}
use Rattle.sl_decode_meaning.specs.declared.faults.Fault.{Fault}
use Rattle.sl_decode_meaning.specs.declared.kinds.Kind.{Kind}
use Rattle.sl_decode_meaning.specs.declared.kinds.Kind.TheVariants as k
use Rattle.sl_decode_leaves.specs.Extents.{extent, leaves_at}
use Rattle.sl_decode_leaves.specs.declared.leaves.Leaf as l
use Rattle.sl_decode_plan.specs.declared.uses.Used.{Used}
use Rattle.sl_spec.specs.Tables.{Name, Operand}
use Rattle.sl_spec.specs.declared.tables.Tables.{Tables}

-- what a name gives that stands for this, a field at the place
abbrev pub read_at : Tables → Site → Kind → ℕ → Result ℤ Fault
read_at t s (k.Field id) place = given t id s.bytes (s.at + place) s.context
read_at t s (k.Action n) place = Ok (value_or_zero (slice_get s.values n))
read_at t s k.Start place = Ok (wrapped (pos s.start))
read_at t s k.Next place = Ok (wrapped (pos s.next))
read_at t s (k.Table id) place = Ok (pos 0)
read_at t s k.Nothing place = Ok (pos 0)

-- What it gives hangs on no place.
abbrev pub HasNoPlace : Tables → Kind → Type 0
HasNoPlace t kind =
    (s : Site) (place other : ℕ) → read_at t s kind place ≡ read_at t s kind other

-- A name stands for what it stood for, and gives what it gave.
abbrev pub ReadsAsBefore : Tables → List Operand → List l.Leaf → Used → Type 0
ReadsAsBefore t os ls x = (kind_of t os x.name.now ≡ x.kind) × ((s : Site)
    → reads t os (leaves_at s.lengths ls) s x.name.now
    ≡ read_at t s x.kind (extent x.place s.lengths))

abbrev pub ReadAsBefore : Tables → List Operand → List l.Leaf → List Used → Type 0
ReadAsBefore t os ls used = AllByRecursion (ReadsAsBefore t os ls) used

-- Something that holds among any operands and leaves among which the names are as before: there are
-- some more of them now.
pub record Uses (t : Tables) (os : List Operand) (ls : List l.Leaf) (old new : List Used)
    (Holds : List Operand → List l.Leaf → Type 0) : Type 0 where
  pub before : ReadAsBefore t os ls new
  pub holds : (those : List Operand) (ms : List l.Leaf) → ReadAsBefore t those ms new
      → ReadAsBefore t those ms old × Holds those ms

module _ (t : Tables) (os : List Operand) (ls : List l.Leaf) where
  -- A name stands for the same among those, and gives the same.
  abbrev pub IsSameName : Name → List Operand → List l.Leaf → Type 0
  IsSameName name those ms = (kind_of t os name ≡ kind_of t those name) × ((s : Site)
      → reads t os (leaves_at s.lengths ls) s name ≡ reads t those (leaves_at s.lengths ms) s name)

  -- An expression has the same value.
  abbrev pub IsSameValue : Expression → List Operand → List l.Leaf → Type 0
  IsSameValue e those ms = (s : Site)
      → expression_value s.ctor (reads t os (leaves_at s.lengths ls) s) e
      ≡ expression_value s.ctor (reads t those (leaves_at s.lengths ms) s) e

  -- The address of a commit is the same.
  abbrev pub IsSameAddress : ast.Operand → List Operand → List l.Leaf → Type 0
  IsSameAddress a those ms = (s : Site)
      → address_value (reads t os (leaves_at s.lengths ls) s) a
      ≡ address_value (reads t those (leaves_at s.lengths ms) s) a

  -- An action does the same, before the operands and when the whole tree stands.
  abbrev pub IsSameAction : Action → List Operand → List l.Leaf → Type 0
  IsSameAction a those ms = ((s : Site) (c : Changed)
      → act t os (leaves_at s.lengths ls) s a c ≡ act t those (leaves_at s.lengths ms) s a c)
      × ((s : Site) (c : Own)
      → tell t os (leaves_at s.lengths ls) s a c ≡ tell t those (leaves_at s.lengths ms) s a c)

  -- So do all, among any operands and leaves among which the names are as before.
  abbrev pub AreUses : List Used → List tree.Action → Type 0
  AreUses used as' = (those : List Operand) (ms : List l.Leaf) → ReadAsBefore t those ms used
      → AllByRecursion (λ a. IsSameAction (action_of a) those ms) as'
