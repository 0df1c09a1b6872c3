-- meaning: what a constructor says of its nodes.
use Rattle.std.specs.Prelude.{ℕ, List, map, Option, None, Some, Result, slice_get}
use Rattle.sl_ast.specs.Trees.{Action, Constructor, Pattern}
use Rattle.sl_ast.specs.Unfolding.{Placed, written}
use Rattle.sl_decode_meaning.specs.Actions.{Changed, Own, act, look, tell}
use Rattle.sl_decode_meaning.specs.Outcomes.{◌>>=◌, in_turn}
use Rattle.sl_decode_meaning.specs.Places.{Leaf, bare_place, leaves, length_in, length_of, or_start}
use Rattle.sl_decode_meaning.specs.Places.{table_operands}
use Rattle.sl_decode_meaning.specs.Values.{Site}
use Rattle.sl_decode_meaning.specs.declared.faults.Fault.{Fault}
use Rattle.sl_spec.specs.Tables.{Ctor, Operand}
use Rattle.sl_spec.specs.declared.constructors.Means.{Means}
use Rattle.sl_spec.specs.declared.constructors.Means.TheVariants as means
use Rattle.sl_spec.specs.declared.tables.Tables.{Tables}

-- a table operand: its table, and its place by the lengths of the operands before it
pub data Slot : Type 0 where
  slot : ℕ → (List ℕ → ℕ) → Slot

abbrev pub table_of : Slot → ℕ
table_of (slot table place) = table

-- what is done to the context and noted before the operands, the operands, the length by theirs,
-- and what is done when the whole tree stands
pub record Meaning : Type 0 where
  pub early : Site → Changed → Result Changed Fault
  pub slots : List Slot
  pub length : List ℕ → ℕ
  pub late : Site → Own → Result Own Fault

abbrev pub table_in : Means → ℕ
table_in (means.Table id) = id
table_in (means.Field id) = 0
table_in (means.Action n) = 0

module _ (t : Tables) (os : List Operand) (p : Pattern) where
  -- the names of the pattern with their places, by the lengths of the operands
  abbrev pub leaves_by : List ℕ → List Leaf
  leaves_by lengths = leaves t os (length_of os lengths) 0 p

  abbrev pub slot_of : Operand → Slot
  slot_of o = slot (table_in o.means) (λ lengths. or_start (bare_place o.name (leaves_by lengths)))

  -- what a pattern and actions say, where these are the operands
  abbrev pub said : List Action → Meaning
  said as' = record {
    early = λ s c. in_turn (act t os (leaves_by s.lengths) s) as' c;
    slots = map slot_of (table_operands os);
    length = λ lengths. length_in t os (length_of os lengths) p;
    late = λ s c. in_turn (look t os s) (leaves_by s.lengths) c
        >>= in_turn (tell t os (leaves_by s.lengths) s) as';
  }

abbrev pub said_by : Tables → Option Ctor → Option (Placed Constructor) → Option Meaning
said_by t (Some c) (Some written_so) =
    Some (said t c.operands written_so.1.pattern (written written_so.1.actions))
said_by t (Some c) None = None
said_by t None written_so = None

-- what the constructor of a number says
abbrev pub says : Tables → List (Placed Constructor) → ℕ → Option Meaning
says t constructors number =
    said_by t (slice_get t.constructors number) (slice_get constructors number)
