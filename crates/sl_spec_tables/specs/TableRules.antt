-- meaning: rules 32 to 37, over the tables and constructors of a whole text.
use Rattle.std.specs.Prelude.{ℕ, ◌+◌, ◌==◌, ◌&&◌, Bool, cond, nat_lt, List, [], ◌∷◌, ◌++◌, Option, Some, None, option_map, length, slice_get, find}
use Rattle.std.specs.List.{list_any}
use Rattle.sl_ast.specs.Trees.{Constructor}
use Rattle.sl_ast.specs.Unfolding.{Placed}
use Rattle.sl_base_graphs.specs.Reaching.{reaches_itself}
use Rattle.sl_spec.specs.declared.tables.Tables.{Tables}
use Rattle.sl_spec_tables.specs.Lengths.{row_bytes, table_amount}
use Rattle.sl_spec_tables.specs.Rows.{Row, graph, groups, is_of, rows}
use Rattle.sl_spec_tables.specs.declared.faults.LateFault.{LateFault}
use Rattle.sl_spec_tables.specs.declared.faults.Place.{Place}
use Rattle.sl_spec_tables.specs.declared.faults.Place.TheVariants.{Item, End}
use Rattle.sl_spec_tables.specs.declared.quantities.Quantity.TheVariants.{Least, Greatest, Nodes}

abbrev pub place_of : Row → Place
place_of r = Item r.0.item

-- the place of the first constructor that passes a test
abbrev pub first_place : (Row → Bool) → List Row → Option Place
first_place test rs = option_map place_of (find test rs)

-- a place, where a demand is broken
abbrev pub broken_at : Bool → Option Place → Option Place
broken_at holds place = cond holds None place

-- how many constructors there may be
abbrev pub most_constructors : ℕ
most_constructors = 65535

-- how many nodes an instruction may have
abbrev pub most_nodes : ℕ
most_nodes = 1024

-- how many bytes an instruction may have
abbrev pub most_bytes : ℕ
most_bytes = 255

-- 32: a default space exists
unfoldable pub has_default : Tables → Bool
has_default t = list_any (λ s. s.default) t.spaces

-- 33: `instruction`, which is table 0, has a constructor
unfoldable pub has_instruction : List Row → Bool
has_instruction rs = list_any (is_of 0) rs

-- 33: there are at most 65,535 constructors in all
unfoldable pub past_most : List Row → Option Place
past_most rs = option_map place_of (slice_get rs most_constructors)

-- 34: no table reaches itself
unfoldable pub reaching_place : List (List Row) → List Row → Option Place
reaching_place gs rs = first_place (λ r. reaches_itself (graph gs) r.0.table) rs

-- 35: the least length of each constructor of `instruction` is at least 1
unfoldable pub empty_place : Tables → List (List Row) → List Row → Option Place
empty_place t gs rs =
    first_place (λ r. is_of 0 r && (row_bytes t (table_amount Least t gs) r == 0)) rs

-- 36: `instruction` has at most 1,024 nodes
unfoldable pub has_few_nodes : Tables → List (List Row) → Bool
has_few_nodes t gs = nat_lt (table_amount Nodes t gs 0) (1 + most_nodes)

-- 37: `instruction` has at most 255 bytes
unfoldable pub is_short : Tables → List (List Row) → Bool
is_short t gs = nat_lt (table_amount Greatest t gs 0) (1 + most_bytes)

-- rules 32 and 33 with the places where they are broken
abbrev pub early_rules : Tables → List Row → List (ℕ × Option Place)
early_rules t rs =
    (32, broken_at (has_default t) (Some End)) ∷
    (33, broken_at (has_instruction rs) (Some End)) ∷
    (33, past_most rs) ∷ []

-- rules 35 to 37
abbrev pub amount_rules : Tables → List (List Row) → List Row → List (ℕ × Option Place)
amount_rules t gs rs =
    (35, empty_place t gs rs) ∷
    (36, broken_at (has_few_nodes t gs) (first_place (is_of 0) rs)) ∷
    (37, broken_at (is_short t gs) (first_place (is_of 0) rs)) ∷ []

-- rules 32 to 37 with the places where they are broken, in their order
abbrev pub late_rules : Tables → List (List Row) → List Row → List (ℕ × Option Place)
late_rules t gs rs = early_rules t rs ++ (34, reaching_place gs rs) ∷ amount_rules t gs rs

-- the fault of a rule, or else another
abbrev pub fault_or : ℕ → Option Place → Option LateFault → Option LateFault
fault_or rule (Some place) other = Some (record { rule = rule; place = place })
fault_or rule None other = other

-- the first rule that is broken, with its place
abbrev pub first_fault : List (ℕ × Option Place) → Option LateFault
first_fault [] = None
first_fault (r ∷ rs) = fault_or r.0 r.1 (first_fault rs)

-- the first rule from 32 to 37 that is broken
unfoldable pub late_fault : Tables → List (Placed Constructor) → Option LateFault
late_fault t constructors =
    let rs = rows t constructors in
    first_fault (late_rules t (groups (length t.tables) rs) rs)
