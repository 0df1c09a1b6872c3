-- meaning: the tables of a specification, or the first rule that it breaks and the item that breaks it.
use Rattle.std.specs.Prelude.{ℕ, ◌-◌, false, List, [], ◌∷◌, ◌++◌, length, slice_get}
use Rattle.std.specs.Prelude.{Option, Some, None, Result, Ok, Err}
use Rattle.sl_ast.specs.Trees.{Constructor, Item, Macro, constructor, macro}
use Rattle.sl_ast.specs.Unfolding.{Placed, unfolded}
use Rattle.sl_bind.specs.declared.items.Progress.{Progress}
use Rattle.sl_spec_constructors.specs.ConstructorRules.{is_of_root}
use Rattle.sl_spec_constructors.specs.Steps.{all_tables, constructor_step}
use Rattle.sl_spec_constructors.specs.WholeText.{table_name}
use Rattle.sl_spec_definitions.specs.Beginning.{begin, opening}
use Rattle.sl_spec_definitions.specs.Items.{definition_step, with_tables}
use Rattle.sl_spec_definitions.specs.declared.known.Known.{Known}
use Rattle.sl_spec_registers.specs.NewNames.{is_new}
use Rattle.sl_spec_rules.specs.Demands.{◌>>=◌, judged, run}
use Rattle.sl_spec_rules.specs.Names.{Name}
use Rattle.sl_section_rules.specs.Macros.{Signature, signature_of, with_signature}
use Rattle.sl_section_rules.specs.SectionRules.{macro_demands, section_demands}
use Rattle.sl_section_rules.specs.WholeText.{Whole, whole_of}
use Rattle.sl_spec.specs.Tables.{Ctor, Operand, Table}
use Rattle.sl_spec.specs.ConstructorItems.{constructors_in}
use Rattle.sl_spec.specs.declared.tables.Tables.{Tables}
use Rattle.sl_spec_tables.specs.TableRules.{late_fault}
use Rattle.sl_spec_tables.specs.declared.faults.LateFault.{LateFault}
use Rattle.sl_spec_tables.specs.declared.faults.Place.{Place}
use Rattle.sl_spec_tables.specs.declared.faults.Place.TheVariants.{Item as AtItem, End}

-- ---- macros (SLEIGH manual, "P-code Macros")

abbrev pub with_macro : Tables → ℕ → Name → Tables
with_macro t n name = record t { macros = t.macros ++ record { name = name; item = n } ∷ [] }

-- a macro, the item of this number, by the macros before it: rule 3, and rules 26 to 31 of its body,
-- in which its own name is defined
abbrev pub macro_step : Whole → List Signature → Tables → ℕ → Macro → Result Tables ℕ
macro_step w macros t n m =
    judged ((3, is_new t m.name) ∷ macro_demands w (with_macro t n m.name) macros m)
    (with_macro t n m.name)

-- ---- items

abbrev pub with_known : Progress → Result Known ℕ → Result Progress ℕ
with_known p r = r >>= λ k. Ok (record p { known = k })

-- with a macro as calls of it are judged
abbrev pub with_call_of : Macro → Progress → Progress
with_call_of m p = record p { macros = with_signature p.macros (signature_of p.macros m) }

-- a macro with all that is known behind it
abbrev pub macro_taken : Whole → Progress → ℕ → Macro → Result Progress ℕ
macro_taken w p n m = with_known p (with_tables p.known (macro_step w p.macros p.known.tables n m))
    >>= λ q. Ok (with_call_of m q)

-- an item that is no constructor, with the rules of its kind
abbrev pub single_step : Whole → Progress → ℕ → Item → Result Progress ℕ
single_step w p n (macro m) =
    with_known p (definition_step p.known (macro m)) >>= λ q. macro_taken w q n m
single_step w p n item = with_known p (definition_step p.known item)

abbrev pub operands_in : Option Ctor → List Operand
operands_in None = []
operands_in (Some c) = c.operands

-- the operands of the constructor that was added last
abbrev pub last_operands : Tables → List Operand
last_operands t = operands_in (slice_get t.constructors (length t.constructors - 1))

-- rules 26 to 31 of the section of a constructor, which was added last
abbrev pub section_step : Whole → Constructor → Progress → Result Progress ℕ
section_step w c p = judged (section_demands w p.known.tables p.macros
    (last_operands p.known.tables) (is_of_root (table_name c)) c.section) p

-- with a constructor: rules up to 25
abbrev pub with_constructor_of : List Table → Known → ℕ → Constructor → Result Known ℕ
with_constructor_of all k n c =
    begin k false >>= λ b. with_tables b (constructor_step all b.tables n c)

-- an item of the unfolded tree, with the rules of its kind
abbrev pub item_step : Whole → Progress → Placed Item → Result Progress ℕ
item_step w p (n, constructor c) =
    with_known p (with_constructor_of w.tables p.known n c) >>= section_step w c
item_step w p (n, item) = single_step w p n item

-- the number of a broken rule with that of the item that breaks it; the text's end, where there is none
abbrev pub Broken : Type 0
Broken = ℕ × Option ℕ

-- with the item's number beside the rule
abbrev pub at : {A : Type 0} → ℕ → Result A ℕ → Result A Broken
at n (Ok x) = Ok x
at n (Err rule) = Err (rule, Some n)

abbrev pub placed_step : Whole → Progress → Placed Item → Result Progress Broken
placed_step w p item = at item.0 (item_step w p item)

-- ---- the whole text

-- what is known before the first item
abbrev pub beginning : Progress
beginning = record { known = opening; macros = [] }

-- what is known behind all items, with what the whole text says of names
abbrev pub known_behind : Whole → List Item → Result Known Broken
known_behind w items = run (placed_step w) beginning (unfolded items) >>= λ p. Ok p.known

-- the item at which such a rule is broken; none is the text's end
abbrev pub item_at : Place → Option ℕ
item_at (AtItem n) = Some n
item_at End = None

-- the tables where no rule over the whole is broken
abbrev pub unless_late : Option LateFault → Tables → Result Tables Broken
unless_late None t = Ok t
unless_late (Some late) t = Err (late.rule, item_at late.place)

-- the tables of a specification, or the first rule that it breaks: the earliest item decides, in it
-- the lowest number; then the rules over all tables and constructors
unfoldable pub taken : List Item → Result Tables Broken
taken items =
    known_behind (whole_of (all_tables (constructors_in (unfolded items))) items) items
    >>= λ k. unless_late (late_fault k.tables (constructors_in (unfolded items))) k.tables
