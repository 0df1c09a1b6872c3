-- What holds of the definitions of a text, item by item.
use Rattle.std.proofs.Common.{◌≡◌, ℕ, true, List, [], ◌∷◌, ◌++◌, Ok, refl, subst}
use Rattle.sl_ast.specs.Trees.{Constructor, Item, constructor, macro}
use Rattle.sl_ast.specs.Unfolding.{Placed, unfolded}
use Rattle.sl_bind.proofs.GrowLemmas.{constructor_added}
use Rattle.sl_bind.proofs.WalkLemmas.{EachKeeps, taken_keeps, whole_text}
use Rattle.sl_bind.specs.Verdict as verdict
use Rattle.sl_bind.specs.Verdict.{with_macro}
use Rattle.sl_spec_constructors.specs.Steps.{constructor_step}
use Rattle.sl_spec_definitions.specs.Beginning.{no_tables}
use Rattle.sl_spec_definitions.specs.Items.{taken}
use Rattle.sl_spec_definitions.specs.declared.known.Known.{Known}
use Rattle.sl_spec_rules.specs.Names.{Name}
use Rattle.sl_spec.specs.Tables.{Table}
use Rattle.sl_spec.specs.declared.tables.Tables.{Tables}

-- Nothing was defined in between but tables, constructors, fields and macros.
pub record DefinesNone (old new : Tables) : Type 0 where
  pub spaces : new.spaces ≡ old.spaces
  pub registers : new.registers ≡ old.registers
  pub bit_ranges : new.bitranges ≡ old.bitranges
  pub attached : new.attached ≡ old.attached
  pub userops : new.userops ≡ old.userops

macro_defines_none : (t : Tables) (n : ℕ) (name : Name) → DefinesNone t (with_macro t n name)
macro_defines_none t n name =
    record { spaces = refl; registers = refl; bit_ranges = refl; attached = refl; userops = refl }

constructor_defines_none : (all : List Table) (t next : Tables) (n : ℕ) (c : Constructor)
    → constructor_step all t n c ≡ Ok next → DefinesNone t next
constructor_defines_none all t next n c is = subst (DefinesNone t) (constructor_added all t next n c is)
    (record { spaces = refl; registers = refl; bit_ranges = refl; attached = refl; userops = refl })

-- ---- what holds of the items that were taken and of the tables

module _
    (Holds : List (Placed Item) → Tables → Type 0)
    (stays : (done : List (Placed Item)) (old new : Tables) → DefinesNone old new → Holds done old → Holds done new)
    (takes : (done : List (Placed Item)) (n : ℕ) (item : Item) (k next : Known) → taken k item ≡ Ok next
    → Holds done k.tables → Holds (done ++ (n, item) ∷ []) next.tables)
  where
    -- some that has these tables
    abbrev known_with : Tables → Known
    known_with t = record { tables = t; begun = true; alignment_stands = true }

    each_keeps : (items : List Item) → EachKeeps (whole_text items) (unfolded items) Holds
    each_keeps items = record {
      plain = λ done n item k next plain is holds. takes done n item k next is holds;
      macros = λ done n m ms t rules holds.
          stays (done ++ (n, macro m) ∷ []) t (with_macro t n m.name) (macro_defines_none t n m.name)
          (takes done n (macro m) (known_with t) (known_with t) refl holds);
      constructors = λ done rest n c ms t next parts is rules holds.
          stays (done ++ (n, constructor c) ∷ []) t next
          (constructor_defines_none (whole_text items).tables t next n c is)
          (takes done n (constructor c) (known_with t) (known_with t) refl holds);
    }

    -- what holds of no item, and stays as items are taken, holds of a text that keeps the rules
    pub taken_hold : (items : List Item) (t : Tables) → verdict.taken items ≡ Ok t → Holds [] no_tables
        → Holds (unfolded items) t
    taken_hold items t is none = taken_keeps items t is Holds (each_keeps items) none
