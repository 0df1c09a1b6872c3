-- meaning: the constructors of a text in the order in which they are shaped.
use Rattle.std.specs.Prelude.{ℕ, nat_lt, List, [], ◌∷◌, find, map, replicate, set, slice_get}
use Rattle.std.specs.Prelude.{Option, Some, None, option_map, option_to_list, unwrap_or}
use Rattle.std.specs.List.{zip}
use Rattle.sl_section_equations.specs.SizesIn.{address_in}
use Rattle.sl_section_exports.specs.Exports.{if_so}
use Rattle.sl_section_all.specs.FlatSections.{Flat}
use Rattle.sl_spec_rules.specs.Gathered.{gathered}
use Rattle.sl_section_sizes.specs.Constructors.{Constructor}
use Rattle.sl_spec.specs.Tables.{Ctor, Table}
use Rattle.sl_spec.specs.declared.constructors.Means.{Means}
use Rattle.sl_spec.specs.declared.constructors.Means.TheVariants as means
use Rattle.sl_spec.specs.declared.tables.Tables.{Tables}
use Rattle.sl_word.specs.declared.word.Size.{Size}

-- ---- constructors with their sections

-- the table that an operand is
abbrev pub table_meant : Means → Option ℕ
table_meant (means.Table table) = Some table
table_meant (means.Field field) = None
table_meant (means.Action k) = None

-- a constructor with its flat section
abbrev pub with_section : Ctor → Flat → Constructor
with_section c f = record {
  table = c.table;
  operands = map (λ o. table_meant o.means) c.operands;
  steps = f.steps;
  variables = f.variables;
}

-- the constructors in the order of the text, as far as there are sections of them
abbrev pub constructors : Tables → List Flat → List Constructor
constructors t sections = map (λ r. with_section r.0 r.1) (zip t.constructors sections)

-- ---- addresses

-- the size of the default space's addresses; there is such a space by rule 32
abbrev pub default_size : Tables → ℕ
default_size t = unwrap_or (option_map (λ s. s.size) (find (λ s. s.default) t.spaces)) 1

abbrev pub address_of : Tables → Option ℕ → ℕ
address_of t = address_in (map (λ s. s.size) t.spaces) (default_size t)

-- ---- the order

abbrev pub numbers_of : Option Table → List ℕ
numbers_of None = []
numbers_of (Some b) = b.constructors

-- those that are numbers of constructors, of which there are so many
abbrev pub below : (count : ℕ) → List ℕ → List ℕ
below count is = gathered (λ i. if_so (nat_lt i count) i) is

-- the numbers of the constructors of tables, those of a table in the order of the text
abbrev pub numbers : Tables → (count : ℕ) → (tables : List ℕ) → List ℕ
numbers t count tables = gathered (λ v. below count (numbers_of (slice_get t.tables v))) tables

-- the constructors of these numbers
abbrev pub in_order : List Constructor → List ℕ → List Constructor
in_order cs is = gathered (λ i. option_to_list (slice_get cs i)) is

-- ---- sizes

-- with each of these at its number
abbrev pub put_all : List (List Size) → (found : List (List Size)) → List ℕ → List (List Size)
put_all all [] is = all
put_all all (sizes ∷ found) [] = all
put_all all (sizes ∷ found) (i ∷ is) = set (put_all all found is) i sizes

-- sizes that are found for these numbers, by the constructors of the text
abbrev pub in_text_order : (count : ℕ) → (found : List (List Size)) → List ℕ → List (List Size)
in_text_order count found is = put_all (replicate count []) found is
