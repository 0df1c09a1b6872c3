-- meaning: address spaces, rules 4 and 5 (SLEIGH manual, "Space Definitions").
use Rattle.std.specs.Prelude.{ℕ, ◌==◌, ◌&&◌, ◌||◌, Bool, true, false, not, nat_le, count_by}
use Rattle.std.specs.Prelude.{List, [], ◌∷◌, ◌++◌, Option, Some, find, codes, Result, if◌then◌else◌}
use Rattle.std.specs.List.{list_any, list_all}
use Rattle.std.specs.Str.{bytes_eq}
use Rattle.sl_ast.specs.Trees.{SpaceAttribute, of_type, of_size, of_word_size, is_default}
use Rattle.sl_spec_rules.specs.Demands.{Demand, judged}
use Rattle.sl_spec_rules.specs.Names.{Name}
use Rattle.sl_spec.specs.Tables.{Space}
use Rattle.sl_spec.specs.declared.definitions.SpaceKind.{SpaceKind}
use Rattle.sl_spec.specs.declared.definitions.SpaceKind.TheVariants.{Ram, Rom, Register}
use Rattle.sl_spec.specs.declared.tables.Tables.{Tables}
use Rattle.sl_spec_registers.specs.NewNames.{is_new}

abbrev pub is_size : SpaceAttribute → Bool
is_size (of_size n) = true
is_size _ = false

abbrev pub is_type : SpaceAttribute → Bool
is_type (of_type t) = true
is_type _ = false

abbrev pub is_default_attribute : SpaceAttribute → Bool
is_default_attribute is_default = true
is_default_attribute _ = false

abbrev pub is_kind : Name → Bool
is_kind t = bytes_eq t (codes "ram_space")
    || (bytes_eq t (codes "rom_space") || bytes_eq t (codes "register_space"))

abbrev pub attribute_fits : SpaceAttribute → Bool
attribute_fits (of_size n) = nat_le 1 n && nat_le n 8
attribute_fits (of_type t) = is_kind t
attribute_fits (of_word_size n) = true
attribute_fits is_default = true

-- 4: a space has `size` and `type` once each, size 1 to 8, type `ram_space`, `rom_space` or
-- `register_space`
unfoldable pub has_size_and_type : List SpaceAttribute → Bool
has_size_and_type given =
    (count_by is_size given == 1) && ((count_by is_type given == 1) && list_all attribute_fits given)

abbrev pub asks_default : List SpaceAttribute → Bool
asks_default given = list_any is_default_attribute given

-- 5: no second space is `default`
unfoldable pub is_only_default : Tables → List SpaceAttribute → Bool
is_only_default t given = not (asks_default given && list_any (λ s. s.default) t.spaces)

abbrev pub space_demands : Tables → Name → List SpaceAttribute → List Demand
space_demands t name given =
    (3, is_new t name) ∷ (4, has_size_and_type given) ∷ (5, is_only_default t given) ∷ []

-- ---- the space that is added

abbrev pub size_in : Option SpaceAttribute → ℕ
size_in (Some (of_size n)) = n
size_in _ = 0

abbrev pub kind_named : Name → SpaceKind
kind_named t =
    if bytes_eq t (codes "rom_space") then Rom
    else (if bytes_eq t (codes "register_space") then Register else Ram)

abbrev pub kind_in : Option SpaceAttribute → SpaceKind
kind_in (Some (of_type t)) = kind_named t
kind_in _ = Ram

unfoldable pub space_of : Name → List SpaceAttribute → Space
space_of name given = record {
  name = name;
  kind = kind_in (find is_type given);
  size = size_in (find is_size given);
  default = asks_default given;
}

abbrev pub with_space : Tables → Space → Tables
with_space t s = record t { spaces = t.spaces ++ s ∷ [] }

abbrev pub space_step : Tables → Name → List SpaceAttribute → Result Tables ℕ
space_step t name given = judged (space_demands t name given) (with_space t (space_of name given))
