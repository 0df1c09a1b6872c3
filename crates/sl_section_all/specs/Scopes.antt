-- meaning: what is defined before each constructor and each macro of a text.
use Rattle.std.specs.Prelude.{ℕ, ◌+◌, List, [], ◌∷◌, ◌++◌, count_by, fold, length, not}
use Rattle.std.specs.Prelude.{if◌then◌else◌}
use Rattle.sl_ast.specs.Trees.{Definition, space, bit_ranges, pcode_ops, registers}
use Rattle.sl_ast.specs.Trees.{Item, define, constructor, macro}
use Rattle.sl_ast.specs.Unfolding.{Placed, unfolded}
use Rattle.sl_spec_definitions.specs.Items.{all_names}
use Rattle.sl_spec_registers.specs.RegisterRules.{is_skipped}
use Rattle.sl_section_resolve.specs.Macros.{Body}
use Rattle.sl_section_resolve.specs.Steps.{macro_name}
use Rattle.sl_section_terms.specs.declared.reach.Reach.{Reach}
use Rattle.sl_spec.specs.Named.{has_name}

-- What is defined behind some items: how many things of each kind, the macros, each with what is
-- defined before it, and of each constructor what is defined before it.
pub record Scopes : Type 0 where
  pub reach : Reach
  pub macros : List Body
  pub reaches : List Reach

abbrev pub nothing_defined : Scopes
nothing_defined = record {
  reach = record { spaces = 0; registers = 0; bit_ranges = 0; userops = 0; macros = 0 };
  macros = [];
  reaches = [];
}

abbrev pub with_definition : Reach → Definition → Reach
with_definition r (space name given) = record r { spaces = r.spaces + 1 }
with_definition r (bit_ranges first more) =
    record r { bit_ranges = r.bit_ranges + length (first ∷ more) }
with_definition r (pcode_ops names) =
    record r { userops = r.userops + length (all_names names) }
with_definition r (registers place offset size names) = record r {
  registers = r.registers + count_by (λ w. not (is_skipped w)) (all_names names);
}
with_definition r _ = r

-- with one macro more, whose name is new by rule 3
abbrev pub with_body : List Body → Body → List Body
with_body ms m = if has_name macro_name (macro_name m) ms then ms else ms ++ m ∷ []

abbrev pub behind_item : Scopes → Item → Scopes
behind_item s (define d) = record s { reach = with_definition s.reach d }
behind_item s (macro m) = record s {
  reach = record s.reach { macros = s.reach.macros + 1 };
  macros = with_body s.macros (record { of = m; reach = s.reach });
}
behind_item s (constructor c) = record s { reaches = s.reaches ++ s.reach ∷ [] }
behind_item s _ = s

abbrev pub behind_items : Scopes → List (Placed Item) → Scopes
behind_items s items = fold (λ z item. behind_item z item.1) s items

-- what is defined in a text
unfoldable pub scopes_of : List Item → Scopes
scopes_of items = behind_items nothing_defined (unfolded items)
