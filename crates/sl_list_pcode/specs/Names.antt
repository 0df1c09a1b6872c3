-- meaning: the names that operations are printed with, and the lines of operations.
use Rattle.std.specs.Prelude.{◌≡◌, ℕ, List, ◌++◌, codes, map, string_bytes}
use Rattle.std.specs.List.{flat_map}
use Rattle.sl_pcode.specs.Text.{op_text}
use Rattle.sl_pcode.specs.declared.operation.Op.{Op}
use Rattle.sl_pcode.specs.declared.print.Names.{Names}
use Rattle.sl_spec.specs.declared.tables.Tables.{Tables}
use Rattle.sl_word.specs.Sizes.{byte_counts}

-- They are the names of the spaces and of the user operations, and the sizes of addresses.
pub record AreNames (t : Tables) (names : Names) : Type 0 where
  pub spaces : map string_bytes names.spaces.items ≡ map (λ z. z.name) t.spaces
  pub sizes : byte_counts names.sizes.items ≡ map (λ z. z.size) t.spaces
  pub userops : map string_bytes names.userops.items ≡ map (λ u. u.name) t.userops

-- an operation on a line of its own, behind two spaces
abbrev pub op_line : Names → Op → List ℕ
op_line names op = codes "  " ++ (op_text names op ++ codes "\n")

abbrev pub op_lines : Names → List Op → List ℕ
op_lines names ops = flat_map (op_line names) ops

-- the line of an instruction without a list
abbrev pub unimplemented_line : List ℕ
unimplemented_line = codes "  unimplemented\n"
