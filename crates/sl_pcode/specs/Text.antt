-- meaning: the text of an operation.
use Rattle.std.specs.Prelude.{ℕ, ◌-◌, ◌^◌, if◌then◌else◌, nat_lt, false, List, [], ◌∷◌, ◌++◌, Option, Some, None, codes, drop, slice_get, slice_index, string_bytes}
use Rattle.std.specs.Global.{Global}
use Rattle.std.specs.declared.string.String.{String}
use Rattle.std.specs.Fmt.{decimal, digits}
use Rattle.std.specs.Int.{w64, to_be_bytes}
use Rattle.std.specs.List.{flat_map}
use Rattle.std.specs.Option.{option_map_or}
use Rattle.hex.specs.Hex.{encode_lower}
use Rattle.sl_word.specs.Sizes.{byte_counts}
use Rattle.sl_pcode.specs.Codes.{kind_of, name_of}
use Rattle.sl_pcode.specs.declared.code.Kind.{Kind}
use Rattle.sl_pcode.specs.declared.code.Kind.TheVariants.{Unary, Binary, Load, Store, Branch, CBranch, Call, Indirect, UserOp}
use Rattle.sl_pcode.specs.declared.operation.Op.{Op}
use Rattle.sl_pcode.specs.declared.print.Names.{Names}
use Rattle.sl_pcode.specs.declared.varnode.Place2.{Place2}
use Rattle.sl_pcode.specs.declared.varnode.Place2.TheVariants.{Const, Unique, In}
use Rattle.sl_pcode.specs.declared.varnode.Varnode.{Varnode}

-- An offset of a space whose addresses have so many bytes, in hexadecimal, two digits for each byte.
abbrev pub offset_text : ℕ → ℕ → List ℕ
offset_text bytes offset = encode_lower (drop (8 - bytes) (to_be_bytes w64 offset))

-- A name by its place in a list of names, and nothing past the last one.
abbrev pub name_at : List (String Global) → ℕ → List ℕ
name_at names i = option_map_or string_bytes (slice_get names i) []

-- A place in a space, with its size.
abbrev pub located_text : List ℕ → ℕ → ℕ → ℕ → List ℕ
located_text name address_bytes offset bytes =
    name ++ (codes "[" ++ (offset_text address_bytes offset ++ (codes "]:" ++ decimal bytes)))

-- A constant, in hexadecimal without leading zeros, with its size.
abbrev pub constant_text : ℕ → ℕ → List ℕ
constant_text value bytes = codes "0x" ++ (digits 16 false value ++ (codes ":" ++ decimal bytes))

abbrev pub place_text : Names → Place2 → ℕ → ℕ → List ℕ
place_text names Const offset bytes = constant_text offset bytes
place_text names Unique offset bytes = located_text (codes "unique") 4 offset bytes
place_text names (In space) offset bytes =
    located_text (name_at names.spaces.items space.0) (slice_index (byte_counts names.sizes.items) space.0) offset bytes

abbrev pub varnode_text : Names → Varnode → List ℕ
varnode_text names v = place_text names v.place v.offset v.size.bytes

-- A distance between places of a list, in operations: a number of four bytes in two's complement.
abbrev pub distance_text : ℕ → List ℕ
distance_text distance =
    if nat_lt distance (2 ^ 31) then codes "+" ++ decimal distance else codes "-" ++ decimal (2 ^ 32 - distance)

-- A target: a constant is a distance.
abbrev pub target_text_at : Names → Varnode → Place2 → List ℕ
target_text_at names v Const = distance_text v.offset
target_text_at names v Unique = varnode_text names v
target_text_at names v (In space) = varnode_text names v

abbrev pub target_text : Names → Varnode → List ℕ
target_text names v = target_text_at names v v.place

-- The first input. Numbers of spaces and of user operations are their names.
abbrev pub first_text : Names → Kind → Varnode → List ℕ
first_text names (Unary f) v = varnode_text names v
first_text names (Binary f) v = varnode_text names v
first_text names Load v = name_at names.spaces.items v.offset
first_text names Store v = name_at names.spaces.items v.offset
first_text names Branch v = target_text names v
first_text names CBranch v = target_text names v
first_text names Call v = varnode_text names v
first_text names Indirect v = varnode_text names v
first_text names UserOp v = name_at names.userops.items v.offset

-- The inputs behind the first one.
abbrev pub rest_text : Names → List Varnode → List ℕ
rest_text names inputs = flat_map (λ v. codes ", " ++ varnode_text names v) inputs

abbrev pub inputs_text : Names → Kind → List Varnode → List ℕ
inputs_text names kind [] = []
inputs_text names kind (first ∷ rest) = codes " " ++ (first_text names kind first ++ rest_text names rest)

abbrev pub output_text : Names → Option Varnode → List ℕ
output_text names None = []
output_text names (Some out) = varnode_text names out ++ codes " = "

-- An operation: its output, its code and its inputs.
abbrev pub op_text : Names → Op → List ℕ
op_text names op = output_text names op.out ++ (name_of op.code ++ inputs_text names (kind_of op.code) op.inputs.items)
