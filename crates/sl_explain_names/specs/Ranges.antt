-- meaning: what is wrong with the places of registers and with bit ranges: rules 7 and 8.
use Rattle.std.specs.Prelude.{ℕ, ◌+◌, ◌*◌, ◌-◌, ◌^◌, ◌==◌, ◌&&◌, List, codes, drop, filter, find, length, min, nat_lt}
use Rattle.std.specs.Prelude.{Bool, Option, Some, None, if◌then◌else◌}
use Rattle.sl_explain_names.specs.Definitions.{is_after, number_at, size_of}
use Rattle.sl_explain_names.specs.Items.{Item, is_defining, is_register, is_word_in, kind_of}
use Rattle.sl_explain_names.specs.Names.{count_up_to, is_known}
use Rattle.sl_explain_names.specs.Patterns.{found}
use Rattle.sl_explain_names.specs.TokenKinds.{has_after, number_after, text_after}
use Rattle.sl_explain_names.specs.declared.findings.Finding.{Finding}
use Rattle.sl_explain_names.specs.declared.findings.Finding.TheVariants as finding
use Rattle.sl_explain_names.specs.declared.names.Mention.{Mention}
use Rattle.sl_explain_names.specs.declared.places.Place.{Place}
use Rattle.sl_lex.specs.Reading.{Token}

-- ---- 7

-- a name behind `define SPACE offset=N size=N`
abbrev pub is_register_place : Item → Place → Bool
is_register_place i p = is_defining p.part && (is_word_in i p && nat_lt 7 (p.index - i.start))

abbrev pub count_registers : Item → ℕ
count_registers i = length (filter (is_register_place i) i.places)

-- where so many registers of a size end that lie one behind the other; it stops at 2^64 - 1
abbrev pub end_of_places : (offset size count : ℕ) → ℕ
end_of_places offset size count = min (offset + min (size * count) (2 ^ 64 - 1)) (2 ^ 64 - 1)

-- the bytes of an address of the space that is defined here
abbrev pub address_size : List Token → Option Mention → ℕ
address_size ts None = 0
address_size ts (Some m) = number_after (drop m.index ts) (count_up_to ts m.index (codes "size")) 2

-- Of a space of 2^64 bytes nothing is told.
abbrev pub end_finding : (end bytes : ℕ) → Option Finding
end_finding end bytes =
    if nat_lt bytes 8 then found (nat_lt (2 ^ (8 * bytes)) end) (finding.PlacesPast end (2 ^ (8 * bytes))) else None

abbrev pub space_size : Item → ℕ
space_size i = address_size i.tokens (find (is_known i.tokens i.start (text_after i.tokens i.start 1)) i.names)

-- all places of a definition of registers end within their space
abbrev pub places_finding : Item → Place → Option Finding
places_finding i p =
    if is_after i p 2 (codes "offset")
    then end_finding (end_of_places (number_at i p) (number_after i.tokens i.start 7) (count_registers i)) (space_size i)
    else None

-- ---- 8

abbrev pub is_range_name : Item → Place → Bool
is_range_name i p =
    is_defining p.part && (has_after i.tokens i.start 1 (codes "bitrange") && has_after i.tokens p.index 1 (codes "="))

-- the bit behind the last of so many from one on; it stops at 2^64 - 1
abbrev pub end_of_bits : (low count : ℕ) → ℕ
end_of_bits low count = min (low + count) (2 ^ 64 - 1)

abbrev pub taken_finding : (bits low count : ℕ) → Option Finding
taken_finding bits low count =
    if count == 0 then Some finding.HasNoBits
    else found (nat_lt bits (end_of_bits low count)) (finding.BitsPast (end_of_bits low count) bits)

abbrev pub bits_of : Item → (name : List ℕ) → ℕ
bits_of i name = 8 * min (size_of i name) 16

abbrev pub range_of_finding : Item → Place → (name : List ℕ) → Option Finding
range_of_finding i p name =
    if is_register (kind_of i name)
    then taken_finding (bits_of i name) (number_after i.tokens p.index 4) (number_after i.tokens p.index 6)
    else Some (finding.RangeOf (kind_of i name))

-- a bit range's register is defined before; the range has at least one bit, and ends within the register
abbrev pub bit_range_finding : Item → Place → Option Finding
bit_range_finding i p = if is_range_name i p then range_of_finding i p (text_after i.tokens p.index 2) else None
