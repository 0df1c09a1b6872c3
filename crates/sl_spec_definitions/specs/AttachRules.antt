-- meaning: attached lists, rules 13 to 15 (SLEIGH manual, "Attach Statements").
use Rattle.std.specs.Prelude.{ℕ, ℤ, pos, neg_ℤ, suc, ◌-◌, ◌^◌, ◌==◌, ◌&&◌, ◌||◌, Bool, true, false}
use Rattle.std.specs.Prelude.{not, nat_le, nat_lt, is_some, find, unwrap_or, if◌then◌else◌}
use Rattle.std.specs.Prelude.{List, [], ◌∷◌, ◌++◌, length, map, Option, Some, None, Result}
use Rattle.std.specs.Prelude.{option_and_then}
use Rattle.std.specs.List.{list_all}
use Rattle.sl_ast.specs.Trees.{Member, member_word, member_text, member_integer, member_negative}
use Rattle.sl_ast.specs.declared.definitions.AttachKind.{AttachKind}
use Rattle.sl_ast.specs.declared.definitions.AttachKind.TheVariants.{Variables, Names, Values}
use Rattle.sl_spec_rules.specs.Demands.{Demand, judged}
use Rattle.sl_spec_rules.specs.Names.{Name, are_distinct}
use Rattle.sl_spec.specs.Attachments.{is_attached}
use Rattle.sl_spec.specs.Named.{index_named, named}
use Rattle.sl_spec.specs.Tables.{Attached, Entries, Field, Register, registers, texts, values}
use Rattle.sl_spec.specs.declared.tables.Tables.{Tables}
use Rattle.sl_spec_registers.specs.RegisterRules.{is_skipped}
use Rattle.sl_spec_definitions.specs.Words.{unquoted, word_bytes}

-- ---- fields

-- whether there is such a field, to which nothing is attached
abbrev pub is_open : List Attached → Option ℕ → Bool
is_open attached None = false
is_open attached (Some field) = not (is_attached field attached)

-- 13: each attached field is defined and attached once
abbrev pub are_open : List Field → List Attached → List Name → Bool
are_open fields attached names =
    list_all (λ name. is_open attached (index_named (λ f. f.name) name fields)) names
    && are_distinct names

-- ---- members

-- whether it is the word `_`, which gives no entry
abbrev pub is_gap : Member → Bool
is_gap (member_word w) = is_skipped (word_bytes w)
is_gap _ = false

-- the register that a word names
abbrev pub register_named : List Register → Member → Option Register
register_named rs (member_word w) = named (λ r. r.name) (word_bytes w) rs
register_named rs _ = None

-- the number of the register that a word names; nothing for `_`
abbrev pub register_entry : List Register → Member → Option ℕ
register_entry rs (member_word w) =
    if is_skipped (word_bytes w) then None else index_named (λ r. r.name) (word_bytes w) rs
register_entry rs _ = None

-- what a text or a word reads; nothing for the word `_`
abbrev pub text_entry : Member → Option Name
text_entry (member_word w) = if is_skipped (word_bytes w) then None else Some (word_bytes w)
text_entry (member_text t) = Some (unquoted t)
text_entry _ = None

-- an integer from -2^63 to 2^63 - 1
abbrev pub value_entry : Member → Option ℤ
value_entry (member_integer n) = if nat_lt n (2 ^ 63) then Some (pos n) else None
value_entry (member_negative n) = if nat_le n (2 ^ 63) then Some (neg_ℤ (pos n)) else None
value_entry _ = None

abbrev pub has_size : ℕ → Option Register → Bool
has_size size None = false
has_size size (Some r) = r.size == size

-- `_`, or a register of this size
abbrev pub is_variable : List Register → ℕ → Member → Bool
is_variable rs size m = is_gap m || has_size size (register_named rs m)

-- the register that the first member names which isn't `_`
abbrev pub first_register : List Register → List Member → Option Register
first_register rs members = option_and_then (register_named rs) (find (λ m. not (is_gap m)) members)

abbrev pub are_like : List Register → Option Register → List Member → Bool
are_like rs None members = false
are_like rs (Some first) members = list_all (is_variable rs first.size) members

abbrev pub is_text : Member → Bool
is_text (member_word w) = true
is_text (member_text t) = true
is_text _ = false

abbrev pub is_value : Member → Bool
is_value m = is_gap m || is_some (value_entry m)

-- 14: members of `variables` are registers of one size or `_`, at least one of them a register; of
-- `names` texts or words; of `values` integers from -2^63 to 2^63 - 1 or `_`
unfoldable pub are_members : List Register → AttachKind → List Member → Bool
are_members rs Variables members = are_like rs (first_register rs members) members
are_members rs Names members = list_all is_text members
are_members rs Values members = list_all is_value members

-- ---- lengths

-- whether there is such a field, with a code for each of so many members
abbrev pub has_codes : ℕ → Option Field → Bool
has_codes count None = false
has_codes count (Some f) = nat_le count (2 ^ (suc f.high - f.low))

-- 15: a list has 1 to 2^width members, for the width of each of its fields
unfoldable pub is_length : List Field → List Name → ℕ → Bool
is_length fields names count =
    nat_le 1 count && list_all (λ name. has_codes count (named (λ f. f.name) name fields)) names

-- ---- what is added

unfoldable pub given_entries : List Register → AttachKind → List Member → Entries
given_entries rs Variables members = registers (map (register_entry rs) members)
given_entries rs Names members = texts (map text_entry members)
given_entries rs Values members = values (map value_entry members)

-- what is attached to the field of a name
abbrev pub attachment : List Field → Entries → Name → Attached
attachment fields entries name = record {
  field = unwrap_or (index_named (λ f. f.name) name fields) 0;
  entries = entries;
}

abbrev pub attach_demands : Tables → AttachKind → List Name → List Member → List Demand
attach_demands t kind names members =
    (13, are_open t.fields t.attached names)
    ∷ (14, are_members t.registers kind members)
    ∷ (15, is_length t.fields names (length members)) ∷ []

abbrev pub with_attached : Tables → List Attached → Tables
with_attached t added = record t { attached = t.attached ++ added }

abbrev pub attach_step : Tables → AttachKind → List Name → List Member → Result Tables ℕ
attach_step t kind names members = judged (attach_demands t kind names members)
    (with_attached t (map (attachment t.fields (given_entries t.registers kind members)) names))
