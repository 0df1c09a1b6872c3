-- meaning: what a name stands for in the pattern and the actions of a constructor.
use Rattle.std.specs.Prelude.{ℕ, List, Option, None, Some, is_none, slice_get, if◌then◌else◌}
use Rattle.sl_spec_actions.specs.ActionRules.{is_next, is_start}
use Rattle.sl_decode_meaning.specs.declared.kinds.Kind.{Kind}
use Rattle.sl_decode_meaning.specs.declared.kinds.Kind.TheVariants as k
use Rattle.sl_spec.specs.Named.{index_named, named}
use Rattle.sl_spec.specs.Tables.{Field, Name, Operand}
use Rattle.sl_spec.specs.declared.constructors.Means.{Means}
use Rattle.sl_spec.specs.declared.constructors.Means.TheVariants as means
use Rattle.sl_spec.specs.declared.tables.Tables.{Tables}

abbrev pub operand_kind : Means → Kind
operand_kind (means.Field id) = k.Field id
operand_kind (means.Table id) = k.Table id
operand_kind (means.Action n) = k.Action n

-- a name that is no operand: a field, or one of the two addresses
abbrev pub free_kind : Option ℕ → Name → Kind
free_kind (Some id) name = k.Field id
free_kind None name = if is_start name then k.Start else (if is_next name then k.Next else k.Nothing)

abbrev pub kind_by : Option Operand → Option ℕ → Name → Kind
kind_by (Some o) field name = operand_kind o.means
kind_by None field name = free_kind field name

-- what a name stands for in a constructor with these operands
abbrev pub kind_of : Tables → List Operand → Name → Kind
kind_of t os name =
    kind_by (named (λ o. o.name) name os) (index_named (λ f. f.name) name t.fields) name

abbrev pub field_of : Tables → Kind → Option Field
field_of t (k.Field id) = slice_get t.fields id
field_of t (k.Table id) = None
field_of t (k.Action n) = None
field_of t k.Start = None
field_of t k.Next = None
field_of t k.Nothing = None

abbrev pub if_of_context : Option Field → Option Field
if_of_context None = None
if_of_context (Some f) = if is_none f.token then Some f else None

-- the field of the context that a name stands for
abbrev pub context_field : Tables → Kind → Option Field
context_field t kind = if_of_context (field_of t kind)
