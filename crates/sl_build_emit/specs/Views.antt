-- view: the program's references, nodes and operations as those of the definitions.
use Rattle.std.specs.Prelude.{ℕ, ℤ, pos, negsuc, Bool, is_some, List, Vec, Option, Some, None, map}
use Rattle.std.specs.Prelude.{◌+◌, [], ◌∷◌, if◌then◌else◌}
use Rattle.std.specs.List.{list_any}
use Rattle.std.specs.declared.alloc.Global.{Global}
use Rattle.sl_faithful_code.specs.Bits.{bits_put}
use Rattle.sl_faithful_code.specs.Operations.{Operation, operation_of}
use Rattle.sl_faithful_code.specs.Statements.{memory_put}
use Rattle.sl_build_emit.specs.declared.bits.Memory.{Memory}
use Rattle.sl_build_emit.specs.declared.insert.Bits.{Bits}
use Rattle.sl_build_emit.specs.declared.reference.Number.{Number}
use Rattle.sl_build_emit.specs.declared.reference.Number.TheVariants as n
use Rattle.sl_build_emit.specs.declared.reference.Reference.{Reference, fold-Reference}
use Rattle.sl_build_emit.specs.declared.reference.Reference.TheOpen.{Reference-F}
use Rattle.sl_build_emit.specs.declared.site.Site.{Site}
use Rattle.sl_meaning_sections.specs.References as m
use Rattle.sl_meaning_sections.specs.Values.{Frame}
use Rattle.sl_pcode.specs.declared.operation.Op.{Op}
use Rattle.sl_pcode.specs.declared.varnode.Varnode.{Varnode}
use Rattle.sl_section_flat.specs.Sections as s
use Rattle.sl_build_template.specs.Pieces as t
use Rattle.sl_build_template.specs.Placed.{tail_is}
use Rattle.sl_build_template.specs.Views.{size_in}
use Rattle.sl_word.specs.Sizes.{byte_counts}

abbrev pub number_of : Number → ℤ
number_of (n.Natural v) = pos v
number_of (n.Below v) = negsuc v

-- one level, with the pointer already seen
abbrev pub reference_step : Reference-F m.Reference → m.Reference
reference_step (Reference-F.Storage r) = m.storage r.space.0 r.offset r.size
reference_step (Reference-F.Local node x size) = m.local node x size
reference_step (Reference-F.Plain v) = m.number (number_of v)
reference_step (Reference-F.Memory space size pointer width) =
    m.memory space.0 size pointer.value width

abbrev pub reference_of : Reference → m.Reference
reference_of = fold-Reference m.Reference reference_step

abbrev pub references_of : List Reference → List m.Reference
references_of rs = map reference_of rs

abbrev pub setting_of : Site → m.Setting
setting_of site = record {
  endian = site.endian;
  sizes = byte_counts site.spaces.now;
  default = site.default.0;
  start = number_of site.start;
  next = number_of site.next;
}

abbrev pub frame_of : Site → Frame
frame_of site = record {
  node = site.node;
  size = size_in site.sizes.now;
  refs = references_of site.refs.now;
}

abbrev pub operations_of : List Op → List Operation
operations_of ops = map operation_of ops

-- the lists of operands
abbrev pub lists_of : List (Vec Op Global) → List (List Operation)
lists_of lists = map (λ v. operations_of v.items) lists

-- a value is put into memory
abbrev pub put_into : (top t : ℕ) → Memory → Varnode → List Operation
put_into top t at v = memory_put top t at.space.0 (reference_of at.pointer.now) at.width v

-- a value with other bits is put into a varnode
abbrev pub inserted : (top t : ℕ) → Bits → Varnode → List Operation
inserted top t b to =
    bits_put top t b.size b.old b.new.value b.new.below b.new.span.low b.new.span.count to

-- the label that a statement jumps to
abbrev pub jumps_to : t.Tail → Option s.Label
jumps_to (t.branch l) = Some l
jumps_to (t.branch_if l v) = Some l
jumps_to _ = None

-- whether one of these statements jumps to a label
abbrev pub jump_inside : List t.Part → Bool
jump_inside ps = list_any (λ a. is_some (jumps_to a.tail)) ps

-- the place of that label
abbrev pub place_by : (s.Label → ℕ) → Option s.Label → ℕ
place_by label_place None = 0
place_by label_place (Some l) = label_place l

-- the place of a label, by how many operations each statement has
abbrev pub scan : List t.Part → List ℕ → s.Label → ℕ → ℕ
scan [] ns l p = p
scan (a ∷ ps) [] l p = p
scan (a ∷ ps) (n ∷ ns) l p = if tail_is a.tail l then p else scan ps ns l (p + n)
