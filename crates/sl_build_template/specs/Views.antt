-- view: the program's templates as those of the definitions.
use Rattle.std.specs.Prelude.{◌≡◌, ℕ, List, map, slice_get, unwrap_or}
use Rattle.sl_faithful_code.specs.Operations.{Operation}
use Rattle.sl_faithful_code.specs.Statements.{section_code}
use Rattle.sl_section_equations.specs.Equations.{size_at}
use Rattle.sl_meaning_sections.specs.References.{Setting}
use Rattle.sl_meaning_sections.specs.Values.{Frame}
use Rattle.sl_section_flat.specs.Sections as s
use Rattle.sl_section_flat.specs.Views.{label_of}
use Rattle.sl_build_template.specs.Pieces as p
use Rattle.sl_build_template.specs.Placed.{placed}
use Rattle.sl_build_template.specs.declared.form.Form.{Form}
use Rattle.sl_build_template.specs.declared.piece.Part.{Part}
use Rattle.sl_build_template.specs.declared.piece.Piece.{Piece}
use Rattle.sl_build_template.specs.declared.piece.Piece.TheVariants as v
use Rattle.sl_build_template.specs.declared.piece.Tail.{Tail}
use Rattle.sl_build_template.specs.declared.piece.Tail.TheVariants as t
use Rattle.sl_word.specs.Sizes.{byte_counts}
use Rattle.sl_word.specs.declared.word.Size.{Size}

abbrev pub piece_of : Piece → p.Piece
piece_of (v.Read w) = p.read w
piece_of (v.Into w out) = p.into w out
piece_of (v.Unary op out a) = p.unary op out a
piece_of (v.Binary op out a b) = p.binary op out a b
piece_of (v.Load out space a) = p.load out space.0 a
piece_of (v.Store space a w) = p.store space.0 a w
piece_of (v.User op vs) = p.user op.0 vs.items
piece_of (v.Exit kind target) = p.exit kind target
piece_of (v.ExitIf target w) = p.exit_if target w
piece_of (v.Put i w) = p.put i w
piece_of (v.Stored i n) = p.stored i n
piece_of (v.PutBits i w) = p.put_bits i w.value w.below w.span.low w.span.count
piece_of (v.Extract t from span out) = p.extract t from span.low span.count out
piece_of (v.Insert t b out) =
    p.insert t b.size b.old b.new.value b.new.below b.new.span.low b.new.span.count out

abbrev pub pieces_of : List Piece → List p.Piece
pieces_of ps = map piece_of ps

abbrev pub tail_of : Tail → p.Tail
tail_of t.Nothing = p.nothing
tail_of (t.Build i) = p.build i
tail_of (t.Label l) = p.label (label_of l)
tail_of (t.Branch l) = p.branch (label_of l)
tail_of (t.BranchIf l w) = p.branch_if (label_of l) w

abbrev pub part_of : Part → p.Part
part_of a = record { pieces = pieces_of a.pieces.items; tail = tail_of a.tail }

abbrev pub parts_of : List Part → List p.Part
parts_of ps = map part_of ps

abbrev pub size_in : List Size → ℕ → Size
size_in sizes x = unwrap_or (slice_get sizes x) (size_at 1)

abbrev pub form_of : Form → p.Form
form_of h = record {
  sizes = byte_counts h.spaces.now;
  default = h.default.0;
  size = size_in h.sizes.now;
}

-- At each node that has these sizes, the template comes to the operations of the section.
abbrev pub IsTemplateOf : p.Form → List s.Step → List p.Part → Type 0
IsTemplateOf h ss ps = (top : ℕ) (g : Setting) (f : Frame) (children : List (List Operation))
    → g.sizes ≡ h.sizes → g.default ≡ h.default → f.size ≡ h.size
    → placed top g f children ps ≡ section_code top g f children ss
