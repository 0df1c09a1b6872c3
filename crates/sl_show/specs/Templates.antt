-- view: displays as the program keeps them, made once for each constructor.
use Rattle.std.specs.Prelude.{◌≡◌, ℕ, ◌<◌, List, [], ◌++◌, Option, None, Some, get_or, slice_get}
use Rattle.std.specs.List.{flat_map}
use Rattle.sl_ast.specs.Trees.{Constructor}
use Rattle.sl_ast.specs.Unfolding.{Placed}
use Rattle.sl_decode_meaning.specs.Trees.{Node, Trees}
use Rattle.sl_decode_leaves.specs.Extents.{extent}
use Rattle.sl_show.specs.Texts.{Spot, action_text, field_text_at, lengths_of, node_text, spot}
use Rattle.sl_show.specs.Texts.{texts_by}
use Rattle.sl_show.specs.declared.templates.Maker.{Maker}
use Rattle.sl_show.specs.declared.templates.Part.{Part}
use Rattle.sl_show.specs.declared.templates.Part.TheVariants as p
use Rattle.sl_show.specs.declared.templates.Template.{Template}
use Rattle.sl_spec.specs.declared.tables.Tables.{Tables}

abbrev pub part_text : Tables → Spot → Part → List ℕ
part_text t s (p.Text text) = text.items
part_text t s (p.Table number) = get_or s.operands number []
part_text t s (p.Field id place) = field_text_at t id s (extent place s.lengths)
part_text t s (p.Action n) = action_text n s

-- parts one behind the other
unfoldable pub parts_text : Tables → Spot → List Part → List ℕ
parts_text t s parts = flat_map (part_text t s) parts

-- The part at an index is the text of the table operand of this number.
abbrev pub IsTableAt : List Part → ℕ → ℕ → Type 0
IsTableAt parts index number = slice_get parts index ≡ Some (p.Table number)

-- No operand has its text among the parts before an index more than once.
abbrev pub AreOnce : List Part → ℕ → Type 0
AreOnce parts end = (number i j : ℕ) → i < j → j < end
    → IsTableAt parts i number → IsTableAt parts j number → ⊥

-- what is made so far: parts, and a text behind them
abbrev pub made : Tables → Spot → Maker → List ℕ
made t s m = parts_text t s m.parts.items ++ m.text.items

abbrev pub parts_of : Option Template → List Part
parts_of None = []
parts_of (Some template) = template.parts.items

-- the text of a node by the template of its constructor
abbrev pub template_text : Tables → List Template → ℕ → Spot → List ℕ
template_text t templates number s = parts_text t s (parts_of (slice_get templates number))

-- The templates show each node as the constructors do.
abbrev pub AreTemplates : Tables → List (Placed Constructor) → List Template → Type 0
AreTemplates t constructors templates = (number : ℕ) (s : Spot)
    → template_text t templates number s ≡ node_text t constructors number s

-- the texts of these operands by their templates
abbrev pub operand_texts : Tables → List Template → List ℕ → Trees Node → List (List ℕ)
operand_texts t templates bytes f = texts_by (template_text t templates) bytes f

-- the spot of a node with these operands, which are shown by their templates
abbrev pub spot_among : Tables → List Template → List ℕ → Node → Trees Node → Spot
spot_among t templates bytes n f =
    spot bytes n (lengths_of f) (operand_texts t templates bytes f)
