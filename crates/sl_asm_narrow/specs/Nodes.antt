-- view: what is known of nodes, for all lists of a region.
use Rattle.std.specs.Prelude.{◌≡◌, ℕ, ◌+◌, ◌%◌, ◌^◌, ℤ, List, [], Option, None, Some, Ok, map, slice_get}
use Rattle.std.specs.List.{flat_map}
use denote.Ref.{Bor}
use Rattle.sl_asm_bounds.specs.Bounds.{AreBetween, Fits, Holds}
use Rattle.sl_asm_bounds.specs.Texts.{AreTexts}
use Rattle.sl_asm_bounds.specs.declared.bounds.Bounds.{Bounds}
use Rattle.sl_asm_encodings.specs.Readings.{node, operands, spot_of}
use Rattle.sl_asm_fit.specs.Regions.{IsOf}
use Rattle.sl_asm_fit.specs.Windows.{with_zeros}
use Rattle.sl_asm_fit.specs.declared.Cell.{Cell}
use Rattle.sl_asm_narrow.specs.Candidates.{Candidate, Says, input_of, text_of}
use Rattle.sl_asm_narrow.specs.Readers.{tables_of, written_of}
use Rattle.sl_asm_narrow.specs.declared.operands.Operands.{Operands}
use Rattle.sl_asm_narrow.specs.declared.reader.Goal.{Goal}
use Rattle.sl_asm_narrow.specs.declared.reader.Node.{Node}
use Rattle.sl_asm_narrow.specs.declared.reader.Reader.{Reader}
use Rattle.sl_asm_narrow.specs.declared.reader.Setting.{Setting}
use Rattle.sl_conflict.specs.declared.table_sets.TableSets.{TableSets}
use Rattle.sl_cube.specs.declared.Point.{Point}
use Rattle.sl_cube_sets.specs.Unions.{has_set}
use Rattle.sl_cube_sets.specs.declared.CubeSet.{CubeSet}
use Rattle.sl_decode_contexts.specs.declared.commits.Commit.{Commit}
use Rattle.sl_decode_meaning.specs.Actions.{changed, own}
use Rattle.sl_decode_meaning.specs.Decoding.{point_at, site_at}
use Rattle.sl_decode_meaning.specs.Meanings.{Meaning, says}
use Rattle.sl_decode_meaning.specs.declared.notes.Noted.{Noted}
use Rattle.sl_decode_leaves.specs.Extents.{extent}
use Rattle.sl_decode_plan.specs.Plans.{done, done_slot}
use Rattle.sl_decode_plan.specs.declared.plans.Plan.{Plan}
use Rattle.sl_decode_plan.specs.declared.plans.Slot.{Slot}
use Rattle.sl_show.specs.Templates.{part_text}
use Rattle.sl_show.specs.Texts.{Spot, node_text}
use Rattle.sl_show.specs.declared.templates.Part.{Part}

-- The operands so far: the list is in the region, their lengths are within the bounds, and the context
-- that they leave is as known.
pub record IsWithinAll (o : Operands) (bytes lengths : List ℕ) (after : ℕ) : Type 0 where
  pub region : IsOf o.region.items bytes
  pub between : AreBetween o.lengths.leasts.items o.lengths.mosts.items lengths
  pub leaves : Fits o.context after

-- They are there, and so.
abbrev pub HoldAll : Option Operands → (bytes lengths : List ℕ) → (after : ℕ) → Type 0
HoldAll None bytes lengths after = ⊥
HoldAll (Some o) bytes lengths after = IsWithinAll o bytes lengths after

-- The set at a place of a table has the point.
pub record HasPlace (kept : TableSets) (place : ℕ) (p : Point) : Type 0 where
  pub set : CubeSet
  pub set_is : slice_get kept.sets.items place ≡ Some set
  pub has : has_set set p

module _ {r : Reader} {s : Setting} (c : Candidate r s) where
  -- A node of the constructor of a number is read at a place, from a context.
  pub record IsNode (ctor at before long : ℕ) (text : List ℕ) (after : ℕ) : Type 0 where
    pub context : ℕ
    pub meaning : Meaning
    pub notes : List Noted
    pub others : List Noted
    pub inner : List ℕ
    pub texts : List (List ℕ)
    pub values : List ℤ
    pub commits : List Commit
    pub more : List Commit
    pub means : says (tables_of r) (written_of r) ctor ≡ Some meaning
    pub early : meaning.early (site_at (input_of c) ctor at [] before 0) (changed before []) ≡ Ok (changed context notes)
    pub below : Says c (operands meaning.slots at [] context inner texts after)
    pub late : meaning.late (site_at (input_of c) ctor at inner context c.next) (own notes [] commits) ≡ Ok (own others values more)
    pub length : long ≡ meaning.length inner
    pub shows : text ≡ node_text (tables_of r) (written_of r) ctor (spot_of (input_of c) at context values inner texts)

  -- A node is read that does what the plan says and is shown by the parts, from the context after its own
  -- actions.
  pub record IsPlanned (plan : Plan) (parts : List Part) (at context long : ℕ) (text : List ℕ) (after : ℕ) : Type 0 where
    pub ctor : ℕ
    pub notes : List Noted
    pub others : List Noted
    pub inner : List ℕ
    pub texts : List (List ℕ)
    pub values : List ℤ
    pub commits : List Commit
    pub more : List Commit
    pub below : Says c (operands (map done_slot plan.slots.items) at [] context inner texts after)
    pub late : (done (tables_of r) plan).late (site_at (input_of c) ctor at inner context c.next) (own notes [] commits) ≡ Ok (own others values more)
    pub length : long ≡ extent plan.length inner
    pub shows : text ≡ flat_map (part_text (tables_of r) (spot_of (input_of c) at context values inner texts)) parts

  -- So is one with this plan, these parts and this place.
  abbrev pub IsRead : Node → (context long : ℕ) (text : List ℕ) (after : ℕ) → Type 0
  IsRead one context long text after = IsPlanned one.plan.now one.parts.now one.goal.at context long text after

  abbrev pub spot_in : {plan : Plan} {parts : List Part} {at context long : ℕ} {text : List ℕ} {after : ℕ}
      → IsPlanned plan parts at context long text after → Spot
  spot_in {at = at} {context = context} n = spot_of (input_of c) at context n.values n.inner n.texts

module _ (r : Reader) (s : Setting) (region : List Cell) where
  -- Wherever a node of the table is read in a list of the region as the goal has it, the bounds hold.
  abbrev pub BoundsTable : ℕ → Goal → Option Bounds → Type 0
  BoundsTable table goal found = (c : Candidate r s) → IsOf region c.bytes → (before long : ℕ) (text : List ℕ) (after : ℕ)
      → Fits goal.context before → Fits (text_of goal.text) text
      → Says c (node table goal.at before long text after) → Holds found c.bytes long after

  -- So it is for the nodes of the constructor at a place of a table's sets, at points of its set.
  abbrev pub BoundsConstructor : TableSets → ℕ → Goal → Option Bounds → Type 0
  BoundsConstructor kept place goal found = (c : Candidate r s) → IsOf region c.bytes → (ctor before long : ℕ) (text : List ℕ) (after : ℕ)
      → slice_get kept.ctors.items place ≡ Some ctor
      → HasPlace kept place (point_at (with_zeros c.bytes) goal.at (before % 2 ^ 64))
      → Fits goal.context before → Fits (text_of goal.text) text
      → IsNode c ctor goal.at before long text after → Holds found c.bytes long after

  -- For nodes with a plan and parts.
  abbrev pub BoundsPlanned : Plan → List Part → Goal → Option Bounds → Type 0
  BoundsPlanned plan parts goal found = (c : Candidate r s) → IsOf region c.bytes → (context long : ℕ) (text : List ℕ) (after : ℕ)
      → Fits goal.context context → Fits (text_of goal.text) text
      → IsPlanned c plan parts goal.at context long text after → Holds found c.bytes long after

  -- For a node whose first parts have texts that are known.
  abbrev pub BoundsNode : Node → Option Bounds → Type 0
  BoundsNode one found = (c : Candidate r s) → IsOf region c.bytes → (context long : ℕ) (text : List ℕ) (after : ℕ)
      → Fits one.goal.context context → (n : IsRead c one context long text after)
      → AreTexts (part_text (tables_of r) (spot_in c n)) one.parts.now one.texts.now → Holds found c.bytes long after

  -- And for its operands.
  abbrev pub BoundsOperands : Node → Option Operands → Type 0
  BoundsOperands one found = (c : Candidate r s) → IsOf region c.bytes → (context long : ℕ) (text : List ℕ) (after : ℕ)
      → Fits one.goal.context context → (n : IsRead c one context long text after)
      → AreTexts (part_text (tables_of r) (spot_in c n)) one.parts.now one.texts.now → HoldAll found c.bytes n.inner after

-- Where the plan's actions are met at a node, from a context as the goal has it, the context after them is
-- as known.
abbrev pub ActsOn : Reader → Setting → List Cell → Plan → Goal → Option ℕ → Type 0
ActsOn r s region plan goal known = (c : Candidate r s) → IsOf region c.bytes → (ctor before after : ℕ) (notes : List Noted)
    → Fits goal.context before
    → (done (tables_of r) plan).early (site_at (input_of c) ctor goal.at [] before 0) (changed before []) ≡ Ok (changed after notes)
    → Fits known after

module _ (r : Reader) (s : Setting) where
  -- Wherever an operand is read after those that are known, with the text if one is known, the bounds hold.
  abbrev pub BoundsOperand : Operands → Slot → ℕ → Option (Bor (List ℕ)) → Option Bounds → Type 0
  BoundsOperand known slot at wanted found = (c : Candidate r s) (lengths : List ℕ) (before long : ℕ) (text : List ℕ) (after : ℕ)
      → IsWithinAll known c.bytes lengths before → Fits (text_of wanted) text
      → Says c (node slot.table (at + extent slot.place lengths) before long text after) → Holds found c.bytes long after

  -- Wherever the operands of a node are as known, and its first parts have the texts that are known, the
  -- bounds hold.
  abbrev pub BoundsShown : Operands → Node → Option Bounds → Type 0
  BoundsShown known one found = (c : Candidate r s) (context long : ℕ) (text : List ℕ) (after : ℕ)
      → Fits one.goal.context context → (n : IsRead c one context long text after)
      → IsWithinAll known c.bytes n.inner after
      → AreTexts (part_text (tables_of r) (spot_in c n)) one.parts.now one.texts.now → Holds found c.bytes long after
