-- step: regions narrowed by the texts of a node's fields and action names.
use Rattle.std.specs.Prelude.{◌≡◌, ℕ, List, Option, Some, slice_get}
use denote.Ref.{Bor}
use Rattle.sl_asm_bounds.specs.Bounds.{AreBetween, Fits, IsOfSome}
use Rattle.sl_asm_bounds.specs.Texts.{AreTexts}
use Rattle.sl_asm_bounds.specs.declared.operands.Lengths.{Lengths}
use Rattle.sl_asm_fit.specs.Regions.{IsOf}
use Rattle.sl_asm_fit.specs.Windows.{with_zeros}
use Rattle.sl_asm_fit.specs.declared.Cell.{Cell}
use Rattle.sl_asm_narrow.specs.Candidates.{Candidate}
use Rattle.sl_asm_narrow.specs.Nodes.{IsRead, spot_in}
use Rattle.sl_asm_narrow.specs.Readers.{tables_of}
use Rattle.sl_asm_narrow.specs.declared.reader.Node.{Node}
use Rattle.sl_asm_narrow.specs.declared.reader.Reader.{Reader}
use Rattle.sl_asm_narrow.specs.declared.reader.Setting.{Setting}
use Rattle.sl_show.specs.Templates.{part_text}
use Rattle.sl_show.specs.Texts.{Spot, field_text}
use Rattle.sl_show.specs.declared.templates.Part.{Part}
use Rattle.sl_show.specs.declared.templates.Part.TheVariants as p
use Rattle.sl_spec.specs.declared.tables.Tables.{Tables}

-- A node is at the place in the list followed by zeros, from a context that is as known, and its operands
-- have lengths within the bounds.
pub record IsSpotIn (lengths : Lengths) (at : ℕ) (known : Option ℕ) (bytes : List ℕ) (s : Spot) : Type 0 where
  pub reads : s.bytes ≡ with_zeros bytes
  pub place : s.at ≡ at
  pub from : Fits known s.context
  pub between : AreBetween lengths.leasts.items lengths.mosts.items s.lengths

-- The text is that of the part that has the action name of this number.
pub record IsTextOfName (parts : List Part) (texts : List (Bor (List ℕ))) (number : ℕ) (text : Bor (List ℕ)) : Type 0 where
  pub index : ℕ
  pub part_is : slice_get parts index ≡ Some (p.Action number)
  pub text_is : slice_get texts index ≡ Some text

-- Each text is that of the action name of its index.
abbrev pub AreNamesTexts : List Part → List (Bor (List ℕ)) → List (Option (Bor (List ℕ))) → Type 0
AreNamesTexts parts texts wanted = (number : ℕ) (text : Bor (List ℕ)) → slice_get wanted number ≡ Some (Some text)
    → IsTextOfName parts texts number text

module _ (t : Tables) (region : List Cell) where
  -- Lists of the region stay in which a field at the place has the text, from a context that is as known.
  abbrev pub KeepsField : (id at : ℕ) → (known : Option ℕ) → (text : List ℕ) → Option (List Cell) → Type 0
  KeepsField id at known text found = (bytes : List ℕ) (context : ℕ) → IsOf region bytes → Fits known context
      → field_text t id (with_zeros bytes) at context ≡ text → IsOfSome found bytes

  -- Those in which a part of a node has the text.
  abbrev pub KeepsPart : Lengths → (at : ℕ) → (known : Option ℕ) → Part → (text : List ℕ) → Option (List Cell) → Type 0
  KeepsPart lengths at known part text found = (bytes : List ℕ) (s : Spot) → IsOf region bytes
      → IsSpotIn lengths at known bytes s → text ≡ part_text t s part → IsOfSome found bytes

  -- Those in which the parts have these texts.
  abbrev pub KeepsParts : Lengths → (at : ℕ) → (known : Option ℕ) → List Part → List (Bor (List ℕ)) → Option (List Cell) → Type 0
  KeepsParts lengths at known parts texts found = (bytes : List ℕ) (s : Spot) → IsOf region bytes
      → IsSpotIn lengths at known bytes s → AreTexts (part_text t s) parts texts → IsOfSome found bytes

-- Lists of the region stay in which a node is read whose operands have lengths within the bounds and whose
-- first parts have the texts that are known.
abbrev pub KeepsNames : Reader → Setting → List Cell → Lengths → Node → Option (List Cell) → Type 0
KeepsNames r s region lengths node found = (c : Candidate r s) → IsOf region c.bytes → (context long : ℕ) (text : List ℕ) (after : ℕ)
    → Fits node.goal.context context → (n : IsRead c node context long text after)
    → AreBetween lengths.leasts.items lengths.mosts.items n.inner
    → AreTexts (part_text (tables_of r) (spot_in c n)) node.parts.now node.texts.now → IsOfSome found c.bytes
