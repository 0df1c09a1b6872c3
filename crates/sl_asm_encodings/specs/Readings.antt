-- law: a decode read back: the nodes at the front of the bytes, and their texts.
use Rattle.std.specs.Prelude.{◌≡◌, ℕ, ◌+◌, ℤ, List, [], ◌∷◌, ◌++◌, Some, Ok}
use Rattle.sl_ast.specs.Trees.{Constructor}
use Rattle.sl_ast.specs.Unfolding.{Placed}
use Rattle.sl_decode_contexts.specs.declared.commits.Commit.{Commit}
use Rattle.sl_decode_meaning.specs.Actions.{address_in, changed, own}
use Rattle.sl_decode_meaning.specs.Choices.{Choice}
use Rattle.sl_decode_meaning.specs.Decoding.{Input, chosen, chosen_at, site_at}
use Rattle.sl_decode_meaning.specs.Laws.{input}
use Rattle.sl_decode_meaning.specs.Meanings.{Meaning, Slot, says, slot}
use Rattle.sl_decode_meaning.specs.declared.notes.Noted.{Noted}
use Rattle.sl_list_instructions.specs.Instructions.{Told}
use Rattle.sl_list_instructions.specs.Told.{tells}
use Rattle.sl_show.specs.Texts.{Spot, node_text}
use Rattle.sl_spec.specs.declared.tables.Tables.{Tables}

-- What is said of nodes: of one, its table, its place, the context before it, its length, its text and
-- the context that it leaves; of a node's operands from one on, what they are and the node's place, the
-- lengths of those before and the context that these left, the lengths of all and the texts of those from
-- there on, and the context that all leave.
pub data Reading : Type 0 where
  node : (table at before length : ℕ) → (text : List ℕ) → (after : ℕ) → Reading
  operands : (slots : List Slot) → (at : ℕ) → (lengths : List ℕ) → (before : ℕ) → (all : List ℕ)
      → (texts : List (List ℕ)) → (after : ℕ) → Reading

abbrev pub spot_of : Input → (at context : ℕ) → List ℤ → List ℕ → List (List ℕ) → Spot
spot_of i at context values lengths texts = record {
  bytes = i.bytes;
  at = at;
  context = context;
  values = values;
  lengths = lengths;
  operands = texts;
}

-- It holds: the node's constructor is its table's choice, its actions are met before and after its
-- operands, of which this holds too, and its text is its constructor's; the operands follow one another,
-- each at its place and from the context that the one before left.
pub data Reads (t : Tables) (cs : List (Placed Constructor)) (i : Input) (next : ℕ) : Reading → Type 0 where
  one : {table at x y ctor after : ℕ} {m : Meaning} {notes others : List Noted} {inner : List ℕ}
      {texts : List (List ℕ)} {values : List ℤ} {commits more : List Commit}
      → chosen_at i table at x ≡ Some (chosen ctor m)
      → m.early (site_at i ctor at [] x 0) (changed x []) ≡ Ok (changed y notes)
      → Reads t cs i next (operands m.slots at [] y inner texts after)
      → m.late (site_at i ctor at inner y next) (own notes [] commits) ≡ Ok (own others values more)
      → Reads t cs i next (node table at x (m.length inner)
      (node_text t cs ctor (spot_of i at y values inner texts)) after)
  no_more : {at x : ℕ} {lengths : List ℕ} → Reads t cs i next (operands [] at lengths x lengths [] x)
  one_more : {table at x y after long : ℕ} {place : List ℕ → ℕ} {slots : List Slot}
      {lengths all : List ℕ} {text : List ℕ} {texts : List (List ℕ)}
      → Reads t cs i next (node table (at + place lengths) x long text y)
      → Reads t cs i next (operands slots at (lengths ++ long ∷ []) y all texts after)
      → Reads t cs i next (operands (slot table place ∷ slots) at lengths x all (text ∷ texts) after)

-- What bytes decode to is read back: a node of the first table at their front, with the instruction's
-- length and text.
abbrev pub DecodeIsReadBack : Type 0
DecodeIsReadBack = (t : Tables) (cs : List (Placed Constructor)) (choose : Choice) (bytes : List ℕ) (address context : ℕ) (told : Told)
    → tells t cs choose bytes address context ≡ Ok told
    → (after : ℕ) × Reads t cs (input choose (says t cs) bytes address) (address_in t (address + told.length))
    (node 0 0 context told.length told.text after)
