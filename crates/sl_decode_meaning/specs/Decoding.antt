-- meaning: the decode of bytes. First all nodes, parents first: which constructor, its actions on
-- the context, its notes, and then its operands in pattern order, each from the context that the
-- one before left. When the whole tree stands, its nodes in the same order once more: look-ups,
-- action names and addresses of commits. The first of all these moments that can't be met decides.
use Rattle.std.specs.Prelude.{ℕ, zero, suc, ◌+◌, ℤ, length, List, [], ◌∷◌, ◌++◌, take, drop}
use Rattle.std.specs.Prelude.{Option, None, Some, option_and_then, Result, Ok, Err}
use Rattle.sl_ast.specs.Trees.{Constructor}
use Rattle.sl_ast.specs.Unfolding.{Placed}
use Rattle.sl_decode_contexts.specs.declared.commits.Commit.{Commit}
use Rattle.sl_cube.specs.declared.Point.{Point}
use Rattle.sl_decode_meaning.specs.Actions.{Changed, changed, Own, own, address_in}
use Rattle.sl_decode_meaning.specs.Meanings.{Meaning, Slot, slot, says}
use Rattle.sl_decode_meaning.specs.Outcomes.{◌>>=◌, or_fault}
use Rattle.sl_decode_meaning.specs.Trees.{Begun, Node, Trees, lengths_of, none, tree, with_values}
use Rattle.sl_decode_meaning.specs.Values.{Site}
use Rattle.sl_decode_meaning.specs.declared.faults.Fault.{Fault}
use Rattle.sl_decode_meaning.specs.declared.faults.Fault.TheVariants.{NoConstructor}
use Rattle.sl_spec.specs.FieldValues.{token_integer}
use Rattle.sl_spec.specs.declared.tables.Tables.{Tables}
use Rattle.sl_word.specs.declared.word.Endian.TheVariants.{Big}

-- the 16 bytes from a place on, the first the most significant, and a context
abbrev pub point_at : List ℕ → ℕ → ℕ → Point
point_at bytes at context =
    record { bytes = token_integer Big (take 16 (drop at bytes)); context = context }

-- what is known before anything is decoded: which constructor of a table is the choice at a point,
-- what each constructor says, the bytes, and the address of the first one
pub record Input : Type 0 where
  pub choose : ℕ → Point → Option ℕ
  pub says : ℕ → Option Meaning
  pub bytes : List ℕ
  pub address : ℕ

abbrev pub site_at : Input → ℕ → ℕ → List ℕ → ℕ → ℕ → Site
site_at i ctor at lengths context next = record {
  ctor = ctor;
  bytes = i.bytes;
  at = at;
  lengths = lengths;
  context = context;
  start = i.address;
  next = next;
  values = [];
}

-- a constructor, and what it says
pub data Chosen : Type 0 where
  chosen : ℕ → Meaning → Chosen

abbrev pub with_meaning : ℕ → Option Meaning → Option Chosen
with_meaning ctor None = None
with_meaning ctor (Some m) = Some (chosen ctor m)

-- the choice of a table at a place, from a context
abbrev pub chosen_at : Input → ℕ → ℕ → ℕ → Option Chosen
chosen_at i table at context = option_and_then (λ ctor. with_meaning ctor (i.says ctor))
    (i.choose table (point_at i.bytes at context))

-- ---- the first moments

-- a node, the trees below it, and the context that it leaves
pub record Grown : Type 0 where
  pub node : Begun
  pub below : Trees Begun
  pub after : ℕ

-- operands, their lengths, and the context that they leave
pub record Grove : Type 0 where
  pub lengths : List ℕ
  pub trees : Trees Begun
  pub after : ℕ

-- the node of a table at a place, from a context
abbrev pub Grower : Type 0
Grower = ℕ → ℕ → ℕ → Result Grown Fault

-- the operands in pattern order, each at its place and from the context that the one before left
abbrev pub operands : Grower → List Slot → ℕ → List ℕ → ℕ → Result Grove Fault
operands grow [] at lengths context =
    Ok (record { lengths = lengths; trees = none; after = context })
operands grow (slot table place ∷ slots) at lengths context = do
  first ← grow table (at + place lengths) context
  others ← operands grow slots at (lengths ++ first.node.length ∷ []) first.after
  Ok (record {
    lengths = others.lengths;
    trees = tree first.node first.below others.trees;
    after = others.after;
  })

abbrev pub with_operands : Grower → ℕ → ℕ → Meaning → Changed → Result Grown Fault
with_operands grow ctor at m (changed context notes) = do
  below ← operands grow m.slots at [] context
  Ok (record {
    node = record {
      ctor = ctor;
      at = at;
      length = m.length below.lengths;
      context = context;
      notes = notes;
    };
    below = below.trees;
    after = below.after;
  })

-- the actions of the chosen constructor, and then its operands; `inst_next` isn't known yet
abbrev pub opened : Grower → Input → ℕ → ℕ → Chosen → Result Grown Fault
opened grow i at context (chosen ctor m) =
    m.early (site_at i ctor at [] context 0) (changed context [])
    >>= with_operands grow ctor at m

-- where tables nest at most `levels` deep
unfoldable pub grow : Input → ℕ → Grower
grow i zero table at context = Err (NoConstructor table at)
grow i (suc levels) table at context = do
  choice ← or_fault (NoConstructor table at) (chosen_at i table at context)
  opened (grow i levels) i at context choice

-- ---- the late moments

-- nodes with the values of their action names, and all commits so far
pub data Ended : Type 0 where
  ended : Trees Node → List Commit → Ended

abbrev pub trees_of : Ended → Trees Node
trees_of (ended trees commits) = trees

abbrev pub commits_of : Ended → List Commit
commits_of (ended trees commits) = commits

-- one node, whose operands have these lengths
abbrev pub finish_node : Input → ℕ → Begun → List ℕ → List Commit → Result Own Fault
finish_node i next n lengths commits = do
  m ← or_fault (NoConstructor n.ctor n.at) (i.says n.ctor)
  m.late (site_at i n.ctor n.at lengths n.context next) (own n.notes [] commits)

abbrev pub values_in : Own → List ℤ
values_in (own notes values commits) = values

abbrev pub commits_in : Own → List Commit
commits_in (own notes values commits) = commits

unfoldable pub finish : Input → ℕ → Trees Begun → List Commit → Result Ended Fault
finish i next none commits = Ok (ended none commits)
finish i next (tree n below behind) commits = do
  done ← finish_node i next n (lengths_of below) commits
  first ← finish i next below (commits_in done)
  others ← finish i next behind (commits_of first)
  Ok (ended (tree (with_values n (values_in done)) (trees_of first) (trees_of others))
      (commits_of others))

-- ---- the whole

-- the tree, its length, the address behind the instruction, and the commits in order
pub record Decoded : Type 0 where
  pub tree : Trees Node
  pub length : ℕ
  pub after : ℕ
  pub commits : List Commit

abbrev pub decoded_of : ℕ → ℕ → Ended → Decoded
decoded_of length after (ended trees commits) =
    record { tree = trees; length = length; after = after; commits = commits }

-- The first table, `instruction`, at the front of the bytes.
abbrev pub read : Tables → Input → ℕ → Result Decoded Fault
read t i context = do
  root ← grow i (length t.tables) 0 0 context
  all ← finish i (address_in t (i.address + root.node.length)) (tree root.node root.below none) []
  Ok (decoded_of root.node.length (address_in t (i.address + root.node.length)) all)

-- what bytes at an address decode to, from a context
unfoldable pub decoded : Tables → List (Placed Constructor) → (ℕ → Point → Option ℕ)
    → List ℕ → ℕ → ℕ → Result Decoded Fault
decoded t constructors choose bytes address context = read t (record {
  choose = choose;
  says = says t constructors;
  bytes = bytes;
  address = address;
}) context
