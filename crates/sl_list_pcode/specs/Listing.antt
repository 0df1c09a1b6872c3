-- meaning: the listing of an image with the operations of each instruction.
use Rattle.std.specs.Prelude.{◌≡◌, ℕ, ◌+◌, ◌^◌, ◌<◌, ◌≤◌, ◌%◌, true, false, List, [], ◌++◌, length}
use Rattle.std.specs.Prelude.{Result, Ok, Err}
use Rattle.sl_ast.specs.Trees.{Item}
use Rattle.sl_bind.specs.Binding.{constructors_of}
use Rattle.sl_decode_choices.specs.Choices.{IsChoiceOf}
use Rattle.sl_decode_contexts.specs.Commits.{IsContextAt}
use Rattle.sl_decode_contexts.specs.declared.commits.Commit.{Commit}
use Rattle.sl_decode_meaning.specs.Decoding.{Decoded, decoded}
use Rattle.sl_decode_meaning.specs.Choices.{Choice}
use Rattle.sl_decode_meaning.specs.declared.faults.Fault.{Fault}
use Rattle.sl_faithful_lists.specs.Faithful.{IsFaithfulList}
use Rattle.sl_meaning_instruction.specs.Instructions.{is_unimplemented, specification_of}
use Rattle.sl_list_instructions.specs.Instructions.{Listed, listing_window}
use Rattle.sl_list_instructions.specs.Lines.{bytes_at}
use Rattle.sl_list_instructions.specs.Listings.{Lists}
use Rattle.sl_list_instructions.specs.Fronts.{Begins}
use Rattle.sl_list_instructions.specs.Listing.{Image, subject}
use Rattle.sl_pcode.specs.declared.operation.Op.{Op}
use Rattle.sl_pcode.specs.declared.print.Names.{Names}
use Rattle.sl_list_pcode.specs.Names.{AreNames, op_lines, unimplemented_line}
use Rattle.sl_spec.specs.declared.tables.Tables.{Tables}
use Rattle.sl_word.specs.declared.word.Size.{Size}

-- the items of a specification with its tables and the sizes of its sections, and an image
module _ (items : List Item) (t : Tables) (sizes : List (List Size)) (i : Image) where
  -- by a choice of constructors, and the names of what is printed
  module _ (choose : Choice) (names : Names) where
    -- the bytes that are decoded at a position, which counts bytes of the image
    abbrev pub bytes_from : (at : ℕ) → List ℕ
    bytes_from at = bytes_at i.bytes at listing_window

    -- What the position decodes to after these commits, where its address is a multiple of the
    -- alignment.
    pub record Decodes (at : ℕ) (cs : List Commit) (r : Result Decoded Fault) : Type 0 where
      pub context : ℕ
      pub aligned : (i.base + at) % t.alignment ≡ 0
      pub narrow : context < 2 ^ 64
      pub stands : IsContextAt i.start cs (i.base + at) context
      pub is : decoded t (constructors_of items) choose (bytes_from at) (i.base + at) context ≡ r

    -- What stands behind a line: nothing where none is decoded; that the instruction is
    -- unimplemented, where a node is `unimpl`; or else the operations of a list that is faithful to
    -- the instruction.
    pub data IsBehind (at : ℕ) (cs : List Commit) : List ℕ → Type 0 where
      misaligned : 1 ≤ (i.base + at) % t.alignment → IsBehind at cs []
      undecoded : {fault : Fault} → Decodes at cs (Err fault) → IsBehind at cs []
      unimplemented : {d : Decoded} → Decodes at cs (Ok d)
          → is_unimplemented (constructors_of items) d.tree ≡ true
          → IsBehind at cs unimplemented_line
      operations : {d : Decoded} {ops : List Op} → Decodes at cs (Ok d)
          → is_unimplemented (constructors_of items) d.tree ≡ false
          → IsFaithfulList (specification_of items t sizes) (bytes_from at) (i.base + at) d ops
          → IsBehind at cs (op_lines names ops)

    -- The line of `list`, and what stands behind it.
    pub record Shown (at : ℕ) (cs : List Commit) (text : List ℕ) (n : ℕ)
        (ds : List Commit) : Type 0 where
      pub line : List ℕ
      pub behind : List ℕ
      pub listed : Listed (subject t (constructors_of items) choose i) at cs line n ds
      pub is_behind : IsBehind at cs behind
      pub is : text ≡ line ++ behind

  -- The text lists the image with its operations: at each table the most specific constructor that
  -- matches is chosen, and names are those of the tables.
  pub record IsPcodeListing (text : List ℕ) : Type 0 where
    pub choose : Choice
    pub is_choice : IsChoiceOf t (constructors_of items) choose
    pub names : Names
    pub are_names : AreNames t names
    pub lists : Lists (Shown choose names) (length i.bytes) 0 [] text

  -- The same for some first positions.
  pub record BeginsPcodeListing (text : List ℕ) : Type 0 where
    pub choose : Choice
    pub is_choice : IsChoiceOf t (constructors_of items) choose
    pub names : Names
    pub are_names : AreNames t names
    pub begins : Begins (Shown choose names) (length i.bytes) 0 [] text
