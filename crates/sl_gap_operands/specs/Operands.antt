-- meaning: the constructors that are examined for holes.
use Rattle.std.specs.Prelude.{◌≡◌, ◌≤◌, ℕ, Bool, false, List, [], ◌∷◌, Some, slice_get}
use Rattle.std.specs.List.{list_any}
use Rattle.std.specs.Option.{is_some}
use Rattle.sl_ast.specs.Trees.{Action, Constructor, global_set, set}
use Rattle.sl_ast.specs.Unfolding.{Placed, written}
use Rattle.sl_decode_meaning.specs.Kinds.{context_field, kind_of}
use Rattle.sl_decode_meaning.specs.Meanings.{Meaning, Slot, says, slot}
use Rattle.sl_spec.specs.Tables.{Ctor, Operand}
use Rattle.sl_spec.specs.declared.tables.Tables.{Tables}

-- whether an action sets a field of the context
abbrev pub sets_context : Tables → List Operand → Action → Bool
sets_context t os (set name e) = is_some (context_field t (kind_of t os name))
sets_context t os (global_set address name) = false

module _ (t : Tables) (cs : List (Placed Constructor)) where
  -- No action of the constructor of this number sets a field of the context.
  abbrev pub IsQuiet : ℕ → Type 0
  IsQuiet number = (c : Ctor) (d : Placed Constructor) → slice_get t.constructors number ≡ Some c → slice_get cs number ≡ Some d
      → list_any (sets_context t c.operands) (written d.1.actions) ≡ false

  -- The constructor has a table operand, its first one is at a place of at most 15 bytes, and none of its actions sets a
  -- field of the context.
  pub record IsExamined (number table place : ℕ) : Type 0 where
    pub said : Meaning
    pub says_so : says t cs number ≡ Some said
    pub at : List ℕ → ℕ
    pub rest : List Slot
    pub first : said.slots ≡ slot table at ∷ rest
    pub place_is : place ≡ at []
    pub near : place ≤ 15
    pub quiet : IsQuiet number
