-- meaning: an encoding than which none is shorter.
use Rattle.std.specs.Prelude.{ℕ, ◌≤◌, List, length}
use Rattle.sl_asm_encodings.specs.Encodings.{Encodes}
use Rattle.sl_ast.specs.Trees.{Constructor}
use Rattle.sl_ast.specs.Unfolding.{Placed}
use Rattle.sl_spec.specs.declared.tables.Tables.{Tables}

module _ (t : Tables) (cs : List (Placed Constructor)) (address context : ℕ) (text : List ℕ) where
  -- The bytes are an encoding of the text, and none has fewer bytes.
  pub record EncodesShortest (bytes : List ℕ) : Type 0 where
    pub encodes : Encodes t cs address context text bytes
    pub shortest : (other : List ℕ) → Encodes t cs address context text other → length bytes ≤ length other
