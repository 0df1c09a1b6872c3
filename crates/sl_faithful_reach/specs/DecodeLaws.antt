-- law: that the bytes of an instruction, and sixteen from each of its nodes on, decide its
-- decode.
use Rattle.std.specs.Prelude.{◌≡◌, ◌≤◌, ℕ, List, take, Some, Ok, slice_get}
use Rattle.sl_ast.specs.Trees.{Constructor}
use Rattle.sl_ast.specs.Unfolding.{Placed}
use Rattle.sl_decode_meaning.specs.Decoding.{Decoded, decoded}
use Rattle.sl_decode_meaning.specs.Flat.{entries}
use Rattle.sl_decode_meaning.specs.Choices.{Choice}
use Rattle.sl_decode_meaning.specs.Trees.{Node, Trees}
use Rattle.sl_faithful_reach.specs.Sight.{sight, sight_in}
use Rattle.sl_spec.specs.Tables.{Token}
use Rattle.sl_spec.specs.declared.tables.Tables.{Tables}

-- Tokens have at most 64 bits, as rule 9 asks.
abbrev pub TokensAreShort : Tables → Type 0
TokensAreShort t = (i : ℕ) (token : Token) → slice_get t.tokens i ≡ Some token → token.bits ≤ 64

-- What decodes, decodes to the same over all bytes that are the same as far as the decode looks.
abbrev pub BytesDecide : Type 0
BytesDecide = (t : Tables) (cs : List (Placed Constructor)) (choose : Choice) (one other : List ℕ)
    (address context n : ℕ) (d : Decoded) → TokensAreShort t
    → decoded t cs choose one address context ≡ Ok d → sight d.tree ≤ n
    → take n one ≡ take n other
    → decoded t cs choose other address context ≡ Ok d

-- As a program keeps trees, they tell how far the decode looked.
abbrev pub EntriesTell : Type 0
EntriesTell = (first : ℕ) (trees : Trees Node) → sight_in (entries first trees) ≡ sight trees
