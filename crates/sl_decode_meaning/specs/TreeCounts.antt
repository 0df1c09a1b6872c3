-- meaning: how many nodes trees have.
use Rattle.std.specs.Prelude.{ℕ, ◌+◌}
use Rattle.sl_decode_meaning.specs.Trees.{Trees, none, tree}

abbrev pub count : {N : Type 0} → Trees N → ℕ
count none = 0
count (tree n below behind) = 1 + (count below + count behind)
