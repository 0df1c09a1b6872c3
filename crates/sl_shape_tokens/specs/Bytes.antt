-- view: how many bytes lists of tokens have.
use Rattle.std.specs.Prelude.{◌≡◌, ℕ, ◌+◌, List, get_or, map, min, sum_by}
use Rattle.sl_shape_tokens.specs.declared.bytes.ListBytes.{ListBytes}
use Rattle.sl_shape_tokens.specs.declared.nodes.Node.{Node}
use Rattle.sl_shape_tokens.specs.declared.nodes.Node.TheVariants.{One, Joined}

-- the greatest number of 32 bits
abbrev pub most_bytes : ℕ
most_bytes = 4294967295

-- the bytes of a list, by the bytes of each token; a number that stops
abbrev pub bytes_of : List ℕ → List ℕ → ℕ
bytes_of sizes tokens = min (sum_by (λ t. get_or sizes t 0) tokens) most_bytes

-- The bytes of each of these lists are known.
abbrev pub Knows : ListBytes → List (List ℕ) → Type 0
Knows bytes lists = bytes.known.items ≡ map (bytes_of bytes.sizes.items) lists

-- ---- as they are reckoned

abbrev pub capped_sum : ℕ → ℕ → ℕ
capped_sum m n = min (m + n) most_bytes

-- the bytes of a node, from those of the nodes before it
abbrev pub cost : List ℕ → List ℕ → Node → ℕ
cost sizes known (One t) = capped_sum (get_or sizes t 0) 0
cost sizes known (Joined l r) = capped_sum (get_or known l 0) (get_or known r 0)
