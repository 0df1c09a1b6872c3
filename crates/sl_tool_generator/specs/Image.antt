-- meaning: the image that `gen` lists and runs.
use Rattle.std.specs.Prelude.{ℕ, zero, suc, ◌+◌, ◌*◌, ◌%◌, List, [], ◌∷◌, ◌++◌}

-- which constructor an instruction is, and its registers, by its number
abbrev pub operation : ℕ → ℕ
operation j = (7 * j + 3) % 64

abbrev pub registers : ℕ → ℕ
registers j = 37 * j % 256

-- the bytes of the first n instructions
unfoldable pub image : ℕ → List ℕ
image zero = []
image (suc n) = image n ++ operation n ∷ registers n ∷ []
