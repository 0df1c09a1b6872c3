-- meaning: codes of a field cut into blocks.
use Rattle.std.specs.Prelude.{◌≡◌, ℕ, ◌+◌, ◌*◌, ◌/◌, ◌<◌, ◌≤◌, ◌^◌, ◌⊎◌, List, [], ◌∷◌, ◌++◌, length, Bool, true, false}
use Rattle.sl_shape_blocks.specs.declared.Block.{Block}
use Rattle.sl_shape_blocks.specs.declared.Codes.{Codes}

-- The code is in the block.
abbrev pub InBlock : Block → ℕ → Type 0
InBlock b n = n / 2 ^ b.size ≡ b.index

-- The block is one of the list.
abbrev pub Among : Block → List Block → Type 0
Among b [] = ⊥
Among b (c ∷ cs) = (b ≡ c) ⊎ Among b cs

-- No code is in two of the blocks.
abbrev pub Apart : List Block → Type 0
Apart [] = Unit {0}
Apart (b ∷ bs) = ((c : Block) (n : ℕ) → Among c bs → InBlock b n → InBlock c n → ⊥) × Apart bs

module _ (P : ℕ → Type 0) where
  -- The blocks have just the codes of the whole block for which this holds.
  pub record IsCover (whole : Block) (bs : List Block) : Type 0 where
    pub only : (b : Block) (n : ℕ) → Among b bs → InBlock b n → InBlock whole n × P n
    pub all : (n : ℕ) → InBlock whole n → P n → (b : Block) × Among b bs × InBlock b n

  -- And no code twice.
  pub record IsCut (whole : Block) (bs : List Block) : Type 0 where
    pub cover : IsCover whole bs
    pub apart : Apart bs

  -- And no cut has fewer blocks.
  pub record IsShortest (whole : Block) (bs : List Block) : Type 0 where
    pub is_cut : IsCut whole bs
    pub least : (cs : List Block) → IsCut whole cs → length bs ≤ length cs

  -- The new list has blocks more, a shortest cut.
  abbrev pub AddsShortest : Block → List Block → List Block → Type 0
  AddsShortest whole old new = (bs : List Block) × (new ≡ old ++ bs) × IsShortest whole bs

  -- Each code of the block satisfies it, or none does.
  abbrev pub AllSatisfy : Block → Type 0
  AllSatisfy whole = (n : ℕ) → InBlock whole n → P n

  abbrev pub NoneSatisfy : Block → Type 0
  NoneSatisfy whole = (n : ℕ) → InBlock whole n → P n → ⊥

-- From the first number to the second, both included.
abbrev pub IsBetween : ℕ → ℕ → ℕ → Type 0
IsBetween low high n = (low ≤ n) × (n ≤ high)

abbrev pub block : ℕ → ℕ → Block
block index size = record { index = index; size = size }

-- All codes of the block lie between, or none does.
abbrev pub IsFull : ℕ → ℕ → ℕ → ℕ → Type 0
IsFull low high index size = (n : ℕ) → InBlock (block index size) n → IsBetween low high n

abbrev pub IsEmpty : ℕ → ℕ → ℕ → ℕ → Type 0
IsEmpty low high index size = (n : ℕ) → InBlock (block index size) n → IsBetween low high n → ⊥

-- The code lies between the two, or doesn't where the others are meant.
abbrev pub between_or_not : Bool → ℕ → ℕ → ℕ → Type 0
between_or_not true low high n = IsBetween low high n
between_or_not false low high n = IsBetween low high n → ⊥

abbrev pub Satisfies : Codes → ℕ → Type 0
Satisfies codes n = between_or_not codes.inside codes.low codes.high n
