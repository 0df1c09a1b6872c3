-- law: that a listing is one, that there is one, and that what is begun can be completed.
use Rattle.std.specs.Prelude.{◌≡◌, ℕ, ◌≤◌, List, [], ◌++◌, IfOk}
use Rattle.sl_list_instructions.specs.Instructions.{Listed, Subject}
use Rattle.sl_list_instructions.specs.Listings.{Lists}
use Rattle.sl_list_instructions.specs.Fronts.{Begins}

-- Each instruction has a byte at least, and so has the alignment.
pub record GoesOn (s : Subject) : Type 0 where
  pub alignment : 1 ≤ s.alignment
  pub lengths : (bytes : List ℕ) (address context : ℕ)
      → IfOk (s.tells bytes address context) (λ told. 1 ≤ told.length)

-- The listing of an image is one.
abbrev pub ListingIsOne : Type 0
ListingIsOne = (s : Subject) (end : ℕ) (a b : List ℕ)
    → Lists (Listed s) end 0 [] a → Lists (Listed s) end 0 [] b → a ≡ b

-- There is one.
abbrev pub SomeListing : Type 0
SomeListing = (s : Subject) (end : ℕ) → GoesOn s → (text : List ℕ) × Lists (Listed s) end 0 [] text

-- What it says for some first positions is a front of it.
abbrev pub BeginsListing : Type 0
BeginsListing = (s : Subject) (end : ℕ) (text : List ℕ) → GoesOn s
    → Begins (Listed s) end 0 [] text → (rest : List ℕ) × Lists (Listed s) end 0 [] (text ++ rest)
