-- law: the sizes of sections without an order: by what the tables export in the end.
use Rattle.std.specs.Prelude.{◌≡◌, ◌≢◌, ℕ, ◌<◌, true, List, [], ◌∷◌, length, Option, Some, None, ⊤}
use Rattle.sl_sizes.specs.Solutions.{bytes_at}
use Rattle.sl_word.specs.declared.word.Size.{Size}
use Rattle.sl_section_equations.specs.Fits.{section_fits}
use Rattle.sl_section_equations.specs.SizesIn.{size_in}
use Rattle.sl_section_equations.specs.Uses.{exported_size}
use Rattle.sl_section_sizes.specs.Sizings.{AreSized, HasSizes, operand_sizes, steps_in}
use Rattle.sl_section_sizes.specs.Constructors.{Constructor}

-- None of the constructors is one of the table.
abbrev pub NoneIsOf : (table : ℕ) → List Constructor → Type 0
NoneIsOf table [] = ⊤
NoneIsOf table (c ∷ cs) = (table ≢ c.table) × NoneIsOf table cs

-- None of the constructors is one of the tables that the operands are.
abbrev pub NoneIsBelow : (operands : List (Option ℕ)) → List Constructor → Type 0
NoneIsBelow [] cs = ⊤
NoneIsBelow (None ∷ os) cs = NoneIsBelow os cs
NoneIsBelow (Some table ∷ os) cs = NoneIsOf table cs × NoneIsBelow os cs

-- Each constructor stands behind all of the tables that its operands are.
abbrev pub AreOrdered : List Constructor → Type 0
AreOrdered [] = ⊤
AreOrdered (c ∷ cs) = NoneIsBelow c.operands (c ∷ cs) × AreOrdered cs

-- Each constructor's table has a number below n.
abbrev pub TablesAreBelow : (n : ℕ) → List Constructor → Type 0
TablesAreBelow n [] = ⊤
TablesAreBelow n (c ∷ cs) = (c.table < n) × TablesAreBelow n cs

module _ (address : Option ℕ → ℕ) (last : List (Option ℕ)) where
  abbrev pub operands_of : Constructor → ℕ → Option ℕ
  operands_of c = size_in (operand_sizes last c.operands)

  -- A section has its only sizes, by those that the tables export, and keeps rule 40.
  pub record FitsAll (c : Constructor) (sizes : List Size) : Type 0 where
    pub has : HasSizes address (operands_of c) c sizes
    pub fits : section_fits (bytes_at sizes) (operands_of c) (steps_in c) ≡ true
    pub alike : (n : ℕ) → exported_size sizes (steps_in c) ≡ Some n → size_in last c.table ≡ Some n

  abbrev pub AllFit : List Constructor → List (List Size) → Type 0
  AllFit [] [] = ⊤
  AllFit (c ∷ cs) (sizes ∷ more) = FitsAll c sizes × AllFit cs more
  AllFit _ _ = ⊥

abbrev pub SizesAreOfTheWhole : Type 0
SizesAreOfTheWhole = (address : Option ℕ → ℕ) (start last : List (Option ℕ))
    (cs : List Constructor) (sizes : List (List Size))
    → TablesAreBelow (length start) cs → AreOrdered cs
    → AreSized address start cs sizes last → AllFit address last cs sizes
