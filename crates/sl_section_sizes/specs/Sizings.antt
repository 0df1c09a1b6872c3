-- meaning: the sizes of the sections of a text. Its constructors are taken in turn; what the tables
-- below a constructor export has its size before it.
use Rattle.std.specs.Prelude.{◌≡◌, ℕ, zero, suc, ◌==◌, ◌&&◌, Bool, true, false, ⊤}
use Rattle.std.specs.Prelude.{List, [], ◌∷◌, Vec, length, map, slice_set, Option, Some, None}
use Rattle.std.specs.declared.alloc.Global.{Global}
use Rattle.sl_section_flat.specs.Sections.{Step}
use Rattle.sl_sizes.specs.Solutions.{IsFirstClash, IsFirstUnfixed, IsOnlySolution, bytes_at}
use Rattle.sl_sizes.specs.declared.Equation.{Equation}
use Rattle.sl_sizes.specs.declared.SizeError.TheVariants as f
use Rattle.sl_sizes.specs.declared.SizeError.{SizeError}
use Rattle.sl_word.specs.declared.word.Size.{Size}
use Rattle.sl_section_equations.specs.Equations.{section_equations}
use Rattle.sl_section_equations.specs.Fits.{section_fits}
use Rattle.sl_section_equations.specs.SizesIn.{size_in}
use Rattle.sl_section_equations.specs.Uses.{exported_size}
use Rattle.sl_section_sizes.specs.Constructors.{Constructor}
use Rattle.sl_section_sizes.specs.declared.stop.Stop.{Stop}
use Rattle.sl_section_sizes.specs.declared.stop.Stop.TheVariants as p
use Rattle.sl_section_sizes.specs.declared.stop.SizingError.{SizingError}
use Rattle.sl_section_sizes.specs.declared.stop.SizingError.TheVariants as e

-- ---- the sizes that tables export

abbrev pub operand_size : List (Option ℕ) → Option ℕ → Option ℕ
operand_size exports None = None
operand_size exports (Some table) = size_in exports table

-- the sizes that the operands of a constructor export
abbrev pub operand_sizes : List (Option ℕ) → List (Option ℕ) → List (Option ℕ)
operand_sizes exports operands = map (operand_size exports) operands

abbrev pub with_export : List (Option ℕ) → (table : ℕ) → Option ℕ → List (Option ℕ)
with_export exports table None = exports
with_export exports table (Some n) = slice_set exports table (Some n)

-- an export has the size of the earlier ones of its table
abbrev pub is_alike : (earlier size : Option ℕ) → Bool
is_alike None size = true
is_alike (Some m) None = true
is_alike (Some m) (Some n) = m == n

-- ---- one constructor

abbrev pub lists_of : List (Vec Size Global) → List (List Size)
lists_of xs = map (λ v. v.items) xs

abbrev pub steps_in : Constructor → List Step
steps_in c = c.steps

-- The equations have several solutions or none, as the error says.
abbrev pub Refuses : ℕ → List Equation → SizeError → Type 0
Refuses n es (f.Clash index) = IsFirstClash n es index
Refuses n es (f.Unfixed x) = IsFirstUnfixed n es x
Refuses n es f.NoMemory = ⊥

-- by the sizes of addresses, and those that the operands export
module _ (address : Option ℕ → ℕ) (operand : ℕ → Option ℕ) where
  abbrev pub equations_of : Constructor → List Equation
  equations_of c = section_equations address operand (steps_in c)

  -- Each variable of the section has its only size.
  pub record HasSizes (c : Constructor) (sizes : List Size) : Type 0 where
    pub count : length sizes ≡ c.variables
    pub only : IsOnlySolution c.variables (equations_of c) (bytes_at sizes)

-- by the size of earlier exports of the table, too
module _ (address : Option ℕ → ℕ) (operand : ℕ → Option ℕ) (earlier : Option ℕ) where
  -- whether rule 40 holds
  abbrev pub keeps_rule : Constructor → List Size → Bool
  keeps_rule c sizes = section_fits (bytes_at sizes) operand (steps_in c)
      && is_alike earlier (exported_size sizes (steps_in c))

  pub record IsSizedBy (c : Constructor) (sizes : List Size) : Type 0 where
    pub has : HasSizes address operand c sizes
    pub keeps : keeps_rule c sizes ≡ true

  pub record BreaksRule (c : Constructor) : Type 0 where
    pub sizes : List Size
    pub has : HasSizes address operand c sizes
    pub breaks : keeps_rule c sizes ≡ false

  -- Why there are no sizes that keep the rule; memory may run out at any point.
  abbrev pub StopsBy : Constructor → Stop → Type 0
  StopsBy c (p.Sizes error) = Refuses c.variables (equations_of address operand c) error
  StopsBy c p.Rule = BreaksRule c
  StopsBy c p.NoMemory = ⊤

-- ---- all constructors, by the sizes of addresses

module _ (address : Option ℕ → ℕ) where
  abbrev pub IsSized : List (Option ℕ) → Constructor → List Size → Type 0
  IsSized exports c sizes = IsSizedBy address (size_in (operand_sizes exports c.operands))
      (size_in exports c.table) c sizes

  abbrev pub StopsAt : List (Option ℕ) → Constructor → Stop → Type 0
  StopsAt exports c stop = StopsBy address (size_in (operand_sizes exports c.operands))
      (size_in exports c.table) c stop

  -- the sizes that tables export, behind a constructor
  abbrev pub after : List (Option ℕ) → Constructor → List Size → List (Option ℕ)
  after exports c sizes = with_export exports c.table (exported_size sizes (steps_in c))

  -- All constructors have these sizes, and the tables export the last ones.
  abbrev pub AreSized : List (Option ℕ) → List Constructor → List (List Size)
      → (last : List (Option ℕ)) → Type 0
  AreSized exports [] [] last = exports ≡ last
  AreSized exports (c ∷ cs) (sizes ∷ more) last =
      IsSized exports c sizes × AreSized (after exports c sizes) cs more last
  AreSized exports _ _ last = ⊥

  -- The constructor with this index is the first without sizes that keep the rule.
  abbrev pub FirstStop : List (Option ℕ) → List Constructor → ℕ → Stop → Type 0
  FirstStop exports [] index stop = ⊥
  FirstStop exports (c ∷ cs) zero stop = StopsAt exports c stop
  FirstStop exports (c ∷ cs) (suc index) stop =
      (sizes : List Size) × IsSized exports c sizes
      × FirstStop (after exports c sizes) cs index stop

  abbrev pub IsError : List (Option ℕ) → List Constructor → SizingError → Type 0
  IsError exports cs (e.Sizes index error) = FirstStop exports cs index (p.Sizes error)
  IsError exports cs (e.Rule index) = FirstStop exports cs index p.Rule
  IsError exports cs e.NoMemory = ⊤

-- ---- from one error to the next

abbrev pub stop_of : SizeError → Stop
stop_of f.NoMemory = p.NoMemory
stop_of error = p.Sizes error

abbrev pub error_at : ℕ → Stop → SizingError
error_at index p.NoMemory = e.NoMemory
error_at index (p.Sizes error) = e.Sizes index error
error_at index p.Rule = e.Rule index
