-- meaning: assignments of sizes to variables, and the equations that they meet.
use Rattle.std.specs.Prelude.{◌≡◌, ◌≢◌, ℕ, ◌+◌, ◌<◌, ◌≤◌, List, [], ◌∷◌, map, take, length, slice_index}
use Rattle.sl_word.specs.declared.word.Size.{Size}
use Rattle.sl_sizes.specs.declared.Equation.{Equation}
use Rattle.sl_sizes.specs.declared.Equation.TheVariants.{Is, Equal, Less}
use Rattle.sl_sizes.specs.declared.SizeError.{SizeError}
use Rattle.sl_sizes.specs.declared.SizeError.TheVariants.{Clash, Unfixed, NoMemory}

-- The equation names only variables below a number.
abbrev pub IsAbout : ℕ → Equation → Type 0
IsAbout variables (Is x n) = x < variables
IsAbout variables (Equal x y) = (x < variables) × (y < variables)
IsAbout variables (Less x y n) = (x < variables) × (y < variables)

-- The equation holds of an assignment, which gives each variable its size in bytes. In `Less x y n`, x is y minus n.
abbrev pub Holds : (ℕ → ℕ) → Equation → Type 0
Holds size (Is x n) = size x ≡ n.bytes
Holds size (Equal x y) = size x ≡ size y
Holds size (Less x y n) = size x + n ≡ size y

-- The assignment meets each equation of the list.
abbrev pub Meets : (ℕ → ℕ) → List Equation → Type 0
Meets size [] = Unit {0}
Meets size (equation ∷ rest) = Holds size equation × Meets size rest

-- The assignment gives each variable a size from 1 to 16, and meets the equations.
pub record Solves (variables : ℕ) (equations : List Equation) (size : ℕ → ℕ) : Type 0 where
  pub at_least_1 : (v : ℕ) → v < variables → 1 ≤ size v
  pub at_most_16 : (v : ℕ) → v < variables → size v ≤ 16
  pub meets : Meets size equations

-- The assignment solves the equations, and each that solves them gives the variables the same sizes.
pub record IsOnlySolution (variables : ℕ) (equations : List Equation) (size : ℕ → ℕ) : Type 0 where
  pub solves : Solves variables equations size
  pub only : (other : ℕ → ℕ) → Solves variables equations other → (v : ℕ) → v < variables → other v ≡ size v

-- No assignment meets the equations up to this one, and some assignment meets those before it.
pub record IsFirstClash (variables : ℕ) (equations : List Equation) (index : ℕ) : Type 0 where
  pub in_list : index < length equations
  pub none : (size : ℕ → ℕ) → Solves variables (take (index + 1) equations) size → ⊥
  pub before : (size : ℕ → ℕ) × Solves variables (take index equations) size

-- Two assignments that solve the equations differ at this variable, and none differ before it.
pub record IsFirstUnfixed (variables : ℕ) (equations : List Equation) (variable : ℕ) : Type 0 where
  pub in_range : variable < variables
  pub one : (size : ℕ → ℕ) × Solves variables equations size
  pub other : (size : ℕ → ℕ) × Solves variables equations size
  pub differ : one.0 variable ≢ other.0 variable
  pub before : (size other : ℕ → ℕ) → Solves variables equations size → Solves variables equations other → (v : ℕ) → v < variable → size v ≡ other v

-- The error says truly why there isn't exactly one solution. Memory may run out at any equations.
abbrev pub IsReason : ℕ → List Equation → SizeError → Type 0
IsReason variables equations (Clash index) = IsFirstClash variables equations index
IsReason variables equations (Unfixed variable) = IsFirstUnfixed variables equations variable
IsReason variables equations NoMemory = Unit {0}

-- The size of a variable in a list of sizes.
abbrev pub bytes_at : List Size → ℕ → ℕ
bytes_at sizes v = slice_index (map (λ size. size.bytes) sizes) v
