-- law: readers: what they take of the symbols that are left, or where they refuse.
use Rattle.std.specs.Prelude.{ℕ, zero, suc, Bool, false, if◌then◌else◌, List, [], ◌∷◌, length, drop, Option, Some, None, Result, Ok, Err, nat_le}
use denote.Enum.Bare.{sameb}
use Rattle.sl_ast.specs.contracts.symbols.Keyword as keywords
use Rattle.sl_ast.specs.contracts.symbols.Mark.{the_type}
use Rattle.sl_ast.specs.Operators.{widest}
use Rattle.sl_ast.specs.Symbols.{plain, quoted, Sym, number, word, mark}
use Rattle.sl_ast.specs.Trees.{Name}
use Rattle.sl_ast.specs.declared.symbols.Feature.{Feature}
use Rattle.sl_ast.specs.declared.symbols.Feature.TheVariants as f
use Rattle.sl_ast.specs.declared.symbols.Keyword.{Keyword}
use Rattle.sl_ast.specs.declared.symbols.Keyword.TheVariants as k
use Rattle.sl_ast.specs.declared.symbols.Mark.{Mark}
use Rattle.sl_ast.specs.declared.symbols.Mark.TheVariants as m

-- no tree goes on with the symbol; it goes past a limit of nesting; or a form that the language leaves out began
-- so many symbols before it
pub data Form : Type 0 where
  syntax : Form
  nesting : Form
  unsupported : Feature → ℕ → Form

-- a fault, and how many symbols are left where it was found, that one among them
pub record Fault : Type 0 where
  pub form : Form
  pub left : ℕ

abbrev pub fault : Form → ℕ → Fault
fault form n = record { form = form; left = n }

-- the symbols that are left, and how many more operators and brackets the outermost expression may have
pub record Input : Type 0 where
  pub rest : List Sym
  pub room : ℕ

abbrev pub at : List Sym → ℕ → Input
at rest room = record { rest = rest; room = room }

abbrev pub left : Input → ℕ
left i = length i.rest

abbrev pub Outcome : Type 0 → Type 0
Outcome A = Result (A × Input) Fault

abbrev pub Reader : Type 0 → Type 0
Reader A = Input → Outcome A

abbrev pub and_then : {A B : Type 0} → Outcome A → (A → Reader B) → Outcome B
and_then (Ok p) go = go p.0 p.1
and_then (Err e) go = Err e

infixl 10 ◌>>=◌
abbrev pub ◌>>=◌ : {A B : Type 0} → Reader A → (A → Reader B) → Reader B
p >>= go = λ i. and_then (p i) go

infixl 10 ◌>>◌
abbrev pub ◌>>◌ : {A B : Type 0} → Reader A → Reader B → Reader B
p >> q = p >>= (λ _. q)

abbrev pub pure : {A : Type 0} → A → Reader A
pure a = λ i. Ok (a, i)

abbrev pub first : List Sym → Option Sym
first [] = None
first (x ∷ xs) = Some x

abbrev pub peek : Reader (Option Sym)
peek = λ i. Ok (first i.rest, i)

abbrev pub next : Input → Input
next i = at (drop 1 i.rest) i.room

-- takes the symbol that comes next
abbrev pub skip : Reader (Unit {0})
skip = λ i. Ok (tt, next i)

-- takes it as one more operator or bracket
unfoldable pub enter : Reader (Unit {0})
enter = λ i. elim (i.room) [
  | zero ↦ Err (fault nesting (left i))
  | suc r ↦ Ok (tt, at (drop 1 i.rest) r)
]

-- refuses a form that the language leaves out, which began so many symbols before
abbrev pub unsupport : {A : Type 0} → Feature → ℕ → Reader A
unsupport feature back = λ i. Err (fault (unsupported feature back) (left i))

-- what stands in no tree: a mark or a word that the language leaves out wherever it stands, or any other
abbrev pub refused_as : Option Sym → Form
refused_as (Some (mark m.Floating)) = unsupported f.FloatingPoint 0
refused_as (Some (word (quoted k.InstNext2))) = unsupported f.InstNext2 0
refused_as o = syntax

abbrev pub refuse : {A : Type 0} → Reader A
refuse = λ i. Err (fault (refused_as (first i.rest)) (left i))

-- ---- single symbols

unfoldable pub same_mark : Mark → Mark → Bool
same_mark = sameb the_type

unfoldable pub same_keyword : Keyword → Keyword → Bool
same_keyword = sameb keywords.the_type

abbrev pub is_mark : Mark → Option Sym → Bool
is_mark k (Some (mark l)) = same_mark l k
is_mark k o = false

abbrev pub is_keyword : Keyword → Option Sym → Bool
is_keyword k (Some (word (quoted l))) = same_keyword l k
is_keyword k o = false

-- what the symbol that comes next decides
abbrev pub look : {A : Type 0} → (Option Sym → Bool) → Reader A → Reader A → Reader A
look test p q = peek >>= (λ o. if test o then p else q)

unfoldable pub expect : Mark → Reader (Unit {0})
expect k = look (is_mark k) skip refuse

unfoldable pub expect_keyword : Keyword → Reader (Unit {0})
expect_keyword k = look (is_keyword k) skip refuse

abbrev pub number_by : Option Sym → Reader ℕ
number_by (Some (number n)) = skip >> pure n
number_by o = refuse

-- an integer
unfoldable pub integer_here : Reader ℕ
integer_here = peek >>= number_by

abbrev pub name_by : Option Sym → Reader Name
name_by (Some (word (plain w))) = skip >> pure w
name_by o = refuse

-- a name
unfoldable pub name_here : Reader Name
name_here = peek >>= name_by

abbrev pub size_by : Option Sym → Reader ℕ
size_by (Some (number n)) = if nat_le n widest then skip >> pure n else unsupport f.WideValue 0
size_by o = refuse

-- a size in bytes
unfoldable pub size_here : Reader ℕ
size_here = peek >>= size_by

-- what may lack: it is there where the symbol that comes next passes the test
abbrev pub optional : {A : Type 0} → (Option Sym → Bool) → Reader A → Reader (Option A)
optional test p = look test (p >>= (λ a. pure (Some a))) (pure None)

-- `:n`, which may lack
unfoldable pub size_option : Reader (Option ℕ)
size_option = optional (is_mark m.Colon) (skip >> size_here)
