-- law: laws of the definitions.
use Rattle.std.specs.Prelude.{◌≡◌, ℕ, ◌+◌, ◌⊎◌, List, Result, Ok, Err}
use Rattle.sl_ast.specs.Spelling.{spell}
use Rattle.sl_ast.specs.Symbols.{Sym}
use Rattle.sl_ast.specs.Trees.{Item}
use Rattle.sl_ast.specs.Validity.{AreItems}
use Rattle.sl_parse_grammar.specs.Faults.{HasFault}
use Rattle.sl_parse_grammar.specs.Reasons.{Reason}
use Rattle.sl_parse_grammar.specs.Items.{specification_within}
use Rattle.sl_parse_grammar.specs.Reader.{Fault, nesting}
use Rattle.sl_parse_faults.specs.Causes.{IsFault}

-- it ended at a limit
abbrev pub IsNesting : {A : Type 0} → Result A Fault → Type 0
IsNesting (Ok a) = ⊥
IsNesting (Err e) = e.form ≡ nesting

-- A reading that doesn't end at a limit is the same within wider limits.
abbrev pub MoreRoomReadsTheSame : Type 0
MoreRoomReadsTheSame = (most deep more deeper : ℕ) (symbols : List Sym)
    → IsNesting (specification_within most deep symbols) ⊎ (specification_within most deep symbols ≡ specification_within (more + most) (deeper + deep) symbols)

-- What the reader refuses has the fault that is defined, at its place.
abbrev pub FaultsHaveCauses : Type 0
FaultsHaveCauses = (symbols : List Sym) (reason : Reason) (place : ℕ) → HasFault symbols reason place → IsFault symbols reason place

-- symbols that a tree without a fault spells
abbrev pub IsSpelled : List Sym → Type 0
IsSpelled symbols = (items : List Item) × AreItems items × (spell items ≡ symbols)

-- Any symbols are the spelling of a tree, or have a fault.
abbrev pub AnyHaveTreeOrFault : Type 0
AnyHaveTreeOrFault = (symbols : List Sym) → IsSpelled symbols ⊎ ((reason : Reason) × (place : ℕ) × IsFault symbols reason place)

-- What a tree spells has no fault.
abbrev pub TreesHaveNoFault : Type 0
TreesHaveNoFault = (symbols : List Sym) (reason : Reason) (place : ℕ) → IsSpelled symbols → IsFault symbols reason place → ⊥

-- Symbols have one fault at most.
abbrev pub FaultsAreOne : Type 0
FaultsAreOne = (symbols : List Sym) (r q : Reason) (k l : ℕ) → IsFault symbols r k → IsFault symbols q l → (k ≡ l) × (r ≡ q)
