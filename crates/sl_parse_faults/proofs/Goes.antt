-- A tree that goes on as symbols do, up to the place of a fault, and there with a form of the language.
use Rattle.std.proofs.Common.{◌≡◌, ℕ, zero, suc, ◌+◌, List, [], ◌∷◌, ◌++◌, length, Option, None, Some, refl, ap, sym, arith}
use Rattle.sl_ast.specs.Operators.{missing_function, missing_statement}
use Rattle.sl_ast.specs.Spelling.{name, keyword}
use Rattle.sl_ast.specs.Symbols.{quoted, Sym, number, word, mark}
use Rattle.sl_ast.specs.Trees.{Name}
use Rattle.sl_ast.specs.declared.symbols.Feature.{Feature}
use Rattle.sl_ast.specs.declared.symbols.Feature.TheVariants as f
use Rattle.sl_ast.specs.declared.symbols.Keyword.TheVariants as k
use Rattle.sl_ast.specs.declared.symbols.Mark.TheVariants as m
use Rattle.sl_parse_grammar.specs.Faults.{back_of}
use Rattle.sl_parse_grammar.specs.Reader.{Form, syntax, nesting, unsupported, Fault, fault, Input, left, first, refused_as}
use Rattle.sl_parse_faults.specs.Forms.{other, IsNameLike}

-- ---- what stands for a form that is left out

-- those whose place is the symbol that decides
abbrev pub known_here : Feature → List Sym
known_here f.Crossbuild = name other ∷ []
known_here f.DelaySlot = name other ∷ []
known_here f.AddressOf = mark m.Tilde ∷ []
known_here f.NameInConstraint = mark m.Tilde ∷ []
known_here f.LeadingEllipsis = name other ∷ mark m.Ellipsis ∷ []
known_here f.WideValue = number 0 ∷ []
known_here feature = []

-- the symbol that goes past a limit
abbrev pub passing : Option Sym → List Sym
passing None = []
passing (Some x) = x ∷ []

abbrev pub known_as : Form → Option Sym → List Sym
known_as syntax o = []
known_as nesting o = passing o
known_as (unsupported feature zero) o = known_here feature
known_as (unsupported feature (suc zero)) o = name other ∷ mark m.Open ∷ []
known_as (unsupported feature (suc (suc n))) o = keyword k.WordSize ∷ mark m.Equals ∷ number 1 ∷ []

-- with limits that are one wider a tree goes on with it, else it ends at the place
abbrev pub hint : ℕ → Form → List Sym → List Sym
hint zero form xs = []
hint (suc n) form xs = known_as form (first xs)

-- ---- the symbols at the place of such a form

abbrev pub StandsHere : Feature → Option Sym → Type 0
StandsHere f.FloatingPoint o = o ≡ Some (mark m.Floating)
StandsHere f.InstNext2 o = o ≡ Some (keyword k.InstNext2)
StandsHere f.Crossbuild o = (w : Name) × (o ≡ Some (name w)) × (missing_statement w ≡ Some f.Crossbuild)
StandsHere f.DelaySlot o = (w : Name) × (o ≡ Some (name w)) × (missing_statement w ≡ Some f.DelaySlot)
StandsHere f.AddressOf o = o ≡ Some (mark m.Ampersand)
StandsHere f.NameInConstraint o = (x : Sym) × (o ≡ Some x) × IsNameLike x
StandsHere f.LeadingEllipsis o = o ≡ Some (mark m.Ellipsis)
StandsHere f.WideValue o = (n : ℕ) × (o ≡ Some (number n))
StandsHere feature o = ⊥

abbrev pub Stands : Form → List Sym → Type 0
Stands syntax xs = Unit {0}
Stands nesting xs = (x : Sym) × (first xs ≡ Some x)
Stands (unsupported feature zero) xs = StandsHere feature (first xs)
Stands (unsupported feature (suc zero)) xs = (w : Name) × (ys : List Sym) × (xs ≡ name w ∷ mark m.Open ∷ ys) × (missing_function w ≡ Some feature)
Stands (unsupported feature (suc (suc n))) xs =
    (size : ℕ) × (ys : List Sym) × (xs ≡ keyword k.WordSize ∷ mark m.Equals ∷ number size ∷ ys) × (feature ≡ f.WordSize) × (n ≡ 0)

-- ---- going together

abbrev pub Starts : List Sym → List Sym → Type 0
Starts front ys = (rest : List Sym) × (ys ≡ front ++ rest)

-- How many symbols are left where a tree leaves those with the fault: without a hint where it was found, with one at
-- the place where the form began.
abbrev pub place : ℕ → Fault → ℕ
place zero e = e.left
place (suc n) e = back_of e.form + e.left

-- there a form that is left out is known by its symbols
abbrev pub StandsAt : ℕ → Form → List Sym → Type 0
StandsAt zero form xs = Unit {0}
StandsAt (suc n) form xs = Stands form xs

-- The second list goes on as the first one, up to where so many are left, and there with the hint.
pub data Goes (extra : ℕ) (form : Form) (n : ℕ) : List Sym → List Sym → Type 0 where
  at_place : {xs ys : List Sym} → length xs ≡ n → Starts (hint extra form xs) ys → StandsAt extra form xs → Goes extra form n xs ys
  there : {x : Sym} {xs ys : List Sym} → Goes extra form n xs ys → Goes extra form n (x ∷ xs) (x ∷ ys)

pub one_more : (extra : ℕ) (form : Form) (n : ℕ) (x : Sym) (xs ys : List Sym) → Goes extra form n xs ys → Goes extra form n (x ∷ xs) (x ∷ ys)
one_more extra form n x xs ys h = there h

-- ---- where a reader refuses

no_hint : (extra : ℕ) (form : Form) (xs ys : List Sym) → known_as form (first xs) ≡ [] → Starts (hint extra form xs) ys
no_hint zero form xs ys e = (ys, refl)
no_hint (suc n) form xs ys e = rw e (ys, refl)

refused_known : (o : Option Sym) → known_as (refused_as o) o ≡ []
refused_known (Some (mark m.Floating)) = refl
refused_known (Some (word (quoted k.InstNext2))) = refl
refused_known o = refl

refused_back : (o : Option Sym) → back_of (refused_as o) ≡ 0
refused_back (Some (mark m.Floating)) = refl
refused_back (Some (word (quoted k.InstNext2))) = refl
refused_back o = refl

refused_stands : (xs : List Sym) (o : Option Sym) → first xs ≡ o → Stands (refused_as o) xs
refused_stands xs (Some (mark m.Floating)) e = e
refused_stands xs (Some (word (quoted k.InstNext2))) e = e
refused_stands xs o e = tt

-- any tree goes on up to where a reader refuses before it takes a symbol
pub goes_refused : (extra : ℕ) (i : Input) (ys : List Sym) → Goes extra (refused_as (first i.rest)) (place extra (fault (refused_as (first i.rest)) (left i))) i.rest ys
goes_refused zero i ys = at_place refl (ys, refl) tt
goes_refused (suc n) i ys =
    let back = refused_back (first i.rest) in
    at_place (omega (arith, back)) (no_hint (suc n) _ i.rest ys (refused_known (first i.rest))) (refused_stands i.rest (first i.rest) refl)

-- where a symbol goes past a limit: any tree ends there, and with wider limits one goes on with it
pub ends_at_limit : (i : Input) (x : Sym) (ys : List Sym) → first i.rest ≡ Some x → Goes zero nesting (place zero (fault nesting (left i))) i.rest ys
ends_at_limit i x ys is = at_place refl (ys, refl) tt

pub goes_past_limit : (extra : ℕ) (i : Input) (x : Sym) (ys : List Sym) → first i.rest ≡ Some x → Goes (suc extra) nesting (place (suc extra) (fault nesting (left i))) i.rest (x ∷ ys)
goes_past_limit extra i x ys is = at_place (omega arith) (ys, ap (λ o. passing o ++ ys) (sym is)) (x, is)
