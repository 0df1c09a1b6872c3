-- step: two readings of symbols that agree up to one place and may differ behind it.
use Rattle.std.specs.Prelude.{◌≡◌, ℕ, ◌+◌, ◌<◌, List, ◌∷◌, ◌++◌, length, Ok, Err}
use Rattle.sl_ast.specs.Symbols.{Sym}
use Rattle.sl_parse_grammar.specs.Reader.{Form, fault, Input, at, Outcome, Reader}

-- The reading ended behind the place where `ys` begins.
abbrev pub IsPast : {A : Type 0} → List Sym → Outcome A → Type 0
IsPast ys (Ok p) = length p.1.rest < length ys
IsPast ys (Err e) = e.left < length ys

-- Both ended before the place where `ys` and `zs` begin, in the same way, or both behind it.
pub data Parallel (A : Type 0) (ys zs : List Sym) : Outcome A → Outcome A → Type 0 where
  both_ok : (a : A) (xs : List Sym) (r : ℕ) → Parallel A ys zs (Ok (a, at (xs ++ ys) r)) (Ok (a, at (xs ++ zs) r))
  both_fault : (form : Form) (d m n : ℕ) → m ≡ d + length ys → n ≡ d + length zs → Parallel A ys zs (Err (fault form m)) (Err (fault form n))
  past : (o p : Outcome A) → IsPast ys o → IsPast zs p → Parallel A ys zs o p

-- What a reader does at a place depends on no symbol behind it, and it gives nothing back.
pub record Local (A : Type 0) (p : Reader A) : Type 0 where
  pub alike : (x : Sym) (xs ys zs : List Sym) (r : ℕ) → Parallel A (x ∷ ys) (x ∷ zs) (p (at (xs ++ x ∷ ys) r)) (p (at (xs ++ x ∷ zs) r))
  pub forward : (i : Input) (ys : List Sym) → length i.rest < length ys → IsPast ys (p i)
