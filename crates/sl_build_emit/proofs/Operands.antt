-- Operands that aren't there, and what holds where a call succeeds.
use Rattle.std.proofs.Common.{◌≡◌, ◌++◌, ◌∷◌, [], ℕ, zero, suc, ◌≤◌, List, Ok, Err, OnOk, refl, ap, length, arith, pos}
use Rattle.std.specs.Prelude.{Result, Vec, slice_get, unwrap_or}
use Rattle.std.specs.declared.alloc.Global.{Global}
use Rattle.sl_faithful_code.specs.Operations.{Operation}
use Rattle.sl_build_emit.specs.Views.{lists_of, references_of}
use Rattle.sl_build_emit.specs.declared.reference.Reference.{Reference}
use Rattle.sl_meaning_sections.specs.References.{number}
use Rattle.sl_meaning_sections.specs.Values.{reference_at}
use Rattle.sl_pcode.specs.declared.operation.Op.{Op}

-- lists of operands that aren't there
pub none_there : (lists : List (Vec Op Global)) (i : ℕ) → length lists ≤ i → unwrap_or (slice_get (lists_of lists) i) [] ≡ []
none_there [] i past = refl
none_there (v ∷ vs) zero past = absurd (omega arith)
none_there (v ∷ vs) (suc i) past = none_there vs i (omega arith)

-- an operand that isn't there is 0
pub absent : (refs : List Reference) (i : ℕ) → length refs ≤ i → reference_at (references_of refs) i ≡ number (pos 0)
absent [] i past = refl
absent (r ∷ rs) zero past = absurd (omega arith)
absent (r ∷ rs) (suc i) past = absent rs i (omega arith)

pub and_nothing : (xs : List Operation) → xs ++ [] ≡ xs
and_nothing [] = refl
and_nothing (x ∷ xs) = ap (λ ys. x ∷ ys) (and_nothing xs)

-- what holds where a call succeeds
pub mapped : {T E : Type 0} (r : Result T E) (P Q : Type 0) → (P → Q) → OnOk r P → OnOk r Q
mapped (Ok v) P Q f h = f h
mapped (Err e) P Q f h = h
