-- The parts of a test, and a test of a whole list read at one member.
use Rattle.std.proofs.Common.{◌≡◌, ℕ, zero, suc, ◌<◌, Bool, true, false, List, [], ◌∷◌, length, get_or, refl, ap, ◌∙◌, arith}
pub use Rattle.std.proofs.lemmas.Bool.{and_parts, or_parts as or_false}
use Rattle.std.specs.Prelude.{not}
use Rattle.std.specs.List.{list_all}

pub not_true : (a : Bool) → not a ≡ true → a ≡ false
not_true true h = absurd (cc)
not_true false h = refl

pub all_at : {A : Type 0} (p : A → Bool) (xs : List A) (i : ℕ) (x : A) → i < length xs → x ≡ get_or xs i x → list_all p xs ≡ true → p x ≡ true
all_at p [] i x below is h = absurd (omega arith)
all_at p (y ∷ ys) zero x below is h = ap p is ∙ (and_parts (p y) (list_all p ys) h).0
all_at p (y ∷ ys) (suc i) x below is h = all_at p ys i x (omega arith) is (and_parts (p y) (list_all p ys) h).1
