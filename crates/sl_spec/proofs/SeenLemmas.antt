-- An element of a list, as it is seen by a view.
use Rattle.std.proofs.Common.{◌≡◌, ℕ, zero, suc, ◌<◌, List, [], ◌∷◌, map, length, get_or, ap, arith}

pub seen_map : {A B : Type 0} (f : A → B) (xs : List A) (i : ℕ) (x : A) → i < length xs → x ≡ get_or xs i x → f x ≡ get_or (map f xs) i (f x)
seen_map f [] i x below is = absurd (omega arith)
seen_map f (y ∷ ys) zero x below is = ap f is
seen_map f (y ∷ ys) (suc i) x below is = seen_map f ys i x (omega arith) is
