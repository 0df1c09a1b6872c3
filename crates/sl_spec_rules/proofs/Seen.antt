-- What is said of a list that is seen by a view.
use Rattle.std.proofs.Common.{◌≡◌, ◌<◌, ◌≤◌, ◌+◌, ℕ, zero, suc, Bool, cond, List, [], ◌∷◌, map, length, get_or, count_by, refl, ap, arith}
use Rattle.std.proofs.lemmas.List.{length-map}
use Rattle.std.proofs.lemmas.List.Sums.{sum_by-cons}
use Rattle.sl_spec_rules.proofs.ListLemmas.{any_map, all_map, find_map}

pub count_map : {A B : Type 0} (p : B → Bool) (f : A → B) (xs : List A) → count_by p (map f xs) ≡ count_by (λ x. p (f x)) xs
count_map p f [] = refl
count_map p f (x ∷ xs) = rw (sum_by-cons, sum_by-cons) (ap (λ n. cond (p (f x)) 1 0 + n) (count_map p f xs))

pub ruleset seen = (count_map, all_map, any_map, find_map)

pub below_map : {A B : Type 0} (f : A → B) (xs : List A) (i : ℕ) → i < length xs → i < length (map f xs)
below_map f xs i below = omega (arith, length-map xs f)

pub past_map : {A B : Type 0} (f : A → B) (xs : List A) (i : ℕ) → length xs ≤ i → length (map f xs) ≤ i
past_map f xs i past = omega (arith, length-map xs f, past)

-- what is read there, as it is seen
pub seen_map : {A B : Type 0} (f : A → B) (xs : List A) (i : ℕ) (x : A) → i < length xs → x ≡ get_or xs i x → f x ≡ get_or (map f xs) i (f x)
seen_map f [] i x below is = absurd (omega arith)
seen_map f (y ∷ ys) zero x below is = ap f is
seen_map f (y ∷ ys) (suc i) x below is = seen_map f ys i x (omega arith) is

-- an element that is read, as it is seen
pub read_map : {A B : Type 0} (f : A → B) (xs : List A) (i : ℕ) (d : A) → i < length xs → f (get_or xs i d) ≡ get_or (map f xs) i (f (get_or xs i d))
read_map f [] i d below = absurd (omega arith)
read_map f (x ∷ xs) zero d below = refl
read_map f (x ∷ xs) (suc i) d below = read_map f xs i d (omega arith)
