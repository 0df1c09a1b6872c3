-- Members of lists that are filtered, mapped or gathered.
use Rattle.std.proofs.Common.{◌≡◌, inl, inr, zero, suc, Bool, true, false, List, [], ◌∷◌, map, subst, refl, sym, ap, ◌∙◌, arith}
use Rattle.std.specs.Prelude.{cond}
use Rattle.std.specs.List.{Contains, filter, flat_map}
use Rattle.std.proofs.lemmas.Bool.{false≢true}
use Rattle.std.proofs.lemmas.List.Elements.{Contains-append_cases, Contains-append_left, Contains-append_right}
use Rattle.sl_spec_rules.specs.Gathered.{gathered}

filter_by : {X : Type 0} (p : X → Bool) (y : X) (ys : List X) (x : X) (b : Bool) → p y ≡ b → p x ≡ true → (Contains ys x → Contains (filter p ys) x)
    → Contains (y ∷ ys) x → Contains (cond b (y ∷ filter p ys) (filter p ys)) x
filter_by p y ys x true is passes later (zero, below, here) = (0, omega arith, here)
filter_by p y ys x true is passes later (suc k, below, here) = let c = later (k, omega (arith, below), here) in (suc c.0, omega (arith, c.1), c.2)
filter_by p y ys x false is passes later (zero, below, here) = absurd (false≢true (sym is ∙ ap p here ∙ passes))
filter_by p y ys x false is passes later (suc k, below, here) = later (k, omega (arith, below), here)

pub in_filter : {X : Type 0} (p : X → Bool) (xs : List X) (x : X) → p x ≡ true → Contains xs x → Contains (filter p xs) x
in_filter p [] x passes c = absurd (omega (arith, c.1))
in_filter p (y ∷ ys) x passes c = filter_by p y ys x (p y) refl passes (λ d. in_filter p ys x passes d) c

pub in_map : {X Y : Type 0} (f : X → Y) (xs : List X) (x : X) → Contains xs x → Contains (map f xs) (f x)
in_map f [] x c = absurd (omega (arith, c.1))
in_map f (y ∷ ys) x (zero, below, here) = (0, omega arith, ap f here)
in_map f (y ∷ ys) x (suc k, below, here) = let c = in_map f ys x (k, omega (arith, below), here) in (suc c.0, omega (arith, c.1), c.2)

-- what is gathered comes of a member
pub of_gathered : {X M : Type 0} (f : X → List M) (xs : List X) (m : M) → Contains (gathered f xs) m → (x : X) × Contains xs x × Contains (f x) m
unfolding gathered
of_gathered f [] m c = absurd (omega (arith, c.1))
of_gathered f (x ∷ xs) m c = elim (Contains-append_cases (f x) (gathered f xs) m c) [
  | inl d ↦ (x, (0, omega arith, refl), d)
  | inr d ↦ let r = of_gathered f xs m d in (r.0, (suc r.1.0, omega (arith, r.1.1), r.1.2), r.2)
]

-- what is kept passes
kept_by : {X : Type 0} (p : X → Bool) (y : X) (ys : List X) (x : X) (b : Bool) → p y ≡ b → (Contains ys x → p x ≡ true) → Contains (cond b (y ∷ ys) ys) x → p x ≡ true
kept_by p y ys x true is later (zero, below, here) = ap p (sym here) ∙ is
kept_by p y ys x true is later (suc k, below, here) = later (k, omega (arith, below), here)
kept_by p y ys x false is later c = later c

pub passes_filter : {X : Type 0} (p : X → Bool) (xs : List X) (x : X) → Contains (filter p xs) x → p x ≡ true
passes_filter p [] x c = absurd (omega (arith, c.1))
passes_filter p (y ∷ ys) x c = kept_by p y (filter p ys) x (p y) refl (λ d. passes_filter p ys x d) c

-- what a member gives is gathered
pub in_gathered : {X M : Type 0} (f : X → List M) (xs : List X) (x : X) (m : M) → Contains xs x → Contains (f x) m → Contains (gathered f xs) m
unfolding gathered
in_gathered f [] x m c d = absurd (omega (arith, c.1))
in_gathered f (y ∷ ys) x m (zero, below, here) d = Contains-append_left (f y) (gathered f ys) m (subst (λ z. Contains (f z) m) (sym here) d)
in_gathered f (y ∷ ys) x m (suc k, below, here) d = Contains-append_right (f y) (gathered f ys) m (in_gathered f ys x m (k, omega (arith, below), here) d)

-- what a member gives is in the flat list
pub in_flat : {X M : Type 0} (f : X → List M) (xs : List X) (x : X) (m : M) → Contains xs x → Contains (f x) m → Contains (flat_map f xs) m
in_flat f [] x m c d = absurd (omega (arith, c.1))
in_flat f (y ∷ ys) x m (zero, below, here) d = Contains-append_left (f y) (flat_map f ys) m (subst (λ z. Contains (f z) m) (sym here) d)
in_flat f (y ∷ ys) x m (suc k, below, here) d = Contains-append_right (f y) (flat_map f ys) m (in_flat f ys x m (k, omega (arith, below), here) d)
