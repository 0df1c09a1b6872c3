-- The size of a space among its attributes.
use Rattle.std.proofs.Common.{◌≡◌, ℕ, ◌+◌, ◌≤◌, Bool, true, false, cond, ◌&&◌, List, [], ◌∷◌, map, Option, Some, None, option_map, find, refl, ap, ◌∙◌, arith}
use Rattle.std.specs.Prelude.{nat_le, count_by, ◌==◌}
use Rattle.std.specs.List.{list_all}
use Rattle.std.specs.Borrow.{Bor}
use Rattle.std.proofs.lemmas.Bool.{leb-true}
use Rattle.std.proofs.lemmas.List.Sums.{sum_by-cons}
use borrow.Author.Tests.{eqb-true}
use Rattle.sl_ast.specs.Trees.{SpaceAttribute, of_type, of_size, of_word_size, is_default}
use Rattle.sl_spec_rules.proofs.ListLemmas.{find_map}
use Rattle.sl_spec_registers.proofs.BoolLemmas.{and_parts}
use Rattle.sl_spec_registers.specs.SpaceRules.{attribute_fits, has_size_and_type, is_size, is_type, size_in}

-- ---- where all attributes fit, the first size is at most 8, and one that is there is at least 1

abbrev Fits : Option SpaceAttribute → Type 0
Fits None = Unit {0}
Fits (Some x) = (1 ≤ size_in (Some x)) × (size_in (Some x) ≤ 8)

one_fits : (x : SpaceAttribute) → is_size x ≡ true → attribute_fits x ≡ true → Fits (Some x)
one_fits (of_size n) is h = let p = and_parts (nat_le 1 n) (nat_le n 8) h in (leb-true 1 n p.0, leb-true n 8 p.1)
one_fits (of_type t) is h = absurd (cc)
one_fits (of_word_size n) is h = absurd (cc)
one_fits is_default is h = absurd (cc)

found_fits : (b : Bool) (x : SpaceAttribute) (xs : List SpaceAttribute) → is_size x ≡ b → attribute_fits x ≡ true → Fits (find is_size xs) → Fits (cond b (Some x) (find is_size xs))
found_fits true x xs is h rest = one_fits x is h
found_fits false x xs is h rest = rest

all_fit : (xs : List SpaceAttribute) → list_all attribute_fits xs ≡ true → Fits (find is_size xs)
all_fit [] h = tt
all_fit (x ∷ xs) h = let p = and_parts (attribute_fits x) (list_all attribute_fits xs) h in found_fits (is_size x) x xs refl p.0 (all_fit xs p.1)

-- ---- where one is counted, one is found

count_step : (b : Bool) (x : SpaceAttribute) (o : Option SpaceAttribute) (n : ℕ) → (o ≡ None → n ≡ 0) → cond b (Some x) o ≡ None → cond b 1 0 + n ≡ 0
count_step true x o n rest h = absurd (cc)
count_step false x o n rest h = let e = rest h in omega arith

count_none : (xs : List SpaceAttribute) → find is_size xs ≡ None → count_by is_size xs ≡ 0
count_none [] h = refl
count_none (x ∷ xs) h = rw sum_by-cons (count_step (is_size x) x (find is_size xs) (count_by is_size xs) (count_none xs) h)

fits_most : (o : Option SpaceAttribute) → Fits o → size_in o ≤ 8
fits_most None h = omega arith
fits_most (Some x) h = h.1

fits_some : (o : Option SpaceAttribute) → Fits o → (o ≡ None → ⊥) → 1 ≤ size_in o
fits_some None h some = absurd (some refl)
fits_some (Some x) h some = h.0

pub size_is_at_most_8 : (xs : List SpaceAttribute) → has_size_and_type xs ≡ true → size_in (find is_size xs) ≤ 8
unfolding has_size_and_type
size_is_at_most_8 xs h =
    let p = and_parts (count_by is_size xs == 1) ((count_by is_type xs == 1) && list_all attribute_fits xs) h in
    fits_most (find is_size xs) (all_fit xs (and_parts (count_by is_type xs == 1) (list_all attribute_fits xs) p.1).1)

pub size_is_some : (xs : List SpaceAttribute) → has_size_and_type xs ≡ true → 1 ≤ size_in (find is_size xs)
unfolding has_size_and_type
size_is_some xs h =
    let p = and_parts (count_by is_size xs == 1) ((count_by is_type xs == 1) && list_all attribute_fits xs) h in
    let one : count_by is_size xs ≡ 1 = eqb-true (count_by is_size xs) 1 p.0 in
    fits_some (find is_size xs) (all_fit xs (and_parts (count_by is_type xs == 1) (list_all attribute_fits xs) p.1).1)
    (λ none. let z = count_none xs none in absurd (omega arith))

-- ---- what was found in the program's list, as it is seen

seen_within : {A B : Type 0} (f : A → B) (o : Option (Bor A)) → option_map (λ x. f x.now) o ≡ option_map f (option_map (λ x. x.now) o)
seen_within f None = refl
seen_within f (Some x) = refl

pub seen_found : {A B : Type 0} (p : B → Bool) (f : A → B) (xs : List A) (o : Option (Bor A)) → option_map (λ x. x.now) o ≡ find (λ x. p (f x)) xs
    → option_map (λ x. f x.now) o ≡ find p (map f xs)
seen_found p f xs o e = seen_within f o ∙ ap (option_map f) e ∙ find_map p f xs
