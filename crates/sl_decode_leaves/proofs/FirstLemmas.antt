-- Names that are there once, each with its first place.
use Rattle.std.proofs.Common.{◌≡◌, ℕ, Bool, true, false, ◌||◌, cond, List, [], ◌∷◌, ◌++◌, Option, Some, refl, sym}
use Rattle.std.proofs.lemmas.Slice.Eq.{bytes_eq-Decides}
use Rattle.std.specs.Option.{option_map}
use Rattle.std.specs.Str.{bytes_eq}
use Rattle.sl_decode_meaning.specs.Places.{Leaf, first_place, leaf}
use Rattle.sl_decode_leaves.specs.Extents.{extent, leaves_at}
use Rattle.sl_decode_leaves.specs.declared.leaves.Leaf as l
use Rattle.sl_decode_leaves.proofs.LeafLemmas.{first_append, there_already}
use Rattle.sl_spec.specs.Named.{has_name, named}
use Rattle.sl_spec.specs.Tables.{Name}

-- the test of two names, either way round
same_test : (a b : Bool) → (a ≡ true → b ≡ true) → (b ≡ true → a ≡ true) → a ≡ b
same_test true b f g = sym (f refl)
same_test false true f g = g refl
same_test false false f g = refl

turned : (n m : Name) → bytes_eq n m ≡ bytes_eq m n
turned n m = same_test (bytes_eq n m) (bytes_eq m n)
    (λ h. (bytes_eq-Decides m n).1 (sym ((bytes_eq-Decides n m).0 h)))
    (λ h. (bytes_eq-Decides n m).1 (sym ((bytes_eq-Decides m n).0 h)))

module _ (lengths : List ℕ) (n : Name) where
  abbrev place_of : l.Leaf → ℕ
  place_of x = extent x.place lengths

  first_or : (b c : Bool) (x : l.Leaf) (o : Option l.Leaf) (p : Option ℕ) → b ≡ c → option_map place_of o ≡ p
      → option_map place_of (cond b (Some x) o) ≡ cond c (Some (place_of x)) p
  first_or true true x o p same rest = refl
  first_or false false x o p same rest = rest
  first_or true false x o p same rest = absurd (cc same)
  first_or false true x o p same rest = absurd (cc same)

  -- what has a name stands where the name stands first
  pub first_named : (ls : List l.Leaf)
      → option_map place_of (named (λ x. x.name.now) n ls) ≡ first_place n (leaves_at lengths ls)
  first_named [] = refl
  first_named (x ∷ xs) =
      first_or (bytes_eq n x.name.now) (bytes_eq x.name.now n) x (named (λ y. y.name.now) n xs) (first_place n (leaves_at lengths xs))
      (turned n x.name.now) (first_named xs)

  stands_or : (b c : Bool) (more : Bool) (at : ℕ) (rest : Option ℕ) → b ≡ c → (b || more) ≡ true
      → (more ≡ true → (e : ℕ) × (rest ≡ Some e)) → (e : ℕ) × (cond c (Some at) rest ≡ Some e)
  stands_or true true more at rest same has there = (at, refl)
  stands_or false false more at rest same has there = there has
  stands_or true false more at rest same has there = absurd (cc same)
  stands_or false true more at rest same has there = absurd (cc same)

  stands_first : (ls : List l.Leaf) → has_name (λ x. x.name.now) n ls ≡ true
      → (e : ℕ) × (first_place n (leaves_at lengths ls) ≡ Some e)
  stands_first [] none = absurd (cc none)
  stands_first (x ∷ xs) has =
      stands_or (bytes_eq n x.name.now) (bytes_eq x.name.now n) (has_name (λ y. y.name.now) n xs) (place_of x)
      (first_place n (leaves_at lengths xs)) (turned n x.name.now) has (stands_first xs)

  -- a name that is there already
  pub has_first : (m : Name) (alone : Bool) (at : ℕ) (ls : List l.Leaf) (rest : List Leaf) → has_name (λ x. x.name.now) n ls ≡ true
      → first_place m (leaves_at lengths ls ++ rest) ≡ first_place m (leaves_at lengths ls ++ leaf n alone at ∷ rest)
  has_first m alone at ls rest has =
      let there = stands_first ls has in
      there_already first_place first_append m n (leaf n alone at) (leaves_at lengths ls) rest at there.0 refl there.1
