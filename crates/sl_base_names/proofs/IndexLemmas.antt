-- The first index at which a test passes, by the first element and by the last.
use Rattle.std.proofs.Common.{◌≡◌, ◌+◌, ℕ, suc, Bool, true, false, cond, not, ◌||◌, List, [], ◌∷◌, ◌++◌, length, Option, Some, None, is_some, option_map, refl, sym, ap, ap₂, ◌∙◌, arith, nat_lt}
use Rattle.std.specs.Cmp.Lexicographic.{bytes_decides, nat_list_eq_equiv}
use Rattle.std.specs.List.{list_any, position, position_or_len}
use Rattle.std.specs.Option.{option_or}
use Rattle.std.specs.Str.{bytes_eq}
use Rattle.sl_base_names.specs.Found.{AreBytes, AreFound, found}
use Rattle.sl_base_names.specs.Names.{index_in, is_in}
use Rattle.sl_base_names.specs.declared.by_name.ByName.{ByName}

shifted : (k : ℕ) (b : Bool) → cond b (Some (1 + k)) None ≡ option_map suc (cond b (Some k) None)
shifted k true = let e : 1 + k ≡ suc k = omega arith in ap Some e
shifted k false = refl

cons_by : (b : Bool) (k n : ℕ) → cond (nat_lt (cond (not b) (1 + k) 0) (suc n)) (Some (cond (not b) (1 + k) 0)) None ≡ cond b (Some 0) (option_map suc (cond (nat_lt k n) (Some k) None))
cons_by true k n =
    let h : nat_lt 0 (suc n) ≡ true = grind arith in
    ap (λ b. cond b (Some 0) None) h
cons_by false k n =
    let h : nat_lt (1 + k) (suc n) ≡ nat_lt k n = grind arith in
    ap (λ b. cond b (Some (1 + k)) None) h ∙ shifted k (nat_lt k n)

module _ {X : Type 0} (p : X → Bool) where
  pub position_cons : (x : X) (xs : List X) → position p (x ∷ xs) ≡ cond (p x) (Some 0) (option_map suc (position p xs))
  position_cons x xs = cons_by (p x) (position_or_len p xs) (length xs)

  some_by : (b : Bool) (o : Option ℕ) (rest : Bool) → is_some o ≡ rest → is_some (cond b (Some 0) (option_map suc o)) ≡ (b || rest)
  some_by true o rest h = refl
  some_by false None rest h = h
  some_by false (Some k) rest h = h

  -- there is one where the test passes at all
  pub position_any : (xs : List X) → is_some (position p xs) ≡ list_any p xs
  position_any [] = refl
  position_any (x ∷ xs) = ap is_some (position_cons x xs) ∙ some_by (p x) (position p xs) (list_any p xs) (position_any xs)

  -- ---- with one more at the end

  last_by : (b c : Bool) (o : Option ℕ) (n : ℕ) → cond b (Some 0) (option_map suc (option_or o (cond c (Some n) None))) ≡ option_or (cond b (Some 0) (option_map suc o)) (cond c (Some (suc n)) None)
  last_by true c o n = refl
  last_by false c (Some k) n = refl
  last_by false true None n = refl
  last_by false false None n = refl

  pub position_last : (xs : List X) (y : X) → position p (xs ++ y ∷ []) ≡ option_or (position p xs) (cond (p y) (Some (length xs)) None)
  position_last [] y = position_cons y [] ∙ alone (p y)
    where
      alone : (b : Bool) → cond b (Some 0) (option_map suc None) ≡ cond b (Some 0) None
      alone true = refl
      alone false = refl
  position_last (x ∷ xs) y =
      position_cons x (xs ++ y ∷ []) ∙ ap (λ o. cond (p x) (Some 0) (option_map suc o)) (position_last xs y) ∙ last_by (p x) (p y) (position p xs) (length xs)
      ∙ ap (λ o. option_or o (cond (p y) (Some (suc (length xs))) None)) (sym (position_cons x xs))

-- ---- names

none_from : (o : Option ℕ) → is_some o ≡ false → o ≡ None
none_from None h = refl
none_from (Some x) h = absurd (cc)

at_end : (o : Option ℕ) → option_or o None ≡ o
at_end None = refl
at_end (Some k) = refl

-- the index of a name once another that wasn't there stands at the end
pub index_after : (names : List (List ℕ)) (added name : List ℕ) → is_in names added ≡ false → index_in (names ++ added ∷ []) name ≡ cond (bytes_eq added name) (Some (length names)) (index_in names name)
index_after names added name fresh = position_last (λ n. bytes_eq name n) names added ∙ by_name (bytes_eq added name) refl
  where
    by_name : (same : Bool) → bytes_eq added name ≡ same
        → option_or (index_in names name) (cond (bytes_eq name added) (Some (length names)) None) ≡ cond same (Some (length names)) (index_in names name)
    by_name true h =
        let e : added ≡ name = (bytes_decides added name).0 h in
        let none : index_in names name ≡ None = none_from _ (position_any (λ n. bytes_eq name n) names ∙ ap (is_in names) (sym e) ∙ fresh) in
        let same : bytes_eq name added ≡ true = nat_list_eq_equiv.symm name added ∙ h in
        rw (none, same) refl
    by_name false h =
        let other : bytes_eq name added ≡ false = nat_list_eq_equiv.symm name added ∙ h in
        rw other (at_end (index_in names name))

-- what is found once a name that wasn't there has the index of the end
pub found_after : (old new : ByName) (names : List (List ℕ)) (added : List ℕ) (i : ℕ) → AreFound old names → is_in names added ≡ false → i ≡ length names
    → ((name : List ℕ) → AreBytes name → found new name ≡ cond (bytes_eq added name) (Some i) (found old name)) → AreFound new (names ++ added ∷ [])
found_after old new names added i are fresh is after name bytes =
    after name bytes
    ∙ ap₂ (λ (j : ℕ) (rest : Option ℕ). cond (bytes_eq added name) (Some j) rest) is (are name bytes)
    ∙ sym (index_after names added name fresh)
