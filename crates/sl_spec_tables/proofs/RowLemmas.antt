-- Constructors by table.
use Rattle.std.proofs.Common.{◌≡◌, ℕ, zero, suc, ◌+◌, ◌<◌, ◌≤◌, ◌==◌, inl, inr, true, false, cond, List, [], ◌∷◌, ◌++◌, map, take, length, get_or, set, replicate, min, Some, refl, sym, ap, ◌∙◌, arith}
use Rattle.std.specs.Prelude.{slice_get}
use Rattle.std.specs.List.{filter, range_with_len, zip}
use Rattle.std.proofs.lemmas.Bool.{cases_eq}
use Rattle.std.proofs.lemmas.List.{length-map, length-set, get_or-set_same, get_or-set_other, ext_get_or, map_push, take_more, append-nil}
use Rattle.std.proofs.lemmas.List.FromFn.{get_or-range_with_len}
use Rattle.std.proofs.lemmas.List.Elements.{filter-append}
use Rattle.sl_base_graphs.proofs.Seen.{read_or}
use Rattle.sl_spec_tables.specs.Rows.{Row, group, groups, is_of}

-- the member at a place, and members at the same place of two lists
pub record Stands {X : Type 0} (xs : List X) (k : ℕ) : Type 0 where
  pub item : X
  pub is : slice_get xs k ≡ Some item

pub stands : {X : Type 0} (xs : List X) (k : ℕ) → k < length xs → Stands xs k
stands [] k lt = absurd (let no : ⊥ = omega arith in no)
stands (x ∷ xs) zero lt = record { item = x; is = refl }
stands (x ∷ xs) (suc k) lt = let r = stands xs k (omega arith) in record { item = r.item; is = r.is }

pub zipped : {X Y : Type 0} (xs : List X) (ys : List Y) (k : ℕ) (x : X) (y : Y) → slice_get xs k ≡ Some x
    → slice_get ys k ≡ Some y → slice_get (zip xs ys) k ≡ Some (x, y)
zipped [] ys k x y e e' = absurd (let no : ⊥ = cc in no)
zipped (a ∷ xs) [] k x y e e' = absurd (let no : ⊥ = cc in no)
zipped (a ∷ xs) (b ∷ ys) zero x y e e' =
    let same : a ≡ x = cc in
    let same' : b ≡ y = cc in
    ap (λ z. Some (z, b)) same ∙ ap (λ z. Some (x, z)) same'
zipped (a ∷ xs) (b ∷ ys) (suc k) x y e e' = zipped xs ys k x y e e'

-- two lists side by side, one more of each
zip_next : {A B : Type 0} (xs : List A) (ys : List B) (i : ℕ) (x : A) (y : B) → i < length xs → i < length ys → x ≡ get_or xs i x → y ≡ get_or ys i y
    → zip (take (suc i) xs) (take (suc i) ys) ≡ zip (take i xs) (take i ys) ++ (x, y) ∷ []
zip_next [] ys i x y bx by is js = absurd (omega arith)
zip_next (a ∷ xs) [] i x y bx by is js = absurd (omega arith)
zip_next (a ∷ xs) (b ∷ ys) zero x y bx by is js = λ k. (sym is k, sym js k) ∷ []
zip_next (a ∷ xs) (b ∷ ys) (suc i) x y bx by is js = ap (λ l. (a, b) ∷ l) (zip_next xs ys i x y (omega arith) (omega arith) is js)

pub zip_more : {A B : Type 0} (xs : List A) (ys : List B) (i : ℕ) (x : A) (y : B) → i < length xs → i < length ys → x ≡ get_or xs i x → y ≡ get_or ys i y
    → zip (take (i + 1) xs) (take (i + 1) ys) ≡ zip (take i xs) (take i ys) ++ (x, y) ∷ []
zip_more xs ys i x y bx by is js = let e : i + 1 ≡ suc i = omega arith in ap (λ k. zip (take k xs) (take k ys)) e ∙ zip_next xs ys i x y bx by is js

-- all that stand side by side
pub zip_all : {A B : Type 0} (xs : List A) (ys : List B) (i : ℕ) → min (length xs) (length ys) ≤ i → zip (take i xs) (take i ys) ≡ zip xs ys
zip_all [] [] zero end = refl
zip_all [] [] (suc i) end = refl
zip_all [] (y ∷ ys) zero end = refl
zip_all [] (y ∷ ys) (suc i) end = refl
zip_all (x ∷ xs) [] zero end = refl
zip_all (x ∷ xs) [] (suc i) end = refl
zip_all (x ∷ xs) (y ∷ ys) zero end = absurd (omega arith)
zip_all (x ∷ xs) (y ∷ ys) (suc i) end = ap (λ l. (x, y) ∷ l) (zip_all xs ys i (omega arith))

-- one more is made
pub made_more : {A B C : Type 0} (view : C → B) (f : A → B) (xs : List A) (ys : List C) (y : C) (x : A) (i : ℕ) → i < length xs → x ≡ get_or xs i x → view y ≡ f x
    → map view ys ≡ map f (take i xs) → map view (ys ++ y ∷ []) ≡ map f (take (i + 1) xs)
made_more {A} {B} view f xs ys y x i below at is so =
    map_push view ys y ∙ ap (λ l. l ++ view y ∷ []) so ∙ ap (λ b. map f (take i xs) ++ b ∷ []) (is ∙ ap f at)
    ∙ sym (map_push f (take i xs) (get_or xs i x)) ∙ ap (map f) (sym (take_more xs i x below))

-- ---- groups

length_range : (a n : ℕ) → length (range_with_len a n) ≡ n
length_range a zero = refl
length_range a (suc n) = ap suc (length_range (a + 1) n)

pub groups_length : (n : ℕ) (rs : List Row) → length (groups n rs) ≡ n
unfolding groups
groups_length n rs = length-map (range_with_len 0 n) (λ table. filter (is_of table) rs) ∙ length_range 0 n

pub group_at : (n table : ℕ) (rs : List Row) → table < n → group (groups n rs) table ≡ filter (is_of table) rs
unfolding groups
group_at n table rs below =
    read_or (λ v. filter (is_of v) rs) (range_with_len 0 n) table table [] (omega (arith, length_range 0 n))
    (sym (get_or-range_with_len 0 n table table below ∙ omega arith))

of_it : (r : Row) → is_of r.0.table r ≡ true
of_it r = let t = r.0.table in let e : (t == t) ≡ true = grind arith in e

of_no_other : (r : Row) (table : ℕ) → (table ≡ r.0.table → ⊥) → is_of table r ≡ false
of_no_other r table n = no r.0.table table n
  where
    no : (a b : ℕ) → (b ≡ a → ⊥) → (a == b) ≡ false
    no a b n = grind arith

-- one more constructor is put to its table
pub one_grouped : (n : ℕ) (rs : List Row) (r : Row) → set (groups n rs) r.0.table (group (groups n rs) r.0.table ++ r ∷ []) ≡ groups n (rs ++ r ∷ [])
one_grouped n rs r =
    ext_get_or [] _ _ (length-set (groups n rs) r.0.table (group (groups n rs) r.0.table ++ r ∷ []) ∙ groups_length n rs ∙ sym (groups_length n (rs ++ r ∷ [])))
    (λ j below. let inside : j < n = omega (arith, length-set (groups n rs) r.0.table (group (groups n rs) r.0.table ++ r ∷ []), groups_length n rs) in
    elim (cases_eq j r.0.table) [
      | inl e ↦
          ap (λ k. get_or (set (groups n rs) r.0.table (group (groups n rs) r.0.table ++ r ∷ [])) k []) e
          ∙ get_or-set_same (groups n rs) r.0.table (group (groups n rs) r.0.table ++ r ∷ []) [] (omega (arith, groups_length n rs))
          ∙ ap (λ (l : List Row). l ++ r ∷ []) (group_at n r.0.table rs (omega arith))
          ∙ ap (λ b. filter (is_of r.0.table) rs ++ cond b (r ∷ []) []) (sym (of_it r))
          ∙ sym (filter-append (is_of r.0.table) rs (r ∷ []))
          ∙ sym (group_at n r.0.table (rs ++ r ∷ []) (omega arith))
          ∙ ap (λ k. get_or (groups n (rs ++ r ∷ [])) k []) (sym e)
      | inr d ↦
          get_or-set_other (groups n rs) r.0.table j (group (groups n rs) r.0.table ++ r ∷ []) [] d
          ∙ group_at n j rs inside
          ∙ sym (append-nil (filter (is_of j) rs))
          ∙ ap (λ b. filter (is_of j) rs ++ cond b (r ∷ []) []) (sym (of_no_other r j d))
          ∙ sym (filter-append (is_of j) rs (r ∷ []))
          ∙ sym (group_at n j (rs ++ r ∷ []) inside)
    ])

pub none_grouped : (n : ℕ) → replicate n [] ≡ groups n []
unfolding groups
none_grouped n = empty 0 n
  where
    empty : (a n : ℕ) → replicate n [] ≡ map (λ table. filter (is_of table) []) (range_with_len a n)
    empty a zero = refl
    empty a (suc n) = ap (λ (l : List (List Row)). [] ∷ l) (empty (a + 1) n)
