-- Lists that grow, and lists side by side.
use Rattle.std.proofs.Common.{◌≡◌, ℕ, zero, suc, ◌+◌, ◌<◌, ◌≤◌, inl, inr, Bool, true, false, cond, List, [], ◌∷◌, ◌++◌, length, map, slice_get, Option, Some, None, refl, sym, ap, subst, ◌∙◌, append_assoc, append-nil, arith, if◌then◌else◌}
use Rattle.std.specs.Prelude.{nat_lt, not, position}
use Rattle.std.specs.List.{AllByRecursion, Contains, position_or_len, zip}
use Rattle.std.proofs.lemmas.Bool.{cases_lt}
use Rattle.std.proofs.lemmas.Bool.Decides.{nat_tests}
use Rattle.sl_section_terms.specs.Scopes.{if_below}

-- ---- members

pub all_at : {X : Type 0} (P : X → Type 0) (xs : List X) (i : ℕ) (x : X) → AllByRecursion P xs
    → slice_get xs i ≡ Some x → P x
all_at P [] i x all at = absurd (let e : ⊥ = cc in e)
all_at P (y ∷ xs) zero x all at = let e : y ≡ x = cc in subst P e all.0
all_at P (y ∷ xs) (suc i) x all at = all_at P xs i x all.1 at

pub all_both : {X : Type 0} (P : X → Type 0) (xs ys : List X) → AllByRecursion P xs → AllByRecursion P ys
    → AllByRecursion P (xs ++ ys)
all_both P [] ys h k = k
all_both P (x ∷ xs) ys h k = (h.0, all_both P xs ys h.1 k)

pub all_weaker : {X : Type 0} (P Q : X → Type 0) (xs : List X) → ((x : X) → P x → Q x) → AllByRecursion P xs
    → AllByRecursion Q xs
all_weaker P Q [] so h = tt
all_weaker P Q (x ∷ xs) so h = (so x h.0, all_weaker P Q xs so h.1)

pub contained : {X : Type 0} (xs : List X) (k : ℕ) (x : X) → slice_get xs k ≡ Some x → Contains xs x
contained [] k x at = absurd (let e : ⊥ = cc in e)
contained (y ∷ xs) zero x at = (0, omega arith, let e : y ≡ x = cc in e)
contained (y ∷ xs) (suc k) x at = let c = contained xs k x at in (suc c.0, omega (arith, c.1), c.2)

-- ---- lists that grow

-- The second list begins with the first.
abbrev pub Begins : {X : Type 0} → List X → List X → Type 0
Begins {X = X} xs ys = (more : List X) × (ys ≡ xs ++ more)

pub begins_same : {X : Type 0} (xs : List X) → Begins xs xs
begins_same xs = ([], sym (append-nil xs))

pub begins_more : {X : Type 0} (xs more : List X) → Begins xs (xs ++ more)
begins_more xs more = (more, refl)

pub begins_then : {X : Type 0} (xs ys zs : List X) → Begins xs ys → Begins ys zs → Begins xs zs
begins_then xs ys zs a b = (a.0 ++ b.0, b.1 ∙ ap (λ l. l ++ b.0) a.1 ∙ append_assoc xs a.0 b.0)

pub longer : {X : Type 0} (xs more : List X) → length xs ≤ length (xs ++ more)
longer [] more = omega arith
longer (x ∷ xs) more = let r = longer xs more in omega (arith, r)

pub begins_long : {X : Type 0} (xs ys : List X) → Begins xs ys → length xs ≤ length ys
begins_long xs ys begins = subst (λ l. length xs ≤ length l) (sym begins.1) (longer xs begins.0)

get_stays : {X : Type 0} (xs more : List X) (i : ℕ) → i < length xs → slice_get (xs ++ more) i ≡ slice_get xs i
get_stays [] more i below = absurd (omega (arith, below))
get_stays (x ∷ xs) more zero below = refl
get_stays (x ∷ xs) more (suc i) below = get_stays xs more i (omega (arith, below))

pub get_begins : {X : Type 0} (xs ys : List X) (i : ℕ) → Begins xs ys → i < length xs → slice_get ys i ≡ slice_get xs i
get_begins xs ys i begins below = ap (λ l. slice_get l i) begins.1 ∙ get_stays xs begins.0 i below

-- ---- the first that passes a test

some_below : (n l j : ℕ) (b : Bool) → nat_lt n l ≡ b → cond b (Some n) None ≡ Some j → j < l
some_below n l j true test is = let same : n ≡ j = cc in let lt : n < l = grind (arith, nat_tests) in omega arith
some_below n l j false test is = absurd (let no : ⊥ = cc in no)

module _ {X : Type 0} (p : X → Bool) where
  first_stays : (xs more : List X) → position_or_len p xs < length xs
      → position_or_len p (xs ++ more) ≡ position_or_len p xs
  first_stays [] more inside = absurd (omega (arith, inside))
  first_stays (x ∷ xs) more inside = by (p x) inside (first_stays xs more)
    where
      by : (b : Bool) → cond (not b) (1 + position_or_len p xs) 0 < suc (length xs)
          → (position_or_len p xs < length xs → position_or_len p (xs ++ more) ≡ position_or_len p xs)
          → cond (not b) (1 + position_or_len p (xs ++ more)) 0 ≡ cond (not b) (1 + position_or_len p xs) 0
      by true inside rest = refl
      by false inside rest = ap (λ n. 1 + n) (rest (omega (arith, inside)))

  first_past : (xs more : List X) → length xs ≤ position_or_len p xs → length xs ≤ position_or_len p (xs ++ more)
  first_past [] more past = omega arith
  first_past (x ∷ xs) more past = by (p x) past (first_past xs more)
    where
      by : (b : Bool) → suc (length xs) ≤ cond (not b) (1 + position_or_len p xs) 0
          → (length xs ≤ position_or_len p xs → length xs ≤ position_or_len p (xs ++ more))
          → suc (length xs) ≤ cond (not b) (1 + position_or_len p (xs ++ more)) 0
      by true past rest = absurd (omega (arith, past))
      by false past rest = let r = rest (omega (arith, past)) in omega (arith, r)

  below_of : (m n l : ℕ) → m ≤ l → if_below m (cond (nat_lt n l) (Some n) None) ≡ cond (nat_lt n m) (Some n) None
  below_of m n l le = by (nat_lt n l) (nat_lt n m) refl refl
    where
      by : (a b : Bool) → nat_lt n l ≡ a → nat_lt n m ≡ b → if_below m (cond a (Some n) None) ≡ cond b (Some n) None
      by true true h k = ap (λ c. if c then Some n else None) k
      by true false h k = ap (λ c. if c then Some n else None) k
      by false true h k = absurd (let no : ⊥ = grind (arith, nat_tests, h, k, le) in no)
      by false false h k = refl

  -- an index below the length of the first list is the same in the second
  index_same : (xs more : List X)
      → if_below (length xs) (position p (xs ++ more)) ≡ if_below (length xs) (position p xs)
  index_same xs more =
      below_of (length xs) (position_or_len p (xs ++ more)) (length (xs ++ more)) (longer xs more)
      ∙ elim (cases_lt (position_or_len p xs) (length xs)) [
        | inl inside ↦ ap (λ n. cond (nat_lt n (length xs)) (Some n) None) (first_stays xs more inside)
        | inr past ↦
            let n = position_or_len p xs in
            let n' = position_or_len p (xs ++ more) in
            let further = first_past xs more past in
            let none : nat_lt n (length xs) ≡ false = grind (arith, nat_tests, past) in
            let none' : nat_lt n' (length xs) ≡ false = grind (arith, nat_tests, further) in
            ap (λ b. cond b (Some n') None) none' ∙ sym (ap (λ b. cond b (Some n) None) none)
      ]
      ∙ sym (below_of (length xs) (position_or_len p xs) (length xs) (omega arith))

  -- so it is in a list that begins with the first
  pub index_begins : (xs ys : List X) → Begins xs ys
      → if_below (length xs) (position p ys) ≡ if_below (length xs) (position p xs)
  index_begins xs ys begins = ap (λ l. if_below (length xs) (position p l)) begins.1 ∙ index_same xs begins.0

  pub index_inside : (xs : List X) (j : ℕ) → position p xs ≡ Some j → j < length xs
  index_inside xs j is =
      some_below (position_or_len p xs) (length xs) j (nat_lt (position_or_len p xs) (length xs)) refl is

  below_some : (m j : ℕ) → j < m → if_below m (Some j) ≡ Some j
  below_some m j lt =
      ap (λ b. if b then Some j else None) (let e : nat_lt j m ≡ true = grind (arith, nat_tests, lt) in e)

  some_only : (m j : ℕ) (o : Option ℕ) → if_below m o ≡ Some j → o ≡ Some j
  some_only m j None is = is
  some_only m j (Some i) is = by (nat_lt i m) is
    where
      by : (b : Bool) → (if b then Some i else None) ≡ Some j → Some i ≡ Some j
      by true is = is
      by false is = absurd (let no : ⊥ = cc in no)

  none_only : (m i : ℕ) → if_below m (Some i) ≡ None → m ≤ i
  none_only m i is = by (nat_lt i m) refl is
    where
      by : (b : Bool) → nat_lt i m ≡ b → (if b then Some i else None) ≡ None → m ≤ i
      by true test is = absurd (let no : ⊥ = cc in no)
      by false test is = grind (arith, nat_tests, test)

  -- an index stays in a list that begins so
  pub index_stays : (xs ys : List X) (j : ℕ) → Begins xs ys → position p xs ≡ Some j → position p ys ≡ Some j
  index_stays xs ys j begins is =
      some_only (length xs) j (position p ys)
      (index_begins xs ys begins ∙ ap (if_below (length xs)) is ∙ below_some (length xs) j (index_inside xs j is))

  pub index_far : (xs ys : List X) (i : ℕ) → Begins xs ys → position p xs ≡ None → position p ys ≡ Some i
      → length xs ≤ i
  index_far xs ys i begins none is =
      none_only (length xs) i
      (ap (if_below (length xs)) (sym is) ∙ index_begins xs ys begins ∙ ap (if_below (length xs)) none)

-- ---- lists side by side

pub pair_there : {A B : Type 0} (xs : List A) (ys : List B) (k : ℕ) (x : A) (y : B) → slice_get xs k ≡ Some x
    → slice_get ys k ≡ Some y → slice_get (zip xs ys) k ≡ Some (x, y)
pair_there [] ys k x y at also = absurd (let e : ⊥ = cc in e)
pair_there (a ∷ xs) [] k x y at also = absurd (let e : ⊥ = cc in e)
pair_there (a ∷ xs) (b ∷ ys) zero x y at also =
    let e : a ≡ x = cc in
    let f : b ≡ y = cc in
    let first : Some (a, b) ≡ Some (x, b) = ap (λ z. Some (z, b)) e in
    let second : Some (x, b) ≡ Some (x, y) = ap (λ z. Some (x, z)) f in
    first ∙ second
pair_there (a ∷ xs) (b ∷ ys) (suc k) x y at also = pair_there xs ys k x y at also

-- of a pair with something that is made of a member
pub of_pair : {A B C : Type 0} (xs : List A) (make : B → C) (ys : List B) (k : ℕ) (r : A × C)
    → slice_get (zip xs (map make ys)) k ≡ Some r → (y : B) × (slice_get ys k ≡ Some y) × (make y ≡ r.1)
of_pair [] make ys k r at = absurd (let e : ⊥ = cc in e)
of_pair (a ∷ xs) make [] k r at = absurd (let e : ⊥ = cc in e)
of_pair (a ∷ xs) make (b ∷ ys) zero r at = let e : (a, make b) ≡ r = cc in (b, refl, ap (λ r. r.1) e)
of_pair (a ∷ xs) make (b ∷ ys) (suc k) r at = of_pair xs make ys k r at

pub mapped_there : {A B : Type 0} (f : A → B) (xs : List A) (k : ℕ) (x : A) → slice_get xs k ≡ Some x
    → slice_get (map f xs) k ≡ Some (f x)
mapped_there f [] k x at = absurd (let e : ⊥ = cc in e)
mapped_there f (y ∷ xs) zero x at = let e : y ≡ x = cc in ap (λ z. Some (f z)) e
mapped_there f (y ∷ xs) (suc k) x at = mapped_there f xs k x at

module _ {A B C : Type 0} where
  -- It holds of each three, and the lists are as long.
  abbrev pub EachThree : (A → B → C → Type 0) → List A → List B → List C → Type 0
  EachThree P [] [] [] = Unit {0}
  EachThree P (x ∷ xs) (y ∷ ys) (z ∷ zs) = P x y z × EachThree P xs ys zs
  EachThree P _ _ _ = ⊥

  pub three_more : (P : A → B → C → Type 0) (xs : List A) (ys : List B) (zs : List C) (x : A) (y : B) (z : C)
      → P x y z → EachThree P xs ys zs
      → EachThree P (xs ++ x ∷ []) (ys ++ y ∷ []) (zs ++ z ∷ [])
  three_more P [] [] [] x y z here all = (here, tt)
  three_more P (a ∷ xs) (b ∷ ys) (c ∷ zs) x y z here all = (all.0, three_more P xs ys zs x y z here all.1)
  three_more P [] [] (c ∷ zs) x y z here all = absurd all
  three_more P [] (b ∷ ys) zs x y z here all = absurd all
  three_more P (a ∷ xs) [] zs x y z here all = absurd all
  three_more P (a ∷ xs) (b ∷ ys) [] x y z here all = absurd all

  pub three_each : (P Q : A → B → C → Type 0) (xs : List A) (ys : List B) (zs : List C)
      → ((x : A) (y : B) (z : C) → P x y z → Q x y z) → EachThree P xs ys zs → EachThree Q xs ys zs
  three_each P Q [] [] [] so all = tt
  three_each P Q (a ∷ xs) (b ∷ ys) (c ∷ zs) so all = (so a b c all.0, three_each P Q xs ys zs so all.1)
  three_each P Q [] [] (c ∷ zs) so all = absurd all
  three_each P Q [] (b ∷ ys) zs so all = absurd all
  three_each P Q (a ∷ xs) [] zs so all = absurd all
  three_each P Q (a ∷ xs) (b ∷ ys) [] so all = absurd all

  -- What is made of three of them, of which it holds.
  pub record MadeOf {D : Type 0} (P : A → B → C → Type 0) (make : (A × B) × C → D) (xs : List A) (ys : List B)
      (zs : List C) (k : ℕ) (d : D) : Type 0 where
    pub x : A
    pub y : B
    pub z : C
    pub holds : P x y z
    pub is : make ((x, y), z) ≡ d
    pub first : slice_get xs k ≡ Some x
    pub second : slice_get ys k ≡ Some y

  pub three_at : {D : Type 0} (P : A → B → C → Type 0) (make : (A × B) × C → D) (xs : List A) (ys : List B)
      (zs : List C) (k : ℕ) (d : D)
      → slice_get (map make (zip (zip xs ys) zs)) k ≡ Some d → EachThree P xs ys zs → MadeOf P make xs ys zs k d
  three_at P make [] [] [] k d at all = absurd (let e : ⊥ = cc in e)
  three_at P make (a ∷ xs) (b ∷ ys) (c ∷ zs) zero d at all =
      record {
        x = a;
        y = b;
        z = c;
        holds = all.0;
        is = let e : make ((a, b), c) ≡ d = cc in e;
        first = refl;
        second = refl;
      }
  three_at P make (a ∷ xs) (b ∷ ys) (c ∷ zs) (suc k) d at all =
      let r = three_at P make xs ys zs k d at all.1 in
      record { x = r.x; y = r.y; z = r.z; holds = r.holds; is = r.is; first = r.first; second = r.second }
  three_at P make [] [] (c ∷ zs) k d at all = absurd all
  three_at P make [] (b ∷ ys) zs k d at all = absurd all
  three_at P make (a ∷ xs) [] zs k d at all = absurd all
  three_at P make (a ∷ xs) (b ∷ ys) [] k d at all = absurd all
