-- Constructors with their sets: their numbers, and those of one table among all.
use Rattle.std.proofs.Common.{◌≡◌, ℕ, zero, suc, ◌+◌, ◌<◌, ◌==◌, Bool, true, false, cond, List, [], ◌∷◌, ◌++◌, length, Some, None, refl, sym, ap, ◌∙◌, arith}
use Rattle.std.specs.Prelude.{slice_get}
use Rattle.std.proofs.lemmas.List.Elements.{filter-append}
use Rattle.std.proofs.lemmas.List.{append-nil}
use Rattle.sl_cube_sets.specs.declared.CubeSet.{CubeSet}
use Rattle.sl_spec.specs.Tables.{Ctor}
use Rattle.sl_conflict.specs.Ambiguity.{IsOf}
use Rattle.sl_conflict.specs.Rows.{Row, of_table, rows, rows_from}

-- each row has the number of its index, and is of the table of the constructor there
row_at : (n : ℕ) (ctors : List Ctor) (sets : List CubeSet) (i : ℕ) (r : Row) → slice_get (rows_from n ctors sets) i ≡ Some r
    → (r.number ≡ n + i) × IsOf ctors r.table i
row_at n [] sets i r e = absurd cc
row_at n (c ∷ ctors) [] i r e = absurd cc
row_at n (c ∷ ctors) (s ∷ sets) zero r e =
    let same : (record { number = n; table = c.table; set = s }) ≡ r = cc in (
      ap (λ (x : Row). x.number) (sym same) ∙ omega arith,
      record { ctor = c; ctor_is = refl; of_table = ap (λ (x : Row). x.table) same },
    )
row_at n (c ∷ ctors) (s ∷ sets) (suc i) r e =
    let there = row_at (suc n) ctors sets i r e in
    (there.0 ∙ omega arith, record { ctor = there.1.ctor; ctor_is = there.1.ctor_is; of_table = there.1.of_table })

pub number_is : (ctors : List Ctor) (sets : List CubeSet) (i : ℕ) (r : Row) → slice_get (rows ctors sets) i ≡ Some r → r.number ≡ i
unfolding rows
number_is ctors sets i r e = (row_at 0 ctors sets i r e).0 ∙ omega arith

pub row_is_of : (ctors : List Ctor) (sets : List CubeSet) (i : ℕ) (r : Row) → slice_get (rows ctors sets) i ≡ Some r → IsOf ctors r.table i
unfolding rows
row_is_of ctors sets i r e = (row_at 0 ctors sets i r e).1

-- below a row there are rows, each of the constructor there
row_below : (n : ℕ) (ctors : List Ctor) (sets : List CubeSet) (i j : ℕ) (r : Row) → slice_get (rows_from n ctors sets) j ≡ Some r → i < j
    → (x : Row) × (slice_get (rows_from n ctors sets) i ≡ Some x)
row_below n [] sets i j r e below = absurd cc
row_below n (c ∷ ctors) [] i j r e below = absurd cc
row_below n (c ∷ ctors) (s ∷ sets) i zero r e below = absurd (omega arith)
row_below n (c ∷ ctors) (s ∷ sets) zero (suc j) r e below = (record { number = n; table = c.table; set = s }, refl)
row_below n (c ∷ ctors) (s ∷ sets) (suc i) (suc j) r e below = row_below (suc n) ctors sets i j r e (omega arith)

pub some_below : (ctors : List Ctor) (sets : List CubeSet) (i j : ℕ) (r : Row) → slice_get (rows ctors sets) j ≡ Some r → i < j
    → (x : Row) × (slice_get (rows ctors sets) i ≡ Some x)
unfolding rows
some_below ctors sets i j r e below = row_below 0 ctors sets i j r e below

no_rows : (n : ℕ) (ctors : List Ctor) → rows_from n ctors [] ≡ []
no_rows n [] = refl
no_rows n (c ∷ ctors) = refl

pub no_sets : (ctors : List Ctor) → rows ctors [] ≡ []
unfolding rows
no_sets ctors = no_rows 0 ctors

-- one more set
goes_from : (n : ℕ) (ctors : List Ctor) (done : List CubeSet) (s : CubeSet) (c : Ctor) → slice_get ctors (length done) ≡ Some c
    → rows_from n ctors (done ++ s ∷ []) ≡ rows_from n ctors done ++ record { number = n + length done; table = c.table; set = s } ∷ []
goes_from n [] done s c e = absurd cc
goes_from n (x ∷ ctors) [] s c e =
    let same : x ≡ c = cc in
    let here : n ≡ n + 0 = omega arith in
    λ k. record { number = here k; table = ap (λ (y : Ctor). y.table) same k; set = s } ∷ no_rows (suc n) ctors k
goes_from n (x ∷ ctors) (d ∷ done) s c e =
    let here : suc n + length done ≡ n + suc (length done) = omega arith in
    ap (λ l. record { number = n; table = x.table; set = d } ∷ l) (goes_from (suc n) ctors done s c e
    ∙ ap (λ k. rows_from (suc n) ctors done ++ record { number = k; table = c.table; set = s } ∷ []) here)

stays_from : (n : ℕ) (ctors : List Ctor) (done : List CubeSet) (s : CubeSet) → slice_get ctors (length done) ≡ None
    → rows_from n ctors (done ++ s ∷ []) ≡ rows_from n ctors done
stays_from n [] [] s e = refl
stays_from n [] (d ∷ done) s e = refl
stays_from n (x ∷ ctors) [] s e = absurd cc
stays_from n (x ∷ ctors) (d ∷ done) s e = ap (λ l. record { number = n; table = x.table; set = d } ∷ l) (stays_from (suc n) ctors done s e)

pub row_goes : (ctors : List Ctor) (done : List CubeSet) (s : CubeSet) (c : Ctor) (number : ℕ) → length done ≡ number → slice_get ctors number ≡ Some c
    → rows ctors (done ++ s ∷ []) ≡ rows ctors done ++ record { number = number; table = c.table; set = s } ∷ []
unfolding rows
row_goes ctors done s c number long e =
    let here : 0 + length done ≡ number = omega arith in
    goes_from 0 ctors done s c (ap (slice_get ctors) long ∙ e)
    ∙ ap (λ k. rows_from 0 ctors done ++ record { number = k; table = c.table; set = s } ∷ []) here

pub row_stays : (ctors : List Ctor) (done : List CubeSet) (s : CubeSet) (number : ℕ) → length done ≡ number → slice_get ctors number ≡ None
    → rows ctors (done ++ s ∷ []) ≡ rows ctors done
unfolding rows
row_stays ctors done s number long e = stays_from 0 ctors done s (ap (slice_get ctors) long ∙ e)

-- ---- those of one table

is_test : (a b : ℕ) → (a == b) ≡ true → a ≡ b
is_test a b e = grind arith

test_is : (a b : ℕ) → a ≡ b → (a == b) ≡ true
test_is a b e = grind arith

test_not : (a b : ℕ) → (a ≡ b → ⊥) → (a == b) ≡ false
test_not a b e = grind arith

-- one more of the table, and one of another
pub more_of : (rs : List Row) (r : Row) (t : ℕ) → r.table ≡ t → of_table t (rs ++ r ∷ []) ≡ of_table t rs ++ r ∷ []
more_of rs r t e = filter-append (λ x. x.table == t) rs (r ∷ []) ∙ ap (λ b. of_table t rs ++ cond b (r ∷ []) []) (test_is r.table t e)

pub same_of : (rs : List Row) (r : Row) (t : ℕ) → (r.table ≡ t → ⊥) → of_table t (rs ++ r ∷ []) ≡ of_table t rs
same_of rs r t n = filter-append (λ x. x.table == t) rs (r ∷ []) ∙ ap (λ b. of_table t rs ++ cond b (r ∷ []) []) (test_not r.table t n) ∙ append-nil (of_table t rs)

-- Each of the table is one of all.
abbrev IsUp : ℕ → List Row → Type 0
IsUp t xs = (i : ℕ) (r : Row) → slice_get (of_table t xs) i ≡ Some r → (k : ℕ) × (slice_get xs k ≡ Some r) × (r.table ≡ t)

up_step : (t : ℕ) (x : Row) (xs : List Row) (b : Bool) → (x.table == t) ≡ b → IsUp t xs → (i : ℕ) (r : Row)
    → slice_get (cond b (x ∷ of_table t xs) (of_table t xs)) i ≡ Some r → (k : ℕ) × (slice_get (x ∷ xs) k ≡ Some r) × (r.table ≡ t)
up_step t x xs true h up zero r e =
    let same : x ≡ r = cc in (0, e, ap (λ (y : Row). y.table) (sym same) ∙ is_test x.table t h)
up_step t x xs true h up (suc i) r e = let there = up i r e in (suc there.0, there.1, there.2)
up_step t x xs false h up i r e = let there = up i r e in (suc there.0, there.1, there.2)

pub up : (t : ℕ) (xs : List Row) (i : ℕ) (r : Row) → slice_get (of_table t xs) i ≡ Some r → (k : ℕ) × (slice_get xs k ≡ Some r) × (r.table ≡ t)
up t [] i r e = absurd cc
up t (x ∷ xs) i r e = up_step t x xs (x.table == t) refl (up t xs) i r e

-- Each of all that is of the table is one of it.
abbrev IsDown : ℕ → List Row → Type 0
IsDown t xs = (k : ℕ) (r : Row) → slice_get xs k ≡ Some r → r.table ≡ t → (i : ℕ) × (slice_get (of_table t xs) i ≡ Some r)

down_step : (t : ℕ) (x : Row) (xs : List Row) (b : Bool) → (x.table == t) ≡ b → IsDown t xs → (k : ℕ) (r : Row) → slice_get (x ∷ xs) k ≡ Some r → r.table ≡ t
    → (i : ℕ) × (slice_get (cond b (x ∷ of_table t xs) (of_table t xs)) i ≡ Some r)
down_step t x xs true h down zero r e of = (0, e)
down_step t x xs true h down (suc k) r e of = let there = down k r e of in (suc there.0, there.1)
down_step t x xs false h down zero r e of =
    let same : x ≡ r = cc in
    let tested = test_is x.table t (ap (λ (y : Row). y.table) same ∙ of) in
    let never : true ≡ false = sym tested ∙ h in absurd cc
down_step t x xs false h down (suc k) r e of = down k r e of

pub down : (t : ℕ) (xs : List Row) (k : ℕ) (r : Row) → slice_get xs k ≡ Some r → r.table ≡ t → (i : ℕ) × (slice_get (of_table t xs) i ≡ Some r)
down t [] k r e of = absurd cc
down t (x ∷ xs) k r e of = down_step t x xs (x.table == t) refl (down t xs) k r e of

-- Two of the table are in the order in which they are among all.
abbrev KeepsOrder : ℕ → List Row → Type 0
KeepsOrder t xs = (i j : ℕ) (r s : Row) → i < j → slice_get (of_table t xs) i ≡ Some r → slice_get (of_table t xs) j ≡ Some s
    → (k : ℕ) × (l : ℕ) × (k < l) × (slice_get xs k ≡ Some r) × (slice_get xs l ≡ Some s)

order_step : (t : ℕ) (x : Row) (xs : List Row) (b : Bool) → KeepsOrder t xs → (i j : ℕ) (r s : Row) → i < j
    → slice_get (cond b (x ∷ of_table t xs) (of_table t xs)) i ≡ Some r → slice_get (cond b (x ∷ of_table t xs) (of_table t xs)) j ≡ Some s
    → (k : ℕ) × (l : ℕ) × (k < l) × (slice_get (x ∷ xs) k ≡ Some r) × (slice_get (x ∷ xs) l ≡ Some s)
order_step t x xs true keeps i zero r s less e f = absurd (omega arith)
order_step t x xs true keeps zero (suc j) r s less e f =
    let there = up t xs j s f in (0, suc there.0, omega arith, e, there.1)
order_step t x xs true keeps (suc i) (suc j) r s less e f =
    let there = keeps i j r s (omega arith) e f in (suc there.0, suc there.1, omega (arith, there.2), there.3, there.4)
order_step t x xs false keeps i j r s less e f =
    let there = keeps i j r s less e f in (suc there.0, suc there.1, omega (arith, there.2), there.3, there.4)

pub keeps_order : (t : ℕ) (xs : List Row) (i j : ℕ) (r s : Row) → i < j → slice_get (of_table t xs) i ≡ Some r → slice_get (of_table t xs) j ≡ Some s
    → (k : ℕ) × (l : ℕ) × (k < l) × (slice_get xs k ≡ Some r) × (slice_get xs l ≡ Some s)
keeps_order t [] i j r s less e f = absurd cc
keeps_order t (x ∷ xs) i j r s less e f = order_step t x xs (x.table == t) (keeps_order t xs) i j r s less e f
