-- Where tables have their constructors, each table stands in the order, behind those that it names.
use Rattle.std.proofs.Common.{◌≡◌, ℕ, zero, suc, ◌+◌, ◌<◌, ◌≤◌, ◌==◌, inl, inr, length, Bool, true, false, cond, List, [], ◌∷◌, ◌++◌, get_or, Option, Some, None, refl, sym, ap, ◌∙◌, subst, arith}
use Rattle.std.specs.List.{AllByRecursion, filter, range_with_len}
use Rattle.std.specs.Prelude.{slice_get}
use Rattle.std.proofs.lemmas.List.Quantifiers.{position-Some}
use Rattle.sl_ast.specs.Trees.{Constructor, Name, Pattern, bare, constraint, group, ellipsis, joined}
use Rattle.sl_ast.specs.Unfolding.{Placed}
use Rattle.sl_spec_constructors.specs.Listed.{AreListed, is_of, numbers_of}
use Rattle.sl_base_graphs.specs.Heights.{above, by_height}
use Rattle.sl_shape.specs.Tables.{appearing, appearing_from, begins, constructors_of, named_by, numbers, one_or_none, order_by, tables_named}
use Rattle.sl_shape.proofs.AmongLemmas.{IsAmong, all_among, among_all, among_either, behind_if, first_in, from_filter, from_flat, from_range, here_if, in_filter, in_flat, in_range}
use Rattle.sl_shape.proofs.ExtentOfShapeLemmas.{inside_some}
use Rattle.sl_shape.proofs.OrderLemmas.{IsSorted, all_before, all_below, sorted}
use Rattle.sl_spec.specs.Named.{index_named, is_named}
use Rattle.sl_spec.specs.Tables.{Ctor, Table}
use Rattle.sl_spec.specs.declared.tables.Tables.{Tables}

none_there : {X : Type 0} (xs : List X) (i : ℕ) → i < length xs → slice_get xs i ≡ None → ⊥
none_there [] i below e = omega (arith, below)
none_there (x ∷ xs) zero below e = cc
none_there (x ∷ xs) (suc i) below e = none_there xs i (omega (arith, below)) e

-- ---- by heights

by_height_has : (h : ℕ → ℕ) (nodes : List ℕ) (v : ℕ) → IsAmong v nodes → IsAmong v (by_height h nodes)
unfolding by_height
by_height_has h nodes v a = in_flat (λ n. filter (λ u. h u == n) nodes) (above h nodes) 0 (h v) v (omega arith)
    (let less = among_all (λ w. h w < above h nodes) nodes v (all_below h nodes) a in omega (arith, less))
    (in_filter (λ u. h u == h v) nodes v a (grind arith))

by_height_from : (h : ℕ → ℕ) (nodes : List ℕ) (v : ℕ) → IsAmong v (by_height h nodes) → IsAmong v nodes
unfolding by_height
by_height_from h nodes v a =
    let level = from_flat (λ n. filter (λ u. h u == n) nodes) (above h nodes) 0 v a in
    from_filter (λ u. h u == level.0) nodes v level.1

-- ---- tables appear with their first constructors

begins_same : (xs ys : List ℕ) (n : ℕ) → xs ≡ ys → begins ys n ≡ true → begins xs n ≡ true
begins_same xs ys n e b = ap (λ (l : List ℕ). begins l n) e ∙ b

module _ (t : Tables) where
  appears : (n i : ℕ) (ctors : List Ctor) (c : Ctor) → slice_get ctors i ≡ Some c → begins (constructors_of t c.table) (n + i) ≡ true
      → IsAmong c.table (appearing_from t n ctors)
  appears n i [] c e b = absurd cc
  appears n zero (d ∷ ctors) c e b =
      let same : d ≡ c = inside_some d c e in
      let at : n + 0 ≡ n = omega arith in
      here_if (begins (constructors_of t d.table) n) c.table d.table (appearing_from t (suc n) ctors) (ap (λ (x : Ctor). x.table) (sym same))
      (ap (λ (x : Ctor). begins (constructors_of t x.table) n) same ∙ ap (begins (constructors_of t c.table)) (sym at) ∙ b)
  appears n (suc i) (d ∷ ctors) c e b =
      let at : suc n + i ≡ n + suc i = omega arith in
      behind_if (begins (constructors_of t d.table) n) c.table d.table (appearing_from t (suc n) ctors)
      (appears (suc n) i ctors c e (ap (begins (constructors_of t c.table)) at ∙ b))

  -- what appears is the table of a constructor
  appearing_below : (P : ℕ → Type 0) (n : ℕ) (ctors : List Ctor) → ((i : ℕ) (c : Ctor) → slice_get ctors i ≡ Some c → P c.table)
      → AllByRecursion P (appearing_from t n ctors)
  appearing_below P n [] each = tt
  appearing_below P n (d ∷ ctors) each =
      keep (begins (constructors_of t d.table) n) (appearing_from t (suc n) ctors) (appearing_below P (suc n) ctors (λ i c e. each (suc i) c e))
    where
      keep : (b : Bool) (rest : List ℕ) → AllByRecursion P rest → AllByRecursion P (cond b (d.table ∷ rest) rest)
      keep true rest all = (each 0 d refl, all)
      keep false rest all = all

-- ---- what patterns name is a table

-- the number of a table, where there is one, is below that of all
one_within : (name : Name) (ts : List Table) (o : Option ℕ) → index_named (λ b. b.name) name ts ≡ o → AllByRecursion (λ w. w < length ts) (one_or_none o)
one_within name [] None e = tt
one_within name [] (Some w) e = absurd cc
one_within name (b ∷ ts) None e = tt
one_within name (b ∷ ts) (Some w) e = ((position-Some (is_named (λ b. b.name) name) (b ∷ ts) w b e).0, tt)

all_both : (P : ℕ → Type 0) (xs ys : List ℕ) → AllByRecursion P xs → AllByRecursion P ys → AllByRecursion P (xs ++ ys)
all_both P [] ys a b = b
all_both P (x ∷ xs) ys a b = (a.0, all_both P xs ys a.1 b)

module _ (t : Tables) where
  named_within : (p : Pattern) → AllByRecursion (λ w. w < length t.tables) (tables_named t p)
  unfolding tables_named
  named_within (bare name) = one_within name t.tables (index_named (λ b. b.name) name t.tables) refl
  named_within (constraint name relation e) = tt
  named_within (group p) = named_within p
  named_within (ellipsis p) = named_within p
  named_within (joined op p q) = all_both (λ w. w < length t.tables) (tables_named t p) (tables_named t q) (named_within p) (named_within q)

  pub named_by_within : (o : Option Pattern) → AllByRecursion (λ w. w < length t.tables) (named_by t o)
  named_by_within None = tt
  named_by_within (Some p) = named_within p

-- ---- tables that have their constructors

module _ (t : Tables) (cs : List (Placed Constructor)) (listed : AreListed t cs) where
  table_of : (o : Option Table) (u : ℕ) → slice_get t.tables u ≡ o → u < length t.tables → numbers o ≡ numbers_of t.constructors u
  table_of None u e inside = absurd (none_there t.tables u inside e)
  table_of (Some b) u e inside = listed.numbers u b e

  pub constructors_are : (u : ℕ) → u < length t.tables → constructors_of t u ≡ numbers_of t.constructors u
  constructors_are u inside = table_of (slice_get t.tables u) u refl inside

  -- The number is that of a constructor of the table.
  pub record IsCtorOf (i u : ℕ) : Type 0 where
    pub ctor : Ctor
    pub ctor_is : slice_get t.constructors i ≡ Some ctor
    pub table_is : ctor.table ≡ u

  passing : (o : Option Ctor) (i u : ℕ) → slice_get t.constructors i ≡ o → is_of u o ≡ true → IsCtorOf i u
  passing None i u e on = absurd cc
  passing (Some c) i u e on = record { ctor = c; ctor_is = e; table_is = grind (arith, on) }

  appears_with : (i u : ℕ) (rest : List ℕ) → numbers_of t.constructors u ≡ i ∷ rest → u < length t.tables → IsCtorOf i u → IsAmong u (appearing t)
  appears_with i u rest is inside c =
      let at : 0 + i ≡ i = omega arith in
      let first : begins (i ∷ rest) (0 + i) ≡ true = ap (begins (i ∷ rest)) at ∙ same i in
      subst (λ (v : ℕ). IsAmong v (appearing t)) c.table_is (appears t 0 i t.constructors c.ctor c.ctor_is
      (begins_same (constructors_of t c.ctor.table) (i ∷ rest) (0 + i) (ap (constructors_of t) c.table_is ∙ constructors_are u inside ∙ is) first))
    where
      same : (i : ℕ) → (i == i) ≡ true
      same i = grind arith

  in_appearing : (u : ℕ) → u < length t.tables → IsAmong u (appearing t)
  in_appearing u inside =
      let test : ℕ → Bool = λ i. is_of u (slice_get t.constructors i) in
      let first = first_in test (range_with_len 0 (length t.constructors)) (listed.some u inside) in
      appears_with first.0 u first.1.rest first.1.is inside (passing (slice_get t.constructors first.0) first.0 u refl first.1.passes)

  pub in_order : (heights : List ℕ) (u : ℕ) → u < length t.tables → IsAmong u (order_by t heights)
  in_order heights u inside = by_height_has (λ v. get_or heights v 0) (appearing t) u (in_appearing u inside)

  pub order_below : (heights : List ℕ) → AllByRecursion (λ u. u < length t.tables) (order_by t heights)
  order_below heights = all_among (λ u. u < length t.tables) (order_by t heights) (λ u a.
      among_all (λ u. u < length t.tables) (appearing t) u (appearing_below t (λ u. u < length t.tables) 0 t.constructors listed.below)
      (by_height_from (λ v. get_or heights v 0) (appearing t) u a))

  -- ---- the constructors of a table

  pub numbers_within : (u : ℕ) → u < length t.tables → AllByRecursion (λ i. i < length cs) (constructors_of t u)
  numbers_within u inside = subst (λ (l : List ℕ). AllByRecursion (λ i. i < length cs) l) (sym (constructors_are u inside))
      (all_among (λ i. i < length cs) (numbers_of t.constructors u) (λ i a.
      let less = from_range (length t.constructors) 0 i (from_filter (λ i. is_of u (slice_get t.constructors i)) (range_with_len 0 (length t.constructors)) i a) in
      let count = listed.counted in
      omega (arith, less, count)))

  pub some_number : (u : ℕ) → u < length t.tables → 0 < length (constructors_of t u)
  some_number u inside = subst (λ (l : List ℕ). 0 < length l) (sym (constructors_are u inside)) (listed.some u inside)

  -- each constructor is one of its table
  pub in_its_table : (i : ℕ) → i < length cs → (u : ℕ) × (u < length t.tables) × IsAmong i (constructors_of t u)
  in_its_table i inside = found (slice_get t.constructors i) refl
    where
      same : (n : ℕ) → (n == n) ≡ true
      same n = grind arith

      fits : i < length t.constructors
      fits = let count = listed.counted in omega (arith, inside, count)

      found : (o : Option Ctor) → slice_get t.constructors i ≡ o → (u : ℕ) × (u < length t.tables) × IsAmong i (constructors_of t u)
      found None e = absurd (none_there t.constructors i fits e)
      found (Some c) e =
          let below = listed.below i c e in (
            c.table,
            below,
            subst (λ (l : List ℕ). IsAmong i l) (sym (constructors_are c.table below))
                (in_filter (λ i. is_of c.table (slice_get t.constructors i)) (range_with_len 0 (length t.constructors)) i
                (in_range (length t.constructors) 0 i (omega arith) (omega (arith, fits)))
                (ap (is_of c.table) e ∙ same c.table)),
          )

  -- ---- behind what it names

  module _ (heights : List ℕ) (before : List ℕ) (table : ℕ) (after : List ℕ) (order_is : order_by t heights ≡ before ++ table ∷ after) where
    abbrev level : ℕ → ℕ
    level v = get_or heights v 0

    is_sorted : IsSorted level (before ++ table ∷ after)
    is_sorted = subst (λ (l : List ℕ). IsSorted level l) order_is (sorted level (appearing t))

    pub before_low : AllByRecursion (λ u. level u ≤ level table) before
    before_low = all_before level before table after is_sorted

    sorted_behind : (xs ys : List ℕ) → IsSorted level (xs ++ ys) → IsSorted level ys
    sorted_behind [] ys s = s
    sorted_behind (x ∷ xs) ys s = sorted_behind xs ys s.1

    after_high : (w : ℕ) → IsAmong w (table ∷ after) → level table ≤ level w
    after_high w (inl e) = let same = ap level e in omega (arith, same)
    after_high w (inr a) = among_all (λ y. level table ≤ level y) after w (sorted_behind before (table ∷ after) is_sorted).0 a

    -- a table that is lower than this one, or than one before it, stands before it
    pub lower_before : (u w : ℕ) → level u ≤ level table → w < length t.tables → level w < level u → IsAmong w before
    lower_before u w low inside less = elim (among_either w before (table ∷ after) (subst (λ (l : List ℕ). IsAmong w l) order_is (in_order heights w inside))) [
      | inl there ↦ there
      | inr behind ↦ let high = after_high w behind in absurd (omega (arith, low, less, high))
    ]
