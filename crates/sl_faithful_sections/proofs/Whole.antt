-- Sizes that are found in the order in which constructors are shaped are those of the whole.
use Rattle.std.proofs.Common.{◌≡◌, ℕ, zero, suc, ◌+◌, ◌<◌, ◌≤◌, ◌==◌, ◌||◌, ◌&&◌, ◌⊎◌, inl, inr, Bool, true, false, cond, List, [], ◌∷◌, ◌++◌, length, map, get_or, Option, Some, None, refl, sym, ap, ◌∙◌, subst, arith}
use Rattle.std.specs.Prelude.{⊤, fold, if◌then◌else◌, nat_lt, option_and_then, option_map, option_to_list, replicate, set, slice_get}
use Rattle.std.specs.List.{Contains, filter, flat_map, list_any, range_with_len, zip}
use Rattle.std.proofs.lemmas.List.{length-map, length-replicate, length-set}
use Rattle.std.proofs.lemmas.List.Elements.{Contains-append_left, Contains-append_right}
use Rattle.std.proofs.lemmas.List.FromFn.{get_or-map-range_with_len, get_or-range_with_len, length-range_with_len}
use Rattle.std.proofs.lemmas.Option.{slice_get_within}
use Rattle.sl_ast.specs.Trees as ast
use Rattle.sl_ast.specs.Unfolding.{Placed}
use Rattle.sl_spec_constructors.specs.Listed.{AreListed}
use Rattle.sl_spec_constructors.proofs.MemberLemmas.{in_filter, in_flat, in_gathered, in_map, of_gathered}
use Rattle.sl_spec_constructors.proofs.NumberLemmas.{in_numbers, numbered}
use Rattle.sl_section_equations.specs.SizesIn.{size_in}
use Rattle.sl_section_equations.specs.Uses.{exported_size, exported_variable}
use Rattle.sl_section_exports.specs.Exports.{if_so}
use Rattle.sl_section_all.specs.FlatSections.{Flat}
use Rattle.sl_base_graphs.specs.Heights.{above, by_height}
use Rattle.sl_base_graphs.proofs.OneHeight.{member_below}
use Rattle.sl_base_graphs.specs.Reaching.{successors}
use Rattle.sl_base_graphs.proofs.ListLemmas.{get_set_other, get_set_same}
use Rattle.sl_spec_order.specs.Orders.{IsShapingOrder, appearing, graph, has, met, named_by, table_of, tables_in}
use Rattle.sl_spec_rules.specs.Gathered.{gathered}
use Rattle.sl_section_sizes.specs.Ordering.{address_of, below, constructors, in_order, numbers, numbers_of, put_all, table_meant, with_section}
use Rattle.sl_section_sizes.specs.SectionSizes.{unknown}
use Rattle.sl_section_flat.specs.Chains.{bytes_of}
use Rattle.sl_section_sizes.specs.Constructors.{Constructor}
use Rattle.sl_section_sizes.specs.WholeLaws.{AllFit, AreOrdered, FitsAll, NoneIsBelow, NoneIsOf, TablesAreBelow}
use Rattle.sl_section_sizes.specs.Sizings.{AreSized, after, with_export}
use Rattle.sl_section_sizes.proofs.LastLemmas.{of_the_whole}
use Rattle.sl_spec.specs.Tables.{Ctor, Operand, Table}
use Rattle.sl_spec.specs.declared.constructors.Means.{Means}
use Rattle.sl_spec.specs.declared.constructors.Means.TheVariants as means
use Rattle.sl_spec.specs.declared.tables.Tables.{Tables}
use Rattle.sl_spec_tables.proofs.RowLemmas.{stands}
use Rattle.sl_faithful_sections.specs.SizeLaws.{IsExported, SectionsFitTheWhole}
use Rattle.sl_word.specs.declared.word.Size.{Size}

-- ---- lists

itself : (n : ℕ) → (n == n) ≡ true
itself n = grind arith

same : (a b : ℕ) → (a == b) ≡ true → a ≡ b
same a b h = grind arith

first_of : {X : Type 0} (x : X) (xs : List X) → Contains (x ∷ xs) x
first_of x xs = (0, omega arith, refl)

further : {X : Type 0} (x y : X) (xs : List X) → Contains xs x → Contains (y ∷ xs) x
further x y xs c = (suc c.0, omega (arith, c.1), c.2)

-- the member at a place
at_place : {X : Type 0} (xs : List X) (k : ℕ) (x : X) → slice_get xs k ≡ Some x → Contains xs x
at_place [] k x e = absurd (let no : ⊥ = cc in no)
at_place (y ∷ xs) zero x e = (0, omega arith, let s : y ≡ x = cc in s)
at_place (y ∷ xs) (suc k) x e = further x y xs (at_place xs k x e)

-- ---- constructors with their sections

-- it is the constructor of this number, with its section
record Came (xs : List Ctor) (ys : List Flat) (k : ℕ) (c : Constructor) : Type 0 where
  pub ctor : Ctor
  pub flat : Flat
  pub there : slice_get xs k ≡ Some ctor
  pub section : slice_get ys k ≡ Some flat
  pub steps : c.steps ≡ flat.steps
  pub table : c.table ≡ ctor.table
  pub operands : c.operands ≡ map (λ (o : Operand). table_meant o.means) ctor.operands

came : (xs : List Ctor) (ys : List Flat) (k : ℕ) (c : Constructor) → slice_get (map (λ (r : Ctor × Flat). with_section r.0 r.1) (zip xs ys)) k ≡ Some c → Came xs ys k c
came [] ys k c e = absurd (let no : ⊥ = cc in no)
came (x ∷ xs) [] k c e = absurd (let no : ⊥ = cc in no)
came (x ∷ xs) (y ∷ ys) zero c e =
    let s : with_section x y ≡ c = cc in
    record { ctor = x; flat = y; there = refl; section = refl; steps = ap (λ (z : Constructor). z.steps) (sym s); table = ap (λ (z : Constructor). z.table) (sym s); operands = ap (λ (z : Constructor). z.operands) (sym s) }
came (x ∷ xs) (y ∷ ys) (suc k) c e =
    let r = came xs ys k c e in
    record { ctor = r.ctor; flat = r.flat; there = r.there; section = r.section; steps = r.steps; table = r.table; operands = r.operands }

zipped : (xs : List Ctor) (ys : List Flat) (k : ℕ) (x : Ctor) (y : Flat) → slice_get xs k ≡ Some x → slice_get ys k ≡ Some y
    → slice_get (map (λ (r : Ctor × Flat). with_section r.0 r.1) (zip xs ys)) k ≡ Some (with_section x y)
zipped [] ys k x y e e' = absurd (let no : ⊥ = cc in no)
zipped (a ∷ xs) [] k x y e e' = absurd (let no : ⊥ = cc in no)
zipped (a ∷ xs) (b ∷ ys) zero x y e e' =
    let s : a ≡ x = cc in
    let s' : b ≡ y = cc in
    ap (λ z. Some (with_section z b)) s ∙ ap (λ z. Some (with_section x z)) s'
zipped (a ∷ xs) (b ∷ ys) (suc k) x y e e' = zipped xs ys k x y e e'

-- ---- heights

module _ (H : ℕ → ℕ) where
  -- heights that don't sink, from n on
  abbrev TablesRise : ℕ → List ℕ → Type 0
  TablesRise n [] = ⊤
  TablesRise n (v ∷ vs) = (n ≤ H v) × TablesRise (H v) vs

  abbrev Rises : ℕ → List Constructor → Type 0
  Rises n [] = ⊤
  Rises n (c ∷ cs) = (n ≤ H c.table) × Rises (H c.table) cs

  from_lower : (m n : ℕ) (vs : List ℕ) → m ≤ n → TablesRise n vs → TablesRise m vs
  from_lower m n [] le r = tt
  from_lower m n (v ∷ vs) le r = (omega (arith, le, r.0), r.1)

  from_below : (m n : ℕ) (cs : List Constructor) → m ≤ n → Rises n cs → Rises m cs
  from_below m n [] le r = tt
  from_below m n (c ∷ cs) le r = (omega (arith, le, r.0), r.1)

  level_by : (n v : ℕ) (vs rest : List ℕ) (b : Bool) → (H v == n) ≡ b → TablesRise n (filter (λ u. H u == n) vs ++ rest)
      → TablesRise n (cond b (v ∷ filter (λ u. H u == n) vs) (filter (λ u. H u == n) vs) ++ rest)
  level_by n v vs rest true is r =
      let e : H v ≡ n = same (H v) n is in
      (omega (arith, e), subst (λ m. TablesRise m (filter (λ u. H u == n) vs ++ rest)) (sym e) r)
  level_by n v vs rest false is r = r

  level : (n : ℕ) (vs rest : List ℕ) → TablesRise n rest → TablesRise n (filter (λ u. H u == n) vs ++ rest)
  level n [] rest r = r
  level n (v ∷ vs) rest r = level_by n v vs rest (H v == n) refl (level n vs rest r)

  levels : (k len : ℕ) (nodes : List ℕ) → TablesRise k (flat_map (λ n. filter (λ v. H v == n) nodes) (range_with_len k len))
  levels k zero nodes = tt
  levels k (suc len) nodes = level k nodes _ (from_lower k (k + 1) _ (omega arith) (levels (k + 1) len nodes))

  none_of : (n w : ℕ) (cs : List Constructor) → Rises n cs → H w < n → NoneIsOf w cs
  none_of n w [] r lt = tt
  none_of n w (c ∷ cs) r lt =
      ((λ e. let h : H w ≡ H c.table = ap H e in let le = r.0 in omega (arith, h, lt, le)), none_of (H c.table) w cs r.1 (omega (arith, lt, r.0)))

  none_by : (n : ℕ) (m : Means) (rest : List (Option ℕ)) (cs : List Constructor) → Rises n cs → ((w : ℕ) → Contains (table_of m) w → H w < n)
      → NoneIsBelow rest cs → NoneIsBelow (table_meant m ∷ rest) cs
  none_by n (means.Table id) rest cs r low later = (none_of n id cs r (low id (first_of id [])), later)
  none_by n (means.Field f) rest cs r low later = later
  none_by n (means.Action k) rest cs r low later = later

  none_below : (n : ℕ) (os : List Operand) (cs : List Constructor) → Rises n cs → ((w : ℕ) → Contains (tables_in os) w → H w < n)
      → NoneIsBelow (map (λ (o : Operand). table_meant o.means) os) cs
  none_below n [] cs r low = tt
  none_below n (o ∷ os) cs r low =
      none_by n o.means _ cs r (λ w c. low w (Contains-append_left (table_of o.means) (tables_in os) w c))
      (none_below n os cs r (λ w c. low w (Contains-append_right (table_of o.means) (tables_in os) w c)))

  height_has : (nodes : List ℕ) (v : ℕ) → Contains nodes v → Contains (by_height H nodes) v
  unfolding by_height
  height_has nodes v c =
      let lt = member_below H nodes v c in
      in_flat (λ n. filter (λ u. H u == n) nodes) (range_with_len 0 (above H nodes)) (H v) v
      (H v, omega (arith, lt, length-range_with_len 0 (above H nodes)), get_or-range_with_len 0 (above H nodes) (H v) (H v) lt ∙ omega arith)
      (in_filter (λ u. H u == H v) nodes v (itself (H v)) c)

-- the tables that a constructor names are among those that its table names
named_has : (cs : List Ctor) (i : ℕ) (c : Ctor) (w : ℕ) → slice_get cs i ≡ Some c → Contains (tables_in c.operands) w → Contains (named_by cs c.table) w
named_has [] i c w e d = absurd (let no : ⊥ = cc in no)
named_has (x ∷ cs) zero c w e d =
    let s : x ≡ c = cc in
    let eq : (x.table == c.table) ≡ true = ap (λ (z : Ctor). z.table == c.table) s ∙ itself c.table in
    Contains-append_left (if x.table == c.table then tables_in x.operands else []) (named_by cs c.table) w
    (subst (λ b. Contains (if b then tables_in x.operands else []) w) (sym eq) (subst (λ (y : Ctor). Contains (tables_in y.operands) w) (sym s) d))
named_has (x ∷ cs) (suc i) c w e d = Contains-append_right (if x.table == c.table then tables_in x.operands else []) (named_by cs c.table) w (named_has cs i c w e d)

-- ---- tables that appear

any_by : (u t : ℕ) (done : List ℕ) (b : Bool) → (u == t) ≡ b → (b || list_any (λ x. x == t) done) ≡ true → (list_any (λ x. x == t) done ≡ true → Contains done t) → Contains (u ∷ done) t
any_by u t done true is h later = (0, omega arith, same u t is)
any_by u t done false is h later = further t u done (later h)

any_has : (done : List ℕ) (t : ℕ) → list_any (λ u. u == t) done ≡ true → Contains done t
any_has [] t e = absurd (let no : ⊥ = cc in no)
any_has (u ∷ done) t e = any_by u t done (u == t) refl e (any_has done t)

module _ (count : ℕ) where
  keeps_by : (b : Bool) (done : List ℕ) (t v : ℕ) → Contains done v → Contains (if b then done ++ t ∷ [] else done) v
  keeps_by true done t v c = Contains-append_left done (t ∷ []) v c
  keeps_by false done t v c = c

  met_keeps : (done : List ℕ) (t v : ℕ) → Contains done v → Contains (met count done t) v
  met_keeps done t v c = keeps_by _ done t v c

  has_by : (done : List ℕ) (t : ℕ) (b : Bool) → has done t ≡ b → Contains (if (if b then false else true) then done ++ t ∷ [] else done) t
  has_by done t true is = any_has done t is
  has_by done t false is = Contains-append_right done (t ∷ []) t (first_of t [])

  met_has : (done : List ℕ) (t : ℕ) → t < count → Contains (met count done t) t
  met_has done t lt =
      let inside : nat_lt t count ≡ true = grind (arith, lt) in
      subst (λ b. Contains (if (b && (if has done t then false else true)) then done ++ t ∷ [] else done) t) (sym inside) (has_by done t (has done t) refl)

  fold_keeps : (ts done : List ℕ) (v : ℕ) → Contains done v → Contains (fold (met count) done ts) v
  fold_keeps [] done v c = c
  fold_keeps (t ∷ ts) done v c = fold_keeps ts (met count done t) v (met_keeps done t v c)

  fold_has : (ts done : List ℕ) (v : ℕ) → v < count → Contains ts v → Contains (fold (met count) done ts) v
  fold_has [] done v lt c = absurd (let no : ⊥ = omega (arith, c.1) in no)
  fold_has (t ∷ ts) done v lt (zero, inside, here) =
      fold_keeps ts (met count done t) v (subst (λ u. Contains (met count done t) u) here (met_has done t (omega (arith, lt, here))))
  fold_has (t ∷ ts) done v lt (suc k, inside, here) = fold_has ts (met count done t) v lt (k, omega (arith, inside), here)

-- ---- the order of constructors

module _ (t : Tables) (texts : List (Placed ast.Constructor)) (sections : List Flat) (l : AreListed t texts) (order : List ℕ)
    (o : IsShapingOrder (length t.tables) t.constructors order) where
  abbrev H : ℕ → ℕ
  H v = get_or o.heights v 0

  abbrev cs : List Constructor
  cs = constructors t sections

  counted : length (graph (length t.tables) t.constructors) ≡ length t.tables
  counted = length-map (range_with_len 0 (length t.tables)) (named_by t.constructors) ∙ length-range_with_len 0 (length t.tables)

  lower : (i : ℕ) (c : Ctor) → slice_get t.constructors i ≡ Some c → (w : ℕ) → Contains (tables_in c.operands) w → H w < H c.table
  lower i c e w d =
      let inside = l.below i c e in
      let succ : successors (graph (length t.tables) t.constructors) c.table ≡ named_by t.constructors c.table =
      get_or-map-range_with_len (named_by t.constructors) 0 (length t.tables) c.table c.table [] inside (omega arith) in
      let lt = member_below H (successors (graph (length t.tables) t.constructors) c.table) w (subst (λ (x : List ℕ). Contains x w) (sym succ) (named_has t.constructors i c w e d)) in
      let at = o.are.each c.table (omega (arith, inside, counted)) in
      omega (arith, lt, at)

  under : (i : ℕ) (c : Constructor) → slice_get cs i ≡ Some c → (rest : List Constructor) → Rises H (H c.table) rest → NoneIsBelow c.operands rest
  under i c e rest r =
      let from = came t.constructors sections i c e in
      subst (λ (x : List (Option ℕ)). NoneIsBelow x rest) (sym from.operands)
      (none_below H (H from.ctor.table) from.ctor.operands rest (subst (λ v. Rises H (H v) rest) from.table r) (lower i from.ctor from.there))

  ordered_by : (i : ℕ) (rest : List Constructor) (n : ℕ) (c : Option Constructor) → slice_get cs i ≡ c → ((m : ℕ) → Rises H m rest → AreOrdered rest)
      → Rises H n (option_to_list c ++ rest) → AreOrdered (option_to_list c ++ rest)
  ordered_by i rest n None e later r = later n r
  ordered_by i rest n (Some c) e later r = (under i c e (c ∷ rest) (omega arith, r.1), later (H c.table) r.1)

  ordered : (is : List ℕ) (n : ℕ) → Rises H n (in_order cs is) → AreOrdered (in_order cs is)
  unfolding gathered
  ordered [] n r = tt
  ordered (i ∷ is) n r = ordered_by i (in_order cs is) n (slice_get cs i) refl (ordered is) r

  within_by : (i : ℕ) (rest : List Constructor) (c : Option Constructor) → slice_get cs i ≡ c → TablesAreBelow (length t.tables) rest → TablesAreBelow (length t.tables) (option_to_list c ++ rest)
  within_by i rest None e later = later
  within_by i rest (Some c) e later =
      let from = came t.constructors sections i c e in
      let lt = l.below i from.ctor from.there in
      (omega (arith, lt, from.table), later)

  within : (is : List ℕ) → TablesAreBelow (length t.tables) (in_order cs is)
  unfolding gathered
  within [] = tt
  within (i ∷ is) = within_by i (in_order cs is) (slice_get cs i) refl (within is)

  block_by : (i v : ℕ) (rest : List Constructor) (c : Option Constructor) → slice_get cs i ≡ c → ((d : Constructor) → slice_get cs i ≡ Some d → d.table ≡ v)
      → Rises H (H v) rest → Rises H (H v) (option_to_list c ++ rest)
  block_by i v rest None e own r = r
  block_by i v rest (Some c) e own r = let is = own c e in
      let h : H c.table ≡ H v = ap H is in
      (omega (arith, h), subst (λ u. Rises H (H u) rest) (sym is) r)

  block : (is : List ℕ) (v : ℕ) (rest : List ℕ) → ((i : ℕ) → Contains is i → (c : Constructor) → slice_get cs i ≡ Some c → c.table ≡ v)
      → Rises H (H v) (in_order cs rest) → Rises H (H v) (in_order cs (is ++ rest))
  unfolding gathered
  block [] v rest own r = r
  block (i ∷ is) v rest own r =
      block_by i v (in_order cs (is ++ rest)) (slice_get cs i) refl (own i (first_of i is)) (block is v rest (λ j c. own j (further j i is c)) r)

  -- a number of a table's constructors is that of one of the table
  own_by : (v : ℕ) (b : Option Table) → slice_get t.tables v ≡ b → (i : ℕ) → Contains (numbers_of b) i → (c : Constructor) → slice_get cs i ≡ Some c → c.table ≡ v
  own_by v None e i d c at = absurd (let no : ⊥ = omega (arith, d.1) in no)
  own_by v (Some b) e i d c at =
      let from = came t.constructors sections i c at in
      let n = numbered t.constructors v i (subst (λ (x : List ℕ). Contains x i) (l.numbers v b e) d) in
      let s : Some n.0 ≡ Some from.ctor = sym n.1 ∙ from.there in
      let s' : n.0 ≡ from.ctor = cc in
      from.table ∙ ap (λ (z : Ctor). z.table) (sym s') ∙ n.2

  if_own : (b : Bool) (j i : ℕ) → Contains (if_so b j) i → j ≡ i
  if_own true j i (zero, inside, here) = here
  if_own true j i (suc k, inside, here) = absurd (let no : ⊥ = omega (arith, inside) in no)
  if_own false j i c = absurd (let no : ⊥ = omega (arith, c.1) in no)

  own : (count v i : ℕ) → Contains (below count (numbers_of (slice_get t.tables v))) i → (c : Constructor) → slice_get cs i ≡ Some c → c.table ≡ v
  own count v i d =
      let from = of_gathered (λ j. if_so (nat_lt j count) j) (numbers_of (slice_get t.tables v)) i d in
      own_by v (slice_get t.tables v) refl i (subst (λ j. Contains (numbers_of (slice_get t.tables v)) j) (if_own (nat_lt from.0 count) from.0 i from.2) from.1)

  rising : (count n : ℕ) (vs : List ℕ) → TablesRise H n vs → Rises H n (in_order cs (numbers t count vs))
  unfolding gathered
  rising count n [] r = tt
  rising count n (v ∷ vs) r =
      from_below H n (H v) _ r.0 (block (below count (numbers_of (slice_get t.tables v))) v (numbers t count vs) (own count v) (rising count (H v) vs r.1))

  order_rises : TablesRise H 0 order
  unfolding by_height
  order_rises =
      subst (λ (x : List ℕ). TablesRise H 0 x) (sym o.order_is) (levels H 0 (above H (appearing (length t.tables) t.constructors)) (appearing (length t.tables) t.constructors))

  -- ---- members

  order_has : (i : ℕ) (c : Ctor) → slice_get t.constructors i ≡ Some c → Contains order c.table
  order_has i c e =
      subst (λ (x : List ℕ). Contains x c.table) (sym o.order_is)
      (height_has H (appearing (length t.tables) t.constructors) c.table
      (fold_has (length t.tables) (map (λ (x : Ctor). x.table) t.constructors) [] c.table (l.below i c e) (in_map (λ (x : Ctor). x.table) t.constructors c (at_place t.constructors i c e))))

  numbers_have : (count i : ℕ) (c : Ctor) → slice_get t.constructors i ≡ Some c → i < count → Contains (numbers t count order) i
  numbers_have count i c e lt =
      let b = stands t.tables c.table (l.below i c e) in
      let mine : Contains (numbers_of (slice_get t.tables c.table)) i =
      subst (λ (x : Option Table). Contains (numbers_of x) i) (sym b.is) (subst (λ (x : List ℕ). Contains x i) (sym (l.numbers c.table b.item b.is)) (in_numbers t.constructors i c e)) in
      let inside : nat_lt i count ≡ true = grind (arith, lt) in
      in_gathered (λ v. below count (numbers_of (slice_get t.tables v))) order c.table i (order_has i c e)
      (in_gathered (λ j. if_so (nat_lt j count) j) (numbers_of (slice_get t.tables c.table)) i i mine (subst (λ x. Contains (if_so x i) i) (sym inside) (first_of i [])))

  if_below : (count : ℕ) (b : Bool) (j i : ℕ) → nat_lt j count ≡ b → Contains (if_so b j) i → i < count
  if_below count true j i is c = let e = if_own true j i c in grind (arith, is, e)
  if_below count false j i is c = absurd (let no : ⊥ = omega (arith, c.1) in no)

  numbers_below : (count : ℕ) (i : ℕ) → Contains (numbers t count order) i → i < count
  numbers_below count i c =
      let v = of_gathered (λ v. below count (numbers_of (slice_get t.tables v))) order i c in
      let j = of_gathered (λ j. if_so (nat_lt j count) j) (numbers_of (slice_get t.tables v.0)) i v.2 in
      if_below count (nat_lt j.0 count) j.0 i refl j.2

  -- ---- sizes at their numbers

  module _ (last : List (Option ℕ)) (all : List (List Size)) (long : length all ≡ length cs) where
    record Seen (sizes : List (List Size)) (number : ℕ) (c : Constructor) : Type 0 where
      pub mine : List Size
      pub at : slice_get sizes number ≡ Some mine
      pub fits : FitsAll (address_of t) last c mine

    put_long : (found : List (List Size)) (is : List ℕ) → length (put_all all found is) ≡ length all
    put_long [] is = refl
    put_long (s ∷ found) [] = refl
    put_long (s ∷ found) (i ∷ is) = length-set (put_all all found is) i s ∙ put_long found is

    look_by : (i : ℕ) (is : List ℕ) (x : Constructor) (found : List (List Size)) → slice_get cs i ≡ Some x
        → AllFit (address_of t) last (x ∷ in_order cs is) found
        → (number : ℕ) → Contains (i ∷ is) number → (c : Constructor) → slice_get cs number ≡ Some c
        → ((more : List (List Size)) → AllFit (address_of t) last (in_order cs is) more → Contains is number → Seen (put_all all more is) number c)
        → Seen (put_all all found (i ∷ is)) number c
    look_by i is x [] e fit number d c at later = absurd fit
    look_by i is x (s ∷ more) e fit number d c at later = by (number == i) refl
      where
        behind : (number ≡ i → ⊥) → Contains (i ∷ is) number → Contains is number
        behind other (zero, inside, here) = absurd (other (sym here))
        behind other (suc k, inside, here) = (k, omega (arith, inside), here)

        by : (b : Bool) → (number == i) ≡ b → Seen (set (put_all all more is) i s) number c
        by true is' =
            let e' : number ≡ i = same number i is' in
            let here : Some x ≡ Some c = sym e ∙ ap (slice_get cs) (sym e') ∙ at in
            let here' : x ≡ c = cc in
            let lt = slice_get_within cs i x e in
            record {
              mine = s;
              at = ap (slice_get (set (put_all all more is) i s)) e' ∙ get_set_same (put_all all more is) i s (omega (arith, lt, long, put_long more is));
              fits = subst (λ (z : Constructor). FitsAll (address_of t) last z s) here' fit.0;
            }
        by false is' =
            let other : number ≡ i → ⊥ = (λ y. let no : ⊥ = grind (arith, y, is') in no) in
            let r = later more fit.1 (behind other d) in
            record { mine = r.mine; at = get_set_other (put_all all more is) i number s other ∙ r.at; fits = r.fits }

    look : (is : List ℕ) (found : List (List Size)) → AllFit (address_of t) last (in_order cs is) found → ((i : ℕ) → Contains is i → i < length cs)
        → (number : ℕ) → Contains is number → (c : Constructor) → slice_get cs number ≡ Some c → Seen (put_all all found is) number c
    unfolding gathered
    look [] found fit inside number d c at = absurd (let no : ⊥ = omega (arith, d.1) in no)
    look (i ∷ is) found fit inside number d c at =
        let x = stands cs i (inside i (first_of i is)) in
        look_by i is x.item found x.is (subst (λ (z : Option Constructor). AllFit (address_of t) last (option_to_list z ++ in_order cs is) found) x.is fit) number d c at
        (λ more fits inner. look is more fits (λ j y. inside j (further j i is y)) number inner c at)

-- ---- where the sizes that tables export come from

-- One of the constructors is the table's, and exports.
record Exporter (table : ℕ) (cs : List Constructor) : Type 0 where
  pub its : Constructor
  pub there : Contains cs its
  pub owner : its.table ≡ table
  pub variable : ℕ
  pub exports : exported_variable its.steps ≡ Some variable

one_behind : (table : ℕ) (c : Constructor) (cs : List Constructor) → Exporter table cs → Exporter table (c ∷ cs)
one_behind table c cs e = record { its = e.its; there = further e.its c cs e.there; owner = e.owner; variable = e.variable; exports = e.exports }

variable_there : (sizes : List Size) (o : Option ℕ) (n : ℕ) → option_and_then (λ x. option_map bytes_of (slice_get sizes x)) o ≡ Some n → (x : ℕ) × (o ≡ Some x)
variable_there sizes None n is = absurd (let no : ⊥ = cc in no)
variable_there sizes (Some x) n is = (x, refl)

module _ (table n : ℕ) (now : List (Option ℕ)) (c : Constructor) (more : List Constructor) (sizes : List Size) where
  here_by : (size : Option ℕ) (b : Bool) → exported_size sizes c.steps ≡ size → (table == c.table) ≡ b → size_in (with_export now c.table size) table ≡ Some n
      → (size_in now table ≡ Some n) ⊎ Exporter table (c ∷ more)
  here_by None b exports is there = inl there
  here_by (Some m) false exports is there =
      let other : table ≡ c.table → ⊥ = (λ y. let no : ⊥ = grind (arith, y, is) in no) in
      inl (sym (ap (option_and_then (λ k. k)) (get_set_other now c.table table (Some m) other)) ∙ there)
  here_by (Some m) true exports is there =
      let x = variable_there sizes (exported_variable c.steps) m exports in
      inr (record { its = c; there = first_of c more; owner = sym (same table c.table is); variable = x.0; exports = x.1 })

  of_one : (address : Option ℕ → ℕ) → size_in (after address now c sizes) table ≡ Some n → (size_in now table ≡ Some n) ⊎ Exporter table (c ∷ more)
  of_one address there = here_by (exported_size sizes c.steps) (table == c.table) refl refl there

module _ (address : Option ℕ → ℕ) (last : List (Option ℕ)) (table n : ℕ) (is : size_in last table ≡ Some n) where
  comes_by : (now : List (Option ℕ)) (c : Constructor) (more : List Constructor) (sizes : List Size) → (size_in (after address now c sizes) table ≡ Some n) ⊎ Exporter table more
      → (size_in now table ≡ Some n) ⊎ Exporter table (c ∷ more)
  comes_by now c more sizes (inl there) = of_one table n now c more sizes address there
  comes_by now c more sizes (inr e) = inr (one_behind table c more e)

  -- a size that a table exports in the end was there, or a constructor exports it
  comes : (now : List (Option ℕ)) (more : List Constructor) (sizes : List (List Size)) → AreSized address now more sizes last → (size_in now table ≡ Some n) ⊎ Exporter table more
  comes now [] [] sized = inl (ap (λ (xs : List (Option ℕ)). size_in xs table) sized ∙ is)
  comes now [] (s ∷ ss) sized = absurd sized
  comes now (c ∷ more) [] sized = absurd sized
  comes now (c ∷ more) (s ∷ ss) sized = comes_by now c more s (comes (after address now c s) more ss sized.1)

none_known : (count table : ℕ) → size_in (replicate count None) table ≡ None
none_known zero table = refl
none_known (suc count) zero = refl
none_known (suc count) (suc table) = none_known count table

its_number : (o : Option Constructor) (c : Constructor) → Contains (option_to_list o) c → o ≡ Some c
its_number None c h = absurd (let no : ⊥ = omega (arith, h.1) in no)
its_number (Some x) c (zero, inside, here) = ap Some here
its_number (Some x) c (suc k, inside, here) = absurd (let no : ⊥ = omega (arith, inside) in no)

module _ (t : Tables) (sections : List Flat) where
  exported_by : (table : ℕ) (is : List ℕ) → Exporter table (in_order (constructors t sections) is) → IsExported t sections table
  exported_by table is e =
      let i = of_gathered (λ i. option_to_list (slice_get (constructors t sections) i)) is e.its e.there in
      let r = came t.constructors sections i.0 e.its (its_number (slice_get (constructors t sections) i.0) e.its i.2) in
      record {
        number = i.0;
        c = r.ctor;
        f = r.flat;
        there = r.there;
        section = r.section;
        owner = sym r.table ∙ e.owner;
        variable = e.variable;
        exports = ap exported_variable (sym r.steps) ∙ e.exports;
      }

  table_is_exported : (table n : ℕ) (is : List ℕ) → (size_in (unknown t) table ≡ Some n) ⊎ Exporter table (in_order (constructors t sections) is) → IsExported t sections table
  table_is_exported table n is (inl there) = absurd (let e : None ≡ Some n = sym (none_known (length t.tables) table) ∙ there in let no : ⊥ = cc in no)
  table_is_exported table n is (inr e) = exported_by table is e

pub fit_the_whole : SectionsFitTheWhole
fit_the_whole t texts sections sizes l are = record {
  last = are.exports;
  exported = λ table n is. table_is_exported t sections table n (numbers t (length (constructors t sections)) are.tables)
      (comes (address_of t) are.exports table n is (unknown t) (in_order (constructors t sections) (numbers t (length (constructors t sections)) are.tables)) are.found are.are_sized);
  each = λ number c f at also.
      let there = zipped t.constructors sections number c f at also in
      let inside = slice_get_within (constructors t sections) number (with_section c f) there in
      let r = look t texts sections l are.tables are.is_order are.exports (replicate (length (constructors t sections)) []) (length-replicate (length (constructors t sections)) [])
      (numbers t (length (constructors t sections)) are.tables) are.found fits
      (numbers_below t texts sections l are.tables are.is_order (length (constructors t sections)))
      number (numbers_have t texts sections l are.tables are.is_order (length (constructors t sections)) number c at inside) (with_section c f) there in
      record { own = r.mine; there = ap (λ (x : List (List Size)). slice_get x number) are.in_text ∙ r.at; fits = r.fits };
}
  where
    fits : AllFit (address_of t) are.exports (in_order (constructors t sections) (numbers t (length (constructors t sections)) are.tables)) are.found
    fits =
        of_the_whole (address_of t) (unknown t) are.exports _ are.found
        (subst (λ n. TablesAreBelow n (in_order (constructors t sections) (numbers t (length (constructors t sections)) are.tables))) (sym (length-replicate (length t.tables) None)) (within t texts sections l are.tables are.is_order _))
        (ordered t texts sections l are.tables are.is_order _ 0 (rising t texts sections l are.tables are.is_order (length (constructors t sections)) 0 are.tables (order_rises t texts sections l are.tables are.is_order)))
        are.are_sized
