-- Tables with one more constructor, and the numbers of a table's constructors.
use Rattle.std.proofs.Common.{◌≡◌, ℕ, zero, suc, ◌+◌, ◌<◌, ◌≤◌, ◌==◌, ◌||◌, inl, inr, Bool, true, false, cond, List, [], ◌∷◌, ◌++◌, length, slice_get, Option, Some, None, refl, sym, ap, subst, ◌∙◌, append-nil, length-append, arith}
use Rattle.std.specs.Prelude.{if◌then◌else◌, nat_lt, not}
use Rattle.std.specs.List.{AllByRecursion, filter, position_or_len, range_with_len}
use Rattle.std.specs.Str.{bytes_eq}
use Rattle.std.proofs.lemmas.Bool.{cases_lt}
use Rattle.std.proofs.lemmas.List.{length-map}
use Rattle.std.proofs.lemmas.Slice.Eq.{bytes_eq-Decides}
use Rattle.std.proofs.lemmas.List.Elements.{filter-append}
use Rattle.std.proofs.lemmas.Option.{slice_get_past}
use Rattle.sl_ast.specs.Trees.{Constructor}
use Rattle.sl_ast.specs.Unfolding.{Placed}
use Rattle.sl_spec_rules.specs.Names.{Name, is_among}
use Rattle.sl_spec.specs.Begun.{with_constructor, with_number}
use Rattle.sl_spec.specs.Named.{index_named, is_named}
use Rattle.sl_spec.specs.Tables.{Ctor, Table}
use Rattle.sl_spec.specs.declared.tables.Tables.{Tables}
use Rattle.sl_spec_actions.specs.ActionNames.{with_name}
use Rattle.sl_spec_constructors.proofs.NumberLemmas.{in_numbers}
use Rattle.sl_spec_constructors.specs.Laws.{names_of}
use Rattle.sl_spec_constructors.specs.Listed.{AreListed, is_of, numbers_of}

-- ---- the constructors of the table at an index

abbrev pub numbers : Option Table → List ℕ
numbers None = []
numbers (Some b) = b.constructors

abbrev pub constructors_at : List Table → ℕ → List ℕ
constructors_at bs k = numbers (slice_get bs k)

abbrev pub one_if : Bool → ℕ → List ℕ
one_if b n = cond b (n ∷ []) []

-- where the table of this name stands, or will stand
abbrev pub place_of : Name → List Table → ℕ
place_of name bs = position_or_len (is_named (λ b. b.name) name) bs

module _ (name : Name) (n : ℕ) where
  added_by : (same : Bool) (b : Table) (bs : List Table) (k : ℕ) → ((j : ℕ) → constructors_at (with_constructor bs name n) j ≡ constructors_at bs j ++ one_if (place_of name bs == j) n)
      → constructors_at (if same then with_number b n ∷ bs else b ∷ with_constructor bs name n) k ≡ constructors_at (b ∷ bs) k ++ one_if (cond (not same) (1 + place_of name bs) 0 == k) n
  added_by true b bs zero rest = refl
  added_by true b bs (suc k) rest =
      let e : (0 == suc k) ≡ false = grind arith in
      sym (append-nil (constructors_at bs k)) ∙ ap (λ x. constructors_at bs k ++ one_if x n) (sym e)
  added_by false b bs zero rest =
      let e : (1 + place_of name bs == 0) ≡ false = grind arith in
      sym (append-nil b.constructors) ∙ ap (λ x. b.constructors ++ one_if x n) (sym e)
  added_by false b bs (suc k) rest =
      let e : (place_of name bs == k) ≡ (1 + place_of name bs == suc k) = grind arith in
      rest k ∙ ap (λ x. constructors_at bs k ++ one_if x n) e

  pub added_at : (bs : List Table) (k : ℕ) → constructors_at (with_constructor bs name n) k ≡ constructors_at bs k ++ one_if (place_of name bs == k) n
  added_at [] zero = refl
  added_at [] (suc k) = let e : (0 == suc k) ≡ false = grind arith in ap (λ x. one_if x n) (sym e)
  added_at (b ∷ bs) k = added_by (bytes_eq name b.name) b bs k (added_at bs)

-- ---- the numbers of a table's constructors

range_more : (a m : ℕ) → range_with_len a (suc m) ≡ range_with_len a m ++ (a + m) ∷ []
range_more a zero = let e : a ≡ a + 0 = omega arith in ap (λ x. x ∷ []) e
range_more a (suc m) = let e : a + 1 + m ≡ a + suc m = omega arith in ap (λ (l : List ℕ). a ∷ l) (range_more (a + 1) m ∙ ap (λ x. range_with_len (a + 1) m ++ x ∷ []) e)

same_kept : (p q : ℕ → Bool) (a m : ℕ) → ((i : ℕ) → i < a + m → p i ≡ q i) → filter p (range_with_len a m) ≡ filter q (range_with_len a m)
same_kept p q a zero same = refl
same_kept p q a (suc m) same =
    ap (λ b. cond b (a ∷ filter p (range_with_len (a + 1) m)) (filter p (range_with_len (a + 1) m))) (same a (omega arith))
    ∙ ap (λ (l : List ℕ). cond (q a) (a ∷ l) l) (same_kept p q (a + 1) m (λ i below. same i (omega arith)))

get_front : {X : Type 0} (xs : List X) (x : X) (i : ℕ) → i < length xs → slice_get (xs ++ x ∷ []) i ≡ slice_get xs i
get_front [] x i below = absurd (omega arith)
get_front (y ∷ ys) x zero below = refl
get_front (y ∷ ys) x (suc i) below = get_front ys x i (omega arith)

get_last : {X : Type 0} (xs : List X) (x : X) → slice_get (xs ++ x ∷ []) (length xs) ≡ Some x
get_last [] x = refl
get_last (y ∷ ys) x = get_last ys x

pub numbers_more : (ctors : List Ctor) (c : Ctor) (k : ℕ) → numbers_of (ctors ++ c ∷ []) k ≡ numbers_of ctors k ++ one_if (c.table == k) (length ctors)
numbers_more ctors c k =
    let now : ℕ → Bool = λ i. is_of k (slice_get (ctors ++ c ∷ []) i) in
    let long : length (ctors ++ c ∷ []) ≡ suc (length ctors) = length-append ctors (c ∷ []) ∙ omega arith in
    let none : 0 + length ctors ≡ length ctors = omega arith in
    ap (λ m. filter now (range_with_len 0 m)) long
    ∙ ap (filter now) (range_more 0 (length ctors) ∙ ap (λ x. range_with_len 0 (length ctors) ++ x ∷ []) none)
    ∙ filter-append now (range_with_len 0 (length ctors)) (length ctors ∷ [])
    ∙ ap (λ b. filter now (range_with_len 0 (length ctors)) ++ one_if b (length ctors)) (ap (is_of k) (get_last ctors c))
    ∙ ap (λ (l : List ℕ). l ++ one_if (c.table == k) (length ctors)) (same_kept now (λ i. is_of k (slice_get ctors i)) 0 (length ctors) (λ i below. ap (is_of k) (get_front ctors c i (omega arith))))

-- ---- names

pub same_bytes : (xs : List ℕ) → bytes_eq xs xs ≡ true
same_bytes xs = (bytes_eq-Decides xs xs).1 refl

with_by : (name m : Name) (ns : List Name) (same there : Bool) → (if (same || there) then m ∷ ns else m ∷ (ns ++ name ∷ [])) ≡ (if same then m ∷ ns else m ∷ (if there then ns else ns ++ name ∷ []))
with_by name m ns true there = refl
with_by name m ns false true = refl
with_by name m ns false false = refl

with_more : (name m : Name) (ns : List Name) → with_name (m ∷ ns) name ≡ (if bytes_eq name m then m ∷ ns else m ∷ with_name ns name)
with_more name m ns = with_by name m ns (bytes_eq name m) (is_among ns name)

-- where a name stands among names
abbrev pub index_in : List Name → Name → ℕ
index_in ns name = position_or_len (λ m. bytes_eq name m) ns

index_by : (name m : Name) (ns : List Name) (same : Bool) → bytes_eq name m ≡ same → index_in (m ∷ ns) name ≡ cond same 0 (1 + index_in ns name)
index_by name m ns true is = ap (λ b. cond (not b) (1 + index_in ns name) 0) is
index_by name m ns false is = ap (λ b. cond (not b) (1 + index_in ns name) 0) is

module _ (name : Name) (more : List Name) where
  abbrev Stands : List Name → Type 0
  Stands ns = (index_in (with_name ns name ++ more) name ≡ index_in ns name) × (index_in ns name < length (with_name ns name))

  stands_by : (m : Name) (ns : List Name) (same : Bool) → bytes_eq name m ≡ same → Stands ns
      → (index_in ((if same then m ∷ ns else m ∷ with_name ns name) ++ more) name ≡ index_in (m ∷ ns) name) × (index_in (m ∷ ns) name < length (if same then m ∷ ns else m ∷ with_name ns name))
  stands_by m ns true is rest = (index_by name m (ns ++ more) true is ∙ sym (index_by name m ns true is), omega (arith, index_by name m ns true is))
  stands_by m ns false is rest =
      (index_by name m (with_name ns name ++ more) false is ∙ ap (λ n. 1 + n) rest.0 ∙ sym (index_by name m ns false is), omega (arith, index_by name m ns false is, rest.1))

  -- a name that is added stands where it stood, or last
  stands : (ns : List Name) → Stands ns
  stands [] = (index_by name name more true (same_bytes name), omega arith)
  stands (m ∷ ns) =
      let s = stands_by m ns (bytes_eq name m) refl (stands ns) in
      (ap (λ (l : List Name). index_in (l ++ more) name) (with_more name m ns) ∙ s.0, subst (λ (l : List Name). index_in (m ∷ ns) name < length l) (sym (with_more name m ns)) s.1)

place_in_names : (name : Name) (bs : List Table) → index_in (names_of bs) name ≡ place_of name bs
place_in_names name [] = refl
place_in_names name (b ∷ bs) = ap (λ n. cond (not (bytes_eq name b.name)) (1 + n) 0) (place_in_names name bs)

-- a name's index among tables is told by their names
pub index_by_names : (name : Name) (bs : List Table) (ns : List Name) → names_of bs ≡ ns → index_named (λ b. b.name) name bs ≡ cond (nat_lt (index_in ns name) (length ns)) (Some (index_in ns name)) None
index_by_names name bs ns are =
    let e : place_of name bs ≡ index_in ns name = sym (place_in_names name bs) ∙ ap (λ (l : List Name). index_in l name) are in
    let n : length bs ≡ length ns = sym (length-map bs (λ (b : Table). b.name)) ∙ ap length are in
    ap (λ k. cond (nat_lt k (length bs)) (Some k) None) e ∙ ap (λ k. cond (nat_lt (index_in ns name) k) (Some (index_in ns name)) None) n

-- so a table has one number among its own and among all tables, if its own begin all
pub same_index : (name : Name) (all bs : List Table) (more : List Name) → names_of all ≡ with_name (names_of bs) name ++ more
    → index_named (λ b. b.name) name all ≡ Some (place_of name bs)
same_index name all bs more are =
    let s = stands name more (names_of bs) in
    let below : nat_lt (index_in (names_of bs) name) (length (with_name (names_of bs) name ++ more)) ≡ true = grind (arith, length-append (with_name (names_of bs) name) more, s.1) in
    index_by_names name all _ are
    ∙ ap (λ k. cond (nat_lt k (length (with_name (names_of bs) name ++ more))) (Some k) None) s.0
    ∙ ap (λ b. cond b (Some (index_in (names_of bs) name)) None) below
    ∙ ap Some (place_in_names name bs)

-- ---- tables that are begun

-- Each table but the first has a constructor.
abbrev HasSome : Table → Type 0
HasSome b = 0 < length b.constructors

abbrev pub SomeBehind : List Table → Type 0
SomeBehind [] = Unit {0}
SomeBehind (b ∷ bs) = AllByRecursion HasSome bs

-- The tables have the numbers of these constructors, and each but the first has one.
pub record AreBegun (bs : List Table) (ctors : List Ctor) : Type 0 where
  pub numbers : (k : ℕ) → constructors_at bs k ≡ numbers_of ctors k
  pub behind : SomeBehind bs

module _ (name : Name) (n : ℕ) where
  some_by : (b : Table) (bs : List Table) (same : Bool) → HasSome b × AllByRecursion HasSome bs → AllByRecursion HasSome (with_constructor bs name n)
      → AllByRecursion HasSome (if same then with_number b n ∷ bs else b ∷ with_constructor bs name n)
  some_by b bs true all rest = (omega (arith, length-append b.constructors (n ∷ [])), all.1)
  some_by b bs false all rest = (all.0, rest)

  all_have : (bs : List Table) → AllByRecursion HasSome bs → AllByRecursion HasSome (with_constructor bs name n)
  all_have [] all = (omega arith, tt)
  all_have (b ∷ bs) all = some_by b bs (bytes_eq name b.name) all (all_have bs all.1)

  behind_by : (b : Table) (bs : List Table) (same : Bool) → AllByRecursion HasSome bs → SomeBehind (if same then with_number b n ∷ bs else b ∷ with_constructor bs name n)
  behind_by b bs true all = all
  behind_by b bs false all = all_have bs all

  some_behind : (bs : List Table) → SomeBehind bs → SomeBehind (with_constructor bs name n)
  some_behind [] all = tt
  some_behind (b ∷ bs) all = behind_by b bs (bytes_eq name b.name) all

-- one constructor more, in the table of this name
pub one_begun : (bs : List Table) (ctors : List Ctor) (name : Name) (c : Ctor) → c.table ≡ place_of name bs → AreBegun bs ctors
    → AreBegun (with_constructor bs name (length ctors)) (ctors ++ c ∷ [])
one_begun bs ctors name c is begun = record {
  numbers = λ k. added_at name (length ctors) bs k
      ∙ ap (λ (l : List ℕ). l ++ one_if (place_of name bs == k) (length ctors)) (begun.numbers k)
      ∙ ap (λ p. numbers_of ctors k ++ one_if (p == k) (length ctors)) (sym is)
      ∙ sym (numbers_more ctors c k);
  behind = some_behind name (length ctors) bs begun.behind;
}

-- ---- behind all constructors

has_number : (ctors : List Ctor) (i : ℕ) (c : Ctor) → slice_get ctors i ≡ Some c → 0 < length (numbers_of ctors c.table)
has_number ctors i c is = let n = in_numbers ctors i c is in omega (arith, n.1)

none_past : (bs : List Table) (k : ℕ) → length bs ≤ k → constructors_at bs k ≡ []
none_past bs k past = ap numbers (slice_get_past bs k past)

some_at : (bs : List Table) (k : ℕ) → AllByRecursion HasSome bs → k < length bs → 0 < length (constructors_at bs k)
some_at [] k all below = absurd (omega arith)
some_at (b ∷ bs) zero all below = all.0
some_at (b ∷ bs) (suc k) all below = some_at bs k all.1 (omega arith)

some_of_each : (bs : List Table) (k : ℕ) → SomeBehind bs → k < length bs → 0 < length (constructors_at bs 0) → 0 < length (constructors_at bs k)
some_of_each [] k all below first = first
some_of_each (b ∷ bs) zero all below first = first
some_of_each (b ∷ bs) (suc k) all below first = some_at bs k all (omega arith)

-- the tables are listed, where the first one has a constructor
pub all_listed : (t : Tables) (cs : List (Placed Constructor)) (i : ℕ) (first : Ctor) → AreBegun t.tables t.constructors → length t.constructors ≡ length cs
    → slice_get t.constructors i ≡ Some first → first.table ≡ 0 → AreListed t cs
all_listed t cs i first begun long there is = record {
  counted = long;
  below = λ j c at. elim (cases_lt c.table (length t.tables)) [
    | inl inside ↦ inside
    | inr past ↦
        let none = ap length (sym (begun.numbers c.table) ∙ none_past t.tables c.table past) in
        absurd (omega (arith, none, has_number t.constructors j c at))
  ];
  numbers = λ table b at. sym (ap numbers at) ∙ begun.numbers table;
  some = λ table inside.
      let of_first : 0 < length (constructors_at t.tables 0) = subst (λ (k : ℕ). 0 < length (constructors_at t.tables k)) is
      (subst (λ (l : List ℕ). 0 < length l) (sym (begun.numbers first.table)) (has_number t.constructors i first there)) in
      subst (λ (l : List ℕ). 0 < length l) (begun.numbers table) (some_of_each t.tables table begun.behind inside of_first);
}
