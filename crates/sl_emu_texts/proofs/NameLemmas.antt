-- The names of spaces and of user operations differ, and no space has a reserved word for its name.
use Rattle.std.proofs.Common.{◌≡◌, ℕ, zero, suc, ◌<◌, ◌&&◌, ◌||◌, Bool, true, false, List, [], ◌∷◌, ◌++◌, map, length, slice_get, Result, Ok, refl, sym, ap, subst, ◌∙◌, append_assoc, append-nil, arith}
use Rattle.std.specs.Prelude.{not, unwrap_or}
use Rattle.std.specs.List.{AllByRecursion}
use Rattle.std.specs.Str.{bytes_eq}
use Rattle.std.proofs.lemmas.Bool.{false≢true}
use Rattle.std.proofs.lemmas.Slice.Eq.{bytes_eq-Decides}
use Rattle.sl_ast.specs.Trees as tree
use Rattle.sl_ast.specs.Trees.{Item, block, constructor, define, attach_list, attach_one, macro}
use Rattle.sl_bind.proofs.GrowLemmas.{first_holds, is_kept, put_judged}
use Rattle.sl_bind.proofs.WalkLemmas.{known_or}
use Rattle.sl_bind.specs.Verdict as verdict
use Rattle.sl_faithful_places.proofs.WalkLemmas.{taken_hold}
use Rattle.sl_spec_definitions.specs.AttachRules.{attach_demands}
use Rattle.sl_spec_definitions.specs.Beginning.{is_alignment, with_alignment, with_endian}
use Rattle.sl_spec_definitions.specs.FieldRules.{context_demands, token_demands}
use Rattle.sl_spec_definitions.specs.Items.{all_names, defined, taken, with_tables}
use Rattle.sl_spec_definitions.specs.declared.known.Known.{Known}
use Rattle.sl_spec_registers.proofs.BoolLemmas.{and_parts, not_true, or_false}
use Rattle.sl_spec_registers.proofs.FreshLemmas.{are_free}
use Rattle.sl_spec_registers.specs.NewNames.{are_new, is_defined, is_new, reserved_words}
use Rattle.sl_spec_registers.specs.RegisterRules.{bit_range_demands, register_demands}
use Rattle.sl_spec_registers.specs.SpaceRules.{space_demands, space_of, with_space}
use Rattle.sl_spec_registers.specs.UserOps.{userop_of, with_userops}
use Rattle.sl_spec_rules.proofs.ListLemmas.{any_map}
use Rattle.sl_spec_rules.specs.Demands.{Demand, judged}
use Rattle.sl_spec_rules.specs.Names.{Name, are_distinct, differ_behind, is_among}
use Rattle.sl_spec.specs.Named.{has_name}
use Rattle.sl_spec.specs.Tables.{Space, UserOp}
use Rattle.sl_spec.specs.declared.tables.Tables.{Tables}

-- ---- names that differ

both_hold : (a b : Bool) → a ≡ true → b ≡ true → (a && b) ≡ true
both_hold true b h g = g
both_hold false b h g = absurd (false≢true h)

-- names that differ, and more behind them
differ_on : (before xs ys : List Name) → differ_behind before xs ≡ true → differ_behind (before ++ xs) ys ≡ true
    → differ_behind before (xs ++ ys) ≡ true
differ_on before [] ys first more = subst (λ (l : List Name). differ_behind l ys ≡ true) (append-nil before) more
differ_on before (x ∷ xs) ys first more =
    let parts = and_parts (not (is_among before x)) (differ_behind (before ++ x ∷ []) xs) first in
    both_hold (not (is_among before x)) (differ_behind (before ++ x ∷ []) (xs ++ ys)) parts.0
    (differ_on (before ++ x ∷ []) xs ys parts.1
    (subst (λ (l : List Name). differ_behind l ys ≡ true) (sym (append_assoc before (x ∷ []) xs)) more))

or_right : (a b : Bool) → b ≡ true → (a || b) ≡ true
or_right true b h = refl
or_right false b h = h

or_left : (a b : Bool) → a ≡ true → (a || b) ≡ true
or_left true b h = refl
or_left false b h = absurd (false≢true h)

or_else : (a b c : Bool) → (b ≡ true → c ≡ true) → (a || b) ≡ true → (a || c) ≡ true
or_else true b c more h = refl
or_else false b c more h = more h

among_more : (before more : List Name) (n : Name) → is_among before n ≡ true → is_among (before ++ more) n ≡ true
among_more [] more n h = absurd (false≢true h)
among_more (x ∷ before) more n h =
    or_else (bytes_eq n x) (is_among before n) (is_among (before ++ more) n) (among_more before more n) h

among_last : (before : List Name) (n : Name) → is_among (before ++ n ∷ []) n ≡ true
among_last [] n = or_left (bytes_eq n n) false ((bytes_eq-Decides n n).1 refl)
among_last (x ∷ before) n = or_right (bytes_eq n x) (is_among (before ++ n ∷ []) n) (among_last before n)

-- the name at an index, and none past the last one
abbrev pub name_in : List Name → ℕ → Name
name_in names i = unwrap_or (slice_get names i) []

-- none behind is one of those before
none_again : (before names : List Name) → differ_behind before names ≡ true → (i : ℕ) → i < length names
    → is_among before (name_in names i) ≡ true → ⊥
none_again before [] differ i within there = absurd (omega arith)
none_again before (x ∷ names) differ zero within there =
    let parts = and_parts (not (is_among before x)) (differ_behind (before ++ x ∷ []) names) differ in
    false≢true (sym (not_true (is_among before x) parts.0) ∙ there)
none_again before (x ∷ names) differ (suc i) within there =
    let parts = and_parts (not (is_among before x)) (differ_behind (before ++ x ∷ []) names) differ in
    none_again (before ++ x ∷ []) names parts.1 i (omega arith) (among_more before (x ∷ []) (name_in names i) there)

-- So a name has one index.
pub one_index : (before names : List Name) → differ_behind before names ≡ true → (i j : ℕ) → i < length names
    → j < length names → name_in names i ≡ name_in names j → i ≡ j
one_index before [] differ i j first second same = absurd (omega arith)
one_index before (x ∷ names) differ zero zero first second same = refl
one_index before (x ∷ names) differ zero (suc j) first second same =
    let parts = and_parts (not (is_among before x)) (differ_behind (before ++ x ∷ []) names) differ in
    absurd (none_again (before ++ x ∷ []) names parts.1 j (omega arith)
    (subst (λ (n : Name). is_among (before ++ x ∷ []) n ≡ true) same (among_last before x)))
one_index before (x ∷ names) differ (suc i) zero first second same =
    let parts = and_parts (not (is_among before x)) (differ_behind (before ++ x ∷ []) names) differ in
    absurd (none_again (before ++ x ∷ []) names parts.1 i (omega arith)
    (subst (λ (n : Name). is_among (before ++ x ∷ []) n ≡ true) (sym same) (among_last before x)))
one_index before (x ∷ names) differ (suc i) (suc j) first second same =
    let parts = and_parts (not (is_among before x)) (differ_behind (before ++ x ∷ []) names) differ in
    ap suc (one_index (before ++ x ∷ []) names parts.1 i j (omega arith) (omega arith) same)

-- ---- names of tables

abbrev pub space_names : Tables → List Name
space_names t = map (λ (z : Space). z.name) t.spaces

abbrev pub userop_names : Tables → List Name
userop_names t = map (λ (u : UserOp). u.name) t.userops

-- It is no word that is there from the start.
abbrev pub IsOpen : Name → Type 0
IsOpen n = is_among reserved_words n ≡ false

pub record AreApart (t : Tables) : Type 0 where
  pub spaces : are_distinct (space_names t) ≡ true
  pub userops : are_distinct (userop_names t) ≡ true
  pub free : AllByRecursion (λ (z : Space). IsOpen z.name) t.spaces

-- the names that count are those
still_apart : (old new : Tables) → new.spaces ≡ old.spaces → new.userops ≡ old.userops → AreApart old → AreApart new
still_apart old new spaces userops are = record {
  spaces = subst (λ (zs : List Space). are_distinct (map (λ (z : Space). z.name) zs) ≡ true) (sym spaces) are.spaces;
  userops = subst (λ (us : List UserOp). are_distinct (map (λ (u : UserOp). u.name) us) ≡ true) (sym userops) are.userops;
  free = subst (AllByRecursion (λ (z : Space). IsOpen z.name)) (sym spaces) are.free;
}

map_both : {X : Type 0} (f : X → Name) (xs ys : List X) → map f (xs ++ ys) ≡ map f xs ++ map f ys
map_both f [] ys = refl
map_both f (x ∷ xs) ys = ap (λ (l : List Name). f x ∷ l) (map_both f xs ys)

made_names : (names : List Name) → map (λ (u : UserOp). u.name) (map userop_of names) ≡ names
made_names [] = refl
made_names (n ∷ names) = ap (λ (l : List Name). n ∷ l) (made_names names)

all_both : {X : Type 0} (Q : X → Type 0) (xs : List X) (y : X) → AllByRecursion Q xs → Q y → AllByRecursion Q (xs ++ y ∷ [])
all_both Q [] y h g = (g, tt)
all_both Q (x ∷ xs) y h g = (h.0, all_both Q xs y h.1 g)

module _ (t : Tables) where
  space_apart : (z : Space) → is_new t z.name ≡ true → AreApart t → AreApart (with_space t z)
  space_apart z new are =
      let parts = and_parts (not (is_among reserved_words z.name)) (not (is_defined t z.name)) new in
      let none : has_name (λ (s : Space). s.name) z.name t.spaces ≡ false =
      (or_false (has_name (λ (s : Space). s.name) z.name t.spaces) _ (not_true (is_defined t z.name) parts.1)).0 in
      let fresh : not (is_among (space_names t) z.name) ≡ true =
      ap not (any_map (λ (m : Name). bytes_eq z.name m) (λ (s : Space). s.name) t.spaces ∙ none) in
      record {
        spaces = subst (λ (l : List Name). are_distinct l ≡ true) (sym (map_both (λ (s : Space). s.name) t.spaces (z ∷ [])))
            (differ_on [] (space_names t) (z.name ∷ []) are.spaces (both_hold _ true fresh refl));
        userops = are.userops;
        free = all_both (λ (s : Space). IsOpen s.name) t.spaces z are.free (not_true (is_among reserved_words z.name) parts.0);
      }

  userops_apart : (names : List Name) → are_new t names ≡ true → AreApart t → AreApart (with_userops t (map userop_of names))
  userops_apart names new are =
      let more = map userop_of names in
      let whole : map (λ (u : UserOp). u.name) (t.userops ++ more) ≡ userop_names t ++ names =
      map_both (λ (u : UserOp). u.name) t.userops more ∙ ap (λ (l : List Name). userop_names t ++ l) (made_names names) in
      record {
        spaces = are.spaces;
        userops = subst (λ (l : List Name). are_distinct l ≡ true) (sym whole)
            (differ_on [] (userop_names t) names are.userops (are_free t names new).userops);
        free = are.free;
      }

-- ---- definitions

module _ (k next : Known) (are : AreApart k.tables) where
  known_apart : (t : Tables) → t ≡ next.tables → AreApart t → AreApart next.tables
  known_apart t same h = subst AreApart same h

  -- where neither a space nor a user operation is defined
  put_apart : (ds : List Demand) (t : Tables) → with_tables k (judged ds t) ≡ Ok next → AreApart t → AreApart next.tables
  put_apart ds t is h = known_apart t (put_judged k next ds t is).1 h

  stays : (t : Tables) → t.spaces ≡ k.tables.spaces → t.userops ≡ k.tables.userops → AreApart t
  stays t spaces userops = still_apart k.tables t spaces userops are

  same_known : (old : Known) → ◌≡◌ {A = Result Known ℕ} (Ok old) (Ok next) → AreApart old.tables → AreApart next.tables
  same_known old is h = known_apart old.tables (ap (λ (r : Result Known ℕ). (known_or next r).tables) is) h

  defined_apart : (d : tree.Definition) → defined k d ≡ Ok next → AreApart next.tables
  unfolding space_of
  defined_apart (tree.endian order) is =
      same_known (record k { tables = with_endian k.tables order }) is (stays (with_endian k.tables order) refl refl)
  defined_apart (tree.alignment n) is =
      let e = is_kept ((2, is_alignment k.alignment_stands n) ∷ []) (with_alignment k n) next is in
      known_apart (with_alignment k n).tables (ap (λ (k : Known). k.tables) e.1)
      (stays (with_alignment k n).tables refl refl)
  defined_apart (tree.space name given) is =
      let e = put_judged k next (space_demands k.tables name given) (with_space k.tables (space_of name given)) is in
      known_apart (with_space k.tables (space_of name given)) e.1
      (space_apart k.tables (space_of name given) (first_holds (is_new k.tables name) 3 _ e.0) are)
  defined_apart (tree.bit_ranges first more) is =
      put_apart (bit_range_demands k.tables (first ∷ more)) _ is (stays _ refl refl)
  defined_apart (tree.pcode_ops names) is =
      let given = all_names names in
      let e = put_judged k next ((3, are_new k.tables given) ∷ []) (with_userops k.tables (map userop_of given)) is in
      known_apart (with_userops k.tables (map userop_of given)) e.1
      (userops_apart k.tables given (first_holds (are_new k.tables given) 3 _ e.0) are)
  defined_apart (tree.registers place offset size names) is =
      put_apart (register_demands k.tables place offset size (all_names names)) _ is (stays _ refl refl)
  defined_apart (tree.token name bits order fs) is =
      put_apart (token_demands k.tables name bits fs) _ is (stays _ refl refl)
  defined_apart (tree.context register fs) is =
      put_apart (context_demands k.tables register fs) _ is (stays _ refl refl)

  taken_apart : (item : Item) → taken k item ≡ Ok next → AreApart next.tables
  taken_apart (define d) is = defined_apart d is
  taken_apart (attach_list kind names members) is =
      put_apart (attach_demands k.tables kind (all_names names) members) _ is (stays _ refl refl)
  taken_apart (attach_one kind names member) is =
      put_apart (attach_demands k.tables kind (all_names names) (member ∷ [])) _ is (stays _ refl refl)
  taken_apart (macro own) is = same_known k is are
  taken_apart (block h inside) is = same_known k is are
  taken_apart (constructor c) is = same_known k is are

-- ---- all items

pub taken_are_apart : (items : List Item) (t : Tables) → verdict.taken items ≡ Ok t → AreApart t
taken_are_apart items t is = taken_hold (λ done t. AreApart t)
    (λ done old new none are. still_apart old new none.spaces none.userops are)
    (λ done n item k next is are. taken_apart k next are item is)
    items t is (record { spaces = refl; userops = refl; free = tt })
