-- The tables as one constructor more is put to its table.
use Rattle.std.proofs.Common.{◌≡◌, ℕ, ◌<◌, ◌≤◌, inl, inr, List, [], ◌∷◌, ◌++◌, map, set, length, get_or, Option, Some, None, Result, Ok, Err, refl, sym, ap, ◌∙◌, subst, arith}
use Rattle.std.specs.Prelude.{slice_get, All, OnOk, IfSome, MatchOption}
use Rattle.std.specs.List.{HoldsAt}
use Rattle.std.proofs.lemmas.Bool.{cases_eq}
use Rattle.std.proofs.lemmas.List.{length-set, map_push}
use Rattle.std.proofs.lemmas.Option.{slice_get_read, slice_get_within, same_Some}
use Rattle.sl_cube_sets.specs.declared.CubeSet.{CubeSet}
use Rattle.sl_conflict.specs.Kept.{AreTablesOf, IsTableOf}
use Rattle.sl_conflict.specs.Rows.{Row, of_table}
use Rattle.sl_conflict.specs.declared.table_sets.TableSets.{TableSets}
use Rattle.sl_conflict.proofs.RowLemmas.{more_of, same_of}
use Rattle.sl_base_graphs.proofs.ListLemmas.{get_set_other, get_set_same}

pub ok_then : {A E : Type 0} {P Q : Type 0} (r : Result A E) → OnOk r P → (P → Q) → OnOk r Q
ok_then (Ok a) h f = f h
ok_then (Err e) h f = tt

-- what holds of each member holds of one that is found
pub found : {B X : Type 0} (Q : X → Type 0) (now : B → X) (xs : List X) (i : ℕ) (P : Type 0) (r : Option B)
    → MatchOption r P (λ b. (i < length xs) × HoldsAt (λ y. now b ≡ y) xs i) → All Q xs → IfSome r (λ b. Q (now b))
found Q now xs i P None h all = tt
found {X = X} Q now xs i P (Some b) h all = subst (λ (x : X). Q x) (sym (h.1 (now b))) (all i (now b) h.0)

-- a table to which a constructor was added
more_in : (rs : List Row) (r : Row) (t : ℕ) (old new : TableSets) → r.table ≡ t → IsTableOf rs t old
    → new.ctors.items ≡ old.ctors.items ++ r.number ∷ [] → new.sets.items ≡ old.sets.items ++ r.set ∷ [] → IsTableOf (rs ++ r ∷ []) t new
more_in rs r t old new e is ctors sets = record {
  ctors = ctors ∙ ap (λ (l : List ℕ). l ++ r.number ∷ []) is.ctors ∙ sym (map_push (λ (x : Row). x.number) (of_table t rs) r) ∙ ap (map (λ (x : Row). x.number)) (sym (more_of rs r t e));
  sets = sets ∙ ap (λ (l : List CubeSet). l ++ r.set ∷ []) is.sets ∙ sym (map_push (λ (x : Row). x.set) (of_table t rs) r) ∙ ap (map (λ (x : Row). x.set)) (sym (more_of rs r t e));
}

-- another table
same_in : (rs : List Row) (r : Row) (t : ℕ) (kept : TableSets) → (r.table ≡ t → ⊥) → IsTableOf rs t kept → IsTableOf (rs ++ r ∷ []) t kept
same_in rs r t kept other is = record {
  ctors = is.ctors ∙ ap (map (λ (x : Row). x.number)) (sym (same_of rs r t other));
  sets = is.sets ∙ ap (map (λ (x : Row). x.set)) (sym (same_of rs r t other));
}

pub table_more : (old : List TableSets) (t ctor : ℕ) (s : CubeSet) (kept new : TableSets) → t < length old → kept ≡ get_or old t kept
    → new.ctors.items ≡ kept.ctors.items ++ ctor ∷ [] → new.sets.items ≡ kept.sets.items ++ s ∷ []
    → (count : ℕ) (rs : List Row) → AreTablesOf count rs old → AreTablesOf count (rs ++ record { number = ctor; table = t; set = s } ∷ []) (set old t new)
table_more old t ctor s kept new below is ctors sets count rs are = record {
  counted = length-set old t new ∙ are.counted;
  each = λ table k e. elim (cases_eq table t) [
    | inl here ↦
        let there : Some new ≡ Some k = sym (get_set_same old t new below) ∙ ap (slice_get (set old t new)) (sym here) ∙ e in
        let added = more_in rs (record { number = ctor; table = t; set = s }) t kept new refl (are.each t kept (slice_get_read old (length old) t kept refl below is)) ctors sets in
        subst (λ (x : TableSets). IsTableOf (rs ++ record { number = ctor; table = t; set = s } ∷ []) table x) (same_Some new k there)
        (subst (λ x. IsTableOf (rs ++ record { number = ctor; table = t; set = s } ∷ []) x new) (sym here) added)
    | inr other ↦ same_in rs (record { number = ctor; table = t; set = s }) table k (λ x. other (sym x)) (are.each table k (sym (get_set_other old t table new other) ∙ e))
  ];
}

-- a constructor of no table changes nothing
pub table_same : (old : List TableSets) (t ctor : ℕ) (s : CubeSet) → length old ≤ t
    → (count : ℕ) (rs : List Row) → AreTablesOf count rs old → AreTablesOf count (rs ++ record { number = ctor; table = t; set = s } ∷ []) old
table_same old t ctor s past count rs are = record {
  counted = are.counted;
  each = λ table k e. same_in rs (record { number = ctor; table = t; set = s }) table k (λ x. let within = slice_get_within old table k e in omega arith) (are.each table k e);
}
