-- Tables, constructor after constructor.
use Rattle.std.proofs.Common.{◌≡◌, ℕ, suc, ◌+◌, ◌<◌, ◌≤◌, ◌==◌, inl, inr, true, false, cond, List, [], ◌∷◌, ◌++◌, Vec, Global, length, get_or, set, take, map, fold, Some, refl, sym, ap, ◌∙◌, subst, arith}
use Rattle.std.specs.Prelude.{slice_get}
use Rattle.std.specs.List.{range_with_len}
use Rattle.std.proofs.lemmas.Bool.{cases_eq}
use Rattle.std.proofs.lemmas.List.{append-nil, append_assoc, length-set, map_push, take_all, take_more}
use Rattle.std.proofs.lemmas.List.Sums.{fold-append}
use Rattle.std.proofs.lemmas.Option.{same_Some, slice_get_read, slice_get_within}
use Rattle.sl_base_graphs.specs.Views.{graph_of}
use Rattle.sl_base_graphs.proofs.ListLemmas.{get_set_other, get_set_same}
use Rattle.sl_spec_order.specs.Orders.{graph, met, named_by, tables_in}
use Rattle.sl_spec_order.specs.Steps.{IsGraphOf}
use Rattle.sl_spec.specs.Tables.{Ctor}

test_is : (a b : ℕ) → a ≡ b → (a == b) ≡ true
test_is a b e = grind arith

test_not : (a b : ℕ) → (a ≡ b → ⊥) → (a == b) ≡ false
test_not a b e = grind arith

-- ---- the graph

named_push : (cs : List Ctor) (c : Ctor) (t : ℕ) → named_by (cs ++ c ∷ []) t ≡ named_by cs t ++ cond (c.table == t) (tables_in c.operands) []
named_push [] c t = append-nil (cond (c.table == t) (tables_in c.operands) [])
named_push (d ∷ cs) c t =
    ap (λ (l : List ℕ). cond (d.table == t) (tables_in d.operands) [] ++ l) (named_push cs c t)
    ∙ sym (append_assoc (cond (d.table == t) (tables_in d.operands) []) (named_by cs t) (cond (c.table == t) (tables_in c.operands) []))

named_here : (cs : List Ctor) (c : Ctor) (t : ℕ) → c.table ≡ t → named_by (cs ++ c ∷ []) t ≡ named_by cs t ++ tables_in c.operands
named_here cs c t e = named_push cs c t ∙ ap (λ b. named_by cs t ++ cond b (tables_in c.operands) []) (test_is c.table t e)

named_there : (cs : List Ctor) (c : Ctor) (t : ℕ) → (c.table ≡ t → ⊥) → named_by (cs ++ c ∷ []) t ≡ named_by cs t
named_there cs c t e = named_push cs c t ∙ ap (λ b. named_by cs t ++ cond b (tables_in c.operands) []) (test_not c.table t e) ∙ append-nil (named_by cs t)

pub put_ctor : (old : List (Vec ℕ Global)) (c : Ctor) (kept new : Vec ℕ Global) → c.table < length old → kept ≡ get_or old c.table kept → new.items ≡ kept.items ++ tables_in c.operands
    → (count : ℕ) (cs : List Ctor) → IsGraphOf count cs old → IsGraphOf count (cs ++ c ∷ []) (set old c.table new)
put_ctor old c kept new below is pushed count cs are = record {
  counted = length-set old c.table new ∙ are.counted;
  each = λ t l e. elim (cases_eq t c.table) [
    | inl at ↦
        let there : Some new ≡ Some l = sym (get_set_same old c.table new below) ∙ ap (slice_get (set old c.table new)) (sym at) ∙ e in
        let items : new.items ≡ named_by (cs ++ c ∷ []) t =
        pushed ∙ ap (λ (xs : List ℕ). xs ++ tables_in c.operands) (are.each c.table kept (slice_get_read old (length old) c.table kept refl below is))
        ∙ ap (λ u. named_by cs u ++ tables_in c.operands) (sym at) ∙ sym (named_here cs c t (sym at)) in
        subst (λ (x : Vec ℕ Global). x.items ≡ named_by (cs ++ c ∷ []) t) (same_Some new l there) items
    | inr other ↦ are.each t l (sym (get_set_other old c.table t new other) ∙ e) ∙ sym (named_there cs c t (λ x. other (sym x)))
  ];
}

pub put_none : (old : List (Vec ℕ Global)) (c : Ctor) → length old ≤ c.table → (count : ℕ) (cs : List Ctor) → IsGraphOf count cs old → IsGraphOf count (cs ++ c ∷ []) old
put_none old c past count cs are = record {
  counted = are.counted;
  each = λ t l e. are.each t l e ∙ sym (named_there cs c t (λ x. let within = slice_get_within old t l e in omega arith));
}

pub graph_more : (count i : ℕ) (ctors : List Ctor) (c : Ctor) (lists : List (Vec ℕ Global)) → i < length ctors → c ≡ get_or ctors i c
    → IsGraphOf count (take i ctors ++ c ∷ []) lists → IsGraphOf count (take (i + 1) ctors) lists
graph_more count i ctors c lists below is are =
    subst (λ (l : List Ctor). IsGraphOf count l lists) (ap (λ x. take i ctors ++ x ∷ []) is ∙ sym (take_more ctors i c below)) are

graph_from : (ctors : List Ctor) (k : ℕ) (lists : List (Vec ℕ Global)) → ((t : ℕ) (l : Vec ℕ Global) → slice_get lists t ≡ Some l → l.items ≡ named_by ctors (k + t))
    → graph_of lists ≡ map (named_by ctors) (range_with_len k (length lists))
graph_from ctors k [] each = refl
graph_from ctors k (l ∷ lists) each =
    let here : l.items ≡ named_by ctors k = each 0 l refl ∙ ap (named_by ctors) (omega arith) in
    let rest = graph_from ctors (k + 1) lists (λ t m e. each (suc t) m e ∙ ap (named_by ctors) (omega arith)) in
    λ i. here i ∷ rest i

pub graph_is : (count i : ℕ) (ctors : List Ctor) (lists : List (Vec ℕ Global)) → length ctors ≤ i → IsGraphOf count (take i ctors) lists → graph_of lists ≡ graph count ctors
graph_is count i ctors lists end are =
    let all = subst (λ (l : List Ctor). IsGraphOf count l lists) (take_all i ctors end) are in
    graph_from ctors 0 lists (λ t l e. all.each t l e ∙ ap (named_by ctors) (omega arith))
    ∙ ap (λ n. map (named_by ctors) (range_with_len 0 n)) all.counted

-- ---- tables that come

pub appearing_more : (count i : ℕ) (ctors : List Ctor) (c : Ctor) → i < length ctors → c ≡ get_or ctors i c
    → met count (fold (met count) [] (map (λ (x : Ctor). x.table) (take i ctors))) c.table ≡ fold (met count) [] (map (λ (x : Ctor). x.table) (take (i + 1) ctors))
appearing_more count i ctors c below is =
    sym (ap (λ l. fold (met count) [] (map (λ (x : Ctor). x.table) l)) (take_more ctors i c below ∙ ap (λ x. take i ctors ++ x ∷ []) (sym is))
    ∙ ap (fold (met count) []) (map_push (λ (x : Ctor). x.table) (take i ctors) c)
    ∙ fold-append (met count) [] (map (λ (x : Ctor). x.table) (take i ctors)) (c.table ∷ []))
