-- Tables with one more constructor, by name and by index.
use Rattle.std.proofs.Common.{◌≡◌, ◌<◌, ◌+◌, ℕ, zero, suc, Bool, true, false, cond, ◌||◌, List, [], ◌∷◌, ◌++◌, length, Some, None, Result, Ok, Err, OnOk, refl, sym, ap, ◌∙◌, arith}
use Rattle.std.specs.Prelude.{if◌then◌else◌, not, nat_lt, get_or}
use Rattle.std.specs.List.{position_or_len}
use Rattle.std.specs.Str.{bytes_eq}
use Rattle.std.proofs.lemmas.List.Quantifiers.{position-Some}
use Rattle.sl_spec.specs.Begun.{with_constructor, with_number, with_number_at}
use Rattle.sl_spec.specs.Named.{has_name, index_named}
use Rattle.sl_spec.specs.Tables.{Name, Table}

pub on_ok : {X E : Type 0} {A B : Type 0} (r : Result X E) → (A → B) → OnOk r A → OnOk r B
on_ok (Ok x) f h = f h
on_ok (Err e) f h = h

-- ---- by name and by index

module _ (name : Name) (n : ℕ) where
  new_by : (b : Table) (bs : List Table) (same : Bool) → (same || has_name (λ b. b.name) name bs) ≡ false → with_constructor bs name n ≡ bs ++ record { name = name; constructors = n ∷ [] } ∷ []
      → (if same then with_number b n ∷ bs else b ∷ with_constructor bs name n) ≡ b ∷ (bs ++ record { name = name; constructors = n ∷ [] } ∷ [])
  new_by b bs true h rest = absurd (cc)
  new_by b bs false h rest = ap (λ xs. b ∷ xs) rest

  right : (same other : Bool) → (same || other) ≡ false → other ≡ false
  right true other h = absurd (cc)
  right false other h = h

  pub new_last : (bs : List Table) → has_name (λ b. b.name) name bs ≡ false → with_constructor bs name n ≡ bs ++ record { name = name; constructors = n ∷ [] } ∷ []
  new_last [] none = refl
  new_last (b ∷ bs) none = new_by b bs (bytes_eq name b.name) none (new_last bs (right (bytes_eq name b.name) (has_name (λ b. b.name) name bs) none))

  by_index : (bs : List Table) (i : ℕ) (d : Table) → i < length bs → bytes_eq name (get_or bs i d).name ≡ true → ((k : ℕ) → k < i → bytes_eq name (get_or bs k d).name ≡ false)
      → with_constructor bs name n ≡ with_number_at bs i n
  by_index [] i d below here before = absurd (omega arith)
  by_index (b ∷ bs) zero d below here before = ap (λ s. if s then with_number b n ∷ bs else b ∷ with_constructor bs name n) here
  by_index (b ∷ bs) (suc i) d below here before =
      ap (λ s. if s then with_number b n ∷ bs else b ∷ with_constructor bs name n) (before 0 (omega arith))
      ∙ ap (λ xs. b ∷ xs) (by_index bs i d (omega arith) here (λ k h. before (suc k) (omega (arith, h))))

  -- the table is there
  pub at_index : (bs : List Table) (i : ℕ) → index_named (λ b. b.name) name bs ≡ Some i → with_constructor bs name n ≡ with_number_at bs i n
  at_index [] i is = absurd (cc)
  at_index (b ∷ bs) i is =
      let p = position-Some (λ (b : Table). bytes_eq name b.name) (b ∷ bs) i b is in
      by_index (b ∷ bs) i b p.0 p.1 p.2

  apart : (k : ℕ) → Some k ≡ None → ⊥
  apart k h = cc

  less_by : (k m : ℕ) (b : Bool) → nat_lt k m ≡ b → cond (nat_lt (1 + k) (suc m)) (Some (1 + k)) None ≡ None → cond b (Some k) None ≡ None
  less_by k m true is h =
      let more : nat_lt (1 + k) (suc m) ≡ true = grind (arith, is) in
      absurd (apart (1 + k) (sym (ap (λ b. cond b (Some (1 + k)) None) more) ∙ h))
  less_by k m false is h = refl

  none_by : (b : Table) (bs : List Table) (same : Bool) → cond (nat_lt (cond (not same) (1 + position_or_len (λ b. bytes_eq name b.name) bs) 0) (suc (length bs)))
      (Some (cond (not same) (1 + position_or_len (λ b. bytes_eq name b.name) bs) 0)) None ≡ None
      → (index_named (λ b. b.name) name bs ≡ None → has_name (λ b. b.name) name bs ≡ false) → (same || has_name (λ b. b.name) name bs) ≡ false
  none_by b bs true h rest =
      let more : nat_lt 0 (suc (length bs)) ≡ true = grind arith in
      absurd (apart 0 (sym (ap (λ b. cond b (Some 0) None) more) ∙ h))
  none_by b bs false h rest = rest (less_by (position_or_len (λ b. bytes_eq name b.name) bs) (length bs) _ refl h)

  -- no table has the name
  pub none_named : (bs : List Table) → index_named (λ b. b.name) name bs ≡ None → has_name (λ b. b.name) name bs ≡ false
  none_named [] is = refl
  none_named (b ∷ bs) is = none_by b bs (bytes_eq name b.name) is (none_named bs)
