-- Fields to which nothing is attached yet, as a loop attaches to them.
use Rattle.std.proofs.Common.{◌≡◌, ℕ, ◌+◌, ◌<◌, ◌≤◌, ◌==◌, ◌&&◌, ◌||◌, Bool, true, false, List, [], ◌∷◌, ◌++◌, length, get_or, drop, Option, Some, None, refl, sym, ap, ◌∙◌}
use Rattle.std.specs.Prelude.{not, unwrap_or}
use Rattle.std.specs.List.{list_all}
use Rattle.std.specs.Str.{bytes_eq}
use Rattle.std.proofs.Math.ListN.{drop_of_length-le}
use Rattle.std.proofs.lemmas.Bool.{and_from, eqb-true}
use Rattle.std.proofs.lemmas.List.Folds.{list_any-append}
use Rattle.std.proofs.lemmas.List.Quantifiers.{position-Some}
use Rattle.std.proofs.lemmas.Slice.Eq.{bytes_eq-Decides}
use Rattle.sl_spec_rules.specs.Names.{Name, are_distinct, differ_behind, is_among}
use Rattle.sl_spec.specs.Attachments.{is_attached}
use Rattle.sl_spec.specs.Named.{index_named, is_named}
use Rattle.sl_spec.specs.Tables.{Attached, Field}
use Rattle.sl_spec_registers.proofs.BoolLemmas.{and_parts, not_true, or_false}
use Rattle.sl_spec_registers.proofs.FreshLemmas.{differ_less, rest_at}
use Rattle.sl_spec_definitions.specs.AttachRules.{are_open, is_open}

-- ---- a test of all members, as a loop makes it

module _ {X : Type 0} (p : X → Bool) (xs : List X) where
  -- what is left of them tells of all
  abbrev pub IsLeft : ℕ → Type 0
  IsLeft i = list_all p (drop i xs) ≡ list_all p xs

  at_index : (i : ℕ) (x : X) → i < length xs → x ≡ get_or xs i x → list_all p (drop i xs) ≡ (p x && list_all p (drop (i + 1) xs))
  at_index i x below at = ap (list_all p) (rest_at xs i x below at)

  pub all_goes : (i : ℕ) (x : X) → i < length xs → x ≡ get_or xs i x → p x ≡ true → IsLeft i → IsLeft (i + 1)
  all_goes i x below at holds so_far = sym (ap (λ b. b && list_all p (drop (i + 1) xs)) holds) ∙ sym (at_index i x below at) ∙ so_far

  pub all_stops : (i : ℕ) (x : X) → i < length xs → x ≡ get_or xs i x → p x ≡ false → IsLeft i → false ≡ list_all p xs
  all_stops i x below at fails so_far = sym (ap (λ b. b && list_all p (drop (i + 1) xs)) fails) ∙ sym (at_index i x below at) ∙ so_far

  pub all_ends : (i : ℕ) → length xs ≤ i → IsLeft i → true ≡ list_all p xs
  all_ends i end so_far = sym (ap (list_all p) (drop_of_length-le xs end)) ∙ so_far

-- ---- fields by their names

same_bytes : (m n : Name) → bytes_eq m n ≡ true → m ≡ n
same_bytes m n h = (bytes_eq-Decides m n).0 h

module _ (fields : List Field) where
  abbrev pub index_of : Name → Option ℕ
  index_of name = index_named (λ f. f.name) name fields

  abbrev some_field : Field
  some_field = record { name = []; token = None; low = 0; high = 0; signed = false; dec = false; noflow = false }

  same_name : (m n : Name) (i : ℕ) → index_of m ≡ Some i → index_of n ≡ Some i → m ≡ n
  same_name m n i im in' =
      let a = (position-Some (is_named (λ f. f.name) m) fields i some_field im).1 in
      let b = (position-Some (is_named (λ f. f.name) n) fields i some_field in').1 in
      let name = (get_or fields i some_field).name in
      same_bytes m name a ∙ sym (same_bytes n name b)

  open_is_free : (attached : List Attached) (o : Option ℕ) → is_open attached o ≡ true → is_attached (unwrap_or o 0) attached ≡ false
  open_is_free attached None h = absurd (cc)
  open_is_free attached (Some i) h = not_true (is_attached i attached) h

  -- the first of the names that are left
  pub first_is_free : (attached : List Attached) (n : Name) (rest : List Name) → are_open fields attached (n ∷ rest) ≡ true → is_attached (unwrap_or (index_of n) 0) attached ≡ false
  first_is_free attached n rest h =
      let p = and_parts (list_all (λ m. is_open attached (index_of m)) (n ∷ rest)) (are_distinct (n ∷ rest)) h in
      open_is_free attached (index_of n) (and_parts (is_open attached (index_of n)) (list_all (λ m. is_open attached (index_of m)) rest) p.0).0

  -- ---- something is attached to the field of a name, and the fields of other names stay free

  module _ (attached : List Attached) (a : Attached) (n : Name) (field : a.field ≡ unwrap_or (index_of n) 0) (open_n : is_open attached (index_of n) ≡ true) where
    differs : (m : Name) (j i : ℕ) (b : Bool) → index_of m ≡ Some j → index_of n ≡ Some i → a.field ≡ i → bytes_eq m n ≡ false → (j == a.field) ≡ b → b ≡ false
    differs m j i false im in' is other e = refl
    differs m j i true im in' is other e =
        let same : j ≡ i = eqb-true j a.field e ∙ is in
        let names : m ≡ n = same_name m n i (im ∙ ap Some same) in' in
        let equal : bytes_eq m n ≡ true = (bytes_eq-Decides m n).1 names in
        absurd (cc)

    stays_by : (m : Name) (om on : Option ℕ) → index_of m ≡ om → index_of n ≡ on → is_open attached om ≡ true → is_open attached on ≡ true → a.field ≡ unwrap_or on 0
        → bytes_eq m n ≡ false → is_open (attached ++ a ∷ []) om ≡ true
    stays_by m None on im in' hm hn is other = absurd (cc)
    stays_by m (Some j) None im in' hm hn is other = absurd (cc)
    stays_by m (Some j) (Some i) im in' hm hn is other =
        let both : is_attached j (attached ++ a ∷ []) ≡ (is_attached j attached || ((j == a.field) || false)) = list_any-append (λ x. j == x.field) attached (a ∷ []) in
        let none : (is_attached j attached || ((j == a.field) || false)) ≡ false =
        ap (λ b. b || ((j == a.field) || false)) (not_true (is_attached j attached) hm) ∙ ap (λ b. b || false) (differs m j i (j == a.field) im in' is other refl) in
        ap not (both ∙ none)

    stays : (m : Name) → is_open attached (index_of m) ≡ true → bytes_eq m n ≡ false → is_open (attached ++ a ∷ []) (index_of m) ≡ true
    stays m hm other = stays_by m (index_of m) (index_of n) refl refl hm open_n field other

    all_stay : (xs names : List Name) → differ_behind (n ∷ xs) names ≡ true → list_all (λ m. is_open attached (index_of m)) names ≡ true
        → list_all (λ m. is_open (attached ++ a ∷ []) (index_of m)) names ≡ true
    all_stay xs [] differ all = refl
    all_stay xs (m ∷ names) differ all =
        let p = and_parts (not (is_among (n ∷ xs) m)) (differ_behind (n ∷ xs ++ m ∷ []) names) differ in
        let q = and_parts (is_open attached (index_of m)) (list_all (λ k. is_open attached (index_of k)) names) all in
        let other = (or_false (bytes_eq m n) (is_among xs m) (not_true (is_among (n ∷ xs) m) p.0)).0 in
        and_from (is_open (attached ++ a ∷ []) (index_of m)) (list_all (λ k. is_open (attached ++ a ∷ []) (index_of k)) names) (stays m q.0 other)
        (all_stay (xs ++ m ∷ []) names p.1 q.1)

  pub rest_is_left : (attached : List Attached) (a : Attached) (n : Name) (rest : List Name) → a.field ≡ unwrap_or (index_of n) 0 → are_open fields attached (n ∷ rest) ≡ true
      → are_open fields (attached ++ a ∷ []) rest ≡ true
  rest_is_left attached a n rest field h =
      let p = and_parts (list_all (λ m. is_open attached (index_of m)) (n ∷ rest)) (are_distinct (n ∷ rest)) h in
      let q = and_parts (is_open attached (index_of n)) (list_all (λ m. is_open attached (index_of m)) rest) p.0 in
      and_from (list_all (λ m. is_open (attached ++ a ∷ []) (index_of m)) rest) (are_distinct rest) (all_stay attached a n field q.0 [] rest p.1 q.1) (differ_less n [] rest p.1)
