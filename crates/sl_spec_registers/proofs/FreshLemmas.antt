-- Names that are new differ from those of each list.
use Rattle.std.proofs.Common.{◌≡◌, ℕ, ◌+◌, ◌<◌, ◌≤◌, Bool, true, false, ◌&&◌, ◌||◌, List, [], ◌∷◌, ◌++◌, map, length, get_or, drop, refl, sym, ap, ◌∙◌, append_assoc, append-nil}
use Rattle.std.specs.Prelude.{not}
use Rattle.std.specs.List.{list_all}
use Rattle.std.specs.Str.{bytes_eq}
use Rattle.std.proofs.lemmas.List.{map_push, drop_more}
use Rattle.std.proofs.Math.ListN.{drop_of_length-le}
use Rattle.sl_spec_rules.proofs.ListLemmas.{any_map}
use Rattle.sl_spec_rules.specs.Names.{Name, are_distinct, differ_behind, is_among}
use Rattle.sl_spec.specs.Named.{has_name}
use Rattle.sl_spec.specs.declared.tables.Tables.{Tables}
use Rattle.sl_spec_registers.proofs.BoolLemmas.{and_parts, not_true, or_false}
use Rattle.sl_spec_registers.specs.Free.{AreFree}
use Rattle.sl_spec_registers.specs.NewNames.{are_new, is_defined, is_new, reserved_words}

among-append : (xs ys : List Name) (n : Name) → is_among xs n ≡ false → is_among (xs ++ ys) n ≡ is_among ys n
among-append [] ys n h = refl
among-append (x ∷ xs) ys n h =
    let p = or_false (bytes_eq n x) (is_among xs n) h in
    ap (λ b. b || is_among (xs ++ ys) n) p.0 ∙ among-append xs ys n p.1

-- names that are in none of these, and differ behind the others, differ behind both
differ_more : (xs ys names : List Name) → list_all (λ n. not (is_among xs n)) names ≡ true → differ_behind ys names ≡ true → differ_behind (xs ++ ys) names ≡ true
differ_more xs ys [] none differ = refl
differ_more xs ys (n ∷ names) none differ =
    let p = and_parts (not (is_among xs n)) (list_all (λ m. not (is_among xs m)) names) none in
    let q = and_parts (not (is_among ys n)) (differ_behind (ys ++ n ∷ []) names) differ in
    let rest : differ_behind (xs ++ (ys ++ n ∷ [])) names ≡ true = differ_more xs (ys ++ n ∷ []) names p.1 q.1 in
    let same : not (is_among (xs ++ ys) n) ≡ true = ap not (among-append xs ys n (not_true (is_among xs n) p.0)) ∙ q.0 in
    ap (λ b. b && differ_behind ((xs ++ ys) ++ n ∷ []) names) same
    ∙ ap (λ (l : List Name). differ_behind l names) (append_assoc xs ys (n ∷ [])) ∙ rest

-- of a list of the tables: a name that is new is in none of its names
module _ {X : Type 0} (name_of : X → Name) (xs : List X) where
  none_among : (t : Tables) (names : List Name) → ((n : Name) → is_defined t n ≡ false → has_name name_of n xs ≡ false)
      → list_all (is_new t) names ≡ true → list_all (λ n. not (is_among (map name_of xs) n)) names ≡ true
  none_among t [] within new = refl
  none_among t (n ∷ names) within new =
      let p = and_parts (is_new t n) (list_all (is_new t) names) new in
      let q = and_parts (not (is_among reserved_words n)) (not (is_defined t n)) p.0 in
      let here : not (is_among (map name_of xs) n) ≡ true =
      ap not (any_map (λ m. bytes_eq n m) name_of xs ∙ within n (not_true (is_defined t n) q.1)) in
      ap (λ b. b && list_all (λ m. not (is_among (map name_of xs) m)) names) here ∙ none_among t names within p.1

  free_of : (t : Tables) (names : List Name) → ((n : Name) → is_defined t n ≡ false → has_name name_of n xs ≡ false)
      → are_new t names ≡ true → differ_behind (map name_of xs) names ≡ true
  unfolding are_new
  free_of t names within new =
      let p = and_parts (list_all (is_new t) names) (are_distinct names) new in
      let both = differ_more (map name_of xs) [] names (none_among t names within p.0) p.1 in
      ap (λ (l : List Name). differ_behind l names) (sym (append-nil (map name_of xs))) ∙ both

module _ (t : Tables) (n : Name) where
  abbrev macro_or : Bool
  macro_or = has_name (λ m. m.name) n t.macros || has_name (λ b. b.name) n t.tables

  abbrev field_or : Bool
  field_or = has_name (λ f. f.name) n t.fields || macro_or

  abbrev token_or : Bool
  token_or = has_name (λ k. k.name) n t.tokens || field_or

  abbrev userop_or : Bool
  userop_or = has_name (λ u. u.name) n t.userops || token_or

  abbrev bitrange_or : Bool
  bitrange_or = has_name (λ r. r.name) n t.bitranges || userop_or

  abbrev register_or : Bool
  register_or = has_name (λ r. r.name) n t.registers || bitrange_or

  module _ (h : is_defined t n ≡ false) where
    no_register : register_or ≡ false
    no_register = (or_false (has_name (λ s. s.name) n t.spaces) register_or h).1

    pub register_free : has_name (λ r. r.name) n t.registers ≡ false
    register_free = (or_false (has_name (λ r. r.name) n t.registers) bitrange_or no_register).0

    no_bitrange : bitrange_or ≡ false
    no_bitrange = (or_false (has_name (λ r. r.name) n t.registers) bitrange_or no_register).1

    pub bitrange_free : has_name (λ r. r.name) n t.bitranges ≡ false
    bitrange_free = (or_false (has_name (λ r. r.name) n t.bitranges) userop_or no_bitrange).0

    no_userop : userop_or ≡ false
    no_userop = (or_false (has_name (λ r. r.name) n t.bitranges) userop_or no_bitrange).1

    pub userop_free : has_name (λ u. u.name) n t.userops ≡ false
    userop_free = (or_false (has_name (λ u. u.name) n t.userops) token_or no_userop).0

    no_token : token_or ≡ false
    no_token = (or_false (has_name (λ u. u.name) n t.userops) token_or no_userop).1

    pub token_free : has_name (λ k. k.name) n t.tokens ≡ false
    token_free = (or_false (has_name (λ k. k.name) n t.tokens) field_or no_token).0

    no_field : field_or ≡ false
    no_field = (or_false (has_name (λ k. k.name) n t.tokens) field_or no_token).1

    pub field_free : has_name (λ f. f.name) n t.fields ≡ false
    field_free = (or_false (has_name (λ f. f.name) n t.fields) macro_or no_field).0

pub are_free : (t : Tables) (names : List Name) → are_new t names ≡ true → AreFree names t
are_free t names new = record {
  registers = free_of (λ r. r.name) t.registers t names (register_free t) new;
  bitranges = free_of (λ r. r.name) t.bitranges t names (bitrange_free t) new;
  userops = free_of (λ u. u.name) t.userops t names (userop_free t) new;
  fields = free_of (λ f. f.name) t.fields t names (field_free t) new;
}

-- ---- the first name of an item, and the others

pub differ_less : (x : Name) (xs names : List Name) → differ_behind (x ∷ xs) names ≡ true → differ_behind xs names ≡ true
differ_less x xs [] h = refl
differ_less x xs (n ∷ names) h =
    let p = and_parts (not (bytes_eq n x || is_among xs n)) (differ_behind (x ∷ xs ++ n ∷ []) names) h in
    let here : not (is_among xs n) ≡ true = ap not ((or_false (bytes_eq n x) (is_among xs n) (not_true (bytes_eq n x || is_among xs n) p.0)).1) in
    ap (λ b. b && differ_behind (xs ++ n ∷ []) names) here ∙ differ_less x (xs ++ n ∷ []) names p.1

module _ (t : Tables) (n : Name) (names : List Name) (new : are_new t (n ∷ names) ≡ true) where
  pub others_are_new : are_new t names ≡ true
  unfolding are_new
  others_are_new =
      let p = and_parts (list_all (is_new t) (n ∷ names)) (are_distinct (n ∷ names)) new in
      let q = and_parts (is_new t n) (list_all (is_new t) names) p.0 in
      ap (λ b. b && are_distinct names) q.1 ∙ differ_less n [] names p.1

  pub first_is_no_token : has_name (λ k. k.name) n t.tokens ≡ false
  unfolding are_new
  first_is_no_token =
      let p = and_parts (list_all (is_new t) (n ∷ names)) (are_distinct (n ∷ names)) new in
      let q = and_parts (is_new t n) (list_all (is_new t) names) p.0 in
      token_free t n (not_true (is_defined t n) (and_parts (not (is_among reserved_words n)) (not (is_defined t n)) q.0).1)

-- ---- a loop that adds things with such names

-- the first of the names that are left, and those behind it
module _ {X : Type 0} (name_of : X → Name) (now : List X) (name : Name) (rest whole : List Name) (is : whole ≡ name ∷ rest) (left : differ_behind (map name_of now) whole ≡ true) where
  left_parts : (not (is_among (map name_of now) name) ≡ true) × (differ_behind (map name_of now ++ name ∷ []) rest ≡ true)
  left_parts = and_parts (not (is_among (map name_of now) name)) (differ_behind (map name_of now ++ name ∷ []) rest) (ap (differ_behind (map name_of now)) (sym is) ∙ left)

  pub first_is_free : has_name name_of name now ≡ false
  first_is_free = sym (any_map (λ m. bytes_eq name m) name_of now) ∙ not_true (is_among (map name_of now) name) left_parts.0

  pub rest_is_left : (x : X) → name_of x ≡ name → differ_behind (map name_of (now ++ x ∷ [])) rest ≡ true
  rest_is_left x named =
      ap (λ (l : List Name). differ_behind l rest) (map_push name_of now x ∙ ap (λ (n : Name). map name_of now ++ n ∷ []) named) ∙ left_parts.1

pub rest_at : {A : Type 0} (given : List A) (i : ℕ) (x : A) → i < length given → x ≡ get_or given i x → drop i given ≡ x ∷ drop (i + 1) given
rest_at given i x below at = drop_more given i x below ∙ ap (λ y. y ∷ drop (i + 1) given) (sym at)

module _ {A X : Type 0} (make : A → X) (start : List X) (given : List A) where
  -- what is there, and what is made of those that are left, is all
  abbrev pub AreMade : List X → ℕ → Type 0
  AreMade now i = now ++ map make (drop i given) ≡ start ++ map make given

  pub made_goes : (now : List X) (i : ℕ) (x : A) → i < length given → x ≡ get_or given i x → AreMade now i → AreMade (now ++ make x ∷ []) (i + 1)
  made_goes now i x below at so_far =
      let rest = rest_at given i x below at in
      append_assoc now (make x ∷ []) (map make (drop (i + 1) given)) ∙ ap (λ (l : List A). now ++ map make l) (sym rest) ∙ so_far

  pub made_ends : (now : List X) (i : ℕ) → length given ≤ i → AreMade now i → now ≡ start ++ map make given
  made_ends now i end so_far = sym (append-nil now) ∙ ap (λ (l : List A). now ++ map make l) (sym (drop_of_length-le given end)) ∙ so_far
