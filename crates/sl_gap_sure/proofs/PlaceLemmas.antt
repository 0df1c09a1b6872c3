-- A table operand that stands alone in its pattern is within the bytes of the pattern.
use Rattle.std.proofs.Common.{◌≡◌, ℕ, zero, suc, ◌+◌, ◌≤◌, ◌⊎◌, inl, inr, Bool, true, false, List, [], ◌∷◌, ◌++◌}
use Rattle.std.proofs.Common.{Option, Some, None, refl, sym, ap, ◌∙◌, arith}
use Rattle.std.specs.Prelude.{if◌then◌else◌}
use Rattle.std.specs.List.{Contains}
use Rattle.std.specs.Str.{bytes_eq}
use Rattle.std.proofs.lemmas.Bool.{false≢true}
use Rattle.std.proofs.lemmas.Option.{same_Some}
use Rattle.std.proofs.lemmas.Slice.Eq.{bytes_eq-Decides}
use Rattle.sl_ast.specs.Trees.{Pattern, bare, constraint, group, ellipsis, joined}
use Rattle.sl_ast.specs.declared.patterns.PatternOp.{PatternOp}
use Rattle.sl_ast.specs.declared.patterns.PatternOp.TheVariants.{And, Then, Or}
use Rattle.sl_decode_lengths.proofs.BoundLemmas.{Between}
use Rattle.sl_decode_lengths.proofs.PatternLemmas.{OperandsFit, pattern_fits}
use Rattle.sl_decode_lengths.specs.Naming.{Agrees, EachName}
use Rattle.sl_decode_meaning.specs.Places.{Leaf, bare_place, leaf, leaves, length_at, length_in, length_of, or_start}
use Rattle.sl_decode_meaning.specs.Places.{place_beside, slot_from}
use Rattle.sl_spec.specs.Named.{named}
use Rattle.sl_spec.specs.Tables.{Name, Operand}
use Rattle.sl_spec.specs.declared.constructors.Means.TheVariants as means
use Rattle.sl_spec.specs.declared.tables.Tables.{Tables}
use Rattle.sl_spec_actions.specs.Parts.{Part, holds_table, is_behind, is_in_choice, parts}
use Rattle.sl_spec_tables.specs.Lengths.{joined_bytes, means_bytes, operand_bytes, pattern_bytes}

-- ---- where a name stands alone

abbrev here_or : Bool → ℕ → Option ℕ → Option ℕ
here_or same at later = if same then Some at else later

here_parts : (same : Bool) (at k : ℕ) (later : Option ℕ) → here_or same at later ≡ Some k → ((same ≡ true) × (at ≡ k)) ⊎ (later ≡ Some k)
here_parts true at k later is = inl (refl, same_Some at k is)
here_parts false at k later is = inr is

here_none : (same : Bool) (at : ℕ) (later : Option ℕ) → here_or same at later ≡ None → (same ≡ false) × (later ≡ None)
here_none true at later is = absurd (let no : ⊥ = cc in no)
here_none false at later is = (refl, is)

module _ (w : Name) where
  place_in : (xs ys : List Leaf) (k : ℕ) → bare_place w (xs ++ ys) ≡ Some k → (bare_place w xs ≡ Some k) ⊎ (bare_place w ys ≡ Some k)
  place_in [] ys k is = inr is
  place_in (leaf other false at ∷ xs) ys k is = place_in xs ys k is
  place_in (leaf other true at ∷ xs) ys k is = by (bytes_eq other w) is (place_in xs ys k)
    where
      by : (same : Bool) → here_or same at (bare_place w (xs ++ ys)) ≡ Some k
          → (bare_place w (xs ++ ys) ≡ Some k → (bare_place w xs ≡ Some k) ⊎ (bare_place w ys ≡ Some k))
          → (here_or same at (bare_place w xs) ≡ Some k) ⊎ (bare_place w ys ≡ Some k)
      by true is rest = inl is
      by false is rest = rest is

  none_in : (xs ys : List Leaf) → bare_place w (xs ++ ys) ≡ None → (bare_place w xs ≡ None) × (bare_place w ys ≡ None)
  none_in [] ys is = (refl, is)
  none_in (leaf other false at ∷ xs) ys is = none_in xs ys is
  none_in (leaf other true at ∷ xs) ys is = by (bytes_eq other w) is (none_in xs ys)
    where
      by : (same : Bool) → here_or same at (bare_place w (xs ++ ys)) ≡ None
          → (bare_place w (xs ++ ys) ≡ None → (bare_place w xs ≡ None) × (bare_place w ys ≡ None))
          → (here_or same at (bare_place w xs) ≡ None) × (bare_place w ys ≡ None)
      by true is rest = absurd (let no : ⊥ = cc in no)
      by false is rest = rest is

-- ---- members of two lists

in_both : {X : Type 0} (xs ys : List X) (x : X) → Contains (xs ++ ys) x → Contains xs x ⊎ Contains ys x
in_both [] ys x c = inr c
in_both (y ∷ xs) ys x (zero, below, here) = inl (0, omega arith, here)
in_both (y ∷ xs) ys x (suc k, below, here) = elim (in_both xs ys x (k, omega (arith, below), here)) [
  | inl c ↦ inl (suc c.0, omega (arith, c.1), c.2)
  | inr c ↦ inr c
]

only_one : {X : Type 0} (y x : X) → Contains (y ∷ []) x → y ≡ x
only_one y x (zero, below, here) = here
only_one y x (suc k, below, here) = absurd (omega (arith, below))

module _ (t : Tables) (os : List Operand) (l : Name → ℕ) where
  -- a part that stands alone has a place
  placed_there : (is_table : Name → Bool) (in_choice behind : Bool) (p : Pattern) (q : Part)
      → Contains (parts is_table in_choice behind p) q → q.bare ≡ true
      → (at : ℕ) → bare_place q.name (leaves t os l at p) ≡ None → ⊥
  unfolding leaves parts
  placed_there is_table in_choice behind (bare name) q c alone at none =
      let same : name ≡ q.name = ap (λ (r : Part). r.name) (only_one (record { name = name; bare = true; in_choice = in_choice; behind_table = behind }) q c) in
      let h = here_none (bytes_eq name q.name) at None none in
      false≢true (sym h.0 ∙ (bytes_eq-Decides name q.name).1 same)
  placed_there is_table in_choice behind (constraint name relation e) q c alone at none =
      let other : false ≡ q.bare = ap (λ (r : Part). r.bare) (only_one (record { name = name; bare = false; in_choice = in_choice; behind_table = behind }) q c) in
      false≢true (other ∙ alone)
  placed_there is_table in_choice behind (group p) q c alone at none = placed_there is_table in_choice behind p q c alone at none
  placed_there is_table in_choice behind (ellipsis p) q c alone at none = placed_there is_table in_choice behind p q c alone at none
  placed_there is_table in_choice behind (joined op p r) q c alone at none =
      let later = is_behind op behind (holds_table is_table p) in
      let left = parts is_table (is_in_choice op in_choice) behind p in
      let right = parts is_table (is_in_choice op in_choice) later r in
      let inside = place_beside op at (length_in t os l p) in
      let h = none_in q.name (leaves t os l at p) (leaves t os l inside r) none in
      elim (in_both left right q c) [
        | inl d ↦ placed_there is_table (is_in_choice op in_choice) behind p q d alone at h.0
        | inr d ↦ placed_there is_table (is_in_choice op in_choice) later r q d alone inside h.1
      ]

  -- ---- within the bytes

  module _ (f g : ℕ → ℕ) (fit : OperandsFit os f g l) (w : Name) (o : Operand) (id : ℕ)
      (meant : named (λ o. o.name) w os ≡ Some o) (is : o.means ≡ means.Table id) where
    beside_fits : (op : PatternOp) (at k own m n b : ℕ) → m ≤ n → (k + own ≤ at + n) ⊎ (k + own ≤ place_beside op at m + b)
        → k + own ≤ at + joined_bytes op n b
    beside_fits And at k own m n b less (inl h) = omega (arith, h)
    beside_fits And at k own m n b less (inr h) = omega (arith, h)
    beside_fits Then at k own m n b less (inl h) = omega (arith, h)
    beside_fits Then at k own m n b less (inr h) = omega (arith, h)
    beside_fits Or at k own m n b less (inl h) = omega (arith, h)
    beside_fits Or at k own m n b less (inr h) = omega (arith, h)

    place_fits : (p : Pattern) → EachName (Agrees t os) p → (at k : ℕ) → bare_place w (leaves t os l at p) ≡ Some k
        → k + g id ≤ at + pattern_bytes t g os p
    unfolding leaves pattern_bytes
    place_fits (bare name) agree at k found = elim (here_parts (bytes_eq name w) at k None found) [
      | inl h ↦
          let same : name ≡ w = (bytes_eq-Decides name w).0 h.0 in
          let bytes : operand_bytes t g (named (λ o. o.name) name os) ≡ g id =
          ap (λ (n : Name). operand_bytes t g (named (λ o. o.name) n os)) same ∙ ap (operand_bytes t g) meant ∙ ap (means_bytes t g) is in
          omega (arith, h.1, bytes)
      | inr none ↦ absurd (let no : ⊥ = cc in no)
    ]
    place_fits (constraint name relation e) agree at k found = absurd (let no : ⊥ = cc in no)
    place_fits (group p) agree at k found = place_fits p agree at k found
    place_fits (ellipsis p) agree at k found = place_fits p agree at k found
    place_fits (joined op p q) agree at k found =
        let inside = place_beside op at (length_in t os l p) in
        beside_fits op at k (g id) (length_in t os l p) (pattern_bytes t g os p) (pattern_bytes t g os q)
        (pattern_fits t os f g l fit p agree.0).1
        (elim (place_in w (leaves t os l at p) (leaves t os l inside q) k found) [
          | inl h ↦ inl (place_fits p agree.0 at k h)
          | inr h ↦ inr (place_fits q agree.1 inside k h)
        ])

-- ---- where no length is known yet

none_at : (n : ℕ) (found : Option ℕ) → Between 0 (length_at [] found) n
none_at n None = (omega arith, omega arith)
none_at n (Some zero) = (omega arith, omega arith)
none_at n (Some (suc k)) = (omega arith, omega arith)

none_fit : (os : List Operand) (g : ℕ → ℕ) → OperandsFit os (λ id. 0) g (length_of os [])
none_fit os g name o id meant is = none_at (g id) (slot_from 0 os name)

-- The name stands alone in the pattern.
abbrev pub HasAlone : (Name → Bool) → Pattern → Name → Type 0
HasAlone is_table p name = (q : Part) × Contains (parts is_table false false p) q × (q.bare ≡ true) × (q.name ≡ name)

-- a table operand ends within the bytes of its pattern, wherever it stands
pub operand_inside : (t : Tables) (os : List Operand) (p : Pattern) (g : ℕ → ℕ) (is_table : Name → Bool) (o : Operand) (id : ℕ)
    → EachName (Agrees t os) p → named (λ o. o.name) o.name os ≡ Some o → HasAlone is_table p o.name → o.means ≡ means.Table id
    → or_start (bare_place o.name (leaves t os (length_of os []) 0 p)) + g id ≤ pattern_bytes t g os p
operand_inside t os p g is_table o id agree meant alone is = by (bare_place o.name (leaves t os (length_of os []) 0 p)) refl
  where
    by : (found : Option ℕ) → bare_place o.name (leaves t os (length_of os []) 0 p) ≡ found → or_start found + g id ≤ pattern_bytes t g os p
    by None none = absurd (placed_there t os (length_of os []) is_table false false p alone.0 alone.1 alone.2 0
        (ap (λ (n : Name). bare_place n (leaves t os (length_of os []) 0 p)) alone.3 ∙ none))
    by (Some k) found =
        let e = place_fits t os (length_of os []) (λ (id : ℕ). 0) g (none_fit os g) o.name o id meant is p agree 0 k found in
        omega (arith, e)
