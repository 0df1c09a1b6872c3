-- The length of a pattern in a node is within the bounds of its bytes, where the lengths of its
-- operands are within those of their tables.
use Rattle.std.proofs.Common.{◌≡◌, ℕ, ◌+◌, Bool, true, false, cond, List, [], ◌∷◌, drop, Option, Some, None, refl, sym, ap, subst, ◌∙◌, arith}
use Rattle.std.specs.Prelude.{◌&&◌, if◌then◌else◌, option_and_then, slice_get}
use Rattle.std.specs.Str.{bytes_eq}
use Rattle.std.proofs.lemmas.Bool.{false≢true}
use Rattle.std.proofs.lemmas.Option.{same_Some}
use Rattle.std.proofs.lemmas.Slice.Eq.{bytes_eq-Decides}
use Rattle.sl_ast.specs.Trees.{Pattern, bare, constraint, group, ellipsis, joined}
use Rattle.sl_ast.specs.declared.patterns.PatternOp.{PatternOp}
use Rattle.sl_ast.specs.declared.patterns.PatternOp.TheVariants.{And, Then, Or}
use Rattle.sl_decode_meaning.specs.Kinds.{operand_kind}
use Rattle.sl_decode_meaning.specs.Meanings.{table_in}
use Rattle.sl_decode_meaning.specs.Places.{covers, length_at, length_in, length_of, means_table, next_slot, slot_from, table_operands}
use Rattle.sl_decode_meaning.specs.declared.kinds.Kind.{Kind}
use Rattle.sl_decode_lengths.proofs.BoundLemmas.{AreWithin, Between, at_index, itself, within_first}
use Rattle.sl_decode_lengths.specs.Naming.{Agrees, EachName, kind_of_field, kind_of_operand}
use Rattle.sl_spec.specs.Named.{index_named, is_named, named}
use Rattle.sl_spec.specs.Tables.{Name, Operand}
use Rattle.sl_spec.specs.declared.constructors.Means.{Means}
use Rattle.sl_spec.specs.declared.constructors.Means.TheVariants as means
use Rattle.sl_spec.specs.declared.tables.Tables.{Tables}
use Rattle.sl_spec_tables.specs.Lengths.{field_bytes, joined_bytes, means_bytes, operand_bytes, pattern_bytes}

-- The length of each operand that is a table is within the bounds of the table.
abbrev pub OperandsFit : List Operand → (ℕ → ℕ) → (ℕ → ℕ) → (Name → ℕ) → Type 0
OperandsFit os f g length = (name : Name) (o : Operand) (id : ℕ) → named (λ o. o.name) name os ≡ Some o
    → o.means ≡ means.Table id → Between (f id) (length name) (g id)

-- ---- the lengths of operands by name

swapped : (a b : List ℕ) → bytes_eq a b ≡ bytes_eq b a
swapped a b = by (bytes_eq a b) refl (bytes_eq b a) refl
  where
    by : (x : Bool) → bytes_eq a b ≡ x → (y : Bool) → bytes_eq b a ≡ y → x ≡ y
    by true is true js = refl
    by true is false js = absurd (false≢true (sym js ∙ (bytes_eq-Decides b a).1 (sym ((bytes_eq-Decides a b).0 is))))
    by false is true js = absurd (false≢true (sym is ∙ (bytes_eq-Decides a b).1 (sym ((bytes_eq-Decides b a).0 js))))
    by false is false js = refl

module _ (f g : ℕ → ℕ) (lengths : List ℕ) (name : Name) where
  -- those from a number on are the lengths of the tables among these operands
  abbrev From : List Operand → ℕ → Type 0
  From os k = AreWithin (λ (o : Operand). table_in o.means) f g (table_operands os) (drop k lengths)

  abbrev Fits : List Operand → ℕ → Type 0
  Fits os k = From os k → (o : Operand) (id : ℕ) → named (λ o. o.name) name os ≡ Some o → o.means ≡ means.Table id
      → Between (f id) (length_at lengths (slot_from k os name)) (g id)

  abbrev operand : Name → Means → Operand
  operand other m = record { name = other; means = m }

  fits_by : (same : Bool) (other : Name) (m : Means) (os : List Operand) (k : ℕ) → ((j : ℕ) → Fits os j) → From (operand other m ∷ os) k
      → (o : Operand) (id : ℕ) → cond same (Some (operand other m)) (named (λ o. o.name) name os) ≡ Some o → o.means ≡ means.Table id
      → Between (f id) (length_at lengths (if means_table m && same then Some k else slot_from (next_slot m k) os name)) (g id)
  fits_by true other (means.Table i) os k later within o id is m =
      let here = within_first f g (λ (o : Operand). table_in o.means) (operand other (means.Table i)) (table_operands os) lengths k within in
      let e : means.Table i ≡ means.Table id = ap (λ (o : Operand). o.means) (same_Some (operand other (means.Table i)) o is) ∙ m in
      let s : i ≡ id = ap table_in e in
      subst (λ j. Between (f j) (length_at lengths (Some k)) (g j)) s here.0
  fits_by true other (means.Field i) os k later within o id is m =
      let e : means.Field i ≡ means.Table id = ap (λ (o : Operand). o.means) (same_Some (operand other (means.Field i)) o is) ∙ m in
      absurd (false≢true (ap means_table e))
  fits_by true other (means.Action i) os k later within o id is m =
      let e : means.Action i ≡ means.Table id = ap (λ (o : Operand). o.means) (same_Some (operand other (means.Action i)) o is) ∙ m in
      absurd (false≢true (ap means_table e))
  fits_by false other (means.Table i) os k later within o id is m =
      let here = within_first f g (λ (o : Operand). table_in o.means) (operand other (means.Table i)) (table_operands os) lengths k within in
      later (k + 1) here.1 o id is m
  fits_by false other (means.Field i) os k later within o id is m = later k within o id is m
  fits_by false other (means.Action i) os k later within o id is m = later k within o id is m

  fits_from : (os : List Operand) (k : ℕ) → Fits os k
  fits_from [] k within o id is m = absurd (cc)
  fits_from (x ∷ os) k within o id is m =
      subst (λ (b : Bool). Between (f id) (length_at lengths (if means_table x.means && b then Some k else slot_from (next_slot x.means k) os name)) (g id))
      (swapped name x.name)
      (fits_by (bytes_eq name x.name) x.name x.means os k (λ j. fits_from os j) within o id is m)

pub operands_fit : (f g : ℕ → ℕ) (os : List Operand) (lengths : List ℕ) → AreWithin (λ (o : Operand). table_in o.means) f g (table_operands os) lengths
    → OperandsFit os f g (length_of os lengths)
operands_fit f g os lengths within name o id is m = fits_from f g lengths name os 0 within o id is m

-- ---- patterns

joined_fit : (op : PatternOp) (a b m n x y : ℕ) → Between a m x → Between b n y → Between (joined_bytes op a b) (joined_bytes op m n) (joined_bytes op x y)
joined_fit And a b m n x y h e = let p = h.0 in let q = h.1 in let r = e.0 in let s = e.1 in (omega arith, omega arith)
joined_fit Then a b m n x y h e = let p = h.0 in let q = h.1 in let r = e.0 in let s = e.1 in (omega arith, omega arith)
joined_fit Or a b m n x y h e = let p = h.0 in let q = h.1 in let r = e.0 in let s = e.1 in (omega arith, omega arith)

module _ (t : Tables) (os : List Operand) (f g : ℕ → ℕ) (length : Name → ℕ) (fit : OperandsFit os f g length) where
  means_fit : (m : Means) (n : ℕ) → ((id : ℕ) → m ≡ means.Table id → Between (f id) n (g id)) → Between (means_bytes t f m) (covers t (operand_kind m) n) (means_bytes t g m)
  means_fit (means.Table id) n fits = fits id refl
  means_fit (means.Field id) n fits = itself (field_bytes t (slice_get t.fields id))
  means_fit (means.Action k) n fits = itself 0

  alone_fits : (name : Name) (found : Option Operand) → named (λ o. o.name) name os ≡ found
      → Between (operand_bytes t f found) (covers t (kind_of_operand found) (length name)) (operand_bytes t g found)
  alone_fits name None is = itself 0
  alone_fits name (Some o) is = means_fit o.means (length name) (λ id m. fit name o id is m)

  covers_field : (found : Option ℕ) (n : ℕ) → field_bytes t (option_and_then (slice_get t.fields) found) ≡ covers t (kind_of_field found) n
  covers_field None n = refl
  covers_field (Some id) n = refl

  constrained_fits : (name : Name) → Between (field_bytes t (named (λ f. f.name) name t.fields))
      (covers t (kind_of_field (index_named (λ f. f.name) name t.fields)) (length name)) (field_bytes t (named (λ f. f.name) name t.fields))
  constrained_fits name =
      let bytes = field_bytes t (named (λ f. f.name) name t.fields) in
      subst (λ n. Between bytes n bytes)
      (ap (field_bytes t) (sym (at_index (is_named (λ f. f.name) name) t.fields)) ∙ covers_field (index_named (λ f. f.name) name t.fields) (length name))
      (itself bytes)

  pub pattern_fits : (p : Pattern) → EachName (Agrees t os) p → Between (pattern_bytes t f os p) (length_in t os length p) (pattern_bytes t g os p)
  unfolding pattern_bytes
  pattern_fits (bare name) agree =
      subst (λ (kind : Kind). Between (operand_bytes t f (named (λ o. o.name) name os)) (covers t kind (length name)) (operand_bytes t g (named (λ o. o.name) name os)))
      (sym agree) (alone_fits name (named (λ o. o.name) name os) refl)
  pattern_fits (constraint name relation e) agree =
      subst (λ (kind : Kind). Between (field_bytes t (named (λ f. f.name) name t.fields)) (covers t kind (length name)) (field_bytes t (named (λ f. f.name) name t.fields)))
      (sym agree) (constrained_fits name)
  pattern_fits (group p) agree = pattern_fits p agree
  pattern_fits (ellipsis p) agree = pattern_fits p agree
  pattern_fits (joined op p q) agree = joined_fit op _ _ _ _ _ _ (pattern_fits p agree.0) (pattern_fits q agree.1)
