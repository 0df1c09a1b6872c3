-- Names that hang on the operands, and names that don't.
use Rattle.std.proofs.Common.{◌≡◌, ℕ, ◌+◌, ◌<◌, ◌≤◌, ◌||◌, Bool, true, false, cond, List, [], ◌∷◌, ◌++◌, length, get_or, drop, Option, None, Some, refl, sym, ap, subst, ◌∙◌}
use Rattle.std.proofs.lemmas.Bool.{and_parts}
use Rattle.std.proofs.lemmas.Bool.Decides.{Decides-eqb}
use Rattle.std.specs.Prelude.{is_some, unwrap_or}
use Rattle.std.proofs.lemmas.List.{drop_more}
use Rattle.std.proofs.Math.ListN.{drop_of_length-le}
use Rattle.std.proofs.lemmas.Slice.Eq.{bytes_eq-Decides}
use Rattle.std.specs.List.{AllByRecursion, list_all, list_any}
use Rattle.std.specs.Str.{bytes_eq}
use Rattle.sl_decode_meaning.specs.Kinds.{kind_by, kind_of, operand_kind}
use Rattle.sl_decode_meaning.specs.Places.{covers, length_of}
use Rattle.sl_decode_meaning.specs.declared.kinds.Kind.{Kind}
use Rattle.sl_decode_meaning.specs.declared.kinds.Kind.TheVariants as k
use Rattle.sl_decode_leaves.specs.Blocks.{ArePlain, IsSame, StandAsBefore, StandsAsBefore, TiesOne, is_plain, means_field}
use Rattle.sl_decode_leaves.specs.declared.blocks.Tied.{Tied}
use Rattle.sl_spec.specs.Named.{index_named, named}
use Rattle.sl_spec.specs.Tables.{Name, Operand}
use Rattle.sl_spec.specs.declared.constructors.Means.{Means}
use Rattle.sl_spec.specs.declared.constructors.Means.TheVariants as means
use Rattle.sl_spec.specs.declared.tables.Tables.{Tables}
use Rattle.sl_spec.proofs.KeyedLemmas.{all_push}

-- ---- lists, one by one

module _ {X : Type 0} (P : X → Type 0) (xs : List X) where
  -- What holds of the rest makes it hold of all.
  abbrev pub IsLeft : Type 0 → ℕ → Type 0
  IsLeft Q i = AllByRecursion P (drop i xs) → Q

  pub one_less : (Q : Type 0) (i : ℕ) (x : X) → i < length xs → x ≡ get_or xs i x → P x → IsLeft Q i
      → IsLeft Q (i + 1)
  one_less Q i x below is its left = λ rest.
      let cut : drop i xs ≡ x ∷ drop (i + 1) xs =
      drop_more xs i x below ∙ ap (λ (y : X). y ∷ drop (i + 1) xs) (sym is) in
      left (subst (AllByRecursion P) (sym cut) (its, rest))

  pub none_left : (Q : Type 0) (i : ℕ) → length xs ≤ i → IsLeft Q i → Q
  none_left Q i end left = left (subst (AllByRecursion P) (sym (drop_of_length-le xs end)) tt)

pub all_but_last : {X : Type 0} (P : X → Type 0) (xs : List X) (x : X) → AllByRecursion P (xs ++ x ∷ [])
    → AllByRecursion P xs × P x
all_but_last P [] x all = (tt, all.0)
all_but_last P (y ∷ ys) x all = let rest = all_but_last P ys x all.1 in ((all.0, rest.0), rest.1)

-- ---- names

-- as before, among both
same_by : (t : Tables) (os those : List Operand) (x : Tied) → StandsAsBefore t os x → StandsAsBefore t those x
    → IsSame t os those x.name.now
same_by t os those x one other = record {
  kind = one.0 ∙ sym other.0;
  covered = λ lengths. one.1 lengths ∙ sym (other.1 lengths);
}

-- a field's name
means_it : (o : Option ℕ) (m : Means) (id : ℕ) → o ≡ Some id → means_field o m ≡ true → operand_kind m ≡ k.Field id
means_it None m id none plain = absurd (cc none)
means_it (Some j) (means.Field n) id same plain =
    ap (λ m. k.Field m) (sym ((Decides-eqb j n).0 plain) ∙ ap (λ (o : Option ℕ). unwrap_or o n) same)
means_it (Some j) (means.Table n) id same plain = absurd (cc plain)
means_it (Some j) (means.Action n) id same plain = absurd (cc plain)

module _ (t : Tables) (name : Name) (id : ℕ) (is : index_named (λ f. f.name) name t.fields ≡ Some id) where
  abbrev kind_among : Option Operand → Kind
  kind_among o = kind_by o (index_named (λ f. f.name) name t.fields) name

  kind_first : (b : Bool) (o : Operand) (more : Option Operand) → bytes_eq name o.name ≡ b → is_plain t o ≡ true
      → kind_among more ≡ k.Field id → kind_among (cond b (Some o) more) ≡ k.Field id
  kind_first true o more same plain rest =
      means_it (index_named (λ f. f.name) o.name t.fields) o.means id
      (ap (λ n. index_named (λ f. f.name) n t.fields) (sym ((bytes_eq-Decides name o.name).0 same)) ∙ is) plain
  kind_first false o more other plain rest = rest

  pub kind_plain : (os : List Operand) → ArePlain t os → kind_of t os name ≡ k.Field id
  kind_plain [] plain = ap (λ i. kind_by None i name) is
  kind_plain (o ∷ os) plain =
      let both = and_parts (is_plain t o) (list_all (is_plain t) os) plain in
      kind_first (bytes_eq name o.name) o (named (λ x. x.name) name os) refl both.0 (kind_plain os both.1)

  field_same : (os those : List Operand) → ArePlain t os → ArePlain t those → IsSame t os those name
  field_same os those one other =
      let first = kind_plain os one in
      let second = kind_plain those other in record {
        kind = first ∙ sym second;
        covered = λ lengths. ap (λ x. covers t x (length_of os lengths name)) first
            ∙ sym (ap (λ x. covers t x (length_of those lengths name)) second);
      }

-- a name that is there
module _ (t : Tables) (os those : List Operand) (name : Name) where
  found_first : (b : Bool) (x : Tied) → bytes_eq name x.name.now ≡ b → StandsAsBefore t os x → StandsAsBefore t those x
      → (b ≡ false → IsSame t os those name) → IsSame t os those name
  found_first true x same one other rest =
      subst (λ n. IsSame t os those n) (sym ((bytes_eq-Decides name x.name.now).0 same))
      (same_by t os those x one other)
  found_first false x same one other rest = rest refl

  found_same : (tied : List Tied) → list_any (λ x. bytes_eq name x.name.now) tied ≡ true → StandAsBefore t os tied
      → StandAsBefore t those tied → IsSame t os those name
  found_same [] none one other = absurd (cc none)
  found_same (x ∷ xs) found one other =
      found_first (bytes_eq name x.name.now) x refl one.0 other.0
      (λ apart. found_same xs (sym (ap (λ b. b || list_any (λ y. bytes_eq name y.name.now) xs) apart) ∙ found) one.1 other.1)

-- ---- one more name

module _ (t : Tables) (os : List Operand) (name : Name) (old : List Tied) where
  pub ties_field : (id : ℕ) → index_named (λ f. f.name) name t.fields ≡ Some id → ArePlain t os → TiesOne t os name old old
  ties_field id is plain = λ those other stand. (stand, field_same t name id is os those plain other)

  pub ties_found : list_any (λ x. bytes_eq name x.name.now) old ≡ true → StandAsBefore t os old → TiesOne t os name old old
  ties_found found stands = λ those other stand. (stand, found_same t os those name old found stands stand)

  pub ties_some : (o : Option ℕ) (b : Bool) → o ≡ index_named (λ f. f.name) name t.fields → b ≡ is_some o → b ≡ true
      → ArePlain t os → TiesOne t os name old old
  ties_some None b is some holds plain = absurd (cc (sym some ∙ holds))
  ties_some (Some id) b is some holds plain = ties_field id (sym is) plain

  module _ (x : Tied) (new : List Tied) (added : new ≡ old ++ x ∷ []) (is : x.name.now ≡ name) (its : StandsAsBefore t os x) where
    pub stands_more : StandAsBefore t os old → StandAsBefore t os new
    stands_more stands = subst (StandAsBefore t os) (sym added) (all_push (StandsAsBefore t os) old x stands its)

    pub ties_new : TiesOne t os name old new
    ties_new = λ those other stand.
        let parts = all_but_last (StandsAsBefore t those) old x (subst (StandAsBefore t those) added stand) in
        (parts.0, subst (λ n. IsSame t os those n) is (same_by t os those x its parts.1))
