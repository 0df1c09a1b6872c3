-- Where the tokens of a pattern don't differ, its extent is that of its shape.
use Rattle.std.proofs.Common.{◌≡◌, ℕ, ◌+◌, max, ◌&&◌, ◌||◌, ◌==◌, Bool, true, false, cond, List, [], ◌∷◌, ◌++◌, get_or, Option, Some, None, refl, sym, ap, ◌∙◌, arith}
use Rattle.std.specs.Prelude.{option_map}
use Rattle.std.proofs.lemmas.List.Sums.{sum_by-append}
use Rattle.sl_ast.specs.Trees.{Pattern, bare, constraint, group, ellipsis, joined}
use Rattle.sl_ast.specs.declared.patterns.PatternOp.{PatternOp}
use Rattle.sl_ast.specs.declared.patterns.PatternOp.TheVariants.{And, Then, Or}
use Rattle.sl_shape.specs.Extents.{both_kinds, extended_extent, extent, extent_of, followed_extents_by, joined_extents}
use Rattle.sl_shape.specs.PatternShapes.{joined_both, joined_shape, list_bytes, name_shape, shape_by, shape_of, token_sizes}
use Rattle.sl_shape_tokens.specs.Comparing.{compared}
use Rattle.sl_shape_tokens.specs.Shapes.{Shape, both_where, either_where, extended, followed_by, is_empty, is_fixed, longer_kind, same_kind}
use Rattle.sl_shape_tokens.specs.declared.shapes.Compared.{Compared}
use Rattle.sl_shape_tokens.specs.declared.shapes.Compared.TheVariants.{Same, FirstShorter, SecondShorter, Apart}
use Rattle.sl_shape_tokens.specs.declared.shapes.Kind.{Kind}
use Rattle.sl_shape_tokens.specs.declared.shapes.Kind.TheVariants.{Fixed, Trailing, Varying}
use Rattle.sl_spec.specs.Named.{named}
use Rattle.sl_spec.specs.declared.tables.Tables.{Tables}

pub inside_some : {A : Type 0} (x y : A) → Some x ≡ Some y → x ≡ y
inside_some x y e = ap (λ o. elim o [ Some z ↦ z | None ↦ x ]) e

-- ---- lists

empty_both : (xs ys : List ℕ) → is_empty xs && is_empty ys ≡ is_empty (xs ++ ys)
empty_both [] ys = refl
empty_both (x ∷ xs) ys = refl

same_number : (x y : ℕ) → (x == y) ≡ true → x ≡ y
same_number x y e = grind arith

-- One list is the beginning of the other, which is longer.
record IsShorter (xs ys : List ℕ) : Type 0 where
  pub more : List ℕ
  pub is : ys ≡ xs ++ more
  pub full : is_empty ys ≡ false

abbrev Means : Compared → List ℕ → List ℕ → Type 0
Means Same xs ys = xs ≡ ys
Means FirstShorter xs ys = IsShorter xs ys
Means SecondShorter xs ys = IsShorter ys xs
Means Apart xs ys = Unit {0}

means_more : (x y : ℕ) (xs ys : List ℕ) → x ≡ y → (c : Compared) → Means c xs ys → Means c (x ∷ xs) (y ∷ ys)
means_more x y xs ys e Same m = λ k. e k ∷ m k
means_more x y xs ys e FirstShorter m = record { more = m.more; is = (λ k. sym e k ∷ m.is k); full = refl }
means_more x y xs ys e SecondShorter m = record { more = m.more; is = (λ k. e k ∷ m.is k); full = refl }
means_more x y xs ys e Apart m = tt

means : (xs ys : List ℕ) → Means (compared xs ys) xs ys
means [] [] = refl
means [] (y ∷ ys) = record { more = y ∷ ys; is = refl; full = refl }
means (x ∷ xs) [] = record { more = x ∷ xs; is = refl; full = refl }
means (x ∷ xs) (y ∷ ys) = by (x == y) refl (means xs ys)
  where
    by : (b : Bool) → (x == y) ≡ b → Means (compared xs ys) xs ys → Means (cond b (compared xs ys) Apart) (x ∷ xs) (y ∷ ys)
    by true e rest = means_more x y xs ys (same_number x y e) (compared xs ys) rest
    by false e rest = tt

module _ (t : Tables) where
  bytes_both : (xs ys : List ℕ) → list_bytes t (xs ++ ys) ≡ list_bytes t xs + list_bytes t ys
  bytes_both xs ys = sum_by-append (λ n. get_or (token_sizes t) n 0) xs ys

  bytes_shorter : (xs ys : List ℕ) → IsShorter xs ys → max (list_bytes t xs) (list_bytes t ys) ≡ list_bytes t ys
  bytes_shorter xs ys s = let a = ap (list_bytes t) s.is ∙ bytes_both xs s.more in omega (arith, a)

  bytes_longer : (xs ys : List ℕ) → IsShorter ys xs → max (list_bytes t xs) (list_bytes t ys) ≡ list_bytes t xs
  bytes_longer xs ys s = let a = ap (list_bytes t) s.is ∙ bytes_both ys s.more in omega (arith, a)

-- ---- kinds

same_kinds : (e : Bool) (k l : Kind) → both_kinds k e l e ≡ same_kind k l
same_kinds e Varying l = refl
same_kinds e Fixed Varying = refl
same_kinds e Fixed Fixed = refl
same_kinds true Fixed Trailing = refl
same_kinds false Fixed Trailing = refl
same_kinds e Trailing Varying = refl
same_kinds true Trailing Fixed = refl
same_kinds false Trailing Fixed = refl
same_kinds e Trailing Trailing = refl

abbrev may_be_short : Bool → Kind → Bool
may_be_short e k = e || (cond (is_fixed k) false true)

first_kinds : (e : Bool) (k l : Kind) → may_be_short e k ≡ true → both_kinds k e l false ≡ longer_kind k l
first_kinds e Varying l h = refl
first_kinds e Fixed Varying h = refl
first_kinds e Fixed Fixed h = refl
first_kinds true Fixed Trailing h = refl
first_kinds false Fixed Trailing h = absurd cc
first_kinds e Trailing Varying h = refl
first_kinds e Trailing Fixed h = refl
first_kinds e Trailing Trailing h = refl

second_kinds : (e : Bool) (k l : Kind) → may_be_short e l ≡ true → both_kinds k false l e ≡ longer_kind l k
second_kinds e Varying Varying h = refl
second_kinds e Varying Fixed h = refl
second_kinds e Varying Trailing h = refl
second_kinds e Fixed Varying h = refl
second_kinds e Fixed Fixed h = refl
second_kinds e Fixed Trailing h = refl
second_kinds e Trailing Varying h = refl
second_kinds true Trailing Fixed h = refl
second_kinds false Trailing Fixed h = absurd cc
second_kinds e Trailing Trailing h = refl

fixed_kind : (k : Kind) → is_fixed k ≡ true → k ≡ Fixed
fixed_kind Fixed e = refl
fixed_kind Trailing e = absurd cc
fixed_kind Varying e = absurd cc

and_same : (a : Bool) → a && a ≡ a
and_same true = refl
and_same false = refl

and_false : (a : Bool) → a && false ≡ false
and_false true = refl
and_false false = refl

left_true : (a b : Bool) → a && b ≡ true → a ≡ true
left_true true b e = refl
left_true false b e = absurd cc

right_true : (a b : Bool) → a && b ≡ true → b ≡ true
right_true true b e = e
right_true false b e = absurd cc

-- a choice that is there
chosen : {A : Type 0} (b : Bool) (x s : A) → cond b (Some x) None ≡ Some s → (b ≡ true) × (x ≡ s)
chosen true x s e = (refl, inside_some x s e)
chosen false x s e = absurd cc

module _ (t : Tables) (p q : Shape) where
  -- ---- `P & Q`

  both_by : (c : Compared) → Means c p.tokens q.tokens → (s : Shape) → both_where c p q ≡ Some s
      → joined_extents And (extent t p) (extent t q) ≡ extent t s
  both_by Same m s e =
      let kinds = (λ i. both_kinds p.kind (is_empty p.tokens) q.kind (is_empty (sym m i))) ∙ same_kinds (is_empty p.tokens) p.kind q.kind in
      let empty = (λ i. is_empty p.tokens && is_empty (sym m i)) ∙ and_same (is_empty p.tokens) in
      let bytes : max (list_bytes t p.tokens) (list_bytes t q.tokens) ≡ list_bytes t p.tokens = let a = ap (list_bytes t) m in omega (arith, a) in
      (λ i. record { kind = kinds i; is_empty = empty i; bytes = bytes i })
      ∙ ap (extent t) (inside_some (record { kind = same_kind p.kind q.kind; tokens = p.tokens }) s e)
  both_by FirstShorter m s e =
      let h = chosen (may_be_short (is_empty p.tokens) p.kind) (record { kind = longer_kind p.kind q.kind; tokens = q.tokens }) s e in
      let kinds = (λ i. both_kinds p.kind (is_empty p.tokens) q.kind (m.full i)) ∙ first_kinds (is_empty p.tokens) p.kind q.kind h.0 in
      let empty = (λ i. is_empty p.tokens && m.full i) ∙ and_false (is_empty p.tokens) ∙ sym m.full in
      let bytes = bytes_shorter t p.tokens q.tokens m in
      (λ i. record { kind = kinds i; is_empty = empty i; bytes = bytes i }) ∙ ap (extent t) h.1
  both_by SecondShorter m s e =
      let h = chosen (may_be_short (is_empty q.tokens) q.kind) (record { kind = longer_kind q.kind p.kind; tokens = p.tokens }) s e in
      let kinds = (λ i. both_kinds p.kind (m.full i) q.kind (is_empty q.tokens)) ∙ second_kinds (is_empty q.tokens) p.kind q.kind h.0 in
      let empty = (λ i. m.full i && is_empty q.tokens) ∙ sym m.full in
      let bytes = bytes_longer t p.tokens q.tokens m in
      (λ i. record { kind = kinds i; is_empty = empty i; bytes = bytes i }) ∙ ap (extent t) h.1
  both_by Apart m s e = absurd cc

  -- ---- `P | Q`

  either_by : (c : Compared) → Means c p.tokens q.tokens → is_fixed p.kind ≡ true → is_fixed q.kind ≡ true → (s : Shape) → either_where c p q ≡ Some s
      → joined_extents Or (extent t p) (extent t q) ≡ extent t s
  either_by Same m f g s e =
      let kinds = sym (fixed_kind p.kind f) in
      let empty = (λ i. is_empty p.tokens && is_empty (sym m i)) ∙ and_same (is_empty p.tokens) in
      let bytes : max (list_bytes t p.tokens) (list_bytes t q.tokens) ≡ list_bytes t p.tokens = let a = ap (list_bytes t) m in omega (arith, a) in
      (λ i. record { kind = kinds i; is_empty = empty i; bytes = bytes i }) ∙ ap (extent t) (inside_some p s e)
  either_by FirstShorter m f g s e =
      let h = chosen (is_empty p.tokens) q s e in
      let kinds = sym (fixed_kind q.kind g) in
      let empty = (λ i. is_empty p.tokens && m.full i) ∙ and_false (is_empty p.tokens) ∙ sym m.full in
      let bytes = bytes_shorter t p.tokens q.tokens m in
      (λ i. record { kind = kinds i; is_empty = empty i; bytes = bytes i }) ∙ ap (extent t) h.1
  either_by SecondShorter m f g s e =
      let h = chosen (is_empty q.tokens) p s e in
      let kinds = sym (fixed_kind p.kind f) in
      let empty = (λ i. m.full i && is_empty q.tokens) ∙ sym m.full in
      let bytes = bytes_longer t p.tokens q.tokens m in
      (λ i. record { kind = kinds i; is_empty = empty i; bytes = bytes i }) ∙ ap (extent t) h.1
  either_by Apart m f g s e = absurd cc

  either_of : (b : Bool) → is_fixed p.kind && is_fixed q.kind ≡ b → (s : Shape) → cond b (either_where (compared p.tokens q.tokens) p q) None ≡ Some s
      → joined_extents Or (extent t p) (extent t q) ≡ extent t s
  either_of true f s e = either_by (compared p.tokens q.tokens) (means p.tokens q.tokens)
      (left_true (is_fixed p.kind) (is_fixed q.kind) f) (right_true (is_fixed p.kind) (is_fixed q.kind) f) s e
  either_of false f s e = absurd cc

  -- ---- `P ; Q`

  followed_of : (k : Kind) → followed_extents_by k (extent t p) (extent t q) ≡ extent t (followed_by k p q)
  followed_of Fixed = λ i. record {
    kind = q.kind;
    is_empty = empty_both p.tokens q.tokens i;
    bytes = sym (bytes_both t p.tokens q.tokens) i;
  }
  followed_of Trailing = refl
  followed_of Varying = refl

  joined_of : (op : PatternOp) (s : Shape) → joined_both op p q ≡ Some s → joined_extents op (extent t p) (extent t q) ≡ extent t s
  joined_of And s e = both_by (compared p.tokens q.tokens) (means p.tokens q.tokens) s e
  joined_of Then s e = followed_of p.kind ∙ ap (extent t) (inside_some (followed_by p.kind p q) s e)
  joined_of Or s e = either_of (is_fixed p.kind && is_fixed q.kind) refl s e

-- ---- patterns

pub record AreShapes (op : PatternOp) (o r : Option Shape) (s : Shape) : Type 0 where
  pub left : Shape
  pub right : Shape
  pub left_is : o ≡ Some left
  pub right_is : r ≡ Some right
  pub joined_is : joined_both op left right ≡ Some s

pub sides_of : (op : PatternOp) (o r : Option Shape) (s : Shape) → joined_shape op o r ≡ Some s → AreShapes op o r s
sides_of op None r s e = absurd cc
sides_of op (Some p) None s e = absurd cc
sides_of op (Some p) (Some q) s e = record { left = p; right = q; left_is = refl; right_is = refl; joined_is = e }

pub record IsExtended (o : Option Shape) (s : Shape) : Type 0 where
  pub inner : Shape
  pub inner_is : o ≡ Some inner
  pub extended_is : extended inner ≡ s

pub inner_of : (o : Option Shape) (s : Shape) → option_map extended o ≡ Some s → IsExtended o s
inner_of None s e = absurd cc
inner_of (Some p) s e = record { inner = p; inner_is = refl; extended_is = inside_some (extended p) s e }

module _ (t : Tables) (shapes : List Shape) where
  pub extent_shaped : (p : Pattern) (s : Shape) → shape_of t shapes p ≡ Some s → extent_of t shapes p ≡ extent t s
  unfolding shape_of extent_of
  extent_shaped (bare name) s e = ap (extent t) (inside_some (name_shape t shapes name) s e)
  extent_shaped (constraint name relation x) s e = ap (extent t) (inside_some (shape_by shapes (named (λ f. f.name) name t.fields) None) s e)
  extent_shaped (group p) s e = extent_shaped p s e
  extent_shaped (ellipsis p) s e =
      let i = inner_of (shape_of t shapes p) s e in
      ap extended_extent (extent_shaped p i.inner i.inner_is) ∙ ap (extent t) i.extended_is
  extent_shaped (joined op p q) s e =
      let i = sides_of op (shape_of t shapes p) (shape_of t shapes q) s e in
      (λ k. joined_extents op (extent_shaped p i.left i.left_is k) (extent_shaped q i.right i.right_is k))
      ∙ joined_of t i.left i.right op s i.joined_is
