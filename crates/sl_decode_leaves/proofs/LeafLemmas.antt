-- Where names stand in rows of names.
use Rattle.std.proofs.Common.{◌≡◌, ℕ, ◌+◌, ◌<◌, ◌≤◌, Bool, true, false, cond, List, [], ◌∷◌, ◌++◌, length, get_or, drop, append-nil, Option, None, Some, refl, sym, ap, ◌∙◌}
use Rattle.std.proofs.lemmas.List.{drop_more, map-append}
use Rattle.std.proofs.Math.ListN.{drop_of_length-le}
use Rattle.std.proofs.lemmas.Slice.Eq.{bytes_eq-Decides}
use Rattle.std.specs.Option.{option_map, option_or}
use Rattle.std.specs.Prelude.{is_some}
use Rattle.std.specs.Str.{bytes_eq}
use Rattle.std.specs.declared.alloc.Global.{Global}
use Rattle.std.specs.declared.rc.Rc.{Rc}
use Rattle.sl_decode_meaning.specs.Places.{Leaf, bare_place, first_place, leaf}
use Rattle.sl_decode_leaves.specs.Extents.{leaf_at, leaves_at}
use Rattle.sl_decode_leaves.specs.Joined.{all_leaves}
use Rattle.sl_decode_leaves.specs.declared.leaves.Leaf as l
use Rattle.sl_decode_leaves.specs.declared.pattern_leaves.PatternLeaves.{PatternLeaves}
use Rattle.sl_spec.specs.Tables.{Name}

here_or : (b : Bool) (at : ℕ) (o r y : Option ℕ) → o ≡ option_or r y
    → cond b (Some at) o ≡ option_or (cond b (Some at) r) y
here_or true at o r y h = refl
here_or false at o r y h = h

-- ---- two rows, one behind the other

pub first_append : (n : Name) (xs ys : List Leaf)
    → first_place n (xs ++ ys) ≡ option_or (first_place n xs) (first_place n ys)
first_append n [] ys = refl
first_append n (leaf other alone at ∷ xs) ys =
    here_or (bytes_eq other n) at (first_place n (xs ++ ys)) (first_place n xs) (first_place n ys)
    (first_append n xs ys)

pub bare_append : (n : Name) (xs ys : List Leaf)
    → bare_place n (xs ++ ys) ≡ option_or (bare_place n xs) (bare_place n ys)
bare_append n [] ys = refl
bare_append n (leaf other true at ∷ xs) ys =
    here_or (bytes_eq other n) at (bare_place n (xs ++ ys)) (bare_place n xs) (bare_place n ys)
    (bare_append n xs ys)
bare_append n (leaf other false at ∷ xs) ys = bare_append n xs ys

-- ---- the rows of patterns

module _ (place : List Leaf → Option ℕ)
    (append : (xs ys : List Leaf) → place (xs ++ ys) ≡ option_or (place xs) (place ys))
    (ps : List (Rc PatternLeaves Global)) (i : ℕ) where
  pub nowhere : (lengths : List ℕ) → place [] ≡ None → length ps ≤ i
      → place (leaves_at lengths (all_leaves (drop i ps))) ≡ None
  nowhere lengths none end =
      ap (λ (x : List (Rc PatternLeaves Global)). place (leaves_at lengths (all_leaves x)))
      (drop_of_length-le ps end) ∙ none

  pub next_row : (lengths : List ℕ) (p : Rc PatternLeaves Global) → i < length ps → p ≡ get_or ps i p
      → place (leaves_at lengths (all_leaves (drop i ps)))
      ≡ option_or (place (leaves_at lengths p.value.leaves.items))
      (place (leaves_at lengths (all_leaves (drop (i + 1) ps))))
  next_row lengths p below is =
      let rest = all_leaves (drop (i + 1) ps) in
      let cut : drop i ps ≡ p ∷ drop (i + 1) ps =
      drop_more ps i p below ∙ ap (λ (x : Rc PatternLeaves Global). x ∷ drop (i + 1) ps) (sym is) in
      ap (λ (x : List (Rc PatternLeaves Global)). place (leaves_at lengths (all_leaves x))) cut
      ∙ ap place (map-append (leaf_at lengths) p.value.leaves.items rest)
      ∙ append (leaves_at lengths p.value.leaves.items) (leaves_at lengths rest)

  module _ (lengths : List ℕ) (p : Rc PatternLeaves Global) (x : PatternLeaves) (below : i < length ps)
      (is : p ≡ get_or ps i p) (its : x ≡ p.value) where
    its_row : (o : Option ℕ) → o ≡ place (leaves_at lengths x.leaves.items)
        → option_or o (place (leaves_at lengths (all_leaves (drop (i + 1) ps))))
        ≡ place (leaves_at lengths (all_leaves (drop i ps)))
    its_row o found =
        let rest = place (leaves_at lengths (all_leaves (drop (i + 1) ps))) in
        ap (λ (r : Option ℕ). option_or r rest)
        (found ∙ ap (λ (y : PatternLeaves). place (leaves_at lengths y.leaves.items)) its)
        ∙ sym (next_row lengths p below is)

    pub here_row : (e : ℕ) → Some e ≡ place (leaves_at lengths x.leaves.items)
        → Some e ≡ place (leaves_at lengths (all_leaves (drop i ps)))
    here_row e found = its_row (Some e) found

    pub not_here : None ≡ place (leaves_at lengths x.leaves.items)
        → place (leaves_at lengths (all_leaves (drop (i + 1) ps)))
        ≡ place (leaves_at lengths (all_leaves (drop i ps)))
    not_here found = its_row None found

-- ---- names that stand alone, each once

skipped : (n m : Name) (b : Bool) (at : ℕ) (x y : Option ℕ) → bytes_eq n m ≡ b
    → (n ≡ m → (e : ℕ) × (x ≡ Some e)) → option_or x y ≡ option_or x (cond b (Some at) y)
skipped n m b at (Some e) y is there = refl
skipped n m false at None y is there = refl
skipped n m true at None y is there = absurd (cc ((there ((bytes_eq-Decides n m).0 is)).1))

module _ (place : Name → List Leaf → Option ℕ)
    (append : (m : Name) (xs ys : List Leaf) → place m (xs ++ ys) ≡ option_or (place m xs) (place m ys)) where
  pub there_already : (m n : Name) (x : Leaf) (xs rest : List Leaf) (at e : ℕ)
      → place m (x ∷ rest) ≡ cond (bytes_eq n m) (Some at) (place m rest) → place n xs ≡ Some e
      → place m (xs ++ rest) ≡ place m (xs ++ x ∷ rest)
  there_already m n x xs rest at e front there =
      append m xs rest
      ∙ skipped n m (bytes_eq n m) at (place m xs) (place m rest) refl
      (λ same. (e, ap (λ k. place k xs) (sym same) ∙ there))
      ∙ sym (append m xs (x ∷ rest) ∙ ap (option_or (place m xs)) front)

pub there_too : {A : Type 0} (m n : Name) (b : Bool) (xs rest : List Leaf) (at : ℕ) (o : Option A) (f : A → ℕ)
    → b ≡ true → is_some o ≡ true → option_map f o ≡ bare_place n xs
    → bare_place m (xs ++ rest) ≡ bare_place m (xs ++ leaf n b at ∷ rest)
there_too m n false xs rest at o f holds some found = absurd (cc holds)
there_too m n true xs rest at None f holds some found = absurd (cc some)
there_too m n true xs rest at (Some a) f holds some found =
    there_already bare_place bare_append m n (leaf n true at) xs rest at (f a) refl (sym found)

pub not_alone : (m n : Name) (b : Bool) (xs rest : List Leaf) (at : ℕ) → b ≡ false
    → bare_place m (xs ++ rest) ≡ bare_place m (xs ++ leaf n b at ∷ rest)
not_alone m n true xs rest at fails = absurd (cc fails)
not_alone m n false xs rest at fails =
    bare_append m xs rest ∙ sym (bare_append m xs (leaf n false at ∷ rest))

-- ---- rows that are made one by one

module _ (place : List Leaf → Option ℕ) (lengths : List ℕ) (ls : List l.Leaf) (i : ℕ) (whole : Option ℕ) where
  pub one_added : (x : l.Leaf) (made more : List Leaf) → i < length ls → x ≡ get_or ls i x
      → place (more ++ leaves_at lengths (drop (i + 1) ls)) ≡ place (made ++ leaf_at lengths x ∷ leaves_at lengths (drop (i + 1) ls))
      → place (made ++ leaves_at lengths (drop i ls)) ≡ whole
      → place (more ++ leaves_at lengths (drop (i + 1) ls)) ≡ whole
  one_added x made more below is added so_far =
      let cut : drop i ls ≡ x ∷ drop (i + 1) ls = drop_more ls i x below ∙ ap (λ (y : l.Leaf). y ∷ drop (i + 1) ls) (sym is) in
      added ∙ sym (ap (λ ys. place (made ++ leaves_at lengths ys)) cut) ∙ so_far

  pub all_added : (made : List Leaf) → length ls ≤ i → place (made ++ leaves_at lengths (drop i ls)) ≡ whole → place made ≡ whole
  all_added made end so_far =
      ap place (sym (append-nil made)) ∙ sym (ap (λ ys. place (made ++ leaves_at lengths ys)) (drop_of_length-le ls end)) ∙ so_far
