-- Steps of a walk over two lists.
use Rattle.std.proofs.Common.{◌≡◌, ℕ, ◌+◌, ◌<◌, ◌==◌, true, false, cond, List, [], ◌∷◌, ◌++◌, length, get_or, Option, Some, None, Result, Ok, Err, refl, sym, ap, ◌∙◌, subst, arith}
use Rattle.std.specs.Prelude.{IfOk}
use Rattle.std.proofs.lemmas.List.{append_assoc, append-nil, length-append}
use Rattle.sl_shape_tokens.specs.Comparing.{common_prefix, compared}
use Rattle.sl_shape_tokens.specs.Nodes.{AreBelow, lists_of}
use Rattle.sl_shape_tokens.specs.Walks.{AreIn, Ends, IsEnd, IsLeafStep, IsMet, IsStep, Passes, Tells, pending, weights_of, work, work_left, written}
use Rattle.sl_shape_tokens.specs.declared.nodes.Node.{Node}
use Rattle.sl_shape_tokens.specs.declared.nodes.Node.TheVariants.{One, Joined}
use Rattle.sl_shape_tokens.specs.declared.shapes.Compared.{Compared}
use Rattle.sl_shape_tokens.specs.declared.shapes.Compared.TheVariants.{Same, FirstShorter, SecondShorter, Apart}
use Rattle.sl_shape_tokens.specs.declared.walking.Walk.{Walk}
use Rattle.sl_shape_tokens.proofs.NodeLemmas.{joined_list, joined_reach, joined_weight, one_list, some_token, some_weight}

same_test : (a : ℕ) → (a == a) ≡ true
same_test a = grind arith

other_test : (a b : ℕ) → (a ≡ b → ⊥) → (a == b) ≡ false
other_test a b n = grind arith

-- what is no value is none
pub none_of : {A : Type 0} (r : Option A) → ((x : A) → r ≡ Some x → ⊥) → r ≡ None
none_of None not = refl
none_of (Some x) not = absurd (not x refl)

pub ok_also : {A E : Type 0} {P Q : A → Type 0} (r : Result A E) → IfOk r P → ((a : A) → P a → Q a) → IfOk r Q
ok_also (Ok a) h f = f a h
ok_also (Err e) h f = tt

-- ---- two lists

pub compared_front : (zs xs ys : List ℕ) → compared (zs ++ xs) (zs ++ ys) ≡ compared xs ys
compared_front [] xs ys = refl
compared_front (z ∷ zs) xs ys = ap (λ b. cond b (compared (zs ++ xs) (zs ++ ys)) Apart) (same_test z) ∙ compared_front zs xs ys

pub compared_itself : (xs : List ℕ) → compared xs xs ≡ Same
compared_itself [] = refl
compared_itself (x ∷ xs) = ap (λ b. cond b (compared xs xs) Apart) (same_test x) ∙ compared_itself xs

pub common_front : (zs xs ys : List ℕ) → common_prefix (zs ++ xs) (zs ++ ys) ≡ zs ++ common_prefix xs ys
common_front [] xs ys = refl
common_front (z ∷ zs) xs ys = ap (λ b. cond b (z ∷ common_prefix (zs ++ xs) (zs ++ ys)) []) (same_test z) ∙ ap (λ l. z ∷ l) (common_front zs xs ys)

compared_apart : (s t : ℕ) (xs ys : List ℕ) → (s ≡ t → ⊥) → compared (s ∷ xs) (t ∷ ys) ≡ Apart
compared_apart s t xs ys n = ap (λ b. cond b (compared xs ys) Apart) (other_test s t n)

common_apart : (s t : ℕ) (xs ys : List ℕ) → (s ≡ t → ⊥) → common_prefix (s ∷ xs) (t ∷ ys) ≡ []
common_apart s t xs ys n = ap (λ b. cond b (s ∷ common_prefix xs ys) []) (other_test s t n)

pub first_shorter : (ys : List ℕ) → 0 < length ys → FirstShorter ≡ compared [] ys
first_shorter [] some = absurd (omega arith)
first_shorter (y ∷ ys) some = refl

pub second_shorter : (xs : List ℕ) → 0 < length xs → SecondShorter ≡ compared xs []
second_shorter [] some = absurd (omega arith)
second_shorter (x ∷ xs) some = refl

pub none_common : (xs : List ℕ) → common_prefix xs [] ≡ []
none_common [] = refl
none_common (x ∷ xs) = refl

-- ---- parts

pub pending_push : (lists : List (List ℕ)) (xs : List ℕ) (x : ℕ) → pending lists (xs ++ x ∷ []) ≡ get_or lists x [] ++ pending lists xs
pending_push lists [] x = sym (append-nil (get_or lists x []))
pending_push lists (y ∷ xs) x =
    ap (λ (l : List ℕ). l ++ get_or lists y []) (pending_push lists xs x) ∙ append_assoc (get_or lists x []) (pending lists xs) (get_or lists y [])

pub written_push : (lists : List (List ℕ)) (xs : List ℕ) (x : ℕ) → written lists (xs ++ x ∷ []) ≡ written lists xs ++ get_or lists x []
written_push lists [] x = append-nil (get_or lists x [])
written_push lists (y ∷ xs) x =
    ap (λ (l : List ℕ). get_or lists y [] ++ l) (written_push lists xs x) ∙ sym (append_assoc (get_or lists y []) (written lists xs) (get_or lists x []))

pub work_push : (weights xs : List ℕ) (x : ℕ) → work weights (xs ++ x ∷ []) ≡ get_or weights x 0 + work weights xs
work_push weights [] x = refl
work_push weights (y ∷ xs) x = ap (λ n. get_or weights y 0 + n) (work_push weights xs x) ∙ omega arith

pub in_push : (n : ℕ) (xs : List ℕ) (x : ℕ) → AreIn n xs → x < n → AreIn n (xs ++ x ∷ [])
in_push n [] x are below = (below, tt)
in_push n (y ∷ xs) x are below = (are.0, in_push n xs x are.1 below)

pub in_rest : (n : ℕ) (xs : List ℕ) (x : ℕ) → AreIn n (xs ++ x ∷ []) → AreIn n xs × (x < n)
in_rest n [] x are = (tt, are.0)
in_rest n (y ∷ xs) x are = let rest = in_rest n xs x are.1 in ((are.0, rest.0), rest.1)

module _ (nodes : List Node) (are : AreBelow nodes) where
  abbrev L : List (List ℕ)
  L = lists_of nodes

  abbrev W : List ℕ
  W = weights_of nodes

  some_pending : (xs : List ℕ) → AreIn (length nodes) xs → 0 < length xs → 0 < length (pending L xs)
  some_pending [] within some = absurd (omega arith)
  some_pending (x ∷ xs) within some =
      let e = length-append (pending L xs) (get_or L x []) in
      let t = some_token nodes x are within.0 in omega arith

  -- ---- a step with two parts in front

  pub met_same : (x y : ℕ) (old new : Walk) → x < length nodes → get_or L x [] ≡ get_or L y [] → AreIn (length nodes) old.left.items → AreIn (length nodes) old.right.items
      → new.left.items ≡ old.left.items → new.right.items ≡ old.right.items → new.common.items ≡ old.common.items ++ x ∷ [] → IsMet nodes x y old new None
  met_same x y old new below same left_in right_in left right common =
      let xs = get_or L x [] in
      let pl = pending L old.left.items in
      let pr = pending L old.right.items in
      let to_left : pl ≡ pending L new.left.items = ap (pending L) (sym left) in
      let to_right : pr ≡ pending L new.right.items = ap (pending L) (sym right) in
      let second : get_or L y [] ++ pr ≡ xs ++ pr = ap (λ (l : List ℕ). l ++ pr) (sym same) in
      record {
        tells = record {
          compared_same = ap (compared (xs ++ pl)) second ∙ compared_front xs pl pr ∙ (λ k. compared (to_left k) (to_right k));
          common_same = ap (λ (l : List ℕ). written L old.common.items ++ common_prefix (xs ++ pl) l) second
              ∙ ap (λ (l : List ℕ). written L old.common.items ++ l) (common_front xs pl pr)
              ∙ sym (append_assoc (written L old.common.items) xs (common_prefix pl pr))
              ∙ ap (λ (l : List ℕ). l ++ common_prefix pl pr) (sym (written_push L old.common.items x) ∙ ap (written L) (sym common))
              ∙ (λ k. written L new.common.items ++ common_prefix (to_left k) (to_right k));
        };
        less = let a = ap (work W) left in let b = ap (work W) right in let w = some_weight nodes x are below in omega arith;
        left_in = subst (AreIn (length nodes)) (sym left) left_in;
        right_in = subst (AreIn (length nodes)) (sym right) right_in;
      }

  -- what is pending once a node is taken apart
  opened : (x l r : ℕ) (n : Node) (old new : List ℕ) → x < length nodes → n ≡ get_or nodes x n → n ≡ Joined l r → new ≡ old ++ r ∷ [] ++ l ∷ []
      → get_or L x [] ++ pending L old ≡ pending L new
  opened x l r n old new below is joined e =
      ap (λ (xs : List ℕ). xs ++ pending L old) (joined_list nodes x l r n are below is joined)
      ∙ append_assoc (get_or L l []) (get_or L r []) (pending L old)
      ∙ ap (λ (xs : List ℕ). get_or L l [] ++ xs) (sym (pending_push L old r))
      ∙ sym (pending_push L (old ++ r ∷ []) l) ∙ ap (pending L) (sym e)

  opened_work : (x l r : ℕ) (n : Node) (old new : List ℕ) → x < length nodes → n ≡ get_or nodes x n → n ≡ Joined l r → new ≡ old ++ r ∷ [] ++ l ∷ []
      → work W new + 1 ≡ get_or W x 0 + work W old
  opened_work x l r n old new below is joined e =
      let a = ap (work W) e in
      let b = work_push W (old ++ r ∷ []) l in
      let d = work_push W old r in
      let w = joined_weight nodes x l r n are below is joined in
      omega arith

  opened_in : (x l r : ℕ) (n : Node) (old new : List ℕ) → x < length nodes → n ≡ get_or nodes x n → n ≡ Joined l r → new ≡ old ++ r ∷ [] ++ l ∷ []
      → AreIn (length nodes) old → AreIn (length nodes) new
  opened_in x l r n old new below is joined e within =
      let before = joined_reach nodes x l r n are below is joined in
      subst (AreIn (length nodes)) (sym e) (in_push (length nodes) (old ++ r ∷ []) l (in_push (length nodes) old r within (omega arith)) (omega arith))

  pub met_first : (x y l r : ℕ) (n : Node) (old new : Walk) → x < length nodes → y < length nodes → n ≡ get_or nodes x n → n ≡ Joined l r
      → AreIn (length nodes) old.left.items → AreIn (length nodes) old.right.items
      → new.left.items ≡ old.left.items ++ r ∷ [] ++ l ∷ [] → new.right.items ≡ old.right.items ++ y ∷ [] → new.common.items ≡ old.common.items → IsMet nodes x y old new None
  met_first x y l r n old new below second is joined left_in right_in left right common =
      let xs : get_or L x [] ++ pending L old.left.items ≡ pending L new.left.items = opened x l r n old.left.items new.left.items below is joined left in
      let ys : get_or L y [] ++ pending L old.right.items ≡ pending L new.right.items = sym (pending_push L old.right.items y) ∙ ap (pending L) (sym right) in
      record {
        tells = record {
          compared_same = λ k. compared (xs k) (ys k);
          common_same = ap (λ (l : List ℕ). written L l ++ common_prefix (get_or L x [] ++ pending L old.left.items) (get_or L y [] ++ pending L old.right.items)) (sym common)
              ∙ (λ k. written L new.common.items ++ common_prefix (xs k) (ys k));
        };
        less =
            let a = opened_work x l r n old.left.items new.left.items below is joined left in
            let b = ap (work W) right in
            let d = work_push W old.right.items y in omega arith;
        left_in = opened_in x l r n old.left.items new.left.items below is joined left left_in;
        right_in = subst (AreIn (length nodes)) (sym right) (in_push (length nodes) old.right.items y right_in second);
      }

  pub met_second : (x y l r : ℕ) (n : Node) (old new : Walk) → x < length nodes → y < length nodes → n ≡ get_or nodes y n → n ≡ Joined l r
      → AreIn (length nodes) old.left.items → AreIn (length nodes) old.right.items
      → new.right.items ≡ old.right.items ++ r ∷ [] ++ l ∷ [] → new.left.items ≡ old.left.items ++ x ∷ [] → new.common.items ≡ old.common.items → IsMet nodes x y old new None
  met_second x y l r n old new first below is joined left_in right_in right left common =
      let xs : get_or L x [] ++ pending L old.left.items ≡ pending L new.left.items = sym (pending_push L old.left.items x) ∙ ap (pending L) (sym left) in
      let ys : get_or L y [] ++ pending L old.right.items ≡ pending L new.right.items = opened y l r n old.right.items new.right.items below is joined right in
      record {
        tells = record {
          compared_same = λ k. compared (xs k) (ys k);
          common_same = ap (λ (l : List ℕ). written L l ++ common_prefix (get_or L x [] ++ pending L old.left.items) (get_or L y [] ++ pending L old.right.items)) (sym common)
              ∙ (λ k. written L new.common.items ++ common_prefix (xs k) (ys k));
        };
        less =
            let a = opened_work y l r n old.right.items new.right.items below is joined right in
            let b = ap (work W) left in
            let d = work_push W old.left.items x in omega arith;
        left_in = subst (AreIn (length nodes)) (sym left) (in_push (length nodes) old.left.items x left_in first);
        right_in = opened_in y l r n old.right.items new.right.items below is joined right right_in;
      }

  pub met_leaves : (x y s t : ℕ) (n m : Node) (old new : Walk) → x < length nodes → y < length nodes → n ≡ get_or nodes x n → n ≡ One s → m ≡ get_or nodes y m → m ≡ One t
      → AreIn (length nodes) old.left.items → AreIn (length nodes) old.right.items
      → (r : Option Compared) → IsLeafStep old x s t new r → IsMet nodes x y old new r
  met_leaves x y s t n m old new first second n_is one m_is two left_in right_in None h =
      let same : get_or L x [] ≡ get_or L y [] = one_list nodes x s n first n_is one ∙ ap (λ a. a ∷ []) h.0 ∙ sym (one_list nodes y t m second m_is two) in
      met_same x y old new first same left_in right_in h.2 h.3 h.1
  met_leaves x y s t n m old new first second n_is one m_is two left_in right_in (Some c) h =
      let pl = pending L old.left.items in
      let pr = pending L old.right.items in
      let xs : get_or L x [] ++ pl ≡ s ∷ pl = ap (λ (l : List ℕ). l ++ pl) (one_list nodes x s n first n_is one) in
      let ys : get_or L y [] ++ pr ≡ t ∷ pr = ap (λ (l : List ℕ). l ++ pr) (one_list nodes y t m second m_is two) in
      record {
        compared_is = h.1 ∙ sym (compared_apart s t pl pr h.0) ∙ sym (λ k. compared (xs k) (ys k));
        common_is = ap (written L) h.2 ∙ sym (append-nil (written L old.common.items))
            ∙ ap (λ (l : List ℕ). written L old.common.items ++ l) (sym (common_apart s t pl pr h.0) ∙ sym (λ k. common_prefix (xs k) (ys k)));
      }

  -- ---- a step

  pub ended_first : (left right before : List ℕ) (c : Compared) → left ≡ [] → AreIn (length nodes) right → IsEnd right c
      → Ends nodes (pending L left) (pending L right) before before c
  ended_first left right before c none within h = record {
    compared_is = at c h ∙ ap (λ (l : List ℕ). compared (pending L l) (pending L right)) (sym none);
    common_is = sym (append-nil (written L before)) ∙ ap (λ (l : List ℕ). written L before ++ common_prefix (pending L l) (pending L right)) (sym none);
  }
    where
      at : (c : Compared) → IsEnd right c → c ≡ compared [] (pending L right)
      at Same h = ap (λ (l : List ℕ). compared [] (pending L l)) (sym h)
      at FirstShorter h = first_shorter (pending L right) (some_pending right within h)
      at SecondShorter h = absurd h
      at Apart h = absurd h

  pub ended_second : (left right before : List ℕ) → 0 < length left → right ≡ [] → AreIn (length nodes) left
      → Ends nodes (pending L left) (pending L right) before before SecondShorter
  ended_second left right before some none within = record {
    compared_is = second_shorter (pending L left) (some_pending left within some) ∙ ap (λ (l : List ℕ). compared (pending L left) (pending L l)) (sym none);
    common_is = sym (append-nil (written L before)) ∙ ap (λ (l : List ℕ). written L before ++ l) (sym (none_common (pending L left)))
        ∙ ap (λ (l : List ℕ). written L before ++ common_prefix (pending L left) (pending L l)) (sym none);
  }

  pub step_met : (x y : ℕ) (left right : List ℕ) (load : ℕ) (mid new : Walk) (r : Option Compared)
      → left ≡ mid.left.items ++ x ∷ [] → right ≡ mid.right.items ++ y ∷ [] → load ≡ work W left + work W right
      → IsMet nodes x y mid new r → IsStep nodes (pending L left) (pending L right) load mid.common.items new r
  step_met x y left right load mid new r l_is r_is load_is met =
      let xs : get_or L x [] ++ pending L mid.left.items ≡ pending L left = sym (pending_push L mid.left.items x) ∙ ap (pending L) (sym l_is) in
      let ys : get_or L y [] ++ pending L mid.right.items ≡ pending L right = sym (pending_push L mid.right.items y) ∙ ap (pending L) (sym r_is) in
      let w : get_or W x 0 + get_or W y 0 + work_left nodes mid ≡ load =
      (let a = ap (work W) l_is in let b = ap (work W) r_is in let d = work_push W mid.left.items x in let e = work_push W mid.right.items y in omega arith) in
      subst (λ n. IsStep nodes (pending L left) (pending L right) n mid.common.items new r) w
      (subst (λ v. IsStep nodes (pending L left) v (get_or W x 0 + get_or W y 0 + work_left nodes mid) mid.common.items new r) ys
      (subst (λ u. IsStep nodes u (get_or L y [] ++ pending L mid.right.items) (get_or W x 0 + get_or W y 0 + work_left nodes mid) mid.common.items new r) xs met))

-- ---- the whole walk

pub tells_more : (nodes : List Node) (xs ys before : List ℕ) (old new : Walk) (load : ℕ) → Tells (lists_of nodes) xs ys before old
    → Passes nodes (pending (lists_of nodes) old.left.items) (pending (lists_of nodes) old.right.items) load old.common.items new → Tells (lists_of nodes) xs ys before new
tells_more nodes xs ys before old new load so passes = record {
  compared_same = so.compared_same ∙ passes.tells.compared_same;
  common_same = so.common_same ∙ passes.tells.common_same;
}
