-- What nodes come to, one after another.
use Rattle.std.proofs.Common.{◌≡◌, ℕ, zero, suc, ◌+◌, ◌<◌, ◌≤◌, max, ◌⊎◌, inl, inr, List, [], ◌∷◌, ◌++◌, length, get_or, take, drop, refl, sym, ap, ◌∙◌, subst, arith}
use Rattle.std.proofs.lemmas.Bool.{cases_eq}
use Rattle.std.proofs.lemmas.List.{get_or_append_left, get_or_at, length_push, length-append, take-append-drop, length-take-le}
use Rattle.sl_shape_tokens.specs.Nodes.{AreBelow, list_step, lists_of, reach, reckoned}
use Rattle.sl_shape_tokens.specs.Walks.{weight_step, weights_of}
use Rattle.sl_shape_tokens.specs.declared.nodes.Node.{Node}
use Rattle.sl_shape_tokens.specs.declared.nodes.Node.TheVariants.{One, Joined}

module _ {A : Type 0} (step : List A → Node → A) where
  pub reckoned_length : (done : List A) (ns : List Node) → length (reckoned step done ns) ≡ length done + length ns
  reckoned_length done [] = omega arith
  reckoned_length done (n ∷ ns) = reckoned_length (done ++ step done n ∷ []) ns ∙ omega (arith, length_push done (step done n))

  pub reckoned_keeps : (done : List A) (ns : List Node) (i : ℕ) (d : A) → i < length done → get_or (reckoned step done ns) i d ≡ get_or done i d
  reckoned_keeps done [] i d below = refl
  reckoned_keeps done (n ∷ ns) i d below =
      reckoned_keeps (done ++ step done n ∷ []) ns i d (omega (arith, length_push done (step done n)))
      ∙ get_or_append_left done (step done n ∷ []) d i below

  pub reckoned_append : (done : List A) (ms ns : List Node) → reckoned step done (ms ++ ns) ≡ reckoned step (reckoned step done ms) ns
  reckoned_append done [] ns = refl
  reckoned_append done (m ∷ ms) ns = reckoned_append (done ++ step done m ∷ []) ms ns

  reckoned_at : (done : List A) (ns : List Node) (k : ℕ) (n : Node) (d : A) → k < length ns
      → get_or (reckoned step done ns) (length done + k) d ≡ step (reckoned step done (take k ns)) (get_or ns k n)
  reckoned_at done [] k n d below = absurd (omega arith)
  reckoned_at done (m ∷ ns) zero n d below =
      let here : length done + 0 ≡ length done = omega arith in
      ap (λ i. get_or (reckoned step (done ++ step done m ∷ []) ns) i d) here
      ∙ reckoned_keeps (done ++ step done m ∷ []) ns (length done) d (omega (arith, length_push done (step done m)))
      ∙ get_or_at done (step done m) [] d (length done) refl
  reckoned_at done (m ∷ ns) (suc k) n d below =
      let here : length done + suc k ≡ length (done ++ step done m ∷ []) + k = omega (arith, length_push done (step done m)) in
      ap (λ i. get_or (reckoned step (done ++ step done m ∷ []) ns) i d) here
      ∙ reckoned_at (done ++ step done m ∷ []) ns k n d (omega arith)

  -- the value at a node, from the values of those before it
  pub value_at : (ns : List Node) (k : ℕ) (n : Node) (d : A) → k < length ns
      → get_or (reckoned step [] ns) k d ≡ step (reckoned step [] (take k ns)) (get_or ns k n)
  value_at ns k n d below =
      let here : k ≡ 0 + k = omega arith in
      ap (λ i. get_or (reckoned step [] ns) i d) here ∙ reckoned_at [] ns k n d below

  -- a value among the first ones
  pub value_before : (ns : List Node) (k i : ℕ) (d : A) → i < k → k ≤ length ns
      → get_or (reckoned step [] (take k ns)) i d ≡ get_or (reckoned step [] ns) i d
  value_before ns k i d below within =
      let long : length (reckoned step [] (take k ns)) ≡ k = reckoned_length [] (take k ns) ∙ omega (arith, length-take-le k ns within) in
      sym (ap (λ l. get_or (reckoned step [] l) i d) (sym (take-append-drop k ns))
      ∙ ap (λ l. get_or l i d) (reckoned_append [] (take k ns) (drop k ns))
      ∙ reckoned_keeps (reckoned step [] (take k ns)) (drop k ns) i d (omega (arith, long)))

pub lists_length : (ns : List Node) → length (lists_of ns) ≡ length ns
unfolding lists_of
lists_length ns = reckoned_length list_step [] ns ∙ omega arith

-- the list of a node, by what the node is
pub one_list : (ns : List Node) (i t : ℕ) (n : Node) → i < length ns → n ≡ get_or ns i n → n ≡ One t → get_or (lists_of ns) i [] ≡ t ∷ []
unfolding lists_of
one_list ns i t n below is one = value_at list_step ns i n [] below ∙ ap (list_step (reckoned list_step [] (take i ns))) (sym is ∙ one)

pub joined_reach : (ns : List Node) (i l r : ℕ) (n : Node) → AreBelow ns → i < length ns → n ≡ get_or ns i n → n ≡ Joined l r → (l < i) × (r < i)
joined_reach ns i l r n are below is joined =
    let h = are i n below in
    let e : reach (get_or ns i n) ≡ 1 + max l r = ap reach (sym is ∙ joined) in
    (omega arith, omega arith)

pub joined_list : (ns : List Node) (i l r : ℕ) (n : Node) → AreBelow ns → i < length ns → n ≡ get_or ns i n → n ≡ Joined l r
    → get_or (lists_of ns) i [] ≡ get_or (lists_of ns) l [] ++ get_or (lists_of ns) r []
unfolding lists_of
joined_list ns i l r n are below is joined =
    let before = joined_reach ns i l r n are below is joined in
    value_at list_step ns i n [] below ∙ ap (list_step (reckoned list_step [] (take i ns))) (sym is ∙ joined)
    ∙ ap (λ x. x ++ get_or (reckoned list_step [] (take i ns)) r []) (value_before list_step ns i l [] before.0 (omega arith))
    ∙ ap (λ x. get_or (reckoned list_step [] ns) l [] ++ x) (value_before list_step ns i r [] before.1 (omega arith))

pub one_weight : (ns : List Node) (i t : ℕ) (n : Node) → i < length ns → n ≡ get_or ns i n → n ≡ One t → get_or (weights_of ns) i 0 ≡ 1
unfolding weights_of
one_weight ns i t n below is one = value_at weight_step ns i n 0 below ∙ ap (weight_step (reckoned weight_step [] (take i ns))) (sym is ∙ one)

pub joined_weight : (ns : List Node) (i l r : ℕ) (n : Node) → AreBelow ns → i < length ns → n ≡ get_or ns i n → n ≡ Joined l r
    → get_or (weights_of ns) i 0 ≡ 1 + (get_or (weights_of ns) l 0 + get_or (weights_of ns) r 0)
unfolding weights_of
joined_weight ns i l r n are below is joined =
    let before = joined_reach ns i l r n are below is joined in
    value_at weight_step ns i n 0 below ∙ ap (weight_step (reckoned weight_step [] (take i ns))) (sym is ∙ joined)
    ∙ ap (λ x. 1 + (x + get_or (reckoned weight_step [] (take i ns)) r 0)) (value_before weight_step ns i l 0 before.0 (omega arith))
    ∙ ap (λ x. 1 + (get_or (reckoned weight_step [] ns) l 0 + x)) (value_before weight_step ns i r 0 before.1 (omega arith))

pub lt_or_same : (a b : ℕ) → a < b + 1 → (a < b) ⊎ (a ≡ b)
lt_or_same a b h = elim (cases_eq a b) [ inl same ↦ inr same | inr other ↦ inl (omega arith) ]

-- what holds of each value whose node names earlier ones alone
values_all : {A : Type 0} (step : List A → Node → A) (P : A → Type 0) (d : A)
    → ((done : List A) (n : Node) → reach n ≤ length done → ((i : ℕ) → i < length done → P (get_or done i d)) → P (step done n))
    → (done : List A) (ns : List Node) → ((k : ℕ) (e : Node) → k < length ns → reach (get_or ns k e) ≤ length done + k) → ((i : ℕ) → i < length done → P (get_or done i d))
    → (i : ℕ) → i < length done + length ns → P (get_or (reckoned step done ns) i d)
values_all step P d each done [] are so i below = so i (omega arith)
values_all {A} step P d each done (n ∷ ns) are so i below =
    let long = length_push done (step done n) in
    values_all step P d each (done ++ step done n ∷ []) ns (λ k e b. let h = are (suc k) e (omega arith) in omega (arith, long)) next i (omega (arith, long))
  where
    pushed : (x : A) → P x → (j : ℕ) → j < length done + 1 → (j < length done → P (get_or done j d)) → P (get_or (done ++ x ∷ []) j d)
    pushed x p j b before = elim (lt_or_same j (length done) b) [
      | inl less ↦ subst P (sym (get_or_append_left done (x ∷ []) d j less)) (before less)
      | inr same ↦ subst P (sym (get_or_at done x [] d j (sym same))) p
    ]

    next : (j : ℕ) → j < length (done ++ step done n ∷ []) → P (get_or (done ++ step done n ∷ []) j d)
    next j b = pushed (step done n) (each done n (let h = are 0 n (omega arith) in omega arith) so) j (omega (arith, length_push done (step done n))) (so j)

-- no list is empty
pub some_token : (ns : List Node) (i : ℕ) → AreBelow ns → i < length ns → 0 < length (get_or (lists_of ns) i [])
unfolding lists_of
some_token ns i are below =
    values_all list_step (λ l. 0 < length l) [] each [] ns (λ k e b. let h = are k e b in omega arith) (λ j b. absurd (omega arith)) i (omega arith)
  where
    each : (done : List (List ℕ)) (n : Node) → reach n ≤ length done → ((j : ℕ) → j < length done → 0 < length (get_or done j [])) → 0 < length (list_step done n)
    each done (One t) within so = omega arith
    each done (Joined l r) within so =
        let a = so l (omega arith) in
        let e = length-append (get_or done l []) (get_or done r []) in omega arith

pub some_weight : (ns : List Node) (i : ℕ) → AreBelow ns → i < length ns → 0 < get_or (weights_of ns) i 0
unfolding weights_of
some_weight ns i are below =
    values_all weight_step (λ w. 0 < w) 0 each [] ns (λ k e b. let h = are k e b in omega arith) (λ j b. absurd (omega arith)) i (omega arith)
  where
    each : (done : List ℕ) (n : Node) → reach n ≤ length done → ((j : ℕ) → j < length done → 0 < get_or done j 0) → 0 < weight_step done n
    each done (One t) within so = omega arith
    each done (Joined l r) within so = omega arith
