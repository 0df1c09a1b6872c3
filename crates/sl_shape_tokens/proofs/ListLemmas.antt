-- Lists as they are added, and as they are found.
use Rattle.std.proofs.Common.{◌≡◌, ℕ, ◌+◌, ◌<◌, ◌≤◌, inl, inr, ◌==◌, Bool, true, false, cond, List, [], ◌∷◌, ◌++◌, length, get_or, Option, Some, None, refl, sym, ap, ◌∙◌, subst, arith}
use Rattle.std.specs.Prelude.{nat_lt, IfSome}
use Rattle.std.proofs.lemmas.List.{append_assoc, get_or_append_left, get_or_at, get_or_past, length_push}
use Rattle.sl_shape_tokens.specs.Comparing.{common_prefix, compared}
use Rattle.sl_shape_tokens.specs.Lists.{IsAmong, Keeps, limited, list_at}
use Rattle.sl_shape_tokens.specs.Nodes.{AreBelow, list_step, lists_of, reach}
use Rattle.sl_shape_tokens.specs.Walks.{IsSplit}
use Rattle.sl_shape_tokens.specs.declared.nodes.Node.{Node}
use Rattle.sl_shape_tokens.specs.declared.shapes.Compared.{Compared}
use Rattle.sl_shape_tokens.specs.declared.shapes.Compared.TheVariants.{Same, FirstShorter, SecondShorter, Apart}
use Rattle.sl_shape_tokens.specs.declared.walking.Split.{Split}
use Rattle.sl_shape_tokens.proofs.NodeLemmas.{lists_length, lt_or_same, reckoned_append, some_token}

pub no_lists : lists_of [] ≡ []
unfolding lists_of
no_lists = refl

push_lists : (ns : List Node) (n : Node) → lists_of (ns ++ n ∷ []) ≡ lists_of ns ++ list_step (lists_of ns) n ∷ []
unfolding lists_of
push_lists ns n = reckoned_append list_step [] ns (n ∷ [])

module _ (ns : List Node) (n : Node) (now : List (List ℕ)) (items : List Node) (are : lists_of ns ≡ now) (pushed : items ≡ ns ++ n ∷ []) where
  added : lists_of items ≡ now ++ list_step now n ∷ []
  added = ap lists_of pushed ∙ push_lists ns n ∙ ap (λ l. l ++ list_step l n ∷ []) are

  long : length now ≡ length ns
  long = ap (λ (l : List (List ℕ)). length l) (sym are) ∙ lists_length ns

  pub added_keeps : Keeps now (lists_of items)
  added_keeps = record { more = list_step now n ∷ []; is = added }

  pub added_there : (number : ℕ) → number ≡ length ns → number < length (lists_of items)
  added_there number e =
      let a = ap (λ (l : List (List ℕ)). length l) added in
      let b = length_push now (list_step now n) in
      let d = long in omega arith

  pub added_list : (number : ℕ) → number ≡ length ns → get_or (lists_of items) number [] ≡ list_step now n
  added_list number e = ap (λ l. get_or l number []) added ∙ get_or_at now (list_step now n) [] [] number (long ∙ sym e)

pub added_below : (ns : List Node) (n : Node) (items : List Node) → items ≡ ns ++ n ∷ [] → AreBelow ns → reach n ≤ length ns → AreBelow items
added_below ns n items pushed are within = λ i d below.
    let b : i < length ns + 1 = omega (arith, ap (λ (l : List Node). length l) pushed, length_push ns n) in
    subst (λ (l : List Node). reach (get_or l i d) ≤ i) (sym pushed) (elim (lt_or_same i (length ns) b) [
      | inl less ↦ subst (λ x. reach x ≤ i) (sym (get_or_append_left ns (n ∷ []) d i less)) (are i d less)
      | inr same ↦ subst (λ x. reach x ≤ i) (sym (get_or_at ns n [] d i (sym same))) (omega (arith, same))
    ])

-- ---- what is found

limit_test : (i n : ℕ) → nat_lt i n ≡ true → i < n
limit_test i n e = grind arith

limit_past : (i n : ℕ) → nat_lt i n ≡ false → n ≤ i
limit_past i n e = grind arith

limited_by : (lists : List (List ℕ)) (i : ℕ) (b : _) → nat_lt i (length lists) ≡ b
    → (list_at lists (cond b (Some i) None) ≡ get_or lists i []) × IsAmong lists (cond b (Some i) None)
limited_by lists i true e = (refl, limit_test i (length lists) e)
limited_by lists i false e = (sym (get_or_past lists i [] (limit_past i (length lists) e)), tt)

pub limited_same : (lists : List (List ℕ)) (l : Option ℕ) → list_at lists (limited (length lists) l) ≡ list_at lists l
limited_same lists None = refl
limited_same lists (Some i) = (limited_by lists i (nat_lt i (length lists)) refl).0

pub limited_there : (lists : List (List ℕ)) (l : Option ℕ) → IsAmong lists (limited (length lists) l)
limited_there lists None = tt
limited_there lists (Some i) = (limited_by lists i (nat_lt i (length lists)) refl).1

-- a list among those of nodes has a token
pub some_full : (ns : List Node) (lists : List (List ℕ)) → lists_of ns ≡ lists → AreBelow ns → (r : Option ℕ) → IsAmong lists r → IfSome r (λ _. 0 < length (list_at lists r))
some_full ns lists are below None among = tt
some_full ns lists are below (Some i) among =
    subst (λ (l : List (List ℕ)). 0 < length (get_or l i [])) are (some_token ns i below (omega (arith, lists_length ns, ap (λ (l : List (List ℕ)). length l) are)))

-- ---- lists that stay

pub keeps_more : (a b c : List (List ℕ)) → Keeps a b → Keeps b c → Keeps a c
keeps_more a b c ab bc = record { more = ab.more ++ bc.more; is = bc.is ∙ ap (λ (l : List (List ℕ)). l ++ bc.more) ab.is ∙ append_assoc a ab.more bc.more }

pub keeps_at : (old now : List (List ℕ)) → Keeps old now → (l : Option ℕ) → IsAmong old l → list_at now l ≡ list_at old l
keeps_at old now keeps None among = refl
keeps_at old now keeps (Some i) among = ap (λ (l : List (List ℕ)). get_or l i []) keeps.is ∙ get_or_append_left old keeps.more [] i among

-- a number below the first length means the list that it meant
pub keeps_limited : (old now : List (List ℕ)) → Keeps old now → (l : Option ℕ) → list_at now (limited (length old) l) ≡ list_at old l
keeps_limited old now keeps l = keeps_at old now keeps (limited (length old) l) (limited_there old l) ∙ limited_same old l

-- ---- the common beginning

same_numbers : (a b : ℕ) → (a == b) ≡ true → a ≡ b
same_numbers a b e = grind arith

-- The first list is the other or its beginning.
abbrev pub IsFirst : Compared → Type 0
IsFirst Same = Unit {0}
IsFirst FirstShorter = Unit {0}
IsFirst SecondShorter = ⊥
IsFirst Apart = ⊥

first_step : (x y : ℕ) (xs ys : List ℕ) (b : Bool) → (IsFirst (compared xs ys) → common_prefix xs ys ≡ xs)
    → IsFirst (cond b (compared xs ys) Apart) → cond b (x ∷ common_prefix xs ys) [] ≡ x ∷ xs
first_step x y xs ys true rest h = ap (λ l. x ∷ l) (rest h)
first_step x y xs ys false rest h = absurd h

pub first_common : (xs ys : List ℕ) → IsFirst (compared xs ys) → common_prefix xs ys ≡ xs
first_common [] ys h = refl
first_common (x ∷ xs) [] h = absurd h
first_common (x ∷ xs) (y ∷ ys) h = first_step x y xs ys (x == y) (first_common xs ys) h

-- The second list is the beginning of the first.
abbrev pub IsSecond : Compared → Type 0
IsSecond Same = ⊥
IsSecond FirstShorter = ⊥
IsSecond SecondShorter = Unit {0}
IsSecond Apart = ⊥

second_step : (x y : ℕ) (xs ys : List ℕ) (b : Bool) → (x == y) ≡ b → (IsSecond (compared xs ys) → common_prefix xs ys ≡ ys)
    → IsSecond (cond b (compared xs ys) Apart) → cond b (x ∷ common_prefix xs ys) [] ≡ y ∷ ys
second_step x y xs ys true e rest h = λ k. same_numbers x y e k ∷ rest h k
second_step x y xs ys false e rest h = absurd h

pub second_common : (xs ys : List ℕ) → IsSecond (compared xs ys) → common_prefix xs ys ≡ ys
second_common [] [] h = refl
second_common [] (y ∷ ys) h = absurd h
second_common (x ∷ xs) [] h = refl
second_common (x ∷ xs) (y ∷ ys) h = second_step x y xs ys (x == y) refl (second_common xs ys) h

-- what was found of nodes is found of the lists
module _ (ns ms : List Node) (now : List (List ℕ)) (x y : ℕ) (f : Split) (same : ms ≡ ns) (are : lists_of ns ≡ now)
    (split : IsSplit (lists_of ms) (get_or (lists_of ms) x []) (get_or (lists_of ms) y []) f) where
  split_seen : IsSplit now (get_or now x []) (get_or now y []) f
  split_seen = subst (λ (l : List (List ℕ)). IsSplit l (get_or l x []) (get_or l y []) f) (ap lists_of same ∙ are) split

  pub first_of : (c : Compared) → f.compared ≡ c → IsFirst c → get_or now x [] ≡ common_prefix (get_or now x []) (get_or now y [])
  first_of c e h = sym (first_common (get_or now x []) (get_or now y []) (subst IsFirst (sym e ∙ split_seen.compared_is) h))

  pub second_of : (c : Compared) → f.compared ≡ c → IsSecond c → get_or now y [] ≡ common_prefix (get_or now x []) (get_or now y [])
  second_of c e h = sym (second_common (get_or now x []) (get_or now y []) (subst IsSecond (sym e ∙ split_seen.compared_is) h))
