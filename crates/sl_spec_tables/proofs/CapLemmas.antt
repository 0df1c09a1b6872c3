-- Numbers up to a cap.
use Rattle.std.proofs.Common.{◌≡◌, ℕ, suc, ◌+◌, ◌<◌, ◌≤◌, max, min, List, [], ◌∷◌, length, get_or, drop, map, refl, sym, ap, ◌∙◌, arith}
use Rattle.std.proofs.lemmas.List.{drop_more, drop_all}
use Rattle.sl_spec_tables.specs.Lengths.{put_together}

-- what comes of two numbers up to a cap depends on them up to the cap
abbrev pub Keeps : ℕ → (ℕ → ℕ → ℕ) → Type 0
Keeps cap f = (a b m n : ℕ) → min a cap ≡ min b cap → min m cap ≡ min n cap → min (f a m) cap ≡ min (f b n) cap

pub max_keeps : (cap : ℕ) → Keeps cap max
max_keeps cap a b m n h e = omega arith

pub min_keeps : (cap : ℕ) → Keeps cap min
min_keeps cap a b m n h e = omega arith

pub sum_keeps : (cap : ℕ) → Keeps cap (λ a b. a + b)
sum_keeps cap a b m n h e = omega arith

module _ (cap : ℕ) (f : ℕ → ℕ → ℕ) (keeps : Keeps cap f) where
  pub together_alike : (a b : ℕ) (ns : List ℕ) → min a cap ≡ min b cap → min (put_together f a ns) cap ≡ min (put_together f b ns) cap
  together_alike a b [] h = h
  together_alike a b (n ∷ ns) h = together_alike (f a n) (f b n) ns (keeps a b n n h refl)

  -- lists of numbers that are made alike
  pub maps_alike : {X : Type 0} (p q : X → ℕ) (xs : List X) (a b : ℕ) → ((k : ℕ) (d : X) → k < length xs → min (p (get_or xs k d)) cap ≡ min (q (get_or xs k d)) cap)
      → min a cap ≡ min b cap → min (put_together f a (map p xs)) cap ≡ min (put_together f b (map q xs)) cap
  maps_alike p q [] a b each h = h
  maps_alike p q (x ∷ xs) a b each h = maps_alike p q xs (f a (p x)) (f b (q x)) (λ k d below. each (suc k) d (omega arith)) (keeps a b (p x) (q x) h (each 0 x (omega arith)))

  -- one number more
  pub one_together : (whole most next n k : ℕ) (ns : List ℕ) (i : ℕ) → i < length ns → n ≡ get_or ns i n → k ≡ min n cap → min next cap ≡ min (f most k) cap
      → min (put_together f most (drop i ns)) cap ≡ whole → min (put_together f next (drop (i + 1) ns)) cap ≡ whole
  one_together whole most next n k ns i below at is_k is_next so_far =
      let rest : drop i ns ≡ n ∷ drop (i + 1) ns = drop_more ns i n below ∙ ap (λ (x : ℕ). x ∷ drop (i + 1) ns) (sym at) in
      together_alike next (f most n) (drop (i + 1) ns) (is_next ∙ keeps most most k n refl (omega arith)) ∙ sym (ap (λ l. min (put_together f most l) cap) rest) ∙ so_far

  pub all_together : (whole most : ℕ) (ns : List ℕ) (i : ℕ) → length ns ≤ i → min (put_together f most (drop i ns)) cap ≡ whole → min most cap ≡ whole
  all_together whole most ns i end so_far = ap (λ l. min (put_together f most l) cap) (sym (drop_all i ns end)) ∙ so_far

-- the first two may be put together before the others
pub together_first : (m n : ℕ) (ns : List ℕ) → put_together max (max m n) ns ≡ max m (put_together max n ns)
together_first m n [] = refl
together_first m n (x ∷ xs) = ap (λ k. put_together max k xs) (let e : max (max m n) x ≡ max m (max n x) = omega arith in e) ∙ together_first m (max n x) xs
