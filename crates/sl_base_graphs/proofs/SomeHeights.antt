-- Where no node reaches itself there are heights: along each edge fewer nodes are reached.
use Rattle.std.proofs.Common.{◌≡◌, ℕ, zero, suc, ◌+◌, ◌<◌, ◌≤◌, inl, inr, Bool, true, false, cond, List, length, get_or, map, refl, sym, ap, ◌∙◌, arith}
use Rattle.std.specs.List.{Contains, range_with_len}
use Rattle.std.proofs.lemmas.Bool.{cases_eq, false≢true}
use Rattle.std.proofs.lemmas.List.{get_or_past}
use Rattle.sl_base_graphs.specs.Heights.{AreHeights, above}
use Rattle.sl_base_graphs.proofs.HeightLemmas.{above_same, below_or_past, rounds_zero}
use Rattle.sl_base_graphs.specs.Levels.{level}
use Rattle.sl_base_graphs.specs.Orders.{NoneReaches}
use Rattle.sl_base_graphs.specs.Reaching.{Graph, direct, further, reaches_over, successors}
use Rattle.sl_base_graphs.proofs.Closure.{finds_reached, is_reached}

-- ---- how many numbers pass

-- how many numbers below the bound pass
abbrev tally : (ℕ → Bool) → ℕ → ℕ
tally f zero = 0
tally f (suc n) = cond (f n) 1 0 + tally f n

one_bound : (b : Bool) (m n : ℕ) → m ≤ n → cond b 1 0 + m ≤ suc n
one_bound true m n le = omega (arith, le)
one_bound false m n le = omega (arith, le)

tally_bound : (f : ℕ → Bool) (n : ℕ) → tally f n ≤ n
tally_bound f zero = omega arith
tally_bound f (suc n) = one_bound (f n) (tally f n) n (tally_bound f n)

one_more : (a b : Bool) (m n : ℕ) → (a ≡ true → b ≡ true) → m ≤ n → cond a 1 0 + m ≤ cond b 1 0 + n
one_more true true m n so le = omega (arith, le)
one_more true false m n so le = absurd (false≢true (so refl))
one_more false true m n so le = omega (arith, le)
one_more false false m n so le = omega (arith, le)

one_less : (a b : Bool) (m n : ℕ) → (a ≡ true → b ≡ true) → m < n → cond a 1 0 + m < cond b 1 0 + n
one_less true true m n so less = omega (arith, less)
one_less true false m n so less = absurd (false≢true (so refl))
one_less false true m n so less = omega (arith, less)
one_less false false m n so less = omega (arith, less)

here_less : (a b : Bool) (m n : ℕ) → a ≡ false → b ≡ true → m ≤ n → cond a 1 0 + m < cond b 1 0 + n
here_less true b m n off on le = absurd (false≢true (sym off))
here_less false true m n off on le = omega (arith, le)
here_less false false m n off on le = absurd (false≢true on)

module _ (f g : ℕ → Bool) (so : (x : ℕ) → f x ≡ true → g x ≡ true) where
  tally_le : (n : ℕ) → tally f n ≤ tally g n
  tally_le zero = omega arith
  tally_le (suc n) = one_more (f n) (g n) (tally f n) (tally g n) (so n) (tally_le n)

  tally_less : (n x : ℕ) → x < n → f x ≡ false → g x ≡ true → tally f n < tally g n
  tally_less zero x below off on = absurd (omega arith)
  tally_less (suc n) x below off on = elim (cases_eq x n) [
    | inl at ↦ here_less (f n) (g n) (tally f n) (tally g n) (ap f (sym at) ∙ off) (ap g (sym at) ∙ on) (tally_le n)
    | inr other ↦ one_less (f n) (g n) (tally f n) (tally g n) (so n) (tally_less n x (omega (arith, below, other)) off on)
  ]

-- ---- a function read off a list of its values

read_range : (f : ℕ → ℕ) (n k v : ℕ) → v < n → get_or (map f (range_with_len k n)) v 0 ≡ f (k + v)
read_range f zero k v below = absurd (omega arith)
read_range f (suc n) k zero below = ap f (omega arith)
read_range f (suc n) k (suc v) below = read_range f n (k + 1) v (omega arith) ∙ ap f (omega arith)

length_range : (f : ℕ → ℕ) (n k : ℕ) → length (map f (range_with_len k n)) ≡ n
length_range f zero k = refl
length_range f (suc n) k = let rest = length_range f n (k + 1) in omega (arith, rest)

-- ---- heights

module _ (graph : Graph) (none : NoneReaches graph) where
  abbrev reached : ℕ → ℕ
  reached v = tally (λ x. reaches_over graph (length graph) v x) (length graph)

  lower : (v w : ℕ) → Contains (successors graph v) w → w < length graph → reached w < reached v
  lower v w c inside = tally_less (λ x. reaches_over graph (length graph) w x) (λ x. reaches_over graph (length graph) v x)
      (λ x h. finds_reached graph v x (further c (is_reached graph (length graph) w x h)))
      (length graph) w inside (none w inside) (finds_reached graph v w (direct c))

  abbrev rounds : ℕ → ℕ → ℕ
  rounds k v = level above (successors graph) k v

  -- a node has its height from so many rounds on
  settled : (k v : ℕ) → reached v < k → rounds (suc k) v ≡ rounds k v
  unfolding level
  settled zero v below = absurd (omega arith)
  settled (suc k) v below = above_same (rounds (suc k)) (rounds k) (successors graph v) (λ w c. elim (below_or_past w (length graph)) [
    | inl inside ↦ let less = lower v w c inside in settled k w (omega (arith, less, below))
    | inr past ↦ rounds_zero graph (suc k) w past ∙ sym (rounds_zero graph k w past)
  ])

  abbrev most : ℕ
  most = suc (length graph)

  abbrev found : List ℕ
  found = map (rounds most) (range_with_len 0 (length graph))

  right : (v : ℕ) → get_or found v 0 ≡ rounds most v
  right v = elim (below_or_past v (length graph)) [
    | inl inside ↦ read_range (rounds most) (length graph) 0 v inside ∙ ap (rounds most) (omega arith)
    | inr past ↦
        let long = length_range (rounds most) (length graph) 0 in
        get_or_past found v 0 (omega (arith, past, long)) ∙ sym (rounds_zero graph most v past)
  ]

  meets : (v : ℕ) → rounds (suc most) v ≡ above (λ w. get_or found w 0) (successors graph v)
  unfolding level
  meets v = sym (above_same (λ w. get_or found w 0) (rounds most) (successors graph v) (λ w c. right w))

  pub some_heights : (heights : List ℕ) × AreHeights graph heights
  some_heights = (
    found,
    record {
      counted = length_range (rounds most) (length graph) 0;
      each = λ v inside.
          let few = tally_bound (λ x. reaches_over graph (length graph) v x) (length graph) in
          right v ∙ sym (settled most v (omega (arith, few))) ∙ meets v;
    },
  )
