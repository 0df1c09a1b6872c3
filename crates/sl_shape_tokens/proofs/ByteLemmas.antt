-- The bytes of lists, node after node.
use Rattle.std.proofs.Common.{◌≡◌, ℕ, zero, suc, ◌+◌, ◌<◌, ◌≤◌, min, List, [], ◌∷◌, ◌++◌, length, get_or, map, take, refl, sym, ap, ◌∙◌, arith}
use Rattle.std.specs.Prelude.{sum_by}
use Rattle.std.proofs.lemmas.List.{get_or-take, map_push, take_all, take_more}
use Rattle.std.proofs.lemmas.List.Sums.{sum_by-append, sum_by-cons}
use Rattle.sl_shape_tokens.specs.Bytes.{bytes_of, capped_sum, cost, most_bytes}
use Rattle.sl_shape_tokens.specs.Nodes.{AreBelow, lists_of}
use Rattle.sl_shape_tokens.specs.declared.nodes.Node.{Node}
use Rattle.sl_shape_tokens.specs.declared.nodes.Node.TheVariants.{One, Joined}
use Rattle.sl_shape_tokens.proofs.NodeLemmas.{joined_list, joined_reach, lists_length, one_list}

get_map : {A B : Type 0} (f : A → B) (xs : List A) (i : ℕ) (d : A) → get_or (map f xs) i (f d) ≡ f (get_or xs i d)
get_map f [] i d = refl
get_map f (x ∷ xs) zero d = refl
get_map f (x ∷ xs) (suc i) d = get_map f xs i d

capped_twice : (m n : ℕ) → min (m + n) most_bytes ≡ min (min m most_bytes + min n most_bytes) most_bytes
capped_twice m n = omega arith

both_bytes : (sizes xs ys : List ℕ) → bytes_of sizes (xs ++ ys) ≡ capped_sum (bytes_of sizes xs) (bytes_of sizes ys)
both_bytes sizes xs ys =
    ap (λ n. min n most_bytes) (sum_by-append (λ t. get_or sizes t 0) xs ys)
    ∙ capped_twice (sum_by (λ t. get_or sizes t 0) xs) (sum_by (λ t. get_or sizes t 0) ys)

one_bytes : (sizes : List ℕ) (t : ℕ) → bytes_of sizes (t ∷ []) ≡ capped_sum (get_or sizes t 0) 0
one_bytes sizes t = ap (λ n. min n most_bytes) (sum_by-cons (λ u. get_or sizes u 0) t [])

module _ (ns : List Node) (lists : List (List ℕ)) (are : lists_of ns ≡ lists) (below : AreBelow ns) (sizes known : List ℕ) (i : ℕ) (within : i < length ns)
    (so_far : known ≡ map (bytes_of sizes) (take i lists)) where
  known_at : (j : ℕ) → j < i → get_or known j 0 ≡ bytes_of sizes (get_or lists j [])
  known_at j before =
      ap (λ l. get_or l j 0) so_far ∙ get_map (bytes_of sizes) (take i lists) j []
      ∙ ap (bytes_of sizes) (get_or-take i lists j [] before)

  list_there : (j : ℕ) → get_or (lists_of ns) j [] ≡ get_or lists j []
  list_there j = ap (λ (l : List (List ℕ)). get_or l j []) are

  pub node_bytes : (n : Node) → n ≡ get_or ns i n → cost sizes known n ≡ bytes_of sizes (get_or lists i [])
  node_bytes (One t) is =
      sym (one_bytes sizes t) ∙ ap (bytes_of sizes) (sym (one_list ns i t (One t) within is refl) ∙ list_there i)
  node_bytes (Joined l r) is =
      let before = joined_reach ns i l r (Joined l r) below within is refl in
      (λ k. capped_sum (known_at l before.0 k) (known_at r before.1 k))
      ∙ sym (both_bytes sizes (get_or lists l []) (get_or lists r []))
      ∙ ap (bytes_of sizes) (sym (joined_list ns i l r (Joined l r) below within is refl ∙ (λ k. list_there l k ++ list_there r k)) ∙ list_there i)

  -- one node more is known
  pub knows_more : (n : Node) (new : List ℕ) → n ≡ get_or ns i n → new ≡ known ++ cost sizes known n ∷ [] → new ≡ map (bytes_of sizes) (take (i + 1) lists)
  knows_more n new is pushed =
      pushed ∙ (λ k. so_far k ++ node_bytes n is k ∷ [])
      ∙ sym (ap (map (bytes_of sizes)) (take_more lists i [] (let a = lists_length ns in let b = ap (λ (l : List (List ℕ)). length l) are in omega arith))
      ∙ map_push (bytes_of sizes) (take i lists) (get_or lists i []))

-- at the end all are known
pub knows_all : (sizes known : List ℕ) (lists : List (List ℕ)) (i : ℕ) → length lists ≤ i → known ≡ map (bytes_of sizes) (take i lists) → known ≡ map (bytes_of sizes) lists
knows_all sizes known lists i end so = so ∙ ap (map (bytes_of sizes)) (take_all i lists end)
