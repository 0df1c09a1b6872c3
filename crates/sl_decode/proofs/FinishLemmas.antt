-- The late moments over the nodes as they are kept are those over the tree.
use Rattle.std.proofs.Common.{◌≡◌, ℕ, suc, ◌+◌, ◌<◌, ℤ, List, [], ◌∷◌, ◌++◌, length, take}
use Rattle.std.proofs.Common.{drop, get_or, drop-cons, add-one, Result, Ok, Err, refl, sym, ap, ◌∙◌}
use Rattle.std.proofs.Common.{arith, append_assoc, append-nil, length-append, zero-add, add-zero}
use Rattle.sl_decode_contexts.specs.declared.commits.Commit.{Commit}
use Rattle.sl_decode.specs.Finishing.{Kept, Told, begun_of, commits_kept, finish_kept, keep, kept}
use Rattle.sl_decode.specs.Finishing.{roots, told, told_of}
use Rattle.sl_decode.specs.Sprouts.{all_notes, sprout_of, sprouts}
use Rattle.sl_decode.specs.declared.walk.Sprout.{Sprout}
use Rattle.sl_decode.proofs.SproutLemmas.{length_sprouts}
use Rattle.sl_decode_leaves.proofs.RunLemmas.{bind_alike}
use Rattle.sl_decode_meaning.specs.Actions.{Own, own}
use Rattle.sl_decode_meaning.specs.Decoding.{Ended, Input, commits_in, commits_of, ended, finish}
use Rattle.sl_decode_meaning.specs.Decoding.{finish_node, trees_of, values_in}
use Rattle.sl_decode_meaning.specs.Flat.{all_values, entries, entry_of}
use Rattle.sl_decode_meaning.specs.TreeCounts.{count}
use Rattle.sl_decode_meaning.specs.Outcomes.{◌>>=◌, in_turn}
use Rattle.sl_decode_meaning.specs.Trees.{Begun, Node, Trees, lengths_of, none, tree, with_values}
use Rattle.sl_decode_meaning.specs.declared.entries.Entry.{Entry}
use Rattle.sl_decode_meaning.specs.Values.{Site}
use Rattle.sl_decode_meaning.specs.declared.faults.Fault.{Fault}
use Rattle.sl_decode_plan.specs.Plans.{done}
use Rattle.sl_decode_leaves.specs.Looks.{look_step}
use Rattle.sl_decode_plan.specs.Steps.{late_step}
use Rattle.sl_decode_plan.specs.declared.late.Late.{Late}
use Rattle.sl_decode_leaves.specs.declared.looks.Look.{Look}
use Rattle.sl_decode_plan.specs.declared.plans.Plan.{Plan}
use Rattle.sl_spec.specs.declared.tables.Tables.{Tables}
use Rattle.sl_decode_meaning.specs.declared.notes.Noted.{Noted}

-- ---- a node at which nothing is left to do

pub idle_late : (t : Tables) (p : Plan) (s : Site) (notes : List Noted) (commits : List Commit) → (p.looks.items ≡ []) × (p.late ≡ [])
    → told_of ((done t p).late s (own notes [] commits)) ≡ Ok (told [] commits)
idle_late t p s notes commits idle =
    let c : Own = own notes [] commits in
    ap (λ (ls : List Look). told_of (in_turn (look_step t s) ls c >>= in_turn (late_step t s) p.late)) idle.0
    ∙ ap (λ (ls : List Late). told_of (in_turn (late_step t s) ls c)) idle.1

-- ---- fronts of lists

take_front : {A : Type 0} (xs ys : List A) → take (length xs) (xs ++ ys) ≡ xs
take_front [] ys = refl
take_front (x ∷ xs) ys = ap (λ l. x ∷ l) (take_front xs ys)

drop_front : {A : Type 0} (xs ys : List A) → drop (length xs) (xs ++ ys) ≡ ys
drop_front [] ys = refl
drop_front (x ∷ xs) ys = drop_front xs ys

-- ---- the lengths of operands

skip_all : (f : Trees Begun) (n : ℕ) (ss : List Sprout)
    → roots (count f + n) (sprouts f ++ ss) ≡ roots n ss
skip_all none n ss = ap (λ m. roots m ss) (zero-add n)
skip_all (tree b below behind) n ss =
    let next : count (tree b below behind) + n ≡ suc (count below + (count behind + n)) = omega arith in
    ap (λ m. roots m (sprouts (tree b below behind) ++ ss)) next
    ∙ ap (λ l. roots (count below + (count behind + n)) l) (append_assoc (sprouts below) (sprouts behind) ss)
    ∙ skip_all below (count behind + n) (sprouts behind ++ ss) ∙ skip_all behind n ss

root_lengths : (f : Trees Begun) → roots 0 (sprouts f) ≡ lengths_of f
root_lengths none = refl
root_lengths (tree b below behind) =
    ap (λ l. b.length ∷ l) (sym (ap (λ m. roots m (sprouts below ++ sprouts behind)) (add-zero (count below)))
    ∙ skip_all below 0 (sprouts behind) ∙ root_lengths behind)

-- the lengths of a node's operands, which stand first behind it
operand_lengths : (f : Trees Begun) (ss : List Sprout)
    → roots 0 (take (count f) (sprouts f ++ ss)) ≡ lengths_of f
operand_lengths f ss =
    ap (λ n. roots 0 (take n (sprouts f ++ ss))) (sym (length_sprouts f))
    ∙ ap (roots 0) (take_front (sprouts f) ss) ∙ root_lengths f

-- ---- the trees keep their number of nodes

abbrev pub HasCount : ℕ → Result Ended Fault → Type 0
HasCount n (Ok x) = count (trees_of x) ≡ n
HasCount n (Err fault) = Unit {0}

behind_count : (n : Node) (m k : ℕ) (first : Ended) (r : Result Ended Fault) → count (trees_of first) ≡ m
    → HasCount k r → HasCount (1 + (m + k))
    (r >>= λ others. Ok (ended (tree n (trees_of first) (trees_of others)) (commits_of others)))
behind_count n m k first (Ok others) h j =
    ap (λ a. 1 + (a + count (trees_of others))) h ∙ ap (λ b. 1 + (m + b)) j
behind_count n m k first (Err fault) h j = tt

below_count : (n : Node) (m k : ℕ) (r : Result Ended Fault) (f : List Commit → Result Ended Fault)
    → HasCount m r → ((cs : List Commit) → HasCount k (f cs)) → HasCount (1 + (m + k))
    (r >>= λ first. f (commits_of first)
    >>= λ others. Ok (ended (tree n (trees_of first) (trees_of others)) (commits_of others)))
below_count n m k (Ok first) f h j = behind_count n m k first (f (commits_of first)) h (j (commits_of first))
below_count n m k (Err fault) f h j = tt

node_count : (n : Begun) (m k : ℕ) (r : Result Own Fault) (f g : List Commit → Result Ended Fault)
    → ((cs : List Commit) → HasCount m (f cs)) → ((cs : List Commit) → HasCount k (g cs))
    → HasCount (1 + (m + k)) (r >>= λ done. f (commits_in done) >>= λ first. g (commits_of first)
    >>= λ others. Ok (ended (tree (with_values n (values_in done)) (trees_of first) (trees_of others))
    (commits_of others)))
node_count n m k (Ok done) f g h j =
    below_count (with_values n (values_in done)) m k (f (commits_in done)) g (h (commits_in done)) j
node_count n m k (Err fault) f g h j = tt

has_count : (i : Input) (next : ℕ) (f : Trees Begun) (cs : List Commit)
    → HasCount (count f) (finish i next f cs)
unfolding finish
has_count i next none cs = refl
has_count i next (tree n below behind) cs =
    node_count n (count below) (count behind) (finish_node i next n (lengths_of below) cs)
    (finish i next below) (finish i next behind) (has_count i next below) (has_count i next behind)

-- ---- a tree's nodes and notes before others

-- trees behind what is kept
abbrev pub kept_with : Kept → Ended → Kept
kept_with (kept es vs cs) (ended trees ds) =
    kept (es ++ entries (length vs) trees) (vs ++ all_values trees) ds

kept_none : (es : List Entry) (vs : List ℤ) (cs : List Commit)
    → kept es vs cs ≡ kept_with (kept es vs cs) (ended none cs)
kept_none es vs cs =
    sym (ap (λ l. kept l (vs ++ []) cs) (append-nil es) ∙ ap (λ l. kept es l cs) (append-nil vs))

module _ (es : List Entry) (vs ws : List ℤ) (cs : List Commit) (n : Node) (own_values : n.values ≡ ws)
  where
    at_place : (m : ℕ) (u v : Trees Node) (d e : List Commit) → count u ≡ m
        → kept_with (kept_with (kept (es ++ entry_of (length vs) n m ∷ []) (vs ++ ws) cs) (ended u d)) (ended v e)
        ≡ kept_with (kept es vs cs) (ended (tree n u v) e)
    at_place m u v d e counted =
        let first : length (vs ++ ws) ≡ length vs + length n.values =
        length-append vs ws ∙ ap (λ l. length vs + length l) (sym own_values) in
        let then : length (vs ++ ws ++ all_values u) ≡ length vs + length n.values + length (all_values u) =
        length-append (vs ++ ws) (all_values u) ∙ ap (λ k. k + length (all_values u)) first in
        let x = entry_of (length vs) n m in
        let values : vs ++ ws ++ all_values u ++ all_values v ≡ vs ++ (n.values ++ (all_values u ++ all_values v)) =
        append_assoc (vs ++ ws) (all_values u) (all_values v)
        ∙ append_assoc vs ws (all_values u ++ all_values v)
        ∙ ap (λ l. vs ++ (l ++ (all_values u ++ all_values v))) (sym own_values) in
        let nodes : es ++ x ∷ [] ++ entries (length (vs ++ ws)) u ++ entries (length (vs ++ ws ++ all_values u)) v
        ≡ es ++ (entry_of (length vs) n (count u) ∷ (entries (length vs + length n.values) u
        ++ entries (length vs + length n.values + length (all_values u)) v)) =
        append_assoc (es ++ x ∷ []) (entries (length (vs ++ ws)) u) (entries (length (vs ++ ws ++ all_values u)) v)
        ∙ append_assoc es (x ∷ []) (entries (length (vs ++ ws)) u ++ entries (length (vs ++ ws ++ all_values u)) v)
        ∙ ap (λ k. es ++ (x ∷ (entries k u ++ entries (length (vs ++ ws ++ all_values u)) v))) first
        ∙ ap (λ k. es ++ (x ∷ (entries (length vs + length n.values) u ++ entries k v))) then
        ∙ ap (λ k. es ++ (entry_of (length vs) n k ∷ (entries (length vs + length n.values) u
        ++ entries (length vs + length n.values + length (all_values u)) v))) (sym counted) in
        ap (λ l. kept l (vs ++ ws ++ all_values u ++ all_values v) e) nodes
        ∙ ap (λ l. kept (es ++ (entry_of (length vs) n (count u) ∷ (entries (length vs + length n.values) u
        ++ entries (length vs + length n.values + length (all_values u)) v))) l e) values

module _ (g : Kept → Result Kept Fault) where
  after_behind : (n : Node) (ws : List ℤ) → n.values ≡ ws → (m : ℕ) (es : List Entry) (vs : List ℤ)
      (cs ds : List Commit) (first : Ended) (r : Result Ended Fault) → count (trees_of first) ≡ m
      → (r >>= λ others. g (kept_with (kept_with (kept (es ++ entry_of (length vs) n m ∷ []) (vs ++ ws) ds) first) others))
      ≡ ((r >>= λ others. Ok (ended (tree n (trees_of first) (trees_of others)) (commits_of others)))
      >>= λ x. g (kept_with (kept es vs cs) x))
  after_behind n ws is m es vs cs ds (ended u d) (Ok (ended v e)) h =
      ap g (at_place es vs ws ds n is m u v d e h)
  after_behind n ws is m es vs cs ds first (Err fault) h = refl

  after_below : (n : Node) (ws : List ℤ) → n.values ≡ ws → (m : ℕ) (es : List Entry) (vs : List ℤ)
      (cs ds : List Commit) (f : List Commit → Result Ended Fault) (r : Result Ended Fault) → HasCount m r
      → (r >>= λ first. f (commits_of first)
      >>= λ others. g (kept_with (kept_with (kept (es ++ entry_of (length vs) n m ∷ []) (vs ++ ws) ds) first) others))
      ≡ ((r >>= λ first. f (commits_of first)
      >>= λ others. Ok (ended (tree n (trees_of first) (trees_of others)) (commits_of others)))
      >>= λ x. g (kept_with (kept es vs cs) x))
  after_below n ws is m es vs cs ds f (Ok (ended u d)) h =
      after_behind n ws is m es vs cs ds (ended u d) (f d) h
  after_below n ws is m es vs cs ds f (Err fault) h = refl

module _ (i : Input) (next : ℕ) where
  node_done : (n : Begun) (below behind : Trees Begun) (ss : List Sprout) (ns : List Noted)
      (es : List Entry) (vs : List ℤ) (cs : List Commit)
      → ((k : Kept) → finish_kept i next (sprouts below ++ (sprouts behind ++ ss))
      (all_notes below ++ (all_notes behind ++ ns)) k
      ≡ (finish i next below (commits_kept k)
      >>= λ x. finish_kept i next (sprouts behind ++ ss) (all_notes behind ++ ns) (kept_with k x)))
      → ((k : Kept) → finish_kept i next (sprouts behind ++ ss) (all_notes behind ++ ns) k
      ≡ (finish i next behind (commits_kept k) >>= λ x. finish_kept i next ss ns (kept_with k x)))
      → (r : Result Own Fault)
      → (told_of r >>= λ done. finish_kept i next (sprouts below ++ (sprouts behind ++ ss))
      (all_notes below ++ (all_notes behind ++ ns)) (keep (sprout_of n (count below)) done (kept es vs cs)))
      ≡ ((r >>= λ done. finish i next below (commits_in done)
      >>= λ first. finish i next behind (commits_of first)
      >>= λ others. Ok (ended (tree (with_values n (values_in done)) (trees_of first) (trees_of others))
      (commits_of others))) >>= λ x. finish_kept i next ss ns (kept_with (kept es vs cs) x))
  node_done n below behind ss ns es vs cs first then (Ok (own rest ws ds)) =
      let new : Kept = kept (es ++ entry_of (length vs) (with_values n ws) (count below) ∷ []) (vs ++ ws) ds in
      first new
      ∙ bind_alike (finish i next below ds) _ _ (λ x. elim x as (λ x.
      finish_kept i next (sprouts behind ++ ss) (all_notes behind ++ ns) (kept_with new x)
      ≡ (finish i next behind (commits_of x)
      >>= λ y. finish_kept i next ss ns (kept_with (kept_with new x) y)))
      [ ended u d ↦ then (kept_with new (ended u d)) ])
      ∙ after_below (finish_kept i next ss ns) (with_values n ws) ws refl (count below) es vs cs ds
      (finish i next behind) (finish i next below ds) (has_count i next below ds)
  node_done n below behind ss ns es vs cs first then (Err fault) = refl

  pub kept_tree : (f : Trees Begun) (ss : List Sprout) (ns : List Noted) (k : Kept)
      → finish_kept i next (sprouts f ++ ss) (all_notes f ++ ns) k
      ≡ (finish i next f (commits_kept k) >>= λ x. finish_kept i next ss ns (kept_with k x))
  unfolding finish
  kept_tree none ss ns (kept es vs cs) = ap (finish_kept i next ss ns) (kept_none es vs cs)
  kept_tree (tree n below behind) ss ns (kept es vs cs) =
      let s = sprout_of n (count below) in
      let notes = all_notes (tree n below behind) ++ ns in
      let nodes = sprouts below ++ sprouts behind ++ ss in
      let all : notes ≡ n.notes ++ (all_notes below ++ (all_notes behind ++ ns)) =
      append_assoc n.notes (all_notes below ++ all_notes behind) ns
      ∙ ap (λ l. n.notes ++ l) (append_assoc (all_notes below) (all_notes behind) ns) in
      let own_notes : take (length n.notes) notes ≡ n.notes =
      ap (take (length n.notes)) all ∙ take_front n.notes (all_notes below ++ (all_notes behind ++ ns)) in
      let left : drop (length n.notes) notes ≡ all_notes below ++ (all_notes behind ++ ns) =
      ap (drop (length n.notes)) all ∙ drop_front n.notes (all_notes below ++ (all_notes behind ++ ns)) in
      let row : nodes ≡ sprouts below ++ (sprouts behind ++ ss) = append_assoc (sprouts below) (sprouts behind) ss in
      let lengths : roots 0 (take (count below) nodes) ≡ lengths_of below =
      ap (λ l. roots 0 (take (count below) l)) row ∙ operand_lengths below (sprouts behind ++ ss) in
      ap (λ ms. told_of (finish_node i next (begun_of s ms) (roots 0 (take (count below) nodes)) cs)
      >>= λ done. finish_kept i next nodes (drop (length n.notes) notes) (keep s done (kept es vs cs))) own_notes
      ∙ ap (λ ls. told_of (finish_node i next n ls cs)
      >>= λ done. finish_kept i next nodes (drop (length n.notes) notes) (keep s done (kept es vs cs))) lengths
      ∙ ap (λ ms. told_of (finish_node i next n (lengths_of below) cs)
      >>= λ done. finish_kept i next nodes ms (keep s done (kept es vs cs))) left
      ∙ ap (λ l. told_of (finish_node i next n (lengths_of below) cs)
      >>= λ done. finish_kept i next l (all_notes below ++ (all_notes behind ++ ns)) (keep s done (kept es vs cs))) row
      ∙ node_done n below behind ss ns es vs cs
      (kept_tree below (sprouts behind ++ ss) (all_notes behind ++ ns)) (kept_tree behind ss ns)
      (finish_node i next n (lengths_of below) cs)

  -- one more node, as it is kept
  pub one_kept : (ss : List Sprout) (k : ℕ) (s d : Sprout) (rest notes left : List Noted) (below : List Sprout)
      (so_far : Kept) (done : Told) (whole : Result Kept Fault) → k < length ss → s ≡ get_or ss k d
      → finish_kept i next (drop k ss) rest so_far ≡ whole
      → notes ≡ take s.noted rest → left ≡ drop s.noted rest → below ≡ take s.below (drop (k + 1) ss)
      → told_of (finish_node i next (begun_of s notes) (roots 0 below) (commits_kept so_far)) ≡ Ok done
      → finish_kept i next (drop (k + 1) ss) left (keep s done so_far) ≡ whole
  one_kept ss k s d rest notes left below so_far done whole within is are a b c h =
      let ms = drop (k + 1) ss in
      let cut : drop k ss ≡ s ∷ ms = rw add-one (drop-cons ss k d within) ∙ ap (λ x. x ∷ ms) (sym is) in
      let met : told_of (finish_node i next (begun_of s (take s.noted rest)) (roots 0 (take s.below ms)) (commits_kept so_far)) ≡ Ok done =
      ap (λ n. told_of (finish_node i next (begun_of s n) (roots 0 (take s.below ms)) (commits_kept so_far))) (sym a)
      ∙ ap (λ l. told_of (finish_node i next (begun_of s notes) (roots 0 l) (commits_kept so_far))) (sym c) ∙ h in
      ap (λ l. finish_kept i next ms l (keep s done so_far)) b
      ∙ sym (ap (λ r. r >>= λ x. finish_kept i next ms (drop s.noted rest) (keep s x so_far)) met)
      ∙ sym (ap (λ l. finish_kept i next l rest so_far) cut) ∙ are
