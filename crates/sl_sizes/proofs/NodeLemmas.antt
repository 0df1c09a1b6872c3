-- Lists of nodes: what a function writes into them, and what they say of the assignments.
use Rattle.std.proofs.Common.{◌≡◌, ◌≢◌, ◌↔◌, ℕ, ◌+◌, ◌-◌, ◌<◌, ◌≤◌, ◌⊎◌, inl, inr, Bool, true, false, below_more, MatchBool, MatchOption, Option, Some, None, eqb, List, [], ◌∷◌, ◌++◌, length, set, max, min, arith, sym, ◌∙◌, ap, refl, subst}
use Rattle.std.proofs.lemmas.Grind.{common_steps}
use Rattle.std.proofs.lemmas.Bool.{false≢true}
use Rattle.std.proofs.lemmas.Bool.Decides.{eqb_tells}
use Rattle.std.proofs.lemmas.List.{get_or-set_same, get_or-set_other, length-set}
use Rattle.std.specs.Option.{IsSome, IfSome}
use Rattle.sl_word.specs.declared.word.Size.{Size}
use Rattle.sl_sizes.specs.declared.nodes.Node.{Node}
use Rattle.sl_sizes.specs.Solutions.{bytes_at}
use Rattle.sl_sizes.specs.Nodes.{node_of, single, AllowsAt, Allows, IsRoot, IsInRange, AreTrees, Restricts, Refutes, IsPlace, IsFixed, IsOpen, StandFor}
use Rattle.sl_sizes.proofs.TreeLemmas.{Tightens, IsNarrower, joined, tightened, tightened_allows, each_but, some_allowed, in_bounds}

abbrev pub zeros : Node
zeros = record { parent = 0; shift = 0; least = 0; greatest = 0; rank = 0 }

-- ---- properties of assignments that come to the same

pub same_answer : (b : Bool) (n : ℕ) (old new : ℕ → Node) (P Q : (ℕ → ℕ) → Type 0) → ((size : ℕ → ℕ) → Allows n old size → P size ↔ Q size)
    → MatchBool b (Restricts n old new P) (Refutes n old P) → MatchBool b (Restricts n old new Q) (Refutes n old Q)
same_answer true n old new P Q same h = record {
  trees = h.trees;
  allows = λ size. (
    λ a. let both = (h.allows size).0 a in (both.0, (same size both.0).0 both.1),
    λ a. (h.allows size).1 (a.0, (same size a.0).1 a.1),
  );
  ranks = h.ranks;
}
same_answer false n old new P Q same h = λ size a q. h size a ((same size a).1 q)

-- Where all assignments have the property, the nodes stay.
pub unrestricted : (n : ℕ) (node : ℕ → Node) (P : (ℕ → ℕ) → Type 0) → AreTrees n node → ((size : ℕ → ℕ) → Allows n node size → P size) → Restricts n node node P
unrestricted n node P t all = record {
  trees = t;
  allows = λ size. (λ a. (a, all size a), λ a. a.0);
  ranks = λ limit up_to v below. let old : (node v).rank ≤ limit = up_to v below in omega arith;
}

-- ---- writes

pub joined_nodes : (nodes : List Node) (r p a b low high s rank : ℕ) → AreTrees (length nodes) (node_of nodes)
    → r < length nodes → p < length nodes → r ≢ p → IsRoot (node_of nodes) r → IsRoot (node_of nodes) p
    → (node_of nodes p).least + b ≤ (node_of nodes r).greatest + a → (node_of nodes r).least + a ≤ (node_of nodes p).greatest + b
    → low ≡ max (node_of nodes p).least ((node_of nodes r).least + a - b) → high ≡ min (node_of nodes p).greatest ((node_of nodes r).greatest + a - b)
    → s ≡ b + 16 - a → rank ≡ max (node_of nodes p).rank ((node_of nodes r).rank + 1)
    → Restricts (length nodes) (node_of nodes)
    (node_of (set (set nodes p (record { parent = (node_of nodes p).parent; shift = (node_of nodes p).shift; least = low; greatest = high; rank = rank })) r
    (record { parent = p; shift = s; least = (node_of nodes r).least; greatest = (node_of nodes r).greatest; rank = (node_of nodes r).rank })))
    (λ size. size r + a ≡ size p + b)
joined_nodes nodes r p a b low high s rank t child parent apart child_root parent_root low_meets high_meets low_is high_is shift_is rank_is =
    let above : Node = record { parent = (node_of nodes p).parent; shift = (node_of nodes p).shift; least = low; greatest = high; rank = rank } in
    let below : Node = record { parent = p; shift = s; least = (node_of nodes r).least; greatest = (node_of nodes r).greatest; rank = (node_of nodes r).rank } in
    let mid : List Node = set nodes p above in
    let wrote : node_of mid p ≡ above = get_or-set_same nodes p above zeros parent in
    let in_mid : r < length mid = simp length-set child in
    let hung : node_of (set mid r below) r ≡ below = get_or-set_same mid r below zeros in_mid in
    let kept : node_of mid r ≡ node_of nodes r = get_or-set_other nodes p r above zeros apart in
    joined (length nodes) (node_of nodes) (node_of mid) (node_of (set mid r below)) r p a b low high s
    (record {
      trees = t;
      child = child;
      parent = parent;
      apart = apart;
      child_root = child_root;
      parent_root = parent_root;
      low_meets = low_meets;
      high_meets = high_meets;
      low_is = low_is;
      high_is = high_is;
      shift_is = shift_is;
      rank_is = ap (λ (k : Node). k.rank) wrote ∙ rank_is;
      tightens = record {
        parent = ap (λ (k : Node). k.parent) wrote ∙ parent_root;
        shift = ap (λ (k : Node). k.shift) wrote;
        least = ap (λ (k : Node). k.least) wrote;
        greatest = ap (λ (k : Node). k.greatest) wrote;
        rank = let is : (node_of mid p).rank ≡ rank = ap (λ (k : Node). k.rank) wrote in omega arith;
        others = λ v other. get_or-set_other nodes p v above zeros other;
      };
      hangs = record {
        parent = ap (λ (k : Node). k.parent) hung;
        shift = ap (λ (k : Node). k.shift) hung;
        least = ap (λ (k : Node). k.least) hung ∙ ap (λ (k : Node). k.least) (sym kept);
        greatest = ap (λ (k : Node). k.greatest) hung ∙ ap (λ (k : Node). k.greatest) (sym kept);
        rank = ap (λ (k : Node). k.rank) hung ∙ ap (λ (k : Node). k.rank) (sym kept);
        others = λ v other. get_or-set_other mid r v below zeros other;
      };
    })

-- The root r gets one size x, which gives the variable v so many bytes.
pub given_nodes : (nodes : List Node) (v r shift bytes x : ℕ) → AreTrees (length nodes) (node_of nodes) → IsPlace (length nodes) (node_of nodes) v r shift
    → (node_of nodes r).least ≤ x → x ≤ (node_of nodes r).greatest → x + shift ≡ bytes + 16
    → Restricts (length nodes) (node_of nodes)
    (node_of (set nodes r (record { parent = (node_of nodes r).parent; shift = (node_of nodes r).shift; least = x; greatest = x; rank = (node_of nodes r).rank })))
    (λ size. size v ≡ bytes)
given_nodes nodes v r shift bytes x t place low high is =
    let n : ℕ = length nodes in
    let one : Node = record { parent = (node_of nodes r).parent; shift = (node_of nodes r).shift; least = x; greatest = x; rank = (node_of nodes r).rank } in
    let new : ℕ → Node = node_of (set nodes r one) in
    let wrote : new r ≡ one = get_or-set_same nodes r one zeros place.in_range in
    let narrower : IsNarrower n (node_of nodes) r x x = record { below = place.in_range; root = place.is_root; least = low; some = omega arith; greatest = high } in
    let same_rank : (new r).rank ≡ (node_of nodes r).rank = ap (λ (k : Node). k.rank) wrote in
    let tightens : Tightens (node_of nodes) new r x x = record {
      parent = ap (λ (k : Node). k.parent) wrote ∙ place.is_root;
      shift = ap (λ (k : Node). k.shift) wrote;
      least = ap (λ (k : Node). k.least) wrote;
      greatest = ap (λ (k : Node). k.greatest) wrote;
      rank = omega arith;
      others = λ u other. get_or-set_other nodes r u one zeros other;
    }
    in
    record {
      trees = tightened n (node_of nodes) new r x x t narrower tightens;
      allows = λ size. (
        λ h.
            let both = (tightened_allows n (node_of nodes) new r x x t narrower tightens size).0 h in
            let link : size v + 16 ≡ size r + shift = place.apart size both.0 in
            let least : x ≤ size r = both.1.0 in
            let greatest : size r ≤ x = both.1.1 in
            (both.0, omega arith),
        λ h.
            let link : size v + 16 ≡ size r + shift = place.apart size h.0 in
            let value : size v ≡ bytes = h.1 in
            (tightened_allows n (node_of nodes) new r x x t narrower tightens size).1 (h.0, (omega arith, omega arith)),
      );
      ranks = λ limit up_to. each_but (λ u. u < n → (new u).rank ≤ limit + 1) r
          (λ below. let old : (node_of nodes r).rank ≤ limit = up_to r below in omega arith)
          (λ u other below. subst (λ (k : Node). k.rank ≤ limit + 1) (sym (tightens.others u other))
          (let old : (node_of nodes u).rank ≤ limit = up_to u below in omega arith));
    }

pub not_given : (n : ℕ) (node : ℕ → Node) (v r shift bytes : ℕ) → IsPlace n node v r shift
    → (bytes + 16 < (node r).least + shift) ⊎ ((node r).greatest + shift < bytes + 16) → Refutes n node (λ size. size v ≡ bytes)
not_given n node v r shift bytes place out size a value =
    let link : size v + 16 ≡ size r + shift = place.apart size a in
    let at : AllowsAt size r (node r) = a r place.in_range in
    elim out [ inl low ↦ omega arith | inr high ↦ omega arith ]

-- Two variables of one tree: an equation between them holds of all assignments or of none.
pub same_root : (n : ℕ) (node : ℕ → Node) (x y r q s t less : ℕ) → AreTrees n node → IsPlace n node x r s → IsPlace n node y q t → r ≡ q
    → MatchBool (eqb (s + less) t) (Restricts n node node (λ size. size x + less ≡ size y)) (Refutes n node (λ size. size x + less ≡ size y))
same_root n node x y r q s t less trees first second is =
    elim (eqb_tells (s + less) t) [
      | inl w ↦
          subst (λ b. MatchBool b (Restricts n node node (λ size. size x + less ≡ size y)) (Refutes n node (λ size. size x + less ≡ size y))) (sym w.0)
          (unrestricted n node (λ size. size x + less ≡ size y) trees (λ size a.
          let one : size x + 16 ≡ size r + s = first.apart size a in
          let other : size y + 16 ≡ size q + t = second.apart size a in
          let up : size r ≡ size q = ap size is in
          let equal : s + less ≡ t = w.1 in
          omega arith))
      | inr w ↦
          subst (λ b. MatchBool b (Restricts n node node (λ size. size x + less ≡ size y)) (Refutes n node (λ size. size x + less ≡ size y))) (sym w.0)
          (λ size a e. w.1 (
          let one : size x + 16 ≡ size r + s = first.apart size a in
          let other : size y + 16 ≡ size q + t = second.apart size a in
          let up : size r ≡ size q = ap size is in
          omega arith))
    ]

-- ---- reading an answer off

pub is_open : (n : ℕ) (node : ℕ → Node) (v r shift : ℕ) → AreTrees n node → IsPlace n node v r shift → (node r).least < (node r).greatest → IsOpen n node v
is_open n node v r shift t place more =
    let one = t.free (λ u. (node u).least) (λ u below root. (omega arith, (t.in_range u below).root_sizes root)) in
    let other = t.free (λ u. (node u).greatest) (λ u below root. ((t.in_range u below).root_sizes root, omega arith)) in
    let one_is : one.0 r ≡ (node r).least = one.2 r place.in_range place.is_root in
    let other_is : other.0 r ≡ (node r).greatest = other.2 r place.in_range place.is_root in
    let one_link : one.0 v + 16 ≡ one.0 r + shift = place.apart one.0 one.1 in
    let other_link : other.0 v + 16 ≡ other.0 r + shift = place.apart other.0 other.1 in
    record { one = one.0; other = other.0; allows_one = one.1; allows_other = other.1; differ = λ e. omega arith }

-- The size of a variable whose root has one, and its range.
pub is_fixed : (n : ℕ) (node : ℕ → Node) (v r shift : ℕ) → AreTrees n node → IsPlace n node v r shift → (node r).greatest ≤ (node r).least
    → IsFixed n node v ((node r).least + shift - 16)
is_fixed n node v r shift t place none size a =
    let at : AllowsAt size r (node r) = a r place.in_range in
    let link : size v + 16 ≡ size r + shift = place.apart size a in
    omega arith

pub fixed_range : (n : ℕ) (node : ℕ → Node) (v r shift : ℕ) → AreTrees n node → v < n → IsPlace n node v r shift → (node r).greatest ≤ (node r).least
    → (17 ≤ (node r).least + shift) × ((node r).least + shift ≤ 32)
fixed_range n node v r shift t below place none =
    let some = some_allowed n node t in
    let at : AllowsAt some.0 r (node r) = some.1 r place.in_range in
    let link : some.0 v + 16 ≡ some.0 r + shift = place.apart some.0 some.1 in
    let here = in_bounds n node some.0 v t below some.1 in
    let here_1 : 1 ≤ some.0 v = here.0 in
    let here_16 : some.0 v ≤ 16 = here.1 in
    (omega arith, omega arith)

-- ---- variables of which nothing is known

pub singles_stand : (n : ℕ) (node : ℕ → Node) → ((v : ℕ) → v < n → node v ≡ single v) → StandFor n node []
singles_stand n node all = record {
  trees = record {
    in_range = λ v below. subst (λ k. IsInRange n v k) (sym (all v below))
        (record { parent = below; shift = omega arith; least = omega arith; greatest = omega arith; root_shift = λ _. refl; root_sizes = λ _. omega arith });
    ranks = λ v below apart. absurd (apart (ap (λ (k : Node). k.parent) (all v below)));
    free = λ size within. (
      size,
      λ v below. subst (λ k. AllowsAt size v k) (sym (all v below))
          (let at : ((single v).least ≤ size v) × (size v ≤ (single v).greatest) =
          subst (λ (k : Node). k.parent ≡ v → (k.least ≤ size v) × (size v ≤ k.greatest)) (all v below) (within v below) refl
          in
          record { link = refl; least = at.0; greatest = at.1 }),
      λ v below root. refl,
    );
  };
  solves = λ size. (
    λ a.
        let at = λ (v : ℕ) (below : v < n). subst (λ k. AllowsAt size v k) (all v below) (a v below) in
        record { at_least_1 = λ v below. (at v below).least; at_most_16 = λ v below. (at v below).greatest; meets = tt },
    λ s v below. subst (λ k. AllowsAt size v k) (sym (all v below)) (record { link = refl; least = s.at_least_1 v below; greatest = s.at_most_16 v below }),
  );
}

-- A size that is made of a number from 1 to 16 is there.
pub size_made : (o : Option Size) (P : Type 0) (Q : Size → Type 0) (bytes : ℕ) → IsSome o ↔ ((1 ≤ bytes) × (bytes ≤ 16)) → IfSome o (λ size. size.bytes ≡ bytes)
    → 1 ≤ bytes → bytes ≤ 16 → ((size : Size) → size.bytes ≡ bytes → Q size) → MatchOption o P Q
size_made None P Q bytes valid value some few each = absurd (false≢true (valid.1 (some, few)))
size_made (Some size) P Q bytes valid value some few each = each size value

bytes_front : (sizes : List Size) (size : Size) (u : ℕ) → u < length sizes → bytes_at (sizes ++ size ∷ []) u ≡ bytes_at sizes u
bytes_front sizes size u below = grind (arith, common_steps)

bytes_last : (sizes : List Size) (size : Size) (u : ℕ) → length sizes ≡ u → bytes_at (sizes ++ size ∷ []) u ≡ size.bytes
bytes_last sizes size u long = grind (arith, common_steps)

-- One more size in the list.
pub fixed_more : (n v : ℕ) (node : ℕ → Node) (sizes : List Size) (size : Size) → length sizes ≡ v → ((u : ℕ) → u < v → IsFixed n node u (bytes_at sizes u)) → IsFixed n node v size.bytes
    → (u : ℕ) → u < v + 1 → IsFixed n node u (bytes_at (sizes ++ size ∷ []) u)
fixed_more n v node sizes size long all here = below_more (λ u. IsFixed n node u (bytes_at (sizes ++ size ∷ []) u)) v
    (λ u below.
    let same : bytes_at (sizes ++ size ∷ []) u ≡ bytes_at sizes u = bytes_front sizes size u (omega arith) in
    subst (λ x. IsFixed n node u x) (sym same) (all u below))
    (let last : bytes_at (sizes ++ size ∷ []) v ≡ size.bytes = bytes_last sizes size v long in subst (λ x. IsFixed n node v x) (sym last) here)
