-- Trees of variables: a root whose bounds are narrowed, a root that becomes a child, and the place of a variable.
use Rattle.std.proofs.Common.{◌≡◌, ◌≢◌, ◌↔◌, ℕ, ◌+◌, ◌-◌, ◌<◌, ◌≤◌, max, min, cond, eqb, arith, sym, ◌∙◌, ap, refl, subst, inl, inr}
use Rattle.std.proofs.lemmas.Bool.{cases_eq, eq-eqb, cond-true, cond-false, ne_eqb}
use Rattle.sl_sizes.specs.declared.nodes.Node.{Node}
use Rattle.sl_sizes.specs.Nodes.{AllowsAt, Allows, IsRoot, IsInRange, AreTrees, Restricts, IsPlace}

-- What holds of one number and of every other holds of all.
pub each_but : (P : ℕ → Type 0) (r : ℕ) → P r → ((v : ℕ) → v ≢ r → P v) → (v : ℕ) → P v
each_but P r here others v = elim (cases_eq v r) [ inl e ↦ subst P (sym e) here | inr apart ↦ others v apart ]

-- An assignment with another size at one variable.
replaced : (size : ℕ → ℕ) (r x : ℕ) → (f : ℕ → ℕ) × (f r ≡ x) × ((v : ℕ) → v ≢ r → f v ≡ size v)
replaced size r x = (
  λ v. cond (eqb v r) x (size v),
  cond-true (eqb r r) x (size r) (eq-eqb r r refl),
  λ v apart. cond-false (eqb v r) x (size v) (ne_eqb v r apart),
)

-- ---- the assignments that trees leave

pub some_allowed : (n : ℕ) (node : ℕ → Node) → AreTrees n node → (size : ℕ → ℕ) × Allows n node size
some_allowed n node t =
    let found = t.free (λ v. (node v).least) (λ v below root. (omega arith, (t.in_range v below).root_sizes root)) in
    (found.0, found.1)

pub in_bounds : (n : ℕ) (node : ℕ → Node) (size : ℕ → ℕ) (v : ℕ) → AreTrees n node → v < n → Allows n node size → (1 ≤ size v) × (size v ≤ 16)
in_bounds n node size v t below a =
    let range : IsInRange n v (node v) = t.in_range v below in
    let at : AllowsAt size v (node v) = a v below in
    (omega arith, omega arith)

-- ---- a root whose bounds are narrowed

pub record Tightens (node new : ℕ → Node) (r low high : ℕ) : Type 0 where
  pub parent : (new r).parent ≡ r
  pub shift : (new r).shift ≡ (node r).shift
  pub least : (new r).least ≡ low
  pub greatest : (new r).greatest ≡ high
  pub rank : (node r).rank ≤ (new r).rank
  pub others : (v : ℕ) → v ≢ r → new v ≡ node v

pub record IsNarrower (n : ℕ) (node : ℕ → Node) (r low high : ℕ) : Type 0 where
  pub below : r < n
  pub root : IsRoot node r
  pub least : (node r).least ≤ low
  pub some : low ≤ high
  pub greatest : high ≤ (node r).greatest

pub tightened_allows : (n : ℕ) (node new : ℕ → Node) (r least greatest : ℕ) → AreTrees n node → IsNarrower n node r least greatest → Tightens node new r least greatest
    → (size : ℕ → ℕ) → Allows n new size ↔ (Allows n node size × ((least ≤ size r) × (size r ≤ greatest)))
tightened_allows n node new r least greatest t w u size =
    let back : size (new r).parent ≡ size r = ap size u.parent in
    let old_back : size (node r).parent ≡ size r = ap size w.root in (
      λ h.
          let at : AllowsAt size r (new r) = h r w.below in (
            each_but (λ v. v < n → AllowsAt size v (node v)) r
                (λ below. record { link = omega arith; least = omega arith; greatest = omega arith })
                (λ v apart below. subst (λ k. AllowsAt size v k) (u.others v apart) (h v below)),
            (omega arith, omega arith),
          ),
      λ h. each_but (λ v. v < n → AllowsAt size v (new v)) r
          (λ below.
          let at : AllowsAt size r (node r) = h.0 r below in
          record { link = omega arith; least = omega arith; greatest = omega arith })
          (λ v apart below. subst (λ k. AllowsAt size v k) (sym (u.others v apart)) (h.0 v below)),
    )

pub tightened : (n : ℕ) (node new : ℕ → Node) (r least greatest : ℕ) → AreTrees n node → IsNarrower n node r least greatest → Tightens node new r least greatest → AreTrees n new
tightened n node new r least greatest t w u = record {
  in_range = each_but (λ v. v < n → IsInRange n v (new v)) r
      (λ below.
      let old : IsInRange n r (node r) = t.in_range r below in
      let root_shift : (node r).shift ≡ 16 = old.root_shift w.root in
      record {
        parent = omega arith;
        shift = omega arith;
        least = omega arith;
        greatest = omega arith;
        root_shift = λ _. u.shift ∙ root_shift;
        root_sizes = λ _. omega arith;
      })
      (λ v apart below. subst (λ k. IsInRange n v k) (sym (u.others v apart)) (t.in_range v below));
  ranks = each_but (λ v. v < n → (new v).parent ≢ v → (new v).rank < (new (new v).parent).rank) r
      (λ below apart. absurd (apart u.parent))
      (λ v apart below. subst (λ (k : Node). k.parent ≢ v → k.rank < (new k.parent).rank) (sym (u.others v apart)) (λ child.
      let old : (node v).rank < (node (node v).parent).rank = t.ranks v below child in
      let grown : (node (node v).parent).rank ≤ (new (node v).parent).rank =
      each_but (λ p. (node p).rank ≤ (new p).rank) r u.rank (λ p other. subst (λ (k : Node). (node p).rank ≤ k.rank) (sym (u.others p other)) (omega arith)) (node v).parent
      in
      omega arith));
  free = λ size within.
      let found = t.free size (each_but (λ v. v < n → IsRoot node v → ((node v).least ≤ size v) × (size v ≤ (node v).greatest)) r
      (λ below root.
      let at : ((new r).least ≤ size r) × (size r ≤ (new r).greatest) = within r below u.parent in
      (omega arith, omega arith))
      (λ v apart below root. subst (λ (k : Node). k.parent ≡ v → (k.least ≤ size v) × (size v ≤ k.greatest)) (u.others v apart) (within v below) root))
      in
      let at : ((new r).least ≤ size r) × (size r ≤ (new r).greatest) = within r w.below u.parent in
      let there : found.0 r ≡ size r = found.2 r w.below w.root in (
        found.0,
        (tightened_allows n node new r least greatest t w u found.0).1 (found.1, (omega arith, omega arith)),
        each_but (λ v. v < n → IsRoot new v → found.0 v ≡ size v) r (λ below root. there)
            (λ v apart below. subst (λ (k : Node). k.parent ≡ v → found.0 v ≡ size v) (sym (u.others v apart)) (found.2 v below)),
      );
}

-- ---- a root that becomes a child

pub record Hangs (node new : ℕ → Node) (r p s : ℕ) : Type 0 where
  pub parent : (new r).parent ≡ p
  pub shift : (new r).shift ≡ s
  pub least : (new r).least ≡ (node r).least
  pub greatest : (new r).greatest ≡ (node r).greatest
  pub rank : (new r).rank ≡ (node r).rank
  pub others : (v : ℕ) → v ≢ r → new v ≡ node v

pub record CanHang (n : ℕ) (node : ℕ → Node) (r p s : ℕ) : Type 0 where
  pub child : r < n
  pub parent : p < n
  pub apart : r ≢ p
  pub child_root : IsRoot node r
  pub parent_root : IsRoot node p
  pub rank : (node r).rank < (node p).rank
  pub shift : s ≤ 31
  pub least : 16 + (node r).least ≤ (node p).least + s
  pub greatest : (node p).greatest + s ≤ 16 + (node r).greatest

pub hung_allows : (n : ℕ) (node new : ℕ → Node) (child parent shift : ℕ) → AreTrees n node → CanHang n node child parent shift → Hangs node new child parent shift
    → (size : ℕ → ℕ) → Allows n new size ↔ (Allows n node size × (size child + 16 ≡ size parent + shift))
hung_allows n node new child parent shift t w u size =
    let up : size (new child).parent ≡ size parent = ap size u.parent in
    let back : size (node child).parent ≡ size child = ap size w.child_root in
    let root_shift : (node child).shift ≡ 16 = (t.in_range child w.child).root_shift w.child_root in (
      λ h.
          let at : AllowsAt size child (new child) = h child w.child in (
            each_but (λ v. v < n → AllowsAt size v (node v)) child
                (λ below. record { link = omega arith; least = omega arith; greatest = omega arith })
                (λ v apart below. subst (λ k. AllowsAt size v k) (u.others v apart) (h v below)),
            omega arith,
          ),
      λ h. each_but (λ v. v < n → AllowsAt size v (new v)) child
          (λ below.
          let at : AllowsAt size child (node child) = h.0 child below in
          record { link = omega arith; least = omega arith; greatest = omega arith })
          (λ v apart below. subst (λ k. AllowsAt size v k) (sym (u.others v apart)) (h.0 v below)),
    )

pub hung : (n : ℕ) (node new : ℕ → Node) (child parent shift : ℕ) → AreTrees n node → CanHang n node child parent shift → Hangs node new child parent shift → AreTrees n new
hung n node new child parent shift t w u =
    let other_way : parent ≢ child = λ e. w.apart (sym e) in
    let same : new parent ≡ node parent = u.others parent other_way in
    record {
      in_range = each_but (λ v. v < n → IsInRange n v (new v)) child
          (λ below.
          let old : IsInRange n child (node child) = t.in_range child below in
          let below_parent : parent < n = w.parent in
          record {
            parent = omega arith;
            shift = omega arith;
            least = omega arith;
            greatest = omega arith;
            root_shift = λ root. absurd (w.apart (sym root ∙ u.parent));
            root_sizes = λ root. absurd (w.apart (sym root ∙ u.parent));
          })
          (λ v apart below. subst (λ k. IsInRange n v k) (sym (u.others v apart)) (t.in_range v below));
      ranks = each_but (λ v. v < n → (new v).parent ≢ v → (new v).rank < (new (new v).parent).rank) child
          (λ below apart. subst (λ p. (new child).rank < (new p).rank) (sym u.parent) (subst (λ (k : Node). (new child).rank < k.rank) (sym same) (omega arith)))
          (λ v apart below. subst (λ (k : Node). k.parent ≢ v → k.rank < (new k.parent).rank) (sym (u.others v apart)) (λ member.
          let old : (node v).rank < (node (node v).parent).rank = t.ranks v below member in
          let kept : (new (node v).parent).rank ≡ (node (node v).parent).rank =
          each_but (λ p. (new p).rank ≡ (node p).rank) child u.rank (λ p other. ap (λ (k : Node). k.rank) (u.others p other)) (node v).parent
          in
          omega arith));
      free = λ size within.
          let f = replaced size child (size parent + shift - 16) in
          let f_parent : f.0 parent ≡ size parent = f.2 parent other_way in
          let new_root : (new parent).parent ≡ parent = subst (λ (k : Node). k.parent ≡ parent) (sym same) w.parent_root in
          let at_new : ((new parent).least ≤ size parent) × (size parent ≤ (new parent).greatest) = within parent w.parent new_root in
          let at : ((node parent).least ≤ size parent) × (size parent ≤ (node parent).greatest) =
          subst (λ (k : Node). (k.least ≤ size parent) × (size parent ≤ k.greatest)) same at_new
          in
          let found = t.free f.0 (each_but (λ v. v < n → IsRoot node v → ((node v).least ≤ f.0 v) × (f.0 v ≤ (node v).greatest)) child
          (λ below root. let here : f.0 child ≡ size parent + shift - 16 = f.1 in (omega arith, omega arith))
          (λ v apart below root. subst (λ x. ((node v).least ≤ x) × (x ≤ (node v).greatest)) (sym (f.2 v apart))
          (subst (λ (k : Node). k.parent ≡ v → (k.least ≤ size v) × (size v ≤ k.greatest)) (u.others v apart) (within v below) root)))
          in
          let child_found : found.0 child ≡ f.0 child = found.2 child w.child w.child_root in
          let child_is : f.0 child ≡ size parent + shift - 16 = f.1 in
          let parent_found : found.0 parent ≡ f.0 parent = found.2 parent w.parent w.parent_root in
          let low : 1 ≤ (node child).least = (t.in_range child w.child).least in (
            found.0,
            (hung_allows n node new child parent shift t w u found.0).1 (found.1, omega arith),
            each_but (λ v. v < n → IsRoot new v → found.0 v ≡ size v) child (λ below root. absurd {A = found.0 child ≡ size child} (w.apart (sym root ∙ u.parent)))
                (λ v apart below. subst (λ (k : Node). k.parent ≡ v → found.0 v ≡ size v) (sym (u.others v apart)) (λ root.
                let there : found.0 v ≡ f.0 v = found.2 v below root in
                let kept : f.0 v ≡ size v = f.2 v apart in
                omega arith)),
          );
    }

-- ---- both at once

-- The root r becomes a child of the root p, whose bounds are narrowed, where r's size plus a is p's plus b.
pub record Joins (n : ℕ) (node mid new : ℕ → Node) (r p a b low high s : ℕ) : Type 0 where
  pub trees : AreTrees n node
  pub child : r < n
  pub parent : p < n
  pub apart : r ≢ p
  pub child_root : IsRoot node r
  pub parent_root : IsRoot node p
  pub low_meets : (node p).least + b ≤ (node r).greatest + a
  pub high_meets : (node r).least + a ≤ (node p).greatest + b
  pub low_is : low ≡ max (node p).least ((node r).least + a - b)
  pub high_is : high ≡ min (node p).greatest ((node r).greatest + a - b)
  pub shift_is : s ≡ b + 16 - a
  pub rank_is : (mid p).rank ≡ max (node p).rank ((node r).rank + 1)
  pub tightens : Tightens node mid p low high
  pub hangs : Hangs mid new r p s

pub joined : (n : ℕ) (node mid new : ℕ → Node) (r p a b low high s : ℕ) → Joins n node mid new r p a b low high s
    → Restricts n node new (λ size. size r + a ≡ size p + b)
joined n node mid new r p a b low high s j =
    let child : IsInRange n r (node r) = j.trees.in_range r j.child in
    let parent : IsInRange n p (node p) = j.trees.in_range p j.parent in
    let child_sizes : (node r).least ≤ (node r).greatest = child.root_sizes j.child_root in
    let parent_sizes : (node p).least ≤ (node p).greatest = parent.root_sizes j.parent_root in
    let ordered : low ≤ high = omega arith in
    let shifted : s + a ≡ b + 16 = omega arith in
    let narrower : IsNarrower n node p low high = record { below = j.parent; root = j.parent_root; least = omega arith; some = ordered; greatest = omega arith } in
    let trees : AreTrees n mid = tightened n node mid p low high j.trees narrower j.tightens in
    let same : mid r ≡ node r = j.tightens.others r j.apart in
    let can : CanHang n mid r p s = record {
      child = j.child;
      parent = j.parent;
      apart = j.apart;
      child_root = subst (λ (k : Node). k.parent ≡ r) (sym same) j.child_root;
      parent_root = j.tightens.parent;
      rank = subst (λ (k : Node). k.rank < (mid p).rank) (sym same) (omega arith);
      shift = omega arith;
      least = subst (λ (k : Node). 16 + k.least ≤ (mid p).least + s) (sym same) (omega arith);
      greatest = subst (λ (k : Node). (mid p).greatest + s ≤ 16 + k.greatest) (sym same) (omega arith);
    }
    in
    record {
      trees = hung n mid new r p s trees can j.hangs;
      allows = λ size. (
        λ h.
            let one = (hung_allows n mid new r p s trees can j.hangs size).0 h in
            let link : size r + 16 ≡ size p + s = one.1 in
            (((tightened_allows n node mid p low high j.trees narrower j.tightens size).0 one.0).0, omega arith),
        λ h.
            let at_child : AllowsAt size r (node r) = h.0 r j.child in
            let at_parent : AllowsAt size p (node p) = h.0 p j.parent in
            let link : size r + a ≡ size p + b = h.1 in
            (hung_allows n mid new r p s trees can j.hangs size).1
            ((tightened_allows n node mid p low high j.trees narrower j.tightens size).1 (h.0, (omega arith, omega arith)), omega arith),
      );
      ranks = λ limit up_to. each_but (λ v. v < n → (new v).rank ≤ limit + 1) r
          (λ below.
          let old : (node r).rank ≤ limit = up_to r below in
          let kept : (mid r).rank ≡ (node r).rank = ap (λ (k : Node). k.rank) same in
          let new_rank : (new r).rank ≡ (mid r).rank = j.hangs.rank in
          omega arith)
          (λ v apart below. subst (λ (k : Node). k.rank ≤ limit + 1) (sym (j.hangs.others v apart))
          (each_but (λ x. x < n → (mid x).rank ≤ limit + 1) p
          (λ below_p.
          let old_child : (node r).rank ≤ limit = up_to r j.child in
          let old : (node p).rank ≤ limit = up_to p j.parent in
          omega arith)
          (λ x other below_x. subst (λ (k : Node). k.rank ≤ limit + 1) (sym (j.tightens.others x other))
          (let old : (node x).rank ≤ limit = up_to x below_x in omega arith))
          v below));
    }

-- ---- the place of a variable

-- The variable is a root, and stands where it is.
pub place_of_root : (n : ℕ) (node : ℕ → Node) (v : ℕ) → v < n → IsRoot node v → IsPlace n node v v 16
place_of_root n node v below root = record { in_range = below; is_root = root; apart = λ size a. refl; bound = omega arith }

-- The shifts of a variable and of its parent together are 16 or more, and at most 47.
pub shifts_add : (n : ℕ) (node : ℕ → Node) (v root shift : ℕ) → AreTrees n node → v < n → IsPlace n node (node v).parent root shift
    → (16 ≤ (node v).shift + shift) × ((node v).shift + shift ≤ 47)
shifts_add n node v root shift t below place =
    let some = some_allowed n node t in
    let at : AllowsAt some.0 v (node v) = some.1 v below in
    let link : some.0 v + 16 ≡ some.0 (node v).parent + (node v).shift = at.link in
    let up : some.0 (node v).parent + 16 ≡ some.0 root + shift = place.apart some.0 some.1 in
    let here = in_bounds n node some.0 v t below some.1 in
    let there = in_bounds n node some.0 root t place.in_range some.1 in
    let here_1 : 1 ≤ some.0 v = here.0 in
    let here_16 : some.0 v ≤ 16 = here.1 in
    let there_1 : 1 ≤ some.0 root = there.0 in
    let there_16 : some.0 root ≤ 16 = there.1 in
    (omega arith, omega arith)

pub place_of_child : (n : ℕ) (node : ℕ → Node) (v root shift sum : ℕ) → AreTrees n node → v < n → IsPlace n node (node v).parent root shift
    → sum + 16 ≡ (node v).shift + shift → IsPlace n node v root sum
place_of_child n node v root shift sum t below place is =
    let added = shifts_add n node v root shift t below place in
    let most : (node v).shift + shift ≤ 47 = added.1 in
    record {
      in_range = place.in_range;
      is_root = place.is_root;
      apart = λ size a.
          let link : size v + 16 ≡ size (node v).parent + (node v).shift = (a v below).link in
          let up : size (node v).parent + 16 ≡ size root + shift = place.apart size a in
          omega arith;
      bound = omega arith;
    }
