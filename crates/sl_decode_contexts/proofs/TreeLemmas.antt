-- A commit in a tree of runs changes the run of its address alone.
use Rattle.std.proofs.Common.{◌≡◌, ℕ, ◌<◌, ◌≤◌, ◌==◌, Bool, true, false, cond, min, max, Option, Some, None, refl, sym, ap, ◌∙◌, arith, subst, ◌⊎◌, inl, inr}
use Rattle.sl_decode_contexts.specs.declared.commits.Commit.{Commit}
use Rattle.sl_decode_contexts.specs.declared.runs.Run.{Run}
use Rattle.sl_decode_contexts.specs.declared.tree.Sum.{Sum}
use Rattle.sl_decode_contexts.specs.declared.tree.Tree.{Tree, Leaf, Fork'}
use Rattle.sl_decode_contexts.specs.AtAddress.{with_commit, given_more, fresh}
use Rattle.sl_decode_contexts.specs.Trees.{first_of, last_of, sum_of, run_at, changed, or_fresh, IsSound, IsCommitted}
use Rattle.sl_decode_contexts.proofs.SeenLemmas.{in_order, none_below, none_above_last, below_or_not, lt_true, lt_false, eq_true, eq_false}

more_address : (f : Bool) (m v : ℕ) (r : Run) → (given_more f m v r).address ≡ r.address
more_address true m v r = refl
more_address false m v r = refl

run_address : (c : Commit) (r : Run) → (with_commit c r).address ≡ r.address
run_address c r = more_address c.flows c.mask c.value r

-- the runs at other addresses stay
changed_other : (c : Commit) (runs : ℕ → Option Run) (a : ℕ) → (c.address ≡ a → ⊥) → changed c runs a ≡ runs a
changed_other c runs a h = ap (λ b. cond b (Some (with_commit c (or_fresh a (runs a)))) (runs a)) (eq_false c.address a h)

changed_here : (c : Commit) (runs : ℕ → Option Run) (a : ℕ) → c.address ≡ a → changed c runs a ≡ Some (with_commit c (or_fresh a (runs a)))
changed_here c runs a h = ap (λ b. cond b (Some (with_commit c (or_fresh a (runs a)))) (runs a)) (eq_true c.address a h)

leaf_other : (r : Run) (a : ℕ) → (r.address ≡ a → ⊥) → run_at (Leaf r) a ≡ None
leaf_other r a h = ap (λ b. cond b (Some r) None) (eq_false r.address a h)

leaf_here : (r : Run) (a : ℕ) → r.address ≡ a → run_at (Leaf r) a ≡ Some r
leaf_here r a h = ap (λ b. cond b (Some r) None) (eq_true r.address a h)

same_or_not : (x a : ℕ) → (x ≡ a) ⊎ (x ≡ a → ⊥)
same_or_not x a =
    elim (below_or_not x a) [
      | inl h ↦ inr (λ e. omega arith)
      | inr h ↦ elim (below_or_not a x) [
        | inl g ↦ inr (λ e. omega arith)
        | inr g ↦ inl (omega arith)
      ]
    ]

-- a leaf for the commit alone, where there was nothing
pub first_run : (c : Commit) (a : ℕ) → run_at (Leaf (with_commit c (fresh c.address))) a ≡ changed c (λ x. None) a
first_run c a =
    let r = with_commit c (fresh c.address) in
    elim (same_or_not c.address a) [
      | inl e ↦ leaf_here r a (run_address c (fresh c.address) ∙ e) ∙ sym (changed_here c (λ x. None) a e ∙ ap (λ x. Some (with_commit c (fresh x))) (sym e))
      | inr h ↦ leaf_other r a (λ e. h (sym (run_address c (fresh c.address)) ∙ e)) ∙ sym (changed_other c (λ x. None) a h)
    ]

-- the run that is there
pub at_leaf : (c : Commit) (r : Run) → r.address ≡ c.address → IsCommitted c (Leaf r) (Leaf (with_commit c r))
at_leaf c r h = record {
  runs = λ sound a. elim (same_or_not c.address a) [
    | inl e ↦ leaf_here (with_commit c r) a (run_address c r ∙ h ∙ e)
        ∙ sym (changed_here c (run_at (Leaf r)) a e ∙ ap (λ o. Some (with_commit c (or_fresh a o))) (leaf_here r a (h ∙ e)))
    | inr g ↦ leaf_other (with_commit c r) a (λ e. g (sym h ∙ sym (run_address c r) ∙ e))
        ∙ sym (changed_other c (run_at (Leaf r)) a g ∙ leaf_other r a (λ e. g (sym h ∙ e)))
  ];
  sound = λ sound. tt;
  first = λ sound. let e = run_address c r in omega (arith, e, h);
  last = λ sound. let e = run_address c r in omega (arith, e, h);
}

-- a side of a fork
pub on_left : (c : Commit) (p q p' q' : _) (l r l' : Tree) (s : Sum) → c.address < s.split → IsCommitted c l l' → IsCommitted c (Fork' p l s q r) (Fork' p' l' (sum_of l' s.split r) q' r)
on_left c p q p' q' l r l' s h made = record {
  runs = λ sound a. elim (below_or_not a s.split) [
    | inl k ↦ rw (lt_true a s.split k) (made.runs sound.0 a)
    | inr k ↦ rw (lt_false a s.split k) (sym (ap (λ b. cond b (Some (with_commit c (or_fresh a (run_at r a)))) (run_at r a)) (eq_false c.address a (λ e. omega arith))))
  ];
  sound = λ sound. let e = made.last sound.0 in let under = sound.2 in (made.sound sound.0, sound.1, omega (arith, e, under, h), sound.3, refl);
  first = λ sound. made.first sound.0 ∙ ap (λ x. min x c.address) (sym (ap (λ x. x.first) sound.4));
  last = λ sound. let e : s.last ≡ last_of r = ap (λ x. x.last) sound.4 in let over = sound.3 in let up = in_order r sound.1 in omega (arith, e, over, up, h);
}

pub on_right : (c : Commit) (p q p' q' : _) (l r r' : Tree) (s : Sum) → s.split ≤ c.address → IsCommitted c r r' → IsCommitted c (Fork' p l s q r) (Fork' p' l (sum_of l s.split r') q' r')
on_right c p q p' q' l r r' s h made = record {
  runs = λ sound a. elim (below_or_not a s.split) [
    | inl k ↦ rw (lt_true a s.split k) (sym (ap (λ b. cond b (Some (with_commit c (or_fresh a (run_at l a)))) (run_at l a)) (eq_false c.address a (λ e. omega arith))))
    | inr k ↦ rw (lt_false a s.split k) (made.runs sound.1 a)
  ];
  sound = λ sound. let e = made.first sound.1 in let over = sound.3 in (sound.0, made.sound sound.1, sound.2, omega (arith, e, over, h), refl);
  first = λ sound. let e : s.first ≡ first_of l = ap (λ x. x.first) sound.4 in let under = sound.2 in let up = in_order l sound.0 in omega (arith, e, under, up, h);
  last = λ sound. made.last sound.1 ∙ ap (λ x. max x c.address) (sym (ap (λ x. x.last) sound.4));
}

-- a new leaf beside a tree
pub below_all : (c : Commit) (p q : _) (new t : Tree) (split : ℕ) → new ≡ Leaf (with_commit c (fresh c.address)) → c.address < split → split ≤ first_of t
    → IsCommitted c t (Fork' p new (sum_of new split t) q t)
below_all c p q new t split is h g =
    let at : first_of new ≡ c.address = ap first_of is ∙ run_address c (fresh c.address) in
    let same : last_of new ≡ c.address = ap last_of is ∙ run_address c (fresh c.address) in record {
      runs = λ sound a. elim (below_or_not a split) [
        | inl k ↦
            let none = none_below t a sound (omega arith) in
            rw (lt_true a split k) (ap (λ m. run_at m a) is ∙ first_run c a ∙ ap (λ o. cond (c.address == a) (Some (with_commit c (or_fresh a o))) o) (sym none))
        | inr k ↦ rw (lt_false a split k) (sym (changed_other c (run_at t) a (λ e. omega arith)))
      ];
      sound = λ sound. (subst IsSound (sym is) tt, sound, omega (arith, same, h), g, refl);
      first = λ sound. omega (arith, at, h, g);
      last = λ sound. let up = in_order t sound in omega (arith, up, h, g);
    }

pub above_all : (c : Commit) (p q : _) (new t : Tree) (split : ℕ) → new ≡ Leaf (with_commit c (fresh c.address)) → last_of t < split → split ≤ c.address
    → IsCommitted c t (Fork' p t (sum_of t split new) q new)
above_all c p q new t split is h g =
    let at : first_of new ≡ c.address = ap first_of is ∙ run_address c (fresh c.address) in
    let same : last_of new ≡ c.address = ap last_of is ∙ run_address c (fresh c.address) in record {
      runs = λ sound a. elim (below_or_not a split) [
        | inl k ↦ rw (lt_true a split k) (sym (changed_other c (run_at t) a (λ e. omega arith)))
        | inr k ↦
            let none = none_above_last t a sound (omega arith) in
            rw (lt_false a split k) (ap (λ m. run_at m a) is ∙ first_run c a ∙ ap (λ o. cond (c.address == a) (Some (with_commit c (or_fresh a o))) o) (sym none))
      ];
      sound = λ sound. (sound, subst IsSound (sym is) tt, h, omega (arith, at, g), refl);
      first = λ sound. let up = in_order t sound in omega (arith, up, h, g);
      last = λ sound. omega (arith, same, h, g);
    }
