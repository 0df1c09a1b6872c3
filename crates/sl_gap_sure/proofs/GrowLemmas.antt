-- Nodes with at most one operand each: that they grow, and how their decode ends.
use Rattle.std.proofs.Common.{◌≡◌, ℕ, suc, ◌+◌, List, [], ◌∷◌, Option, Some, Result, Ok, refl, sym, ap, subst, ◌∙◌}
use Rattle.sl_decode_contexts.specs.declared.commits.Commit.{Commit}
use Rattle.sl_decode_meaning.specs.Actions.{Own, changed, own}
use Rattle.sl_decode_meaning.specs.Decoding.{Grove, Grown, Grower, Input, chosen, chosen_at, commits_in, commits_of}
use Rattle.sl_decode_meaning.specs.Decoding.{finish, finish_node, grow, opened, operands, site_at, with_operands}
use Rattle.sl_decode_meaning.specs.Meanings.{Meaning, slot}
use Rattle.sl_decode_meaning.specs.Outcomes.{◌>>=◌, or_fault}
use Rattle.sl_decode_meaning.specs.Trees.{Begun, Trees, lengths_of, none, tree}
use Rattle.sl_decode_meaning.specs.Values.{Site}
use Rattle.sl_decode_meaning.specs.declared.faults.Fault.{Fault}
use Rattle.sl_decode_meaning.specs.declared.faults.Fault.TheVariants.{NoConstructor}
use Rattle.sl_decode_meaning.specs.declared.notes.Noted.{Noted}
use Rattle.sl_gap_sure.proofs.OutcomeLemmas.{IsServed, then_served}

goes : {A B : Type 0} (r : Result A Fault) (next : A → Result B Fault) (a : A) (b : B) → r ≡ Ok a → next a ≡ Ok b → (r >>= next) ≡ Ok b
goes r next a b is later = ap (λ (r : Result _ Fault). r >>= next) is ∙ later

-- What the constructor says when the whole tree stands doesn't end for want of a constructor.
abbrev pub EndsServed : Meaning → Type 0
EndsServed m = (s : Site) (c : Own) → IsServed (m.late s c)

module _ (i : Input) where
  -- Of each node the constructor says something, which ends so.
  abbrev pub AreSaid : Trees Begun → Type 0
  AreSaid none = Unit {0}
  AreSaid (tree n below behind) = (m : Meaning) × (i.says n.ctor ≡ Some m) × EndsServed m × AreSaid below × AreSaid behind

  -- It is a node, and of all nodes so much is known.
  abbrev pub Grows : Result Grown Fault → Type 0
  Grows r = (n : Grown) × (r ≡ Ok n) × AreSaid (tree n.node n.below none)

  -- So of operands.
  abbrev pub Stands : Result Grove Fault → Type 0
  Stands r = (o : Grove) × (r ≡ Ok o) × AreSaid o.trees

  -- ---- operands

  pub none_stands : (grower : Grower) (at x : ℕ) → Stands (operands grower [] at [] x)
  none_stands grower at x = (record { lengths = []; trees = none; after = x }, refl, tt)

  pub one_stands : (grower : Grower) (table : ℕ) (place : List ℕ → ℕ) (at x : ℕ) → Grows (grower table (at + place []) x)
      → Stands (operands grower (slot table place ∷ []) at [] x)
  one_stands grower table place at x grows =
      let n = grows.0 in
      let all : Grove = record { lengths = n.node.length ∷ []; trees = tree n.node n.below none; after = n.after } in
      (all, goes (grower table (at + place []) x) _ n all grows.1 refl, grows.2)

  -- ---- nodes

  node_grows : (grower : Grower) (number at : ℕ) (m : Meaning) (x : ℕ) (notes : List Noted) → i.says number ≡ Some m → EndsServed m
      → Stands (operands grower m.slots at [] x) → Grows (with_operands grower number at m (changed x notes))
  node_grows grower number at m x notes says_so ends stands =
      let o = stands.0 in
      let n : Grown = record {
        node = record { ctor = number; at = at; length = m.length o.lengths; context = x; notes = notes };
        below = o.trees;
        after = o.after;
      } in
      (n, goes (operands grower m.slots at [] x) _ o n stands.1 refl, (m, says_so, ends, stands.2, tt))

  pub chosen_grows : (levels table at x number : ℕ) (m : Meaning) (notes : List Noted) → chosen_at i table at x ≡ Some (chosen number m)
      → i.says number ≡ Some m → EndsServed m → m.early (site_at i number at [] x 0) (changed x []) ≡ Ok (changed x notes)
      → Stands (operands (grow i levels) m.slots at [] x) → Grows (grow i (suc levels) table at x)
  unfolding grow
  chosen_grows levels table at x number m notes is says_so ends early stands =
      let grows = node_grows (grow i levels) number at m x notes says_so ends stands in
      let begun = goes (m.early (site_at i number at [] x 0) (changed x [])) (with_operands (grow i levels) number at m) (changed x notes) grows.0 early grows.1 in (
        grows.0,
        goes (or_fault (NoConstructor table at) (chosen_at i table at x)) (opened (grow i levels) i at x) (chosen number m) grows.0
            (ap (or_fault (NoConstructor table at)) is) begun,
        grows.2,
      )

  -- ---- the end

  module _ (next : ℕ) where
    node_served : (n : Begun) (lengths : List ℕ) (commits : List Commit) (m : Meaning) → i.says n.ctor ≡ Some m → EndsServed m
        → IsServed (finish_node i next n lengths commits)
    node_served n lengths commits m says_so ends =
        let late : Option Meaning → Result Own Fault = λ found. or_fault (NoConstructor n.ctor n.at) found
        >>= λ m. m.late (site_at i n.ctor n.at lengths n.context next) (own n.notes [] commits) in
        subst (λ (found : Option Meaning). IsServed (late found)) (sym says_so)
        (ends (site_at i n.ctor n.at lengths n.context next) (own n.notes [] commits))

    pub finish_served : (f : Trees Begun) (commits : List Commit) → AreSaid f → IsServed (finish i next f commits)
    unfolding finish
    finish_served none commits said = tt
    finish_served (tree n below behind) commits said =
        then_served (finish_node i next n (lengths_of below) commits) _
        (node_served n (lengths_of below) commits said.0 said.1 said.2)
        (λ done. then_served (finish i next below (commits_in done)) _
        (finish_served below (commits_in done) said.3)
        (λ first. then_served (finish i next behind (commits_of first)) _
        (finish_served behind (commits_of first) said.4)
        (λ others. tt)))
