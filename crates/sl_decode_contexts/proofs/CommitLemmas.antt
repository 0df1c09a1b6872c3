-- The runs with one more commit tell of the commits with that one at the end.
use Rattle.std.proofs.Common.{◌≡◌, ℕ, ◌<◌, ◌==◌, ◌&&◌, Bool, true, false, cond, max, bit_or, Option, Some, None, List, [], ◌∷◌, ◌++◌, refl, sym, ap, ◌∙◌, arith, subst, inl, inr}
use Rattle.std.proofs.lemmas.Bool.Decides.{nat_tests}
use Rattle.std.proofs.lemmas.Nat.Bits.{bit_at_or, bit_at-lt, bit_at-zero}
use Rattle.std.specs.Int.{bit_at}
use Rattle.sl_decode_contexts.specs.declared.commits.Commit.{Commit}
use Rattle.sl_decode_contexts.specs.declared.runs.Run.{Run}
use Rattle.sl_decode_contexts.specs.Commits.{latest, or_else}
use Rattle.sl_decode_contexts.specs.declared.tree.Tree.{Tree, Leaf}
use Rattle.sl_decode_contexts.specs.AtAddress.{put, without, with_commit, given_more, fresh}
use Rattle.sl_decode_contexts.specs.Runs.{is_here, flows_here, bit_of, flow_told, Tells, Stands}
use Rattle.sl_decode_contexts.specs.Trees.{run_at, changed, or_fresh, IsCommitted}
use Rattle.sl_decode_contexts.proofs.LatestLemmas.{latest_more, latest_none, latest_some, latest_holds}
use Rattle.sl_decode_contexts.proofs.SeenLemmas.{put_bit, without_bit, bit_cases, below_or_not, eq_true, eq_false}
use Rattle.sl_decode_contexts.proofs.TreeLemmas.{first_run}

or_bits : (a b : ℕ) → a < 2 → b < 2 → max a b ≡ cond (b == 1) 1 a
or_bits a b h g = grind (arith, nat_tests)

or_bit : (a b i : ℕ) → bit_at (bit_or a b) i ≡ cond (bit_at b i == 1) 1 (bit_at a i)
or_bit a b i = rw bit_at_or (or_bits (bit_at a i) (bit_at b i) (bit_at-lt a i) (bit_at-lt b i))

-- a test that fails of the new commit
kept_out : (p : Commit → Bool) (cs : List Commit) (c : Commit) → p c ≡ false → latest p (cs ++ c ∷ []) ≡ latest p cs
kept_out p cs c h = latest_more p cs c ∙ ap (λ b. or_else (cond b (Some c) None) (latest p cs)) h

-- a test that holds of the new commit
taken_in : (p : Commit → Bool) (cs : List Commit) (c : Commit) → p c ≡ true → latest p (cs ++ c ∷ []) ≡ Some c
taken_in p cs c h = latest_more p cs c ∙ ap (λ b. or_else (cond b (Some c) None) (latest p cs)) h

elsewhere : (m x a : ℕ) → (x ≡ a → ⊥) → ((m == 1) && (x == a)) ≡ false
elsewhere m x a h = grind (arith, nat_tests)

flows_elsewhere : (f : Bool) (m x a : ℕ) → (x ≡ a → ⊥) → (f && ((m == 1) && (x == a))) ≡ false
flows_elsewhere true m x a h = grind (arith, nat_tests)
flows_elsewhere false m x a h = refl

other_here : (cs : List Commit) (c : Commit) (a i : ℕ) → (c.address ≡ a → ⊥) → latest (is_here a i) (cs ++ c ∷ []) ≡ latest (is_here a i) cs
other_here cs c a i h = kept_out (is_here a i) cs c (elsewhere (bit_at c.mask i) c.address a h)

other_flows : (cs : List Commit) (c : Commit) (a i : ℕ) → (c.address ≡ a → ⊥) → latest (flows_here a i) (cs ++ c ∷ []) ≡ latest (flows_here a i) cs
other_flows cs c a i h = kept_out (flows_here a i) cs c (flows_elsewhere c.flows (bit_at c.mask i) c.address a h)

-- one commit more at a run's address: for the bit it has, and for those that it hasn't
here_too : (x m a i : ℕ) → bit_at m i ≡ 1 → x ≡ a → ((bit_at m i == 1) && (x == a)) ≡ true
here_too x m a i e h = grind (arith, nat_tests)

not_here : (m x a : ℕ) → m ≡ 0 → ((m == 1) && (x == a)) ≡ false
not_here m x a h = grind (arith, nat_tests)

abbrev commit : ℕ → ℕ → ℕ → Bool → Commit
commit x m v f = record { address = x; mask = m; value = v; flows = f }

-- what a run tells once the commit is made there
run_tells : (i : ℕ) (cs : List Commit) (r : Run) (a m v : ℕ) (f : Bool) → Tells i cs a (Some r) → Tells i (cs ++ commit a m v f ∷ []) a (Some (given_more f m v r))
run_tells i cs r a m v true k =
    let c = commit a m v true in
    elim (bit_cases m i) [
      | inr e ↦
          let fixed : bit_at (bit_or r.fixed m) i ≡ 1 = or_bit r.fixed m i ∙ ap (λ b. cond (b == 1) 1 (bit_at r.fixed i)) e in
          let own : bit_at (without r.own m) i ≡ 0 = without_bit r.own m i ∙ ap (λ b. cond (b == 1) 0 (bit_at r.own i)) e in
          let flow : bit_at (put r.flow m v) i ≡ bit_at v i = put_bit r.flow m v i ∙ ap (λ b. cond (b == 1) (bit_at v i) (bit_at r.flow i)) e in
          let some : flow_told i (Some (given_more true m v r)) ≡ Some (bit_at v i) = ap (λ b. cond (b == 1) (Some (bit_at (put r.flow m v) i)) None) fixed ∙ ap Some flow in record {
            flow = some ∙ ap (bit_of i) (sym (taken_in (flows_here a i) cs c (here_too a m a i e refl)));
            here = ap (λ b. cond (b == 1) (Some (bit_at r.own_value i)) (flow_told i (Some (given_more true m v r)))) own ∙ some ∙ ap (bit_of i) (sym (taken_in (is_here a i) cs c (here_too a m a i e refl)));
          }
      | inl e ↦
          let fixed : bit_at (bit_or r.fixed m) i ≡ bit_at r.fixed i = or_bit r.fixed m i ∙ ap (λ b. cond (b == 1) 1 (bit_at r.fixed i)) e in
          let own : bit_at (without r.own m) i ≡ bit_at r.own i = without_bit r.own m i ∙ ap (λ b. cond (b == 1) 0 (bit_at r.own i)) e in
          let flow : bit_at (put r.flow m v) i ≡ bit_at r.flow i = put_bit r.flow m v i ∙ ap (λ b. cond (b == 1) (bit_at v i) (bit_at r.flow i)) e in
          let same : flow_told i (Some (given_more true m v r)) ≡ flow_told i (Some r) = ap (λ b. cond (b == 1) (Some (bit_at (put r.flow m v) i)) None) fixed ∙ ap (λ b. cond (bit_at r.fixed i == 1) (Some b) None) flow in record {
            flow = same ∙ k.flow ∙ ap (bit_of i) (sym (kept_out (flows_here a i) cs c (not_here (bit_at m i) a a e)));
            here = ap (λ b. cond (b == 1) (Some (bit_at r.own_value i)) (flow_told i (Some (given_more true m v r)))) own ∙ ap (λ t. cond (bit_at r.own i == 1) (Some (bit_at r.own_value i)) t) same
                ∙ k.here ∙ ap (bit_of i) (sym (kept_out (is_here a i) cs c (not_here (bit_at m i) a a e)));
          }
    ]
run_tells i cs r a m v false k =
    let c = commit a m v false in
    elim (bit_cases m i) [
      | inr e ↦
          let own : bit_at (bit_or r.own m) i ≡ 1 = or_bit r.own m i ∙ ap (λ b. cond (b == 1) 1 (bit_at r.own i)) e in
          let value : bit_at (put r.own_value m v) i ≡ bit_at v i = put_bit r.own_value m v i ∙ ap (λ b. cond (b == 1) (bit_at v i) (bit_at r.own_value i)) e in record {
            flow = k.flow ∙ ap (bit_of i) (sym (kept_out (flows_here a i) cs c refl));
            here = ap (λ b. cond (b == 1) (Some (bit_at (put r.own_value m v) i)) (flow_told i (Some r))) own ∙ ap Some value ∙ ap (bit_of i) (sym (taken_in (is_here a i) cs c (here_too a m a i e refl)));
          }
      | inl e ↦
          let own : bit_at (bit_or r.own m) i ≡ bit_at r.own i = or_bit r.own m i ∙ ap (λ b. cond (b == 1) 1 (bit_at r.own i)) e in
          let value : bit_at (put r.own_value m v) i ≡ bit_at r.own_value i = put_bit r.own_value m v i ∙ ap (λ b. cond (b == 1) (bit_at v i) (bit_at r.own_value i)) e in record {
            flow = k.flow ∙ ap (bit_of i) (sym (kept_out (flows_here a i) cs c refl));
            here = ap (λ b. cond (b == 1) (Some (bit_at (put r.own_value m v) i)) (flow_told i (Some r))) own ∙ ap (λ b. cond (bit_at r.own i == 1) (Some b) (flow_told i (Some r))) value
                ∙ k.here ∙ ap (bit_of i) (sym (kept_out (is_here a i) cs c (not_here (bit_at m i) a a e)));
          }
    ]

here_if_flows : (f : Bool) (m x a : ℕ) → ((m == 1) && (x == a)) ≡ false → (f && ((m == 1) && (x == a))) ≡ true → ⊥
here_if_flows true m x a h e = cc
here_if_flows false m x a h e = cc

flows_none : (i : ℕ) (cs : List Commit) (x : ℕ) → latest (is_here x i) cs ≡ None → latest (flows_here x i) cs ≡ None
flows_none i cs x n = latest_none (flows_here x i) cs (λ d e.
    here_if_flows d.flows (bit_at d.mask i) d.address x (latest_some (flows_here x i) (is_here x i) cs d e n) (latest_holds (flows_here x i) cs d e))

-- a run that tells nothing yet tells what no run tells
or_fresh_tells : (i : ℕ) (cs : List Commit) (a : ℕ) (o : Option Run) → Tells i cs a o → Tells i cs a (Some (or_fresh a o))
or_fresh_tells i cs a (Some r) t = t
or_fresh_tells i cs a None t =
    let none : flow_told i (Some (fresh a)) ≡ None = ap (λ b. cond (b == 1) (Some (bit_at 0 i)) None) (bit_at-zero i) in record {
      flow = none ∙ t.flow;
      here = ap (λ b. cond (b == 1) (Some (bit_at 0 i)) (flow_told i (Some (fresh a)))) (bit_at-zero i) ∙ none ∙ t.here;
    }

-- the runs with one more commit tell of it too
changed_tells : (i : ℕ) (cs : List Commit) (c : Commit) (runs : ℕ → Option Run) (a : ℕ) → Tells i cs a (runs a) → Tells i (cs ++ c ∷ []) a (changed c runs a)
changed_tells i cs c runs a t =
    elim (below_or_not c.address a) [
      | inl h ↦ elsewhere_tells i cs c runs a (λ e. omega arith) t
      | inr h ↦ elim (below_or_not a c.address) [
        | inl g ↦ elsewhere_tells i cs c runs a (λ e. omega arith) t
        | inr g ↦
            let e : c.address ≡ a = omega arith in
            let one : Tells i (cs ++ commit a c.mask c.value c.flows ∷ []) a (Some (with_commit c (or_fresh a (runs a)))) =
            run_tells i cs (or_fresh a (runs a)) a c.mask c.value c.flows (or_fresh_tells i cs a (runs a) t) in
            let two : Tells i (cs ++ c ∷ []) a (Some (with_commit c (or_fresh a (runs a)))) =
            subst (λ x. Tells i (cs ++ commit x c.mask c.value c.flows ∷ []) a (Some (with_commit c (or_fresh a (runs a))))) (sym e) one in
            subst (λ b. Tells i (cs ++ c ∷ []) a (cond b (Some (with_commit c (or_fresh a (runs a)))) (runs a))) (sym (eq_true c.address a e)) two
      ]
    ]
  where
    elsewhere_tells : (i : ℕ) (cs : List Commit) (c : Commit) (runs : ℕ → Option Run) (a : ℕ) → (c.address ≡ a → ⊥) → Tells i cs a (runs a) → Tells i (cs ++ c ∷ []) a (changed c runs a)
    elsewhere_tells i cs c runs a h t = subst (λ b. Tells i (cs ++ c ∷ []) a (cond b (Some (with_commit c (or_fresh a (runs a)))) (runs a))) (sym (eq_false c.address a h)) (record {
      flow = t.flow ∙ ap (bit_of i) (sym (other_flows cs c a i h));
      here = t.here ∙ ap (bit_of i) (sym (other_here cs c a i h));
    })

-- a map that stands for the commits stands for one more, once the commit is made in its tree
pub commit_stands : (old new : Tree) (kept : ℕ) (start : ℕ) (cs : List Commit) (c : Commit) → Stands (record { start = kept; runs = Some old }) start cs → IsCommitted c old new
    → Stands (record { start = kept; runs = Some new }) start (cs ++ c ∷ [])
commit_stands old new kept start cs c s made = record {
  start_is = s.start_is;
  sound = made.sound s.sound;
  tells = λ i h a. subst (Tells i (cs ++ c ∷ []) a) (sym (made.runs s.sound a)) (changed_tells i cs c (run_at old) a (s.tells i h a));
}

-- the same, where it is the first one
pub first_stands : (kept : ℕ) (start : ℕ) (cs : List Commit) (c : Commit) → Stands (record { start = kept; runs = None }) start cs
    → Stands (record { start = kept; runs = Some (Leaf (with_commit c (fresh c.address))) }) start (cs ++ c ∷ [])
first_stands kept start cs c s = record {
  start_is = s.start_is;
  sound = tt;
  tells = λ i h a. subst (Tells i (cs ++ c ∷ []) a) (sym (first_run c a)) (changed_tells i cs c (λ x. None) a (s.tells i h a));
}
