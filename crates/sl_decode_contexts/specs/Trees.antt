-- view: what a tree of runs stands for.
use Rattle.std.specs.Prelude.{◌≡◌, ℕ, ◌<◌, ◌≤◌, ◌==◌, ⊤, ◌⊎◌, nat_lt, min, max, if◌then◌else◌}
use Rattle.std.specs.Prelude.{Option, Some, None, bit_or}
use Rattle.sl_decode_contexts.specs.declared.commits.Commit.{Commit}
use Rattle.sl_decode_contexts.specs.declared.runs.Run.{Run}
use Rattle.sl_decode_contexts.specs.declared.tree.Sum.{Sum}
use Rattle.sl_decode_contexts.specs.declared.tree.Tree.{Tree, Leaf, Fork'}
use Rattle.sl_decode_contexts.specs.AtAddress.{fresh, merged, passed, put, with_commit}

-- ---- what its runs have together

abbrev pub first_of : Tree → ℕ
first_of (Leaf r) = r.address
first_of (Fork' p l s q r) = s.first

abbrev pub last_of : Tree → ℕ
last_of (Leaf r) = r.address
last_of (Fork' p l s q r) = s.last

abbrev pub fixed_of : Tree → ℕ
fixed_of (Leaf r) = r.fixed
fixed_of (Fork' p l s q r) = s.fixed

abbrev pub flow_of : Tree → ℕ
flow_of (Leaf r) = r.flow
flow_of (Fork' p l s q r) = s.flow

abbrev pub sum_of : Tree → ℕ → Tree → Sum
sum_of l split r = record {
  first = first_of l;
  split = split;
  last = last_of r;
  fixed = bit_or (fixed_of l) (fixed_of r);
  flow = put (flow_of l) (fixed_of r) (flow_of r);
}

-- The runs are in order, and each fork keeps what its runs have together.
abbrev pub IsSound : Tree → Type 0
IsSound (Leaf r) = ⊤
IsSound (Fork' p l s q r) =
    IsSound l × IsSound r × (last_of l < s.split) × (s.split ≤ first_of r) × (s ≡ sum_of l s.split r)

-- ---- what is found in it

-- the run of an address
abbrev pub run_at : Tree → ℕ → Option Run
run_at (Leaf r) a = if r.address == a then Some r else None
run_at (Fork' p l s q r) a = if nat_lt a s.split then run_at l a else run_at r a

-- what flows on from its last run
abbrev pub onward : ℕ → Tree → ℕ
onward before t = put before (fixed_of t) (flow_of t)

-- the context that the runs tell at an address, where so much flows up to the first
abbrev pub seen : ℕ → Tree → ℕ → ℕ
seen before (Leaf r) a =
    if nat_lt a r.address then before
    else (if nat_lt r.address a then passed before r else merged before r)
seen before (Fork' p l s q r) a =
    if nat_lt a s.first then before
    else (if nat_lt s.last a then put before s.fixed s.flow
    else (if nat_lt a s.split then seen before l a else seen (onward before l) r a))

-- ---- one more commit

-- The address is below all of its runs, or above all of them.
abbrev pub IsApart : Tree → ℕ → Type 0
IsApart t a = (a < first_of t) ⊎ (last_of t < a)

-- A tree of one run has that of the address.
abbrev pub IsRunOf : Tree → ℕ → Type 0
IsRunOf (Leaf r) a = r.address ≡ a
IsRunOf (Fork' p l s q r) a = ⊤

abbrev pub or_fresh : ℕ → Option Run → Run
or_fresh a None = fresh a
or_fresh a (Some r) = r

abbrev pub changed : Commit → (ℕ → Option Run) → ℕ → Option Run
changed c runs a = if c.address == a then Some (with_commit c (or_fresh a (runs a))) else runs a

-- The commit's address has a run with the commit, and all else stays.
pub record IsCommitted (c : Commit) (old new : Tree) : Type 0 where
  pub runs : IsSound old → (a : ℕ) → run_at new a ≡ changed c (run_at old) a
  pub sound : IsSound old → IsSound new
  pub first : IsSound old → first_of new ≡ min (first_of old) c.address
  pub last : IsSound old → last_of new ≡ max (last_of old) c.address
