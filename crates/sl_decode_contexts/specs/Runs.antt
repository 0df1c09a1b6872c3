-- view: what runs keep of a list of commits.
use Rattle.std.specs.Prelude.{◌≡◌, ℕ, ◌<◌, ◌==◌, ◌&&◌, Bool, if◌then◌else◌}
use Rattle.std.specs.Prelude.{⊤, Option, Some, None, List}
use Rattle.std.specs.Int.{bit_at}
use Rattle.sl_decode_contexts.specs.declared.commits.Commit.{Commit}
use Rattle.sl_decode_contexts.specs.declared.runs.Run.{Run}
use Rattle.sl_decode_contexts.specs.declared.tree.Tree.{Tree}
use Rattle.sl_decode_contexts.specs.Commits.{latest}
use Rattle.sl_decode_contexts.specs.Kept.{Kept}
use Rattle.sl_decode_contexts.specs.Trees.{IsSound, run_at}

-- ---- which commits are at an address

-- the commit gives this bit, at this address
abbrev pub is_here : ℕ → ℕ → Commit → Bool
is_here address i c = (bit_at c.mask i == 1) && (c.address == address)

-- the same, and it flows
abbrev pub flows_here : ℕ → ℕ → Commit → Bool
flows_here address i c = c.flows && is_here address i c

-- ---- what a run stands for

abbrev pub bit_of : ℕ → Option Commit → Option ℕ
bit_of i None = None
bit_of i (Some c) = Some (bit_at c.value i)

-- the bit that flowing commits at the address give, and the one that all commits there give
abbrev pub flow_told : ℕ → Option Run → Option ℕ
flow_told i None = None
flow_told i (Some r) = if bit_at r.fixed i == 1 then Some (bit_at r.flow i) else None

abbrev pub told : ℕ → Option Run → Option ℕ
told i None = None
told i (Some r) =
    if bit_at r.own i == 1 then Some (bit_at r.own_value i) else flow_told i (Some r)

-- For one bit and one address: the run there tells the latest commits there; none where there is
-- no run.
pub record Tells (i : ℕ) (cs : List Commit) (a : ℕ) (run : Option Run) : Type 0 where
  pub flow : flow_told i run ≡ bit_of i (latest (flows_here a i) cs)
  pub here : told i run ≡ bit_of i (latest (is_here a i) cs)

-- ---- what a map stands for

abbrev pub runs_at : Option Tree → ℕ → Option Run
runs_at None a = None
runs_at (Some t) a = run_at t a

abbrev pub AreSound : Option Tree → Type 0
AreSound None = ⊤
AreSound (Some t) = IsSound t

abbrev pub TellsAll : List Commit → Option Tree → Type 0
TellsAll cs runs = (i : ℕ) → i < 64 → (a : ℕ) → Tells i cs a (runs_at runs a)

-- A map stands for a starting value and a list of commits.
pub record Stands (m : Kept) (start : ℕ) (cs : List Commit) : Type 0 where
  pub start_is : m.start ≡ start
  pub sound : AreSound m.runs
  pub tells : TellsAll cs m.runs
