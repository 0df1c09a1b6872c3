-- Laws of runs: equations of the machine, and that each run ends.
use Rattle.std.proofs.Common.{◌≡◌, ℕ, zero, suc, ◌+◌, ◌*◌, ◌≤◌, Bool, true, false, List, [], ◌∷◌, length, drop, Option, Some, None, refl, ap, add-one, arith}
use Rattle.std.proofs.lemmas.List.{drop_all, length-drop}
use Rattle.std.specs.Prelude.{if◌then◌else◌, ◌==◌, slice_get}
use Rattle.sl_word.specs.Memories.{Memory}
use Rattle.sl_word.specs.declared.word.Endian.{Endian}
use Rattle.sl_pcode.specs.Effects.{effect_of}
use Rattle.sl_pcode.specs.Machine.{Temporaries, Ending, at_end, jumps_too_often, Run, ended, whole, jump_limit, has_no_value, at_target, value_of, put_at, does, op_does, ops_run, jump_run, run_from, run_of, ran_of, rest_after, EndsSo}
use Rattle.sl_pcode.specs.Targets.{place_at}
use Rattle.sl_pcode.specs.declared.effect.Effect.{Effect}
use Rattle.sl_pcode.specs.declared.effect.Effect.TheVariants.{Unary, Binary, Load, Store, Branch, CBranch, Call, Indirect, UserOp}
use Rattle.sl_pcode.specs.declared.operation.Op.{Op}
use Rattle.sl_pcode.specs.declared.varnode.Place2.{Place2}
use Rattle.sl_pcode.specs.declared.varnode.Place2.TheVariants.{Const, Unique, In}

drop-suc : (ops : List Op) (at : ℕ) (op : Op) → slice_get ops at ≡ Some op → drop at ops ≡ op ∷ drop (suc at) ops
drop-suc [] at op is = cc
drop-suc (x ∷ xs) zero op is = let same : x ≡ op = cc in ap (λ (y : Op). y ∷ xs) same
drop-suc (x ∷ xs) (suc at) op is = drop-suc xs at op is

drop-at : (ops : List Op) (at : ℕ) (op : Op) → slice_get ops at ≡ Some op → drop at ops ≡ op ∷ drop (at + 1) ops
drop-at ops at op is = rw add-one (drop-suc ops at op is)

module _ (endian : Endian) (sizes : List ℕ) where
  -- behind the last operation a run ends
  pub run_from-end : (ops : List Op) (left at : ℕ) (m : Memory) (t : Temporaries) → length ops ≤ at → run_from endian sizes ops left at m t ≡ ended at_end m
  unfolding run_from ops_run
  run_from-end ops left at m t past = ap (λ rest. ops_run endian sizes (jump_run endian sizes ops left) at rest m t) (drop_all at ops past)

  -- at an operation a run does what it does
  pub run_from-op : (ops : List Op) (left at : ℕ) (m : Memory) (t : Temporaries) (op : Op) → slice_get ops at ≡ Some op → run_from endian sizes ops left at m t
      ≡ op_does endian sizes (effect_of op) m t (λ m' t'. whole m (run_from endian sizes ops left (at + 1) m' t')) (λ distance. jump_run endian sizes ops left (place_at at distance) m t)
      (λ ending. whole m (ended ending m)) (λ ending. ended ending m)
  unfolding run_from ops_run
  run_from-op ops left at m t op is = ap (λ rest. ops_run endian sizes (jump_run endian sizes ops left) at rest m t) (drop-at ops at op is)

  -- a jump is taken where one is left
  pub jump_run-taken : (ops : List Op) (left at : ℕ) (m : Memory) (t : Temporaries) → jump_run endian sizes ops (suc left) at m t ≡ whole m (run_from endian sizes ops left at m t)
  unfolding run_from jump_run
  jump_run-taken ops left at m t = refl

  pub jump_run-none : (ops : List Op) (at : ℕ) (m : Memory) (t : Temporaries) → jump_run endian sizes ops zero at m t ≡ ended jumps_too_often m
  unfolding jump_run
  jump_run-none ops at m t = refl

-- what holds of both, holds of either
either : {R : Type 0} (P : R → Type 0) (b : Bool) (x y : R) → P x → P y → P (if b then x else y)
either P true x y hx hy = hx
either P false x y hx hy = hy

module _ (endian : Endian) (sizes : List ℕ) {R : Type 0} (P : R → Type 0) (next : Memory → Temporaries → R) (jump : ℕ → R) (leave fault : Ending → R)
    (hn : (m : Memory) (t : Temporaries) → P (next m t)) (hj : (d : ℕ) → P (jump d)) (hl : (x : Ending) → P (leave x)) (hf : (x : Ending) → P (fault x)) where
  put-all : (place : Place2) (offset count number : ℕ) (m : Memory) (t : Temporaries) → P (put_at endian sizes place offset count number m t next)
  put-all Const offset count number m t = hn _ _
  put-all Unique offset count number m t = hn _ _
  put-all (In space) offset count number m t = hn _ _

  target-all : (place : Place2) (offset : ℕ) → P (at_target place offset jump leave)
  target-all Const offset = hj _
  target-all Unique offset = hl _
  target-all (In space) offset = hl _

  -- What holds of all that may follow an operation, holds of what it does.
  pub does-all : (e : Effect) (m : Memory) (t : Temporaries) → P (does endian sizes e m t next jump leave fault)
  does-all (Unary f out a) m t = put-all out.place _ _ _ m t
  does-all (Binary f out a b) m t = either P (has_no_value f (value_of endian sizes b m t)) _ _ (hf _) (put-all out.place _ _ _ m t)
  does-all (Load out space pointer) m t = put-all out.place _ _ _ m t
  does-all (Store space pointer value) m t = hn _ _
  does-all (Branch target) m t = target-all target.place target.offset
  does-all (CBranch target condition) m t = either P (value_of endian sizes condition m t == 0) _ _ (hn m t) (target-all target.place target.offset)
  does-all (Call target) m t = hl _
  does-all (Indirect pointer) m t = hl _
  does-all (UserOp number) m t = hf _

  pub op_does-all : (e : Option Effect) (m : Memory) (t : Temporaries) → P (op_does endian sizes e m t next jump leave fault)
  op_does-all (Some e) m t = does-all e m t
  op_does-all None m t = hn m t

module _ (endian : Endian) (sizes : List ℕ) where
  -- between two jumps each operation runs at most once
  ops_run-bound : (jump : ℕ → Memory → Temporaries → Run) (most at : ℕ) (ops : List Op) (m : Memory) (t : Temporaries) → ((p : ℕ) (m' : Memory) (t' : Temporaries) → ran_of (jump p m' t') ≤ most)
      → ran_of (ops_run endian sizes jump at ops m t) ≤ length ops + most
  unfolding ops_run
  ops_run-bound jump most at [] m t hj = omega arith
  ops_run-bound jump most at (op ∷ ops) m t hj =
      op_does-all endian sizes (λ r. ran_of r ≤ length (op ∷ ops) + most) _ _ _ _
      (λ m' t'. let rest = ops_run-bound jump most (at + 1) ops m' t' hj in omega arith)
      (λ d. let there = hj (place_at at d) m t in omega arith)
      (λ x. omega arith) (λ x. omega arith) (effect_of op) m t

  jump_run-bound : (ops : List Op) (left at : ℕ) (m : Memory) (t : Temporaries) → ran_of (jump_run endian sizes ops left at m t) ≤ left * (length ops + 1)
  unfolding jump_run
  jump_run-bound ops zero at m t = omega arith
  jump_run-bound ops (suc left) at m t =
      let rest = ops_run-bound (jump_run endian sizes ops left) (left * (length ops + 1)) at (drop at ops) m t (jump_run-bound ops left) in
      omega (arith, length-drop at ops)

  pub run_from-bound : (ops : List Op) (left at : ℕ) (m : Memory) (t : Temporaries) → ran_of (run_from endian sizes ops left at m t) ≤ left * (length ops + 1) + length ops
  unfolding run_from
  run_from-bound ops left at m t =
      let rest = ops_run-bound (jump_run endian sizes ops left) (left * (length ops + 1)) at (drop at ops) m t (jump_run-bound ops left) in
      omega (arith, length-drop at ops)

  -- Each run ends: it goes through the list once more than it jumps, at most.
  pub run_of-bound : (ops : List Op) (m : Memory) → ran_of (run_of endian sizes ops m) ≤ jump_limit * (length ops + 1) + length ops
  unfolding run_of
  run_of-bound ops m = run_from-bound ops jump_limit 0 m (λ offset. 0)

-- one more operation of a run
pub rest_after-more : (n : ℕ) (run rest : Run) (m : Memory) → rest_after n run ≡ Some (whole m rest) → rest_after (n + 1) run ≡ Some rest
rest_after-more n run rest m is = rw add-one (further n run is)
  where
    further : (n : ℕ) (run : Run) → rest_after n run ≡ Some (whole m rest) → rest_after (suc n) run ≡ Some rest
    further zero (ended e m') is = cc
    further zero (whole m' r) is = let same : r ≡ rest = cc in ap (λ (x : Run). Some x) same
    further (suc n) (ended e m') is = cc
    further (suc n) (whole m' r) is = further n r is

-- a run of which nothing but its end is left
pub ends_so : (n : ℕ) (run : Run) (ending : Ending) (m : Memory) → rest_after n run ≡ Some (ended ending m) → EndsSo n run ending m
ends_so zero (ended e m') ending m is = record { ran = refl; ending = cc; memory = cc }
ends_so zero (whole m' r) ending m is = cc
ends_so (suc n) (ended e m') ending m is = cc
ends_so (suc n) (whole m' r) ending m is =
    let so = ends_so n r ending m is in record { ran = omega (arith, so.ran); ending = so.ending; memory = so.memory }

-- what is left behind some operations has the others
pub rest_after-ran : (n : ℕ) (run rest : Run) → rest_after n run ≡ Some rest → ran_of run ≡ n + ran_of rest
rest_after-ran zero run rest is = let same : run ≡ rest = cc in omega (arith, ap ran_of same)
rest_after-ran (suc n) (ended e m) rest is = cc
rest_after-ran (suc n) (whole m r) rest is = omega (arith, rest_after-ran n r rest is)
