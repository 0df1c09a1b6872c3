-- A run of a memory of bytes has bytes at each of its operations.
use Rattle.std.proofs.Common.{ℕ, zero, suc, ◌+◌, Bool, true, false, List, [], ◌∷◌, drop, Option, Some, None}
use Rattle.std.proofs.Common.{subst}
use Rattle.std.specs.Prelude.{if◌then◌else◌, ◌==◌}
use Rattle.sl_faithful_code.proofs.Bytes.{low_stored}
use Rattle.sl_faithful_code.specs.Faithful.{AreBytes}
use Rattle.sl_emu.specs.Outcomes.{HasEffectsOf}
use Rattle.sl_pcode.specs.Effects.{effect_of}
use Rattle.sl_pcode.specs.Machine.{Ending, Run, Temporaries, at_target, does, ended, first_memory, has_no_value}
use Rattle.sl_pcode.specs.Machine.{jump_limit, jump_run, op_does, ops_run, put_at, run_from, run_of, value_of, whole}
use Rattle.sl_pcode.specs.Targets.{place_at}
use Rattle.sl_pcode.specs.declared.effect.Effect.{Effect}
use Rattle.sl_pcode.specs.declared.effect.Effect.TheVariants.{Binary, Branch, CBranch, Call, Indirect, Load, Store}
use Rattle.sl_pcode.specs.declared.effect.Effect.TheVariants.{Unary, UserOp}
use Rattle.sl_pcode.specs.declared.operation.Op.{Op}
use Rattle.sl_pcode.specs.declared.varnode.Place2.{Place2}
use Rattle.sl_pcode.specs.declared.varnode.Place2.TheVariants.{Const, In, Unique}
use Rattle.sl_word.specs.Memories.{Memory}
use Rattle.sl_word.specs.declared.word.Endian.{Endian}

-- each memory of a run is one of bytes
abbrev Ends : Run → Type 0
Ends (ended ending m) = AreBytes m
Ends (whole m rest) = AreBytes m × Ends rest

either : (b : Bool) (x y : Run) → Ends x → Ends y → Ends (if b then x else y)
either true x y hx hy = hx
either false x y hx hy = hy

-- what follows an operation ends with bytes, where it is reached with bytes
module _ (endian : Endian) (sizes : List ℕ) (next : Memory → Temporaries → Run) (jump : ℕ → Run)
    (leave fault : Ending → Run)
    (hn : (m : Memory) (t : Temporaries) → AreBytes m → Ends (next m t)) (hj : (d : ℕ) → Ends (jump d))
    (hl : (x : Ending) → Ends (leave x)) (hf : (x : Ending) → Ends (fault x)) where
  put_ends : (place : Place2) (offset count number : ℕ) (m : Memory) (t : Temporaries) → AreBytes m
      → Ends (put_at endian sizes place offset count number m t next)
  put_ends Const offset count number m t low = hn _ _ low
  put_ends Unique offset count number m t low = hn _ _ low
  put_ends (In space) offset count number m t low = hn _ _ (low_stored endian sizes m space.0 offset count number low)

  target_ends : (place : Place2) (offset : ℕ) → Ends (at_target place offset jump leave)
  target_ends Const offset = hj _
  target_ends Unique offset = hl _
  target_ends (In space) offset = hl _

  does_ends : (e : Effect) (m : Memory) (t : Temporaries) → AreBytes m
      → Ends (does endian sizes e m t next jump leave fault)
  does_ends (Unary f out a) m t low = put_ends out.place _ _ _ m t low
  does_ends (Binary f out a b) m t low = either (has_no_value f (value_of endian sizes b m t)) _ _ (hf _)
      (put_ends out.place _ _ _ m t low)
  does_ends (Load out space pointer) m t low = put_ends out.place _ _ _ m t low
  does_ends (Store space pointer value) m t low = hn _ _
      (low_stored endian sizes m space.offset (value_of endian sizes pointer m t) value.size.bytes
      (value_of endian sizes value m t) low)
  does_ends (Branch target) m t low = target_ends target.place target.offset
  does_ends (CBranch target condition) m t low = either (value_of endian sizes condition m t == 0) _ _ (hn m t low)
      (target_ends target.place target.offset)
  does_ends (Call target) m t low = hl _
  does_ends (Indirect pointer) m t low = hl _
  does_ends (UserOp number) m t low = hf _

  op_ends : (e : Option Effect) (m : Memory) (t : Temporaries) → AreBytes m
      → Ends (op_does endian sizes e m t next jump leave fault)
  op_ends (Some e) m t low = does_ends e m t low
  op_ends None m t low = hn m t low

module _ (endian : Endian) (sizes : List ℕ) where
  ops_end : (jump : ℕ → Memory → Temporaries → Run)
      → ((p : ℕ) (m : Memory) (t : Temporaries) → AreBytes m → Ends (jump p m t))
      → (at : ℕ) (ops : List Op) (m : Memory) (t : Temporaries) → AreBytes m
      → Ends (ops_run endian sizes jump at ops m t)
  unfolding ops_run
  ops_end jump hj at [] m t low = low
  ops_end jump hj at (op ∷ ops) m t low =
      op_ends endian sizes _ _ _ _ (λ m' t' low'. (low, ops_end jump hj (at + 1) ops m' t' low'))
      (λ d. hj (place_at at d) m t low) (λ x. (low, low)) (λ x. low) (effect_of op) m t low

  jumps_end : (ops : List Op) (left at : ℕ) (m : Memory) (t : Temporaries) → AreBytes m
      → Ends (jump_run endian sizes ops left at m t)
  unfolding jump_run
  jumps_end ops zero at m t low = low
  jumps_end ops (suc left) at m t
      low = (low, ops_end (jump_run endian sizes ops left) (jumps_end ops left) at (drop at ops) m t low)

  run_ends : (ops : List Op) (m : Memory) → AreBytes m → Ends (run_of endian sizes ops m)
  unfolding run_of run_from
  run_ends ops m low = ops_end (jump_run endian sizes ops jump_limit) (jumps_end ops jump_limit) 0 (drop 0 ops) m
      (λ o. 0) low

first_bytes : (run : Run) → Ends run → AreBytes (first_memory run)
first_bytes (ended ending m) all = all
first_bytes (whole m rest) all = all.0

effects_by : (n : ℕ) (run : Run) (last : Memory) → Ends run → HasEffectsOf n run last → AreBytes last
effects_by zero run last all is = subst AreBytes is (first_bytes run all)
effects_by (suc n) (ended ending m) last all is = absurd is
effects_by (suc n) (whole m rest) last all is = effects_by n rest last all.1 is

-- the memory has bytes that has the effects of the first operations of a run
pub effects_are_bytes : (endian : Endian) (sizes : List ℕ) (ops : List Op) (m last : Memory) (n : ℕ) → AreBytes m
    → HasEffectsOf n (run_of endian sizes ops m) last → AreBytes last
effects_are_bytes endian sizes ops m last n low is = effects_by n (run_of endian sizes ops m) last
    (run_ends endian sizes ops m low) is
