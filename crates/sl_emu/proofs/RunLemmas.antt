-- The run of a list, turn by turn.
use Rattle.std.proofs.Common.{◌≡◌, ℕ, zero, suc, ◌+◌, ◌-◌, ◌*◌, ◌<◌, ◌≤◌, List, [], ◌∷◌, length, get_or, Option, Some, None, Result, Ok, Err, refl, sym, ap, subst, ◌∙◌, arith}
use Rattle.std.specs.Prelude.{IsSomeAnd, slice_get}
use Rattle.std.specs.List.{All}
use Rattle.sl_word.specs.Memories.{Memory}
use Rattle.sl_word.specs.declared.word.Endian.{Endian}
use Rattle.sl_word.specs.declared.word.UserId.{UserId}
use Rattle.sl_pcode.specs.Effects.{effect_of}
use Rattle.sl_pcode.specs.Machine.{Ending, EndsSo, Run, Temporaries as Bytes, at_end, calls_user_op, divides_by_zero, ended, first_memory, jump_limit, jump_run, jumps_too_often, leaves_to, ops_run, ran_of, rest_after, run_from, run_of, whole}
use Rattle.sl_pcode.specs.Targets.{place_at}
use Rattle.sl_pcode.specs.WellFormed.{IsWellFormedOp}
use Rattle.sl_pcode.specs.declared.operation.Op.{Op}
use Rattle.sl_pcode.proofs.RunLaws.{ends_so, jump_run-none, jump_run-taken, op_does-all, rest_after-more, rest_after-ran, run_from-end, run_from-op, run_of-bound}
use Rattle.sl_emu.specs.Outcomes.{HasEffectsOf, IsErrorOf, left_ending}
use Rattle.sl_emu.specs.Steps.{IsSteady, OpDoes, Turned, follows}
use Rattle.sl_emu.specs.declared.run.EmuError.{EmuError}
use Rattle.sl_emu.specs.declared.run.EmuError.TheVariants.{DivideByZero, UserOp, JumpLimit, NoMemory}
use Rattle.sl_emu.specs.declared.run.Left.{Left}
use Rattle.sl_emu.specs.declared.step.Then.{Then}
use Rattle.sl_emu.specs.declared.step.Then.TheVariants.{Next, Jump, Leave, DividesByZero, CallsUserOp}

-- an operation of a list is well formed
pub formed_at : (sizes : List ℕ) (ops : List Op) (at : ℕ) (op : Op) → op ≡ get_or ops at op → at < length ops → All (IsWellFormedOp sizes) ops → IsWellFormedOp sizes op
formed_at sizes ops at op read inside all = subst (IsWellFormedOp sizes) (sym read) (all at op inside)

-- One turn: an operation stands at a place, and does this to memory and temporary bytes.
module _ (endian : Endian) (sizes : List ℕ) (ops : List Op) (left at : ℕ) (m : Memory) (t : Bytes) (op : Op) (th : Then) (m' : Memory) (t' : Bytes)
    (found : slice_get ops at ≡ Some op) (d : OpDoes endian sizes op m t m' t' th) where
  turns : run_from endian sizes ops left at m t
      ≡ follows th m' t' (λ m'' t''. whole m (run_from endian sizes ops left (at + 1) m'' t'')) (λ distance. jump_run endian sizes ops left (place_at at distance) m t)
      (λ ending. whole m (ended ending m)) (λ ending. ended ending m)
  turns =
      run_from-op endian sizes ops left at m t op found
      ∙ d.runs _ _ _ _

  -- what follows, by what the operation came to
  followed : (x : Then) → th ≡ x → run_from endian sizes ops left at m t
      ≡ follows x m' t' (λ m'' t''. whole m (run_from endian sizes ops left (at + 1) m'' t'')) (λ distance. jump_run endian sizes ops left (place_at at distance) m t)
      (λ ending. whole m (ended ending m)) (λ ending. ended ending m)
  followed x same =
      turns ∙ ap (λ (y : Then). follows y m' t' (λ m'' t''. whole m (run_from endian sizes ops left (at + 1) m'' t'')) (λ distance. jump_run endian sizes ops left (place_at at distance) m t)
      (λ ending. whole m (ended ending m)) (λ ending. ended ending m)) same

  steady_at : (x : Then) → th ≡ x → IsSteady x m t m' t'
  steady_at x same = subst (λ (y : Then). IsSteady y m t m' t') same d.steady

  pub turn_next : th ≡ Next → run_from endian sizes ops left at m t ≡ whole m (run_from endian sizes ops left (at + 1) m' t')
  turn_next same = followed Next same

  pub turn_leave : (address : ℕ) → th ≡ Leave address → (run_from endian sizes ops left at m t ≡ whole m (ended (leaves_to address) m)) × (m' ≡ m)
  turn_leave address same = (followed (Leave address) same, steady_at (Leave address) same)

  pub turn_divides : th ≡ DividesByZero → (run_from endian sizes ops left at m t ≡ ended divides_by_zero m) × (m' ≡ m)
  turn_divides same = (followed DividesByZero same, steady_at DividesByZero same)

  pub turn_user : (user : UserId) → th ≡ CallsUserOp user → (run_from endian sizes ops left at m t ≡ ended (calls_user_op user.0) m) × (m' ≡ m)
  turn_user user same = (followed (CallsUserOp user) same, steady_at (CallsUserOp user) same)

  pub turn_limit : (distance : ℕ) → th ≡ Jump distance → left ≡ 0 → (run_from endian sizes ops left at m t ≡ ended jumps_too_often m) × (m' ≡ m)
  turn_limit distance same none = (
    followed (Jump distance) same
        ∙ ap (λ n. jump_run endian sizes ops n (place_at at distance) m t) none
        ∙ jump_run-none endian sizes ops (place_at at distance) m t,
    (steady_at (Jump distance) same).1,
  )

  pub turn_jump : (distance to : ℕ) → th ≡ Jump distance → 0 < left → to ≡ place_at at distance → run_from endian sizes ops left at m t ≡ whole m (run_from endian sizes ops (left - 1) to m' t')
  turn_jump distance to same some place =
      let more : left ≡ suc (left - 1) = omega arith in
      followed (Jump distance) same
      ∙ ap (λ n. jump_run endian sizes ops n (place_at at distance) m t) more
      ∙ jump_run-taken endian sizes ops (left - 1) (place_at at distance) m t
      ∙ ap (λ p. whole m (run_from endian sizes ops (left - 1) p m t)) (sym place)
      ∙ ap (λ (n : Memory). whole m (run_from endian sizes ops (left - 1) to n t)) (sym (steady_at (Jump distance) same).1)
      ∙ ap (λ (u : Bytes). whole m (run_from endian sizes ops (left - 1) to m' u)) (sym (steady_at (Jump distance) same).2)

module _ (endian : Endian) (sizes : List ℕ) where
  -- a run begins with the memory that it is given
  first-ops_run : (jump : ℕ → Memory → Bytes → Run) (at : ℕ) (ops : List Op) (m : Memory) (t : Bytes) → ((p : ℕ) → first_memory (jump p m t) ≡ m) → first_memory (ops_run endian sizes jump at ops m t) ≡ m
  unfolding ops_run
  first-ops_run jump at [] m t hj = refl
  first-ops_run jump at (op ∷ ops) m t hj =
      op_does-all endian sizes (λ (r : Run). first_memory r ≡ m) _ _ _ _ (λ m' t'. refl) (λ distance. hj (place_at at distance)) (λ x. refl) (λ x. refl) (effect_of op) m t

  first-jump_run : (ops : List Op) (left at : ℕ) (m : Memory) (t : Bytes) → first_memory (jump_run endian sizes ops left at m t) ≡ m
  unfolding jump_run
  first-jump_run ops zero at m t = refl
  first-jump_run ops (suc left) at m t = refl

  pub first-run_from : (ops : List Op) (left at : ℕ) (m : Memory) (t : Bytes) → first_memory (run_from endian sizes ops left at m t) ≡ m
  unfolding run_from
  first-run_from ops left at m t = first-ops_run (jump_run endian sizes ops left) at _ m t (λ p. first-jump_run ops left p m t)

  pub first-run_of : (ops : List Op) (m : Memory) → first_memory (run_of endian sizes ops m) ≡ m
  unfolding run_of
  first-run_of ops m = first-run_from ops jump_limit 0 m (λ offset. 0)

  -- at the start all of a run is left
  pub run_start : (ops : List Op) (m : Memory) (t : Bytes) (n : ℕ) → n ≡ 0 → t ≡ (λ offset. 0) → rest_after n (run_of endian sizes ops m) ≡ Some (run_from endian sizes ops 65536 0 m t)
  unfolding run_of jump_limit
  run_start ops m t n none zeros =
      ap (λ k. rest_after k (run_from endian sizes ops 65536 0 m (λ offset. 0))) none ∙ ap (λ (u : Bytes). Some (run_from endian sizes ops 65536 0 m u)) (sym zeros)

  pub run_bound : (ops : List Op) (m : Memory) → ran_of (run_of endian sizes ops m) ≤ 65536 * (length ops + 1) + length ops
  unfolding jump_limit
  run_bound ops m = run_of-bound endian sizes ops m

  -- behind the last operation
  pub run_done : (ops : List Op) (left at n : ℕ) (m : Memory) (t : Bytes) (run : Run) → length ops ≤ at → rest_after n run ≡ Some (run_from endian sizes ops left at m t) → rest_after n run ≡ Some (ended at_end m)
  run_done ops left at n m t run past rest = rest ∙ ap (λ (r : Run). Some r) (run_from-end endian sizes ops left at m t past)

-- the same turn, of an order of bytes and of sizes that are equal
pub turned_along : (endian endian' : Endian) (sizes sizes' : List ℕ) (ops : List Op) (jumps at jumps' at' : ℕ) (m m' : Memory) (t t' : Bytes) (r : Result (Option Left) EmuError) → endian ≡ endian' → sizes ≡ sizes'
    → Turned m (run_from endian sizes ops jumps at m t) m' (run_from endian sizes ops jumps' at' m' t') r
    → Turned m (run_from endian' sizes' ops jumps at m t) m' (run_from endian' sizes' ops jumps' at' m' t') r
turned_along endian endian' sizes sizes' ops jumps at jumps' at' m m' t t' r order spaces turned =
    subst (λ (s : List ℕ). Turned m (run_from endian' s ops jumps at m t) m' (run_from endian' s ops jumps' at' m' t') r) spaces
    (subst (λ (x : Endian). Turned m (run_from x sizes ops jumps at m t) m' (run_from x sizes ops jumps' at' m' t') r) order turned)

-- A turn, where n operations of a run ran before it.
module _ (n : ℕ) (run before after : Run) (old new : Memory) (rest : rest_after n run ≡ Some before) where
  some_before : (r : Run) → before ≡ r → rest_after n run ≡ Some r
  some_before r is = rest ∙ ap (λ (x : Run). Some x) is

  -- it is an error
  error_at : (last : Ending) → before ≡ ended last old → new ≡ old → EndsSo n run last new
  error_at last is same = subst (λ (m : Memory). EndsSo n run last m) (sym same) (ends_so n run last old (some_before (ended last old) is))

  pub turned_error : (e : EmuError) → Turned old before new after (Err e) → IsErrorOf n run new e
  turned_error DivideByZero turned = error_at divides_by_zero turned.0 turned.1
  turned_error (UserOp user) turned = error_at (calls_user_op user.0) turned.0 turned.1
  turned_error JumpLimit turned = error_at jumps_too_often turned.0 turned.1
  turned_error NoMemory turned = tt

  unchanged : (e : EmuError) → Turned old before new after (Err e) → new ≡ old
  unchanged DivideByZero turned = turned.1
  unchanged (UserOp user) turned = turned.1
  unchanged JumpLimit turned = turned.1
  unchanged NoMemory turned = turned

  pub turned_error_effects : (e : EmuError) → Turned old before new after (Err e) → first_memory before ≡ old → HasEffectsOf n run new
  turned_error_effects e turned first =
      subst (λ (o : Option Run). IsSomeAnd o (λ r. first_memory r ≡ new)) (sym rest) (first ∙ sym (unchanged e turned))

  -- it runs an operation whole
  pub turned_whole : (o : Option Left) → Turned old before new after (Ok o) → (r : Run) × (before ≡ whole old r)
  turned_whole None turned = (after, turned)
  turned_whole (Some left) turned = (ended (left_ending left) old, turned.0)

  pub turned_counts : (o : Option Left) → Turned old before new after (Ok o) → n + 1 ≤ ran_of run
  turned_counts o turned =
      let w = turned_whole o turned in
      let counted = rest_after-ran n run (whole old w.0) (some_before (whole old w.0) w.1) in omega arith

  -- it leaves the list
  left_rest : (left : Left) → Turned old before new after (Ok (Some left)) → rest_after (n + 1) run ≡ Some (ended (left_ending left) old)
  left_rest left turned = rest_after-more n run (ended (left_ending left) old) old (some_before (whole old (ended (left_ending left) old)) turned.0)

  pub turned_left : (o : Option Left) (left : Left) → o ≡ Some left → Turned old before new after (Ok o) → EndsSo (n + 1) run (left_ending left) new
  turned_left o left is turned =
      let here : Turned old before new after (Ok (Some left)) = subst (λ (x : Option Left). Turned old before new after (Ok x)) is turned in
      subst (λ (m : Memory). EndsSo (n + 1) run (left_ending left) m) (sym here.1) (ends_so (n + 1) run (left_ending left) old (left_rest left here))

  pub turned_left_effects : (o : Option Left) (left : Left) → o ≡ Some left → Turned old before new after (Ok o) → HasEffectsOf (n + 1) run new
  turned_left_effects o left is turned =
      let here : Turned old before new after (Ok (Some left)) = subst (λ (x : Option Left). Turned old before new after (Ok x)) is turned in
      subst (λ (o : Option Run). IsSomeAnd o (λ r. first_memory r ≡ new)) (sym (left_rest left here)) (sym here.1)

  -- it goes on
  pub turned_on : (o : Option Left) → o ≡ None → Turned old before new after (Ok o) → rest_after (n + 1) run ≡ Some after
  turned_on o is turned =
      let here : Turned old before new after (Ok None) = subst (λ (x : Option Left). Turned old before new after (Ok x)) is turned in
      rest_after-more n run after old (some_before (whole old after) here)

  pub turned_fewer : (o : Option Left) → o ≡ None → Turned old before new after (Ok o) → ran_of after < ran_of before
  turned_fewer o is turned =
      let here : before ≡ whole old after = subst (λ (x : Option Left). Turned old before new after (Ok x)) is turned in
      let counted : ran_of before ≡ ran_of after + 1 = ap ran_of here in omega arith

-- what is left begins with the memory
pub effects_at : (n : ℕ) (run rest : Run) (m : Memory) → rest_after n run ≡ Some rest → first_memory rest ≡ m → HasEffectsOf n run m
effects_at n run rest m is first = subst (λ (o : Option Run). IsSomeAnd o (λ r. first_memory r ≡ m)) (sym is) first
