-- Single steps and the run by recursion.
use Rattle.std.proofs.Common.{◌≡◌, ℕ, zero, suc, ◌+◌, ◌-◌, ◌<◌, ◌≤◌, Bool, true, false, List, [], ◌∷◌, length, Option, Some, None, refl, sym, ap, ◌∙◌, subst, inl, inr, arith}
use mathlib.Core.Path.{fun_ext}
use Rattle.std.specs.Prelude.{if◌then◌else◌, ◌==◌, nat_lt, slice_get}
use Rattle.std.proofs.lemmas.Bool.{cases_lt}
use Rattle.std.proofs.lemmas.Bool.Decides.{nat_tests}
use Rattle.sl_word.specs.Memories.{Memory}
use Rattle.sl_word.specs.declared.word.Endian.{Endian}
use Rattle.sl_pcode.specs.Effects.{effect_of}
use Rattle.sl_pcode.specs.Machine.{Temporaries, Ending, Run, ended, whole, jump_limit, has_no_value, at_target, value_of, put_at, does, op_does, jump_run, run_from, run_of, ran_of, ending_of, memory_of, EndsSo}
use Rattle.sl_pcode.specs.SmallSteps.{Configuration, start_of, Outcome, goes_on, leaves, stops, jumped, stepped, step_of, Runs, stop, leave, go, EachRunIsSteps, EachListHasOneResult}
use Rattle.sl_pcode.specs.Targets.{place_at}
use Rattle.sl_pcode.specs.declared.effect.Effect.{Effect}
use Rattle.sl_pcode.specs.declared.effect.Effect.TheVariants.{Unary, Binary, Load, Store, Branch, CBranch, Call, Indirect, UserOp}
use Rattle.sl_pcode.specs.declared.operation.Op.{Op}
use Rattle.sl_pcode.specs.declared.varnode.Place2.{Place2}
use Rattle.sl_pcode.specs.declared.varnode.Place2.TheVariants.{Const, Unique, In}
use Rattle.sl_pcode.proofs.RunLaws.{jump_run-none, jump_run-taken, op_does-all, run_from-end, run_from-op, run_of-bound}

-- a function of a choice
of_choice : {R S : Type 0} (h : R → S) (b : Bool) (x y : R) (x' y' : S) → h x ≡ x' → h y ≡ y' → h (if b then x else y) ≡ (if b then x' else y')
of_choice h true x y x' y' first second = first
of_choice h false x y x' y' first second = second

-- A function of what an operation comes to is what the operation comes to with the function behind all that may follow.
module _ (endian : Endian) (sizes : List ℕ) {R S : Type 0} (h : R → S) (next : Memory → Temporaries → R) (jump : ℕ → R) (leave fault : Ending → R) where
  of_put : (place : Place2) (offset count number : ℕ) (m : Memory) (t : Temporaries)
      → h (put_at endian sizes place offset count number m t next) ≡ put_at endian sizes place offset count number m t (λ m' t'. h (next m' t'))
  of_put Const offset count number m t = refl
  of_put Unique offset count number m t = refl
  of_put (In space) offset count number m t = refl

  of_target : (place : Place2) (offset : ℕ) → h (at_target place offset jump leave) ≡ at_target place offset (λ d. h (jump d)) (λ e. h (leave e))
  of_target Const offset = refl
  of_target Unique offset = refl
  of_target (In space) offset = refl

  pub of_does : (e : Effect) (m : Memory) (t : Temporaries)
      → h (does endian sizes e m t next jump leave fault) ≡ does endian sizes e m t (λ m' t'. h (next m' t')) (λ d. h (jump d)) (λ x. h (leave x)) (λ x. h (fault x))
  of_does (Unary f out a) m t = of_put out.place _ _ _ m t
  of_does (Binary f out a b) m t =
      of_choice h (has_no_value f (value_of endian sizes b m t)) _ _ _ _ refl (of_put out.place _ _ _ m t)
  of_does (Load out space pointer) m t = of_put out.place _ _ _ m t
  of_does (Store space pointer value) m t = refl
  of_does (Branch target) m t = of_target target.place target.offset
  of_does (CBranch target condition) m t =
      of_choice h (value_of endian sizes condition m t == 0) _ _ _ _ refl (of_target target.place target.offset)
  of_does (Call target) m t = refl
  of_does (Indirect pointer) m t = refl
  of_does (UserOp number) m t = refl

  of_op : (e : Option Effect) (m : Memory) (t : Temporaries)
      → h (op_does endian sizes e m t next jump leave fault) ≡ op_does endian sizes e m t (λ m' t'. h (next m' t')) (λ d. h (jump d)) (λ x. h (leave x)) (λ x. h (fault x))
  of_op (Some e) m t = of_does e m t
  of_op None m t = refl

chosen : {R : Type 0} (a b : ℕ) (x y : R) → a < b → (if nat_lt a b then x else y) ≡ x
chosen a b x y less = ap (λ c. if c then x else y) (let e : nat_lt a b ≡ true = grind (arith, nat_tests) in e)

passed : {R : Type 0} (a b : ℕ) (x y : R) → b ≤ a → (if nat_lt a b then x else y) ≡ y
passed a b x y more = ap (λ c. if c then x else y) (let e : nat_lt a b ≡ false = grind (arith, nat_tests) in e)

past_end : (ops : List Op) (at : ℕ) → slice_get ops at ≡ None → length ops ≤ at
past_end [] at none = omega arith
past_end (x ∷ xs) zero none = cc
past_end (x ∷ xs) (suc at) none = let rest = past_end xs at none in omega (arith, rest)

module _ (endian : Endian) (sizes : List ℕ) (ops : List Op) where
  -- the run from a configuration on
  abbrev run_at : Configuration → Run
  run_at c = run_from endian sizes ops (jump_limit - c.taken) c.at c.memory c.temporaries

  -- the run that is left behind a step
  abbrev left_by : Configuration → Outcome → Run
  left_by c (goes_on d) = whole c.memory (run_at d)
  left_by c (leaves e) = whole c.memory (ended e c.memory)
  left_by c (stops e) = ended e c.memory

  jump_is : (c : Configuration) (place : ℕ) → c.taken ≤ jump_limit
      → jump_run endian sizes ops (jump_limit - c.taken) place c.memory c.temporaries ≡ left_by c (jumped place c)
  jump_is c place within =
      elim (cases_lt c.taken jump_limit) [
        | inl some ↦
            let more : jump_limit - c.taken ≡ suc (jump_limit - (c.taken + 1)) = omega arith in
            ap (λ n. jump_run endian sizes ops n place c.memory c.temporaries) more
            ∙ jump_run-taken endian sizes ops (jump_limit - (c.taken + 1)) place c.memory c.temporaries
            ∙ sym (ap (left_by c) (chosen c.taken jump_limit _ _ some))
        | inr none ↦
            let no_more : jump_limit - c.taken ≡ 0 = omega arith in
            ap (λ n. jump_run endian sizes ops n place c.memory c.temporaries) no_more
            ∙ jump_run-none endian sizes ops place c.memory c.temporaries
            ∙ sym (ap (left_by c) (passed c.taken jump_limit _ _ none))
      ]

  stepped_is : (c : Configuration) (o : Option Op) → slice_get ops c.at ≡ o → c.taken ≤ jump_limit → run_at c ≡ left_by c (stepped endian sizes ops c o)
  stepped_is c None is within = run_from-end endian sizes ops (jump_limit - c.taken) c.at c.memory c.temporaries (past_end ops c.at is)
  stepped_is c (Some op) is within =
      run_from-op endian sizes ops (jump_limit - c.taken) c.at c.memory c.temporaries op is
      ∙ ap (λ (jump : ℕ → Run). op_does endian sizes (effect_of op) c.memory c.temporaries (λ m' t'. whole c.memory (run_from endian sizes ops (jump_limit - c.taken) (c.at + 1) m' t')) jump
      (λ ending. whole c.memory (ended ending c.memory)) (λ ending. ended ending c.memory))
      (fun_ext (λ distance. jump_is c (place_at c.at distance) within))
      ∙ sym (of_op endian sizes (left_by c) _ _ _ _ (effect_of op) c.memory c.temporaries)

  -- The run from a configuration on is a step, and the run behind it.
  run_is : (c : Configuration) → c.taken ≤ jump_limit → run_at c ≡ left_by c (step_of endian sizes ops c)
  run_is c within = stepped_is c (slice_get ops c.at) refl within

  -- no more jumps are taken than the limit
  abbrev Counts : Outcome → Type 0
  Counts (goes_on d) = d.taken ≤ jump_limit
  Counts (leaves e) = Unit {0}
  Counts (stops e) = Unit {0}

  jumped_counts : (c : Configuration) (place : ℕ) → Counts (jumped place c)
  jumped_counts c place =
      elim (cases_lt c.taken jump_limit) [
        | inl some ↦ subst Counts (sym (chosen c.taken jump_limit _ _ some)) (omega arith)
        | inr none ↦ subst Counts (sym (passed c.taken jump_limit _ _ none)) tt
      ]

  stepped_counts : (c : Configuration) (o : Option Op) → c.taken ≤ jump_limit → Counts (stepped endian sizes ops c o)
  stepped_counts c None within = tt
  stepped_counts c (Some op) within =
      op_does-all endian sizes Counts _ _ _ _ (λ m t. within) (λ distance. jumped_counts c (place_at c.at distance)) (λ e. tt) (λ e. tt) (effect_of op) c.memory c.temporaries

  counts : (c d : Configuration) → c.taken ≤ jump_limit → step_of endian sizes ops c ≡ goes_on d → d.taken ≤ jump_limit
  counts c d within is = subst Counts is (stepped_counts c (slice_get ops c.at) within)

  -- Steps that end are the run.
  steps_run : (c : Configuration) (n : ℕ) (e : Ending) (m : Memory) → c.taken ≤ jump_limit → Runs endian sizes ops c n e m → EndsSo n (run_at c) e m
  steps_run c n e m within (stop c' e' is) =
      subst (λ (r : Run). EndsSo 0 r e' c'.memory) (sym (run_is c' within ∙ ap (left_by c') is)) (record { ran = refl; ending = refl; memory = refl })
  steps_run c n e m within (leave c' e' is) =
      subst (λ (r : Run). EndsSo 1 r e' c'.memory) (sym (run_is c' within ∙ ap (left_by c') is)) (record { ran = refl; ending = refl; memory = refl })
  steps_run c n e m within (go c' d k e' m' is rest) =
      let so = steps_run d k e' m' (counts c' d within is) rest in
      subst (λ (r : Run). EndsSo (k + 1) r e' m') (sym (run_is c' within ∙ ap (left_by c') is))
      (record { ran = ap (λ x. x + 1) so.ran; ending = so.ending; memory = so.memory })

  -- Each configuration's steps end, as the run does.
  by_outcome : (most : ℕ) (c : Configuration) → c.taken ≤ jump_limit → (o : Outcome) → step_of endian sizes ops c ≡ o → run_at c ≡ left_by c o → ran_of (run_at c) ≤ most
      → Runs endian sizes ops c (ran_of (run_at c)) (ending_of (run_at c)) (memory_of (run_at c))
  by_outcome most c within (stops e) is run short = subst (λ (r : Run). Runs endian sizes ops c (ran_of r) (ending_of r) (memory_of r)) (sym run) (stop c e is)
  by_outcome most c within (leaves e) is run short = subst (λ (r : Run). Runs endian sizes ops c (ran_of r) (ending_of r) (memory_of r)) (sym run) (leave c e is)
  by_outcome zero c within (goes_on d) is run short =
      let none : ran_of (run_at d) + 1 ≤ 0 = subst (λ (r : Run). ran_of r ≤ 0) run short in absurd (omega (arith, none))
  by_outcome (suc most) c within (goes_on d) is run short =
      let fewer : ran_of (run_at d) + 1 ≤ suc most = subst (λ (r : Run). ran_of r ≤ suc most) run short in
      let there = counts c d within is in
      subst (λ (r : Run). Runs endian sizes ops c (ran_of r) (ending_of r) (memory_of r)) (sym run)
      (go c d (ran_of (run_at d)) (ending_of (run_at d)) (memory_of (run_at d)) is
      (by_outcome most d there (step_of endian sizes ops d) refl (run_is d there) (omega (arith, fewer))))

  start_run : (m : Memory) → run_at (start_of m) ≡ run_of endian sizes ops m
  unfolding run_of
  start_run m = let all : jump_limit - 0 ≡ jump_limit = omega arith in ap (λ n. run_from endian sizes ops n 0 m (λ offset. 0)) all

  all_steps : (m : Memory) → Runs endian sizes ops (start_of m) (ran_of (run_of endian sizes ops m)) (ending_of (run_of endian sizes ops m)) (memory_of (run_of endian sizes ops m))
  all_steps m =
      subst (λ (r : Run). Runs endian sizes ops (start_of m) (ran_of r) (ending_of r) (memory_of r)) (start_run m)
      (by_outcome (ran_of (run_at (start_of m))) (start_of m) (omega arith) (step_of endian sizes ops (start_of m)) refl (run_is (start_of m) (omega arith)) (omega arith))

  so_ended : (m : Memory) (n : ℕ) (e : Ending) (m' : Memory) → EndsSo n (run_of endian sizes ops m) e m' → Runs endian sizes ops (start_of m) n e m'
  so_ended m n e m' so =
      subst (λ (x : Memory). Runs endian sizes ops (start_of m) n e x) so.memory
      (subst (λ (x : Ending). Runs endian sizes ops (start_of m) n x (memory_of (run_of endian sizes ops m))) so.ending
      (subst (λ (x : ℕ). Runs endian sizes ops (start_of m) x (ending_of (run_of endian sizes ops m)) (memory_of (run_of endian sizes ops m))) so.ran (all_steps m)))

  ends_of : (m : Memory) (n : ℕ) (e : Ending) (m' : Memory) → Runs endian sizes ops (start_of m) n e m' → EndsSo n (run_of endian sizes ops m) e m'
  ends_of m n e m' runs = subst (λ (r : Run). EndsSo n r e m') (start_run m) (steps_run (start_of m) n e m' (omega arith) runs)

pub runs_are_steps : EachRunIsSteps
runs_are_steps endian sizes ops m n e m' = (ends_of endian sizes ops m n e m', so_ended endian sizes ops m n e m')

pub one_result : EachListHasOneResult
one_result endian sizes ops m = record {
  count = ran_of (run_of endian sizes ops m);
  ending = ending_of (run_of endian sizes ops m);
  memory = memory_of (run_of endian sizes ops m);
  ends = all_steps endian sizes ops m;
  bounded = run_of-bound endian sizes ops m;
  only = λ n e m' runs. let so = ends_of endian sizes ops m n e m' runs in (sym so.ran, sym so.ending, sym so.memory);
}
