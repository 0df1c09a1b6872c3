-- Steps, one after another, with all operations counted.
use Rattle.std.proofs.Common.{◌≡◌, ℕ, suc, ◌+◌, ◌-◌, ◌^◌, ◌<◌, Option, Some, None, Result, Ok, Err}
use Rattle.std.proofs.Common.{refl, sym, ap, subst, ◌∙◌, arith}
use Rattle.std.specs.Result.{result_err}
use Rattle.sl_decode_meaning.specs.Choices.{Choice}
use Rattle.sl_meaning_instruction.specs.Instructions.{Specification}
use Rattle.sl_step_run.specs.Executing.{GrowsBy, Makes, Runs, Steps, fault_of}
use Rattle.sl_step_run.specs.declared.fault.RunFault.{RunFault}
use Rattle.sl_step.specs.Machines.{IsSeen}
use Rattle.sl_step.specs.Outcomes as outcome
use Rattle.sl_step.specs.declared.error.StepError.{StepError}
use Rattle.sl_step.specs.declared.step.Trace.{Trace}
use Rattle.sl_step.specs.declared.machine.Machine.{Machine}
use Rattle.sl_step_meaning.specs.Counted as counted
use Rattle.sl_step_meaning.specs.Counted.{IsCountedRun}
use Rattle.sl_step_meaning.specs.Steps as steps
use Rattle.sl_step_meaning.specs.Steps.{StepFault, goes, stops}

-- ---- counts

grows_none : (count : ℕ) → count < 2 ^ 64 → GrowsBy 0 count count
grows_none count low = omega (arith, low)

grows_more : (a b old mid new : ℕ) → GrowsBy a old mid → GrowsBy b mid new → GrowsBy (a + b) old new
grows_more a b old mid new h k = omega (arith, h, k)

-- ---- one step

module _ (s : Specification) (choose : Choice) (start : ℕ) (m : steps.Machine) (new : Machine) (a b : ℕ) where
  went_on : (trace : Trace) → outcome.Goes s choose start m new a b trace → Steps s choose start m new a b None
  went_on trace h = (h.next, record { count = trace.ran; step = h.step; counts = h.counts; seen = h.seen; counted = h.counted })

  stopped_at : (error : StepError) (fault : RunFault) → Some (fault_of fault) ≡ outcome.fault_of error
      → outcome.StopsBy s choose start m new a b (outcome.fault_of error)
      → Steps s choose start m new a b (Some (fault_of fault))
  stopped_at error fault is h =
      let stops = subst (λ (o : Option StepFault). outcome.StopsBy s choose start m new a b o) (sym is) h in (
        stops.last,
        record { count = stops.count; step = stops.step; counts = stops.counts; seen = stops.seen; counted = stops.counted },
      )

  -- the same by what a step returned
  pub went_on_by : (r : Result Trace StepError) → None ≡ result_err r → outcome.Steps s choose start m new a b r
      → Steps s choose start m new a b None
  went_on_by (Ok trace) e h = went_on trace h
  went_on_by (Err error) e h = absurd (let no : ⊥ = cc in no)

  pub stopped_by_error : (r : Result Trace StepError) (error : StepError) (fault : RunFault) → Some error ≡ result_err r
      → Some (fault_of fault) ≡ outcome.fault_of error → outcome.Steps s choose start m new a b r
      → Steps s choose start m new a b (Some (fault_of fault))
  stopped_by_error (Ok trace) error fault e is h = absurd (let no : ⊥ = cc in no)
  stopped_by_error (Err other) error fault e is h =
      let same : error ≡ other = cc in
      stopped_at other fault (is ∙ ap outcome.fault_of same) h

-- ---- several steps

module _ (s : Specification) (choose : Choice) (start : ℕ) where
  same_run : (m last : steps.Machine) (fault : Option StepFault) (most most' n n' count count' : ℕ) → most ≡ most'
      → n ≡ n' → count ≡ count'
      → IsCountedRun s choose start most m n count last fault → IsCountedRun s choose start most' m n' count' last fault
  same_run m last fault most most' n n' count count' a b c run =
      subst (λ (x : ℕ). IsCountedRun s choose start x m n' count' last fault) a
      (subst (λ (x : ℕ). IsCountedRun s choose start most m x count' last fault) b
      (subst (λ (x : ℕ). IsCountedRun s choose start most m n x last fault) c run))

  -- So many first steps of a machine lead to this one, whatever follows.
  pub record Reaches (m : steps.Machine) (new : Machine) (old_count new_count made : ℕ) : Type 0 where
    pub now : steps.Machine
    pub count : ℕ
    pub seen : IsSeen start new now
    pub counted : GrowsBy count old_count new_count
    pub runs : (most n more : ℕ) (last : steps.Machine) (fault : Option StepFault)
        → IsCountedRun s choose start most now n more last fault
        → IsCountedRun s choose start (made + most) m (made + n) (count + more) last fault

  module _ (m : steps.Machine) where
    pub begins : (new : Machine) (count : ℕ) → count < 2 ^ 64 → IsSeen start new m → Reaches m new count count 0
    begins new count low seen = record {
      now = m;
      count = 0;
      seen = seen;
      counted = grows_none count low;
      runs = λ most n more last fault run. same_run m last fault most (0 + most) n (0 + n) more (0 + more)
          (omega arith) (omega arith) (omega arith) run;
    }

    pub goes_on : (here new : Machine) (a b c made : ℕ) (r : Reaches m here a b made)
        → ((next : steps.Machine) × Makes s choose start r.now new b c (goes next) next) → Reaches m new a c (made + 1)
    goes_on here new a b c made r x =
        let by = x.1 in record {
          now = x.0;
          count = r.count + by.count;
          seen = by.seen;
          counted = grows_more r.count by.count a b c r.counted by.counted;
          runs = λ most n more last fault run.
              same_run m last fault (made + suc most) (made + 1 + most) (made + suc n) (made + 1 + n)
              (r.count + (by.count + more)) (r.count + by.count + more)
              (omega arith) (omega arith) (omega arith)
              (r.runs (suc most) (suc n) (by.count + more) last fault (counted.ran by.step by.counts run));
        }

    pub stopped : (here new : Machine) (a b c most made : ℕ) (fault : StepFault) (r : Reaches m here a b made)
        → made < most
        → ((last : steps.Machine) × Makes s choose start r.now new b c (stops fault last) last)
        → Runs s choose start m new a c most made (Some fault)
    stopped here new a b c most made fault r less x =
        let by = x.1 in record {
          last = x.0;
          count = r.count + by.count;
          runs =
              same_run m x.0 (Some fault) (made + suc (most - made - 1)) most (made + 0) made (r.count + by.count)
              (r.count + by.count)
              (omega (arith, less)) (omega arith) refl
              (r.runs (suc (most - made - 1)) 0 by.count x.0 (Some fault) (counted.faulted by.step by.counts));
          seen = by.seen;
          counted = grows_more r.count by.count a b c r.counted by.counted;
        }

    pub finished : (here : Machine) (a b most : ℕ) → Reaches m here a b most
        → Runs s choose start m here a b most most None
    finished here a b most r = record {
      last = r.now;
      count = r.count;
      runs =
          same_run m r.now None (most + 0) most (most + 0) most (r.count + 0) r.count (omega arith) (omega arith)
          (omega arith)
          (r.runs 0 0 0 r.now None counted.ended);
      seen = r.seen;
      counted = r.counted;
    }
