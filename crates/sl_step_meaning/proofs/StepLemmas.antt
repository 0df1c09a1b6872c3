-- There is one next step of a machine, and one run of so many steps.
use Rattle.std.proofs.Common.{◌≡◌, ℕ, zero, suc, ◌%◌, Option, Some, None, refl, ap, arith, subst}
use Rattle.sl_decode_contexts.proofs.LawLemmas.{one_context, some_context}
use Rattle.sl_decode_meaning.specs.Choices.{Choice}
use Rattle.sl_meaning_instruction.specs.Instructions.{Specification}
use Rattle.sl_step_meaning.specs.Counted as counted
use Rattle.sl_step_meaning.specs.Laws.{CountedAreRuns, RunIsOne, SomeRun, SomeStep, StepIsOne}
use Rattle.sl_step_meaning.specs.Steps.{IsRun, IsStep, Machine, StepFault, Stepped, decoded_at, ended, faulted, goes, off, on}
use Rattle.sl_step_meaning.specs.Steps.{ran, run_decoded, stops}

pub step_is_one : StepIsOne
step_is_one s choose start m one other (off e p) (off f q) = refl
step_is_one s choose start m one other (off e p) (on f low at) = absurd (omega arith)
step_is_one s choose start m one other (on e low at) (off f q) = absurd (omega arith)
step_is_one s choose start m one other (on {context = c} e low at) (on {context = d} f below there) =
    ap (λ (x : ℕ). run_decoded s choose start m (decoded_at s choose start m x))
    (one_context start m.commits m.counter c d low below at there)

some_by : (s : Specification) (choose : Choice) (start : ℕ) (m : Machine) (beyond : ℕ) → m.counter % s.tables.alignment
    ≡ beyond → (x : Stepped) × IsStep s choose start m x
some_by s choose start m zero is =
    let c = some_context start m.commits m.counter in
    (run_decoded s choose start m (decoded_at s choose start m c.0), on is c.1 c.2)
some_by s choose start m (suc k) is = (_, off is (omega arith))

pub some_step : SomeStep
some_step s choose start m = some_by s choose start m (m.counter % s.tables.alignment) refl

-- ---- runs

abbrev next_of : Stepped → (none : Machine) → Machine
next_of (goes m) none = m
next_of (stops fault m) none = m

abbrev fault_of : Stepped → Option StepFault
fault_of (goes m) = None
fault_of (stops fault m) = Some fault

parted : (m last : Machine) (fault : StepFault) → goes m ≡ stops fault last → ⊥
parted m last fault e = absurd (cc)

same_runs : (s : Specification) (choose : Choice) (start most : ℕ) (m : Machine) (n k : ℕ) (last end : Machine)
    (fault other : Option StepFault)
    → IsRun s choose start most m n last fault → IsRun s choose start most m k end other → (n ≡ k) × (last ≡ end)
    × (fault ≡ other)
same_runs s choose start zero m n k last end fault other ended ended = (refl, refl, refl)
same_runs s choose start (suc most) m n k last end fault other (ran {n = i} {next = a} one rest)
    (ran {n = j} {next = b} also more) =
    let is : a ≡ b = ap (λ (x : Stepped). next_of x m) (step_is_one s choose start m _ _ one also) in
    let all = same_runs s choose start most b i j last end fault other
    (subst (λ (x : Machine). IsRun s choose start most x i last fault) is rest) more in
    (ap (λ (x : ℕ). suc x) all.0, all.1, all.2)
same_runs s choose start (suc most) m n k last end fault other (ran {next = a} one rest) (faulted {fault = f} also) =
    absurd (parted a end f (step_is_one s choose start m _ _ one also))
same_runs s choose start (suc most) m n k last end fault other (faulted {fault = f} one) (ran {next = b} also more) =
    absurd (parted b last f (step_is_one s choose start m _ _ also one))
same_runs s choose start (suc most) m n k last end fault other (faulted one) (faulted also) =
    let is = step_is_one s choose start m _ _ one also in
    (refl, ap (λ (x : Stepped). next_of x m) is, ap fault_of is)

pub run_is_one : RunIsOne
run_is_one s choose start most m n k last end fault other one also = same_runs s choose start most m n k last end fault
    other one also

run_by : (s : Specification) (choose : Choice) (start most : ℕ) (m : Machine) (x : Stepped) → IsStep s choose start m x
    → ((next : Machine) → (n : ℕ) × (last : Machine) × (fault : Option StepFault)
    × IsRun s choose start most next n last fault)
    → (n : ℕ) × (last : Machine) × (fault : Option StepFault) × IsRun s choose start (suc most) m n last fault
run_by s choose start most m (goes next) is rest =
    let all = rest next in
    (suc all.0, all.1, all.2, ran is all.3)
run_by s choose start most m (stops fault last) is rest = (0, last, Some fault, faulted is)

pub some_run : SomeRun
some_run s choose start zero m = (0, m, None, ended)
some_run s choose start (suc most) m =
    let next = some_step s choose start m in
    run_by s choose start most m next.0 next.1 (λ (x : Machine). some_run s choose start most x)

pub counted_are_runs : CountedAreRuns
counted_are_runs s choose start zero m n count last fault counted.ended = ended
counted_are_runs s choose start (suc most) m n count last fault (counted.ran one here rest) = ran one
    (counted_are_runs s choose start most _ _ _ _ _ rest)
counted_are_runs s choose start (suc most) m n count last fault (counted.faulted one here) = faulted one
