-- From what was read and run to what a step is.
use Rattle.std.proofs.Common.{◌≡◌, ℕ, ◌+◌, ◌%◌, ◌^◌, ◌<◌, ◌≤◌, Bool, true, false, List, ◌++◌}
use Rattle.std.proofs.Common.{Result, Ok, Err, refl, sym, ap, subst, ◌∙◌, arith}
use Rattle.std.specs.List.{range_with_len}
use Rattle.std.specs.Prelude.{if◌then◌else◌, map, slice_index, take}
use Rattle.sl_decode_contexts.specs.Commits.{IsContextAt}
use Rattle.sl_decode_contexts.specs.Kept.{Kept}
use Rattle.sl_decode_contexts.specs.Runs.{Stands}
use Rattle.sl_decode_contexts.specs.declared.commits.Commit.{Commit}
use Rattle.sl_decode_meaning.specs.Actions.{address_bytes}
use Rattle.sl_decode_meaning.specs.Decoding.{Decoded, decoded}
use Rattle.sl_decode_meaning.specs.Choices.{Choice}
use Rattle.sl_decode_meaning.specs.declared.faults.Fault as decoding
use Rattle.sl_emu.specs.Outcomes.{HasEffectsOf, left_ending, run_over}
use Rattle.sl_faithful_lists.specs.Faithful.{IsFaithfulList}
use Rattle.sl_meaning_instruction.specs.Instructions.{Specification, default_space, instruction, is_unimplemented, setting_of}
use Rattle.sl_meaning_sections.specs.Nodes.{After}
use Rattle.sl_pcode.specs.Machine.{Ending, EndsSo, Run, run_of}
use Rattle.sl_pcode.specs.declared.operation.Op.{Op}
use Rattle.sl_spec.specs.Tables.{Space}
use Rattle.sl_step.proofs.AddressLemmas.{sizes_are}
use Rattle.sl_step.proofs.AfterLemmas.{goes_on, stops_there}
use Rattle.sl_step.specs.Machines.{Fits, IsSeen}
use Rattle.sl_step.specs.Outcomes.{Goes, Steps, nothing, some_commits, some_operations}
use Rattle.sl_step.specs.Stages.{IsExecuted, IsRead, IsUnread, Runs, fault_ending}
use Rattle.sl_step.specs.Stages.{machine_with, target}
use Rattle.sl_step.specs.declared.error.StepError.{StepError}
use Rattle.sl_step.specs.declared.error.StepError.TheVariants.{Decode, Emu, Misaligned, NoMemory, Unimplemented}
use Rattle.sl_step.specs.declared.machine.Machine.{Machine}
use Rattle.sl_step.specs.declared.step.Trace.{Trace}
use Rattle.sl_step_meaning.specs.Counted.{Counts, executed as counts_executed, off as counts_off}
use Rattle.sl_step_meaning.specs.Counted.{undecoded as counts_undecoded, unimplemented as counts_unimplemented}
use Rattle.sl_step_meaning.specs.Steps as steps
use Rattle.sl_step_meaning.specs.Steps.{IsStep, StepFault, Stepped, after_of, committed, decoded_at, executed, failed, goes}
use Rattle.sl_step_meaning.specs.Steps.{misaligned, off, on, run_decoded, step_window, stops, undecoded, unimplemented, window_of}
use Rattle.sl_word.specs.Bytes.{byte_at}
use Rattle.sl_word.specs.Memories.{Memory}
use Rattle.sl_word.specs.declared.state.State.{State}
use Rattle.sl_word.specs.declared.word.Endian.{Endian}

abbrev machine_of : Memory → (counter : ℕ) → List Commit → steps.Machine
machine_of memory counter commits = record { memory = memory; counter = counter; commits = commits }

-- ---- one machine of the definitions

module _ (s : Specification) (choose : Choice) (start : ℕ) (m : steps.Machine) (context : ℕ) (low : context < 2 ^ 64)
    (at : IsContextAt start m.commits m.counter context) (aligned : m.counter % s.tables.alignment ≡ 0) where
  step_by : (d : Result Decoded decoding.Fault) → decoded_at s choose start m context ≡ d → (x : Stepped)
      → run_decoded s choose start m d ≡ x → IsStep s choose start m x
  step_by d is x becomes = subst (λ (y : Stepped). IsStep s choose start m y)
      (ap (λ (r : Result Decoded decoding.Fault). run_decoded s choose start m r) is ∙ becomes) (on aligned low at)

  step_undecoded : (fault : decoding.Fault) → decoded_at s choose start m context ≡ Err fault
      → IsStep s choose start m (stops (undecoded fault) m)
  step_undecoded fault is = step_by (Err fault) is _ refl

  step_unimplemented : (d : Decoded) → decoded_at s choose start m context ≡ Ok d
      → is_unimplemented s.constructors d.tree ≡ true → IsStep s choose start m (stops unimplemented m)
  step_unimplemented d is marked =
      step_by (Ok d) is _ (ap
      (λ (b : Bool). if b then stops unimplemented m else executed (committed s choose start m d)
      (after_of s choose start m d)) marked)

  step_executed : (d : Decoded) → decoded_at s choose start m context ≡ Ok d → is_unimplemented s.constructors d.tree
      ≡ false
      → (x : After) → after_of s choose start m d ≡ x
      → IsStep s choose start m (executed (committed s choose start m d) x)
  step_executed d is implemented x ends =
      step_by (Ok d) is _ (ap
      (λ (b : Bool). if b then stops unimplemented m else executed (committed s choose start m d)
      (after_of s choose start m d)) implemented
      ∙ ap (λ (y : After). executed (committed s choose start m d) y) ends)

-- ---- a machine of the program

same_machine : (cs : List Commit) (a b : Memory) (x y : ℕ) → a ≡ b → x ≡ y → machine_of a x cs ≡ machine_of b y cs
same_machine cs a b x y is same = ap (λ (m : Memory). machine_of m x cs) is ∙ ap (λ (n : ℕ). machine_of b n cs) same

-- what holds of the machine that has its memory and counter, holds of each that it is
pub seen_holds : (P : steps.Machine → Type 0) (start : ℕ) (old : Machine) (m : steps.Machine) → IsSeen start old m
    → P (machine_with old m.commits) → P m
seen_holds P start old m seen holds = subst P (same_machine m.commits _ _ _ _ seen.memory seen.counter) holds

-- the bytes of a space, which is the default one
pub window_same : (s : Specification) (choose : Choice) (start : ℕ) (old : Machine) (cs : List Commit) (space bytes : ℕ)
    → space ≡ default_space s.tables → bytes ≡ address_bytes s.tables
    → map (λ (i : ℕ). byte_at old.state space ((old.counter + i) % 256 ^ bytes)) (range_with_len 0 step_window)
    ≡ window_of s choose start (machine_with old cs)
window_same s choose start old cs space bytes is size =
    ap (λ (k : ℕ). map (λ (i : ℕ). byte_at old.state k ((old.counter + i) % 256 ^ bytes)) (range_with_len 0 step_window)) is
    ∙ ap (λ (n : ℕ). map (λ (i : ℕ). byte_at old.state (default_space s.tables) ((old.counter + i) % 256 ^ n))
    (range_with_len 0 step_window)) size

run_over_same : (ops : List Op) (m : Memory) (a b : Endian) (x y : List ℕ) → a ≡ b → x ≡ y → run_of a x ops m
    ≡ run_of b y ops m
run_over_same ops m a b x y is same = ap (λ (e : Endian). run_of e x ops m) is
    ∙ ap (λ (ns : List ℕ). run_of b ns ops m) same

-- off the alignment
module _ (s : Specification) (choose : Choice) (start : ℕ) (old : Machine) (cs : List Commit) (beyond : ℕ)
    (is : old.counter % s.tables.alignment ≡ beyond) (some : 1 ≤ beyond) where
  pub off_steps : (n : ℕ) → n < 2 ^ 64 → Stands old.contexts start cs
      → Steps s choose start (machine_with old cs) old n n (Err Misaligned)
  off_steps n few stands = record {
    last = machine_with old cs;
    count = 0;
    step = off is some;
    seen = record { memory = refl; counter = refl; contexts = stands };
    counts = counts_off is some;
    counted = omega arith;
  }

module _ (s : Specification) (choose : Choice) (start : ℕ) (old : Machine) (cs : List Commit) (bytes : List ℕ)
    (context : ℕ) (low : context < 2 ^ 64)
    (at : IsContextAt start cs old.counter context) (aligned : old.counter % s.tables.alignment ≡ 0)
    (window_is : bytes ≡ window_of s choose start (machine_with old cs)) where
  decoded_is : (r : Result Decoded decoding.Fault) → decoded s.tables s.constructors choose bytes old.counter context
      ≡ r → decoded_at s choose start (machine_with old cs) context ≡ r
  decoded_is r is = ap (λ (b : List ℕ). decoded s.tables s.constructors choose b old.counter context) (sym window_is)
      ∙ is

  -- nothing has changed where the instruction isn't read
  pub unread : (n : ℕ) → n < 2 ^ 64 → Stands old.contexts start cs → (error : StepError)
      → IsUnread s choose bytes old.counter context error
      → Steps s choose start (machine_with old cs) old n n (Err error)
  unread n few stands (Decode fault) is = record {
    last = machine_with old cs;
    count = 0;
    step = step_undecoded s choose start (machine_with old cs) context low at aligned fault
        (decoded_is (Err fault) is);
    seen = record { memory = refl; counter = refl; contexts = stands };
    counts = counts_undecoded aligned low at (decoded_is (Err fault) is);
    counted = omega arith;
  }
  unread n few stands Unimplemented is = record {
    last = machine_with old cs;
    count = 0;
    step = step_unimplemented s choose start (machine_with old cs) context low at aligned is.told
        (decoded_is (Ok is.told) is.decodes) is.marked;
    seen = record { memory = refl; counter = refl; contexts = stands };
    counts = counts_unimplemented aligned low at (decoded_is (Ok is.told) is.decodes) is.marked;
    counted = omega arith;
  }
  unread n few stands NoMemory is = nothing (record { memory = refl; counter = refl; contexts = stands })
  unread n few stands Misaligned is = absurd is
  unread n few stands (Emu fault) is = absurd is

  -- some of its commits are made where memory runs out
  pub cut_commits : (commits : List Commit) (after : ℕ) (ops : List Op)
      (read : IsRead s choose bytes old.counter context commits after ops) (n k : ℕ) (new : Machine)
      → new.state ≡ old.state → new.counter ≡ old.counter → Stands new.contexts start (cs ++ take k commits)
      → Steps s choose start (machine_with old cs) new n n (Err NoMemory)
  cut_commits commits after ops read n k new state counter stands =
      some_commits k low at (decoded_is (Ok read.told) read.decodes) read.implemented (record {
        memory = ap (λ (x : State). byte_at x) state;
        counter = counter;
        contexts = subst (λ (ds : List Commit). Stands new.contexts start (cs ++ take k ds)) read.commits_are stands;
      })

  -- an instruction that is read, the machine when its commits are made, and the one when its list is run
  module _ (commits : List Commit) (after : ℕ) (ops : List Op)
      (read : IsRead s choose bytes old.counter context commits after ops) (fits : Fits s.tables old)
      (n : ℕ) (size : n ≡ slice_index (map (λ (z : Space). z.size) s.tables.spaces) (default_space s.tables))
      (few : n ≤ 8)
      (mid new : Machine) (state : mid.state ≡ old.state) (counter : mid.counter ≡ old.counter)
      (contexts : new.contexts ≡ mid.contexts) (stands : Stands mid.contexts start (cs ++ commits)) where
    decodes : decoded_at s choose start (machine_with old cs) context ≡ Ok read.told
    decodes = decoded_is (Ok read.told) read.decodes

    faithful : IsFaithfulList s (window_of s choose start (machine_with old cs)) old.counter read.told ops
    faithful = subst (λ (b : List ℕ). IsFaithfulList s b old.counter read.told ops) window_is read.faithful

    run_is : run_over mid.state ops
        ≡ run_of s.tables.endian (setting_of s.tables old.counter read.told.after).sizes ops (byte_at old.state)
    run_is = ap (λ (x : State). run_over x ops) state
        ∙ run_over_same ops (byte_at old.state) _ _ _ _ fits.endian
        (fits.sizes ∙ sym (sizes_are s.tables old.counter read.told.after))

    ends_at : (ran : ℕ) (ending : Ending) → EndsSo ran (run_over mid.state ops) ending (byte_at new.state)
        → EndsSo ran (run_of s.tables.endian (setting_of s.tables old.counter read.told.after).sizes ops
        (byte_at old.state)) ending (byte_at new.state)
    ends_at ran ending ends = subst (λ (run : Run). EndsSo ran run ending (byte_at new.state)) run_is ends

    now_stands : Stands new.contexts start (cs ++ read.told.commits)
    now_stands = subst (λ (ds : List Commit). Stands new.contexts start (cs ++ ds)) read.commits_are
        (subst (λ (c : Kept). Stands c start (cs ++ commits)) (sym contexts) stands)

    counts : (ran : ℕ) (ending : Ending) → EndsSo ran (run_over mid.state ops) ending (byte_at new.state)
        → Counts s choose start (machine_with old cs) ran
    counts ran ending ends = counts_executed aligned low at decodes read.implemented
        (record { ops = ops; faithful = faithful; count_is = sym (ends_at ran ending ends).ran })

    -- where its list is left
    goes_there : (trace : Trace) (before behind : ℕ) → IsExecuted ops after n mid new before behind trace
        → Goes s choose start (machine_with old cs) new before behind trace
    goes_there trace before behind runs =
        let ends = ends_at trace.ran (left_ending trace.left) runs.ends in
        let leads = goes_on s.tables old.counter read.told.after n size few
        (instruction s (window_of s choose start (machine_with old cs)) read.told.tree) ops (byte_at old.state)
        (byte_at new.state) trace.ran faithful.translation fits.bytes trace.left ends in
        record {
          next = machine_of (byte_at new.state) (target read.told.after trace.left % 256 ^ n) (cs ++ read.told.commits);
          step = step_executed s choose start (machine_with old cs) context low at aligned read.told decodes
              read.implemented _ leads;
          seen = record {
            memory = refl;
            counter = runs.counter ∙ ap (λ (a : ℕ). target a trace.left % 256 ^ n) read.after_is;
            contexts = now_stands;
          };
          trace_is = record {
            context = context;
            low = low;
            at = at;
            told = read.told;
            decodes = decodes;
            faithful = subst (λ (xs : List Op). IsFaithfulList s (window_of s choose start (machine_with old cs))
                old.counter read.told xs) (sym runs.same) faithful;
            ran = subst (λ (xs : List Op). EndsSo trace.ran
                (run_of s.tables.endian (setting_of s.tables old.counter read.told.after).sizes xs (byte_at old.state))
                (left_ending trace.left) (byte_at new.state)) (sym runs.same) ends;
          };
          counts = counts trace.ran (left_ending trace.left) runs.ends;
          counted = runs.counted;
        }

    pub stepped : (before behind : ℕ) (r : Result Trace StepError) → Runs ops after n mid new before behind r
        → Steps s choose start (machine_with old cs) new before behind r
    stepped before behind (Ok trace) runs = goes_there trace before behind runs
    stepped before behind (Err (Emu fault)) runs =
        let stays = stops_there s.tables old.counter read.told.after n size few
        (instruction s (window_of s choose start (machine_with old cs)) read.told.tree) ops (byte_at old.state)
        (byte_at new.state) runs.ran faithful.translation fits.bytes fault
        (ends_at runs.ran (fault_ending fault) runs.ends) in record {
          last = machine_of (byte_at new.state) old.counter (cs ++ read.told.commits);
          count = runs.ran;
          step = step_executed s choose start (machine_with old cs) context low at aligned read.told decodes
              read.implemented _ stays;
          seen = record { memory = refl; counter = runs.counter ∙ counter; contexts = now_stands };
          counts = counts runs.ran (fault_ending fault) runs.ends;
          counted = runs.counted;
        }
    stepped before behind (Err NoMemory) runs =
        some_operations runs.ran low at decodes faithful
        (subst (λ (run : Run). HasEffectsOf runs.ran run (byte_at new.state)) run_is runs.effects)
        (record { memory = refl; counter = runs.counter ∙ counter; contexts = now_stands }) runs.counted
    stepped before behind (Err Misaligned) runs = absurd runs
    stepped before behind (Err (Decode fault)) runs = absurd runs
    stepped before behind (Err Unimplemented) runs = absurd runs
