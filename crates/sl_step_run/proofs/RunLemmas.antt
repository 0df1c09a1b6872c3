-- What an execution comes to, and that its text is that of the run.
use Rattle.std.proofs.Common.{◌≡◌, ℕ, zero, suc, ◌+◌, ◌^◌, ◌<◌, ◌≤◌, Bool, List, [], ◌∷◌, ◌++◌, Option, Some, None}
use Rattle.std.proofs.Common.{length, refl, sym, ap, subst, ◌∙◌, arith}
use Rattle.std.specs.Prelude.{is_some, map, slice_get, slice_index}
use Rattle.sl_ast.specs.Trees.{Item}
use Rattle.sl_ast.specs.Views.{items_of}
use Rattle.sl_bind.specs.Binding.{constructors_of}
use Rattle.sl_decode_choices.specs.Choices.{IsChoiceOf}
use Rattle.sl_bind_compile.specs.declared.compiled.Compiled.{Compiled}
use Rattle.sl_decode_meaning.specs.Actions.{address_bytes}
use Rattle.sl_decode_meaning.specs.Choices.{Choice}
use Rattle.sl_faithful_places.specs.Defined.{AreDefined}
use Rattle.sl_meaning_instruction.specs.Instructions.{specification_of}
use Rattle.sl_list_instructions.specs.Listing.{Image}
use Rattle.sl_step_run.proofs.KeptLemmas.{run_keeps}
use Rattle.sl_step_run.proofs.ToldLemmas.{AllEndAlike, told_tell}
use Rattle.sl_step_run.specs.Executing.{Executes, Runs, stopped_by}
use Rattle.sl_step_run.specs.RunLines.{TellsSpaces, counter_line, fault_line, register_lines, steps_line}
use Rattle.sl_step_run.specs.Running.{IsCountedRunText, IsOutcomeText, opened, opening}
use Rattle.sl_step_run.specs.Told.{IsTold, RegistersAreInSpaces, told_lines}
use Rattle.sl_step_run.specs.declared.execution.Execution.{Execution}
use Rattle.sl_step_run.specs.declared.fault.RunFault.{RunFault}
use Rattle.sl_section_sizes.specs.Sizings.{lists_of}
use Rattle.sl_spec.specs.Tables.{Space}
use Rattle.sl_spec.specs.declared.tables.Tables.{Tables}
use Rattle.sl_step.specs.Machines.{Fits}
use Rattle.sl_step_meaning.proofs.StepLemmas as steps
use Rattle.sl_step_meaning.specs.Steps.{StepFault}
use Rattle.sl_word.specs.Bytes.{byte_at}
use Rattle.sl_word.specs.Memories.{Memory}
use Rattle.sl_word.specs.declared.state.State.{State}
use Rattle.sl_word.specs.declared.word.Size.{Size}

-- ---- executions

pub executes : (items : List Item) (t : Tables) (sizes : List (List Size)) (i : Image) (n old new : ℕ) (e : Execution)
    (choose : Choice)
    → IsChoiceOf t (constructors_of items) choose
    → Runs (specification_of items t sizes) choose i.start (opened t i) e.machine old new n e.ran (stopped_by e.fault)
    → Fits t e.machine
    → Executes items t sizes i n old new e
executes items t sizes i n old new e choose is_choice runs fits = record {
  outcome = record { ran = e.ran; machine = runs.last; fault = stopped_by e.fault };
  count = runs.count;
  runs = record { choose = choose; is_choice = is_choice; runs = runs.runs };
  ran_is = refl;
  fault_is = refl;
  seen = runs.seen;
  fits = fits;
  counted = runs.counted;
}

-- the same of a specification that was compiled, where this is the one that is run
pub executes_by : (compiled run : Compiled) → run ≡ compiled → (i : Image) (n old new : ℕ) (e : Execution)
    (choose : Choice)
    → IsChoiceOf run.bound.tables (constructors_of (items_of run.bound.spec)) choose
    → Runs (specification_of (items_of run.bound.spec) run.bound.tables
    (lists_of run.bound.sizes.items)) choose i.start (opened compiled.bound.tables i)
    e.machine old new n e.ran (stopped_by e.fault)
    → Fits run.bound.tables e.machine → Executes (items_of compiled.bound.spec) compiled.bound.tables
    (lists_of compiled.bound.sizes.items) i n old new e
executes_by compiled run is i n old new e choose =
    subst (λ (y : Compiled). IsChoiceOf y.bound.tables (constructors_of (items_of y.bound.spec)) choose
    → Runs (specification_of (items_of y.bound.spec) y.bound.tables (lists_of y.bound.sizes.items)) choose i.start
    (opened compiled.bound.tables i)
    e.machine old new n e.ran (stopped_by e.fault)
    → Fits y.bound.tables e.machine → Executes (items_of compiled.bound.spec) compiled.bound.tables
    (lists_of compiled.bound.sizes.items) i n old new e) (sym is)
    (executes (items_of compiled.bound.spec) compiled.bound.tables
    (lists_of compiled.bound.sizes.items) i n old new e choose)

-- ---- what is defined

within : {X : Type 0} (xs : List X) (k : ℕ) (x : X) → slice_get xs k ≡ Some x → k < length xs
within [] k x is = absurd (let h : ⊥ = cc in h)
within (y ∷ ys) zero x is = omega arith
within (y ∷ ys) (suc k) x is = let h = within ys k x is in omega (arith, h)

pub registers_lie : (t : Tables) → AreDefined t → RegistersAreInSpaces t
registers_lie t defined = λ k r is. let lies = defined.registers k r is in within t.spaces r.space lies.space lies.there

size_of : (ss : List Space) (k : ℕ) (s : Space) → slice_get ss k ≡ Some s → slice_index
    (map (λ z. z.size) ss) k ≡ s.size
size_of [] k s is = absurd (let h : ⊥ = cc in h)
size_of (z ∷ ss) zero s is = let e : z ≡ s = cc in ap (λ (x : Space). x.size) e
size_of (z ∷ ss) (suc k) s is = size_of ss k s is

-- ---- texts

pub stopped_same : (fault : Option RunFault) → is_some fault ≡ is_some (stopped_by fault)
stopped_same None = refl
stopped_same (Some fault) = refl

module _ (items : List Item) (t : Tables) (sizes : List (List Size)) (i : Image) (n old new : ℕ)
    (defined : AreDefined t) (before : State) (e : Execution)
    (opens : byte_at before ≡ opening t i) (h : Executes items t sizes i n old new e) (text : List ℕ)
    (told : IsTold t before e text) where
  alike : AllEndAlike before e.machine.state told.changes told.listed 0 t.spaces
  alike k s is = (
    (defined.spaces k s is).1,
    λ o past.
        let behind : 256 ^ slice_index (map (λ z. z.size) t.spaces) k ≤ o = subst (λ (z : ℕ). 256 ^ z ≤ o)
        (sym (size_of t.spaces k s is)) past in
        let runs = steps.counted_are_runs (specification_of items t sizes) h.runs.choose i.start n
        (opened t i) h.outcome.ran h.count h.outcome.machine h.outcome.fault h.runs.runs in
        let kept = run_keeps (specification_of items t sizes) h.runs.choose i.start n
        (opened t i) h.outcome.ran h.outcome.machine h.outcome.fault k o behind runs in
        let at : 0 + k ≡ k = omega arith in
        subst (λ (z : ℕ). byte_at e.machine.state z o ≡ byte_at before z o) (sym at)
        (ap (λ (m : Memory). m k o) h.seen.memory ∙ kept ∙ ap (λ (m : Memory). m k o) (sym opens)),
  )

  changed : TellsSpaces (opening t i) h.outcome.machine.memory 0 t.spaces (told_lines t.spaces told.changes)
  changed =
      subst (λ (m : Memory). TellsSpaces (opening t i) m 0 t.spaces (told_lines t.spaces told.changes)) h.seen.memory
      (subst (λ (m : Memory). TellsSpaces m (byte_at e.machine.state) 0 t.spaces
      (told_lines t.spaces told.changes)) opens
      (told_tell before e.machine.state told.changes told.listed t.spaces alike))

  tells : IsOutcomeText t i h.outcome text
  tells = record {
    changes = told_lines t.spaces told.changes;
    changed = changed;
    text_is = told.text_is
        ∙ ap (λ (k : ℕ). steps_line k ++ (counter_line (address_bytes t) e.machine.counter
        ++ (register_lines t (byte_at e.machine.state) 0 t.registers ++
        (told_lines t.spaces told.changes ++ fault_line t (stopped_by e.fault))))) (sym h.ran_is)
        ∙ ap (λ (k : ℕ). steps_line h.outcome.ran ++ (counter_line (address_bytes t) k
        ++ (register_lines t (byte_at e.machine.state) 0 t.registers ++
        (told_lines t.spaces told.changes ++ fault_line t (stopped_by e.fault))))) h.seen.counter
        ∙ ap (λ (m : Memory). steps_line h.outcome.ran ++ (counter_line (address_bytes t) h.outcome.machine.counter
        ++ (register_lines t m 0 t.registers ++
        (told_lines t.spaces told.changes ++ fault_line t (stopped_by e.fault))))) h.seen.memory
        ∙ ap (λ (f : Option StepFault). steps_line h.outcome.ran ++
        (counter_line (address_bytes t) h.outcome.machine.counter
        ++ (register_lines t h.outcome.machine.memory 0 t.registers ++
        (told_lines t.spaces told.changes ++ fault_line t f)))) (sym h.fault_is);
  }

  pub run_text : (stopped : Bool) → stopped ≡ is_some e.fault → IsCountedRunText items t sizes i n h.count stopped text
  run_text stopped is = record {
    outcome = h.outcome;
    runs = h.runs;
    tells = tells;
    stopped_is = is ∙ stopped_same e.fault ∙ ap (λ (f : Option StepFault). is_some f) (sym h.fault_is);
  }
