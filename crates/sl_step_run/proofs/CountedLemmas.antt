-- An image runs by an accepted specification, with all operations counted.
use Rattle.std.proofs.Common.{◌≡◌, ℕ, zero, suc, ◌+◌, ◌%◌, ◌^◌, ◌<◌, Bool, true, false, List, Option, Some, None, Result, Ok, Err, refl, arith}
use Rattle.std.specs.Prelude.{is_some}
use Rattle.sl_ast.specs.Trees.{Item}
use Rattle.sl_bind.specs.Binding.{Binds, constructors_of}
use Rattle.sl_faithful_accepted.specs.Laws.{IsShort}
use Rattle.sl_faithful_accepted.proofs.Translations.{bound_have_translations}
use Rattle.sl_decode_choices.proofs.ChoiceLemmas as choices
use Rattle.sl_decode_choices.specs.Choices.{IsChoiceOf}
use Rattle.sl_bind_compile.specs.Outcomes.{Compiles}
use Rattle.sl_decode_contexts.proofs.LawLemmas.{some_context}
use Rattle.sl_decode_contexts.specs.Commits.{IsContextAt}
use Rattle.sl_decode_meaning.specs.Decoding.{Decoded}
use Rattle.sl_decode_meaning.specs.Choices.{Choice}
use Rattle.sl_decode_meaning.specs.declared.faults.Fault as decoding
use Rattle.sl_faithful_lists.specs.Faithful.{IsFaithfulList}
use Rattle.sl_meaning_instruction.specs.Instructions.{Specification, is_unimplemented, specification_of}
use Rattle.sl_list_instructions.proofs.AcceptedLemmas.{accepted}
use Rattle.sl_list_instructions.specs.Listing.{Image}
use Rattle.sl_pcode.specs.declared.operation.Op.{Op}
use Rattle.sl_step_run.proofs.LawLemmas.{some_text}
use Rattle.sl_step_run.specs.CountedLaws.{SomeCountedRun, SomeCountedRunText}
use Rattle.sl_step_run.specs.Running.{IsCountedRunText, RunOutcome, RunsCountedTo, opened}
use Rattle.sl_base_surely.specs.Surely.{Surely}
use Rattle.sl_base_surely.proofs.SurelyLemmas.{surely_map}
use Rattle.sl_spec.specs.declared.tables.Tables.{Tables}
use Rattle.sl_step_meaning.proofs.StepLemmas.{some_step}
use Rattle.sl_step_meaning.specs.Counted.{Counts, IsCountedRun, ended, executed, faulted, off, ran, undecoded, unimplemented}
use Rattle.sl_step_meaning.specs.Steps.{IsStep, Machine, StepFault, Stepped, decoded_at, goes, stops, window_of}
use Rattle.sl_word.specs.declared.word.Size.{Size}

module _ (s : Specification) (choose : Choice) (start : ℕ) where
  -- Each instruction that a machine decodes has a list that is faithful to it.
  abbrev pub HaveFaithfulLists : Type 0
  HaveFaithfulLists = (m : Machine) (context : ℕ) (d : Decoded) → decoded_at s choose start m context ≡ Ok d
      → is_unimplemented s.constructors d.tree ≡ false
      → (ops : List Op) × IsFaithfulList s (window_of s choose start m) m.counter d ops

  module _ (have : HaveFaithfulLists) where
    -- ---- of one instruction

    abbrev SomeCount : Machine → Type 0
    SomeCount m = (count : ℕ) × Counts s choose start m count

    module _ (m : Machine) (context : ℕ) (aligned : m.counter % s.tables.alignment ≡ 0) (narrow : context < 2 ^ 64)
        (at : IsContextAt start m.commits m.counter context) where
      count_decoded : (d : Decoded) → decoded_at s choose start m context ≡ Ok d → (b : Bool)
          → is_unimplemented s.constructors d.tree ≡ b → SomeCount m
      count_decoded d is true whole = (0, unimplemented aligned narrow at is whole)
      count_decoded d is false whole =
          let found = have m context d is whole in
          (_, executed aligned narrow at is whole (record { ops = found.0; faithful = found.1; count_is = refl }))

      count_by : (r : Result Decoded decoding.Fault) → decoded_at s choose start m context ≡ r → SomeCount m
      count_by (Ok d) is = count_decoded d is (is_unimplemented s.constructors d.tree) refl
      count_by (Err fault) is = (0, undecoded aligned narrow at is)

    count_at : (m : Machine) (beyond : ℕ) → m.counter % s.tables.alignment ≡ beyond → SomeCount m
    count_at m zero is =
        let c = some_context start m.commits m.counter in
        count_by m c.0 is c.1 c.2 (decoded_at s choose start m c.0) refl
    count_at m (suc k) is = (0, off is (omega arith))

    pub some_count : (m : Machine) → SomeCount m
    some_count m = count_at m (m.counter % s.tables.alignment) refl

    -- ---- of a run

    abbrev SomeRunFrom : (most : ℕ) → Machine → Type 0
    SomeRunFrom most m =
        (n : ℕ) × (count : ℕ) × (last : Machine) × (fault : Option StepFault)
        × IsCountedRun s choose start most m n count last fault

    run_by : (most : ℕ) (m : Machine) (x : Stepped) → IsStep s choose start m x
        → ((next : Machine) → SomeRunFrom most next) → SomeRunFrom (suc most) m
    run_by most m (goes next) is rest =
        let here = some_count m in
        let all = rest next in
        (suc all.0, here.0 + all.1, all.2, all.3, ran is here.1 all.4)
    run_by most m (stops fault last) is rest =
        let here = some_count m in
        (0, here.0, last, Some fault, faulted is here.1)

    pub some_counted_run : (most : ℕ) (m : Machine) → SomeRunFrom most m
    some_counted_run zero m = (0, 0, m, None, ended)
    some_counted_run (suc most) m =
        let next = some_step s choose start m in
        run_by most m next.0 next.1 (λ (x : Machine). some_counted_run most x)

-- ---- of an image

module _ (items : List Item) (t : Tables) (sizes : List (List Size)) (i : Image) (steps : ℕ) (short : IsShort items)
    (binds : Binds items (Ok (t, sizes))) where
  abbrev SomeOutcome : Type 0
  SomeOutcome = (count : ℕ) × (outcome : RunOutcome) × RunsCountedTo items t sizes i steps count outcome

  some_outcome : (choose : Choice) → IsChoiceOf t (constructors_of items) choose → SomeOutcome
  some_outcome choose is_choice =
      let s = specification_of items t sizes in
      let have : HaveFaithfulLists s choose i.start = λ m context d is implemented.
      let bytes = window_of s choose i.start m in
      bound_have_translations items t sizes choose bytes m.counter context d short binds is_choice is implemented in
      let run = some_counted_run s choose i.start have steps (opened t i) in (
        run.1,
        record { ran = run.0; machine = run.2; fault = run.3 },
        record { choose = choose; is_choice = is_choice; runs = run.4 },
      )

  surely_outcome : Compiles items (Ok t) → Surely SomeOutcome
  surely_outcome compiles =
      let is = accepted items t compiles in
      surely_map (λ (c : (choose : Choice) × IsChoiceOf t (constructors_of items) choose). some_outcome c.0 c.1)
      (choices.some_choice t (constructors_of items) is.stand.listed is.sound)

  abbrev SomeText : Type 0
  SomeText = (count : ℕ) × (has_stopped : Bool) × (text : List ℕ)
      × IsCountedRunText items t sizes i steps count has_stopped text

  told : SomeOutcome → SomeText
  told o =
      let text = some_text t i o.1 in (
        o.0,
        is_some o.1.fault,
        text.0,
        record { outcome = o.1; runs = o.2; tells = text.1; stopped_is = refl },
      )

pub some_counted_outcome : SomeCountedRun
some_counted_outcome items t sizes i steps short binds compiles =
    surely_outcome items t sizes i steps short binds compiles

pub some_counted_text : SomeCountedRunText
some_counted_text items t sizes i steps short binds compiles =
    surely_map (told items t sizes i steps short binds) (surely_outcome items t sizes i steps short binds compiles)
