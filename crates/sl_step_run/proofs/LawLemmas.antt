-- That the run of an image has one text, and some by a sound specification.
use Rattle.std.proofs.Common.{◌≡◌, ℕ, Bool, List, ◌++◌, Option, refl, sym, ap, subst, ◌∙◌}
use Rattle.std.specs.Prelude.{is_some}
use Rattle.sl_ast.specs.Trees.{Item}
use Rattle.sl_bind.specs.Binding.{constructors_of}
use Rattle.sl_decode_choices.proofs.ChoiceLemmas as choices
use Rattle.sl_decode_choices.specs.Choices.{IsChoiceOf}
use Rattle.sl_decode_meaning.specs.Actions.{address_bytes}
use Rattle.sl_decode_meaning.specs.Choices.{Choice}
use Rattle.sl_meaning_instruction.specs.Instructions.{specification_of}
use Rattle.sl_list_instructions.proofs.AcceptedLemmas.{accepted}
use Rattle.sl_list_instructions.specs.Listing.{Image}
use Rattle.sl_step_run.proofs.ChangeLemmas.{some_spaces, spaces_are_one}
use Rattle.sl_step_run.specs.Laws.{CountedIsText, RunTextIsOne, SomeRunText}
use Rattle.sl_step_run.specs.RunLines.{counter_line, fault_line, register_lines, steps_line}
use Rattle.sl_step_run.specs.Running.{IsOutcomeText, IsRunText, RunOutcome, RunsTo, opened, opening}
use Rattle.sl_base_surely.proofs.SurelyLemmas.{surely_map}
use Rattle.sl_spec.specs.declared.tables.Tables.{Tables}
use Rattle.sl_step_meaning.proofs.StepLemmas as steps
use Rattle.sl_step_meaning.specs.Steps.{IsRun, Machine, StepFault}
use Rattle.sl_word.specs.declared.word.Size.{Size}

-- ---- one text

-- the outcome that these parts make
abbrev outcome_of : ℕ → Machine → Option StepFault → RunOutcome
outcome_of ran machine fault = record { ran = ran; machine = machine; fault = fault }

pub outcome_is_one : (items : List Item) (t : Tables) (sizes : List (List Size)) (i : Image) (n : ℕ) (o p : RunOutcome)
    → RunsTo items t sizes i n o → RunsTo items t sizes i n p → o ≡ p
outcome_is_one items t sizes i n o p h g =
    let same : h.choose ≡ g.choose = λ j table x. choices.choice_is_one t
    (constructors_of items) h.choose g.choose h.is_choice g.is_choice table x j in
    let moved = subst
    (λ (c : Choice). IsRun (specification_of items t sizes) c i.start n
    (opened t i) o.ran o.machine o.fault) same h.runs in
    let one = steps.run_is_one (specification_of items t sizes) g.choose i.start n
    (opened t i) o.ran p.ran o.machine p.machine o.fault p.fault moved g.runs in
    ap (λ (k : ℕ). outcome_of k o.machine o.fault) one.0
    ∙ ap (λ (m : Machine). outcome_of p.ran m o.fault) one.1 ∙ ap
    (λ (f : Option StepFault). outcome_of p.ran p.machine f) one.2

pub text_is_one : (t : Tables) (i : Image) (o : RunOutcome) (x y : List ℕ) → IsOutcomeText t i o x → IsOutcomeText t i o y → x ≡ y
text_is_one t i o x y h g =
    h.text_is
    ∙ ap (λ (z : List ℕ). steps_line o.ran ++
    (counter_line (address_bytes t) o.machine.counter ++
    (register_lines t o.machine.memory 0 t.registers ++ (z ++ fault_line t o.fault))))
    (spaces_are_one (opening t i) o.machine.memory 0 t.spaces h.changes g.changes h.changed g.changed)
    ∙ sym g.text_is

pub run_text_is_one : RunTextIsOne
run_text_is_one items t sizes i n a b x y h g =
    let one = outcome_is_one items t sizes i n h.outcome g.outcome h.runs g.runs in (
      h.stopped_is ∙ ap (λ (o : RunOutcome). is_some o.fault) one ∙ sym g.stopped_is,
      text_is_one t i g.outcome x y (subst (λ (o : RunOutcome). IsOutcomeText t i o x) one h.tells) g.tells,
    )

-- ---- some text

pub some_text : (t : Tables) (i : Image) (o : RunOutcome) → (text : List ℕ) × IsOutcomeText t i o text
some_text t i o =
    let changes = some_spaces (opening t i) o.machine.memory 0 t.spaces in
    (_, record { changes = changes.0; changed = changes.1; text_is = refl })

pub some_run_text : SomeRunText
some_run_text items t sizes i n compiles =
    let is = accepted items t compiles in
    surely_map (λ (c : (choose : Choice) × IsChoiceOf t (constructors_of items) choose).
    let run = steps.some_run (specification_of items t sizes) c.0 i.start n (opened t i) in
    let o = outcome_of run.0 run.1 run.2 in
    let text = some_text t i o in
    let p : (has_stopped : Bool) × (text : List ℕ) × IsRunText items t sizes i n has_stopped text = (
      is_some o.fault,
      text.0,
      record {
        outcome = o;
        runs = record { choose = c.0; is_choice = c.1; runs = run.3 };
        tells = text.1;
        stopped_is = refl;
      },
    ) in p)
    (choices.some_choice t (constructors_of items) is.stand.listed is.sound)

-- ---- a run in which operations are counted

pub counted_is_text : CountedIsText
counted_is_text items t sizes i n count has_stopped text h = record {
  outcome = h.outcome;
  runs = record {
    choose = h.runs.choose;
    is_choice = h.runs.is_choice;
    runs = steps.counted_are_runs (specification_of items t sizes) h.runs.choose i.start n
        (opened t i) h.outcome.ran count h.outcome.machine h.outcome.fault h.runs.runs;
  };
  tells = h.tells;
  stopped_is = h.stopped_is;
}
