-- Where the run of a translation leads, and where its instruction does.
use Rattle.std.proofs.Common.{◌≡◌, ℕ, ◌%◌, ◌^◌, ◌≤◌, List, pos, refl, sym, ap, ◌∙◌}
use Rattle.std.specs.Prelude.{map, slice_index}
use Rattle.sl_faithful_code.specs.Faithful.{AreBytes}
use Rattle.sl_faithful_code.specs.Runs as final
use Rattle.sl_faithful_code.specs.Runs.{Final, final_ending, final_outcome, final_run}
use Rattle.sl_emu.specs.Outcomes.{left_ending}
use Rattle.sl_emu.specs.declared.run.Left.{Left}
use Rattle.sl_emu.specs.declared.run.Left.TheVariants.{Next, To}
use Rattle.sl_faithful_keeping.specs.Translations.{IsTranslation}
use Rattle.sl_meaning_instruction.specs.Instructions.{default_space, setting_of}
use Rattle.sl_meaning_sections.specs.Nodes.{After, Node, after_outcome, goes_to, outcome, stopped}
use Rattle.sl_meaning_sections.specs.References.{Setting}
use Rattle.sl_meaning_sections.specs.Statements as does
use Rattle.sl_meaning_sections.specs.Statements.{Outcome}
use Rattle.sl_spec_operators.specs.Operators.{wrapped}
use Rattle.sl_pcode.specs.Machine.{Ending, EndsSo, Run, ended, ending_of, memory_of, run_of, whole}
use Rattle.sl_pcode.specs.declared.operation.Op.{Op}
use Rattle.sl_spec.specs.Tables.{Space}
use Rattle.sl_spec.specs.declared.tables.Tables.{Tables}
use Rattle.sl_step.proofs.AddressLemmas.{residue_wrapped}
use Rattle.sl_step.specs.Outcomes.{section_fault}
use Rattle.sl_step.specs.Stages.{fault_ending, target}
use Rattle.sl_step.specs.declared.error.EmuFault.{EmuFault}
use Rattle.sl_step.specs.declared.error.EmuFault.TheVariants.{DivideByZero, JumpLimit, UserOp}
use Rattle.sl_word.specs.Memories.{Memory}
use Rattle.sl_word.specs.Numbers.{residue}

abbrev after_final : Setting → Final → After
after_final g (final.ends m) = goes_to (residue (slice_index g.sizes g.default) g.next) m
after_final g (final.leaves to m) = goes_to to m
after_final g (final.stops fault m) = stopped fault m

after_same : (g : Setting) (o : Outcome) → after_outcome g o ≡ after_final g (final_outcome o)
after_same g (does.ends st) = refl
after_same g (does.leaves to m) = refl
after_same g (does.stops fault m) = refl

final_same : (g : Setting) (run : Run) → final_run g run ≡ final_ending g (ending_of run) (memory_of run)
final_same g (ended ending m) = refl
final_same g (whole m rest) = final_same g rest

-- where an instruction leads, of whose translation a run ends so
led : (g : Setting) (root : Node) (ops : List Op) (m last : Memory) (ran : ℕ) (ending : Ending)
    → IsTranslation g root ops → AreBytes m
    → EndsSo ran (run_of g.endian g.sizes ops m) ending last → after_outcome g (outcome g root m)
    ≡ after_final g (final_ending g ending last)
led g root ops m last ran ending translates low ends =
    after_same g (outcome g root m)
    ∙ ap (after_final g) (sym (translates.faithful m low) ∙ final_same g (run_of g.endian g.sizes ops m)
    ∙ ap (λ (e : Ending). final_ending g e (memory_of (run_of g.endian g.sizes ops m))) ends.ending
    ∙ ap (final_ending g ending) ends.memory)

-- the same at an address, with another one behind the instruction
module _ (t : Tables) (address after bytes : ℕ)
    (size : bytes ≡ slice_index (map (λ (z : Space). z.size) t.spaces) (default_space t)) (few : bytes ≤ 8) where
  goes_by : (left : Left) (last : Memory)
      → after_final (setting_of t address after) (final_ending (setting_of t address after) (left_ending left) last)
      ≡ goes_to (target after left % 256 ^ bytes) last
  unfolding setting_of
  goes_by Next last =
      ap (λ (n : ℕ). goes_to (residue n (wrapped (pos after))) last) (sym size)
      ∙ ap (λ (a : ℕ). goes_to a last) (residue_wrapped bytes after few)
  goes_by (To to) last = ap (λ (n : ℕ). goes_to (to % 256 ^ n) last) (sym size)

  stops_by : (fault : EmuFault) (last : Memory)
      → after_final (setting_of t address after) (final_ending (setting_of t address after) (fault_ending fault) last)
      ≡ stopped (section_fault fault) last
  stops_by DivideByZero last = refl
  stops_by (UserOp user) last = refl
  stops_by JumpLimit last = refl

  module _ (root : Node) (ops : List Op) (m last : Memory) (ran : ℕ)
      (translates : IsTranslation (setting_of t address after) root ops) (low : AreBytes m) where
    pub goes_on : (left : Left)
        → EndsSo ran (run_of t.endian (setting_of t address after).sizes ops m) (left_ending left) last
        → after_outcome (setting_of t address after) (outcome (setting_of t address after) root m)
        ≡ goes_to (target after left % 256 ^ bytes) last
    unfolding setting_of
    goes_on left ends = led (setting_of t address after) root ops m last ran (left_ending left) translates low ends
        ∙ goes_by left last

    pub stops_there : (fault : EmuFault)
        → EndsSo ran (run_of t.endian (setting_of t address after).sizes ops m) (fault_ending fault) last
        → after_outcome (setting_of t address after) (outcome (setting_of t address after) root m)
        ≡ stopped (section_fault fault) last
    unfolding setting_of
    stops_there fault ends = led (setting_of t address after) root ops m last ran (fault_ending fault) translates low
        ends ∙ stops_by fault last
