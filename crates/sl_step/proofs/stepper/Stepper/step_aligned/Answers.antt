use Rattle.std.proofs.Common.{◌≡◌, ℕ, List, ◌++◌, Some, Err, refl, sym, ap, subst, ◌∙◌}
use Rattle.std.specs.Prelude.{map, position, slice_index, take}
use Rattle.sl_decode_contexts.specs.Runs.{Stands}
use Rattle.sl_decode_contexts.specs.declared.commits.Commit.{Commit}
use Rattle.sl_decode_meaning.specs.Actions.{address_bytes}
use Rattle.sl_pcode.specs.Operations.{operations}
use Rattle.sl_pcode.specs.WellFormed.{IsWellFormed}
use Rattle.sl_spec.specs.Tables.{Space}
use Rattle.sl_spec.specs.declared.tables.Tables.{Tables}
use Rattle.sl_step.proofs.AddressLemmas.{bytes_are, default_is, sizes_are}
use Rattle.sl_step.proofs.StepLemmas.{cut_commits, seen_holds, stepped, unread, window_same}
use Rattle.sl_step.specs.Outcomes.{Steps}
use Rattle.sl_step.specs.Stands.{choice_in, specification_in}
use Rattle.sl_step.specs.Windows.{window_in}
use Rattle.sl_step.specs.declared.error.StepError.TheVariants.{NoMemory}
use Rattle.sl_step.specs.declared.instruction.Instruction.{Instruction}
use Rattle.sl_step.specs.declared.machine.Machine.{Machine}
use Rattle.sl_step_meaning.specs.Steps as steps
use Rattle.sl_word.specs.Bytes.{address_size, address_sizes}
use Rattle.sl_step.proofs.stepper.Stepper.step_aligned.Goals as goal

-- the size of the addresses of the default space
wide : (t : Tables) (machine : Machine) (i : ℕ) → address_sizes machine.state ≡ map (λ (z : Space). z.size) t.spaces
    → position (λ (z : Space). z.default) t.spaces ≡ Some i → address_size machine.state i ≡ address_bytes t
wide t machine i sizes is = ap (λ (ns : List ℕ). slice_index ns i) sizes ∙ sym (bytes_are t i is)

pub returns-in-Err-clause-steps : goal.returns-in-Err-clause-steps
unfolding window_in
returns-in-Err-clause-steps g c start m seen =
    let x = c.args.self.now in
    let s = specification_in x in
    let choose = choice_in x in
    let old = c.args.machine.now in
    let stands = c.requires.stands in
    let n = g.R.Runner.count c.args.runner.now in
    seen_holds (λ (a : steps.Machine). Steps s choose start a old n n (Err c.in-Err.error)) start old m seen
    (unread s choose start old m.commits (window_in old.state x.space.0 old.counter) c.at-context.result c.at-context.type_inv
    (c.at-context.ensures start m.commits seen.contexts) c.requires.aligned
    (window_same s choose start old m.commits x.space.0 (address_size old.state x.space.0)
    (sym (default_is s.tables x.space.0 stands.space))
    (wide s.tables old x.space.0 c.requires.fits.sizes stands.space))
    n (g.R.Runner.small c.args.runner.now) seen.contexts c.in-Err.error c.in-Err.ensures.unread)

pub run-requires-clause-well_formed : goal.run-requires-clause-well_formed
run-requires-clause-well_formed g c =
    let t = (specification_in c.args.self.now).tables in
    let read = c.in-Ok.ensures.read in
    subst (λ (ns : List ℕ). IsWellFormed ns (operations c.in-Ok.instruction.value.ops))
    (sizes_are t c.args.machine.now.counter read.told.after ∙ sym c.requires.fits.sizes)
    read.faithful.translation.well_formed

pub returns-clause-steps : goal.returns-clause-steps
unfolding window_in
returns-clause-steps g c start m seen =
    let x = c.args.self.now in
    let s = specification_in x in
    let choose = choice_in x in
    let old = c.args.machine.now in
    let stands = c.requires.stands in
    let default = default_is s.tables x.space.0 stands.space in
    let before = g.R.Runner.count c.args.runner.now in
    let behind = g.R.Runner.count c.run.new.runner in
    seen_holds (λ (a : steps.Machine). Steps s choose start a c.run.new.machine before behind c.run.result) start old m
    seen
    (stepped s choose start old m.commits (window_in old.state x.space.0 old.counter) c.at-context.result c.at-context.type_inv
    (c.at-context.ensures start m.commits seen.contexts) c.requires.aligned
    (window_same s choose start old m.commits x.space.0 (address_size old.state x.space.0) (sym default)
    (wide s.tables old x.space.0 c.requires.fits.sizes stands.space))
    c.in-Ok.instruction.value.commits.items c.in-Ok.instruction.value.after (operations c.in-Ok.instruction.value.ops) c.in-Ok.ensures.read c.requires.fits
    x.size.bytes
    (stands.size ∙ bytes_are s.tables x.space.0 stands.space
    ∙ ap (λ (i : ℕ). slice_index (map (λ (z : Space). z.size) s.tables.spaces) i) (sym default)) x.size.at_most_8
    (record { state = old.state; counter = old.counter; contexts = c.commit_all.new.self }) c.run.new.machine refl
    refl c.run.ensures.contexts
    (subst (λ (ds : List Commit). Stands c.commit_all.new.self start (m.commits ++ ds))
    (c.as_slice.ensures.value ∙ ap (λ (x : Instruction). x.commits.items) c.deref.ensures)
    (c.in-Ok-commit_all.ensures.all start m.commits seen.contexts))
    before behind c.run.result c.run.ensures.runs)

pub returns-in_default-clause-steps : goal.returns-in_default-clause-steps
unfolding window_in
returns-in_default-clause-steps g c start m seen =
    let x = c.args.self.now in
    let s = specification_in x in
    let choose = choice_in x in
    let old = c.args.machine.now in
    let stands = c.requires.stands in
    let n = g.R.Runner.count c.args.runner.now in
    let new : Machine = record { state = old.state; counter = old.counter; contexts = c.commit_all.new.self } in
    let made = c.in_default.ensures.first start m.commits seen.contexts in
    seen_holds (λ (a : steps.Machine). Steps s choose start a new n n (Err NoMemory)) start old m seen
    (cut_commits s choose start old m.commits (window_in old.state x.space.0 old.counter) c.at-context.result c.at-context.type_inv
    (c.at-context.ensures start m.commits seen.contexts) c.requires.aligned
    (window_same s choose start old m.commits x.space.0 (address_size old.state x.space.0)
    (sym (default_is s.tables x.space.0 stands.space))
    (wide s.tables old x.space.0 c.requires.fits.sizes stands.space))
    c.in-Ok.instruction.value.commits.items c.in-Ok.instruction.value.after
    (operations c.in-Ok.instruction.value.ops) c.in-Ok.ensures.read n made.0 new refl refl
    (subst (λ (ds : List Commit). Stands c.commit_all.new.self start (m.commits ++ take made.0 ds))
    (c.as_slice.ensures.value ∙ ap (λ (y : Instruction). y.commits.items) c.deref.ensures) made.1))
