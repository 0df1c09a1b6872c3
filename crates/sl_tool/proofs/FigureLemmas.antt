-- Lines counted byte by byte, and what `gen` tells.
use Rattle.std.proofs.Common.{◌≡◌, ℕ, zero, suc, ◌+◌, ◌<◌, ◌≤◌, ◌==◌, if◌then◌else◌, Bool, true, false, List, [], ◌∷◌, Some, Ok, length, refl, sym, ap, subst, ◌∙◌, arith}
use Rattle.std.proofs.Math.ListN.{drop_of_length-le}
use Rattle.std.specs.Prelude.{slice_get}
use Rattle.sl_ast.specs.Trees.{Item}
use Rattle.sl_bind.specs.Binding.{Binds, constructors_of}
use Rattle.sl_decode_lengths.proofs.AcceptedLemmas.{bound_are_taken}
use Rattle.sl_faithful_places.proofs.PlaceLemmas.{taken_are_defined}
use Rattle.sl_tool_generator.specs.Line.{figures_line}
use Rattle.sl_list_instructions.specs.Listing.{Image, IsListing}
use Rattle.sl_step_run.specs.Executing.{Executes}
use Rattle.sl_step_run.specs.Running.{RunsCountedTo}
use Rattle.sl_step_run.specs.Told.{RegistersAreInSpaces}
use Rattle.sl_step_run.specs.declared.execution.Execution.{Execution}
use Rattle.sl_spec.specs.declared.tables.Tables.{Tables}
use Rattle.sl_tool.specs.Figures.{CountsSo, IsFigured, IsListed}
use Rattle.sl_tool.specs.Generated.{figures_told, generated_image, lines_behind, shown_from, shown_lines}
use Rattle.sl_tool_stages.specs.Values.{Compiled}
use Rattle.sl_word.specs.Bytes.{byte_at}
use Rattle.sl_word.specs.Memories.{Memory}
use Rattle.sl_word.specs.declared.word.Size.{Size}

-- at the front of the text
pub none_counted : (text : List ℕ) → CountsSo text 0 0 false
none_counted text = record { few = omega arith; rest = refl }

one_more : (byte count : ℕ) (is_marked is_line : Bool) → (if is_line then (if is_marked then count else count + 1) else count) ≤ count + 1
one_more byte count true true = omega arith
one_more byte count false true = omega arith
one_more byte count true false = omega arith
one_more byte count false false = omega arith

first_of : (byte count : ℕ) (is_marked is_line : Bool) → (byte == 10) ≡ is_line → (lines_behind byte count is_marked).0 ≤ count + 1
first_of byte count is_marked true e = rw e (one_more byte count is_marked true)
first_of byte count is_marked false e = rw e (one_more byte count is_marked false)

-- at the end
pub all_counted : (text : List ℕ) (place count : ℕ) (is_marked : Bool) → length text ≤ place → CountsSo text place count is_marked → count ≡ shown_lines text
all_counted text place count is_marked end so_far = ap (shown_from count is_marked) (sym (drop_of_length-le text end)) ∙ so_far.rest

-- ---- registers of an accepted text

register_within : {X : Type 0} (xs : List X) (k : ℕ) (x : X) → slice_get xs k ≡ Some x → k < length xs
register_within [] k x is = absurd (let h : ⊥ = cc in h)
register_within (y ∷ ys) zero x is = omega arith
register_within (y ∷ ys) (suc k) x is = let h = register_within ys k x is in omega (arith, h)

pub registers_lie : (items : List Item) (t : Tables) (sizes : List (List Size)) → Binds items (Ok (t, sizes)) → RegistersAreInSpaces t
registers_lie items t sizes binds = λ k r is.
    let lies = (taken_are_defined items t (bound_are_taken items t sizes binds)).registers k r is in
    register_within t.spaces r.space lies.space lies.there

-- ---- what is told

pub figures_due : (c : Compiled) (size listed : ℕ) (sizes : List (List Size)) (i : Image) (e : Execution) (old new : ℕ) (line : List ℕ) → i ≡ generated_image size
    → Binds c.tree.items (Ok (c.tables, sizes)) → IsListed c i listed → Executes c.tree.items c.tables sizes i size old new e
    → line ≡ figures_line (figures_told c.tables size listed e.ran (byte_at e.machine.state)) → IsFigured c size old new line
figures_due c size listed sizes i e old new line is binds lists runs told =
    let ran = ap (λ (n : ℕ). figures_told c.tables size listed n (byte_at e.machine.state)) (sym runs.ran_is) in
    let memory = ap (λ (m : Memory). figures_told c.tables size listed runs.outcome.ran m) runs.seen.memory in
    let shown = ap (λ (n : ℕ). figures_told c.tables size n runs.outcome.ran runs.outcome.machine.memory) lists.2 in (
      runs.count,
      record {
        sizes = sizes;
        listing = lists.0;
        outcome = runs.outcome;
        bound = binds;
        lists = subst (λ (x : Image). IsListing c.tables (constructors_of c.tree.items) x lists.0) is lists.1;
        runs = subst (λ (x : Image). RunsCountedTo c.tree.items c.tables sizes x size runs.count runs.outcome) is runs.runs;
        ending = refl;
        text = told ∙ ap figures_line (ran ∙ memory ∙ shown);
      },
      runs.counted,
    )
