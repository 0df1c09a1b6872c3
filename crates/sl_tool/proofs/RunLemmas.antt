-- What is told of runs is one text.
use Rattle.std.proofs.Common.{◌≡◌, ℕ, List, Ok, Err, sym, ap, subst, ◌∙◌}
use Rattle.sl_bind.specs.Binding.{Binds, Verdict, constructors_of}
use Rattle.sl_bind.proofs.VerdictLemmas.{one_verdict}
use Rattle.sl_ast.specs.Trees.{Item}
use Rattle.sl_list_instructions.proofs.ImageLawLemmas.{listing_is_one}
use Rattle.sl_step_run.proofs.LawLemmas.{counted_is_text, outcome_is_one, run_text_is_one}
use Rattle.sl_step_run.specs.Running.{IsRunText, RunOutcome, RunsCountedTo, RunsTo}
use Rattle.sl_spec.specs.declared.tables.Tables.{Tables}
use Rattle.sl_step_meaning.proofs.StepLemmas.{counted_are_runs}
use Rattle.sl_meaning_instruction.specs.Instructions.{specification_of}
use Rattle.sl_list_instructions.specs.Listing.{Image}
use Rattle.sl_tool_generator.specs.Line.{figures_line}
use Rattle.sl_step_run.specs.Running.{opened}
use Rattle.sl_tool.specs.Endings.{Shown, ending_of}
use Rattle.sl_tool.specs.Generated.{AreFigures, figures_told, generated_image, shown_lines}
use Rattle.sl_tool.specs.Shows.{ShowsRun}
use Rattle.sl_tool_stages.specs.Values.{Compiled, Loaded}
use Rattle.sl_word.specs.declared.word.Size.{Size}

-- the sizes of a text's sections are one
abbrev sizes_of : Verdict → List (List Size) → List (List Size)
sizes_of (Ok (t, sizes)) other = sizes
sizes_of (Err fault) other = other

sizes_are_one : (items : List Item) (t : Tables) (a b : List (List Size)) → Binds items (Ok (t, a)) → Binds items (Ok (t, b)) → a ≡ b
sizes_are_one items t a b h g = ap (λ (v : Verdict). sizes_of v a) (one_verdict items (Ok (t, a)) (Ok (t, b)) h g)

pub run_is_one : (l : Loaded) (steps : ℕ) (s u : Shown) → ShowsRun l steps s → ShowsRun l steps u → (s.ending ≡ u.ending) × (s.text ≡ u.text)
run_is_one l steps s u h g =
    let items = l.compiled.tree.items in
    let t = l.compiled.tables in
    let same = sizes_are_one items t h.sizes g.sizes h.bound g.bound in
    let mine : IsRunText items t g.sizes l.image steps h.stopped s.text =
    subst (λ (z : List (List Size)). IsRunText items t z l.image steps h.stopped s.text) same (counted_is_text items t h.sizes l.image steps s.ran h.stopped s.text h.runs) in
    let one = run_text_is_one items t g.sizes l.image steps h.stopped g.stopped s.text u.text mine (counted_is_text items t g.sizes l.image steps u.ran g.stopped u.text g.runs) in
    (h.ending ∙ ap ending_of one.0 ∙ sym g.ending, one.1)

uncounted : (items : List Item) (t : Tables) (sizes : List (List Size)) (i : Image) (steps count : ℕ) (o : RunOutcome) → RunsCountedTo items t sizes i steps count o → RunsTo items t sizes i steps o
uncounted items t sizes i steps count o h = record {
  choose = h.choose;
  is_choice = h.is_choice;
  runs = counted_are_runs (specification_of items t sizes) h.choose i.start steps (opened t i) o.ran count o.machine o.fault h.runs;
}

-- the line that tells of this listing and this outcome
abbrev pub line_of : Tables → ℕ → List ℕ → RunOutcome → List ℕ
line_of t size listing o = figures_line (figures_told t size (shown_lines listing) o.ran o.machine.memory)

pub figures_are_one : (c : Compiled) (size : ℕ) (s u : Shown) → AreFigures c size s → AreFigures c size u → (s.ending ≡ u.ending) × (s.text ≡ u.text)
figures_are_one c size s u h g =
    let items = c.tree.items in
    let t = c.tables in
    let i = generated_image size in
    let same = sizes_are_one items t h.sizes g.sizes h.bound g.bound in
    let listing = listing_is_one t (constructors_of items) i h.listing g.listing h.lists g.lists in
    let mine : RunsTo items t g.sizes i size h.outcome =
    subst (λ (z : List (List Size)). RunsTo items t z i size h.outcome) same (uncounted items t h.sizes i size s.ran h.outcome h.runs) in
    let one = outcome_is_one items t g.sizes i size h.outcome g.outcome mine (uncounted items t g.sizes i size u.ran g.outcome g.runs) in (
      h.ending ∙ sym g.ending,
      h.text ∙ ap (λ (x : List ℕ). line_of t size x h.outcome) listing ∙ ap (λ (o : RunOutcome). line_of t size g.listing o) one ∙ sym g.text,
    )
