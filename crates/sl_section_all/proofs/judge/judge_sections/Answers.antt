use Rattle.std.proofs.Common.{◌≡◌, List, Option, ℕ, ap, sym, ◌∙◌}
use Rattle.sl_section_exports.specs.Exports.{section_fault}
use Rattle.sl_section_exports.specs.Views.{sections_of}
use Rattle.sl_section_all.specs.FlatSections.{sections_by, up_to}
use Rattle.sl_section_all.specs.Views.{flats_of, scopes_view}
use Rattle.sl_section_all.proofs.HeavyLemmas.{all_flat, fault_is}
use Rattle.sl_section_terms.specs.declared.reach.Reach.{Reach}
use Rattle.sl_section_flat.specs.declared.section.Section.{Section}
use Rattle.sl_spec.specs.Unfolded.{all_placed}
use Rattle.sl_section_all.proofs.judge.judge_sections.Goals as goal

pub returns-in-Some : goal.returns-in-Some
returns-in-Some c =
    let t = c.args.t.now in
    let s = scopes_view c.args.scopes.now in
    let cs = all_placed c.args.constructors.now in
    let heavy = c.in_ok-heavy.heavy in
    let ss = c.in_ok-sections.sections.items in
    let is_heavy = c.in_ok-heavy.ensures c.requires in
    let flat = c.in_ok-sections.ensures ∙ ap (sections_by t s.macros cs) (c.up_to-reaches.ensures ∙ ap (up_to heavy) c.as_slice.ensures.value) in
    sym (fault_is t s cs heavy ss is_heavy flat) ∙ sym (c.in_ok-late.ensures ∙ ap (λ (l : List Section). section_fault t cs (sections_of l) heavy) c.as_slice-2.ensures.value) ∙ c.in-Some.is

pub returns : goal.returns
returns c =
    let t = c.args.t.now in
    let s = scopes_view c.args.scopes.now in
    let cs = all_placed c.args.constructors.now in
    let heavy = c.in_ok-heavy.heavy in
    let ss = c.in_ok-sections.sections.items in
    let is_heavy = c.in_ok-heavy.ensures c.requires in
    let flat = c.in_ok-sections.ensures ∙ ap (sections_by t s.macros cs) (c.up_to-reaches.ensures ∙ ap (up_to heavy) c.as_slice.ensures.value) in
    let none = sym (fault_is t s cs heavy ss is_heavy flat) ∙ sym (c.in_ok-late.ensures ∙ ap (λ (l : List Section). section_fault t cs (sections_of l) heavy) c.as_slice-2.ensures.value) ∙ c.in-None.is in
    (none, flat ∙ all_flat t s cs heavy is_heavy none)
