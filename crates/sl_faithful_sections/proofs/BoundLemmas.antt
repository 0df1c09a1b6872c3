-- Flat sections of a text that keeps the rules.
use Rattle.std.proofs.Common.{◌≡◌, ℕ, Bool, true, List, [], map, slice_get, Option, Some, None, Ok, refl, sym, ap, subst, ◌∙◌}
use Rattle.std.specs.Prelude.{◌&&◌, ◌||◌, not, unwrap_or}
use Rattle.std.specs.List.{AllByRecursion}
use Rattle.sl_ast.specs.Trees.{Constructor, Item, Section, Statement, statements, unimplemented}
use Rattle.sl_ast.specs.Unfolding.{Placed}
use Rattle.sl_bind.proofs.WalkLemmas.{whole_text}
use Rattle.sl_bind.specs.Binding.{constructors_of}
use Rattle.sl_bind.specs.Verdict.{taken}
use Rattle.sl_faithful_sections.proofs.AttachLemmas.{taken_alike}
use Rattle.sl_faithful_sections.proofs.BuildLemmas.{section_built}
use Rattle.sl_faithful_sections.proofs.ChangeLemmas.{Grown, RangesLie, demand_at}
use Rattle.sl_faithful_sections.proofs.ExportLemmas.{all_export, flat_exports, written_exports}
use Rattle.sl_faithful_sections.proofs.JudgedLemmas.{IsJudged, taken_judged}
use Rattle.sl_faithful_sections.proofs.KindLemmas.{AreWell, OperandsAlike, global_same, section_well}
use Rattle.sl_faithful_sections.proofs.ListLemmas.{MadeOf, mapped_there, of_pair, pair_there, three_at}
use Rattle.sl_faithful_sections.proofs.QuietLemmas.{IsMacro}
use Rattle.sl_faithful_sections.specs.BuildLaws.{BuildsAreOnce, ConstantsAreBare, ExportsArePlaces, TablesExportAlike, sections_of}
use Rattle.sl_spec_constructors.specs.ConstructorRules.{is_of_root}
use Rattle.sl_spec_constructors.specs.WholeText.{table_name}
use Rattle.sl_section_equations.specs.Uses.{exported_variable}
use Rattle.sl_section_exports.specs.Exports.{Row, does_export, rows}
use Rattle.sl_faithful_keeping.specs.Keeping.{first_export}
use Rattle.sl_section_all.specs.FlatSections.{Flat, flat_section, flat_sections, row_section}
use Rattle.sl_section_all.specs.Scopes.{scopes_of}
use Rattle.sl_meaning_instruction.specs.Instructions.{is_unimpl_by}
use Rattle.sl_faithful_keeping.specs.KeepingLaws.{ExportsAreBare}
use Rattle.sl_spec_registers.proofs.BoolLemmas.{and_parts}
use Rattle.sl_section_resolve.specs.Macros.{Body}
use Rattle.sl_section_terms.specs.Scopes.{global_symbol, reach_of}
use Rattle.sl_section_terms.specs.declared.reach.Reach.{Reach}
use Rattle.sl_spec_rules.specs.Demands.{first_broken}
use Rattle.sl_spec_rules.specs.Gathered.{gathered}
use Rattle.sl_spec_rules.specs.Names.{are_distinct}
use Rattle.sl_section_flat.specs.Sections.{Export}
use Rattle.sl_section_forms.specs.Places.{exports_last, exports_nothing}
use Rattle.sl_section_rules.specs.SectionRules.{body_demands, builds_table, each_holds, exports_well, has_builds, has_exports, section_demands}
use Rattle.sl_section_rules.specs.SectionRules as rules
use Rattle.sl_section_rules.specs.Macros.{Signature}
use Rattle.sl_section_rules.specs.Scopes.{section_scope}
use Rattle.sl_section_rules.specs.WholeText.{Whole}
use Rattle.sl_faithful_sections.specs.SoundLaws.{HasExport}
use Rattle.sl_spec.specs.Tables.{Ctor, Operand}
use Rattle.sl_spec.specs.declared.tables.Tables.{Tables}
use Rattle.sl_faithful_sections.specs.UseLaws.{NamesPlace}
use Rattle.sl_spec_tables.specs.Rows as all
use Rattle.sl_faithful_formed.specs.Lengths.{AreDistinct, built}

-- ---- a flat section and its constructor

abbrev MadeHere : (items : List Item) (t : Tables) (number : ℕ) (f : Flat) → Type 0
MadeHere items t number f =
    MadeOf (IsJudged (whole_text items) t) (row_section t (scopes_of items).macros) t.constructors
    (constructors_of items) (scopes_of items).reaches number f

record Here (items : List Item) (t : Tables) (number : ℕ) (f : Flat) : Type 0 where
  pub of : MadeHere items t number f
  pub macros : AllByRecursion (IsMacro t) (scopes_of items).macros

here : (items : List Item) (t : Tables) (number : ℕ) (f : Flat) → taken items ≡ Ok t
    → slice_get (sections_of items t) number ≡ Some f → Here items t number f
unfolding flat_sections scopes_of
here items t number f is at =
    let are = taken_judged items t is in
    record {
      of = three_at (IsJudged (whole_text items) t) (row_section t (scopes_of items).macros) t.constructors
          (constructors_of items) (scopes_of items).reaches number f at are.each;
      macros = are.macros;
    }

-- ---- which rules hold

-- Rules 29 and 30 hold.
record KeepsRules (w : Whole) (t : Tables) (os : List Operand) (is_root : Bool) (body : List Statement) : Type 0 where
  pub builds : has_builds t (section_scope w.attached t os) body ≡ true
  pub exports : has_exports t (section_scope w.attached t os) is_root body ≡ true

keeps_rules : (w : Whole) (t : Tables) (ms : List Signature) (os : List Operand) (is_root : Bool)
    (body : List Statement)
    → first_broken (section_demands w t ms os is_root (statements body)) ≡ None → KeepsRules w t os is_root body
keeps_rules w t ms os is_root body keeps =
    let scope = section_scope w.attached t os in
    let ds = body_demands w t ms scope [] is_root body in
    record {
      builds = demand_at ds 3 (29, has_builds t scope body) refl keeps;
      exports = demand_at ds 4 (30, has_exports t scope is_root body) refl keeps;
    }

-- ---- builds

once_by : (w : Whole) (t : Tables) (macros : List Body) (c : Ctor) (name : List ℕ) (reach : Reach) (section : Section)
    (old : Tables) (ms : List Signature)
    → first_broken (section_demands w old ms c.operands (is_of_root name) section) ≡ None
    → AllByRecursion (IsMacro t) macros
    → AreDistinct (built (flat_section t macros reach c.operands section).steps)
once_by w t macros c name reach (statements body) old ms keeps are =
    let k = keeps_rules w old ms c.operands (is_of_root name) body keeps in
    section_built t c.operands macros reach body are
    (and_parts (are_distinct (gathered rules.built body))
    (each_holds old (builds_table old) (section_scope w.attached old c.operands) body) k.builds).0
once_by w t macros c name reach unimplemented old ms keeps are = tt

pub builds_are_once : BuildsAreOnce
builds_are_once items t number f is at =
    let h = here items t number f is at in
    subst (λ (g : Flat). AreDistinct (built g.steps)) h.of.is
    (once_by (whole_text items) t (scopes_of items).macros h.of.x
    (table_name h.of.y.1) h.of.z h.of.y.1.section h.of.holds.before h.of.holds.macros h.of.holds.keeps h.macros)

-- ---- exports

module _ (w : Whole) (t : Tables) (macros : List Body) (are : AllByRecursion (IsMacro t) macros) (c : Ctor)
    (name : List ℕ) (reach : Reach) (old : Tables) (ms : List Signature)
    (same : reach ≡ reach_of old) (grown : Grown old t) (lie : RangesLie old)
    (alike : OperandsAlike w.attached t c.operands) where
  abbrev globals : (v : List ℕ) → global_symbol old reach v ≡ global_symbol t reach v
  globals v =
      subst (λ (r : Reach). global_symbol old r v ≡ global_symbol t r v) (sym same) (global_same old t grown lie v)

  well_by : (section : Section) → first_broken (section_demands w old ms c.operands (is_of_root name) section) ≡ None
      → AreWell old t reach globals (flat_section t macros reach c.operands section).steps
  well_by (statements body) keeps =
      let scope = section_scope w.attached old c.operands in
      let k = keeps_rules w old ms c.operands (is_of_root name) body keeps in
      section_well old t reach globals macros are w.attached c.operands body (sym same) alike
      (and_parts (exports_last body && (not (is_of_root name) || exports_nothing body))
      (each_holds old (exports_well old) scope body) k.exports).1
  well_by unimplemented keeps = record { bare = tt; place = λ what is. absurd (let e : ⊥ = cc in e) }

-- What a section exports can be handed on.
record IsWellMade (f : Flat) : Type 0 where
  pub bare : ExportsAreBare f.steps
  pub place : (what : Export) → first_export f.steps ≡ Some what → NamesPlace what

well_made : (items : List Item) (t : Tables) (number : ℕ) (f : Flat) → taken items ≡ Ok t
    → slice_get (sections_of items t) number ≡ Some f → IsWellMade f
well_made items t number f is at =
    let h = here items t number f is at in
    let j = h.of.holds in
    let w = whole_text items in
    let alike = taken_alike items t j.before h.of.x.operands is j.grown j.fields in
    let well = well_by w t (scopes_of items).macros h.macros h.of.x
    (table_name h.of.y.1) h.of.z j.before j.macros j.reach_is j.grown j.lie alike h.of.y.1.section j.keeps in
    subst IsWellMade h.of.is (record { bare = well.bare; place = well.place })

pub constants_are_bare : ConstantsAreBare
constants_are_bare items t number f is at = (well_made items t number f is at).bare

pub exports_are_places : ExportsArePlaces
exports_are_places items t number f what is at exports = (well_made items t number f is at).place what exports

-- so it is of the rows by which rules 38 and 39 are judged
pub rows_are_places : (items : List Item) (t : Tables) → taken items ≡ Ok t → (k : ℕ) (r : Row) (what : Export)
    → slice_get (rows t (constructors_of items) (map (λ (f : Flat). f.steps) (sections_of items t))) k ≡ Some r
    → first_export r.1 ≡ Some what → NamesPlace what
rows_are_places items t is k r what at exports =
    let f = of_pair (all.rows t (constructors_of items)) (λ (f : Flat). f.steps) (sections_of items t) k r at in
    exports_are_places items t k f.0 what is f.1 (ap first_export f.2 ∙ exports)

-- ---- rule 38

same_some : {X : Type 0} (x y : X) (o : Option X) → o ≡ Some x → o ≡ Some y → x ≡ y
same_some x y o h k = ap (λ o. unwrap_or o x) (sym h ∙ k)

module _ (items : List Item) (t : Tables) (is : taken items ≡ Ok t) where
  abbrev cs : List (Placed Constructor)
  cs = constructors_of items

  -- a section that exports is written so
  its_text : (number : ℕ) (f : Flat) (h : Here items t number f) (x : ℕ) → exported_variable f.steps ≡ Some x
      → does_export h.of.y.1.section ≡ true
  its_text number f h x exports =
      written_exports t (scopes_of items).macros h.macros h.of.z h.of.x.operands h.of.y.1.section x
      (ap (λ (g : Flat). exported_variable g.steps) h.of.is ∙ exports)

  -- and one that is written so exports
  its_export : (number : ℕ) (f : Flat) (h : Here items t number f) → does_export h.of.y.1.section ≡ true
      → HasExport f.steps
  its_export number f h exports =
      subst (λ (g : Flat). HasExport g.steps) h.of.is
      (flat_exports t (scopes_of items).macros h.macros h.of.z h.of.x.operands h.of.y.1.section exports)

pub tables_export_alike : TablesExportAlike
tables_export_alike items t sizes number c f size is holds whole there at not_unimpl sized =
    let sections = sections_of items t in
    let e = whole.exported c.table size sized in
    let h = here items t number f is at in
    let h' = here items t e.number e.f is e.section in
    let row = pair_there t.constructors (constructors_of items) number h.of.x h.of.y h.of.first h.of.second in
    let row' = pair_there t.constructors (constructors_of items) e.number h'.of.x h'.of.y h'.of.first h'.of.second in
    let own : h'.of.x.table ≡ h.of.x.table =
    ap (λ (c : Ctor). c.table) (same_some h'.of.x e.c (slice_get t.constructors e.number) h'.of.first e.there) ∙ e.owner
    ∙ ap (λ (c : Ctor). c.table) (same_some c h.of.x (slice_get t.constructors number) there h.of.first) in
    its_export items t is number f h
    (all_export t (constructors_of items) (map (λ (f : Flat). f.steps) sections) holds number e.number (h.of.x, h.of.y)
    (h'.of.x, h'.of.y) f.steps
    (pair_there (all.rows t (constructors_of items)) (map (λ (f : Flat). f.steps) sections) number
    (h.of.x, h.of.y) f.steps row (mapped_there (λ (f : Flat). f.steps) sections number f at)) row row'
    (its_text items t is e.number e.f h' e.variable e.exports) own (ap is_unimpl_by (sym h.of.second) ∙ not_unimpl))
