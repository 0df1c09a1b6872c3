use Rattle.std.proofs.Common.{ℕ, List, Bool, map, sym, ap, ◌∙◌}
use Rattle.std.specs.Borrow.{Bor}
use Rattle.sl_spec_rules.proofs.Seen.{below_map, read_map}
use Rattle.sl_spec_rules.specs.Names.{Name}
use Rattle.sl_spec.specs.declared.tables.Tables.{Tables}
use Rattle.sl_spec_definitions.specs.AttachRules.{is_open}
use Rattle.sl_spec_definitions.proofs.AttachLemmas.{all_goes, all_stops, index_of}
use Rattle.sl_spec_definitions.proofs.attached.all_open.Goals as goal

abbrev seen : Bor (List ℕ) → List ℕ
seen n = n.now

abbrev opens : Tables → Name → Bool
opens t name = is_open t.attached (index_of t.fields name)

pub returns-then-not-is_open : goal.returns-then-not-is_open
returns-then-not-is_open c =
    let t = c.args.t.now in
    let names = c.args.names.now in
    let below = c.names-test.true in
    let here = sym (ap (is_open t.attached) c.in_ok-field.ensures) ∙ (sym c.is_open.ensures ∙ c.if-not-is_open.true) in
    all_stops (opens t) (map seen names) c.names.index _ (below_map seen names c.names.index below) (read_map seen names c.names.index _ below) here c.names.invariant

pub names-preserved : goal.names-preserved
names-preserved c =
    let t = c.args.t.now in
    let names = c.args.names.now in
    let below = c.names-test.true in
    let here = sym (ap (is_open t.attached) c.in_ok-field.ensures) ∙ (sym c.is_open.ensures ∙ c.if-not-is_open.false) in
    all_goes (opens t) (map seen names) c.names.index _ (below_map seen names c.names.index below) (read_map seen names c.names.index _ below) here c.names.invariant
