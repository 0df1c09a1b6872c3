use Rattle.std.proofs.Common.{◌≡◌, drop}
use Rattle.sl_ast.specs.Views.{expressions_of}
use Rattle.sl_section_rules.specs.SectionRules.{passes_places}
use Rattle.sl_section_rules.proofs.places.passes_places.Given as goal

-- what is left tells of all
abbrev pub invariant-given : goal.invariant-given
invariant-given l =
    let passes = passes_places l.t l.scope in
    passes (drop l.index l.assigned) (expressions_of (drop l.index l.es)) ≡ passes l.assigned (expressions_of l.es)
