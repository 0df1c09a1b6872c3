use Rattle.std.proofs.Common.{◌≡◌, ◌+◌, ◌*◌, drop}
use Rattle.sl_explain_sizes.specs.ScopeView.{scope}
use Rattle.sl_explain_sizes.specs.Sections.{call_in, places_by}
use Rattle.sl_explain_sizes.proofs.sections.+calls.Given as goal

abbrev pub decreases-call_fault : goal.decreases-call_fault
decreases-call_fault l = 5 * l.levels

abbrev pub decreases-statement_by : goal.decreases-statement_by
decreases-statement_by l = 5 * l.levels + 1

abbrev pub decreases-place_by : goal.decreases-place_by
decreases-place_by l = 5 * l.levels + 2

abbrev pub decreases-places_by : goal.decreases-places_by
decreases-places_by l = 5 * l.levels + 3

abbrev pub decreases-section_by : goal.decreases-section_by
decreases-section_by l = 5 * l.levels + 4

-- the first of the places that are left is the first of all
abbrev pub invariant-places_by-places : goal.invariant-places_by-places
invariant-places_by-places l =
    places_by l.wanted (call_in l.wanted l.levels) (scope l.s) (drop l.at l.s.item.now.places.items)
    ≡ places_by l.wanted (call_in l.wanted l.levels) (scope l.s) l.s.item.now.places.items
