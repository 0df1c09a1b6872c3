use Rattle.std.proofs.Common.{◌≡◌, drop}
use Rattle.sl_explain_names.specs.ItemView.{item}
use Rattle.sl_explain_points.specs.Readings.{start}
use Rattle.sl_explain_points.specs.Sites.{sites_from}
use Rattle.sl_explain_points.proofs.sites.add_sites_in.Given as goal

-- the sites so far with those of the places that are left are all sites
abbrev pub invariant-places : goal.invariant-places
invariant-places l =
    sites_from (item l.i) l.told.items l.reading (drop l.at l.i.places.items)
    ≡ sites_from (item l.i) l.initial.told.items start l.i.places.items
