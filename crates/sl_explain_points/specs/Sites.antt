-- meaning: the constraints of a constructor's pattern, those of the blocks round it first: each field with the byte at which its
-- token begins.
use Rattle.std.specs.Prelude.{ℕ, ◌==◌, ◌&&◌, List, [], ◌∷◌, ◌++◌, Option, Some, None, if◌then◌else◌}
use Rattle.std.specs.Prelude.{Bool, not}
use Rattle.std.specs.List.{list_any}
use Rattle.sl_explain_names.specs.Culprits.{item_at}
use Rattle.sl_explain_names.specs.Items.{Item, has_relation, is_context_field, is_pattern, is_token_field}
use Rattle.sl_explain_names.specs.Names.{kind_by}
use Rattle.sl_explain_names.specs.declared.names.Mention.{Mention}
use Rattle.sl_explain_names.specs.declared.places.Place.{Place}
use Rattle.sl_explain_points.specs.Readings.{after_part, definition_at, start}
use Rattle.sl_explain_points.specs.declared.readings.Reading.{Reading}
use Rattle.sl_explain_points.specs.declared.sites.Site.{Site}
use Rattle.sl_lex.specs.Reading.{Token}

-- a field of the context, or one of a token whose first byte is known
abbrev pub site_of : Reading → Mention → Option Site
site_of r m =
    if is_context_field (kind_by m.role) then Some (record { field = m; at = 0 })
    else if is_token_field (kind_by m.role) && not r.lost then Some (record { field = m; at = r.begin })
    else None

abbrev pub site_by : Reading → Option Mention → Option Site
site_by r None = None
site_by r (Some m) = site_of r m

-- the name at a place of a pattern that has a relation
unfoldable pub site_at : Item → Reading → Place → Option Site
site_at i r p = if is_pattern p.part && has_relation i p then site_by r (definition_at i p) else None

abbrev pub is_same : Site → Site → Bool
is_same s other = (s.field.index == other.field.index) && (s.at == other.at)

-- Each is told once.
abbrev pub with_site : List Site → Option Site → List Site
with_site told None = told
with_site told (Some s) = if list_any (is_same s) told then told else told ++ s ∷ []

-- those of these places behind those that were told
abbrev pub sites_from : Item → List Site → Reading → List Place → List Site
sites_from i told r [] = told
sites_from i told r (p ∷ ps) = sites_from i (with_site told (site_at i r p)) (after_part p.part i r p) ps

unfoldable pub sites_in : Item → List Site → List Site
sites_in i told = sites_from i told start i.places

-- of the constructor whose first token has this index
unfoldable pub sites_of : List Token → List Site → Option ℕ → List Site
sites_of ts told None = told
sites_of ts told (Some index) = sites_in (item_at ts index) told

-- of two constructors
unfoldable pub sites_of_both : List Token → (first second : Option ℕ) → List Site
sites_of_both ts first second = sites_of ts (sites_of ts [] first) second
