-- The demands of rule 38 on exports by marks on tables.
use Rattle.std.proofs.Common.{◌≡◌, ◌&&◌, ℕ, Bool, not, List, ap}
use Rattle.std.specs.List.{zip}
use Rattle.sl_ast.specs.Trees.{Constructor}
use Rattle.sl_ast.specs.Unfolding.{Placed}
use Rattle.sl_section_equations.specs.Uses.{each_used_passes, flag}
use Rattle.sl_section_flat.specs.Sections.{Step}
use Rattle.sl_spec.specs.declared.tables.Tables.{Tables}
use Rattle.sl_spec_tables.specs.Rows as all
use Rattle.sl_section_exports.specs.Exports.{Row, exporting, first_place, keeps_38, operand_flags, silent, unexported_place}
use Rattle.sl_section_exports.specs.Spreading.{is_one_of}
use Rattle.sl_section_exports.specs.Spreads.{mark_of}

-- with marks on the tables that export and on those that are silent
abbrev pub breaks_by : List Bool → List Bool → Row → Bool
breaks_by exports quiet r = not (not (mark_of exports r.0.0.table && mark_of quiet r.0.0.table) && each_used_passes (flag (operand_flags (mark_of exports) r.0.0)) r.1)

pub as_marked : (rs : List all.Row) (xs : List Row) (exports quiet : List Bool) → ((v : ℕ) → mark_of exports v ≡ is_one_of (exporting rs) v) → ((v : ℕ) → mark_of quiet v ≡ is_one_of (silent rs) v)
    → first_place (breaks_by exports quiet) xs ≡ first_place (λ r. not (keeps_38 rs r)) xs
as_marked rs xs exports quiet e q =
    λ i. first_place (λ r. not (not (e r.0.0.table i && q r.0.0.table i) && each_used_passes (flag (operand_flags (λ u. e u i) r.0.0)) r.1)) xs

pub at_rows : (t : Tables) (cs : List (Placed Constructor)) (ss : List (List Step)) (rs : List all.Row) → rs ≡ all.rows t cs
    → first_place (λ r. not (keeps_38 rs r)) (zip rs ss) ≡ unexported_place t cs ss
unfolding unexported_place
at_rows t cs ss rs is = ap (λ x. first_place (λ r. not (keeps_38 x r)) (zip x ss)) is
