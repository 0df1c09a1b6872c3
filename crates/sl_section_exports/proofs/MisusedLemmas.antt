-- The demands of rule 39 by marks on tables.
use Rattle.std.proofs.Common.{◌≡◌, ◌&&◌, ℕ, Bool, not, List, length, ap, ◌∙◌}
use Rattle.std.specs.List.{zip}
use Rattle.sl_ast.specs.Trees.{Constructor}
use Rattle.sl_ast.specs.Unfolding.{Placed}
use Rattle.sl_section_equations.specs.Uses.{are_targets, flag}
use Rattle.sl_section_flat.specs.Sections.{Step}
use Rattle.sl_spec.specs.declared.tables.Tables.{Tables}
use Rattle.sl_section_exports.specs.Exports.{Row, constants, default_space_index, first_place, is_assigned, is_no_target, keeps_39, misused_place, operand_flags, rows}
use Rattle.sl_section_exports.specs.Spreading.{is_one_of}
use Rattle.sl_section_exports.specs.Spreads.{mark_of}

-- with marks on the tables that are assigned, that export constants, and that are no targets
abbrev pub breaks_by : List Bool → List Bool → List Bool → Row → Bool
breaks_by assigned constant wrong r = not (not (mark_of assigned r.0.0.table && mark_of constant r.0.0.table)
    && are_targets (flag (operand_flags (λ u. not (mark_of wrong u)) r.0.0)) r.1)

module _ (default count : ℕ) (rs : List Row) (assigned constant wrong : List Bool) where
  pub as_marked : ((v : ℕ) → mark_of assigned v ≡ is_assigned default count rs v) → ((v : ℕ) → mark_of constant v ≡ is_one_of (constants default rs) v)
      → ((v : ℕ) → mark_of wrong v ≡ is_no_target default count rs v) → first_place (breaks_by assigned constant wrong) rs ≡ first_place (λ r. not (keeps_39 default count rs r)) rs
  as_marked a k w =
      λ i. first_place (λ r. not (not (a r.0.0.table i && k r.0.0.table i) && are_targets (flag (operand_flags (λ u. not (w u i)) r.0.0)) r.1)) rs

pub at_rows : (t : Tables) (cs : List (Placed Constructor)) (ss : List (List Step)) (default count : ℕ) (rs : List Row) → default ≡ default_space_index t → count ≡ length t.tables → rs ≡ rows t cs ss
    → first_place (λ r. not (keeps_39 default count rs r)) rs ≡ misused_place t cs ss
unfolding misused_place
at_rows t cs ss default count rs d n is =
    ap (λ x. first_place (λ r. not (keeps_39 x count rs r)) rs) d
    ∙ ap (λ x. first_place (λ r. not (keeps_39 (default_space_index t) x rs r)) rs) n
    ∙ ap (λ x. first_place (λ r. not (keeps_39 (default_space_index t) (length t.tables) x r)) x) is
