use Rattle.std.specs.Prelude.{codes, map, [], ◌∷◌}
use Rattle.sl_spec_actions.proofs.Folds.{IsFolded}
use Rattle.sl_spec.specs.Unfolded.{placed}
use Rattle.sl_spec_constructors.specs.WholeText.{bare_table, table_name, with_table}
use Rattle.sl_spec_constructors.proofs.whole_text.all_tables.Given as goal

abbrev pub invariant-constructors : goal.invariant-constructors
invariant-constructors l = IsFolded with_table (bare_table (codes "instruction") ∷ []) (map (λ u. table_name (placed u).1) l.constructors) l.tables l.index
