-- Constructors by table, as the program keeps them.
use Rattle.std.proofs.Common.{◌≡◌, ℕ, ◌+◌, ◌<◌, List, [], ◌∷◌, ◌++◌, Vec, Global, take, length, get_or, set, sym, ap, ◌∙◌}
use Rattle.std.proofs.lemmas.List.{map_push, map-set, take_more}
use Rattle.sl_base_graphs.proofs.Seen.{read_or}
use Rattle.sl_spec_rules.proofs.Seen.{below_map, seen_map}
use Rattle.sl_spec_tables.specs.Rows as spec
use Rattle.sl_spec_tables.specs.Views.{groups_of, row_of, rows_of}
use Rattle.sl_spec_tables.specs.declared.rows.Row.{Row}
use Rattle.sl_spec_tables.proofs.RowLemmas.{one_grouped}

abbrev seen : Vec Row Global → List spec.Row
seen g = rows_of g.items

-- a constructor is put to its table
pub put_to_group : (gs : List (Vec Row Global)) (v table : ℕ) (old new : Vec Row Global) (r : Row) → v ≡ table → v < length gs → old ≡ get_or gs v old
    → new.items ≡ old.items ++ r ∷ [] → groups_of (set gs v new) ≡ set (groups_of gs) table (spec.group (groups_of gs) table ++ row_of r ∷ [])
put_to_group gs v table old new r same below at is =
    map-set seen gs v new
    ∙ ap (λ (l : List spec.Row). set (groups_of gs) v l) (ap rows_of is ∙ map_push row_of old.items r ∙ ap (λ (l : List spec.Row). l ++ row_of r ∷ []) (sym (read_or seen gs v old [] below at)))
    ∙ ap (λ t. set (groups_of gs) t (spec.group (groups_of gs) t ++ row_of r ∷ [])) same

pub grouped_more : (n : ℕ) (rs : List Row) (old new : List (List spec.Row)) (i : ℕ) (r : Row) → i < length rs
    → new ≡ set old r.ctor.now.table (spec.group old r.ctor.now.table ++ row_of r ∷ []) → r ≡ get_or rs i r
    → old ≡ spec.groups n (take i (rows_of rs)) → new ≡ spec.groups n (take (i + 1) (rows_of rs))
grouped_more n rs old new i r below is at so =
    is ∙ ap (λ gs. set gs r.ctor.now.table (spec.group gs r.ctor.now.table ++ row_of r ∷ [])) so ∙ one_grouped n (take i (rows_of rs)) (row_of r)
    ∙ ap (spec.groups n) (ap (λ x. take i (rows_of rs) ++ x ∷ []) (seen_map row_of rs i r below at) ∙ sym (take_more (rows_of rs) i (row_of r) (below_map row_of rs i below)))
