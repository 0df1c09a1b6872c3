use Rattle.std.proofs.Common.{◌≡◌, ℕ, Some, length, refl, subst}
use Rattle.std.specs.Prelude.{slice_get}
use Rattle.std.proofs.lemmas.Option.{slice_get_read}
use Rattle.sl_gap.proofs.HoleLemmas.{no_index, points_told}
use Rattle.sl_gap.proofs.holes.points_of.Goals as goal

pub returns-in_default-index_of : goal.returns-in_default-index_of
returns-in_default-index_of c =
    let tables = c.args.tables.now in
    let k = c.in-Some.kept.now in
    let found = c.in-Some.ensures.lookup in
    let there = subst (λ (n : ℕ). slice_get tables n ≡ Some k) c.table.view_is (slice_get_read tables (length tables) c.table.inside.0 k refl found.3.0 found.1) in
    let none = subst (λ (n : ℕ). (i : ℕ) → slice_get k.ctors.items i ≡ Some n → ⊥) c.ctor.view_is (rw c.deref.ensures.value at c.in_default-index_of.ensures) in
    λ t cs are own parent child hole. no_index t cs tables are c.args.table k there c.args.ctor own none

pub least_hole-requires-clause-settled : goal.least_hole-requires-clause-settled
least_hole-requires-clause-settled c =
    let tables = c.args.tables.now in
    let k = c.in-Some.kept.now in
    let found = c.in-Some.ensures.lookup in
    c.requires.settled c.table.inside.0 k (slice_get_read tables (length tables) c.table.inside.0 k refl found.3.0 found.1)

pub returns : goal.returns
returns c =
    let tables = c.args.tables.now in
    let k = c.in-Some.kept.now in
    let found = c.in-Some.ensures.lookup in
    let there = subst (λ (n : ℕ). slice_get tables n ≡ Some k) c.table.view_is (slice_get_read tables (length tables) c.table.inside.0 k refl found.3.0 found.1) in
    let set_is = subst (λ (n : ℕ). slice_get k.ctors.items c.in-Some-index_of.set ≡ Some n) c.ctor.view_is (rw c.deref.ensures.value at c.in-Some-index_of.ensures) in
    λ t cs are own. points_told t cs tables are c.args.table k there c.args.ctor own c.in-Some-index_of.set set_is c.args.operand.now.table c.args.operand.now.place
    c.in_ok-cubes.cubes.items (c.in_ok-cubes.ensures t cs are) c.in_ok-found.found (rw c.deref-2.ensures.value at c.in_ok-found.ensures)
