-- How the items of a packed file are spelled.
use Rattle.std.proofs.Common.{◌≡◌, ℕ, zero, suc, ◌+◌, ◌*◌, ◌≤◌, List, [], ◌∷◌, length, Option, Some, None, slice_get, map, ap, subst, arith}
use Rattle.std.proofs.lemmas.Option.{none-some, same_Some}
use Rattle.std.specs.Str.{IsUtf8}
use Rattle.sl_ast.specs.Spelling.{name, spell}
use Rattle.sl_ast.specs.Symbols.{Sym, word, plain}
use Rattle.sl_ast.specs.Trees.{Name}
use Rattle.sl_ast.specs.Validity.{Each}
use Rattle.sl_store_format.specs.Packed.{Written, IsPackable, item_of, pack}
use Rattle.sl_store_spelling.specs.Costs.{IsTerminal, cost, costs}
use Rattle.sl_store_spelling.specs.Laws.{AreSpelledFrom, FilesAreSpelled}
use Rattle.sl_store_spelling.proofs.CostLaws.{packed_cost}
use Rattle.sl_store_spelling.proofs.NameLaws.{spells_items}

-- each terminal costs something
some_cost : (s : Sym) → 1 ≤ cost s
some_cost (Sym.word (plain w)) = omega arith
some_cost s = omega arith

long_cost : (ss : List Sym) → length ss ≤ costs ss
long_cost [] = omega arith
long_cost (s ∷ ss) = omega (arith, some_cost s, long_cost ss)

-- a name at some place is one of the terminals
name_at : (ss : List Sym) (k : ℕ) (w : Name) → slice_get ss k ≡ Some (name w) → Each IsTerminal ss → IsUtf8 w × (8 * length w ≤ costs ss)
name_at [] k w e each = absurd (none-some (name w) e)
name_at (s ∷ ss) zero w e each =
    let is : s ≡ name w = same_Some s (name w) e in (
      subst IsTerminal is each.0,
      (let paid : cost s ≡ 1 + 8 * length w = ap cost is in omega arith),
    )
name_at (s ∷ ss) (suc k) w e each = let later = name_at ss k w e each.1 in (later.0, (let low = later.1 in omega arith))

pub files_spelled : FilesAreSpelled
files_spelled w good = let paid = packed_cost w good in record {
  few = omega (arith, long_cost (spell (map item_of w.items)));
  names = λ k n e.
      (let found = name_at (spell (map item_of w.items)) k n e (spells_items (length w.files) w.items good.items) in
      (found.0, (let low = found.1 in omega arith)));
}
