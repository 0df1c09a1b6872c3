-- The alignment of the tables that rules 1 to 37 leave is at least 1: it begins as 1, and what sets it
-- asks for as much.
use Rattle.std.proofs.Common.{◌≡◌, ◌≤◌, List, Ok, arith, subst}
use Rattle.sl_ast.specs.Trees.{Item}
use Rattle.sl_ast.specs.Unfolding.{unfolded}
use Rattle.sl_bind.proofs.GrowLemmas.{constructor_added, item_grows}
use Rattle.sl_bind.proofs.WalkLemmas.{EachAdds, taken_adds, whole_text}
use Rattle.sl_bind.specs.Verdict.{taken}
use Rattle.sl_spec.specs.declared.tables.Tables.{Tables}

abbrev HasSome : Tables → Type 0
HasSome t = 1 ≤ t.alignment

each_has : (items : List Item) → EachAdds (whole_text items) (unfolded items) (λ cs t. HasSome t)
each_has items = record {
  plain = λ cs k next item is some. (item_grows k next item is).aligned some;
  macros = λ cs t n name some. some;
  constructors = λ done rest n c t next parts is some.
      subst HasSome (constructor_added (whole_text items).tables t next n c is) some;
}

pub some_alignment : (items : List Item) (t : Tables) → taken items ≡ Ok t → 1 ≤ t.alignment
some_alignment items t is = taken_adds items t is (λ cs t. HasSome t) (each_has items) (omega arith)
