-- In the tables of a text that keeps rules 1 to 37 operands that are fields are read.
use Rattle.std.proofs.Common.{◌≡◌, ℕ, List, [], ◌∷◌, ◌++◌, Ok, sym, subst}
use Rattle.sl_ast.specs.Trees.{Constructor, Item}
use Rattle.sl_ast.specs.Unfolding.{Placed, unfolded}
use Rattle.sl_bind.proofs.GrowLemmas.{constructor_added, ctor_of, item_grows}
use Rattle.sl_bind.proofs.SideLemmas.{EachPair, pair_at, pair_each, pair_more}
use Rattle.sl_bind.proofs.WalkLemmas.{EachAdds, taken_adds, whole_text}
use Rattle.sl_bind.specs.Verdict.{with_macro}
use Rattle.sl_spec_constructors.specs.Steps.{constructor_step}
use Rattle.sl_spec_definitions.specs.Beginning.{no_tables}
use Rattle.sl_spec_definitions.specs.Items.{taken}
use Rattle.sl_spec_definitions.specs.declared.known.Known.{Known}
use Rattle.sl_faithful_accepted.proofs.AttachLemmas.{AllFit, fit_at, taken_keeps}
use Rattle.sl_faithful_accepted.proofs.ReadLemmas.{constructor_read, read_more}
use Rattle.sl_faithful_accepted.specs.OperandLaws.{TakenAreRead}
use Rattle.sl_faithful_accepted.specs.Reading.{OperandsAreRead}
use Rattle.sl_spec_rules.specs.Names.{Name}
use Rattle.sl_spec.specs.Tables.{Ctor, Field, Table}
use Rattle.sl_spec.specs.ConstructorItems.{constructors_in}
use Rattle.sl_spec.specs.declared.tables.Tables.{Tables}

-- So it is in the constructors that were taken, and what is attached fits.
record AreReadSo (cs : List (Placed Constructor)) (t : Tables) : Type 0 where
  pairs : EachPair (OperandsAreRead t.fields) t.constructors cs
  numbers : AllFit t.attached

none_read : AreReadSo [] no_tables
none_read = record { pairs = tt; numbers = tt }

by_definition : (cs : List (Placed Constructor)) (k next : Known) (item : Item) → taken k item ≡ Ok next
    → AreReadSo cs k.tables → AreReadSo cs next.tables
by_definition cs k next item is are =
    let grows = item_grows k next item is in
    record {
      pairs = subst (λ (ctors : List Ctor). EachPair (OperandsAreRead next.tables.fields) ctors cs)
          (sym grows.constructors)
          (subst (λ (fs : List Field). EachPair (OperandsAreRead fs) k.tables.constructors cs) (sym grows.fields)
          (pair_each (OperandsAreRead k.tables.fields)
          (OperandsAreRead (k.tables.fields ++ grows.more)) k.tables.constructors cs
          (λ c placed read. read_more k.tables.fields grows.more c placed read) are.pairs));
      numbers = taken_keeps k next item is are.numbers;
    }

by_macro : (cs : List (Placed Constructor)) (t : Tables) (n : ℕ) (name : Name) → AreReadSo cs t
    → AreReadSo cs (with_macro t n name)
by_macro cs t n name are = record { pairs = are.pairs; numbers = are.numbers }

by_constructor : (all : List Table) (cs : List (Placed Constructor)) (t next : Tables) (item : ℕ) (c : Constructor)
    → constructor_step all t item c ≡ Ok next
    → AreReadSo cs t → AreReadSo (cs ++ (item, c) ∷ []) next
by_constructor all cs t next item c is are = subst (AreReadSo (cs ++ (item, c) ∷ [])) (constructor_added all t next item c is) (record {
  pairs = pair_more (OperandsAreRead t.fields) t.constructors cs (ctor_of all t item c) (item, c)
      (constructor_read all t item c) are.pairs;
  numbers = are.numbers;
})

each_reads : (items : List Item) → EachAdds (whole_text items) (unfolded items) AreReadSo
each_reads items = record {
  plain = by_definition;
  macros = by_macro;
  constructors = λ done rest n c t next parts is are.
      by_constructor (whole_text items).tables (constructors_in done) t next n c is are;
}

pub taken_are_read : TakenAreRead
taken_are_read items t is =
    let are = taken_adds items t is AreReadSo (each_reads items) none_read in
    record {
      operands = λ i c placed there beside. pair_at
          (OperandsAreRead t.fields) t.constructors _ i c placed there beside are.pairs;
      numbers = fit_at t.attached are.numbers;
    }
