-- Each name in a pattern of a text that keeps the rules stands for what its place says, and no field is `epsilon`.
use Rattle.std.proofs.Common.{◌≡◌, ℕ, Bool, true, false, ◌||◌, List, [], ◌∷◌, ◌++◌, Ok, refl, sym, ap, subst, ◌∙◌}
use Rattle.std.specs.Prelude.{codes, not}
use Rattle.std.specs.Str.{bytes_eq}
use Rattle.std.proofs.lemmas.Bool.{false≢true}
use Rattle.std.proofs.lemmas.List.Folds.{list_any-append}
use Rattle.sl_ast.specs.Trees.{Constructor, Item}
use Rattle.sl_ast.specs.Unfolding.{Placed, unfolded}
use Rattle.sl_bind.proofs.GrowLemmas.{Grows, constructor_added, ctor_of, grows_by_none, item_grows}
use Rattle.sl_bind.proofs.SideLemmas.{EachPair, pair_each, pair_more}
use Rattle.sl_bind.proofs.WalkLemmas.{EachAdds, taken_adds, whole_text}
use Rattle.sl_bind.specs.Verdict.{taken, with_macro}
use Rattle.sl_spec_constructors.specs.Steps.{constructor_step}
use Rattle.sl_spec_definitions.specs.Beginning.{no_tables}
use Rattle.sl_decode_lengths.proofs.NameLemmas.{Stands, constructor_stands, each_name, stands_more}
use Rattle.sl_decode_lengths.specs.Naming.{EachName}
use Rattle.sl_spec_registers.proofs.BoolLemmas.{and_parts, not_true}
use Rattle.sl_spec_registers.specs.NewNames.{is_defined, is_new, reserved_words}
use Rattle.sl_spec_rules.specs.Names.{is_among}
use Rattle.sl_spec.specs.Named.{has_name}
use Rattle.sl_spec.specs.Tables.{Ctor, Field, Table}
use Rattle.sl_spec.specs.ConstructorItems.{constructors_in}
use Rattle.sl_spec.specs.declared.tables.Tables.{Tables}

-- whether a field is named so
abbrev pub has_epsilon : List Field → Bool
has_epsilon fields = has_name (λ f. f.name) (codes "epsilon") fields

-- Each name of the pattern stands for what its place says, by these fields.
abbrev pub PatternStands : List Field → Ctor → Placed Constructor → Type 0
PatternStands fields c placed = EachName (Stands fields c.operands) placed.1.pattern

-- So it is in all constructors that were taken, and no field is named `epsilon`.
pub record NamesStand (cs : List (Placed Constructor)) (t : Tables) : Type 0 where
  pub pairs : EachPair (PatternStands t.fields) t.constructors cs
  pub apart : has_epsilon t.fields ≡ false

none_stand : NamesStand [] no_tables
none_stand = record { pairs = tt; apart = refl }

-- ---- fields that are added

-- the word is reserved
is_reserved : (t : Tables) → is_new t (codes "epsilon") ≡ false
unfolding reserved_words
is_reserved t = by (is_new t (codes "epsilon")) refl
  where
    by : (b : Bool) → is_new t (codes "epsilon") ≡ b → b ≡ false
    by false is = refl
    by true is =
        absurd (false≢true (sym (not_true true (and_parts (not (is_among reserved_words (codes "epsilon"))) (not (is_defined t (codes "epsilon"))) is).0)))

pairs_more : (fields more : List Field) (ctors : List Ctor) (cs : List (Placed Constructor)) → EachPair (PatternStands fields) ctors cs → EachPair (PatternStands (fields ++ more)) ctors cs
pairs_more fields more ctors cs pairs =
    pair_each (PatternStands fields) (PatternStands (fields ++ more)) ctors cs
    (λ c placed h. each_name (Stands fields c.operands) (Stands (fields ++ more) c.operands) (stands_more fields more c.operands) placed.1.pattern h) pairs

grows_stand : (cs : List (Placed Constructor)) (old new : Tables) → Grows old new → NamesStand cs old → NamesStand cs new
grows_stand cs old new grows are = record {
  pairs = subst (λ (ctors : List Ctor). EachPair (PatternStands new.fields) ctors cs) (sym grows.constructors)
      (subst (λ (fs : List Field). EachPair (PatternStands fs) old.constructors cs) (sym grows.fields) (pairs_more old.fields grows.more old.constructors cs are.pairs));
  apart = ap has_epsilon grows.fields ∙ list_any-append (λ (f : Field). bytes_eq (codes "epsilon") f.name) old.fields grows.more
      ∙ ap (λ b. b || has_epsilon grows.more) are.apart ∙ grows.fresh (codes "epsilon") (is_reserved old);
}

-- ---- a constructor that is taken

constructor_stand : (all : List Table) (cs : List (Placed Constructor)) (t next : Tables) (item : ℕ) (c : Constructor) → constructor_step all t item c ≡ Ok next
    → NamesStand cs t → NamesStand (cs ++ (item, c) ∷ []) next
constructor_stand all cs t next item c is are = subst (NamesStand (cs ++ (item, c) ∷ [])) (constructor_added all t next item c is) (record {
  pairs = pair_more (PatternStands t.fields) t.constructors cs (ctor_of all t item c) (item, c) (constructor_stands all t next item c is) are.pairs;
  apart = are.apart;
})

-- ---- a text

each_stands : (items : List Item) → EachAdds (whole_text items) (unfolded items) NamesStand
each_stands items = record {
  plain = λ cs k next item is are. grows_stand cs k.tables next.tables (item_grows k next item is) are;
  macros = λ cs t n name are.
      grows_stand cs t (with_macro t n name) (grows_by_none t (with_macro t n name) (with_macro t n name) refl refl refl refl (λ some. some)) are;
  constructors = λ done rest n c t next parts is are.
      constructor_stand (whole_text items).tables (constructors_in done) t next n c is are;
}

pub taken_stand : (items : List Item) (t : Tables) → taken items ≡ Ok t → NamesStand (constructors_in (unfolded items)) t
taken_stand items t is = taken_adds items t is NamesStand (each_stands items) none_stand
