-- meaning: what is reported of sets among which some point has no choice.
use Rattle.std.specs.Prelude.{◌≡◌, List, Some, slice_get}
use Rattle.sl_cube.specs.declared.Point.{Point}
use Rattle.sl_cube_sets.specs.Sets.{IsWithin, IsLeastWhere, IsUnsettledAt, IsFirstPair}
use Rattle.sl_cube_sets.specs.declared.report.Apart.{Apart}
use Rattle.sl_cube_sets.specs.declared.report.Apart.TheVariants.{Same, Two}
use Rattle.sl_cube_sets.specs.declared.report.Report.{Report}

module _ {X : Type 0} (has : X → Point → Type 0) where
  -- the least point that is in the first and not in the second
  abbrev pub IsLeastOnlyIn : X → X → Point → Type 0
  IsLeastOnlyIn a b = IsLeastWhere (λ q. has a q × (has b q → ⊥))

  -- The sets are the same, each being within the other, or each has points of its own, of which these are the least.
  abbrev pub DifferAs : X → X → Apart → Type 0
  DifferAs a b Same = IsWithin has a b × IsWithin has b a
  DifferAs a b (Two only_first only_second) = IsLeastOnlyIn a b only_first × IsLeastOnlyIn b a only_second

  -- The least point without a choice, the first pair there, and how the two differ.
  pub record IsReport (xs : List X) (told : Report) : Type 0 where
    pub point : IsLeastWhere (IsUnsettledAt has xs) told.both
    pub pair : IsFirstPair has xs told.both told.first told.second
    pub apart : (a b : X) → slice_get xs told.first ≡ Some a → slice_get xs told.second ≡ Some b → DifferAs a b told.apart
