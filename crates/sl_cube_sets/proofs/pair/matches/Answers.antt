use Rattle.std.proofs.Common.{◌≡◌, ◌<◌, ℕ, List, length, get_or, sym, ◌∙◌, refl, subst, Some}
use Rattle.sl_cube_sets.specs.declared.CubeSet.{CubeSet}
use Rattle.std.specs.Prelude.{slice_get}
use Rattle.std.proofs.lemmas.Option.{slice_get_read}
use Rattle.sl_cube_sets.specs.Unions.{has_set}
use Rattle.sl_cube_sets.proofs.pair.matches.Goals as goal

at : (sets : List CubeSet) (i : ℕ) (s : CubeSet) → i < length sets → s ≡ get_or sets i s → slice_get sets i ≡ Some s
at sets i s below is = slice_get_read sets (length sets) i s refl below is

same_some : (a b : CubeSet) → Some a ≡ Some b → a ≡ b
same_some a b e = cc

pub returns : goal.returns
returns c =
    let has = rw c.deref.ensures.value at c.is_in_some.ensures in
    let here = at c.args.sets.now c.args.index c.in-Some.set.now c.in-Some.ensures.lookup.3.0 c.in-Some.ensures.lookup.1 in (
      λ t. (c.in-Some.set.now, here, has.0 t),
      λ m. has.1 (subst (λ (s : CubeSet). has_set s c.args.point.now) (same_some m.0 c.in-Some.set.now (sym m.1 ∙ here)) m.2),
    )
