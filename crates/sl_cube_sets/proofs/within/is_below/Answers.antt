use Rattle.std.proofs.Common.{◌≡◌, ◌<◌, ℕ, List, length, sym, ◌∙◌, refl, Some}
use Rattle.std.proofs.Common.{get_or}
use Rattle.std.specs.Prelude.{slice_get}
use Rattle.std.proofs.lemmas.Option.{slice_get_read}
use Rattle.sl_cube_sets.specs.declared.CubeSet.{CubeSet}
use Rattle.std.proofs.lemmas.Bool.{false≢true}
use Rattle.sl_cube_sets.proofs.WithinLemmas.{below_then, below_else}
use Rattle.sl_cube_sets.proofs.within.is_below.Goals as goal

at : (sets : List CubeSet) (i : ℕ) (s : CubeSet) → i < length sets → s ≡ get_or sets i s → slice_get sets i ≡ Some s
at sets i s below is = slice_get_read sets (length sets) i s refl below is

pub returns-then-not-forth : goal.returns-then-not-forth
returns-then-not-forth c =
    let forth = rw (c.deref.ensures.value, c.deref-2.ensures.value) at c.in_ok-forth.ensures in
    below_else c.args.sets.now c.args.inner c.args.outer c.in-Some.low.now c.in-Some-get.high.now (at c.args.sets.now c.args.inner c.in-Some.low.now c.in-Some.ensures.lookup.3.0 c.in-Some.ensures.lookup.1) (at c.args.sets.now c.args.outer c.in-Some-get.high.now c.in-Some-get.ensures.lookup.3.0 c.in-Some-get.ensures.lookup.1)
    (λ within. false≢true (sym c.if-not-forth.true ∙ forth.1 within))

pub returns : goal.returns
returns c =
    let forth = rw (c.deref.ensures.value, c.deref-2.ensures.value) at c.in_ok-forth.ensures in
    let back = rw (c.deref-3.ensures.value, c.deref-4.ensures.value) at c.in_ok-back.ensures in
    below_then c.args.sets.now c.args.inner c.args.outer c.in-Some.low.now c.in-Some-get.high.now c.in_ok-back.back (at c.args.sets.now c.args.inner c.in-Some.low.now c.in-Some.ensures.lookup.3.0 c.in-Some.ensures.lookup.1) (at c.args.sets.now c.args.outer c.in-Some-get.high.now c.in-Some-get.ensures.lookup.3.0 c.in-Some-get.ensures.lookup.1)
    (forth.0 c.if-not-forth.false) back
