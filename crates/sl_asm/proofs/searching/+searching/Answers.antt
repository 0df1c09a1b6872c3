use Rattle.std.proofs.Common.{Option, Vec, Global, length, subst}
use Rattle.std.specs.Prelude.{MatchOption}
use Rattle.sl_asm.proofs.AssembleLemmas.{either_half, found_none}
use Rattle.sl_asm.specs.Assembling.{HasNoneIf, HasNoneIn, KeepsPassing, PassesAs}
use Rattle.sl_asm_fit.specs.declared.Cell.{Cell}
use Rattle.sl_asm.proofs.searching.+searching.Goals as goal

pub searched-returns : goal.searched-returns
searched-returns t c =
    let w = c.args.wanted.now in
    let region = c.args.region.now in
    let cells = c.in-Some.cells.items in
    let keeps = subst (λ (o : Option (Vec Cell Global)). MatchOption o (HasNoneIn w region) (λ v. KeepsPassing w region v.items)) c.in-Some.is c.in_ok-narrow.ensures in
    let clear = rw c.deref-4.ensures.value at c.in_ok-clear.ensures in
    let set = rw c.deref-5.ensures.value at c.in_ok-set.ensures in
    either_half (λ v. v.items) c.in_ok-set.set w region cells c.in-Some-first_open.bit keeps
    (found_none (λ v. v.items) c.in_ok-clear.clear (HasNoneIf w cells c.in-Some-first_open.bit 0) (PassesAs w (length cells)) c.if-is_some.ensures clear) set
