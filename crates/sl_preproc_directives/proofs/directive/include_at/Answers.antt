use Rattle.std.proofs.Common.{◌≡◌, true, false, sym, ◌∙◌, refl}
use Rattle.std.specs.Str.{is_utf8}
use Rattle.sl_preproc_directives.specs.Parts.{is_ended}
use Rattle.sl_preproc_directives.specs.Directives.{include_at}
use Rattle.sl_preproc_directives.proofs.DirectiveLemmas.{text, no_text}
use Rattle.sl_preproc_directives.proofs.directive.include_at.Goals as goal

pub returns-in_default : goal.returns-in_default
unfolding include_at
returns-in_default c =
    let e : is_utf8 c.in_ok-name.name.now ≡ false = no_text c.in_ok-name.name.now c.in_default.ensures.cases.0 in
    rw (← c.skip_blanks.ensures.skipped, c.in_ok-name.ensures.read, e) refl

pub returns-then-is_ended : goal.returns-then-is_ended
unfolding include_at
returns-then-is_ended c =
    let e : is_utf8 c.in_ok-name.name.now ≡ true = text c.in_ok-name.name.now c.in-Ok.ensures.cases.1 in
    let k : is_ended c.in_ok-name.rest.now ≡ true = sym c.is_ended.ensures ∙ c.if-is_ended.true in
    rw (← c.skip_blanks.ensures.skipped, c.in_ok-name.ensures.read, e, k, c.in-Ok.ensures.cases.0) refl
