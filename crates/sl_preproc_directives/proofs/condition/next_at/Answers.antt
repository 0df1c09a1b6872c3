use Rattle.sl_preproc_directives.proofs.LevelLemmas.{goes_tight, goes_loose, ends_level}
use Rattle.sl_preproc_directives.proofs.condition.next_at.Goals as goal

pub returns-in-Some-clause-goes_on : goal.returns-in-Some-clause-goes_on
returns-in-Some-clause-goes_on c =
    goes_tight c.args.level c.args.verdict c.args.text.now c.in-Some.operator c.in-Some.rest.now c.product-left.result c.in-Some.ensures.read c.in-Some.ensures.within c.product-left.ensures

pub returns-in-Some-loose_at-clause-goes_on : goal.returns-in-Some-loose_at-clause-goes_on
returns-in-Some-loose_at-clause-goes_on c =
    goes_loose c.args.level c.args.verdict c.args.text.now c.in-Some-loose_at.field-0-0 c.in-Some-loose_at.rest.now c.whole.result c.new_level.result c.in_default.ensures.read
    c.in-Some-loose_at.ensures.read c.in-Some-loose_at.ensures.within c.whole.ensures c.new_level.ensures

pub returns-in-None-clause-goes_on : goal.returns-in-None-clause-goes_on
returns-in-None-clause-goes_on c = ends_level c.args.level c.args.verdict c.args.text.now c.in_default.ensures.read c.in-None.ensures.read
