use Rattle.std.proofs.Common.{◌+◌, ◌∙◌, arith}
use Rattle.std.proofs.lemmas.Str.Pattern.{rfind_char}
use Rattle.sl_preproc.proofs.FileLemmas.{directory_none, directory_some, front_range}
use Rattle.sl_preproc.proofs.naming.directory.Goals as goal

pub returns-in-Some : goal.returns-in-Some
returns-in-Some c =
    let f = rw c.in-Some.is at (rfind_char 47 c.args.name.now c.rfind.result c.rfind.ensures.cases (omega arith)) in
    c.range_inclusive.ensures.value ∙ front_range c.args.name.now (c.in-Some.at + 1) ∙ directory_some c.args.name.now c.in-Some.at f.0 f.1 f.2

pub returns-in-None : goal.returns-in-None
returns-in-None c =
    let f = rw c.in-None.is at (rfind_char 47 c.args.name.now c.rfind.result c.rfind.ensures.cases (omega arith)) in
    directory_none c.args.name.now f
