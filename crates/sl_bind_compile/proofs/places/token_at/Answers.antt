use Rattle.sl_bind_compile.specs.Outcomes.{item_of_ctor}
use Rattle.sl_bind_compile.proofs.RefusalLemmas.{first_token_is}
use Rattle.sl_bind_compile.proofs.places.token_at.Goals as goal

pub returns-in-Some : goal.returns-in-Some
returns-in-Some c =
    let b = c.args.bound.now in
    first_token_is b.spec c.as_slice.result.now (item_of_ctor b.tables c.args.ctor) c.in-Some.item c.first_token.result c.as_slice.ensures.value c.in-Some.ensures c.first_token.ensures
