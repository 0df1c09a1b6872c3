use Rattle.std.proofs.Common.{sym, ◌∙◌, arith}
use Rattle.sl_explain_notes.proofs.PartLemmas.{found, passed}
use Rattle.sl_lex.specs.Views.{views}
use Rattle.sl_explain_notes.proofs.lists.has_part.Goals as goal

pub returns-then-begins_with : goal.returns-then-begins_with
returns-then-begins_with c =
    found c.members.at c.args.list.now (views c.args.part.now) (views c.from.result.now) (omega (arith, c.members-test.true))
    c.from.ensures (sym c.begins_with.ensures ∙ c.if-begins_with.true)
    ∙ c.members.invariant

pub members-preserved : goal.members-preserved
members-preserved c =
    passed c.members.at c.args.list.now (views c.args.part.now) (views c.from.result.now) (omega (arith, c.members-test.true))
    c.from.ensures (sym c.begins_with.ensures ∙ c.if-begins_with.false)
    ∙ c.members.invariant
