use Rattle.std.proofs.Common.{◌<◌, ℕ, List, length, map, ap, ◌∙◌, arith}
use Rattle.std.proofs.lemmas.List.{take_all}
use Rattle.std.specs.Global.{Global}
use Rattle.std.specs.Prelude.{string_bytes}
use Rattle.std.specs.declared.string.String.{String}
use Rattle.sl_spec.specs.Tables.{UserOp}
use Rattle.sl_spec_tables.proofs.PositionLemmas.{at_slice}
use Rattle.sl_spec_tables.proofs.RowLemmas.{made_more}
use Rattle.sl_list_pcode.proofs.names.userop_names.Goals as goal

abbrev name : UserOp → List ℕ
name x = x.name

abbrev bytes : String Global → List ℕ
bytes text = string_bytes text

pub userops-preserved : goal.userops-preserved
userops-preserved c =
    let things = c.args.t.now.userops in
    let i = c.userops.index in
    let x = c.member.result.now in
    let below : i < length things = omega (arith, c.userops-test.true, c.len-index-end.ensures) in
    ap (map bytes) c.in_ok-push.ensures.items
    ∙ made_more bytes name things c.userops.names.items c.in_ok-name.name x i below
    (at_slice things i x c.member.ensures) (c.in_ok-name.ensures ∙ c.userop_name.ensures) c.userops.invariant

pub returns : goal.returns
returns c =
    let things = c.args.t.now.userops in
    c.userops.invariant ∙ ap (map name) (take_all c.userops.index things
    (omega (arith, c.userops-test.false, c.len-index-end.ensures)))
