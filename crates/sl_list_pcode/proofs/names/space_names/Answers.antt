use Rattle.std.proofs.Common.{◌<◌, ℕ, List, length, map, ap, ◌∙◌, arith}
use Rattle.std.proofs.lemmas.List.{take_all}
use Rattle.std.specs.Global.{Global}
use Rattle.std.specs.Prelude.{string_bytes}
use Rattle.std.specs.declared.string.String.{String}
use Rattle.sl_spec.specs.Tables.{Space}
use Rattle.sl_spec_tables.proofs.PositionLemmas.{at_slice}
use Rattle.sl_spec_tables.proofs.RowLemmas.{made_more}
use Rattle.sl_list_pcode.proofs.names.space_names.Goals as goal

abbrev name : Space → List ℕ
name x = x.name

abbrev bytes : String Global → List ℕ
bytes text = string_bytes text

pub spaces-preserved : goal.spaces-preserved
spaces-preserved c =
    let things = c.args.t.now.spaces in
    let i = c.spaces.index in
    let x = c.member.result.now in
    let below : i < length things = omega (arith, c.spaces-test.true, c.len-index-end.ensures) in
    ap (map bytes) c.in_ok-push.ensures.items
    ∙ made_more bytes name things c.spaces.names.items c.in_ok-name.name x i below
    (at_slice things i x c.member.ensures) (c.in_ok-name.ensures ∙ c.space_name.ensures) c.spaces.invariant

pub returns : goal.returns
returns c =
    let things = c.args.t.now.spaces in
    c.spaces.invariant ∙ ap (map name) (take_all c.spaces.index things
    (omega (arith, c.spaces-test.false, c.len-index-end.ensures)))
