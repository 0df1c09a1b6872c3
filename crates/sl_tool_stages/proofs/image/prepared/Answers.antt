use Rattle.std.proofs.Common.{◌^◌, ℕ, List, Vec, Global}
use Rattle.std.proofs.lemmas.Result.{err_from_is_err_and}
use Rattle.sl_tool_request.specs.Views.{target}
use Rattle.sl_tool_stages.specs.Stage.Then.{stops, goes}
use Rattle.sl_tool_stages.specs.Stages.{Decodes, Fits, Prepares}
use Rattle.sl_tool_stages.proofs.ImageLemmas.{gives_err}
use Rattle.sl_tool_stages.proofs.image.prepared.Goals as goal

abbrev items : Vec ℕ Global → List ℕ
items v = v.items

pub returns-in_err-image-clause-gives : goal.returns-in_err-image-clause-gives
returns-in_err-image-clause-gives c =
    let p = err_from_is_err_and c.from_residual.result c.from_residual.ensures.1 in
    let t = target c.args.target.now in
    rw (p.1, p.2) (gives_err (Decodes t c.args.bytes.items) (Prepares (256 ^ c.args.address_bytes) t c.args.bytes.items) items items c.in_err-image.field-0.0
    (λ x s. stops s) c.in_err-image.ensures)

pub returns-in_err-image-2-clause-gives : goal.returns-in_err-image-2-clause-gives
returns-in_err-image-2-clause-gives c =
    let p = err_from_is_err_and c.from_residual-in_err-image-2.result c.from_residual-in_err-image-2.ensures.1 in
    let t = target c.args.target.now in
    rw (p.1, p.2) (gives_err (Fits (256 ^ c.args.address_bytes) t c.in_ok-image.image.items) (Prepares (256 ^ c.args.address_bytes) t c.args.bytes.items) items items c.in_err-image-2.field-0.0
    (λ x s. goes c.in_ok-image.ensures s) c.in_err-image-2.ensures)

pub returns-clause-gives : goal.returns-clause-gives
returns-clause-gives c = goes c.in_ok-image.ensures c.in_ok-image-2.ensures
