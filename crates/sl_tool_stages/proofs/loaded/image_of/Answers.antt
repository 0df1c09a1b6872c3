use Rattle.std.proofs.Common.{◌≡◌, ◌^◌, ℕ, List, length, map, Vec, Global, Ok, Err, ap, subst, ◌∙◌, arith}
use Rattle.std.proofs.lemmas.Result.{err_from_is_err_and}
use Rattle.sl_decode_meaning.specs.Actions.{address_bytes}
use Rattle.sl_tool_request.specs.Views.{field, target}
use Rattle.sl_step_run.specs.Running.{HasRoom}
use Rattle.sl_tool_stages.specs.Outcomes.{Gives}
use Rattle.sl_tool_stages.specs.Stage.Then.{stops, goes}
use Rattle.sl_tool_stages.specs.Stages.{Fetches, Prepares, Readies}
use Rattle.sl_list_instructions.specs.Listing.{Image}
use Rattle.sl_tool_stages.proofs.HaltLemmas.{gives_obtains, reads_on}
use Rattle.sl_tool_stages.proofs.ImageLemmas.{Opening, context, image_fits, obtains_err, opening_starts}
use Rattle.sl_tool_stages.proofs.loaded.image_of.Goals as goal

abbrev same : Image → Image
same image = image

abbrev items : Vec ℕ Global → List ℕ
items v = v.items

pub returns-in_err-bytes-clause-gives : goal.returns-in_err-bytes-clause-gives
returns-in_err-bytes-clause-gives g c =
    let p = err_from_is_err_and c.from_residual.result c.from_residual.ensures.1 in
    let told = g.F.Files.told c.args.files.now in
    let t = target c.args.target.now in
    rw (p.1, p.2) (obtains_err (Fetches told t.image) (Readies told t c.args.tables.now) items same c.in_err-bytes.field-0.0 (λ x s. stops (stops s)) c.in_err-bytes.ensures.gives)

pub returns-in_err-bytes-2-clause-gives : goal.returns-in_err-bytes-2-clause-gives
returns-in_err-bytes-2-clause-gives g c =
    let p = err_from_is_err_and c.from_residual-in_err-bytes-2.result c.from_residual-in_err-bytes-2.ensures.1 in
    let told = g.F.Files.told c.args.files.now in
    let t = target c.args.target.now in
    let h = c.in_err-bytes-2.field-0.0 in
    let size : c.from-address_bytes.result ≡ address_bytes c.args.tables.now = c.from-address_bytes.ensures ∙ c.address_size.ensures in
    let gives = subst (λ (n : ℕ). Gives (Prepares (256 ^ n) t c.in_ok-bytes.bytes.items) items (Err h)) size c.in_err-bytes-2.ensures.gives in
    let S = Prepares (256 ^ address_bytes c.args.tables.now) t c.in_ok-bytes.bytes.items in
    rw (p.1, p.2) (obtains_err S (Readies told t c.args.tables.now) items same h (λ x s. stops (goes c.in_ok-bytes.ensures.gives s)) (gives_obtains S items h gives))

pub returns-in_err-start-clause-gives : goal.returns-in_err-start-clause-gives
returns-in_err-start-clause-gives g c =
    let p = err_from_is_err_and c.from_residual-in_err-start.result c.from_residual-in_err-start.ensures.1 in
    let told = g.F.Files.told c.args.files.now in
    let t = target c.args.target.now in
    let h = c.in_err-start.field-0.0 in
    let bytes = c.in_ok-bytes-2.bytes.items in
    let size : c.from-address_bytes.result ≡ address_bytes c.args.tables.now = c.from-address_bytes.ensures ∙ c.address_size.ensures in
    let prepared = subst (λ (n : ℕ). Prepares (256 ^ n) t c.in_ok-bytes.bytes.items (Ok bytes)) size c.in_ok-bytes-2.ensures.gives in
    let words = c.as_slice.result.now in
    rw (p.1, p.2) (obtains_err (Opening c.args.tables.now words) (Readies told t c.args.tables.now) context same h
    (λ x s. goes (goes c.in_ok-bytes.ensures.gives prepared) (opening_starts c.args.tables.now words t bytes (Err x) (ap (map field) c.as_slice.ensures.value) s))
    (gives_obtains (Opening c.args.tables.now words) context h c.in_err-start.ensures))

pub returns-in_err-start-clause-files : goal.returns-in_err-start-clause-files
returns-in_err-start-clause-files g c =
    let p = err_from_is_err_and c.from_residual-in_err-start.result c.from_residual-in_err-start.ensures.1 in
    rw (p.1, p.2) (reads_on g.F.Files.told g.F.Files.faults g.F.Files.asked _ _ _ (Opening c.args.tables.now c.as_slice.result.now) context c.in_err-start.field-0.0
    c.in_err-start.ensures c.in_ok-bytes.ensures.files)

pub returns-clause-gives : goal.returns-clause-gives
returns-clause-gives g c =
    let t = target c.args.target.now in
    let bytes = c.in_ok-bytes-2.bytes.items in
    let size : c.from-address_bytes.result ≡ address_bytes c.args.tables.now = c.from-address_bytes.ensures ∙ c.address_size.ensures in
    let prepared = subst (λ (n : ℕ). Prepares (256 ^ n) t c.in_ok-bytes.bytes.items (Ok bytes)) size c.in_ok-bytes-2.ensures.gives in
    let words = c.as_slice.result.now in
    goes (goes c.in_ok-bytes.ensures.gives prepared)
    (opening_starts c.args.tables.now words t bytes (Ok c.in_ok-start.start) (ap (map field) c.as_slice.ensures.value) c.in_ok-start.ensures)

pub returns-clause-fits : goal.returns-clause-fits
returns-clause-fits g c = image_fits c.from-address_bytes.result c.args.target.now.base c.in_ok-bytes-2.bytes.items (omega arith) c.in_ok-bytes-2.ensures.room

pub returns-clause-room : goal.returns-clause-room
returns-clause-room g c =
    let bytes = c.in_ok-bytes-2.bytes.items in
    let size : c.from-address_bytes.result ≡ address_bytes c.args.tables.now = c.from-address_bytes.ensures ∙ c.address_size.ensures in
    subst (λ (n : ℕ). HasRoom (256 ^ n) c.args.target.now.base (length bytes)) size c.in_ok-bytes-2.ensures.room
