use Rattle.std.proofs.Common.{◌≡◌, length, Some, refl, arith}
use Rattle.std.specs.Prelude.{slice_get}
use Rattle.std.proofs.lemmas.Option.{slice_get_read}
use Rattle.sl_word.specs.Bytes.{address_sizes, byte_at, endian_of}
use Rattle.sl_emu.specs.Temporaries.{temporary_bytes}
use Rattle.sl_emu.proofs.RunLemmas.{formed_at, turn_divides, turn_jump, turn_leave, turn_limit, turn_next, turn_user}
use Rattle.sl_emu.proofs.run.turn.Goals as goal

pub perform-requires-clause-formed : goal.perform-requires-clause-formed
perform-requires-clause-formed c =
    formed_at (address_sizes c.args.state.now) c.args.ops.now c.args.at.now c.index-ops-at.result c.index-ops-at.is c.requires.inside c.requires.formed

pub returns-in-Next-clause-turned : goal.returns-in-Next-clause-turned
returns-in-Next-clause-turned c =
    let found : slice_get c.args.ops.now c.args.at.now ≡ Some c.index-ops-at.result =
    slice_get_read c.args.ops.now (length c.args.ops.now) c.args.at.now c.index-ops-at.result refl c.requires.inside c.index-ops-at.is in
    turn_next (endian_of c.args.state.now) (address_sizes c.args.state.now) c.args.ops.now c.args.jumps.now c.args.at.now (byte_at c.args.state.now) (temporary_bytes c.args.t.now)
    c.index-ops-at.result c.in-Ok.then (byte_at c.perform.new.state) (temporary_bytes c.perform.new.t)
    found c.in-Ok.ensures.does c.in-Next.is

pub returns-then-jumps-eq0-clause-turned : goal.returns-then-jumps-eq0-clause-turned
returns-then-jumps-eq0-clause-turned c =
    let found : slice_get c.args.ops.now c.args.at.now ≡ Some c.index-ops-at.result =
    slice_get_read c.args.ops.now (length c.args.ops.now) c.args.at.now c.index-ops-at.result refl c.requires.inside c.index-ops-at.is in
    turn_limit (endian_of c.args.state.now) (address_sizes c.args.state.now) c.args.ops.now c.args.jumps.now c.args.at.now (byte_at c.args.state.now) (temporary_bytes c.args.t.now)
    c.index-ops-at.result c.in-Ok.then (byte_at c.perform.new.state) (temporary_bytes c.perform.new.t)
    found c.in-Ok.ensures.does c.in-Jump.distance c.in-Jump.is c.if-jumps-eq0.true

pub returns-else-jumps-eq0-clause-turned : goal.returns-else-jumps-eq0-clause-turned
returns-else-jumps-eq0-clause-turned c =
    let found : slice_get c.args.ops.now c.args.at.now ≡ Some c.index-ops-at.result =
    slice_get_read c.args.ops.now (length c.args.ops.now) c.args.at.now c.index-ops-at.result refl c.requires.inside c.index-ops-at.is in
    turn_jump (endian_of c.args.state.now) (address_sizes c.args.state.now) c.args.ops.now c.args.jumps.now c.args.at.now (byte_at c.args.state.now) (temporary_bytes c.args.t.now)
    c.index-ops-at.result c.in-Ok.then (byte_at c.perform.new.state) (temporary_bytes c.perform.new.t)
    found c.in-Ok.ensures.does c.in-Jump.distance c.place_at.result c.in-Jump.is (omega (arith, c.if-jumps-eq0.false)) c.place_at.ensures

pub returns-in-Leave-clause-turned : goal.returns-in-Leave-clause-turned
returns-in-Leave-clause-turned c =
    let found : slice_get c.args.ops.now c.args.at.now ≡ Some c.index-ops-at.result =
    slice_get_read c.args.ops.now (length c.args.ops.now) c.args.at.now c.index-ops-at.result refl c.requires.inside c.index-ops-at.is in
    turn_leave (endian_of c.args.state.now) (address_sizes c.args.state.now) c.args.ops.now c.args.jumps.now c.args.at.now (byte_at c.args.state.now) (temporary_bytes c.args.t.now)
    c.index-ops-at.result c.in-Ok.then (byte_at c.perform.new.state) (temporary_bytes c.perform.new.t)
    found c.in-Ok.ensures.does c.in-Leave.address c.in-Leave.is

pub returns-in-DividesByZero-clause-turned : goal.returns-in-DividesByZero-clause-turned
returns-in-DividesByZero-clause-turned c =
    let found : slice_get c.args.ops.now c.args.at.now ≡ Some c.index-ops-at.result =
    slice_get_read c.args.ops.now (length c.args.ops.now) c.args.at.now c.index-ops-at.result refl c.requires.inside c.index-ops-at.is in
    turn_divides (endian_of c.args.state.now) (address_sizes c.args.state.now) c.args.ops.now c.args.jumps.now c.args.at.now (byte_at c.args.state.now) (temporary_bytes c.args.t.now)
    c.index-ops-at.result c.in-Ok.then (byte_at c.perform.new.state) (temporary_bytes c.perform.new.t)
    found c.in-Ok.ensures.does c.in-DividesByZero.is

pub returns-in-CallsUserOp-clause-turned : goal.returns-in-CallsUserOp-clause-turned
returns-in-CallsUserOp-clause-turned c =
    let found : slice_get c.args.ops.now c.args.at.now ≡ Some c.index-ops-at.result =
    slice_get_read c.args.ops.now (length c.args.ops.now) c.args.at.now c.index-ops-at.result refl c.requires.inside c.index-ops-at.is in
    turn_user (endian_of c.args.state.now) (address_sizes c.args.state.now) c.args.ops.now c.args.jumps.now c.args.at.now (byte_at c.args.state.now) (temporary_bytes c.args.t.now)
    c.index-ops-at.result c.in-Ok.then (byte_at c.perform.new.state) (temporary_bytes c.perform.new.t)
    found c.in-Ok.ensures.does c.in-CallsUserOp.user c.in-CallsUserOp.is
