use Rattle.std.proofs.Common.{◌∙◌, Ok, Err, refl, arith}
use Rattle.std.proofs.lemmas.Result.{err_from_is_err_and}
use Rattle.sl_word.specs.Bytes.{address_sizes, byte_at, endian_of}
use Rattle.sl_pcode.specs.Machine.{at_end, run_from}
use Rattle.sl_pcode.proofs.RunLaws.{ends_so}
use Rattle.sl_emu.specs.Outcomes.{run_over}
use Rattle.sl_emu.specs.Temporaries.{temporary_bytes}
use Rattle.sl_emu.proofs.RunLemmas.{effects_at, first-run_from, run_bound, run_done, run_start, turned_along, turned_counts, turned_error, turned_error_effects, turned_left, turned_left_effects, turned_on}
use Rattle.sl_emu.proofs.run.run_list.Goals as goal

pub turns-init : goal.turns-init
turns-init c = record {
  endian = refl;
  sizes = refl;
  order = c.requires.order;
  rest = run_start (endian_of c.args.state.now) (address_sizes c.args.state.now) c.args.ops.now (byte_at c.args.state.now) (temporary_bytes c.args.t.now) c.args.ran.now c.requires.ran c.requires.zero;
}

pub returns-in_err-turned-clause-fault : goal.returns-in_err-turned-clause-fault
returns-in_err-turned-clause-fault c =
    let p = err_from_is_err_and c.from_residual.result c.from_residual.ensures.1 in
    rw (p.1, p.2) (turned_error c.turns.ran (run_over c.args.state.now c.args.ops.now)
    (run_from (endian_of c.args.state.now) (address_sizes c.args.state.now) c.args.ops.now c.turns.jumps c.turns.at (byte_at c.turns.state) (temporary_bytes c.turns.t))
    (run_from (endian_of c.args.state.now) (address_sizes c.args.state.now) c.args.ops.now c.turn.new.jumps c.turn.new.at (byte_at c.turn.new.state) (temporary_bytes c.turn.new.t))
    (byte_at c.turns.state) (byte_at c.turn.new.state) c.turns.invariant.rest
    c.in_err-turned.field-0.0
    (turned_along _ (endian_of c.args.state.now) _ (address_sizes c.args.state.now) c.args.ops.now c.turns.jumps c.turns.at c.turn.new.jumps c.turn.new.at
    (byte_at c.turns.state) (byte_at c.turn.new.state) (temporary_bytes c.turns.t) (temporary_bytes c.turn.new.t) (Err c.in_err-turned.field-0.0) c.turns.invariant.endian c.turns.invariant.sizes c.in_err-turned.ensures.turned))

pub returns-in_err-turned-clause-effects : goal.returns-in_err-turned-clause-effects
returns-in_err-turned-clause-effects c =
    turned_error_effects c.turns.ran (run_over c.args.state.now c.args.ops.now)
    (run_from (endian_of c.args.state.now) (address_sizes c.args.state.now) c.args.ops.now c.turns.jumps c.turns.at (byte_at c.turns.state) (temporary_bytes c.turns.t))
    (run_from (endian_of c.args.state.now) (address_sizes c.args.state.now) c.args.ops.now c.turn.new.jumps c.turn.new.at (byte_at c.turn.new.state) (temporary_bytes c.turn.new.t))
    (byte_at c.turns.state) (byte_at c.turn.new.state) c.turns.invariant.rest
    c.in_err-turned.field-0.0
    (turned_along _ (endian_of c.args.state.now) _ (address_sizes c.args.state.now) c.args.ops.now c.turns.jumps c.turns.at c.turn.new.jumps c.turn.new.at
    (byte_at c.turns.state) (byte_at c.turn.new.state) (temporary_bytes c.turns.t) (temporary_bytes c.turn.new.t) (Err c.in_err-turned.field-0.0) c.turns.invariant.endian c.turns.invariant.sizes c.in_err-turned.ensures.turned)
    (first-run_from (endian_of c.args.state.now) (address_sizes c.args.state.now) c.args.ops.now c.turns.jumps c.turns.at (byte_at c.turns.state) (temporary_bytes c.turns.t))

pub overflow_add-ran : goal.overflow_add-ran
overflow_add-ran c =
    let counted = turned_counts c.turns.ran (run_over c.args.state.now c.args.ops.now)
    (run_from (endian_of c.args.state.now) (address_sizes c.args.state.now) c.args.ops.now c.turns.jumps c.turns.at (byte_at c.turns.state) (temporary_bytes c.turns.t))
    (run_from (endian_of c.args.state.now) (address_sizes c.args.state.now) c.args.ops.now c.turn.new.jumps c.turn.new.at (byte_at c.turn.new.state) (temporary_bytes c.turn.new.t))
    (byte_at c.turns.state) (byte_at c.turn.new.state) c.turns.invariant.rest
    c.in_ok-turned.turned
    (turned_along _ (endian_of c.args.state.now) _ (address_sizes c.args.state.now) c.args.ops.now c.turns.jumps c.turns.at c.turn.new.jumps c.turn.new.at
    (byte_at c.turns.state) (byte_at c.turn.new.state) (temporary_bytes c.turns.t) (temporary_bytes c.turn.new.t) (Ok c.in_ok-turned.turned) c.turns.invariant.endian c.turns.invariant.sizes c.in_ok-turned.ensures.turned) in
    let bound = run_bound (endian_of c.args.state.now) (address_sizes c.args.state.now) c.args.ops.now (byte_at c.args.state.now) in
    omega (arith, counted, bound, c.requires.few)

pub returns-in-Some-clause-left : goal.returns-in-Some-clause-left
returns-in-Some-clause-left c =
    turned_left c.turns.ran (run_over c.args.state.now c.args.ops.now)
    (run_from (endian_of c.args.state.now) (address_sizes c.args.state.now) c.args.ops.now c.turns.jumps c.turns.at (byte_at c.turns.state) (temporary_bytes c.turns.t))
    (run_from (endian_of c.args.state.now) (address_sizes c.args.state.now) c.args.ops.now c.turn.new.jumps c.turn.new.at (byte_at c.turn.new.state) (temporary_bytes c.turn.new.t))
    (byte_at c.turns.state) (byte_at c.turn.new.state) c.turns.invariant.rest
    c.in_ok-turned.turned c.in-Some.left c.in-Some.is
    (turned_along _ (endian_of c.args.state.now) _ (address_sizes c.args.state.now) c.args.ops.now c.turns.jumps c.turns.at c.turn.new.jumps c.turn.new.at
    (byte_at c.turns.state) (byte_at c.turn.new.state) (temporary_bytes c.turns.t) (temporary_bytes c.turn.new.t) (Ok c.in_ok-turned.turned) c.turns.invariant.endian c.turns.invariant.sizes c.in_ok-turned.ensures.turned)

pub returns-in-Some-clause-effects : goal.returns-in-Some-clause-effects
returns-in-Some-clause-effects c =
    turned_left_effects c.turns.ran (run_over c.args.state.now c.args.ops.now)
    (run_from (endian_of c.args.state.now) (address_sizes c.args.state.now) c.args.ops.now c.turns.jumps c.turns.at (byte_at c.turns.state) (temporary_bytes c.turns.t))
    (run_from (endian_of c.args.state.now) (address_sizes c.args.state.now) c.args.ops.now c.turn.new.jumps c.turn.new.at (byte_at c.turn.new.state) (temporary_bytes c.turn.new.t))
    (byte_at c.turns.state) (byte_at c.turn.new.state) c.turns.invariant.rest
    c.in_ok-turned.turned c.in-Some.left c.in-Some.is
    (turned_along _ (endian_of c.args.state.now) _ (address_sizes c.args.state.now) c.args.ops.now c.turns.jumps c.turns.at c.turn.new.jumps c.turn.new.at
    (byte_at c.turns.state) (byte_at c.turn.new.state) (temporary_bytes c.turns.t) (temporary_bytes c.turn.new.t) (Ok c.in_ok-turned.turned) c.turns.invariant.endian c.turns.invariant.sizes c.in_ok-turned.ensures.turned)

pub turns-preserved : goal.turns-preserved
turns-preserved c = record {
  endian = c.turn.ensures.endian ∙ c.turns.invariant.endian;
  sizes = c.turn.ensures.sizes ∙ c.turns.invariant.sizes;
  order = c.turn.ensures.order ∙ c.turns.invariant.order;
  rest = turned_on c.turns.ran (run_over c.args.state.now c.args.ops.now)
      (run_from (endian_of c.args.state.now) (address_sizes c.args.state.now) c.args.ops.now c.turns.jumps c.turns.at (byte_at c.turns.state) (temporary_bytes c.turns.t))
      (run_from (endian_of c.args.state.now) (address_sizes c.args.state.now) c.args.ops.now c.turn.new.jumps c.turn.new.at (byte_at c.turn.new.state) (temporary_bytes c.turn.new.t))
      (byte_at c.turns.state) (byte_at c.turn.new.state) c.turns.invariant.rest
      c.in_ok-turned.turned c.in-None.is
      (turned_along _ (endian_of c.args.state.now) _ (address_sizes c.args.state.now) c.args.ops.now c.turns.jumps c.turns.at c.turn.new.jumps c.turn.new.at
      (byte_at c.turns.state) (byte_at c.turn.new.state) (temporary_bytes c.turns.t) (temporary_bytes c.turn.new.t) (Ok c.in_ok-turned.turned) c.turns.invariant.endian c.turns.invariant.sizes c.in_ok-turned.ensures.turned);
}

pub returns-clause-left : goal.returns-clause-left
returns-clause-left c =
    ends_so c.turns.ran (run_over c.args.state.now c.args.ops.now) at_end (byte_at c.turns.state)
    (run_done (endian_of c.args.state.now) (address_sizes c.args.state.now) c.args.ops.now c.turns.jumps c.turns.at c.turns.ran (byte_at c.turns.state) (temporary_bytes c.turns.t)
    (run_over c.args.state.now c.args.ops.now) c.turns-test.false c.turns.invariant.rest)

pub returns-clause-effects : goal.returns-clause-effects
returns-clause-effects c =
    effects_at c.turns.ran (run_over c.args.state.now c.args.ops.now) _ (byte_at c.turns.state) c.turns.invariant.rest
    (first-run_from (endian_of c.args.state.now) (address_sizes c.args.state.now) c.args.ops.now c.turns.jumps c.turns.at (byte_at c.turns.state) (temporary_bytes c.turns.t))
