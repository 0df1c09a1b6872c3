use Rattle.std.proofs.Common.{◌≡◌, ◌+◌, ◌≤◌, ℕ, subst, sym, ap}
use Rattle.sl_cube.specs.Bits.{Agrees}
use Rattle.sl_shape_constraints.specs.FixedBits.{FixesBits}
use Rattle.sl_shape_constraints.specs.Homes.{part, place_of}
use Rattle.sl_shape_constraints.specs.Rooms.{room}
use Rattle.sl_shape_constraints.specs.declared.homes.Home.{Home}
use Rattle.sl_shape_constraints.proofs.PlaceLemmas.{fixed_within, agrees_fixed, in_context}
use Rattle.sl_shape_constraints.proofs.places.fixed_cube.Goals as goal

pub context_cube-requires-clause-mask : goal.context_cube-requires-clause-mask
context_cube-requires-clause-mask c =
    let within : c.args.low + c.args.count ≤ 64 = subst (λ (h : Home). c.args.low + c.args.count ≤ room h) c.in-Context.is c.requires.within in
    (in_context c.args.low c.args.value c.args.count c.fixed_bits-mask.result.0 c.fixed_bits-mask.result.1 within
    (subst (λ (h : Home). FixesBits (λ r. place_of h (c.args.low + r)) c.args.value c.args.count c.fixed_bits-mask.result.0 c.fixed_bits-mask.result.1) c.in-Context.is c.fixed_bits-mask.ensures)).0

pub context_cube-requires-clause-value : goal.context_cube-requires-clause-value
context_cube-requires-clause-value c =
    let within : c.args.low + c.args.count ≤ 64 = subst (λ (h : Home). c.args.low + c.args.count ≤ room h) c.in-Context.is c.requires.within in
    (in_context c.args.low c.args.value c.args.count c.fixed_bits-mask.result.0 c.fixed_bits-mask.result.1 within
    (subst (λ (h : Home). FixesBits (λ r. place_of h (c.args.low + r)) c.args.value c.args.count c.fixed_bits-mask.result.0 c.fixed_bits-mask.result.1) c.in-Context.is c.fixed_bits-mask.ensures)).1

pub context_cube-requires-clause-within : goal.context_cube-requires-clause-within
context_cube-requires-clause-within c = fixed_within _ _ _ _ _ c.fixed_bits-mask.ensures

pub bytes_cube-requires : goal.bytes_cube-requires
bytes_cube-requires c = fixed_within _ _ _ _ _ c.fixed_bits-mask.ensures

pub returns-in-Context : goal.returns-in-Context
returns-in-Context c = λ p range.
    let h = c.args.home in
    let x : p.context ≡ part h p = ap (λ (k : Home). part k p) (sym c.in-Context.is) in
    let same = agrees_fixed (λ r. place_of h (c.args.low + r)) c.args.value c.args.count c.fixed_bits-mask.result.0 c.fixed_bits-mask.result.1 (part h p) c.fixed_bits-mask.ensures in
    let is = c.context_cube.ensures p in (
      λ inside. same.0 (subst (λ (n : ℕ). Agrees c.fixed_bits-mask.result.0 c.fixed_bits-mask.result.1 n) x (is.0 inside)),
      λ bits. is.1 (subst (λ (n : ℕ). Agrees c.fixed_bits-mask.result.0 c.fixed_bits-mask.result.1 n) (sym x) (same.1 bits)),
    )

pub returns-in-Token : goal.returns-in-Token
returns-in-Token c = λ p range.
    let h = c.args.home in
    let x : p.bytes ≡ part h p = ap (λ (k : Home). part k p) (sym c.in-Token.is) in
    let same = agrees_fixed (λ r. place_of h (c.args.low + r)) c.args.value c.args.count c.fixed_bits-mask.result.0 c.fixed_bits-mask.result.1 (part h p) c.fixed_bits-mask.ensures in
    let is = c.bytes_cube.ensures p in (
      λ inside. same.0 (subst (λ (n : ℕ). Agrees c.fixed_bits-mask.result.0 c.fixed_bits-mask.result.1 n) x (is.0 inside)),
      λ bits. is.1 (subst (λ (n : ℕ). Agrees c.fixed_bits-mask.result.0 c.fixed_bits-mask.result.1 n) (sym x) (same.1 bits)),
    )
