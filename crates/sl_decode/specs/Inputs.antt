-- step: what a decode reads from, as the program keeps it.
use Rattle.std.specs.Prelude.{ℕ, Option}
use Rattle.sl_cube.specs.declared.Point.{Point}
use Rattle.sl_decode.specs.declared.decode.Decode.{Decode}
use Rattle.sl_decode_meaning.specs.Decoding.{Input}
use Rattle.sl_decode_plan.specs.Plans.{done_by}

abbrev pub input_of : {C : Type 0} → (C → ℕ → Point → Option ℕ) → Decode C → Input
input_of choose d = record {
  choose = choose d.choosers.now;
  says = done_by d.tables.now d.plans.now;
  bytes = d.bytes.now;
  address = d.address;
}
