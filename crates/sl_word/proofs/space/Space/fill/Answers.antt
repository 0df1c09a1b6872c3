use Rattle.std.proofs.Common.{◌+◌, ◌^◌, ◌∙◌, get_or, arith}
use Rattle.std.proofs.lemmas.Nat.{mod_below}
use Rattle.sl_word.specs.Pages.{byte_in}
use Rattle.sl_word.proofs.Memory.{copied-run}
use Rattle.sl_word.proofs.Powers.{bytes_pos}
use Rattle.sl_word.proofs.space.Space.fill.Goals as goal

pub run_at-requires : goal.run_at-requires
run_at-requires c =
    omega (arith, c.address-offset.ensures, mod_below (c.args.base + c.runs.done) (256 ^ c.args.self.now.size.bytes) (bytes_pos c.args.self.now.size.bytes))

pub runs-preserved : goal.runs-preserved
runs-preserved c =
    record {
      long = c.copy_run.ensures.length ∙ c.runs.invariant.long;
      inside = omega (arith, c.runs.invariant.inside, c.copy_run.ensures.length);
      told = copied-run (256 ^ c.args.self.now.size.bytes) c.args.base c.runs.done c.min-count.result c.address-offset.result (byte_in c.args.self.now)
          (λ k. get_or c.runs.out k 0) (λ k. get_or c.copy_run.new.out k 0) c.address-offset.ensures
          (omega (arith, c.run_at.ensures.room)) c.runs.invariant.told c.copy_run.ensures.bytes;
    }
