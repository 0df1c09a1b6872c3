use Rattle.std.proofs.Common.{◌^◌, ◌∙◌, get_or, arith}
use Rattle.sl_word.specs.Pages.{byte_in}
use Rattle.sl_word.proofs.Memory.{Puts-run}
use Rattle.sl_word.proofs.Powers.{bytes_mono}
use Rattle.sl_word.proofs.space.Space.set_bytes.Goals as goal

pub overflow_add-offset : goal.overflow_add-offset
overflow_add-offset c =
    omega (arith, c.requires.room, bytes_mono c.args.self.now.size.bytes 8 c.args.self.now.size.at_most_8)

pub runs-preserved : goal.runs-preserved
runs-preserved c =
    record {
      size = c.set_run.ensures.size ∙ c.runs.invariant.size;
      inside = omega (arith, c.runs.invariant.inside);
      there = λ i h. c.set_run.ensures.stay _ (c.runs.invariant.there i h);
      put = Puts-run (256 ^ c.args.self.now.size.bytes) c.args.base c.runs.done c.min-count.result (λ k. get_or c.args.bytes.now k 0)
          (byte_in c.args.self.now) (byte_in c.runs.self) (byte_in c.set_run.new.self)
          (omega (arith, c.requires.room)) c.runs.invariant.put
          (c.set_run.ensures.bytes (c.set_run.ensures.found (c.runs.invariant.there c.runs.done c.runs-test.true)));
    }
