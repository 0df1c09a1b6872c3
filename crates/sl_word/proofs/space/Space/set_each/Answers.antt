use Rattle.std.proofs.Common.{◌≡◌, ◌+◌, ◌/◌, ◌%◌, ◌^◌, ◌<◌, ◌∙◌, ap, get_or, arith}
use Rattle.sl_word.specs.Pages.{byte_in, HasPage}
use Rattle.sl_word.specs.declared.word.AddressSize.{AddressSize}
use Rattle.sl_word.proofs.Powers.{bytes_mono}
use Rattle.sl_word.proofs.Memory.{Puts-more}
use Rattle.sl_word.proofs.space.Space.set_each.Goals as goal

pub loop-place-preserved : goal.loop-place-preserved
loop-place-preserved c =
    let inside : c.loop-place.place < 256 ^ c.args.self.now.size.bytes = omega (arith, c.requires.few, bytes_mono 1 c.args.self.now.size.bytes c.args.self.now.size.some) in
    let at : c.address-offset.result ≡ (c.args.base + c.loop-place.place) % 256 ^ c.args.self.now.size.bytes =
    c.address-offset.ensures
    ∙ ap (λ (n : AddressSize). (c.args.base + c.loop-place.place) % 256 ^ n.bytes) c.loop-place.invariant.size
    in
    let there : HasPage c.loop-place.self (c.address-offset.result / 4096) =
    rw c.address-offset.ensures (c.loop-place.invariant.there c.loop-place.place c.loop-place-test.true)
    in
    record {
      size = c.set_run.ensures.size ∙ c.loop-place.invariant.size;
      there = λ i h. rw c.set_run.ensures.size (c.set_run.ensures.stay _ (c.loop-place.invariant.there i h));
      put = Puts-more (256 ^ c.args.self.now.size.bytes) c.args.base c.loop-place.place c.address-offset.result (λ i. get_or c.args.bytes.now i 0)
          (byte_in c.args.self.now) (byte_in c.loop-place.self) (byte_in c.set_run.new.self)
          inside at c.loop-place.invariant.put (c.set_run.ensures.bytes (c.set_run.ensures.found there));
    }
