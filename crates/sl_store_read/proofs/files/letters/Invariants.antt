use Rattle.std.proofs.Common.{◌≡◌, ◌-◌}
use Rattle.sl_store_format.specs.FileNames.{file_name, goes_on, then_due}
use Rattle.sl_store_bytes.specs.Lists.{collected, some_more}
use Rattle.sl_store_bytes.specs.Reader.{byte}
use Rattle.sl_store_read.specs.Views.{due_of}
use Rattle.sl_store_read.proofs.files.letters.Given as goal

abbrev pub invariant-rounds : goal.invariant-rounds
invariant-rounds l = file_name l.fn.bytes ≡ collected l.found.items (some_more (λ left s. byte (goes_on left s)) then_due (l.count - l.round) (due_of l.due) l.bytes)
