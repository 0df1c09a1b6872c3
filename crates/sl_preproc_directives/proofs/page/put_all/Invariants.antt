use Rattle.std.proofs.Common.{◌≡◌, drop}
use Rattle.sl_preproc_directives.specs.Pages.{page_of}
use Rattle.sl_preproc_directives.specs.Replacement.{put_all}
use Rattle.sl_preproc_directives.proofs.page.put_all.Given as goal

abbrev pub invariant-bytes : goal.invariant-bytes
invariant-bytes l = put_all (drop l.byte-index l.bytes) (page_of l.page) ≡ put_all l.bytes (page_of l.fn.page)
