use Rattle.std.proofs.Common.{◌≡◌, ◌+◌, ◌-◌, ◌*◌, length, IfSome}
use Rattle.sl_preproc_directives.specs.Held.{values_of}
use Rattle.sl_preproc_directives.specs.HeldWholes.{wholes_of}
use Rattle.sl_preproc_directives.specs.Pages.{page_of}
use Rattle.sl_preproc_directives.specs.Replacement.{pieces, write_name, write_pieces, write_text}
use Rattle.sl_preproc_directives.specs.Wholes.{AreWholes}
use Rattle.sl_preproc_directives.proofs.WholeLemmas.{IsAlong}
use Rattle.sl_preproc_directives.proofs.replace.+replacement.Given as goal

abbrev pub decreases-write_name : goal.decreases-write_name
decreases-write_name l = 3 * l.left

abbrev pub decreases-write_value : goal.decreases-write_value
decreases-write_value l = 3 * l.left + 2

abbrev pub decreases-write_pieces : goal.decreases-write_pieces
decreases-write_pieces l = 3 * l.left + 1

abbrev pub invariant-write_pieces-pieces : goal.invariant-write_pieces-pieces
invariant-write_pieces-pieces l =
    (write_pieces (write_name l.left (values_of l.defs)) (pieces (length l.text - l.counter) l.rest) (page_of l.page) ≡ write_text l.left (values_of l.defs) l.text (page_of l.fn.page))
    × AreWholes (values_of l.defs) (wholes_of l.known)
    × IfSome l.levels (IsAlong (values_of l.defs) l.left l.text (length l.text - l.counter) l.rest l.fn.page.text.items l.page.text.items)
