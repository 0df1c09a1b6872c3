use Rattle.std.proofs.Common.{◌≡◌, ◌++◌, take}
use Rattle.std.specs.Prelude.{string_bytes}
use Rattle.sl_pcode.specs.Text.{rest_text}
use Rattle.sl_pcode.proofs.print.push_rest.Given as goal

abbrev pub invariant-inputs : goal.invariant-inputs
invariant-inputs l =
    string_bytes l.text ≡ string_bytes l.initial.text ++ rest_text l.names (take l.v-index l.inputs)
