use Rattle.std.proofs.Common.{◌≡◌, map, take}
use Rattle.std.specs.Prelude.{string_bytes}
use Rattle.sl_list_pcode.proofs.names.space_names.Given as goal

abbrev pub invariant-spaces : goal.invariant-spaces
invariant-spaces l = map string_bytes l.names.items ≡ map (λ z. z.name) (take l.index l.t.spaces)
