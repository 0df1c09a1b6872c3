use Rattle.std.proofs.Common.{◌≡◌, map, take}
use Rattle.std.specs.Prelude.{string_bytes}
use Rattle.sl_list_pcode.proofs.names.userop_names.Given as goal

abbrev pub invariant-userops : goal.invariant-userops
invariant-userops l = map string_bytes l.names.items ≡ map (λ z. z.name) (take l.index l.t.userops)
