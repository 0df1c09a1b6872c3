use Rattle.std.proofs.Common.{◌≡◌, map, take}
use Rattle.sl_word.specs.Sizes.{byte_counts}
use Rattle.sl_section_sizes.proofs.addresses.address_sizes.Given as goal

abbrev pub invariant-spaces : goal.invariant-spaces
invariant-spaces l = byte_counts l.sizes.items ≡ map (λ s. s.size) (take l.index l.t.spaces)
