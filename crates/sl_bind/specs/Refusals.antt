-- view: what an error of `bind` tells.
use Rattle.std.specs.Prelude.{◌≡◌, ℕ, List, Option}
use Rattle.sl_ast.specs.declared.items.Spec.{Spec}
use Rattle.sl_bind.specs.declared.bound.BindError.{BindError}
use Rattle.sl_bind.specs.declared.bound.BindError.TheVariants as error
use Rattle.sl_bind.specs.declared.fault.BindFault.{BindFault}
use Rattle.sl_bind.specs.declared.fault.BindFault.TheVariants as fault
use Rattle.sl_bind.specs.BindFaults.{HasFault, token_of}

-- The error tells the first fault of the specification, and where it is. Memory may run out.
abbrev pub Refuses : Spec → BindError → Type 0
Refuses spec (error.Rule number token) = HasFault spec (fault.Rule number) token
Refuses spec (error.SizeClash token) = HasFault spec fault.SizeClash token
Refuses spec (error.SizeUnfixed token) = HasFault spec fault.SizeUnfixed token
Refuses spec error.NoMemory = Unit {0}

-- The error is this fault with this token.
abbrev pub IsErrorOf : BindFault → Option ℕ → BindError → Type 0
IsErrorOf f token error.NoMemory = ⊥
IsErrorOf f token (error.Rule number told) = (f ≡ fault.Rule number) × (told ≡ token)
IsErrorOf f token (error.SizeClash told) = (f ≡ fault.SizeClash) × (told ≡ token)
IsErrorOf f token (error.SizeUnfixed told) = (f ≡ fault.SizeUnfixed) × (told ≡ token)

-- The error is this fault with the item's first token, by the first tokens of all items; or memory
-- ran out.
abbrev pub TellsFault : List ℕ → BindFault → Option ℕ → BindError → Type 0
TellsFault indexes f item error.NoMemory = Unit {0}
TellsFault indexes f item (error.Rule number told) =
    (f ≡ fault.Rule number) × (told ≡ token_of indexes item)
TellsFault indexes f item (error.SizeClash told) =
    (f ≡ fault.SizeClash) × (told ≡ token_of indexes item)
TellsFault indexes f item (error.SizeUnfixed told) =
    (f ≡ fault.SizeUnfixed) × (told ≡ token_of indexes item)
