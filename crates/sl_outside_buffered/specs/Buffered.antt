-- view: a sink that gathers bytes before another one gets them.
use Rattle.std.specs.Prelude.{ℕ, List, drop, Option}
use Rattle.std.specs.Io.KnownBytes.{append_known}

-- the gathered bytes that the other sink hasn't got, where it has got so many
abbrev pub waiting : ℕ → List ℕ → List ℕ
waiting handed gathered = drop handed gathered

-- what the other sink has taken, where it tells it, and behind that what waits
abbrev pub all_taken : Option (List ℕ) → List ℕ → Option (List ℕ)
all_taken taken left = append_known taken left
