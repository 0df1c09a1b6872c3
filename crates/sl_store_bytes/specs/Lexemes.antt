-- meaning: lists of bytes each of which is judged by those before it.
use Rattle.std.specs.Prelude.{◌≡◌, ℕ, Bool, true, List, [], ◌∷◌, ◌++◌, length}
use Rattle.sl_store_bytes.specs.Lists.{some_more, listed, IsListed}
use Rattle.sl_store_bytes.specs.Numbers.{write_number}
use Rattle.sl_store_bytes.specs.Reader.{Reader, byte}

-- Whether a byte may follow those before it, with so many after it.
abbrev pub Follow : Type 0
Follow = ℕ → List ℕ → ℕ → Bool

-- the number of the bytes, and the bytes
abbrev pub write_bytes : List ℕ → List ℕ
write_bytes w = write_number (length w) ++ w

abbrev pub put_after : List ℕ → ℕ → List ℕ
put_after before b = before ++ b ∷ []

abbrev pub letters : Follow → ℕ → List ℕ → Reader (List ℕ)
letters follow = some_more (λ left before. byte (follow left before)) put_after

-- from `least` to `most` bytes, each of which may follow those before it
unfoldable pub lexeme : Follow → ℕ → ℕ → Reader (List ℕ)
lexeme follow least most = listed least most (λ left before. byte (follow left before)) put_after []

abbrev pub Follows : Follow → ℕ → List ℕ → ℕ → Type 0
Follows follow left before b = follow left before b ≡ true

-- from `least` to `most` bytes, each of which may follow those before it
abbrev pub IsRead : Follow → ℕ → ℕ → List ℕ → Type 0
IsRead follow least most = IsListed least most (Follows follow) put_after []
