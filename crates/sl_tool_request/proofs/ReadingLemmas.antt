-- Words with and without an `=`.
use Rattle.std.proofs.Common.{◌≡◌, ◌+◌, ℕ, suc, Bool, true, false, List, [], ◌∷◌, length, None, refl, arith}
use Rattle.std.specs.List.{list_any, position_or_len}
use Rattle.sl_tool_request.specs.Requests.{field_of}
use Rattle.sl_tool_request.specs.Words.{is_equals}

at_first : (p : ℕ → Bool) (x : ℕ) (xs : List ℕ) (b : Bool) → p x ≡ b → (position_or_len p xs ≡ length xs → list_any p xs ≡ false)
    → position_or_len p (x ∷ xs) ≡ length (x ∷ xs) → list_any p (x ∷ xs) ≡ false
at_first p x xs true is rest e = let bad : 0 ≡ suc (length xs) = rw is at e in absurd (omega (arith, bad))
at_first p x xs false is rest e =
    let next : 1 + position_or_len p xs ≡ suc (length xs) = rw is at e in rw is (rest (omega (arith, next)))

none_passes : (p : ℕ → Bool) (xs : List ℕ) → position_or_len p xs ≡ length xs → list_any p xs ≡ false
none_passes p [] e = refl
none_passes p (x ∷ xs) e = at_first p x xs (p x) refl (none_passes p xs) e

-- a word with no `=` gives no field
pub no_field : (word : List ℕ) → position_or_len is_equals word ≡ length word → None ≡ field_of word
no_field word e = rw (none_passes is_equals word e) refl
