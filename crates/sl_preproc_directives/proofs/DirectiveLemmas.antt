-- Names of files that are text.
use Rattle.std.proofs.Common.{◌≡◌, Bool, true, false, List, ℕ, refl}
use Rattle.std.specs.Str.{IsUtf8, is_utf8}
use Rattle.std.proofs.lemmas.Str.{IsUtf8-from_is_utf8, is_utf8-from_IsUtf8}

no_text_from : (b : Bool) (s : List ℕ) → is_utf8 s ≡ b → (IsUtf8 s → ⊥) → is_utf8 s ≡ false
no_text_from true s e h = absurd (h (IsUtf8-from_is_utf8 s e))
no_text_from false s e h = e

pub no_text : (s : List ℕ) → (IsUtf8 s → ⊥) → is_utf8 s ≡ false
no_text s h = no_text_from (is_utf8 s) s refl h

pub text : (s : List ℕ) → IsUtf8 s → is_utf8 s ≡ true
text s h = is_utf8-from_IsUtf8 s h
