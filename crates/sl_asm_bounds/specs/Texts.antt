-- view: texts of the parts of a display.
use Rattle.std.specs.Prelude.{◌≡◌, ℕ, List, Some, slice_get}
use denote.Ref.{Bor}
use Rattle.sl_show.specs.declared.templates.Part.{Part}

-- Each text is that of the part at its index.
abbrev pub AreTexts : (Part → List ℕ) → List Part → List (Bor (List ℕ)) → Type 0
AreTexts shows parts texts = (k : ℕ) (part : Part) (text : Bor (List ℕ))
    → slice_get parts k ≡ Some part → slice_get texts k ≡ Some text → text.now ≡ shows part
