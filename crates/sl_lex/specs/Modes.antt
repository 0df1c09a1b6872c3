-- meaning: the modes of a text, and the words and marks that lead out of them.
use Rattle.std.specs.Prelude.{ℕ, List, [], ◌∷◌, codes, if◌then◌else◌}
use Rattle.std.specs.Str.{bytes_eq}
use Rattle.sl_lex.specs.declared.mode.Mode.{Mode}
use Rattle.sl_lex.specs.declared.mode.Mode.TheVariants.{Top, Head, Plain, Body, Display, Pattern}

-- the words and marks that lead out of a mode, each with the mode that it leads to
abbrev pub ways_out : Mode → List (List ℕ × Mode)
ways_out Top =
    (codes "define", Plain) ∷ (codes "attach", Plain) ∷ (codes "macro", Body) ∷ (codes "with", Head) ∷ (codes ":", Display) ∷ []
ways_out Head = (codes "{", Top) ∷ []
ways_out Plain = (codes ";", Top) ∷ []
ways_out Body = (codes "}", Top) ∷ []
ways_out Display = (codes "is", Pattern) ∷ []
ways_out Pattern = (codes "{", Body) ∷ (codes "unimpl", Top) ∷ []

-- where a token with these bytes leads, or the mode itself
abbrev pub led_to : List (List ℕ × Mode) → Mode → List ℕ → Mode
led_to [] mode text = mode
led_to ((name, next) ∷ ways) mode text = if bytes_eq text name then next else led_to ways mode text

-- the mode in which a text goes on after a token with these bytes
abbrev pub next_mode : Mode → List ℕ → Mode
next_mode mode text = led_to (ways_out mode) mode text
