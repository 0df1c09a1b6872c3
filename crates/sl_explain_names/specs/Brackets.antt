-- meaning: how the tokens between two parts of a pattern, or of a call, are bracketed.
use Rattle.std.specs.Prelude.{ℕ, ◌+◌, ◌-◌, ◌==◌, List, [], ◌∷◌, codes, drop, nat_lt, take}
use Rattle.std.specs.Prelude.{Bool, true, false, not, if◌then◌else◌}
use Rattle.std.specs.Str.{bytes_eq}
use Rattle.sl_explain_names.specs.declared.brackets.Side.{Side}
use Rattle.sl_explain_names.specs.declared.brackets.Side.TheVariants as side
use Rattle.sl_lex.specs.Reading.{Token}

-- the tokens from one index on up to another
abbrev pub between : List Token → (first last : ℕ) → List Token
between ts first last = take (last - first) (drop first ts)

-- How many brackets are open after a token. One that closes where none is open leads out to those round it.
abbrev pub level_after : (level : ℕ) → (text : List ℕ) → ℕ
level_after level text =
    if bytes_eq text (codes "(") then level + 1 else if bytes_eq text (codes ")") then level - 1 else level

abbrev pub levels : (level : ℕ) → List Token → ℕ
levels level [] = level
levels level (t ∷ ts) = levels (level_after level t.text) ts

-- the bracket in which these tokens begin isn't closed in them
abbrev pub stays_in : (level : ℕ) → List Token → Bool
stays_in level [] = true
stays_in level (t ∷ ts) =
    if bytes_eq t.text (codes "(") then stays_in (level + 1) ts
    else if bytes_eq t.text (codes ")") then (if level == 0 then false else stays_in (level - 1) ts)
    else stays_in level ts

-- the token of the first index is in brackets in which the other one is too, by itself or in further ones
abbrev pub encloses : List Token → (mark index : ℕ) → Bool
encloses ts mark index =
    if nat_lt mark index then stays_in 0 (between ts mark index) else levels 0 (between ts index mark) == 0

-- ---- the sides of `;`, which is tighter than `|`

abbrev pub behind : Side → Side
behind side.Beside = side.Behind
behind side.Behind = side.Behind
behind side.Apart = side.Apart

-- how what comes after a token lies to a part before it, with so many brackets open between them
abbrev pub side_at : (level : ℕ) → Side → (text : List ℕ) → Side
side_at level s text =
    if not (level == 0) then s
    else if bytes_eq text (codes ")") then side.Beside
    else if bytes_eq text (codes "|") then side.Apart
    else if bytes_eq text (codes ";") then behind s
    else s

abbrev pub side_after : (level : ℕ) → Side → List Token → Side
side_after level s [] = s
side_after level s (t ∷ ts) = side_after (level_after level t.text) (side_at level s t.text) ts

abbrev pub is_behind : Side → Bool
is_behind side.Behind = true
is_behind side.Beside = false
is_behind side.Apart = false

-- the part at the second index is on the right of a `;` on whose left the one at the first index is
abbrev pub stands_behind : List Token → (before index : ℕ) → Bool
stands_behind ts before index = is_behind (side_after 0 side.Beside (between ts before index))
