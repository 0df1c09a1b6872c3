-- meaning: the operators of a section's expressions, by their ranks and by how they tie the sizes of their sides, and the one of a
-- row of tokens that is applied last.
use Rattle.std.specs.Prelude.{ℕ, ◌+◌, ◌-◌, ◌==◌, ◌||◌, Bool, true, false, List, [], ◌∷◌, codes, drop, nat_le, nat_lt}
use Rattle.std.specs.Prelude.{Option, Some, None, if◌then◌else◌}
use Rattle.std.specs.Str.{bytes_eq}
use Rattle.sl_explain_names.specs.TokenKinds.{has_after}
use Rattle.sl_explain_sizes.specs.Slices.{beyond, outside}
use Rattle.sl_explain_sizes.specs.declared.operators.Class.{Class}
use Rattle.sl_explain_sizes.specs.declared.operators.Class.TheVariants as class
use Rattle.sl_explain_sizes.specs.declared.operators.Scan.{Scan}
use Rattle.sl_lex.specs.Reading.{Token}

-- ---- ranks and classes

abbrev pub is_factor : (text : List ℕ) → Bool
is_factor text =
    bytes_eq text (codes "*") || (bytes_eq text (codes "/") || (bytes_eq text (codes "%")
    || (bytes_eq text (codes "s/") || bytes_eq text (codes "s%"))))

abbrev pub is_sum : (text : List ℕ) → Bool
is_sum text = bytes_eq text (codes "+") || bytes_eq text (codes "-")

abbrev pub is_shift : (text : List ℕ) → Bool
is_shift text = bytes_eq text (codes "<<") || (bytes_eq text (codes ">>") || bytes_eq text (codes "s>>"))

abbrev pub is_order : (text : List ℕ) → Bool
is_order text =
    bytes_eq text (codes "<") || (bytes_eq text (codes "<=") || (bytes_eq text (codes ">") || (bytes_eq text (codes ">=")
    || (bytes_eq text (codes "s<") || (bytes_eq text (codes "s<=") || (bytes_eq text (codes "s>") || bytes_eq text (codes "s>=")))))))

abbrev pub is_equality : (text : List ℕ) → Bool
is_equality text = bytes_eq text (codes "==") || bytes_eq text (codes "!=")

abbrev pub is_conjunction : (text : List ℕ) → Bool
is_conjunction text = bytes_eq text (codes "&&") || bytes_eq text (codes "^^")

-- The looser an operator is, the higher its rank; 0 where the token is no operator. The comma of arguments is the loosest.
abbrev pub rank_of : (text : List ℕ) → ℕ
rank_of text =
    if is_factor text then 1
    else if is_sum text then 2
    else if is_shift text then 3
    else if is_order text then 4
    else if is_equality text then 5
    else if bytes_eq text (codes "&") then 6
    else if bytes_eq text (codes "^") then 7
    else if bytes_eq text (codes "|") then 8
    else if is_conjunction text then 9
    else if bytes_eq text (codes "||") then 10
    else if bytes_eq text (codes ",") then 11
    else 0

abbrev pub class_of : (text : List ℕ) → Class
class_of text =
    if is_shift text then class.Shift
    else if is_order text || is_equality text then class.Test
    else if is_conjunction text || bytes_eq text (codes "||") then class.Boolean
    else if bytes_eq text (codes ",") then class.Comma
    else class.Alike

-- ---- the operator that is applied last

-- how many tokens of a star form stand behind its mark: the space in brackets, and the size
abbrev pub star_length : List Token → ℕ
star_length ts =
    if has_after ts 0 1 (codes "[") then (if has_after ts 0 4 (codes ":") then 5 else 3)
    else if has_after ts 0 1 (codes ":") then 2
    else 0

abbrev pub skipping : Scan → (skip : ℕ) → (due : Bool) → Scan
skipping s skip due = record { due = due; skip = skip; rank = s.rank; best = s.best }

-- an operand is due: a star form, a prefix, a bracket with what is in it, or a word or an integer
abbrev pub at_operand : List Token → (index : ℕ) → (text : List ℕ) → Scan → Scan
at_operand ts index text s =
    if bytes_eq text (codes "*") then skipping s (star_length (drop index ts)) true
    else if bytes_eq text (codes "-") || (bytes_eq text (codes "~") || bytes_eq text (codes "!")) then skipping s 0 true
    else if bytes_eq text (codes "(") then skipping s (outside (codes ")") (beyond index ts)) false
    else skipping s 0 false

-- Of two operators the looser one is applied last, and of two that are as loose the one behind.
abbrev pub with_operator : Scan → (index rank : ℕ) → Scan
with_operator s index rank =
    if rank == 0 then skipping s 0 false
    else if nat_le s.rank rank then record { due = true; skip = 0; rank = rank; best = Some index }
    else skipping s 0 true

-- an operand is there: more of it, or an operator
abbrev pub at_operator : List Token → (index : ℕ) → (text : List ℕ) → Scan → Scan
at_operator ts index text s =
    if bytes_eq text (codes "(") then skipping s (outside (codes ")") (beyond index ts)) false
    else if bytes_eq text (codes "[") then skipping s (outside (codes "]") (beyond index ts)) false
    else if bytes_eq text (codes ":") then skipping s 1 false
    else with_operator s index (rank_of text)

-- what is known behind the token of an index, which has these bytes
abbrev pub step : List Token → (index : ℕ) → (text : List ℕ) → Scan → Scan
step ts index text s =
    if nat_lt 0 s.skip then skipping s (s.skip - 1) s.due
    else if s.due then at_operand ts index text s
    else at_operator ts index text s

abbrev pub scan_from : List Token → (index : ℕ) → Scan → List Token → Scan
scan_from ts index s [] = s
scan_from ts index s (t ∷ left) = scan_from ts (index + 1) (step ts index t.text s) left

abbrev pub beginning : Scan
beginning = record { due = true; skip = 0; rank = 0; best = None }

-- the index of the operator that is applied last, if there is one
unfoldable pub main_of : List Token → Option ℕ
main_of ts = (scan_from ts 0 beginning ts).best
