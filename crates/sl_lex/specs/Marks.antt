-- meaning: the marks of each mode.
use Rattle.std.specs.Prelude.{List, [], ◌∷◌, ◌++◌, ℕ, codes, map}
use Rattle.sl_lex.specs.declared.mode.Mode.{Mode}
use Rattle.sl_lex.specs.declared.mode.Mode.TheVariants.{Top, Head, Plain, Body, Display, Pattern}

-- the marks of more than one byte that every mode but Display has
abbrev pub long_marks : List (List ℕ)
long_marks =
    codes "..." ∷ codes "$and" ∷ codes "$or" ∷ codes "$xor" ∷ codes "<<" ∷ codes ">>" ∷ codes "<=" ∷ codes ">=" ∷ codes "==" ∷ codes "!="
    ∷ codes "&&" ∷ codes "||" ∷ codes "^^" ∷ []

-- the bytes that are marks of their own in every mode but Display
abbrev pub mark_bytes : List ℕ
mark_bytes = codes "()[]{},;:=+-*/%&|^~!<>"

abbrev pub common_marks : List (List ℕ)
common_marks = long_marks ++ map (λ b. b ∷ []) mark_bytes

-- the signed and the floating operators, which sections have besides
abbrev pub section_marks : List (List ℕ)
section_marks =
    codes "s>>" ∷ codes "s<=" ∷ codes "s>=" ∷ codes "s<" ∷ codes "s>" ∷ codes "s/" ∷ codes "s%" ∷ codes "f+" ∷ codes "f-" ∷ codes "f*"
    ∷ codes "f/" ∷ codes "f==" ∷ codes "f!=" ∷ codes "f<" ∷ codes "f<=" ∷ codes "f>" ∷ codes "f>=" ∷ []

-- the marks of a mode beside those that all have
abbrev pub section_marks_of : Mode → List (List ℕ)
section_marks_of Body = section_marks
section_marks_of Top = []
section_marks_of Head = []
section_marks_of Plain = []
section_marks_of Display = []
section_marks_of Pattern = []

abbrev pub marks_of : Mode → List (List ℕ)
marks_of Display = []
marks_of Top = common_marks
marks_of Head = common_marks
marks_of Plain = common_marks
marks_of Body = common_marks ++ section_marks
marks_of Pattern = common_marks
