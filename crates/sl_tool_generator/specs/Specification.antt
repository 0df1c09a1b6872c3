-- meaning: the specification that `gen` compiles.
use Rattle.std.specs.Prelude.{ℕ, zero, suc, List, [], ◌++◌, codes}
use Rattle.std.specs.Fmt.{decimal}

-- what is defined before the constructors
abbrev pub definitions : List ℕ
definitions = codes "define endian=big;\n"
    ++ (codes "define space ram type=ram_space size=2 default;\n"
    ++ (codes "define space register type=register_space size=2;\n"
    ++ (codes "define register offset=0 size=1 [ r0 r1 r2 r3 ];\n"
    ++ (codes "define token ins (16) op=(8,15) rd=(4,5) rs=(0,1);\n"
    ++ codes "attach variables [ rd rs ] [ r0 r1 r2 r3 ];\n"))))

-- the constructor of a number, which it adds
abbrev pub constructor_line : ℕ → List ℕ
constructor_line i = codes ":op" ++ (decimal i ++ (codes " rd,rs is op=" ++ (decimal i
    ++ (codes " & rd & rs { rd = rd + rs + " ++ (decimal i ++ codes "; }\n")))))

-- the constructors of the numbers below n
unfoldable pub constructor_lines : ℕ → List ℕ
constructor_lines zero = []
constructor_lines (suc n) = constructor_lines n ++ constructor_line n

abbrev pub specification : List ℕ
specification = definitions ++ constructor_lines 64
