-- meaning: the sentence that a refused text breaks, and what to write instead where that is known.
use Rattle.std.specs.Prelude.{ℕ, ◌-◌, ◌==◌, List, [], ◌∷◌, ◌++◌, codes, if◌then◌else◌}
use Rattle.sl_ast.specs.declared.symbols.Feature.{Feature}
use Rattle.sl_ast.specs.declared.symbols.Feature.TheVariants as feature
use Rattle.sl_bind_compile.specs.declared.error.Flaw.{Flaw}
use Rattle.sl_bind_compile.specs.declared.error.Flaw.TheVariants as flaw
use Rattle.sl_explain_lines.specs.FactLines.{fact_line}
use Rattle.sl_preproc_directives.specs.declared.fault.Cause.{Cause}
use Rattle.sl_preproc_directives.specs.declared.fault.Cause.TheVariants as cause

-- what is asked of a text
unfoldable pub asked : List ℕ → List ℕ
asked words = fact_line (codes "  asked ") words

-- what to write instead
unfoldable pub advice : List ℕ → List ℕ
advice words = fact_line (codes "  write ") words

-- ---- files and directives

abbrev pub cause_words : Cause → List ℕ
cause_words cause.NoFile = codes "a name is that of a file; an included one is joined to the folder of its file"
cause_words cause.TooLong = codes "a file has at most 16777216 bytes, and so has the expanded text"
cause_words cause.IncludeDepth = codes "at most 16 files stand within one another, the main file among them"
cause_words cause.UndefinedName = codes "a name that is replaced or compared is defined before"
cause_words cause.ReplaceDepth = codes "values are replaced within one another at most 16 times"
cause_words cause.BadDirective =
    codes "a line that begins with @ is one of @include @define @undef @ifdef @ifndef @if @elif @else @endif, in its form"
cause_words cause.Unbalanced =
    codes "@elif, @else and @endif have an @if in their file, and each @if has its @endif; @else comes once and last"

-- ---- rules

-- The sentences of each rule, by its number; one that asks several things has several.
abbrev pub rule_rows : List (ℕ × List ℕ)
rule_rows =
    (1, codes "define endian is the first item, and stands once")
    ∷ (2, codes "alignment stands at most once, and is 1 to 16 bytes")
    ∷ (3, codes "a name that is defined is new in the text, and no reserved one")
    ∷ (4, codes "a space has size and type once each: 1 to 8, and ram_space, rom_space or register_space")
    ∷ (5, codes "no second space is default")
    ∷ (6, codes "registers lie in a space that is defined before, and have 1 to 16 bytes")
    ∷ (7, codes "all places of a definition of registers end within their space")
    ∷ (8, codes "a bit range's register is defined before; the range has at least one bit, and ends within the register")
    ∷ (9, codes "a token has 8 to 64 bits, a multiple of 8")
    ∷ (10, codes "a field's low bit is at most its high bit, which is below the token's bits; a field of a token has no noflow")
    ∷ (11, codes "one define context at most, of a register defined before, with at most 8 bytes; high bits are below its bits")
    ∷ (12, codes "no field has both hex and dec, nor an attribute twice")
    ∷ (13, codes "each attached field is defined before, and attached once")
    ∷ (14, codes "members are registers of one size, or texts and words, or integers from -2^63 to 2^63 - 1; _ stands for none")
    ∷ (15, codes "a list has 1 to 2^width members, the skipped ones counted, for the width of each of its fields")
    ∷ (16, codes "a display word behind the mnemonic is an operand (a bare name of the pattern, an action name) or a register")
    ∷ (17, codes "a name with a relation is a field; a bare name is a field, a table or epsilon")
    ∷ (18, codes "no name but epsilon is bare twice, and a constructor has at most 32 operands")
    ∷ (19, codes "inside | no name but epsilon is bare")
    ∷ (20, codes "no constraint divides by 0")
    ∷ (21, codes "an action's left side is a context field, or a name that is no global name and set by no earlier action")
    ∷ (22, codes "an action uses token fields of the pattern, context fields, action names set before, inst_start, inst_next")
    ∷ (23, codes "an action on a context field uses no inst_next, no action name, and no field right of a ; behind a table")
    ∷ (24, codes "globalset names a context field")
    ∷ (25, codes "the address of globalset is an integer, inst_start, inst_next, a bare token field or an action name")
    ∷ (26, codes "a name here is an operand, an earlier local, a register other than the context's, a bit range, inst_start or inst_next")
    ∷ (26, codes "a local is no operand, no parameter and no global name, and is declared once")
    ∷ (26, codes "the parameters of a macro differ")
    ∷ (26, codes "the space of a star form that is read is defined")
    ∷ (26, codes "a written size is at least 1, and a count of bits is 1 to 128")
    ∷ (27, codes "a parameter, local, register, bit range, field with registers, table or star form in a defined space may be assigned")
    ∷ (27, codes "an argument whose parameter the macro assigns is a name that may be assigned")
    ∷ (28, codes "each label stands once in its section or macro, and each that is used stands there")
    ∷ (29, codes "build names a table operand, each at most once")
    ∷ (30, codes "export stands at most once, as the last statement, and not in instruction")
    ∷ (30, codes "export takes a local, register, field with registers or table, a number as *[const]:n, or *:n of one of these")
    ∷ (31, codes "a call in an expression names a user operation, or a function with as many arguments as it takes")
    ∷ (31, codes "a call that is a statement names an earlier macro with as many arguments, or a user operation")
    ∷ (31, codes "a macro has no build and no export")
    ∷ (32, codes "a default space exists")
    ∷ (33, codes "instruction has a constructor, and there are at most 65535 in all")
    ∷ (34, codes "no table reaches itself")
    ∷ (35, codes "each constructor of instruction has at least one byte, its tables taken at their least length")
    ∷ (36, codes "an instruction has at most 1024 nodes: a constructor has 1 and those of its tables")
    ∷ (37, codes "an instruction has at most 255 bytes, its tables taken at their greatest length")
    ∷ (38, codes "a constructor weighs at most 65536 tokens, those of its macros and of its heaviest tables among them")
    ∷ (38, codes "all constructors of a table that aren't unimpl export, or none does")
    ∷ (38, codes "a table that is read, assigned, jumped to or exported has a constructor that exports")
    ∷ (39, codes "a table that is assigned exports no constant")
    ∷ (39, codes "a jump without brackets goes to a label, a number, or a table of constants or fixed places in the default space")
    ∷ (40, codes "in x:n n is at most the size of x")
    ∷ (40, codes "in x(n) n is below the size of x")
    ∷ (40, codes "a bit range lies within its value")
    ∷ (40, codes "zext and sext don't shrink")
    ∷ (40, codes "all exports of a table have one size")
    ∷ []

-- a line for each row of this number
abbrev pub lines_of : ℕ → List (ℕ × List ℕ) → List ℕ
lines_of number [] = []
lines_of number (row ∷ rows) = (if row.0 == number then asked row.1 else []) ++ lines_of number rows

unfoldable pub rule_lines : ℕ → List ℕ
rule_lines number = lines_of number rule_rows

-- the line of the row of this number before which so many of the same number stand
abbrev pub line_of : (number which : ℕ) → List (ℕ × List ℕ) → List ℕ
line_of number which [] = []
line_of number which (row ∷ rows) =
    if row.0 == number then (if which == 0 then asked row.1 else line_of number (which - 1) rows) else line_of number which rows

unfoldable pub rule_line : (number which : ℕ) → List ℕ
rule_line number which = line_of number which rule_rows

abbrev pub rule_advice : ℕ → List ℕ
rule_advice number =
    if number == 32 then advice (codes "default behind the size of the space of the instructions") else []

-- ---- flaws

abbrev pub flaw_asked : Flaw → List ℕ
flaw_asked (flaw.Rule number) = rule_lines number
flaw_asked flaw.SizeClash = asked (codes "some choice of sizes from 1 to 16 meets all that the section says")
flaw_asked flaw.SizeUnfixed = asked (codes "just one choice of sizes meets all that the section says; no size is a default")
flaw_asked flaw.InteriorEllipsis = asked (codes "what stands behind a ; whose left side has no fixed length holds everywhere")
flaw_asked flaw.TokensDiffer =
    asked (codes "of & one side's tokens begin the other's, a shorter side having ... or none; sides of | have the same, or one none")
flaw_asked flaw.Impossible = asked (codes "something matches a pattern")
flaw_asked (flaw.TooManyCubes count) = asked (codes "a pattern needs at most 1024 cubes: & and ; multiply, | adds")
flaw_asked (flaw.WindowTooLong count) = asked (codes "a pattern looks at the first 16 bytes at most")

abbrev pub flaw_advice : Flaw → List ℕ
flaw_advice (flaw.Rule number) = rule_advice number
flaw_advice flaw.SizeClash = []
flaw_advice flaw.SizeUnfixed = []
flaw_advice flaw.InteriorEllipsis = []
flaw_advice flaw.TokensDiffer = []
flaw_advice flaw.Impossible = []
flaw_advice (flaw.TooManyCubes count) = advice (codes "a general constructor, and special ones for the other values")
flaw_advice (flaw.WindowTooLong count) = []

-- ---- forms that the language leaves out

abbrev pub feature_advice : Feature → List ℕ
feature_advice feature.Crossbuild = []
feature_advice feature.DelaySlot =
    advice (codes "a table of the instructions that may follow as an operand behind the branch, and build of it")
feature_advice feature.FloatingPoint = advice (codes "a user operation, at which a run stops")
feature_advice feature.ConstantPool = advice (codes "a user operation, at which a run stops")
feature_advice feature.NewObject = advice (codes "a user operation, at which a run stops")
feature_advice feature.AddressOf = advice (codes "the register's offset as a number")
feature_advice feature.LeadingEllipsis = []
feature_advice feature.NameInConstraint = advice (codes "a constructor for each value")
feature_advice feature.WordSize = advice (codes "addresses of bytes: words times 2 in actions and pointers")
feature_advice feature.InstNext2 =
    advice (codes "a table of the instructions that may follow as an operand, and an action name behind it")
feature_advice feature.WideValue = advice (codes "parts of 16 bytes at most")
