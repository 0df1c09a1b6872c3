-- meaning: the words of each problem, and the text of a refusal.
use Rattle.std.specs.Prelude.{ℕ, List, [], ◌++◌, Option, None, Some, codes}
use Rattle.std.specs.Fmt.{decimal}
use Rattle.sl_ast.specs.declared.symbols.Feature.{Feature}
use Rattle.sl_ast.specs.declared.symbols.Feature.TheVariants as feature
use Rattle.sl_cube.specs.declared.Point.{Point}
use Rattle.sl_cube_sets.specs.declared.report.Apart.{Apart}
use Rattle.sl_cube_sets.specs.declared.report.Apart.TheVariants.{Same, Two}
use Rattle.sl_explain.specs.Facts.{cause_facts}
use Rattle.sl_preproc_directives.specs.declared.fault.Cause.{Cause}
use Rattle.sl_preproc_directives.specs.declared.fault.Cause.TheVariants as cause
use Rattle.sl_tool_stages.specs.Lines.{place_text, point_text}
use Rattle.sl_tool_stages.specs.declared.problem.Conflict.{Conflict}
use Rattle.sl_tool_stages.specs.declared.problem.Problem.{Problem}
use Rattle.sl_tool_stages.specs.declared.problem.Problem.TheVariants.{NotPacked, Cut, Damaged, NoFile, TooLong, IncludeDepth, UndefinedName, ReplaceDepth, BadDirective, Unbalanced, BadByte, OpenString, WideInteger, Syntax, Nesting, NotSupported, Rule, SizeClash, SizeUnfixed, InteriorEllipsis, TokensDiffer, Impossible, TooManyCubes, WindowTooLong, Ambiguous, BadHex, NoContextField, ValueOutOfRange, HasActions, Misaligned, NoEncoding, BadLine, BadAddress, Undecided}
use Rattle.sl_tool_stages.specs.declared.place.Place.{Place}
use Rattle.sl_tool_stages.specs.declared.refusal.Refusal.{Refusal}
use Rattle.sl_tool_stages.specs.declared.refusal.Subject.{Subject}
use Rattle.sl_tool_stages.specs.declared.refusal.Subject.TheVariants.{Line, Field, Base, Nothing}

-- ---- words

-- the words of a form that the language leaves out
abbrev pub feature_words : Feature → List ℕ
feature_words feature.Crossbuild = codes "crossbuild"
feature_words feature.DelaySlot = codes "delay slot"
feature_words feature.FloatingPoint = codes "floating point"
feature_words feature.ConstantPool = codes "constant pool"
feature_words feature.NewObject = codes "new object"
feature_words feature.AddressOf = codes "address of"
feature_words feature.LeadingEllipsis = codes "leading ellipsis"
feature_words feature.NameInConstraint = codes "name in constraint"
feature_words feature.WordSize = codes "word size"
feature_words feature.InstNext2 = codes "inst_next2"
feature_words feature.WideValue = codes "wide value"

-- the table that isn't settled, and the place of the second constructor
abbrev pub conflict_words : Conflict → List ℕ
conflict_words conflict = codes "ambiguous in " ++ (conflict.table ++ (codes " with " ++ place_text conflict.other.file conflict.other.line))

-- what is printed of a problem behind its place
abbrev pub words_of : Problem → List ℕ
words_of NoFile = codes "no such file"
words_of TooLong = codes "too long"
words_of IncludeDepth = codes "includes too deep"
words_of UndefinedName = codes "undefined name"
words_of ReplaceDepth = codes "replacement too deep"
words_of BadDirective = codes "bad directive"
words_of Unbalanced = codes "unbalanced condition"
words_of BadByte = codes "bad byte"
words_of OpenString = codes "open string"
words_of WideInteger = codes "wide integer"
words_of Syntax = codes "syntax error"
words_of Nesting = codes "nesting too deep"
words_of (NotSupported form) = codes "not supported: " ++ feature_words form
words_of (Rule number) = codes "rule " ++ decimal number
words_of SizeClash = codes "size clash"
words_of SizeUnfixed = codes "size unfixed"
words_of InteriorEllipsis = codes "interior ellipsis"
words_of TokensDiffer = codes "tokens differ"
words_of Impossible = codes "impossible pattern"
words_of (TooManyCubes count) = codes "too many cubes " ++ decimal count
words_of (WindowTooLong count) = codes "window too long " ++ decimal count
words_of (Ambiguous conflict) = conflict_words conflict
words_of NotPacked = codes "not packed"
words_of Cut = codes "cut"
words_of (Damaged at) = codes "damaged at " ++ decimal at
words_of BadHex = codes "bad hex"
words_of NoContextField = codes "no such context field"
words_of ValueOutOfRange = codes "value out of range"
words_of HasActions = codes "has actions"
words_of Misaligned = codes "misaligned"
words_of NoEncoding = codes "no encoding"
words_of BadLine = codes "bad line"
words_of BadAddress = codes "bad address"
words_of Undecided = codes "undecided"

-- ---- the report of a conflict

-- a point after its name
abbrev pub point_line : List ℕ → Point → List ℕ
point_line name p = name ++ (codes " " ++ (point_text p ++ codes "\n"))

-- that the two sets are the same, or the points that each has alone
abbrev pub apart_lines : Apart → List ℕ
apart_lines Same = codes "same\n"
apart_lines (Two only_first only_second) = point_line (codes "first") only_first ++ point_line (codes "second") only_second

-- the least point at which neither is the choice, and how the two differ
abbrev pub report_lines : Conflict → List ℕ
report_lines conflict = point_line (codes "both") conflict.both ++ apart_lines conflict.apart

-- ---- refusals

-- what is printed after the line of a problem
abbrev pub lines_after : Problem → List ℕ
lines_after (Ambiguous conflict) = report_lines conflict
lines_after problem = []

-- a line of a file, the name of a context field, or the base, before a colon; of a request as a whole nothing
abbrev pub subject_text : Subject → List ℕ
subject_text (Line place) = place_text place.file place.line ++ codes ": "
subject_text (Field name) = name ++ codes ": "
subject_text Base = codes "base: "
subject_text Nothing = []

-- the subject, the problem's words, and what is printed after that line
abbrev pub refusal_text : Refusal → List ℕ
refusal_text x = subject_text x.subject ++ (words_of x.problem ++ (codes "\n" ++ lines_after x.problem))

abbrev pub cause_of : Problem → Option Cause
cause_of NoFile = Some cause.NoFile
cause_of TooLong = Some cause.TooLong
cause_of IncludeDepth = Some cause.IncludeDepth
cause_of UndefinedName = Some cause.UndefinedName
cause_of ReplaceDepth = Some cause.ReplaceDepth
cause_of BadDirective = Some cause.BadDirective
cause_of Unbalanced = Some cause.Unbalanced
cause_of problem = None

abbrev pub facts_of_cause : Option Cause → List ℕ
facts_of_cause None = []
facts_of_cause (Some cause) = cause_facts cause

-- what more is said of a problem whatever is known of the text: of a file that can't be had and of a directive
abbrev pub more_of : Problem → List ℕ
more_of problem = facts_of_cause (cause_of problem)

-- the same text, and what more is said
abbrev pub explained_text : Refusal → List ℕ
explained_text x = refusal_text x ++ (x.facts ++ more_of x.problem)

-- the refusal of a line of which these lines say more
abbrev pub refusal_with : Place → Problem → (facts : List ℕ) → Refusal
refusal_with place problem facts = record { subject = Line place; problem = problem; facts = facts }

abbrev pub refusal_at : Place → Problem → Refusal
refusal_at place problem = refusal_with place problem []

-- the refusal of a line of a file; line 0 is the whole file
abbrev pub refusal : List ℕ → ℕ → Problem → Refusal
refusal file line problem = refusal_at (record { file = file; line = line }) problem

-- the refusal of a context field of this name
abbrev pub refusal_of_field : List ℕ → Problem → Refusal
refusal_of_field name problem = record { subject = Field name; problem = problem; facts = [] }

-- the refusal of the base
abbrev pub refusal_of_base : Problem → Refusal
refusal_of_base problem = record { subject = Base; problem = problem; facts = [] }

-- the refusal of a request as a whole
abbrev pub bare_refusal : Problem → Refusal
bare_refusal problem = record { subject = Nothing; problem = problem; facts = [] }
