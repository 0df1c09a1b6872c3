-- step: the errors of the crates below as halts and problems.
use Rattle.std.specs.Prelude.{◌≡◌, ℕ, Option, Some, None, string_bytes, ⊤}
use Rattle.sl_bind_compile.specs.Outcomes.{ambiguous, flawed}
use Rattle.sl_bind_compile.specs.declared.error.CompileError.{CompileError}
use Rattle.sl_bind_compile.specs.declared.error.CompileError.TheVariants as compile
use Rattle.sl_lex.specs.declared.LexError.{LexError}
use Rattle.sl_lex.specs.declared.LexError.TheVariants as lex
use Rattle.sl_parse.specs.declared.parser.ParseError.{ParseError}
use Rattle.sl_parse.specs.declared.parser.ParseError.TheVariants as parse
use Rattle.sl_preproc.specs.declared.error.PreError.{PreError}
use Rattle.sl_preproc.specs.declared.error.PreError.TheVariants as preproc
use Rattle.sl_store.specs.declared.opening.UnpackError.{UnpackError}
use Rattle.sl_store.specs.declared.opening.UnpackError.TheVariants as unpack
use Rattle.sl_tool_stages.specs.Problems.{refusal}
use Rattle.sl_tool_stages.specs.Stages.{refusal_told}
use Rattle.sl_tool_stages.specs.Values.{Origin}
use Rattle.sl_tool_stages.specs.declared.halt.Halt.{Halt}
use Rattle.sl_tool_stages.specs.declared.halt.Halt.TheVariants.{Refused, ReadFault, WriteFault, NoMemory}
use Rattle.sl_tool_stages.specs.declared.problem.Problem.{Problem}
use Rattle.sl_tool_stages.specs.declared.problem.Problem.TheVariants as problem

-- the halt for a text that has no expansion
abbrev pub halt_of : PreError → Halt
halt_of (preproc.NoFile file line) = Refused (refusal (string_bytes file) line problem.NoFile)
halt_of (preproc.TooLong file line) = Refused (refusal (string_bytes file) line problem.TooLong)
halt_of (preproc.IncludeDepth file line) = Refused (refusal (string_bytes file) line problem.IncludeDepth)
halt_of (preproc.UndefinedName file line) = Refused (refusal (string_bytes file) line problem.UndefinedName)
halt_of (preproc.ReplaceDepth file line) = Refused (refusal (string_bytes file) line problem.ReplaceDepth)
halt_of (preproc.BadDirective file line) = Refused (refusal (string_bytes file) line problem.BadDirective)
halt_of (preproc.Unbalanced file line) = Refused (refusal (string_bytes file) line problem.Unbalanced)
halt_of preproc.ReadFault = ReadFault
halt_of preproc.NoMemory = NoMemory

-- the byte and the problem for a text that has no tokens, unless memory ran out
abbrev pub bad_place : LexError → Option (ℕ × Problem)
bad_place (lex.BadByte at) = Some (at, problem.BadByte)
bad_place (lex.OpenString at) = Some (at, problem.OpenString)
bad_place (lex.WideInteger at) = Some (at, problem.WideInteger)
bad_place lex.NoMemory = None

-- the token's index and the problem for tokens that spell no tree, unless memory ran out
abbrev pub first_fault : ParseError → Option (ℕ × Problem)
first_fault (parse.Syntax at) = Some (at, problem.Syntax)
first_fault (parse.Nesting at) = Some (at, problem.Nesting)
first_fault (parse.NotSupported feature at) = Some (at, problem.NotSupported feature)
first_fault parse.NoMemory = None

-- the problem of bytes that aren't a packed specification, unless memory ran out
abbrev pub unopened : UnpackError → Option Problem
unopened unpack.NotPacked = Some problem.NotPacked
unopened unpack.Cut = Some problem.Cut
unopened (unpack.Damaged at) = Some (problem.Damaged at)
unopened unpack.NoMemory = None

-- The halt tells why a specification is refused, unless memory ran out.
abbrev pub TellsRefusal : Origin → CompileError → Halt → Type 0
TellsRefusal o error NoMemory = ⊤
TellsRefusal o error ReadFault = ⊥
TellsRefusal o error WriteFault = ⊥
TellsRefusal o (compile.Flaw flaw index) (Refused x) = x ≡ refusal_told o (flawed flaw index)
TellsRefusal o (compile.Ambiguous a) (Refused x) = x ≡ refusal_told o (ambiguous a)
TellsRefusal o compile.NoMemory (Refused x) = ⊥
