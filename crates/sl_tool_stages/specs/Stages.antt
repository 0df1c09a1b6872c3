-- meaning: the stages from the name of a specification to what a command works on.
use Rattle.std.specs.Prelude.{◌≡◌, ℕ, ◌^◌, ◌≤◌, ◌⊎◌, List, [], length, Option, Some, None, Bool, if◌then◌else◌, Result, Ok, Err, ⊤}
use Rattle.sl_ast.specs.Spelling.{spell}
use Rattle.sl_ast.specs.Validity.{AreItems}
use Rattle.sl_bind_compile.specs.Ambiguity.{Ambiguity}
use Rattle.sl_bind_compile.specs.Outcomes.{ambiguous, flawed}
use Rattle.sl_bind_compile.specs.Outcomes as outcome
use Rattle.sl_bind_compile.specs.AtTokens.{at_tokens}
use Rattle.sl_bind_compile.specs.declared.error.Flaw.{Flaw}
use Rattle.sl_bind_compile.specs.declared.error.Flaw.TheVariants as flaw
use Rattle.sl_tool_contexts.specs.Words.{Bad, starting_context}
use Rattle.sl_tool_contexts.specs.declared.words.Cause as context
use Rattle.sl_tool_contexts.specs.declared.words.Cause.TheVariants as word
use Rattle.sl_explain.specs.Facts.{ambiguity_facts, byte_facts, flaw_facts, item_facts, settling_facts, token_facts}
use Rattle.sl_decode_meaning.specs.Actions.{address_bytes}
use Rattle.sl_preproc_directives.specs.declared.fault.Cause.{Cause}
use Rattle.sl_preproc_directives.specs.declared.fault.Cause.TheVariants as cause
use Rattle.sl_lex.specs.Faults.{Fault}
use Rattle.sl_lex.specs.Faults.Fault.{NoLexeme, OpenQuote, TooWide}
use Rattle.sl_lex.specs.Reading.{HasBadPlace, ReadsAs}
use Rattle.sl_list_instructions.specs.Listing.{Image, image_from}
use Rattle.sl_outside.specs.Folder.{Folder, FolderHas, Lacks, HoldsTooLong, size_limit}
use Rattle.sl_parse_faults.specs.Causes.{IsFault, Reason, no_spelling, too_deep, left_out}
use Rattle.sl_preproc.specs.Expanded.{Text, expanded}
use Rattle.sl_preproc.specs.Expansion as preproc
use Rattle.sl_preproc.specs.Sound.{IsSound}
use Rattle.sl_tool_request.specs.Images.{image_of}
use Rattle.sl_tool_request.specs.Requests.{PackedFile, SpecFile, Target, TextFile}
use Rattle.sl_spec.specs.declared.tables.Tables as spec
use Rattle.sl_parse_terminals.specs.Symbols.{symbols_of}
use Rattle.sl_step_run.specs.Running.{HasRoom}
use Rattle.sl_store.specs.Damage.{IsCut, IsDamagedAt}
use Rattle.sl_store_bytes.specs.Verdicts.{HasMark}
use Rattle.sl_store_format.specs.Packed.{Packed, mark}
use Rattle.sl_store_write.specs.Packs.{IsFileOf}
use Rattle.sl_tool_stages.specs.Places.{indexes_in, place_in, place_of_byte, place_of_token}
use Rattle.sl_tool_stages.specs.Problems.{refusal, refusal_of_field, refusal_with}
use Rattle.sl_tool_stages.specs.Stage.{Stage, Then}
use Rattle.sl_tool_stages.specs.Values.{Source, Tokens, InText, Origin, Stored, Tree, Compiled, Loaded, source, tree}
use Rattle.sl_tool_stages.specs.declared.problem.Conflict.{Conflict}
use Rattle.sl_tool_stages.specs.declared.problem.Problem.{Problem}
use Rattle.sl_tool_stages.specs.declared.problem.Problem.TheVariants.{NotPacked, Cut, Damaged, NoFile, TooLong, IncludeDepth, UndefinedName, ReplaceDepth, BadDirective, Unbalanced, BadByte, OpenString, WideInteger, Syntax, Nesting, NotSupported, Rule, SizeClash, SizeUnfixed, InteriorEllipsis, TokensDiffer, Impossible, TooManyCubes, WindowTooLong, Ambiguous, BadHex, NoContextField, ValueOutOfRange}
use Rattle.sl_tool_stages.specs.declared.refusal.Refusal.{Refusal}

-- ---- 1: the name of the main file to its expanded text

abbrev pub problem_of_cause : Cause → Problem
problem_of_cause cause.NoFile = NoFile
problem_of_cause cause.TooLong = TooLong
problem_of_cause cause.IncludeDepth = IncludeDepth
problem_of_cause cause.UndefinedName = UndefinedName
problem_of_cause cause.ReplaceDepth = ReplaceDepth
problem_of_cause cause.BadDirective = BadDirective
problem_of_cause cause.Unbalanced = Unbalanced

abbrev pub refused_expansion : preproc.Refusal → Refusal
refused_expansion r = refusal r.file r.line (problem_of_cause r.cause)

abbrev pub source_of : List ℕ → Result Text preproc.Refusal → Result Source Refusal
source_of name (Ok t) = Ok (source name t)
source_of name (Err r) = Err (refused_expansion r)

-- Where the folder is told, the expansion is that of the definition; where it isn't, it is some sound text or some refusal.
abbrev pub Expands : Option Folder → Stage Refusal (List ℕ) Source
Expands (Some folder) name r = r ≡ source_of name (expanded folder name)
Expands None name (Ok s) = (s.name ≡ name) × IsSound s.text
Expands None name (Err x) = ⊤

-- ---- 2: the text to its tokens

abbrev pub problem_of_fault : Fault → Problem
problem_of_fault NoLexeme = BadByte
problem_of_fault OpenQuote = OpenString
problem_of_fault TooWide = WideInteger

-- why a text is refused that doesn't go on at this byte
abbrev pub refused_byte : Source → Fault → ℕ → Refusal
refused_byte s bad place =
    refusal_with (place_of_byte s.text place) (problem_of_fault bad) (byte_facts s.text bad place)

-- The text reads as these tokens, or has a first bad place.
abbrev pub Tokenizes : Stage Refusal Source Tokens
Tokenizes s (Ok k) = (k.source ≡ s) × ReadsAs s.text.bytes k.tokens
Tokenizes s (Err x) = (bad : Fault) × (place : ℕ) × HasBadPlace s.text.bytes bad place
    × (x ≡ refused_byte s bad place)

-- ---- 3: the tokens to the tree that they spell

abbrev pub problem_of_reason : Reason → Problem
problem_of_reason no_spelling = Syntax
problem_of_reason too_deep = Nesting
problem_of_reason (left_out form) = NotSupported form

-- why tokens are refused that have their first fault at the one of this index
abbrev pub refused_token : Tokens → Reason → ℕ → Refusal
refused_token k reason index = refusal_with (place_of_token k index) (problem_of_reason reason)
    (token_facts k.source.text k.tokens reason index)

-- The tokens spell this tree, which has no fault, or they have a first fault.
abbrev pub Parses : Stage Refusal Tokens Tree
Parses k (Ok t) = (t.origin ≡ InText k) × (symbols_of k.tokens ≡ spell t.items) × AreItems t.items
Parses k (Err x) = (reason : Reason) × (index : ℕ) × IsFault (symbols_of k.tokens) reason index
    × (x ≡ refused_token k reason index)

-- ---- the bytes of a packed file to the tree that they hold

-- the tree of a packed specification, whose items have their stored places
abbrev pub stored_tree : Packed → Tree
stored_tree p = tree (Stored p.files p.places) p.items

-- The bytes of the file of this name are those of a packed specification; or the mark isn't at their front, or they are cut, or
-- damaged at a byte.
abbrev pub Unpacks : (name : List ℕ) → Stage Refusal (List ℕ) Tree
Unpacks name bytes (Ok t) = (p : Packed) × IsFileOf p bytes × (t ≡ stored_tree p)
Unpacks name bytes (Err x) = ((HasMark mark bytes → ⊥) × (x ≡ refusal name 0 NotPacked))
    ⊎ ((IsCut bytes × (x ≡ refusal name 0 Cut)) ⊎ ((at : ℕ) × IsDamagedAt bytes at × (x ≡ refusal name 0 (Damaged at))))

-- ---- the file of a specification to its tree

-- The file of this name has these bytes, which aren't too many for a file; or there is no such file.
abbrev pub Fetches : Option Folder → Stage Refusal (List ℕ) (List ℕ)
Fetches told name (Ok bytes) = FolderHas told name bytes × (length bytes ≤ size_limit)
Fetches told name (Err x) = (Lacks told name × (x ≡ refusal name 0 NoFile)) ⊎ (HoldsTooLong told name × (x ≡ refusal name 0 TooLong))

-- The tree of a specification: that of the text that its main file expands to, or that of a packed file.
pub data Reads (told : Option Folder) : SpecFile → Result Tree Refusal → Type 0 where
  of_text : {name : List ℕ} {r : Result Tree Refusal} → Then (Expands told) (Then Tokenizes Parses) name r → Reads told (TextFile name) r
  of_packed : {name : List ℕ} {r : Result Tree Refusal} → Then (Fetches told) (Unpacks name) name r → Reads told (PackedFile name) r

-- ---- 4: the tree to its tables, which are sound

abbrev pub problem_of_flaw : Flaw → Problem
problem_of_flaw (flaw.Rule number) = Rule number
problem_of_flaw flaw.SizeClash = SizeClash
problem_of_flaw flaw.SizeUnfixed = SizeUnfixed
problem_of_flaw flaw.InteriorEllipsis = InteriorEllipsis
problem_of_flaw flaw.TokensDiffer = TokensDiffer
problem_of_flaw flaw.Impossible = Impossible
problem_of_flaw (flaw.TooManyCubes count) = TooManyCubes count
problem_of_flaw (flaw.WindowTooLong count) = WindowTooLong count

-- the conflict of a table that isn't settled, whose constructors are told by the indexes of their items
abbrev pub conflict_of : Origin → Ambiguity → Conflict
conflict_of o a = record { table = a.table; other = place_in o a.second; both = a.both; apart = a.apart }

-- what more is said of a flaw: in a text with the word that is at fault, where there is one
abbrev pub flaw_lines : Origin → Flaw → Option ℕ → List ℕ
flaw_lines (InText k) flaw index = item_facts k.source.text k.tokens flaw index
flaw_lines (Stored files places) flaw index = flaw_facts [] flaw index

-- the same of a table that isn't settled
abbrev pub ambiguity_lines : Origin → Ambiguity → List ℕ
ambiguity_lines (InText k) a = ambiguity_facts k.source.text k.tokens a
ambiguity_lines (Stored files places) a = settling_facts a.apart

-- why a specification is refused, at the place of an item that is told by its index, or at the text's end where there is none
abbrev pub refusal_told : Origin → outcome.Refusal → Refusal
refusal_told o (flawed flaw index) =
    refusal_with (place_in o index) (problem_of_flaw flaw) (flaw_lines o flaw index)
refusal_told o (ambiguous a) = refusal_with (place_in o a.first) (Ambiguous (conflict_of o a)) (ambiguity_lines o a)

-- The specification that the tree is keeps all rules and its tables are sound, or this is why it is refused.
abbrev pub Compiles : Stage Refusal Tree Compiled
Compiles t (Ok c) = (c.tree ≡ t) × outcome.Compiles t.items (Ok c.tables)
Compiles t (Err x) = (why : outcome.Refusal) × outcome.Compiles t.items (Err why)
    × (x ≡ refusal_told t.origin (at_tokens (indexes_in t.origin t.items) why))

-- ---- the file of a specification to its tables

-- The sound specification of this file.
abbrev pub Specifies : Option Folder → Stage Refusal SpecFile Compiled
Specifies told = Then (Reads told) Compiles

-- ---- 5: the image beside it

-- the image that the bytes of a file are, or that they spell as hexadecimal text
abbrev pub image_in : Bool → List ℕ → Option (List ℕ)
image_in is_hex bytes = if is_hex then image_of bytes else Some bytes

abbrev pub decoded : List ℕ → Option (List ℕ) → Result (List ℕ) Refusal
decoded name (Some image) = Ok image
decoded name None = Err (refusal name 0 BadHex)

abbrev pub Decodes : Target → Stage Refusal (List ℕ) (List ℕ)
Decodes t bytes r = r ≡ decoded t.image (image_in t.is_hex bytes)

-- The image fits the memory, or it is too long.
abbrev pub Fits : ℕ → Target → Stage Refusal (List ℕ) (List ℕ)
Fits addresses t image (Ok same) = (same ≡ image) × HasRoom addresses t.base (length image)
Fits addresses t image (Err x) = (HasRoom addresses t.base (length image) → ⊥) × (x ≡ refusal t.image 0 TooLong)

-- What the bytes of a file are as an image for so many addresses.
abbrev pub Prepares : ℕ → Target → Stage Refusal (List ℕ) (List ℕ)
Prepares addresses t = Then (Decodes t) (Fits addresses t)

-- The image of the file of this name.
abbrev pub Images : Option Folder → ℕ → Target → Stage Refusal (List ℕ) (List ℕ)
Images told addresses t = Then (Fetches told) (Prepares addresses t)

abbrev pub problem_of_word : context.Cause → Problem
problem_of_word word.NoField = NoContextField
problem_of_word word.OutOfRange = ValueOutOfRange

-- the context that words give, or the first word that is refused
abbrev pub opened : Result ℕ Bad → Result ℕ Refusal
opened (Ok start) = Ok start
opened (Err bad) = Err (refusal_of_field bad.field (problem_of_word bad.cause))

-- the image with this context
abbrev pub started : List ℕ → ℕ → Result ℕ Refusal → Result Image Refusal
started bytes base (Ok start) = Ok (image_from bytes base start)
started bytes base (Err x) = Err x

abbrev pub Starts : spec.Tables → Target → Stage Refusal (List ℕ) Image
Starts tables t bytes r = r ≡ started bytes t.base (opened (starting_context tables t.context))

-- The image that the target tells, for the default space of the tables.
abbrev pub Readies : Option Folder → Target → spec.Tables → Result Image Refusal → Type 0
Readies told t tables = Then (Images told (256 ^ address_bytes tables) t) (Starts tables t) t.image

-- The image of the file beside the tables, from the base on, with the context that the words give.
abbrev pub Loads : Option Folder → Target → Stage Refusal Compiled Loaded
Loads told t c (Ok l) = (l.compiled ≡ c) × Readies told t c.tables (Ok l.image)
Loads told t c (Err x) = Readies told t c.tables (Err x)
