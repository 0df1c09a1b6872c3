-- Places that refusals name.
use Rattle.std.proofs.Common.{◌≡◌, ℕ, suc, zero, ◌+◌, ◌-◌, ◌<◌, ◌≤◌, List, [], ◌∷◌, ◌++◌, length, Option, Some, None, refl, ap, subst, ◌∙◌, arith, inl, inr, length-append}
use Rattle.std.specs.Prelude.{slice_get, min}
use Rattle.std.specs.Coded.{le_prop}
use Rattle.std.specs.List.{AllByRecursion}
use Rattle.std.proofs.Math.Logic.{∥∥₁_elim}
use Rattle.sl_lex.specs.Errors.{Tells}
use Rattle.sl_lex.specs.Faults.{Fault, IsBadByte, IsFault}
use Rattle.sl_lex.specs.Faults.Fault.{NoLexeme, OpenQuote, TooWide}
use Rattle.sl_lex.specs.Reading.{Token, Piece, Reads, HasBadPlace, mode_after}
use Rattle.sl_lex.specs.declared.LexError.{LexError}
use Rattle.sl_lex.specs.declared.LexError.TheVariants as lex
use Rattle.sl_lex.specs.declared.mode.Mode.{Mode}
use Rattle.sl_lex.specs.declared.mode.Mode.TheVariants.{Top}
use Rattle.sl_preproc.specs.Expanded.{Text, line_index, or_no_place, place_at}
use Rattle.sl_preproc.specs.Sound.{IsSound}
use Rattle.sl_preproc.specs.declared.places.Place.{Place}
use Rattle.sl_store_text.specs.PackedForm.{from_or}
use Rattle.sl_tool_stages.specs.Halts.{bad_place}
use Rattle.sl_tool_stages.specs.declared.place.Place as program_place
use Rattle.sl_tool_stages.specs.Stages.{problem_of_fault}
use Rattle.sl_tool_stages.specs.declared.problem.Problem.{Problem}
use Rattle.sl_tool_stages.specs.declared.problem.Problem.TheVariants as problem
use Rattle.sl_tool_stages.proofs.Thens.{some_is}

-- ---- places of lines

each_here : {X : Type 0} (P : X → Type 0) (xs : List X) (i : ℕ) (x : X) → AllByRecursion P xs → slice_get xs i ≡ Some x → P x
each_here P [] i x h e = absurd (cc)
each_here P (y ∷ ys) zero x h e = let same : y ≡ x = cc in subst P same h.0
each_here P (y ∷ ys) (suc i) x h e = each_here P ys i x h.1 e

known_or_none : (count : ℕ) (ps : List Place) (i : ℕ) (o : Option Place) → 0 < count → AllByRecursion (λ place. place.file < count) ps → slice_get ps i ≡ o
    → (or_no_place o).file < count
known_or_none count ps i None some h e = some
known_or_none count ps i (Some place) some h e = each_here (λ (p : Place). p.file < count) ps i place h e

-- the place of a byte is in one of the files
pub file_known : (t : Text) (byte : ℕ) → IsSound t → (place_at t byte).file < length t.files
unfolding place_at
file_known t byte h =
    let i = min (line_index t.bytes byte) (length t.places - 1) in
    known_or_none (length t.files) t.places i (slice_get t.places i) h.some h.known refl

-- the same of a text that is known to be sound
pub file_among : (t : Text) (byte : ℕ) → ∥ IsSound t ∥₁ → (place_at t byte).file < length t.files
file_among t byte h = ∥∥₁_elim h le_prop (file_known t byte)

-- ---- bad places

opens_within : (text inside rest : List ℕ) → text ≡ 34 ∷ inside ++ rest → 1 + length inside ≤ length text
opens_within text inside rest e = let lengths : length text ≡ suc (length (inside ++ rest)) = ap length e in omega (arith, lengths, length-append inside rest)

bad_byte_within : (ahead : ℕ) (text : List ℕ) → IsBadByte ahead text → ahead ≤ length text
bad_byte_within ahead text (inl h) = omega (arith, h.2)
bad_byte_within ahead text (inr (inside, rest, opened, line, is)) = omega (arith, is, opens_within text inside rest opened.split)

fault_within : (mode : Mode) (fault : Fault) (ahead : ℕ) (text : List ℕ) → IsFault mode fault ahead text → ahead ≤ length text
fault_within mode NoLexeme ahead text h = bad_byte_within ahead text h.1
fault_within mode OpenQuote ahead text (none, (inside, rest, opened, line, is)) = omega (arith, is)
fault_within mode TooWide ahead text h = omega (arith, h.1)

reads_within : (mode : Mode) (from : ℕ) (text : List ℕ) (ps : List Piece) (bad : Fault × ℕ) → Reads mode from text ps (Some bad) → bad.1 ≤ from + length text
reads_within mode from text [] bad (ahead, fault, is) = omega (arith, is, fault_within mode bad.0 ahead text fault)
reads_within mode from text (p ∷ ps) bad (rest, here, later) =
    let lengths : length text ≡ length p.text + length rest = ap length here.split ∙ length-append p.text rest in
    let more = reads_within (mode_after mode p.kind p.text) (from + length p.text) rest ps bad later in
    omega (arith, lengths, more)

-- a bad place is in the text, or at its end
pub bad_place_within : (text : List ℕ) (fault : Fault) (place : ℕ) → HasBadPlace text fault place → place ≤ length text
bad_place_within text fault place (tokens, (pieces, reads, are)) = omega (arith, reads_within Top 0 text pieces (fault, place) reads)

-- ---- places of tokens

-- behind all tokens
pub past_all : (end : ℕ) (tokens : List Token) (index : ℕ) → length tokens ≤ index → from_or end (slice_get tokens index) ≡ end
past_all end [] index past = refl
past_all end (token ∷ tokens) zero past = absurd (omega arith)
past_all end (token ∷ tokens) (suc index) past = past_all end tokens index (omega arith)

-- ---- problems and their places

abbrev At : Type 0
At = ℕ × Problem

-- the bad place that an error of the lexer tells
tells_bad : (text : List ℕ) (told at : At) (bad : Fault) → Some told ≡ Some at → HasBadPlace text bad told.0 → told.1 ≡ problem_of_fault bad
    → (other : Fault) × HasBadPlace text other at.0 × (at.1 ≡ problem_of_fault other)
tells_bad text told at bad is h p =
    let same : told ≡ at = some_is told at is in
    (bad, subst (λ (x : At). HasBadPlace text bad x.0) same h, subst (λ (x : At). x.1 ≡ problem_of_fault bad) same p)

pub tells_place : (text : List ℕ) (error : LexError) (at : At) → bad_place error ≡ Some at → Tells text error
    → (bad : Fault) × HasBadPlace text bad at.0 × (at.1 ≡ problem_of_fault bad)
tells_place text (lex.BadByte k) at is h = tells_bad text (k, problem.BadByte) at NoLexeme is h refl
tells_place text (lex.OpenString k) at is h = tells_bad text (k, problem.OpenString) at OpenQuote is h refl
tells_place text (lex.WideInteger k) at is h = tells_bad text (k, problem.WideInteger) at TooWide is h refl
tells_place text lex.NoMemory at is h = absurd (cc)

-- ---- places by their parts

pub place_is : (a : program_place.Place) (file : List ℕ) (line : ℕ) → a.file ≡ file → a.line ≡ line → a ≡ record { file = file; line = line }
place_is a file line e f =
    ap (λ (x : List ℕ). let p : program_place.Place = record { file = x; line = a.line } in p) e
    ∙ ap (λ (n : ℕ). let p : program_place.Place = record { file = file; line = n } in p) f
