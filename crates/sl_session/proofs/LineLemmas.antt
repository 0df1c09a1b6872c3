-- A listing by a reader.
use Rattle.std.proofs.Common.{◌≡◌, ℕ, ◌+◌, ◌≤◌, List, [], ◌++◌, take, length, Option, Result, Ok, sym, ap, subst, ◌∙◌}
use Rattle.std.specs.Prelude.{OnErr, OnOk}
use Rattle.sl_ast.specs.Trees.{Constructor}
use Rattle.sl_ast.specs.Unfolding.{Placed}
use Rattle.sl_ast.specs.Views.{items_of}
use Rattle.sl_decode_contexts.specs.declared.commits.Commit.{Commit}
use Rattle.sl_decode_meaning.specs.Actions.{address_bytes}
use Rattle.sl_decode_meaning.specs.Choices.{Choice}
use Rattle.sl_list_instructions.proofs.ImageLawLemmas.{listed_written}
use Rattle.sl_list_instructions.proofs.ZeroLemmas.{shown_bytes}
use Rattle.sl_list_instructions.specs.Fronts.{Begins, IsBegun, IsListed, begun, stopped}
use Rattle.sl_list_instructions.specs.Instructions.{Listed, line_at}
use Rattle.sl_list_instructions.specs.Lines.{bytes_at, listed_line}
use Rattle.sl_list_instructions.specs.Listing.{Image, subject}
use Rattle.sl_list_instructions.specs.Listings.{Lists, Shows, ended, shown}
use Rattle.sl_list_instructions.specs.Writing.{Writes}
use Rattle.sl_list_instructions.specs.declared.listings.ListError.{ListError}
use Rattle.sl_session.proofs.LawLemmas.{listed}
use Rattle.sl_session.proofs.SessionLemmas.{on_err, on_ok}
use Rattle.sl_session.specs.Answers.{IsAnswer, length_of}
use Rattle.sl_session.specs.Laws.{window_in}
use Rattle.sl_session.specs.Lines.{shows_in}
use Rattle.sl_session.specs.Readers.{StandsFor, choice_in, specification_in}
use Rattle.sl_session.specs.declared.answer.Answer.{Answer}
use Rattle.sl_session.specs.declared.lines.Lines.{Lines}
use Rattle.sl_session.specs.declared.reader.Reader.{Reader}
use Rattle.sl_spec.specs.declared.tables.Tables.{Tables}

-- ---- a line

module _ (t : Tables) (cs : List (Placed Constructor)) (choose : Choice) (i : Image)
    (made : List Commit) (at : ℕ) where
  -- what is read at a position, as a line shows it
  pub shown_line : (answer : Answer) (line text window : List ℕ) (n size : ℕ)
      (ds es : List Commit) → window ≡ window_in i at
      → IsAnswer t cs choose i.start made window (i.base + at) answer text ds
      → n ≡ length_of answer → n ≤ 272 → size ≡ address_bytes t
      → line ≡ listed_line size (i.base + at) (take n window) text → es ≡ ds
      → Listed (subject t cs choose i) at made line n es
  shown_line answer line text window n size ds es same is counted fits sized line_is made_are =
      let s = subject t cs choose i in
      let here = listed t cs choose i made at answer text ds
      (subst (λ (w : List ℕ). IsAnswer t cs choose i.start made w (i.base + at) answer text ds) same
      is) in
      let whole : line ≡ line_at s at n text = line_is
      ∙ ap (λ (b : ℕ). listed_line b (i.base + at) (take n window) text) sized
      ∙ ap (λ (w : List ℕ). listed_line (address_bytes t) (i.base + at) w text)
      (ap (take n) same ∙ shown_bytes 272 i.bytes at n fits) in
      subst (λ (x : List ℕ). Listed s at made x n es) (sym whole)
      (subst (λ (k : ℕ). Listed s at made (line_at s at k text) k es) (sym counted)
      (subst (λ (fs : List Commit).
      Listed s at made (line_at s at (length_of answer) text) (length_of answer) fs)
      (sym made_are) here))

-- ---- a listing whose lines hang on a fact

module _ (P : Type 0) (S : Shows) (end : ℕ) where
  abbrev Hangs : Shows
  Hangs at made text n ds = P → S at made text n ds

  lists_given : (at : ℕ) (made : List Commit) (text : List ℕ) → P → Lists Hangs end at made text
      → Lists S end at made text
  lists_given at made text p (ended past) = ended past
  lists_given at made text p (shown {n = n} {ds = ds} {rest = rest} within s more) =
      shown within (s p) (lists_given (at + n) (made ++ ds) rest p more)

  begins_given : (at : ℕ) (made : List Commit) (text : List ℕ) → P
      → Begins Hangs end at made text → Begins S end at made text
  begins_given at made text p stopped = stopped
  begins_given at made text p (begun {n = n} {ds = ds} {rest = rest} within s more) =
      begun within (s p) (begins_given (at + n) (made ++ ds) rest p more)

  pub whole_given : (old new : Option (List ℕ)) → P → IsListed Hangs end old new
      → IsListed S end old new
  whole_given old new p w = (w.0, lists_given 0 [] w.0 p w.1, w.2)

  pub front_given : (old new : Option (List ℕ)) → P → IsBegun Hangs end old new
      → IsBegun S end old new
  front_given old new p w = (w.0, begins_given 0 [] w.0 p w.1, w.2)

-- what was listed by a reader was written
module _ (x : Reader) (i : Image) (old new : Option (List ℕ)) where
  abbrev t : Tables
  t = (specification_in x).tables

  abbrev cs : List (Placed Constructor)
  cs = (specification_in x).constructors

  abbrev lines : Shows
  lines = Listed (subject t cs (choice_in x) i)

  pub read_written : {T : Type 0} (r : Result T ListError) → StandsFor x
      → OnOk r (IsListed (Hangs (StandsFor x) lines 0) (length i.bytes) old new)
      → OnErr r (IsBegun (Hangs (StandsFor x) lines 0) (length i.bytes) old new)
      → Writes t cs i old new r
  read_written r stands whole front =
      listed_written (items_of x.compiled.now.bound.spec) t stands.compiled.compiles (choice_in x)
      stands.disassembles.chooses i old new r
      (on_ok r (whole_given (StandsFor x) lines (length i.bytes) old new stands) whole)
      (on_err r (front_given (StandsFor x) lines (length i.bytes) old new stands) front)
