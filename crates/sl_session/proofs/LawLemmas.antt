-- What is answered at an address of an image is what `list` prints there.
use Rattle.std.proofs.Common.{◌≡◌, ℕ, ◌+◌, ◌-◌, ◌≤◌, ◌%◌, List, [], Result, Ok, Err, refl, sym, ap, subst}
use Rattle.sl_ast.specs.Trees.{Constructor}
use Rattle.sl_ast.specs.Unfolding.{Placed}
use Rattle.sl_decode_contexts.specs.declared.commits.Commit.{Commit}
use Rattle.sl_decode_meaning.specs.Choices.{Choice}
use Rattle.sl_decode_meaning.specs.Decoding.{Decoded, decoded}
use Rattle.sl_decode_meaning.specs.declared.faults.Fault.{Fault}
use Rattle.sl_list_instructions.specs.Instructions.{Listed, Subject, Told, instruction, line_at, mark_of, misaligned, told_at, undecoded}
use Rattle.sl_list_instructions.specs.Listing.{Image, subject}
use Rattle.sl_list_instructions.specs.Told.{told_of}
use Rattle.sl_session.specs.Answers.{Decodes, IsAnswer, length_of}
use Rattle.sl_session.specs.Laws.{AnswersAreListed, IsLineOf, ListedAreAnswers, window_in}
use Rattle.sl_session.specs.declared.answer.Answer.{Answer}
use Rattle.sl_session.specs.declared.answer.Answer.TheVariants.{Instruction, Misaligned, Undecoded}
use Rattle.sl_show.specs.Texts.{shown_text}
use Rattle.sl_spec.specs.declared.tables.Tables.{Tables}

-- ---- what is told of a decode

module _ (t : Tables) (cs : List (Placed Constructor)) (bytes : List ℕ) where
  abbrev told : Decoded → Told
  told d = record {
    text = shown_text t cs bytes d.tree;
    length = d.length;
    commits = d.commits;
  }

  told_decode : (r : Result Decoded Fault) (x : Told) → told_of t cs bytes r ≡ Ok x
      → (d : Decoded) × (r ≡ Ok d) × (x ≡ told d)
  told_decode (Ok d) x is = (d, refl, cc)
  told_decode (Err fault) x is = absurd (cc)

  told_fault : (r : Result Decoded Fault) (fault : Fault) → told_of t cs bytes r ≡ Err fault
      → r ≡ Err fault
  told_fault (Ok d) fault is = absurd (cc)
  told_fault (Err other) fault is = cc

-- ---- a position of an image

module _ (t : Tables) (cs : List (Placed Constructor)) (choose : Choice) (i : Image)
    (made : List Commit) (at : ℕ) where
  abbrev s : Subject
  s = subject t cs choose i

  abbrev window : List ℕ
  window = window_in i at

  -- the same line, told by equal values
  moved : (text other : List ℕ) (n m : ℕ) (ds es : List Commit) → text ≡ other → n ≡ m → ds ≡ es
      → Listed s at made (line_at s at m other) m es → Listed s at made (line_at s at n text) n ds
  moved text other n m ds es l e d listed =
      subst (λ (x : List ℕ). Listed s at made (line_at s at n x) n ds) (sym l)
      (subst (λ (k : ℕ). Listed s at made (line_at s at k other) k ds) (sym e)
      (subst (λ (fs : List Commit). Listed s at made (line_at s at m other) m fs) (sym d) listed))

  pub listed : (answer : Answer) (text : List ℕ) (commits : List Commit)
      → IsAnswer t cs choose i.start made window (i.base + at) answer text commits
      → Listed s at made (line_at s at (length_of answer) text) (length_of answer) commits
  listed (Instruction length after context) text commits is =
      let d = is.told in
      let here : told_at s at context ≡ Ok (told t cs window d) =
      ap (told_of t cs window) is.decodes.is in
      moved text (shown_text t cs window d.tree) length d.length commits d.commits is.text_is
      is.length_is is.commits_are
      (instruction {told = told t cs window d} is.decodes.aligned is.decodes.narrow is.decodes.stands
      here)
  listed (Undecoded fault length) text commits is =
      moved text (mark_of fault) length t.alignment commits [] is.text_is is.length_is
      is.commits_are
      (undecoded is.decodes.aligned is.decodes.narrow is.decodes.stands
      (ap (told_of t cs window) is.decodes.is))
  listed (Misaligned length) text commits is =
      moved text _ length (t.alignment - (i.base + at) % t.alignment) commits [] is.text_is
      is.length_is is.commits_are (misaligned refl is.beyond)

  answered : (line : List ℕ) (n : ℕ) (commits : List Commit) → Listed s at made line n commits
      → IsLineOf t cs choose i made at line n commits
  answered line n commits (instruction {context = x} {told = y} aligned narrow stands is) =
      let found =
      told_decode t cs window (decoded t cs choose window (i.base + at) x) y is in
      let d = found.0 in
      let here : Decodes t cs choose i.start made window (i.base + at) x (Ok d) = record {
        aligned = aligned;
        narrow = narrow;
        stands = stands;
        is = found.1;
      } in
      record {
        answer = Instruction y.length d.after x;
        text = y.text;
        is = record {
          told = d;
          decodes = here;
          length_is = ap (λ (z : Told). z.length) found.2;
          after_is = refl;
          text_is = ap (λ (z : Told). z.text) found.2;
          commits_are = ap (λ (z : Told). z.commits) found.2;
        };
        length_is = refl;
        line_is = refl;
      }
  answered line n commits (undecoded {context = x} {fault = fault} aligned narrow stands is) =
      let here : Decodes t cs choose i.start made window (i.base + at) x (Err fault) = record {
        aligned = aligned;
        narrow = narrow;
        stands = stands;
        is = told_fault t cs window (decoded t cs choose window (i.base + at) x) fault is;
      } in
      record {
        answer = Undecoded fault t.alignment;
        text = mark_of fault;
        is = record {
          context = x;
          decodes = here;
          length_is = refl;
          text_is = refl;
          commits_are = refl;
        };
        length_is = refl;
        line_is = refl;
      }
  answered line n commits (misaligned {beyond = k} is some) = record {
    answer = Misaligned (t.alignment - k);
    text = _;
    is = record {
      beyond = subst (λ (j : ℕ). 1 ≤ j) (sym is) some;
      length_is = ap (λ (j : ℕ). t.alignment - j) (sym is);
      text_is = refl;
      commits_are = refl;
    };
    length_is = refl;
    line_is = refl;
  }

pub answers_are_listed : AnswersAreListed
answers_are_listed t cs choose i made at answer text commits is =
    listed t cs choose i made at answer text commits is

pub listed_are_answers : ListedAreAnswers
listed_are_answers t cs choose i made at line n commits is =
    answered t cs choose i made at line n commits is
