-- The laws of encodings: the one line of a listing, and one text.
use Rattle.std.proofs.Common.{◌≡◌, ℕ, ◌+◌, ◌<◌, ◌≤◌, ◌%◌, ◌^◌, List, [], ◌∷◌, ◌++◌, length, replicate, Result, Ok, refl, sym, ap, subst, ◌∙◌, arith}
use Rattle.std.proofs.Math.Seq.{take-append_seam}
use Rattle.sl_ast.specs.Trees.{Constructor}
use Rattle.sl_ast.specs.Unfolding.{Placed}
use Rattle.sl_asm_encodings.specs.Encodings.{Encodes}
use Rattle.sl_asm_encodings.specs.Laws.{EncodesOneText, EncodingIsListed, HasLengthToo}
use Rattle.sl_decode_choices.proofs.ChoiceLemmas.{choice_is_one}
use Rattle.sl_decode_contexts.specs.Commits.{IsContextAt, not_given}
use Rattle.sl_decode_meaning.specs.Actions.{address_bytes}
use Rattle.sl_decode_meaning.specs.Choices.{Choice}
use Rattle.sl_decode_meaning.specs.declared.faults.Fault.{Fault}
use Rattle.sl_list_instructions.specs.Instructions.{Listed, Told, instruction, line_at, listing_window, told_at}
use Rattle.sl_list_instructions.specs.Lines.{bytes_at, listed_line}
use Rattle.sl_list_instructions.specs.Listing.{image_from, subject}
use Rattle.sl_list_instructions.specs.Listings.{Lists, ended, shown}
use Rattle.sl_list_instructions.specs.Told.{tells}
use Rattle.sl_spec.specs.declared.tables.Tables.{Tables}

-- ---- one line

nothing_behind : (xs : List ℕ) → xs ++ [] ≡ xs
nothing_behind [] = refl
nothing_behind (x ∷ xs) = ap (λ (l : List ℕ). x ∷ l) (nothing_behind xs)

all_bytes : (bytes : List ℕ) → bytes_at bytes 0 (length bytes) ≡ bytes
all_bytes bytes = take-append_seam bytes (replicate (length bytes) 0)

module _ (t : Tables) (cs : List (Placed Constructor)) (address context : ℕ) (text bytes : List ℕ)
    (aligned : address % t.alignment ≡ 0) (fits : context < 2 ^ 64) (e : Encodes t cs address context text bytes) where
  abbrev from_start : Type 0
  from_start = Lists (Listed (subject t cs e.choose (image_from bytes address context))) (length bytes) 0 []
      (listed_line (address_bytes t) address bytes text)

  at_start : address + 0 ≡ address
  at_start = omega arith

  start_context : IsContextAt context [] (address + 0) context
  start_context = λ i lt. not_given refl

  told_there : told_at (subject t cs e.choose (image_from bytes address context)) 0 context ≡ Ok e.encoding.told
  told_there = ap (λ (a : ℕ). tells t cs e.choose (bytes_at bytes 0 listing_window) a context) at_start ∙ e.encoding.is

  aligned_there : (address + 0) % t.alignment ≡ 0
  aligned_there = ap (λ (a : ℕ). a % t.alignment) at_start ∙ aligned

  line_is : line_at (subject t cs e.choose (image_from bytes address context)) 0 e.encoding.told.length e.encoding.told.text
      ≡ listed_line (address_bytes t) address bytes text
  line_is =
      ap (λ (a : ℕ). listed_line (address_bytes t) a (bytes_at bytes 0 e.encoding.told.length) e.encoding.told.text) at_start
      ∙ ap (λ (n : ℕ). listed_line (address_bytes t) address (bytes_at bytes 0 n) e.encoding.told.text) e.encoding.long
      ∙ ap (λ (bs : List ℕ). listed_line (address_bytes t) address bs e.encoding.told.text) (all_bytes bytes)
      ∙ ap (λ (s : List ℕ). listed_line (address_bytes t) address bytes s) e.encoding.shows

  lists : from_start
  lists =
      let behind : length bytes ≤ 0 + e.encoding.told.length = omega (arith, e.encoding.long) in
      let first = shown (omega (arith, e.encoding.some)) (instruction aligned_there fits start_context told_there) (ended behind) in
      subst (λ (l : List ℕ). Lists (Listed (subject t cs e.choose (image_from bytes address context))) (length bytes) 0 [] l)
      (nothing_behind _ ∙ line_is) first

pub encoding_is_listed : EncodingIsListed
encoding_is_listed t cs address context text bytes aligned fits e = record {
  choose = e.choose;
  is_choice = e.is_choice;
  lists = lists t cs address context text bytes aligned fits e;
}

-- ---- one text

same_told : (a b : Told) → ◌≡◌ {A = Result Told Fault} (Ok a) (Ok b) → a ≡ b
same_told a b e = cc

pub has_length_too : HasLengthToo
has_length_too t cs address context text bytes choose told is_choice e decodes =
    let same : e.choose ≡ choose = λ j table p. choice_is_one t cs e.choose choose e.is_choice is_choice table p j in
    let there = subst (λ (c : Choice). tells t cs c (bytes_at bytes 0 listing_window) address context ≡ Ok e.encoding.told) same e.encoding.is in
    let told_is : told ≡ e.encoding.told = same_told told e.encoding.told (sym decodes ∙ there) in
    (ap (λ (x : Told). x.length) told_is ∙ e.encoding.long, ap (λ (x : Told). x.text) told_is ∙ e.encoding.shows)

pub encodes_one_text : EncodesOneText
encodes_one_text t cs address context text other bytes e f =
    let both = has_length_too t cs address context text bytes f.choose f.encoding.told f.is_choice e f.encoding.is in
    sym both.1 ∙ f.encoding.shows
