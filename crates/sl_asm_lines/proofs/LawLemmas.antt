-- What the image that a text is given lists, and that an unedited one has no line at fault.
use Rattle.std.proofs.Common.{inl, inr, ◌≡◌, ℕ, ◌+◌, ◌≤◌, List, [], ◌∷◌, ◌++◌, length, map, sym, ap, subst, arith, length-append}
use Rattle.std.proofs.lemmas.List.Elements.{All-cons, All-head, All-nil, All-tail}
use Rattle.std.specs.List.{All}
use Rattle.sl_asm_lines.proofs.OutcomeLemmas.{few_bytes}
use Rattle.sl_asm_lines.proofs.UniqueLemmas.{never_bad_address, never_bad_line, same_reading}
use Rattle.sl_asm_lines.specs.Laws.{GivenListsAlike, UneditedNeverFails}
use Rattle.sl_asm_lines.specs.Lines.{IsLine, Line, Shape, bytes_of, shape_of, text_from}
use Rattle.sl_asm_lines.specs.Patched.{TextFails}
use Rattle.sl_asm_lines.specs.Patching.{HasLines, ListsItself, subject_at}
use Rattle.sl_asm_lines.specs.Reading.{IsRead}
use Rattle.sl_asm_lines.specs.declared.faults.LineFault.{LineFault}
use Rattle.sl_asm_lines.specs.declared.faults.LineFault.TheVariants.{BadAddress, BadLine, NoEncoding, Undecided}
use Rattle.sl_bind_compile.specs.Outcomes.{all_constructors}
use Rattle.sl_decode_choices.proofs.ChoiceLemmas.{choice_is_one}
use Rattle.sl_decode_contexts.specs.declared.commits.Commit.{Commit}
use Rattle.sl_decode_meaning.specs.Actions.{address_bytes}
use Rattle.sl_decode_meaning.specs.Choices.{Choice}
use Rattle.sl_list_instructions.specs.Instructions.{DecodeFunction, Listed}
use Rattle.sl_list_instructions.specs.Listings.{Lists, ended, shown}
use Rattle.sl_list_instructions.specs.Told.{tells}

-- ---- lines that are listed are a listing

abbrev ShowsSome : Line → Type 0
ShowsSome l = 1 ≤ length l.bytes

some_alike : (new lines : List Line) → map shape_of new ≡ map shape_of lines → All IsLine lines → All ShowsSome new
some_alike [] lines alike are = All-nil ShowsSome
some_alike (n ∷ new) [] alike are = absurd (omega (arith, ap length alike))
some_alike (n ∷ new) (l ∷ lines) alike are =
    let one : shape_of n ≡ shape_of l = cc in
    let others : map shape_of new ≡ map shape_of lines = cc in
    let line = All-head IsLine l lines are in
    All-cons ShowsSome n new (omega (arith, line.some, ap (λ (s : Shape). s.count) one)) (some_alike new lines others (All-tail IsLine l lines are))

module _ (decodes : DecodeFunction) (size alignment start base : ℕ) (image : List ℕ) where
  lists_from : (lines : List Line) (at : ℕ) (cs last : List Commit) → All ShowsSome lines → length image ≡ at + length (bytes_of lines)
      → HasLines decodes size alignment start base image at cs lines last
      → Lists (Listed (subject_at decodes size alignment start image base)) (length image) at cs (text_from size (base + at) lines)
  lists_from [] at cs last some end has = ended (omega (arith, end))
  lists_from (l ∷ lines) at cs last some end has =
      let own : 1 ≤ length l.bytes = All-head ShowsSome l lines some in
      let more = lists_from lines (at + length l.bytes) (cs ++ has.0) last (All-tail ShowsSome l lines some) (omega (arith, end, length-append l.bytes (bytes_of lines))) has.2 in
      let moved : base + (at + length l.bytes) ≡ base + at + length l.bytes = omega arith in
      shown (omega (arith, own, end, length-append l.bytes (bytes_of lines))) has.1
      (subst (λ (n : ℕ). Lists (Listed (subject_at decodes size alignment start image base)) (length image) (at + length l.bytes) (cs ++ has.0) (text_from size n lines)) moved more)

pub given_lists_alike : GivenListsAlike
given_lists_alike t cs start text image g =
    let patched = g.gives.holds.patched in
    let base = g.gives.base in
    let size = address_bytes t in
    let decodes : DecodeFunction = tells t cs g.choose in
    let whole = lists_from decodes size t.alignment start base (bytes_of patched.new) patched.new 0 [] patched.lists.0
    (some_alike patched.new g.gives.lines patched.alike g.gives.is_read.are_lines) (omega arith) patched.lists.1 in
    let from_base = subst (λ (n : ℕ). Lists (Listed (subject_at decodes size t.alignment start (bytes_of patched.new) base)) (length (bytes_of patched.new)) 0 [] (text_from size n patched.new))
    (let same : base + 0 ≡ base = omega arith in same) whole in record {
      base = base;
      lines = g.gives.lines;
      new = patched.new;
      is_read = g.gives.is_read;
      alike = patched.alike;
      lists = record {
        choose = g.choose;
        is_choice = g.is_choice;
        lists = subst (λ (bytes : List ℕ). Lists (Listed (subject_at decodes size t.alignment start bytes base)) (length bytes) 0 [] (text_from size base patched.new)) (sym patched.image_is) from_base;
      };
    }

-- ---- a text that wasn't edited

module _ (decodes : DecodeFunction) (size alignment start : ℕ) (most : size ≤ 8) (text : List ℕ) (other : ℕ) (ls : List Line) (is : IsRead size text other ls)
    (lists : ListsItself decodes size alignment start other ls) where
  -- whichever way it is read
  lists_too : (base : ℕ) (lines : List Line) → IsRead size text base lines → ListsItself decodes size alignment start base lines
  lists_too base lines r =
      let same = same_reading size most text other ls is base lines r in
      elim same.base_is [
        | inl none ↦ subst (λ (xs : List Line). ListsItself decodes size alignment start base xs) (sym none) ([], λ i. [])
        | inr at ↦ subst (λ (n : ℕ). ListsItself decodes size alignment start n lines) (sym at) (subst (λ (xs : List Line). ListsItself decodes size alignment start other xs) (sym same.lines_are) lists)
      ]

  text_never_fails : (number : ℕ) (fault : LineFault) → TextFails decodes size alignment start text number fault → ⊥
  text_never_fails number BadLine f = never_bad_line size most text other ls is number f
  text_never_fails number BadAddress f = never_bad_address size most text other ls is number f
  text_never_fails number NoEncoding f = f.holds.1 (lists_too f.base f.lines f.is_read)
  text_never_fails number Undecided f = f.holds.1 (lists_too f.base f.lines f.is_read)

pub unedited_never_fails : UneditedNeverFails
unedited_never_fails items t start text compiles u number fault f =
    let cs = all_constructors items in
    let same : f.choose ≡ u.choose = λ j table p. choice_is_one t cs f.choose u.choose f.is_choice u.is_choice table p j in
    text_never_fails (tells t cs u.choose) (address_bytes t) t.alignment start (few_bytes items t compiles) text u.base u.lines u.is_read u.lists number fault
    (subst (λ (c : Choice). TextFails (tells t cs c) (address_bytes t) t.alignment start text number fault) same f.fails)
