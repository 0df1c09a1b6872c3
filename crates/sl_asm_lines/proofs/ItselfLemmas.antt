-- Lines that list themselves stay as they are, and what lines come to.
use Rattle.std.proofs.Common.{◌≡◌, ℕ, zero, suc, ◌+◌, ◌-◌, ◌^◌, ◌<◌, ◌%◌, List, [], ◌∷◌, ◌++◌, Result, Ok, Err, length, refl, sym, ap, subst, ◌∙◌, arith, length-append, append-nil, map}
use Rattle.std.specs.Prelude.{codes}
use Rattle.sl_asm_lines.proofs.PatchLemmas.{lines_append, patches_alike, pushed}
use Rattle.sl_asm_lines.specs.Lines.{Line, bytes_of, line_text, shape_of}
use Rattle.sl_asm_lines.specs.Patching.{AreAlike, HasLines, HasNoEncoding, IsListedAs, IsListedOtherwise, IsUndecided, ListsItself, Patches, begun, kept, replaced, subject_at}
use Rattle.sl_asm_lines.specs.Kept.{AreKept}
use Rattle.sl_asm_lines.specs.Patched.{LinesFail, LinesGive}
use Rattle.sl_asm_lines.specs.Steps.{ArePatched, IsFirstOther}
use Rattle.sl_asm_lines.specs.declared.faults.LineFault.TheVariants.{NoEncoding, Undecided}
use Rattle.sl_asm_lines.specs.declared.listing.ShownLine.{ShownLine}
use Rattle.sl_decode_contexts.proofs.LawLemmas.{one_context, some_context}
use Rattle.sl_decode_contexts.specs.Commits.{IsContextAt}
use Rattle.sl_decode_contexts.specs.declared.commits.Commit.{Commit}
use Rattle.sl_decode_meaning.specs.declared.faults.Fault.{Fault}
use Rattle.sl_list_instructions.specs.Instructions.{DecodeFunction, Listed, Subject, Told, instruction, line_at, mark_of, misaligned, told_at, undecoded}

-- ---- what is listed at a position is one

-- what is listed: a text, how many bytes it covers, and the commits
pub record What : Type 0 where
  pub text : List ℕ
  pub count : ℕ
  pub made : List Commit

module _ (s : Subject) (at : ℕ) where
  -- by the rest of the address, and by the decode
  what : ℕ → Result Told Fault → What
  what zero (Ok told) = record { text = line_at s at told.length told.text; count = told.length; made = told.commits }
  what zero (Err fault) = record { text = line_at s at s.alignment (mark_of fault); count = s.alignment; made = [] }
  what (suc k) r = record { text = line_at s at (s.alignment - suc k) (codes "?align"); count = s.alignment - suc k; made = [] }

  what_is : (cs : List Commit) (text : List ℕ) (count : ℕ) (made : List Commit) (x : ℕ) → x < 2 ^ 64 → IsContextAt s.start cs (s.base + at) x
      → Listed s at cs text count made → ◌≡◌ {A = What} (record { text = text; count = count; made = made }) (what ((s.base + at) % s.alignment) (told_at s at x))
  unfolding what
  what_is cs text count made x small is (instruction {context = y} {told = t} aligned below context tells) =
      let same : y ≡ x = one_context s.start cs (s.base + at) y x below small context is in
      ap (λ r. what zero r) (sym tells ∙ ap (told_at s at) same) ∙ ap (λ n. what n (told_at s at x)) (sym aligned)
  what_is cs text count made x small is (undecoded {context = y} {fault = f} aligned below context tells) =
      let same : y ≡ x = one_context s.start cs (s.base + at) y x below small context is in
      ap (λ r. what zero r) (sym tells ∙ ap (told_at s at) same) ∙ ap (λ n. what n (told_at s at x)) (sym aligned)
  what_is cs text count made x small is (misaligned {beyond = zero} beyond some) = absurd (omega (arith, some))
  what_is cs text count made x small is (misaligned {beyond = suc k} beyond some) = ap (λ n. what n (told_at s at x)) (sym beyond)

  pub one_listed : (cs : List Commit) (text other : List ℕ) (count many : ℕ) (made also : List Commit) → Listed s at cs text count made → Listed s at cs other many also
      → ◌≡◌ {A = What} (record { text = text; count = count; made = made }) (record { text = other; count = many; made = also })
  one_listed cs text other count many made also a b =
      let x = some_context s.start cs (s.base + at) in
      what_is cs text count made x.0 x.1 x.2 a ∙ sym (what_is cs other many also x.0 x.1 x.2 b)

-- ---- lines that list themselves

module _ (decodes : DecodeFunction) (size alignment start base : ℕ) where
  abbrev Has : List ℕ → ℕ → List Commit → List Line → List Commit → Type 0
  Has = HasLines decodes size alignment start base

  -- what a listing has before some lines, and from there on
  split : (image : List ℕ) (a b : List Line) (at : ℕ) (cs last : List Commit) → Has image at cs (a ++ b) last
      → (mid : List Commit) × Has image at cs a mid × Has image (at + length (bytes_of a)) mid b last
  split image [] b at cs last h = (cs, refl, subst (λ (n : ℕ). Has image n cs b last) (omega arith) h)
  split image (l ∷ a) b at cs last h =
      let more = split image a b (at + length l.bytes) (cs ++ h.0) last h.2 in (
        more.0,
        (h.0, h.1, more.1),
        subst (λ (n : ℕ). Has image n more.0 b last) (omega (arith, length-append l.bytes (bytes_of a))) more.2,
      )

  one_made : (image : List ℕ) (a : List Line) (at : ℕ) (cs ds es : List Commit) → Has image at cs a ds → Has image at cs a es → ds ≡ es
  one_made image [] at cs ds es h k = sym h ∙ k
  one_made image (l ∷ a) at cs ds es h k =
      let same = ap (λ (w : What). w.made) (one_listed (subject_at decodes size alignment start image base) at cs _ _ _ _ h.0 k.0 h.1 k.1) in
      one_made image a (at + length l.bytes) (cs ++ h.0) ds es h.2 (subst (λ (m : List Commit). Has image (at + length l.bytes) (cs ++ m) a es) (sym same) k.2)

  pub record AreSame (lines done rest : List Line) (cs : List Commit) : Type 0 where
    pub same : done ++ rest ≡ lines
    pub has : Has (bytes_of lines) 0 [] done cs

  not_both : (l : Line) (at : ℕ) (c : List Commit) (image : List ℕ) (m : List Commit) → IsListedAs decodes size alignment start base image at c l m
      → IsListedOtherwise decodes size alignment start base image at c l → ⊥
  not_both l at c image m as_it other =
      let same = one_listed (subject_at decodes size alignment start image base) at c other.text (line_text size (base + at) l) other.count (length l.bytes) other.made m other.listed as_it in
      other.other (ap (λ (w : What). w.text) same, ap (λ (w : What). w.count) same)

  -- no other line is listed after those that are the same
  pub not_other : (lines d r : List Line) (l : Line) (c : List Commit) → ListsItself decodes size alignment start base lines → AreSame lines d (l ∷ r) c
      → IsListedOtherwise decodes size alignment start base (bytes_of (d ++ l ∷ r)) (length (bytes_of d)) c l → ⊥
  not_other lines d r l c lists so_far other =
      let whole = split (bytes_of lines) d (l ∷ r) 0 [] lists.0 (subst (λ (ls : List Line). Has (bytes_of lines) 0 [] ls lists.0) (sym so_far.same) lists.1) in
      let there : IsListedAs decodes size alignment start base (bytes_of lines) (length (bytes_of d)) whole.0 l whole.2.0 =
      subst (λ (k : ℕ). IsListedAs decodes size alignment start base (bytes_of lines) k whole.0 l whole.2.0) (omega arith) whole.2.1 in
      let here : IsListedAs decodes size alignment start base (bytes_of lines) (length (bytes_of d)) c l whole.2.0 =
      subst (λ (es : List Commit). IsListedAs decodes size alignment start base (bytes_of lines) (length (bytes_of d)) es l whole.2.0) (one_made (bytes_of lines) d 0 [] whole.0 c whole.1 so_far.has) there in
      not_both l (length (bytes_of d)) c (bytes_of lines) whole.2.0 here
      (subst (λ (ls : List Line). IsListedOtherwise decodes size alignment start base (bytes_of ls) (length (bytes_of d)) c l) so_far.same other)

  pub itself : (lines done rest : List Line) (cs : List Commit) → ListsItself decodes size alignment start base lines → Patches decodes size alignment start base lines done rest cs
      → AreSame lines done rest cs
  itself lines done rest cs lists begun = record { same = refl; has = refl }
  itself lines done rest cs lists (kept {done = d} {rest = r} {cs = c} {made = m} {l = l} p listed) =
      let so_far = itself lines d (l ∷ r) c lists p in
      let here : IsListedAs decodes size alignment start base (bytes_of lines) (0 + length (bytes_of d)) c l m =
      subst (λ (n : ℕ). IsListedAs decodes size alignment start base (bytes_of lines) n c l m) (omega arith)
      (subst (λ (ls : List Line). IsListedAs decodes size alignment start base (bytes_of ls) (length (bytes_of d)) c l m) so_far.same listed) in record {
        same = sym (pushed d r l) ∙ so_far.same;
        has = lines_append decodes size alignment start base (bytes_of lines) d (l ∷ []) 0 [] c (c ++ m) so_far.has (m, here, refl);
      }
  itself lines done rest cs lists (replaced {done = d} {rest = r} {cs = c} {made = m} {l = l} {new = n} p other by) =
      absurd (not_other lines d r l c lists (itself lines d (l ∷ r) c lists p) other)

  -- ---- so none of their lines is at fault

  pub stuck_is_edited : (lines : List Line) (number : ℕ) → HasNoEncoding decodes size alignment start base lines number → ListsItself decodes size alignment start base lines → ⊥
  stuck_is_edited lines number h lists = not_other lines h.done h.rest h.line h.made lists (itself lines h.done (h.line ∷ h.rest) h.made lists h.patches) h.other

  pub other_is_edited : (lines new : List Line) (made : List Commit) (number : ℕ) → Patches decodes size alignment start base lines new [] made
      → IsFirstOther decodes size alignment start base new number → ListsItself decodes size alignment start base lines → ⊥
  other_is_edited lines new made number p f lists =
      let same : new ≡ lines = sym (append-nil new) ∙ (itself lines new [] made lists p).same in
      let others = subst (λ (ls : List Line). ListsItself decodes size alignment start base ls) (sym same) lists in
      not_other new f.front f.rest f.line f.so_far others (record { same = sym f.parts; has = f.before })
      (subst (λ (ls : List Line). IsListedOtherwise decodes size alignment start base (bytes_of ls) (length (bytes_of f.front)) f.so_far f.line) f.parts f.other)

  pub is_undecided : (lines new : List Line) (made : List Commit) (number : ℕ) → Patches decodes size alignment start base lines new [] made
      → IsFirstOther decodes size alignment start base new number → IsUndecided decodes size alignment start base lines number
  is_undecided lines new made number p f = record {
    front = f.front;
    line = f.line;
    rest = f.rest;
    made = made;
    patches = subst (λ (ls : List Line). Patches decodes size alignment start base lines ls [] made) f.parts p;
    is = f.is;
    so_far = f.so_far;
    before = subst (λ (ls : List Line). HasLines decodes size alignment start base (bytes_of ls) 0 [] f.front f.so_far) f.parts f.before;
    other = subst (λ (ls : List Line). IsListedOtherwise decodes size alignment start base (bytes_of ls) (length (bytes_of f.front)) f.so_far f.line) f.parts f.other;
  }

  -- ---- what all lines come to

  new_alike : (lines new : List Line) (made : List Commit) → Patches decodes size alignment start base lines new [] made → AreAlike new lines
  new_alike lines new made p = ap (map shape_of) (sym (append-nil new)) ∙ patches_alike decodes size alignment start base lines new [] made p

  -- those that were given their bytes are kept in the new image
  pub kept_still : (lines : List Line) (keeps : List ShownLine) (image out : List ℕ) → AreKept image keeps lines → (a : ArePatched decodes size alignment start base lines out)
      → AreKept out keeps a.new
  kept_still lines keeps image out k a = record { image_is = a.image_is; shapes = k.shapes ∙ sym (new_alike lines a.new a.made a.patches) }

  pub lines_give : (lines : List Line) (out : List ℕ) (a : ArePatched decodes size alignment start base lines out) → ListsItself decodes size alignment start base a.new
      → LinesGive decodes size alignment start base lines out
  lines_give lines out a lists = record {
    patched = record {
      new = a.new;
      made = a.made;
      patches = a.patches;
      alike = new_alike lines a.new a.made a.patches;
      image_is = a.image_is;
      lists = lists;
    };
    unedited = λ itself_lists. a.image_is ∙ ap bytes_of (sym (append-nil a.new) ∙ (itself lines a.new [] a.made itself_lists a.patches).same);
  }

  pub undecided_fails : (lines : List Line) (out : List ℕ) (number : ℕ) (a : ArePatched decodes size alignment start base lines out)
      → IsFirstOther decodes size alignment start base a.new number → LinesFail decodes size alignment start base lines number Undecided
  undecided_fails lines out number a f = (is_undecided lines a.new a.made number a.patches f, other_is_edited lines a.new a.made number a.patches f)

  pub stuck_fails : (lines : List Line) (number : ℕ) → HasNoEncoding decodes size alignment start base lines number → LinesFail decodes size alignment start base lines number NoEncoding
  stuck_fails lines number h = (h, stuck_is_edited lines number h)
