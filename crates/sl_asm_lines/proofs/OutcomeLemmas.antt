-- Something comes of each text: an image, or a line that is at fault.
use Rattle.std.proofs.Common.{◌⊎◌, inl, inr, ◌≡◌, ℕ, zero, suc, ◌+◌, ◌<◌, ◌≤◌, Bool, true, false, cond, List, [], ◌∷◌, ◌++◌, Ok, length, refl, sym, ap, subst, ◌∙◌, arith, append-nil, length-append, slice_get, Some}
use Rattle.std.specs.List.{find}
use Rattle.std.proofs.lemmas.List.Elements.{All-nil}
use Rattle.hex.specs.Hex.{encode_lower}
use Rattle.sl_asm_encodings.specs.Encodings.{IsEncoding}
use Rattle.sl_asm_lines.proofs.ItselfLemmas.{lines_give, stuck_fails, undecided_fails}
use Rattle.sl_asm_lines.proofs.NumberLemmas.{lowest_address}
use Rattle.sl_asm_lines.proofs.PatchLemmas.{lines_append, pushed}
use Rattle.sl_asm_lines.proofs.ReadingLemmas.{begins_more}
use Rattle.sl_asm_lines.specs.Fronts.{line_of}
use Rattle.sl_asm_lines.specs.Laws.{SomeOutcome}
use Rattle.sl_asm_lines.specs.Lines.{IsLine, Line, bytes_of, line_text}
use Rattle.sl_asm_lines.specs.Nexts.{base_after}
use Rattle.sl_asm_lines.specs.Patched.{LinesFail, LinesGive, TextFails, TextGives}
use Rattle.sl_asm_lines.specs.Patching.{HasLines, HasNone, HasNoEncoding, IsListedAs, IsListedOtherwise, IsReplaced, ListsItself, Patches, begun, kept, replaced, subject_at}
use Rattle.sl_asm_lines.specs.Reading.{BeginsBy, CanFollow, IsBadAddress, IsBadLine, IsFront, IsRead}
use Rattle.sl_asm_lines.specs.Steps.{ArePatched, IsFirstOther}
use Rattle.sl_asm_lines.specs.declared.faults.LineFault.{LineFault}
use Rattle.sl_asm_lines.specs.declared.faults.LineFault.TheVariants.{BadAddress, BadLine, NoEncoding, Undecided}
use Rattle.sl_ast.specs.Trees.{Item}
use Rattle.sl_base_surely.proofs.SurelyLemmas.{surely, surely_either, surely_map, surely_then}
use Rattle.sl_base_surely.specs.Surely.{Surely}
use Rattle.sl_bind_compile.specs.Outcomes.{Compiles, all_constructors}
use Rattle.sl_decode_choices.proofs.ChoiceLemmas.{some_choice}
use Rattle.sl_decode_choices.specs.Choices.{IsChoiceOf}
use Rattle.sl_decode_contexts.proofs.LawLemmas.{some_context}
use Rattle.sl_decode_contexts.specs.declared.commits.Commit.{Commit}
use Rattle.sl_decode_meaning.specs.Actions.{address_bytes, size_or_all}
use Rattle.sl_decode_meaning.specs.Choices.{Choice}
use Rattle.sl_faithful_places.proofs.PlaceLemmas.{taken_are_defined}
use Rattle.sl_list_instructions.proofs.AcceptedLemmas.{accepted}
use Rattle.sl_list_instructions.proofs.ImageLawLemmas.{goes_on}
use Rattle.sl_list_instructions.proofs.LawLemmas.{IsShown, is_shown}
use Rattle.sl_list_instructions.specs.Instructions.{DecodeFunction, Listed}
use Rattle.sl_list_instructions.specs.Lines.{address_text}
use Rattle.sl_list_instructions.specs.Listing.{image_from}
use Rattle.sl_list_instructions.specs.Told.{tells}
use Rattle.sl_spec.specs.Tables.{Space}
use Rattle.sl_spec.specs.declared.tables.Tables.{Tables}

-- ---- the text is read, or has a line that can't be

module _ (size : ℕ) (most : size ≤ 8) (text : List ℕ) where
  abbrev IsReadOr : Type 0
  IsReadOr = ((base : ℕ) × (lines : List Line) × IsRead size text base lines)
      ⊎ (((number : ℕ) × IsBadLine size text number) ⊎ ((number : ℕ) × IsBadAddress size text number))

  -- a line at the front has an address in the space
  front_of : (rest : List ℕ) (address : ℕ) (l : Line) (more : List ℕ) → IsLine l → rest ≡ line_text size address l ++ more
      → (a : ℕ) × IsFront size rest a l more
  front_of rest address l more line is =
      let low = lowest_address size most address in (
        low.0,
        record {
          is = is ∙ ap (λ (digits : List ℕ). (digits ++ (58 ∷ 32 ∷ (encode_lower l.bytes ++ 32 ∷ (l.text ++ 10 ∷ [])))) ++ more) (sym low.2);
          is_line = line;
          in_space = low.1;
        },
      )

  front_takes : (rest : List ℕ) (a : ℕ) (l : Line) (more : List ℕ) → IsFront size rest a l more → length more < length rest
  front_takes rest a l more f = omega (
    arith,
    ap length f.is,
    length-append (line_text size a l) more,
    length-append (address_text size a) (58 ∷ 32 ∷ (encode_lower l.bytes ++ 32 ∷ (l.text ++ 10 ∷ []))),
  )

  read_from : (fuel base : ℕ) (lines : List Line) (rest : List ℕ) → length rest ≤ fuel → BeginsBy size text base lines rest → Surely IsReadOr
  read_from fuel base lines [] short b = surely (inl (base, lines, b))
  read_from zero base lines (c ∷ rest) short b = absurd (omega (arith, short))
  read_from (suc fuel) base lines (c ∷ rest) short b =
      surely_then (surely_either ((a : ℕ) × (l : Line) × (more : List ℕ) × IsFront size (c ∷ rest) a l more)) (λ found. elim found [
        | inl f ↦ surely_then (surely_either (CanFollow size base lines f.0 f.1)) (λ can. elim can [
          | inl follows ↦ read_from fuel (base_after lines base f.0) (lines ++ f.1 ∷ []) f.2 (omega (arith, short, front_takes (c ∷ rest) f.0 f.1 f.2 f.3))
              (begins_more size text base f.0 lines (c ∷ rest) f.1 f.2 b f.3 follows)
          | inr not ↦ surely (inr (inr (
            length lines + 1,
            record { base = base; lines = lines; rest = c ∷ rest; before = b; is = refl; address = f.0; line = f.1; more = f.2; front = f.3; bad = not },
          )))
        ])
        | inr none ↦ surely (inr (inl (
          length lines + 1,
          record {
            base = base;
            lines = lines;
            rest = c ∷ rest;
            before = b;
            is = refl;
            there = λ e. omega (arith, ap length e);
            bad = λ address l more line is. let f = front_of (c ∷ rest) address l more line is in none (f.0, l, more, f.1);
          },
        )))
      ])

  pub read_or : Surely IsReadOr
  read_or = read_from (length text) 0 [] text (omega arith) (record { is = refl; are_lines = All-nil IsLine; fits = omega arith })

-- ---- the lines are given their bytes, or one has no encoding

module _ (decodes : DecodeFunction) (size alignment start : ℕ)
    (shows : (image : List ℕ) (first at : ℕ) (cs : List Commit) → IsShown (Listed (subject_at decodes size alignment start image first)) at cs) (base : ℕ) where
  abbrev IsShownSo : List ℕ → ℕ → List Commit → Line → Type 0
  IsShownSo image at cs l = (made : List Commit) × IsListedAs decodes size alignment start base image at cs l made

  -- the line is listed there, or another one
  listed_or : (image : List ℕ) (at : ℕ) (cs : List Commit) (l : Line) → Surely (IsShownSo image at cs l ⊎ IsListedOtherwise decodes size alignment start base image at cs l)
  listed_or image at cs l =
      let s = shows image base at cs in
      surely_map (λ same. elim same [
        | inl is ↦ inl (
          s.made,
          subst (λ (n : ℕ). Listed (subject_at decodes size alignment start image base) at cs (line_text size (base + at) l) n s.made) is.1
              (subst (λ (xs : List ℕ). Listed (subject_at decodes size alignment start image base) at cs xs s.count s.made) is.0 s.shows_it),
        )
        | inr other ↦ inr (record { text = s.text; count = s.count; made = s.made; listed = s.shows_it; other = other })
      ]) (surely_either ((s.text ≡ line_text size (base + at) l) × (s.count ≡ length l.bytes)))

  abbrev IsReplacedSo : ℕ → List Commit → Line → Type 0
  IsReplacedSo at cs l = (new : Line) × (made : List Commit) × IsReplaced decodes size alignment start base at cs l new made

  -- it has an encoding, or none
  replaced_or : (at : ℕ) (cs : List Commit) (l : Line) → Surely (IsReplacedSo at cs l ⊎ HasNone decodes size alignment start base at cs l)
  replaced_or at cs l =
      let x = some_context start cs (base + at) in
      surely_map (λ found. elim found [
        | inl e ↦
            let s = shows e.0 (base + at) 0 cs in inl (
              line_of e.0 l.text,
              s.made,
              record {
                context = x.0;
                below = x.1;
                is_context = x.2;
                encoding = e.2;
                alike = ap (λ (n : ℕ). record { count = n; text = l.text }) e.1;
                text = s.text;
                count = s.count;
                listed = s.shows_it;
              },
            )
        | inr none ↦ inr (record { context = x.0; below = x.1; is_context = x.2; none = λ bytes long e. none (bytes, long, e) })
      ]) (surely_either ((bytes : List ℕ) × (length bytes ≡ length l.bytes) × IsEncoding decodes (base + at) x.0 l.text bytes))

  abbrev IsPatchedOr : List Line → Type 0
  IsPatchedOr lines = ((new : List Line) × (made : List Commit) × Patches decodes size alignment start base lines new [] made)
      ⊎ ((number : ℕ) × HasNoEncoding decodes size alignment start base lines number)

  patched_or : (lines done rest : List Line) (cs : List Commit) → Patches decodes size alignment start base lines done rest cs → Surely (IsPatchedOr lines)
  patched_or lines done [] cs p = surely (inl (done, cs, p))
  patched_or lines done (l ∷ rest) cs p =
      surely_then (listed_or (bytes_of (done ++ l ∷ rest)) (length (bytes_of done)) cs l) (λ found. elim found [
        | inl stays ↦ patched_or lines (done ++ l ∷ []) rest (cs ++ stays.0) (kept p stays.1)
        | inr other ↦ surely_then (replaced_or (length (bytes_of done)) cs l) (λ by. elim by [
          | inl r ↦ patched_or lines (done ++ r.0 ∷ []) rest (cs ++ r.1) (replaced p other r.2)
          | inr none ↦ surely (inr (length done + 1, record { done = done; line = l; rest = rest; made = cs; patches = p; is = refl; other = other; none = none }))
        ])
      ])

  -- ---- the image lists itself, or a line is the first that isn't listed

  abbrev ListsOr : List Line → Type 0
  ListsOr lines = ListsItself decodes size alignment start base lines ⊎ ((number : ℕ) × IsFirstOther decodes size alignment start base lines number)

  lists_or : (lines front rest : List Line) (cs : List Commit) → lines ≡ front ++ rest → HasLines decodes size alignment start base (bytes_of lines) 0 [] front cs → Surely (ListsOr lines)
  lists_or lines front [] cs parts has =
      surely (inl (cs, subst (λ (ls : List Line). HasLines decodes size alignment start base (bytes_of lines) 0 [] ls cs) (sym (parts ∙ append-nil front)) has))
  lists_or lines front (l ∷ rest) cs parts has =
      surely_then (listed_or (bytes_of lines) (length (bytes_of front)) cs l) (λ found. elim found [
        | inl stays ↦
            let here : IsListedAs decodes size alignment start base (bytes_of lines) (0 + length (bytes_of front)) cs l stays.0 =
            subst (λ (n : ℕ). IsListedAs decodes size alignment start base (bytes_of lines) n cs l stays.0) (omega arith) stays.1 in
            lists_or lines (front ++ l ∷ []) rest (cs ++ stays.0) (parts ∙ pushed front rest l)
            (lines_append decodes size alignment start base (bytes_of lines) front (l ∷ []) 0 [] cs (cs ++ stays.0) has (stays.0, here, refl))
        | inr other ↦ surely (inr (length front + 1, record { front = front; line = l; rest = rest; parts = parts; is = refl; so_far = cs; before = has; other = other }))
      ])

  -- ---- what comes of lines, and of a text

  abbrev LinesOutcome : List Line → Type 0
  LinesOutcome lines = ((image : List ℕ) × LinesGive decodes size alignment start base lines image)
      ⊎ ((number : ℕ) × (fault : LineFault) × LinesFail decodes size alignment start base lines number fault)

  lines_outcome : (lines : List Line) → Surely (LinesOutcome lines)
  lines_outcome lines = surely_then (patched_or lines [] lines [] begun) (λ found. elim found [
    | inl done ↦
        let image = bytes_of done.0 in
        let a : ArePatched decodes size alignment start base lines image = record { new = done.0; made = done.1; patches = done.2; image_is = refl } in
        surely_map (λ itself. elim itself [
          | inl lists ↦ inl (image, lines_give decodes size alignment start base lines image a lists)
          | inr other ↦ inr (other.0, Undecided, undecided_fails decodes size alignment start base lines image other.0 a other.1)
        ]) (lists_or done.0 [] done.0 [] refl refl)
    | inr stuck ↦ surely (inr (stuck.0, NoEncoding, stuck_fails decodes size alignment start base lines stuck.0 stuck.1))
  ])

module _ (decodes : DecodeFunction) (size alignment start : ℕ) (text : List ℕ) where
  abbrev TextOutcome : Type 0
  TextOutcome = ((image : List ℕ) × TextGives decodes size alignment start text image)
      ⊎ ((number : ℕ) × (fault : LineFault) × TextFails decodes size alignment start text number fault)

  text_fails : (base : ℕ) (lines : List Line) → IsRead size text base lines → (number : ℕ) (fault : LineFault) → LinesFail decodes size alignment start base lines number fault
      → TextFails decodes size alignment start text number fault
  text_fails base lines is number BadLine f = absurd f
  text_fails base lines is number BadAddress f = absurd f
  text_fails base lines is number NoEncoding f = record { base = base; lines = lines; is_read = is; holds = f }
  text_fails base lines is number Undecided f = record { base = base; lines = lines; is_read = is; holds = f }

  text_outcome : size ≤ 8 → ((image : List ℕ) (first at : ℕ) (cs : List Commit) → IsShown (Listed (subject_at decodes size alignment start image first)) at cs) → Surely TextOutcome
  text_outcome most shows = surely_then (read_or size most text) (λ found. elim found [
    | inl r ↦ surely_map (λ outcome. elim outcome [
      | inl g ↦ inl (g.0, record { base = r.0; lines = r.1; is_read = r.2; holds = g.1 })
      | inr f ↦ inr (f.0, f.1, text_fails r.0 r.1 r.2 f.0 f.1 f.2)
    ]) (lines_outcome decodes size alignment start shows r.0 r.1)
    | inr (inl bad) ↦ surely (inr (bad.0, BadLine, bad.1))
    | inr (inr bad) ↦ surely (inr (bad.0, BadAddress, bad.1))
  ])

-- ---- by a specification

found_small : (zs : List Space) → ((k : ℕ) (z : Space) → slice_get zs k ≡ Some z → (1 ≤ z.size) × (z.size ≤ 8)) → size_or_all (find (λ s. s.default) zs) ≤ 8
found_small [] each = omega arith
found_small (z ∷ zs) each = by z.default (found_small zs (λ k. each (suc k)))
  where
    by : (b : Bool) → size_or_all (find (λ s. s.default) zs) ≤ 8 → size_or_all (cond b (Some z) (find (λ s. s.default) zs)) ≤ 8
    by true later = (each 0 z refl).1
    by false later = later

-- addresses have at most eight bytes
pub few_bytes : (items : List Item) (t : Tables) → Compiles items (Ok t) → address_bytes t ≤ 8
few_bytes items t compiles = found_small t.spaces (taken_are_defined items t (accepted items t compiles).keeps_rules).spaces

pub some_outcome : SomeOutcome
some_outcome items t start text compiles =
    let is = accepted items t compiles in
    let cs = all_constructors items in
    surely_then (some_choice t cs is.stand.listed is.sound) (λ (c : (choose : Choice) × IsChoiceOf t cs choose).
    surely_map (λ outcome. elim outcome [
      | inl g ↦ inl (g.0, record { choose = c.0; is_choice = c.1; gives = g.1 })
      | inr f ↦ inr (f.0, f.1, record { choose = c.0; is_choice = c.1; fails = f.2 })
    ]) (text_outcome (tells t cs c.0) (address_bytes t) t.alignment start text (few_bytes items t compiles)
    (λ image first at ds. is_shown (subject_at (tells t cs c.0) (address_bytes t) t.alignment start image first) (goes_on items t compiles c.0 c.1 (image_from image first start)) at ds)))
