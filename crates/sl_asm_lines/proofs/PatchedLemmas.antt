-- What the text of an edited listing comes to, by the specification.
use Rattle.std.proofs.Common.{◌≡◌, ℕ, ◌+◌, ◌^◌, ◌≤◌, List, [], ◌∷◌, ◌++◌, Option, Some, None, Result, Ok, Err, drop, length, map, take, ap, subst, sym, ◌∙◌, arith, length-append}
use Rattle.std.proofs.lemmas.List.{take_at}
use Rattle.std.specs.Prelude.{IfOk, MatchOption, MatchResult}
use Rattle.sl_asm_lines.proofs.EncoderLemmas.{decodes_alike}
use Rattle.sl_asm_lines.specs.Kept.{AreKept, IsFault, IsKept, kept_shape}
use Rattle.sl_asm_lines.specs.Lines.{Line, Shape, bytes_of, shape_of}
use Rattle.sl_asm_lines.specs.Patched.{Fails, Gives, LinesFail, LinesGive, TextFails, TextGives}
use Rattle.sl_asm_lines.specs.Readers.{decoding_of, own_tables_of}
use Rattle.sl_asm_lines.specs.Reading.{IsRead}
use Rattle.sl_asm_lines.specs.Steps.{total}
use Rattle.sl_asm_lines.specs.declared.faults.LineError.{LineError}
use Rattle.sl_asm_lines.specs.declared.faults.LineFault.{LineFault}
use Rattle.sl_asm_lines.specs.declared.faults.LineFault.TheVariants.{BadAddress, BadLine, NoEncoding, Undecided}
use Rattle.sl_asm_lines.specs.declared.listing.EditedListing.{EditedListing}
use Rattle.sl_asm_lines.specs.declared.listing.ShownLine.{ShownLine}
use Rattle.sl_asm_narrow.specs.Readers.{IsReader, tables_of, written_of}
use Rattle.sl_asm_narrow.specs.declared.reader.Reader.{Reader}
use Rattle.sl_ast.specs.Views.{items_of}
use Rattle.sl_bind_compile.specs.Outcomes.{all_constructors}
use Rattle.sl_bind_compile.specs.declared.compiled.Compiled.{Compiled}
use Rattle.sl_decode_choices.specs.Choosers.{chosen}
use Rattle.sl_decode_meaning.specs.Actions.{address_bytes}
use Rattle.sl_decode_meaning.specs.Choices.{Choice}
use Rattle.sl_list_instructions.specs.Instructions.{DecodeFunction}
use Rattle.sl_list_instructions.specs.Told.{tells}
use Rattle.sl_spec.specs.declared.tables.Tables.{Tables}
use Rattle.sl_word.proofs.Powers.{bytes_mono}

-- ---- by cases

pub some_of : {T : Type 0} (o : Option T) (x : T) (N : Type 0) (P : T → Type 0) → MatchOption o N P → o ≡ Some x → P x
some_of o x N P h is = subst (λ q. MatchOption q N P) is h

pub none_of : {T : Type 0} (o : Option T) (N : Type 0) (P : T → Type 0) → MatchOption o N P → o ≡ None → N
none_of o N P h is = subst (λ q. MatchOption q N P) is h

pub ok_of : {T E : Type 0} (r : Result T E) (x : T) (P : T → Type 0) (Q : E → Type 0) → MatchResult r P Q → r ≡ Ok x → P x
ok_of r x P Q h is = subst (λ q. MatchResult q P Q) is h

-- ---- an image that was written over

pub all_over : (old new : List ℕ) (n : ℕ) → length new ≡ length old → n ≡ length old → take n (new ++ drop (length new) old) ≡ new
all_over old new n long whole = take_at new (drop (length new) old) n (long ∙ sym whole)

-- ---- as many bytes as the lines show

pub total_shapes : (keeps : List ShownLine) (lines : List Line) → map kept_shape keeps ≡ map shape_of lines → total keeps ≡ length (bytes_of lines)
total_shapes [] [] is = λ i. 0
total_shapes [] (l ∷ ls) is = absurd (omega (arith, ap length is))
total_shapes (k ∷ ks) [] is = absurd (omega (arith, ap length is))
total_shapes (k ∷ ks) (l ∷ ls) is =
    let one : kept_shape k ≡ shape_of l = cc in
    let others : map kept_shape ks ≡ map shape_of ls = cc in
    omega (arith, ap (λ (s : Shape). s.count) one, total_shapes ks ls others, length-append l.bytes (bytes_of ls))

pub total_kept : (image : List ℕ) (keeps : List ShownLine) (lines : List Line) → AreKept image keeps lines → total keeps ≡ length image
total_kept image keeps lines k = omega (arith, total_shapes keeps lines k.shapes, ap length k.image_is)

pub in_words : (size : ℕ) (text : List ℕ) (listing : EditedListing) → size ≤ 8 → IsKept size text listing → listing.base + length listing.image.items ≤ 18446744073709551616
in_words size text listing few k =
    let most : 256 ^ size ≤ 18446744073709551616 = bytes_mono size 8 few in
    omega (arith, most, k.is_read.fits, ap length k.are_kept.image_is)

-- ---- the text, by its lines

module _ (decodes : DecodeFunction) (size alignment start : ℕ) (text : List ℕ) where
  pub faulty : (number : ℕ) (fault : LineFault) → IsFault size text number fault → TextFails decodes size alignment start text number fault
  faulty number BadLine f = f
  faulty number BadAddress f = f
  faulty number NoEncoding f = absurd f
  faulty number Undecided f = absurd f

  text_fails : (base : ℕ) (lines : List Line) → IsRead size text base lines → (number : ℕ) (fault : LineFault) → LinesFail decodes size alignment start base lines number fault
      → TextFails decodes size alignment start text number fault
  text_fails base lines is number BadLine f = absurd f
  text_fails base lines is number BadAddress f = absurd f
  text_fails base lines is number NoEncoding f = record { base = base; lines = lines; is_read = is; holds = f }
  text_fails base lines is number Undecided f = record { base = base; lines = lines; is_read = is; holds = f }

  pub text_comes_to : {V : Type 0} (items : V → List ℕ) (listing : EditedListing) → IsKept size text listing → (r : Result V LineError)
      → ((ls : List Line) → AreKept listing.image.items listing.lines.items ls → MatchResult r (λ all. LinesGive decodes size alignment start listing.base ls (items all))
      (λ e. LinesFail decodes size alignment start listing.base ls e.number e.fault))
      → MatchResult r (λ image. TextGives decodes size alignment start text (items image)) (λ e. TextFails decodes size alignment start text e.number e.fault)
  text_comes_to items listing k (Ok v) h = record { base = listing.base; lines = k.lines; is_read = k.is_read; holds = h k.lines k.are_kept }
  text_comes_to items listing k (Err e) h = text_fails listing.base k.lines k.is_read e.number e.fault (h k.lines k.are_kept)

pub comes_to : {V E : Type 0} (items : V → List ℕ) (decodes other : DecodeFunction) (size bytes alignment start : ℕ) (text : List ℕ) (listing : EditedListing) (keeps : List ShownLine)
    → IsKept size text listing → ◌≡◌ {A = DecodeFunction} decodes other → size ≡ bytes → keeps ≡ listing.lines.items → (result : Result (Result V LineError) E)
    → IfOk result (λ r. (ls : List Line) → AreKept listing.image.items keeps ls → MatchResult r (λ all. LinesGive decodes size alignment start listing.base ls (items all))
    (λ e. LinesFail decodes size alignment start listing.base ls e.number e.fault))
    → IfOk result (λ r. MatchResult r (λ image. TextGives other bytes alignment start text (items image)) (λ e. TextFails other bytes alignment start text e.number e.fault))
comes_to items decodes other size bytes alignment start text listing keeps k same as_long kept (Err e) h = h
comes_to items decodes other size bytes alignment start text listing keeps k same as_long kept (Ok r) h =
    subst (λ (d : DecodeFunction). MatchResult r (λ image. TextGives d bytes alignment start text (items image)) (λ e. TextFails d bytes alignment start text e.number e.fault)) same
    (subst (λ (n : ℕ). MatchResult r (λ image. TextGives decodes n alignment start text (items image)) (λ e. TextFails decodes n alignment start text e.number e.fault)) as_long
    (text_comes_to decodes size alignment start text items listing k r
    (λ ls a. h ls (subst (λ (ks : List ShownLine). AreKept listing.image.items ks ls) (sym kept) a))))

-- ---- the specification's own words

module _ (r : Reader) (is : IsReader r) (start : ℕ) (text : List ℕ) where
  abbrev choice : Choice
  choice = chosen r.disassembly.now.disassembler.choosers

  same : ◌≡◌ {A = DecodeFunction} (decoding_of r) (tells (tables_of r) (written_of r) choice)
  same = decodes_alike r.disassembly.now (tables_of r) (written_of r) is.stands

  gives : (image : List ℕ) → TextGives (decoding_of r) (address_bytes (own_tables_of r)) (own_tables_of r).alignment start text image → Gives (tables_of r) (written_of r) start text image
  gives image g = record {
    choose = choice;
    is_choice = is.stands.chooses;
    gives = subst (λ (t : Tables). TextGives (tells (tables_of r) (written_of r) choice) (address_bytes t) t.alignment start text image) is.stands.decodes.tables
        (subst (λ (d : DecodeFunction). TextGives d (address_bytes (own_tables_of r)) (own_tables_of r).alignment start text image) same g);
  }

  fails : (number : ℕ) (fault : LineFault) → TextFails (decoding_of r) (address_bytes (own_tables_of r)) (own_tables_of r).alignment start text number fault
      → Fails (tables_of r) (written_of r) start text number fault
  fails number fault f = record {
    choose = choice;
    is_choice = is.stands.chooses;
    fails = subst (λ (t : Tables). TextFails (tells (tables_of r) (written_of r) choice) (address_bytes t) t.alignment start text number fault) is.stands.decodes.tables
        (subst (λ (d : DecodeFunction). TextFails d (address_bytes (own_tables_of r)) (own_tables_of r).alignment start text number fault) same f);
  }

  one : {V : Type 0} (items : V → List ℕ) (result : Result V LineError)
      → MatchResult result (λ image. TextGives (decoding_of r) (address_bytes (own_tables_of r)) (own_tables_of r).alignment start text (items image))
      (λ e. TextFails (decoding_of r) (address_bytes (own_tables_of r)) (own_tables_of r).alignment start text e.number e.fault)
      → MatchResult result (λ image. Gives (tables_of r) (written_of r) start text (items image)) (λ e. Fails (tables_of r) (written_of r) start text e.number e.fault)
  one items (Ok v) h = gives (items v) h
  one items (Err e) h = fails e.number e.fault h

  pub by_specification : {V E : Type 0} (items : V → List ℕ) (c : Compiled) → r.compiled.now ≡ c → (result : Result (Result V LineError) E)
      → IfOk result (λ x. MatchResult x (λ image. TextGives (decoding_of r) (address_bytes (own_tables_of r)) (own_tables_of r).alignment start text (items image))
      (λ e. TextFails (decoding_of r) (address_bytes (own_tables_of r)) (own_tables_of r).alignment start text e.number e.fault))
      → IfOk result (λ x. MatchResult x (λ image. Gives c.bound.tables (all_constructors (items_of c.bound.spec)) start text (items image))
      (λ e. Fails c.bound.tables (all_constructors (items_of c.bound.spec)) start text e.number e.fault))
  by_specification items c of (Err e) h = h
  by_specification items c of (Ok x) h =
      subst (λ (d : Compiled). MatchResult x (λ image. Gives d.bound.tables (all_constructors (items_of d.bound.spec)) start text (items image))
      (λ e. Fails d.bound.tables (all_constructors (items_of d.bound.spec)) start text e.number e.fault)) of (one items x h)
