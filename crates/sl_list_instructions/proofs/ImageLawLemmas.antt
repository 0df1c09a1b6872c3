-- That an image has one listing by a sound specification, and some; and what was written of it.
use Rattle.std.proofs.Common.{◌≡◌, ℕ, ◌<◌, ◌≤◌, inl, inr, true, eq-eqb, List, [], ◌++◌, length, take, min, Option, Some, Result, Ok, Err, refl, sym, ap, subst, ◌∙◌, arith}
use Rattle.std.specs.Io.KnownBytes.{Appends}
use Rattle.std.proofs.lemmas.List.{take-append-le, take_min}
use Rattle.std.specs.Prelude.{IfOk, OnErr, OnOk, slice_get}
use Rattle.sl_ast.specs.Trees.{Constructor, Item}
use Rattle.sl_ast.specs.Unfolding.{Placed}
use Rattle.sl_decode_choices.proofs.ChoiceLemmas as choices
use Rattle.sl_decode_choices.specs.Choices.{Chooses, IsChoiceOf, in_range}
use Rattle.sl_bind_compile.specs.Outcomes.{Compiles, all_constructors}
use Rattle.sl_conflict.specs.Ambiguity.{IsOf}
use Rattle.sl_spec_constructors.specs.Listed.{is_of}
use Rattle.sl_decode_contexts.specs.declared.commits.Commit.{Commit}
use Rattle.sl_cube.specs.declared.Point.{Point}
use Rattle.sl_decode_meaning.specs.Decoding.{Decoded, decoded}
use Rattle.sl_decode_meaning.specs.Choices.{Choice}
use Rattle.sl_decode_meaning.specs.declared.faults.Fault.{Fault}
use Rattle.sl_list_instructions.proofs.LawLemmas as list
use Rattle.sl_list_instructions.specs.Instructions.{Listed, Subject, Told}
use Rattle.sl_list_instructions.specs.Laws.{GoesOn}
use Rattle.sl_list_instructions.specs.Listings.{Lists}
use Rattle.sl_list_instructions.specs.Fronts.{AppendsFront, Begins, IsBegun, IsListed}
use Rattle.sl_list_instructions.specs.Told.{tells, told_of}
use Rattle.sl_list_instructions.specs.declared.listings.ListError.{ListError}
use Rattle.sl_list_instructions.specs.declared.listings.ListError.TheVariants.{NoMemory, WriteFault}
use Rattle.sl_decode_lengths.proofs.AcceptedLemmas.{bound_have_bytes}
use Rattle.sl_decode_lengths.specs.Laws.{ChoosesOwn}
use Rattle.sl_list_instructions.proofs.AcceptedLemmas.{accepted, aligned}
use Rattle.sl_list_instructions.specs.ImageLaws.{ListingIsOne, SomeListing}
use Rattle.sl_list_instructions.specs.Listing.{Image, IsListing, subject}
use Rattle.sl_list_instructions.specs.Writing.{Writes, WritesFront}
use Rattle.sl_base_surely.specs.Surely.{Surely}
use Rattle.sl_base_surely.proofs.SurelyLemmas.{surely_map}
use Rattle.sl_conflict.proofs.NumberLemmas.{numbers_are_of}
use Rattle.sl_shape.specs.Readings.{HasPoint}
use Rattle.sl_spec.specs.Tables.{Ctor}
use Rattle.sl_spec.specs.declared.tables.Tables.{Tables}
use Rattle.sl_spec_tables.specs.TableRules.{most_bytes}

-- ---- it is one

pub listing_is_one : ListingIsOne
listing_is_one t cs i text other h k =
    let same : h.choose ≡ k.choose = λ j table p. choices.choice_is_one t cs h.choose k.choose h.is_choice k.is_choice table p j in
    list.listing_is_one (subject t cs k.choose i) (length i.bytes) text other
    (subst (λ (c : Choice). Lists (Listed (subject t cs c i)) (length i.bytes) 0 [] text) same h.lists) k.lists

-- ---- it goes on

some_byte : (t : Tables) (cs : List (Placed Constructor)) (bytes : List ℕ) (r : Result Decoded Fault) → IfOk r (λ d. (1 ≤ d.length) × (d.length ≤ most_bytes))
    → IfOk (told_of t cs bytes r) (λ told. 1 ≤ told.length)
some_byte t cs bytes (Ok d) h = h.0
some_byte t cs bytes (Err fault) h = tt

module _ (items : List Item) (t : Tables) (compiles : Compiles items (Ok t)) (choose : Choice) (is_choice : IsChoiceOf t (all_constructors items) choose) (i : Image) where
  abbrev cs : List (Placed Constructor)
  cs = all_constructors items

  -- what is chosen is a constructor of the table
  own : ChoosesOwn t choose
  own table p ctor is =
      let chosen : Chooses t cs table (in_range p) (Some ctor) = subst (λ (o : Option ℕ). Chooses t cs table (in_range p) o) is (is_choice table p) in
      is_of_table table ctor (numbers_are_of t.constructors (HasPoint t cs) table ctor chosen.has_point.0 (in_range p) chosen.has_point.1 chosen.has_point.2)
    where
      is_of_table : (b n : ℕ) → IsOf t.constructors b n → is_of b (slice_get t.constructors n) ≡ true
      is_of_table b n h = ap (λ (o : Option Ctor). is_of b o) h.ctor_is ∙ eq-eqb h.ctor.table b h.of_table

  pub goes_on : GoesOn (subject t cs choose i)
  goes_on =
      let is = accepted items t compiles in record {
        alignment = aligned items t compiles;
        lengths = λ bytes address context.
            some_byte t cs bytes (decoded t cs choose bytes address context)
            (bound_have_bytes items t is.sizes choose is.binds own bytes address context);
      }

-- ---- there is some

pub some_listing : SomeListing
some_listing items t i compiles =
    let is = accepted items t compiles in
    surely_map (λ (c : (choose : Choice) × IsChoiceOf t (all_constructors items) choose).
    let found = list.some_listing (subject t (all_constructors items) c.0 i) (length i.bytes) (goes_on items t compiles c.0 c.1 i) in
    let p : (text : List ℕ) × IsListing t (all_constructors items) i text = (found.0, record { choose = c.0; is_choice = c.1; lists = found.1 }) in p)
    (choices.some_choice t (all_constructors items) is.stand.listed is.sound)

-- ---- what was written

-- what is listed of a specification whose addresses have so many bytes
abbrev subject_by : Tables → List (Placed Constructor) → Choice → Image → (address_bytes : ℕ) → Subject
subject_by t cs choose i address_bytes = record {
  tells = tells t cs choose;
  image = i.bytes;
  base = i.base;
  address_bytes = address_bytes;
  alignment = t.alignment;
  start = i.start;
}

abbrev pub IsListedBy : Tables → List (Placed Constructor) → Choice → Image → ℕ → Option (List ℕ) → Option (List ℕ) → Type 0
IsListedBy t cs choose i address_bytes old new = IsListed (Listed (subject_by t cs choose i address_bytes)) (length i.bytes) old new

abbrev pub IsBegunBy : Tables → List (Placed Constructor) → Choice → Image → ℕ → Option (List ℕ) → Option (List ℕ) → Type 0
IsBegunBy t cs choose i address_bytes old new = IsBegun (Listed (subject_by t cs choose i address_bytes)) (length i.bytes) old new

-- the first bytes of a text are the first of a longer one
front_more : (old new : Option (List ℕ)) (text rest : List ℕ) → AppendsFront old new text → AppendsFront old new (text ++ rest)
front_more old new text rest w =
    let count : ℕ = min w.0 (length text) in
    let within : min w.0 (length text) ≤ length text = omega arith in (
      count,
      subst (λ (l : List ℕ). Appends old new l) (sym (take_min w.0 text) ∙ sym (take-append-le count text rest within)) w.1,
    )

module _ (items : List Item) (t : Tables) (compiles : Compiles items (Ok t)) (choose : Choice) (is_choice : IsChoiceOf t (all_constructors items) choose) (i : Image)
    (old new : Option (List ℕ)) where
  abbrev Shows : Type 1
  Shows = ℕ → List Commit → List ℕ → ℕ → List Commit → Type 0

  abbrev shows : Shows
  shows = Listed (subject t (all_constructors items) choose i)

  -- a front of what some first positions say is a front of the listing
  begun_front : IsBegun shows (length i.bytes) old new → WritesFront t (all_constructors items) i old new
  begun_front w =
      let whole = list.begins_listing (subject t (all_constructors items) choose i) (length i.bytes) w.0 (goes_on items t compiles choose is_choice i) w.1 in (
        w.0 ++ whole.0,
        record { choose = choose; is_choice = is_choice; lists = whole.1 },
        front_more old new w.0 whole.0 w.2,
      )

  by_error : (T : Type 0) (e : ListError) → WritesFront t (all_constructors items) i old new → Writes t (all_constructors items) i old new {T = T} (Err e)
  by_error T WriteFault w = w
  by_error T NoMemory w = inr w

  -- what was listed was written
  pub listed_written : {T : Type 0} (r : Result T ListError) → OnOk r (IsListed shows (length i.bytes) old new) → OnErr r (IsBegun shows (length i.bytes) old new)
      → Writes t (all_constructors items) i old new r
  listed_written (Ok done) whole front = (whole.0, record { choose = choose; is_choice = is_choice; lists = whole.1 }, whole.2)
  listed_written {T = T} (Err e) whole front = by_error T e (begun_front front)
