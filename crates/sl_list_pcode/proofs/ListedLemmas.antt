-- That an image with a listing has one with operations.
use Rattle.std.proofs.Common.{◌≡◌, ℕ, ◌+◌, ◌^◌, ◌<◌, ◌%◌, Bool, true, false, List, [], ◌++◌, length, Result, Ok, Err}
use Rattle.std.proofs.Common.{refl, arith}
use Rattle.sl_ast.specs.Trees.{Constructor, Item}
use Rattle.sl_ast.specs.Unfolding.{Placed}
use Rattle.sl_bind.specs.Binding.{Binds, constructors_of}
use Rattle.sl_faithful_accepted.proofs.Translations.{bound_have_translations}
use Rattle.sl_faithful_accepted.specs.Laws.{IsShort}
use Rattle.sl_decode_choices.specs.Choices.{IsChoiceOf}
use Rattle.sl_decode_contexts.specs.Commits.{IsContextAt}
use Rattle.sl_decode_contexts.specs.declared.commits.Commit.{Commit}
use Rattle.sl_decode_meaning.specs.Decoding.{Decoded, decoded}
use Rattle.sl_decode_meaning.specs.Choices.{Choice}
use Rattle.sl_decode_meaning.specs.declared.faults.Fault.{Fault}
use Rattle.sl_meaning_instruction.specs.Instructions.{is_unimplemented}
use Rattle.sl_list_instructions.specs.Instructions.{Listed, Subject, Told, instruction, misaligned as beyond, undecoded as failed}
use Rattle.sl_list_instructions.specs.Listings.{Lists, Shows, ended, shown}
use Rattle.sl_list_instructions.specs.Told.{told_of}
use Rattle.sl_list_instructions.specs.Listing.{Image, subject}
use Rattle.sl_pcode.specs.declared.print.Names.{Names}
use Rattle.sl_list_pcode.specs.Laws.{ListingHasOperations}
use Rattle.sl_list_pcode.specs.Listing.{Decodes, IsBehind, Shown, bytes_from, misaligned, operations, undecoded}
use Rattle.sl_list_pcode.specs.Listing.{unimplemented}
use Rattle.sl_list_pcode.specs.Names.{op_lines, unimplemented_line}
use Rattle.sl_spec.specs.declared.tables.Tables.{Tables}
use Rattle.sl_word.specs.declared.word.Size.{Size}

-- ---- what is told of a decode

module _ (t : Tables) (ctors : List (Placed Constructor)) (bytes : List ℕ) where
  told_decode : (r : Result Decoded Fault) (told : Told) → told_of t ctors bytes r ≡ Ok told
      → (d : Decoded) × (r ≡ Ok d)
  told_decode (Ok d) told is = (d, refl)
  told_decode (Err fault) told is = absurd (cc)

  told_fault : (r : Result Decoded Fault) (fault : Fault) → told_of t ctors bytes r ≡ Err fault → r ≡ Err fault
  told_fault (Ok d) fault is = absurd (cc)
  told_fault (Err other) fault is = cc

-- ---- a position, and a listing

module _ (items : List Item) (t : Tables) (sizes : List (List Size)) (i : Image) (choose : Choice) (names : Names)
    (short : IsShort items) (binds : Binds items (Ok (t, sizes)))
    (chooses : IsChoiceOf t (constructors_of items) choose) where
  abbrev ctors : List (Placed Constructor)
  ctors = constructors_of items

  abbrev s : Subject
  s = subject t ctors choose i

  abbrev bytes : ℕ → List ℕ
  bytes at = bytes_from items t sizes i choose names at

  abbrev shows : Shows
  shows = Shown items t sizes i choose names

  module _ (at : ℕ) (cs : List Commit) where
    abbrev HasLines : Type 0
    HasLines = (behind : List ℕ) × IsBehind items t sizes i choose names at cs behind

    by_mark : (d : Decoded) → Decodes items t sizes i choose names at cs (Ok d) → (marked : Bool)
        → is_unimplemented ctors d.tree ≡ marked → HasLines
    by_mark d here true is = (unimplemented_line, unimplemented here is)
    by_mark d here false is =
        let translation = bound_have_translations items t sizes choose (bytes at) (i.base + at) here.context d short
        binds chooses here.is is in
        (op_lines names translation.0, operations here is translation.1)

    at_context : (context : ℕ) → (i.base + at) % t.alignment ≡ 0 → context < 2 ^ 64
        → IsContextAt i.start cs (i.base + at) context
        → (r : Result Decoded Fault) → decoded t ctors choose (bytes at) (i.base + at) context ≡ r
        → Decodes items t sizes i choose names at cs r
    at_context context aligned narrow stands r is = record {
      context = context;
      aligned = aligned;
      narrow = narrow;
      stands = stands;
      is = is;
    }

    has_lines : (line : List ℕ) (n : ℕ) (ds : List Commit) → Listed s at cs line n ds → HasLines
    has_lines line n ds (instruction {context = x} {told = told} aligned narrow stands is) =
        let found = told_decode t ctors (bytes at) (decoded t ctors choose (bytes at) (i.base + at) x) told is in
        by_mark found.0 (at_context x aligned narrow stands (Ok found.0) found.1)
        (is_unimplemented ctors found.0.tree) refl
    has_lines line n ds (failed {context = x} {fault = fault} aligned narrow stands is) = (
      [],
      undecoded (at_context x aligned narrow stands (Err fault)
          (told_fault t ctors (bytes at) (decoded t ctors choose (bytes at) (i.base + at) x) fault is)),
    )
    has_lines line n ds (beyond {beyond = k} is some) = ([], misaligned (omega (arith, is, some)))

  with_lines : (at : ℕ) (cs : List Commit) (lines : List ℕ) → Lists (Listed s) (length i.bytes) at cs lines
      → (text : List ℕ) × Lists shows (length i.bytes) at cs text
  with_lines at cs lines (ended past) = ([], ended past)
  with_lines at cs lines (shown {n = n} {ds = ds} {text = line} {rest = rest} within listed more) =
      let behind = has_lines at cs line n ds listed in
      let others = with_lines (at + n) (cs ++ ds) rest more in (
        (line ++ behind.0) ++ others.0,
        shown within (record { line = line; behind = behind.0; listed = listed; is_behind = behind.1; is = refl })
            others.1,
      )

pub listing_has_operations : ListingHasOperations
listing_has_operations items t sizes i lines names short binds are_names listing =
    let found = with_lines items t sizes i listing.choose names short binds listing.is_choice 0 [] lines
    listing.lists in (
      found.0,
      record {
        choose = listing.choose;
        is_choice = listing.is_choice;
        names = names;
        are_names = are_names;
        lists = found.1;
      },
    )
