-- What is begun of a listing with operations goes on to a whole one.
use Rattle.std.proofs.Common.{◌≡◌, ℕ, zero, suc, ◌+◌, ◌%◌, Bool, true, false, List, [], ◌++◌, length, Result, Ok, Err, refl, arith}
use Rattle.sl_ast.specs.Trees.{Item}
use Rattle.sl_bind.specs.Binding.{Binds, constructors_of}
use Rattle.sl_faithful_accepted.specs.Laws.{IsShort}
use Rattle.sl_faithful_accepted.proofs.Translations.{bound_have_translations}
use Rattle.sl_decode_choices.proofs.ChoiceLemmas as choices
use Rattle.sl_decode_choices.specs.Choices.{IsChoiceOf}
use Rattle.sl_bind_compile.specs.Outcomes.{Compiles}
use Rattle.sl_decode_contexts.proofs.LawLemmas.{some_context}
use Rattle.sl_decode_contexts.specs.declared.commits.Commit.{Commit}
use Rattle.sl_decode_meaning.specs.Decoding.{Decoded, decoded}
use Rattle.sl_decode_meaning.specs.Choices.{Choice}
use Rattle.sl_decode_meaning.specs.declared.faults.Fault.{Fault}
use Rattle.sl_meaning_instruction.specs.Instructions.{is_unimplemented}
use Rattle.sl_list_instructions.proofs.LawLemmas as list
use Rattle.sl_list_instructions.proofs.AcceptedLemmas.{accepted}
use Rattle.sl_list_instructions.proofs.ImageLawLemmas.{goes_on}
use Rattle.sl_list_instructions.specs.Listing.{Image, subject}
use Rattle.sl_pcode.specs.declared.print.Names.{Names}
use Rattle.sl_list_pcode.proofs.StringLemmas.{some_names}
use Rattle.sl_list_pcode.specs.Listing.{BeginsPcodeListing, Decodes, IsBehind, IsPcodeListing, Shown, bytes_from, misaligned, operations, undecoded, unimplemented}
use Rattle.sl_list_pcode.specs.Names.{AreNames, op_lines, unimplemented_line}
use Rattle.sl_list_pcode.specs.WholeLaws.{BegunGoOn, SomePcodeListing}
use Rattle.sl_base_surely.proofs.SurelyLemmas.{surely_map}
use Rattle.sl_spec.specs.declared.tables.Tables.{Tables}
use Rattle.sl_word.specs.declared.word.Size.{Size}

module _ (items : List Item) (t : Tables) (sizes : List (List Size)) (i : Image)
    (short : IsShort items) (binds : Binds items (Ok (t, sizes))) (compiles : Compiles items (Ok t)) where
  module _ (choose : Choice) (is_choice : IsChoiceOf t (constructors_of items) choose) (names : Names) where
    abbrev Decode : ℕ → List Commit → Result Decoded Fault → Type 0
    Decode at cs r = Decodes items t sizes i choose names at cs r

    -- ---- something stands behind each line

    abbrev SomeBehind : ℕ → List Commit → Type 0
    SomeBehind at cs = (behind : List ℕ) × IsBehind items t sizes i choose names at cs behind

    behind_decoded : (at : ℕ) (cs : List Commit) (d : Decoded) → Decode at cs (Ok d) → (b : Bool)
        → is_unimplemented (constructors_of items) d.tree ≡ b → SomeBehind at cs
    behind_decoded at cs d is true whole = (unimplemented_line, unimplemented is whole)
    behind_decoded at cs d is false whole =
        let bytes = bytes_from items t sizes i choose names at in
        let address = i.base + at in
        let of = is.context in
        let found = bound_have_translations items t sizes choose bytes address of d short binds is_choice is.is whole in
        (op_lines names found.0, operations is whole found.1)

    behind_result : (at : ℕ) (cs : List Commit) (r : Result Decoded Fault) → Decode at cs r → SomeBehind at cs
    behind_result at cs (Ok d) is = behind_decoded at cs d is (is_unimplemented (constructors_of items) d.tree) refl
    behind_result at cs (Err fault) is = ([], undecoded is)

    behind_at : (at : ℕ) (cs : List Commit) (beyond : ℕ) → (i.base + at) % t.alignment ≡ beyond → SomeBehind at cs
    behind_at at cs zero aligned =
        let c = some_context i.start cs (i.base + at) in
        behind_result at cs
        (decoded t (constructors_of items) choose (bytes_from items t sizes i choose names at) (i.base + at) c.0)
        (record { context = c.0; aligned = aligned; narrow = c.1; stands = c.2; is = refl })
    behind_at at cs (suc k) beyond = ([], misaligned (omega (arith, beyond)))

    some_behind : (at : ℕ) (cs : List Commit) → SomeBehind at cs
    some_behind at cs = behind_at at cs ((i.base + at) % t.alignment) refl

    -- ---- something is shown at each position

    shown_at : (at : ℕ) (cs : List Commit) → list.IsShown (Shown items t sizes i choose names) at cs
    shown_at at cs =
        let l = list.is_shown (subject t (constructors_of items) choose i)
        (goes_on items t compiles choose is_choice i) at cs in
        let b = some_behind at cs in
        record {
          text = l.text ++ b.0;
          count = l.count;
          made = l.made;
          shows_it = record { line = l.text; behind = b.0; listed = l.shows_it; is_behind = b.1; is = refl };
          some = l.some;
        }

    whole : AreNames t names → (text : List ℕ) × IsPcodeListing items t sizes i text
    whole are_names =
        let found = list.has_listing (Shown items t sizes i choose names) (length i.bytes)
        (λ at cs within. shown_at at cs) (length i.bytes) 0 [] (omega arith) in
        let whole : IsPcodeListing items t sizes i found.0 = record {
          choose = choose;
          is_choice = is_choice;
          names = names;
          are_names = are_names;
          lists = found.1;
        } in
        (found.0, whole)

  completed : (text : List ℕ) → BeginsPcodeListing items t sizes i text
      → (rest : List ℕ) × IsPcodeListing items t sizes i (text ++ rest)
  completed text b =
      let more = list.completed (Shown items t sizes i b.choose b.names) (length i.bytes)
      (λ at cs within. shown_at b.choose b.is_choice b.names at cs) 0 [] text b.begins in
      let whole : IsPcodeListing items t sizes i (text ++ more.0) = record {
        choose = b.choose;
        is_choice = b.is_choice;
        names = b.names;
        are_names = b.are_names;
        lists = more.1;
      } in
      (more.0, whole)

pub begun_go_on : BegunGoOn
begun_go_on items t sizes i text short binds compiles b = completed items t sizes i short binds compiles text b

pub some_pcode_listing : SomePcodeListing
some_pcode_listing items t sizes i short texts binds compiles =
    let is = accepted items t compiles in
    let names = some_names items t is.keeps_rules short texts in
    surely_map (λ (c : (choose : Choice) × IsChoiceOf t (constructors_of items) choose).
    whole items t sizes i short binds compiles c.0 c.1 names.0 names.1)
    (choices.some_choice t (constructors_of items) is.stand.listed is.sound)
