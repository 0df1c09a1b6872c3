-- What is shown at a position.
use Rattle.std.proofs.Common.{◌≡◌, ℕ, ◌+◌, ◌-◌, ◌^◌, ◌<◌, ◌≤◌, ◌%◌, List, [], take, Result, Ok, Err, refl, sym, ap}
use Rattle.std.proofs.Common.{subst, ◌∙◌, append-nil, arith}
use Rattle.std.specs.Prelude.{codes}
use Rattle.sl_ast.specs.Trees.{Constructor, Item}
use Rattle.sl_ast.specs.Unfolding.{Placed}
use Rattle.sl_bind.specs.Binding.{Binds, constructors_of}
use Rattle.sl_faithful_accepted.specs.Laws.{IsShort}
use Rattle.sl_build.specs.Accepted.{IsDecodeOf, IsFaithfullyBuilt}
use Rattle.sl_build.specs.declared.built.Built.{Built}
use Rattle.sl_build.specs.declared.built.Built.TheVariants.{Ops, Unimplemented}
use Rattle.sl_decode_choices.specs.Choices.{IsChoiceOf}
use Rattle.sl_decode_contexts.specs.Commits.{IsContextAt}
use Rattle.sl_decode_contexts.specs.declared.commits.Commit.{Commit}
use Rattle.sl_decode.specs.declared.walk.Instruction.{Instruction}
use Rattle.sl_decode.specs.declared.walk.Walk.{Walk}
use Rattle.sl_decode_meaning.specs.Actions.{address_bytes}
use Rattle.sl_decode_meaning.specs.Decoding.{Decoded, decoded}
use Rattle.sl_decode_meaning.specs.Flat.{all_values, entries}
use Rattle.sl_decode_meaning.specs.Choices.{Choice}
use Rattle.sl_decode_meaning.specs.declared.faults.Fault.{Fault}
use Rattle.sl_meaning_instruction.specs.Instructions.{Specification, specification_of}
use Rattle.sl_list_instructions.proofs.KeptLemmas.{kept_told}
use Rattle.sl_list_instructions.proofs.ShowLemmas.{shows_beyond, shows_instruction, shows_mark}
use Rattle.sl_list_instructions.specs.Instructions.{Listed, Subject, mark_of}
use Rattle.sl_list_instructions.specs.Kept.{Keeps}
use Rattle.sl_list_instructions.specs.Lines.{listed_line}
use Rattle.sl_list_instructions.specs.Told.{told_of}
use Rattle.sl_list_instructions.specs.Listing.{Image, subject}
use Rattle.sl_pcode.specs.declared.print.Names.{Names}
use Rattle.sl_list_pcode.specs.Listing.{Decodes, IsBehind, Shown, bytes_from, misaligned, operations, undecoded}
use Rattle.sl_list_pcode.specs.Listing.{unimplemented}
use Rattle.sl_list_pcode.specs.Ready.{AppendsBuilt, built_lines}
use Rattle.sl_spec.specs.declared.tables.Tables.{Tables}
use Rattle.sl_word.specs.declared.word.Size.{Size}

module _ (items : List Item) (t : Tables) (sizes : List (List Size)) (i : Image) (choose : Choice) (names : Names)
    (at : ℕ) (cs : List Commit) where
  abbrev ctors : List (Placed Constructor)
  ctors = constructors_of items

  abbrev s : Subject
  s = subject t ctors choose i

  abbrev address : ℕ
  address = i.base + at

  abbrev bytes : List ℕ
  bytes = bytes_from items t sizes i choose names at

  abbrev of : Specification
  of = specification_of items t sizes

  abbrev ShownHere : List ℕ → ℕ → List Commit → Type 0
  ShownHere = Shown items t sizes i choose names at cs

  abbrev Behind : List ℕ → Type 0
  Behind = IsBehind items t sizes i choose names at cs

  abbrev DecodesTo : Result Decoded Fault → Type 0
  DecodesTo = Decodes items t sizes i choose names at cs

  -- a line with nothing behind it
  alone : (line : List ℕ) (n : ℕ) (ds : List Commit) → Listed s at cs line n ds → Behind [] → ShownHere line n ds
  alone line n ds listed behind = record {
    line = line;
    behind = [];
    listed = listed;
    is_behind = behind;
    is = sym (append-nil line);
  }

  -- what is built of a decode stands behind its line
  built_behind : (d : Decoded) → DecodesTo (Ok d) → (built : Built) → IsFaithfullyBuilt of bytes address d built
      → Behind (built_lines names built)
  built_behind d x Unimplemented is = unimplemented x is
  built_behind d x (Ops list) is = operations x is.implemented is

  module _ (line window : List ℕ) (is : window ≡ bytes) where
    pub shown_beyond : (n m : ℕ) (ds : List Commit) → n ≡ t.alignment → m ≡ t.alignment → n ≤ 272 → 1 ≤ address % m
        → line ≡ listed_line (address_bytes t) address (take (n - address % m) window) (codes "?align") → ds ≡ []
        → ShownHere line (n - address % m) ds
    shown_beyond n m ds e f fits some l d =
        alone line (n - address % m) ds (shows_beyond s at cs line window is n m ds e f fits some l d)
        (misaligned (subst (λ (k : ℕ). 1 ≤ address % k) f some))

    module _ (context m : ℕ) (f : m ≡ t.alignment) (aligned : address % m ≤ 0) (most : context < 2 ^ 64)
        (stands : IsContextAt i.start cs address context) where
      abbrev outcome : Result Decoded Fault
      outcome = decoded t ctors choose window address context

      decodes : (r : Result Decoded Fault) → outcome ≡ r → DecodesTo r
      decodes r told = record {
        context = context;
        aligned = subst (λ (k : ℕ). address % k ≡ 0) f (omega (arith, aligned));
        narrow = most;
        stands = stands;
        is = ap (λ (seen : List ℕ). decoded t ctors choose seen address context) (sym is) ∙ told;
      }

      module _ (walk : Walk) (text : List ℕ) (ds : List Commit) (r : Result Instruction Fault)
          (keeps : Keeps t ctors window outcome r walk text ds) where
        kept_as : (q : Result Instruction Fault) → r ≡ q → Keeps t ctors window outcome q walk text ds
        kept_as q e = subst (λ (p : Result Instruction Fault). Keeps t ctors window outcome p walk text ds) e keeps

        pub shown_mark : (fault : Fault) → r ≡ Err fault → (mark : List ℕ) (n : ℕ) (es : List Commit) → n ≡ t.alignment
            → n ≤ 272 → mark ≡ mark_of fault
            → line ≡ listed_line (address_bytes t) address (take n window) mark → es ≡ [] → ShownHere line n es
        shown_mark fault e mark n es a fits k l d =
            let told : outcome ≡ Err fault = kept_as (Err fault) e in
            alone line n es
            (shows_mark s at cs line window is context m f aligned most stands (Err fault) fault [] mark n [] es refl
            (ap (told_of t ctors window) (sym told)) a fits k l d)
            (undecoded (decodes (Err fault) told))

        pub shown_instruction : IsShort items → Binds items (Ok (t, sizes)) → IsChoiceOf t ctors choose
            → (x : Instruction) → r ≡ Ok x → (count : ℕ) → count ≡ x.length → count ≤ 272
            → line ≡ listed_line (address_bytes t) address (take count window) text
            → (whole : List ℕ)
            → ((d : Decoded) → IsDecodeOf items t sizes window address d → x.after ≡ d.after
            → walk.nodes.items ≡ entries 0 d.tree → walk.values.items ≡ all_values d.tree
            → AppendsBuilt of window address d names line whole)
            → ShownHere whole count ds
        shown_instruction short binds chooses x e count c fits l whole builds =
            let kept = kept_as (Ok x) e in
            let d = kept.0 in
            let k = kept.2 in
            let made = builds d (record {
              short = short;
              binds = binds;
              choose = choose;
              chooses = chooses;
              context = context;
              decodes = kept.1;
            }) k.after k.nodes k.values in
            let is_built = subst (λ (seen : List ℕ). IsFaithfullyBuilt of seen address d made.built) is made.is_built in
            record {
              line = line;
              behind = built_lines names made.built;
              listed = shows_instruction s at cs line window is context m f aligned most stands
                  (Ok x.length) x.length count text ds refl
                  (kept_told t ctors window outcome x walk text ds kept) c fits l;
              is_behind = built_behind d (decodes (Ok d) kept.1) made.built is_built;
              is = made.appends;
            }
