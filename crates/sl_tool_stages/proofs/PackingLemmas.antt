-- That what was read may be packed.
use Rattle.std.proofs.Common.{◌≡◌, ℕ, List, map, Option, Ok, sym, ap, subst, ◌∙◌}
use Rattle.std.specs.String.{string_bytes}
use Rattle.sl_ast.specs.Trees.{Item}
use Rattle.sl_ast.specs.Views.{indexes_of, items_of}
use Rattle.sl_ast.specs.declared.items.Spec.{Spec}
use Rattle.sl_parse_terminals.specs.Symbols.{symbols_of}
use Rattle.sl_outside.specs.Folder.{Folder}
use Rattle.sl_preproc.specs.Sound.{IsSound}
use Rattle.sl_preproc.specs.declared.places.Place.{Place}
use Rattle.sl_store.proofs.StoreLaws.{one_to_one}
use Rattle.sl_store_format.specs.Packed.{IsPacked, Packed}
use Rattle.sl_lex.specs.Reading.{ReadsAs}
use Rattle.sl_tool_stages.specs.OriginView.{origin_view}
use Rattle.sl_tool_stages.specs.Packable.{IsPackable}
use Rattle.sl_tool_stages.specs.Places.{indexes_in}
use Rattle.sl_tool_stages.specs.Stage.{Then}
use Rattle.sl_tool_stages.specs.Stage.Then.{goes}
use Rattle.sl_tool_stages.specs.Stages.{Expands, Parses, Tokenizes, Unpacks}
use Rattle.sl_tool_stages.specs.TokensView.{tokens_view}
use Rattle.sl_tool_stages.specs.Values as values
use Rattle.sl_tool_stages.specs.declared.origin.Origin.{Origin}
use Rattle.sl_tool_stages.specs.declared.origin.Origin.TheVariants.{InText, Stored}
use Rattle.sl_tool_stages.proofs.ReadLemmas.{is_sound}

-- of a text
pub text_packs : (told : Option Folder) (name : List ℕ) (s : values.Source) (o : Origin) (spec : Spec) → Expands told name (Ok s)
    → Then Tokenizes Parses s (Ok (values.tree (origin_view o) (items_of spec))) → indexes_of spec ≡ indexes_in (origin_view o) (items_of spec) → IsPackable o spec
text_packs told name s (InText k) spec expands (goes {b = l} (from, reads) (is, spelled, no_fault)) indexes =
    let same : l ≡ tokens_view k = cc in
    let source : s ≡ (tokens_view k).source = sym from ∙ ap (λ (x : values.Tokens). x.source) same in
    record {
      sound = subst (λ (x : values.Source). IsSound x.text) source (is_sound told name s expands);
      reads = subst (λ (x : values.Tokens). ReadsAs x.source.text.bytes x.tokens) same
          (subst (λ (x : values.Source). ReadsAs x.text.bytes l.tokens) (sym from) reads);
      spelled = ap (λ (x : values.Tokens). symbols_of x.tokens) (sym same) ∙ spelled;
      no_fault = no_fault;
      indexes = indexes;
    }
text_packs told name s (Stored p) spec expands (goes {b = l} reads (is, spelled, no_fault)) indexes = absurd (cc)

-- of a packed file
packed_is : (files others : List (List ℕ)) (places more : List Place) (items later : List Item) → files ≡ others → places ≡ more → items ≡ later
    → ◌≡◌ {A = Packed} (record { files = files; places = places; items = items }) (record { files = others; places = more; items = later })
packed_is files others places more items later e f g = λ i. record { files = e i; places = f i; items = g i }

pub file_packs : (name bytes : List ℕ) (o : Origin) (spec : Spec) → Unpacks name bytes (Ok (values.tree (origin_view o) (items_of spec))) → IsPackable o spec
file_packs name bytes (InText k) spec (p, file, is) =
    let clash : values.InText (tokens_view k) ≡ values.Stored p.files p.places = ap (λ (t : values.Tree). t.origin) is in absurd (cc)
file_packs name bytes (Stored s) spec (p, file, is) =
    let origin : values.Stored (map string_bytes s.files.items) s.places.items ≡ values.Stored p.files p.places = ap (λ (t : values.Tree). t.origin) is in
    let files : map string_bytes s.files.items ≡ p.files = cc in
    let places : s.places.items ≡ p.places = cc in
    subst IsPacked (sym (packed_is _ _ _ _ _ _ files places (ap (λ (t : values.Tree). t.items) is))) (one_to_one.may_be_packed p bytes file)
