-- The place of an item by its line.
use Rattle.std.proofs.Common.{◌≡◌, ℕ, suc, zero, ◌+◌, ◌-◌, ◌<◌, List, length, map, Option, Some, None, inl, inr, refl, sym, ap, ◌∙◌, arith}
use Rattle.std.specs.Prelude.{option_and_then, option_map, slice_get, unwrap_or}
use Rattle.std.specs.List.{range_with_len}
use Rattle.std.proofs.lemmas.Option.{slice_get-map, slice_get_cases, slice_get_past}
use Rattle.std.proofs.lemmas.List.FromFn.{length-range_with_len}
use Rattle.sl_ast.specs.Trees.{Item}
use Rattle.sl_ast.specs.Unfolding.{firsts}
use Rattle.sl_bind.specs.BindFaults.{token_of}
use Rattle.sl_preproc.specs.Expanded.{or_no_place}
use Rattle.sl_preproc.specs.declared.places.Place as line
use Rattle.sl_store_text.specs.PackedForm.{place_of_first}
use Rattle.sl_tool_stages.specs.ItemLines.{line_of, place_of_line}
use Rattle.sl_tool_stages.specs.Places.{indexes_in, named, place_in, place_of_some, stored_place}
use Rattle.sl_tool_stages.specs.Values.{InText, Origin, Stored, Tokens}

-- a token's place by its line
token_line : (k : Tokens) (index : Option ℕ) → place_of_some k index ≡ place_of_line (InText k) (option_map (place_of_first k.source.text k.tokens) index)
token_line k None = refl
token_line k (Some index) = refl

nth_number : (a n i : ℕ) → i < n → slice_get (range_with_len a n) i ≡ Some (a + i)
nth_number a zero i below = absurd (omega (arith, below))
nth_number a (suc n) zero below = ap Some (omega arith)
nth_number a (suc n) (suc i) below = nth_number (a + 1) n i (omega (arith, below)) ∙ ap Some (omega arith)

-- an item's stored place by its line, which is there or isn't
stored_line : (files : List (List ℕ)) (lines : List line.Place) (item : ℕ)
    → named files (stored_place lines (slice_get (range_with_len 0 (length lines)) item)) ≡ place_of_line (Stored files lines) (slice_get lines item)
stored_line files lines item = elim ((slice_get_cases lines item).1) [
  | inl (found, within, is, same) ↦
      let number : slice_get (range_with_len 0 (length lines)) item ≡ Some item =
      nth_number 0 (length lines) item within ∙ ap Some (omega arith) in
      rw (number, is) refl
  | inr (past, none) ↦
      rw (slice_get_past (range_with_len 0 (length lines)) item (omega (arith, length-range_with_len 0 (length lines), past)), none) refl
]

-- an item's place by its line
pub item_line : (o : Origin) (items : List Item) (item : Option ℕ) → place_in o (token_of (indexes_in o items) item) ≡ place_of_line o (line_of o items item)
item_line (InText k) items None = refl
item_line (InText k) items (Some item) =
    token_line k (slice_get (firsts items) item)
    ∙ ap (place_of_line (InText k)) (sym (slice_get-map (place_of_first k.source.text k.tokens) (firsts items) item))
item_line (Stored files lines) items None = refl
item_line (Stored files lines) items (Some item) = stored_line files lines item
