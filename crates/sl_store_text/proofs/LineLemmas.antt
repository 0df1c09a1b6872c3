-- Lines are counted on from a byte, and the places of tokens are found by them.
use Rattle.std.proofs.Common.{◌≡◌, ℕ, ◌+◌, ◌-◌, ◌<◌, ◌≤◌, List, [], ◌∷◌, ◌++◌, length, map, take, drop, get_or, refl, sym, ap, subst, ◌∙◌}
use Rattle.std.specs.Prelude.{◌==◌, count_by, cond, min, slice_get}
use Rattle.std.proofs.lemmas.List.{drop_min, map-append, take-take, take_all, take_min, take_more}
use Rattle.std.proofs.lemmas.List.Sums.{sum_by-take-drop}
use Rattle.sl_ast.specs.Validity.{Each}
use Rattle.sl_lex.specs.Reading.{Token}
use Rattle.sl_preproc.specs.Expanded.{Text, line_index, or_no_place, place_at}
use Rattle.sl_preproc.specs.declared.places.Place.{Place}
use Rattle.sl_store_text.specs.Lines.{HasLine}
use Rattle.sl_store_text.specs.PackedForm.{place_of_first, start_of}

abbrev feeds : List ℕ → ℕ
feeds bytes = count_by (λ b. b == 10) bytes

-- the feeds before a byte, and those from it up to a later one
pub counted_on : (text front between : List ℕ) (from to : ℕ) → from ≤ to → front ≡ take (min to (length text)) text
    → between ≡ drop (min from (length front)) front → line_index text from + feeds between ≡ line_index text to
counted_on text front between from to below first rest =
    let whole : front ≡ take to text = first ∙ take_min to text in
    let part : take from front ≡ take from text = ap (take from) whole ∙ take-take from to text below in
    ap (λ (bytes : List ℕ). feeds bytes + feeds between) (sym part)
    ∙ ap (λ (bytes : List ℕ). feeds (take from front) + feeds bytes) (rest ∙ drop_min from front)
    ∙ sum_by-take-drop (λ b. cond (b == 10) 1 0) front from
    ∙ ap feeds whole

-- ---- the places of tokens, one after another

each_more : (P : Place → Type 0) (ps : List Place) (p : Place) → Each P ps → P p → Each P (ps ++ p ∷ [])
each_more P [] p each here = (here, tt)
each_more P (q ∷ ps) p each here = (each.0, each_more P ps p each.1 here)

module _ (text : Text) (tokens : List Token) (firsts : List ℕ) where
  -- so many of the places are found, and the line of the byte where the last of these tokens begins
  pub record AreFound (count from line : ℕ) (places : List Place) : Type 0 where
    pub line_is : line ≡ line_index text.bytes from
    pub are : places ≡ map (place_of_first text tokens) (take count firsts)
    pub lines : Each HasLine places

  pub none_found : (places : List Place) → places ≡ [] → AreFound 0 0 0 places
  none_found places none = record { line_is = refl; are = none; lines = subst (Each HasLine) (sym none) tt }

  pub all_found : (count from line : ℕ) (places : List Place) → length firsts ≤ count → AreFound count from line places
      → places ≡ map (place_of_first text tokens) firsts
  all_found count from line places end found = found.are ∙ ap (map (place_of_first text tokens)) (take_all count firsts end)

  -- the place of one more
  place_is : (line start first : ℕ) (place : Place) → start ≡ start_of tokens first (length text.bytes)
      → line ≡ line_index text.bytes start → place ≡ or_no_place (slice_get text.places (min line (length text.places - 1)))
      → place ≡ place_of_first text tokens first
  unfolding place_at
  place_is line start first place starts on is =
      is ∙ ap (λ (n : ℕ). or_no_place (slice_get text.places (min n (length text.places - 1)))) (on ∙ ap (line_index text.bytes) starts)

  pub finds : (count from line first start next : ℕ) (places more : List Place) (place : Place)
      → count < length firsts → first ≡ get_or firsts count 0 → start ≡ start_of tokens first (length text.bytes)
      → next ≡ line_index text.bytes start
      → place ≡ or_no_place (slice_get text.places (min next (length text.places - 1))) → HasLine place
      → more ≡ places ++ place ∷ [] → AreFound count from line places → AreFound (count + 1) start next more
  finds count from line first start next places more place below at starts on is fits pushed so_far =
      let f = place_of_first text tokens in
      let here : place ≡ f (get_or firsts count 0) = place_is next start first place starts on is ∙ ap f at in
      let all : map f (take (count + 1) firsts) ≡ map f (take count firsts) ++ f (get_or firsts count 0) ∷ [] =
      ap (map f) (take_more firsts count 0 below) ∙ map-append f (take count firsts) (get_or firsts count 0 ∷ []) in
      let joined : places ++ place ∷ [] ≡ map f (take count firsts) ++ f (get_or firsts count 0) ∷ [] =
      ap (λ (ps : List Place). ps ++ place ∷ []) so_far.are ∙ ap (λ (p : Place). map f (take count firsts) ++ p ∷ []) here in
      record {
        line_is = on;
        are = pushed ∙ joined ∙ sym all;
        lines = subst (Each HasLine) (sym pushed) (each_more HasLine places place so_far.lines fits);
      }
