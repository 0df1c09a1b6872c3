-- What is defined behind the items of a text, block by block.
use Rattle.std.proofs.Common.{◌≡◌, ℕ, suc, ◌+◌, ◌<◌, ◌≤◌, Bool, true, false, List, [], ◌∷◌, ◌++◌, Result, Ok, Err, length, get_or, drop, fold, replicate, if◌then◌else◌, refl, sym, ap, ◌∙◌, append-nil, append_assoc}
use Rattle.std.specs.Prelude.{OnOk}
use Rattle.std.specs.Str.{bytes_eq}
use Rattle.std.proofs.lemmas.List.{drop_more, map_push}
use Rattle.std.proofs.lemmas.List.Sums.{fold-append}
use Rattle.std.proofs.Math.ListN.{drop_of_length-le}
use Rattle.sl_ast.specs.Trees.{Constructor, Head, Inside, Item, block, constructor}
use Rattle.sl_ast.specs.Unfolding.{Placed, all_in_block, as_items, constructors_inside, unfolded_from}
use Rattle.sl_section_all.specs.Scopes.{Scopes, behind_item, behind_items, nothing_defined, scopes_of, with_body}
use Rattle.sl_section_resolve.specs.Macros.{Body}
use Rattle.sl_section_resolve.specs.MacroViews.{bodies_of, macro_view}
use Rattle.sl_section_resolve.specs.Steps.{macro_name}
use Rattle.sl_section_resolve.specs.declared.macros.MacroBody.{MacroBody}
use Rattle.sl_section_terms.specs.declared.reach.Reach.{Reach}
use Rattle.sl_spec_rules.proofs.ListLemmas.{any_map}
use Rattle.sl_spec.specs.Named.{has_name}
use Rattle.sl_spec.specs.Unfolded.{unfolded_one}
use Rattle.sl_spec.specs.ConstructorItems.{constructors_in}
use Rattle.sl_spec.specs.Walks.{AddsItem}

abbrev pub with_reaches : Scopes → List Reach → Scopes
with_reaches s rs = record s { reaches = rs }

-- constructors define nothing
behind_constructors : (s : Scopes) (cs : List (Placed Constructor))
    → behind_items s (as_items cs) ≡ with_reaches s (s.reaches ++ replicate (length cs) s.reach)
behind_constructors s [] = ap (with_reaches s) (sym (append-nil s.reaches))
behind_constructors s (c ∷ cs) =
    behind_constructors (with_reaches s (s.reaches ++ s.reach ∷ [])) cs
    ∙ ap (with_reaches s) (append_assoc s.reaches (s.reach ∷ []) (replicate (length cs) s.reach))

counted : (cs : List (Placed Constructor)) → length (constructors_in (as_items cs)) ≡ length cs
unfolding constructors_in
counted [] = refl
counted (c ∷ cs) = ap suc (counted cs)

-- a block
pub behind_block : (s : Scopes) (n count : ℕ) (h : Head) (inside : Inside) → count ≡ length (constructors_in (unfolded_one n (block h inside)))
    → with_reaches s (s.reaches ++ replicate count s.reach) ≡ behind_items s (unfolded_one n (block h inside))
behind_block s n count h inside is =
    let mine = all_in_block h (constructors_inside (1 + n) inside) in
    let plain = append-nil (as_items mine) in
    ap (λ k. with_reaches s (s.reaches ++ replicate k s.reach)) (is ∙ ap (λ l. length (constructors_in l)) plain ∙ counted mine)
    ∙ sym (behind_constructors s mine) ∙ ap (behind_items s) (sym plain)

-- a constructor
pub behind_constructor : (s : Scopes) (n count : ℕ) (c : Constructor) → count ≡ length (constructors_in (unfolded_one n (constructor c)))
    → with_reaches s (s.reaches ++ replicate count s.reach) ≡ behind_items s (unfolded_one n (constructor c))
unfolding constructors_in
behind_constructor s n count c is = ap (λ k. with_reaches s (s.reaches ++ replicate k s.reach)) is

-- ---- macros

module _ (ms : List MacroBody) (m : MacroBody) where
  abbrev name : List ℕ
  name = macro_name (macro_view m)

  abbrev bodies : List Body
  bodies = bodies_of ms

  has_body : has_name (λ (x : MacroBody). x.of.now.name.now) name ms ≡ has_name macro_name name bodies
  has_body = sym (any_map (λ (b : Body). bytes_eq name (macro_name b)) macro_view ms)

  -- a name that is there
  pub body_is_there : has_name (λ (x : MacroBody). x.of.now.name.now) name ms ≡ true → bodies ≡ with_body bodies (macro_view m)
  body_is_there there = sym (ap (λ (b : Bool). if b then bodies else bodies ++ macro_view m ∷ []) (sym has_body ∙ there))

  -- a name that is new
  pub body_is_added : {A E : Type 0} (r : Result A E) (new : List MacroBody) → has_name (λ (x : MacroBody). x.of.now.name.now) name ms ≡ false
      → OnOk r (new ≡ ms ++ m ∷ []) → OnOk r (bodies_of new ≡ with_body bodies (macro_view m))
  body_is_added (Ok x) new none is =
      ap bodies_of is ∙ map_push macro_view ms m
      ∙ sym (ap (λ (b : Bool). if b then bodies else bodies ++ macro_view m ∷ []) (sym has_body ∙ none))
  body_is_added (Err e) new none is = tt

-- ---- all items

module _ (items : List Item) where
  -- what is defined behind the rest, from what is defined so far, is what is defined in all
  abbrev pub AreBehind : Scopes → (number i : ℕ) → Type 0
  AreBehind now number i = behind_items now (unfolded_from number (drop i items)) ≡ behind_items nothing_defined (unfolded_from 0 items)

  pub goes_behind : (now new : Scopes) (number next i : ℕ) (item : Item) (old added : List (Placed Constructor)) → i < length items → item ≡ get_or items i item
      → AddsItem number item old next added → new ≡ behind_items now (unfolded_one number item) → AreBehind now number i → AreBehind new next (i + 1)
  goes_behind now new number next i item old added below at adds is so_far =
      let rest : drop i items ≡ item ∷ drop (i + 1) items = drop_more items i item below ∙ ap (λ (z : Item). z ∷ drop (i + 1) items) (sym at) in
      ap (λ s. behind_items s (unfolded_from next (drop (i + 1) items))) is
      ∙ sym (fold-append (λ z (x : Placed Item). behind_item z x.1) now (unfolded_one number item) (unfolded_from next (drop (i + 1) items)))
      ∙ ap (behind_items now) (sym (adds.rest (drop (i + 1) items)))
      ∙ ap (λ (l : List Item). behind_items now (unfolded_from number l)) (sym rest)
      ∙ so_far

  pub all_behind : (now : Scopes) (number i : ℕ) → length items ≤ i → AreBehind now number i → now ≡ scopes_of items
  unfolding scopes_of
  all_behind now number i end so_far = ap (λ (l : List Item). behind_items now (unfolded_from number l)) (sym (drop_of_length-le items end)) ∙ so_far
