-- Names that are settled inside blocks, and those that are left.
use Rattle.std.proofs.Common.{◌≡◌, ℕ, ◌+◌, ◌<◌, ◌≤◌, true, List, [], ◌∷◌, ◌++◌, length, get_or, take, Option, None, Some, sym, ap, subst, ◌∙◌}
use Rattle.std.proofs.lemmas.List.{take_all, take_more}
use Rattle.std.specs.Option.{option_map, option_or}
use Rattle.std.specs.Prelude.{is_some}
use denote.Ref.{Bor}
use Rattle.sl_decode_meaning.specs.Kinds.{kind_of}
use Rattle.sl_decode_meaning.specs.Lookups.{given}
use Rattle.sl_decode_meaning.specs.Places.{first_place, or_start}
use Rattle.sl_decode_meaning.specs.Values.{Site, reads}
use Rattle.sl_decode_leaves.specs.Blocks.{ArePlain}
use Rattle.sl_decode_leaves.specs.Extents.{extent, leaves_at}
use Rattle.sl_decode_leaves.specs.declared.extents.Extent.{Extent}
use Rattle.sl_decode_leaves.specs.declared.leaves.Leaf as l
use Rattle.sl_decode_leaves.proofs.LeafLemmas.{first_append}
use Rattle.sl_decode_leaves.proofs.TiedLemmas.{all_but_last, kind_plain}
use Rattle.sl_spec.proofs.KeyedLemmas.{all_push}
use Rattle.sl_decode_plan.specs.Settled.{AddsUnsettled, BeginsWith, IsSettled}
use Rattle.sl_decode_plan.specs.Uses.{IsSameName, ReadAsBefore, ReadsAsBefore, read_at}
use Rattle.sl_decode_plan.specs.declared.uses.Used.{Used}
use Rattle.sl_decode_plan.proofs.UseLemmas.{read_as, read_there, uses_found}
use Rattle.sl_spec.specs.Named.{has_name, index_named}
use Rattle.sl_spec.specs.Tables.{Name, Operand}
use Rattle.sl_spec.specs.declared.tables.Tables.{Tables}

-- ---- fields

module _ (t : Tables) (front : List l.Leaf) (name : Name) (id : ℕ) (is : index_named (λ f. f.name) name t.fields ≡ Some id) where
  reads_there : (os : List Operand) (ls : List l.Leaf) (s : Site) → ArePlain t os
      → reads t os (leaves_at s.lengths ls) s name ≡ given t id s.bytes (s.at + or_start (first_place name (leaves_at s.lengths ls))) s.context
  reads_there os ls s plain =
      let place = or_start (first_place name (leaves_at s.lengths ls)) in
      read_there t (leaves_at s.lengths ls) s name (kind_of t os name) ∙ ap (λ k. read_at t s k place) (kind_plain t name id is os plain)

  -- one that hangs on no place
  pub settled_anywhere : ((bytes : List ℕ) (at other context : ℕ) → given t id bytes at context ≡ given t id bytes other context) → IsSettled t front name
  settled_anywhere none = λ os ls inside those ms into. (
    kind_plain t name id is os inside.0 ∙ sym (kind_plain t name id is those into.0),
    λ s. reads_there os ls s inside.0 ∙ none s.bytes _ _ s.context ∙ sym (reads_there those ms s into.0),
  )

  found_front : (lengths : List ℕ) (ls : List l.Leaf) (at : ℕ) → BeginsWith front ls → first_place name (leaves_at lengths front) ≡ Some at
      → first_place name (leaves_at lengths ls) ≡ Some at
  found_front lengths ls at begins found =
      ap (first_place name) (begins.1 lengths) ∙ first_append name (leaves_at lengths front) (begins.0 lengths)
      ∙ ap (λ o. option_or o (first_place name (begins.0 lengths))) found

  -- one that stands in their patterns
  pub settled_there : (o : Option (Bor Extent)) → is_some o ≡ true
      → ((lengths : List ℕ) → option_map (λ e. extent e.now lengths) o ≡ first_place name (leaves_at lengths front)) → IsSettled t front name
  settled_there None some found = absurd (cc some)
  settled_there (Some e) some found = λ os ls inside those ms into. (
    kind_plain t name id is os inside.0 ∙ sym (kind_plain t name id is those into.0),
    λ s. reads_there os ls s inside.0
        ∙ ap (λ o. given t id s.bytes (s.at + or_start o) s.context)
        (found_front s.lengths ls (extent e.now s.lengths) inside.1 (sym (found s.lengths)) ∙ sym (found_front s.lengths ms (extent e.now s.lengths) into.1 (sym (found s.lengths))))
        ∙ sym (reads_there those ms s into.0),
  )

-- ---- names that are left

pub took_more : {X : Type 0} (xs : List X) (i : ℕ) (x : X) → i < length xs → x ≡ get_or xs i x → take (i + 1) xs ≡ take i xs ++ x ∷ []
took_more xs i x below at = take_more xs i x below ∙ ap (λ z. take i xs ++ z ∷ []) (sym at)

-- what reads as before, where its name stands for the same and gives the same
reads_too : (t : Tables) (os those : List Operand) (ls ms : List l.Leaf) (x : Used) → IsSameName t os ls x.name.now those ms → ReadsAsBefore t os ls x
    → ReadsAsBefore t those ms x
reads_too t os those ls ms x same before = (sym same.0 ∙ before.0, λ s. sym (same.1 s) ∙ before.1 s)

module _ (t : Tables) (front : List l.Leaf) where
  pub settled_added : (x : Used) (old : List Used) → IsSettled t front x.name.now → AddsUnsettled t front (x ∷ []) old old
  settled_added x old settled = λ os ls inside before its. (
    before,
    λ those ms into stand. (stand, (reads_too t os those ls ms x (settled os ls inside those ms into) its.0, tt)),
  )

  pub there_added : (x : Used) (old : List Used) → has_name (λ y. y.name.now) x.name.now old ≡ true → AddsUnsettled t front (x ∷ []) old old
  there_added x old has = λ os ls inside before its.
      let uses = uses_found t os ls x.name.now old has before in (
        before,
        λ those ms into stand. (stand, (reads_too t os those ls ms x (uses.holds those ms stand).1 its.0, tt)),
      )

  pub unsettled_added : (x y : Used) (old new : List Used) → new ≡ old ++ y ∷ [] → y.name.now ≡ x.name.now → y.kind ≡ x.kind
      → ((lengths : List ℕ) → extent y.place lengths ≡ extent x.place lengths) → AddsUnsettled t front (x ∷ []) old new
  unsettled_added x y old new added named kind place = λ os ls inside before its. (
    subst (ReadAsBefore t os ls) (sym added)
        (all_push (ReadsAsBefore t os ls) old y before (read_as t os ls x y (sym named) its.0 (sym kind) (λ lengths. sym (place lengths)))),
    λ those ms into stand.
        let parts = all_but_last (ReadsAsBefore t those ms) old y (subst (ReadAsBefore t those ms) added stand) in
        (parts.0, (read_as t those ms y x named parts.1 kind place, tt)),
  )

  -- ---- one by one

  pub none_added : (all : List Used) → AddsUnsettled t front [] all all
  none_added all = λ os ls inside before its. (before, λ those ms into stand. (stand, tt))

  pub one_added : (used old now new : List Used) (i : ℕ) (x : Used) → i < length used → x ≡ get_or used i x → AddsUnsettled t front (x ∷ []) now new
      → AddsUnsettled t front (take i used) old now → AddsUnsettled t front (take (i + 1) used) old new
  one_added used old now new i x below at one so_far = λ os ls inside before its.
      let cut = took_more used i x below at in
      let these = all_but_last (ReadsAsBefore t os ls) (take i used) x (subst (ReadAsBefore t os ls) cut its) in
      let first = so_far os ls inside before these.0 in
      let then = one os ls inside first.0 (these.1, tt) in (
        then.0,
        λ those ms into stand.
            let inner = then.1 those ms into stand in
            let outer = first.1 those ms into inner.0 in
            (outer.0, subst (ReadAsBefore t those ms) (sym cut) (all_push (ReadsAsBefore t those ms) (take i used) x outer.1 inner.1.0)),
      )

  pub all_added : (used old new : List Used) (i : ℕ) → length used ≤ i → AddsUnsettled t front (take i used) old new → AddsUnsettled t front used old new
  all_added used old new i end so_far = subst (λ (xs : List Used). AddsUnsettled t front xs old new) (take_all i used end) so_far

  -- what is left of some, and then more
  pub both_added : (some used mid new : List Used) → AddsUnsettled t front some [] mid → AddsUnsettled t front used mid new → AddsUnsettled t front used some new
  both_added some used mid new one more = λ os ls inside before its.
      let first = one os ls inside tt before in
      let then = more os ls inside first.0 its in (
        then.0,
        λ those ms into stand. let inner = then.1 those ms into stand in ((first.1 those ms into inner.0).1, inner.1),
      )
