-- A field whose name stands alone in the pattern of a decoded node was looked up.
use Rattle.std.proofs.Common.{◌≡◌, ℕ, ◌+◌, Bool, true, false, cond, ◌⊎◌, inl, inr, List, [], ◌∷◌, ◌++◌, Option, Some, Result, Ok, Err, refl, sym, ap, subst, ◌∙◌}
use Rattle.std.specs.Prelude.{IfOk}
use Rattle.std.specs.Str.{bytes_eq}
use Rattle.std.proofs.lemmas.Bool.{false≢true}
use Rattle.std.proofs.lemmas.Slice.Eq.{bytes_eq-Decides}
use Rattle.sl_ast.specs.Trees.{Action, Pattern, bare, constraint, group, ellipsis, joined}
use Rattle.sl_decode_meaning.specs.Actions.{Own, look, look_kind, tell}
use Rattle.sl_decode_meaning.specs.Kinds.{kind_of}
use Rattle.sl_decode_meaning.specs.Lookups.{shown}
use Rattle.sl_decode_meaning.specs.Outcomes.{◌>>=◌, in_turn}
use Rattle.sl_decode_meaning.specs.Places.{Leaf, bare_place, leaf, leaves, length_in, or_start, place_beside}
use Rattle.sl_decode_meaning.specs.Values.{Site}
use Rattle.sl_decode_meaning.specs.declared.faults.Fault.{Fault}
use Rattle.sl_decode_meaning.specs.declared.kinds.Kind.{Kind}
use Rattle.sl_decode_meaning.specs.declared.kinds.Kind.TheVariants as k
use Rattle.sl_faithful_accepted.specs.Reading.{IsAlone}
use Rattle.sl_decode_lengths.proofs.GrowLemmas.{then_any, then_ok}
use Rattle.sl_spec.specs.Tables.{Name, Operand}
use Rattle.sl_spec.specs.declared.tables.Tables.{Tables}

-- ---- names that stand alone

-- The name stands alone among those of a pattern.
abbrev pub Has : Name → List Leaf → Type 0
Has name [] = ⊥
Has name (leaf other true at ∷ ls) = (other ≡ name) ⊎ Has name ls
Has name (leaf other false at ∷ ls) = Has name ls

has_left : (name : Name) (ls ms : List Leaf) → Has name ls → Has name (ls ++ ms)
has_left name [] ms h = absurd h
has_left name (leaf other true at ∷ ls) ms (inl same) = inl same
has_left name (leaf other true at ∷ ls) ms (inr later) = inr (has_left name ls ms later)
has_left name (leaf other false at ∷ ls) ms h = has_left name ls ms h

has_right : (name : Name) (ls ms : List Leaf) → Has name ms → Has name (ls ++ ms)
has_right name [] ms h = h
has_right name (leaf other true at ∷ ls) ms h = inr (has_right name ls ms h)
has_right name (leaf other false at ∷ ls) ms h = has_right name ls ms h

pub has_leaf : (t : Tables) (os : List Operand) (length : Name → ℕ) (at : ℕ) (name : Name) (p : Pattern)
    → IsAlone name p → Has name (leaves t os length at p)
unfolding leaves
has_leaf t os length at name (bare other) alone = inl alone
has_leaf t os length at name (constraint other relation e) alone = absurd alone
has_leaf t os length at name (group p) alone = has_leaf t os length at name p alone
has_leaf t os length at name (ellipsis p) alone = has_leaf t os length at name p alone
has_leaf t os length at name (joined op p q) (inl left) =
    has_left name (leaves t os length at p) (leaves t os length (place_beside op at (length_in t os length p)) q)
    (has_leaf t os length at name p left)
has_leaf t os length at name (joined op p q) (inr right) =
    has_right name (leaves t os length at p) (leaves t os length (place_beside op at (length_in t os length p)) q)
    (has_leaf t os length (place_beside op at (length_in t os length p)) name q right)

-- ---- look-ups

always : {A : Type 0} (r : Result A Fault) (P : Type 0) → P → IfOk r (λ x. P)
always (Ok x) P holds = holds
always (Err fault) P holds = tt

was_ok : (r : Result (Unit {0}) Fault) (c next : Own) → (r >>= λ found. Ok c) ≡ Ok next → r ≡ Ok tt
was_ok (Ok x) c next is = refl
was_ok (Err fault) c next is = absurd (let no : ⊥ = cc in no)

module _ (t : Tables) (os : List Operand) (s : Site) (name : Name) (id : ℕ)
    (is_field : kind_of t os name ≡ k.Field id) where
  -- The field has an entry at a place, if anything is attached to it.
  abbrev pub IsShown : Option ℕ → Type 0
  IsShown place = shown t id s.bytes (s.at + or_start place) s.context ≡ Ok tt

  looked : (ls : List Leaf) (c : Own) → Has name ls
      → IfOk (in_turn (look t os s) ls c) (λ next. IsShown (bare_place name ls))
  looked [] c h = absurd h
  looked (leaf other false at ∷ ls) c h = looked ls c h
  looked (leaf other true at ∷ ls) c h = by (bytes_eq other name) refl h (looked ls)
    where
      by : (b : Bool) → bytes_eq other name ≡ b → (other ≡ name) ⊎ Has name ls
          → ((c : Own) → Has name ls → IfOk (in_turn (look t os s) ls c) (λ next. IsShown (bare_place name ls)))
          → IfOk (look t os s (leaf other true at) c >>= in_turn (look t os s) ls)
          (λ next. IsShown (cond b (Some at) (bare_place name ls)))
      by true is h each = then_any (look t os s (leaf other true at) c) (in_turn (look t os s) ls)
          (λ next. IsShown (Some at))
          (λ next first. always (in_turn (look t os s) ls next) (IsShown (Some at))
          (was_ok (shown t id s.bytes (s.at + at) s.context) c next
          (subst (λ (kind : Kind). look_kind t s at kind c ≡ Ok next)
          (ap (kind_of t os) ((bytes_eq-Decides other name).0 is) ∙ is_field) first)))
      by false is (inl same) each = absurd (false≢true (sym is ∙ (bytes_eq-Decides other name).1 same))
      by false is (inr later) each =
          then_any (look t os s (leaf other true at) c) (in_turn (look t os s) ls)
          (λ next. IsShown (bare_place name ls))
          (λ next first. each next later)

  -- when all is done at a node, the field was looked up where its name stands alone
  pub late_shown : (ls : List Leaf) (as' : List Action) (c : Own) → Has name ls
      → IfOk (in_turn (look t os s) ls c >>= in_turn (tell t os ls s) as') (λ done. IsShown (bare_place name ls))
  late_shown ls as' c h = then_ok (in_turn (look t os s) ls c) (in_turn (tell t os ls s) as') (λ next. IsShown
      (bare_place name ls)) (λ done. IsShown (bare_place name ls))
      (looked ls c h) (λ next found. always (in_turn (tell t os ls s) as' next) (IsShown (bare_place name ls)) found)
