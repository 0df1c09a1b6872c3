-- The names of a pattern lie within its length.
use Rattle.std.proofs.Common.{◌≡◌, ℕ, zero, suc, ◌+◌, ◌≤◌, max, Bool, true, false, cond, List, []}
use Rattle.std.proofs.Common.{◌∷◌, ◌++◌, Option, Some, None, refl, ap, ◌∙◌, arith}
use Rattle.std.specs.Prelude.{slice_get}
use Rattle.std.specs.Str.{bytes_eq}
use Rattle.std.proofs.lemmas.Slice.Eq.{bytes_eq-Decides}
use Rattle.sl_ast.specs.Trees.{Pattern, bare, constraint, group, ellipsis, joined}
use Rattle.sl_ast.specs.declared.patterns.PatternOp.{PatternOp}
use Rattle.sl_ast.specs.declared.patterns.PatternOp.TheVariants.{And, Then, Or}
use Rattle.sl_decode_meaning.specs.Kinds.{kind_of}
use Rattle.sl_decode_meaning.specs.Places.{Leaf, bare_place, covers, first_place, leaf, leaves, length_at}
use Rattle.sl_decode_meaning.specs.Places.{length_in, length_of, or_start, place_beside, slot_from}
use Rattle.sl_decode_meaning.specs.declared.kinds.Kind.{Kind}
use Rattle.sl_decode_meaning.specs.declared.kinds.Kind.TheVariants as k
use Rattle.sl_spec.specs.Tables.{Name, Operand}
use Rattle.sl_spec.specs.declared.tables.Tables.{Tables}
use Rattle.sl_spec_tables.specs.Lengths.{field_bytes, joined_bytes}

left_fits : (op : PatternOp) (at l m : ℕ) → at + l ≤ at + joined_bytes op l m
left_fits And at l m = omega arith
left_fits Then at l m = omega arith
left_fits Or at l m = omega arith

right_fits : (op : PatternOp) (at l m : ℕ) → place_beside op at l + m ≤ at + joined_bytes op l m
right_fits And at l m = omega arith
right_fits Then at l m = omega arith
right_fits Or at l m = omega arith

joined_more : (op : PatternOp) (a b m n : ℕ) → a ≤ m → b ≤ n
    → joined_bytes op a b ≤ joined_bytes op m n
joined_more And a b m n h e = omega arith
joined_more Then a b m n h e = omega arith
joined_more Or a b m n h e = omega arith

module _ (t : Tables) (os : List Operand) where
  -- What the names stand for ends within so many bytes.
  abbrev pub EndWithin : (Name → ℕ) → ℕ → List Leaf → Type 0
  EndWithin length bound [] = Unit {0}
  EndWithin length bound (leaf name alone at ∷ ls) =
      (at + covers t (kind_of t os name) (length name) ≤ bound) × EndWithin length bound ls

  module _ (length : Name → ℕ) where
    end_less : (a b : ℕ) (ls : List Leaf) → a ≤ b → EndWithin length a ls → EndWithin length b ls
    end_less a b [] less ends = tt
    end_less a b (leaf name alone at ∷ ls) less ends =
        let h = ends.0 in (omega arith, end_less a b ls less ends.1)

    end_both : (b : ℕ) (ls ms : List Leaf) → EndWithin length b ls → EndWithin length b ms
        → EndWithin length b (ls ++ ms)
    end_both b [] ms ends more = more
    end_both b (leaf name alone at ∷ ls) ms ends more = (ends.0, end_both b ls ms ends.1 more)

    pub leaves_end : (at : ℕ) (p : Pattern)
        → EndWithin length (at + length_in t os length p) (leaves t os length at p)
    unfolding leaves
    leaves_end at (bare name) = (omega arith, tt)
    leaves_end at (constraint name relation e) = (omega arith, tt)
    leaves_end at (group p) = leaves_end at p
    leaves_end at (ellipsis p) = leaves_end at p
    leaves_end at (joined op p q) =
        let l = length_in t os length p in
        let m = length_in t os length q in
        end_both (at + joined_bytes op l m) (leaves t os length at p)
        (leaves t os length (place_beside op at l) q)
        (end_less (at + l) (at + joined_bytes op l m) (leaves t os length at p)
        (left_fits op at l m) (leaves_end at p))
        (end_less (place_beside op at l + m) (at + joined_bytes op l m)
        (leaves t os length (place_beside op at l) q)
        (right_fits op at l m) (leaves_end (place_beside op at l) q))

    -- a field's first place
    module _ (name : Name) (id bound : ℕ) (is_field : kind_of t os name ≡ k.Field id)
        (short : field_bytes t (slice_get t.fields id) ≤ 16) where
      abbrev Ends : Option ℕ → Type 0
      Ends place = or_start place + field_bytes t (slice_get t.fields id) ≤ max 16 bound

      ends_here : (at : ℕ) (other : Name) → other ≡ name
          → at + covers t (kind_of t os other) (length other) ≤ bound → Ends (Some at)
      ends_here at other same ends =
          let e : covers t (kind_of t os other) (length other)
          ≡ field_bytes t (slice_get t.fields id) =
          ap (λ name. covers t (kind_of t os name) (length name)) same
          ∙ ap (λ kind. covers t kind (length name)) is_field in
          omega arith

      here_or_later : (at : ℕ) (other : Name) (later : Option ℕ)
          → at + covers t (kind_of t os other) (length other) ≤ bound → Ends later
          → Ends (cond (bytes_eq other name) (Some at) later)
      here_or_later at other later ends ends_later = by (bytes_eq other name) refl
        where
          by : (b : Bool) → bytes_eq other name ≡ b → Ends (cond b (Some at) later)
          by true is = ends_here at other ((bytes_eq-Decides other name).0 is) ends
          by false is = ends_later

      pub first_ends : (ls : List Leaf) → EndWithin length bound ls → Ends (first_place name ls)
      first_ends [] ends = omega (arith, short)
      first_ends (leaf other alone at ∷ ls) ends =
          here_or_later at other (first_place name ls) ends.0 (first_ends ls ends.1)

      -- and the place where it stands alone
      pub bare_ends : (ls : List Leaf) → EndWithin length bound ls → Ends (bare_place name ls)
      bare_ends [] ends = omega (arith, short)
      bare_ends (leaf other true at ∷ ls) ends =
          here_or_later at other (bare_place name ls) ends.0 (bare_ends ls ends.1)
      bare_ends (leaf other false at ∷ ls) ends = bare_ends ls ends.1

  -- ---- lengths that are known

  module _ (f g : Name → ℕ) (more : (name : Name) → f name ≤ g name) where
    covers_more : (kind : Kind) (m n : ℕ) → m ≤ n → covers t kind m ≤ covers t kind n
    covers_more (k.Field id) m n less = omega arith
    covers_more (k.Table id) m n less = less
    covers_more (k.Action i) m n less = omega arith
    covers_more k.Start m n less = omega arith
    covers_more k.Next m n less = omega arith
    covers_more k.Nothing m n less = omega arith

    pub longer : (p : Pattern) → length_in t os f p ≤ length_in t os g p
    longer (bare name) = covers_more (kind_of t os name) (f name) (g name) (more name)
    longer (constraint name relation e) =
        covers_more (kind_of t os name) (f name) (g name) (more name)
    longer (group p) = longer p
    longer (ellipsis p) = longer p
    longer (joined op p q) = joined_more op _ _ _ _ (longer p) (longer q)

none_at : (lengths : List ℕ) (found : Option ℕ) → length_at [] found ≤ length_at lengths found
none_at lengths None = omega arith
none_at lengths (Some zero) = omega arith
none_at lengths (Some (suc number)) = omega arith

-- where no operand is known
pub none_known : (os : List Operand) (lengths : List ℕ) (name : Name)
    → length_of os [] name ≤ length_of os lengths name
none_known os lengths name = none_at lengths (slot_from 0 os name)
