-- The pieces of a text, as a loop writes them.
use Rattle.std.proofs.Common.{◌≡◌, ℕ, zero, suc, ◌+◌, ◌-◌, ◌<◌, ◌≤◌, List, [], ◌∷◌, length, get_or, take, drop, Some, None, Ok, Err, arith, refl, sym, ap, ◌∙◌}
use Rattle.std.proofs.lemmas.Grind.{common_steps}
use Rattle.sl_preproc_directives.specs.Outcomes.{◌>>◌}
use Rattle.sl_preproc_directives.specs.Given.{FailsAs}
use Rattle.sl_preproc_directives.specs.declared.fault.Fault.{Fault}
use Rattle.sl_preproc_directives.specs.declared.fault.Fault.TheVariants.{Refused, NoMemory}
use Rattle.sl_preproc_directives.specs.Definitions.{Values}
use Rattle.sl_preproc_directives.specs.declared.fault.Cause.TheVariants.{ReplaceDepth}
use Rattle.sl_preproc_directives.specs.Replacement.{Page, Written, put, pieces, reference_at, write_pieces, write_name, write_text, stays}

pub name_out : (left : ℕ) (defs : Values) (name : List ℕ) (page : Page) → left ≡ 0 → write_name left defs name page ≡ Err ReplaceDepth
unfolding write_name
name_out left defs name page h = rw h refl

pub name_value : (left : ℕ) (defs : Values) (name value : List ℕ) (page : Page) → (left ≡ 0 → ⊥) → defs name ≡ Some value
    → write_name left defs name page ≡ write_text (left - 1) defs value page
unfolding write_name
name_value left defs name value page some h =
    let k : left ≡ suc (left - 1) = omega arith in
    let one : write_name (suc (left - 1)) defs name page ≡ write_text (left - 1) defs value page = rw h refl in
    ap (λ (n : ℕ). write_name n defs name page) k ∙ one

pub name_stays : (left : ℕ) (defs : Values) (name : List ℕ) (page : Page) → (left ≡ 0 → ⊥) → defs name ≡ None
    → write_name left defs name page ≡ stays name page
unfolding write_name
name_stays left defs name page some h =
    let k : left ≡ suc (left - 1) = omega arith in
    let one : write_name (suc (left - 1)) defs name page ≡ stays name page = rw h refl in
    ap (λ (n : ℕ). write_name n defs name page) k ∙ one

whole : (s : List ℕ) → take (length s) s ≡ s
whole s = grind (arith, common_steps)

module _ (named : List ℕ → Page → Written) where
  no_pieces : (n : ℕ) (page : Page) → write_pieces named (pieces n []) page ≡ Ok page
  unfolding write_pieces pieces
  no_pieces zero page = refl
  no_pieces (suc n) page = refl

  pub is_written : (n : ℕ) (s : List ℕ) (page : Page) (total : Written) → length s < 1 → write_pieces named (pieces n s) page ≡ total → total ≡ Ok page
  is_written n [] page total h so_far = sym so_far ∙ no_pieces n page
  is_written n (b ∷ s) page total h so_far = absurd (omega arith)

  pub is_out : (most i : ℕ) (s : List ℕ) (page : Page) (total : Written) → most ≤ i → write_pieces named (pieces (most - i) s) page ≡ total → total ≡ Ok page
  unfolding write_pieces pieces
  is_out most i s page total le so_far =
      let k : most - i ≡ 0 = omega arith in
      let one : write_pieces named (pieces (most - i) s) page ≡ Ok page = rw k refl in
      sym so_far ∙ one

  name_first : (n : ℕ) (s : List ℕ) (page : Page) (name behind : List ℕ) → 1 ≤ length s → reference_at s ≡ Some (name, behind)
      → write_pieces named (pieces (suc n) s) page ≡ (named name page >> write_pieces named (pieces n behind))
  unfolding write_pieces pieces
  name_first n [] page name behind some h = absurd (omega arith)
  name_first n (b ∷ s) page name behind some h = rw h refl

  byte_first : (n : ℕ) (s : List ℕ) (page : Page) (d : ℕ) → 1 ≤ length s → reference_at s ≡ None
      → write_pieces named (pieces (suc n) s) page ≡ (put (get_or s 0 d) page >> write_pieces named (pieces n (take (length s - 1) (drop 1 s))))
  unfolding write_pieces pieces
  byte_first n [] page d some h = absurd (omega arith)
  byte_first n (b ∷ s) page d some h =
      let k : suc (length s) - 1 ≡ length s = omega arith in
      rw (h, k, whole s) refl

  module _ (most i : ℕ) (s : List ℕ) (page : Page) (total : Written) (lt : i < most) (some : 1 ≤ length s) (so_far : write_pieces named (pieces (most - i) s) page ≡ total) where
    next : most - i ≡ suc (most - (i + 1))
    next = omega arith

    pub name_fails : (name behind : List ℕ) (e : Fault) → reference_at s ≡ Some (name, behind) → FailsAs e (named name page) → FailsAs e total
    name_fails name behind NoMemory h f = tt
    name_fails name behind (Refused e) h f =
        sym so_far ∙ ap (λ (n : ℕ). write_pieces named (pieces n s) page) next ∙ name_first (most - (i + 1)) s page name behind some h
        ∙ ap (λ (w : Written). w >> write_pieces named (pieces (most - (i + 1)) behind)) f

    pub name_goes : (name behind : List ℕ) (after : Page) → reference_at s ≡ Some (name, behind) → named name page ≡ Ok after
        → write_pieces named (pieces (most - (i + 1)) behind) after ≡ total
    name_goes name behind after h f =
        sym (sym so_far ∙ ap (λ (n : ℕ). write_pieces named (pieces n s) page) next ∙ name_first (most - (i + 1)) s page name behind some h
        ∙ ap (λ (w : Written). w >> write_pieces named (pieces (most - (i + 1)) behind)) f)

    pub byte_fails : (d : ℕ) (e : Fault) → reference_at s ≡ None → FailsAs e (put (get_or s 0 d) page) → FailsAs e total
    byte_fails d NoMemory h f = tt
    byte_fails d (Refused e) h f =
        sym so_far ∙ ap (λ (n : ℕ). write_pieces named (pieces n s) page) next ∙ byte_first (most - (i + 1)) s page d some h
        ∙ ap (λ (w : Written). w >> write_pieces named (pieces (most - (i + 1)) (take (length s - 1) (drop 1 s)))) f

    pub byte_goes : (d : ℕ) (after : Page) → reference_at s ≡ None → put (get_or s 0 d) page ≡ Ok after
        → write_pieces named (pieces (most - (i + 1)) (take (length s - 1) (drop 1 s))) after ≡ total
    byte_goes d after h f =
        sym (sym so_far ∙ ap (λ (n : ℕ). write_pieces named (pieces n s) page) next ∙ byte_first (most - (i + 1)) s page d some h
        ∙ ap (λ (w : Written). w >> write_pieces named (pieces (most - (i + 1)) (take (length s - 1) (drop 1 s)))) f)
