-- The names of a pattern, collected once each, stand as its parts do.
use Rattle.std.proofs.Common.{◌≡◌, ◌&&◌, ◌||◌, Bool, true, false, cond, List, [], ◌∷◌, ◌++◌, fold, refl, sym, ap, ◌∙◌, if◌then◌else◌}
use Rattle.std.proofs.Math.Path.{fun_ext}
use Rattle.std.specs.List.{list_any}
use Rattle.std.specs.Str.{bytes_eq}
use Rattle.std.proofs.lemmas.Slice.Eq.{bytes_eq-Decides}
use Rattle.sl_spec_rules.specs.Names.{Name, is_among}
use Rattle.sl_spec_actions.specs.Parts.{Part}
use Rattle.sl_spec_actions.specs.ActionNames.{with_name}
use Rattle.sl_spec_actions.specs.PatternNames.{PatternNames, no_names, standing_of, with_part}
use Rattle.sl_spec_actions.specs.Standing.{Standing, standing}

or_swap : (a b c : Bool) → ((a || b) || c) ≡ (a || (b || c))
or_swap true b c = refl
or_swap false b c = refl

or_false : (a : Bool) → (a || false) ≡ a
or_false true = refl
or_false false = refl

among_append : (names : List Name) (n w : Name) → is_among (names ++ n ∷ []) w ≡ (is_among names w || bytes_eq w n)
among_append [] n w = or_false (bytes_eq w n)
among_append (m ∷ names) n w = ap (λ b. bytes_eq w m || b) (among_append names n w) ∙ sym (or_swap (bytes_eq w m) (is_among names w) (bytes_eq w n))

-- what is there already adds nothing
absorbed : (names : List Name) (n w : Name) (same : Bool) → bytes_eq w n ≡ same → is_among names n ≡ true → is_among names w ≡ (is_among names w || same)
absorbed names n w false e h = sym (or_false (is_among names w))
absorbed names n w true e h =
    let there : is_among names w ≡ true = ap (is_among names) ((bytes_eq-Decides w n).0 e) ∙ h in
    there ∙ sym (ap (λ b. b || true) there)

more_by : (names : List Name) (n w : Name) (b : Bool) → is_among names n ≡ b → is_among (if b then names else names ++ n ∷ []) w ≡ (is_among names w || bytes_eq w n)
more_by names n w true h = absorbed names n w (bytes_eq w n) refl h
more_by names n w false h = among_append names n w

among_more : (names : List Name) (n w : Name) → is_among (with_name names n) w ≡ (is_among names w || bytes_eq w n)
among_more names n w = more_by names n w (is_among names n) refl

among_if : (b : Bool) (names : List Name) (n w : Name) → is_among (cond b (with_name names n) names) w ≡ (is_among names w || (b && bytes_eq w n))
among_if true names n w = among_more names n w
among_if false names n w = sym (or_false (is_among names w))

anywhere_of : (names : PatternNames) (ps : List Part) (w : Name) → is_among (fold with_part names ps).anywhere w ≡ (is_among names.anywhere w || list_any (λ p. bytes_eq w p.name) ps)
anywhere_of names [] w = sym (or_false (is_among names.anywhere w))
anywhere_of names (p ∷ ps) w =
    anywhere_of (with_part names p) ps w ∙ ap (λ b. b || list_any (λ p. bytes_eq w p.name) ps) (among_more names.anywhere p.name w)
    ∙ or_swap (is_among names.anywhere w) (bytes_eq w p.name) (list_any (λ p. bytes_eq w p.name) ps)

bare_of : (names : PatternNames) (ps : List Part) (w : Name) → is_among (fold with_part names ps).bare w ≡ (is_among names.bare w || list_any (λ p. p.bare && bytes_eq w p.name) ps)
bare_of names [] w = sym (or_false (is_among names.bare w))
bare_of names (p ∷ ps) w =
    bare_of (with_part names p) ps w ∙ ap (λ b. b || list_any (λ q. q.bare && bytes_eq w q.name) ps) (among_if p.bare names.bare p.name w)
    ∙ or_swap (is_among names.bare w) (p.bare && bytes_eq w p.name) (list_any (λ q. q.bare && bytes_eq w q.name) ps)

behind_of : (names : PatternNames) (ps : List Part) (w : Name)
    → is_among (fold with_part names ps).behind_table w ≡ (is_among names.behind_table w || list_any (λ p. p.behind_table && bytes_eq w p.name) ps)
behind_of names [] w = sym (or_false (is_among names.behind_table w))
behind_of names (p ∷ ps) w =
    behind_of (with_part names p) ps w ∙ ap (λ b. b || list_any (λ q. q.behind_table && bytes_eq w q.name) ps) (among_if p.behind_table names.behind_table p.name w)
    ∙ or_swap (is_among names.behind_table w) (p.behind_table && bytes_eq w p.name) (list_any (λ q. q.behind_table && bytes_eq w q.name) ps)

abbrev made : (Name → Bool) → (Name → Bool) → (Name → Bool) → Standing
made a b c = record { anywhere = a; bare = b; behind_table = c }

alike : {a b c x y z : Name → Bool} → a ≡ x → b ≡ y → c ≡ z → made a b c ≡ made x y z
alike {b = b} {c = c} {x = x} {y = y} p q r = ap (λ f. made f b c) p ∙ ap (λ f. made x f c) q ∙ ap (λ f. made x y f) r

pub all_stand : (start now : PatternNames) (ps : List Part) → start ≡ no_names → now ≡ fold with_part start ps → standing_of now ≡ standing ps
all_stand start now ps none is =
    ap standing_of (is ∙ ap (λ (names : PatternNames). fold with_part names ps) none)
    ∙ alike (fun_ext (anywhere_of no_names ps)) (fun_ext (bare_of no_names ps)) (fun_ext (behind_of no_names ps))
