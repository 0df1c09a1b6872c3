-- No places come of no tokens, nor behind an item.
use Rattle.std.proofs.Common.{◌≡◌, ◌+◌, ◌≤◌, ℕ, Bool, true, List, [], ◌∷◌, ◌++◌, drop, length, refl, sym, ap, ◌∙◌, append-nil}
use Rattle.std.specs.Prelude.{if◌then◌else◌}
use Rattle.std.proofs.lemmas.List.{drop-map, drop_all}
use Rattle.sl_explain_names.specs.Places.{is_done, next_part, place_at, places_from}
use Rattle.sl_explain_names.specs.declared.places.Form.{Form}
use Rattle.sl_explain_names.specs.declared.places.Part.{Part}
use Rattle.sl_explain_names.specs.declared.places.Part.TheVariants.{Begin}
use Rattle.sl_explain_names.specs.declared.places.Place.{Place}
use Rattle.sl_lex.specs.Reading.{Token}
use Rattle.sl_lex.specs.Views.{view, views}
use Rattle.sl_lex.specs.declared.Tok.{Tok}

pub places_done : (form : Form) (part : Part) (at : ℕ) (ts : List Token) → is_done part ≡ true → places_from form part at ts ≡ []
places_done form part at [] h = refl
places_done form part at (t ∷ ts) h =
    ap (λ (b : Bool). let l : List Place = if b then [] else place_at at part ∷ places_from form (next_part form part t) (at + 1) ts in l) h

pub places_past : (form : Form) (part : Part) (at : ℕ) (ts : List Tok) → length ts ≤ at → places_from form part at (views (drop at ts)) ≡ []
places_past form part at ts h = ap (λ (l : List Tok). places_from form part at (views l)) (drop_all at ts h)

-- Where nothing is left, the places so far are all.
pub places_all : (form : Form) (index : ℕ) (ts : List Tok) (out old left : List Place)
    → out ++ left ≡ old ++ places_from form Begin index (views (drop index ts)) → left ≡ []
    → out ≡ old ++ places_from form Begin index (drop index (views ts))
places_all form index ts out old left h none =
    sym (append-nil out) ∙ ap (λ (l : List Place). out ++ l) (sym none) ∙ h
    ∙ ap (λ (l : List Token). old ++ places_from form Begin index l) (sym (drop-map view index ts))
