-- Steps in rows, row by row.
use Rattle.std.proofs.Common.{◌≡◌, ℕ, ◌+◌, ◌<◌, List, [], ◌∷◌, Vec, length, get_or, drop, Result, Ok, Err, refl, sym, ap, ◌∙◌}
use Rattle.std.proofs.lemmas.List.{drop_more}
use Rattle.std.specs.declared.alloc.Global.{Global}
use Rattle.std.specs.declared.rc.Rc.{Rc}
use Rattle.sl_decode.specs.Outcomes.{Fails}
use Rattle.sl_decode.specs.declared.outcomes.DecodeError.{DecodeError}
use Rattle.sl_decode.specs.declared.outcomes.DecodeError.TheVariants as e
use Rattle.sl_decode_meaning.specs.Actions.{Changed, changed}
use Rattle.sl_decode_meaning.specs.Decoding.{Input, site_at}
use Rattle.sl_decode_meaning.specs.Outcomes.{◌>>=◌, in_turn}
use Rattle.sl_decode_meaning.specs.declared.faults.Fault.{Fault}
use Rattle.sl_decode_plan.specs.Rows.{all_steps}
use Rattle.sl_decode_plan.specs.Steps.{early_step}
use Rattle.sl_decode_plan.specs.declared.early.Early.{Early}
use Rattle.sl_decode_plan.specs.declared.early.Early.TheVariants.{Set, Note}
use Rattle.sl_decode_leaves.proofs.RunLemmas.{bind_alike}
use Rattle.sl_spec.specs.declared.tables.Tables.{Tables}
use Rattle.sl_decode_leaves.proofs.WholeLemmas.{turn_append}

module _ {T X : Type 0} (step : T → X → Result X Fault) (rows : List (Rc (Vec T Global) Global)) (i : ℕ) (row : Rc (Vec T Global) Global)
    (xs : List T) (below : i < length rows) (is : row ≡ get_or rows i row) (its : xs ≡ row.value.items) (x : X) (whole : Result X Fault)
    (so_far : in_turn step (all_steps (drop i rows)) x ≡ whole) where
  this_row : (in_turn step xs x >>= in_turn step (all_steps (drop (i + 1) rows))) ≡ whole
  this_row =
      let rest = drop (i + 1) rows in
      let cut : drop i rows ≡ row ∷ rest = drop_more rows i row below ∙ ap (λ (y : Rc (Vec T Global) Global). y ∷ rest) (sym is) in
      ap (λ ys. in_turn step ys x >>= in_turn step (all_steps rest)) its ∙ sym (turn_append step row.value.items (all_steps rest) x)
      ∙ sym (ap (λ (rs : List (Rc (Vec T Global) Global)). in_turn step (all_steps rs) x) cut) ∙ so_far

  -- a row that is done
  pub row_done : (y : X) → in_turn step xs x ≡ Ok y → in_turn step (all_steps (drop (i + 1) rows)) y ≡ whole
  row_done y done = sym (ap (λ r. r >>= in_turn step (all_steps (drop (i + 1) rows))) done) ∙ this_row

  -- a row with a fault
  pub row_fails : {Y : Type 0} (seen : Result X Fault → Result Y Fault) → ((fault : Fault) → seen (Err fault) ≡ Err fault) → (error : DecodeError)
      → Fails error (in_turn step xs x) → Fails error (seen whole)
  row_fails seen stays (e.Fault fault) fails =
      sym (ap seen (sym (ap (λ r. r >>= in_turn step (all_steps (drop (i + 1) rows))) fails) ∙ this_row)) ∙ stays fault
  row_fails seen stays e.NoMemory fails = tt

-- ---- steps before the operands, from any context

site_same : (t : Tables) (i : Input) (ctor at x y : ℕ) (a : Early) (c : Changed) → early_step t (site_at i ctor at [] x 0) a c ≡ early_step t (site_at i ctor at [] y 0) a c
site_same t i ctor at x y (Set low mask v) (changed context notes) = refl
site_same t i ctor at x y (Note mask flows) (changed context notes) = refl

pub sites_same : (t : Tables) (i : Input) (ctor at x y : ℕ) (steps : List Early) (c : Changed)
    → in_turn (early_step t (site_at i ctor at [] x 0)) steps c ≡ in_turn (early_step t (site_at i ctor at [] y 0)) steps c
sites_same t i ctor at x y [] c = refl
sites_same t i ctor at x y (a ∷ as') c =
    ap (λ r. r >>= in_turn (early_step t (site_at i ctor at [] x 0)) as') (site_same t i ctor at x y a c)
    ∙ bind_alike (early_step t (site_at i ctor at [] y 0) a c) (in_turn (early_step t (site_at i ctor at [] x 0)) as') (in_turn (early_step t (site_at i ctor at [] y 0)) as')
    (sites_same t i ctor at x y as')
