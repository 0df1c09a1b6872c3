-- What errors tell is why the specification is refused.
use Rattle.std.proofs.Common.{◌≡◌, ℕ, inl, inr, List, Option, Some, None, Result, Ok, Err, refl, sym, ap, ◌∙◌}
use Rattle.std.specs.Prelude.{IfOk, slice_get}
use Rattle.std.proofs.lemmas.Option.{same_Some}
use Rattle.sl_ast.specs.Trees.{Item}
use Rattle.sl_ast.specs.Views.{indexes_of, item_indexes, items_of}
use Rattle.sl_ast.specs.declared.items.Item.{Item as WrittenItem}
use Rattle.sl_ast.specs.declared.items.Spec.{Spec}
use Rattle.sl_bind.proofs.IndexLemmas.{joined_is_gathered}
use Rattle.sl_bind.specs.Refusals as bind
use Rattle.sl_bind.specs.BindFaults.{HasFault, token_of}
use Rattle.sl_bind.specs.declared.fault.BindFault.{BindFault}
use Rattle.sl_bind.specs.declared.fault.BindFault.TheVariants as broken
use Rattle.sl_bind.specs.declared.bound.BindError.{BindError}
use Rattle.sl_bind.specs.declared.bound.BindError.TheVariants as b
use Rattle.sl_bind_compile.specs.Outcomes.{Binds, Compiles, Refusal, all_constructors, ambiguous, flaw_bound, flawed, of_bound, of_fault, of_report}
use Rattle.sl_bind_compile.specs.Places.{IsTold, TellsRefusal, refused}
use Rattle.sl_bind_compile.specs.Refusals.{IsRefused, Refuses, unbound}
use Rattle.sl_bind_compile.specs.declared.error.CompileError.{CompileError}
use Rattle.sl_bind_compile.specs.declared.error.CompileError.TheVariants as e
use Rattle.sl_conflict.specs.declared.judging.ConflictError.TheVariants as conflict
use Rattle.sl_spec_rules.specs.Gathered.{gathered}
use Rattle.sl_cube_sets.specs.declared.report.Report.{Report}
use Rattle.sl_shape.specs.Tables.{IsFirstFault}
use Rattle.sl_shape.specs.declared.errors.ShapeError.TheVariants as shape
use Rattle.sl_shape.specs.declared.faults.Fault.{Fault}
use Rattle.sl_shape.specs.declared.faults.Fault.TheVariants as fault
use Rattle.sl_conflict.specs.TableTests as sound
use Rattle.sl_conflict.specs.Soundness.{IsAmbiguousAt, IsSound}
use Rattle.sl_conflict.specs.declared.soundness.Unsound.{Unsound}
use Rattle.sl_conflict.specs.declared.soundness.Unsound.TheVariants as u
use Rattle.sl_spec.specs.declared.tables.Tables.{Tables}

-- ---- rules and sizes

-- an error of `bind` is one of `compile`
by_bind : (spec : Spec) (fault : BindFault) (token : Option ℕ) → HasFault spec fault token → IsRefused spec (flawed (flaw_bound fault) token)
by_bind spec fault token h = record {
  refusal = of_bound (fault, h.item);
  compiles = inl (record { refusal = of_bound (fault, h.item); binds = ((fault, h.item), h.binds, refl); is = refl });
  is = ap (λ (o : Option ℕ). flawed (flaw_bound fault) o) h.token_is;
}

pub unbound_refuses : (spec : Spec) (error : BindError) → bind.Refuses spec error → Refuses spec (unbound error)
unbound_refuses spec (b.Rule number token) h = by_bind spec (broken.Rule number) token h
unbound_refuses spec (b.SizeClash token) h = by_bind spec broken.SizeClash token h
unbound_refuses spec (b.SizeUnfixed token) h = by_bind spec broken.SizeUnfixed token h
unbound_refuses spec b.NoMemory h = tt

-- ---- sound tables

module _ (items : List Item) (t : Tables) (is : Binds items (Ok t)) where
  -- sound tables are what the specification compiles to
  pub compiles_sound : IsSound t (all_constructors items) → Compiles items (Ok t)
  compiles_sound sound = inr (record { tables = t; binds = is; judges = (refl, sound) })

  by_fault : (ctor : ℕ) (f : Fault) (x : Refusal) → IsFirstFault t (all_constructors items) ctor f
      → Some (of_fault t ctor f) ≡ Some x → Compiles items (Err x)
  by_fault ctor f x first same = inr (record {
    tables = t;
    binds = is;
    judges = inl (record { ctor = ctor; fault = f; first = first; is = sym (same_Some (of_fault t ctor f) x same) });
  })

  by_report : (table : ℕ) (told : Report) (x : Refusal) → IsAmbiguousAt t (all_constructors items) table told
      → Some (ambiguous (of_report t table told)) ≡ Some x → Compiles items (Err x)
  by_report table told x first same = inr (record {
    tables = t;
    binds = is;
    judges = inr (record {
      table = table;
      told = told;
      first = first;
      is = sym (same_Some (ambiguous (of_report t table told)) x same);
    });
  })

  -- what is refused of the tables is refused of the specification
  pub compiles_refused : (why : Unsound) (x : Refusal) → sound.Refuses t (all_constructors items) why
      → refused t why ≡ Some x → Compiles items (Err x)
  compiles_refused (u.Shape (shape.InteriorEllipsis ctor)) x h same = by_fault ctor fault.InteriorEllipsis x h same
  compiles_refused (u.Shape (shape.TokensDiffer ctor)) x h same = by_fault ctor fault.TokensDiffer x h same
  compiles_refused (u.Shape (shape.Impossible ctor)) x h same = by_fault ctor fault.Impossible x h same
  compiles_refused (u.Shape (shape.TooManyCubes ctor n)) x h same = by_fault ctor (fault.TooManyCubes n) x h same
  compiles_refused (u.Shape (shape.WindowTooLong ctor n)) x h same = by_fault ctor (fault.WindowTooLong n) x h same
  compiles_refused (u.Shape shape.NoMemory) x h same = absurd (let e : ⊥ = cc in e)
  compiles_refused (u.Conflict (conflict.Ambiguous table first second both apart)) x h same =
      by_report table (record { both = both; first = first; second = second; apart = apart }) x h same
  compiles_refused (u.Conflict conflict.NoMemory) x h same = absurd (let e : ⊥ = cc in e)

-- ---- first tokens

told_refuses : (spec : Spec) (o : Option Refusal) (told : Refusal) → ((x : Refusal) → o ≡ Some x → Compiles (items_of spec) (Err x))
    → IsTold (indexes_of spec) o told → (x : Refusal) × Compiles (items_of spec) (Err x) × IsTold (indexes_of spec) (Some x) told
told_refuses spec None told all h = absurd h
told_refuses spec (Some x) told all h = (x, all x refl, h)

-- an error that tells a refusal of the specification is why it is refused
pub tells_refuses : (spec : Spec) (o : Option Refusal) (error : CompileError) → ((x : Refusal) → o ≡ Some x → Compiles (items_of spec) (Err x))
    → TellsRefusal (indexes_of spec) o error → Refuses spec error
tells_refuses spec o (e.Flaw f token) all h =
    let there = told_refuses spec o (flawed f token) all h in record { refusal = there.0; compiles = there.1; is = there.2 }
tells_refuses spec o (e.Ambiguous a) all h =
    let there = told_refuses spec o (ambiguous a) all h in record { refusal = there.0; compiles = there.1; is = there.2 }
tells_refuses spec o e.NoMemory all h = tt

-- the first token of an item, by the tokens that a specification keeps
pub first_token_is : {E : Type 0} (spec : Spec) (items : List WrittenItem) (o : Option ℕ) (item : ℕ) (r : Result (Option ℕ) E) → items ≡ spec.items.items → Some item ≡ o
    → IfOk r (λ token. token ≡ slice_get (gathered item_indexes items) item) → IfOk r (λ token. token ≡ token_of (indexes_of spec) o)
first_token_is spec items o item (Ok token) same is h =
    h ∙ ap (λ (l : List WrittenItem). slice_get (gathered item_indexes l) item) same
    ∙ ap (λ (l : List ℕ). slice_get l item) (sym (joined_is_gathered item_indexes spec.items.items))
    ∙ ap (λ (p : Option ℕ). token_of (indexes_of spec) p) is
first_token_is spec items o item (Err e) same is h = tt
