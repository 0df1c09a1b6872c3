-- A specification has one outcome, and it can't be that it has none.
use Rattle.std.proofs.Common.{◌≡◌, ℕ, ◌⊎◌, inl, inr, List, Option, Ok, Err, refl, sym, ap, subst, ◌∙◌}
use Rattle.sl_ast.specs.Trees.{Constructor, Item}
use Rattle.sl_ast.specs.Unfolding.{Placed}
use Rattle.sl_bind.proofs.VerdictLemmas.{one_verdict, some_verdict}
use Rattle.sl_bind.specs.Binding as bind
use Rattle.sl_bind.specs.declared.fault.BindFault.{BindFault}
use Rattle.sl_bind_compile.specs.Outcomes.{Binds, Compilation, Compiles, IsAmbiguous, IsFaulty, Judges, Refusal, all_constructors, ambiguous, of_bound, of_fault, of_report}
use Rattle.sl_bind_compile.proofs.ResultLemmas.{err_is, ok_is, ok_not_err}
use Rattle.sl_bind_compile.proofs.StandLemmas.{stands}
use Rattle.sl_cube_sets.specs.declared.report.Report.{Report}
use Rattle.sl_base_surely.specs.Surely.{Surely}
use Rattle.sl_base_surely.proofs.SurelyLemmas.{surely, surely_map, surely_then}
use Rattle.sl_shape.specs.declared.faults.Fault.{Fault}
use Rattle.sl_conflict.specs.TableTests.{Stand}
use Rattle.sl_conflict.proofs.SoundLemmas.{Verdict, faulty_not_ambiguous, one_ambiguous, one_fault, some_judgement, sound_not_ambiguous, sound_not_faulty}
use Rattle.sl_spec.specs.declared.tables.Tables.{Tables}
use Rattle.sl_word.specs.declared.word.Size.{Size}

-- ---- tables

binds_one : (items : List Item) (r q : Compilation) → Binds items r → Binds items q → r ≡ q
binds_one items (Ok t) (Ok u) h g =
    ap Ok (ap (λ (p : Tables × List (List Size)). p.0) (ok_is (t, h.0) (u, g.0) (one_verdict items (Ok (t, h.0)) (Ok (u, g.0)) h.1 g.1)))
binds_one items (Ok t) (Err x) h g = absurd (ok_not_err (t, h.0) g.0 (one_verdict items (Ok (t, h.0)) (Err g.0) h.1 g.1))
binds_one items (Err x) (Ok t) h g = absurd (ok_not_err (t, g.0) h.0 (one_verdict items (Ok (t, g.0)) (Err h.0) g.1 h.1))
binds_one items (Err x) (Err y) h g =
    ap Err (h.2 ∙ ap (λ (f : BindFault × Option ℕ). of_bound f) (err_is {A = Tables × List (List Size)} h.0 g.0 (one_verdict items (Err h.0) (Err g.0) h.1 g.1)) ∙ sym g.2)

binds_by : (items : List Item) → (v : bind.Verdict) × bind.Binds items v → (r : Compilation) × Binds items r
binds_by items (Ok found, binds) = (Ok found.0, (found.1, binds))
binds_by items (Err fault, binds) = (Err (of_bound fault), (fault, binds, refl))

-- ---- sound tables

module _ (t : Tables) (cs : List (Placed Constructor)) (stand : Stand t cs) where
  faulty_one : (x y : Refusal) → IsFaulty t cs x → IsFaulty t cs y → x ≡ y
  faulty_one x y h g =
      let one = one_fault t cs stand h.ctor g.ctor h.fault g.fault h.first g.first in
      h.is ∙ ap (λ (i : ℕ). of_fault t i h.fault) one.0 ∙ ap (λ (f : Fault). of_fault t g.ctor f) one.1 ∙ sym g.is

  ambiguous_one : (x y : Refusal) → IsAmbiguous t cs x → IsAmbiguous t cs y → x ≡ y
  ambiguous_one x y h g =
      let one = one_ambiguous t cs h.table g.table h.told g.told h.first g.first in
      h.is ∙ ap (λ (b : ℕ). ambiguous (of_report t b h.told)) one.0
      ∙ ap (λ (r : Report). ambiguous (of_report t g.table r)) one.1 ∙ sym g.is

  not_both : (x y : Refusal) → IsFaulty t cs x → IsAmbiguous t cs y → ⊥
  not_both x y h g = faulty_not_ambiguous t cs stand h.ctor h.fault g.table g.told h.first g.first

  refused_one : (x y : Refusal) → IsFaulty t cs x ⊎ IsAmbiguous t cs x → IsFaulty t cs y ⊎ IsAmbiguous t cs y → x ≡ y
  refused_one x y (inl h) (inl g) = faulty_one x y h g
  refused_one x y (inl h) (inr g) = absurd (not_both x y h g)
  refused_one x y (inr h) (inl g) = absurd (not_both y x g h)
  refused_one x y (inr h) (inr g) = ambiguous_one x y h g

  sound_not_refused : (x : Refusal) → Judges t cs (Ok t) → IsFaulty t cs x ⊎ IsAmbiguous t cs x → ⊥
  sound_not_refused x h (inl g) = sound_not_faulty t cs stand g.ctor g.fault h.1 g.first
  sound_not_refused x h (inr g) = sound_not_ambiguous t cs g.table g.told h.1 g.first

  judges_one : (r q : Compilation) → Judges t cs r → Judges t cs q → r ≡ q
  judges_one (Ok a) (Ok b) h g = ap Ok (h.0 ∙ sym g.0)
  judges_one (Ok a) (Err x) h g = absurd (sound_not_refused x (refl, h.1) g)
  judges_one (Err x) (Ok a) h g = absurd (sound_not_refused x (refl, g.1) h)
  judges_one (Err x) (Err y) h g = ap Err (refused_one x y h g)

  judges_by : Verdict t cs → (r : Compilation) × Judges t cs r
  judges_by (inl sound) = (Ok t, (refl, sound))
  judges_by (inr (inl f)) = (Err (of_fault t f.0 f.1), inl (record { ctor = f.0; fault = f.1; first = f.2; is = refl }))
  judges_by (inr (inr a)) = (Err (ambiguous (of_report t a.0 a.1)), inr (record { table = a.0; told = a.1; first = a.2; is = refl }))

-- ---- the whole

or_same : (items : List Item) (t u : Tables) → Binds items (Ok t) → Binds items (Ok u) → t ≡ u
or_same items t u h g = ok_is {E = Refusal} t u (binds_one items (Ok t) (Ok u) h g)

pub compiles_one : (items : List Item) (r q : Compilation) → Compiles items r → Compiles items q → r ≡ q
compiles_one items r q (inl h) (inl g) = h.is ∙ binds_one items (Err h.refusal) (Err g.refusal) h.binds g.binds ∙ sym g.is
compiles_one items r q (inl h) (inr g) = absurd (ok_not_err g.tables h.refusal (binds_one items (Ok g.tables) (Err h.refusal) g.binds h.binds))
compiles_one items r q (inr h) (inl g) = absurd (ok_not_err h.tables g.refusal (binds_one items (Ok h.tables) (Err g.refusal) h.binds g.binds))
compiles_one items r q (inr h) (inr g) =
    let cs = all_constructors items in
    let same = or_same items g.tables h.tables g.binds h.binds in
    judges_one h.tables cs (stands items h.tables h.binds) r q h.judges (subst (λ (t : Tables). Judges t cs q) same g.judges)

pub some_compiles : (items : List Item) → Surely ((r : Compilation) × Compiles items r)
some_compiles items = surely_then (surely_map (binds_by items) (some_verdict items)) by
  where
    by : (r : Compilation) × Binds items r → Surely ((r : Compilation) × Compiles items r)
    by (Err x, binds) = surely (Err x, inl (record { refusal = x; binds = binds; is = refl }))
    by (Ok t, binds) =
        let cs = all_constructors items in
        let stand = stands items t binds in
        surely_map (λ (v : Verdict t cs). let found = judges_by t cs stand v in
        let p : (r : Compilation) × Compiles items r = (found.0, inr (record { tables = t; binds = binds; judges = found.1 })) in p)
        (some_judgement t cs stand)
