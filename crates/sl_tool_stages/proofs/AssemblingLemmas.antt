-- What an instruction is assembled at: one context, or one refusal.
use Rattle.std.proofs.Common.{ℕ, ◌%◌, ◌<◌, ◌≤◌, ◌⊎◌, inl, inr, Bool, true, false, true≢false, List, Result, Ok, Err, refl, sym, ap, ◌∙◌, arith}
use Rattle.std.proofs.lemmas.Bool.{cases_lt}
use Rattle.sl_asm_encodings.specs.Encodings.{HasNoActions, IsFirstWithAction}
use Rattle.sl_asm_encodings.proofs.ActionLemmas.{one_first, surely_first}
use Rattle.sl_base_surely.proofs.SurelyLemmas.{surely, surely_map}
use Rattle.sl_bind_compile.specs.Outcomes.{all_constructors}
use Rattle.sl_tool_contexts.specs.Words.{starting_context}
use Rattle.sl_tool_request.specs.Requests.{Assembly, Field, Patch}
use Rattle.sl_tool_stages.specs.Assembling.{Bases, Begins, BeginsLines, Opens, Permits, addresses_of}
use Rattle.sl_tool_stages.specs.Places.{place_of_ctor}
use Rattle.sl_tool_stages.specs.Problems.{refusal_at, refusal_of_base}
use Rattle.sl_tool_stages.specs.Stage.{HasOneResult, HasSomeResult}
use Rattle.sl_tool_stages.specs.Stages.{opened}
use Rattle.sl_tool_stages.specs.Values.{Compiled}
use Rattle.sl_tool_stages.specs.declared.problem.Problem.TheVariants.{HasActions, Misaligned, ValueOutOfRange}
use Rattle.sl_tool_stages.specs.declared.refusal.Refusal.{Refusal}
use Rattle.sl_tool_stages.proofs.Thens.{then_one, then_some}

permits_one : (takes_actions : Bool) → HasOneResult (Permits takes_actions)
permits_one a c (Ok x) (Ok y) h g = ap Ok (h.0 ∙ sym g.0)
permits_one a c (Ok x) (Err y) h g = absurd (h.1 g.1 g.0 g.2.0)
permits_one a c (Err x) (Ok y) h g = absurd (g.1 h.1 h.0 h.2.0)
permits_one a c (Err x) (Err y) h g =
    let same = one_first (all_constructors c.tree.items) h.0 g.0 h.2 g.2 in
    ap Err (h.3 ∙ ap (λ (n : ℕ). refusal_at (place_of_ctor c n) HasActions) same ∙ sym g.3)

abbrev Permitted : Bool → Compiled → Type 0
Permitted takes_actions c = (r : Result Compiled Refusal) × Permits takes_actions c r

permits_by : (c : Compiled) → HasNoActions (all_constructors c.tree.items) ⊎ ((n : ℕ) × IsFirstWithAction (all_constructors c.tree.items) n) → Permitted false c
permits_by c (inl quiet) = (Ok c, (refl, λ e. quiet))
permits_by c (inr first) = (Err (refusal_at (place_of_ctor c first.0) HasActions), (first.0, refl, first.1, refl))

permits_some : (takes_actions : Bool) (c : Compiled) → HasSomeResult (Permits takes_actions) c
permits_some true c = surely (let p : Permitted true c = (Ok c, (refl, λ e. absurd (true≢false e))) in p)
permits_some false c = surely_map (permits_by c) (surely_first (all_constructors c.tree.items))

bases_one : (a : Assembly) → HasOneResult (Bases a)
bases_one a c (Ok x) (Ok y) h g = ap Ok (h.0 ∙ sym g.0)
bases_one a c (Ok x) (Err y) h (inl g) = absurd (omega (arith, h.1, g.0))
bases_one a c (Ok x) (Err y) h (inr g) = absurd (omega (arith, h.2, g.1))
bases_one a c (Err x) (Ok y) (inl h) g = absurd (omega (arith, g.1, h.0))
bases_one a c (Err x) (Ok y) (inr h) g = absurd (omega (arith, g.2, h.1))
bases_one a c (Err x) (Err y) (inl h) (inl g) = ap Err (h.1 ∙ sym g.1)
bases_one a c (Err x) (Err y) (inl h) (inr g) = absurd (omega (arith, h.0, g.0))
bases_one a c (Err x) (Err y) (inr h) (inl g) = absurd (omega (arith, g.0, h.0))
bases_one a c (Err x) (Err y) (inr h) (inr g) = ap Err (h.2 ∙ sym g.2)

abbrev Based : Assembly → Compiled → Type 0
Based a c = (r : Result Compiled Refusal) × Bases a c r

bases_by : (a : Assembly) (c : Compiled) → (a.base < addresses_of c) ⊎ (addresses_of c ≤ a.base)
    → (0 < a.base % c.tables.alignment) ⊎ (a.base % c.tables.alignment ≤ 0) → Based a c
bases_by a c (inr past) off = (Err (refusal_of_base ValueOutOfRange), inl (past, refl))
bases_by a c (inl below) (inl off) = (Err (refusal_of_base Misaligned), inr (below, off, refl))
bases_by a c (inl below) (inr on) = (Ok c, (refl, below, omega (arith, on)))

bases_some : (a : Assembly) (c : Compiled) → HasSomeResult (Bases a) c
bases_some a c = surely (bases_by a c (cases_lt a.base (addresses_of c)) (cases_lt 0 (a.base % c.tables.alignment)))

opens_one : (context : List Field) → HasOneResult (Opens context)
opens_one context c r q h g = h ∙ sym g

opens_some : (context : List Field) (c : Compiled) → HasSomeResult (Opens context) c
opens_some context c = surely (let p : (r : Result ℕ Refusal) × Opens context c r = (opened (starting_context c.tables context), refl) in p)

pub begins_one : (a : Assembly) → HasOneResult (Begins a)
begins_one a = then_one _ _ (then_one _ _ (permits_one a.takes_actions) (bases_one a)) (opens_one a.context)

pub begins_some : (a : Assembly) (c : Compiled) → HasSomeResult (Begins a) c
begins_some a c = then_some _ _ c (then_some _ _ c (permits_some a.takes_actions c) (λ d h. bases_some a d)) (λ d h. opens_some a.context d)

pub begins_lines_one : (p : Patch) → HasOneResult (BeginsLines p)
begins_lines_one p = then_one _ _ (permits_one p.takes_actions) (opens_one p.context)

pub begins_lines_some : (p : Patch) (c : Compiled) → HasSomeResult (BeginsLines p) c
begins_lines_some p c = then_some _ _ c (permits_some p.takes_actions c) (λ d h. opens_some p.context d)
