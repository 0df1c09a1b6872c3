-- What is assembled: what was written of it, and that each text has an answer.
use Rattle.std.proofs.Common.{◌≡◌, ℕ, ◌%◌, ◌^◌, ◌<◌, ◌⊎◌, inl, inr, List, length, Result, Ok, Err, refl, sym, ap, arith, subst, ◌∙◌}
use Rattle.std.proofs.lemmas.Bool.{cases_lt}
use Rattle.sl_list_instructions.specs.Lines.{listed_line}
use Rattle.sl_list_instructions.specs.Listing.{IsListing, image_from}
use Rattle.sl_asm_encodings.proofs.LawLemmas.{encoding_is_listed}
use Rattle.sl_bind_compile.specs.Outcomes.{all_constructors}
use Rattle.sl_base_surely.proofs.SurelyLemmas.{IsLeastNumber, surely, surely_either, surely_least, surely_map, surely_then}
use Rattle.sl_base_surely.specs.Surely.{Surely}
use Rattle.sl_decode_meaning.specs.Actions.{address_bytes}
use Rattle.sl_tool_contexts.specs.Words.{Bad, starting_context}
use Rattle.sl_tool_contexts.proofs.BoundLemmas.{IsBelow, start_below}
use Rattle.sl_tool_request.specs.Requests.{Assembly}
use Rattle.sl_tool.specs.Assembled.{Assembles, EncodesText, Finds, IsLineOfText, ShortestOfText}
use Rattle.sl_tool.specs.Endings.{Shown}
use Rattle.sl_tool.specs.Laws.{AssembledIsListed}
use Rattle.sl_tool_stages.specs.Assembling.{Begins}
use Rattle.sl_tool_stages.specs.Problems.{bare_refusal}
use Rattle.sl_tool_stages.specs.Stage.{HasSomeResult}
use Rattle.sl_tool_stages.specs.Stage.Then.{goes}
use Rattle.sl_tool_stages.specs.Stages.{opened}
use Rattle.sl_tool_stages.specs.Values.{Compiled}
use Rattle.sl_tool_stages.specs.declared.problem.Problem.TheVariants.{NoEncoding}
use Rattle.sl_tool_stages.specs.declared.refusal.Refusal.{Refusal}
use Rattle.sl_tool.proofs.AnsweredLemmas.{text_shown}
use Rattle.sl_tool.proofs.ShowLemmas.{told_so}
use Rattle.sl_tool_stages.proofs.AssemblingLemmas.{begins_some}
use Rattle.sl_tool_stages.proofs.Thens.{then_some}

module _ (a : Assembly) (c : Compiled) where
  abbrev HasBytes : ℕ → Type 0
  HasBytes context = (bytes : List ℕ) × EncodesText a c context bytes

  abbrev HasShortest : ℕ → Type 0
  HasShortest context = (bytes : List ℕ) × ShortestOfText a c context bytes

  -- some encoding has this length
  abbrev HasLength : ℕ → ℕ → Type 0
  HasLength context n = (bytes : List ℕ) × (EncodesText a c context bytes) × (length bytes ≡ n)

  shortest_by : (context n : ℕ) → IsLeastNumber (HasLength context) n → HasShortest context
  shortest_by context n least =
      let found = least.here in (
        found.0,
        record {
          encodes = found.1;
          shortest = λ other e. elim (cases_lt (length other) (length found.0)) [
            | inl less ↦ absurd (least.none_below (length other) (omega (arith, less, found.2)) (other, e, refl))
            | inr most ↦ most
          ];
        },
      )

  shortest_or_none : (context : ℕ) → Surely (HasShortest context ⊎ (HasBytes context → ⊥))
  shortest_or_none context = surely_then (surely_either (HasBytes context)) (λ found. elim found [
    | inl e ↦ surely_map (λ least. inl (shortest_by context least.0 least.1)) (surely_least (HasLength context) (length e.0) (e.0, e.1, refl))
    | inr none ↦ surely (inr none)
  ])

  finds_by : (context : ℕ) → HasShortest context ⊎ (HasBytes context → ⊥) → (r : Result Shown Refusal) × Finds a c context r
  finds_by context (inl e) =
      let line = listed_line (address_bytes c.tables) a.base e.0 a.text in
      (Ok (text_shown line), told_so (IsLineOfText a c context) line (record { bytes = e.0; encodes = e.1; is_line = refl }))
  finds_by context (inr none) = (Err (bare_refusal NoEncoding), (λ bytes e. none (bytes, e), refl))

  pub assembles_some : HasSomeResult (Assembles a) c
  assembles_some =
      then_some (Begins a) (Finds a c) c (begins_some a c) (λ context h. surely_map (finds_by context) (shortest_or_none context))

-- ---- what is printed is a listing

pub opened_is : (r : Result ℕ Bad) (n : ℕ) → Ok n ≡ opened r → r ≡ Ok n
opened_is (Ok m) n e = ap Ok (let same : m ≡ n = cc in same)
opened_is (Err bad) n e = absurd (cc)

pub assembled_listed : AssembledIsListed
assembled_listed told a s (goes {b = c} sound (goes {b = n} (goes {b = d} (goes {b = e} permits based) opens) found)) =
    let cs = all_constructors c.tree.items in
    let line = found.text in
    let given = opened_is _ n (subst (λ (x : Compiled). Ok n ≡ opened (starting_context x.tables a.context)) (based.0 ∙ permits.0) opens) in
    let aligned = subst (λ (x : Compiled). a.base % x.tables.alignment ≡ 0) permits.0 based.2 in
    let below : n < 2 ^ 64 = subst IsBelow given (start_below c.tables a.context) in
    record {
      compiled = c;
      context = n;
      bytes = line.bytes;
      sound = sound;
      given = given;
      lists = subst (λ (l : List ℕ). IsListing c.tables cs (image_from line.bytes a.base n) l) (sym line.is_line)
          (encoding_is_listed c.tables cs a.base n a.text line.bytes aligned below line.encodes.encodes);
    }
