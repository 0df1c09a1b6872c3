use Rattle.std.proofs.Common.{◌≡◌, ◌∙◌, List, [], ℕ, ap, sym, refl, map, true}
use Rattle.std.specs.Prelude.{string_bytes}
use Rattle.std.proofs.lemmas.Result.{IfOk-weaker}
use Rattle.clap.specs.Faults.{fault_of, is_simple_and_free}
use Rattle.clap.specs.Simple.{is_simple, subcommand_of}
use Rattle.clap.specs.Values.{kind_of}
use Rattle.sl_tool_words.specs.Layout.{app}
use Rattle.sl_tool_words.specs.Matches.{asked_at}
use Rattle.sl_tool_words.proofs.Levels.{not_taken, taken}
use Rattle.sl_tool_words.proofs.ReadingLemmas.{has_kind}
use Rattle.sl_tool_words.proofs.TextLemmas.{string_texts}
use Rattle.sl_tool_words.proofs.reading.request_of.Goals as goal

is_free : is_simple_and_free app ≡ true
is_free = refl

is_plain : is_simple app ≡ true
is_plain = refl

pub returns-in-Ok : goal.returns-in-Ok
returns-in-Ok c =
    let words : List (List ℕ) = map string_bytes c.args.words.now in
    let app_is = c.in_ok-command.ensures in
    let clean : fault_of app words ≡ [] = ap (λ a. fault_of a words) (sym app_is) ∙ c.in-Ok.ensures.kinds (ap is_simple_and_free app_is ∙ is_free) in
    let is = (c.in-Ok.ensures.matches (ap is_simple app_is ∙ is_plain)).1 ∙ ap (λ a. subcommand_of a words) app_is in
    IfOk-weaker c.asked_in.result _ _ (λ r h. h ∙ ap asked_at is ∙ taken words (string_texts c.args.words.now) clean) c.asked_in.ensures

pub returns-in-Err : goal.returns-in-Err
returns-in-Err c =
    let words : List (List ℕ) = map string_bytes c.args.words.now in
    let app_is = c.in_ok-command.ensures in
    IfOk-weaker c.refused.result _ _ (λ r h. h.0 ∙ sym (not_taken words (string_texts c.args.words.now) (λ none.
    has_kind (kind_of c.in-Err.error) _ (c.in-Err.ensures.kinds (ap is_simple_and_free app_is ∙ is_free)) h.1 (ap (λ a. fault_of a words) app_is ∙ none)))) c.refused.ensures
