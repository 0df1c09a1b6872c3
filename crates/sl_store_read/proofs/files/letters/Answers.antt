use Rattle.std.proofs.Common.{rules, ◌≡◌, suc, ◌+◌, ◌-◌, sym, ◌∙◌, arith}
use Rattle.std.proofs.lemmas.Grind.{common_steps}
use Rattle.sl_store_format.specs.FileNames.{goes_on, then_due}
use Rattle.sl_store_bytes.specs.Lists.{collected, some_more}
use Rattle.sl_store_bytes.specs.Reader.{byte}
use Rattle.sl_store_read.specs.Views.{due_of}
use Rattle.sl_store_phrases.proofs.Rounds.{round_goes, round_stops, rounds_end, stops_along}
use Rattle.sl_store_read.proofs.files.letters.Goals as goal

pub returns-in_err-byte : goal.returns-in_err-byte
returns-in_err-byte c =
    let same : c.in_ok-count.count - c.rounds.round ≡ suc (c.in_ok-count.count - c.rounds.round - 1) = omega arith in
    let stop = stops_along _ _ c.in_err-byte.field-0.0 c.rounds.invariant
    (round_stops (λ left s. byte (goes_on left s)) then_due c.rounds.found.items (c.in_ok-count.count - c.rounds.round) (c.in_ok-count.count - c.rounds.round - 1) (due_of c.rounds.due)
    c.rounds.bytes c.in_err-byte.field-0.0 same c.in_err-byte.ensures) in
    first_of (search rules, grind (arith, common_steps))

pub rounds-preserved : goal.rounds-preserved
rounds-preserved c =
    let same : c.in_ok-count.count - c.rounds.round ≡ suc (c.in_ok-count.count - c.rounds.round - 1) = omega arith in
    let next : c.in_ok-count.count - c.rounds.round - 1 ≡ c.in_ok-count.count - (c.rounds.round + 1) = omega arith in
    let pushed = sym c.in_ok-push.ensures.items in
    let due = sym c.then_due-due.ensures in
    c.rounds.invariant
    ∙ round_goes (λ left s. byte (goes_on left s)) then_due c.rounds.found.items (c.in_ok-count.count - c.rounds.round) (c.in_ok-count.count - c.rounds.round - 1) (due_of c.rounds.due)
    c.rounds.bytes c.letter.new.bytes c.in_ok-byte.byte same c.in_ok-byte.ensures
    ∙ (λ i. collected (pushed i) (some_more (λ left s. byte (goes_on left s)) then_due (next i) (due i) c.letter.new.bytes))

pub returns : goal.returns
returns c =
    c.rounds.invariant
    ∙ rounds_end (λ left s. byte (goes_on left s)) then_due c.rounds.found.items (c.in_ok-count.count - c.rounds.round) (due_of c.rounds.due) c.rounds.bytes (omega arith)
