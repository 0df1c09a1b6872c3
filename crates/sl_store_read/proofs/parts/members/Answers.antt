use Rattle.std.proofs.Common.{rules, ◌≡◌, suc, ◌+◌, ◌-◌, ◌++◌, ◌∷◌, [], map, length, length-append, sym, ap, ◌∙◌, arith}
use Rattle.std.proofs.lemmas.Grind.{common_steps}
use Rattle.std.proofs.lemmas.List.{map_push}
use Rattle.sl_store_bytes.specs.Lists.{collected, same_state, some_more}
use Rattle.sl_store_bytes.specs.Reads.{seen_by}
use Rattle.sl_store_phrases.proofs.Rounds.{round_goes, round_stops, rounds_end, stops_along}
use Rattle.sl_store_read.proofs.parts.members.Goals as goal

pub returns-in_err-read-clause-reads : goal.returns-in_err-read-clause-reads
returns-in_err-read-clause-reads g c =
    let same : c.args.count - c.rounds._round ≡ suc (c.args.count - (c.rounds._round + 1)) = omega arith in
    let stop = stops_along _ _ c.in_err-read.field-0.0 c.rounds.invariant.reads
    (round_stops (λ left u. g.P.Part.reader) same_state (seen_by g.P.Part.view c.rounds.found) (c.args.count - c.rounds._round) (c.args.count - (c.rounds._round + 1)) tt c.rounds.bytes
    c.in_err-read.field-0.0 same c.in_err-read.ensures) in
    first_of (search rules, grind (arith, common_steps))

pub rounds-preserved : goal.rounds-preserved
rounds-preserved g c =
    let same : c.args.count - c.rounds._round ≡ suc (c.args.count - (c.rounds._round + 1)) = omega arith in
    let views : seen_by g.P.Part.view c.push.new.self ≡ seen_by g.P.Part.view c.rounds.found ++ g.P.Part.view c.in_ok-read.field-0 ∷ [] =
    ap (map g.P.Part.view) c.in_ok-push.ensures.items ∙ map_push g.P.Part.view c.rounds.found.items c.in_ok-read.field-0 in
    let one = ap length c.in_ok-push.ensures.items ∙ length-append c.rounds.found.items (c.in_ok-read.field-0 ∷ []) in
    let so_far = c.rounds.invariant.many in
    record {
      reads =
          c.rounds.invariant.reads
          ∙ round_goes (λ left u. g.P.Part.reader) same_state (seen_by g.P.Part.view c.rounds.found) (c.args.count - c.rounds._round) (c.args.count - (c.rounds._round + 1)) tt c.rounds.bytes
          c.read.new.bytes (g.P.Part.view c.in_ok-read.field-0) same c.in_ok-read.ensures
          ∙ ap (λ ws. collected ws (some_more (λ left u. g.P.Part.reader) same_state (c.args.count - (c.rounds._round + 1)) tt c.read.new.bytes)) (sym views);
      many = omega arith;
    }

pub returns-clause-reads : goal.returns-clause-reads
returns-clause-reads g c =
    c.rounds.invariant.reads
    ∙ rounds_end (λ left u. g.P.Part.reader) same_state (seen_by g.P.Part.view c.rounds.found) (c.args.count - c.rounds._round) tt c.rounds.bytes (omega arith)
