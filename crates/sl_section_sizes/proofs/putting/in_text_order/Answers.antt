use Rattle.std.specs.declared.alloc.Global.{Global}
use Rattle.std.proofs.Common.{◌≡◌, ◌++◌, ◌∷◌, [], List, Vec, length, ap, sym, ◌∙◌, arith}
use Rattle.std.specs.Prelude.{slice_get}
use Rattle.std.proofs.lemmas.List.{length-map, map_push}
use Rattle.sl_section_sizes.specs.Ordering.{put_all}
use Rattle.sl_section_sizes.specs.Putting.{put_one}
use Rattle.sl_section_sizes.proofs.PutLemmas.{put_last}
use Rattle.sl_section_sizes.specs.Sizings.{lists_of}
use Rattle.sl_word.specs.declared.word.Size.{Size}
use Rattle.sl_section_sizes.proofs.putting.in_text_order.Goals as goal

abbrev items : Vec Size Global → List Size
items v = v.items

pub rounds-preserved : goal.rounds-preserved
rounds-preserved c =
    let ns = c.args.numbers.now in
    let rest = c.pop.new.self.items in
    let all = lists_of c.rounds.all.items in
    let sizes = c.in-Some.sizes.items in
    let index : c.len.result ≡ length (lists_of rest) = omega (arith, c.len.ensures, c.pop.new.self.ok.0, length-map rest items) in
    let number : c.number_at.result ≡ slice_get ns (length (lists_of rest)) = c.number_at.ensures ∙ ap (slice_get ns) index in
    let popped : lists_of c.rounds.found.items ≡ lists_of rest ++ sizes ∷ [] = ap lists_of c.in-Some.ensures.items ∙ map_push items rest c.in-Some.sizes in
    ap (λ (l : List (List Size)). put_all l (lists_of rest) ns) (c.put.ensures ∙ ap (λ o. put_one all o sizes) number)
    ∙ sym (put_last all (lists_of rest) sizes ns)
    ∙ ap (λ (l : List (List Size)). put_all all l ns) (sym popped)
    ∙ c.rounds.invariant
