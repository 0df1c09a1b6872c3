use Rattle.std.proofs.Common.{◌<◌, ◌≤◌, List, length, get_or, ap, sym, subst, ◌∙◌, arith}
use Rattle.std.specs.Coded.{le_prop}
use Rattle.std.proofs.Math.Logic.{∥∥₁_elim}
use Rattle.std.proofs.lemmas.List.{length-map}
use Rattle.sl_lex.specs.Reading.{ReadsAs}
use Rattle.sl_lex.specs.Views.{view, views}
use Rattle.sl_lex.specs.declared.Tok.{Tok}
use Rattle.sl_lex.proofs.SliceLemmas.{toks_begin_within}
use Rattle.sl_tool_stages.proofs.PlaceLemmas.{past_all}
use Rattle.sl_tool_stages.proofs.tokens.Tokens.start_of.Goals as goal

pub returns-in-Some-clause-within : goal.returns-in-Some-clause-within
returns-in-Some-clause-within c =
    let k = c.args.self.now in
    let text = k.source.now.expanded.text.items in
    let toks = k.tokens.items in
    let token = c.in-Some.token.now in
    let found = rw c.deref.ensures.value at c.in-Some.ensures.lookup in
    let here = ap (λ (t : Tok). t.from) found.1 in
    let starts : (get_or toks c.args.index token).from < length text =
    ∥∥₁_elim k.reads le_prop (λ (r : ReadsAs text (views toks)). toks_begin_within text toks r c.args.index token found.3.0) in
    omega (arith, starts, here)

pub returns-in-None-clause-start : goal.returns-in-None-clause-start
returns-in-None-clause-start c =
    let k = c.args.self.now in
    let text = k.source.now.expanded.text in
    let toks = k.tokens.items in
    let behind : length toks ≤ c.args.index = subst (λ (ts : List Tok). length ts ≤ c.args.index) c.deref.ensures.value c.in-None.ensures.lookup.3 in
    let past = past_all (length text.items) (views toks) c.args.index (omega (arith, length-map toks view, behind)) in
    ap length c.text.ensures ∙ sym past
