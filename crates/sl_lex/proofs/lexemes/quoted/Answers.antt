use Rattle.std.proofs.Common.{arith, sym, ◌∙◌}
use Rattle.sl_lex.specs.Bytes.{is_quote, is_text_byte}
use Rattle.sl_lex.proofs.QuoteLemmas.{text_at, no_text_at}
use Rattle.sl_lex.proofs.RunLemmas.{begins_some, run_within}
use Rattle.sl_lex.proofs.lexemes.quoted.Goals as goal

pub split_at-requires : goal.split_at-requires
split_at-requires c = omega (arith, begins_some is_quote c.args.text.now c.requires)

pub split_at-requires-2 : goal.split_at-requires-2
split_at-requires-2 c = run_within is_text_byte c.split_at.result.1.now c.count_text_bytes-count.result c.count_text_bytes-count.ensures

pub returns-then-starts_with : goal.returns-then-starts_with
returns-then-starts_with c = λ mode. (
  text_at mode c.args.text.now c.split_at.result.1.now c.split_at-2.result.1.now c.count_text_bytes-count.result c.requires c.split_at.ensures.back
      c.count_text_bytes-count.ensures c.split_at-2.ensures.back (sym c.starts_with.ensures.value ∙ c.if-starts_with.true),
  tt,
)

pub returns-else-starts_with : goal.returns-else-starts_with
returns-else-starts_with c = λ mode.
    no_text_at mode c.args.text.now c.split_at.result.1.now c.split_at-2.result.1.now c.count_text_bytes-count.result c.requires c.split_at.ensures.back
    c.count_text_bytes-count.ensures c.split_at-2.ensures.back (sym c.starts_with.ensures.value ∙ c.if-starts_with.false)
