use Rattle.std.proofs.Common.{sym, ◌∙◌}
use Rattle.sl_lex.proofs.CodeLemmas.{blanks_at, comment_at, hash_code}
use Rattle.sl_lex.proofs.lexemes.in_code.Goals as goal

pub returns-in-34 : goal.returns-in-34
returns-in-34 c = c.quoted.ensures c.args.mode

pub returns-in-35 : goal.returns-in-35
returns-in-35 c =
    comment_at c.args.mode c.args.text.now c.count_comment_bytes.result c.requires.outside c.requires.some (hash_code _ c.in-35.is) c.count_comment_bytes.ensures

pub returns-in_default : goal.returns-in_default
returns-in_default c =
    blanks_at c.args.mode c.args.text.now c.count_blanks.result c.requires.outside c.requires.some (sym c.is_blank.ensures ∙ c.if-is_blank.true) c.count_blanks.ensures

pub returns-in_default-2 : goal.returns-in_default-2
returns-in_default-2 c = c.integer.ensures c.args.mode c.requires.outside
