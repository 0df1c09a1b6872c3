use Rattle.std.proofs.Common.{ℕ, List, ◌++◌, codes, ap, ◌∙◌, append_assoc}
use Rattle.std.specs.Fmt.{decimal}
use Rattle.std.proofs.lemmas.Result.{on_ok_weaker}
use Rattle.sl_explain_names.specs.FaultWords.{end_words, words_at}
use Rattle.sl_explain_names.proofs.words.push_end_bit.Goals as goal
use Rattle.sl_lex.specs.Views.{views}

pub returns : goal.returns
unfolding end_words
returns c =
    let after = codes " ends at bit " ++ decimal c.args.end in
    on_ok_weaker c.push_count.result
    (λ last. last ∙ ap (λ (l : List ℕ). l ++ after) c.in_ok-push_at.ensures
    ∙ append_assoc c.args.out.now.items (words_at (views c.args.tokens.now) c.args.index) after)
    c.push_count.ensures
