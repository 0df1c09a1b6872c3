use Rattle.std.proofs.Common.{◌≡◌, ℕ, Bool, List, ◌++◌, Result, Ok, Err, codes, sym, ap, ◌∙◌, append_assoc}
use Rattle.std.specs.Prelude.{OnOk, if◌then◌else◌}
use Rattle.std.specs.Result.{is_ok}
use Rattle.std.proofs.lemmas.Result.{on_ok_weaker}
use Rattle.sl_explain_names.specs.FaultWords.{given_words, words_at}
use Rattle.sl_explain_names.proofs.words.push_given.Goals as goal
use Rattle.sl_lex.specs.Views.{views}

where_ok : {T E : Type 0} (r : Result T E) (new some none : List ℕ) → new ≡ (if is_ok r then some else none) → OnOk r (new ≡ some)
where_ok (Ok x) new some none e = e
where_ok (Err x) new some none e = tt

pub returns-in_ok-push_at : goal.returns-in_ok-push_at
unfolding given_words
returns-in_ok-push_at c =
    let old = c.args.out.now.items in
    let name = words_at (views c.args.tokens.now) c.args.index in
    let after = codes " is a number" in
    on_ok_weaker c.extend_from_slice.result
    (λ last. last ∙ ap (λ (l : List ℕ). l ++ after) c.in_ok-push_at.ensures ∙ append_assoc old name after
    ∙ ap (λ (b : Bool). old ++ (if b then name ++ after else codes "this is no name")) (sym c.if-is_name.true))
    (where_ok c.extend_from_slice.result _ _ _ c.extend_from_slice.ensures.items)

pub returns-else-is_name : goal.returns-else-is_name
unfolding given_words
returns-else-is_name c =
    let old = c.args.out.now.items in
    let name = words_at (views c.args.tokens.now) c.args.index in
    on_ok_weaker c.extend_from_slice-else-is_name.result
    (λ last. last ∙ ap (λ (b : Bool). old ++ (if b then name ++ codes " is a number" else codes "this is no name")) (sym c.if-is_name.false))
    (where_ok c.extend_from_slice-else-is_name.result _ _ _ c.extend_from_slice-else-is_name.ensures.items)
