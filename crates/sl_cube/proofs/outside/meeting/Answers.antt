use Rattle.std.proofs.lemmas.Bool.{false≢true}
use Rattle.std.proofs.Common.{◌≡◌, ◌+◌, ◌<◌, ◌≤◌, ◌++◌, ◌∷◌, [], length, ap, ◌∙◌, sym, subst, arith}
use Rattle.sl_cube.proofs.OutsideLemmas.{KeepsFirst, keeps_none, keeps_more, keeps_apart, are_meeting}
use Rattle.sl_cube.proofs.outside.meeting.Goals as goal
use Rattle.sl_cube.proofs.outside.meeting.Goals.{then-meets+in_ok-push, else-meets}

pub loop-other-init : goal.loop-other-init
loop-other-init c = rw c.new-kept.ensures.items (keeps_none c.args.cube.now c.args.others.now)

pub loop-other-preserved : goal.loop-other-preserved
loop-other-preserved c =
    let cube = c.args.cube.now in
    let others = c.args.others.now in
    let kept = c.loop-other.kept.items in
    let other = c.other-item.result in
    let index = c.loop-other.other-index in
    let below : c.loop-other.other-index < length c.args.others.now = omega arith in
    elim c.if-meets.branch [
      | then-meets+in_ok-push w ↦
          let pushed : c.if-meets.kept.items ≡ c.loop-other.kept.items ++ c.other-item.result ∷ [] =
          ap (λ v. v.items) w.kept-is ∙ w.in_ok-push.ensures.items in
          subst (λ xs. KeepsFirst cube others xs (index + 1)) (sym pushed) (keeps_more cube others kept index other below c.other-item.is (c.meets.ensures.0 w.if-meets.true) c.loop-other.invariant)
      | else-meets w ↦
          let same : c.if-meets.kept.items ≡ c.loop-other.kept.items = ap (λ v. v.items) w.kept-is in
          subst (λ xs. KeepsFirst cube others xs (index + 1)) (sym same)
          (keeps_apart cube others kept index other below c.other-item.is (λ met. false≢true (sym w.if-meets.false ∙ c.meets.ensures.1 met)) c.loop-other.invariant)
    ]

pub returns : goal.returns
returns c =
    let all : length c.args.others.now ≤ c.loop-other.other-index = omega arith in
    are_meeting c.args.cube.now c.args.others.now c.loop-other.kept.items c.loop-other.other-index all c.loop-other.invariant
