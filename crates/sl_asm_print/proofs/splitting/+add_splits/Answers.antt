use Rattle.std.proofs.Common.{◌≡◌, Bool, IsTrue, length, arith, refl, subst}
use Rattle.sl_asm_print.proofs.SplitLemmas.{back_to, cut_all, cut_none, cut_other, cut_step}
use Rattle.sl_asm_print.specs.Splits.{pieces}
use Rattle.sl_asm_print.proofs.splitting.+add_splits.Goals as goal
use Rattle.sl_asm_print.proofs.splitting.+add_splits.Goals.{then-may_be_cut+in_ok-push+in_ok-add_splits, else-may_be_cut}

pub ends-preserved : goal.ends-preserved
ends-preserved t c =
    let first = c.in-Some.first.now in
    let rest = c.in-Some.rest.now in
    let text = c.args.text.now in
    let front = c.args.front.now.items in
    let n = c.ends.end in
    let old = c.args.out.now.items in
    let deep : c.len-depth.result ≡ length front = omega arith in
    elim c.if-may_be_cut.branch [
      | then-may_be_cut+in_ok-push+in_ok-add_splits w ↦ record {
        same = rw w.front-is (back_to front c.ends.front.items w.push.new.self.items w.add_splits.new.front.items _ _ c.len-depth.result deep
            c.ends.invariant.same w.in_ok-push.ensures.items w.in_ok-add_splits.ensures.front w.truncate.ensures.items);
        cut = rw w.out-is (cut_step first rest text front n old c.ends.out.items w.add_splits.new.out.items _ w.push.new.self.items c.ends.front.items _
            c.split_at.ensures.front c.split_at.ensures.back c.ends.invariant.same w.in_ok-push.ensures.items c.ends.invariant.cut w.in_ok-add_splits.ensures.splits);
      }
      | else-may_be_cut w ↦ record {
        same = rw w.front-is c.ends.invariant.same;
        cut = rw w.out-is (cut_other first rest text (pieces front) n old c.ends.out.items _ _ c.split_at.ensures.front c.split_at.ensures.back
            (λ shows keeps e behind. subst (λ (b : Bool). IsTrue b) w.if-may_be_cut.false (c.may_be_cut.ensures shows keeps e behind)) c.ends.invariant.cut);
      }
    ]

pub ends-init : goal.ends-init
ends-init t c =
    let text = c.args.text.now in
    let ends = c.lengths_of-least in
    record {
      same = refl;
      cut = cut_none c.in-Some.first.now c.in-Some.rest.now text (pieces c.args.front.now.items) ends.result.0 c.args.out.now.items
          (λ shows keeps e. (ends.ensures.between shows keeps e).0);
    }

pub returns-clause-splits : goal.returns-clause-splits
returns-clause-splits t c =
    rw c.in-Some.ensures.cases.0 (cut_all c.in-Some.first.now c.in-Some.rest.now c.args.text.now (pieces c.args.front.now.items) c.ends.end c.args.out.now.items c.ends.out.items
    (λ shows keeps e. let b = c.lengths_of-least.ensures.between shows keeps e in omega (arith, b.1)) c.ends.invariant.cut)
