use Rattle.std.proofs.Common.{◌++◌, ◌∷◌, [], List, length, ap, ◌∙◌, arith}
use Rattle.sl_spec.specs.Attachments.{index_attached}
use Rattle.sl_spec.specs.Tables.{Attached}
use Rattle.sl_spec.proofs.AttachmentLemmas.{noted_as}
use Rattle.sl_spec.proofs.attachments.Attachments.add.Goals as goal

pub invariant_of-self-2 : goal.invariant_of-self-2
invariant_of-self-2 c =
    noted_as c.make_room.new.by_field.items c.args.self.now c.push.new.self c.args.added c.number-field.result c.in-Ok.index
    (c.number-field.ensures ∙ ap (λ (a : Attached). a.field) c.added.view_is)
    (omega (arith, c.in-Ok.ensures, c.len.ensures, ap (λ (xs : List Attached). length xs) c.self.view_is))
    (c.in_ok-push.ensures.added ∙ ap (λ (xs : List Attached). xs ++ c.args.added ∷ []) c.self.view_is)
    (λ f. c.make_room.ensures.same f ∙ c.self.invariant f ∙ ap (λ (xs : List Attached). index_attached f xs) c.self.view_is) c.requires c.in_ok-make_room.ensures.room
