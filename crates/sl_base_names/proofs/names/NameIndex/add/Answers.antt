use Rattle.std.proofs.Common.{rules, ◌≡◌, length, ℕ, List, map, ap, sym, subst, ◌∙◌}
use Rattle.std.proofs.lemmas.List.{length-map, map_push}
use Rattle.sl_base_names.specs.Found.{AreFound}
use Rattle.sl_base_names.specs.Names.{is_in}
use Rattle.sl_base_names.proofs.IndexLemmas.{found_after}
use Rattle.sl_base_names.proofs.names.NameIndex.add.Goals as goal

pub invariant_of-self-in-Ok : goal.invariant_of-self-in-Ok
invariant_of-self-in-Ok c =
    let old = c.self.inside.names.items in
    let fresh = ap (λ (ns : List (List ℕ)). is_in ns c.args.name.now) c.self.view_is ∙ c.requires in
    let long : c.len-index.result ≡ length old = search rules in
    let is = long ∙ sym (length-map old (λ k. k.now)) in
    let names = ap (map (λ k. k.now)) c.in_ok-push.ensures.items ∙ map_push (λ k. k.now) old c.args.name in
    subst (AreFound c.add.new.self) (sym names)
    (found_after c.self.inside.by_name c.add.new.self (map (λ k. k.now) old) c.args.name.now c.len-index.result c.self.invariant fresh is c.in-Ok.ensures.added)
