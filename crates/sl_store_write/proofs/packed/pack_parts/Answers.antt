use Rattle.std.proofs.Common.{rules, ◌≡◌, ◌++◌, List, map, ap, ◌∙◌, arith}
use Rattle.std.proofs.lemmas.Grind.{common_steps}
use Rattle.std.specs.String.{string_bytes}
use Rattle.sl_ast.specs.Views.{item_of}
use Rattle.sl_store_write.specs.Parts.{parts_of}
use Rattle.sl_store_write.specs.Placing.{placed_items}
use Rattle.sl_store_format.specs.Items.{write_placed}
use Rattle.sl_store_format.specs.Packed.{mark}
use Rattle.sl_store_bytes.specs.Lexemes.{write_bytes}
use Rattle.sl_store_bytes.specs.Lists.{write_list}
use Rattle.sl_preproc.specs.declared.places.Place.{Place}
use Rattle.sl_store_write.proofs.Backs.{file_of}
use Rattle.sl_store_write.proofs.packed.pack_parts.Goals as goal

pub returns : goal.returns
returns c = λ good.
    (let items = map item_of c.args.items.now in
    let files = write_list write_bytes (map string_bytes c.args.files.now) in
    let front : c.extend_from_slice.new.self.items ≡ mark = first_of (search rules, grind (arith, common_steps)) in
    let names : c.put_list.new.out.items ≡ mark ++ files = c.in_ok-put_list.ensures ∙ ap (λ b. b ++ files) front in
    let written =
    c.in_ok-put_items.ensures
    ∙ ap (λ (ps : List Place). c.put_list.new.out.items ++ write_list write_placed (placed_items items ps)) c.new-places.ensures
    ∙ ap (λ b. b ++ write_list write_placed (placed_items items c.args.places.now)) names in
    file_of (parts_of c.args.files.now c.args.places.now c.args.items.now) c.put_items.new.out.items good written)
