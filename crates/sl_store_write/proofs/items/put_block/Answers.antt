use Rattle.std.proofs.Common.{◌∷◌, [], ◌++◌, length, sym, ap, ◌∙◌}
use Rattle.sl_ast.specs.Views.{head_of, inside_of}
use Rattle.sl_store_write.specs.Placing.{inside_bytes}
use Rattle.sl_store_format.specs.Constructors.{write_head}
use Rattle.sl_store_bytes.specs.Numbers.{write_number}
use Rattle.sl_store_write.proofs.Inners.{size_placed}
use Rattle.sl_store_write.proofs.Puts.{put4}
use Rattle.sl_store_write.proofs.items.put_block.Goals as goal

pub returns-clause-bytes : goal.returns-clause-bytes
returns-clause-bytes c =
    let old = c.args.out.now.items in
    let ps = c.args.places.now in
    let xs = c.args.inside.now in
    let head = write_head (head_of c.args.head.now) in
    let body = inside_bytes (inside_of xs) ps in
    put4 old _ _ _ c.put_inside.new.out.items (5 ∷ []) head (write_number (length xs)) body
    c.in_ok-put_code.ensures c.in_ok-put.ensures c.in_ok-put_number.ensures c.in_ok-put_inside.ensures.bytes
    ∙ ap (λ k. old ++ (5 ∷ (head ++ (write_number k ++ body)))) (sym (size_placed (inside_of xs) ps (length xs) c.in_ok-put_inside.ensures.many))
