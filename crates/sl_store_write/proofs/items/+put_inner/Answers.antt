use Rattle.std.proofs.Common.{◌∷◌, [], length, sym, subst}
use Rattle.sl_ast.specs.Trees.{Inside}
use Rattle.sl_ast.specs.Views.{constructor_of, head_of}
use Rattle.sl_ast.specs.declared.constructors.Inner.{Inner}
use Rattle.sl_store_write.specs.Placing.{first_place}
use Rattle.sl_store_write.specs.Steps.{PutsPart, chain_of}
use Rattle.sl_store_format.specs.Constructors.{write_constructor, write_head}
use Rattle.sl_store_format.specs.Items.{write_place}
use Rattle.sl_store_bytes.specs.Numbers.{write_number}
use Rattle.sl_store_write.proofs.Inners.{inner_written, none_written, puts_block, puts_constructor}
use Rattle.sl_store_write.proofs.Puts.{put3, put4}
use Rattle.sl_store_write.proofs.items.+put_inner.Goals as goal

pub rounds-init : goal.rounds-init
rounds-init t c = none_written c.put_number.new.out.items c.put_place.new.places c.as_slice-inside.result.now

pub rounds-preserved : goal.rounds-preserved
rounds-preserved t c =
    inner_written c.put_number.new.out.items c.put_place.new.places c.as_slice-inside.result.now c.rounds.out.items c.put_inner.new.out.items
    c.rounds.places c.put_inner.new.places c.rounds.index c.index-inside-index.result c.rounds-test.true c.index-inside-index.is c.rounds.invariant c.in_ok-put_inner-in-With.ensures

pub returns-in_ok-put-in-Constructor : goal.returns-in_ok-put-in-Constructor
returns-in_ok-put-in-Constructor t c =
    let old = c.args.out.now.items in
    let ps = c.args.places.now in
    let own = c.in-Constructor.constructor in
    let written = put3 old _ _ _ (write_place (first_place ps)) (4 ∷ []) (write_constructor (constructor_of own)) c.in_ok-put_place.ensures.bytes c.in_ok-put_code-in-Constructor.ensures c.in_ok-put-in-Constructor.ensures in
    subst (λ (x : Inner). (rest : Inside) → PutsPart (chain_of x) rest old ps c.put.new.out.items c.put_place.new.places) (sym c.in-Constructor.is)
    (puts_constructor c.in-Constructor.field-0 own old c.put.new.out.items ps c.put_place.new.places c.in_ok-put_place.ensures.left written)

pub returns-after-rounds : goal.returns-after-rounds
returns-after-rounds t c =
    let old = c.args.out.now.items in
    let ps = c.args.places.now in
    let xs = c.as_slice-inside.result.now in
    let h = c.in-With.head in
    let mid = put4 old _ _ _ c.put_number.new.out.items (write_place (first_place ps)) (5 ∷ []) (write_head (head_of h)) (write_number (length xs))
    c.in_ok-put_place.ensures.bytes c.in_ok-put_code-in-With.ensures c.in_ok-put-in-With.ensures c.in_ok-put_number-in-With.ensures in
    subst (λ (x : Inner). (rest : Inside) → PutsPart (chain_of x) rest old ps c.rounds.out.items c.rounds.places) (sym c.in-With.is)
    (puts_block c.in-With.field-0 h c.in-With.inside xs old c.put_number.new.out.items c.rounds.out.items ps c.put_place.new.places c.rounds.places c.rounds.index
    c.as_slice-inside.ensures.value c.rounds-test.false mid c.in_ok-put_place.ensures.left c.rounds.invariant)
