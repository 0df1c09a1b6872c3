use Rattle.std.proofs.Common.{◌≡◌, ◌∷◌, [], length, sym, ◌∙◌, ap}
use Rattle.sl_ast.specs.Views.{expression_of, expressions_of}
use Rattle.sl_store_format.specs.Expressions.{write_expression}
use Rattle.sl_store_bytes.specs.Lexemes.{write_bytes}
use Rattle.sl_store_bytes.specs.Lists.{write_all}
use Rattle.sl_store_bytes.specs.Numbers.{write_number}
use Rattle.sl_store_bytes.specs.Orders.{operator_code, prefix_code}
use Rattle.sl_store_write.proofs.Levels.{level_integer, level_name, level_paren, level_call, level_sized, level_dropped, level_bits, level_prefix, level_binary, level_star}
use Rattle.sl_store_write.proofs.Puts.{put2, put3, put4, written_more, written_all, length_of, call_bytes}
use Rattle.sl_store_write.proofs.expressions.+put_expression.Goals as goal

pub returns-in_ok-put_number-in-Integer : goal.returns-in_ok-put_number-in-Integer
returns-in_ok-put_number-in-Integer t c =
    rw (c.in-Integer.is, level_integer)
    (put2 _ _ _ (0 ∷ []) (write_number c.in-Integer.number) c.in_ok-put_code-in-Integer.ensures c.in_ok-put_number-in-Integer.ensures)

pub returns-in_ok-put_bytes-in-Name : goal.returns-in_ok-put_bytes-in-Name
returns-in_ok-put_bytes-in-Name t c =
    rw (c.in-Name.is, level_name) (put2 _ _ _ (1 ∷ []) (write_bytes c.in-Name.name.now) c.in_ok-put_code-in-Name.ensures c.in_ok-put_bytes-in-Name.ensures)

pub returns-in_ok-put_expression-in-Paren : goal.returns-in_ok-put_expression-in-Paren
returns-in_ok-put_expression-in-Paren t c =
    rw (c.in-Paren.is, level_paren, ← c.deref.ensures)
    (put2 _ _ _ (2 ∷ []) (write_expression (expression_of c.deref.result.now)) c.in_ok-put_code-in-Paren.ensures c.in_ok-put_expression-in-Paren.ensures)

pub returns-in_ok-put_number-in-Sized : goal.returns-in_ok-put_number-in-Sized
returns-in_ok-put_number-in-Sized t c =
    rw (c.in-Sized.is, level_sized, ← c.deref-in-Sized.ensures)
    (put3 _ _ _ _ (4 ∷ []) (write_expression (expression_of c.deref-in-Sized.result.now)) (write_number c.in-Sized.size)
    c.in_ok-put_code-in-Sized.ensures c.in_ok-put_expression-in-Sized.ensures c.in_ok-put_number-in-Sized.ensures)

pub returns-in_ok-put_number-in-Dropped : goal.returns-in_ok-put_number-in-Dropped
returns-in_ok-put_number-in-Dropped t c =
    rw (c.in-Dropped.is, level_dropped, ← c.deref-in-Dropped.ensures)
    (put3 _ _ _ _ (5 ∷ []) (write_expression (expression_of c.deref-in-Dropped.result.now)) (write_number c.in-Dropped.count)
    c.in_ok-put_code-in-Dropped.ensures c.in_ok-put_expression-in-Dropped.ensures c.in_ok-put_number-in-Dropped.ensures)

pub returns-in_ok-put_number-in-Bits-2 : goal.returns-in_ok-put_number-in-Bits-2
returns-in_ok-put_number-in-Bits-2 t c =
    rw (c.in-Bits.is, level_bits, ← c.deref-in-Bits.ensures)
    (put4 _ _ _ _ _ (6 ∷ []) (write_expression (expression_of c.deref-in-Bits.result.now)) (write_number c.in-Bits.low) (write_number c.in-Bits.count)
    c.in_ok-put_code-in-Bits.ensures c.in_ok-put_expression-in-Bits.ensures c.in_ok-put_number-in-Bits.ensures c.in_ok-put_number-in-Bits-2.ensures)

pub returns-in_ok-put_expression-in-Prefix : goal.returns-in_ok-put_expression-in-Prefix
returns-in_ok-put_expression-in-Prefix t c =
    rw (c.in-Prefix.is, level_prefix, ← c.deref-in-Prefix.ensures)
    (put3 _ _ _ _ (7 ∷ []) (prefix_code c.in-Prefix.op ∷ []) (write_expression (expression_of c.deref-in-Prefix.result.now))
    c.in_ok-put_code-in-Prefix.ensures c.in_ok-put_code-in-Prefix-2.ensures c.in_ok-put_expression-in-Prefix.ensures)

pub returns-in_ok-put_expression-in-Star : goal.returns-in_ok-put_expression-in-Star
returns-in_ok-put_expression-in-Star t c =
    rw (c.in-Star.is, level_star, ← c.deref-in-Star.ensures)
    (put4 _ _ _ _ _ (8 ∷ []) _ _ (write_expression (expression_of c.deref-in-Star.result.now))
    c.in_ok-put_code-in-Star.ensures c.in_ok-put_option-in-Star.ensures c.in_ok-put_number_option-in-Star.ensures c.in_ok-put_expression-in-Star.ensures)

pub returns-in_ok-put_expression-in-Binary-2 : goal.returns-in_ok-put_expression-in-Binary-2
returns-in_ok-put_expression-in-Binary-2 t c =
    rw (c.in-Binary.is, level_binary, ← c.deref-in-Binary.ensures, ← c.deref-in-Binary-2.ensures)
    (put4 _ _ _ _ _ (9 ∷ []) (operator_code c.in-Binary.op ∷ []) (write_expression (expression_of c.deref-in-Binary.result.now)) (write_expression (expression_of c.deref-in-Binary-2.result.now))
    c.in_ok-put_code-in-Binary.ensures c.in_ok-put_code-in-Binary-2.ensures c.in_ok-put_expression-in-Binary.ensures c.in_ok-put_expression-in-Binary-2.ensures)

pub rounds-preserved : goal.rounds-preserved
rounds-preserved t c =
    written_more write_expression expression_of c.put_number-in-Call.new.out.items c.as_slice-arguments.result.now c.rounds.out.items c.put_expression-in-rounds.new.out.items c.rounds.index
    c.index-arguments-index.result c.rounds-test.true c.index-arguments-index.is c.rounds.invariant c.in_ok-put_expression-in-Call.ensures

pub returns-after-rounds : goal.returns-after-rounds
returns-after-rounds t c =
    let xs = c.as_slice-arguments.result.now in
    let same : xs ≡ c.in-Call.given.items = c.as_slice-arguments.ensures.value in
    let count : length (expressions_of c.in-Call.given.items) ≡ length xs = length_of expression_of c.in-Call.given.items ∙ ap length (sym same) in
    let all = written_all write_expression expression_of c.put_number-in-Call.new.out.items xs c.rounds.out.items c.rounds.index c.rounds-test.false c.rounds.invariant in
    rw (c.in-Call.is, level_call, call_bytes, count, ← same)
    (put4 _ _ _ _ _ (3 ∷ []) (write_bytes c.in-Call.name.now) (write_number (length xs)) (write_all write_expression (expressions_of xs))
    c.in_ok-put_code-in-Call.ensures c.in_ok-put_bytes-in-Call.ensures c.in_ok-put_number-in-Call.ensures all)
