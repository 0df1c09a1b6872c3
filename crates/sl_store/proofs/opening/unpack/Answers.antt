use Rattle.std.proofs.Common.{◌-◌, length, Ok, Err, refl, sym, arith}
use Rattle.std.specs.Cmp.Lexicographic.{same_text}
use Rattle.sl_store_format.specs.Packed.{mark}
use Rattle.sl_store_format.proofs.PackedLaws.{exact_written}
use Rattle.sl_store_bytes.proofs.MarkLaws.{few_left, marked, right_cut, right_damaged}
use Rattle.sl_store.specs.declared.opening.UnpackError.TheVariants as uv
use Rattle.sl_store.proofs.StoreLaws.{opened_file, opens_by}
use Rattle.sl_store.proofs.opening.unpack.Goals as goal

pub overflow_sub-result : goal.overflow_sub-result
overflow_sub-result c =
    let few = few_left mark exact_written c.in-Some.left.now c.in-Err-Damaged.count (rw c.in-Err-Damaged.field-0-is at c.in-Err-Damaged.ensures) in
    let long = c.in-Some.ensures.cases.2 in
    omega arith

-- ---- a file

pub returns-in-Ok-clause-answers : goal.returns-in-Ok-clause-answers
returns-in-Ok-clause-answers c =
    let front = marked 8 mark c.args.bytes.now c.in-Some.left.now (same_text _ _ (sym c.in-Some.ensures.cases.0)) c.in-Some.ensures.cases.1 in
    opened_file c.args.bytes.now c.in-Some.left.now c.in-Ok.packed front c.in-Ok.ensures

pub returns-in-Ok-clause-opens : goal.returns-in-Ok-clause-opens
returns-in-Ok-clause-opens c =
    let front = marked 8 mark c.args.bytes.now c.in-Some.left.now (same_text _ _ (sym c.in-Some.ensures.cases.0)) c.in-Some.ensures.cases.1 in
    opens_by c.args.bytes.now (Ok c.in-Ok.packed) (opened_file c.args.bytes.now c.in-Some.left.now c.in-Ok.packed front c.in-Ok.ensures)

-- ---- the bytes end too early

pub returns-in-Err-Cut-clause-answers : goal.returns-in-Err-Cut-clause-answers
returns-in-Err-Cut-clause-answers c =
    let front = marked 8 mark c.args.bytes.now c.in-Some.left.now (same_text _ _ (sym c.in-Some.ensures.cases.0)) c.in-Some.ensures.cases.1 in
    right_cut mark exact_written c.args.bytes.now c.in-Some.left.now front (rw c.in-Err-Cut.field-0-is at c.in-Err-Cut.ensures)

pub returns-in-Err-Cut-clause-opens : goal.returns-in-Err-Cut-clause-opens
returns-in-Err-Cut-clause-opens c =
    let front = marked 8 mark c.args.bytes.now c.in-Some.left.now (same_text _ _ (sym c.in-Some.ensures.cases.0)) c.in-Some.ensures.cases.1 in
    opens_by c.args.bytes.now (Err uv.Cut) (right_cut mark exact_written c.args.bytes.now c.in-Some.left.now front (rw c.in-Err-Cut.field-0-is at c.in-Err-Cut.ensures))

-- ---- a byte after which no file goes on

pub returns-in-Err-Damaged-clause-answers : goal.returns-in-Err-Damaged-clause-answers
returns-in-Err-Damaged-clause-answers c =
    let bytes = c.args.bytes.now in
    let front = marked 8 mark bytes c.in-Some.left.now (same_text _ _ (sym c.in-Some.ensures.cases.0)) c.in-Some.ensures.cases.1 in
    let damaged = rw c.in-Err-Damaged.field-0-is at c.in-Err-Damaged.ensures in
    right_damaged mark exact_written bytes c.in-Some.left.now c.in-Err-Damaged.count (length bytes - c.in-Err-Damaged.count) front refl damaged

pub returns-in-Err-Damaged-clause-opens : goal.returns-in-Err-Damaged-clause-opens
returns-in-Err-Damaged-clause-opens c =
    let bytes = c.args.bytes.now in
    let at = length bytes - c.in-Err-Damaged.count in
    let front = marked 8 mark bytes c.in-Some.left.now (same_text _ _ (sym c.in-Some.ensures.cases.0)) c.in-Some.ensures.cases.1 in
    let damaged = rw c.in-Err-Damaged.field-0-is at c.in-Err-Damaged.ensures in
    opens_by bytes (Err (uv.Damaged at)) (right_damaged mark exact_written bytes c.in-Some.left.now c.in-Err-Damaged.count at front refl damaged)
