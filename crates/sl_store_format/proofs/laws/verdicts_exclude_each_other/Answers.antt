use Rattle.sl_store_format.specs.Packed.{pack, IsPackable}
use Rattle.sl_store_bytes.proofs.VerdictLaws.{cut_not_damaged, whole_not_damaged, one_place}
use Rattle.sl_store_format.proofs.ValidLaws.{whole_not_cut}
use Rattle.sl_store_format.proofs.laws.verdicts_exclude_each_other.Goals as goal

pub returns : goal.returns
returns c = λ bytes. record {
  cut_not_damaged = cut_not_damaged pack IsPackable bytes;
  whole_not_damaged = whole_not_damaged pack IsPackable bytes;
  whole_not_cut = whole_not_cut bytes;
  one_place = one_place pack IsPackable bytes;
}
