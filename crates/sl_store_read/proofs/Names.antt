-- What is read of a file's name is UTF-8.
use Rattle.std.proofs.Common.{◌≡◌, ℕ, List, Ok}
use Rattle.std.specs.Str.{IsUtf8}
use Rattle.sl_store_format.specs.FileNames.{file_name}
use Rattle.sl_store_format.proofs.FileNameLaws.{exact_file_name}

pub is_utf8 : (xs rest name : List ℕ) → file_name xs ≡ Ok (name, rest) → IsUtf8 name
is_utf8 xs rest name e = (exact_file_name.sound xs rest name e).good.0
