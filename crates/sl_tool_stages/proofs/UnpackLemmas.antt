-- What is known of the items of a packed file: they are short, and their names are UTF-8. And why bytes aren't one.
use Rattle.std.proofs.Common.{◌≡◌, ℕ, ◌≤◌, List, length, Some, Err, sym, ap, subst, ◌∙◌, inl, inr, arith}
use Rattle.sl_faithful_accepted.specs.Laws.{IsShort}
use Rattle.sl_faithful_places.specs.Laws.{NamesAreTexts}
use Rattle.sl_outside.specs.Folder.{size_limit}
use Rattle.sl_store.specs.Answers.{Refuses}
use Rattle.sl_store.specs.declared.opening.UnpackError.{UnpackError}
use Rattle.sl_store.specs.declared.opening.UnpackError.TheVariants as unpack
use Rattle.sl_store_format.specs.Packed.{Packed, apart}
use Rattle.sl_store_spelling.proofs.FileLaws.{files_spelled}
use Rattle.sl_store_spelling.specs.Laws.{AreSpelledFrom}
use Rattle.sl_store_write.specs.Packs.{IsFileOf}
use Rattle.sl_tool_stages.specs.Halts.{unopened}
use Rattle.sl_tool_stages.specs.Problems.{refusal}
use Rattle.sl_tool_stages.specs.Stages.{Unpacks}
use Rattle.sl_tool_stages.specs.declared.problem.Problem.{Problem}
use Rattle.sl_tool_stages.specs.declared.problem.Problem.TheVariants as problem
use Rattle.sl_tool_stages.specs.declared.refusal.Refusal.{Refusal}

file_spelled : (p : Packed) (bytes : List ℕ) → IsFileOf p bytes → AreSpelledFrom bytes p.items
file_spelled p bytes f =
    subst (λ (q : Packed). AreSpelledFrom bytes q.items) f.is
    (subst (λ (file : List ℕ). AreSpelledFrom file (apart f.written).items) (sym f.are.bytes) (files_spelled f.written f.are.good))

pub file_is_short : (p : Packed) (bytes : List ℕ) → IsFileOf p bytes → length bytes ≤ size_limit → IsShort p.items
file_is_short p bytes f small = let few = (file_spelled p bytes f).few in omega (arith, few, small)

pub file_has_texts : (p : Packed) (bytes : List ℕ) → IsFileOf p bytes → length bytes ≤ size_limit → NamesAreTexts p.items
file_has_texts p bytes f small = λ k w e. let is = (file_spelled p bytes f).names k w e in (is.0, omega (arith, is.1, small))

-- an error of the opening, as the refusal of the file
pub refuses_file : (name bytes : List ℕ) (error : UnpackError) (why : Problem) (x : Refusal) → unopened error ≡ Some why → Refuses bytes error
    → x ≡ refusal name 0 why → Unpacks name bytes (Err x)
refuses_file name bytes unpack.NotPacked why x is h e = inl (h, e ∙ ap (refusal name 0) (let same : why ≡ problem.NotPacked = cc in same))
refuses_file name bytes unpack.Cut why x is h e = inr (inl (h, e ∙ ap (refusal name 0) (let same : why ≡ problem.Cut = cc in same)))
refuses_file name bytes (unpack.Damaged at) why x is h e = inr (inr (at, h, e ∙ ap (refusal name 0) (let same : why ≡ problem.Damaged at = cc in same)))
refuses_file name bytes unpack.NoMemory why x is h e = absurd (cc)
