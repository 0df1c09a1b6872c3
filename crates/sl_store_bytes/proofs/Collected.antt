-- Lists that are read in a loop: those that were read, and what the rest gives.
use Rattle.std.proofs.Common.{◌≡◌, ℕ, zero, suc, ◌<◌, ◌-◌, true, false, List, [], ◌∷◌, ◌++◌, length, take, drop, get_or, Ok, Err, refl, ap, sym, ◌∙◌, arith, append_assoc, append-nil}
use Rattle.sl_store_bytes.specs.Lists.{some_more, collected}
use Rattle.sl_store_bytes.specs.Lexemes.{Follow, lexeme, letters, put_after}
use Rattle.sl_store_bytes.specs.Numbers.{number}
use Rattle.sl_store_bytes.specs.Reader.{Fault, cut, damaged, Outcome, Reader, and_then, pure, byte}
use Rattle.sl_store_bytes.proofs.Chains.{byte_yes, byte_no, byte_cut}

collected_by : {A : Type 0} (found : List A) (a : A) (o : Outcome (List A)) → collected found (and_then o (λ as'. pure (a ∷ as'))) ≡ collected (found ++ a ∷ []) o
collected_by found a (Ok p) = ap (λ as'. Ok (as', p.1)) (sym (append_assoc found (a ∷ []) p.0))
collected_by found a (Err e) = refl

module _ {A S : Type 0} (read : ℕ → S → Reader A) (after : S → A → S) where
  pub collected_next : (found : List A) (n : ℕ) (s : S) (xs rest : List ℕ) (a : A) → read n s xs ≡ Ok (a, rest)
      → collected found (some_more read after (suc n) s xs) ≡ collected (found ++ a ∷ []) (some_more read after n (after s a) rest)
  unfolding some_more
  collected_next found n s xs rest a e = rw e (collected_by found a (some_more read after n (after s a) rest))

  pub collected_err : (found : List A) (n : ℕ) (s : S) (xs : List ℕ) (e : Fault) → read n s xs ≡ Err e → collected found (some_more read after (suc n) s xs) ≡ Err e
  unfolding some_more
  collected_err found n s xs e h = rw h refl

  pub collected_end : (found : List A) (s : S) (xs : List ℕ) → collected found (some_more read after zero s xs) ≡ Ok (found, xs)
  unfolding some_more
  collected_end found s xs = ap (λ as'. Ok (as', xs)) (append-nil found)

pub collected_none : {A : Type 0} (o : Outcome (List A)) → o ≡ collected [] o
collected_none (Ok p) = refl
collected_none (Err e) = refl

-- ---- bytes of a lexeme

module _ (follow : Follow) where
  abbrev next_byte : ℕ → List ℕ → Reader ℕ
  next_byte left before = byte (follow left before)

  pub letter_yes : (found before : List ℕ) (left b : ℕ) (rest : List ℕ) → follow left before b ≡ true
      → collected found (letters follow (suc left) before (b ∷ rest)) ≡ collected (found ++ b ∷ []) (letters follow left (before ++ b ∷ []) rest)
  letter_yes found before left b rest on = collected_next next_byte put_after found left before (b ∷ rest) rest b (byte_yes (follow left before) b rest on)

  pub letter_no : (found before : List ℕ) (left b : ℕ) (rest : List ℕ) → follow left before b ≡ false
      → collected found (letters follow (suc left) before (b ∷ rest)) ≡ Err (damaged (suc (length rest)))
  letter_no found before left b rest off = collected_err next_byte put_after found left before (b ∷ rest) (damaged (suc (length rest))) (byte_no (follow left before) b rest off)

  pub letter_cut : (found before : List ℕ) (left : ℕ) → collected found (letters follow (suc left) before []) ≡ Err cut
  letter_cut found before left = collected_err next_byte put_after found left before [] cut (byte_cut (follow left before))

  pub letters_end : (found before xs : List ℕ) → collected found (letters follow zero before xs) ≡ Ok (found, xs)
  letters_end found before xs = collected_end next_byte put_after found before xs

  pub lexeme_is : (least most : ℕ) (xs text : List ℕ) (count : ℕ) → number least most xs ≡ Ok (count, text) → lexeme follow least most xs ≡ letters follow count [] text
  unfolding lexeme
  lexeme_is least most xs text count e = rw e refl

drop_at : (text : List ℕ) (at : ℕ) → at < length text → drop at text ≡ get_or text at 0 ∷ drop (suc at) text
drop_at [] at h = absurd (omega arith)
drop_at (b ∷ text) zero h = refl
drop_at (b ∷ text) (suc at) h = drop_at text at (omega arith)

take_at : (text : List ℕ) (at : ℕ) → at < length text → take (suc at) text ≡ take at text ++ get_or text at 0 ∷ []
take_at [] at h = absurd (omega arith)
take_at (b ∷ text) zero h = refl
take_at (b ∷ text) (suc at) h = ap (λ zs. b ∷ zs) (take_at text at (omega arith))

drop_length : (text : List ℕ) (at : ℕ) → at < length text → suc (length (drop (suc at) text)) ≡ length text - at
drop_length [] at h = absurd (omega arith)
drop_length (b ∷ text) zero h = omega arith
drop_length (b ∷ text) (suc at) h = let deep = drop_length text at (omega arith) in omega arith

take_whole : (text : List ℕ) → take (length text) text ≡ text
take_whole [] = refl
take_whole (b ∷ text) = ap (λ zs. b ∷ zs) (take_whole text)

drop_whole : (text : List ℕ) → drop (length text) text ≡ []
drop_whole [] = refl
drop_whole (b ∷ text) = drop_whole text

module _ (follow : Follow) where
  abbrev pub loop_at : ℕ → ℕ → List ℕ → Outcome (List ℕ)
  loop_at at left text = collected (take at text) (letters follow left (take at text) (drop at text))

  pub loop_next : (text : List ℕ) (at left more : ℕ) → at < length text → more ≡ suc left → follow left (take at text) (get_or text at 0) ≡ true
      → loop_at at more text ≡ loop_at (suc at) left text
  loop_next text at left more h same on =
      ap (λ k. loop_at at k text) same
      ∙ ap (λ zs. collected (take at text) (letters follow (suc left) (take at text) zs)) (drop_at text at h)
      ∙ letter_yes follow (take at text) (take at text) left (get_or text at 0) (drop (suc at) text) on
      ∙ ap (λ zs. collected zs (letters follow left zs (drop (suc at) text))) (sym (take_at text at h))

  pub loop_on : (text : List ℕ) (at next left more : ℕ) → at < length text → next ≡ suc at → more ≡ suc left → follow left (take at text) (get_or text at 0) ≡ true
      → loop_at at more text ≡ loop_at next left text
  loop_on text at next left more h e same on = loop_next text at left more h same on ∙ ap (λ k. loop_at k left text) (sym e)

  pub loop_no : (text : List ℕ) (at left more : ℕ) → at < length text → more ≡ suc left → follow left (take at text) (get_or text at 0) ≡ false
      → loop_at at more text ≡ Err (damaged (length text - at))
  loop_no text at left more h same off =
      ap (λ k. loop_at at k text) same
      ∙ ap (λ zs. collected (take at text) (letters follow (suc left) (take at text) zs)) (drop_at text at h)
      ∙ letter_no follow (take at text) (take at text) left (get_or text at 0) (drop (suc at) text) off
      ∙ ap (λ n. Err (damaged n)) (drop_length text at h)

  pub loop_end : (text : List ℕ) (at : ℕ) → loop_at at 0 text ≡ Ok (take at text, drop at text)
  loop_end text at = letters_end follow (take at text) (take at text) (drop at text)

  pub loop_whole : (text : List ℕ) (at : ℕ) → at ≡ length text → loop_at at 0 text ≡ Ok (text, [])
  loop_whole text at e = ap (λ k. loop_at k 0 text) e ∙ loop_end text (length text) ∙ ap (λ zs. Ok (zs, drop (length text) text)) (take_whole text) ∙ ap (λ zs. Ok (text, zs)) (drop_whole text)

  pub loop_cut : (text : List ℕ) (at left more : ℕ) → at ≡ length text → more ≡ suc left → loop_at at more text ≡ Err cut
  loop_cut text at left more e same =
      ap (λ k. loop_at k more text) e ∙ ap (λ k. loop_at (length text) k text) same
      ∙ ap (λ zs. collected (take (length text) text) (letters follow (suc left) (take (length text) text) zs)) (drop_whole text)
      ∙ letter_cut follow (take (length text) text) (take (length text) text) left
