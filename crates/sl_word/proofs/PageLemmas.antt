-- Bytes that are put into a page.
use Rattle.std.proofs.Common.{◌≡◌, ◌≢◌, ◌⊎◌, ℕ, ◌+◌, ◌-◌, ◌/◌, ◌%◌, ◌<◌, ◌≤◌, List, Option, None, get_or, length, set, sym, ◌∙◌, ap, subst, inl, inr, arith}
use Rattle.std.specs.Prelude.{IsSome}
use Rattle.std.proofs.lemmas.Bool.{cases_eq, cases_lt}
use Rattle.std.proofs.lemmas.List.{get_or_default, get_or-set_other, get_or-set_same}
use Rattle.sl_word.specs.declared.page.Page.{Page}
use Rattle.sl_word.specs.Pages.{PutsInPage, byte_in_page}
use Rattle.sl_word.specs.Runs.{with_run}
use Rattle.sl_word.proofs.Memory.{in_run, out_of_run}

-- a run at a place of a page is one at an offset
moved_run : (q p a o from n : ℕ) (byte f g : ℕ → ℕ) → o + q ≡ a + p → f p ≡ g o → with_run q from n byte f p ≡ with_run a from n byte g o
moved_run q p a o from n byte f g shift same =
    elim (cases_lt p q) [
      | inl less ↦
          out_of_run q from n p (byte (from + (p - q))) (f p) (inl less) ∙ same
          ∙ sym (out_of_run a from n o (byte (from + (o - a))) (g o) (inl (omega (arith, shift, less))))
      | inr at_least ↦
          elim (cases_lt p (q + n)) [
            | inl below ↦
                let index : p - q ≡ o - a = omega (arith, shift, at_least) in
                in_run q from n p (byte (from + (p - q))) (f p) at_least below
                ∙ ap (λ k. byte (from + k)) index
                ∙ sym (in_run a from n o (byte (from + (o - a))) (g o) (omega (arith, shift, at_least)) (omega (arith, shift, below)))
            | inr past ↦
                out_of_run q from n p (byte (from + (p - q))) (f p) (inr past) ∙ same
                ∙ sym (out_of_run a from n o (byte (from + (o - a))) (g o) (inr (omega (arith, shift, past))))
          ]
    ]

outside : (o offset count : ℕ) → offset % 4096 + count ≤ 4096 → o / 4096 ≢ offset / 4096 → (o < offset) ⊎ (offset + count ≤ o)
outside o offset count room away =
    elim (cases_lt (o / 4096) (offset / 4096)) [
      | inl less ↦ inl (omega (arith, less))
      | inr at_least ↦
          elim (cases_lt (offset / 4096) (o / 4096)) [
            | inl more ↦ inr (omega (arith, more, room))
            | inr at_most ↦ absurd (away (omega (arith, at_least, at_most)))
          ]
    ]

-- What is put into a page is put among all bytes.
pub put_among : (offset from count : ℕ) (byte : ℕ → ℕ) (old new : ℕ → Option Page) → offset % 4096 + count ≤ 4096
    → PutsInPage (offset / 4096) (offset % 4096) from count byte old new
    → (o : ℕ) → byte_in_page (new (o / 4096)) (o % 4096) ≡ with_run offset from count byte (λ k. byte_in_page (old (k / 4096)) (k % 4096)) o
put_among offset from count byte old new room puts o =
    elim (cases_eq (o / 4096) (offset / 4096)) [
      | inl here ↦
          ap (λ n. byte_in_page (new n) (o % 4096)) here
          ∙ puts.put (o % 4096)
          ∙ moved_run (offset % 4096) (o % 4096) offset o from count byte (byte_in_page (old (offset / 4096))) (λ k. byte_in_page (old (k / 4096)) (k % 4096))
          (omega (arith, here)) (ap (λ n. byte_in_page (old n) (o % 4096)) (sym here))
      | inr away ↦
          ap (λ (x : Option Page). byte_in_page x (o % 4096)) (puts.others (o / 4096) away)
          ∙ sym (out_of_run offset from count o _ _ (outside o offset count room away))
    ]

same_some : (p q : Option Page) → p ≡ q → IsSome q → IsSome p
same_some p q same some = subst (λ (x : Option Page). IsSome x) (sym same) some

-- What is put into a page of a list.
pub put_slot : (pages : List (Option Page)) (number place from count : ℕ) (byte : ℕ → ℕ) (default new : Option Page) → number < length pages → IsSome new
    → ((k : ℕ) → byte_in_page new k ≡ with_run place from count byte (byte_in_page (get_or pages number default)) k)
    → PutsInPage number place from count byte (λ k. get_or pages k None) (λ k. get_or (set pages number new) k None)
put_slot pages number place from count byte default new inside some puts =
    let now : get_or (set pages number new) number None ≡ new = get_or-set_same pages number new None inside in
    record {
      there = same_some (get_or (set pages number new) number None) new now some;
      put = λ k. ap (λ (x : Option Page). byte_in_page x k) now ∙ puts k
          ∙ ap (λ (x : Option Page). with_run place from count byte (byte_in_page x) k) (get_or_default pages number default None inside);
      others = λ k away. get_or-set_other pages number k new None away;
    }
