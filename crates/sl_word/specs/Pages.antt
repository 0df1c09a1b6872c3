-- view: the bytes of a space that is kept by pages.
use Rattle.std.specs.Prelude.{◌≡◌, ◌≢◌, ℕ, ◌+◌, ◌/◌, ◌%◌, ◌^◌, ◌<◌, ◌≤◌, List, Option, Some, None, slice_index, slice_index_or, IsSome}
use Rattle.std.specs.Option.{option_map_or}
use Rattle.std.specs.BTreeMap.{get}
use Rattle.std.specs.Ordering.{nat_cmp}
use Rattle.sl_word.specs.Runs.{with_run}
use Rattle.sl_word.specs.declared.page.Page.{Page}
use Rattle.sl_word.specs.declared.pages.Pages.{Pages}
use Rattle.sl_word.specs.declared.space.Space.{Space}

-- A page, or where there is none another one.
abbrev pub page_or : Option Page → Option Page → Option Page
page_or (Some page) other = Some page
page_or None other = other

-- The page of a list at a number, if there is one.
abbrev pub page_in : List (Option Page) → ℕ → Option Page
page_in pages number = slice_index_or pages number None

-- The page of a number, if there is one.
abbrev pub page_of : Pages → ℕ → Option Page
page_of pages number = page_or (page_in pages.listed.items number) (get nat_cmp pages.others number)

-- The byte at a place of a page. What no page holds is 0.
abbrev pub byte_in_page : Option Page → ℕ → ℕ
byte_in_page page place = option_map_or (λ one. slice_index one.bytes.items place) page 0

-- The byte at an offset of one space.
abbrev pub byte_in : Space → ℕ → ℕ
byte_in space offset = byte_in_page (page_of space.pages (offset / 4096)) (offset % 4096)

-- Of pages by their numbers, that of one number has `count` others from a place on, and the others are as they were.
pub record PutsInPage (number place from count : ℕ) (byte : ℕ → ℕ) (old new : ℕ → Option Page) : Type 0 where
  pub there : IsSome (new number)
  pub put : (k : ℕ) → byte_in_page (new number) k ≡ with_run place from count byte (byte_in_page (old number)) k
  pub others : (k : ℕ) → k ≢ number → new k ≡ old k

-- There is a page of this number.
abbrev pub HasPage : Space → ℕ → Type 0
HasPage space number = IsSome (page_of space.pages number)

-- The byte some places after a base, round the end of the space.
abbrev pub byte_after : Space → ℕ → ℕ → ℕ
byte_after space base i = byte_in space ((base + i) % 256 ^ space.size.bytes)

-- Each of so many bytes after a base lies in a page that is there.
abbrev pub HasPages : Space → ℕ → ℕ → Type 0
HasPages space base count = (i : ℕ) → i < count → HasPage space ((base + i) % 256 ^ space.size.bytes / 4096)

-- The same of bytes that end at or before the end of the space.
abbrev pub HasPagesOf : Space → ℕ → ℕ → Type 0
HasPagesOf space base count = (i : ℕ) → i < count → HasPage space ((base + i) / 4096)

-- So many bytes from a base on lie in one page, from this offset on, and end at or before the end of the space.
pub record IsInOnePage (space : Space) (base count offset : ℕ) : Type 0 where
  pub at : offset ≡ base % 256 ^ space.size.bytes
  pub page : offset % 4096 + count ≤ 4096
  pub room : offset + count ≤ 256 ^ space.size.bytes
