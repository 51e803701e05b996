-- Texts by their places, each a line or nothing, and a page of them: lent bytes that hold whole lines from a place on.
use Rattle.std.specs.Prelude.{ℕ, zero, suc, ◌-◌, ◌≤◌, ◌<◌, min, ◌≡◌, ◌⊎◌, cond, Bool, List, [], eqb, length, take}
use Rattle.std.proofs.lemmas.List.Edits.{sets}
use Rattle.output.specs.Output.{Hands}
use Rattle.print.specs.Text.{refusal_line}
use Rattle.print.specs.Lines.{lines_from}
use Rattle.pages.specs.declared.Page.{Page}

-- ---- a text, or a refusal

-- "printed as the one line `refused 9`"
abbrev pub refused_line : ℕ → ℕ → List ℕ
refused_line number zero = refusal_line number
refused_line number (suc k) = []

-- The lines of a text; with a refusal's number, which is not 0, the line of the refusal alone.
unfoldable pub or_refused : (refusal : ℕ) (line : ℕ → List ℕ) → ℕ → List ℕ
or_refused refusal line k = cond (eqb refusal 0) (line k) (refused_line refusal k)

-- How many places there are: those of the text, or one for a refusal.
unfoldable pub places_or : (refusal count : ℕ) → ℕ
places_or refusal count = cond (eqb refusal 0) count 1

-- ---- pages

-- Room for one line; no line of a sheet's table is longer.
abbrev pub line_room : ℕ
line_room = 256

-- The line stands at the front of the bytes and takes so many of them; or it is longer than the room, and the number is more than there is room for.
pub record HoldsLine (line : List ℕ) (room : ℕ) (out : List ℕ) (size : ℕ) : Type 0 where
  pub held : length line ≤ room → (size ≡ length line) × (take size out ≡ line)
  pub long : room < length line → room < size

-- The texts of the places from `from` to before `next` stand at the front of the lent bytes, and what stood behind them stays.
pub record HoldsLines (line : ℕ → List ℕ) (count from : ℕ) (out out' : List ℕ) (size next : ℕ) : Type 0 where
  pub onward : from ≤ next
  pub inside : from ≤ count → next ≤ count
  pub beyond : count < from → next ≡ from
  pub short : (k : ℕ) → from ≤ k → k < next → length (line k) ≤ line_room
  pub long : size ≡ length (lines_from line from (next - from))
  pub room : size ≤ length out
  pub bytes : out' ≡ sets out 0 (lines_from line from (next - from))

-- A page ends with the last place, or before the first one for whose line there is no room.
pub record IsPage (line : ℕ → List ℕ) (count from : ℕ) (out out' : List ℕ) (r : Page) : Type 0 where
  pub holds : HoldsLines line count from out out' r.size r.next
  pub ends : (count ≤ r.next) ⊎ (min (length out - r.size) line_room < length (line r.next))

-- ---- pages one after the other

-- The lines before the first one that is longer than the room, or all lines, are handed over.
pub record HandsFitting (line : ℕ → List ℕ) (count room size : ℕ) (whole : Bool) : Type 0 where
  pub next : ℕ
  pub inside : next ≤ count
  pub fit : (k : ℕ) → k < next → length (line k) ≤ room
  pub ends : (next ≡ count) ⊎ (room < length (line next))
  pub hands : Hands (lines_from line 0 next) size whole
