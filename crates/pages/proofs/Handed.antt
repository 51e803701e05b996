-- Pages that a program hands to writes, one after the other: how many bytes of the text are taken before a page, and what is known after the last one. From
-- the laws of pages (Lines).
use Prim.Native.Nat.{ℕ, ◌+◌, ◌*◌, ◌≤◌, ◌<◌}
use native.Mathlib.Omega.{arith}
use mathlib.Core.Path.{◌≡◌, refl, sym, ◌∙◌}
use mathlib.Core.Logic.{◌≢◌}
use mathlib.Core.Bool.{Bool, true, false}
use mathlib.Core.List.{List}
use lib.ListN.{length, take}
use lib.Seq.{length-take-le}
use Rattle.basics.proofs.Tests.{not-both}
use Rattle.output.specs.Output.{Hands}
use Rattle.print.specs.Lines.{lines_from}
use Rattle.pages.specs.Lines.{line_room, IsPage}
use Rattle.pages.specs.declared.Page.{Page}
use Rattle.pages.proofs.Lines.{same-room, text-short, text_grows, page_continues, page_advances, page_empty}

module _ (line : ℕ → List ℕ) (count : ℕ) where
  -- All lines before a place are handed over.
  pub record HandedTo (from size : ℕ) : Type 0 where
    pub inside : from ≤ count
    pub taken : size ≡ length (lines_from line 0 from)

  pub handed_none : HandedTo 0 0
  unfolding lines_from
  handed_none = record { inside = omega arith; taken = refl }

  module _ {from size : ℕ} (h : HandedTo from size) {out out' : List ℕ} {r : Page} (p : IsPage line count from out out' r) where
    next-inside : r.next ≤ count
    next-inside = p.holds.inside h.inside

    -- Behind an empty page there are no lines.
    pub handed_all : ((k : ℕ) → length (line k) ≤ line_room) → line_room ≤ length out → r.size ≡ 0 → Hands (lines_from line 0 count) size true
    handed_all short room none = record { all = λ e. h.taken ∙ page_empty line p short room none h.inside; cut = λ e. not-both (sym e) }

    -- The bytes of a page that a write did not take are missing.
    pub handed_cut : r.size ≢ 0 → Hands (lines_from line 0 count) size false
    handed_cut some = record { all = not-both; cut = λ e. omega (arith, h.taken, page_continues line p, text_grows line r.next count next-inside) }

    pub handed_onward : r.size ≢ 0 → from < r.next
    handed_onward some = page_advances line p (omega arith)

    -- One page more.
    module _ {handed : ℕ} {whole : Bool} (w : Hands (take r.size out') handed whole) (took : whole ≡ true) where
      part-taken : size + handed ≡ length (lines_from line 0 r.next)
      part-taken = omega (arith, w.all took, length-take-le r.size out' (omega (arith, p.holds.room, same-room line p.holds)), h.taken, page_continues line p)

      pub handed_more : HandedTo r.next (size + handed)
      handed_more = record { inside = next-inside; taken = part-taken }

      -- So many short lines have so few bytes.
      pub handed_few : ((k : ℕ) → length (line k) ≤ line_room) → {most : ℕ} → count ≤ most → size + handed ≤ line_room * most
      handed_few short {most} few = omega (arith, part-taken, text-short line short r.next, next-inside)
