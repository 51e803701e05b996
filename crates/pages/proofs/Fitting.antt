-- What is handed over page by page of lines that may be longer than a page: those before the first one that does not fit. From the laws of pages (Lines) and of pages
-- one after the other (Handed).
use Prim.Native.Nat.{ℕ, zero, suc, ◌+◌, ◌-◌, ◌≤◌, ◌<◌, min}
use native.Mathlib.Omega.{arith}
use mathlib.Core.Path.{◌≡◌, refl, sym, subst}
use mathlib.Core.Logic.{◌≢◌, ◌⊎◌, inl, inr}
use mathlib.Core.Bool.{Bool, true, false}
use mathlib.Core.List.{List}
use lib.Dec.{leb, ltb}
use lib.ListN.{length, take}
use borrow.Author.Count.{below_more}
use borrow.Author.Tests.{leb-true, leb-false, ltb-true, ltb-false}
use Rattle.basics.proofs.Tests.{not-both}
use Rattle.output.specs.Output.{Hands}
use Rattle.print.specs.Lines.{lines_from}
use Rattle.pages.specs.Lines.{line_room, IsPage, HandsFitting}
use Rattle.pages.specs.declared.Page.{Page}
use Rattle.pages.proofs.Lines.{text_grows, page_continues, page_fits}
use Rattle.pages.proofs.Handed.{HandedTo, handed_none, handed_more}

-- Where no line is longer than there is room for, all lines are handed over.
pub hands_all : {line : ℕ → List ℕ} {count size : ℕ} {whole : Bool} (page : List ℕ) → line_room ≤ length page → ((k : ℕ) → length (line k) ≤ line_room)
    → HandsFitting line count (min (length page) line_room) size whole → Hands (lines_from line 0 count) size whole
hands_all {line} {count} {size} {whole} page room short h = subst (λ n. Hands (lines_from line 0 n) size whole) (by h.ends) h.hands
  where
    by : (h.next ≡ count) ⊎ (min (length page) line_room < length (line h.next)) → h.next ≡ count
    by (inl last) = last
    by (inr long) = absurd (omega (arith, short h.next))

module _ (line : ℕ → List ℕ) (count room : ℕ) where
  -- A place at which the lines that fit end.
  record EndsBehind (from : ℕ) : Type 0 where
    next : ℕ
    onward : from ≤ next
    inside : next ≤ count
    fit : (k : ℕ) → k < next → length (line k) ≤ room
    ends : (next ≡ count) ⊎ (room < length (line next))

  -- There is one behind each place before which all lines fit.
  ends-behind : (n from : ℕ) → from + n ≡ count → ((k : ℕ) → k < from → length (line k) ≤ room) → EndsBehind from
  ends-behind zero from e fit = record { next = from; onward = omega arith; inside = omega arith; fit = fit; ends = inl (omega arith) }
  ends-behind (suc n) from e fit = by (λ t. ends-behind n (from + 1) (omega arith) (below_more (λ k. length (line k) ≤ room) from fit t)) (leb (length (line from)) room) refl
    where
      by : (length (line from) ≤ room → EndsBehind (from + 1)) → (t : Bool) → leb (length (line from)) room ≡ t → EndsBehind from
      by further true t =
          let f = further (leb-true (length (line from)) room t) in
          record { next = f.next; onward = omega (arith, f.onward); inside = f.inside; fit = f.fit; ends = f.ends }
      by further false t = record { next = from; onward = omega arith; inside = omega arith; fit = fit; ends = inr (leb-false (length (line from)) room t) }

  -- All lines before a place are handed over, and each of them fits.
  pub record FittingTo (from size : ℕ) : Type 0 where
    pub handed : HandedTo line count from size
    pub fit : (k : ℕ) → k < from → length (line k) ≤ room

  pub fitting_none : FittingTo 0 0
  fitting_none = record { handed = handed_none line count; fit = λ k h. absurd (omega arith) }

  module _ {from size : ℕ} (h : FittingTo from size) {out out' : List ℕ} {r : Page} (p : IsPage line count from out out' r) (same : room ≡ min (length out) line_room) where
    next-inside : r.next ≤ count
    next-inside = p.holds.inside h.handed.inside

    next-fit : (k : ℕ) → k < r.next → length (line k) ≤ room
    next-fit k less = by (ltb k from) refl
      where
        by : (t : Bool) → ltb k from ≡ t → length (line k) ≤ room
        by true e = h.fit k (ltb-true k from e)
        by false e = omega (arith, page_fits line p k (ltb-false k from e) less)

    -- Behind an empty page there are no lines, or the next one is too long.
    pub fitting_all : r.size ≡ 0 → HandsFitting line count room size true
    fitting_all none =
        record {
          next = r.next;
          inside = next-inside;
          fit = next-fit;
          ends = by p.ends;
          hands = record { all = λ e. omega (arith, h.handed.taken, page_continues line p); cut = λ e. not-both (sym e) };
        }
      where
        by : (count ≤ r.next) ⊎ (min (length out - r.size) line_room < length (line r.next)) → (r.next ≡ count) ⊎ (room < length (line r.next))
        by (inl last) = inl (omega (arith, next-inside))
        by (inr less) = inr (omega arith)

    -- The bytes of a page that are not counted are missing.
    pub fitting_cut : r.size ≢ 0 → HandsFitting line count room size false
    fitting_cut some =
        let f = ends-behind (count - r.next) r.next (omega (arith, next-inside)) next-fit in
        record {
          next = f.next;
          inside = f.inside;
          fit = f.fit;
          ends = f.ends;
          hands = record { all = not-both; cut = λ e. omega (arith, h.handed.taken, page_continues line p, text_grows line r.next f.next f.onward) };
        }

    -- One page more.
    pub fitting_more : {handed sum : ℕ} {whole : Bool} → Hands (take r.size out') handed whole → whole ≡ true → sum ≡ size + handed → FittingTo r.next sum
    fitting_more w took e = subst (FittingTo r.next) (sym e) (record { handed = handed_more line count h.handed p w took; fit = next-fit })
