-- Laws of lines by their numbers: the text from a number on continues the text before it, a page is settled by its lines and its room, and pages
-- one after the other have the whole text. From the definitions.
use Prim.Native.Nat.{ℕ, zero, suc, ◌+◌, ◌-◌, ◌*◌, ◌≤◌, ◌<◌, min}
use native.Mathlib.Omega.{arith}
use mathlib.Core.Path.{◌≡◌, refl, sym, ◌∙◌, ap, ap₂, subst}
use mathlib.Core.Bool.{Bool, true, false}
use mathlib.Core.Logic.{◌⊎◌, inl, inr}
use mathlib.Core.List.{List, [], ◌++◌, append_assoc, append-nil}
use lib.Dec.{leb, ltb}
use lib.ListN.{length, take, drop, length-append}
use lib.Seq.{sets, sets-eq, length-sets, take_at}
use borrow.Author.Tests.{leb-true, leb-false, ltb-true, ltb-false}
use Rattle.basics.proofs.Lists.{sets_append}
use Rattle.print.specs.Append.{Appends}
use Rattle.print.specs.Lines.{lines_from}
use Rattle.pages.specs.Lines.{line_room, HoldsLine, HoldsLines, IsPage}
use Rattle.pages.specs.declared.Page.{Page}

-- What is written to the front of a list stands there.
pub written-front : (out text : List ℕ) → length text ≤ length out → take (length text) (sets out 0 text) ≡ text
written-front out text h =
    ap (take (length text)) (sets-eq text out 0 (omega arith)) ∙ take_at text (drop (0 + length text) out) (length text) refl

-- A text that was written to the front of lent bytes with room for it stands there.
pub front-text : {text out out' : List ℕ} {r : ℕ} → Appends 0 text out out' r → length text ≤ length out → take r out' ≡ text
front-text {text} {out} p h =
    let w = p.written (omega arith) in
    let size = w.1 ∙ (let e : 0 + length text ≡ length text = omega arith in e) in
    ap₂ take size w.0 ∙ written-front out text h

-- A text that is appended at the front of so much room.
pub appended-line : {text out out' : List ℕ} {room r : ℕ} → length out ≡ room → Appends 0 text out out' r → HoldsLine text room out' r
appended-line {text} {out} {out'} {room} {r} l p =
    record {
      held = λ h. let w = p.written (omega arith) in let e : r ≡ length text = omega (arith, w.1) in (e, ap₂ take e w.0 ∙ written-front out text (omega arith));
      long = λ h. omega (arith, p.no_room (omega arith));
    }

-- A line without text takes no bytes.
pub empty-line : {text out : List ℕ} {room : ℕ} → [] ≡ text → HoldsLine text room out 0
empty-line e = record { held = λ h. (ap length e, e); long = λ h. absurd (omega (arith, ap length e)) }

module _ {text out : List ℕ} {room size : ℕ} (h : HoldsLine text room out size) where
  -- A line that takes no more than there is room for is held, and one that takes more has no room.
  pub line-held : size ≤ room → (size ≡ length text) × (take size out ≡ text)
  line-held b = by (leb (length text) room) refl
    where
      by : (t : Bool) → leb (length text) room ≡ t → (size ≡ length text) × (take size out ≡ text)
      by true e = h.held (leb-true (length text) room e)
      by false e = absurd (omega (arith, h.long (leb-false (length text) room e)))

  pub line-left : (left : ℕ) → min left room < size → min left room < length text
  line-left left b = by (leb (length text) room) refl
    where
      by : (t : Bool) → leb (length text) room ≡ t → min left room < length text
      by true e = omega (arith, (h.held (leb-true (length text) room e)).0)
      by false e = omega (arith, leb-false (length text) room e)

-- The first line, and the others.
pub first-line : (f : ℕ → List ℕ) (n : ℕ) → lines_from f 0 (suc n) ≡ f 0 ++ lines_from (λ k. f (suc k)) 0 n
unfolding lines_from
first-line f zero = sym (append-nil (f 0))
first-line f (suc n) =
    let e : 0 + suc n ≡ suc (0 + n) = omega arith in
    ap₂ (λ l k. l ++ f k) (first-line f n) e ∙ append_assoc (f 0) (lines_from (λ k. f (suc k)) 0 n) (f (suc (0 + n)))

-- Lines that are the same one by one have the same text.
pub same_lines : (f g : ℕ → List ℕ) → ((k : ℕ) → f k ≡ g k) → (from n : ℕ) → lines_from f from n ≡ lines_from g from n
unfolding lines_from
same_lines f g e from zero = refl
same_lines f g e from (suc n) = ap₂ ◌++◌ (same_lines f g e from n) (e (from + n))

module _ (line : ℕ → List ℕ) where
  -- The lines from a number on are the first of them and the others.
  pub lines-append : (from m n : ℕ) → lines_from line from m ++ lines_from line (from + m) n ≡ lines_from line from (m + n)
  unfolding lines_from
  lines-append from m zero = let z : m ≡ m + 0 = omega arith in append-nil (lines_from line from m) ∙ ap (lines_from line from) z
  lines-append from m (suc n) =
      let e : from + m + n ≡ from + (m + n) = omega arith in
      let s : suc (m + n) ≡ m + suc n = omega arith in
      sym (append_assoc (lines_from line from m) (lines_from line (from + m) n) (line (from + m + n)))
      ∙ ap₂ (λ l k. l ++ line k) (lines-append from m n) e
      ∙ ap (lines_from line from) s

  module _ {count from : ℕ} {out : List ℕ} where
    pub no_lines : HoldsLines line count from out out 0 from
    unfolding lines_from
    no_lines =
        let z : 0 ≡ from - from = omega arith in
        record {
          onward = omega arith;
          inside = λ h. h;
          beyond = λ h. refl;
          short = λ k a b. absurd (omega arith);
          long = ap (λ n. length (lines_from line from n)) z;
          room = omega arith;
          bytes = ap (λ n. sets out 0 (lines_from line from n)) z;
        }

    module _ {out' : List ℕ} {size next : ℕ} (h : HoldsLines line count from out out' size next) where
      pub same-room : length out' ≡ length out
      same-room = ap length h.bytes ∙ length-sets out 0 (lines_from line from (next - from))

      -- One line more.
      pub line-more : length (line next) ≤ line_room → next < count → size + length (line next) ≤ length out → HoldsLines line count from out (sets out' size (line next)) (size + length (line next)) (next + 1)
      unfolding lines_from
      line-more held less fits =
          let o = h.onward in
          let n = next - from in
          let e : from + n ≡ next = omega arith in
          let s : suc n ≡ next + 1 - from = omega arith in
          let z : size ≡ 0 + length (lines_from line from n) = omega (arith, h.long) in
          let t : lines_from line from n ++ line next ≡ lines_from line from (next + 1 - from) = ap (λ k. lines_from line from n ++ line k) (sym e) ∙ ap (lines_from line from) s in
          record {
            onward = omega arith;
            inside = λ b. omega arith;
            beyond = λ b. absurd (omega (arith, h.beyond b));
            short = λ k a b. by k a b (ltb k next) refl;
            long = ap (◌+ length (line next)) h.long ∙ sym (length-append (lines_from line from n) (line next)) ∙ ap length t;
            room = fits;
            bytes =
                ap₂ (λ l k. sets l k (line next)) h.bytes z
                ∙ sets_append out 0 (lines_from line from n) (line next)
                ∙ ap (sets out 0) t;
          }
        where
          by : (k : ℕ) → from ≤ k → k < next + 1 → (t : Bool) → ltb k next ≡ t → length (line k) ≤ line_room
          by k a b true e = h.short k a (ltb-true k next e)
          by k a b false e = let q : k ≡ next = omega (arith, ltb-false k next e) in omega (arith, ap (λ j. length (line j)) q)

      module _ {buffer : List ℕ} {taken room : ℕ} (l : HoldsLine (line next) line_room buffer taken) (r : room ≡ min (length out' - size) line_room) where
        -- The line that a buffer holds is copied behind the others if there is room for it.
        pub copied-line : next < count → taken ≤ room → {out'' : List ℕ} → out'' ≡ sets out' size (take taken buffer) → HoldsLines line count from out out'' (size + taken) (next + 1)
        copied-line less fits {out''} e =
            let q = line-held l (omega arith) in
            let g = line-more (omega (arith, q.0)) less (omega (arith, same-room, q.0, h.room)) in
            subst (λ o. HoldsLines line count from out o (size + taken) (next + 1)) (sym (e ∙ ap (sets out' size) q.1))
            (subst (λ k. HoldsLines line count from out (sets out' size (line next)) (size + k) (next + 1)) (sym q.0) g)

        -- Else the page is full.
        pub page_full : {n : ℕ} → count ≡ n → room < taken → IsPage line n from out out' (record { size = size; next = next })
        page_full e none =
            let x = line-left l (length out' - size) (omega arith) in
            record { holds = subst (λ m. HoldsLines line m from out out' size next) e h; ends = inr (omega (arith, same-room)) }

      -- All lines are there.
      pub page_last : {n : ℕ} → count ≡ n → count ≤ next → IsPage line n from out out' (record { size = size; next = next })
      page_last e last = record { holds = subst (λ m. HoldsLines line m from out out' size next) e h; ends = inl (omega arith) }

  -- ---- pages

  -- A text of short lines has at most so many bytes.
  pub text-short : ((k : ℕ) → length (line k) ≤ line_room) → (n : ℕ) → length (lines_from line 0 n) ≤ line_room * n
  unfolding lines_from
  text-short short zero = omega arith
  text-short short (suc n) = omega (arith, text-short short n, short (0 + n), length-append (lines_from line 0 n) (line (0 + n)))

  -- More places have no shorter text.
  pub text_grows : (m n : ℕ) → m ≤ n → length (lines_from line 0 m) ≤ length (lines_from line 0 n)
  text_grows m n h =
      let e : m + (n - m) ≡ n = omega arith in
      omega (arith, length-append (lines_from line 0 m) (lines_from line (0 + m) (n - m)), ap length (lines-append 0 m (n - m) ∙ ap (lines_from line 0) e))

  -- No line of a text is longer than the text.
  line-inside : (from n k : ℕ) → from ≤ k → k < from + n → length (line k) ≤ length (lines_from line from n)
  unfolding lines_from
  line-inside from zero k a b = absurd (omega arith)
  line-inside from (suc n) k a b = by (line-inside from n k a) (ltb k (from + n)) refl
    where
      by : (k < from + n → length (line k) ≤ length (lines_from line from n)) → (t : Bool) → ltb k (from + n) ≡ t → length (line k) ≤ length (lines_from line from (suc n))
      by before true e = omega (arith, length-append (lines_from line from n) (line (from + n)), before (ltb-true k (from + n) e))
      by before false e =
          let q : k ≡ from + n = omega (arith, ltb-false k (from + n) e) in
          omega (arith, length-append (lines_from line from n) (line (from + n)), ap (λ j. length (line j)) q)

  module _ {count from : ℕ} {out out' : List ℕ} {r : Page} (p : IsPage line count from out out' r) where
    -- Each line of a page is no longer than the page, and than there is room for.
    pub page_fits : (k : ℕ) → from ≤ k → k < r.next → length (line k) ≤ min (length out) line_room
    page_fits k a b = omega (arith, p.holds.onward, p.holds.short k a b, p.holds.long, p.holds.room, line-inside from (r.next - from) k a (omega arith))

    -- The text before a page and that of the page are the text before the next page.
    pub page_continues : length (lines_from line 0 from) + r.size ≡ length (lines_from line 0 r.next)
    page_continues =
        let o = p.holds.onward in
        let e : 0 + from ≡ from = omega arith in
        let d : from + (r.next - from) ≡ r.next = omega arith in
        ap (length (lines_from line 0 from) +◌) p.holds.long
        ∙ sym (length-append (lines_from line 0 from) (lines_from line from (r.next - from)))
        ∙ ap length (ap (λ k. lines_from line 0 from ++ lines_from line k (r.next - from)) (sym e) ∙ lines-append 0 from (r.next - from) ∙ ap (lines_from line 0) d)

    -- A page with bytes goes on.
    pub page_advances : 0 < r.size → from < r.next
    unfolding lines_from
    page_advances some = by (ltb from r.next) refl
      where
        by : (t : Bool) → ltb from r.next ≡ t → from < r.next
        by true e = ltb-true from r.next e
        by false e =
            let h = ltb-false from r.next e in
            let z : r.next - from ≡ 0 = omega arith in
            absurd (omega (arith, p.holds.long, ap (λ n. length (lines_from line from n)) z))

    -- After an empty page with room for a line there is no further text.
    pub page_empty : ((k : ℕ) → length (line k) ≤ line_room) → line_room ≤ length out → r.size ≡ 0 → from ≤ count → length (lines_from line 0 from) ≡ length (lines_from line 0 count)
    page_empty short room none within = by p.ends
      where
        by : (count ≤ r.next) ⊎ (min (length out - r.size) line_room < length (line r.next)) → length (lines_from line 0 from) ≡ length (lines_from line 0 count)
        by (inl last) =
            let i = p.holds.inside within in
            let e : r.next ≡ count = omega arith in
            omega (arith, page_continues, ap (λ n. length (lines_from line 0 n)) e)
        by (inr less) = absurd (omega (arith, short r.next))

  -- Of two pages with the same room none goes further.
  not-further : {count from : ℕ} {out out' out'' : List ℕ} {r q : Page} → IsPage line count from out out' r → IsPage line count from out out'' q → r.next < q.next → ⊥
  unfolding lines_from
  not-further {count} {from} {out} {out'} {out''} {r} {q} p p' less = by (ltb count from) refl
    where
      further : from ≤ count → (count ≤ r.next) ⊎ (min (length out - r.size) line_room < length (line r.next)) → ⊥
      further within (inl last) = omega (arith, p'.holds.inside within)
      further within (inr full) =
          let o = p.holds.onward in
          let m = r.next - from in
          let n = q.next - r.next - 1 in
          let e : from + m ≡ r.next = omega arith in
          let d : suc m + n ≡ q.next - from = omega arith in
          let one : length (lines_from line from (suc m)) ≡ length (lines_from line from m) + length (line r.next) = length-append (lines_from line from m) (line (from + m)) ∙ ap (λ k. length (lines_from line from m) + length (line k)) e in
          let all : length (lines_from line from (suc m)) + length (lines_from line (from + suc m) n) ≡ length (lines_from line from (q.next - from)) = sym (length-append (lines_from line from (suc m)) (lines_from line (from + suc m) n)) ∙ ap length (lines-append from (suc m) n ∙ ap (lines_from line from) d) in
          omega (arith, one, all, p.holds.long, p'.holds.long, p'.holds.room, p'.holds.short r.next o less)

      by : (t : Bool) → ltb count from ≡ t → ⊥
      by true e = let h = ltb-true count from e in omega (arith, p.holds.beyond h, p'.holds.beyond h)
      by false e = further (ltb-false count from e) p.ends

  -- The page is settled.
  pub page_unique : {count from : ℕ} {out out' out'' : List ℕ} {r q : Page} → IsPage line count from out out' r → IsPage line count from out out'' q
      → (r.next ≡ q.next) × ((r.size ≡ q.size) × (out' ≡ out''))
  page_unique {count} {from} {out} {out'} {out''} {r} {q} p p' =
      (e, (p.holds.long ∙ ap (λ n. length (lines_from line from (n - from))) e ∙ sym p'.holds.long, p.holds.bytes ∙ ap (λ n. sets out 0 (lines_from line from (n - from))) e ∙ sym p'.holds.bytes))
    where
      by : (s t : Bool) → ltb r.next q.next ≡ s → ltb q.next r.next ≡ t → r.next ≡ q.next
      by true t d f = absurd (not-further p p' (ltb-true r.next q.next d))
      by false true d f = absurd (not-further p' p (ltb-true q.next r.next f))
      by false false d f = omega (arith, ltb-false r.next q.next d, ltb-false q.next r.next f)

      e : r.next ≡ q.next
      e = by (ltb r.next q.next) (ltb q.next r.next) refl refl
