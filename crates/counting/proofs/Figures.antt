-- The counts that the code keeps: cut sums, a pass over the rows, and the figures of the start. All by induction over the letters and from the definitions.
use mathlib.Core.Path.{◌≡◌, refl, sym, ◌∙◌, ap, subst}
use mathlib.Core.Bool.{Bool, true, false, cond}
use mathlib.Core.List.{List}
use Prim.Native.Nat.{ℕ, zero, suc, ◌+◌, ◌*◌, ◌-◌, ◌≤◌, ◌<◌, min}
use native.Mathlib.Omega.{arith}
use native.Mathlib.Numerals.{add-one}
use native.Mathlib.Decide.{ℕ_discrete, dec_le}
use lib.Dec.{ltb}
use lib.ListN.{length, get_or, take, drop, set, replicate, length-drop, length-set, length-replicate, get_or-eq_default}
use lib.Seq.{length-take-le, get_or-take, get_or-drop, get_or-set_same, get_or-set_other}
use borrow.Author.Tests.{ltb-true, ltb-false}
use Rattle.automaton.specs.Stored.{entry_at}
use Rattle.basics.specs.Count.{CountOf}
use Rattle.basics.proofs.Count.{more_iff, count_excludes_more}
use Rattle.basics.proofs.Tests.{not-both}
use Rattle.basics.proofs.Clearing.{zeros}
use Rattle.automaton.specs.WellFormed.{IsWellFormed}
use Rattle.figure_sums.specs.Sums.{highest_figure, letter_sum, figure_cut, row_sum, AreBounded}
use Rattle.figure_sums.proofs.Sums.{sum_same, sum_le, sum-cut}
use Rattle.counting.specs.Counting.{any_state, has_final_byte, FollowedRecord, FinalRecord, HasFigures, HoldsFigures, CountsRecords}
use Rattle.counting.specs.Figures.{record_count_from, figure_of, final_figure_of, HoldsCounts, NextCounts, HoldsCutFigures}
use Rattle.counting.proofs.Counting.{records-count}

-- ---- one letter more

-- The number at an entry is the cut count of the state that it names, and 0 where it names none.
module _ (k : ℕ) (entries finals : List ℕ) (ends : ℕ → Bool) where
  abbrev count : ℕ → ℕ → ℕ
  count t i = record_count_from k (length finals) (entry_at k entries) ends t i

  at_entry : {t : ℕ} {counts : List ℕ} → HoldsCounts k entries finals ends t counts → (e : ℕ) → get_or counts e 0 ≡ min (cond (ltb e (length finals)) (count t e) 0) figure_cut
  at_entry {t} {counts} h e = by (ltb e (length finals)) refl
    where
      by : (b : Bool) → ltb e (length finals) ≡ b → get_or counts e 0 ≡ min (cond b (count t e) 0) figure_cut
      by true p = h.counted e (ltb-true e (length finals) p)
      by false p = get_or-eq_default counts 0 (omega (arith, ltb-false e (length finals) p, h.rows))

  pub counts-next : {t : ℕ} {counts next : List ℕ} → HoldsCounts k entries finals ends t counts → length next ≡ length finals → NextCounts k entries counts next (length finals)
      → HoldsCounts k entries finals ends (suc t) next
  unfolding record_count_from
  counts-next {t} {counts} {next} h same n =
      record {
        rows = same;
        counted = λ i l.
            n i l
            ∙ ap (λ s. min s figure_cut) (sum_same k (λ a. get_or counts (entry_at k entries i a) 0) (λ a. min (part i a) figure_cut) (λ a b. at_entry h (entry_at k entries i a)))
            ∙ sum-cut k (part i);
      }
    where
      part : ℕ → ℕ → ℕ
      part i a = cond (ltb (entry_at k entries i a) (length finals)) (count t (entry_at k entries i a)) 0

-- ---- the last column is at most the figure

module _ (k n : ℕ) (entry : ℕ → ℕ → ℕ) (ends : ℕ → Bool) where
  pub ending_le : (t i : ℕ) → record_count_from k n entry ends t i ≤ record_count_from k n entry any_state t i
  unfolding record_count_from
  ending_le zero i = by (ends i)
    where
      by : (b : Bool) → cond b 1 0 ≤ 1
      by true = omega arith
      by false = omega arith
  ending_le (suc t) i = sum_le k (λ a. cond (ltb (entry i a) n) (record_count_from k n entry ends t (entry i a)) 0) (λ a. cond (ltb (entry i a) n) (record_count_from k n entry any_state t (entry i a)) 0) (λ a. by (ltb (entry i a) n) (entry i a) (ending_le t (entry i a)))
    where
      by : (b : Bool) (j : ℕ) → record_count_from k n entry ends t j ≤ record_count_from k n entry any_state t j → cond b (record_count_from k n entry ends t j) 0 ≤ cond b (record_count_from k n entry any_state t j) 0
      by true j again = again
      by false j again = omega arith

-- ---- what the loops do

-- A row of the entries, from its start.
pub row-counted : (k : ℕ) (entries counts : List ℕ) (i : ℕ) {start end r : ℕ} → i * k + k ≤ length entries → start ≡ i * k → end ≡ start + k
    → r ≡ row_sum (take (end - start) (drop start entries)) counts (length (take (end - start) (drop start entries)))
    → r ≡ min (letter_sum k (λ a. get_or counts (entry_at k entries i a) 0)) figure_cut
row-counted k entries counts i {start} {end} {r} fits s e p =
    let size : end - start ≡ k = omega arith in
    let row = take (end - start) (drop start entries) in
    let long : length row ≡ k = length-take-le (end - start) (drop start entries) (omega (arith, length-drop start entries)) ∙ size in
    p ∙ ap (row_sum row counts) long
    ∙ ap (λ x. min x figure_cut) (sum_same k (λ a. get_or counts (get_or row a 0) 0) (λ a. get_or counts (entry_at k entries i a) 0) (λ a l. ap (λ x. get_or counts x 0) (entry a l)))
  where
    entry : (a : ℕ) → a < k → get_or (take (end - start) (drop start entries)) a 0 ≡ entry_at k entries i a
    entry a l = get_or-take (end - start) (drop start entries) a 0 (omega arith) ∙ get_or-drop start entries a 0 ∙ ap (λ x. get_or entries (x + a) 0) s

-- The counts for no letter: 1 for a row that passes, and 0 for another.
pub first-held : (k : ℕ) (entries finals counts : List ℕ) (ends : ℕ → Bool) → length counts ≡ length finals → ((j : ℕ) → j < length finals → get_or counts j 0 ≡ cond (ends j) 1 0)
    → HoldsCounts k entries finals ends 0 counts
unfolding record_count_from
first-held k entries finals counts ends e h = record { rows = e; counted = λ i l. h i l ∙ small (ends i) }
  where
    small : (b : Bool) → cond b 1 0 ≡ min (cond b 1 0) figure_cut
    small true = refl
    small false = refl

-- ---- the figures of the start

-- One figure more in a list.
module _ (figure : ℕ → ℕ) (old list : List ℕ) {v : ℕ} where
  pub figure-first : 0 < length old → v ≡ min (figure 0) figure_cut → HoldsCutFigures figure 0 (set old 0 v) (set old 0 v)
  figure-first h e =
      record {
        same = refl;
        held = λ t l. let z : t ≡ 0 = omega arith in ap (λ n. get_or (set old 0 v) n 0) z ∙ get_or-set_same old 0 v 0 h ∙ e ∙ ap (λ n. min (figure n) figure_cut) (sym z);
        behind = λ t l. refl;
      }

  pub figure-more : {m : ℕ} → m + 1 < length list → HoldsCutFigures figure m old list → v ≡ min (figure (m + 1)) figure_cut → HoldsCutFigures figure (m + 1) old (set list (m + 1) v)
  figure-more {m} h f e =
      record {
        same = length-set list (m + 1) v ∙ f.same;
        held = λ t l. by t (ℕ_discrete t (m + 1)) l;
        behind = λ t l. get_or-set_other list (m + 1) t v 0 (λ z. omega arith) ∙ f.behind t (omega arith);
      }
    where
      by : (t : ℕ) → Dec (t ≡ m + 1) → t ≤ m + 1 → get_or (set list (m + 1) v) t 0 ≡ min (figure t) figure_cut
      by t (yes z) l = ap (λ n. get_or (set list (m + 1) v) n 0) z ∙ get_or-set_same list (m + 1) v 0 h ∙ e ∙ ap (λ n. min (figure n) figure_cut) (sym z)
      by t (no z) l = get_or-set_other list (m + 1) t v 0 z ∙ f.held t (omega arith)

-- What stands behind the first figure is as it was before that was stored.
figures-from : (figure : ℕ → ℕ) (old list : List ℕ) (v : ℕ) {m : ℕ} → HoldsCutFigures figure m (set old 0 v) list → HoldsCutFigures figure m old list
figures-from figure old list v f = record { same = f.same ∙ length-set old 0 v; held = f.held; behind = λ t l. f.behind t l ∙ get_or-set_other old 0 t v 0 (λ z. omega arith) }

-- Before a turn: the counts for t letters, and the figures up to t.
pub record Filling (k : ℕ) (entries finals : List ℕ) (ends : ℕ → Bool) (t : ℕ) (numbers old list : List ℕ) : Type 0 where
  pub counts : HoldsCounts k entries finals ends t numbers
  pub figures : HoldsCutFigures (λ t. record_count_from k (length finals) (entry_at k entries) ends t 0) t old list

abbrev pub FillingFrom : (k : ℕ) (entries : List ℕ) (ends : List ℕ → ℕ → Bool) (t : ℕ) (first counts old list : List ℕ) → Type 0
FillingFrom k entries ends t first counts old list = (finals : List ℕ) → HoldsCounts k entries finals (ends finals) 0 first → Filling k entries finals (ends finals) t counts old list

module _ (k : ℕ) (entries : List ℕ) (ends : List ℕ → ℕ → Bool) (first old : List ℕ) where
  pub filling-more : {t : ℕ} {counts next list : List ℕ} → 0 < length counts → length next ≡ length counts → t + 1 < length list
      → FillingFrom k entries ends t first counts old list → NextCounts k entries counts next (length counts) → FillingFrom k entries ends (t + 1) first next old (set list (t + 1) (get_or next 0 0))
  filling-more {t} {counts} {next} {list} row same room f n finals h =
      let now = f finals h in
      let rows = now.counts.rows in
      let held : HoldsCounts k entries finals (ends finals) (t + 1) next = subst (λ m. HoldsCounts k entries finals (ends finals) m next) (sym (add-one t))
      (counts-next k entries finals (ends finals) now.counts (same ∙ rows) (λ i l. n i (omega arith))) in
      record {
        counts = held;
        figures = figure-more (λ t. record_count_from k (length finals) (entry_at k entries) (ends finals) t 0) old list room now.figures (held.counted 0 (omega arith));
      }

-- After the last turn.
pub filled : {k : ℕ} {entries finals : List ℕ} {ends : ℕ → Bool} {t most : ℕ} {counts old list : List ℕ} (v : ℕ) → t ≡ most → Filling k entries finals ends t counts (set old 0 v) list
    → HoldsCutFigures (λ t. record_count_from k (length finals) (entry_at k entries) ends t 0) most old list
filled {k} {entries} {finals} {ends} {old = old} {list = list} v e f =
    let figure : ℕ → ℕ = λ t. record_count_from k (length finals) (entry_at k entries) ends t 0 in
    subst (λ m. HoldsCutFigures figure m old list) e (figures-from figure old list v f.figures)

-- ---- the answer

module _ {figure : ℕ → ℕ} {most : ℕ} {old list : List ℕ} (room : ℕ) (cleared : old ≡ replicate room 0) (h : HoldsCutFigures figure most old list) where
  behind-zero : (t : ℕ) → most < t → get_or list t 0 ≡ 0
  behind-zero t l = h.behind t l ∙ ap (λ x. get_or x t 0) cleared ∙ zeros room t

  -- Figures that are not above the highest are the numbers of what is counted.
  figures-held : (Counted : ℕ → List ℕ → Type 0) → ((t : ℕ) → CountOf (Counted t) (figure t)) → ((t : ℕ) → t ≤ most → figure t ≤ highest_figure) → HoldsFigures Counted most list
  figures-held Counted counts b =
      record { held = λ t l. subst (CountOf (Counted t)) (let e = h.held t l in let f = b t l in omega arith) (counts t); behind = behind-zero }

  figures-bounded : ((t : ℕ) → t ≤ most → figure t ≤ highest_figure) → AreBounded list
  figures-bounded b i l = by (dec_le i most)
    where
      by : Dec (i ≤ most) → get_or list i 0 ≤ highest_figure
      by (yes p) = let e = h.held i p in let f = b i p in omega arith
      by (no p) = let e = behind-zero i (omega arith) in omega arith

bounded-figures : {figure : ℕ → ℕ} {most : ℕ} {old list : List ℕ} → HoldsCutFigures figure most old list → most < length old → AreBounded list → (t : ℕ) → t ≤ most → figure t ≤ highest_figure
bounded-figures h room b t l = let e = h.held t l in let f = b t (omega (arith, h.same)) in omega arith

-- The figures of a lent table are the numbers of its records.
module _ (k : ℕ) (entries finals : List ℕ) where
  pub figure-counts : (t : ℕ) → CountOf (FollowedRecord k entries finals t) (figure_of k entries finals t)
  figure-counts t = records-count k (length finals) (entry_at k entries) any_state t 0

  pub final-figure-counts : (t : ℕ) → CountOf (FinalRecord k entries finals t) (final_figure_of k entries finals t)
  final-figure-counts t = records-count k (length finals) (entry_at k entries) (has_final_byte finals) t 0

module _ (k : ℕ) (entries finals : List ℕ) (most room final_room : ℕ) {figures final_figures : List ℕ} where
  -- Where nothing can be counted both lists stay clear.
  pub not-counted : ¬ HasFigures k entries finals most room final_room → figures ≡ replicate room 0 → final_figures ≡ replicate final_room 0
      → CountsRecords k entries finals most room final_room false figures final_figures
  not-counted h e f =
      record {
        says = h;
        counted = λ z. not-both z;
        refused = λ z. (e, f);
        same_room = (ap length e ∙ length-replicate room 0, ap length f ∙ length-replicate final_room 0);
      }

  module _ {old old_final : List ℕ} (clear : old ≡ replicate room 0) (final_clear : old_final ≡ replicate final_room 0) (formed : IsWellFormed k entries finals × (most < room) × (most < final_room))
      (cut : HoldsCutFigures (figure_of k entries finals) most old figures) (final_cut : HoldsCutFigures (final_figure_of k entries finals) most old_final final_figures) where
    size : length old ≡ room
    size = ap length clear ∙ length-replicate room 0

    final_size : length old_final ≡ final_room
    final_size = ap length final_clear ∙ length-replicate final_room 0

    pub all-counted : AreBounded figures → CountsRecords k entries finals most room final_room true figures final_figures
    all-counted b =
        let bounded = bounded-figures cut (omega (arith, size, formed.1)) b in
        record {
          says =
              record {
                well_formed = formed.0;
                fits = formed.1;
                final_fits = formed.2;
                bounded = λ t l. count_excludes_more (figure-counts k entries finals t) highest_figure (bounded t l);
              };
          counted = λ z. (
            figures-held room clear cut (FollowedRecord k entries finals) (figure-counts k entries finals) bounded,
            figures-held final_room final_clear final_cut (FinalRecord k entries finals) (final-figure-counts k entries finals) (λ t l. omega (arith, bounded t l, ending_le k (length finals) (entry_at k entries) (has_final_byte finals) t 0)),
          );
          refused = λ z. not-both (sym z);
          same_room = (cut.same ∙ size, final_cut.same ∙ final_size);
        }

    pub too_high : ¬ AreBounded figures → ¬ HasFigures k entries finals most room final_room
    too_high n h = n (figures-bounded room clear cut (λ t l. low t l (dec_le (figure_of k entries finals t) highest_figure)))
      where
        low : (t : ℕ) → t ≤ most → Dec (figure_of k entries finals t ≤ highest_figure) → figure_of k entries finals t ≤ highest_figure
        low t l (yes p) = p
        low t l (no p) = absurd (h.bounded t l ((more_iff (figure-counts k entries finals t) highest_figure).1 (omega arith)))
