-- The entries that are read from the tables are the entries of the rows that were written, with zeros behind them.
use Prim.Native.Nat.{ℕ, zero, suc, ◌+◌, ◌-◌, ◌*◌, ◌≤◌, ◌<◌}
use native.Mathlib.Omega.{arith}
use native.Mathlib.Decide.{dec_lt}
use mathlib.Core.Path.{◌≡◌, refl, sym, ◌∙◌, ap, ap₂}
use mathlib.Core.List.{List, [], ◌∷◌, ◌++◌, map}
use lib.Dec.{ltb}
use lib.IntN.{ℤ, pos}
use lib.ListN.{length, get_or, set, drop, replicate, length-append, length-map, length-set, length-replicate, get_or-append, get_or-eq_default}
use lib.Seq.{sets, sets-eq, length-sets, get_or-set_same, get_or-set_other, get_or-append-add, get_or-drop, ext_get_or}
use borrow.Author.Tests.{lt-ltb, le-ltb}
use Rattle.basics.proofs.Lists.{All-get_or, get_d_map}
use Rattle.basics.specs.Lists.{All}
use Rattle.meaning.specs.Arithmetic.{Interval}
use mathlib.Core.Bool.{Bool, true, false, cond}
use Rattle.std.specs.Prelude.{Option, None}
use Rattle.nodes.specs.declared.Range.{Range}
use Rattle.scan.specs.declared.Span.{Span}
use Rattle.spans.specs.Token.{span}
use Rattle.spans.specs.Stored.{span_bound, span_places, put_spans, no_spans, span_table}
use Rattle.spans.specs.Spans.{spans_in}
use Rattle.spans.proofs.Tables.{places-length, table-few}
use Rattle.normal_entries.specs.Row.{Row}
use Rattle.normal_entries.specs.Fields.{entry_with}
use Rattle.normal_entries.specs.Entries.{row_bound, spans_from, with_spans, blank, row_in, stored_place, stored_span, stored_entry, listed}
use Rattle.normal.specs.Table.{numbers_of, flat, source_at, ends_of, ends_up_to, numbers_with, ends_with}
use Rattle.normal.specs.Encoded.{span_before, entry_for}
use Rattle.normal_entries.specs.declared.Entry.{Entry}
use Rattle.normal.proofs.Writing.{length-flat}
use Rattle.normal_entries.proofs.Entries.{length-listed, entry-within, entry-beyond}
use Rattle.normal.proofs.Ends.{length-ends_up_to}

-- ---- lists

zeros-at : {A : Type 0} (n j : ℕ) (a : A) → get_or (replicate n a) j a ≡ a
zeros-at zero j a = refl
zeros-at (suc n) zero a = refl
zeros-at (suc n) (suc j) a = zeros-at n j a

module _ {A : Type 0} (t vs : List A) (d : A) (h : length vs ≤ length t) where
  stored : sets t 0 vs ≡ vs ++ drop (0 + length vs) t
  stored = sets-eq vs t 0 (omega arith)

  stored_in : (k : ℕ) → k < length vs → get_or (sets t 0 vs) k d ≡ get_or vs k d
  stored_in k l = ap (λ x. get_or x k d) stored ∙ get_or-append vs (drop (0 + length vs) t) d k l

  stored_out : (k : ℕ) → length vs ≤ k → get_or (sets t 0 vs) k d ≡ get_or t k d
  stored_out k l =
      let e : k ≡ length vs + (k - length vs) = omega arith in
      let f : 0 + length vs + (k - length vs) ≡ k = omega arith in
      ap₂ (λ x j. get_or x j d) stored e ∙ get_or-append-add vs (drop (0 + length vs) t) (k - length vs) d ∙ get_or-drop (0 + length vs) t (k - length vs) d ∙ ap (λ j. get_or t j d) f

-- What is stored from a place on changes nothing before it, and stands there.
sets_below : {A : Type 0} (t vs : List A) (n j : ℕ) (d : A) → j < n → get_or (sets t n vs) j d ≡ get_or t j d
sets_below t [] n j d h = refl
sets_below t (v ∷ vs) n j d h = sets_below (set t n v) vs (suc n) j d (omega arith) ∙ get_or-set_other t n j v d (λ e. omega arith)

sets_there : {A : Type 0} (t vs : List A) (n k : ℕ) (d : A) → n + length vs ≤ length t → k < length vs → get_or (sets t n vs) (n + k) d ≡ get_or vs k d
sets_there t [] n k d h l = absurd (omega arith)
sets_there t (v ∷ vs) n zero d h l =
    let e : n + 0 ≡ n = omega arith in
    ap (λ j. get_or (sets (set t n v) (suc n) vs) j d) e ∙ sets_below (set t n v) vs (suc n) n d (omega arith) ∙ get_or-set_same t n v d (omega arith)
sets_there t (v ∷ vs) n (suc k) d h l =
    let e : n + suc k ≡ suc n + k = omega arith in
    ap (λ j. get_or (sets (set t n v) (suc n) vs) j d) e ∙ sets_there (set t n v) vs (suc n) k d (omega (arith, length-set t n v)) (omega arith)

abbrev no_row : Row
no_row = record { kind = 0; relation = 0; left = 0; left_added = 0; right = 0; right_added = 0; source = 0 }

flat-at : (rows : List Row) (i k : ℕ) → i < length rows → k < 7 → get_or (flat rows) (i * 7 + k) 0 ≡ get_or (numbers_of (get_or rows i no_row)) k 0
flat-at [] i k h l = absurd (omega arith)
flat-at (r ∷ rows) zero k h l = let e : 0 * 7 + k ≡ k = omega arith in ap (λ j. get_or (numbers_of r ++ flat rows) j 0) e ∙ get_or-append (numbers_of r) (flat rows) 0 k l
flat-at (r ∷ rows) (suc i) k h l =
    let e : suc i * 7 + k ≡ 7 + (i * 7 + k) = omega arith in
    ap (λ j. get_or (numbers_of r ++ flat rows) j 0) e ∙ get_or-append-add (numbers_of r) (flat rows) (i * 7 + k) 0 ∙ flat-at rows i k (omega arith) l

ends_at : (range : ℕ → Option Range) (numbers : List ℕ) (n i k : ℕ) → i < n → k < 2 → get_or (ends_up_to range numbers n) (i * 2 + k) (pos 0) ≡ get_or (ends_of (range (source_at numbers i))) k (pos 0)
unfolding ends_up_to
ends_at range numbers zero i k h l = absurd (omega arith)
ends_at range numbers (suc n) i k h l = by (dec_lt i n) (ends_at range numbers n i k)
  where
    len : length (ends_up_to range numbers n) ≡ n * 2
    len = length-ends_up_to range numbers n

    by : Dec (i < n) → (i < n → k < 2 → get_or (ends_up_to range numbers n) (i * 2 + k) (pos 0) ≡ get_or (ends_of (range (source_at numbers i))) k (pos 0))
        → get_or (ends_up_to range numbers n ++ ends_of (range (source_at numbers n))) (i * 2 + k) (pos 0) ≡ get_or (ends_of (range (source_at numbers i))) k (pos 0)
    by (yes p) r = get_or-append (ends_up_to range numbers n) (ends_of (range (source_at numbers n))) (pos 0) (i * 2 + k) (omega (arith, len)) ∙ r p l
    by (no p) r =
        let e : n ≡ i = omega arith in
        let f : i * 2 + k ≡ length (ends_up_to range numbers n) + k = omega (arith, len) in
        ap (λ j. get_or (ends_up_to range numbers n ++ ends_of (range (source_at numbers n))) j (pos 0)) f ∙ get_or-append-add (ends_up_to range numbers n) (ends_of (range (source_at numbers n))) k (pos 0) ∙ ap (λ j. get_or (ends_of (range (source_at numbers j))) k (pos 0)) e

listed_at : {X : Type 0} (f : ℕ → X) (d : X) (n i : ℕ) → i < n → get_or (listed f n) i d ≡ f i
unfolding listed
listed_at f d zero i h = absurd (omega arith)
listed_at f d (suc n) i h = by (dec_lt i n) (listed_at f d n i)
  where
    by : Dec (i < n) → (i < n → get_or (listed f n) i d ≡ f i) → get_or (listed f n ++ (f n ∷ [])) i d ≡ f i
    by (yes p) r = get_or-append (listed f n) (f n ∷ []) d i (omega (arith, length-listed f n)) ∙ r p
    by (no p) r =
        let e : i ≡ length (listed f n) + 0 = omega (arith, length-listed f n) in
        let g : n ≡ i = omega arith in
        ap (λ j. get_or (listed f n ++ (f n ∷ [])) j d) e ∙ get_or-append-add (listed f n) (f n ∷ []) 0 d ∙ ap f g

-- ---- spans

places-start : (ss : List Span) (n : ℕ) → n < length ss → get_or (span_places ss) (n * 2 + 0) 0 ≡ (get_or ss n (span 0 0)).start
places-start [] n h = absurd (omega arith)
places-start (s ∷ ss) zero h = refl
places-start (s ∷ ss) (suc n) h = let e : suc n * 2 + 0 ≡ suc (suc (n * 2 + 0)) = omega arith in ap (λ j. get_or (span_places (s ∷ ss)) j 0) e ∙ places-start ss n (omega arith)

places-end : (ss : List Span) (n : ℕ) → n < length ss → get_or (span_places ss) (n * 2 + 1) 0 ≡ (get_or ss n (span 0 0)).end
places-end [] n h = absurd (omega arith)
places-end (s ∷ ss) zero h = refl
places-end (s ∷ ss) (suc n) h = let e : suc n * 2 + 1 ≡ suc (suc (n * 2 + 1)) = omega arith in ap (λ j. get_or (span_places (s ∷ ss)) j 0) e ∙ places-end ss n (omega arith)

module _ (numbers text : List ℕ) (long : length numbers ≡ 30944) (few : length (spans_in text) ≤ span_bound) where
  abbrev ss : List Span
  ss = spans_in text

  abbrev zeros : List ℕ
  zeros = no_spans

  -- The table of spans that have room.
  table_at : (k : ℕ) → get_or (span_table text) k 0 ≡ get_or (put_spans no_spans 0 ss) k 0
  table_at k = ap (λ t. get_or t k 0) (table-few text few)

  places-fit : length (span_places ss) ≤ length zeros
  places-fit = omega (arith, places-length ss, length-replicate {A = ℕ} 2048 0)

  -- What is stored for a node, and for none.
  place-stored : (n which : ℕ) → n < span_bound → which < 2 → get_or (with_spans numbers (span_table text)) (spans_from + n * 2 + which) 0 ≡ get_or (span_table text) (n * 2 + which) 0
  unfolding with_spans
  place-stored n which h l =
      let f : ℕ → ℕ = λ k. get_or (span_table text) k 0 in
      let e : spans_from + n * 2 + which ≡ spans_from + (n * 2 + which) = omega arith in
      let size = length-listed f 2048 in
      ap (λ j. get_or (sets numbers spans_from (listed f 2048)) j 0) e ∙ sets_there numbers (listed f 2048) spans_from (n * 2 + which) 0 (omega arith) (omega arith) ∙ listed_at f 0 2048 (n * 2 + which) (omega arith)

  span-stored : (e : ℕ) → stored_span (with_spans numbers (span_table text)) e ≡ span_before ss e
  unfolding stored_place
  span-stored zero = refl
  span-stored (suc n) = by (dec_lt n span_bound) (dec_lt n (length ss))
    where
      table : List ℕ
      table = with_spans numbers (span_table text)

      start_is : Dec (n < length ss) → get_or (span_table text) (n * 2 + 0) 0 ≡ (get_or ss n (span 0 0)).start
      start_is (yes l) = table_at (n * 2 + 0) ∙ stored_in zeros (span_places ss) 0 places-fit (n * 2 + 0) (omega (arith, places-length ss)) ∙ places-start ss n l
      start_is (no l) = table_at (n * 2 + 0) ∙ stored_out zeros (span_places ss) 0 places-fit (n * 2 + 0) (omega (arith, places-length ss)) ∙ zeros-at {A = ℕ} 2048 (n * 2 + 0) 0 ∙ sym (ap (λ (x : Span). x.start) (get_or-eq_default ss (span 0 0) (omega arith)))

      end_is : Dec (n < length ss) → get_or (span_table text) (n * 2 + 1) 0 ≡ (get_or ss n (span 0 0)).end
      end_is (yes l) = table_at (n * 2 + 1) ∙ stored_in zeros (span_places ss) 0 places-fit (n * 2 + 1) (omega (arith, places-length ss)) ∙ places-end ss n l
      end_is (no l) = table_at (n * 2 + 1) ∙ stored_out zeros (span_places ss) 0 places-fit (n * 2 + 1) (omega (arith, places-length ss)) ∙ zeros-at {A = ℕ} 2048 (n * 2 + 1) 0 ∙ sym (ap (λ (x : Span). x.end) (get_or-eq_default ss (span 0 0) (omega arith)))

      by : Dec (n < span_bound) → Dec (n < length ss) → stored_span table (suc n) ≡ get_or ss n (span 0 0)
      by (yes h) d =
          let t = lt-ltb n span_bound h in
          let start = ap (λ b. cond b (get_or table (spans_from + n * 2 + 0) 0) 0) t ∙ place-stored n 0 h (omega arith) ∙ start_is d in
          let end = ap (λ b. cond b (get_or table (spans_from + n * 2 + 1) 0) 0) t ∙ place-stored n 1 h (omega arith) ∙ end_is d in
          λ i. record { start = start i; end = end i }
      by (no h) d =
          let t = le-ltb n span_bound (omega arith) in
          let none = get_or-eq_default ss (span 0 0) (let z : length ss ≤ n = omega arith in z) in
          (λ i. record { start = cond (t i) (get_or table (spans_from + n * 2 + 0) 0) 0; end = cond (t i) (get_or table (spans_from + n * 2 + 1) 0) 0 }) ∙ sym none

  -- The numbers of the rows stay as they were.
  number-kept : (j : ℕ) → j < spans_from → get_or (with_spans numbers (span_table text)) j 0 ≡ get_or numbers j 0
  unfolding with_spans
  number-kept j h = sets_below numbers (listed (λ k. get_or (span_table text) k 0) 2048) spans_from j 0 h

no_span_stored : (e : ℕ) → stored_span (replicate 30944 0) e ≡ span_before [] e
unfolding stored_place
no_span_stored zero = refl
no_span_stored (suc n) = by (ltb n span_bound)
  where
    by : (b : Bool) → span (cond b (get_or (replicate 30944 0) (spans_from + n * 2 + 0) 0) 0) (cond b (get_or (replicate 30944 0) (spans_from + n * 2 + 1) 0) 0) ≡ span 0 0
    by true = λ i. record { start = zeros-at {A = ℕ} 30944 (spans_from + n * 2 + 0) 0 i; end = zeros-at {A = ℕ} 30944 (spans_from + n * 2 + 1) 0 i }
    by false = refl

-- ---- the numbers of rows

module _ (rows : List Row) (fits : length rows ≤ row_bound) where
  abbrev no_numbers : List ℕ
  no_numbers = replicate 30944 0

  numbers_fit : length (flat rows) ≤ length no_numbers
  numbers_fit = omega (arith, length-flat rows, length-replicate {A = ℕ} 30944 0)

  pub numbers-long : length (numbers_with rows) ≡ 30944
  numbers-long = length-sets no_numbers 0 (flat rows) ∙ length-replicate {A = ℕ} 30944 0

  number_at : (i k : ℕ) → i < length rows → k < 7 → get_or (numbers_with rows) (i * 7 + k) 0 ≡ get_or (numbers_of (get_or rows i no_row)) k 0
  number_at i k h l = stored_in no_numbers (flat rows) 0 numbers_fit (i * 7 + k) (omega (arith, length-flat rows)) ∙ flat-at rows i k h l

  number_out : (j : ℕ) → length rows * 7 ≤ j → get_or (numbers_with rows) j 0 ≡ 0
  number_out j h = stored_out no_numbers (flat rows) 0 numbers_fit j (omega (arith, length-flat rows)) ∙ zeros-at {A = ℕ} 30944 j 0

-- ---- entries

-- A table with the numbers of the rows, and the spans.
record HasRows (rows : List Row) (numbers : List ℕ) (ss : List Span) : Type 0 where
  same : (j : ℕ) → j < spans_from → get_or numbers j 0 ≡ get_or (numbers_with rows) j 0
  spans : (e : ℕ) → stored_span numbers e ≡ span_before ss e

module _ (rows : List Row) (range : ℕ → Option Range) (interval : ℕ → Interval) (fits : length rows ≤ row_bound)
    (sound : All (λ r. ends_of (range r.source) ≡ (interval r.source).low ∷ (interval r.source).high ∷ []) rows) {numbers : List ℕ} {ss : List Span} (has : HasRows rows numbers ss) where
  abbrev entry : Row → Entry
  entry r = entry_for ss r (interval r.source)

  abbrev ends : List ℤ
  ends = ends_with range rows

  abbrev no_ends : List ℤ
  no_ends = replicate 8256 (pos 0)

  ends_fit : length (ends_up_to range (numbers_with rows) (length rows)) ≤ length no_ends
  ends_fit = omega (arith, length-ends_up_to range (numbers_with rows) (length rows), length-replicate 8256 (pos 0))

  end_at : (i k : ℕ) → i < length rows → k < 2 → get_or ends (i * 2 + k) (pos 0) ≡ get_or ((interval (get_or rows i no_row).source).low ∷ (interval (get_or rows i no_row).source).high ∷ []) k (pos 0)
  end_at i k h l =
      let g = All-get_or _ rows sound i no_row h in
      stored_in no_ends (ends_up_to range (numbers_with rows) (length rows)) (pos 0) ends_fit (i * 2 + k) (omega (arith, length-ends_up_to range (numbers_with rows) (length rows)))
      ∙ ends_at range (numbers_with rows) (length rows) i k h l ∙ ap (λ j. get_or (ends_of (range j)) k (pos 0)) (number_at rows fits i 6 h (omega arith)) ∙ ap (λ x. get_or x k (pos 0)) g

  end_out : (j : ℕ) → length rows * 2 ≤ j → get_or ends j (pos 0) ≡ pos 0
  end_out j h = stored_out no_ends (ends_up_to range (numbers_with rows) (length rows)) (pos 0) ends_fit j (omega (arith, length-ends_up_to range (numbers_with rows) (length rows))) ∙ zeros-at 8256 j (pos 0)

  -- The row that is read.
  row_within : (i : ℕ) → i < length rows → row_in numbers i ≡ get_or rows i no_row
  row_within i h =
      let e : i * 7 ≡ i * 7 + 0 = omega arith in
      let field : (k : ℕ) → k < 7 → get_or numbers (i * 7 + k) 0 ≡ get_or (numbers_of (get_or rows i no_row)) k 0 = λ k l. has.same (i * 7 + k) (omega arith) ∙ number_at rows fits i k h l in
      λ j. record {
        kind = (ap (λ m. get_or numbers m 0) e ∙ field 0 (omega arith)) j;
        relation = field 1 (omega arith) j;
        left = field 2 (omega arith) j;
        left_added = field 3 (omega arith) j;
        right = field 4 (omega arith) j;
        right_added = field 5 (omega arith) j;
        source = field 6 (omega arith) j;
      }

  row_out : (i : ℕ) → i < row_bound → length rows ≤ i → row_in numbers i ≡ no_row
  row_out i l h =
      let field : (m : ℕ) → m < spans_from → length rows * 7 ≤ m → get_or numbers m 0 ≡ 0 = λ m b k. has.same m b ∙ number_out rows fits m k in
      λ j. record {
        kind = field (i * 7) (omega arith) (omega arith) j;
        relation = field (i * 7 + 1) (omega arith) (omega arith) j;
        left = field (i * 7 + 2) (omega arith) (omega arith) j;
        left_added = field (i * 7 + 3) (omega arith) (omega arith) j;
        right = field (i * 7 + 4) (omega arith) (omega arith) j;
        right_added = field (i * 7 + 5) (omega arith) (omega arith) j;
        source = field (i * 7 + 6) (omega arith) (omega arith) j;
      }

  entry_in : (i : ℕ) → i < length rows → stored_entry numbers ends i ≡ entry (get_or rows i no_row)
  entry_in i h =
      let f : i * 2 ≡ i * 2 + 0 = omega arith in
      let low = ap (λ j. get_or ends j (pos 0)) f ∙ end_at i 0 h (omega arith) in
      let high = end_at i 1 h (omega arith) in
      sym (entry-within numbers ends i (omega arith)) ∙ (λ j. entry_with (λ e. has.spans e j) (row_within i h j) (low j) (high j))

  entry_out : (i : ℕ) → length rows ≤ i → stored_entry numbers ends i ≡ blank
  entry_out i h = by (dec_lt i row_bound)
    where
      by : Dec (i < row_bound) → stored_entry numbers ends i ≡ blank
      by (yes l) =
          let low = end_out (i * 2) (omega arith) in
          let high = end_out (i * 2 + 1) (omega arith) in
          sym (entry-within numbers ends i l) ∙ (λ j. entry_with (λ e. has.spans e j) (row_out i l h j) (low j) (high j))
      by (no l) = sym (entry-beyond numbers ends i (omega arith))

  listing : (room : ℕ) → length rows ≤ room → listed (stored_entry numbers ends) room ≡ map entry rows ++ replicate (room - length rows) blank
  listing room h =
      ext_get_or blank (listed (stored_entry numbers ends) room) (map entry rows ++ replicate (room - length rows) blank)
      (length-listed (stored_entry numbers ends) room ∙ omega (arith, length-append (map entry rows) (replicate (room - length rows) blank), length-map rows entry, length-replicate (room - length rows) blank))
      (λ i l. listed_at (stored_entry numbers ends) blank room i (omega (arith, length-listed (stored_entry numbers ends) room)) ∙ by i (dec_lt i (length rows)))
    where
      by : (i : ℕ) → Dec (i < length rows) → stored_entry numbers ends i ≡ get_or (map entry rows ++ replicate (room - length rows) blank) i blank
      by i (yes p) =
          entry_in i p
          ∙ sym (get_or-append (map entry rows) (replicate (room - length rows) blank) blank i (omega (arith, length-map rows entry)) ∙ get_d_map entry rows i no_row blank p)
      by i (no p) =
          let e : i ≡ length (map entry rows) + (i - length rows) = omega (arith, length-map rows entry) in
          entry_out i (omega arith)
          ∙ sym (ap (λ j. get_or (map entry rows ++ replicate (room - length rows) blank) j blank) e ∙ get_or-append-add (map entry rows) (replicate (room - length rows) blank) (i - length rows) blank ∙ zeros-at (room - length rows) (i - length rows) blank)

-- The tables that are made, and a list of blanks.
pub made-listing : (text : List ℕ) (rows : List Row) (range : ℕ → Option Range) (interval : ℕ → Interval) → length rows ≤ row_bound → All (λ r. ends_of (range r.source) ≡ (interval r.source).low ∷ (interval r.source).high ∷ []) rows → length (spans_in text) ≤ span_bound
    → (room : ℕ) → length rows ≤ room → listed (stored_entry (with_spans (numbers_with rows) (span_table text)) (ends_with range rows)) room ≡ map (λ r. entry_for (spans_in text) r (interval r.source)) rows ++ replicate (room - length rows) blank
made-listing text rows range interval fits sound few room h =
    let long = numbers-long rows fits in
    listing rows range interval fits sound (record { same = number-kept (numbers_with rows) text long few; spans = span-stored (numbers_with rows) text long few }) room h

pub blanks : (t : List ℕ) (u : List ℤ) (room : ℕ) → t ≡ replicate 30944 0 → u ≡ replicate 8256 (pos 0) → listed (stored_entry t u) room ≡ replicate room blank
unfolding ends_up_to
blanks t u room p q =
    (λ i. listed (stored_entry (p i) (q i)) room)
    ∙ listing [] (λ e. None) (λ e. record { low = pos 0; high = pos 0 }) (omega arith) tt {ss = []} (record { same = λ j h. refl; spans = no_span_stored }) room (omega arith)
    ∙ ap (λ k. replicate k blank) (let e : room - 0 ≡ room = omega arith in e)
