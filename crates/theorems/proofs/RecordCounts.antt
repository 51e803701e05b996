-- The records that document 02 counts (S-13) are as many as the records that can be followed along the used rows of a compiled table: those of the letters given
-- that begin a solution, and those of them that end in a final state. So the figures of a table are those of the definitions, each the length of a list without
-- repeats; there is one record of no letters, and with one letter more the figure does not fall. From the records of a table (counting), its paths (Demands and
-- Following) and the letters of their numbers (meaning).
use Prim.Native.Nat.{ℕ, zero, suc, ◌*◌, ◌≤◌}
use native.Mathlib.Omega.{arith}
use native.Mathlib.Decide.{dec_le}
use mathlib.Core.Path.{◌≡◌, refl, sym, ◌∙◌, ap, ap₂, subst}
use mathlib.Core.Logic.{◌↔◌, inl, inr}
use mathlib.Core.List.Memᴰ
use mathlib.Core.List.{List, [], ◌∷◌, ◌++◌, map, Memᴰ}
use lib.Dec.{T, eqb→eq}
use lib.ListN.{length, length-map}
use lib.Seq.{length-take-le}
use borrow.Author.Tests.{eq-eqb}
use Rattle.basics.specs.Count.{NoRepeats, CountOf, MoreThan}
use Rattle.basics.proofs.Count.{list_pigeonhole, count_unique, more_iff}
use Rattle.basics.proofs.Tests.{T-of_true}
use Rattle.automaton.specs.Words.{Word, append, prefix, InRange, AllBelow}
use Rattle.automaton.specs.Solutions.{Begins, Continuation}
use Rattle.automaton.specs.Table.{walk, PathFrom, IsPath, Completes, IsFlag, IsTable}
use Rattle.automaton.specs.Stored.{entry_at, final_at, StoredTable}
use Rattle.automaton.proofs.Words.{all-below-prefix}
use Rattle.automaton.proofs.Paths.{path↔begins, begins-state, follows↔paths}
use Rattle.automaton.proofs.Course.{path-append}
use Rattle.automaton.proofs.WellFormed.{used_table}
use Rattle.meaning.specs.Expression.{Stream, Sheet, Solution}
use Rattle.meaning.specs.Letter.{Letter, Record, IsLetter, OfLetters, letter_count, letter_number, letter_of, record_of, SolutionWord}
use Rattle.meaning.proofs.Letter.{letter_of-letter, letter_number-letter_of, letter_of-letter_number}
use Rattle.outcome.specs.Compile.{CompileAnswer, Room, Tables, CompileCall}
use Rattle.sheet.proofs.Accepted.{accepted_facts}
use Rattle.counting.specs.Counting.{any_state, has_final_byte, FollowedRecord, FinalRecord}
use Rattle.counting.specs.Figures.{record_count_from, figure_of, final_figure_of}
use Rattle.counting.proofs.Counting.{record_begins, begins_record, counts_rise}
use Rattle.counting.proofs.Figures.{figure-counts, final-figure-counts}
use Rattle.theorems.specs.UsedRows.{used_entries, used_finals}
use Rattle.theorems.specs.Following.{BeginsSolution}
use Rattle.theorems.specs.RecordCounts.{IsCountedRecord, EndsFinal, IsCountedFinal}
use Rattle.theorems.proofs.Following.{all-below, path↔begins_solution}
use Rattle.theorems.proofs.Demands.{ReadAs, table-stored}

-- ---- one thing for another

module _ {X Y : Type 0} {P : X → Type 0} {Q : Y → Type 0} (to : X → Y) (from : Y → X) (there : (x : X) → P x → Q (to x)) (back : (y : Y) → Q y → P (from y))
    (same : (x : X) → P x → from (to x) ≡ x) (again : (y : Y) → Q y → to (from y) ≡ y) where
  mapped : {x : X} {xs : List X} → Memᴰ x xs → Memᴰ (to x) (map to xs)
  mapped (Memᴰ.head e) = Memᴰ.head (ap to e)
  mapped (Memᴰ.tail m) = Memᴰ.tail (mapped m)

  unmapped : (xs : List X) (y : Y) → Memᴰ y (map to xs) → (x : X) × Memᴰ x xs × (y ≡ to x)
  unmapped [] y m = absurd (Memᴰ.not-nil m)
  unmapped (z ∷ xs) y (Memᴰ.head e) = (z, Memᴰ.head refl, e)
  unmapped (z ∷ xs) y (Memᴰ.tail m) = let o = unmapped xs y m in (o.0, Memᴰ.tail o.1, o.2)

  no_repeats_mapped : (xs : List X) → ((x : X) → Memᴰ x xs → P x) → NoRepeats xs → NoRepeats (map to xs)
  no_repeats_mapped [] found d = tt
  no_repeats_mapped (x ∷ xs) found d = (
    λ m.
        let o = unmapped xs (to x) m in
        let e : x ≡ o.0 = sym (same x (found x (Memᴰ.head refl))) ∙ ap from o.2 ∙ same o.0 (found o.0 (Memᴰ.tail o.1)) in
        d.0 (subst (λ z. Memᴰ z xs) (sym e) o.1),
    no_repeats_mapped xs (λ z m. found z (Memᴰ.tail m)) d.1,
  )

  -- Things that stand for each other are as many.
  pub count-moved : {m : ℕ} → CountOf P m → CountOf Q m
  count-moved c =
      record {
        list = map to c.list;
        distinct = no_repeats_mapped c.list c.found c.distinct;
        found = λ y m. let o = unmapped c.list y m in subst Q (sym o.2) (there o.0 (c.found o.0 o.1));
        every = λ y q. subst (λ z. Memᴰ z (map to c.list)) (again y q) (mapped (c.every (from y) (back y q)));
        count = length-map c.list to ∙ c.count;
      }

-- ---- records by their letters' numbers

module _ (ss : List Stream) where
  abbrev numbers : Record → List ℕ
  numbers r = map (letter_number ss) r

  numbers_record : (x : List ℕ) → AllBelow (letter_count ss) x → numbers (record_of ss x) ≡ x
  numbers_record [] b = refl
  numbers_record (a ∷ x) b = ap₂ ◌∷◌ (letter_number-letter_of ss a b.0) (numbers_record x b.1)

  record_numbers : (r : Record) → OfLetters ss r → record_of ss (numbers r) ≡ r
  record_numbers [] h = refl
  record_numbers (l ∷ r) h = ap₂ ◌∷◌ (letter_of-letter_number (h l (Memᴰ.head refl))) (record_numbers r (λ m p. h m (Memᴰ.tail p)))

  of-letters : (x : List ℕ) → AllBelow (letter_count ss) x → OfLetters ss (record_of ss x)
  of-letters [] b l m = absurd (Memᴰ.not-nil m)
  of-letters (a ∷ x) b l (Memᴰ.head e) = subst (IsLetter ss) (sym e) (letter_of-letter ss a b.0)
  of-letters (a ∷ x) b l (Memᴰ.tail m) = of-letters x b.1 l m

  of-append : (r q : Record) → OfLetters ss r → OfLetters ss q → OfLetters ss (r ++ q)
  of-append [] q h g l m = g l m
  of-append (x ∷ r) q h g l (Memᴰ.head e) = h l (Memᴰ.head e)
  of-append (x ∷ r) q h g l (Memᴰ.tail m) = of-append r q (λ y p. h y (Memᴰ.tail p)) g l m

  numbers-append : (r : Record) (x : List ℕ) → AllBelow (letter_count ss) x → numbers (r ++ record_of ss x) ≡ numbers r ++ x
  numbers-append [] x b = numbers_record x b
  numbers-append (l ∷ r) x b = ap (letter_number ss l ∷◌) (numbers-append r x b)

-- ---- what a final state says of a record

module _ (entry : ℕ → ℕ → ℕ) where
  path-behind : (r q : List ℕ) (i : ℕ) → PathFrom entry i (r ++ q) → PathFrom entry (walk entry i r) q
  path-behind [] q i p = p
  path-behind (a ∷ r) q i p = path-behind r q (entry i a) p.1

module _ {Sol : Word → Type 0} {k n : ℕ} {entry : ℕ → ℕ → ℕ} {final : ℕ → ℕ} (A : IsTable Sol k n entry final) (r : List ℕ) (h : AllBelow k r) (g : Begins Sol k r) where
  -- Each endless way on, all of whose parts are paths behind the record, completes a solution.
  abbrev CompletesBehind : Type 0
  CompletesBehind = (w : Word) → InRange k w → ((t : ℕ) → IsPath entry (r ++ prefix w t)) → Sol (append r w)

  final-completes : (final (walk entry 0 r) ≡ 1) ↔ CompletesBehind
  final-completes = (to, from)
    where
      to : final (walk entry 0 r) ≡ 1 → CompletesBehind
      to e w b p =
          let state = begins-state A r h g in
          let follows = (follows↔paths A (walk entry 0 r) w state.0 b).1 (λ t. path-behind entry r (prefix w t) 0 (p t)) in
          (state.1.from w b (by (A.finals (walk entry 0 r) state.0) w b follows)).solves
        where
          by : IsFlag (Completes Sol k n entry (A.representative (walk entry 0 r)) (walk entry 0 r)) (final (walk entry 0 r))
              → Completes Sol k n entry (A.representative (walk entry 0 r)) (walk entry 0 r)
          by (inl x) = x.1
          by (inr x) = absurd (omega (arith, x.0))

      from : CompletesBehind → final (walk entry 0 r) ≡ 1
      from c = by (A.finals (walk entry 0 r) (begins-state A r h g).0)
        where
          by : IsFlag (Completes Sol k n entry (A.representative (walk entry 0 r)) (walk entry 0 r)) (final (walk entry 0 r)) → final (walk entry 0 r) ≡ 1
          by (inl x) = x.0
          by (inr x) =
              absurd (x.1 (λ w b f.
              let state = begins-state A r h g in
              let path = (path↔begins A r h).1 g in
              state.1.to w b (record { solves = c w b (λ t. path-append entry 0 r (prefix w t) path ((follows↔paths A (walk entry 0 r) w state.0 b).0 f t)) })))

-- Those that end in a final state are no more than all.
pub finals-fewer : {s : Sheet} {n x y : ℕ} → CountOf (IsCountedFinal s n) x → CountOf (IsCountedRecord s n) y → x ≤ y
finals-fewer c d = omega (arith, list_pigeonhole c.list d.list c.distinct (λ r m. d.every r (c.found r m).counted), c.count, d.count)

-- ---- the records of a compiled sheet

module _ {text : List ℕ} {room : Room} {a : CompileAnswer} {t : Tables} (call : CompileCall text room a t) {s : Sheet} (read : ReadAs text s) (accepted : a.refusal ≡ 0) where
  abbrev ss : List Stream
  ss = s.streams

  abbrev k : ℕ
  k = letter_count ss

  abbrev entries : List ℕ
  entries = used_entries s a t

  abbrev finals : List ℕ
  finals = used_finals a t

  states_are : length finals ≡ a.states
  states_are = length-take-le a.states t.finals (table-stored call read accepted).finals_fit

  used : IsTable (SolutionWord s) k (length finals) (entry_at k entries) (final_at finals)
  used = subst (λ n. IsTable (SolutionWord s) k n (entry_at k entries) (final_at finals)) (sym states_are) (used_table (table-stored call read accepted))

  stored : StoredTable (SolutionWord s) k (length finals) entries finals
  stored =
      record {
        entries_fit = omega (arith, length-take-le (a.states * k) t.entries (table-stored call read accepted).entries_fit, ap (λ n. n * k) states_are);
        finals_fit = omega arith;
        table = used;
      }

  -- A record is a path exactly if it begins a solution.
  begins↔path : (r : Record) → OfLetters ss r → IsPath (entry_at k entries) (numbers ss r) ↔ BeginsSolution s r
  begins↔path r h = path↔begins_solution s (record { sides = (accepted_facts read).names_known }) stored r h

  begun : (r : Record) → OfLetters ss r → BeginsSolution s r → Begins (SolutionWord s) k (numbers ss r)
  begun r h g = (path↔begins used (numbers ss r) (all-below r h)).0 ((begins↔path r h).1 g)

  record_counted : (m : ℕ) (x : List ℕ) → FollowedRecord k entries finals m x → IsCountedRecord s m (record_of ss x)
  record_counted m x h =
      let of = of-letters ss x h.letters in
      record {
        letters = of;
        long = length-map x (letter_of ss) ∙ h.long;
        begins = (begins↔path (record_of ss x) of).0 (subst (IsPath (entry_at k entries)) (sym (numbers_record ss x h.letters)) ((path↔begins used x h.letters).1 (record_begins used h)));
      }

  counted-followed : (m : ℕ) (r : Record) → IsCountedRecord s m r → FollowedRecord k entries finals m (numbers ss r)
  counted-followed m r h = begins_record used any_state (numbers ss r) (all-below r h.letters) (begun r h.letters h.begins) tt (length-map r (letter_number ss) ∙ h.long)

  -- "The figure must be that of the definitions": as many records of m letters begin a solution as can be followed along the used rows.
  pub counted-records : (m : ℕ) {x : ℕ} → CountOf (FollowedRecord k entries finals m) x → CountOf (IsCountedRecord s m) x
  counted-records m =
      count-moved (record_of ss) (numbers ss) (record_counted m) (counted-followed m) (λ x p. numbers_record ss x p.letters) (λ r q. record_numbers ss r q.letters)

  -- Their number is the sum that the code comes to.
  pub sheet-figure : (m : ℕ) → CountOf (IsCountedRecord s m) (figure_of k entries finals m)
  sheet-figure m = counted-records m (figure-counts k entries finals m)

  -- There are more than so many of the ones exactly if there are of the others.
  pub more-records : (m bound : ℕ) → MoreThan (IsCountedRecord s m) bound ↔ MoreThan (FollowedRecord k entries finals m) bound
  more-records m bound = (
    λ x. (more_iff (figure-counts k entries finals m) bound).1 ((more_iff (sheet-figure m) bound).0 x),
    λ x. (more_iff (sheet-figure m) bound).1 ((more_iff (figure-counts k entries finals m) bound).0 x),
  )

  -- ---- those that end in a final state

  -- A final byte of 1 at the end of a record says that it ends in a final state.
  ends-final : (r : Record) → OfLetters ss r → BeginsSolution s r → T (has_final_byte finals (walk (entry_at k entries) 0 (numbers ss r))) ↔ EndsFinal s r
  ends-final r h g = (to, from)
    where
      joined : (w : Word) → InRange k w → (m : ℕ) → OfLetters ss (r ++ record_of ss (prefix w m))
      joined w b m l p = of-append ss r (record_of ss (prefix w m)) h (of-letters ss (prefix w m) (all-below-prefix m w b)) l p

      to : T (has_final_byte finals (walk (entry_at k entries) 0 (numbers ss r))) → EndsFinal s r
      to e =
          record {
            completes = λ w b p.
                ((final-completes used (numbers ss r) (all-below r h) (begun r h g)).0 (eqb→eq (final_at finals (walk (entry_at k entries) 0 (numbers ss r))) 1 e) w b
                (λ m. subst (IsPath (entry_at k entries)) (numbers-append ss r (prefix w m) (all-below-prefix m w b)) ((begins↔path (r ++ record_of ss (prefix w m)) (joined w b m)).1 (p m)))).solves;
          }

      from : EndsFinal s r → T (has_final_byte finals (walk (entry_at k entries) 0 (numbers ss r)))
      from f =
          let one = (final-completes used (numbers ss r) (all-below r h) (begun r h g)).1 (λ w b p.
          record { solves = f.completes w b (λ m. (begins↔path (r ++ record_of ss (prefix w m)) (joined w b m)).0 (subst (IsPath (entry_at k entries)) (sym (numbers-append ss r (prefix w m) (all-below-prefix m w b))) (p m))) }) in
          T-of_true (has_final_byte finals (walk (entry_at k entries) 0 (numbers ss r))) (eq-eqb (final_at finals (walk (entry_at k entries) 0 (numbers ss r))) 1 one)

  followed_of : (m : ℕ) (x : List ℕ) → FinalRecord k entries finals m x → FollowedRecord k entries finals m x
  followed_of m x h = record { letters = h.letters; stays = h.stays; passes = tt; long = h.long }

  final-counted : (m : ℕ) (x : List ℕ) → FinalRecord k entries finals m x → IsCountedFinal s m (record_of ss x)
  final-counted m x p =
      let q = record_counted m x (followed_of m x p) in
      record {
        counted = q;
        final = (ends-final (record_of ss x) q.letters q.begins).0 (subst (λ y. T (has_final_byte finals (walk (entry_at k entries) 0 y))) (sym (numbers_record ss x p.letters)) p.passes);
      }

  counted-final : (m : ℕ) (r : Record) → IsCountedFinal s m r → FinalRecord k entries finals m (numbers ss r)
  counted-final m r q =
      let h = counted-followed m r q.counted in
      record { letters = h.letters; stays = h.stays; passes = (ends-final r q.counted.letters q.counted.begins).1 q.final; long = h.long }

  -- "and how many of those records end in a final state"
  pub counted-finals : (m : ℕ) {x : ℕ} → CountOf (FinalRecord k entries finals m) x → CountOf (IsCountedFinal s m) x
  counted-finals m =
      count-moved (record_of ss) (numbers ss) (final-counted m) (counted-final m) (λ x p. numbers_record ss x p.letters) (λ r q. record_numbers ss r q.counted.letters)

  pub sheet-final-figure : (m : ℕ) → CountOf (IsCountedFinal s m) (final_figure_of k entries finals m)
  sheet-final-figure m = counted-finals m (final-figure-counts k entries finals m)

  -- ---- laws of the figures

  -- "n = 0 gives 1 for an accepted sheet."
  pub no_letters-one : {x : ℕ} → CountOf (IsCountedRecord s 0) x → x ≡ 1
  unfolding record_count_from
  no_letters-one c = count_unique c (sheet-figure 0)

  -- With one letter more there are no fewer records.
  pub figures_rise : (m : ℕ) {x y : ℕ} → CountOf (IsCountedRecord s m) x → CountOf (IsCountedRecord s (suc m)) y → x ≤ y
  figures_rise m c d = omega (arith, count_unique c (sheet-figure m), count_unique d (sheet-figure (suc m)), counts_rise used m 0 used.some_state)

  -- So the last figure decides whether one is above a bound.
  pub last_decides : (bound m n : ℕ) → m ≤ n → MoreThan (IsCountedRecord s m) bound → MoreThan (IsCountedRecord s n) bound
  last_decides bound m zero h x = let e : m ≡ 0 = omega arith in subst (λ l. MoreThan (IsCountedRecord s l) bound) e x
  last_decides bound m (suc n) h x = by (λ l. last_decides bound m n l x) (dec_le m n)
    where
      by : (m ≤ n → MoreThan (IsCountedRecord s n) bound) → Dec (m ≤ n) → MoreThan (IsCountedRecord s (suc n)) bound
      by again (yes l) = (more_iff (sheet-figure (suc n)) bound).1 (omega (arith, (more_iff (sheet-figure n) bound).0 (again l), figures_rise n (sheet-figure n) (sheet-figure (suc n))))
      by again (no l) = let e : m ≡ suc n = omega arith in subst (λ q. MoreThan (IsCountedRecord s q) bound) e x
