-- What the filled list says about the solutions of the sheet: streams solve what text and entries say, each entry judged by its kind, exactly if they
-- solve the normal form. So where a call gives no refusal, every solution of the sheet extends in exactly one way to a solution of the list, and each
-- solution of the list, cut back, solves the sheet. From the normal form's laws (meaning), what the records say (Saying), the ranges that they give
-- (Ranges) and their kinds (RowKinds).
use Prim.Native.Nat.{ℕ, ◌+◌, ◌-◌, ◌≤◌, ◌<◌}
use native.Mathlib.Omega.{arith}
use native.Mathlib.Decide.{dec_lt}
use mathlib.Core.Path.{◌≡◌, refl, sym, subst}
use mathlib.Core.List.{List, [], ◌∷◌, map}
use mathlib.Core.Logic.{inl, inr, ◌↔◌}
use lib.ListN.{length, take, replicate}
use lib.Seq.{take_at}
use Rattle.basics.specs.Lists.{All, Some}
use Rattle.basics.proofs.Lists.{All-append, All-member, All-mapped, All-unmapped, member-All}
use Rattle.meaning.specs.Value.{Value, absent, number, Streams, ValueStreams}
use Rattle.meaning.specs.Arithmetic.{Interval, NumberWithin, AnyWithin}
use Rattle.meaning.specs.Expression.{Constraint, Sheet, range_of, MeetsFrom, Solution}
use Rattle.meaning.specs.NormalForm.{all_rewritten, all_entries, normal_form, MeetsEntry, NormalSolution, CutsBack}
use Rattle.meaning.specs.Scope.{AgreeBelow, NamesKnown}
use Rattle.meaning.proofs.NormalForm.{range-kept, cut-back, extends_uniquely}
use Rattle.meaning.proofs.NormalForm.Names.{streams-length}
use Rattle.sheet.specs.Refusal.{sheet, AnswerTo}
use Rattle.sheet.proofs.Accepted.{accepted_facts}
use Rattle.outcome.specs.NormalForm.{NormalAnswer, NormalOutcome, unread, too_short, given, entry_count}
use Rattle.outcome.proofs.AcceptedCompile.{refusal-positive}
use Rattle.spans.specs.Postfix.{node_expressions}
use Rattle.normal_entries.specs.Entries.{blank}
use Rattle.normal_entries.specs.Row.{Row}
use Rattle.normal.specs.Rows.{rewriting_lines, own_rows, added_rows}
use Rattle.normal.specs.Encoded.{normal_rows, entry_record, normal_entries}
use Rattle.normal.specs.Says.{EntrySays, EachSays, LeftStands}
use Rattle.normal.specs.Solved.{range_in, ListEntryMet, ListSolution, ExtendsTo}
use Rattle.normal_entries.specs.declared.Entry.{Entry}
use Rattle.normal.proofs.Places.{stand_self}
use Rattle.normal.proofs.Decoding.{decoded, own_say, added_say, encoded_length}
use Rattle.normal.proofs.Saying.{rows_say, entries_say, says_unique, each-says_unique}
use Rattle.normal.proofs.Standing.{lefts_stand}
use Rattle.normal.proofs.RowKinds.{IsLine, IsAdded, own-lines, adds-added}
use Rattle.normal.proofs.Ranges.{NamedBy, HasRange, LeftBelow, streams-named, entries-ranged, entries_below}

meet : (P Q R : Entry → Type 0) {X : Type 0} → ((e : Entry) → P e → Q e → R e → X) → (es : List Entry) → All P es → All Q es → Some R es → X
meet P Q R f [] p q r = absurd r
meet P Q R f (e ∷ es) p q (inl r) = f e p.0 q.0 r
meet P Q R f (e ∷ es) p q (inr r) = meet P Q R f es p.1 q.1 r

-- A number in an interval is a value in it.
number_any : (I : Interval) (x : Value) → NumberWithin I x → AnyWithin I x
number_any I absent h = tt
number_any I (number z) h = h

-- ---- the solutions of the entries are those of the normal form

module _ {text : List ℕ} {s : Sheet} (answer : AnswerTo text (sheet s)) (v : ValueStreams) where
  abbrev N : Sheet
  N = normal_form s

  abbrev n : ℕ
  n = length s.streams

  abbrev entry_of : Row → Entry
  entry_of = entry_record text s

  abbrev own : List Row
  own = own_rows n (rewriting_lines 0 s.constraints)

  abbrev adds : List Row
  adds = added_rows n (rewriting_lines 0 s.constraints)

  -- The row's record says the row's constraint.
  abbrev Told : Row → Type 0
  Told r = EntrySays text (entry_of r) (decoded s r)

  told : All Told own × All Told adds
  told = (All-append Told own adds).0 (rows_say answer)

  -- The rewritten constraints, and the added entries, are those of the rows.
  own_are : map (decoded s) own ≡ all_rewritten n s.constraints
  own_are = own_say s 0 n s.constraints (stand_self (node_expressions s.constraints))

  adds_are : map (decoded s) adds ≡ all_entries n s.constraints
  adds_are = added_say s 0 n s.constraints (stand_self (node_expressions s.constraints))

  abbrev RowMet : Row → Type 0
  RowMet r = ListEntryMet text v (entry_of r)

  -- The stream that an entry names has a value in its range.
  abbrev RangedBy : Entry → Type 0
  RangedBy e = 2 ≤ e.kind → (i : ℕ) → AnyWithin (range_in e) (v e.left i)

  -- ---- from the entries to the normal form

  module _ (h : ListSolution text s (normal_entries text s) v) where
    rows-met : All RowMet own × All RowMet adds
    rows-met = (All-append RowMet own adds).0 (All-unmapped (ListEntryMet text v) entry_of (normal_rows s) h.met)

    lines-met : All (MeetsFrom v) (all_rewritten n s.constraints)
    lines-met =
        subst (All (MeetsFrom v)) own_are (All-mapped (MeetsFrom v) (decoded s) (λ r m. m) own
        (member-All (λ r. MeetsFrom v (decoded s r)) own
        (λ r m. (All-member RowMet rows-met.0 m).line (All-member IsLine (own-lines 0 n s.constraints) m) (decoded s r) (All-member Told told.0 m))))

    entries-met : All (MeetsEntry v) (all_entries n s.constraints)
    entries-met =
        subst (All (MeetsEntry v)) adds_are (All-mapped (MeetsEntry v) (decoded s) (λ r m. m) adds
        (member-All (λ r. MeetsEntry v (decoded s r)) adds
        (λ r m. (All-member RowMet rows-met.1 m).entry (All-member IsAdded (adds-added 0 n s.constraints) m) (decoded s r) (All-member Told told.1 m))))

    in_range : (k i : ℕ) → k < length N.streams → AnyWithin (range_of N.streams k) (v k i)
    in_range k i l = by (dec_lt k n)
      where
        by : Dec (k < n) → AnyWithin (range_of N.streams k) (v k i)
        by (yes q) = subst (λ I. AnyWithin I (v k i)) (sym (range-kept s k q)) (number_any (range_of s.streams k) (v k i) (h.numbered k i q))
        by (no q) =
            meet (ListEntryMet text v) (HasRange s) (NamedBy k)
            (λ e met has named. subst (λ j. AnyWithin (range_of N.streams j) (v j i)) named.left (subst (λ I. AnyWithin I (v e.left i)) (has named.kind) (met.ranged named.kind i)))
            (normal_entries text s) h.met (entries-ranged text s) (streams-named text s k (omega arith) l)

    to_normal : NormalSolution s v
    to_normal =
        record {
          numbered = h.numbered;
          ranged = in_range;
          lines = λ c m. All-member (MeetsFrom v) lines-met m;
          entries = λ c m. All-member (MeetsEntry v) entries-met m;
        }

  -- ---- from the normal form to the entries

  module _ (h : NormalSolution s v) where
    all-ranged : All RangedBy (normal_entries text s)
    all-ranged =
        member-All RangedBy (normal_entries text s)
        (λ e m k i. subst (λ I. AnyWithin I (v e.left i)) (sym (All-member (HasRange s) (entries-ranged text s) m k)) (h.ranged e.left i (All-member (LeftBelow s) (entries_below text s) m k)))

    ranged : All (λ r. RangedBy (entry_of r)) own × All (λ r. RangedBy (entry_of r)) adds
    ranged = (All-append (λ r. RangedBy (entry_of r)) own adds).0 (All-unmapped RangedBy entry_of (normal_rows s) all-ranged)

    own-met : All (λ r. MeetsFrom v (decoded s r)) own
    own-met = All-unmapped (MeetsFrom v) (decoded s) own (subst (All (MeetsFrom v)) (sym own_are) (member-All (MeetsFrom v) _ h.lines))

    adds-met : All (λ r. MeetsEntry v (decoded s r)) adds
    adds-met = All-unmapped (MeetsEntry v) (decoded s) adds (subst (All (MeetsEntry v)) (sym adds_are) (member-All (MeetsEntry v) _ h.entries))

    line-met : (r : Row) → IsLine r → Told r → RangedBy (entry_of r) → MeetsFrom v (decoded s r) → RowMet r
    line-met r kind tells range met =
        record { ranged = range; line = λ k c says. subst (MeetsFrom v) (says_unique tells says) met; entry = λ k. absurd (omega arith) }

    entry-met : (r : Row) → IsAdded r → Told r → RangedBy (entry_of r) → MeetsEntry v (decoded s r) → RowMet r
    entry-met r kind tells range met =
        record { ranged = range; line = λ k. absurd (omega arith); entry = λ k c says. subst (MeetsEntry v) (says_unique tells says) met }

    from_normal : ListSolution text s (normal_entries text s) v
    from_normal =
        let lines = member-All RowMet own (λ r m. line-met r (All-member IsLine (own-lines 0 n s.constraints) m) (All-member Told told.0 m) (All-member (λ r. RangedBy (entry_of r)) ranged.0 m) (All-member (λ r. MeetsFrom v (decoded s r)) own-met m)) in
        let entries = member-All RowMet adds (λ r m. entry-met r (All-member IsAdded (adds-added 0 n s.constraints) m) (All-member Told told.1 m) (All-member (λ r. RangedBy (entry_of r)) ranged.1 m) (All-member (λ r. MeetsEntry v (decoded s r)) adds-met m)) in
        record {
          numbered = h.numbered;
          met = All-mapped (ListEntryMet text v) entry_of (λ r m. m) (normal_rows s) ((All-append RowMet own adds).1 (lines, entries));
        }

-- Streams solve what text and entries say exactly if they solve the normal form.
pub list-solution : {text : List ℕ} {s : Sheet} → AnswerTo text (sheet s) → (v : ValueStreams) → ListSolution text s (normal_entries text s) v ↔ NormalSolution s v
list-solution answer v = (to_normal answer v, from_normal answer v)

-- ---- the filled list

-- What a call without refusal leaves in the list.
pub record GivenForm (text : List ℕ) (a : NormalAnswer) (list : List Entry) : Type 0 where
  pub source : Sheet
  pub read : AnswerTo text (sheet source)
  pub entries : take a.entries list ≡ normal_entries text source
  pub says : EachSays text (take a.entries list) (normal_form source).constraints
  pub stands : All (LeftStands text source) (take a.entries list)
  pub determined : (cs : List Constraint) → EachSays text (take a.entries list) cs → cs ≡ (normal_form source).constraints
  pub added : a.added ≡ length (normal_form source).streams - length source.streams
  pub extends : {w : Streams} → Solution source w → ExtendsTo text source (take a.entries list) a.added w
  pub cuts_back : {v : ValueStreams} → ListSolution text source (take a.entries list) v → CutsBack source v

module _ {text : List ℕ} (s : Sheet) (r : AnswerTo text (sheet s)) where
  known : NamesKnown s
  known = record { sides = (accepted_facts r).names_known }

  abbrev added_count : ℕ
  added_count = length (normal_form s).streams - length s.streams

  entries_extend : {w : Streams} → Solution s w → ExtendsTo text s (normal_entries text s) added_count w
  entries_extend h =
      let u = extends_uniquely s known h in
      let total : length (normal_form s).streams ≡ length s.streams + added_count = omega (arith, streams-length s) in
      record {
        extension = u.extension;
        agrees = u.agrees;
        solves = (list-solution r u.extension).1 u.solves;
        only = λ v a k. subst (λ m. AgreeBelow m v u.extension) total (u.only v a ((list-solution r v).0 k));
      }

  entries_cut : {v : ValueStreams} → ListSolution text s (normal_entries text s) v → CutsBack s v
  entries_cut {v} h = cut-back s known ((list-solution r v).0 h)

-- Where a call gives no refusal, the list holds the entries of the sheet's normal form, text and list say its constraints and nothing else, each left
-- span is the text of what its stream stands for, and what text and list say has the sheet's solutions.
pub list-given : {text : List ℕ} {room : ℕ} {a : NormalAnswer} {list : List Entry} → NormalOutcome blank (normal_entries text) text room a list → a.refusal ≡ 0 → GivenForm text a list
list-given (unread r) e = absurd (omega (arith, refusal-positive r))
list-given (too_short r h) e = absurd (omega arith)
list-given {text} {room} (given {s = s} r h) e =
    let count = entry_count s in
    let is = take_at (normal_entries text s) (replicate (room - count) blank) count (encoded_length text s) in
    record {
      source = s;
      read = r;
      entries = is;
      says = subst (λ l. EachSays text l (normal_form s).constraints) (sym is) (entries_say r);
      stands = subst (All (LeftStands text s)) (sym is) (lefts_stand r);
      determined = λ cs h. each-says_unique h (subst (λ l. EachSays text l (normal_form s).constraints) (sym is) (entries_say r));
      added = refl;
      extends = λ {w} k. subst (λ l. ExtendsTo text s l (added_count s r) w) (sym is) (entries_extend s r k);
      cuts_back = λ {v} k. entries_cut s r (subst (λ l. ListSolution text s l v) is k);
    }
