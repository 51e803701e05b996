-- The entries that stand in tables of numbers: seven for each row, behind those of all rows two for the span of each node, and two for each range.
use Rattle.std.specs.Prelude.{ℕ, zero, suc, ◌+◌, ◌*◌, cond, List, [], ◌∷◌, ◌++◌, ltb, ℤ, pos, get_or, replicate}
use Rattle.std.proofs.lemmas.List.Edits.{sets}
use Rattle.scan.specs.declared.Span.{Span}
use Rattle.spans.specs.Token.{span}
use Rattle.spans.specs.Stored.{span_bound}
use Rattle.normal_entries.specs.Row.{Row}
use Rattle.normal_entries.specs.Fields.{entry_with}
use Rattle.normal_entries.specs.declared.Entry.{Entry}
use Rattle.normal_entries.specs.declared.Made.{Made}

-- A bound that no sheet's rows exceed, 32 + 4 · 1,024. It is not the largest number that a sheet has.
abbrev pub row_bound : ℕ
row_bound = 4128

-- The first n of what f gives.
unfoldable pub listed : {X : Type 0} → (ℕ → X) → ℕ → List X
listed f zero = []
listed f (suc n) = listed f n ++ (f n ∷ [])

-- ---- spans

-- The spans stand behind the numbers of all rows.
abbrev pub spans_from : ℕ
spans_from = 28896

unfoldable pub with_spans : List ℕ → List ℕ → List ℕ
with_spans numbers spans = sets numbers spans_from (listed (λ k. get_or spans k 0) 2048)

-- ---- entries

abbrev pub blank : Entry
blank =
    record {
      kind = 0;
      relation = 0;
      stream_kind = 0;
      replaces = 0;
      left = 0;
      left_added = 0;
      left_begin = 0;
      left_end = 0;
      right = 0;
      right_added = 0;
      right_begin = 0;
      right_end = 0;
      low = pos 0;
      high = pos 0;
    }

-- The row with the number i.
abbrev pub row_in : List ℕ → ℕ → Row
row_in numbers i =
    record {
      kind = get_or numbers (i * 7) 0;
      relation = get_or numbers (i * 7 + 1) 0;
      left = get_or numbers (i * 7 + 2) 0;
      left_added = get_or numbers (i * 7 + 3) 0;
      right = get_or numbers (i * 7 + 4) 0;
      right_added = get_or numbers (i * 7 + 5) 0;
      source = get_or numbers (i * 7 + 6) 0;
    }

-- A place of the stored span of the node that stands before a place among the nodes: the first for 0, the second for 1.
unfoldable pub stored_place : List ℕ → ℕ → ℕ → ℕ
stored_place numbers which zero = 0
stored_place numbers which (suc node) = cond (ltb node span_bound) (get_or numbers (spans_from + node * 2 + which) 0) 0

abbrev pub stored_span : List ℕ → ℕ → Span
stored_span numbers e = span (stored_place numbers 0 e) (stored_place numbers 1 e)

-- The entry with the number i.
unfoldable pub stored_entry : List ℕ → List ℤ → ℕ → Entry
stored_entry numbers ends i = cond (ltb i row_bound) (entry_with (stored_span numbers) (row_in numbers i) (get_or ends (i * 2) (pos 0)) (get_or ends (i * 2 + 1) (pos 0))) blank

-- A refusal, with tables of zeros.
abbrev pub refused_made : ℕ → Made
refused_made n = record { answer = record { refusal = n; entries = 0; added = 0 }; numbers = replicate 30944 0; ends = replicate 8256 (pos 0) }
