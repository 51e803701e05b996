-- How the line of kinds is read word by word: what the words before its place gave, and one word more. From what is found of a token at a place and
-- of a word's code, and from the laws of stores in padded tables. Streams with other kinds have the same tables.
use Prim.Native.Nat.{ℕ, zero, suc, ◌+◌, ◌-◌, ◌≤◌, ◌<◌}
use mathlib.Core.Path.{◌≡◌, refl, sym, ap, ap₂, ◌∙◌}
use mathlib.Core.Bool.{true, false, cond, ◌||◌}
use mathlib.Core.List.{List, [], ◌∷◌, ◌++◌, map, append-nil}
use mathlib.Core.Option.{Option, some, none}
use native.Mathlib.Omega.{arith}
use lib.Dec.{eqb}
use lib.IntN.{pos}
use lib.ListN.{length, drop, set, replicate, length-append, length-replicate, replicate-append-replicate}
use lib.Seq.{append_snoc}
use borrow.Author.Tests.{eq-eqb, ne_eqb}
use Rattle.text.specs.Bytes.{Token, tokens}
use Rattle.meaning.specs.Expression.{StreamKind, read_kind, set_kind, Stream}
use Rattle.nodes.specs.Code.{stream_kind_code}
use Rattle.sheet.specs.Vocabulary.{stream_kind_tokens, stream_kind_of}
use Rattle.sheet.specs.Form.{stream_kinds_of}
use Rattle.sheet.specs.Parser.{and_then}
use Rattle.sheet.specs.Reading.{any_of, is_range_faulty, kinds_from, kinds_of_streams, with_kinds}
use Rattle.sheet.proofs.Form.{with_kinds-map, with_kinds-kinds}
use Rattle.scan.specs.Place.{between, TokenAt, no_token, a_token}
use Rattle.vocabulary.specs.Word.{code_or255}
use Rattle.scan.specs.declared.Span.{Span}
use Rattle.vocabulary.proofs.Words.{code-none, code-some}
use Rattle.refusals.specs.Places.{said_tokens}
use Rattle.parse.specs.Bounded.{zero_beyond}
use Rattle.header.specs.Streams.{padded, name_bytes, name_lengths, stream_kind_codes, stream_tables, stream_tables_of, streams_read, KindsOutcome, no_kinds, kinds_read}
use Rattle.header.proofs.Streams.{padded-map}

-- ---- nothing is said

set_codes : (n : ℕ) → map stream_kind_code (replicate n set_kind) ≡ replicate n 0
set_codes zero = refl
set_codes (suc n) = ap (λ l. 0 ∷ l) (set_codes n)

zeros-padded : (n : ℕ) → n ≤ 8 → ◌≡◌ {A = List ℕ} (replicate 8 0) (padded 8 0 (replicate n 0))
zeros-padded n h =
    let room : 8 ≡ n + (8 - length (replicate {A = ℕ} n 0)) = let e = length-replicate {A = ℕ} n 0 in omega arith in
    ap (λ m. replicate {A = ℕ} m 0) room ∙ sym (replicate-append-replicate n (8 - length (replicate {A = ℕ} n 0)) 0)

no_tokens : (ts : List Token) → length ts ≡ 0 → ts ≡ []
no_tokens [] e = refl
no_tokens (t ∷ ts) e = absurd (omega arith)

pub kinds-unsaid : {ts : List Token} {total count : ℕ} {table : List ℕ} → total ≡ length ts → total ≡ 0 → count ≤ 8 → table ≡ replicate 8 0 → KindsOutcome ts count true table
kinds-unsaid {ts} {total} {count} e z few same =
    kinds_read (replicate count set_kind) (ap (λ us. kinds_of_streams (said_tokens us) count) (no_tokens ts (sym e ∙ z))) refl (same ∙ zeros-padded count few ∙ ap (padded 8 0) (sym (set_codes count)))

-- ---- some words

some-tokens : (ts : List Token) (count : ℕ) → (length ts ≡ 0 → ⊥) → kinds_of_streams (said_tokens ts) count ≡ cond (eqb (length ts) count) (kinds_from ts) none
some-tokens [] count n = absurd (n refl)
some-tokens (t ∷ ts) count n = refl

pub kinds_uneven : {ts : List Token} {total count : ℕ} {table : List ℕ} → total ≡ length ts → (total ≡ 0 → ⊥) → (total ≡ count → ⊥) → KindsOutcome ts count false table
kinds_uneven {ts} {total} {count} e some-there uneven =
    no_kinds (some-tokens ts count (λ z. some-there (e ∙ z)) ∙ ap (λ b. cond b (kinds_from ts) none) (ne_eqb (length ts) count (λ z. uneven (e ∙ z)))) refl

-- The words before the place are these kinds, which are stored; what the line says is these and what the tokens from the place on say.
pub record KindsSoFar (line : List ℕ) (at stream count : ℕ) (table : List ℕ) : Type 0 where
  pub before : List StreamKind
  pub number : stream ≡ length before
  pub left : stream + length (tokens (drop at line)) ≡ count
  pub same : kinds_from (tokens line) ≡ and_then (kinds_from (tokens (drop at line))) (λ ks. some (before ++ ks))
  pub stored : table ≡ padded 8 0 (map stream_kind_code before)

then_some : {X : Type 0} (o : Option X) → o ≡ and_then o some
then_some none = refl
then_some (some x) = refl

pub kinds-start : (line : List ℕ) {total count : ℕ} {table : List ℕ} → total ≡ length (tokens line) → total ≡ count → table ≡ replicate 8 0 → KindsSoFar line 0 0 count table
kinds-start line e f t = record { before = []; number = refl; left = omega arith; same = then_some (kinds_from (tokens line)); stored = t }

kind-small : (k : StreamKind) → stream_kind_code k < 255
kind-small read_kind = omega arith
kind-small set_kind = omega arith

then_more : (o : Option (List StreamKind)) (before : List StreamKind) (k : StreamKind)
    → and_then (and_then o (λ ks. some (k ∷ ks))) (λ ks. some (before ++ ks)) ≡ and_then o (λ ks. some ((before ++ (k ∷ [])) ++ ks))
then_more none before k = refl
then_more (some ks) before k = ap some (sym (append_snoc before k ks))

module _ {line : List ℕ} {at stream count : ℕ} {table : List ℕ} (K : KindsSoFar line at stream count table) where
  -- All words are read.
  pub kinds-end : {total : ℕ} → total ≡ length (tokens line) → (total ≡ 0 → ⊥) → total ≡ count → count ≤ stream → KindsOutcome (tokens line) count true table
  unfolding kinds_from
  kinds-end {total} e some-there even h =
      let rest : tokens (drop at line) ≡ [] = no_tokens (tokens (drop at line)) (let l = K.left in omega arith) in
      kinds_read K.before
      (some-tokens (tokens line) count (λ z. some-there (e ∙ z))
      ∙ ap (λ b. cond b (kinds_from (tokens line)) none) (eq-eqb (length (tokens line)) count (sym e ∙ even))
      ∙ K.same ∙ ap (λ ts. and_then (kinds_from ts) (λ ks. some (K.before ++ ks))) rest ∙ ap some (append-nil K.before))
      refl
      K.stored

  module _ {r : Span} (found : TokenAt line at r) {code : ℕ} (coded : code ≡ code_or255 stream_kind_code (stream_kind_of (between line r.start r.end))) where
    abbrev word : Token
    word = between line r.start r.end

    abbrev later : List Token
    later = tokens (drop r.end line)

    -- A word there is none of the two.
    pub kinds-other : {total : ℕ} → total ≡ length (tokens line) → (total ≡ 0 → ⊥) → total ≡ count → stream < count → code ≡ 255 → KindsOutcome (tokens line) count false table
    unfolding kinds_from
    kinds-other {total} e some-there even h c =
        no_kinds
        (some-tokens (tokens line) count (λ z. some-there (e ∙ z))
        ∙ ap (λ b. cond b (kinds_from (tokens line)) none) (eq-eqb (length (tokens line)) count (sym e ∙ even))
        ∙ K.same ∙ by found)
        refl
      where
        no_kind : stream_kind_of word ≡ none
        no_kind = code-none stream_kind_code kind-small (stream_kind_of word) (sym coded ∙ c)

        by : TokenAt line at r → and_then (kinds_from (tokens (drop at line))) (λ ks. some (K.before ++ ks)) ≡ none
        by (no_token p q n) = let l = K.left in let z = ap length n in absurd (omega arith)
        by (a_token f s w m) =
            ap (λ ts. and_then (kinds_from ts) (λ ks. some (K.before ++ ks))) m
            ∙ ap (λ o. and_then (and_then o (λ k. and_then (kinds_from later) (λ ks. some (k ∷ ks)))) (λ ks. some (K.before ++ ks))) no_kind

    -- One word more.
    pub kinds-step : {new_table : List ℕ} → count ≤ 8 → stream < count → (code ≡ 255 → ⊥) → new_table ≡ set table stream code → KindsSoFar line r.end (stream + 1) count new_table
    unfolding kinds_from stream_kind_of stream_kind_tokens
    kinds-step {new_table} few h c t = by found (code-some stream_kind_code (stream_kind_of word) (λ z. c (coded ∙ z)))
      where
        by : TokenAt line at r → (k : StreamKind) × (stream_kind_of word ≡ some k) × (code_or255 stream_kind_code (stream_kind_of word) ≡ stream_kind_code k) → KindsSoFar line r.end (stream + 1) count new_table
        by (no_token p q n) x = let l = K.left in let z = ap length n in absurd (omega arith)
        by (a_token f s w m) (k, is, number) =
            let b = K.before in
            let n = K.number in
            let l = K.left in
            let e = ap length m in
            let more = length-append b (k ∷ []) in
            record {
              before = b ++ (k ∷ []);
              number = omega arith;
              left = omega arith;
              same =
                  K.same
                  ∙ ap (λ ts. and_then (kinds_from ts) (λ ks. some (b ++ ks))) m
                  ∙ ap (λ o. and_then (and_then o (λ j. and_then (kinds_from later) (λ ks. some (j ∷ ks)))) (λ ks. some (b ++ ks))) is
                  ∙ then_more (kinds_from later) b k;
              stored =
                  t ∙ ap₂ (λ u v. set u stream v) K.stored (coded ∙ number) ∙ ap (λ i. set (padded 8 0 (map stream_kind_code b)) i (stream_kind_code k)) n
                  ∙ padded-map 8 0 stream_kind_code b k (omega arith);
            }

-- ---- streams with other kinds

module _ (ks : List StreamKind) (ss : List Stream) where
  kinds-length : length (with_kinds ks ss) ≡ length ss
  kinds-length = go ks ss
    where
      go : (js : List StreamKind) (us : List Stream) → length (with_kinds js us) ≡ length us
      go [] us = refl
      go (j ∷ js) [] = refl
      go (j ∷ js) (u ∷ us) = ap suc (go js us)

  kinds-faulty : any_of is_range_faulty (with_kinds ks ss) ≡ any_of is_range_faulty ss
  kinds-faulty = go ks ss
    where
      go : (js : List StreamKind) (us : List Stream) → any_of is_range_faulty (with_kinds js us) ≡ any_of is_range_faulty us
      go [] us = refl
      go (j ∷ js) [] = refl
      go (j ∷ js) (u ∷ us) = ap (λ b. is_range_faulty u || b) (go js us)

  kinds-name_bytes : name_bytes (with_kinds ks ss) ≡ name_bytes ss
  kinds-name_bytes = go ks ss
    where
      go : (js : List StreamKind) (us : List Stream) → name_bytes (with_kinds js us) ≡ name_bytes us
      go [] us = refl
      go (j ∷ js) [] = refl
      go (j ∷ js) (u ∷ us) = ap (λ l. padded 8 0 u.name ++ l) (go js us)

  pub kinds-streams_read : streams_read ss ≡ streams_read (with_kinds ks ss)
  kinds-streams_read = sym (ap₂ (λ n b. record { ok = true; count = n; faulty = b }) kinds-length kinds-faulty)

  pub kinds-tables : stream_tables_of ss ≡ stream_tables_of (with_kinds ks ss)
  kinds-tables =
      let lengths : name_lengths (with_kinds ks ss) ≡ name_lengths ss = with_kinds-map (λ x. length x.name) (λ k s. refl) ks ss in
      let lows = with_kinds-map (λ x. zero_beyond x.range.low) (λ k s. refl) ks ss in
      let highs = with_kinds-map (λ x. zero_beyond x.range.high) (λ k s. refl) ks ss in
      sym (λ i. stream_tables (padded 64 0 (kinds-name_bytes i)) (padded 8 0 (lengths i)) (padded 8 (pos 0) (lows i)) (padded 8 (pos 0) (highs i)))

  pub kinds_codes : length ks ≡ length ss → map stream_kind_code ks ≡ stream_kind_codes (with_kinds ks ss)
  kinds_codes e = sym (codes (with_kinds ks ss) ∙ ap (map stream_kind_code) (with_kinds-kinds ks ss e))
    where
      codes : (us : List Stream) → stream_kind_codes us ≡ map stream_kind_code (stream_kinds_of us)
      codes [] = refl
      codes (u ∷ us) = ap (λ l. stream_kind_code u.kind ∷ l) (codes us)
