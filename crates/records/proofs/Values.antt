-- A line of values that is read byte by byte comes to what document 02 says of it: from the laws of tokens read byte by byte (`text` `Fold`),
-- of a token that may be an integer (`Phases`) and of the number of a letter (`Numbers`).
use Prim.Native.Nat.{ℕ, suc, ◌+◌, ◌*◌, ◌≤◌}
use native.Mathlib.Omega.{arith}
use native.Mathlib.Nat.{one-mul, zero-mul}
use mathlib.Core.Path.{◌≡◌, refl, sym, ◌∙◌, ap, ap₂}
use mathlib.Core.Bool.{Bool, true, false, not, cond, ◌&&◌, and-true, and_assoc}
use mathlib.Core.List.{List, [], ◌∷◌, map, Memᴰ}
use lib.Dec.{ltb, eqb}
use lib.IntN.{ℤ}
use lib.ListN.{length, take, drop, get_or, drop_of_length-le, length-map}
use lib.Seq.{drop-cons}
use lib.Signed.{◌≤ℤ◌}
use borrow.Author.Tests.{lt-ltb, eqb-true}
use Rattle.text.specs.Bytes.{Token, tokens}
use Rattle.text.specs.Token.{all_bytes, is_integer, integer_value, natural_from}
use Rattle.text.specs.Fold.{run_bytes, tokens_read, line_read as line_folded}
use Rattle.text.proofs.Fold.{line-tokens}
use Rattle.meaning.specs.Expression.{Stream, absent_stream}
use Rattle.meaning.specs.Letter.{Letter, letter_count, letter_number}
use Rattle.meaning.specs.Situation.{all}
use Rattle.meaning.proofs.Facts.{get_or-member}
use Rattle.meaning.proofs.Letter.{letter_number-bound}
use Rattle.nodes.proofs.Parts.{and_true_left, and_true_right}
use Rattle.sheet.specs.Refusal.{stream_bound, letter_bound, InBounds}
use Rattle.scan.specs.Integer.{cut}
use Rattle.letters.specs.Described.{is_letter, number_of, cut_count}
use Rattle.letters.proofs.Streams.{is_letter-sound}
use Rattle.record_names.specs.Line.{is_plain}
use Rattle.records.specs.Line.{is_one_per_stream, values_read, value_line, malformed, outside, letter}
use Rattle.integer_bytes.specs.declared.Phase.TheVariants.{Empty}
use Rattle.records.specs.declared.ValuesState.{ValuesState}
use Rattle.integer_bytes.specs.Phases.{is_negative, next_magnitude, value_of}
use Rattle.record_names.specs.Machine.{next_count}
use Rattle.records.specs.Machine.{stream_at, next_number, with_phase, value_byte, ended_from, value_end, line_start, line_from, line_byte, number_read, values_end, end_of, line_end}
use Rattle.record_names.proofs.Steps.{reading}
use Rattle.record_names.proofs.Plain.{plain_run}
use Rattle.integer_bytes.proofs.Phases.{phase_after, token-read, magnitude-after}
use Rattle.records.proofs.Numbers.{number_cut, number_after, letter-after}
use Rattle.record_names.proofs.Counts.{count_after, count-test}

-- The streams as an accepted sheet has them, as far as a line of values needs it.
pub record AcceptedRanges (ss : List Stream) : Type 0 where
  pub few : length ss ≤ stream_bound
  pub ordered : (x : Stream) → Memᴰ x ss → x.range.low ≤ℤ x.range.high
  pub in_bounds : (x : Stream) → Memᴰ x ss → InBounds x.range
  pub few_letters : letter_count ss ≤ letter_bound

-- The bytes of a token move its phase and its magnitude.
value_after : (t : List ℕ) (s : ValuesState) → run_bytes value_byte s t ≡ with_phase s (phase_after s.phase t) (run_bytes next_magnitude s.magnitude t)
value_after [] s = refl
value_after (b ∷ t) s = value_after t (value_byte s b)

module _ (ss : List Stream) where
  -- ---- the tokens

  -- The value that is kept of a token.
  abbrev kept : Token → ℤ
  kept t = value_of (phase_after Empty t) (cut (natural_from 0 t))

  token-ended : (k : ℕ) (i : Bool) (n : ℕ) (t : Token)
      → value_end ss (run_bytes value_byte (ended_from k i n) t) ≡ ended_from (next_count k) (i && is_integer t) (next_number (stream_at ss k) n (kept t))
  token-ended k i n t =
      ap (value_end ss) (value_after t (ended_from k i n))
      ∙ ap₂ (λ e m. ended_from (next_count k) (i && e) (next_number (stream_at ss k) n (value_of (phase_after Empty t) m))) (token-read t).integer (magnitude-after t 0)

  -- The number of the letter so far, with the values kept of tokens that begin at stream k.
  number_kept : ℕ → ℕ → List Token → ℕ
  number_kept k n [] = n
  number_kept k n (t ∷ ts) = number_kept (next_count k) (next_number (stream_at ss k) n (kept t)) ts

  tokens-ended : (ts : List Token) (k : ℕ) (i : Bool) (n : ℕ)
      → tokens_read value_byte (value_end ss) (ended_from k i n) ts ≡ ended_from (count_after k ts) (i && all is_integer ts) (number_kept k n ts)
  unfolding number_kept
  tokens-ended [] k i n = ap (λ t. ended_from k t n) (sym (and-true i))
  tokens-ended (t ∷ ts) k i n =
      ap (λ s. tokens_read value_byte (value_end ss) s ts) (token-ended k i n t) ∙ tokens-ended ts (next_count k) (i && is_integer t) (next_number (stream_at ss k) n (kept t))
      ∙ ap (λ e. ended_from (count_after (next_count k) ts) e (number_kept (next_count k) (next_number (stream_at ss k) n (kept t)) ts)) (and_assoc i (is_integer t) (all is_integer ts))

  module _ (h : AcceptedRanges ss) where
    -- ---- the number

    -- The value that is kept of an integer counts as the integer's own.
    kept-value : (s : Stream) → InBounds s.range → (t : Token) → is_integer t ≡ true → (n : ℕ) → next_number (s ∷ []) n (kept t) ≡ next_number (s ∷ []) n (integer_value t)
    kept-value s b t e n =
        let same = number_cut s b (is_negative (phase_after Empty t)) (natural_from 0 t) ∙ ap (λ v. number_of (s ∷ []) (v ∷ [])) ((token-read t).value e) in
        ap (λ m. cond (ltb n letter_bound && ltb m letter_bound) (n * cut_count (letter_count (s ∷ [])) + m) letter_bound) same

    number-kept : (ts : List Token) (k n : ℕ) → all is_integer ts ≡ true → k + length ts ≡ length ss → number_kept k n ts ≡ number_after (drop k ss) n (map integer_value ts)
    unfolding number_kept
    number-kept [] k n e l = sym (ap (λ r. number_after r n []) (drop_of_length-le ss {i = k} (omega arith)))
    number-kept (t ∷ ts) k n e l =
        let f = h.few in
        let c : next_count k ≡ suc k = omega arith in
        let s = get_or ss k absent_stream in
        let d : drop k ss ≡ s ∷ drop (suc k) ss = drop-cons ss k absent_stream (omega arith) in
        let v : next_number (stream_at ss k) n (kept t) ≡ next_number (s ∷ []) n (integer_value t) =
        ap (λ r. next_number (take 1 r) n (kept t)) d ∙ kept-value s (h.in_bounds s (get_or-member ss k absent_stream (omega arith))) t (and_true_left (is_integer t) (all is_integer ts) e) n in
        ap₂ (λ j m. number_kept j m ts) c v ∙ number-kept ts (suc k) (next_number (s ∷ []) n (integer_value t)) (and_true_right (is_integer t) (all is_integer ts) e) (omega arith)
        ∙ sym (ap (λ r. number_after r n (integer_value t ∷ map integer_value ts)) d)

    -- ---- the line

    -- The number is a letter's exactly if the values are one.
    values-number : (v : Letter) → length v ≡ length ss → number_read (number_after ss 0 v) ≡ values_read ss v
    values-number v l =
        ap number_read (letter-after ss 0 v l h.ordered (omega (arith, one-mul (letter_count ss), h.few_letters))) ∙ by (is_letter ss v) refl
      where
        by : (t : Bool) → is_letter ss v ≡ t → number_read (cond t (0 * letter_count ss + letter_number ss v) letter_bound) ≡ cond t (letter (letter_number ss v)) outside
        by true e =
            let b = letter_number-bound (is_letter-sound ss v e) in
            let n : 0 * letter_count ss + letter_number ss v ≡ letter_number ss v = omega (arith, zero-mul (letter_count ss)) in
            ap number_read n ∙ ap (λ t. cond t (letter (letter_number ss v)) outside) (lt-ltb (letter_number ss v) letter_bound (omega (arith, h.few_letters)))
        by false e = refl

    tokens-line : (plain : Bool) (ts : List Token)
        → values_end (length ss) (not plain) (ended_from (count_after 0 ts) (all is_integer ts) (number_kept 0 0 ts)) ≡ cond (plain && is_one_per_stream ss ts) (values_read ss (map integer_value ts)) malformed
    tokens-line false ts = refl
    tokens-line true ts =
        ap (λ c. cond (all is_integer ts && c) (number_read (number_kept 0 0 ts)) malformed) (count-test ts h.few) ∙ by (all is_integer ts) (eqb (length ts) (length ss)) refl refl
      where
        by : (i c : Bool) → all is_integer ts ≡ i → eqb (length ts) (length ss) ≡ c
            → cond (i && c) (number_read (number_kept 0 0 ts)) malformed ≡ cond (i && c) (values_read ss (map integer_value ts)) malformed
        by true true e f =
            let l : length ts ≡ length ss = eqb-true (length ts) (length ss) f in
            ap number_read (number-kept ts 0 0 e (omega arith)) ∙ values-number (map integer_value ts) (length-map ts integer_value ∙ l)
        by true false e f = refl
        by false c e f = refl

    -- "13 [..] a line that is not one integer per stream (a byte refusal 1 bars makes either so); 14, a value outside its range", or the letter.
    pub line_read : (l : List ℕ) → line_end ss (run_bytes (line_byte ss) line_start l) ≡ end_of (value_line ss l)
    unfolding line_byte line_end line_folded value_line
    line_read l =
        ap (line_end ss) (plain_run line_from value_byte (value_end ss) (line_byte ss) (λ m r b. refl) l false (reading false (ended_from 0 true 0)))
        ∙ ap (λ s. end_of (values_end (length ss) (not (all_bytes is_plain l)) s)) (line-tokens value_byte (value_end ss) l (ended_from 0 true 0) ∙ tokens-ended (tokens l) 0 true 0)
        ∙ ap end_of (tokens-line (all_bytes is_plain l) (tokens l))
