-- What is kept of an input, whatever the chunks in which it comes: the line before its first byte 10, and of the bytes behind it the first, as many as there is
-- room for. By induction over the bytes, from the laws of chunks (text, Lines).
use Prim.Native.Nat.{ℕ, ◌+◌, ◌≤◌, ◌<◌}
use native.Mathlib.Omega.{arith}
use native.Mathlib.Numerals.{add-one}
use mathlib.Core.Path.{◌≡◌, refl, sym, ◌∙◌, ap, ap₂, subst}
use mathlib.Core.Bool.{Bool, true, false, cond}
use mathlib.Core.List.{List, [], ◌∷◌, ◌++◌, append_assoc, append-nil}
use lib.Dec.{eqb, ltb}
use lib.ListN.{length, take, set, get_or, length-append, length-set}
use lib.Seq.{take_all, take-nil, take-suc, take-suc-set, length-take-le, take-append-le}
use borrow.Author.Tests.{ltb-true, ltb-false, lt-ltb, le-ltb}
use Rattle.text.specs.Fold.{run_bytes}
use Rattle.text.specs.Lines.{all_chunks, run_chunks}
use Rattle.text.proofs.Lines.{run-append, run-chunks}
use Rattle.first_line.specs.declared.NumberLine.{NumberLine}
use Rattle.first_line.specs.Input.{line_before, text_behind, number_in}
use Rattle.first_line.specs.Machine.{number_line_start, number_line_byte, number_line_end, told_number, KeptInput, keeping, taken_at, taken_start, keep_byte}
use Rattle.first_line.proofs.Number.{line-number-read}

-- ---- the bytes as a text

-- What is kept, with the bytes of the sheet as a text of their own.
record InputState : Type 0 where
  line : NumberLine
  behind : Bool
  text : List ℕ

abbrev kept : NumberLine → Bool → List ℕ → InputState
kept line behind text = record { line = line; behind = behind; text = text }

-- The bytes kept with one more, where there is room for so many.
abbrev kept_with : (room : ℕ) → List ℕ → ℕ → List ℕ
kept_with room text b = cond (ltb (length text) room) (text ++ (b ∷ [])) text

abbrev input_byte : (room : ℕ) → InputState → ℕ → InputState
input_byte room s b =
    cond s.behind
    (kept s.line true (kept_with room s.text b))
    (cond (eqb b 10) (kept s.line true s.text) (kept (number_line_byte s.line b) false s.text))

module _ (room : ℕ) (text : List ℕ) (b : ℕ) where
  kept-room : length text < room → kept_with room text b ≡ text ++ (b ∷ [])
  kept-room h = ap (λ t. cond t (text ++ (b ∷ [])) text) (lt-ltb (length text) room h)

  kept_full : room ≤ length text → kept_with room text b ≡ text
  kept_full h = ap (λ t. cond t (text ++ (b ∷ [])) text) (le-ltb (length text) room h)

-- Behind the line.
behind-read : (room : ℕ) (line : NumberLine) (bs text : List ℕ) → length text ≤ room → run_bytes (input_byte room) (kept line true text) bs ≡ kept line true (take room (text ++ bs))
behind-read room line [] text h = ap (kept line true) (sym (take_all room text h) ∙ ap (take room) (sym (append-nil text)))
behind-read room line (b ∷ bs) text h = by (λ t l. behind-read room line bs t l) (ltb (length text) room) refl
  where
    by : ((t : List ℕ) → length t ≤ room → run_bytes (input_byte room) (kept line true t) bs ≡ kept line true (take room (t ++ bs))) → (t : Bool) → ltb (length text) room ≡ t
        → run_bytes (input_byte room) (kept line true (kept_with room text b)) bs ≡ kept line true (take room (text ++ (b ∷ bs)))
    by again true e =
        let within = ltb-true (length text) room e in
        ap (λ x. run_bytes (input_byte room) (kept line true x) bs) (kept-room room text b within)
        ∙ again (text ++ (b ∷ [])) (omega (arith, length-append text (b ∷ [])))
        ∙ ap (λ x. kept line true (take room x)) (append_assoc text (b ∷ []) bs)
    by again false e =
        let full = ltb-false (length text) room e in
        ap (λ x. run_bytes (input_byte room) (kept line true x) bs) (kept_full room text b full) ∙ again text h
        ∙ ap (kept line true) (take-append-le room text bs full ∙ sym (take-append-le room text (b ∷ bs) full))

-- What is kept of bytes behind a byte of the line, which ends it or not.
abbrev after_byte : (room : ℕ) → NumberLine → ℕ → List ℕ → Bool → InputState
after_byte room line b bs t = run_bytes (input_byte room) (cond t (kept line true []) (kept (number_line_byte line b) false [])) bs

-- The line is read up to its end, and the bytes behind it are kept.
input-reads : (room : ℕ) (input : List ℕ) (line : NumberLine)
    → ((run_bytes (input_byte room) (kept line false []) input).line ≡ run_bytes number_line_byte line (line_before input)) × ((run_bytes (input_byte room) (kept line false []) input).text ≡ take room (text_behind input))
unfolding line_before text_behind
input-reads room [] line = (refl, sym (take-nil room))
input-reads room (b ∷ bs) line = by (eqb b 10) (input-reads room bs (number_line_byte line b))
  where
    by : (t : Bool) → ((after_byte room line b bs false).line ≡ run_bytes number_line_byte (number_line_byte line b) (line_before bs)) × ((after_byte room line b bs false).text ≡ take room (text_behind bs))
        → ((after_byte room line b bs t).line ≡ run_bytes number_line_byte line (cond t [] (b ∷ line_before bs))) × ((after_byte room line b bs t).text ≡ take room (cond t bs (text_behind bs)))
    by true again = let e = behind-read room line bs [] (omega arith) in (ap (λ s. s.line) e, ap (λ s. s.text) e)
    by false again = again

-- ---- the text in lent bytes

abbrev state_of : KeptInput → InputState
state_of s = kept s.taken.line s.taken.behind (take s.taken.size s.bytes)

module _ (s : KeptInput) (b : ℕ) where
  abbrev size : ℕ
  size = s.taken.size

  abbrev ended : KeptInput
  ended = keeping (taken_at s.taken.line true size) s.bytes

  abbrev in_line : KeptInput
  in_line = keeping (taken_at (number_line_byte s.taken.line b) false size) s.bytes

  abbrev stored : KeptInput
  stored = keeping (taken_at s.taken.line true (size + 1)) (set s.bytes size b)

  -- As many bytes are lent as before.
  keep_length : length (keep_byte s b).bytes ≡ length s.bytes
  keep_length = by s.taken.behind (ltb size (length s.bytes)) (eqb b 10)
    where
      by : (behind room ends : Bool) → length (cond behind (cond room stored s) (cond ends ended in_line)).bytes ≡ length s.bytes
      by true true ends = length-set s.bytes size b
      by true false ends = refl
      by false room true = refl
      by false room false = refl

  -- No more bytes are kept than are lent.
  keep_fits : size ≤ length s.bytes → (keep_byte s b).taken.size ≤ length (keep_byte s b).bytes
  keep_fits h = by s.taken.behind (ltb size (length s.bytes)) refl (eqb b 10)
    where
      by : (behind room : Bool) → ltb size (length s.bytes) ≡ room → (ends : Bool)
          → (cond behind (cond room stored s) (cond ends ended in_line)).taken.size ≤ length (cond behind (cond room stored s) (cond ends ended in_line)).bytes
      by true true e ends = omega (arith, ltb-true size (length s.bytes) e, length-set s.bytes size b)
      by true false e ends = h
      by false room e true = h
      by false room e false = h

  keep_stored : size < length s.bytes → take (size + 1) (set s.bytes size b) ≡ kept_with (length s.bytes) (take size s.bytes) b
  keep_stored h =
      ap (λ m. take m (set s.bytes size b)) (add-one size) ∙ take-suc-set s.bytes size b h
      ∙ sym (kept-room (length s.bytes) (take size s.bytes) b (omega (arith, length-take-le size s.bytes (omega arith))))

  keep_dropped : length s.bytes ≤ size → take size s.bytes ≡ kept_with (length s.bytes) (take size s.bytes) b
  keep_dropped h = sym (kept_full (length s.bytes) (take size s.bytes) b (omega (arith, ap length (take_all size s.bytes h))))

  keep_state : state_of (keep_byte s b) ≡ input_byte (length s.bytes) (state_of s) b
  keep_state = by s.taken.behind refl (ltb size (length s.bytes)) refl (eqb b 10)
    where
      by : (behind : Bool) → s.taken.behind ≡ behind → (room : Bool) → ltb size (length s.bytes) ≡ room → (ends : Bool)
          → state_of (cond behind (cond room stored s) (cond ends ended in_line))
          ≡ cond behind (kept s.taken.line true (kept_with (length s.bytes) (take size s.bytes) b))
          (cond ends (kept s.taken.line true (take size s.bytes)) (kept (number_line_byte s.taken.line b) false (take size s.bytes)))
      by true e true l ends = ap (kept s.taken.line true) (keep_stored (ltb-true size (length s.bytes) l))
      by true e false l ends = ap (λ t. kept s.taken.line t (take size s.bytes)) e ∙ ap (kept s.taken.line true) (keep_dropped (ltb-false size (length s.bytes) l))
      by false e room l true = refl
      by false e room l false = refl

run_length : (bs : List ℕ) (s : KeptInput) → length (run_bytes keep_byte s bs).bytes ≡ length s.bytes
run_length [] s = refl
run_length (b ∷ bs) s = run_length bs (keep_byte s b) ∙ keep_length s b

run_fits : (bs : List ℕ) (s : KeptInput) → s.taken.size ≤ length s.bytes → (run_bytes keep_byte s bs).taken.size ≤ length (run_bytes keep_byte s bs).bytes
run_fits [] s h = h
run_fits (b ∷ bs) s h = run_fits bs (keep_byte s b) (keep_fits s b h)

run-state : (bs : List ℕ) (s : KeptInput) → state_of (run_bytes keep_byte s bs) ≡ run_bytes (input_byte (length s.bytes)) (state_of s) bs
run-state [] s = refl
run-state (b ∷ bs) s = run-state bs (keep_byte s b) ∙ ap₂ (λ n x. run_bytes (input_byte n) x bs) (keep_length s b) (keep_state s b)

-- ---- the whole input

-- The number that is kept is that of the line before the sheet, and the bytes that are kept are the first of the sheet's text, as many as there is room for.
pub record TakenFrom (input : List ℕ) (room : ℕ) (s : KeptInput) : Type 0 where
  pub number_is : number_line_end s.taken.line ≡ told_number (number_in (line_before input))
  pub text_is : take s.taken.size s.bytes ≡ take room (text_behind input)
  pub size_is : s.taken.size ≡ length (take room (text_behind input))

pub input-taken : (bytes input : List ℕ) → TakenFrom input (length bytes) (run_bytes keep_byte (keeping taken_start bytes) input)
input-taken bytes input =
    let start = keeping taken_start bytes in
    let end = run_bytes keep_byte start input in
    let state = run-state input start in
    let reads = input-reads (length bytes) input number_line_start in
    let text = ap (λ x. x.text) state ∙ reads.1 in
    record {
      number_is = ap (λ x. number_line_end x.line) state ∙ ap number_line_end reads.0 ∙ line-number-read (line_before input);
      text_is = text;
      size_is = sym (length-take-le end.taken.size end.bytes (run_fits input start (omega arith))) ∙ ap length text;
    }

-- Whatever the chunks.
pub chunks-taken : (bytes : List ℕ) (chunks : List (List ℕ)) → TakenFrom (all_chunks chunks) (length bytes) (run_chunks keep_byte (keeping taken_start bytes) chunks)
chunks-taken bytes chunks = subst (TakenFrom (all_chunks chunks) (length bytes)) (sym (run-chunks keep_byte (keeping taken_start bytes) chunks)) (input-taken bytes (all_chunks chunks))

-- One byte more of a chunk.
pub chunk_more : (s : KeptInput) (chunk : List ℕ) (i : ℕ) {r : KeptInput} → i < length chunk → r ≡ keep_byte (run_bytes keep_byte s (take i chunk)) (get_or chunk i 0)
    → r ≡ run_bytes keep_byte s (take (i + 1) chunk)
chunk_more s chunk i h p =
    p ∙ sym (ap (λ n. run_bytes keep_byte s (take n chunk)) (add-one i) ∙ ap (run_bytes keep_byte s) (take-suc chunk i 0 h) ∙ run-append keep_byte s (take i chunk) (get_or chunk i 0 ∷ []))
