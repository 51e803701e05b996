-- Tokens by their numbers: what a token found by its number says, that the starts of a line's tokens give each of them, and that they give the
-- tokens of the text between two brackets too. From the laws of starts and of tokens.
use Prim.Native.Nat.{ℕ, zero, suc, ◌+◌, ◌-◌, ◌≤◌, ◌<◌}
use mathlib.Core.Path.{◌≡◌, refl, sym, ap, ap₂, ◌∙◌}
use mathlib.Core.Bool.{Bool, true, false, cond}
use mathlib.Core.List.{List, [], ◌∷◌, ◌++◌, cons≢nil}
use native.Mathlib.Decide.{dec_le}
use native.Mathlib.Omega.{arith}
use lib.Dec.{T}
use lib.ListN.{length, take, drop, get_or, length-append, length-drop, drop_of_length-le}
use lib.Seq.{take-nil, drop-drop, drop-nil, take-append_seam, drop-append_seam}
use borrow.Author.Tests.{lt-ltb, le-ltb}
use Rattle.text.specs.Bytes as bytes
use Rattle.text.specs.Bytes.{Token, bytes_of, ByteClass, bracket, inside, is_bracket, starts_inside, add_to_tokens, class_of, tokens}
use Rattle.text.proofs.Bytes.{a_bracket, tokens_bracket}
use Rattle.scan.specs.Place.{between, TokenAt, no_token, a_token}
use Rattle.scan.specs.declared.Span.{Span}
use Rattle.scan.specs.Start.{token_starts_of}
use Rattle.scan.proofs.Starts.{token-starts-length, token-start}
use Rattle.scan.proofs.Tokens.{between_split, between-length, drop_at, drop-end}
use Rattle.parse.specs.declared.NumberedToken.{NumberedToken}
use Rattle.parse.specs.Numbered.{place_in, tokens_from, Placed, TokenNumbered, nothing_left, numbered}

-- What a token found by its number says to a caller.
module _ {text : List ℕ} {rest : ℕ → List Token} {at : ℕ} {r : NumberedToken} where
  pub token-within : TokenNumbered text rest at r → (r.start ≤ r.end) × (r.end ≤ length text)
  token-within (nothing_left p q e) = (omega arith, omega arith)
  token-within (numbered s w n e j) = (omega arith, w)

  pub token-empty : TokenNumbered text rest at r → r.start ≡ r.end → rest at ≡ []
  token-empty (nothing_left p q e) h = e
  token-empty (numbered s w n e j) h = absurd (omega arith)

  module _ (k : TokenNumbered text rest at r) (h : r.start ≡ r.end → ⊥) where
    pub token-tokens : rest at ≡ between text r.start r.end ∷ rest r.next
    token-tokens = by k
      where
        by : TokenNumbered text rest at r → rest at ≡ between text r.start r.end ∷ rest r.next
        by (nothing_left p q e) = absurd (h (p ∙ sym q))
        by (numbered s w n e j) = e

    pub token-number : r.next ≡ at + 1
    token-number = by k
      where
        by : TokenNumbered text rest at r → r.next ≡ at + 1
        by (nothing_left p q e) = absurd (h (p ∙ sym q))
        by (numbered s w n e j) = n

    pub token-bytes : rest r.next ≡ tokens (drop r.end text)
    token-bytes = by k
      where
        by : TokenNumbered text rest at r → rest r.next ≡ tokens (drop r.end text)
        by (nothing_left p q e) = absurd (h (p ∙ sym q))
        by (numbered s w n e j) = j

-- Where the token with a number stands.
module _ (text : List ℕ) (origin : ℕ) (starts : List ℕ) (k : ℕ) where
  pub place-stored : k < length starts → place_in text origin starts k ≡ get_or starts k 0 - origin
  place-stored h = ap (λ m. cond m (get_or starts k 0 - origin) (length text)) (lt-ltb k (length starts) h)

  pub place_none : length starts ≤ k → place_in text origin starts k ≡ length text
  place_none h = ap (λ m. cond m (get_or starts k 0 - origin) (length text)) (le-ltb k (length starts) h)

  pub tokens-stored : k < length starts → tokens_from text origin starts k ≡ tokens (drop (get_or starts k 0 - origin) text)
  unfolding tokens_from
  tokens-stored h = ap (λ n. tokens (drop n text)) (place-stored h)

  pub tokens_none : length starts ≤ k → tokens_from text origin starts k ≡ []
  unfolding tokens_from tokens
  tokens_none h = ap (λ n. tokens (drop n text)) (place_none h) ∙ ap tokens (drop-end text)

  -- A token that is left has a number for which a start is stored.
  pub left_stored : {t : Token} {us : List Token} → tokens_from text origin starts k ≡ t ∷ us → k < length starts
  left_stored e = by (dec_le (length starts) k)
    where
      by : Dec (length starts ≤ k) → k < length starts
      by (yes h) = absurd (cons≢nil (sym e ∙ tokens_none h))
      by (no h) = omega arith

pub placed-later : {text : List ℕ} {origin : ℕ} {starts : List ℕ} {at k : ℕ} → Placed text origin starts at → at ≤ k → Placed text origin starts k
placed-later h l = record { short = h.short; within = λ j m i. h.within j (omega arith) i; follows = λ j m. h.follows j (omega arith) }

-- The numbers count the tokens.
pub tokens-number : {text : List ℕ} {origin : ℕ} {starts : List ℕ} {at : ℕ} → Placed text origin starts at → (j : ℕ) → tokens_from text origin starts (at + j) ≡ drop j (tokens_from text origin starts at)
tokens-number {text} {origin} {starts} {at} h zero = let same : at + 0 ≡ at = omega arith in ap (tokens_from text origin starts) same
tokens-number {text} {origin} {starts} {at} h (suc j) =
    let next : at + suc j ≡ at + j + 1 = omega arith in
    let more : j + 1 ≡ suc j = omega arith in
    ap (tokens_from text origin starts) next ∙ h.follows (at + j) (omega arith) ∙ ap (drop 1) (tokens-number h j) ∙ drop-drop 1 j (tokens_from text origin starts at) ∙ ap (λ n. drop n (tokens_from text origin starts at)) more

-- The answer of the search by number.
module _ (text : List ℕ) (origin : ℕ) (starts : List ℕ) (at : ℕ) where
  pub none-numbered : length starts ≤ at → TokenNumbered text (tokens_from text origin starts) at (record { start = length text; end = length text; next = at })
  none-numbered h = nothing_left refl refl (tokens_none text origin starts at h)

  pub token-numbered : Placed text origin starts at → at < length starts → {r : Span} → TokenAt text (get_or starts at 0 - origin) r → TokenNumbered text (tokens_from text origin starts) at (record { start = r.start; end = r.end; next = at + 1 })
  token-numbered h l (no_token p q e) = nothing_left p q (tokens-stored text origin starts at l ∙ e)
  token-numbered h l {r} (a_token f s w e) =
      let first = tokens-stored text origin starts at l ∙ e in
      let after = h.follows at (omega arith) ∙ ap (drop 1) first in
      numbered s w refl (first ∙ ap (λ us. between text r.start r.end ∷ us) (sym after)) after

-- The starts of a line's tokens give the tokens of the line.
module _ (line : List ℕ) where
  line-tokens : (k : ℕ) → tokens_from line 0 (token_starts_of line) k ≡ drop k (tokens line)
  line-tokens k = by (dec_le (length (token_starts_of line)) k)
    where
      by : Dec (length (token_starts_of line) ≤ k) → tokens_from line 0 (token_starts_of line) k ≡ drop k (tokens line)
      by (yes h) = tokens_none line 0 (token_starts_of line) k h ∙ sym (drop_of_length-le (tokens line) (let z : length (tokens line) ≤ k = omega (arith, token-starts-length line) in z))
      by (no h) =
          let whole : get_or (token_starts_of line) k 0 - 0 ≡ get_or (token_starts_of line) k 0 = omega arith in
          tokens-stored line 0 (token_starts_of line) k (omega arith) ∙ ap (λ n. tokens (drop n line)) whole ∙ token-start line k (let z = token-starts-length line in omega arith)

  module _ {starts : List ℕ} (e : starts ≡ token_starts_of line) where
    starts-tokens : (k : ℕ) → tokens_from line 0 starts k ≡ drop k (tokens line)
    starts-tokens k = ap (λ ss. tokens_from line 0 ss k) e ∙ line-tokens k

    pub line-placed : length line < 9223372036854775808 → Placed line 0 starts 0
    line-placed h =
        record {
          short = omega arith;
          within = λ k m i. omega arith;
          follows = λ k m. starts-tokens (k + 1) ∙ sym (drop-drop 1 k (tokens line)) ∙ ap (drop 1) (sym (starts-tokens k));
        }

    pub line_first : tokens_from line 0 starts 0 ≡ tokens line
    line_first = starts-tokens 0

-- A byte more leaves no fewer tokens, so that no more are left from a later place on.
tokens-more : (c : ByteClass) (g : Bool) (b : ℕ) (ts : List Token) → length ts ≤ length (add_to_tokens c g b ts)
tokens-more bracket g b ts = omega arith
tokens-more inside true b [] = omega arith
tokens-more inside true b (t ∷ ts) = omega arith
tokens-more inside false b ts = omega arith
tokens-more bytes.between g b ts = omega arith

tokens-fewer : (n : ℕ) (l : List ℕ) → length (tokens (drop n l)) ≤ length (tokens l)
unfolding tokens
tokens-fewer zero l = omega arith
tokens-fewer (suc n) [] = omega arith
tokens-fewer (suc n) (b ∷ l) = let z = tokens-fewer n l in let w = tokens-more (class_of b) (starts_inside l) b (tokens l) in omega arith

-- What stands before the last c elements, of a list and of the list without its first element.
front_rest : (l : List Token) (c : ℕ) → take (length (drop 1 l) - c) (drop 1 l) ≡ drop 1 (take (length l - c) l)
front_rest [] c = take-nil (0 - c) ∙ sym (ap (drop 1) (take-nil (0 - c)))
front_rest (t ∷ l) c = by (dec_le c (length l))
  where
    by : Dec (c ≤ length l) → take (length l - c) l ≡ drop 1 (take (suc (length l) - c) (t ∷ l))
    by (yes h) = let more : suc (length l) - c ≡ suc (length l - c) = omega arith in ap (λ n. drop 1 (take n (t ∷ l))) (sym more)
    by (no h) =
        let none : length l - c ≡ 0 = omega arith in
        let all : suc (length l) - c ≡ 0 = omega arith in
        ap (λ n. take n l) none ∙ ap (λ n. drop 1 (take n (t ∷ l))) (sym all)

no_tokens : tokens [] ≡ []
unfolding tokens
no_tokens = refl

drop-take : (m n : ℕ) (l : List ℕ) → drop m (take n l) ≡ take (n - m) (drop m l)
drop-take zero n l = let all : n ≡ n - 0 = omega arith in ap (λ k. take k l) all
drop-take (suc m) zero l = drop-nil (suc m) ∙ (let none : 0 ≡ 0 - suc m = omega arith in ap (λ k. take k (drop (suc m) l)) none)
drop-take (suc m) (suc n) [] = sym (take-nil (suc n - suc m))
drop-take (suc m) (suc n) (b ∷ l) = drop-take m n l ∙ (let less : n - m ≡ suc n - suc m = omega arith in ap (λ k. take k (drop m l)) less)

-- The bytes up to a place without those before another.
between-drop : (l : List ℕ) (a p e : ℕ) → a ≤ p → drop (p - a) (between l a e) ≡ between l p e
between-drop l a p e h =
    let there : a + (p - a) ≡ p = omega arith in
    let count : e - a - (p - a) ≡ e - p = omega arith in
    drop-take (p - a) (e - a) (drop a l) ∙ ap₂ take count (drop-drop (p - a) a l ∙ ap (λ n. drop n l) there)

-- A bracket at a place parts the tokens.
bracket_parts : (text : List ℕ) (x p b : ℕ) → x ≤ p → p < length text → get_or text p 0 ≡ b → T (is_bracket b) → tokens (drop x text) ≡ tokens (between text x p) ++ ((b ∷ []) ∷ tokens (drop (p + 1) text))
bracket_parts text x p b h i e t =
    ap tokens (between_split text x p h ∙ ap (λ l. between text x p ++ l) (drop_at text p i ∙ ap (λ c. c ∷ drop (p + 1) text) e))
    ∙ tokens_bracket (between text x p) b (drop (p + 1) text) (a_bracket t)

-- The text between an opening bracket at the place `start` and its partner at the place `close`. The starts that give the tokens of the
-- text after the opening bracket give those of the text between the brackets, as far as they stand in it.
module _ (text : List ℕ) (origin : ℕ) (starts : List ℕ) (at start close : ℕ)
    (h : Placed text origin starts at) (first : tokens_from text origin starts at ≡ tokens (drop (start + 1) text))
    (opens : get_or text start 0 ≡ 40) (order : start + 1 ≤ close) (known : close < length text) (closes : get_or text close 0 ≡ 41) where
  abbrev outer : ℕ → List Token
  outer k = tokens_from text origin starts k

  abbrev inner : List ℕ
  inner = between text (start + 1) close

  abbrev within : ℕ → List Token
  within k = tokens_from inner (origin + (start + 1)) starts k

  abbrev after : List Token
  after = bytes_of ")" ∷ tokens (drop (close + 1) text)

  -- No token with a later number begins before the opening bracket, since fewer are left.
  behind : (k : ℕ) → at ≤ k → k < length starts → origin + (start + 1) ≤ get_or starts k 0
  behind k m i = by (dec_le (origin + (start + 1)) (get_or starts k 0))
    where
      few : length (outer k) ≤ length (tokens (drop (start + 1) text))
      few =
          let there : at + (k - at) ≡ k = omega arith in
          let same = ap length (ap outer (sym there) ∙ tokens-number h (k - at) ∙ ap (drop (k - at)) first) in
          omega (arith, length-drop (k - at) (tokens (drop (start + 1) text)))

      by : Dec (origin + (start + 1) ≤ get_or starts k 0) → origin + (start + 1) ≤ get_or starts k 0
      by (yes j) = j
      by (no j) =
          let low : get_or starts k 0 - origin ≤ start = omega arith in
          let parts = ap length (tokens-stored text origin starts k i ∙ bracket_parts text (get_or starts k 0 - origin) start 40 low (omega arith) opens tt) in
          let sum = length-append (tokens (between text (get_or starts k 0 - origin) start)) (bytes_of "(" ∷ tokens (drop (start + 1) text)) in
          absurd (omega (arith, few))

  -- The tokens left in the text between the brackets are those left in the text without the bracket that closes and what stands after it.
  inner-left : (k : ℕ) → at ≤ k → within k ≡ take (length (outer k) - length after) (outer k)
  inner-left k m = by (dec_le (length starts) k)
    where
      none_left : (us : List Token) → within k ≡ [] → length us < length after → within k ≡ take (length us - length after) us
      none_left us e l = let none : length us - length after ≡ 0 = omega arith in e ∙ ap (λ n. take n us) (sym none)

      some_left : (vs us : List Token) → within k ≡ vs → us ≡ vs ++ after → within k ≡ take (length us - length after) us
      some_left vs us e q =
          let count : length us - length after ≡ length vs = omega (arith, ap length q, length-append vs after) in
          e ∙ sym (ap₂ take count q ∙ take-append_seam vs after)

      stored : k < length starts → Dec (get_or starts k 0 - origin ≤ close) → within k ≡ take (length (outer k) - length after) (outer k)
      stored i (yes j) =
          let p = get_or starts k 0 - origin in
          let low = behind k m i in
          let less : get_or starts k 0 - (origin + (start + 1)) ≡ p - (start + 1) = omega arith in
          some_left (tokens (between text p close)) (outer k)
          (tokens-stored inner (origin + (start + 1)) starts k i ∙ ap (λ n. tokens (drop n inner)) less ∙ ap tokens (between-drop text (start + 1) p close (omega arith)))
          (tokens-stored text origin starts k i ∙ bracket_parts text p close 41 j known closes tt)
      stored i (no j) =
          let p = get_or starts k 0 - origin in
          let size = between-length text (start + 1) close order (omega arith) in
          let past : length inner ≤ get_or starts k 0 - (origin + (start + 1)) = omega arith in
          let there : close + 1 + (p - (close + 1)) ≡ p = omega arith in
          let few = tokens-fewer (p - (close + 1)) (drop (close + 1) text) in
          let same = ap length (tokens-stored text origin starts k i ∙ ap (λ n. tokens (drop n text)) (sym there) ∙ ap tokens (sym (drop-drop (p - (close + 1)) (close + 1) text))) in
          none_left (outer k) (tokens-stored inner (origin + (start + 1)) starts k i ∙ ap tokens (drop_of_length-le inner past) ∙ no_tokens) (omega arith)

      by : Dec (length starts ≤ k) → within k ≡ take (length (outer k) - length after) (outer k)
      by (yes i) = let none = tokens_none text origin starts k i in none_left (outer k) (tokens_none inner (origin + (start + 1)) starts k i) (omega (arith, ap length none))
      by (no i) = stored (omega arith) (dec_le (get_or starts k 0 - origin) close)

  pub inner-placed : Placed inner (origin + (start + 1)) starts at
  inner-placed =
      record {
        short = let size = between-length text (start + 1) close order (omega arith) in omega (arith, h.short);
        within = behind;
        follows = λ k m. inner-left (k + 1) (omega arith) ∙ ap (λ us. take (length us - length after) us) (h.follows k m) ∙ front_rest (outer k) (length after) ∙ ap (drop 1) (sym (inner-left k m));
      }

  outer-tokens : outer at ≡ tokens inner ++ after
  outer-tokens = first ∙ bracket_parts text (start + 1) close 41 order known closes tt

  pub inner_first : within at ≡ tokens inner
  inner_first =
      let size = length-append (tokens inner) after in
      let count : length (outer at) - length after ≡ length (tokens inner) = omega (arith, ap length outer-tokens) in
      inner-left at (omega arith) ∙ ap₂ take count outer-tokens ∙ take-append_seam (tokens inner) after

  -- The number after those of the text between the brackets is that of the bracket that closes.
  pub closing-token : outer (at + length (tokens inner)) ≡ after
  closing-token = tokens-number h (length (tokens inner)) ∙ ap (drop (length (tokens inner))) outer-tokens ∙ drop-append_seam (tokens inner) after
