-- What the lines found in a text say of refusals 1 and 2 and of the header. From the places of lines.
use Prim.Native.Nat.{ℕ, zero, suc, ◌+◌, ◌≤◌, ◌<◌}
use mathlib.Core.Path.{◌≡◌, refl, sym, ap, ap₂, subst, ◌∙◌}
use mathlib.Core.Bool.{Bool, true, false, not, cond, ◌&&◌, ◌||◌, true≢false}
use mathlib.Core.List.{List, [], ◌∷◌, ◌++◌, append-nil}
use mathlib.Core.Option.{Option, some, none}
use Rattle.std.proofs.Common.{IsTrue, ◌↔◌}
use Rattle.std.specs.Result.{result_unwrap_or}
use native.Mathlib.Omega.{arith}
use native.Mathlib.Decide.{dec_le}
use lib.Dec.{leb, ltb, eqb}
use lib.ListN.{length, drop, get_or, length-drop, drop_of_length-le, get_or-eq_default}
use lib.Seq.{drop-drop, get_or-drop}
use lib.IntN.{ℤ, pos, negsuc}
use borrow.Author.Tests.{lt-ltb, le-ltb, ltb-true, le-leb, lt-leb}
use Rattle.text.proofs.Bytes.{tokens-length}
use Rattle.text.specs.Bytes.{Token, bytes_of, lines, tokens}
use Rattle.text.specs.Token.{same_bytes, is_integer, integer_value}
use Rattle.meaning.specs.Value.{equal, compares}
use Rattle.meaning.specs.Expression.{StreamKind, read_kind, set_kind}
use Rattle.nodes.specs.Code.{stream_kind_code}
use Rattle.sheet.specs.Vocabulary.{stream_kind_tokens, stream_kind_of}
use Rattle.sheet.specs.Release.{says_release, said_release, is_known_release, floors_quotients}
use Rattle.sheet.specs.Form.{first_tokens, release_in, lines_from_names, is_some_kind, says_kinds, line_tokens, tokens_at, kind_tokens, constraint_lines, layout_in}
use Rattle.sheet.specs.Refusal.{is_allowed, token_count}
use Rattle.sheet.specs.Reading.{any_of, is_beyond, too_deep_from, refuses1, refuses2}
use Rattle.scan.specs.Place as place
use Rattle.scan.specs.Place.{TokenAt, no_token, a_token, LineAt, no_line, ended_line, last_line}
use Rattle.vocabulary.specs.Word.{code_or255}
use Rattle.scan.specs.declared.Span.{Span}
use Rattle.scan.specs.declared.LineSpan.{LineSpan}
use Rattle.scan.proofs.Lines.{line-within}
use Rattle.scan.proofs.Tokens.{between_none, between-length, between_split, drop-end}
use Rattle.scan.proofs.Integers.{within-some}
use Rattle.scan.specs.Integer.{IntegerRead, no_integer, integer_within, integer_read}
use Rattle.refusals.specs.declared.Release.{Release}
use Rattle.refusals.specs.Places.{release_read, NamesLineFrom, behind_release, at_start, ReleaseOf, KindsLineAt, said, unsaid, said_tokens, HeaderOf, constraint_lines_refused}
use Rattle.refusals.specs.declared.Header.{Header}

-- ---- refusal 1

allowed-each : (text : List ℕ) → ((k : ℕ) → k < length text → is_allowed (get_or text k 0) ≡ true) → any_of (λ b. not (is_allowed b)) text ≡ false
allowed-each [] h = refl
allowed-each (b ∷ bs) h = ap₂ (λ t u. not t || u) (h 0 (omega arith)) (allowed-each bs (λ k l. h (suc k) (omega arith)))

none-barred : (m n : Bool) → (not m || n) ≡ false → (m ≡ true) × (n ≡ false)
none-barred true n e = (refl, e)
none-barred false n e = absurd (true≢false e)

each-allowed : (text : List ℕ) → any_of (λ b. not (is_allowed b)) text ≡ false → (k : ℕ) → k < length text → is_allowed (get_or text k 0) ≡ true
each-allowed [] e k h = absurd (omega arith)
each-allowed (b ∷ bs) e zero h = (none-barred (is_allowed b) (any_of (λ c. not (is_allowed c)) bs) e).0
each-allowed (b ∷ bs) e (suc k) h = each-allowed bs (none-barred (is_allowed b) (any_of (λ c. not (is_allowed c)) bs) e).1 k (omega arith)

-- What is told of all bytes of a text.
pub allowed_told : (text : List ℕ) (b : Bool) → (IsTrue b ↔ ((k : ℕ) → k < length text → is_allowed (get_or text k 0) ≡ true)) → any_of (λ b. not (is_allowed b)) text ≡ not b
allowed_told text true e = allowed-each text (e.0 refl)
allowed_told text false e = by (any_of (λ b. not (is_allowed b)) text) refl
  where
    by : (m : Bool) → any_of (λ b. not (is_allowed b)) text ≡ m → m ≡ true
    by true p = refl
    by false p = e.1 (each-allowed text p)

pub refuses1-long : (text : List ℕ) → 16384 < length text → true ≡ refuses1 text
unfolding refuses1
refuses1-long text h = ap (λ t. t || any_of (λ b. not (is_allowed b)) text) (sym (lt-ltb 16384 (length text) h))

pub refuses1-short : (text : List ℕ) {t : Bool} → length text ≤ 16384 → any_of (λ b. not (is_allowed b)) text ≡ t → t ≡ refuses1 text
unfolding refuses1
refuses1-short text h e = sym (ap (λ t. t || any_of (λ b. not (is_allowed b)) text) (le-ltb 16384 (length text) h) ∙ e)

-- ---- lines

-- The bytes from a place to the end.
pub between-all : (text : List ℕ) (at : ℕ) → at ≤ length text → place.between text at (length text) ≡ drop at text
between-all text at h =
    sym (between_split text at (length text) h ∙ ap (λ l. place.between text at (length text) ++ l) (drop-end text) ∙ append-nil (place.between text at (length text)))

pub lines-past : (text : List ℕ) (at : ℕ) → length text ≤ at → lines (drop at text) ≡ []
unfolding lines
lines-past text at h = ap lines (drop_of_length-le text h)

-- The line found, and those after it.
pub line-lines : {text : List ℕ} {at : ℕ} {r : LineSpan} → LineAt text at r → at < length text → lines (drop at text) ≡ place.between text at r.end ∷ lines (drop r.next text)
line-lines (no_line l p q e) h = absurd (omega arith)
line-lines (ended_line f w n e) h = e
line-lines {text} {at} {r} (last_line f p q e) h = e ∙ ap (λ ls. place.between text at r.end ∷ ls) (sym (lines-past text r.next (omega arith)))

pub line_first : {text : List ℕ} {at : ℕ} {r : LineSpan} → LineAt text at r → at ≤ length text → place.between text at r.end ≡ get_or (lines (drop at text)) 0 []
line_first {text} {at} {r} l h = by (dec_le (length text) at)
  where
    by : Dec (length text ≤ at) → place.between text at r.end ≡ get_or (lines (drop at text)) 0 []
    by (yes k) = first-none l k
      where
        first-none : LineAt text at r → length text ≤ at → place.between text at r.end ≡ get_or (lines (drop at text)) 0 []
        first-none (no_line m p q e) k =
            let same : r.end ≡ at = omega arith in
            ap (place.between text at) same ∙ between_none text at ∙ sym (ap (λ ls. get_or ls 0 []) e)
        first-none (ended_line f w n e) k = absurd (omega arith)
        first-none (last_line f p q e) k = absurd (omega arith)
    by (no k) = sym (ap (λ ls. get_or ls 0 []) (line-lines l (omega arith)))

pub line-rest : {text : List ℕ} {at : ℕ} {r : LineSpan} → LineAt text at r → at ≤ length text → lines (drop r.next text) ≡ drop 1 (lines (drop at text))
line-rest {text} {at} {r} l h = by (dec_le (length text) at)
  where
    by : Dec (length text ≤ at) → lines (drop r.next text) ≡ drop 1 (lines (drop at text))
    by (yes k) =
        let w = line-within l h in
        lines-past text r.next (let a = w.forward in let b = w.ordered in omega arith) ∙ sym (ap (drop 1) (lines-past text at k))
    by (no k) = sym (ap (drop 1) (line-lines l (omega arith)))

pub lines-some : {text : List ℕ} {at : ℕ} {r : LineSpan} → LineAt text at r → at < length text → 0 < length (lines (drop at text))
lines-some l h = let z = ap length (line-lines l h) in omega arith

-- n of the lines ls stand before a place, and another at the place exactly where the text goes on.
line-there : {text : List ℕ} {at : ℕ} {r : LineSpan} (ls : List (List ℕ)) (n : ℕ) → LineAt text at r → lines (drop at text) ≡ drop n ls → ltb at (length text) ≡ leb (suc n) (length ls)
line-there {text} {at} ls n l e = by (dec_le (length text) at)
  where
    by : Dec (length text ≤ at) → ltb at (length text) ≡ leb (suc n) (length ls)
    by (yes k) =
        let z = ap length (sym e ∙ lines-past text at k) in
        let w = length-drop n ls in
        le-ltb at (length text) k ∙ sym (lt-leb (suc n) (length ls) (omega arith))
    by (no k) =
        let z = ap length e in
        let s = lines-some l (omega arith) in
        let w = length-drop n ls in
        lt-ltb at (length text) (omega arith) ∙ sym (le-leb (suc n) (length ls) (omega arith))

-- ---- the release line

first-bytes : {text : List ℕ} {l : LineSpan} → LineAt text 0 l → tokens (place.between text 0 l.end) ≡ first_tokens text
first-bytes l = ap tokens (line_first l (omega arith))

-- The word `release` is not empty.
not-release : {line : List ℕ} {w : Span} → TokenAt line 0 w → same_bytes (bytes_of "release") (place.between line w.start w.end) ≡ false → no_integer ≡ release_read (tokens line)
unfolding release_read says_release
not-release {line} {w} (no_token p q e) h = sym (ap release_read e)
not-release {line} {w} (a_token f s i e) h = sym (ap release_read e ∙ by (tokens (drop w.end line)))
  where
    by : (ts : List Token) → release_read (place.between line w.start w.end ∷ ts) ≡ no_integer
    by [] = refl
    by (n ∷ []) = ap (λ b. cond (b && is_integer n) (integer_read n) no_integer) h
    by (n ∷ t ∷ ts) = refl

-- A line of another number of tokens.
not_two : (ts : List Token) → (length ts ≡ 2 → ⊥) → no_integer ≡ release_read ts
unfolding release_read says_release
not_two [] h = refl
not_two (w ∷ []) h = refl
not_two (w ∷ n ∷ []) h = absurd (h refl)
not_two (w ∷ n ∷ t ∷ ts) h = refl

-- `release` and one token more.
said_read : (w n : Token) → same_bytes (bytes_of "release") w ≡ true → integer_read n ≡ release_read (w ∷ n ∷ [])
unfolding release_read says_release integer_read
said_read w n h = sym (ap (λ b. cond (b && is_integer n) (integer_read n) no_integer) h ∙ by (is_integer n))
  where
    by : (b : Bool) → cond b (cond b (integer_within (is_beyond (integer_value n)) (integer_value n)) no_integer) no_integer ≡ cond b (integer_within (is_beyond (integer_value n)) (integer_value n)) no_integer
    by true = refl
    by false = refl

some_word : {line : List ℕ} {w : Span} → TokenAt line 0 w → same_bytes (bytes_of "release") (place.between line w.start w.end) ≡ true → tokens line ≡ place.between line w.start w.end ∷ tokens (drop w.end line)
some_word {line} {w} (no_token p q e) h =
    let none-there : place.between line w.start w.end ≡ [] = ap₂ (place.between line) p q ∙ between_none line (length line) in
    absurd (true≢false (sym h ∙ ap (same_bytes (bytes_of "release")) none-there))
some_word (a_token f s i e) h = e

module _ {line : List ℕ} {w : Span} (first : TokenAt line 0 w) where
  pub number-other : same_bytes (bytes_of "release") (place.between line w.start w.end) ≡ false → no_integer ≡ release_read (tokens line)
  number-other h = not-release first h

  pub number_more : (length (tokens line) ≡ 2 → ⊥) → no_integer ≡ release_read (tokens line)
  number_more h = not_two (tokens line) h

  pub number-said : {n : Span} → same_bytes (bytes_of "release") (place.between line w.start w.end) ≡ true → length (tokens line) ≡ 2 → TokenAt line w.end n → integer_read (place.between line n.start n.end) ≡ release_read (tokens line)
  number-said {n} h two (no_token p q e) = let z = ap length (some_word first h) in let y = ap length e in absurd (omega arith)
  number-said {n} h two (a_token f s i e) = by (tokens (drop n.end line)) e
    where
      word : Token
      word = place.between line w.start w.end

      by : (ts : List Token) → tokens (drop w.end line) ≡ place.between line n.start n.end ∷ ts → integer_read (place.between line n.start n.end) ≡ release_read (tokens line)
      by [] q = said_read word (place.between line n.start n.end) h ∙ ap release_read (sym (some_word first h ∙ ap (λ ts. word ∷ ts) q))
      by (t ∷ ts) q = let z = ap length (some_word first h ∙ ap (λ us. word ∷ us) q) in absurd (omega arith)

-- No number beyond the bound is that of a release, and 0 is none.
beyond-other : (z : ℤ) (k : ℕ) → k ≤ 1000000000 → is_beyond z ≡ true → compares equal z (pos k) ≡ false
beyond-other (pos n) k l e = ap (λ b. b && leb k n) (lt-leb n k (omega (arith, ltb-true 1000000000 n e)))
beyond-other (negsuc n) k l e = refl

within_same : (z : ℤ) (k : ℕ) → 0 < k → k ≤ 1000000000 → compares equal (result_unwrap_or (integer_within (is_beyond z) z) (pos 0)) (pos k) ≡ compares equal z (pos k)
within_same z k p l = by (is_beyond z) refl
  where
    zero-other : (k : ℕ) → 0 < k → compares equal (pos 0) (pos k) ≡ false
    zero-other k h = ap₂ ◌&&◌ (le-leb 0 k (omega arith)) (lt-leb k 0 h)

    by : (b : Bool) → is_beyond z ≡ b → compares equal (result_unwrap_or (integer_within b z) (pos 0)) (pos k) ≡ compares equal z (pos k)
    by true e = zero-other k p ∙ sym (beyond-other z k l e)
    by false e = refl

-- A release line, from what is read of its number.
record NumberSaid (ts : List Token) (v : ℤ) : Type 0 where
  says : says_release ts ≡ true
  number : (k : ℕ) → 0 < k → k ≤ 1000000000 → compares equal v (pos k) ≡ compares equal (said_release ts) (pos k)

said-integer : (ts : List Token) → says_release ts ≡ true → is_integer (get_or ts 1 []) ≡ true
unfolding says_release
said-integer [] e = absurd (true≢false (sym e))
said-integer (w ∷ []) e = absurd (true≢false (sym e))
said-integer (w ∷ n ∷ []) e = by (same_bytes (bytes_of "release") w) e
  where
    by : (b : Bool) → b && is_integer n ≡ true → is_integer n ≡ true
    by true h = h
    by false h = absurd (true≢false (sym h))
said-integer (w ∷ n ∷ t ∷ ts) e = absurd (true≢false (sym e))

number-found : (ts : List Token) {r : IntegerRead} {v : ℤ} → r ≡ release_read ts → (r ≡ no_integer → ⊥) → v ≡ result_unwrap_or r (pos 0) → NumberSaid ts v
unfolding release_read said_release integer_read
number-found ts {r} {v} e o f = by (says_release ts) refl
  where
    n : Token
    n = get_or ts 1 []

    by : (b : Bool) → says_release ts ≡ b → NumberSaid ts v
    by true h =
        let read : r ≡ integer_within (is_beyond (integer_value n)) (integer_value n) = e ∙ ap (λ b. cond b (integer_read n) no_integer) h ∙ ap (λ b. cond b (integer_within (is_beyond (integer_value n)) (integer_value n)) no_integer) (said-integer ts h) in
        record {
          says = h;
          number = λ k p l. ap (λ x. compares equal x (pos k)) (f ∙ ap (λ x. result_unwrap_or x (pos 0)) read) ∙ within_same (integer_value n) k p l ∙ ap (λ b. compares equal (cond b (integer_value n) (pos 1)) (pos k)) (sym h);
        }
    by false h = absurd (o (e ∙ ap (λ b. cond b (integer_read n) no_integer) h))

number-missing : (ts : List Token) {r : IntegerRead} → r ≡ release_read ts → r ≡ no_integer → says_release ts ≡ false
unfolding release_read integer_read
number-missing ts {r} e o = by (says_release ts) refl
  where
    n : Token
    n = get_or ts 1 []

    by : (b : Bool) → says_release ts ≡ b → says_release ts ≡ false
    by true h =
        let read = e ∙ ap (λ b. cond b (integer_read n) no_integer) h ∙ ap (λ b. cond b (integer_within (is_beyond (integer_value n)) (integer_value n)) no_integer) (said-integer ts h) in
        absurd (within-some (is_beyond (integer_value n)) (integer_value n) (sym read ∙ o))
    by false h = h

module _ {text : List ℕ} {l : LineSpan} (line : LineAt text 0 l) {r : IntegerRead} (read : r ≡ release_read (tokens (place.between text 0 l.end))) where
  first_read : r ≡ release_read (first_tokens text)
  first_read = read ∙ ap release_read (first-bytes line)

  pub release-said : (r ≡ no_integer → ⊥) → {v : ℤ} → v ≡ result_unwrap_or r (pos 0) → {a b : Bool} → a ≡ compares equal v (pos 2) → b ≡ compares equal v (pos 1) || a → ReleaseOf text (record { known = b; floors = a; names_start = l.next })
  release-said o f {a} {b} p q =
      let n = number-found (first_tokens text) first_read o f in
      let floors = p ∙ n.number 2 (omega arith) (omega arith) in
      record { known = q ∙ ap₂ ◌||◌ (n.number 1 (omega arith) (omega arith)) floors; floors = floors; names = behind_release line n.says refl }

  pub release-unsaid : r ≡ no_integer → ReleaseOf text (record { known = true; floors = false; names_start = 0 })
  unfolding said_release
  release-unsaid o =
      let none = number-missing (first_tokens text) first_read o in
      let one : release_in text ≡ pos 1 = ap (λ b. cond b (integer_value (get_or (first_tokens text) 1 [])) (pos 1)) none in
      record { known = sym (ap is_known_release one); floors = sym (ap floors_quotients one); names = at_start none refl }

-- The lines from the names on.
pub names-lines : {text : List ℕ} {at : ℕ} → NamesLineFrom text at → (at ≤ length text) × (lines (drop at text) ≡ lines_from_names text)
names-lines {text} (behind_release {l} line e q) =
    let w = line-within line (omega arith) in
    (subst (λ n. n ≤ length text) (sym q) w.within, ap (λ n. lines (drop n text)) q ∙ line-rest line (omega arith) ∙ sym (ap (λ b. drop (cond b 1 0) (lines text)) e))
names-lines {text} (at_start e q) = (omega arith, ap (λ n. lines (drop n text)) q ∙ sym (ap (λ b. drop (cond b 1 0) (lines text)) e))

-- ---- the header

-- The first token's code tells whether a line says kinds.
code-says : (o : Option StreamKind) → not (eqb (code_or255 stream_kind_code o) 255) ≡ is_some_kind o
code-says none = refl
code-says (some read_kind) = refl
code-says (some set_kind) = refl

pub says_first : {line : List ℕ} {r : Span} {k : ℕ} → TokenAt line 0 r → k ≡ code_or255 stream_kind_code (stream_kind_of (place.between line r.start r.end)) → not (eqb k 255) ≡ says_kinds (tokens line)
unfolding says_kinds stream_kind_of stream_kind_tokens
says_first {line} {r} {k} (no_token p q e) h =
    let none-there : place.between line r.start r.end ≡ [] = ap₂ (place.between line) p q ∙ between_none line (length line) in
    ap (λ n. not (eqb n 255)) (h ∙ ap (λ t. code_or255 stream_kind_code (stream_kind_of t)) none-there) ∙ sym (ap says_kinds e)
says_first {line} {r} {k} (a_token f s w e) h =
    ap (λ n. not (eqb n 255)) h ∙ code-says (stream_kind_of (place.between line r.start r.end)) ∙ sym (ap says_kinds e)

-- A line that says kinds has a token, and so it is there.
said-some : (ts : List Token) → says_kinds ts ≡ true → some ts ≡ said_tokens ts
unfolding says_kinds
said-some [] e = absurd (true≢false (sym e))
said-some (t ∷ ts) e = refl

said-bytes : (l : List ℕ) → says_kinds (tokens l) ≡ true → 0 < length l
unfolding says_kinds tokens
said-bytes [] e = absurd (true≢false (sym e))
said-bytes (b ∷ l) e = omega arith

said-there : (text : List ℕ) (k : ℕ) → says_kinds (line_tokens text k) ≡ true → k < length (lines_from_names text)
unfolding says_kinds tokens
said-there text k e = by (dec_le (length (lines_from_names text)) k)
  where
    by : Dec (length (lines_from_names text) ≤ k) → k < length (lines_from_names text)
    by (yes h) = absurd (true≢false (sym e ∙ ap (λ l. says_kinds (tokens l)) (get_or-eq_default (lines_from_names text) [] h)))
    by (no h) = omega arith

no_tokens : said_tokens (tokens []) ≡ none
unfolding tokens
no_tokens = refl

-- What is found of the line of kinds, which begins behind three lines.
record KindsFound (text : List ℕ) (at : ℕ) (r : LineSpan) : Type 0 where
  kinds : kind_tokens text ≡ said_tokens (tokens (place.between text at r.end))
  ordered : at ≤ r.end
  within : r.end ≤ length text
  constraints : lines (drop r.next text) ≡ constraint_lines text
  constraints_within : r.next ≤ length text
  count : (layout_in text).constraints_from ≡ cond (ltb at r.end) 4 3
  whole : leb 3 (length (lines_from_names text)) ≡ leb (layout_in text).constraints_from (length (lines_from_names text))

module _ {text : List ℕ} {at : ℕ} (h : at ≤ length text) (behind : lines (drop at text) ≡ drop 3 (lines_from_names text)) where
  fourth_line : {l : LineSpan} → LineAt text at l → tokens (place.between text at l.end) ≡ line_tokens text 3
  fourth_line l = ap tokens (line_first l h ∙ ap (λ ls. get_or ls 0 []) behind ∙ get_or-drop 3 (lines_from_names text) 0 [])

  kinds_found : {r : LineSpan} → KindsLineAt text at r → KindsFound text at r
  kinds_found {r} (said l e) =
      let w = line-within l h in
      let fourth = fourth_line l in
      let says : says_kinds (line_tokens text 3) ≡ true = ap says_kinds (sym fourth) ∙ e in
      let there = said-there text 3 says in
      record {
        kinds = ap (λ b. tokens_at text (cond b (some 3) none)) says ∙ ap some (sym fourth) ∙ said-some (tokens (place.between text at r.end)) e;
        ordered = w.forward;
        within = let a = w.ordered in let b = w.within in omega arith;
        constraints = line-rest l h ∙ ap (drop 1) behind ∙ drop-drop 1 3 (lines_from_names text) ∙ sym (ap (λ b. drop (cond b 4 3) (lines_from_names text)) says);
        constraints_within = w.within;
        count =
            let some_byte = said-bytes (place.between text at r.end) e in
            let within : r.end ≤ length text = let a = w.ordered in let b = w.within in omega arith in
            let size = between-length text at r.end w.forward within in
            ap (λ b. cond b 4 3) (says ∙ sym (lt-ltb at r.end (omega arith)));
        whole = le-leb 3 (length (lines_from_names text)) (omega arith) ∙ sym (ap (λ b. leb (cond b 4 3) (length (lines_from_names text))) says ∙ le-leb 4 (length (lines_from_names text)) (omega arith));
      }
  kinds_found {r} (unsaid l e p q) =
      let unsays : says_kinds (line_tokens text 3) ≡ false = ap says_kinds (sym (fourth_line l)) ∙ e in
      record {
        kinds = ap (λ b. tokens_at text (cond b (some 3) none)) unsays ∙ sym (ap (λ n. said_tokens (tokens (place.between text at n))) p ∙ ap (λ l. said_tokens (tokens l)) (between_none text at) ∙ no_tokens);
        ordered = omega arith;
        within = omega arith;
        constraints = ap (λ n. lines (drop n text)) q ∙ behind ∙ sym (ap (λ b. drop (cond b 4 3) (lines_from_names text)) unsays);
        constraints_within = omega arith;
        count = ap (λ b. cond b 4 3) (unsays ∙ sym (le-ltb at r.end (omega arith)));
        whole = sym (ap (λ b. leb (cond b 4 3) (length (lines_from_names text))) unsays);
      }

pub header_lines : (text : List ℕ) {r : Release} {a b c d : LineSpan} → ReleaseOf text r → LineAt text r.names_start a → LineAt text a.next b → LineAt text b.next c → KindsLineAt text c.next d
    → {w : Bool} → w ≡ r.known && ltb b.next (length text)
    → HeaderOf text (record { names_start = r.names_start; names_end = a.end; lows_start = a.next; lows_end = b.end; highs_start = b.next; highs_end = c.end; kinds_start = c.next; kinds_end = d.end; constraints = d.next; floors = r.floors; whole = w })
header_lines text {r} {a} {b} {c} {d} R x y z k {w} e =
    let (start, all) = names-lines R.names in
    let p = line-within x start in
    let q = line-within y p.within in
    let s = line-within z q.within in
    let second : lines (drop a.next text) ≡ drop 1 (lines_from_names text) = line-rest x start ∙ ap (drop 1) all in
    let third : lines (drop b.next text) ≡ drop 2 (lines_from_names text) = line-rest y p.within ∙ ap (drop 1) second ∙ drop-drop 1 1 (lines_from_names text) in
    let fourth : lines (drop c.next text) ≡ drop 3 (lines_from_names text) = line-rest z q.within ∙ ap (drop 1) third ∙ drop-drop 1 2 (lines_from_names text) in
    let f = kinds_found s.within fourth k in
    record {
      names_from = R.names;
      names_at = x;
      lows_at = y;
      highs_at = z;
      kinds_line = k;
      names = line_first x start ∙ ap (λ ls. get_or ls 0 []) all;
      names_ordered = p.forward;
      names_within = let m = p.ordered in let n = p.within in omega arith;
      lows = line_first y p.within ∙ ap (λ ls. get_or ls 0 []) second ∙ get_or-drop 1 (lines_from_names text) 0 [];
      lows_ordered = q.forward;
      lows_within = let m = q.ordered in let n = q.within in omega arith;
      highs = line_first z q.within ∙ ap (λ ls. get_or ls 0 []) third ∙ get_or-drop 2 (lines_from_names text) 0 [];
      highs_ordered = s.forward;
      highs_within = let m = s.ordered in let n = s.within in omega arith;
      kinds = f.kinds;
      kinds_ordered = f.ordered;
      kinds_within = f.within;
      constraints = f.constraints;
      constraints_within = f.constraints_within;
      count = f.count;
      floors = R.floors;
      whole = e ∙ ap₂ ◌&&◌ R.known (line-there (lines_from_names text) 2 z third ∙ f.whole);
    }

-- ---- refusal 2

-- What the lines before a place have given of the constraint lines, and that none of them is too deep.
pub record Counted (text : List ℕ) (count total at : ℕ) : Type 0 where
  pub within : at ≤ length text
  pub few_lines : count ≤ at
  pub few_tokens : total ≤ at
  pub all_lines : count + length (lines (drop at text)) ≡ length (lines text)
  pub all_tokens : total + token_count (lines (drop at text)) ≡ token_count (lines text)
  pub deep : any_of (too_deep_from 0 0) (lines (drop at text)) ≡ any_of (too_deep_from 0 0) (lines text)

pub counted_start : (text : List ℕ) → Counted text 0 0 0
counted_start text = record { within = omega arith; few_lines = omega arith; few_tokens = omega arith; all_lines = omega arith; all_tokens = omega arith; deep = refl }

pub counted_step : {text : List ℕ} {count tokens₀ at : ℕ} {r : LineSpan} {n : ℕ} → Counted text count tokens₀ at → at < length text → LineAt text at r
    → false ≡ too_deep_from 0 0 (place.between text at r.end) → n ≡ length (tokens (place.between text at r.end)) → Counted text (count + 1) (tokens₀ + n) r.next
counted_step {text} {count} {tokens₀} {at} {r} {n} k h l d e =
    let w = line-within l k.within in
    let more = line-lines l h in
    let few = few-tokens in
    record {
      within = w.within;
      few_lines = let a = k.few_lines in let b = w.further h in omega arith;
      few_tokens = let a = k.few_tokens in let b = w.ordered in omega arith;
      all_lines = let a = ap length more in let b = k.all_lines in omega arith;
      all_tokens = let a = ap token_count more in let b = k.all_tokens in omega arith;
      deep = sym (ap (any_of (too_deep_from 0 0)) more ∙ ap (λ t. t || any_of (too_deep_from 0 0) (lines (drop r.next text))) (sym d)) ∙ k.deep;
    }
  where
    few-tokens : at + n ≤ r.end
    few-tokens =
        let w = line-within l k.within in
        let f = w.forward in
        let o = w.ordered in
        let i = w.within in
        let t = tokens-length (place.between text at r.end) in
        let b = between-length text at r.end f (omega arith) in
        omega arith

pub counted-deep : {text : List ℕ} {count tokens₀ at : ℕ} {r : LineSpan} → Counted text count tokens₀ at → at < length text → LineAt text at r
    → true ≡ too_deep_from 0 0 (place.between text at r.end) → true ≡ constraint_lines_refused (lines text)
unfolding constraint_lines_refused
counted-deep {text} {count} {tokens₀} {at} {r} k h l d =
    let deep : any_of (too_deep_from 0 0) (lines text) ≡ true = sym k.deep ∙ ap (any_of (too_deep_from 0 0)) (line-lines l h) ∙ ap (λ t. t || any_of (too_deep_from 0 0) (lines (drop r.next text))) (sym d) in
    sym (ap (λ t. ltb 32 (length (lines text)) || ltb 1024 (token_count (lines text)) || t) deep ∙ or_true (ltb 32 (length (lines text))) (ltb 1024 (token_count (lines text))))
  where
    or_true : (a b : Bool) → a || b || true ≡ true
    or_true true true = refl
    or_true true false = refl
    or_true false true = refl
    or_true false false = refl

pub counted-end : {text : List ℕ} {count tokens₀ at : ℕ} → Counted text count tokens₀ at → length text ≤ at → ltb 32 count || ltb 1024 tokens₀ ≡ constraint_lines_refused (lines text)
unfolding constraint_lines_refused
counted-end {text} {count} {tokens₀} {at} k h =
    let none = lines-past text at h in
    let c : count ≡ length (lines text) = let a = k.all_lines in let b = ap length none in omega arith in
    let t : tokens₀ ≡ token_count (lines text) = let a = k.all_tokens in let b = ap token_count none in omega arith in
    let d : any_of (too_deep_from 0 0) (lines text) ≡ false = sym k.deep ∙ ap (any_of (too_deep_from 0 0)) none in
    ap₂ (λ a b. ltb 32 a || ltb 1024 b) c t ∙ sym (ap (λ u. ltb 32 (length (lines text)) || ltb 1024 (token_count (lines text)) || u) d ∙ or_false (ltb 32 (length (lines text))) (ltb 1024 (token_count (lines text))))
  where
    or_false : (a b : Bool) → a || b || false ≡ a || b
    or_false true true = refl
    or_false true false = refl
    or_false false true = refl
    or_false false false = refl

pub lines-refused : {text : List ℕ} {h : Header} {n : ℕ} → HeaderOf text h → n ≡ length (tokens (place.between text h.names_start h.names_end)) → {t : Bool}
    → t ≡ constraint_lines_refused (lines (drop h.constraints text)) → ltb 8 n || t ≡ refuses2 text
unfolding refuses2 constraint_lines_refused
lines-refused {text} {h} {n} p e {t} d =
    let first : n ≡ length (tokens (get_or (lines_from_names text) 0 [])) = e ∙ ap (λ l. length (tokens l)) p.names in
    let rest = d ∙ ap constraint_lines_refused p.constraints in
    ap₂ (λ a b. ltb 8 a || b) first rest ∙ or_shift (ltb 8 (length (tokens (get_or (lines_from_names text) 0 [])))) (ltb 32 (length (constraint_lines text))) (ltb 1024 (token_count (constraint_lines text))) (any_of (too_deep_from 0 0) (constraint_lines text))
  where
    or_shift : (a b c d : Bool) → a || (b || c || d) ≡ a || b || c || d
    or_shift true true c d = refl
    or_shift true false c d = refl
    or_shift false b c d = refl
