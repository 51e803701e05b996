-- Where the constraint lines begin: behind a release line and the header lines, which are found one after the other. The tokens from there on are those of the constraint
-- lines.
use Prim.Native.Nat.{ℕ, zero, suc, ◌+◌, ◌-◌, ◌<◌, ◌≤◌, min}
use native.Mathlib.Omega.{arith}
use native.Mathlib.Decide.{dec_le}
use native.Mathlib.Nat.{zero-add}
use mathlib.Core.Path.{◌≡◌, refl, sym, ap, ◌∙◌}
use mathlib.Core.Bool.{Bool, true, false, cond, true≢false}
use mathlib.Core.List.{List, [], ◌∷◌, ◌++◌}
use borrow.Author.Tests.{eqb-true, lt-ltb, le-ltb}
use lib.Dec.{eqb, ltb}
use lib.ListN.{length, take, drop, length-drop}
use lib.Seq.{drop-drop}
use Rattle.text.specs.Bytes.{Token, is_inside, starts_inside, lines, tokens, add_to_lines}
use Rattle.text.proofs.Bytes.{tokens_append}
use Rattle.meaning.specs.Window.{join_over}
use Rattle.sheet.specs.Form.{release_lines, says_kinds, constraint_lines, layout_in}
use Rattle.scan.specs.declared.LineSpan.{LineSpan}
use Rattle.scan.specs.Place.{between, LineAt, no_line, ended_line, last_line}
use Rattle.scan.proofs.Tokens.{between-length}
use Rattle.refusals.specs.Places.{NamesLineFrom, behind_release, at_start, KindsLineAt, said, unsaid, HeaderOf}
use Rattle.refusals.specs.declared.Header.{Header}
use Rattle.spans.specs.Spans.{line_offset, constraints_to, constraints_offset, spans_in}

pub start-within : (k : ℕ) (l : List ℕ) → line_offset k l ≤ length l
unfolding line_offset
start-within zero l = omega arith
start-within (suc k) [] = omega arith
start-within (suc k) (b ∷ l) = by (eqb b 10) (start-within k l) (start-within (suc k) l)
  where
    by : (m : Bool) → line_offset k l ≤ length l → line_offset (suc k) l ≤ length l → suc (cond m (line_offset k l) (line_offset (suc k) l)) ≤ suc (length l)
    by true h i = omega arith
    by false h i = omega arith

-- ---- the place behind lines that are found one after the other

abbrev first_of : List (List ℕ) → List ℕ
first_of [] = []
first_of (l ∷ ls) = l

-- The first line with its byte 10, if it has one.
first_offset : (l : List ℕ) → line_offset 1 l ≡ min (suc (length (first_of (lines l)))) (length l)
unfolding line_offset lines
first_offset [] = omega arith
first_offset (b ∷ l) = by (eqb b 10) (lines l) (first_offset l)
  where
    by : (m : Bool) (ls : List (List ℕ)) → line_offset 1 l ≡ min (suc (length (first_of ls))) (length l) → suc (cond m 0 (line_offset 1 l)) ≡ min (suc (length (first_of (add_to_lines m b ls)))) (suc (length l))
    by true ls h = omega arith
    by false [] h = omega arith
    by false (x ∷ ls) h = omega arith

offset_none : (l : List ℕ) → 0 ≡ line_offset 0 l
unfolding line_offset
offset_none l = refl

-- One line more.
offset_more : (k : ℕ) (l : List ℕ) → line_offset (suc k) l ≡ line_offset k l + line_offset 1 (drop (line_offset k l) l)
unfolding line_offset
offset_more zero l = sym (zero-add (line_offset 1 l))
offset_more (suc k) [] = refl
offset_more (suc k) (b ∷ l) = by (eqb b 10) (offset_more k l) (offset_more (suc k) l)
  where
    by : (m : Bool) → line_offset (suc k) l ≡ line_offset k l + line_offset 1 (drop (line_offset k l) l) → line_offset (suc (suc k)) l ≡ line_offset (suc k) l + line_offset 1 (drop (line_offset (suc k) l) l)
        → suc (cond m (line_offset (suc k) l) (line_offset (suc (suc k)) l)) ≡ suc (cond m (line_offset k l) (line_offset (suc k) l)) + line_offset 1 (drop (cond m (line_offset k l) (line_offset (suc k) l)) l)
    by true h i = omega arith
    by false h i = omega arith

-- A line that is found ends where the bytes of one line more do.
line_offset_lem : {text : List ℕ} {at : ℕ} {r : LineSpan} (k : ℕ) → at ≡ line_offset k text → LineAt text at r → r.next ≡ line_offset (suc k) text
line_offset_lem {text} {at} {r} k e found =
    let within = start-within k text in
    let rest = length-drop at text in
    let size = first_offset (drop at text) in
    let more : line_offset (suc k) text ≡ at + line_offset 1 (drop at text) = offset_more k text ∙ sym (ap (λ n. n + line_offset 1 (drop n text)) e) in
    by found within rest size more
  where
    by : LineAt text at r → line_offset k text ≤ length text → length (drop at text) ≡ length text - at → line_offset 1 (drop at text) ≡ min (suc (length (first_of (lines (drop at text))))) (length (drop at text))
        → line_offset (suc k) text ≡ at + line_offset 1 (drop at text) → r.next ≡ line_offset (suc k) text
    by (no_line l p q n) within rest size more = omega arith
    by (ended_line f w q n) within rest size more =
        let long : length (first_of (lines (drop at text))) ≡ r.end - at = ap (λ ls. length (first_of ls)) n ∙ between-length text at r.end f (omega arith) in omega arith
    by (last_line f p q n) within rest size more =
        let long : length (first_of (lines (drop at text))) ≡ r.end - at = ap (λ ls. length (first_of ls)) n ∙ between-length text at r.end (omega arith) (omega arith) in omega arith

-- A line that says kinds has a byte.
said-bytes : (text : List ℕ) (at end : ℕ) → at ≤ end → says_kinds (tokens (between text at end)) ≡ true → at < end
unfolding says_kinds tokens
said-bytes text at end h e = by (dec_le end at)
  where
    by : Dec (end ≤ at) → at < end
    by (yes l) = let n : end - at ≡ 0 = omega arith in absurd (true≢false (sym e ∙ ap (λ k. says_kinds (tokens (take k (drop at text)))) n))
    by (no l) = omega arith

-- The constraint lines begin behind the header lines.
pub constraints_offset_lem : {text : List ℕ} {h : Header} → HeaderOf text h → h.constraints ≡ constraints_offset text
constraints_offset_lem {text} {h} H = by H.kinds_line
  where
    n : ℕ
    n = release_lines text

    names : NamesLineFrom text h.names_start → h.names_start ≡ line_offset n text
    names (behind_release line e q) = q ∙ line_offset_lem 0 (offset_none text) line ∙ ap (λ b. line_offset (cond b 1 0) text) (sym e)
    names (at_start e q) = q ∙ offset_none text ∙ ap (λ b. line_offset (cond b 1 0) text) (sym e)

    third : h.kinds_start ≡ line_offset (suc (suc (suc n))) text
    third = line_offset_lem (suc (suc n)) (line_offset_lem (suc n) (line_offset_lem n (names H.names_from) H.names_at) H.lows_at) H.highs_at

    -- The place behind some lines from the names on.
    moved : (k m : ℕ) → k ≡ n + m → {c : ℕ} → c ≡ m → line_offset k text ≡ line_offset (n + c) text
    moved k m e q = ap (λ j. line_offset j text) (e ∙ ap (λ j. n + j) (sym q))

    counted : (b : Bool) → ltb h.kinds_start h.kinds_end ≡ b → (layout_in text).constraints_from ≡ cond b 4 3
    counted b e = H.count ∙ ap (λ m. cond m 4 3) e

    by : KindsLineAt text h.kinds_start (record { end = h.kinds_end; next = h.constraints }) → h.constraints ≡ constraints_offset text
    by (said found e) =
        let some = said-bytes text h.kinds_start h.kinds_end H.kinds_ordered e in
        line_offset_lem (suc (suc (suc n))) third found ∙ moved (suc (suc (suc (suc n)))) 4 (omega arith) (counted true (lt-ltb h.kinds_start h.kinds_end some))
    by (unsaid found e end next) = next ∙ third ∙ moved (suc (suc (suc n))) 3 (omega arith) (counted false (le-ltb h.kinds_start h.kinds_end (omega arith)))

-- The spans of a text that is too long, and of one that is not.
pub spans-long : (text : List ℕ) → 65535 < length text → spans_in text ≡ []
unfolding spans_in
spans-long text h = ap (λ m. cond m [] (constraints_to text (suc (length text)) (constraints_offset text))) (lt-ltb 65535 (length text) h)

pub spans-short : (text : List ℕ) → length text ≤ 65535 → spans_in text ≡ constraints_to text (suc (length text)) (constraints_offset text)
unfolding spans_in
spans-short text h = ap (λ m. cond m [] (constraints_to text (suc (length text)) (constraints_offset text))) (le-ltb 65535 (length text) h)

-- ---- the tokens of lines

abbrev pub tokens_of : List (List ℕ) → List Token
tokens_of ls = join_over tokens ls

-- A text and its lines: the first line, and what stands behind it.
data Lines (text : List ℕ) : List (List ℕ) → Type 0 where
  nothing : text ≡ [] → Lines text []
  line : {l : List ℕ} {ls : List (List ℕ)} (m : List ℕ) → text ≡ l ++ m → starts_inside m ≡ false → tokens m ≡ tokens_of ls → Lines text (l ∷ ls)

lines_join : {text : List ℕ} {ls : List (List ℕ)} → Lines text ls → tokens text ≡ tokens_of ls
unfolding tokens
lines_join (nothing e) = ap tokens e
lines_join (line {l} m e f q) = ap tokens e ∙ tokens_append l m f ∙ ap (λ ts. tokens l ++ ts) q

ten-passed : (b : ℕ) (bs : List ℕ) → b ≡ 10 → tokens (b ∷ bs) ≡ tokens bs
unfolding tokens
ten-passed b bs e = ap (λ c. tokens (c ∷ bs)) e

split : (text : List ℕ) → Lines text (lines text)
unfolding lines tokens
split [] = nothing refl
split (b ∷ bs) = by (eqb b 10) refl (split bs)
  where
    by : {ls : List (List ℕ)} (m : Bool) → eqb b 10 ≡ m → Lines bs ls → Lines (b ∷ bs) (add_to_lines m b ls)
    by true e h = let ten = eqb-true b 10 e in line (b ∷ bs) refl (ap is_inside ten) (ten-passed b bs ten ∙ lines_join h)
    by false e (nothing q) = line [] (ap (λ l. b ∷ l) q) refl refl
    by false e (line m q f k) = line m (ap (λ l. b ∷ l) q) f k

drop-nothing : (k : ℕ) → drop {A = List ℕ} k [] ≡ []
drop-nothing zero = refl
drop-nothing (suc k) = refl

drop-longer : (k b : ℕ) (ls : List (List ℕ)) → drop (suc k) (add_to_lines false b ls) ≡ drop (suc k) ls
drop-longer k b [] = drop-nothing k
drop-longer k b (l ∷ ls) = refl

-- The tokens from the start of a line on are those of the lines from it on.
start-tokens : (k : ℕ) (text : List ℕ) → tokens (drop (line_offset k text) text) ≡ tokens_of (drop k (lines text))
unfolding line_offset lines tokens
start-tokens zero text = lines_join (split text)
start-tokens (suc k) [] = refl
start-tokens (suc k) (b ∷ bs) = by (eqb b 10) (start-tokens k bs) (start-tokens (suc k) bs)
  where
    by : (m : Bool) → tokens (drop (line_offset k bs) bs) ≡ tokens_of (drop k (lines bs)) → tokens (drop (line_offset (suc k) bs) bs) ≡ tokens_of (drop (suc k) (lines bs))
        → tokens (drop (suc (cond m (line_offset k bs) (line_offset (suc k) bs))) (b ∷ bs)) ≡ tokens_of (drop (suc k) (add_to_lines m b (lines bs)))
    by true h i = h
    by false h i = i ∙ ap tokens_of (sym (drop-longer k b (lines bs)))

-- Those from the start of the constraint lines on.
pub constraint-tokens : (text : List ℕ) → tokens (drop (constraints_offset text) text) ≡ tokens_of (constraint_lines text)
constraint-tokens text =
    start-tokens (release_lines text + (layout_in text).constraints_from) text ∙ ap tokens_of (sym (drop-drop (layout_in text).constraints_from (release_lines text) (lines text)))
