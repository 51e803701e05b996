-- Laws of lines and tokens: what the tokens of a text are, and how lines and tokens are found from the front. All from the definitions.
use Prim.Native.Nat.{ℕ, suc, ◌≤◌, ◌<◌}
use mathlib.Core.Path.{◌≡◌, refl, sym, ap, ap₂, ◌∙◌}
use mathlib.Core.Bool.{Bool, true, false, not, true≢false}
use mathlib.Core.List.Memᴰ
use mathlib.Core.List.{List, [], ◌∷◌, ◌++◌, Memᴰ}
use native.Mathlib.Omega.{arith}
use lib.Dec.{T, eqb}
use lib.ListN.{length}
use Rattle.basics.proofs.Reflects.{T-reflects, to_true, to_false}
use Rattle.basics.proofs.Tests.{and_left, and_right, and_both, not-passed}
use Rattle.text.specs.Bytes.{Token, ByteClass, bracket, inside, between, is_bracket, is_inside, class_from, class_of, starts_inside, extend_first, add_to_tokens, tokens, add_to_lines, lines}
use Rattle.text.specs.Token.{all_bytes}

-- What the class of a byte says about it.
pub data HasClass (b : ℕ) : ByteClass → Type 0 where
  a_bracket : T (is_bracket b) → HasClass b bracket
  an_inside : T (is_inside b) → HasClass b inside
  a_between : is_bracket b ≡ false → is_inside b ≡ false → HasClass b between

pub class_of_has : (b : ℕ) → HasClass b (class_of b)
class_of_has b = by (is_bracket b) (is_inside b) refl refl
  where
    by : (i j : Bool) → is_bracket b ≡ i → is_inside b ≡ j → HasClass b (class_from i j)
    by true j p q = a_bracket (rw p tt)
    by false true p q = an_inside (rw q tt)
    by false false p q = a_between p q

-- A byte inside a run is no bracket.
pub inside-not_bracket : (b : ℕ) → T (is_inside b) → is_bracket b ≡ false
inside-not_bracket b t = not-passed (is_bracket b) (search (and_right))

pub bracket_not_inside : (b : ℕ) → T (is_bracket b) → is_inside b ≡ false
bracket_not_inside b t = to_false (T-reflects (is_inside b)) (λ h. true≢false (sym (to_true (T-reflects (is_bracket b)) t) ∙ inside-not_bracket b h))

inside-class : (b : ℕ) → T (is_inside b) → class_of b ≡ inside
inside-class b t = rw (to_true (T-reflects (is_inside b)) t, inside-not_bracket b t)

-- A token is a bracket by itself, or a run of bytes inside, at least one.
pub data IsToken : Token → Type 0 where
  bracket_token : {b : ℕ} → T (is_bracket b) → IsToken (b ∷ [])
  run : {b : ℕ} {bs : List ℕ} → T (is_inside b) → T (all_bytes is_inside bs) → IsToken (b ∷ bs)

pub IsToken-nonempty : {t : Token} → IsToken t → 0 < length t
IsToken-nonempty (bracket_token h) = omega arith
IsToken-nonempty (run h hs) = omega arith

-- The tokens of bytes that begin inside a run begin with that run.
pub data BeginsWithRun : List Token → Type 0 where
  begins : {t : Token} {ts : List Token} → T (all_bytes is_inside t) → BeginsWithRun (t ∷ ts)

abbrev EachToken : List Token → Type 0
EachToken [] = Unit
EachToken (t ∷ ts) = IsToken t × EachToken ts

add_to_tokens-begins : (g : Bool) (b : ℕ) (ts : List Token) → T (is_inside b) → (g ≡ true → BeginsWithRun ts) → BeginsWithRun (add_to_tokens inside g b ts)
add_to_tokens-begins true b [] h first = begins (and_both (is_inside b) true h tt)
add_to_tokens-begins true b (t ∷ ts) h first = extended (first refl)
  where
    extended : BeginsWithRun (t ∷ ts) → BeginsWithRun ((b ∷ t) ∷ ts)
    extended (begins r) = begins (and_both (is_inside b) (all_bytes is_inside t) h r)
add_to_tokens-begins false b ts h first = begins (and_both (is_inside b) true h tt)

pub tokens-begin : (l : List ℕ) → starts_inside l ≡ true → BeginsWithRun (tokens l)
unfolding tokens
tokens-begin [] e = absurd (true≢false (sym e))
tokens-begin (b ∷ bs) e =
    let h : T (is_inside b) = rw e tt in
    rw (inside-class b h) (add_to_tokens-begins (starts_inside bs) b (tokens bs) h (tokens-begin bs))

extend_first-each : (b : ℕ) (ts : List Token) → T (is_inside b) → EachToken ts → BeginsWithRun ts → EachToken (extend_first b ts)
extend_first-each b (t ∷ ts) h each (begins r) = (run h r, each.1)
extend_first-each b [] h each x3 = elim x3 [ ]

add_to_tokens-each : {c : ByteClass} (g : Bool) (b : ℕ) (ts : List Token) → HasClass b c → EachToken ts → (g ≡ true → BeginsWithRun ts) → EachToken (add_to_tokens c g b ts)
add_to_tokens-each g b ts (a_bracket h) each first = (bracket_token h, each)
add_to_tokens-each true b ts (an_inside h) each first = extend_first-each b ts h each (first refl)
add_to_tokens-each false b ts (an_inside h) each first = (run h tt, each)
add_to_tokens-each g b ts (a_between h k) each first = each

tokens-each : (l : List ℕ) → EachToken (tokens l)
unfolding tokens
tokens-each [] = tt
tokens-each (b ∷ bs) = add_to_tokens-each (starts_inside bs) b (tokens bs) (class_of_has b) (tokens-each bs) (tokens-begin bs)

each_member : {t : Token} (ts : List Token) → EachToken ts → Memᴰ t ts → IsToken t
each_member (t ∷ ts) each (Memᴰ.head e) = rw e each.0
each_member (t ∷ ts) each (Memᴰ.tail m) = each_member ts each.1 m
each_member {t = t} [] each x'' = elim x'' [ ]

-- Every token of a text is a bracket or has only bytes inside, and none is empty.
pub tokens-member : (l : List ℕ) {t : Token} → Memᴰ t (tokens l) → IsToken t
tokens-member l m = each_member (tokens l) (tokens-each l) m

-- Bytes that do not begin inside a run leave the tokens before them as they are.
starts_inside-append : (l m : List ℕ) → starts_inside m ≡ false → starts_inside (l ++ m) ≡ starts_inside l
starts_inside-append [] m e = e
starts_inside-append (b ∷ bs) m e = refl

add_to_tokens-append : (c : ByteClass) (g : Bool) (b : ℕ) (ts us : List Token) → (g ≡ true → BeginsWithRun ts) → add_to_tokens c g b (ts ++ us) ≡ add_to_tokens c g b ts ++ us
add_to_tokens-append bracket g b ts us first = refl
add_to_tokens-append inside true b [] us first = absurd (none (first refl))
  where
    none : BeginsWithRun [] → ⊥
    none h = elim h [ ]
add_to_tokens-append inside true b (t ∷ ts) us first = refl
add_to_tokens-append inside false b ts us first = refl
add_to_tokens-append between g b ts us first = refl

pub tokens_append : (l m : List ℕ) → starts_inside m ≡ false → tokens (l ++ m) ≡ tokens l ++ tokens m
unfolding tokens
tokens_append [] m e = refl
tokens_append (b ∷ bs) m e =
    ap₂ (λ g ts. add_to_tokens (class_of b) g b ts) (starts_inside-append bs m e) (tokens_append bs m e)
    ∙ add_to_tokens-append (class_of b) (starts_inside bs) b (tokens bs) (tokens m) (tokens-begin bs)

-- A byte between tokens parts them, and a bracket is a token by itself.
pub tokens-between : (l : List ℕ) (c : ℕ) (m : List ℕ) → HasClass c between → tokens (l ++ (c ∷ m)) ≡ tokens l ++ tokens m
unfolding tokens
tokens-between l c m (a_between p q) = tokens_append l (c ∷ m) q ∙ ap (λ k. tokens l ++ add_to_tokens k (starts_inside m) c (tokens m)) (ap₂ class_from p q)

pub tokens_bracket : (l : List ℕ) (c : ℕ) (m : List ℕ) → HasClass c bracket → tokens (l ++ (c ∷ m)) ≡ tokens l ++ ((c ∷ []) ∷ tokens m)
unfolding tokens
tokens_bracket l c m (a_bracket t) = tokens_append l (c ∷ m) (bracket_not_inside c t) ∙ ap (λ i. tokens l ++ add_to_tokens (class_from i (is_inside c)) (starts_inside m) c (tokens m)) (to_true (T-reflects (is_bracket c)) t)

-- A run, up to a byte that is not inside, is one token.
pub tokens-run : (b : ℕ) (w m : List ℕ) → T (all_bytes is_inside (b ∷ w)) → starts_inside m ≡ false → tokens ((b ∷ w) ++ m) ≡ (b ∷ w) ∷ tokens m
unfolding tokens
tokens-run b [] m t e = ap₂ (λ k g. add_to_tokens k g b (tokens m)) (inside-class b (and_left (is_inside b) true t)) e
tokens-run b (c ∷ w) m t e =
    let others : T (all_bytes is_inside (c ∷ w)) = and_right (is_inside b) (all_bytes is_inside (c ∷ w)) t in
    let goes_on : is_inside c ≡ true = to_true (T-reflects (is_inside c)) (and_left (is_inside c) (all_bytes is_inside w) others) in
    ap₂ (λ k g. add_to_tokens k g b (tokens ((c ∷ w) ++ m))) (inside-class b (and_left (is_inside b) (all_bytes is_inside (c ∷ w)) t)) goes_on
    ∙ ap (extend_first b) (tokens-run c w m others e)

-- A byte of a line, not its end.
abbrev pub is_of_line : ℕ → Bool
is_of_line b = not (eqb b 10)

-- A byte 10 ends the line before it, and the last line may lack it.
pub lines_end : (l m : List ℕ) → T (all_bytes is_of_line l) → lines (l ++ (10 ∷ m)) ≡ l ∷ lines m
unfolding lines
lines_end [] m t = refl
lines_end (b ∷ l) m t =
    ap₂ (λ g ls. add_to_lines g b ls) (not-passed (eqb b 10) (and_left (is_of_line b) (all_bytes is_of_line l) t)) (lines_end l m (and_right (is_of_line b) (all_bytes is_of_line l) t))

pub lines-last : (b : ℕ) (l : List ℕ) → T (all_bytes is_of_line (b ∷ l)) → lines (b ∷ l) ≡ (b ∷ l) ∷ []
unfolding lines
lines-last b [] t = ap (λ g. add_to_lines g b []) (not-passed (eqb b 10) (and_left (is_of_line b) true t))
lines-last b (c ∷ l) t =
    ap₂ (λ g ls. add_to_lines g b ls) (not-passed (eqb b 10) (and_left (is_of_line b) (all_bytes is_of_line (c ∷ l)) t)) (lines-last c l (and_right (is_of_line b) (all_bytes is_of_line (c ∷ l)) t))

-- No line holds a byte 10.
abbrev AreLines : List (List ℕ) → Type 0
AreLines ls = (l : List ℕ) → Memᴰ l ls → T (all_bytes is_of_line l)

add_to_lines_are : (g : Bool) (b : ℕ) (ls : List (List ℕ)) → (g ≡ false → T (is_of_line b)) → AreLines ls → AreLines (add_to_lines g b ls)
add_to_lines_are true b ls h are l (Memᴰ.head e) = rw e tt
add_to_lines_are true b ls h are l (Memᴰ.tail m) = are l m
add_to_lines_are false b [] h are l (Memᴰ.head e) = rw e (and_both (is_of_line b) true (h refl) tt)
add_to_lines_are false b [] h are l (Memᴰ.tail m) = are l m
add_to_lines_are false b (k ∷ ls) h are l (Memᴰ.head e) = rw e (and_both (is_of_line b) (all_bytes is_of_line k) (h refl) (are k (Memᴰ.head refl)))
add_to_lines_are false b (k ∷ ls) h are l (Memᴰ.tail m) = are l (Memᴰ.tail m)

pub lines-member : (text : List ℕ) (l : List ℕ) → Memᴰ l (lines text) → T (all_bytes is_of_line l)
unfolding lines
lines-member [] l m = absurd (Memᴰ.not-nil m)
lines-member (b ∷ bs) l m = add_to_lines_are (eqb b 10) b (lines bs) (λ e. rw e tt) (lines-member bs) l m

-- A text has at most as many tokens as bytes.
tokens_add : (c : ByteClass) (g : Bool) (b : ℕ) (ts : List Token) → length (add_to_tokens c g b ts) ≤ suc (length ts)
tokens_add bracket g b ts = omega arith
tokens_add inside true b [] = omega arith
tokens_add inside true b (t ∷ ts) = omega arith
tokens_add inside false b ts = omega arith
tokens_add between g b ts = omega arith

pub tokens-length : (l : List ℕ) → length (tokens l) ≤ length l
unfolding tokens
tokens-length [] = omega arith
tokens-length (b ∷ l) = let z = tokens-length l in let w = tokens_add (class_of b) (starts_inside l) b (tokens l) in omega arith
