-- How long the lines can be: at most 32 bytes for a refusal and for two numbers, 128 for a heading, 256 for an entry and for a name with numbers and a
-- count, and for the names and the values of eight streams 73 and 169.
use Prim.Native.Nat.{ℕ, zero, suc, ◌+◌, ◌*◌, ◌/◌, ◌%◌, ◌^◌, ◌≤◌, ◌<◌, min}
use native.Mathlib.Omega.{arith}
use native.Mathlib.Nat.{div-one, div-lt_iff_lt-mul, le-div_iff_mul-le, div-div-eq-div-mul, pow-succ', one-le-pow}
use mathlib.Core.Path.{◌≡◌, refl, sym, ◌∙◌, ap}
use mathlib.Core.Bool.{Bool, true, false}
use mathlib.Core.List.{List, [], ◌∷◌, ◌++◌, map}
use lib.Dec.{ltb}
use lib.IntN.{ℤ, pos, negsuc}
use lib.ListN.{length, get_or, take, drop, length-append, length-take}
use borrow.Author.Tests.{ltb-true, ltb-false}
use mir.Syntax.{w64}
use mir.Val.{SFits}
use Rattle.text.specs.Bytes.{Token}
use Rattle.meaning.specs.Letter.{Letter, IsLetter, none, more}
use Rattle.letters.specs.Described.{described}
use Rattle.letters.proofs.Above.{between-fits}
use Rattle.print.specs.Text.{digits, decimal, spaced, line, tokens_line, heading_line, entry_line, refusal_line}
use Rattle.sheet.specs.Names.{name_in}
use Rattle.print.specs.Lines.{stored_names, AllFit}
use Rattle.print.proofs.Decimal.{digits-one, digits_more}
use Rattle.print.proofs.Lines.{spaced-more}

-- ---- digits

abbrev tens : ℕ → ℕ
tens zero = 1
tens (suc k) = tens k * 10

pub one-digit : (n : ℕ) → n < 10 → length (digits n) ≡ 1
one-digit n h = ap length (digits-one n h)

pub more-digits : (n : ℕ) → 10 ≤ n → length (digits n) ≡ length (digits (n / 10)) + 1
more-digits n h = ap length (digits_more n h) ∙ length-append (digits (n / 10)) ((48 + n % 10) ∷ [])

pub some-digit : (n : ℕ) → 1 ≤ length (digits n)
some-digit n = by (ltb n 10) refl
  where
    by : (t : Bool) → ltb n 10 ≡ t → 1 ≤ length (digits n)
    by true e = let o = one-digit n (ltb-true n 10 e) in omega arith
    by false e = let m = more-digits n (ltb-false n 10 e) in omega arith

-- A number from 10 to the power of k on has k digits more than what is left without the last k.
pub without-last : (k n : ℕ) → 10 ^ k ≤ n → length (digits n) ≡ length (digits (n / 10 ^ k)) + k
without-last zero n h = let e = ap (λ r. length (digits r)) (div-one n) in omega arith
without-last (suc k) n h =
    let some = one-le-pow k 10 (omega arith) in
    let p = pow-succ' 10 k in
    let m = more-digits n (omega arith) in
    let again = without-last k (n / 10) ((le-div_iff_mul-le {k = 10} {x = 10 ^ k} {y = n} (omega arith)).1 (omega arith)) in
    let e = ap (λ r. length (digits r)) (div-div-eq-div-mul n 10 (10 ^ k) ∙ ap (n /◌) (sym p)) in
    omega arith

-- Below ten times that power it has k digits and one more.
pub between-powers : (k n : ℕ) → 10 ^ k ≤ n → n < 10 * 10 ^ k → length (digits n) ≡ suc k
between-powers k n h b =
    let m = without-last k n h in
    let o = one-digit (n / 10 ^ k) ((div-lt_iff_lt-mul {k = 10 ^ k} {x = n} {y = 10} (one-le-pow k 10 (omega arith))).1 b) in
    omega arith

-- A number below 10 to the power of k has at most k digits, where k is not 0.
pub digits-length : (k n : ℕ) → n < tens (suc k) → length (digits n) ≤ suc k
digits-length zero n h = let o = one-digit n (omega arith) in omega arith
digits-length (suc k) n h = by (digits-length k (n / 10)) (ltb n 10) refl
  where
    by : (n / 10 < tens (suc k) → length (digits (n / 10)) ≤ suc k) → (t : Bool) → ltb n 10 ≡ t → length (digits n) ≤ suc (suc k)
    by again true e = let o = one-digit n (ltb-true n 10 e) in omega arith
    by again false e =
        let m = more-digits n (ltb-false n 10 e) in
        let l = again ((div-lt_iff_lt-mul {k = 10} {x = n} {y = tens (suc k)} (omega arith)).1 h) in
        omega arith

-- A number of the machine takes at most 20 bytes, with its sign.
pub natural-length : (n : ℕ) → n < 18446744073709551616 → length (digits n) ≤ 20
natural-length n h = digits-length 19 n (omega arith)

pub integer-length : (z : ℤ) → SFits w64 z → length (decimal z) ≤ 20
integer-length (pos n) f = natural-length n (omega arith)
integer-length (negsuc n) f = let l = digits-length 18 (suc n) (omega arith) in omega arith

-- ---- lines

pub refusal-length : (number : ℕ) → number < 4294967296 → length (refusal_line number) ≤ 32
refusal-length number h = let l = digits-length 9 number (omega arith) in let a = length-append (digits number) (10 ∷ []) in omega arith

pub pair-length : (first second : ℕ) → first < 18446744073709551616 → second < 4294967296 → length (line (decimal (pos first) ∷ []) (decimal (pos second))) ≤ 32
pair-length first second f s =
    let rest = digits second ++ (10 ∷ []) in
    let a = length-append (digits first ++ (32 ∷ [])) rest in
    let b = length-append (digits first) (32 ∷ []) in
    let c = length-append (digits second) (10 ∷ []) in
    let p = natural-length first f in
    let q = digits-length 9 second (omega arith) in
    omega arith

-- Names of at most eight bytes.
names-length : (names lengths : List ℕ) (k : ℕ) → length (spaced (stored_names names lengths k)) ≤ 9 * k
unfolding stored_names
names-length names lengths zero = omega arith
names-length names lengths (suc k) =
    let name = name_in names lengths k in
    let h = names-length names lengths k in
    let e = ap length (spaced-more (stored_names names lengths k) name) in
    let a = length-append (spaced (stored_names names lengths k)) (name ++ (32 ∷ [])) in
    let b = length-append name (32 ∷ []) in
    let t = length-take (min (get_or lengths k 0) 8) (drop (k * 8) names) in
    omega arith

pub heading_length : (names lengths : List ℕ) (streams : ℕ) → length (heading_line (stored_names names lengths (min streams 8))) ≤ 128
heading_length names lengths streams =
    let h = names-length names lengths (min streams 8) in
    let a = length-append (spaced (stored_names names lengths (min streams 8))) (110 ∷ 101 ∷ 120 ∷ 116 ∷ 10 ∷ []) in
    omega arith

values_length : (vs : List ℤ) → AllFit vs → length (spaced (map decimal vs)) ≤ 21 * length vs
values_length [] f = omega arith
values_length (v ∷ vs) f =
    let a = length-append (decimal v) (32 ∷ spaced (map decimal vs)) in
    let l = integer-length v f.0 in
    let h = values_length vs f.1 in
    omega arith

-- A line of tokens has at most one byte more than the tokens with a space after each.
tokens-length : (ts : List Token) → length (tokens_line ts) ≤ suc (length (spaced ts))
tokens-length [] = omega arith
tokens-length (t ∷ []) = omega (arith, length-append t (10 ∷ []), length-append t (32 ∷ []))
tokens-length (t ∷ (u ∷ ts)) =
    omega (arith, length-append t (32 ∷ tokens_line (u ∷ ts)), length-append t (32 ∷ spaced (u ∷ ts)), tokens-length (u ∷ ts))

pub names-line-length : (names lengths : List ℕ) (streams : ℕ) → length (tokens_line (stored_names names lengths (min streams 8))) ≤ 73
names-line-length names lengths streams =
    let names' = stored_names names lengths (min streams 8) in omega (arith, tokens-length names', names-length names lengths (min streams 8))

pub numbers-line-length : (vs : List ℤ) → AllFit vs → length vs ≤ 8 → length (tokens_line (map decimal vs)) ≤ 169
numbers-line-length vs f n = omega (arith, tokens-length (map decimal vs), values_length vs f)

pub entry_length : (state final : ℕ) (values : List ℤ) (next : ℕ) → state < 18446744073709551616 → final < 256 → AllFit values → length values ≤ 8 → next < 65536
    → length (entry_line state final values next) ≤ 256
entry_length state final values next s f v n x =
    let vs = spaced (map decimal values) in
    let rest = digits final ++ (32 ∷ vs) in
    let a = length-append (digits state ++ (32 ∷ rest)) (digits next ++ (10 ∷ [])) in
    let b = length-append (digits state) (32 ∷ rest) in
    let c = length-append (digits final) (32 ∷ vs) in
    let d = length-append (digits next) (10 ∷ []) in
    let p = natural-length state s in
    let q = digits-length 2 final (omega arith) in
    let r = values_length values v in
    let t = digits-length 4 next (omega arith) in
    omega arith

pub named-length : (name : Token) (values : List ℤ) (count : ℕ) → length name ≤ 8 → AllFit values → length values ≤ 8 → count < 18446744073709551616
    → length (line (name ∷ map decimal values) (decimal (pos count))) ≤ 256
named-length name values count s f v n =
    let vs = spaced (map decimal values) in
    let a = length-append (name ++ (32 ∷ vs)) (digits count ++ (10 ∷ [])) in
    let b = length-append name (32 ∷ vs) in
    let c = length-append (digits count) (10 ∷ []) in
    let p = natural-length count n in
    let q = values_length values f in
    omega arith

-- ---- numbers of the machine

pub fit-take : (n : ℕ) (vs : List ℤ) → AllFit vs → AllFit (take n vs)
fit-take zero vs f = tt
fit-take (suc n) [] f = tt
fit-take (suc n) (v ∷ vs) f = (f.0, fit-take n vs f.1)

pub fit-drop : (n : ℕ) (vs : List ℤ) → AllFit vs → AllFit (drop n vs)
fit-drop zero vs f = f
fit-drop (suc n) [] f = tt
fit-drop (suc n) (v ∷ vs) f = fit-drop n vs f.1

-- ---- the values of a letter

pub letter-fits : (lows highs : List ℤ) (l : Letter) → AllFit lows → AllFit highs → IsLetter (described lows highs) l → AllFit l
letter-fits [] highs [] f g none = tt
letter-fits (a ∷ lows) [] [] f g none = tt
letter-fits (a ∷ lows) (b ∷ highs) (v ∷ l) f g (more w m) = (between-fits a v b f.0 g.0 w.above w.below, letter-fits lows highs l f.1 g.1 m)
letter-fits [] highs (v ∷ l) f g x6 = elim x6 [ ]
letter-fits (a ∷ lows) [] (v ∷ l) f g x6 = elim x6 [ ]
letter-fits (a ∷ lows) (b ∷ highs) [] f g x7 = elim x7 [ ]
