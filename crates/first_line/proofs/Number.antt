-- The number that is kept of a line whose bytes come one by one is the one that the definition reads in the line: from the laws of tokens read byte by byte
-- (text, Fold) and of plain bytes (records, Plain), and by induction over the bytes of a token.
use Prim.Native.Nat.{ℕ, ◌+◌, ◌-◌, ◌*◌}
use native.Mathlib.Omega.{arith}
use mathlib.Core.Path.{◌≡◌, refl, sym, ◌∙◌, ap, ap₂}
use mathlib.Core.Bool.{Bool, true, false, not, cond, ◌&&◌, ◌||◌, and-false}
use mathlib.Core.List.{List, [], ◌∷◌}
use mathlib.Core.Option.{none, some}
use lib.Dec.{eqb}
use borrow.Author.Tests.{eqb-true}
use Rattle.text.specs.Bytes.{Token, tokens}
use Rattle.text.specs.Token.{all_bytes, is_digit, is_empty, is_natural, natural_from}
use Rattle.text.specs.Fold.{run_bytes, tokens_read, line_read}
use Rattle.text.proofs.Fold.{line-tokens}
use Rattle.record_names.specs.Line.{is_plain}
use Rattle.record_names.proofs.Steps.{reading}
use Rattle.record_names.proofs.Plain.{plain_run}
use Rattle.first_line.specs.declared.NumberPhase.{NumberPhase}
use Rattle.first_line.specs.declared.NumberPhase.TheVariants.{Start, Zero, Digits, Ended, NoNumber}
use Rattle.first_line.specs.declared.NumberState.{NumberState}
use Rattle.std.specs.Prelude.{Option as MachineOption}
use Rattle.first_line.specs.Input.{one_natural, number_in}
use Rattle.first_line.specs.Machine.{phase_byte, phase_end, cut_number, number_from, number_byte, number_end, line_of, number_line_start, number_line_byte, told_number, found_in, state_number, number_line_end}

-- ---- the phase of a token

phases : NumberPhase → List ℕ → NumberPhase
phases = run_bytes phase_byte

none_after : (l : List ℕ) → phases NoNumber l ≡ NoNumber
unfolding phases
none_after [] = refl
none_after (b ∷ l) = none_after l

digits-after : (l : List ℕ) → phases Digits l ≡ cond (all_bytes is_digit l) Digits NoNumber
unfolding phases
digits-after [] = refl
digits-after (b ∷ l) = by (is_digit b) (digits-after l)
  where
    by : (t : Bool) → phases Digits l ≡ cond (all_bytes is_digit l) Digits NoNumber → phases (cond t Digits NoNumber) l ≡ cond (t && all_bytes is_digit l) Digits NoNumber
    by true h = h
    by false h = none_after l

zero-after : (l : List ℕ) → phase_end (phases Zero l) ≡ cond (is_natural (48 ∷ l)) Ended NoNumber
unfolding phases is_natural
zero-after [] = refl
zero-after (b ∷ l) = ap phase_end (none_after l) ∙ sym (ap (λ t. cond t Ended NoNumber) (and-false (is_digit b && all_bytes is_digit l)))

natural-after : (t : List ℕ) → phase_end (phases Start t) ≡ cond (is_natural t) Ended NoNumber
unfolding phases is_natural
natural-after [] = refl
natural-after (b ∷ l) = by (eqb b 48) refl
  where
    digit : (t : Bool) → phase_end (phases (cond t Digits NoNumber) l) ≡ cond (t && all_bytes is_digit l && true) Ended NoNumber
    digit true = ap phase_end (digits-after l) ∙ ended (all_bytes is_digit l)
      where
        ended : (a : Bool) → phase_end (cond a Digits NoNumber) ≡ cond (a && true) Ended NoNumber
        ended true = refl
        ended false = refl
    digit false = ap phase_end (none_after l)

    by : (z : Bool) → eqb b 48 ≡ z → phase_end (phases (cond z Zero (cond (is_digit b) Digits NoNumber)) l) ≡ cond (is_natural (b ∷ l)) Ended NoNumber
    by true e = zero-after l ∙ ap (λ c. cond (is_natural (c ∷ l)) Ended NoNumber) (sym (eqb-true b 48 e))
    by false e = digit (is_digit b) ∙ ap (λ z. cond (is_digit b && all_bytes is_digit l && (not z || is_empty l)) Ended NoNumber) (sym e)

-- A second token, whatever the first was.
second-after : (p : NumberPhase) (u : List ℕ) → phase_end (phases (phase_end p) u) ≡ NoNumber
unfolding phases
second-after Start u = ap phase_end (none_after u)
second-after Zero [] = refl
second-after Zero (b ∷ u) = ap phase_end (none_after u)
second-after Digits [] = refl
second-after Digits (b ∷ u) = ap phase_end (none_after u)
second-after Ended u = ap phase_end (none_after u)
second-after NoNumber u = ap phase_end (none_after u)

-- ---- the value of a token

values : ℕ → List ℕ → ℕ
values = run_bytes (λ v b. cut_number (v * 10 + (b - 48)))

value_after : (l : List ℕ) (n : ℕ) → values (cut_number n) l ≡ cut_number (natural_from n l)
unfolding values natural_from
value_after [] n = refl
value_after (b ∷ l) n =
    let same : cut_number (cut_number n * 10 + (b - 48)) ≡ cut_number (n * 10 + (b - 48)) = omega arith in
    ap (λ m. values m l) same ∙ value_after l (n * 10 + (b - 48))

state-after : (l : List ℕ) (p : NumberPhase) (v : ℕ) → run_bytes number_byte (number_from p v) l ≡ number_from (phases p l) (values v l)
unfolding phases values
state-after [] p v = refl
state-after (b ∷ l) p v = state-after l (phase_byte p b) (cut_number (v * 10 + (b - 48)))

-- ---- the tokens of a line

found : NumberState → MachineOption ℕ
found s = found_in s.phase s.value

abbrev read : NumberState → List Token → NumberState
read s ts = tokens_read number_byte number_end s ts

-- One token more.
token-more : (p : NumberPhase) (v : ℕ) (t : Token) (ts : List Token) → read (number_from p v) (t ∷ ts) ≡ read (number_from (phase_end (phases p t)) (values v t)) ts
token-more p v t ts = ap (λ s. read (number_end s) ts) (state-after t p v)

no_more : (ts : List Token) (v : ℕ) → found (read (number_from NoNumber v) ts) ≡ told_number none
unfolding found
no_more [] v = refl
no_more (t ∷ ts) v =
    ap found (token-more NoNumber v t ts) ∙ ap (λ p. found (read (number_from (phase_end p) (values v t)) ts)) (none_after t) ∙ no_more ts (values v t)

tokens-found : (ts : List Token) → found (read (number_from Start 0) ts) ≡ told_number (one_natural ts)
unfolding found
tokens-found [] = refl
tokens-found (t ∷ []) =
    ap found (token-more Start 0 t []) ∙ ap₂ (λ p v. found_in p v) (natural-after t) (value_after t 0) ∙ by (is_natural t)
  where
    by : (a : Bool) → found_in (cond a Ended NoNumber) (cut_number (natural_from 0 t)) ≡ told_number (cond a (some (natural_from 0 t)) none)
    by true = refl
    by false = refl
tokens-found (t ∷ (u ∷ ts)) =
    ap found (token-more Start 0 t (u ∷ ts)) ∙ ap found (token-more (phase_end (phases Start t)) (values 0 t) u ts)
    ∙ ap (λ p. found (read (number_from p (values (values 0 t) u)) ts)) (second-after (phases Start t) u) ∙ no_more ts (values (values 0 t) u)

-- ---- the line

line-found : (plain : Bool) (ts : List Token) → state_number (not plain) (read (number_from Start 0) ts) ≡ told_number (cond plain (one_natural ts) none)
unfolding found
line-found true ts = tokens-found ts
line-found false ts = refl

-- "a first line that is no integer from 0 up" has no number, and any other line has its own, cut.
pub line-number-read : (l : List ℕ) → number_line_end (run_bytes number_line_byte number_line_start l) ≡ told_number (number_in l)
unfolding number_line_byte number_line_end line_read number_in
line-number-read l =
    ap number_line_end (plain_run line_of number_byte number_end number_line_byte (λ m r b. refl) l false (reading false (number_from Start 0)))
    ∙ ap (state_number (not (all_bytes is_plain l))) (line-tokens number_byte number_end l (number_from Start 0))
    ∙ line-found (all_bytes is_plain l) (tokens l)
