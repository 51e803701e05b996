-- A machine over tokens with a mark of barred bytes beside it: byte by byte it is the machine over tokens, and the mark says whether a byte was
-- not plain. By induction over the bytes.
use Prim.Native.Nat.{ℕ}
use mathlib.Core.Path.{◌≡◌, refl, sym, ◌∙◌, ap}
use mathlib.Core.Bool.{Bool, true, false, not, ◌&&◌, ◌||◌, or-false}
use mathlib.Core.List.{List, [], ◌∷◌}
use Rattle.text.specs.Fold.{run_bytes, TokenReading, token_byte}
use Rattle.text.specs.Token.{all_bytes}
use Rattle.record_names.specs.Line.{is_plain}

barred_both : (m p q : Bool) → ((m || not p) || not q) ≡ (m || not (p && q))
barred_both true p q = refl
barred_both false true q = refl
barred_both false false q = refl

module _ {S L : Type 0} (from : Bool → TokenReading S → L) (byte : S → ℕ → S) (token_end : S → S) (step : L → ℕ → L)
    (steps : (m : Bool) (r : TokenReading S) (b : ℕ) → step (from m r) b ≡ from (m || not (is_plain b)) (token_byte byte token_end r b)) where
  pub plain_run : (l : List ℕ) (m : Bool) (r : TokenReading S) → run_bytes step (from m r) l ≡ from (m || not (all_bytes is_plain l)) (run_bytes (token_byte byte token_end) r l)
  plain_run [] m r = ap (λ t. from t r) (sym (or-false m))
  plain_run (b ∷ l) m r =
      ap (λ s. run_bytes step s l) (steps m r b) ∙ plain_run l (m || not (is_plain b)) (token_byte byte token_end r b)
      ∙ ap (λ t. from t (run_bytes (token_byte byte token_end) (token_byte byte token_end r b) l)) (barred_both m (is_plain b) (all_bytes is_plain l))
