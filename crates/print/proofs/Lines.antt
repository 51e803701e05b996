-- The parts of a line, as the code appends them, make the line. All from the definitions.
use Prim.Native.Nat.{ℕ, suc}
use mathlib.Core.Path.{◌≡◌, refl, sym, ◌∙◌, ap}
use mathlib.Core.Bool.{true, false}
use mathlib.Core.List.{List, [], ◌∷◌, ◌++◌, map, map-append, append_assoc}
use lib.IntN.{ℤ, pos, nat_abs}
use lib.Signed.{lt_z}
use mir.Syntax.{w64}
use mir.Val.{SFits}
use mir.ValLaws.{to_z-of_z}
use Rattle.text.specs.Bytes.{Token, bytes_of}
use Rattle.sheet.specs.Names.{name_in}
use Rattle.arithmetic.proofs.Machine.{held, number-negative, number-natural}
use Rattle.print.specs.Text.{digits, decimal, spaced, line, tokens_line, heading_line, entry_line, refusal_line}
use Rattle.print.specs.Lines.{stored_names}

-- ---- one integer

module _ (z : ℤ) (f : SFits w64 z) {size : ℕ} (s : size ≡ nat_abs (held z)) where
  pub minus-first : lt_z (held z) (pos 0) ≡ true → (45 ∷ []) ++ digits size ≡ decimal z
  minus-first e = let n = number-negative z f e in ap (λ k. 45 ∷ digits k) (s ∙ ap nat_abs (to_z-of_z w64 z f ∙ n.1)) ∙ ap decimal (sym n.1)

  pub no_minus : lt_z (held z) (pos 0) ≡ false → digits size ≡ decimal z
  no_minus e = ap digits s ∙ ap decimal (sym (number-natural z f e))

-- ---- tokens with a space after each

pub spaced-more : (ts : List Token) (t : Token) → spaced (ts ++ (t ∷ [])) ≡ spaced ts ++ (t ++ (32 ∷ []))
spaced-more [] t = refl
spaced-more (u ∷ ts) t = ap (λ l. u ++ (32 ∷ l)) (spaced-more ts t) ∙ sym (append_assoc u (32 ∷ spaced ts) (t ++ (32 ∷ [])))

-- A line of tokens is one of all but the last, and the last.
pub tokens-last : (ts : List Token) (t : Token) → tokens_line (ts ++ (t ∷ [])) ≡ line ts t
tokens-last [] t = refl
tokens-last (u ∷ []) t = sym (append_assoc u (32 ∷ []) (t ++ (10 ∷ [])))
tokens-last (u ∷ (v ∷ ts)) t =
    ap (λ l. u ++ (32 ∷ l)) (tokens-last (v ∷ ts) t) ∙ sym (append_assoc u (32 ∷ spaced (v ∷ ts)) (t ++ (10 ∷ [])))

-- ---- the lines

-- The names but the last, each with a space, the last one and byte 10.
pub names-parts : (names lengths : List ℕ) (i : ℕ)
    → (spaced (stored_names names lengths i) ++ name_in names lengths i) ++ (10 ∷ []) ≡ tokens_line (stored_names names lengths (suc i))
unfolding stored_names
names-parts names lengths i =
    append_assoc (spaced (stored_names names lengths i)) (name_in names lengths i) (10 ∷ []) ∙ sym (tokens-last (stored_names names lengths i) (name_in names lengths i))

-- The numbers but the last, each with a space, the last one and byte 10.
pub numbers-parts : (others : List ℤ) (last : ℤ) → (spaced (map decimal others) ++ decimal last) ++ (10 ∷ []) ≡ tokens_line (map decimal (others ++ (last ∷ [])))
numbers-parts others last =
    append_assoc (spaced (map decimal others)) (decimal last) (10 ∷ []) ∙ sym (tokens-last (map decimal others) (decimal last))
    ∙ ap tokens_line (sym (map-append decimal others (last ∷ [])))

pub heading_parts : (names : List Token) → (bytes_of "state final " ++ spaced names) ++ bytes_of "next\n" ≡ heading_line names
heading_parts names = refl

pub refusal-parts : (number : ℕ) → (bytes_of "refused " ++ digits number) ++ (10 ∷ []) ≡ refusal_line number
refusal-parts number = refl

pub entry-parts : (state final : ℕ) (values : List ℤ) (next : ℕ)
    → ((((digits state ++ (32 ∷ [])) ++ (digits final ++ (32 ∷ []))) ++ spaced (map decimal values)) ++ digits next) ++ (10 ∷ []) ≡ entry_line state final values next
entry-parts state final values next = simp append_assoc

pub pair_parts : (first second : ℕ) → ((digits first ++ (32 ∷ [])) ++ digits second) ++ (10 ∷ []) ≡ line (decimal (pos first) ∷ []) (decimal (pos second))
pair_parts first second = simp append_assoc

pub named-parts : (name : Token) (values : List ℤ) (count : ℕ)
    → (((name ++ (32 ∷ [])) ++ spaced (map decimal values)) ++ digits count) ++ (10 ∷ []) ≡ line (name ∷ map decimal values) (decimal (pos count))
named-parts name values count = simp append_assoc
