-- The names of an accepted sheet fit eight bytes each, from the form of a name; and names that are stored in eight bytes each are found there, by
-- induction over the streams.
use Prim.Native.Nat.{ℕ, zero, suc, ◌+◌, ◌-◌, ◌*◌, ◌≤◌, ◌<◌, min}
use native.Mathlib.Omega.{arith}
use mathlib.Core.Path.{◌≡◌, refl, sym, ap, ap₂, ◌∙◌}
use mathlib.Core.List.Memᴰ
use mathlib.Core.List.{List, [], ◌∷◌, ◌++◌, map, append_assoc}
use lib.Dec.{T, leb→le}
use lib.ListN.{length, get_or, take, drop, replicate, length-append, length-replicate}
use lib.Seq.{take_at, drop-append-add}
use Rattle.basics.proofs.Tests.{and_left, and_right}
use Rattle.text.specs.Bytes.{Token}
use Rattle.text.specs.Token.{is_name}
use Rattle.meaning.specs.Expression.{Stream}
use Rattle.meaning.specs.Window.{join_over}
use Rattle.sheet.specs.Form.{names_of}
use Rattle.sheet.specs.Accepted.{AcceptedStreams}
use Rattle.sheet.specs.Names.{eight_bytes, ShortNames, name_in}

pub name-short : (t : Token) → T (is_name t) → length t ≤ 8
unfolding is_name
name-short t h = leb→le (length t) 8 (search (and_left, and_right))

pub short-names : {ss : List Stream} → AcceptedStreams ss → ShortNames ss
short-names a x m = name-short x.name (a.are_names x.name (Memᴰ.map (λ (y : Stream). y.name) m))

-- With anything behind the bytes and behind the lengths.
module _ (more_names more_lengths : List ℕ) where
  abbrev held_names : List Stream → List ℕ
  held_names ss = join_over eight_bytes ss ++ more_names

  abbrev held_lengths : List Stream → List ℕ
  held_lengths ss = map (λ x. length x.name) ss ++ more_lengths

  pub name-found : (ss : List Stream) → ShortNames ss → (i : ℕ) → i < length ss → name_in (held_names ss) (held_lengths ss) i ≡ get_or (names_of ss) i []
  name-found [] short i h = absurd (omega arith)
  name-found (x ∷ ss) short zero h =
      let l = short x (Memᴰ.head refl) in
      let e : min (length x.name) 8 ≡ length x.name = omega arith in
      ap₂ take e (append_assoc (eight_bytes x) (join_over eight_bytes ss) more_names ∙ append_assoc x.name (replicate (8 - length x.name) 0) (join_over eight_bytes ss ++ more_names))
      ∙ take_at x.name (replicate (8 - length x.name) 0 ++ (join_over eight_bytes ss ++ more_names)) (length x.name) refl
  name-found (x ∷ ss) short (suc i) h =
      let l = short x (Memᴰ.head refl) in
      let a = length-append x.name (replicate (8 - length x.name) 0) in
      let b = length-replicate {A = ℕ} (8 - length x.name) 0 in
      let e : suc i * 8 ≡ length (eight_bytes x) + i * 8 = omega arith in
      ap (take (min (get_or (held_lengths ss) i 0) 8))
      (ap₂ drop e (append_assoc (eight_bytes x) (join_over eight_bytes ss) more_names) ∙ drop-append-add (eight_bytes x) (join_over eight_bytes ss ++ more_names) (i * 8))
      ∙ name-found ss (λ y m. short y (Memᴰ.tail m)) i (omega arith)
