-- A record of letters, laid letter after letter in one list, is a window that shows the record's streams.
use Prim.Native.Nat.{ℕ, zero, suc, ◌+◌, ◌*◌, ◌/◌, ◌<◌}
use native.Mathlib.Omega.{arith}
use native.Mathlib.Nat.{zero-mul, zero-add, suc-mul, mul-div_cancel}
use mathlib.Core.Path.{◌≡◌, refl, sym, ◌∙◌, ap}
use mathlib.Core.Bool.{Bool}
use mathlib.Core.List.{List, [], ◌∷◌, ◌++◌}
use lib.IntN.{ℤ, pos}
use lib.ListN.{length, get_or, length-append, get_or-append}
use lib.Seq.{get_or-append-add}
use Rattle.basics.proofs.Lists.{member-All}
use Rattle.basics.specs.Lists.{All}
use Rattle.meaning.specs.Expression.{Stream}
use Rattle.meaning.specs.Letter.{Letter, Record, IsLetter, none, more, OfLetters, streams_of}
use Rattle.meaning.specs.Window.{join_over}
use Rattle.meaning.proofs.Letter.{letter-within}
use Rattle.meaning.proofs.Facts.{get_or-member}
use Rattle.nodes.specs.Evaluate.{view, places}
use Rattle.nodes.proofs.Accepted.{Letters}

-- The letters' values, letter after letter.
abbrev pub flat : Record → List ℤ
flat r = join_over (λ l. l) r

module _ (n : ℕ) where
  abbrev Even : Record → Type 0
  Even r = All (λ l. length l ≡ n) r

  length-flat : (r : Record) → Even r → length (flat r) ≡ length r * n
  length-flat [] h = sym (zero-mul n)
  length-flat (l ∷ r) h =
      let i = length-flat r h.1 in
      let e = h.0 in
      omega (arith, length-append l (flat r), suc-mul (length r) n)

  flat-at : (r : Record) → Even r → (k p : ℕ) → k < n → p < length r → get_or (flat r) (p * n + k) (pos 0) ≡ streams_of r k p
  flat-at [] h k p b q = absurd (omega arith)
  flat-at (l ∷ r) h k zero b q =
      let e = h.0 in
      let i : zero * n + k ≡ k = ap (λ m. m + k) (zero-mul n) ∙ zero-add k in
      ap (λ j. get_or (l ++ flat r) j (pos 0)) i ∙ get_or-append l (flat r) (pos 0) k (omega arith)
  flat-at (l ∷ r) h k (suc p) b q =
      let i : suc p * n + k ≡ length l + (p * n + k) = let e = h.0 in omega (arith, suc-mul p n) in
      ap (λ j. get_or (l ++ flat r) j (pos 0)) i ∙ get_or-append-add l (flat r) (p * n + k) (pos 0) ∙ flat-at r h.1 k p b (omega arith)

pub letter-length : {ss : List Stream} {l : Letter} → IsLetter ss l → length l ≡ length ss
letter-length none = refl
letter-length (more w h) = ap suc (letter-length h)

module _ (ss : List Stream) (some : 0 < length ss) (r : Record) (letters : OfLetters ss r) (firsts : List ℤ) (whole : Bool) where
  even : Even (length ss) r
  even = member-All _ r (λ l m. letter-length (letters l m))

  -- The window has as many letters as the record, and they are the record's.
  pub record_places : places (view (flat r) (length ss) firsts whole) ≡ length r
  record_places = ap (λ m. m / length ss) (length-flat (length ss) r even) ∙ mul-div_cancel (length r) some

  pub record_letters : Letters ss (view (flat r) (length ss) firsts whole) (streams_of r)
  record_letters =
      let e = record_places in
      record {
        count = refl;
        shows = λ k p b q. flat-at (length ss) r even k p b (omega arith);
        ranged = λ k i b q. letter-within (letters (get_or r i []) (get_or-member r i [] (omega arith))) k b;
      }
