-- An integer or a name by itself. From what is read of an integer, and from what a token opens a part as.
use Prim.Native.Nat.{ℕ, suc, ◌+◌, ◌≤◌}
use mathlib.Core.Path.{◌≡◌, refl, sym, ap, subst, ◌∙◌}
use mathlib.Core.Bool.{Bool, true, false, not, cond, ◌&&◌, true≢false}
use mathlib.Core.List.{List, [], ◌∷◌}
use Rattle.std.specs.Result.{is_err, result_unwrap_or}
use native.Mathlib.Omega.{arith}
use lib.Dec.{T}
use lib.IntN.{ℤ, pos, negsuc}
use lib.ListN.{length}
use mir.Syntax.{w64}
use mir.Val.{SFits}
use borrow.Author.Tests.{ltb-false}
use Rattle.text.proofs.Bytes.{tokens-length}
use Rattle.nodes.specs.Evaluate.{Nodes}
use Rattle.text.specs.Bytes.{Token, tokens}
use Rattle.text.specs.Token.{same_bytes, is_name, is_integer, integer_value, is_reserved}
use Rattle.nodes.specs.Postfix.{node}
use Rattle.meaning.specs.Expression.{integer, name}
use Rattle.sheet.specs.Vocabulary.{name_place}
use Rattle.sheet.specs.Reading.{is_beyond}
use Rattle.sheet.specs.Parser.{part_from}
use Rattle.sheet.proofs.Vocabulary.{opening-integer, opening-name}
use Rattle.scan.proofs.Integers.{within-some}
use Rattle.scan.specs.Integer.{IntegerRead, integer_read, integer_within, no_integer}
use Rattle.parse.specs.declared.Read.{Read}
use Rattle.parse.specs.Stored.{store, SameBelow}
use Rattle.parse.specs.Bounded.{zero_beyond}
use Rattle.parse.specs.Reading.{LeafReading}
use Rattle.parse.proofs.Store.{below-store}
use Rattle.parse.proofs.Trees.{stores-integer, stores-name}

-- What an integer's answer says: whether it is beyond the bound, and its value, which counts as 0 there.
pub record IsInteger (w : Token) (beyond : Bool) (value : ℤ) : Type 0 where
  pub is : T (is_integer w)
  pub far : beyond ≡ is_beyond (integer_value w)
  pub near : value ≡ zero_beyond (integer_value w)

within_fields : (b : Bool) (z : ℤ) → (is_err (integer_within b z) ≡ b) × (result_unwrap_or (integer_within b z) (pos 0) ≡ cond b (pos 0) z)
within_fields true z = (refl, refl)
within_fields false z = (refl, refl)

pub an_integer : (w : Token) {r : IntegerRead} {b : Bool} {v : ℤ} → r ≡ integer_read w → (r ≡ no_integer → ⊥) → b ≡ is_err r → v ≡ result_unwrap_or r (pos 0) → IsInteger w b v
unfolding integer_read
an_integer w {r} {b} {v} e t f n = by (is_integer w) refl e
  where
    by : (m : Bool) → is_integer w ≡ m → r ≡ cond m (integer_within (is_beyond (integer_value w)) (integer_value w)) no_integer → IsInteger w b v
    by true p q =
        let (far, near) = within_fields (is_beyond (integer_value w)) (integer_value w) in
        record { is = rw p tt; far = f ∙ ap is_err q ∙ far; near = n ∙ ap (λ a. result_unwrap_or a (pos 0)) q ∙ near }
    by false p q = absurd (t q)

pub no_integer_lem : (w : Token) {r : IntegerRead} → r ≡ integer_read w → r ≡ no_integer → is_integer w ≡ false
unfolding integer_read
no_integer_lem w {r} e t = by (is_integer w) e
  where
    by : (m : Bool) → r ≡ cond m (integer_within (is_beyond (integer_value w)) (integer_value w)) no_integer → m ≡ false
    by true q = absurd (within-some (is_beyond (integer_value w)) (integer_value w) (sym q ∙ t))
    by false q = refl

-- A value within the bound fits the machine's signed numbers.
within-fits : (z : ℤ) → SFits w64 (zero_beyond z)
within-fits z = by z (is_beyond z) refl
  where
    by : (y : ℤ) (b : Bool) → is_beyond y ≡ b → SFits w64 (cond b (pos 0) y)
    by y true e = record { sfits = omega arith }
    by (pos k) false e = record { sfits = let h : k ≤ 1000000000 = ltb-false 1000000000 k e in omega arith }
    by (negsuc k) false e = record { sfits = let h : suc k ≤ 1000000000 = ltb-false 1000000000 (suc k) e in omega arith }

pub integer-fits : {w : Token} {b : Bool} {v : ℤ} → IsInteger w b v → SFits w64 v
integer-fits {w} i = subst (SFits w64) (sym i.near) (within-fits (integer_value w))

module _ (names : List Token) (w : Token) (next : ℕ) {old new : Nodes} {n f : ℕ} where
  pub leaf_integer : {b : Bool} {v : ℤ} → IsInteger w b v → new ≡ store old n (node 0 v n ∷ []) → LeafReading names w next old new n f (record { ok = true; next = next; nodes = n + 1; firsts = f; beyond = b })
  leaf_integer {v = v} i e =
      record {
        found = λ t. record {
          tree = integer (integer_value w);
          reads = λ p us. ap (λ o. part_from names p o w us) (opening-integer w i.is);
          stores = stores-integer (integer_value w) i.far (e ∙ ap (λ z. store old n (node 0 z n ∷ [])) i.near);
          one = refl;
          none = refl;
        };
        place = λ t. refl;
        missing = λ t. absurd (true≢false t);
        kept = below-store old n (node 0 v n ∷ []) e;
      }

  pub leaf_name : T (is_name w) → T (not (is_reserved w)) → new ≡ store old n (node 1 (pos (name_place names w)) n ∷ []) → LeafReading names w next old new n f (record { ok = true; next = next; nodes = n + 1; firsts = f; beyond = false })
  leaf_name h k e =
      record {
        found = λ t. record {
          tree = name (name_place names w);
          reads = λ p us. ap (λ o. part_from names p o w us) (opening-name w h k);
          stores = stores-name (name_place names w) e;
          one = refl;
          none = refl;
        };
        place = λ t. refl;
        missing = λ t. absurd (true≢false t);
        kept = below-store old n (node 1 (pos (name_place names w)) n ∷ []) e;
      }

  pub leaf_missing : {r : Read} → r.ok ≡ false → is_integer w ≡ false → is_name w && not (is_reserved w) ≡ false → SameBelow n new old → LeafReading names w next old new n f r
  leaf_missing e i m k = record { found = λ t. absurd (true≢false (sym t ∙ e)); place = λ t. absurd (true≢false (sym t ∙ e)); missing = λ t. (i, m); kept = k }

-- A reserved word is no name here, and neither is what is no name at all.
pub reserved_no_name : (w : Token) → is_reserved w ≡ true → is_name w && not (is_reserved w) ≡ false
reserved_no_name w e = ap (λ m. is_name w && not m) e ∙ by (is_name w)
  where
    by : (m : Bool) → (m && false) ≡ false
    by true = refl
    by false = refl

pub not-a-name : (w : Token) → is_name w ≡ false → is_name w && not (is_reserved w) ≡ false
not-a-name w e = ap (λ m. m && not (is_reserved w)) e

place-most : (ns : List Token) (t : Token) → name_place ns t ≤ length ns
unfolding name_place
place-most [] t = omega arith
place-most (n ∷ ns) t = by (same_bytes n t) (place-most ns t)
  where
    by : (b : Bool) → name_place ns t ≤ length ns → cond b 0 (suc (name_place ns t)) ≤ suc (length ns)
    by true h = omega arith
    by false h = omega arith

pub place-length : (l : List ℕ) (t : Token) → name_place (tokens l) t ≤ length l
place-length l t = let z = place-most (tokens l) t in let w = tokens-length l in omega arith
