-- Laws of the grammar's relation alone: nothing empty is read, and a tree has at most as many expressions as it has tokens.
use Prim.Native.Nat.{ℕ, suc, ◌+◌, ◌≤◌, ◌<◌}
use mathlib.Core.List.{List, [], ◌∷◌, ◌++◌}
use mathlib.Core.Path.{◌≡◌, refl, ap}
use native.Mathlib.Omega.{arith}
use lib.ListN.{length, length-append}
use Rattle.text.specs.Bytes.{Token, bytes_of}
use Rattle.meaning.specs.Expression.{Expression}
use Rattle.meaning.specs.Interval.{subexpressions}
use Rattle.sheet.specs.Vocabulary.{Infix, pointwise, followed_by, infixed, Prefix, first_prefix, next_prefix, not_prefix, prefixed}
use Rattle.sheet.specs.Grammar.{Phrase, Reads, is_integer_token, is_stream, is_bracketed, is_prefixed, is_part, is_operation, is_conditional}

abbrev expression_count : Expression → ℕ
expression_count e = length (subexpressions e)

prefixed-count : (p : Prefix) (e : Expression) → expression_count (prefixed p e) ≡ suc (expression_count e)
unfolding subexpressions
prefixed-count first_prefix e = refl
prefixed-count next_prefix e = refl
prefixed-count not_prefix e = refl

joined-count : (o : Infix) (a b : Expression) → expression_count (infixed o a b) ≡ suc (expression_count a + expression_count b)
unfolding subexpressions
joined-count (pointwise o) a b = ap suc (length-append (subexpressions a) (subexpressions b))
joined-count followed_by a b = ap suc (length-append (subexpressions a) (subexpressions b))

module _ {names : List Token} where
  pub reads_nonempty : {k : Phrase} {ts : List Token} {e : Expression} → Reads names k ts e → 0 < length ts
  reads_nonempty (is_integer_token h) = omega arith
  reads_nonempty (is_stream h k) = omega arith
  reads_nonempty (is_bracketed r) = omega arith
  reads_nonempty (is_prefixed e r) = omega arith
  reads_nonempty (is_part r) = reads_nonempty r
  reads_nonempty (is_operation {ts} {us} t r e s) = let z = length-append ts (t ∷ us) in omega arith
  reads_nonempty (is_conditional r s t) = omega arith

  -- Every expression inside the tree has a token of its own.
  pub reads-count : {k : Phrase} {ts : List Token} {e : Expression} → Reads names k ts e → length (subexpressions e) ≤ length ts
  unfolding subexpressions
  reads-count (is_integer_token h) = omega arith
  reads-count (is_stream h k) = omega arith
  reads-count (is_bracketed {ts} r) = let z = length-append ts (bytes_of ")" ∷ []) in let h = reads-count r in omega arith
  reads-count (is_prefixed {p = p} {e = a} e r) = let z = prefixed-count p a in let h = reads-count r in omega arith
  reads-count (is_part r) = reads-count r
  reads-count (is_operation {ts} {us} t {o} {a} {b} r e s) = let z = length-append ts (t ∷ us) in let c = joined-count o a b in let h = reads-count r in let k = reads-count s in omega arith
  reads-count (is_conditional {ts} {us} {vs} {c} {a} {b} r s t) =
      let h = reads-count r in
      let k = reads-count s in
      let l = reads-count t in
      let z = length-append ts (bytes_of "then" ∷ (us ++ (bytes_of "else" ∷ vs))) in
      let w = length-append us (bytes_of "else" ∷ vs) in
      let m = length-append (subexpressions c) (subexpressions a ++ subexpressions b) in
      let n = length-append (subexpressions a) (subexpressions b) in
      omega arith
