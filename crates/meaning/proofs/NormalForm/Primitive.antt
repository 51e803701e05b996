-- Every entry of the normal form is primitive in the sense of 000, section 3.1.
use Prim.Native.Nat.{ℕ, suc, ◌+◌}
use native.Mathlib.Omega.{arith}
use mathlib.Core.Path.{◌≡◌, refl}
use mathlib.Core.Logic.{◌↔◌}
use mathlib.Core.List.{List, [], ◌∷◌, ◌++◌, Memᴰ}
use lib.ListN.{length}
use Rattle.basics.proofs.Lists.{All-append, All-member}
use Rattle.basics.specs.Lists.{All}
use Rattle.meaning.specs.Value.{equal}
use Rattle.meaning.specs.Expression.{Expression, integer, name, first, next, negation, binary, conditional, fby, Sign, comparison, Constraint, always, until, Sheet}
use Rattle.meaning.specs.NormalForm.{added_count, rewritten, equation, added_entries, added_by, rewritten_constraint, entries_by, all_rewritten, all_entries, normal_form, nexts_in, fbys_in}

-- An expression "with no next, fby or until (but can contain first operators)" (000, section 3.1); `until` never stands in an expression.
abbrev pub Pointwise : Expression → Type 0
Pointwise (integer z) = Unit
Pointwise (name k) = Unit
Pointwise (first e) = Pointwise e
Pointwise (next e) = ⊥
Pointwise (negation e) = Pointwise e
Pointwise (binary o a b) = Pointwise a × Pointwise b
Pointwise (conditional c a b) = Pointwise c × Pointwise a × Pointwise b
Pointwise (fby a b) = ⊥

-- 000, section 3.1: "A St-CSP is in normal form if it contains only constraints of the following forms: Primitive next constraints: xᵢ == next xⱼ.
-- Primitive until constraints: xᵢ until xⱼ. Primitive pointwise constraints with no next, fby or until (but can contain first operators)."
pub data Primitive : Constraint → Type 0 where
  primitive_next : (x y : ℕ) → Primitive (always (comparison equal) (name x) (next (name y)))
  primitive_until : (x y : ℕ) → Primitive (until (name x) (name y))
  primitive_pointwise : (s : Sign) (a b : Expression) → Pointwise a → Pointwise b → Primitive (always s a b)

rewritten-pointwise : (n : ℕ) (e : Expression) → Pointwise (rewritten n e)
unfolding rewritten
rewritten-pointwise n (integer z) = tt
rewritten-pointwise n (name k) = tt
rewritten-pointwise n (first e) = rewritten-pointwise n e
rewritten-pointwise n (next e) = tt
rewritten-pointwise n (negation e) = rewritten-pointwise n e
rewritten-pointwise n (binary o a b) = (rewritten-pointwise n a, rewritten-pointwise (n + added_count a) b)
rewritten-pointwise n (conditional c a b) =
    (rewritten-pointwise n c, rewritten-pointwise (n + added_count c) a, rewritten-pointwise (n + added_count c + added_count a) b)
rewritten-pointwise n (fby a b) = tt

equation-primitive : (k n : ℕ) (e : Expression) → Primitive (equation k (rewritten n e))
equation-primitive k n e = primitive_pointwise (comparison equal) (name k) (rewritten n e) tt (rewritten-pointwise n e)

added_entries-primitive : (n : ℕ) (e : Expression) → All Primitive (added_entries n e)
unfolding added_entries
added_entries-primitive n (integer z) = tt
added_entries-primitive n (name k) = tt
added_entries-primitive n (first e) = added_entries-primitive n e
added_entries-primitive n (next e) = (equation-primitive (suc n) (suc (suc n)) e, (primitive_next n (suc n), added_entries-primitive (suc (suc n)) e))
added_entries-primitive n (negation e) = added_entries-primitive n e
added_entries-primitive n (binary o a b) =
    (All-append Primitive (added_entries n a) _).1 (added_entries-primitive n a, added_entries-primitive (n + added_count a) b)
added_entries-primitive n (conditional c a b) =
    let m = n + added_count c in
    (All-append Primitive (added_entries n c) _).1
    (added_entries-primitive n c, (All-append Primitive (added_entries m a) _).1 (added_entries-primitive m a, added_entries-primitive (m + added_count a) b))
added_entries-primitive n (fby a b) =
    let x = n + added_count a in
    let m = suc (suc (suc x)) in
    (All-append Primitive (added_entries n a) _).1 (
      added_entries-primitive n a,
      (
        equation-primitive (suc x) n a,
        (
          equation-primitive (suc (suc x)) m b,
          (
            primitive_pointwise (comparison equal) (first (name x)) (first (name (suc x))) tt tt,
            (primitive_next (suc (suc x)) x, added_entries-primitive m b),
          ),
        ),
      ),
    )

constraints-primitive : (n : ℕ) (cs : List Constraint) → All Primitive (all_rewritten n cs) × All Primitive (all_entries n cs)
unfolding all_rewritten all_entries rewritten_constraint entries_by
constraints-primitive n [] = (tt, tt)
constraints-primitive n (always s a b ∷ cs) =
    let m = n + added_count a in
    let r = constraints-primitive (n + length (added_by (always s a b))) cs in (
      (primitive_pointwise s (rewritten n a) (rewritten m b) (rewritten-pointwise n a) (rewritten-pointwise m b), r.0),
      (All-append Primitive (added_entries n a ++ added_entries m b) _).1 ((All-append Primitive (added_entries n a) _).1 (added_entries-primitive n a, added_entries-primitive m b), r.1),
    )
constraints-primitive n (until a b ∷ cs) =
    let x = n + added_count a in
    let m = suc (suc x) in
    let r = constraints-primitive (n + length (added_by (until a b))) cs in (
      (primitive_until x (suc x), r.0),
      (All-append Primitive (entries_by n (until a b)) _).1 (
        (All-append Primitive (added_entries n a) _).1 (added_entries-primitive n a, (equation-primitive x n a, (equation-primitive (suc x) m b, added_entries-primitive m b))),
        r.1,
      ),
    )

pub entries-primitive : (s : Sheet) (c : Constraint) → Memᴰ c (normal_form s).constraints → Primitive c
unfolding normal_form
entries-primitive s c h =
    let n = length s.streams in
    All-member Primitive ((All-append Primitive (all_rewritten n s.constraints) _).1 (constraints-primitive n s.constraints)) h

-- An expression is pointwise exactly if neither word is counted in it.
pub Pointwise-counts : (e : Expression) → Pointwise e ↔ ((nexts_in e ≡ 0) × (fbys_in e ≡ 0))
unfolding nexts_in fbys_in
Pointwise-counts (integer z) = (λ h. (refl, refl), λ h. tt)
Pointwise-counts (name k) = (λ h. (refl, refl), λ h. tt)
Pointwise-counts (first e) = Pointwise-counts e
Pointwise-counts (next e) = (λ h. absurd h, λ h. absurd (omega arith))
Pointwise-counts (negation e) = Pointwise-counts e
Pointwise-counts (binary o a b) =
    let p = Pointwise-counts a in
    let q = Pointwise-counts b in (
      λ h. let l = p.0 h.0 in let r = q.0 h.1 in (omega arith, omega arith),
      λ h. (p.1 (omega arith, omega arith), q.1 (omega arith, omega arith)),
    )
Pointwise-counts (conditional c a b) =
    let o = Pointwise-counts c in
    let p = Pointwise-counts a in
    let q = Pointwise-counts b in (
      λ h. let k = o.0 h.0 in let l = p.0 h.1 in let r = q.0 h.2 in (omega arith, omega arith),
      λ h. (o.1 (omega arith, omega arith), p.1 (omega arith, omega arith), q.1 (omega arith, omega arith)),
    )
Pointwise-counts (fby a b) = (λ h. absurd h, λ h. absurd (omega arith))
