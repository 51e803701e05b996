-- A test of every number below one, asked of one after the other by `all` over a range.
use Prim.Native.Nat.{ℕ, ◌<◌}
use native.Mathlib.Omega.{arith}
use native.Mathlib.Nat.{zero-add}
use mathlib.Core.Path.{◌≡◌, sym, subst, ◌∙◌}
use mathlib.Core.Bool.{Bool, true, false}
use mathlib.Core.List.{List}
use denote.Param.Members.{Mut}
use Rattle.std.proofs.Common.{Option}
use Rattle.std.specs.declared.ops.Range.{Range}
use Rattle.std.specs.Option.{MatchOption}
use Rattle.std.specs.Fn.{Called}
use Rattle.std.specs.Iterator.{YieldsThen}
use Rattle.std.specs.List.{FoldsTo}
use Rattle.std.proofs.iter.Yields.{nat_range_steps}
use Rattle.std.proofs.lemmas.Iterator.{cases_from_all, YieldsList-from_range}
use Rattle.std.proofs.lemmas.List.FromFn.{length-range_with_len, get_or-range_with_len}
use Rattle.basics.specs.Answers.{Says}

module _ {F : Type 0} {g : Mut F (ℕ × Unit {0}) Bool} (s u : Range ℕ) (f : F) (P : ℕ → Type 0) (n : ℕ) where
  pub says_all_below : (r : Bool)
      → (xs : List ℕ) × (o : Option ℕ) × (j : F) × YieldsThen nat_range_steps s xs o u × FoldsTo (λ p x q. Called g p (x, tt) true q) f xs j × MatchOption o (r ≡ true) (λ x. (r ≡ false) × ((h : F) × Called g j (x, tt) false h))
      → s ≡ record { start = 0; end = n }
      → ((x : ℕ) (q : F) → Called g f (x, tt) true q → (q ≡ f) × P x) → ((x : ℕ) (q : F) → Called g f (x, tt) false q → P x → ⊥)
      → Says r ((k : ℕ) → k < n → P k)
  says_all_below true d e yes' no' =
      let all = cases_from_all u f true P (λ x. P x → ⊥) d (YieldsList-from_range 0 n n e (omega arith)) yes' no' in
      λ k h. subst P (get_or-range_with_len 0 n k 0 h ∙ zero-add k) (all k 0 (omega arith) (omega (arith, length-range_with_len 0 n)))
  says_all_below false d e yes' no' =
      let (k, l, fails) = cases_from_all u f false P (λ x. P x → ⊥) d (YieldsList-from_range 0 n n e (omega arith)) yes' no' in
      let below : k < n = omega (arith, l, length-range_with_len 0 n) in
      λ each. fails 0 (subst P (sym (get_or-range_with_len 0 n k 0 below ∙ zero-add k)) (each k below))
