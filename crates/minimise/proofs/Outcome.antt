-- From what the passes leave to the outcome: what lies beyond the used rows is cleared, and so is every work table.
use mathlib.Core.Path.{◌≡◌, refl, sym, ◌∙◌}
use mathlib.Core.Logic.{inl, inr}
use mathlib.Core.List.{List}
use Prim.Native.Nat.{ℕ, ◌+◌, ◌*◌, ◌≤◌}
use native.Mathlib.Nat.{mul-le-mul_right, zero-mul}
use native.Mathlib.Omega.{arith}
use lib.ListN.{length}
use Rattle.basics.proofs.Lists.{row_fits}
use Rattle.automaton.proofs.Transfer.{rows-table}
use Rattle.basics.specs.Clearing.{ClearedFrom}
use Rattle.basics.proofs.Clearing.{all-zero}
use Rattle.minimise.specs.Outcome.{GraphTables, cleared, IsRefusal, MinimiseOutcome}
use Rattle.minimise.specs.Reducing.{Ran}

module _ {entries flags entries₁ flags₁ : List ℕ} {letters rows refusal states : ℕ} {work : List (List ℕ)} (R : Ran entries flags letters rows work refusal states entries₁ flags₁) where
  -- the used rows lie within the tables
  pub ran_fits : (states * letters ≤ length entries) × (states ≤ length flags)
  ran_fits = go R
    where
      none : states ≡ 0 → (states * letters ≤ length entries) × (states ≤ length flags)
      none e = rw e (rw zero-mul (omega arith), omega arith)

      go : Ran entries flags letters rows work refusal states entries₁ flags₁ → (states * letters ≤ length entries) × (states ≤ length flags)
      go (inl x) = none x.0
      go (inr x) = let y = x.1.1 in (omega (arith, mul-le-mul_right letters y.few_states, y.graph.entries_fit), omega (arith, y.few_states, y.graph.flags_fit))

  pub ran_outcome : {entries₂ flags₂ : List ℕ} {work₂ : List (List ℕ)} → length entries₁ ≡ length entries → length flags₁ ≡ length flags
      → ClearedFrom entries₁ entries₂ (states * letters) → ClearedFrom flags₁ flags₂ states → work₂ ≡ cleared work
      → MinimiseOutcome (record { entries = entries; flags = flags; work = work }) letters rows refusal states (record { entries = entries₂; flags = flags₂; work = work₂ })
  ran_outcome {entries₂} {flags₂} {work₂} el fl E F w = go R
    where
      before : GraphTables
      before = record { entries = entries; flags = flags; work = work }

      after : GraphTables
      after = record { entries = entries₂; flags = flags₂; work = work₂ }

      refusal_is : {number : ℕ} → refusal ≡ number → states ≡ 0 → IsRefusal number before refusal states after
      refusal_is e z = record {
        number_is = e;
        no_states = z;
        entries_zero = all-zero entries₂ (length entries) (E.same ∙ el) λ i. E.beyond i (rw (z, zero-mul) (omega arith));
        flags_zero = all-zero flags₂ (length flags) (F.same ∙ fl) λ i. F.beyond i (omega arith);
        work_zero = w;
      }

      go : Ran entries flags letters rows work refusal states entries₁ flags₁ → MinimiseOutcome before letters rows refusal states after
      go (inl (z, inl x)) = inl (record { refused = λ a. x.no_room (a.graph, a.room); answer = refusal_is x.refused z })
      go (inl (z, inr x)) = inr (inl (record { accepted = record { graph = x.1.graph; room = x.0 }; empty = x.1.empty; answer = refusal_is x.1.refused z }))
      go (inr (e, (room, y))) = inr (inr (record {
        accepted = record { graph = y.graph; room = room };
        no_refusal = e;
        table = record {
          entries_fit = omega (arith, ran_fits.0, E.same, el);
          finals_fit = omega (arith, ran_fits.1, F.same, fl);
          table = rows-table (record {
            states = refl;
            entries = λ i a hi ha. sym (E.below (i * letters + a) (omega (arith, row_fits i states letters (states * letters) hi (omega arith))));
            finals = λ i hi. sym (F.below i hi);
          }) y.table;
        };
        entries_length = E.same ∙ el;
        flags_length = F.same ∙ fl;
        entries_beyond = E.beyond;
        flags_beyond = F.beyond;
        work_zero = w;
      }))
