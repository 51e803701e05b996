-- `parse::parse_constraint` meets its contract: a line that is too long changes nothing; else its starts are stored and its sides read.
use Prim.Native.Nat.{ℕ, ◌+◌, ◌-◌, ◌≤◌}
use mathlib.Core.Path.{◌≡◌, refl, sym, ap, ◌∙◌}
use mathlib.Core.Bool.{Bool, true, false}
use mathlib.Core.List.{List}
use native.Mathlib.Omega.{arith}
use lib.Dec.{leb}
use lib.ListN.{length}
use Rattle.basics.proofs.Reflects.{from_true, from_false, leb_reflects}
use Rattle.text.specs.Bytes.{tokens}
use Rattle.scan.specs.Start.{token_starts_of}
use Rattle.scan.proofs.Starts.{token-starts-length}
use Rattle.parse.specs.Reading.{Fits, are_kept, is_too_long, are_stored}
use Rattle.parse.proofs.Filled.{stored-starts}
use Rattle.parse.proofs.parse_constraint.Goals as goal
use Rattle.parse.proofs.parse_constraint.Goals.{then-from-gt1024-via-then-from-gt1024, then-from-gt1024-via-else-from-gt1024+then-firsts-gt1024, then-from-gt1024-via-else-from-gt1024+else-firsts-gt1024+then-not-tokens_fit}

-- What the test of the room says.
module _ (line : List ℕ) (n f : ℕ) {b : Bool} (e : b ≡ leb (length (tokens line)) (1024 - n)) where
  no_room : b ≡ false → Fits line n f → ⊥
  no_room h w = from_false (leb_reflects (length (tokens line)) (1024 - n)) (sym e ∙ h) (omega (arith, w.nodes))

  room : b ≡ true → n ≤ 1024 → n + length (tokens line) ≤ 1024
  room h l = let few = from_true (leb_reflects (length (tokens line)) (1024 - n)) (sym e ∙ h) in omega arith

pub returns-then-from-gt1024 : goal.returns-then-from-gt1024
returns-then-from-gt1024 c =
    let a = c.args in
    let long : Fits a.line.now a.from a.firsts → ⊥ = elim c.then-from-gt1024.branch [
      | then-from-gt1024-via-then-from-gt1024 w ↦ (λ f. omega (arith, w.if-from-gt1024.true, f.nodes))
      | then-from-gt1024-via-else-from-gt1024+then-firsts-gt1024 w ↦ (λ f. omega (arith, w.if-firsts-gt1024.true, f.firsts))
      | then-from-gt1024-via-else-from-gt1024+else-firsts-gt1024+then-not-tokens_fit w ↦ no_room a.line.now a.from a.firsts w.tokens_fit.ensures w.if-not-tokens_fit.true
    ] in
    record { starts_outcome = are_kept long refl; constraint_outcome = is_too_long long c.unread.ensures refl }

pub store_token_starts-last-requires : goal.store_token_starts-last-requires
store_token_starts-last-requires c =
    let a = c.args in
    room a.line.now a.from a.firsts c.tokens_fit.ensures c.if-not-tokens_fit.false c.if-from-gt1024.false

pub sides-requires : goal.sides-requires
sides-requires c =
    let at-start = c in
    let at-if1 = c.if-from-gt1024 in
    let at-if2 = c.if-firsts-gt1024 in
    let at-tokens-fit = c.tokens_fit in
    let at-if3 = c.if-not-tokens_fit in
    let at-store-token-starts = c.store_token_starts-last in
    let line = at-start.args.line.now in
    let fits = room line at-start.args.from at-start.args.firsts at-tokens-fit.ensures at-if3.false at-if1.false in
    let last = at-store-token-starts.ensures.0 in
    let count = last ∙ ap (λ n. at-start.args.from + n) (sym (token-starts-length line)) in
    record { fits = record { nodes = fits; firsts = at-if2.false }; nodes_le_last = (omega arith, omega arith, stored-starts at-start.args.token_starts.now at-start.args.from (token_starts_of line) at-store-token-starts.ensures.1 count (omega arith)) }

pub returns : goal.returns
returns c =
    let a = c.args in
    let at-if1 = c.if-from-gt1024 in
    let at-if2 = c.if-firsts-gt1024 in
    let at-tokens-fit = c.tokens_fit in
    let at-if3 = c.if-not-tokens_fit in
    let fits = room a.line.now a.from a.firsts at-tokens-fit.ensures at-if3.false at-if1.false in
    record { starts_outcome = are_stored (record { nodes = fits; firsts = at-if2.false }) c.store_token_starts-last.ensures.1; constraint_outcome = c.sides.ensures }
