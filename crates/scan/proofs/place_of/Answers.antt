-- `scan::place_of` meets its contract: the tokens before the loop's place are other tokens.
use mathlib.Core.Path.{sym, ◌∙◌}
use native.Mathlib.Omega.{arith}
use Rattle.scan.proofs.Tokens.{token-within, token-empty, token-after, token-tokens}
use Rattle.scan.proofs.Names.{place_none, place_here, place-later}
use Rattle.scan.proofs.place_of.Goals as goal
use Rattle.scan.proofs.place_of.Goals.{then-start-end-via-then-start-end, then-start-end-via-else-start-end+then-same_bytes}

pub loop-at-init : goal.loop-at-init
loop-at-init c = (omega arith, omega arith, omega arith)

pub returns-then-start-end : goal.returns-then-start-end
returns-then-start-end c =
    elim c.then-start-end.branch [
      | then-start-end-via-then-start-end w ↦ let none = place_none c.args.name.now (token-empty c.next_token-start.ensures w.if-start-end.true) in omega arith
      | then-start-end-via-else-start-end+then-same_bytes w ↦
          let here = place_here c.args.name.now (token-tokens c.next_token-start.ensures w.if-start-end.false) (sym w.same_bytes.ensures ∙ w.if-same_bytes.true) in omega arith
    ]

pub slice_bounds-same_bytes-count : goal.slice_bounds-same_bytes-count
slice_bounds-same_bytes-count c = let within = token-within c.next_token-start.ensures in omega arith

pub slice_bounds-same_bytes-start : goal.slice_bounds-same_bytes-start
slice_bounds-same_bytes-start c = let within = token-within c.next_token-start.ensures in omega arith

pub slice_bounds-same_bytes-end : goal.slice_bounds-same_bytes-end
slice_bounds-same_bytes-end c = let within = token-within c.next_token-start.ensures in omega arith

pub overflow_add-count : goal.overflow_add-count
overflow_add-count c = let within = token-within c.next_token-start.ensures in let after = token-after c.next_token-start.ensures c.if-start-end.false in omega arith

pub loop-at-smaller : goal.loop-at-smaller
loop-at-smaller c = let within = token-within c.next_token-start.ensures in let after = token-after c.next_token-start.ensures c.if-start-end.false in omega arith

pub loop-at-preserved : goal.loop-at-preserved
loop-at-preserved c =
    let within = token-within c.next_token-start.ensures in
    let after = token-after c.next_token-start.ensures c.if-start-end.false in
    let later = place-later c.args.name.now (token-tokens c.next_token-start.ensures c.if-start-end.false) (sym c.same_bytes.ensures ∙ c.if-same_bytes.false) in
    (omega arith, omega arith, omega arith)
