-- `header::read_streams` meets its contract: the tables, the number and the fault are those of the streams before the loop's places
-- in the three lines. From the laws of one stream more.
use native.Mathlib.Omega.{arith}
use mathlib.Core.Path.{◌≡◌, refl, sym, ◌∙◌}
use Rattle.std.proofs.Common.{rules}
use Rattle.scan.specs.Integer.{no_integer}
use Rattle.scan.proofs.Tokens.{token-within, token-after}
use Rattle.header.specs.Streams.{no_form}
use Rattle.header.proofs.Streams.{sofar_start, lines_end, no_name, no_low, no_high, count_low, sofar_step, name-fits}
use Rattle.header.proofs.read_streams.Goals as goal
use Rattle.header.proofs.read_streams.Goals.{then-not-named-via-then-not-named, then-not-named-via-else-not-named+then-eq, then-not-named-via-else-not-named+else-eq+then-eq-2}

pub loop-count-init : goal.loop-count-init
loop-count-init c = sofar_start _ _ _ c.requires.names_line_len_bound c.requires.highs_value

pub returns-then-name_start-name_end : goal.returns-then-name_start-name_end
returns-then-name_start-name_end c = lines_end c.loop-count.invariant c.next_token-name.ensures c.next_token-low.ensures c.next_token-high.ensures c.if-name_start-name_end.true

pub slice_bounds-is_name-count : goal.slice_bounds-is_name-count
slice_bounds-is_name-count c = let w = token-within c.next_token-name.ensures in let a = w.0 in let b = w.1 in omega arith

pub slice_bounds-is_name-start : goal.slice_bounds-is_name-start
slice_bounds-is_name-start c = let w = token-within c.next_token-name.ensures in let a = w.0 in let b = w.1 in omega arith

pub slice_bounds-is_name-end : goal.slice_bounds-is_name-end
slice_bounds-is_name-end c = let w = token-within c.next_token-name.ensures in let a = w.0 in let b = w.1 in omega arith

pub slice_bounds-read_integer-count : goal.slice_bounds-read_integer-count
slice_bounds-read_integer-count c = let w = token-within c.next_token-low.ensures in let a = w.0 in let b = w.1 in omega arith

pub slice_bounds-read_integer-start : goal.slice_bounds-read_integer-start
slice_bounds-read_integer-start c = let w = token-within c.next_token-low.ensures in let a = w.0 in let b = w.1 in omega arith

pub slice_bounds-read_integer-end : goal.slice_bounds-read_integer-end
slice_bounds-read_integer-end c = let w = token-within c.next_token-low.ensures in let a = w.0 in let b = w.1 in omega arith

pub slice_bounds-read_integer-count-in-loop-count : goal.slice_bounds-read_integer-count-in-loop-count
slice_bounds-read_integer-count-in-loop-count c = let w = token-within c.next_token-high.ensures in let a = w.0 in let b = w.1 in omega arith

pub slice_bounds-read_integer-start-in-loop-count : goal.slice_bounds-read_integer-start-in-loop-count
slice_bounds-read_integer-start-in-loop-count c = let w = token-within c.next_token-high.ensures in let a = w.0 in let b = w.1 in omega arith

pub slice_bounds-read_integer-end-in-loop-count : goal.slice_bounds-read_integer-end-in-loop-count
slice_bounds-read_integer-end-in-loop-count c = let w = token-within c.next_token-high.ensures in let a = w.0 in let b = w.1 in omega arith

pub returns-then-not-named : goal.returns-then-not-named
returns-then-not-named c =
    let k = c.loop-count.invariant in
    let name = c.next_token-name.ensures in
    let low = c.next_token-low.ensures in
    let high = c.next_token-high.ensures in
    let more = c.if-name_start-name_end.false in
    let is = c.is_name-named.ensures in
    elim c.then-not-named.branch [
      | then-not-named-via-then-not-named w ↦ no_form (no_name k name low high more (sym is ∙ w.if-not-named.true)) c.no_streams.ensures
      | then-not-named-via-else-not-named+then-eq w ↦
          let none : c.read_integer-lowest.result ≡ no_integer = search rules in
          no_form (no_low k name low high more (sym is ∙ w.if-not-named.false) c.read_integer-lowest.ensures none) c.no_streams.ensures
      | then-not-named-via-else-not-named+else-eq+then-eq-2 w ↦
          let some : c.read_integer-lowest.result ≡ no_integer → ⊥ = λ e. search rules in
          let none : c.read_integer-highest.result ≡ no_integer = search rules in
          no_form (no_high k name low high more (sym is ∙ w.if-not-named.false) c.read_integer-lowest.ensures some c.read_integer-highest.ensures none) c.no_streams.ensures
    ]

pub slice_bounds-put_name-count : goal.slice_bounds-put_name-count
slice_bounds-put_name-count c = let w = token-within c.next_token-name.ensures in let a = w.0 in let b = w.1 in omega arith

pub slice_bounds-put_name-start : goal.slice_bounds-put_name-start
slice_bounds-put_name-start c = let w = token-within c.next_token-name.ensures in let a = w.0 in let b = w.1 in omega arith

pub slice_bounds-put_name-end : goal.slice_bounds-put_name-end
slice_bounds-put_name-end c = let w = token-within c.next_token-name.ensures in let a = w.0 in let b = w.1 in omega arith

pub put_name-requires : goal.put_name-requires
put_name-requires c =
    (count_low c.loop-count.invariant c.next_token-name.ensures c.next_token-low.ensures c.next_token-high.ensures c.if-name_start-name_end.false, name-fits _ (sym c.is_name-named.ensures ∙ c.if-not-named.false))

pub put_range-requires : goal.put_range-requires
put_range-requires c = count_low c.loop-count.invariant c.next_token-name.ensures c.next_token-low.ensures c.next_token-high.ensures c.if-name_start-name_end.false

pub overflow_add-count : goal.overflow_add-count
overflow_add-count c = let below = count_low c.loop-count.invariant c.next_token-name.ensures c.next_token-low.ensures c.next_token-high.ensures c.if-name_start-name_end.false in omega arith

pub loop-count-smaller : goal.loop-count-smaller
loop-count-smaller c =
    let after = token-after c.next_token-name.ensures c.if-name_start-name_end.false in
    let within = (token-within c.next_token-name.ensures).1 in
    omega arith

pub loop-count-preserved : goal.loop-count-preserved
loop-count-preserved c =
    let low_some : c.read_integer-lowest.result ≡ no_integer → ⊥ = λ e. search rules in
    let high_some : c.read_integer-highest.result ≡ no_integer → ⊥ = λ e. search rules in
    let names = c.put_name.ensures in
    let ranges = c.put_range.ensures in
    sofar_step c.loop-count.invariant c.next_token-name.ensures c.next_token-low.ensures c.next_token-high.ensures c.if-name_start-name_end.false (sym c.is_name-named.ensures ∙ c.if-not-named.false) c.read_integer-lowest.ensures low_some c.read_integer-highest.ensures high_some c.is_err.ensures.value c.unwrap_or-least.ensures c.is_err-in-loop-count.ensures.value c.unwrap_or-most.ensures names.0 names.1 ranges.0 ranges.1 refl c.range_faulty-faulty.ensures
